use Rattle.te_runtime.proofs.NewsTold.{news_called, news_read, news_refused, news_own}
use Rattle.te_runtime.proofs.runtime.TeRuntime.news.Goals as goal

pub returns-clause-own : goal.returns-clause-own
returns-clause-own c = news_own c.in_ok-board.ensures.ok c.exit.ensures

pub returns-clause-ok : goal.returns-clause-ok
returns-clause-ok c = news_called c.in_ok-board.ensures.ok c.exit.ensures c.tell-news.result

pub returns-clause-entries : goal.returns-clause-entries
returns-clause-entries c = news_read c.in_ok-board.ensures.ok c.exit.ensures c.args.from c.tell-news.result c.tell-news.ensures.ok

pub returns-clause-refused : goal.returns-clause-refused
returns-clause-refused c = news_refused c.in_ok-board.ensures.ok c.exit.ensures c.tell-news.result c.tell-news.ensures.cause
