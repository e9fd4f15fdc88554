use Rattle.te_runtime.specs.Refusals.{RefusesNews}
use Rattle.te_tests_watch.proofs.PassesGrow.{news_grow}
use Rattle.te_tests_watch.proofs.calls.news.Goals as goal

pub returns-clause-grows : goal.returns-clause-grows
returns-clause-grows c =
    news_grow c.args.pass.now c.news.new.pass (λ _ _ fault. RefusesNews fault) c.news.result c.news.ensures.ok c.news.ensures.refused
