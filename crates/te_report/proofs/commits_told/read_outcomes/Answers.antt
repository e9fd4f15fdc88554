use Rattle.te_report.specs.Sayings.{said_gets}
use Rattle.te_report.proofs.Cuts.{word_done, words_done}
use Rattle.te_report.proofs.commits_told.read_outcomes.Goals as goal

pub words-preserved : goal.words-preserved
words-preserved c =
    word_done (said_gets c.args.called.now) c.words.outcomes c.push.new.self c.read_gets.result 32 c.words.rest.now c.cut.result.0.now c.cut.result.1.now c.is_empty.result
    c.is_empty.ensures c.words-test.true c.cut.ensures.front c.cut.ensures.back c.read_gets.ensures c.in_ok-push.ensures.ok _ c.words.invariant

pub returns : goal.returns
returns c = words_done (said_gets c.args.called.now) c.words.outcomes 32 c.words.rest.now c.is_empty.result c.is_empty.ensures c.words-test.false _ c.words.invariant
