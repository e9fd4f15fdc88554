use Rattle.te_report.specs.Sayings.{said_value}
use Rattle.te_report.proofs.Cuts.{word_done, words_done}
use Rattle.te_report.proofs.values_told.read_values.Goals as goal

pub words-preserved : goal.words-preserved
words-preserved c =
    word_done (said_value c.args.called.now) c.words.values c.push.new.self c.read_value.result 32 c.words.rest.now c.cut.result.0.now c.cut.result.1.now c.is_empty.result
    c.is_empty.ensures c.words-test.true c.cut.ensures.front c.cut.ensures.back c.read_value.ensures c.in_ok-push.ensures.ok _ c.words.invariant

pub returns : goal.returns
returns c = words_done (said_value c.args.called.now) c.words.values 32 c.words.rest.now c.is_empty.result c.is_empty.ensures c.words-test.false _ c.words.invariant
