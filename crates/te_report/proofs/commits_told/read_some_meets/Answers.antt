use Rattle.te_report.specs.Sayings.{said_meeting}
use Rattle.te_report.proofs.Cuts.{word_done, words_done, few_told}
use Rattle.te_report.proofs.commits_told.read_some_meets.Goals as goal

pub words-preserved : goal.words-preserved
words-preserved c =
    word_done (said_meeting c.args.called.now c.args.members.now) c.words.meets c.push.new.self c.read_meeting.result 32 c.words.rest.now c.cut.result.0.now c.cut.result.1.now c.is_empty.result
    c.is_empty.ensures c.words-test.true c.cut.ensures.front c.cut.ensures.back c.read_meeting.ensures c.in_ok-push.ensures.ok _ c.words.invariant

pub returns-clause-value : goal.returns-clause-value
returns-clause-value c = words_done (said_meeting c.args.called.now c.args.members.now) c.words.meets 32 c.words.rest.now c.is_empty.result c.is_empty.ensures c.words-test.false _ c.words.invariant

pub returns-clause-few : goal.returns-clause-few
returns-clause-few c =
    few_told (said_meeting c.args.called.now c.args.members.now) 32 c.args.text.now c.words.meets
    (words_done (said_meeting c.args.called.now c.args.members.now) c.words.meets 32 c.words.rest.now c.is_empty.result c.is_empty.ensures c.words-test.false _ c.words.invariant)
