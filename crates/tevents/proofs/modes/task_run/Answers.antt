-- The answer to the bytes that were read decides how the call ends.
use Rattle.std.proofs.Common.{inl, inr}
use Rattle.tevents.specs.Runs.{in_rounds}
use Rattle.tevents.proofs.CallsEnded.{ended_statuses, ended_told, ended_whole, ended_line, ended_silent, ended_failed, ended_cut}
use Rattle.tevents.proofs.modes.task_run.Goals as goal

pub returns-in-Ok-answer-clause-statuses : goal.returns-in-Ok-answer-clause-statuses
returns-in-Ok-answer-clause-statuses g c = ended_statuses in_rounds c.args.task c.most.result c.in-Ok.bytes
    c.in-Ok-answer.told.text c.in-Ok-answer.told.status c.write.result _ _ _ _ _ c.most.ensures
    (rw c.as_slice.ensures at c.in-Ok-answer.ensures) c.in-Ok.ensures.first c.in-Ok.ensures.whole c.write.ensures.whole c.write.ensures.failed

pub returns-in-Ok-answer-clause-told : goal.returns-in-Ok-answer-clause-told
returns-in-Ok-answer-clause-told g c = ended_told in_rounds c.args.task c.most.result c.in-Ok.bytes
    c.in-Ok-answer.told.text c.in-Ok-answer.told.status c.write.result _ _ _ _ _ c.most.ensures
    (rw c.as_slice.ensures at c.in-Ok-answer.ensures) c.in-Ok.ensures.first c.in-Ok.ensures.whole c.write.ensures.whole c.write.ensures.failed

pub returns-in-Ok-answer-clause-read_to_the_end : goal.returns-in-Ok-answer-clause-read_to_the_end
returns-in-Ok-answer-clause-read_to_the_end g c = ended_whole in_rounds c.args.task c.most.result c.in-Ok.bytes
    c.in-Ok-answer.told.text c.in-Ok-answer.told.status c.write.result _ _ _ _ _ c.most.ensures
    (rw c.as_slice.ensures at c.in-Ok-answer.ensures) c.in-Ok.ensures.first c.in-Ok.ensures.whole c.write.ensures.whole c.write.ensures.failed

pub returns-in-Ok-answer-clause-line : goal.returns-in-Ok-answer-clause-line
returns-in-Ok-answer-clause-line g c = ended_line in_rounds c.args.task c.most.result c.in-Ok.bytes
    c.in-Ok-answer.told.text c.in-Ok-answer.told.status c.write.result _ _ _ _ _ c.most.ensures
    (rw c.as_slice.ensures at c.in-Ok-answer.ensures) c.in-Ok.ensures.first c.in-Ok.ensures.whole c.write.ensures.whole c.write.ensures.failed

pub returns-in-Ok-answer-clause-unwritten : goal.returns-in-Ok-answer-clause-unwritten
returns-in-Ok-answer-clause-unwritten g c = λ silent. absurd (ended_silent in_rounds c.args.task c.most.result c.in-Ok.bytes
    c.in-Ok-answer.told.text c.in-Ok-answer.told.status c.write.result _ _ _ _ _ c.most.ensures
    (rw c.as_slice.ensures at c.in-Ok-answer.ensures) c.in-Ok.ensures.first c.in-Ok.ensures.whole c.write.ensures.whole c.write.ensures.failed silent)

pub returns-in-Ok-answer-clause-known : goal.returns-in-Ok-answer-clause-known
returns-in-Ok-answer-clause-known g c = λ two. ended_silent in_rounds c.args.task c.most.result c.in-Ok.bytes
    c.in-Ok-answer.told.text c.in-Ok-answer.told.status c.write.result _ _ _ _ _ c.most.ensures
    (rw c.as_slice.ensures at c.in-Ok-answer.ensures) c.in-Ok.ensures.first c.in-Ok.ensures.whole c.write.ensures.whole c.write.ensures.failed (inl two)

pub returns-in-Ok-answer-clause-source_failed : goal.returns-in-Ok-answer-clause-source_failed
returns-in-Ok-answer-clause-source_failed g c = λ three. absurd (ended_silent in_rounds c.args.task c.most.result c.in-Ok.bytes
    c.in-Ok-answer.told.text c.in-Ok-answer.told.status c.write.result _ _ _ _ _ c.most.ensures
    (rw c.as_slice.ensures at c.in-Ok-answer.ensures) c.in-Ok.ensures.first c.in-Ok.ensures.whole c.write.ensures.whole c.write.ensures.failed (inr (inl three)))

pub returns-in-Ok-answer-clause-sink_failed : goal.returns-in-Ok-answer-clause-sink_failed
returns-in-Ok-answer-clause-sink_failed g c = ended_failed in_rounds c.args.task c.most.result c.in-Ok.bytes
    c.in-Ok-answer.told.text c.in-Ok-answer.told.status c.write.result _ _ _ _ _ c.most.ensures
    (rw c.as_slice.ensures at c.in-Ok-answer.ensures) c.in-Ok.ensures.first c.in-Ok.ensures.whole c.write.ensures.whole c.write.ensures.failed

pub returns-in-Ok-answer-clause-cut_short : goal.returns-in-Ok-answer-clause-cut_short
returns-in-Ok-answer-clause-cut_short g c = ended_cut in_rounds c.args.task c.most.result c.in-Ok.bytes
    c.in-Ok-answer.told.text c.in-Ok-answer.told.status c.write.result _ _ _ _ _ c.most.ensures
    (rw c.as_slice.ensures at c.in-Ok-answer.ensures) c.in-Ok.ensures.first c.in-Ok.ensures.whole c.write.ensures.whole c.write.ensures.failed
