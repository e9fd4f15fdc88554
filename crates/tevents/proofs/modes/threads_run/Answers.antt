-- The answer to the bytes that were read decides how the call ends.
use Rattle.std.proofs.Common.{inl, inr, refl}
use Rattle.tevents.specs.Runs.{in_threads}
use Rattle.tevents.proofs.CallsEnded.{ended_statuses, ended_told, ended_whole, ended_line, ended_silent, ended_failed, ended_cut}
use Rattle.tevents.specs.declared.task.Task.TheVariants as tasks
use Rattle.tevents.proofs.modes.threads_run.Goals as goal

pub returns-in-Ok-answer_by_threads-clause-statuses : goal.returns-in-Ok-answer_by_threads-clause-statuses
returns-in-Ok-answer_by_threads-clause-statuses g c = ended_statuses in_threads (tasks.Run c.args.budget) 1048576 c.in-Ok.bytes
    c.in-Ok-answer_by_threads.told.text c.in-Ok-answer_by_threads.told.status c.write.result _ _ _ _ _ refl
    (rw c.as_slice.ensures at c.in-Ok-answer_by_threads.ensures) c.in-Ok.ensures.first c.in-Ok.ensures.whole c.write.ensures.whole c.write.ensures.failed

pub returns-in-Ok-answer_by_threads-clause-told : goal.returns-in-Ok-answer_by_threads-clause-told
returns-in-Ok-answer_by_threads-clause-told g c = ended_told in_threads (tasks.Run c.args.budget) 1048576 c.in-Ok.bytes
    c.in-Ok-answer_by_threads.told.text c.in-Ok-answer_by_threads.told.status c.write.result _ _ _ _ _ refl
    (rw c.as_slice.ensures at c.in-Ok-answer_by_threads.ensures) c.in-Ok.ensures.first c.in-Ok.ensures.whole c.write.ensures.whole c.write.ensures.failed

pub returns-in-Ok-answer_by_threads-clause-read_to_the_end : goal.returns-in-Ok-answer_by_threads-clause-read_to_the_end
returns-in-Ok-answer_by_threads-clause-read_to_the_end g c = ended_whole in_threads (tasks.Run c.args.budget) 1048576 c.in-Ok.bytes
    c.in-Ok-answer_by_threads.told.text c.in-Ok-answer_by_threads.told.status c.write.result _ _ _ _ _ refl
    (rw c.as_slice.ensures at c.in-Ok-answer_by_threads.ensures) c.in-Ok.ensures.first c.in-Ok.ensures.whole c.write.ensures.whole c.write.ensures.failed

pub returns-in-Ok-answer_by_threads-clause-line : goal.returns-in-Ok-answer_by_threads-clause-line
returns-in-Ok-answer_by_threads-clause-line g c = ended_line in_threads (tasks.Run c.args.budget) 1048576 c.in-Ok.bytes
    c.in-Ok-answer_by_threads.told.text c.in-Ok-answer_by_threads.told.status c.write.result _ _ _ _ _ refl
    (rw c.as_slice.ensures at c.in-Ok-answer_by_threads.ensures) c.in-Ok.ensures.first c.in-Ok.ensures.whole c.write.ensures.whole c.write.ensures.failed

pub returns-in-Ok-answer_by_threads-clause-unwritten : goal.returns-in-Ok-answer_by_threads-clause-unwritten
returns-in-Ok-answer_by_threads-clause-unwritten g c = λ silent. absurd (ended_silent in_threads (tasks.Run c.args.budget) 1048576 c.in-Ok.bytes
    c.in-Ok-answer_by_threads.told.text c.in-Ok-answer_by_threads.told.status c.write.result _ _ _ _ _ refl
    (rw c.as_slice.ensures at c.in-Ok-answer_by_threads.ensures) c.in-Ok.ensures.first c.in-Ok.ensures.whole c.write.ensures.whole c.write.ensures.failed silent)

pub returns-in-Ok-answer_by_threads-clause-known : goal.returns-in-Ok-answer_by_threads-clause-known
returns-in-Ok-answer_by_threads-clause-known g c = λ two. ended_silent in_threads (tasks.Run c.args.budget) 1048576 c.in-Ok.bytes
    c.in-Ok-answer_by_threads.told.text c.in-Ok-answer_by_threads.told.status c.write.result _ _ _ _ _ refl
    (rw c.as_slice.ensures at c.in-Ok-answer_by_threads.ensures) c.in-Ok.ensures.first c.in-Ok.ensures.whole c.write.ensures.whole c.write.ensures.failed (inl two)

pub returns-in-Ok-answer_by_threads-clause-source_failed : goal.returns-in-Ok-answer_by_threads-clause-source_failed
returns-in-Ok-answer_by_threads-clause-source_failed g c = λ three. absurd (ended_silent in_threads (tasks.Run c.args.budget) 1048576 c.in-Ok.bytes
    c.in-Ok-answer_by_threads.told.text c.in-Ok-answer_by_threads.told.status c.write.result _ _ _ _ _ refl
    (rw c.as_slice.ensures at c.in-Ok-answer_by_threads.ensures) c.in-Ok.ensures.first c.in-Ok.ensures.whole c.write.ensures.whole c.write.ensures.failed (inr (inl three)))

pub returns-in-Ok-answer_by_threads-clause-sink_failed : goal.returns-in-Ok-answer_by_threads-clause-sink_failed
returns-in-Ok-answer_by_threads-clause-sink_failed g c = ended_failed in_threads (tasks.Run c.args.budget) 1048576 c.in-Ok.bytes
    c.in-Ok-answer_by_threads.told.text c.in-Ok-answer_by_threads.told.status c.write.result _ _ _ _ _ refl
    (rw c.as_slice.ensures at c.in-Ok-answer_by_threads.ensures) c.in-Ok.ensures.first c.in-Ok.ensures.whole c.write.ensures.whole c.write.ensures.failed

pub returns-in-Ok-answer_by_threads-clause-cut_short : goal.returns-in-Ok-answer_by_threads-clause-cut_short
returns-in-Ok-answer_by_threads-clause-cut_short g c = ended_cut in_threads (tasks.Run c.args.budget) 1048576 c.in-Ok.bytes
    c.in-Ok-answer_by_threads.told.text c.in-Ok-answer_by_threads.told.status c.write.result _ _ _ _ _ refl
    (rw c.as_slice.ensures at c.in-Ok-answer_by_threads.ensures) c.in-Ok.ensures.first c.in-Ok.ensures.whole c.write.ensures.whole c.write.ensures.failed
