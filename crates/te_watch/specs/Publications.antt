-- What is left of the publisher's pass where nothing was published. This project's own.
use Rattle.std.specs.Prelude.{[]}
use Rattle.te_lock.specs.Lock.{Knowledge}
use Rattle.te_history.specs.declared.entry.Entry.{Entry}
use Rattle.te_runtime.specs.declared.fault.SyncFault.{SyncFault}
use Rattle.te_runtime.specs.declared.fault.SyncFault.TheVariants as sync
use Rattle.te_runtime.specs.Calls.{Called, FoundHeld}
use Rattle.te_watch.specs.declared.fault.PublishFault.{PublishFault}
use Rattle.te_watch.specs.declared.fault.PublishFault.TheVariants as faults

-- another caller had the turn, or there was no memory for what was read
abbrev pub RefusesPublish : Knowledge Entry → Knowledge Entry → PublishFault → Type 0
RefusesPublish before after (faults.Busy word) = FoundHeld before after word
RefusesPublish before after faults.Memory = Called before after []

-- how a refusal of the news is told
abbrev pub as_publish : SyncFault → PublishFault
as_publish (sync.Busy word) = faults.Busy word
as_publish _ = faults.Memory
