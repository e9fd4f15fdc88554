use Rattle.std.proofs.Common.{ap, Option, Some, None, ◌≡◌, ℕ}
use Rattle.te_trail.specs.Records.{parent_number}
use Rattle.te_trail.proofs.Ancestors.{parent_known}
use Rattle.te_trail.proofs.store.TrailStore.parent.Goals as goal

pub returns-in-Root : goal.returns-in-Root
returns-in-Root c = parent_known _ _ _ _ _ _ c.self.invariant.kept.fit
    (ap (λ t. t.paths) c.self.view_is) c.requires c.index-record.ensures
    (ap (λ l. parent_number l c.index-record.result.now.parent) c.in-Root.is)

pub returns-in-Left : goal.returns-in-Left
returns-in-Left c = parent_known _ _ _ _ _ _ c.self.invariant.kept.fit
    (ap (λ t. t.paths) c.self.view_is) c.requires c.index-record.ensures
    (ap (λ l. parent_number l c.index-record.result.now.parent) c.in-Left.is)

pub returns-in-Right : goal.returns-in-Right
returns-in-Right c = parent_known _ _ _ _ _ _ c.self.invariant.kept.fit
    (ap (λ t. t.paths) c.self.view_is) c.requires c.index-record.ensures
    (ap (λ l. parent_number l c.index-record.result.now.parent) c.in-Right.is)

pub returns-in-Sender : goal.returns-in-Sender
returns-in-Sender c = parent_known _ _ _ _ _ _ c.self.invariant.kept.fit
    (ap (λ t. t.paths) c.self.view_is) c.requires c.index-record.ensures
    (ap (λ l. parent_number l c.index-record.result.now.parent) c.in-Sender.is)

pub returns-in-Receiver : goal.returns-in-Receiver
returns-in-Receiver c = parent_known _ _ _ _ _ _ c.self.invariant.kept.fit
    (ap (λ t. t.paths) c.self.view_is) c.requires c.index-record.ensures
    (ap (λ l. parent_number l c.index-record.result.now.parent) c.in-Receiver.is)
