use Rattle.std.proofs.Common.{◌≡◌, subst, Bool, true, false, refl}
use Rattle.te_trail.specs.Trails.{IsStop}
use Rattle.te_pair.specs.declared.end.End.{End}
use Rattle.te_pair.proofs.EndsTold.{OnlyStop, Seen, send_told, receive_told, only_send, only_receive, some_end}
use Rattle.te_pair.proofs.end.end_of.Goals as goal

pub unreachable-requires : goal.unreachable-requires
unreachable-requires c = by (some_end c.args.store.now c.args.p c.stop.result c.requires.path c.requires.stands c.stop.ensures.told c.stop.ensures.only)
  where
    side : (e : End) (s : Bool) → e.sends ≡ s → Seen e c.stop.result → ⊥
    side e true is h = c.in_default.not-Send e.channel (h.sends is).0 (h.sends is).1
    side e false is h = c.in_default.not-Recv e.channel (h.receives is)

    by : (e : End) × (e.path ≡ c.args.p) × Seen e c.stop.result → ⊥
    by (e, is, h) = side e e.sends refl h

pub returns-in-Send-clause-is : goal.returns-in-Send-clause-is
returns-in-Send-clause-is c = send_told c.args.store.now c.args.p c.in-Send.channel c.in-Send.field-1 c.requires.path (subst (IsStop c.args.store.now c.args.p) c.in-Send.is c.stop.ensures.told)

pub returns-in-Send-clause-only : goal.returns-in-Send-clause-only
returns-in-Send-clause-only c = only_send c.args.store.now c.args.p c.in-Send.channel c.in-Send.field-1 (subst (OnlyStop c.args.store.now c.args.p) c.in-Send.is c.stop.ensures.only)

pub returns-in-Recv-clause-is : goal.returns-in-Recv-clause-is
returns-in-Recv-clause-is c = receive_told c.args.store.now c.args.p c.in-Recv.channel c.requires.path (subst (IsStop c.args.store.now c.args.p) c.in-Recv.is c.stop.ensures.told)

pub returns-in-Recv-clause-only : goal.returns-in-Recv-clause-only
returns-in-Recv-clause-only c = only_receive c.args.store.now c.args.p c.in-Recv.channel (subst (OnlyStop c.args.store.now c.args.p) c.in-Recv.is c.stop.ensures.only)
