use Rattle.std.proofs.Common.{◌≡◌, ◌≤◌, ℕ, [], subst}
use Rattle.te_lock.specs.Entries.{entries_by}
use Rattle.te_lock.specs.Rule.{Sees}
use Rattle.te_lock.proofs.Gathering.{last_slot}
use Rattle.te_lock.proofs.closing.take_last.Goals as goal

pub unreachable-requires : goal.unreachable-requires
unreachable-requires g c =
    let last = last_slot g.V.Kept.entries g.V.Kept.members g.V.Kept.author g.V.Kept.lawful c.args.table.shared.key c.args.seat.id c.args.seat.me.0 _ _
    c.take-slot.result c.close_with-closed.ensures.values.2 c.requires.idle c.requires.everyone c.take-slot.ensures.value in
    let is = last.is in
    absurd (cc (is, c.in-None.is))

pub returns-clause-number : goal.returns-clause-number
returns-clause-number g c =
    let last = last_slot g.V.Kept.entries g.V.Kept.members g.V.Kept.author g.V.Kept.lawful c.args.table.shared.key c.args.seat.id c.args.seat.me.0 _ _
    c.take-slot.result c.close_with-closed.ensures.values.2 c.requires.idle c.requires.everyone c.take-slot.ensures.value in
    let value : last.value ≡ c.in-Some.value = cc (last.is, c.in-Some.is) in
    subst (λ x. g.V.Kept.members x ≡ c.args.table.shared.key) value last.number

pub returns-clause-law : goal.returns-clause-law
returns-clause-law g c =
    let last = last_slot g.V.Kept.entries g.V.Kept.members g.V.Kept.author g.V.Kept.lawful c.args.table.shared.key c.args.seat.id c.args.seat.me.0 _ _
    c.take-slot.result c.close_with-closed.ensures.values.2 c.requires.idle c.requires.everyone c.take-slot.ensures.value in
    let value : last.value ≡ c.in-Some.value = cc (last.is, c.in-Some.is) in
    subst (λ x. g.V.Kept.lawful c.args.table.shared.key (g.V.Kept.entries x)) value last.law

pub returns-clause-sees : goal.returns-clause-sees
returns-clause-sees g c =
    let last = last_slot g.V.Kept.entries g.V.Kept.members g.V.Kept.author g.V.Kept.lawful c.args.table.shared.key c.args.seat.id c.args.seat.me.0 _ _
    c.take-slot.result c.close_with-closed.ensures.values.2 c.requires.idle c.requires.everyone c.take-slot.ensures.value in
    let value : last.value ≡ c.in-Some.value = cc (last.is, c.in-Some.is) in
    subst (λ x. Sees g.V.Kept.author (g.V.Kept.entries x) c.args.seat.me.0) value last.sees

pub returns-clause-unmade : goal.returns-clause-unmade
returns-clause-unmade g c =
    let last = last_slot g.V.Kept.entries g.V.Kept.members g.V.Kept.author g.V.Kept.lawful c.args.table.shared.key c.args.seat.id c.args.seat.me.0 _ _
    c.take-slot.result c.close_with-closed.ensures.values.2 c.requires.idle c.requires.everyone c.take-slot.ensures.value in
    let value : last.value ≡ c.in-Some.value = cc (last.is, c.in-Some.is) in
    subst (λ x. (k : ℕ) → c.args.table.shared.key ≤ k → entries_by g.V.Kept.author k (g.V.Kept.entries x) ≡ []) value last.unmade
