-- A core after one outcome more.
use Rattle.std.proofs.Common.{◌≡◌, List, [], ◌∷◌, ◌++◌, refl, sym, ap, ◌∙◌}
use Rattle.te_terms.specs.declared.event.Outcome.{Outcome}
use Rattle.te_script.specs.Wishes.{flat}
use Rattle.te_script.specs.Cores.{Stand, stand_at, moved, goes_by, At, core_after}

pub one_more : (s : Stand) (outs : List Outcome) (o : Outcome) → goes_by s (outs ++ o ∷ []) ≡ moved (goes_by s outs).emitted (goes_by s outs).next o
one_more s [] o = refl
one_more s (x ∷ xs) o = one_more (moved s.emitted s.next x) xs o

pub moved_after : (old new : At) (outs : List Outcome) (o : Outcome) → new ≡ record old { stand = moved old.stand.emitted old.stand.next o }
    → old ≡ core_after old.thread outs → new ≡ core_after old.thread (outs ++ o ∷ [])
moved_after old new outs o is after =
    let stand = ap (λ (a : At). moved a.stand.emitted a.stand.next o) after ∙ sym (one_more (stand_at (flat old.thread) []) outs o) in
    is ∙ (λ i. record { thread = old.thread; stand = stand i })
