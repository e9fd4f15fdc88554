-- A check accepts each certificate in order whose play gives outcomes.
use Rattle.std.proofs.Common.{◌≡◌, ◌⊎◌, inl, inr, suc, List, [], ◌∷◌, length, map, Result, Ok, Err, refl, sym, ap, subst, ◌∙◌, arith}
use Rattle.te_terms.specs.declared.event.Outcome.{Outcome}
use Rattle.te_terms.specs.Terms.{Term}
use Rattle.te_cert.specs.declared.cert.Member.{Member}
use Rattle.te_cert.specs.declared.cert.CertFault.{CertFault}
use Rattle.te_cert.specs.declared.cert.CertFault.TheVariants as faults
use Rattle.te_cert.specs.Certificates.{Certificate}
use Rattle.te_cert.specs.Play.{Played}
use Rattle.te_cert.specs.Checks.{IsChecked, group_of, HasOrder, Gives, AreBetween}
use Rattle.te_cert.proofs.Checked.{is_group}
use Rattle.te_cert.proofs.MeetingsBetween.{play_between}

many_in_group : (ms : List Member) (es : List Term) → length ms ≡ length es → length (group_of ms es) ≡ length ms
many_in_group [] es many = refl
many_in_group (m ∷ ms) [] many = absurd cc
many_in_group (m ∷ ms) (e ∷ es) many = ap suc (many_in_group ms es (omega (arith, many)))

-- the meetings of such a play are between members
between : (cert : Certificate) (es : List Term) (os : List Outcome) → length cert.members ≡ length es → HasOrder cert → Gives cert es os → AreBetween (length cert.members) cert.meets
between cert es os many order gives =
    subst (λ n. AreBetween n cert.meets) (many_in_group cert.members es many)
    (play_between (group_of cert.members es) (map (λ m. m.choices) cert.members) cert.meets (record { outcomes = os; word = gives.word })
    (is_group cert.members es order.rise) gives.plays)

pub accepted : (cert : Certificate) (es : List Term) (os : List Outcome) (r : Result (List Outcome) CertFault) → length cert.members ≡ length es →
    IsChecked cert es r → HasOrder cert → Gives cert es os → (r ≡ Ok os) ⊎ (r ≡ Err faults.Memory)
accepted cert es os (Ok given) many checked order gives =
    let mine : Played = record { outcomes = given; word = checked.1.word } in
    let theirs : Played = record { outcomes = os; word = gives.word } in
    let same = sym checked.1.plays ∙ gives.plays in
    let so : mine ≡ theirs = cc in
    inl (ap (λ x. Ok x.outcomes) so)
accepted cert es os (Err faults.Empty) many checked order gives = absurd (order.some_member checked)
accepted cert es os (Err faults.Order) many checked order gives = absurd (checked.1 order.rise)
accepted cert es os (Err (faults.Index j)) many checked order gives =
    absurd (checked.1.astray (between cert es os many order gives j checked.1.meeting checked.1.is_there))
accepted cert es os (Err (faults.Meet j)) many checked order gives = let first = checked.1 in let so = gives.plays in absurd cc
accepted cert es os (Err (faults.Choices i)) many checked order gives =
    let so = gives.plays in
    elim checked.1 [ inl first ↦ absurd cc | inr first ↦ absurd cc ]
accepted cert es os (Err (faults.Unfinished i)) many checked order gives = let first = checked.1 in let so = gives.plays in absurd cc
accepted cert es os (Err faults.Memory) many checked order gives = inr refl
