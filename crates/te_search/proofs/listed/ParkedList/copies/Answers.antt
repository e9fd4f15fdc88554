use Rattle.std.proofs.Common.{arith, ◌≡◌, ◌++◌, ◌∷◌, [], ◌∙◌, ap, ap₂, sym, take, length, List}
use Rattle.te_terms.specs.declared.event.Parked.{Parked}
use Rattle.te_terms.specs.Terms.{Term}
use Rattle.te_trail.proofs.RecordsRead.{take_all}
use Rattle.te_search.proofs.NumbersListed.{take_one}
use Rattle.te_search.proofs.listed.ParkedList.copies.Goals as goal

one_more : (p : Parked) (l xs : List Parked) (e : Term) → l ≡ xs → e ≡ p.event
    → l ++ (record { thread = p.thread; ticket = p.ticket; event = e } ∷ []) ≡ xs ++ (p ∷ [])
one_more p l xs e a b = ap₂ (λ k (q : Parked). k ++ (q ∷ [])) a
    (ap {B = Parked} (λ t. record { thread = p.thread; ticket = p.ticket; event = t }) b)

pub parked-preserved : goal.parked-preserved
parked-preserved c = c.in_ok-push.ensures.items ∙ one_more c.at-one.result.now _ _ _ c.parked.invariant c.in_ok-event.ensures
    ∙ sym (take_one c.args.self.now c.parked.i c.at-one.result.now c.at-one.ensures)

pub returns : goal.returns
returns c =
    let end : c.parked.i ≡ length c.args.self.now = omega
    (arith, c.parked.auto.i-end, c.parked-test.false, c.len-i-end.ensures) in
    c.parked.invariant ∙ ap (λ i. take i c.args.self.now) end ∙ take_all c.args.self.now
