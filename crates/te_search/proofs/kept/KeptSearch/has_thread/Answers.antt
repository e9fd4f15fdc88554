use Rattle.std.proofs.Common.{◌≡◌, inl, inr, ℕ, zero, suc, List, [], ◌∷◌, Some, slice_get, refl, ap, subst}
use Rattle.te_terms.specs.declared.event.Parked.{Parked}
use Rattle.te_search.specs.Findings.{HasThread}
use Rattle.te_search.specs.Stacks.{parked_of}
use Rattle.te_search.proofs.kept.KeptSearch.has_thread.Goals as goal

there : (parked : List Parked) (i : ℕ) (p : Parked) → slice_get parked i ≡ Some p → HasThread parked p.thread
there [] i p e = cc
there (q ∷ parked) zero p e = (let one : q ≡ p = cc in inl (ap (λ (k : Parked). k.thread) one))
there (q ∷ parked) (suc i) p e = inr (there parked i p e)

pub returns-in-Some-place : goal.returns-in-Some-place
returns-in-Some-place c =
    let h : HasThread c.in-Some.stack.parked c.args.thread = subst (HasThread c.in-Some.stack.parked)
    c.in-Some-place.ensures.of
    (there c.in-Some.stack.parked c.in-Some-place.field-0 c.in-Some-place.ensures.event c.in-Some-place.ensures.is) in
    let a : parked_of c.self.inside.stack ≡ c.in-Some.stack.parked = ap parked_of c.in-Some.is in
    let e : c.in-Some.stack.parked ≡ c.args.self.now = cc in
    ((λ _. subst (λ l. HasThread l c.args.thread) e h), (λ _. refl))
