use Rattle.std.proofs.Common.{arith, ◌≡◌, ◌<◌, ◌≤◌, inl, inr, ◌∙◌, sym, ap, refl, Some, None, length, suc, eq-or-lt_of_le}
use Rattle.std.proofs.Common.{slice_get, ◌+◌}
use Rattle.te_terms.proofs.Lists.{get_low}
use Rattle.te_terms.proofs.Lists.{get_at}
use Rattle.te_search.proofs.batched.has_later.Goals as goal

pub returns-then-p-q : goal.returns-then-p-q
returns-then-p-q c = (
  λ e. (
    c.places.i,
    c.in-Some.q,
    get_at c.args.joined.now c.places.i None c.places-test.true ∙ ap Some c.in-Some.is,
    c.if-p-q.true,
  ),
  λ h. refl,
)

pub places-preserved-in_default : goal.places-preserved-in_default
places-preserved-in_default c k m l e = elim (eq-or-lt_of_le (let a : suc k ≤ c.places.i + 1 = l in let b : k ≤ c.places.i = omega (arith, a) in b)) [
  | inl s ↦ (let n : Some None ≡ Some (Some m) = sym (get_at c.args.joined.now c.places.i None c.places-test.true ∙ ap Some c.in_default.is)
      ∙ ap (slice_get c.args.joined.now) (sym s) ∙ e in cc)
  | inr h ↦ c.places.invariant k m h e
]

pub places-preserved : goal.places-preserved
places-preserved c k m l e = elim (eq-or-lt_of_le (let a : suc k ≤ c.places.i + 1 = l in let b : k ≤ c.places.i = omega (arith, a) in b)) [
  | inl s ↦ (let n : Some (Some c.in-Some.q) ≡ Some (Some m) = sym (get_at c.args.joined.now c.places.i None c.places-test.true
      ∙ ap Some c.in-Some.is) ∙ ap (slice_get c.args.joined.now) (sym s) ∙ e in
      let one : c.in-Some.q ≡ m = cc in omega (arith, one, c.if-p-q.false))
  | inr h ↦ c.places.invariant k m h e
]

pub returns : goal.returns
returns c = (
  λ e. cc,
  λ h. absurd (let l : h.0 < length c.args.joined.now = get_low c.args.joined.now (Some h.1) h.0 h.2 in
      let s : h.0 < c.places.i = omega (arith, l, c.places-test.false) in
      let m : h.1 ≤ c.args.p = c.places.invariant h.0 h.1 s h.2 in omega (arith, m, h.3)),
)
