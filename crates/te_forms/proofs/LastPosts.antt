-- How the last post of a thread is found from the end.
use Rattle.std.proofs.Common.{◌≡◌, ℕ, zero, suc, ◌-◌, ◌<◌, List, [], ◌∷◌, ◌++◌, take, Option, Some, None, refl, sym, ap, ◌∙◌, arith}
use Rattle.std.specs.Prelude.{slice_get}
use Rattle.te_terms.specs.Terms.{Term}
use Rattle.te_history.specs.declared.entry.Entry.{Entry}
use Rattle.te_forms.specs.Reading.{posted_by, or_else, last_posted}

none_else : (o : Option Term) → or_else o None ≡ o
none_else (Some e) = refl
none_else None = refl

else_joined : (a b c : Option Term) → or_else (or_else a b) c ≡ or_else a (or_else b c)
else_joined (Some e) b c = refl
else_joined None b c = refl

last-append : (t : ℕ) (xs : List Entry) (e : Entry) → last_posted t (xs ++ e ∷ []) ≡ or_else (posted_by t e) (last_posted t xs)
last-append t [] e = sym (none_else (posted_by t e))
last-append t (x ∷ xs) e =
    ap (λ (o : Option Term). or_else o (posted_by t x)) (last-append t xs e) ∙ else_joined (posted_by t e) (last_posted t xs) (posted_by t x)

take_one : (xs : List Entry) (k : ℕ) (x : Entry) → slice_get xs k ≡ Some x → take (suc k) xs ≡ take k xs ++ x ∷ []
take_one [] k x at = absurd cc
take_one (y ∷ ys) zero x at = let same : y ≡ x = cc in ap (λ (z : Entry). z ∷ []) same
take_one (y ∷ ys) (suc k) x at = ap (λ (zs : List Entry). y ∷ zs) (take_one ys k x at)

last_one : (t : ℕ) (es : List Entry) (j : ℕ) (e : Entry) → 0 < j → slice_get es (j - 1) ≡ Some e → last_posted t (take j es) ≡ or_else (posted_by t e) (last_posted t (take (j - 1) es))
last_one t es zero e some at = absurd (omega (arith, some))
last_one t es (suc k) e some at =
    let one : suc k - 1 ≡ k = omega arith in
    let there : slice_get es k ≡ Some e = ap (slice_get es) (sym one) ∙ at in
    ap (last_posted t) (take_one es k e there) ∙ last-append t (take k es) e ∙ ap (λ (n : ℕ). or_else (posted_by t e) (last_posted t (take n es))) (sym one)

pub found_there : (t : ℕ) (es : List Entry) (j : ℕ) (e : Entry) (x : Term) → 0 < j → slice_get es (j - 1) ≡ Some e → Some x ≡ posted_by t e → Some x ≡ last_posted t (take j es)
found_there t es j e x some at posts = sym (last_one t es j e some at ∙ ap (λ (o : Option Term). or_else o (last_posted t (take (j - 1) es))) (sym posts))

pub not_there : (t : ℕ) (es : List Entry) (j : ℕ) (e : Entry) → 0 < j → slice_get es (j - 1) ≡ Some e → None ≡ posted_by t e
    → last_posted t (take j es) ≡ last_posted t (take (j - 1) es)
not_there t es j e some at posts = last_one t es j e some at ∙ ap (λ (o : Option Term). or_else o (last_posted t (take (j - 1) es))) (sym posts)
