-- The parts of events, lent one after another.
use Rattle.std.proofs.Common.{◌≡◌, ℕ, zero, suc, ◌+◌, ◌<◌, List, [], ◌∷◌, ◌++◌, length, get_or, take, refl, sym, ap, ◌∙◌, add-one}
use Rattle.std.proofs.Math.Seq.{take-suc}
use Rattle.te_terms.specs.Terms.{Term}
use Rattle.te_cert.specs.declared.lent.Lent.{Lent}
use Rattle.te_cert.specs.Lending.{lent_term, lent_terms, IsLent, AreLent}

terms_behind : (ls : List Lent) (l : Lent) → lent_terms (ls ++ l ∷ []) ≡ lent_terms ls ++ lent_term l ∷ []
terms_behind [] l = refl
terms_behind (k ∷ ls) l = ap (λ ts. lent_term k ∷ ts) (terms_behind ls l)

pub terms_more : (ls : List Lent) (l : Lent) (es : List Term) (i : ℕ) (e : Term) → i < length es → e ≡ get_or es i e → lent_terms ls ≡ take i es
    → lent_term l ≡ e → lent_terms (ls ++ l ∷ []) ≡ take (i + 1) es
terms_more ls l es i e within is so_far one =
    terms_behind ls l ∙ ap (λ ts. ts ++ lent_term l ∷ []) so_far ∙ ap (λ t. take i es ++ t ∷ []) (one ∙ is) ∙ sym (take-suc es i e within) ∙ ap (λ k. take k es) (sym (add-one i))

pub lent_more : (ls : List Lent) (l : Lent) → AreLent ls → IsLent l → AreLent (ls ++ l ∷ [])
lent_more [] l are one zero x e = let is : l ≡ x = cc in rw (← is) one
lent_more [] l are one (suc i) x e = absurd cc
lent_more (k ∷ ls) l are one zero x e = are zero x e
lent_more (k ∷ ls) l are one (suc i) x e = lent_more ls l (λ j y p. are (suc j) y p) one i x e
