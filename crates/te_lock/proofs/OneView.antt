-- One view of many is changed.
use Rattle.std.proofs.Common.{◌≡◌, ◌≢◌, ℕ, zero, suc, List, [], ◌∷◌, ◌++◌, length, set, refl, sym, ap, ◌∙◌, subst, ⊎_elim}
use mathlib.Core.Option.{some, some-ne-none, some-injective}
use mathlib.Core.Logic.{dite}
use native.Mathlib.Decide.{ℕ_discrete}
use lib.ListN.{get_elem?}
use Rattle.atomic_table.proofs.Lists.{at_set, set_else}

module _ {A : Type 0} where
  -- what stands at the place that is written
  pub set_at : (views : List A) (id : ℕ) (v w : A) → get_elem? views id ≡ some v → get_elem? (set views id w) id ≡ some w
  set_at [] id v w e = absurd (some-ne-none v (sym e))
  set_at (x ∷ xs) zero v w e = refl
  set_at (x ∷ xs) (suc id) v w e = set_at xs id v w e

  -- a place has one view
  pub one_at : (views : List A) (i : ℕ) (v u : A) → get_elem? views i ≡ some v → get_elem? views i ≡ some u → v ≡ u
  one_at views i v u e f = some-injective v u (sym e ∙ f)

  -- a fact of each view, after one is changed
  pub each_set : (P : ℕ → A → Type 0) (views : List A) (id : ℕ) (w : A) → ((i : ℕ) (v : A) → i ≢ id → get_elem? views i ≡ some v → P i v) → P id w
      → (i : ℕ) (v : A) → get_elem? (set views id w) i ≡ some v → P i v
  each_set P views id w others here i v e =
      ⊎_elim
      (λ (t : (i ≡ id) × (w ≡ v)). subst (λ (x : ℕ × A). P x.0 x.1) (λ k. (sym t.0 k, t.1 k)) here)
      (λ (t : (i ≢ id) × (get_elem? views i ≡ some v)). others i v t.0 t.1)
      (at_set views id i w v e)

  -- a view of which P holds still stands at its place, where the change keeps P
  pub still_there : (P : A → Type 0) (views : List A) (id : ℕ) (v w : A) → get_elem? views id ≡ some v → (P v → P w)
      → (i : ℕ) (u : A) → get_elem? views i ≡ some u → P u → (x : A) × (get_elem? (set views id w) i ≡ some x) × P x
  still_there P views id v w at keeps i u e holds =
      dite
      (ℕ_discrete i id)
      (λ (same : i ≡ id).
      let here : get_elem? views id ≡ some u = ap (λ k. get_elem? views k) (sym same) ∙ e in
      (w, ap (λ k. get_elem? (set views id w) k) same ∙ set_at views id v w at, keeps (subst P (one_at views id u v here at) holds)))
      (λ (apart : i ≢ id). (u, set_else views id i w apart ∙ e, holds))

  -- and stood there before, where the change brings no P
  pub was_there : (P : A → Type 0) (views : List A) (id : ℕ) (v w : A) → get_elem? views id ≡ some v → (P w → P v)
      → (i : ℕ) (u : A) → get_elem? (set views id w) i ≡ some u → P u → (x : A) × (get_elem? views i ≡ some x) × P x
  was_there P views id v w at back =
      each_set
      (λ i u. P u → (x : A) × (get_elem? views i ≡ some x) × P x)
      views
      id
      w
      (λ i u _ e holds. (u, e, holds))
      (λ holds. (v, at, back holds))

  -- a fact of each view, after one more was added
  pub each_added : (P : ℕ → A → Type 0) (views : List A) (w : A) → ((i : ℕ) (v : A) → get_elem? views i ≡ some v → P i v) → P (length views) w
      → (i : ℕ) (v : A) → get_elem? (views ++ w ∷ []) i ≡ some v → P i v
  each_added P [] w old new zero v e = subst (P 0) (some-injective w v e) new
  each_added P [] w old new (suc i) v e = absurd (some-ne-none v (sym e))
  each_added P (x ∷ xs) w old new zero v e = old 0 v e
  each_added P (x ∷ xs) w old new (suc i) v e = each_added (λ j u. P (suc j) u) xs w (λ j u f. old (suc j) u f) new i v e
