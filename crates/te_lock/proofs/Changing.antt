-- What holds of all views together, after one is changed or one is added.
use Rattle.std.proofs.Common.{◌≡◌, ◌≢◌, ◌⊎◌, inl, inr, ℕ, ◌+◌, ◌<◌, ◌≤◌, true, false, true≢false, List, [], ◌∷◌, ◌++◌, length, set, Option, refl, sym, ◌∙◌, subst, ⊎_elim, arith}
use mathlib.Core.Option.{some}
use lib.ListN.{get_elem?}
use Rattle.atomic_table.specs.Table.{State}
use Rattle.atomic_table.proofs.Lists.{at_last, at_longer}
use Rattle.te_lock.specs.declared.view.View.{View}
use Rattle.te_lock.specs.declared.view.Role.TheVariants.{Maker}
use Rattle.te_lock.specs.Rule.{Stands, HasMaker, HasHolder, StandOnce, IsFree, IsHeld}
use Rattle.std.proofs.Math.Nat.{eq-or-lt_of_le}
use Rattle.te_lock.proofs.OneView.{each_set, each_added, still_there, was_there}

-- no view has the turn
abbrev pub NoHolder : {E : Type 0} → List (View E) → Type 0
NoHolder {E} views = (i : ℕ) (u : View E) → get_elem? views i ≡ some u → u.has_turn ≡ false

-- the turn stays free or held: the new views have no holder where the old ones had none, and a holder where they had one
module _ {V E : Type 0} (entries : V → List E) (members : V → ℕ) (callers : ℕ) (log : List E) (s : State (Option V) (View E)) (views : List (View E)) where
  pub turn_stays : (NoHolder s.views → NoHolder views) → (HasHolder log s.views → HasHolder log views) → IsFree entries members callers log s ⊎ IsHeld log s
      → IsFree entries members callers log (record s { views = views }) ⊎ IsHeld log (record s { views = views })
  turn_stays nobody one = ⊎_elim
      (λ (f : IsFree entries members callers log s). inl record {
        value = f.value;
        word = f.word;
        home = f.home;
        list = f.list;
        number = f.number;
        nobody = nobody f.nobody;
      })
      (λ (f : IsHeld log s). inr record { word = f.word; away = f.away; one = one f.one })

-- one view is changed
module _ {E : Type 0} (views : List (View E)) (id : ℕ) (v w : View E) (at : get_elem? views id ≡ some v) where
  pub maker_stays : (count : ℕ) → ((n : ℕ) → v.role ≡ Maker n → w.role ≡ Maker n) → ((n : ℕ) → w.role ≡ Maker n → v.role ≡ Maker n) → HasMaker count views → HasMaker count (set views id w)
  maker_stays count forth back h =
      let now = still_there (λ u. u.role ≡ Maker count) views id v w at (forth count) h.seat h.maker h.there h.role in record {
        seat = h.seat;
        maker = now.0;
        there = now.1;
        role = now.2;
        alone = λ i n u e role.
            let was = was_there (λ x. x.role ≡ Maker n) views id v w at (back n) i u e role in
            h.alone i n was.0 was.1 was.2;
      }

  pub numbers_stay : (count : ℕ) → ((k : ℕ) → Stands k v → Stands k w) → ((k : ℕ) → Stands k w → Stands k v) → StandOnce count views → StandOnce count (set views id w)
  numbers_stay count forth back h = record {
    each = λ k below.
        let was = h.each k below in
        let now = still_there (Stands k) views id v w at (forth k) was.0 was.1 was.2 was.3 in
        (was.0, now.0, now.1, now.2);
    once = λ k i j u x e f s t.
        let one = was_there (Stands k) views id v w at (back k) i u e s in
        let two = was_there (Stands k) views id v w at (back k) j x f t in
        h.once k i j one.0 two.0 one.1 two.1 one.2 two.2;
  }

  pub holder_stays : (log : List E) → w.has_turn ≡ v.has_turn → (v.has_turn ≡ true → v.read ≡ log → w.read ≡ log) → HasHolder log views → HasHolder log (set views id w)
  holder_stays log same reads h =
      let now = still_there (λ u. (u.has_turn ≡ true) × (u.read ≡ log)) views id v w at (λ e. (same ∙ e.0, reads e.0 e.1)) h.seat h.holder h.there (h.holds, h.whole) in record {
        seat = h.seat;
        holder = now.0;
        there = now.1;
        holds = now.2.0;
        whole = now.2.1;
        alone = λ i u e turn.
            let was = was_there (λ x. x.has_turn ≡ true) views id v w at (λ r. sym same ∙ r) i u e turn in
            h.alone i was.0 was.1 was.2;
      }

  pub nobody_stays : w.has_turn ≡ v.has_turn → NoHolder views → NoHolder (set views id w)
  nobody_stays same h = each_set (λ _ u. u.has_turn ≡ false) views id w (λ i u _ e. h i u e) (same ∙ h id v at)

-- one view is added
module _ {E : Type 0} (views : List (View E)) (w : View E) where
  pub maker_added : (count : ℕ) → ((n : ℕ) → w.role ≢ Maker n) → HasMaker count views → HasMaker count (views ++ w ∷ [])
  maker_added count no_maker h = record {
    seat = h.seat;
    maker = h.maker;
    there = at_longer views (w ∷ []) h.seat h.maker h.there;
    role = h.role;
    alone = λ i n. each_added (λ i u. u.role ≡ Maker n → i ≡ h.seat) views w (λ i u e. h.alone i n u e) (λ r. absurd (no_maker n r)) i;
  }

  pub holder_added : (log : List E) → w.has_turn ≡ false → HasHolder log views → HasHolder log (views ++ w ∷ [])
  holder_added log idle h = record {
    seat = h.seat;
    holder = h.holder;
    there = at_longer views (w ∷ []) h.seat h.holder h.there;
    holds = h.holds;
    whole = h.whole;
    alone = each_added (λ i u. u.has_turn ≡ true → i ≡ h.seat) views w h.alone (λ turn. absurd (true≢false (sym turn ∙ idle)));
  }

  pub nobody_added : w.has_turn ≡ false → NoHolder views → NoHolder (views ++ w ∷ [])
  nobody_added idle h = each_added (λ _ u. u.has_turn ≡ false) views w h idle

  -- the new view has no caller number
  pub numbers_added : (count : ℕ) → ((k : ℕ) → Stands k w → ⊥) → StandOnce count views → StandOnce count (views ++ w ∷ [])
  numbers_added count none h = record {
    each = λ k below. let was = h.each k below in (was.0, was.1, at_longer views (w ∷ []) was.0 was.1 was.2, was.3);
    once = λ k i j u x e f s t.
        each_added
        (λ i u. Stands k u → i ≡ j)
        views
        w
        (λ i u e s. each_added (λ j x. Stands k x → i ≡ j) views w (λ j x f t. h.once k i j u x e f s t) (λ t. absurd (none k t)) j x f t)
        (λ s. absurd (none k s))
        i
        u
        e
        s;
  }

  -- the next caller number stands in the new view
  pub next_number : (count : ℕ) → ((i k : ℕ) (u : View E) → get_elem? views i ≡ some u → Stands k u → k < count) → Stands count w → ((k : ℕ) → Stands k w → k ≡ count)
      → StandOnce count views → StandOnce (count + 1) (views ++ w ∷ [])
  next_number count made stands only h = record { each = each; once = once }
    where
      each : (k : ℕ) → k < count + 1 → (i : ℕ) × (u : View E) × (get_elem? (views ++ w ∷ []) i ≡ some u) × Stands k u
      each k below =
          let le : k ≤ count = omega arith in
          ⊎_elim
          (λ (e : k ≡ count). (length views, w, at_last views w (length views) refl, subst (λ n. Stands n w) (sym e) stands))
          (λ (l : k < count). let was = h.each k l in (was.0, was.1, at_longer views (w ∷ []) was.0 was.1 was.2, was.3))
          (eq-or-lt_of_le le)

      once : (k i j : ℕ) (u x : View E) → get_elem? (views ++ w ∷ []) i ≡ some u → get_elem? (views ++ w ∷ []) j ≡ some x → Stands k u → Stands k x → i ≡ j
      once k i j u x e f =
          each_added
          (λ i u. Stands k u → Stands k x → i ≡ j)
          views
          w
          (λ i u e s. each_added (λ j x. Stands k x → i ≡ j) views w (λ j x f t. h.once k i j u x e f s t) (λ t. absurd (let a = made i k u e s in let b = only k t in omega arith)) j x f)
          (λ s. each_added (λ j x. Stands k x → length views ≡ j) views w (λ j x f t. absurd (let a = made j k x f t in let b = only k s in omega arith)) (λ _. refl) j x f)
          i
          u
          e
