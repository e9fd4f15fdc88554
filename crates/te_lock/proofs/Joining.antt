-- The step that joins two views keeps the rule.
use Rattle.std.proofs.Common.{◌≡◌, ◌≢◌, ◌⊎◌, ℕ, ◌/◌, ◌<◌, ◌≤◌, true, false, true≢false, List, [], ◌∷◌, ◌++◌, length, max, set, refl, sym, ap, ◌∙◌, subst, ⊎_elim, inl, inr, arith}
use Rattle.std.proofs.lemmas.List.Elements.{All-nil, All-cons, All-append}
use mathlib.Core.Option.{some}
use mathlib.Core.List.{IsPrefix}
use mathlib.Core.Logic.{dite}
use native.Mathlib.Decide.{ℕ_discrete}
use lib.ListN.{get_elem?}
use Rattle.atomic_table.specs.Table.{Joins}
use Rattle.atomic_table.proofs.Lists.{set_else}
use Rattle.te_lock.specs.declared.view.View.{View}
use Rattle.te_lock.specs.declared.view.Role.TheVariants.{Maker, Caller, Spent}
use Rattle.te_lock.specs.Entries.{entries_by}
use Rattle.te_lock.specs.Rule.{Stands, Closes, StandOnce, Sees, IsSo, IsKept, joined, read_after, spent}
use Rattle.te_lock.proofs.Beginnings.{prefix_nil, read_by}
use Rattle.te_lock.proofs.Numbers.{closes_none, all_closes_of, stays_joined, taken_in, joined_cases}
use Rattle.te_lock.proofs.OneView.{set_at, one_at, each_set, still_there}
use Rattle.te_lock.proofs.Changing.{turn_stays, maker_stays, holder_stays, nobody_stays}

module _ {E : Type 0} where
  none_spent : (k : ℕ) → Stands k (spent {E = E}) → ⊥
  none_spent k = ⊎_elim (λ (r : (spent {E = E}).role ≡ Caller k). absurd cc) (λ (c : Closes k (spent {E = E})). absurd (closes_none k spent refl c))

-- the caller numbers, after the view v took in the view u
module _ {E : Type 0} (views : List (View E)) (id other : ℕ) (v u : View E) (at : get_elem? views id ≡ some v) (there : get_elem? views other ≡ some u) (apart : other ≢ id) where
  id_after : get_elem? (set (set views id (joined v u)) other spent) id ≡ some (joined v u)
  id_after = set_else (set views id (joined v u)) other id spent (λ e. apart (sym e)) ∙ set_at views id v (joined v u) at

  -- where a number stood before that stands at i now
  origin : (k i : ℕ) (x : View E) → get_elem? (set (set views id (joined v u)) other spent) i ≡ some x → Stands k x
      → (j : ℕ) × (y : View E) × (get_elem? views j ≡ some y) × Stands k y × (i ≢ other) × ((i ≡ j) ⊎ ((i ≡ id) × (j ≡ other)))
  origin k =
      each_set
      (λ i x. Stands k x → (j : ℕ) × (y : View E) × (get_elem? views j ≡ some y) × Stands k y × (i ≢ other) × ((i ≡ j) ⊎ ((i ≡ id) × (j ≡ other))))
      (set views id (joined v u))
      other
      spent
      (λ i x ne e.
      each_set
      (λ i x. i ≢ other → Stands k x → (j : ℕ) × (y : View E) × (get_elem? views j ≡ some y) × Stands k y × (i ≢ other) × ((i ≡ j) ⊎ ((i ≡ id) × (j ≡ other))))
      views
      id
      (joined v u)
      (λ i x _ e ne s. (i, x, e, s, ne, inl refl))
      (λ ne s.
      ⊎_elim
      (λ (a : Stands k v). (id, v, at, a, ne, inl refl))
      (λ (b : Stands k u). (other, u, there, b, ne, inr (refl, refl)))
      (joined_cases k v u s))
      i
      x
      e
      ne)
      (λ s. absurd (none_spent k s))

  pub numbers_joined : (count : ℕ) → StandOnce count views → StandOnce count (set (set views id (joined v u)) other spent)
  numbers_joined count h = record { each = each; once = once }
    where
      each : (k : ℕ) → k < count → (i : ℕ) × (x : View E) × (get_elem? (set (set views id (joined v u)) other spent) i ≡ some x) × Stands k x
      each k below =
          let was = h.each k below in
          dite
          (ℕ_discrete was.0 other)
          (λ (same : was.0 ≡ other).
          let here : was.1 ≡ u = one_at views other was.1 u (ap (λ i. get_elem? views i) (sym same) ∙ was.2) there in
          (id, joined v u, id_after, taken_in k v u (subst (Stands k) here was.3)))
          (λ (ne : was.0 ≢ other).
          let now = still_there (Stands k) views id v (joined v u) at (stays_joined k v u) was.0 was.1 was.2 was.3 in
          (was.0, now.0, set_else (set views id (joined v u)) other was.0 spent ne ∙ now.1, now.2))

      once : (k i j : ℕ) (x y : View E) → get_elem? (set (set views id (joined v u)) other spent) i ≡ some x
          → get_elem? (set (set views id (joined v u)) other spent) j ≡ some y → Stands k x → Stands k y → i ≡ j
      once k i j x y e f s t =
          let a = origin k i x e s in
          let b = origin k j y f t in
          let same : a.0 ≡ b.0 = h.once k a.0 b.0 a.1 b.1 a.2 b.2 a.3 b.3 in
          ⊎_elim
          (λ (p : i ≡ a.0).
          ⊎_elim
          (λ (q : j ≡ b.0). p ∙ same ∙ sym q)
          (λ (q : (j ≡ id) × (b.0 ≡ other)). absurd (a.4 (p ∙ same ∙ q.1)))
          b.5)
          (λ (p : (i ≡ id) × (a.0 ≡ other)).
          ⊎_elim
          (λ (q : j ≡ b.0). absurd (b.4 (q ∙ sym same ∙ p.1)))
          (λ (q : (j ≡ id) × (b.0 ≡ other)). p.0 ∙ sym q.0)
          b.5)
          a.5

-- what a joined view says
module _ {E : Type 0} (author : E → ℕ) (log : List E) (v u : View E) where
  pub sees_joined : Sees author log v → Sees author log u → Sees author log (joined v u)
  sees_joined a b = record {
    read = read_by (λ l. IsPrefix l log) v.has_turn v.read u.read a.read b.read;
    known =
        let P : List E → Type 0 = λ l. IsPrefix l log in
        All-append P (v.known ++ u.known) (v.read ∷ u.read ∷ []) (All-append P v.known u.known a.known b.known) (All-cons P v.read (u.read ∷ []) a.read (All-cons P u.read [] b.read (All-nil P)));
    front = let m = a.front in let n = b.front in omega arith;
    own = a.own;
    closed =
        let P : ℕ × List E → Type 0 = λ c. c.1 ≡ entries_by author c.0 log in
        All-append P v.closed _ a.closed (all_closes_of P u.role u.own u.closed b.own b.closed);
  }

module _ {V E : Type 0} (entries : V → List E) (members : V → ℕ) (author : E → ℕ) (lawful : ℕ → List E → Type 0) where
  pub joins : (callers id : ℕ) (v : View E) (k : ℕ) → v.role ≡ Caller k → (other : ℕ) (u : View E) → ((n : ℕ) → u.role ≢ Maker n) → u.role ≢ Spent → u.has_turn ≡ false
      → Joins (IsKept entries members author lawful callers) id v other u (joined v u) spent
  joins callers id v k role other u no_maker not_spent idle s h at apart found =
      let w = joined v u in
      let there : get_elem? s.views other ≡ some u = sym (set_else s.views id other w apart) ∙ found in
      let mine : IsSo author callers h.count h.log v = h.views id v at in
      let its : IsSo author callers h.count h.log u = h.views other u there in
      let mid = set s.views id w in
      let whole : v.has_turn ≡ true → v.read ≡ h.log → w.read ≡ h.log =
      λ turn all. ap (λ b. read_after b v.read u.read) turn ∙ all in
      let spent_idle : (spent {E = E}).has_turn ≡ u.has_turn = sym idle in
      record {
        log = h.log;
        count = h.count;
        most = h.most;
        law = h.law;
        turn = turn_stays entries members callers h.log s (set mid other spent)
            (λ f. nobody_stays mid other u spent found spent_idle (nobody_stays s.views id v w at refl f))
            (λ f. holder_stays mid other u spent found h.log spent_idle (λ t _. absurd (true≢false (sym t ∙ idle))) (holder_stays s.views id v w at h.log refl whole f))
            h.turn;
        maker = maker_stays mid other u spent found h.count (λ n r. absurd (no_maker n r)) (λ n r. absurd cc) (maker_stays s.views id v w at h.count (λ _ r. r) (λ _ r. r) h.maker);
        numbers = numbers_joined s.views id other v u at there apart h.count h.numbers;
        views = each_set
            (λ _ x. IsSo author callers h.count h.log x)
            mid
            other
            spent
            (λ i x _ e.
            each_set
            (λ _ x. IsSo author callers h.count h.log x)
            s.views
            id
            w
            (λ i x _ e. h.views i x e)
            record {
              sees = sees_joined author h.log v u mine.sees its.sees;
              looks = mine.looks;
              behind =
                  let m = mine.behind in
                  let n = its.behind in
                  read_by (λ l. length l ≤ max v.front u.front) v.has_turn v.read u.read (omega arith) (omega arith);
              made = λ j r. ⊎_elim (λ a. mine.made j a) (λ b. its.made j b) (joined_cases j v u r);
              number = mine.number;
              turn = mine.turn;
              closer = λ _ _. (k, role);
            }
            i
            x
            e)
            record {
              sees = record {
                read = prefix_nil h.log;
                known = All-nil (λ list. IsPrefix list h.log);
                front = omega arith;
                own = λ j r. absurd cc;
                closed = All-nil (λ c. c.1 ≡ entries_by author c.0 h.log);
              };
              looks = All-nil (λ word. word / 2 ≤ length h.log);
              behind = omega arith;
              made = λ j r. absurd (none_spent j r);
              number = λ live. absurd (live refl);
              turn = λ t. absurd (true≢false (sym t));
              closer = λ j c. absurd (none_spent j (inr c));
            };
        unmade = h.unmade;
      }
