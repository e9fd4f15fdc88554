-- The step that makes a pass keeps the rule, and so does the table when it is made.
use Rattle.std.proofs.Common.{◌≡◌, ℕ, zero, suc, ◌+◌, ◌/◌, ◌<◌, ◌≤◌, length, false, true≢false, List, [], ◌∷◌, ◌++◌, set, Some, refl, sym, ap, ◌∙◌, subst, ⊎_elim, inl, inr, arith}
use Rattle.std.proofs.lemmas.List.Elements.{All-nil}
use mathlib.Core.Option.{some, some-injective, some-ne-none}
use mathlib.Core.List.{IsPrefix}
use lib.ListN.{get_elem?}
use Rattle.atomic_table.specs.Table.{opening, Splits}
use Rattle.te_lock.specs.declared.view.View.{View}
use Rattle.te_lock.specs.declared.view.Role.TheVariants.{Maker, Caller}
use Rattle.te_lock.specs.Entries.{entries_by}
use Rattle.te_lock.specs.Rule.{Stands, Closes, IsSo, IsKept, maker_of, count_up, next_role, counted, next_pass}
use Rattle.te_lock.proofs.Beginnings.{prefix_nil, prefix_self}
use Rattle.te_lock.proofs.Numbers.{closes_none}
use Rattle.te_lock.proofs.OneView.{set_at, one_at, each_set, each_added}
use Rattle.te_lock.proofs.Changing.{turn_stays, numbers_stay, holder_stays, nobody_stays, maker_added, holder_added, nobody_added, next_number}

module _ {V E : Type 0} (entries : V → List E) (members : V → ℕ) (author : E → ℕ) (lawful : ℕ → List E → Type 0) where
  one_only : {A : Type 0} (P : ℕ → A → Type 0) (a : A) → P 0 a → (i : ℕ) (v : A) → get_elem? (a ∷ []) i ≡ some v → P i v
  one_only P a p zero v e = subst (P 0) (some-injective a v e) p
  one_only P a p (suc i) v e = absurd (some-ne-none v (sym e))

  -- a new table, with a value of an empty list
  pub opens : (callers : ℕ) (value : V) → entries value ≡ [] → members value ≡ callers → lawful callers []
      → IsKept entries members author lawful callers (opening (0 ∷ []) (Some value ∷ []) (maker_of 0 callers))
  opens callers value empty number law =
      let m : View E = maker_of 0 callers in record {
        log = [];
        count = 0;
        most = omega arith;
        law = law;
        turn = inl record { value = value; word = refl; home = refl; list = empty; number = number; nobody = one_only (λ _ v. v.has_turn ≡ false) m refl };
        maker = record { seat = 0; maker = m; there = refl; role = refl; alone = λ i n v e r. one_only (λ i _. i ≡ 0) m refl i v e };
        numbers = record {
          each = λ k below. absurd (omega arith);
          once = λ k i j v u e f s t. one_only (λ i _. i ≡ 0) m refl i v e ∙ sym (one_only (λ i _. i ≡ 0) m refl j u f);
        };
        views = one_only
            (λ _ v. IsSo author callers 0 [] v)
            m
            record {
              sees = record {
                read = prefix_self [];
                known = All-nil (λ list. IsPrefix list []);
                front = omega arith;
                own = λ k r. absurd cc;
                closed = All-nil (λ c. c.1 ≡ entries_by author c.0 []);
              };
              looks = All-nil (λ word. word / 2 ≤ 0);
              behind = omega arith;
              made = λ k. ⊎_elim (λ (r : m.role ≡ Caller k). absurd cc) (λ c. absurd (closes_none k m refl c));
              number = λ _. refl;
              turn = λ t. absurd (true≢false (sym t));
              closer = λ k c. absurd (closes_none k m refl c);
            };
        unmade = λ _ _. refl;
      }

module _ {V E : Type 0} (entries : V → List E) (members : V → ℕ) (author : E → ℕ) (lawful : ℕ → List E → Type 0) where
  pub makes : (callers id n : ℕ) (v : View E) → v.role ≡ Maker n → n < callers → Splits (IsKept entries members author lawful callers) id v (counted v) (next_pass v)
  makes callers id n v role below s h at =
      let mine : IsSo author callers h.count h.log v = h.views id v at in
      let w = counted v in
      let p = next_pass v in
      let live : v.callers ≡ callers = mine.number (λ e. absurd (cc (role, e))) in
      let seat : id ≡ h.maker.seat = h.maker.alone id n v at role in
      let count : n ≡ h.count =
      let same : v ≡ h.maker.maker = one_at s.views id v h.maker.maker at (ap (λ i. get_elem? s.views i) seat ∙ h.maker.there) in
      let both : Maker n ≡ Maker h.count = sym role ∙ ap (λ x. x.role) same ∙ h.maker.role in cc both in
      let counts : w.role ≡ Maker (h.count + 1) = ap count_up role ∙ ap (λ k. Maker (k + 1)) count in
      let next : p.role ≡ Caller h.count = ap next_role role ∙ ap Caller count in
      let no_number : (k : ℕ) → Stands k v → ⊥ = λ k. ⊎_elim (λ (r : v.role ≡ Caller k). absurd (cc (role, r))) (λ (c : Closes k v). let by = mine.closer k c in absurd (cc (role, by.1))) in
      let back : (k : ℕ) → Stands k w → Stands k v = λ k. ⊎_elim (λ (r : w.role ≡ Caller k). absurd (cc (counts, r))) (λ (c : Closes k w). inr c) in
      let one_number : (k : ℕ) → Stands k p → h.count ≡ k = λ k. ⊎_elim (λ (r : p.role ≡ Caller k). cc (next, r)) (λ (c : Closes k p). absurd (closes_none k p refl c)) in
      let views = set s.views id w in
      let so : (i : ℕ) (u : View E) → get_elem? views i ≡ some u → IsSo author callers h.count h.log u =
      each_set (λ _ u. IsSo author callers h.count h.log u) s.views id w (λ i u _ e. h.views i u e) record {
        sees = record {
          read = mine.sees.read;
          known = mine.sees.known;
          front = mine.sees.front;
          own = λ k r. absurd (cc (counts, r));
          closed = mine.sees.closed;
        };
        looks = mine.looks;
        behind = mine.behind;
        made = λ k r. absurd (no_number k (back k r));
        number = λ _. live;
        turn = λ t. absurd (let c = mine.turn t in cc (c.1, role));
        closer = λ k c. absurd (no_number k (inr c));
      } in
      record {
        log = h.log;
        count = h.count + 1;
        most = omega arith;
        law = h.law;
        turn = turn_stays entries members callers h.log s (views ++ p ∷ [])
            (λ f. nobody_added views p refl (nobody_stays s.views id v w at refl f))
            (λ f. holder_added views p h.log refl (holder_stays s.views id v w at h.log refl (λ _ e. e) f))
            h.turn;
        maker = maker_added
            views
            p
            (h.count + 1)
            (λ m r. cc (next, r))
            record {
              seat = id;
              maker = w;
              there = set_at s.views id v w at;
              role = counts;
              alone = λ i m. each_set (λ i u. u.role ≡ Maker m → i ≡ id) s.views id w (λ i u _ e r. h.maker.alone i m u e r ∙ sym seat) (λ _. refl) i;
            };
        numbers = next_number
            views
            p
            h.count
            (λ i k u e r. (so i u e).made k r)
            (inl next)
            (λ k r. sym (one_number k r))
            (numbers_stay s.views id v w at h.count (λ k r. absurd (no_number k r)) back h.numbers);
        views = each_added
            (λ _ u. IsSo author callers (h.count + 1) h.log u)
            views
            p
            (λ i u e.
            let was = so i u e in record {
              sees = was.sees;
              looks = was.looks;
              behind = was.behind;
              made = λ k r. let b = was.made k r in omega arith;
              number = was.number;
              turn = was.turn;
              closer = was.closer;
            })
            record {
              sees = record {
                read = prefix_nil h.log;
                known = All-nil (λ list. IsPrefix list h.log);
                front = omega arith;
                own = λ k r. let same = one_number k (inl r) in sym (h.unmade k (omega arith));
                closed = All-nil (λ c. c.1 ≡ entries_by author c.0 h.log);
              };
              looks = All-nil (λ word. word / 2 ≤ length h.log);
              behind = omega arith;
              made = λ k r. let same = one_number k r in omega arith;
              number = λ _. live;
              turn = λ t. absurd (true≢false (sym t));
              closer = λ k c. absurd (closes_none k p refl c);
            };
        unmade = λ k above. h.unmade k (omega arith);
      }
