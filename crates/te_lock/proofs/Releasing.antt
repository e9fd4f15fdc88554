-- The step that gives the turn back keeps the rule.
use Rattle.std.proofs.Common.{◌≡◌, ◌≢◌, ℕ, ◌+◌, ◌*◌, ◌/◌, ◌≤◌, Bool, true, false, true≢false, List, [], ◌∷◌, ◌++◌}
use Rattle.std.proofs.Common.{length, length-append, drop, Option, Some, refl, sym, ap, ◌∙◌, subst, ⊎_elim, inl, inr}
use Rattle.std.proofs.Common.{get_or, arith}
use Rattle.std.specs.Prelude.{All, slice_set}
use Rattle.std.proofs.lemmas.List.{append-nil}
use Rattle.std.proofs.lemmas.List.Elements.{All-weaker, All-same, All-nil, Contains-get_or}
use mathlib.Core.Option.{some}
use mathlib.Core.List.{IsPrefix}
use lib.ListN.{get_elem?}
use Rattle.atomic_table.specs.Table.{State, Me, Act, gives, Allows, Valid, stepped, carried_after, put_back, rest}
use Rattle.te_lock.specs.declared.view.View.{View}
use Rattle.te_lock.specs.declared.view.Role.TheVariants.{Caller}
use Rattle.te_lock.specs.Entries.{entries_by, GoesOnBy}
use Rattle.te_lock.specs.Rule.{Stands, IsSo, IsHeld, IsKept, released, Released}
use Rattle.te_lock.proofs.Beginnings.{prefix_self, prefix_longer, drop-front, all_by, none_by, entries_by-append}
use Rattle.te_lock.proofs.OneView.{one_at, each_set}
use Rattle.te_lock.proofs.Changing.{maker_stays, numbers_stay}

-- what others made stays as it was
others_stay : {E : Type 0} (author : E → ℕ) (k j : ℕ) (log more : List E) → j ≢ k → All (λ e. author e ≡ k) more → entries_by author j (log ++ more) ≡ entries_by author j log
others_stay author k j log more apart all =
    entries_by-append author j log more ∙ ap (λ w. entries_by author j log ++ w) (none_by author j k (λ e. apart (sym e)) more all) ∙ append-nil (entries_by author j log)

module _ {V E : Type 0} (entries : V → List E) (members : V → ℕ) (author : E → ℕ) (lawful : ℕ → List E
    → Type 0) (callers id : ℕ) (me : Me (Option V) (View E)) (k : ℕ) (role : me.0.role ≡ Caller k) (alone : me.0.closed ≡ [])
    (turn : me.0.has_turn ≡ true)
    (value : V) (slot : me.1 ≡ (0, Some value) ∷ []) (number : members value ≡ me.0.callers) (law : lawful me.0.callers (entries value))
    (goes : GoesOnBy author k me.0.read (entries value)) (new : ℕ) (twice : new ≡ 2 * length (entries value))
    (s : State (Option V) (View E)) (h : IsKept entries members author lawful callers s) (at : get_elem? s.views id ≡ some me.0) where
  releases_held : (f : IsHeld h.log s)
      → (w : View E) × (a : Act (Option V)) × Valid s.homes me.1 a × IsKept entries members author lawful callers (stepped s 0 new id me.1 w a)
      × Released entries me (w, carried_after me.1 a)
  releases_held f =
      let mine : IsSo author callers h.count h.log me.0 = h.views id me.0 at in
      let list = entries value in
      let more = goes.0 in
      let w = released list me.0 in
      let live = mine.number (λ e. absurd (cc (role, e))) in
      let seat : id ≡ f.one.seat = f.one.alone id me.0 at turn in
      let log : me.0.read ≡ h.log = ap (λ v. v.read) (one_at s.views id me.0 f.one.holder at (ap (λ i. get_elem? s.views i) seat ∙ f.one.there)) ∙ f.one.whole in
      let longer : h.log ++ more ≡ list = ap (λ l. l ++ more) (sym log) ∙ sym goes.1 in
      let size : length list ≡ length h.log + length more = ap length (sym longer) ∙ length-append h.log more in
      let apart : (j : ℕ) → j ≢ k → entries_by author j list ≡ entries_by author j h.log = λ j ne. ap (entries_by author j) (sym longer) ∙ others_stay author k j h.log more ne goes.2 in
      let own : w.own ≡ entries_by author k list =
      ap (λ d. me.0.own ++ d) (ap (λ l. drop (length me.0.read) l) goes.1 ∙ drop-front me.0.read more)
      ∙ ap (λ o. o ++ more) (mine.sees.own k role)
      ∙ ap (λ d. entries_by author k h.log ++ d) (sym (all_by author k more goes.2))
      ∙ sym (entries_by-append author k h.log more)
      ∙ ap (entries_by author k) longer in (
        w,
        gives,
        tt,
        record {
          log = list;
          count = h.count;
          most = h.most;
          law = subst (λ n. lawful n list) live law;
          turn = inl record {
            value = value;
            word = ap (λ ws. slice_set ws 0 new) f.word ∙ ap (λ n. n ∷ []) twice;
            home = ap (λ c. put_back s.homes c) slot ∙ ap (λ hs. slice_set hs 0 (some (Some value))) f.away;
            list = refl;
            number = number ∙ live;
            nobody = each_set (λ _ v. v.has_turn ≡ false) s.views id w (λ i v ne e. not_true v.has_turn (λ t. ne (f.one.alone i v e t ∙ sym seat))) refl;
          };
          maker = maker_stays s.views id me.0 w at h.count (λ _ r. r) (λ _ r. r) h.maker;
          numbers = numbers_stay s.views id me.0 w at h.count (λ _ e. e) (λ _ e. e) h.numbers;
          views = each_set
              (λ i v. IsSo author callers h.count list v)
              s.views
              id
              w
              (λ i v ne e.
              let was = h.views i v e in
              let other : (j : ℕ) → Stands j v → entries_by author j h.log ≡ entries_by author j list =
              λ j r. sym (apart j (λ same. ne (h.numbers.once k i id v me.0 e at (subst (λ n. Stands n v) same r) (inl role)))) in record {
                sees = record {
                  read = subst (IsPrefix v.read) longer (prefix_longer v.read h.log more was.sees.read);
                  known = All-weaker
                      (λ l. IsPrefix l h.log)
                      (λ l. IsPrefix l list)
                      (λ l p. subst (IsPrefix l) longer (prefix_longer l h.log more p))
                      v.known
                      was.sees.known;
                  front = let b = was.sees.front in omega arith;
                  own = λ j r. was.sees.own j r ∙ other j (inl r);
                  closed = λ at d below.
                      let c = get_or v.closed at d in
                      was.sees.closed at d below ∙ other c.0 (inr (c.1, Contains-get_or v.closed at d below));
                };
                looks = All-weaker (λ word. word / 2 ≤ length h.log) (λ word. word / 2 ≤ length list) (λ word le. omega arith) v.looks was.looks;
                behind = was.behind;
                made = was.made;
                number = was.number;
                turn = was.turn;
                closer = was.closer;
              })
              record {
                sees = record {
                  read = prefix_self list;
                  known = All-weaker
                      (λ l. IsPrefix l h.log)
                      (λ l. IsPrefix l list)
                      (λ l p. subst (IsPrefix l) longer (prefix_longer l h.log more p))
                      me.0.known
                      mine.sees.known;
                  front = omega arith;
                  own = λ j r. let same : k ≡ j = cc (role, r) in subst (λ n. w.own ≡ entries_by author n list) same own;
                  closed = All-same (λ c. c.1 ≡ entries_by author c.0 list) me.0.closed [] alone (All-nil (λ c. c.1 ≡ entries_by author c.0 list));
                };
                looks = All-weaker (λ word. word / 2 ≤ length h.log) (λ word. word / 2 ≤ length list) (λ word le. omega arith) me.0.looks mine.looks;
                behind = omega arith;
                made = mine.made;
                number = mine.number;
                turn = λ t. absurd (true≢false (sym t));
                closer = mine.closer;
              };
          unmade = λ j above. apart j (λ same. let b = mine.made k (inl role) in omega arith) ∙ h.unmade j above;
        },
        (value, slot, λ i. (w, ap rest slot i)),
      )
    where
      not_true : (b : Bool) → (b ≡ true → ⊥) → b ≡ false
      not_true true n = absurd (n refl)
      not_true false n = refl

module _ {V E : Type 0} (entries : V → List E) (members : V → ℕ) (author : E → ℕ) (lawful : ℕ → List E → Type 0) where
  pub releases : (callers slots id : ℕ) (me : Me (Option V) (View E)) (k : ℕ) → me.0.role ≡ Caller k → me.0.closed ≡ [] → me.0.has_turn ≡ true
      → (value : V) → me.1 ≡ (0, Some value) ∷ [] → members value ≡ me.0.callers → lawful me.0.callers (entries value) → GoesOnBy author k me.0.read (entries value)
      → (new : ℕ) → new ≡ 2 * length (entries value)
      → Allows (IsKept entries members author lawful callers) slots id me 0 (λ _. new) (λ _ after. Released entries me after)
  releases callers slots id me k role alone turn value slot number law goes new twice s h _ at _ =
      ⊎_elim
      (λ f. absurd (true≢false (sym turn ∙ f.nobody id me.0 at)))
      (releases_held entries members author lawful callers id me k role alone turn value slot number law goes new twice s h at)
      h.turn
