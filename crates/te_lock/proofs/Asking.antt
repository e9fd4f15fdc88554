-- The step that asks for the turn keeps the rule.
use Rattle.std.proofs.Common.{◌≡◌, ◌≢◌, ℕ, ◌+◌, ◌*◌, ◌/◌, ◌%◌, ◌≤◌, true, false, true≢false, List, [], ◌∷◌, length, bit_or, Option, Some, refl, sym, ap, ◌∙◌, subst, ⊎_elim, inl, inr, arith}
use Rattle.std.specs.Prelude.{All, slice_index, slice_set}
use Rattle.std.proofs.lemmas.List.Elements.{All-push}
use mathlib.Core.Option.{none, some}
use mathlib.Core.List.{IsPrefix}
use lib.ListN.{get_elem?}
use Rattle.atomic_table.specs.Table.{State, Me, Act, keeps, takes, Allows, Valid, stepped, carried_after}
use Rattle.te_lock.specs.declared.view.View.{View}
use Rattle.te_lock.specs.declared.view.Role.TheVariants.{Caller, Spent}
use Rattle.te_lock.specs.Entries.{entries_by}
use Rattle.te_lock.specs.Rule.{Sees, IsSo, IsFree, IsHeld, IsKept, taken, looked, Asked}
use Rattle.te_lock.proofs.Bits.{or_one-even, or_one-odd}
use Rattle.te_lock.proofs.Beginnings.{prefix_self}
use Rattle.te_lock.proofs.OneView.{set_at, each_set}
use Rattle.te_lock.proofs.Changing.{maker_stays, numbers_stay}
use Rattle.te_lock.proofs.Looking.{looks_at, half_held}

module _ {V E : Type 0} (entries : V → List E) (members : V → ℕ) (author : E → ℕ) (lawful : ℕ → List E
    → Type 0) (callers id : ℕ) (me : Me (Option V) (View E)) (k : ℕ) (role : me.0.role ≡ Caller k) (idle : me.0.has_turn ≡ false)
    (s : State (Option V) (View E)) (h : IsKept entries members author lawful callers s) (at : get_elem? s.views id ≡ some me.0) where
  mine : IsSo author callers h.count h.log me.0
  mine = h.views id me.0 at

  live : me.0.role ≢ Spent
  live e = cc (role, e)

  -- what an even word gives
  asks_free : (f : IsFree entries members callers h.log s)
      → (w : View E) × (a : Act (Option V)) × Valid s.homes me.1 a × IsKept entries members author lawful callers (stepped s 0 (bit_or (slice_index s.words 0) 1) id me.1 w a)
      × Asked entries members author lawful me (slice_index s.words 0) (w, carried_after me.1 a)
  asks_free f =
      let list = entries f.value in
      let w = taken list me.0 in
      let found : slice_index s.words 0 ≡ 2 * length h.log = ap (λ ws. slice_index ws 0) f.word in
      let same = ap length f.list in (
        w,
        takes 0 (Some f.value),
        ap (λ hs. get_elem? hs 0) f.home,
        record {
          log = h.log;
          count = h.count;
          most = h.most;
          law = h.law;
          turn = inr record {
            word = ap (λ ws. slice_set ws 0 (bit_or (slice_index ws 0) 1)) f.word ∙ ap (λ n. n ∷ []) (or_one-even (length h.log));
            away = ap (λ hs. slice_set hs 0 none) f.home;
            one = record {
              seat = id;
              holder = w;
              there = set_at s.views id me.0 w at;
              holds = refl;
              whole = f.list;
              alone = each_set (λ i v. v.has_turn ≡ true → i ≡ id) s.views id w (λ i v _ e turn. absurd (true≢false (sym turn ∙ f.nobody i v e))) (λ _. refl);
            };
          };
          maker = maker_stays s.views id me.0 w at h.count (λ _ r. r) (λ _ r. r) h.maker;
          numbers = numbers_stay s.views id me.0 w at h.count (λ _ e. e) (λ _ e. e) h.numbers;
          views = each_set
              (λ i v. IsSo author callers h.count h.log v)
              s.views
              id
              w
              (λ i v _ e. h.views i v e)
              record {
                sees = record {
                  read = subst (λ l. IsPrefix l h.log) (sym f.list) (prefix_self h.log);
                  known = mine.sees.known;
                  front = omega arith;
                  own = mine.sees.own;
                  closed = mine.sees.closed;
                };
                looks = All-push (λ word. word / 2 ≤ length h.log) me.0.looks (2 * length list) mine.looks (omega arith);
                behind = omega arith;
                made = mine.made;
                number = mine.number;
                turn = λ _. (k, role);
                closer = mine.closer;
              };
          unmade = h.unmade;
        },
        inl record {
          value = f.value;
          word = omega arith;
          slot = refl;
          view = refl;
          number = f.number ∙ sym (mine.number live);
          law = subst (λ n. lawful n list) (sym (mine.number live)) (subst (lawful callers) (sym f.list) h.law);
          sees = subst (λ l. Sees author l me.0) (sym f.list) mine.sees;
          looks = subst (λ l. All (λ word. word / 2 ≤ length l) me.0.looks) (sym f.list) mine.looks;
          unmade = λ j above.
              let most = h.most in
              let number = mine.number live in
              subst (λ l. entries_by author j l ≡ []) (sym f.list) (h.unmade j (omega arith));
        },
      )

  -- and what an odd word gives
  asks_held : (f : IsHeld h.log s)
      → (w : View E) × (a : Act (Option V)) × Valid s.homes me.1 a × IsKept entries members author lawful callers (stepped s 0 (bit_or (slice_index s.words 0) 1) id me.1 w a)
      × Asked entries members author lawful me (slice_index s.words 0) (w, carried_after me.1 a)
  asks_held f =
      let found = slice_index s.words 0 in
      let is : found ≡ 2 * length h.log + 1 = ap (λ ws. slice_index ws 0) f.word in
      let odd : found % 2 ≡ 1 = ap (λ n. n % 2) is ∙ omega arith in
      let stays : slice_set s.words 0 (bit_or found 1) ≡ s.words =
      ap (λ ws. slice_set ws 0 (bit_or (slice_index ws 0) 1)) f.word ∙ ap (λ n. n ∷ []) (or_one-odd (length h.log)) ∙ sym f.word in
      let step = looks_at entries members author lawful callers id me idle s h at found (bit_or found 1) (half_held entries members author lawful h.log s f) stays in
      (looked found me.0, keeps, tt, step.0, inr (odd, step.1))

module _ {V E : Type 0} (entries : V → List E) (members : V → ℕ) (author : E → ℕ) (lawful : ℕ → List E → Type 0) where
  pub asks : (callers slots id : ℕ) (me : Me (Option V) (View E)) (k : ℕ) → me.0.role ≡ Caller k → me.0.has_turn ≡ false
      → Allows (IsKept entries members author lawful callers) slots id me 0 (λ n. bit_or n 1) (Asked entries members author lawful me)
  asks callers slots id me k role idle s h _ at _ =
      ⊎_elim
      (asks_free entries members author lawful callers id me k role idle s h at)
      (asks_held entries members author lawful callers id me k role idle s h at)
      h.turn
