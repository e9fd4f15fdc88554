-- A look at the word keeps the rule.
use Rattle.std.proofs.Common.{◌≡◌, ℕ, ◌/◌, ◌≤◌, true, false, true≢false, List, ◌∷◌, [], length, set, Option, refl, sym, ap, ◌∙◌, subst, ⊎_elim, arith}
use Rattle.std.specs.Prelude.{All, slice_index, slice_set}
use Rattle.std.proofs.lemmas.List.Elements.{All-push, All-weaker}
use mathlib.Core.Option.{some}
use mathlib.Core.List.{IsPrefix}
use lib.ListN.{get_elem?}
use Rattle.atomic_table.specs.Table.{State, Me, keeps, Allows, stepped}
use Rattle.atomic_table.proofs.Lists.{set_again}
use Rattle.te_lock.specs.declared.view.View.{View}
use Rattle.te_lock.specs.Rule.{IsSo, IsFree, IsHeld, IsKept, looked, Looks, Confirms}
use Rattle.te_lock.proofs.OneView.{one_at, each_set}
use Rattle.te_lock.proofs.Changing.{turn_stays, maker_stays, numbers_stay, holder_stays, nobody_stays}

module _ {V E : Type 0} (entries : V → List E) (members : V → ℕ) (author : E → ℕ) (lawful : ℕ → List E → Type 0) where
  -- the word found is this, half of it is the length of the history, and the word stays
  pub looks_at : (callers id : ℕ) (me : Me (Option V) (View E)) → me.0.has_turn ≡ false
      → (s : State (Option V) (View E)) (h : IsKept entries members author lawful callers s) → get_elem? s.views id ≡ some me.0
      → (found new : ℕ) → found / 2 ≡ length h.log → slice_set s.words 0 new ≡ s.words
      → IsKept entries members author lawful callers (stepped s 0 new id me.1 (looked found me.0) keeps) × Looks me found (looked found me.0, me.1)
  looks_at callers id me idle s h at found new half stays =
      let mine : IsSo author callers h.count h.log me.0 = h.views id me.0 at in
      let v = me.0 in
      let w = looked found me.0 in (
        subst
            (λ words. IsKept entries members author lawful callers (record { words = words; homes = s.homes; views = set s.views id w }))
            (sym stays)
            record {
              log = h.log;
              count = h.count;
              most = h.most;
              law = h.law;
              turn = turn_stays entries members callers h.log s (set s.views id w)
                  (nobody_stays s.views id v w at refl)
                  (holder_stays s.views id v w at h.log refl (λ _ e. e))
                  h.turn;
              maker = maker_stays s.views id v w at h.count (λ _ r. r) (λ _ r. r) h.maker;
              numbers = numbers_stay s.views id v w at h.count (λ _ e. e) (λ _ e. e) h.numbers;
              views = each_set
                  (λ i u. IsSo author callers h.count h.log u)
                  s.views
                  id
                  w
                  (λ i u _ e. h.views i u e)
                  record {
                    sees = record {
                      read = mine.sees.read;
                      known = mine.sees.known;
                      front = omega arith;
                      own = mine.sees.own;
                      closed = mine.sees.closed;
                    };
                    looks = All-push (λ word. word / 2 ≤ length h.log) v.looks found mine.looks (omega arith);
                    behind = let m = mine.behind in let n = mine.sees.front in omega arith;
                    made = mine.made;
                    number = mine.number;
                    turn = mine.turn;
                    closer = mine.closer;
                  };
              unmade = h.unmade;
            },
        record {
          same = refl;
          reaches = let m = mine.sees.front in omega arith;
          looks = All-weaker (λ word. word / 2 ≤ length h.log) (λ word. word / 2 ≤ found / 2) (λ word le. omega arith) v.looks mine.looks;
        },
      )

  -- the half of the word is the length of the history, free or held
  half_free : (callers : ℕ) (log : List E) (s : State (Option V) (View E)) → IsFree entries members callers log s → slice_index s.words 0 / 2 ≡ length log
  half_free callers log s f = ap (λ ws. slice_index ws 0 / 2) f.word ∙ omega arith

  pub half_held : (log : List E) (s : State (Option V) (View E)) → IsHeld log s → slice_index s.words 0 / 2 ≡ length log
  half_held log s f = ap (λ ws. slice_index ws 0 / 2) f.word ∙ omega arith

  word_stays : (words : List ℕ) (n : ℕ) → words ≡ n ∷ [] → slice_set words 0 (slice_index words 0) ≡ words
  word_stays words n e = ap (λ ws. slice_set ws 0 (slice_index ws 0)) e ∙ sym e

  pub loads : (callers slots id : ℕ) (me : Me (Option V) (View E)) → me.0.has_turn ≡ false
      → Allows (IsKept entries members author lawful callers) slots id me 0 (λ n. n) (Looks me)
  loads callers slots id me idle s h _ at _ =
      let found = slice_index s.words 0 in
      let half : found / 2 ≡ length h.log = ⊎_elim (half_free callers h.log s) (half_held h.log s) h.turn in
      let stays : slice_set s.words 0 found ≡ s.words = ⊎_elim (λ (f : IsFree entries members callers h.log s). word_stays s.words _ f.word)
      (λ (f : IsHeld h.log s). word_stays s.words _ f.word) h.turn in
      let step = looks_at callers id me idle s h at found found half stays in
      (looked found me.0, keeps, tt, step.0, step.1)

  -- a look that changes nothing: the holder has read the whole history, which every list that it knows begins
  pub confirms : (callers slots id : ℕ) (me : Me (Option V) (View E))
      → Allows (IsKept entries members author lawful callers) slots id me 0 (λ n. n) (λ _ after. Confirms me after)
  confirms callers slots id me s h _ at _ =
      let found = slice_index s.words 0 in
      let stays : slice_set s.words 0 found ≡ s.words =
      ⊎_elim (λ (f : IsFree entries members callers h.log s). word_stays s.words _ f.word) (λ (f : IsHeld h.log s). word_stays s.words _ f.word) h.turn in
      let mine : IsSo author callers h.count h.log me.0 = h.views id me.0 at in
      let whole : me.0.has_turn ≡ true → me.0.read ≡ h.log = λ turn.
      ⊎_elim
      (λ (f : IsFree entries members callers h.log s). absurd (true≢false (sym turn ∙ f.nobody id me.0 at)))
      (λ (f : IsHeld h.log s).
      let here : id ≡ f.one.seat = f.one.alone id me.0 at turn in
      let same : f.one.holder ≡ me.0 = one_at s.views f.one.seat f.one.holder me.0 f.one.there (ap (λ i. get_elem? s.views i) (sym here) ∙ at) in
      ap (λ v. v.read) (sym same) ∙ f.one.whole)
      h.turn in (
        me.0,
        keeps,
        tt,
        subst
            (λ words. IsKept entries members author lawful callers (record { words = words; homes = s.homes; views = set s.views id me.0 }))
            (sym stays)
            (subst
            (λ views. IsKept entries members author lawful callers (record { words = s.words; homes = s.homes; views = views }))
            (sym (set_again s.views id me.0 at))
            h),
        record { same = refl; whole = λ turn. subst (λ l. All (λ list. IsPrefix list l) me.0.known) (sym (whole turn)) mine.sees.known },
      )
