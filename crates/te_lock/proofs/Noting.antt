-- The step that makes a note keeps the rule.
use Rattle.std.proofs.Common.{◌≡◌, ℕ, ◌/◌, ◌≤◌, true≢false, List, [], ◌∷◌, ◌++◌, length, Option, refl, sym, subst, ⊎_elim, inr}
use Rattle.std.proofs.lemmas.List.Elements.{All-nil}
use mathlib.Core.Option.{some}
use lib.ListN.{get_elem?}
use Rattle.atomic_table.specs.Table.{State, Splits}
use Rattle.atomic_table.proofs.Lists.{set_again}
use Rattle.te_lock.specs.declared.view.View.{View}
use Rattle.te_lock.specs.declared.view.Role.TheVariants.{Caller}
use Rattle.te_lock.specs.Entries.{entries_by}
use Rattle.te_lock.specs.Rule.{Stands, Closes, IsSo, IsKept, noted}
use Rattle.te_lock.proofs.Numbers.{closes_none}
use Rattle.te_lock.proofs.OneView.{each_added}
use Rattle.te_lock.proofs.Changing.{turn_stays, maker_added, holder_added, nobody_added, numbers_added}

module _ {V E : Type 0} (entries : V → List E) (members : V → ℕ) (author : E → ℕ) (lawful : ℕ → List E → Type 0) where
  -- the rule after a note of the view v was added
  note_added : (callers id : ℕ) (v : View E) (k : ℕ) → v.role ≡ Caller k → (s : State (Option V) (View E)) → IsKept entries members author lawful callers s → get_elem? s.views id ≡ some v
      → IsKept entries members author lawful callers (record { words = s.words; homes = s.homes; views = s.views ++ noted v ∷ [] })
  note_added callers id v k role s h at =
      let mine : IsSo author callers h.count h.log v = h.views id v at in
      let n = noted v in
      let no_number : (j : ℕ) → Stands j n → ⊥ = λ j. ⊎_elim (λ (r : n.role ≡ Caller j). absurd cc) (λ (c : Closes j n). absurd (closes_none j n refl c)) in
      record {
        log = h.log;
        count = h.count;
        most = h.most;
        law = h.law;
        turn = turn_stays entries members callers h.log s (s.views ++ n ∷ [])
            (nobody_added s.views n refl)
            (holder_added s.views n h.log refl)
            h.turn;
        maker = maker_added s.views n h.count (λ m r. cc r) h.maker;
        numbers = numbers_added s.views n h.count no_number h.numbers;
        views = each_added
            (λ _ u. IsSo author callers h.count h.log u)
            s.views
            n
            h.views
            record {
              sees = record {
                read = mine.sees.read;
                known = mine.sees.known;
                front = mine.sees.front;
                own = λ j r. absurd (cc r);
                closed = All-nil (λ c. c.1 ≡ entries_by author c.0 h.log);
              };
              looks = All-nil (λ word. word / 2 ≤ length h.log);
              behind = mine.behind;
              made = λ j r. absurd (no_number j r);
              number = λ _. mine.number (λ e. absurd (cc (role, e)));
              turn = λ t. absurd (true≢false (sym t));
              closer = λ j c. absurd (no_number j (inr c));
            };
        unmade = h.unmade;
      }

  pub notes : (callers id : ℕ) (v : View E) (k : ℕ) → v.role ≡ Caller k → Splits (IsKept entries members author lawful callers) id v v (noted v)
  notes callers id v k role s h at =
      subst
      (λ views. IsKept entries members author lawful callers (record { words = s.words; homes = s.homes; views = views ++ noted v ∷ [] }))
      (sym (set_again s.views id v at))
      (note_added callers id v k role s h at)
