-- What a pass keeps when it meets a note.
use Rattle.std.proofs.Common.{◌≡◌, ◌≤◌, ℕ, Bool, true, false, List, [], ◌∷◌, ◌++◌, length, max, refl, sym, ap, ◌∙◌, subst, arith}
use Rattle.std.proofs.lemmas.List.Elements.{All-head, All-tail}
use mathlib.Core.List.{IsPrefix}
use Rattle.atomic_table.specs.Table.{Me}
use Rattle.std.specs.Prelude.{Option}
use Rattle.te_lock.specs.declared.view.View.{View}
use Rattle.te_lock.specs.Entries.{longer}
use Rattle.te_lock.specs.Passes.{IsPassAt, IsNoteAt}
use Rattle.te_lock.specs.Rule.{Confirms, closes_of, joined, read_after}
use Rattle.te_lock.proofs.Beginnings.{all_back, prefix_length, longer_first, read_by}

pub pass_meets : {V E : Type 0} (lawful : ℕ → List E → Type 0) (caller : ℕ) (me note : Me (Option V) (View E)) → IsPassAt lawful caller me → IsNoteAt lawful note → note.0.callers ≡ me.0.callers
    → IsPassAt {E = E} {V = V} lawful caller (joined me.0 note.0, me.1)
pass_meets lawful caller me note p n same =
    let v = me.0 in
    let u = note.0 in record {
      role = p.role;
      alone = λ i. p.alone i ++ closes_of (n.role i) u.own (n.alone i);
      slots = p.slots;
      law = read_by (lawful v.callers) v.has_turn v.read u.read p.law (subst (λ k. lawful k u.read) same n.law);
      below = p.below;
      behind =
          let a = p.behind in
          let b = n.behind in
          read_by (λ l. length l ≤ max v.front u.front) v.has_turn v.read u.read (omega arith) (omega arith);
    }

-- a join leaves what the holder of the turn had read, which every list that it then knows begins: so the note's is no longer
pub reads_longer : {V E : Type 0} (me note : Me (Option V) (View E)) (after : Me (Option V) (View E))
    → Confirms {V = V} {E = E} (joined me.0 note.0, me.1) after → after.0.read ≡ longer me.0.read note.0.read
reads_longer {V = V} {E = E} me note after h = ap (λ m. m.0.read) h.same ∙ by_turn me.0.has_turn refl
  where
    by_turn : (turn : Bool) → me.0.has_turn ≡ turn → read_after me.0.has_turn me.0.read note.0.read ≡ longer me.0.read note.0.read
    by_turn false idle = ap (λ b. read_after b me.0.read note.0.read) idle
    by_turn true turn =
        let reads : read_after me.0.has_turn me.0.read note.0.read ≡ me.0.read = ap (λ b. read_after b me.0.read note.0.read) turn in
        let P : List E → Type 0 = λ l. IsPrefix l (read_after me.0.has_turn me.0.read note.0.read) in
        let two = all_back P (me.0.known ++ note.0.known) (me.0.read ∷ note.0.read ∷ []) (h.whole turn) in
        let begins : P note.0.read = All-head P note.0.read [] (All-tail P me.0.read (note.0.read ∷ []) two) in
        let short = prefix_length note.0.read me.0.read (subst (IsPrefix note.0.read) reads begins) in
        reads ∙ sym (longer_first me.0.read note.0.read short)

pub read_stays : {V E : Type 0} (me note : Me (Option V) (View E)) (after : Me (Option V) (View E))
    → Confirms {V = V} {E = E} (joined me.0 note.0, me.1) after → me.0.has_turn ≡ true → after.0.read ≡ me.0.read
read_stays me note after h turn = ap (λ m. m.0.read) h.same ∙ ap (λ b. read_after b me.0.read note.0.read) turn
