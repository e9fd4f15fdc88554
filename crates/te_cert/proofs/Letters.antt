-- A settled member at its letters: at a choice it takes the next, elsewhere it stands.
use Rattle.std.proofs.Common.{◌≡◌, ◌≢◌, ℕ, suc, ◌+◌, ◌<◌, ◌++◌, length, get_or, drop, add-one, Bool, true, false, cond, List, [], ◌∷◌, Some, None, Result, Ok, Err, refl, sym, ap, ◌∙◌}
use Rattle.std.proofs.Math.Seq.{drop-cons}
use Rattle.std.specs.Option.{option_map}
use Rattle.te_terms.specs.Terms.{Term, choose}
use Rattle.te_terms.specs.Steps.{Member, at_term, IsSettled, head, with_head}
use Rattle.te_terms.specs.Joint.{Label, choice, after_choice, chosen_from}
use Rattle.te_terms.specs.Settling.{settled}
use Rattle.te_terms.proofs.Settles.{settled_already, settled_is_settled}
use Rattle.te_terms.proofs.OneThing.{end_is_alone, send_is_alone, receive_is_alone, never_is_alone}
use Rattle.te_path.specs.declared.spot.Stop.{Stop}
use Rattle.te_path.specs.declared.spot.Stop.TheVariants as stops
use Rattle.te_path.specs.Paths.{IsChoice, StandsAt, StepsTo}
use Rattle.te_cert.specs.Play.{PlayFault, no_letter, Player, Turn, by_choice, stands, choice_of, Advance, with_label}
use Rattle.te_cert.specs.Players.{with_labels, letters_from, AdvancesAs, Comes}
use Rattle.te_cert.specs.Advances.{by_letters, without_letter, with_letter}
use Rattle.te_cert.proofs.GoingAhead.{as_settled}

abbrev turn_at : Member → Turn
turn_at s = choice_of s (after_choice true s.term) (after_choice false s.term)

-- a settled member settles as itself
pub settles_twice : (m : Member) → settled (settled m) ≡ settled m
settles_twice m = settled_already (settled m) (settled_is_settled m)

-- ---- elsewhere than at a choice

cannot_choose : (m : Member) (stop : Stop) → StandsAt m.term stop → stop ≢ stops.Choice → (left : Bool) → after_choice left m.term ≡ None
cannot_choose m (stops.Done v) at other left = (end_is_alone m m.term _ at).1 left
cannot_choose m (stops.Raised v) at other left = (end_is_alone m m.term _ at).1 left
cannot_choose m (stops.Send c v) at other left = (send_is_alone m m.term _ at).1 left
cannot_choose m (stops.Recv c) at other left = (receive_is_alone m m.term c at).1 left
cannot_choose m stops.Choice at other left = absurd (other refl)
cannot_choose m stops.Dead at other left = (never_is_alone m m.term at).1 left

standing_turn : (m : Member) → after_choice true m.term ≡ None → turn_at m ≡ stands
standing_turn m e = ap (λ o. choice_of m o (after_choice false m.term)) e

stand_with : (i : ℕ) (s : Member) (letters : List Bool) (turn : Turn) → turn ≡ stands → settled s ≡ s → turn_at s ≡ turn
    → by_letters i s letters ≡ Ok (record { player = record { member = s; letters = letters }; word = [] })
stand_with i s [] turn e still is = rw (still, is, e) refl
stand_with i s (left ∷ letters) turn e still is = rw (still, is, e) refl

-- the member stands, with all letters left
stands_still : (i : ℕ) (m : Member) (letters : List Bool) (stop : Stop) → IsSettled m → StandsAt m.term stop → stop ≢ stops.Choice →
    by_letters i m letters ≡ Ok (record { player = record { member = m; letters = letters }; word = [] })
stands_still i m letters stop still at other =
    stand_with i m letters stands refl (settled_already m still) (standing_turn m (cannot_choose m stop at other true))

-- ---- at a choice

parts : (t e f : Term) (left : Bool) → head t ≡ choose e f → after_choice left t ≡ Some (with_head (cond left e f) t)
parts t e f true at = ap (λ h. option_map (λ u. with_head u t) (chosen_from true h)) at
parts t e f false at = ap (λ h. option_map (λ u. with_head u t) (chosen_from false h)) at

choosing_turn : (m : Member) (e f : Term) → head m.term ≡ choose e f → turn_at m ≡ by_choice (at_term m (with_head e m.term)) (at_term m (with_head f m.term))
choosing_turn m e f at = rw (parts m.term e f true at, parts m.term e f false at) refl

-- without a letter it lacks one
lacks_letter : (i : ℕ) (m : Member) → IsSettled m → IsChoice m.term → by_letters i m [] ≡ Err (no_letter i)
lacks_letter i m still at = rw (settled_already m still, choosing_turn m at.0 at.1.0 at.1.1) refl

taken : (i : ℕ) (m : Member) (e f : Term) (left : Bool) (letters : List Bool) → settled m ≡ m → head m.term ≡ choose e f →
    by_letters i m (left ∷ letters) ≡ with_label (choice m.thread left) (by_letters i (at_term m (with_head (cond left e f) m.term)) letters)
taken i m e f true letters still at = rw (still, choosing_turn m e f at) refl
taken i m e f false letters still at = rw (still, choosing_turn m e f at) refl

same_part : (t e f u : Term) (left : Bool) → head t ≡ choose e f → after_choice left t ≡ Some u → with_head (cond left e f) t ≡ u
same_part t e f u left at is = let both : Some (with_head (cond left e f) t) ≡ Some u = sym (parts t e f left at) ∙ is in cc

-- with one it goes on as the path after the choice
takes_letter : (i : ℕ) (m n : Member) (left : Bool) (letters : List Bool) → IsSettled m → IsChoice m.term → StepsTo m (after_choice left m.term) n →
    by_letters i m (left ∷ letters) ≡ with_label (choice m.thread left) (by_letters i n letters)
takes_letter i m n left letters still at to =
    let part = same_part m.term at.0 at.1.0 to.next left at.1.1 to.steps in
    let same : settled (at_term m to.next) ≡ settled n = sym (settles_twice (at_term m to.next)) ∙ ap settled to.settles in
    taken i m at.0 at.1.0 left letters (settled_already m still) at.1.1
    ∙ ap (λ x. with_label (choice m.thread left) (by_letters i (at_term m x) letters)) part
    ∙ ap (with_label (choice m.thread left)) (as_settled i (at_term m to.next) n letters same)

-- ---- labels in front

one_more_label : (l : Label) (word : List Label) (r : Result Advance PlayFault) → with_labels (word ++ l ∷ []) r ≡ with_labels word (with_label l r)
one_more_label l [] r = refl
one_more_label l (w ∷ word) r = ap (with_label w) (one_more_label l word r)

labels_of_ok : (word : List Label) (p : Player) → with_labels word (Ok (record { player = p; word = [] })) ≡ Ok (record { player = p; word = word })
labels_of_ok [] p = refl
labels_of_ok (w ∷ word) p = ap (with_label w) (labels_of_ok word p)

labels_of_err : (word : List Label) (e : PlayFault) → with_labels word (Err e) ≡ Err e
labels_of_err [] e = refl
labels_of_err (w ∷ word) e = ap (with_label w) (labels_of_err word e)

-- ---- an advance, letter by letter

pub as_itself : (p : Player) → AdvancesAs p p
as_itself p i = ([], refl)

-- it stands there in the end
pub comes_to_stand : (p q : Player) (stop : Stop) → AdvancesAs p q → IsSettled q.member → StandsAt q.member.term stop → stop ≢ stops.Choice → Comes p true q
comes_to_stand p q stop as_far still at other i =
    let so_far = as_far i in
    (so_far.0, so_far.1 ∙ ap (with_labels so_far.0) (stands_still i q.member q.letters stop still at other) ∙ labels_of_ok so_far.0 q)

-- it lacks a letter in the end
pub comes_to_lack : (p q : Player) → AdvancesAs p q → IsSettled q.member → IsChoice q.member.term → q.letters ≡ [] → Comes p false q
comes_to_lack p q as_far still at none i =
    let so_far = as_far i in
    so_far.1 ∙ ap (λ r. with_labels so_far.0 (by_letters i q.member r)) none ∙ ap (with_labels so_far.0) (lacks_letter i q.member still at) ∙ labels_of_err so_far.0 (no_letter i)

-- it goes on by one letter more
pub goes_on : (p q r : Player) (left : Bool) → AdvancesAs p q → IsSettled q.member → IsChoice q.member.term → q.letters ≡ left ∷ r.letters
    → StepsTo q.member (after_choice left q.member.term) r.member → AdvancesAs p r
goes_on p q r left as_far still at letters to i =
    let so_far = as_far i in (
      so_far.0 ++ choice q.member.thread left ∷ [],
      so_far.1 ∙ ap (λ ls. with_labels so_far.0 (by_letters i q.member ls)) letters
          ∙ ap (with_labels so_far.0) (takes_letter i q.member r.member left r.letters still at to)
          ∙ sym (one_more_label (choice q.member.thread left) so_far.0 (letters_from i r)),
    )

-- the letters from a place on
pub letters_here : (letters : List Bool) (j : ℕ) (left : Bool) → j < length letters → left ≡ get_or letters j left → drop j letters ≡ left ∷ drop (j + 1) letters
letters_here letters j left within is =
    drop-cons letters j left within ∙ ap (λ x. x ∷ drop (suc j) letters) (sym is) ∙ ap (λ k. left ∷ drop k letters) (sym (add-one j))
