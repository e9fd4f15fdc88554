-- An advance ends where no quiet step is left and there is no choice.
use Rattle.std.proofs.Common.{◌≡◌, ℕ, Bool, true, false, List, [], ◌∷◌, Option, Some, None, Result, Ok, Err, refl, sym, ap, ◌∙◌, subst}
use Rattle.std.specs.Option.{option_map}
use Rattle.te_terms.specs.Terms.{Term, choose}
use Rattle.te_terms.specs.Steps.{Member, at_term, IsSettled, with_head, head}
use Rattle.te_terms.specs.Joint.{choice, chosen_from, after_choice}
use Rattle.te_terms.specs.Settling.{settled, CannotChoose}
use Rattle.te_terms.proofs.Settles.{settled_is_settled}
use Rattle.te_cert.specs.Play.{PlayFault, Player, choice_of, Advance, with_label, advanced}
use Rattle.te_cert.specs.Advances.{by_letters, with_letter, without_letter}
use Rattle.te_cert.proofs.Advancing.{advanced_is}

pub record HasEnded (m : Member) : Type 0 where
  pub settled_so : IsSettled m
  pub no_choice : CannotChoose m.term

-- where one branch isn't there, neither is the other
neither_left : (h : Term) → chosen_from true h ≡ None → (left : Bool) → chosen_from left h ≡ None
neither_left (choose e f) none left = absurd cc
neither_left _ none true = none
neither_left _ none false = refl

neither_right : (h : Term) → chosen_from false h ≡ None → (left : Bool) → chosen_from left h ≡ None
neither_right (choose e f) none left = absurd cc
neither_right _ none true = refl
neither_right _ none false = none

unplaced : (t : Term) (o : Option Term) → option_map (λ u. with_head u t) o ≡ None → o ≡ None
unplaced t None e = refl
unplaced t (Some u) e = absurd cc

by_one : (t : Term) (left : Bool) → after_choice left t ≡ None → CannotChoose t
by_one t true none side = ap (option_map (λ u. with_head u t)) (neither_left (head t) (unplaced t (chosen_from true (head t)) none) side)
by_one t false none side = ap (option_map (λ u. with_head u t)) (neither_right (head t) (unplaced t (chosen_from false (head t)) none) side)

-- an answer that is Ok ends so
abbrev Ends : Result Advance PlayFault → Type 0
Ends r = (a : Advance) → r ≡ Ok a → HasEnded a.player.member

stays : (s : Member) (letters : List Bool) → HasEnded s → Ends (Ok (record { player = record { member = s; letters = letters }; word = [] }))
stays s letters ended a e = let is : record { player = record { member = s; letters = letters }; word = [] } ≡ a = cc in subst (λ x. HasEnded x.player.member) is ended

labelled : (left : Bool) (t : ℕ) (r : Result Advance PlayFault) → Ends r → Ends (with_label (choice t left) r)
labelled left t (Err f) more a e = absurd cc
labelled left t (Ok b) more a e = let is : record { player = b.player; word = choice t left ∷ b.word } ≡ a = cc in subst (λ x. HasEnded x.player.member) is (more b refl)

without_ends : (i : ℕ) (s : Member) (e f : Option Term) → IsSettled s → after_choice true s.term ≡ e → after_choice false s.term ≡ f → Ends (without_letter i s (choice_of s e f))
without_ends i s (Some e) (Some f) still left right = λ a p. absurd cc
without_ends i s None f still left right = stays s [] (record { settled_so = still; no_choice = by_one s.term true left })
without_ends i s (Some e) None still left right = stays s [] (record { settled_so = still; no_choice = by_one s.term false right })

with_ends : (go : Member → Result Advance PlayFault) (l : Bool) (letters : List Bool) (s : Member) (e f : Option Term) → IsSettled s → after_choice true s.term ≡ e → after_choice false s.term ≡ f →
    ((n : Member) → Ends (go n)) → Ends (with_letter go l letters s (choice_of s e f))
with_ends go true letters s (Some e) (Some f) still left right more = labelled true s.thread (go (at_term s e)) (more (at_term s e))
with_ends go false letters s (Some e) (Some f) still left right more = labelled false s.thread (go (at_term s f)) (more (at_term s f))
with_ends go l letters s None f still left right more = stays s (l ∷ letters) (record { settled_so = still; no_choice = by_one s.term true left })
with_ends go l letters s (Some e) None still left right more = stays s (l ∷ letters) (record { settled_so = still; no_choice = by_one s.term false right })

letters_end : (i : ℕ) (m : Member) (letters : List Bool) → Ends (by_letters i m letters)
letters_end i m [] = without_ends i (settled m) (after_choice true (settled m).term) (after_choice false (settled m).term) (settled_is_settled m) refl refl
letters_end i m (l ∷ letters) =
    with_ends (λ n. by_letters i n letters) l letters (settled m) (after_choice true (settled m).term) (after_choice false (settled m).term)
    (settled_is_settled m) refl refl (λ n. letters_end i n letters)

pub advance_ends : (i : ℕ) (p : Player) (a : Advance) → advanced i p ≡ Ok a → HasEnded a.player.member
advance_ends i p a e = letters_end i p.member p.letters a (sym (advanced_is i p) ∙ e)
