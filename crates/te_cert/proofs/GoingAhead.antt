-- How far a member gets by its letters: what a step back along a chain changes of it.
use Rattle.std.proofs.Common.{◌≡◌, ℕ, Bool, true, false, cond, List, [], ◌∷◌, Some, Ok, refl, sym, ap, subst, ◌∙◌, ne_eqb, eq-eqb}
use Rattle.std.specs.Option.{option_map}
use Rattle.te_terms.specs.Terms.{Term, choose}
use Rattle.te_terms.specs.Steps.{Member, IsSettled, quiet_step, with_head, at_term}
use Rattle.te_terms.specs.Joint.{Label, choice, after_choice, chosen_from}
use Rattle.te_terms.specs.Settling.{settled, CannotChoose}
use Rattle.te_terms.proofs.QuietStepsEnd.{step_stays}
use Rattle.te_terms.proofs.Settles.{settled_already, settled_after}
use Rattle.te_terms.proofs.OneThing.{choice_is, choice_rests}
use Rattle.te_cert.specs.Play.{Player, choice_of, with_label}
use Rattle.te_cert.specs.Certs.{letters_of}
use Rattle.te_cert.specs.Advances.{by_letters, without_letter, with_letter}

-- by its letters the member becomes this player, wherever it stands
pub record Becomes (m : Member) (letters : List Bool) (p : Player) : Type 0 where
  pub word : List Label
  pub goes : (i : ℕ) → by_letters i m letters ≡ Ok (record { player = p; word = word })

-- by its letters among these labels
abbrev pub IsAhead : List Label → Member → Player → Type 0
IsAhead word m p = Becomes m (letters_of m.thread word) p

-- ---- a member that can't choose stands, with all its letters

abbrev pub as_it_stands : List Label → Member → Player
as_it_stands word m = record { member = m; letters = letters_of m.thread word }

stands_still : (i : ℕ) (m : Member) (letters : List Bool) → settled m ≡ m → CannotChoose m.term →
    by_letters i m letters ≡ Ok (record { player = record { member = m; letters = letters }; word = [] })
stands_still i m [] at none = rw (at, none true) refl
stands_still i m (left ∷ letters) at none = rw (at, none true) refl

pub ahead_as_it_stands : (word : List Label) (m : Member) → IsSettled m → CannotChoose m.term → IsAhead word m (as_it_stands word m)
ahead_as_it_stands word m rests none = record { word = []; goes = λ i. stands_still i m (letters_of m.thread word) (settled_already m rests) none }

-- ---- before a quiet step

-- only what a member settles as counts
pub as_settled : (i : ℕ) (m n : Member) (letters : List Bool) → settled m ≡ settled n → by_letters i m letters ≡ by_letters i n letters
as_settled i m n [] e = ap (λ s. without_letter i s (choice_of s (after_choice true s.term) (after_choice false s.term))) e
as_settled i m n (left ∷ letters) e =
    ap (λ s. with_letter (λ k. by_letters i k letters) left letters s (choice_of s (after_choice true s.term) (after_choice false s.term))) e

pub ahead_before_quiet : (word : List Label) (m n : Member) (p : Player) → quiet_step m ≡ Some n → IsAhead word n p → IsAhead word m p
ahead_before_quiet word m n p step ahead = record {
  word = ahead.word;
  goes = λ i.
      as_settled i m n (letters_of m.thread word) (sym (settled_after m n step))
      ∙ ap (λ t. by_letters i n (letters_of t word)) (sym (step_stays m n step).0) ∙ ahead.goes i;
}

-- ---- before a choice

taken : (left : Bool) (t a b u : Term) → after_choice true t ≡ Some a → after_choice false t ≡ Some b → after_choice left t ≡ Some u → cond left a b ≡ u
taken true t a b u p q r = let both : Some a ≡ Some u = sym p ∙ r in cc
taken false t a b u p q r = let both : Some b ≡ Some u = sym q ∙ r in cc

-- both choices are open where one is
chosen_both : (left : Bool) (t u : Term) → after_choice left t ≡ Some u →
    (a : Term) × (b : Term) × (after_choice true t ≡ Some a) × (after_choice false t ≡ Some b) × (cond left a b ≡ u)
chosen_both left t u p =
    let is = choice_is left t u p in
    let at : (side : Bool) → after_choice side t ≡ option_map (λ v. with_head v t) (chosen_from side (choose is.0 is.1.0)) =
    λ side. ap (λ h. option_map (λ v. with_head v t) (chosen_from side h)) is.1.1 in
    (with_head is.0 t, with_head is.1.0 t, at true, at false, taken left t (with_head is.0 t) (with_head is.1.0 t) u (at true) (at false) p)

-- at a choice the first letter is taken
by_first_letter : (i : ℕ) (m : Member) (left : Bool) (letters : List Bool) (a b u : Term) → settled m ≡ m → after_choice true m.term ≡ Some a →
    after_choice false m.term ≡ Some b → cond left a b ≡ u →
    by_letters i m (left ∷ letters) ≡ with_label (choice m.thread left) (by_letters i (at_term m u) letters)
by_first_letter i m true letters a b u at p q is = rw (at, p, q, is) refl
by_first_letter i m false letters a b u at p q is = rw (at, p, q, is) refl

pub ahead_before_choice : (word : List Label) (m : Member) (left : Bool) (u : Term) (p : Player) → after_choice left m.term ≡ Some u →
    IsAhead word (at_term m u) p → IsAhead (choice m.thread left ∷ word) m p
ahead_before_choice word m left u p chosen ahead =
    let letters = letters_of m.thread word in
    let both = chosen_both left m.term u chosen in
    let at = settled_already m ((choice_rests m left m.term u chosen).0.0) in
    let goes_on : Becomes m (left ∷ letters) p = record {
      word = choice m.thread left ∷ ahead.word;
      goes = λ i. by_first_letter i m left letters both.0 both.1 u at both.2 both.3 both.4 ∙ ap (with_label (choice m.thread left)) (ahead.goes i);
    } in
    subst (λ ls. Becomes m ls p) (ap (λ b. cond b (left ∷ letters) letters) (sym (eq-eqb m.thread m.thread refl))) goes_on

-- a choice of another thread
pub ahead_before_other : (word : List Label) (t : ℕ) (left : Bool) (m : Member) (p : Player) → (t ≡ m.thread → ⊥) → IsAhead word m p →
    IsAhead (choice t left ∷ word) m p
ahead_before_other word t left m p apart ahead =
    let letters = letters_of m.thread word in
    subst (λ ls. Becomes m ls p) (ap (λ b. cond b (left ∷ letters) letters) (sym (ne_eqb t m.thread apart))) ahead
