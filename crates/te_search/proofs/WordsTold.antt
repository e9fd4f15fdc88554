-- The letters and the meetings of a list of moves, one by one.
use Rattle.std.proofs.Common.{◌≡◌, ℕ, zero, suc, ◌+◌, List, [], ◌∷◌, ◌++◌, map, take, Bool, true}
use Rattle.std.proofs.Common.{false, cond, Some, None, slice_get, refl, ap, ap₂, sym, ◌∙◌, subst, nat_eq, append-nil}
use Rattle.te_terms.specs.Steps as steps
use Rattle.te_terms.specs.Joint.{Label, choice, meeting}
use Rattle.te_cert.specs.declared.cert.Meeting.{Meeting}
use Rattle.te_cert.specs.Certs.{letters_of, place_of, meetings_of}
use Rattle.te_trail.specs.declared.moves.Move.{Move}
use Rattle.te_trail.specs.Trails.{label_of}
use Rattle.te_search.specs.Picks.{AreMeetingsOf, AreMeets, TellsMeeting}
use Rattle.te_search.proofs.Working.{map_both}
use Rattle.te_search.proofs.NumbersListed.{take_one}

letters_both : (t : ℕ) (a b : List Label) → letters_of t (a ++ b) ≡ letters_of t a ++ letters_of t b
letters_both t [] b = refl
letters_both t (choice u l ∷ a) b = go (nat_eq u t) (letters_both t a b)
  where
    go : (o : Bool) → letters_of t (a ++ b) ≡ letters_of t a ++ letters_of t b → cond o (l ∷ letters_of t (a ++ b)) (letters_of t (a ++ b)) ≡ cond o (l ∷ letters_of t a)
        (letters_of t a) ++ letters_of t b
    go true e = ap (λ r. l ∷ r) e
    go false e = e
letters_both t (meeting s r ∷ a) b = letters_both t a b

meetings_both : (group : List steps.Member) (a b : List Label) → meetings_of group (a ++ b) ≡ meetings_of group a ++ meetings_of group b
meetings_both group [] b = refl
meetings_both group (choice u l ∷ a) b = meetings_both group a b
meetings_both group (meeting s r ∷ a) b = ap (λ k. record { sender = place_of s group; receiver = place_of r group } ∷ k) (meetings_both group a b)

labels_one : (word : List Move) (i : ℕ) (m : Move) → slice_get word i ≡ Some m → map label_of (take (i + 1) word) ≡ map label_of (take i word) ++ (label_of m ∷ [])
labels_one word i m e = ap (map label_of) (take_one word i m e) ∙ map_both label_of (take i word) (m ∷ [])

pub letters_none : (t : ℕ) (word : List Move) (i : ℕ) (m : Move) (so : List Bool) → slice_get word i ≡ Some m → so ≡ letters_of t (map label_of (take i word))
    → letters_of t (label_of m ∷ []) ≡ [] → so ≡ letters_of t (map label_of (take (i + 1) word))
letters_none t word i m so e is none = is ∙ sym (append-nil (letters_of t (map label_of (take i word)))) ∙ ap (λ r. letters_of t (map label_of (take i word)) ++ r) (sym none)
    ∙ sym (letters_both t (map label_of (take i word)) (label_of m ∷ [])) ∙ ap (letters_of t) (sym (labels_one word i m e))

pub letters_one : (t : ℕ) (word : List Move) (i : ℕ) (m : Move) (so more : List Bool) (left : Bool) → slice_get word i ≡ Some m → so ≡ letters_of t (map label_of (take i word))
    → more ≡ so ++ (left ∷ []) → letters_of t (label_of m ∷ []) ≡ left ∷ [] → more ≡ letters_of t (map label_of (take (i + 1) word))
letters_one t word i m so more left e is push one = push ∙ ap₂ (λ a b. a ++ b) is (sym one) ∙ sym (letters_both t (map label_of (take i word)) (label_of m ∷ []))
    ∙ ap (letters_of t) (sym (labels_one word i m e))

pub meets_none : (names : List ℕ) (word : List Move) (i : ℕ) (m : Move) (so : List Meeting) → slice_get word i ≡ Some m → AreMeets names (map label_of (take i word)) so
    → TellsMeeting names (label_of m) None → AreMeets names (map label_of (take (i + 1) word)) so
meets_none names word i m so e is none group n = is group n ∙ sym (append-nil (meetings_of group (map label_of (take i word))))
    ∙ ap (λ r. meetings_of group (map label_of (take i word)) ++ r) (sym (none group)) ∙ sym (meetings_both group (map label_of (take i word)) (label_of m ∷ []))
    ∙ ap (meetings_of group) (sym (labels_one word i m e))

pub meets_one : (names : List ℕ) (word : List Move) (i : ℕ) (m : Move) (so more : List Meeting) (met : Meeting) → slice_get word i ≡ Some m
    → AreMeets names (map label_of (take i word)) so → more ≡ so ++ (met ∷ []) → TellsMeeting names (label_of m) (Some met) → AreMeets names (map label_of (take (i + 1) word)) more
meets_one names word i m so more met e is push one group n = push ∙ ap₂ (λ a b. a ++ b) (is group n) (sym (one group n))
    ∙ sym (meetings_both group (map label_of (take i word)) (label_of m ∷ [])) ∙ ap (meetings_of group) (sym (labels_one word i m e))

pub meetings_at : (names : List ℕ) (word : List Move) (i : ℕ) (m : Move) → slice_get word i ≡ Some m → AreMeetingsOf names (map label_of word) → AreMeetingsOf names (label_of m ∷ [])
meetings_at names [] i m e a = cc
meetings_at names (n ∷ word) zero m e a = (let one : n ≡ m = cc in subst (λ k. AreMeetingsOf names (label_of k ∷ [])) one (first names (label_of n) (map label_of word) a))
  where
    first : (names : List ℕ) (l : Label) (rest : List Label) → AreMeetingsOf names (l ∷ rest) → AreMeetingsOf names (l ∷ [])
    first names (choice t left) rest a = tt
    first names (meeting s r) rest a = (a.0, a.1, tt)
meetings_at names (n ∷ word) (suc i) m e a = meetings_at names word i m e (later names (label_of n) (map label_of word) a)
  where
    later : (names : List ℕ) (l : Label) (rest : List Label) → AreMeetingsOf names (l ∷ rest) → AreMeetingsOf names rest
    later names (choice t left) rest a = a
    later names (meeting s r) rest a = a.2
