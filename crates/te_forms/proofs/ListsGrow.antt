-- Lists that a loop makes of the items before a place, with one item more.
use Rattle.std.proofs.Common.{◌≡◌, ℕ, zero, suc, ◌+◌, Bool, List, [], ◌∷◌, ◌++◌, take, map, Option, Some, None, sym, ap, ◌∙◌, add-one}
use Rattle.std.specs.Prelude.{slice_get, filter_map}
use Rattle.std.specs.List.{cons_option}
use Rattle.std.specs.Option.{option_map}
use Rattle.te_cert.specs.declared.cert.Member.{Member}
use Rattle.te_cert.specs.declared.cert.Meeting.{Meeting}
use Rattle.te_forms.specs.declared.pair.Handed.{Handed}

some_next : (f : Meeting → Option Handed) (xs : List Meeting) (i : ℕ) (x : Meeting) (h : Handed) → slice_get xs i ≡ Some x → f x ≡ Some h
    → filter_map f (take (suc i) xs) ≡ filter_map f (take i xs) ++ h ∷ []
some_next f [] i x h at is = absurd cc
some_next f (y ∷ ys) zero x h at is =
    let same : y ≡ x = cc in ap (λ (z : Meeting). cons_option (f z) []) same ∙ ap (λ (o : Option Handed). cons_option o []) is
some_next f (y ∷ ys) (suc i) x h at is = by_first (f y) (some_next f ys i x h at is)
  where
    by_first : (o : Option Handed) → filter_map f (take (suc i) ys) ≡ filter_map f (take i ys) ++ h ∷ []
        → cons_option o (filter_map f (take (suc i) ys)) ≡ cons_option o (filter_map f (take i ys)) ++ h ∷ []
    by_first None rest = rest
    by_first (Some g) rest = ap (λ (hs : List Handed). g ∷ hs) rest

none_next : (f : Meeting → Option Handed) (xs : List Meeting) (i : ℕ) (x : Meeting) → slice_get xs i ≡ Some x → f x ≡ None
    → filter_map f (take (suc i) xs) ≡ filter_map f (take i xs)
none_next f [] i x at is = absurd cc
none_next f (y ∷ ys) zero x at is =
    let same : y ≡ x = cc in ap (λ (z : Meeting). cons_option (f z) []) same ∙ ap (λ (o : Option Handed). cons_option o []) is
none_next f (y ∷ ys) (suc i) x at is = ap (cons_option (f y)) (none_next f ys i x at is)

pub pairs_some : (f : Meeting → Option Handed) (xs : List Meeting) (i : ℕ) (x : Meeting) (h : Handed) (old new : List Handed) → slice_get xs i ≡ Some x → f x ≡ Some h
    → old ≡ filter_map f (take i xs) → new ≡ old ++ h ∷ [] → new ≡ filter_map f (take (i + 1) xs)
pairs_some f xs i x h old new at is so_far pushed =
    pushed ∙ ap (λ (hs : List Handed). hs ++ h ∷ []) so_far ∙ sym (some_next f xs i x h at is) ∙ ap (λ (n : ℕ). filter_map f (take n xs)) (sym (add-one i))

pub pairs_none : (f : Meeting → Option Handed) (xs : List Meeting) (i : ℕ) (x : Meeting) (old : List Handed) → slice_get xs i ≡ Some x → f x ≡ None
    → old ≡ filter_map f (take i xs) → old ≡ filter_map f (take (i + 1) xs)
pairs_none f xs i x old at is so_far =
    so_far ∙ sym (none_next f xs i x at is) ∙ ap (λ (n : ℕ). filter_map f (take n xs)) (sym (add-one i))

mark_next : (f : ℕ → Bool) (xs : List Member) (i t : ℕ) → option_map (λ m. m.thread) (slice_get xs i) ≡ Some t
    → map (λ m. f m.thread) (take (suc i) xs) ≡ map (λ m. f m.thread) (take i xs) ++ f t ∷ []
mark_next f [] i t at = absurd cc
mark_next f (y ∷ ys) zero t at = let same : y.thread ≡ t = cc in ap (λ (k : ℕ). f k ∷ []) same
mark_next f (y ∷ ys) (suc i) t at = ap (λ (bs : List Bool). f y.thread ∷ bs) (mark_next f ys i t at)

pub marks_more : (f : ℕ → Bool) (xs : List Member) (i t : ℕ) (b : Bool) (old new : List Bool) → option_map (λ m. m.thread) (slice_get xs i) ≡ Some t → f t ≡ b
    → old ≡ map (λ m. f m.thread) (take i xs) → new ≡ old ++ b ∷ [] → new ≡ map (λ m. f m.thread) (take (i + 1) xs)
marks_more f xs i t b old new at is so_far pushed =
    pushed ∙ ap (λ (bs : List Bool). bs ++ b ∷ []) so_far ∙ ap (λ (c : Bool). map (λ m. f m.thread) (take i xs) ++ c ∷ []) (sym is)
    ∙ sym (mark_next f xs i t at) ∙ ap (λ (n : ℕ). map (λ m. f m.thread) (take n xs)) (sym (add-one i))
