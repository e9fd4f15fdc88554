-- What is passed over at once: a space, the bytes of a word, and the first token.
use Rattle.std.proofs.Common.{◌≡◌, ◌≢◌, ℕ, suc, ◌+◌, ◌<◌, ◌≤◌, Bool, true, false, ◌&&◌, nat_eq, List, [], ◌∷◌, length, get_or, drop, refl, ap, arith, drop-cons, add-one}
use Rattle.std.specs.Str.{bytes_eq}
use Rattle.std.proofs.lemmas.List.{drop_all}
use Rattle.std.proofs.lemmas.Bool.{ne_eqb}
use Rattle.std.proofs.lemmas.Bool.Decides.{nat_tests}
use Rattle.te_reader.specs.declared.token.Lexeme.{Lexeme}
use Rattle.te_reader.specs.declared.token.Lexeme.TheVariants as lexemes
use Rattle.te_reader.specs.Lexed.{Stream, lexed_behind, lexed, stream_headed}
use Rattle.te_reader.specs.Spots.{spots_behind, spots}

-- ---- the gap before a token

-- a space is a gap
pub space_goes : (text : List ℕ) → 1 < length text → get_or text 0 0 ≡ 32 → (lexed (drop 1 text) ≡ lexed text) × (spots (drop 1 text) ≡ spots text)
unfolding lexed_behind spots_behind
space_goes [] h e = absurd (omega arith)
space_goes (x ∷ xs) h e = (rw e refl, rw e refl)

-- ---- bytes compared one by one

nat_eq_self : (n : ℕ) → nat_eq n n ≡ true
nat_eq_self n = grind (arith, nat_tests)

-- the bytes from a place on are the same where those in front were
pub same_goes : (i : ℕ) (a b : List ℕ) → i < length a → i < length b → get_or a i 0 ≡ get_or b i 0 → bytes_eq (drop i a) (drop i b) ≡ bytes_eq (drop (i + 1) a) (drop (i + 1) b)
same_goes i a b h k e = rw (add-one, drop-cons a i 0 h, drop-cons b i 0 k, e, nat_eq_self (get_or b i 0)) refl

pub differs : (i : ℕ) (a b : List ℕ) → i < length a → i < length b → get_or a i 0 ≢ get_or b i 0 → bytes_eq (drop i a) (drop i b) ≡ false
differs i a b h k e = rw (drop-cons a i 0 h, drop-cons b i 0 k, ne_eqb (get_or a i 0) (get_or b i 0) e) refl

pub all_same : (i : ℕ) (a b : List ℕ) → length a ≤ i → length b ≤ i → bytes_eq (drop i a) (drop i b) ≡ true
all_same i a b h k = rw (drop_all i a h, drop_all i b k) refl

pub other_length : (a b : List ℕ) → length a ≢ length b → bytes_eq a b ≡ false
other_length [] [] h = absurd (h refl)
other_length [] (y ∷ ys) h = refl
other_length (x ∷ xs) [] h = refl
other_length (x ∷ xs) (y ∷ ys) h = by (nat_eq x y) (other_length xs ys (λ e. h (ap suc e))) where
  by : (b : Bool) → bytes_eq xs ys ≡ false → (b && bytes_eq xs ys) ≡ false
  by true e = e
  by false e = refl

-- ---- behind the first token

pub behind_head : (l : Lexeme) (s : Stream) → 0 < length (stream_headed l s).tokens → s ≡ record (stream_headed l s) { tokens = drop 1 (stream_headed l s).tokens }
behind_head (lexemes.Word w) s h = refl
behind_head (lexemes.Name n) s h = refl
behind_head (lexemes.Inner n) s h = refl
behind_head (lexemes.Integer n) s h = refl
behind_head (lexemes.Sign g) s h = refl
behind_head lexemes.End s h = absurd (omega arith)
behind_head (lexemes.Other b) s h = absurd (omega arith)
