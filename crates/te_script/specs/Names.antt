-- How the channels, threads and registers of a script may be called. All of it is this project's own language.
use Rattle.std.specs.Prelude.{◌≡◌, ◌≢◌, ℕ, ◌≤◌, ◌==◌, ◌||◌, Bool, true, List, [], ◌∷◌, length, codes}
use Rattle.std.specs.List.{AllByRecursion}
use Rattle.std.specs.Char.{is_ascii_alphabetic, is_ascii_alphanumeric}
use Rattle.te_terms.specs.Limits.{longest_name}

-- the words that no name may be
abbrev pub reserved_words : List (List ℕ)
reserved_words =
    codes "channels" ∷ codes "thread" ∷ codes "sync" ∷ codes "emit" ∷ codes "always" ∷ codes "never" ∷ codes "throw" ∷ codes "send" ∷ codes "recv"
    ∷ codes "do" ∷ codes "choose" ∷ codes "try" ∷ codes "catch" ∷ codes "if" ∷ codes "else" ∷ codes "fresh" ∷ codes "repeat" ∷ []

-- a letter, a digit or `_`
abbrev pub is_word_byte : ℕ → Bool
is_word_byte b = is_ascii_alphanumeric b || (b == 95)

-- a letter, then letters, digits and `_`; no reserved word
abbrev pub IsIdentifier : List ℕ → Type 0
IsIdentifier [] = ⊥
IsIdentifier (b ∷ bs) =
    (is_ascii_alphabetic b ≡ true) × AllByRecursion (λ x. is_word_byte x ≡ true) bs × AllByRecursion (λ w. w ≢ b ∷ bs) reserved_words

-- an identifier of at most 32 bytes
pub record IsName (n : List ℕ) : Type 0 where
  pub identifier : IsIdentifier n
  pub short : length n ≤ longest_name
