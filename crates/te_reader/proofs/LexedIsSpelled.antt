-- A text that is lexed to its end spells the tokens, and a text that spells some tokens is lexed as these.
use Rattle.std.proofs.Common.{◌≡◌, ◌≢◌, ℕ, zero, suc, pred, ◌<◌, Bool, true, false, List, [], ◌∷◌, ◌++◌, length, drop, refl, sym, ◌∙◌, ap, subst, arith, inl, inr}
use Rattle.std.specs.Prelude.{◌==◌, if◌then◌else◌}
use Rattle.std.proofs.lemmas.Bool.{eqb-true, eqb-false}
use Rattle.te_reader.specs.declared.token.Sign.TheVariants as signs
use Rattle.te_reader.specs.Tokens.{Token, integer, sign, spelling, IsToken, Between, in_blanks, in_comment, is_blank, IsGap, IsLongest, Spells}
use Rattle.std.specs.Char.{is_ascii_alphabetic, is_ascii_digit}
use Rattle.te_reader.specs.Lexed.{Piece, gap, found, other, less_sign, minus_sign, one_sign, byte_run, token_at, piece_at, place_after, bytes_after, before, lexed_behind, lexed}
use Rattle.te_reader.proofs.LongestTokens.{limit, token_found, longest_found}

-- the same, from a place that may stand in a comment
pub record BeginsFrom (place : Between) (t : Token) (rest : List ℕ) (text : List ℕ) : Type 0 where
  pub gap : List ℕ
  pub is_split : text ≡ gap ++ (spelling t ++ rest)
  pub is_gap : IsGap place gap
  pub is_token : IsToken t
  pub is_longest : IsLongest t (spelling t ++ rest)

abbrev pub SpellsFrom : Between → List Token → List ℕ → Type 0
SpellsFrom place [] text = IsGap place (text ++ 10 ∷ [])
SpellsFrom place (t ∷ ts) text = (rest : List ℕ) × BeginsFrom place t rest text × Spells ts rest

spells_from_blanks : (ts : List Token) (text : List ℕ) → SpellsFrom in_blanks ts text → Spells ts text
spells_from_blanks [] text h = h
spells_from_blanks (t ∷ ts) text h = let b = h.1 in (h.0, record { gap = b.gap; is_split = b.is_split; is_gap = b.is_gap; is_token = b.is_token; is_longest = b.is_longest }, h.2)

-- a byte after which a gap goes on
abbrev pub Steps : Between → ℕ → Between → Type 0
Steps place b next = (gap_bytes : List ℕ) → IsGap next gap_bytes → IsGap place (b ∷ gap_bytes)

-- a token is no gap
neither : (next : Between) (v : Bool) (x y : Piece) → (x ≡ gap next → ⊥) → (y ≡ gap next → ⊥) → (if v then x else y) ≡ gap next → ⊥
neither next true x y f g = f
neither next false x y f g = g

less_no_gap : (next : Between) (bs : List ℕ) → less_sign bs ≡ gap next → ⊥
less_no_gap next [] = λ e. cc
less_no_gap next (b ∷ bs) = neither next (b == 45) (found (sign signs.Arrow)) (found (sign signs.Less)) (λ e. cc) (λ e. cc)

minus_no_gap : (next : Between) (bs : List ℕ) → minus_sign bs ≡ gap next → ⊥
minus_no_gap next [] = λ e. cc
minus_no_gap next (b ∷ bs) = neither next (is_ascii_digit b) (found (integer (45 ∷ byte_run is_ascii_digit b bs))) (found (sign signs.Minus)) (λ e. cc) (λ e. cc)

sign_no_gap : (next : Between) (b : ℕ) → one_sign b ≡ gap next → ⊥
sign_no_gap next b =
    neither next (b == 123) _ _ (λ e. cc) (
    neither next (b == 125) _ _ (λ e. cc) (
    neither next (b == 40) _ _ (λ e. cc) (
    neither next (b == 41) _ _ (λ e. cc) (
    neither next (b == 59) _ _ (λ e. cc) (
    neither next (b == 44) _ _ (λ e. cc) (
    neither next (b == 46) _ _ (λ e. cc) (
    neither next (b == 61) _ _ (λ e. cc) (
    neither next (b == 43) _ _ (λ e. cc) (
    neither next (b == 42) _ _ (λ e. cc) (
    neither next (b == 124) _ _ (λ e. cc) (
    λ e. cc)))))))))))

pub token_no_gap : (next : Between) (b : ℕ) (bs : List ℕ) → token_at b bs ≡ gap next → ⊥
token_no_gap next b bs =
    neither next (is_ascii_alphabetic b) _ _ (λ e. cc)
    (neither next (is_ascii_digit b) _ _ (λ e. cc)
    (neither next (b == 60) _ _ (less_no_gap next bs) (neither next (b == 45) _ _ (minus_no_gap next bs) (neither next (b == 95) _ _ (λ e. cc) (sign_no_gap next b)))))

pub steps_of : (place next : Between) (b : ℕ) (bs : List ℕ) → piece_at place b bs ≡ gap next → Steps place b next
steps_of in_comment next b bs e = by (b == 10) (eqb-true b 10) (eqb-false b 10) e where
  by : (v : Bool) → (v ≡ true → b ≡ 10) → (v ≡ false → b ≢ 10) → (if v then gap in_blanks else gap in_comment) ≡ gap next → Steps in_comment b next
  by true same unlike e = let n : in_blanks ≡ next = cc in subst (λ (x : Between). Steps in_comment b x) n (λ g h. inl (same refl, h))
  by false same unlike e = let n : in_comment ≡ next = cc in subst (λ (x : Between). Steps in_comment b x) n (λ g h. inr (unlike refl, h))
steps_of in_blanks next b bs e = blank (is_blank b) refl e where
  hash : (v : Bool) → (v ≡ true → b ≡ 35) → (if v then gap in_comment else token_at b bs) ≡ gap next → Steps in_blanks b next
  hash true same e = let n : in_comment ≡ next = cc in subst (λ (x : Between). Steps in_blanks b x) n (λ g h. inr (same refl, h))
  hash false same e = absurd (token_no_gap next b bs e)

  blank : (v : Bool) → is_blank b ≡ v → (if v then gap in_blanks else (if b == 35 then gap in_comment else token_at b bs)) ≡ gap next → Steps in_blanks b next
  blank true f e = let n : in_blanks ≡ next = cc in subst (λ (x : Between). Steps in_blanks b x) n (λ g h. inl (f, h))
  blank false f e = hash (b == 35) (eqb-true b 35) e

-- a found token stands among blanks, where the lexer looks for tokens
pub token_of : (place : Between) (b : ℕ) (bs : List ℕ) (t : Token) → piece_at place b bs ≡ found t → (place ≡ in_blanks) × (token_at b bs ≡ found t)
token_of in_comment b bs t e = by (b == 10) e where
  by : (v : Bool) → (if v then gap in_blanks else gap in_comment) ≡ found t → (in_comment ≡ in_blanks) × (token_at b bs ≡ found t)
  by true e = absurd cc
  by false e = absurd cc
token_of in_blanks b bs t e = blank (is_blank b) e where
  hash : (v : Bool) → (if v then gap in_comment else token_at b bs) ≡ found t → (in_blanks ≡ in_blanks) × (token_at b bs ≡ found t)
  hash true e = absurd cc
  hash false e = (refl, e)

  blank : (v : Bool) → (if v then gap in_blanks else (if b == 35 then gap in_comment else token_at b bs)) ≡ found t → (in_blanks ≡ in_blanks) × (token_at b bs ≡ found t)
  blank true e = absurd cc
  blank false e = hash (b == 35) e

-- one byte of a gap before
gap_before : (place next : Between) (b : ℕ) (ts : List Token) (bs : List ℕ) → Steps place b next → SpellsFrom next ts bs → SpellsFrom place ts (b ∷ bs)
gap_before place next b [] bs step h = step (bs ++ 10 ∷ []) h
gap_before place next b (t ∷ ts) bs step h =
    let k = h.1 in
    (h.0, record { gap = b ∷ k.gap; is_split = ap (λ x. b ∷ x) k.is_split; is_gap = step k.gap k.is_gap; is_token = k.is_token; is_longest = k.is_longest }, h.2)

-- one token before
token_before : (b : ℕ) (bs : List ℕ) (t : Token) (ts : List Token) → token_at b bs ≡ found t → SpellsFrom in_blanks ts (drop (pred (length (spelling t))) bs) → SpellsFrom in_blanks (t ∷ ts) (b ∷ bs)
token_before b bs t ts e h =
    let f = token_found b bs t e in
    let rest_is : drop (limit b bs) bs ≡ drop (pred (length (spelling t))) bs = ap (λ n. drop (pred n) bs) (sym f.long) in
    let split : b ∷ bs ≡ spelling t ++ drop (pred (length (spelling t))) bs = f.split ∙ ap (λ x. spelling t ++ x) rest_is in (
      drop (pred (length (spelling t))) bs,
      record { gap = []; is_split = split; is_gap = tt; is_token = f.is_token; is_longest = rw (← split) (longest_found b bs t e) },
      spells_from_blanks ts (drop (pred (length (spelling t))) bs) h,
    )

pub ends_gap : (place : Between) → IsGap place (10 ∷ [])
ends_gap in_blanks = inl (refl, tt)
ends_gap in_comment = inl (refl, tt)

-- a text that is lexed to its end spells what was lexed
spelled_from : (place : Between) (skipped : ℕ) (text : List ℕ) → (0 < skipped → place ≡ in_blanks)
    → (lexed_behind place skipped text).whole ≡ true → SpellsFrom place (lexed_behind place skipped text).tokens
    (drop skipped text)
unfolding lexed_behind
spelled_from place zero [] only e = ends_gap place
spelled_from place (suc k) [] only e = ends_gap place
spelled_from place (suc k) (b ∷ bs) only e = spelled_from place k bs (λ h. only (omega arith)) e
spelled_from place zero (b ∷ bs) only e = by (piece_at place b bs) refl e (spelled_from (place_after (piece_at place b bs)) (bytes_after (piece_at place b bs)) bs) where
  by : (p : Piece) → piece_at place b bs ≡ p → (before p (lexed_behind (place_after p) (bytes_after p) bs)).whole ≡ true
      → ((0 < bytes_after p → place_after p ≡ in_blanks) → (lexed_behind (place_after p) (bytes_after p) bs).whole
      ≡ true → SpellsFrom (place_after p) (lexed_behind (place_after p) (bytes_after p) bs).tokens
      (drop (bytes_after p) bs))
      → SpellsFrom place (before p (lexed_behind (place_after p) (bytes_after p) bs)).tokens (b ∷ bs)
  by (gap next) f e later = gap_before place next b _ bs (steps_of place next b bs f) (later (λ h. absurd (omega arith)) e)
  by (found t) f e later =
      let k = token_of place b bs t f in
      rw k.0 (token_before b bs t _ k.1 (later (λ h. refl) e))
  by other f e later = absurd cc

pub lexed_is_spelled : (text : List ℕ) → (lexed text).whole ≡ true → Spells (lexed text).tokens text
lexed_is_spelled text e = spells_from_blanks (lexed text).tokens text (spelled_from in_blanks 0 text (λ h. refl) e)
