-- The spots of a text as a function are its spots, and it has no others.
use Rattle.std.proofs.Common.{◌≡◌, ◌≢◌, ℕ, zero, suc, pred, ◌<◌, Bool, true, false, List, [], ◌∷◌, ◌++◌, length, drop, refl, sym, ◌∙◌, ap, arith, inl, inr}
use Rattle.std.specs.Prelude.{◌==◌, ◌⊎◌, if◌then◌else◌}
use Rattle.std.proofs.lemmas.Bool.{eqb-false, ne_eqb}
use Rattle.te_reader.specs.Tokens.{Token, spelling, IsToken, Between, in_blanks, in_comment, is_blank, IsGap}
use Rattle.te_reader.specs.Lexed.{Piece, gap, found, other, token_at, piece_at, place_after, bytes_after}
use Rattle.te_reader.specs.Spots.{Spot, Head, token, over, strange, begins_with_dot, StandsFirst, AreSpots, spot, spot_before, spots_behind, spots}
use Rattle.te_reader.proofs.LongestTokens.{limit, token_found, longest_found, begun}
use Rattle.te_reader.proofs.LexedIsSpelled.{Steps, steps_of, token_of, token_no_gap, ends_gap, BeginsFrom}
use Rattle.te_reader.proofs.SpelledIsLexed.{blank_piece, hash_piece, line_piece, inside_piece, token_there, token_taken}
use Rattle.te_reader.proofs.TokenSteps.{at_token}

-- ---- the spots of the function stand in the text

-- a strange byte behind a gap that may begin in a comment
record StrangeFrom (place : Between) (s : Spot) (byte : ℕ) (text : List ℕ) : Type 0 where
  gap : List ℕ
  rest : List ℕ
  is_split : text ≡ gap ++ byte ∷ rest
  is_gap : IsGap place gap
  no_blank : is_blank byte ≡ false
  no_comment : byte ≢ 35
  no_token : (u : Token) (more : List ℕ) → IsToken u → byte ∷ rest ≡ spelling u ++ more → ⊥
  left : s.left ≡ suc (length rest)

abbrev FirstFrom : Between → Spot → Head → List Spot → List ℕ → Type 0
FirstFrom place s (token t) more text = (rest : List ℕ) × BeginsFrom place t rest text × (s.left ≡ length (spelling t ++ rest)) × AreSpots more rest
FirstFrom place s over more text = (more ≡ []) × IsGap place (text ++ 10 ∷ []) × (s.left ≡ 0)
FirstFrom place s (strange b) more text = (more ≡ []) × StrangeFrom place s b text

abbrev SpotsFrom : Between → List Spot → List ℕ → Type 0
SpotsFrom place [] text = ⊥
SpotsFrom place (s ∷ more) text = (s.dotted ≡ begins_with_dot more) × FirstFrom place s s.head more text

from_blanks : (ss : List Spot) (text : List ℕ) → SpotsFrom in_blanks ss text → AreSpots ss text
from_blanks [] text h = h
from_blanks (s ∷ more) text h = (h.0, by s.head h.1) where
  by : (x : Head) → FirstFrom in_blanks s x more text → StandsFirst s x text more (λ rest. AreSpots more rest)
  by (token t) f = let b = f.1 in (f.0, record { begins = record { gap = b.gap; is_split = b.is_split; is_gap = b.is_gap; is_token = b.is_token; is_longest = b.is_longest }; place = f.2 }, f.3)
  by over f = f
  by (strange b) f =
      let k = f.1 in
      (f.0, record { gap = k.gap; rest = k.rest; is_split = k.is_split; is_gap = k.is_gap; no_blank = k.no_blank; no_comment = k.no_comment; no_token = k.no_token; place = k.left })

gap_before : (place next : Between) (b : ℕ) (ss : List Spot) (bs : List ℕ) → Steps place b next → SpotsFrom next ss bs → SpotsFrom place ss (b ∷ bs)
gap_before place next b [] bs step h = h
gap_before place next b (s ∷ more) bs step h = (h.0, by s.head h.1) where
  by : (x : Head) → FirstFrom next s x more bs → FirstFrom place s x more (b ∷ bs)
  by (token t) f =
      let k = f.1 in
      (f.0, record { gap = b ∷ k.gap; is_split = ap (λ x. b ∷ x) k.is_split; is_gap = step k.gap k.is_gap; is_token = k.is_token; is_longest = k.is_longest }, f.2, f.3)
  by over f = (f.0, step (bs ++ 10 ∷ []) f.1, f.2)
  by (strange c) f =
      let k = f.1 in (
        f.0,
        record {
          gap = b ∷ k.gap;
          rest = k.rest;
          is_split = ap (λ x. b ∷ x) k.is_split;
          is_gap = step k.gap k.is_gap;
          no_blank = k.no_blank;
          no_comment = k.no_comment;
          no_token = k.no_token;
          left = k.left;
        },
      )

token_before : (b : ℕ) (bs : List ℕ) (t : Token) (more : List Spot) → token_at b bs ≡ found t
    → AreSpots more (drop (pred (length (spelling t))) bs) → SpotsFrom in_blanks (spot (token t) (suc (length bs)) more)
    (b ∷ bs)
token_before b bs t more e h =
    let f = token_found b bs t e in
    let rest_is : drop (limit b bs) bs ≡ drop (pred (length (spelling t))) bs = ap (λ n. drop (pred n) bs) (sym f.long) in
    let split : b ∷ bs ≡ spelling t ++ drop (pred (length (spelling t))) bs = f.split ∙ ap (λ x. spelling t ++ x) rest_is in (
      refl,
      (
        drop (pred (length (spelling t))) bs,
        record { gap = []; is_split = split; is_gap = tt; is_token = f.is_token; is_longest = rw (← split) (longest_found b bs t e) },
        ap length split,
        h,
      ),
    )

-- where some token begins, one is found
begins_none : (b : ℕ) (bs : List ℕ) → token_at b bs ≡ other → (u : Token) (more : List ℕ) → IsToken u → b ∷ bs ≡ spelling u ++ more → ⊥
begins_none b bs e u more is_token split =
    let k = begun u is_token in
    let all : b ∷ bs ≡ k.first ∷ (k.others ++ more) = split ∙ ap (λ x. x ++ more) k.spelled in
    let there = token_there k.first k.others (k.others ++ more) k.kind in
    let both : token_at b bs ≡ token_at k.first (k.others ++ more) = ap (at_front b bs) all in
    absurd (let clash : found there.0 ≡ other = sym (both ∙ there.1) ∙ e in cc) where
      at_front : ℕ → List ℕ → List ℕ → Piece
      at_front x xs [] = token_at x xs
      at_front x xs (y ∷ ys) = token_at y ys

-- a byte that begins no token stands among blanks, and is no blank
other_of : (place : Between) (b : ℕ) (bs : List ℕ) → piece_at place b bs ≡ other → (place ≡ in_blanks) × (is_blank b ≡ false) × (b ≢ 35) × (token_at b bs ≡ other)
other_of in_comment b bs e = by (b == 10) e where
  by : (v : Bool) → (if v then gap in_blanks else gap in_comment) ≡ other → (in_comment ≡ in_blanks) × (is_blank b ≡ false) × (b ≢ 35) × (token_at b bs ≡ other)
  by true e = absurd cc
  by false e = absurd cc
other_of in_blanks b bs e = blank (is_blank b) refl e where
  hash : is_blank b ≡ false → (v : Bool) → (v ≡ false → b ≢ 35) → (if v then gap in_comment else token_at b bs) ≡ other
      → (in_blanks ≡ in_blanks) × (is_blank b ≡ false) × (b ≢ 35) × (token_at b bs ≡ other)
  hash f true unlike e = absurd cc
  hash f false unlike e = (refl, f, unlike refl, e)

  blank : (v : Bool) → is_blank b ≡ v → (if v then gap in_blanks else
      (if b == 35 then gap in_comment else token_at b bs)) ≡ other
      → (in_blanks ≡ in_blanks) × (is_blank b ≡ false) × (b ≢ 35) × (token_at b bs ≡ other)
  blank true f e = absurd cc
  blank false f e = hash f (b == 35) (eqb-false b 35) e

spots_stand_from : (place : Between) (skipped : ℕ) (text : List ℕ) → (0 < skipped → place ≡ in_blanks) → SpotsFrom place (spots_behind place skipped text) (drop skipped text)
unfolding spots_behind
spots_stand_from place zero [] only = (refl, (refl, ends_gap place, refl))
spots_stand_from place (suc k) [] only = (refl, (refl, ends_gap place, refl))
spots_stand_from place (suc k) (b ∷ bs) only = spots_stand_from place k bs (λ h. only (omega arith))
spots_stand_from place zero (b ∷ bs) only = by (piece_at place b bs) refl (spots_stand_from (place_after (piece_at place b bs)) (bytes_after (piece_at place b bs)) bs) where
  by : (p : Piece) → piece_at place b bs ≡ p → ((0 < bytes_after p → place_after p ≡ in_blanks) → SpotsFrom (place_after p) (spots_behind (place_after p) (bytes_after p) bs) (drop (bytes_after p) bs))
      → SpotsFrom place (spot_before p b (suc (length bs)) (spots_behind (place_after p) (bytes_after p) bs)) (b ∷ bs)
  by (gap next) f later = gap_before place next b _ bs (steps_of place next b bs f) (later (λ h. absurd (omega arith)))
  by (found t) f later =
      let k = token_of place b bs t f in
      rw k.0 (token_before b bs t _ k.1 (from_blanks (spots_behind in_blanks (pred (length (spelling t))) bs) (drop (pred (length (spelling t))) bs) (later (λ h. refl))))
  by other f later =
      let k = other_of place b bs f in
      rw k.0 (refl, (refl, record { gap = []; rest = bs; is_split = refl; is_gap = tt; no_blank = k.1; no_comment = k.2; no_token = begins_none b bs k.3; left = refl }))

pub spots_stand : (text : List ℕ) → AreSpots (spots text) text
spots_stand text = from_blanks (spots text) text (spots_stand_from in_blanks 0 text (λ h. refl))

-- ---- a text has no other spots

stepped : (place next : Between) (b : ℕ) (bs : List ℕ) → piece_at place b bs ≡ gap next → spots_behind place 0 (b ∷ bs) ≡ spots_behind next 0 bs
unfolding spots_behind
stepped place next b bs e = rw e refl

gap_passed : (place : Between) (g xs : List ℕ) → IsGap place g → spots_behind place 0 (g ++ xs) ≡ spots xs
gap_passed in_blanks [] xs h = refl
gap_passed in_comment [] xs h = absurd h
gap_passed in_blanks (b ∷ bs) xs h = by h (gap_passed in_blanks bs xs) (gap_passed in_comment bs xs) where
  by : ((is_blank b ≡ true) × IsGap in_blanks bs) ⊎ ((b ≡ 35) × IsGap in_comment bs)
      → (IsGap in_blanks bs → spots_behind in_blanks 0 (bs ++ xs) ≡ spots xs)
      → (IsGap in_comment bs → spots_behind in_comment 0 (bs ++ xs) ≡ spots xs)
      → spots_behind in_blanks 0 (b ∷ (bs ++ xs)) ≡ spots xs
  by (inl k) blanks comment = stepped in_blanks in_blanks b (bs ++ xs) (blank_piece b (bs ++ xs) k.0) ∙ blanks k.1
  by (inr k) blanks comment = stepped in_blanks in_comment b (bs ++ xs) (hash_piece b (bs ++ xs) k.0) ∙ comment k.1
gap_passed in_comment (b ∷ bs) xs h = by h (gap_passed in_blanks bs xs) (gap_passed in_comment bs xs) where
  by : ((b ≡ 10) × IsGap in_blanks bs) ⊎ ((b ≢ 10) × IsGap in_comment bs)
      → (IsGap in_blanks bs → spots_behind in_blanks 0 (bs ++ xs) ≡ spots xs)
      → (IsGap in_comment bs → spots_behind in_comment 0 (bs ++ xs) ≡ spots xs)
      → spots_behind in_comment 0 (b ∷ (bs ++ xs)) ≡ spots xs
  by (inl k) blanks comment = stepped in_comment in_blanks b (bs ++ xs) (line_piece b (bs ++ xs) k.0) ∙ blanks k.1
  by (inr k) blanks comment = stepped in_comment in_comment b (bs ++ xs) (inside_piece b (bs ++ xs) k.0) ∙ comment k.1

last_gap : (place : Between) (text : List ℕ) → IsGap place (text ++ 10 ∷ []) → spots_behind place 0 text ≡ spot over 0 []
unfolding spots_behind
last_gap place [] h = refl
last_gap in_blanks (b ∷ bs) h = by h (last_gap in_blanks bs) (last_gap in_comment bs) where
  by : ((is_blank b ≡ true) × IsGap in_blanks (bs ++ 10 ∷ [])) ⊎ ((b ≡ 35) × IsGap in_comment (bs ++ 10 ∷ [])) → (IsGap in_blanks (bs ++ 10 ∷ []) → spots_behind in_blanks 0 bs ≡ spot over 0 [])
      → (IsGap in_comment (bs ++ 10 ∷ []) → spots_behind in_comment 0 bs ≡ spot over 0 []) → spots_behind in_blanks 0 (b ∷ bs) ≡ spot over 0 []
  by (inl k) blanks comment = stepped in_blanks in_blanks b bs (blank_piece b bs k.0) ∙ blanks k.1
  by (inr k) blanks comment = stepped in_blanks in_comment b bs (hash_piece b bs k.0) ∙ comment k.1
last_gap in_comment (b ∷ bs) h = by h (last_gap in_blanks bs) (last_gap in_comment bs) where
  by : ((b ≡ 10) × IsGap in_blanks (bs ++ 10 ∷ [])) ⊎ ((b ≢ 10) × IsGap in_comment (bs ++ 10 ∷ [])) → (IsGap in_blanks (bs ++ 10 ∷ []) → spots_behind in_blanks 0 bs ≡ spot over 0 [])
      → (IsGap in_comment (bs ++ 10 ∷ []) → spots_behind in_comment 0 bs ≡ spot over 0 []) → spots_behind in_comment 0 (b ∷ bs) ≡ spot over 0 []
  by (inl k) blanks comment = stepped in_comment in_blanks b bs (line_piece b bs k.0) ∙ blanks k.1
  by (inr k) blanks comment = stepped in_comment in_comment b bs (inside_piece b bs k.0) ∙ comment k.1

-- a byte that begins no token is found strange
strange_first : (b : ℕ) (bs : List ℕ) → is_blank b ≡ false → b ≢ 35
    → ((u : Token) (more : List ℕ) → IsToken u → b ∷ bs ≡ spelling u ++ more → ⊥)
    → spots (b ∷ bs) ≡ spot (strange b) (suc (length bs)) []
unfolding spots_behind
strange_first b bs no_blank no_comment no_token = rw (by (token_at b bs) refl) refl where
  by : (p : Piece) → token_at b bs ≡ p → piece_at in_blanks b bs ≡ other
  by (gap next) e = absurd (token_no_gap next b bs e)
  by (found t) e = absurd (let f = token_found b bs t e in no_token t (drop (limit b bs) bs) f.is_token f.split)
  by other e = at_token b bs (no_blank, ne_eqb b 35 no_comment) ∙ e

equal_spots : (s : Spot) (x : Head) (d : Bool) (n : ℕ) → s.head ≡ x → s.dotted ≡ d → s.left ≡ n → s ≡ record { head = x; dotted = d; left = n }
equal_spots s x d n e f g = ap (λ h. record s { head = h }) e ∙ ap (λ h. record s { head = x; dotted = h }) f ∙ ap (λ h. record s { head = x; dotted = d; left = h }) g

pub only_spots : (ss : List Spot) (text : List ℕ) → AreSpots ss text → ss ≡ spots text
only_spots [] text h = absurd h
only_spots (s ∷ more) text h = by s.head refl h.1 (only_spots more) where
  by : (x : Head) → s.head ≡ x → StandsFirst s x text more (λ rest. AreSpots more rest) → ((rest : List ℕ) → AreSpots more rest → more ≡ spots rest) → s ∷ more ≡ spots text
  by (token t) e f later =
      let k = f.1 in
      let b = k.begins in
      let same : s ≡ record { head = token t; dotted = begins_with_dot more; left = length (spelling t ++ f.0) } =
      equal_spots s (token t) (begins_with_dot more) (length (spelling t ++ f.0)) e h.0 k.place in
      ap (λ x. x ∷ more) same
      ∙ ap (λ m. spot (token t) (length (spelling t ++ f.0)) m) (later f.0 f.2)
      ∙ sym (token_taken t f.0 b.is_token b.is_longest).1
      ∙ sym (gap_passed in_blanks b.gap (spelling t ++ f.0) b.is_gap) ∙ ap spots (sym b.is_split)
  by over e f later =
      let same : s ≡ record { head = over; dotted = begins_with_dot more; left = 0 } = equal_spots s over (begins_with_dot more) 0 e h.0 f.2 in
      ap (λ x. x ∷ more) same ∙ ap (λ m. spot over 0 m) f.0 ∙ sym (last_gap in_blanks text f.1)
  by (strange c) e f later =
      let k = f.1 in
      let same : s ≡ record { head = strange c; dotted = begins_with_dot more; left = suc (length k.rest) } = equal_spots s (strange c) (begins_with_dot more) (suc (length k.rest)) e h.0 k.place in
      ap (λ x. x ∷ more) same ∙ ap (λ m. spot (strange c) (suc (length k.rest)) m) f.0
      ∙ sym (strange_first c k.rest k.no_blank k.no_comment k.no_token)
      ∙ sym (gap_passed in_blanks k.gap (c ∷ k.rest) k.is_gap) ∙ ap spots (sym k.is_split)
