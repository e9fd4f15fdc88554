-- The token that the lexer finds at a byte is a token, and the longest there.
use Rattle.std.proofs.Common.{◌≡◌, ℕ, suc, ◌+◌, ◌≤◌, Bool, true, false, cond, nat_eq, List, [], ◌∷◌, ◌++◌, length, take, drop, refl, sym, ◌∙◌, ap, subst, arith, take-append-drop, one-add, inl, inr}
use Rattle.std.specs.Prelude.{Option, Some, None, ◌⊎◌, ◌==◌, if◌then◌else◌, codes}
use Rattle.std.specs.List.{AllByRecursion, prefix_len}
use Rattle.std.specs.Char.{is_ascii_alphabetic, is_ascii_digit}
use Rattle.std.proofs.lemmas.Bool.{eqb-true}
use Rattle.std.proofs.lemmas.List.Folds.{length-prefix_len}
use Rattle.te_reader.specs.declared.token.Word.{Word}
use Rattle.te_reader.specs.declared.token.Word.TheVariants as words
use Rattle.te_reader.specs.declared.token.Sign.{Sign}
use Rattle.te_reader.specs.declared.token.Sign.TheVariants as signs
use Rattle.te_script.specs.Names.{is_word_byte}
use Rattle.te_reader.specs.Tokens.{Token, word, name, inner, integer, sign, word_spelling, sign_spelling, spelling, is_blank, IsDigits, IsToken, IsLongest}
use Rattle.te_reader.specs.Lexed.{Piece, found, byte_run, reserved_as, word_or_name, one_sign, less_sign, minus_sign, token_at}
use Rattle.te_reader.proofs.ReservedWords.{reserved_spells, reserved_back, differs_from_reserved}
use Rattle.te_reader.proofs.ByteKinds.{digit_is_no_letter}

-- ---- runs

-- what passes at the front is no longer than the run
prefix_longest : (p : ℕ → Bool) (bs us more : List ℕ) → bs ≡ us ++ more → AllByRecursion (λ x. p x ≡ true) us → length us ≤ prefix_len p bs
prefix_longest p bs [] more e all = omega arith
prefix_longest p [] (u ∷ us) more e all = absurd cc
prefix_longest p (b ∷ bs) (u ∷ us) more e all =
    let first : b ≡ u = cc in
    let others : bs ≡ us ++ more = cc in
    let passes : p b ≡ true = ap p first ∙ all.0 in
    rw (passes, one-add (prefix_len p bs)) (omega (arith, prefix_longest p bs us more others all.1))

-- what the run takes passes
run_passes : (p : ℕ → Bool) (bs : List ℕ) → AllByRecursion (λ x. p x ≡ true) (take (prefix_len p bs) bs)
run_passes p [] = tt
run_passes p (b ∷ bs) = by (p b) refl (run_passes p bs) where
  by : (v : Bool) → p b ≡ v → AllByRecursion (λ x. p x ≡ true) (take (prefix_len p bs) bs) → AllByRecursion (λ x. p x ≡ true) (take (cond v (1 + prefix_len p bs) 0) (b ∷ bs))
  by true e later = rw (one-add (prefix_len p bs)) (e, later)
  by false e later = tt

-- ---- how tokens begin

abbrev IsWordRun : List ℕ → Type 0
IsWordRun bs = AllByRecursion (λ x. is_word_byte x ≡ true) bs

abbrev IsDigitRun : List ℕ → Type 0
IsDigitRun bs = AllByRecursion (λ x. is_ascii_digit x ≡ true) bs

-- a byte at which no gap goes on
abbrev IsNoGap : ℕ → Type 0
IsNoGap b = (is_blank b ≡ false) × (nat_eq b 35 ≡ false)

-- the kinds of tokens, by the first byte of their spelling and the others
pub data Kind (x : ℕ) (xs : List ℕ) : Type 0 where
  letters : is_ascii_alphabetic x ≡ true → IsWordRun xs → Kind x xs
  underscore : x ≡ 95 → IsWordRun xs → Kind x xs
  digits : is_ascii_digit x ≡ true → IsDigitRun xs → Kind x xs
  negative : x ≡ 45 → IsDigitRun xs → Kind x xs
  arrow : x ≡ 60 → xs ≡ 45 ∷ [] → Kind x xs
  less : x ≡ 60 → xs ≡ [] → Kind x xs
  one_byte : (s : Sign) → ((ys : List ℕ) → token_at x ys ≡ found (sign s)) → IsNoGap x → xs ≡ [] → Kind x xs

pub record Begun (u : Token) : Type 0 where
  pub first : ℕ
  pub others : List ℕ
  pub spelled : spelling u ≡ first ∷ others
  pub kind : Kind first others

abbrev pub passes : List ℕ → Bool
passes [] = true
passes (b ∷ bs) = if is_word_byte b then passes bs else false

pub passes_all : (bs : List ℕ) → passes bs ≡ true → IsWordRun bs
passes_all [] e = tt
passes_all (b ∷ bs) e = by (is_word_byte b) refl (passes_all bs) e where
  by : (v : Bool) → is_word_byte b ≡ v → (passes bs ≡ true → IsWordRun bs) → (if v then passes bs else false) ≡ true → IsWordRun (b ∷ bs)
  by true f later e = (f, later e)
  by false f later e = absurd cc

word_begun : (w : Word) → Begun (word w)
word_begun words.Channels = record { first = 99; others = codes "hannels"; spelled = refl; kind = letters refl (passes_all (codes "hannels") refl) }
word_begun words.Thread = record { first = 116; others = codes "hread"; spelled = refl; kind = letters refl (passes_all (codes "hread") refl) }
word_begun words.Sync = record { first = 115; others = codes "ync"; spelled = refl; kind = letters refl (passes_all (codes "ync") refl) }
word_begun words.Emit = record { first = 101; others = codes "mit"; spelled = refl; kind = letters refl (passes_all (codes "mit") refl) }
word_begun words.Always = record { first = 97; others = codes "lways"; spelled = refl; kind = letters refl (passes_all (codes "lways") refl) }
word_begun words.Never = record { first = 110; others = codes "ever"; spelled = refl; kind = letters refl (passes_all (codes "ever") refl) }
word_begun words.Throw = record { first = 116; others = codes "hrow"; spelled = refl; kind = letters refl (passes_all (codes "hrow") refl) }
word_begun words.Send = record { first = 115; others = codes "end"; spelled = refl; kind = letters refl (passes_all (codes "end") refl) }
word_begun words.Recv = record { first = 114; others = codes "ecv"; spelled = refl; kind = letters refl (passes_all (codes "ecv") refl) }
word_begun words.Do = record { first = 100; others = codes "o"; spelled = refl; kind = letters refl (passes_all (codes "o") refl) }
word_begun words.Choose = record { first = 99; others = codes "hoose"; spelled = refl; kind = letters refl (passes_all (codes "hoose") refl) }
word_begun words.Try = record { first = 116; others = codes "ry"; spelled = refl; kind = letters refl (passes_all (codes "ry") refl) }
word_begun words.Catch = record { first = 99; others = codes "atch"; spelled = refl; kind = letters refl (passes_all (codes "atch") refl) }
word_begun words.If = record { first = 105; others = codes "f"; spelled = refl; kind = letters refl (passes_all (codes "f") refl) }
word_begun words.Else = record { first = 101; others = codes "lse"; spelled = refl; kind = letters refl (passes_all (codes "lse") refl) }
word_begun words.Fresh = record { first = 102; others = codes "resh"; spelled = refl; kind = letters refl (passes_all (codes "resh") refl) }
word_begun words.Repeat = record { first = 114; others = codes "epeat"; spelled = refl; kind = letters refl (passes_all (codes "epeat") refl) }

sign_begun : (s : Sign) → Begun (sign s)
sign_begun signs.Arrow = record { first = 60; others = 45 ∷ []; spelled = refl; kind = arrow refl refl }
sign_begun signs.Less = record { first = 60; others = []; spelled = refl; kind = less refl refl }
sign_begun signs.Minus = record { first = 45; others = []; spelled = refl; kind = negative refl tt }
sign_begun signs.OpenBrace = record { first = 123; others = []; spelled = refl; kind = one_byte signs.OpenBrace (λ ys. refl) (refl, refl) refl }
sign_begun signs.CloseBrace = record { first = 125; others = []; spelled = refl; kind = one_byte signs.CloseBrace (λ ys. refl) (refl, refl) refl }
sign_begun signs.Open = record { first = 40; others = []; spelled = refl; kind = one_byte signs.Open (λ ys. refl) (refl, refl) refl }
sign_begun signs.Close = record { first = 41; others = []; spelled = refl; kind = one_byte signs.Close (λ ys. refl) (refl, refl) refl }
sign_begun signs.Semicolon = record { first = 59; others = []; spelled = refl; kind = one_byte signs.Semicolon (λ ys. refl) (refl, refl) refl }
sign_begun signs.Comma = record { first = 44; others = []; spelled = refl; kind = one_byte signs.Comma (λ ys. refl) (refl, refl) refl }
sign_begun signs.Dot = record { first = 46; others = []; spelled = refl; kind = one_byte signs.Dot (λ ys. refl) (refl, refl) refl }
sign_begun signs.Equal = record { first = 61; others = []; spelled = refl; kind = one_byte signs.Equal (λ ys. refl) (refl, refl) refl }
sign_begun signs.Plus = record { first = 43; others = []; spelled = refl; kind = one_byte signs.Plus (λ ys. refl) (refl, refl) refl }
sign_begun signs.Star = record { first = 42; others = []; spelled = refl; kind = one_byte signs.Star (λ ys. refl) (refl, refl) refl }
sign_begun signs.Bar = record { first = 124; others = []; spelled = refl; kind = one_byte signs.Bar (λ ys. refl) (refl, refl) refl }

pub begun : (u : Token) → IsToken u → Begun u
begun (word w) h = word_begun w
begun (sign s) h = sign_begun s
begun (name []) h = absurd h
begun (name (b ∷ bs)) h = record { first = b; others = bs; spelled = refl; kind = letters h.0 h.1 }
begun (inner []) h = absurd h
begun (inner (b ∷ bs)) h = record { first = b; others = bs; spelled = refl; kind = underscore h.0 h.1 }
begun (integer []) h = absurd h
begun (integer (b ∷ bs)) h = by h where
  by : IsDigits (b ∷ bs) ⊎ ((b ≡ 45) × IsDigits bs) → Begun (integer (b ∷ bs))
  by (inl d) = record { first = b; others = bs; spelled = refl; kind = digits d.1.0 d.1.1 }
  by (inr d) = record { first = b; others = bs; spelled = refl; kind = negative d.0 d.1.1 }

-- ---- how far a token may go

abbrev after_less : List ℕ → ℕ
after_less [] = 0
after_less (b ∷ bs) = if b == 45 then 1 else 0

-- how many bytes behind b a token that begins there may take
abbrev pub limit : ℕ → List ℕ → ℕ
limit b bs =
    if is_ascii_alphabetic b then prefix_len is_word_byte bs
    else (if is_ascii_digit b then prefix_len is_ascii_digit bs
    else (if b == 60 then after_less bs
    else (if b == 45 then prefix_len is_ascii_digit bs
    else (if b == 95 then prefix_len is_word_byte bs
    else 0))))

pub within_limit : (x : ℕ) (xs more : List ℕ) → Kind x xs → length xs ≤ limit x (xs ++ more)
within_limit x xs more (letters e all) = rw e (prefix_longest is_word_byte (xs ++ more) xs more refl all)
within_limit x xs more (underscore e all) = rw e (prefix_longest is_word_byte (xs ++ more) xs more refl all)
within_limit x xs more (digits e all) = rw (digit_is_no_letter x e, e) (prefix_longest is_ascii_digit (xs ++ more) xs more refl all)
within_limit x xs more (negative e all) = rw e (prefix_longest is_ascii_digit (xs ++ more) xs more refl all)
within_limit x xs more (arrow e f) = rw (e, f) (omega arith)
within_limit x xs more (less e f) = rw f (omega arith)
within_limit x xs more (one_byte s e g f) = rw f (omega arith)

-- ---- what the lexer finds

pub record Found (b : ℕ) (bs : List ℕ) (t : Token) : Type 0 where
  pub is_token : IsToken t
  pub long : length (spelling t) ≡ suc (limit b bs)
  pub split : b ∷ bs ≡ spelling t ++ drop (limit b bs) bs

-- a word or a name
word_found : (b : ℕ) (bs : List ℕ) (o : Option Word) → is_ascii_alphabetic b ≡ true → reserved_as (byte_run is_word_byte b bs) ≡ o → Found b bs (word_or_name o (byte_run is_word_byte b bs))
word_found b bs (Some w) e f =
    let r = byte_run is_word_byte b bs in
    let same : word_spelling w ≡ r = reserved_spells r w f in
    record {
      is_token = tt;
      long = rw e (ap length same ∙ ap suc (length-prefix_len is_word_byte bs));
      split = rw (e, same) (ap (λ x. b ∷ x) (sym (take-append-drop (prefix_len is_word_byte bs) bs)));
    }
word_found b bs None e f =
    let r = byte_run is_word_byte b bs in
    record {
      is_token = (e, run_passes is_word_byte bs, differs_from_reserved r (λ w same. absurd (let known : reserved_as r ≡ Some w = ap reserved_as (sym same) ∙ reserved_back w in cc)));
      long = rw e (ap suc (length-prefix_len is_word_byte bs));
      split = rw e (ap (λ x. b ∷ x) (sym (take-append-drop (prefix_len is_word_byte bs) bs)));
    }

digits_found : (b : ℕ) (bs : List ℕ) → is_ascii_alphabetic b ≡ false → is_ascii_digit b ≡ true → Found b bs (integer (byte_run is_ascii_digit b bs))
digits_found b bs letter e = record {
  is_token = inl (omega arith, (e, run_passes is_ascii_digit bs));
  long = rw (letter, e) (ap suc (length-prefix_len is_ascii_digit bs));
  split = rw (letter, e) (ap (λ x. b ∷ x) (sym (take-append-drop (prefix_len is_ascii_digit bs) bs)));
}

inner_found : (b : ℕ) (bs : List ℕ) → b ≡ 95 → Found b bs (inner (byte_run is_word_byte b bs))
inner_found b bs e = record {
  is_token = (e, run_passes is_word_byte bs);
  long = rw e (ap suc (length-prefix_len is_word_byte bs));
  split = rw e (ap (λ x. 95 ∷ x) (sym (take-append-drop (prefix_len is_word_byte bs) bs)));
}

less_found : (b : ℕ) (bs : List ℕ) (t : Token) → b ≡ 60 → less_sign bs ≡ found t → Found b bs t
less_found b [] t e f = let same : sign signs.Less ≡ t = cc in subst (λ (u : Token). Found b [] u) same (record { is_token = tt; long = rw e refl; split = rw e refl })
less_found b (d ∷ ds) t e f = by (d == 45) refl (eqb-true d 45) f where
  by : (v : Bool) → (d == 45) ≡ v → (v ≡ true → d ≡ 45) → (if v then found (sign signs.Arrow) else found (sign signs.Less)) ≡ found t → Found b (d ∷ ds) t
  by true g next f = let same : sign signs.Arrow ≡ t = cc in subst (λ (u : Token). Found b (d ∷ ds) u) same (record { is_token = tt; long = rw (e, next refl) refl; split = rw (e, next refl) refl })
  by false g next f = let same : sign signs.Less ≡ t = cc in subst (λ (u : Token). Found b (d ∷ ds) u) same (record { is_token = tt; long = rw (e, g) refl; split = rw (e, g) refl })

minus_found : (b : ℕ) (bs : List ℕ) (t : Token) → b ≡ 45 → minus_sign bs ≡ found t → Found b bs t
minus_found b [] t e f = let same : sign signs.Minus ≡ t = cc in subst (λ (u : Token). Found b [] u) same (record { is_token = tt; long = rw e refl; split = rw e refl })
minus_found b (d ∷ ds) t e f = by (is_ascii_digit d) refl f where
  by : (v : Bool) → is_ascii_digit d ≡ v → (if v then found (integer (45 ∷ byte_run is_ascii_digit d ds)) else found (sign signs.Minus)) ≡ found t → Found b (d ∷ ds) t
  by true g f =
      let same : integer (45 ∷ byte_run is_ascii_digit d ds) ≡ t = cc in
      let good : Found 45 (d ∷ ds) (integer (45 ∷ byte_run is_ascii_digit d ds)) = record {
        is_token = inr (refl, (omega arith, (g, run_passes is_ascii_digit ds)));
        long = rw (g, one-add (prefix_len is_ascii_digit ds)) (ap (λ n. suc (suc n)) (length-prefix_len is_ascii_digit ds));
        split = rw (g, one-add (prefix_len is_ascii_digit ds)) (ap (λ x. 45 ∷ d ∷ x) (sym (take-append-drop (prefix_len is_ascii_digit ds) ds)));
      } in
      rw e (subst (λ (u : Token). Found 45 (d ∷ ds) u) same good)
  by false g f = let same : sign signs.Minus ≡ t = cc in subst (λ (u : Token). Found b (d ∷ ds) u) same (record { is_token = tt; long = rw (e, g) refl; split = rw (e, g) refl })

-- a byte of its own as a sign
abbrev IsOneByte : ℕ → Token → Type 0
IsOneByte b t = (s : Sign) × (t ≡ sign s) × (sign_spelling s ≡ b ∷ [])

pick : (b k : ℕ) (g : Sign) (others : Piece) (t : Token) → sign_spelling g ≡ k ∷ [] → (others ≡ found t → IsOneByte b t) → (if b == k then found (sign g) else others) ≡ found t → IsOneByte b t
pick b k g others t spelled later e = by (b == k) (eqb-true b k) e where
  by : (v : Bool) → (v ≡ true → b ≡ k) → (if v then found (sign g) else others) ≡ found t → IsOneByte b t
  by true same e = let t_is : t ≡ sign g = cc in (g, t_is, spelled ∙ ap (λ x. x ∷ []) (sym (same refl)))
  by false same e = later e

one_sign_is : (b : ℕ) (t : Token) → one_sign b ≡ found t → IsOneByte b t
one_sign_is b t =
    pick b 123 signs.OpenBrace _ t refl (
    pick b 125 signs.CloseBrace _ t refl (
    pick b 40 signs.Open _ t refl (
    pick b 41 signs.Close _ t refl (
    pick b 59 signs.Semicolon _ t refl (
    pick b 44 signs.Comma _ t refl (
    pick b 46 signs.Dot _ t refl (
    pick b 61 signs.Equal _ t refl (
    pick b 43 signs.Plus _ t refl (
    pick b 42 signs.Star _ t refl (
    pick b 124 signs.Bar _ t refl (
    λ e. absurd cc)))))))))))

pub token_found : (b : ℕ) (bs : List ℕ) (t : Token) → token_at b bs ≡ found t → Found b bs t
token_found b bs t e = by_letter (is_ascii_alphabetic b) refl e where
  by_other : is_ascii_alphabetic b ≡ false → is_ascii_digit b ≡ false → (b == 60) ≡ false → (b == 45) ≡ false → (b == 95) ≡ false → one_sign b ≡ found t → Found b bs t
  by_other l d s m u e =
      let o = one_sign_is b t e in
      let good : Found b bs (sign o.0) = record { is_token = tt; long = rw (l, d, s, m, u, o.2) refl; split = rw (l, d, s, m, u, o.2) refl } in
      subst (λ (x : Token). Found b bs x) (sym o.1) good

  by_inner : (v : Bool) → (b == 95) ≡ v → is_ascii_alphabetic b ≡ false → is_ascii_digit b ≡ false → (b == 60) ≡ false
      → (b == 45) ≡ false → (if v then found (inner (byte_run is_word_byte b bs)) else one_sign b) ≡ found t
      → Found b bs t
  by_inner true f l d s m e = let same : inner (byte_run is_word_byte b bs) ≡ t = cc in subst (λ (x : Token). Found b bs x) same (inner_found b bs (eqb-true b 95 f))
  by_inner false f l d s m e = by_other l d s m f e

  by_minus : (v : Bool) → (b == 45) ≡ v → is_ascii_alphabetic b ≡ false → is_ascii_digit b ≡ false → (b == 60) ≡ false
      → (if v then minus_sign bs else (if b == 95 then found (inner (byte_run is_word_byte b bs)) else one_sign b))
      ≡ found t → Found b bs t
  by_minus true f l d s e = minus_found b bs t (eqb-true b 45 f) e
  by_minus false f l d s e = by_inner (b == 95) refl l d s f e

  by_less : (v : Bool) → (b == 60) ≡ v → is_ascii_alphabetic b ≡ false → is_ascii_digit b ≡ false
      → (if v then less_sign bs else (if b == 45 then minus_sign bs else
      (if b == 95 then found (inner (byte_run is_word_byte b bs)) else one_sign b))) ≡ found t → Found b bs t
  by_less true f l d e = less_found b bs t (eqb-true b 60 f) e
  by_less false f l d e = by_minus (b == 45) refl l d f e

  by_digit : (v : Bool) → is_ascii_digit b ≡ v → is_ascii_alphabetic b ≡ false
      → (if v then found (integer (byte_run is_ascii_digit b bs)) else
      (if b == 60 then less_sign bs else (if b == 45 then minus_sign bs else
      (if b == 95 then found (inner (byte_run is_word_byte b bs)) else one_sign b)))) ≡ found t → Found b bs t
  by_digit true f l e = let same : integer (byte_run is_ascii_digit b bs) ≡ t = cc in subst (λ (x : Token). Found b bs x) same (digits_found b bs l f)
  by_digit false f l e = by_less (b == 60) refl l f e

  by_letter : (v : Bool) → is_ascii_alphabetic b ≡ v → (if v then found
      (word_or_name (reserved_as (byte_run is_word_byte b bs)) (byte_run is_word_byte b bs)) else
      (if is_ascii_digit b then found (integer (byte_run is_ascii_digit b bs)) else
      (if b == 60 then less_sign bs else (if b == 45 then minus_sign bs else
      (if b == 95 then found (inner (byte_run is_word_byte b bs)) else one_sign b))))) ≡ found t → Found b bs t
  by_letter true f e = let same : word_or_name (reserved_as (byte_run is_word_byte b bs))
      (byte_run is_word_byte b bs) ≡ t = cc in subst (λ (x : Token). Found b bs x) same
      (word_found b bs (reserved_as (byte_run is_word_byte b bs)) f refl)
  by_letter false f e = by_digit (is_ascii_digit b) refl f e

-- no token there is longer
pub longest_found : (b : ℕ) (bs : List ℕ) (t : Token) → token_at b bs ≡ found t → IsLongest t (b ∷ bs)
longest_found b bs t e u more is_token same =
    let f = token_found b bs t e in
    let k = begun u is_token in
    let split : b ∷ bs ≡ k.first ∷ (k.others ++ more) = same ∙ ap (λ x. x ++ more) k.spelled in
    let first : b ≡ k.first = cc in
    let behind : bs ≡ k.others ++ more = cc in
    let far : length k.others ≤ limit b bs = rw (first, behind) (within_limit k.first k.others more k.kind) in
    omega (arith, far, f.long, ap length k.spelled)
