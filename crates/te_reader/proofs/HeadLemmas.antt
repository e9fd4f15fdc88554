-- The first token that was taken is the first token.
use Rattle.std.proofs.Common.{◌≡◌, inl, inr, ℕ, Bool, true, false, List, [], ◌∷◌, refl, subst, sym, ◌∙◌, ap}
use Rattle.std.specs.Prelude.{Option, Some, None, ◌==◌, if◌then◌else◌}
use Rattle.std.proofs.lemmas.Bool.{eqb-true}
use Rattle.te_reader.specs.declared.token.Word.{Word}
use Rattle.te_reader.specs.declared.token.Word.TheVariants as words
use Rattle.te_reader.specs.declared.token.Sign.{Sign}
use Rattle.te_reader.specs.declared.token.Sign.TheVariants as signs
use Rattle.te_reader.specs.Tokens.{Token, word, name, inner, integer, sign}
use Rattle.te_reader.specs.Grammar.{bound_name}
use Rattle.te_reader.specs.Heads.{word_number, sign_number, word_first, sign_first, name_first, inner_first, bound_first, integer_first}

-- ---- a word and a sign by their numbers

abbrev word_at : ℕ → Word
word_at n =
    if n == 0 then words.Channels
    else (if n == 1 then words.Thread
    else (if n == 2 then words.Sync
    else (if n == 3 then words.Emit
    else (if n == 4 then words.Always
    else (if n == 5 then words.Never
    else (if n == 6 then words.Throw
    else (if n == 7 then words.Send
    else (if n == 8 then words.Recv
    else (if n == 9 then words.Do
    else (if n == 10 then words.Choose
    else (if n == 11 then words.Try
    else (if n == 12 then words.Catch
    else (if n == 13 then words.If
    else (if n == 14 then words.Else
    else (if n == 15 then words.Fresh
    else words.Repeat)))))))))))))))

word_back : (w : Word) → word_at (word_number w) ≡ w
word_back words.Channels = refl
word_back words.Thread = refl
word_back words.Sync = refl
word_back words.Emit = refl
word_back words.Always = refl
word_back words.Never = refl
word_back words.Throw = refl
word_back words.Send = refl
word_back words.Recv = refl
word_back words.Do = refl
word_back words.Choose = refl
word_back words.Try = refl
word_back words.Catch = refl
word_back words.If = refl
word_back words.Else = refl
word_back words.Fresh = refl
word_back words.Repeat = refl

abbrev sign_at : ℕ → Sign
sign_at n =
    if n == 0 then signs.Arrow
    else (if n == 1 then signs.Less
    else (if n == 2 then signs.OpenBrace
    else (if n == 3 then signs.CloseBrace
    else (if n == 4 then signs.Open
    else (if n == 5 then signs.Close
    else (if n == 6 then signs.Semicolon
    else (if n == 7 then signs.Comma
    else (if n == 8 then signs.Dot
    else (if n == 9 then signs.Equal
    else (if n == 10 then signs.Plus
    else (if n == 11 then signs.Minus
    else (if n == 12 then signs.Star
    else signs.Bar))))))))))))

sign_back : (s : Sign) → sign_at (sign_number s) ≡ s
sign_back signs.Arrow = refl
sign_back signs.Less = refl
sign_back signs.OpenBrace = refl
sign_back signs.CloseBrace = refl
sign_back signs.Open = refl
sign_back signs.Close = refl
sign_back signs.Semicolon = refl
sign_back signs.Comma = refl
sign_back signs.Dot = refl
sign_back signs.Equal = refl
sign_back signs.Plus = refl
sign_back signs.Minus = refl
sign_back signs.Star = refl
sign_back signs.Bar = refl

pub both_same : {A B : Type 0} (p q : A × B) → Some p ≡ Some q → (p.0 ≡ q.0) × (p.1 ≡ q.1)
both_same {A = A} {B = B} p q e = (ap (first p.0) e, ap (second p.1) e) where
  first : A → Option (A × B) → A
  first d None = d
  first d (Some r) = r.0

  second : B → Option (A × B) → B
  second d None = d
  second d (Some r) = r.1

-- what holds of what was read holds of what it is
pub carried : {A : Type 0} (P : A → List Token → Type 0) (a p : A) (r rest : List Token) → ◌≡◌ {A = Option (A × List Token)} (Some (a, r)) (Some (p, rest)) → P a r → P p rest
carried {A = A} P a p r rest e h = let same = both_same {A = A} {B = List Token} (a, r) (p, rest) e in subst (λ (x : A). P x rest) same.0 (subst (λ (x : List Token). P a x) same.1 h)

-- ---- the first token

pub name_is : (ts : List Token) (n : List ℕ) (rest : List Token) → name_first ts ≡ Some (n, rest) → ts ≡ name n ∷ rest
unfolding name_first
name_is (name m ∷ ts) n rest e = let r = both_same _ _ e in let n_is = r.0 in let rest_is = r.1 in cc
name_is [] n rest e = absurd cc
name_is (word w ∷ ts) n rest e = absurd cc
name_is (inner m ∷ ts) n rest e = absurd cc
name_is (integer m ∷ ts) n rest e = absurd cc
name_is (sign g ∷ ts) n rest e = absurd cc

pub inner_is : (ts : List Token) (n : List ℕ) (rest : List Token) → inner_first ts ≡ Some (n, rest) → ts ≡ inner n ∷ rest
unfolding inner_first
inner_is (inner m ∷ ts) n rest e = let r = both_same _ _ e in let n_is = r.0 in let rest_is = r.1 in cc
inner_is [] n rest e = absurd cc
inner_is (word w ∷ ts) n rest e = absurd cc
inner_is (name m ∷ ts) n rest e = absurd cc
inner_is (integer m ∷ ts) n rest e = absurd cc
inner_is (sign g ∷ ts) n rest e = absurd cc

pub bound_name_is : (ts : List Token) (n : List ℕ) (rest : List Token) → bound_first ts ≡ Some (n, rest) → bound_name n ts rest
unfolding bound_first
bound_name_is (name m ∷ ts) n rest e = let r = both_same _ _ e in let n_is = r.0 in let rest_is = r.1 in inl cc
bound_name_is (inner m ∷ ts) n rest e = let r = both_same _ _ e in let n_is = r.0 in let rest_is = r.1 in inr cc
bound_name_is [] n rest e = absurd cc
bound_name_is (word w ∷ ts) n rest e = absurd cc
bound_name_is (integer m ∷ ts) n rest e = absurd cc
bound_name_is (sign g ∷ ts) n rest e = absurd cc

pub integer_is : (ts : List Token) (n : List ℕ) (rest : List Token) → integer_first ts ≡ Some (n, rest) → ts ≡ integer n ∷ rest
unfolding integer_first
integer_is (integer m ∷ ts) n rest e = let r = both_same _ _ e in let n_is = r.0 in let rest_is = r.1 in cc
integer_is [] n rest e = absurd cc
integer_is (word w ∷ ts) n rest e = absurd cc
integer_is (inner m ∷ ts) n rest e = absurd cc
integer_is (name m ∷ ts) n rest e = absurd cc
integer_is (sign g ∷ ts) n rest e = absurd cc

pub word_is : (w : Word) (ts rest : List Token) → word_first w ts ≡ Some rest → ts ≡ word w ∷ rest
unfolding word_first
word_is w (word v ∷ ts) rest e = by (word_number w == word_number v) (eqb-true (word_number w) (word_number v)) e where
  by : (b : Bool) → (b ≡ true → word_number w ≡ word_number v) → (if b then Some ts else None) ≡ Some rest → word v ∷ ts ≡ word w ∷ rest
  by true same e = let v_is : v ≡ w = sym (word_back v) ∙ ap word_at (sym (same refl)) ∙ word_back w in cc
  by false same e = absurd cc
word_is w [] rest e = absurd cc
word_is w (name m ∷ ts) rest e = absurd cc
word_is w (inner m ∷ ts) rest e = absurd cc
word_is w (integer m ∷ ts) rest e = absurd cc
word_is w (sign g ∷ ts) rest e = absurd cc

pub sign_is : (s : Sign) (ts rest : List Token) → sign_first s ts ≡ Some rest → ts ≡ sign s ∷ rest
unfolding sign_first
sign_is s (sign g ∷ ts) rest e = by (sign_number s == sign_number g) (eqb-true (sign_number s) (sign_number g)) e where
  by : (b : Bool) → (b ≡ true → sign_number s ≡ sign_number g) → (if b then Some ts else None) ≡ Some rest → sign g ∷ ts ≡ sign s ∷ rest
  by true same e = let g_is : g ≡ s = sym (sign_back g) ∙ ap sign_at (sym (same refl)) ∙ sign_back s in cc
  by false same e = absurd cc
sign_is s [] rest e = absurd cc
sign_is s (name m ∷ ts) rest e = absurd cc
sign_is s (inner m ∷ ts) rest e = absurd cc
sign_is s (integer m ∷ ts) rest e = absurd cc
sign_is s (word w ∷ ts) rest e = absurd cc
