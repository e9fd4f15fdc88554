-- Going on over the tokens of a text that break no rule.
use Rattle.std.proofs.Common.{◌≡◌, ℕ, Bool, true, false, not, max, List, [], ◌∷◌, ◌++◌, refl, ◌∙◌, ap, inl, inr}
use Rattle.std.specs.Prelude.{Some, None, ◌⊎◌, ◌||◌}
use Rattle.std.specs.Str.{bytes_eq}
use Rattle.std.proofs.lemmas.Slice.Eq.{bytes_eq-Decides}
use Rattle.te_reader.specs.declared.brace.Brace.{Brace}
use Rattle.te_reader.specs.declared.part.Role.{Role}
use Rattle.te_reader.specs.declared.part.Part.{Part}
use Rattle.te_reader.specs.declared.part.Part.TheVariants as parts
use Rattle.te_reader.specs.Tokens.{Token}
use Rattle.te_reader.specs.Grammar.{Names, IsNew}
use Rattle.te_reader.specs.Spots.{Spot, token, over, spot, begins_with_dot}
use Rattle.te_reader.specs.Forms.{Form, form}
use Rattle.te_reader.specs.Rules.{Context, is_among, rules, first_broken, context_after, reaching}
use Rattle.te_reader.specs.Tallies.{Tally}
use Rattle.te_reader.specs.Runs.{pick, pick_plain, fits, run}
use Rattle.te_reader.proofs.FaultIsFound.{step}

-- the spots of some tokens and the end behind them, wherever they stand
abbrev pub spots_of : List Token → List Spot
spots_of [] = spot over 0 []
spots_of (t ∷ ts) = spot (token t) 0 (spots_of ts)

-- whether a `.` is the first of them
abbrev pub dotted : List Token → Bool
dotted ts = begins_with_dot (spots_of ts)

-- what is found from here on is what is found from there on
abbrev pub Goes : List Part → Context → List Token → List Part → Context → List Token → Type 0
Goes wanted c ts wanted_then d rest = run wanted c (spots_of ts) ≡ run wanted_then d (spots_of rest)

-- one token
pub goes : (p : Part) (f : Form) (more : List Part) (c : Context) (t : Token) (ts rest : List Token) → ts ≡ t ∷ rest
    → pick p (token t) (dotted rest) ≡ Some f → first_broken (rules f.role c (token t)) ≡ None
    → Goes (p ∷ more) c ts (f.wanted ++ more) (context_after f.role c (token t)) rest
goes p f more c t ts rest e picked kept = ap (λ x. run (p ∷ more) c (spots_of x)) e ∙ step p more c (record { head = token t; dotted = dotted rest; left = 0 }) (spots_of rest) f picked kept

-- one token that stands alone
pub goes_alone : (r : Role) (more : List Part) (c : Context) (t : Token) (ts rest : List Token) → ts ≡ t ∷ rest → fits r (token t) (dotted rest) ≡ true → first_broken (rules r c (token t)) ≡ None
    → Goes (parts.Only r ∷ more) c ts more (context_after r c (token t)) rest
unfolding pick pick_plain
goes_alone r more c t ts rest e fit kept = goes (parts.Only r) (form r []) more c t ts rest e (rw fit refl) kept

-- ---- contexts

abbrev pub names_in : Context → Names
names_in c = record { channels = c.channels; registers = c.registers; inners = c.inners }

-- a context with its innermost brace, those outside of it and the nodes so far
abbrev pub at : Context → Brace → List Brace → Tally → Context
at c b bs n = record c { braces = b ∷ bs; nodes = n.nodes; fresh = n.fresh }

-- no tuple is at hand
abbrev pub calm : Context → Context
calm c = record c { calculations = 0 }

pub at_same : (c : Context) (a b : Brace) (bs : List Brace) (m n : Tally) → a ≡ b → m ≡ n → at c a bs m ≡ at c b bs n
at_same c a b bs m n e f = ap (λ x. at c x bs m) e ∙ ap (λ x. at c b bs x) f

pub reaching_same : (b : Brace) (d e : ℕ) → max b.deepest d ≡ max b.deepest e → reaching d b ≡ reaching e b
reaching_same b d e h = ap (λ x. record b { deepest = x }) h

-- ---- names

pub not_among : (names : List (List ℕ)) (n : List ℕ) → IsNew n names → is_among n names ≡ false
unfolding is_among
not_among [] n h = refl
not_among (x ∷ xs) n h = by (not_among xs n h.1) (bytes_eq x n) (bytes_eq-Decides x n).0 where
  by : is_among n xs ≡ false → (b : Bool) → (b ≡ true → x ≡ n) → (b || is_among n xs) ≡ false
  by later true same = absurd (h.0 (same refl))
  by later false same = later

pub among_or : (a b : Bool) → (a ≡ true) ⊎ (b ≡ true) → not (a || b) ≡ false
among_or true b h = refl
among_or false true h = refl
among_or false false (inl e) = absurd cc
among_or false false (inr e) = absurd cc
