-- Where the fault of a text stands, and what it is. It is this project's own.
use Rattle.std.specs.Prelude.{◌≡◌, ℕ, nat_le, ◌&&◌, ◌⊎◌, List, [], ◌∷◌, ◌++◌, Some, None, if◌then◌else◌}
use Rattle.te_reader.specs.declared.cause.Cause.{Cause}
use Rattle.te_reader.specs.declared.cause.Cause.TheVariants as causes
use Rattle.te_reader.specs.declared.part.Role.{Role}
use Rattle.te_reader.specs.Spots.{Spot, Head, token, over, strange}
use Rattle.te_reader.specs.Forms.{FitsRole, BeginScript}
use Rattle.te_reader.specs.Rules.{Context, nothing_before, rules, first_broken, context_after}

-- these tokens may have these roles, and break no rule; behind them we are in the last context
abbrev pub Keep : Context → List Role → List Spot → Context → Type 0
Keep c [] [] last = c ≡ last
Keep c [] (s ∷ ss) last = ⊥
Keep c (r ∷ rs) [] last = ⊥
Keep c (r ∷ rs) (s ∷ ss) last = FitsRole r s × (first_broken (rules r c s.head) ≡ None) × Keep (context_after r c s.head) rs ss last

-- what it is called where no role fits
abbrev pub misfit : Head → Cause
misfit (token t) = causes.Syntax
misfit over = causes.Syntax
misfit (strange b) = if nat_le 33 b && nat_le b 126 then causes.Token else causes.Bytes

-- behind tokens that begin a script and break no rule, one stands with which they begin none, or which breaks a rule
pub record IsFault (spots : List Spot) (cause : Cause) (left : ℕ) : Type 0 where
  pub before : List Spot
  pub at : Spot
  pub behind : List Spot
  pub is_split : spots ≡ before ++ at ∷ behind
  pub place : at.left ≡ left
  pub roles : List Role
  pub begin : BeginScript roles
  pub context : Context
  pub keep : Keep nothing_before roles before context
  pub broken : ((cause ≡ misfit at.head) × ((r : Role) → BeginScript (roles ++ r ∷ []) → FitsRole r at → ⊥))
      ⊎ ((r : Role) × BeginScript (roles ++ r ∷ []) × FitsRole r at × (first_broken (rules r context at.head) ≡ Some cause))
