-- A head and what stands round it: `then` and `catch` of which it is the first part. No public clause cites this module.
use Rattle.std.specs.Prelude.{ℕ, List, [], ◌∷◌}
use Rattle.te_path.specs.declared.frames.Awaits.{Awaits}
use Rattle.te_path.specs.declared.frames.Awaits.TheVariants.{Given, Raised}
use Rattle.te_terms.specs.Terms.{Term, and_then, catch}

-- a second part that awaits what the first gives or raises, and the level of the name that it binds
pub record Layer : Type 0 where
  pub awaits : Awaits
  pub level : ℕ
  pub rest : Term

abbrev pub in_layer : Awaits → ℕ → Term → Term → Term
in_layer Given level rest t = and_then t level rest
in_layer Raised level rest t = catch t level rest

-- the term under these layers, of which the first is the innermost
abbrev pub in_layers : List Layer → Term → Term
in_layers [] t = t
in_layers (l ∷ ls) t = in_layers ls (in_layer l.awaits l.level l.rest t)
