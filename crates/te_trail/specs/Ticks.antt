-- Clocks as lists of ticks, a thread and a path's number each, with threads rising. No public clause cites this module.
use Rattle.std.specs.Prelude.{◌≡◌, ℕ, ◌<◌, ◌≤◌, ◌+◌, ◌-◌, List, [], ◌∷◌, ◌++◌, map, take, drop, length, Option, Some, None, cond, ltb, nat_eq}
use Rattle.te_trail.specs.declared.ticks.Tick.{Tick}
use Rattle.te_trail.specs.declared.ticks.Stretch.{Stretch}

-- the path of a thread
abbrev pub named : ℕ → List Tick → Option ℕ
named t [] = None
named t (k ∷ ks) = cond (nat_eq t k.thread) (Some k.path) (named t ks)

-- the ticks from place i on, up to place e
abbrev pub between : List Tick → ℕ → ℕ → List Tick
between ticks i e = take (e - i) (drop i ticks)

abbrev pub ticks_of : List Tick → Stretch → List Tick
ticks_of ticks c = between ticks c.at (c.at + c.len)

abbrev pub StretchIsWithin : List Tick → Stretch → Type 0
StretchIsWithin ticks c = c.at + c.len ≤ length ticks

-- the threads are above t
abbrev pub AreBeyond : ℕ → List Tick → Type 0
AreBeyond t [] = Unit {0}
AreBeyond t (k ∷ ks) = (t < k.thread) × AreBeyond t ks

abbrev pub AreRising : List Tick → Type 0
AreRising [] = Unit {0}
AreRising (k ∷ ks) = AreBeyond k.thread ks × AreRising ks

-- ---- joining

abbrev pub later : Tick → Tick → Tick
later x y = cond (ltb x.path y.path) y x

abbrev pub beside : (List Tick → List Tick) → Tick → List Tick → List Tick → List Tick
beside go x xs [] = x ∷ xs
beside go x xs (y ∷ ys) = cond (ltb x.thread y.thread) (x ∷ go (y ∷ ys)) (cond (ltb y.thread x.thread) (y ∷ beside go x xs ys) (later x y ∷ go ys))

-- for each thread of either list its later path
abbrev pub merged : List Tick → List Tick → List Tick
merged [] = λ js. js
merged (x ∷ xs) = λ js. beside (merged xs) x xs js

-- the tick, with the path of one or two where it is of its thread
abbrev pub marked : Tick → Tick → Tick → Tick
marked one two k = cond (nat_eq k.thread one.thread) one (cond (nat_eq k.thread two.thread) two k)

-- what both clocks name stands behind the others, with the new paths
pub record Joins (old new : List Tick) (a b : Stretch) (one two : Tick) (c : Stretch) : Type 0 where
  pub appended : new ≡ old ++ map (marked one two) (merged (ticks_of old a) (ticks_of old b))
  pub at : c.at ≡ length old
  pub len : c.len ≡ length (map (marked one two) (merged (ticks_of old a) (ticks_of old b)))

-- what the clock names stands behind the others, with the new path
pub record Raises (old new : List Tick) (a : Stretch) (own : Tick) (c : Stretch) : Type 0 where
  pub appended : new ≡ old ++ map (marked own own) (ticks_of old a)
  pub at : c.at ≡ length old
  pub len : c.len ≡ length (map (marked own own) (ticks_of old a))
