-- Clocks: for each thread the deepest path of a past, and when two paths agree by them. This project's own.
use Rattle.std.specs.Prelude.{◌≡◌, ◌≢◌, ◌⊎◌, ℕ, Bool, cond, ltb, nat_eq, Option, Some, None}
use Rattle.te_trail.specs.Paths.{Path, planted, branched, sent, got, thread_of, depth_of, IsAbove, OnOneLine}

abbrev pub deeper : Option Path → Option Path → Option Path
deeper None b = b
deeper (Some a) None = Some a
deeper (Some a) (Some b) = Some (cond (ltb (depth_of a) (depth_of b)) b a)

-- the deepest path of a thread in the past; for its own thread that is the path itself
abbrev pub clock_of : Path → ℕ → Option Path
clock_of (planted s) t = cond (nat_eq t s) (Some (planted s)) None
clock_of (branched p left) t = cond (nat_eq t (thread_of p)) (Some (branched p left)) (clock_of p t)
clock_of (sent s r) t = cond (nat_eq t (thread_of s)) (Some (sent s r)) (cond (nat_eq t (thread_of r)) (Some (got s r)) (deeper (clock_of s t) (clock_of r t)))
clock_of (got s r) t = cond (nat_eq t (thread_of s)) (Some (sent s r)) (cond (nat_eq t (thread_of r)) (Some (got s r)) (deeper (clock_of s t) (clock_of r t)))

-- the clock of p names a proper descendant of q
abbrev pub Passes : Path → Path → Type 0
Passes p q = (c : Path) × (clock_of p (thread_of q) ≡ Some c) × IsAbove q c × (c ≢ q)

-- the threads differ, paths that both clocks name for one thread stand on one line, and neither clock passes the other path
pub record Agree (p q : Path) : Type 0 where
  pub apart : thread_of p ≢ thread_of q
  pub lines : (t : ℕ) (a b : Path) → clock_of p t ≡ Some a → clock_of q t ≡ Some b → OnOneLine a b
  pub not_passed : ¬ Passes q p
  pub not_passing : ¬ Passes p q

-- each meeting that the path rests on is one of agreeing paths
abbrev pub IsSound : Path → Type 0
IsSound (planted t) = Unit {0}
IsSound (branched p left) = IsSound p
IsSound (sent s r) = IsSound s × IsSound r × Agree s r
IsSound (got s r) = IsSound s × IsSound r × Agree s r
