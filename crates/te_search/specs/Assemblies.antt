-- What assembly tries and finds. No public clause cites this module.
use Rattle.std.specs.Prelude.{◌≡◌, ◌<◌, ◌↔◌, ℕ, List, [], ◌∷◌, map, length, Bool, true, false, cond, ltb, Option, Some, None, slice_get, IsTrue, MatchOption}
use Rattle.std.proofs.Common.{Vec, Global}
use Rattle.std.specs.List.{AllByRecursion}
use Rattle.te_terms.specs.Steps.{Member}
use Rattle.te_trail.specs.Paths.{Path, thread_of, parent_of, move_of, RestsOn, IsAbove, OnOneLine}
use Rattle.te_trail.specs.Clocks.{deeper, clock_of}
use Rattle.te_trail.specs.Stores.{Holds, IsStore, any_rests_on}
use Rattle.te_trail.proofs.PastsChain.{Agreeing}
use Rattle.te_search.specs.Groups.{IsFinal, Partial, IsPartial, NoneIsAnother}
use Rattle.te_search.specs.Searching.{Fails, AreUp, NoPathTwice, paths_by}

-- ---- what is tried

-- a partial group of the start whose joined past has that of these paths, and a choice or a meeting besides
pub record IsMore (g : List Member) (paths : List Path) (start : Path) (ps : List Path) (q : Partial) : Type 0 where
  pub partial : IsPartial g paths q
  pub start_is : q.start ≡ start
  pub wider : (m : Path) → any_rests_on ps m ≡ true → any_rests_on q.members m ≡ true
  pub new : Path
  pub before : Path
  pub goes_on : parent_of new ≡ Some before
  pub has_new : any_rests_on q.members (move_of new) ≡ true
  pub lacked : any_rests_on ps (move_of new) ≡ false

-- so many partial groups, none twice
pub record Tries (g : List Member) (paths : List Path) (start : Path) (ps : List Path) (count : ℕ) : Type 0 where
  pub more : List Partial
  pub count_is : length more ≡ count
  pub are : AllByRecursion (IsMore g paths start ps) more
  pub once : NoneIsAnother more

-- the partial group has the final path of a thread
pub record IsThrough (finals : List Path) (t n : ℕ) (q : Partial) : Type 0 where
  pub place : ℕ
  pub early : place < n
  pub by : Path
  pub is : slice_get finals place ≡ Some by
  pub thread : thread_of by ≡ t
  pub has : any_rests_on q.members (move_of by) ≡ true

-- by the first n final paths of a thread
pub record TriesBy (g : List Member) (paths : List Path) (start : Path) (ps finals : List Path) (t n count : ℕ) : Type 0 where
  pub more : List Partial
  pub count_is : length more ≡ count
  pub are : AllByRecursion (IsMore g paths start ps) more
  pub through : AllByRecursion (IsThrough finals t n) more
  pub once : NoneIsAnother more

-- ---- the joined past by threads

abbrev pub Numbers : List Path → Option Path → Option ℕ → Type 0
Numbers paths path None = path ≡ None
Numbers paths path (Some n) = (c : Path) × (slice_get paths n ≡ Some c) × (path ≡ Some c)

abbrev pub later_number : Option ℕ → Option ℕ → Option ℕ
later_number None b = b
later_number (Some a) None = Some a
later_number (Some a) (Some b) = cond (ltb a b) (Some b) (Some a)

-- for each of the threads the number of its path
pub record NamesPaths (paths : List Path) (threads : List ℕ) (J : ℕ → Option Path) (joined : List (Option ℕ)) : Type 0 where
  pub wide : length joined ≡ length threads
  pub each : (i t : ℕ) (o : Option ℕ) → slice_get threads i ≡ Some t → slice_get joined i ≡ Some o → Numbers paths (J t) o

-- the deepest path of each thread in the joined past
abbrev pub joint : List Path → ℕ → Option Path
joint [] t = None
joint (p ∷ ps) t = deeper (clock_of p t) (joint ps t)

-- nothing that is made stands below
abbrev pub IsTop : (Path → Type 0) → Path → Type 0
IsTop made x = (z : Path) → made z → IsAbove x z → z ≡ x

-- final paths that are made and agree
pub record Crew (g : List Member) (made fin : Path → Type 0) (ps : List Path) : Type 0 where
  pub fins : (y : Path) → Holds ps y → fin y
  pub team : Agreeing g ps
  pub makes : (y : Path) (t : ℕ) (c : Path) → made y → clock_of y t ≡ Some c → made c
  pub made_all : (y : Path) → Holds ps y → made y
  pub tops : (y : Path) → Holds ps y → IsTop made y

-- lines with the named paths
abbrev pub IsLined : Path → (ℕ → Option Path) → Type 0
IsLined f J = (t : ℕ) (a x : Path) → clock_of f t ≡ Some a → J t ≡ Some x → OnOneLine a x

-- ---- where assembly stands

-- what a store, its threads and its final paths are for assembly
pub record AssemblyStand (g : List Member) (paths : List Path) (threads finals : List ℕ) : Type 0 where
  pub store : IsStore g paths
  pub ups : AreUp paths
  pub closed : (y z : Path) → Holds paths y → RestsOn (move_of z) y → Holds paths z
  pub finals_low : (i n : ℕ) → slice_get finals i ≡ Some n → n < length paths
  pub finals_final : (x : Path) → Holds (paths_by paths finals) x → IsFinal g x
  pub finals_once : NoPathTwice (paths_by paths finals)
  pub threads_are : threads ≡ map (λ m. m.thread) g

-- the answer tells whether path p is final
abbrev pub TellsFinal : List Member → List Path → ℕ → Bool → Type 0
TellsFinal g paths p answer = (x : Path) → slice_get paths p ≡ Some x → (IsTrue answer ↔ IsFinal g x)

abbrev pub AreNumbers : List Path → List (Option ℕ) → Type 0
AreNumbers paths joined = (i m : ℕ) → slice_get joined i ≡ Some (Some m) → m < length paths

abbrev pub AreNone : List (Option ℕ) → Type 0
AreNone joined = (i : ℕ) (o : Option ℕ) → slice_get joined i ≡ Some o → o ≡ None

-- the first place whose path isn't final
abbrev pub IsOpenAt : List Member → List Path → List (Option ℕ) → Option ℕ → Type 0
IsOpenAt g paths joined None = (i m : ℕ) (x : Path) → slice_get joined i ≡ Some (Some m) → slice_get paths m ≡ Some x → IsFinal g x
IsOpenAt g paths joined (Some i) = (m : ℕ) × (slice_get joined i ≡ Some (Some m)) × ((x : Path) → slice_get paths m ≡ Some x → ¬ IsFinal g x)

-- the past of path p stands, in a thread that has no final path, at a path that isn't final
abbrev pub LacksOne : List Member → List Path → List ℕ → ℕ → Type 0
LacksOne g paths finals p = (x : Path) → slice_get paths p ≡ Some x → (t : ℕ) × (c : Path) × (clock_of x t ≡ Some c) × (¬ IsFinal g c)
    × ((f : Path) → Holds (paths_by paths finals) f → thread_of f ≡ t → ⊥)

-- the joined past has only these threads
abbrev pub IsOfThreads : List ℕ → (ℕ → Option Path) → Type 0
IsOfThreads threads J = (t : ℕ) (c : Path) → J t ≡ Some c → (i : ℕ) × (slice_get threads i ≡ Some t)

abbrev pub TellsLined : List Path → List ℕ → ℕ → List (Option ℕ) → Bool → Type 0
TellsLined paths threads p joined answer = (x : Path) (J : ℕ → Option Path) → slice_get paths p ≡ Some x → NamesPaths paths threads J joined → IsOfThreads threads J → (IsTrue answer ↔ IsLined x J)

abbrev pub TakesIn : List Path → List ℕ → ℕ → List (Option ℕ) → List (Option ℕ) → Type 0
TakesIn paths threads p joined out = (x : Path) (J : ℕ → Option Path) → slice_get paths p ≡ Some x → NamesPaths paths threads J joined → IsLined x J
    → NamesPaths paths threads (λ t. deeper (clock_of x t) (J t)) out

-- how assembly comes to these paths: a path is taken whose thread the joined past has
pub data Reaches : Path → List Path → Type 0 where
  starts : (f : Path) → Reaches f (f ∷ [])
  takes : (start : Path) (ps : List Path) (f x : Path) → Reaches start ps → thread_of x ≡ thread_of f → any_rests_on ps (move_of x) ≡ true → Reaches start (f ∷ ps)

-- final paths that go on from others, and every path that their joined past names is final
pub record IsFound (g : List Member) (paths : List Path) (threads : List ℕ) (start : Path) (ps : List Path) (out : List (Option ℕ)) : Type 0 where
  pub members : List Path
  pub crew : Crew g (Holds paths) (IsFinal g) members
  pub names : NamesPaths paths threads (joint members) out
  pub reached : Reaches start ps → Reaches start members
  pub all : IsOpenAt g paths out None

-- what is tried from these paths, and what is found
abbrev pub Assembles : List Member → List Path → List ℕ → List ℕ → List (Option ℕ) → ℕ → Option (Vec (Option ℕ) Global) → Type 0
Assembles g paths threads finals joined count result = (start : Path) (ps : List Path) → Crew g (Holds paths) (IsFinal g) ps → Holds ps start → NamesPaths paths threads (joint ps) joined
    → Tries g paths start ps count × MatchOption result (Fails (Holds (paths_by paths finals)) ps) (λ v. IsFound g paths threads start ps v.items)

abbrev pub TriesOnly : List Member → List Path → List ℕ → List (Option ℕ) → ℕ → Type 0
TriesOnly g paths threads joined count = (start : Path) (ps : List Path) → Crew g (Holds paths) (IsFinal g) ps
    → Holds ps start → NamesPaths paths threads (joint ps) joined → Tries g paths start ps count
