-- A final path that can't go on to a group.
use Rattle.std.proofs.Common.{◌≡◌, ℕ, List, [], ◌∷◌, min, Bool, false, Some, None, slice_get, ap, sym}
use Rattle.te_terms.specs.Steps.{Member}
use Rattle.te_trail.specs.Paths.{Path, thread_of}
use Rattle.te_trail.specs.Clocks.{deeper, clock_of}
use Rattle.te_trail.specs.Stores.{Holds}
use Rattle.te_trail.specs.Trails.{IsClock}
use Rattle.te_search.specs.declared.finals.Final.{Final}
use Rattle.te_search.specs.Finals.{numbers_of, bucket_numbers, TellThreads}
use Rattle.te_search.specs.Groups.{IsFinal}
use Rattle.te_search.specs.Searching.{paths_by, Fails}
use Rattle.te_search.specs.Works.{AreLow}
use Rattle.te_search.specs.Assemblies.{Crew, TellsFinal, LacksOne}
use Rattle.te_search.proofs.FinalsTold.{HasAllOf, bucket_has}
use Rattle.te_search.proofs.JoinedPasts.{fails_open}
use Rattle.te_search.proofs.Trying.{listed, final_not}

-- a thread with an empty bucket has no final path
none_listed : (paths : List Path) (finals : List Final) (t : ℕ) → AreLow paths (numbers_of finals) → TellThreads paths finals → bucket_numbers (min t 64) finals ≡ []
    → (f : Path) → Holds (paths_by paths (numbers_of finals)) f → thread_of f ≡ t → ⊥
none_listed paths finals t low told empty f h tf =
    let l : (i : ℕ) × (n : ℕ) × (slice_get (numbers_of finals) i ≡ Some n) × (slice_get paths n ≡ Some f) = listed paths (numbers_of finals) low f h in
    let all : HasAllOf paths (numbers_of finals) [] t = bucket_has paths finals t [] told (sym empty) in
    let k : (j : ℕ) × (slice_get [] j ≡ Some l.1) = all l.0 l.1 f l.2 l.3 tf in
    nowhere k.0 l.1 k.1
  where
    nowhere : (j n : ℕ) → slice_get [] j ≡ Some n → ⊥
    nowhere j n e = cc

pub lacks_here : (g : List Member) (paths : List Path) (finals : List Final) (p q t : ℕ) (b : Bool) → AreLow paths (numbers_of finals) → TellThreads paths finals
    → IsClock paths p t (Some q) → TellsFinal g paths q b → b ≡ false → bucket_numbers (min t 64) finals ≡ [] → LacksOne g paths (numbers_of finals) p
lacks_here g paths finals p q t b low told clock tells off empty x ex =
    let c : (c : Path) × (slice_get paths q ≡ Some c) × (clock_of x t ≡ Some c) = clock x ex in
    (t, c.0, c.2, final_not g paths q b tells off c.0 c.1, none_listed paths finals t low told empty)

pub lacking_fails : (g : List Member) (paths : List Path) (finals : List ℕ) (p : ℕ) (x : Path) → slice_get paths p ≡ Some x → Crew g (Holds paths) (IsFinal g) (x ∷ [])
    → LacksOne g paths finals p → Fails (Holds (paths_by paths finals)) (x ∷ [])
lacking_fails g paths finals p x ex crew lacks = (let (t, c, e, open_, none) = lacks x ex in
    fails_open g (Holds paths) (IsFinal g) (Holds (paths_by paths finals)) (x ∷ []) crew t c (ap (λ o. deeper o None) e) open_ (λ f av tf line. absurd (none f av tf)))
