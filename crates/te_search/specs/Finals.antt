-- The final paths of a search by their threads. No public clause cites this module.
use Rattle.std.specs.Prelude.{◌≡◌, ℕ, List, map, min, Bool, nat_eq, Some, slice_get}
use Rattle.std.proofs.Common.{Vec, Global}
use Rattle.std.specs.List.{filter}
use Rattle.te_pair.specs.Places.{items_or_none}
use Rattle.te_trail.specs.Paths.{Path, thread_of}
use Rattle.te_search.specs.declared.finals.Final.{Final}

abbrev pub number_of : Final → ℕ
number_of f = f.path

abbrev pub numbers_of : List Final → List ℕ
numbers_of finals = map number_of finals

-- the threads below 64 have a bucket each, and all others share one
abbrev pub is_in : ℕ → Final → Bool
is_in bucket f = nat_eq (min f.thread 64) bucket

-- the numbers of the final paths of a bucket, in the order of assembling
abbrev pub bucket_numbers : ℕ → List Final → List ℕ
bucket_numbers bucket finals = numbers_of (filter (is_in bucket) finals)

-- the numbers in a bucket
abbrev pub numbers_at : List (Vec ℕ Global) → ℕ → List ℕ
numbers_at buckets bucket = items_or_none (slice_get buckets bucket)

-- each bucket has the numbers of its final paths
abbrev pub IsSorted : List Final → List (Vec ℕ Global) → Type 0
IsSorted finals buckets = (bucket : ℕ) → numbers_at buckets bucket ≡ bucket_numbers bucket finals

-- the threads are those of the paths
abbrev pub TellThreads : List Path → List Final → Type 0
TellThreads paths finals = (i : ℕ) (f : Final) (x : Path) → slice_get finals i ≡ Some f → slice_get paths f.path ≡ Some x → thread_of x ≡ f.thread
