-- Members whose threads rise are each named by their thread, and so are the ends of their meetings.
use Rattle.std.proofs.Common.{◌≡◌, ◌≢◌, ℕ, zero, suc, ◌<◌, List, [], ◌∷◌, length, Some, refl, subst, arith}
use Rattle.std.specs.List.{slice_get, AllByRecursion}
use Rattle.te_cert.specs.declared.cert.Member.{Member}
use Rattle.te_cert.specs.declared.cert.Meeting.{Meeting}
use Rattle.te_cert.specs.Checks.{RiseAfter, ThreadsRise, AreBetween}
use Rattle.te_report.specs.Readable.{IsNamed, IsMeetingOf}

rise_above : (low : ℕ) (ms : List Member) (k : ℕ) (m : Member) → RiseAfter low ms → slice_get ms k ≡ Some m → low < m.thread
rise_above low [] k m rise is = absurd cc
rise_above low (x ∷ xs) zero m rise is = let same : x ≡ m = cc in subst (λ (y : Member). low < y.thread) same rise.0
rise_above low (x ∷ xs) (suc k) m rise is =
    let first = rise.0 in
    let above = rise_above x.thread xs k m rise.1 is in
    omega (arith, first, above)

rise_between : (low : ℕ) (ms : List Member) (k place : ℕ) (m n : Member) → RiseAfter low ms → k < place → slice_get ms k ≡ Some m → slice_get ms place ≡ Some n → m.thread < n.thread
rise_between low [] k place m n rise lt at there = absurd cc
rise_between low (x ∷ xs) k zero m n rise lt at there = absurd (omega (arith, lt))
rise_between low (x ∷ xs) zero (suc place) m n rise lt at there = let same : x ≡ m = cc in subst (λ (y : Member). y.thread < n.thread) same (rise_above x.thread xs place n rise.1 there)
rise_between low (x ∷ xs) (suc k) (suc place) m n rise lt at there = rise_between x.thread xs k place m n rise.1 (omega (arith, lt)) at there

-- a member's thread is above those of the members before it
higher : (ms : List Member) (k place : ℕ) (m n : Member) → ThreadsRise ms → k < place → slice_get ms k ≡ Some m → slice_get ms place ≡ Some n → m.thread < n.thread
higher [] k place m n rise lt at there = absurd cc
higher (x ∷ xs) k zero m n rise lt at there = absurd (omega (arith, lt))
higher (x ∷ xs) zero (suc place) m n rise lt at there = let same : x ≡ m = cc in subst (λ (y : Member). y.thread < n.thread) same (rise_above x.thread xs place n rise there)
higher (x ∷ xs) (suc k) (suc place) m n rise lt at there = rise_between x.thread xs k place m n rise (omega (arith, lt)) at there

some_member : (ms : List Member) (place : ℕ) → place < length ms → (m : Member) × (slice_get ms place ≡ Some m)
some_member [] place lt = absurd (omega (arith, lt))
some_member (x ∷ xs) zero lt = (x, refl)
some_member (x ∷ xs) (suc place) lt = some_member xs place (omega (arith, lt))

other_thread : (m n : Member) → m.thread < n.thread → m.thread ≢ n.thread
other_thread m n lt same = omega (arith, lt, same)

is_named : (ms : List Member) (place : ℕ) → ThreadsRise ms → place < length ms → IsNamed ms place
is_named ms place rise lt =
    let found = some_member ms place lt in
    record { member = found.0; there = found.1; first_one = λ k m before at. other_thread m found.0 (higher ms k place m found.0 rise before at found.1) }

pub are_meetings : (members : List Member) (meets : List Meeting) → ThreadsRise members → AreBetween (length members) meets → AllByRecursion (IsMeetingOf members) meets
are_meetings members [] rise between = tt
are_meetings members (m ∷ ms) rise between =
    let ends = between 0 m refl in
    ((is_named members m.sender rise ends.0, is_named members m.receiver rise ends.1), are_meetings members ms rise (λ j x is. between (suc j) x is))
