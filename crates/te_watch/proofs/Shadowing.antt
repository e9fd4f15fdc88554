-- The shadow of a history with entries more.
use Rattle.std.proofs.Common.{◌≡◌, ℕ, zero, suc, ◌+◌, ◌≤◌, Bool, List, [], ◌∷◌, ◌++◌, map, take, set, replicate, length, refl, ap, sym, ◌∙◌, arith, append_assoc, length-append}
use Rattle.std.proofs.lemmas.List.{append-nil, map-set}
use Rattle.te_terms.specs.declared.event.Outcome.{Outcome}
use Rattle.te_cert.specs.declared.cert.Member.{Member}
use Rattle.te_history.specs.declared.entry.Entry.{Entry}
use Rattle.te_history.specs.declared.entry.Entry.TheVariants as entries
use Rattle.te_history.specs.State.{State, idle, parked, given, ended, with_standing, with_given, changed, state}
use Rattle.te_history.specs.Histories.{phase_of}
use Rattle.te_history.specs.Kept.{phase_after, resting_after}
use Rattle.te_history.proofs.AfterEntry.{state-after}
use Rattle.te_watch.specs.declared.light.Light.{Light}
use Rattle.te_watch.specs.declared.light.Light.TheVariants as lights
use Rattle.te_watch.specs.Shadows.{Shadow, light_of, commits_of, shadow}
use Rattle.te_watch.specs.Views.{lights_given, lights_after, commits_after, shadow_after, shadow_from}

abbrev lights_in : State → List Light
lights_in s = map light_of s.callers

given-lights : (ms : List Member) (os : List Outcome) (s : State) → lights_in (with_given ms os s) ≡ lights_given ms os (lights_in s)
given-lights [] os s = refl
given-lights (m ∷ ms) [] s = refl
given-lights (m ∷ ms) (o ∷ os) s =
    given-lights ms os (with_standing m.thread (given m.ticket o) s)
    ∙ ap (lights_given ms os) (map-set light_of s.callers m.thread (given m.ticket o))

changed-lights : (s : State) (e : Entry) → lights_in (changed s e) ≡ lights_after (lights_in s) e
changed-lights s (entries.Post by ticket event) = map-set light_of s.callers by (parked ticket event)
changed-lights s (entries.Commit by cert outcomes) = given-lights cert.members outcomes s
changed-lights s (entries.Withdraw by ticket) = map-set light_of s.callers by idle
changed-lights s (entries.Take by ticket outcome) = map-set light_of s.callers by idle
changed-lights s (entries.Rest by) = refl
changed-lights s (entries.Stuck by) = refl
changed-lights s (entries.End by how) = map-set light_of s.callers by ended

given-stuck : (ms : List Member) (os : List Outcome) (s : State) → (with_given ms os s).stuck ≡ s.stuck
given-stuck [] os s = refl
given-stuck (m ∷ ms) [] s = refl
given-stuck (m ∷ ms) (o ∷ os) s = given-stuck ms os (with_standing m.thread (given m.ticket o) s)

given-resting : (ms : List Member) (os : List Outcome) (s : State) → (with_given ms os s).resting ≡ s.resting
given-resting [] os s = refl
given-resting (m ∷ ms) [] s = refl
given-resting (m ∷ ms) (o ∷ os) s = given-resting ms os (with_standing m.thread (given m.ticket o) s)

changed-phase : (s : State) (e : Entry) → phase_of (changed s e) ≡ phase_after (phase_of s) e
changed-phase s (entries.Post by ticket event) = refl
changed-phase s (entries.Commit by cert outcomes) = ap (λ (b : Bool). phase_of (record { callers = s.callers; stuck = b; resting = s.resting })) (given-stuck cert.members outcomes s)
changed-phase s (entries.Withdraw by ticket) = refl
changed-phase s (entries.Take by ticket outcome) = refl
changed-phase s (entries.Rest by) = refl
changed-phase s (entries.Stuck by) = refl
changed-phase s (entries.End by how) = refl

changed-resting : (s : State) (e : Entry) → (changed s e).resting ≡ resting_after s.resting e
changed-resting s (entries.Post by ticket event) = refl
changed-resting s (entries.Commit by cert outcomes) = given-resting cert.members outcomes s
changed-resting s (entries.Withdraw by ticket) = refl
changed-resting s (entries.Take by ticket outcome) = refl
changed-resting s (entries.Rest by) = refl
changed-resting s (entries.Stuck by) = refl
changed-resting s (entries.End by how) = refl

commits-after : (list : List Entry) (e : Entry) → commits_of (list ++ e ∷ []) ≡ commits_after (commits_of list) e
commits-after [] (entries.Post by ticket event) = refl
commits-after [] (entries.Commit by cert outcomes) = refl
commits-after [] (entries.Withdraw by ticket) = refl
commits-after [] (entries.Take by ticket outcome) = refl
commits-after [] (entries.Rest by) = refl
commits-after [] (entries.Stuck by) = refl
commits-after [] (entries.End by how) = refl
commits-after (entries.Post by ticket event ∷ xs) e = commits-after xs e
commits-after (entries.Commit by cert outcomes ∷ xs) e = one_more (commits_of xs) e (commits_of (xs ++ e ∷ [])) (commits-after xs e)
  where
    one_more : (n : ℕ) (x : Entry) (m : ℕ) → m ≡ commits_after n x → suc m ≡ commits_after (suc n) x
    one_more n (entries.Post by ticket event) m is = omega (arith, is)
    one_more n (entries.Commit by cert outcomes) m is = omega (arith, is)
    one_more n (entries.Withdraw by ticket) m is = omega (arith, is)
    one_more n (entries.Take by ticket outcome) m is = omega (arith, is)
    one_more n (entries.Rest by) m is = omega (arith, is)
    one_more n (entries.Stuck by) m is = omega (arith, is)
    one_more n (entries.End by how) m is = omega (arith, is)
commits-after (entries.Withdraw by ticket ∷ xs) e = commits-after xs e
commits-after (entries.Take by ticket outcome ∷ xs) e = commits-after xs e
commits-after (entries.Rest by ∷ xs) e = commits-after xs e
commits-after (entries.Stuck by ∷ xs) e = commits-after xs e
commits-after (entries.End by how ∷ xs) e = commits-after xs e

-- with one entry more
shadow-after : (callers : ℕ) (list : List Entry) (e : Entry) → shadow callers (list ++ e ∷ []) ≡ shadow_after (shadow callers list) e
shadow-after callers list e =
    let s = state callers list in
    let now : state callers (list ++ e ∷ []) ≡ changed s e = state-after callers list e in
    let front : length (list ++ e ∷ []) ≡ length list + 1 = length-append list (e ∷ []) in
    let phase : phase_of (state callers (list ++ e ∷ [])) ≡ phase_after (phase_of s) e = ap phase_of now ∙ changed-phase s e in
    let resting : (state callers (list ++ e ∷ [])).resting ≡ resting_after s.resting e = ap (λ (x : State). x.resting) now ∙ changed-resting s e in
    let ls : lights_in (state callers (list ++ e ∷ [])) ≡ lights_after (lights_in s) e = ap lights_in now ∙ changed-lights s e in
    λ i. record { front = front i; commits = commits-after list e i; phase = phase i; resting = resting i; lights = ls i }

-- with these more
pub shadow-from : (callers : ℕ) (list news : List Entry) → shadow callers (list ++ news) ≡ shadow_from (shadow callers list) news
shadow-from callers list [] = ap (shadow callers) (append-nil list)
shadow-from callers list (e ∷ es) =
    ap (shadow callers) (sym (append_assoc list (e ∷ []) es))
    ∙ shadow-from callers (list ++ e ∷ []) es
    ∙ ap (λ (s : Shadow). shadow_from s es) (shadow-after callers list e)

-- no more commits than entries
pub commits_few : (list : List Entry) → commits_of list ≤ length list
commits_few [] = omega arith
commits_few (entries.Post by ticket event ∷ xs) = omega (arith, commits_few xs)
commits_few (entries.Commit by cert outcomes ∷ xs) = omega (arith, commits_few xs)
commits_few (entries.Withdraw by ticket ∷ xs) = omega (arith, commits_few xs)
commits_few (entries.Take by ticket outcome ∷ xs) = omega (arith, commits_few xs)
commits_few (entries.Rest by ∷ xs) = omega (arith, commits_few xs)
commits_few (entries.Stuck by ∷ xs) = omega (arith, commits_few xs)
commits_few (entries.End by how ∷ xs) = omega (arith, commits_few xs)

-- ---- the lights of the callers are the first of those of a view

pub opening-lights : (n m : ℕ) → n ≤ m → take n (replicate m lights.Idle) ≡ map light_of (replicate n idle)
opening-lights zero m le = refl
opening-lights (suc n) zero le = absurd (omega arith)
opening-lights (suc n) (suc m) le = ap (λ (ls : List Light). lights.Idle ∷ ls) (opening-lights n m (omega (arith, le)))

first_set : (n : ℕ) (ls : List Light) (t : ℕ) (l : Light) → take n (set ls t l) ≡ set (take n ls) t l
first_set zero ls t l = refl
first_set (suc n) [] t l = refl
first_set (suc n) (x ∷ xs) zero l = refl
first_set (suc n) (x ∷ xs) (suc t) l = ap (λ (ys : List Light). x ∷ ys) (first_set n xs t l)

first_given : (n : ℕ) (ms : List Member) (os : List Outcome) (ls : List Light) → take n (lights_given ms os ls) ≡ lights_given ms os (take n ls)
first_given n [] os ls = refl
first_given n (m ∷ ms) [] ls = refl
first_given n (m ∷ ms) (o ∷ os) ls =
    first_given n ms os (set ls m.thread (lights.Given m.ticket)) ∙ ap (lights_given ms os) (first_set n ls m.thread (lights.Given m.ticket))

pub first_after : (n : ℕ) (ls : List Light) (e : Entry) → take n (lights_after ls e) ≡ lights_after (take n ls) e
first_after n ls (entries.Post by ticket event) = first_set n ls by (lights.Parked ticket)
first_after n ls (entries.Commit by cert outcomes) = first_given n cert.members outcomes ls
first_after n ls (entries.Withdraw by ticket) = first_set n ls by lights.Idle
first_after n ls (entries.Take by ticket outcome) = first_set n ls by lights.Idle
first_after n ls (entries.Rest by) = refl
first_after n ls (entries.Stuck by) = refl
first_after n ls (entries.End by how) = first_set n ls by lights.Ended

-- ---- how long a history is, of which a shadow goes on

pub front_from : (s : Shadow) (es : List Entry) → (shadow_from s es).front ≡ s.front + length es
front_from s [] = omega arith
front_from s (e ∷ es) = omega (arith, front_from (shadow_after s e) es)
