-- Final paths with their threads, and those in the bucket of a thread.
use Rattle.std.proofs.Common.{◌≡◌, ◌⊎◌, inl, inr, ◌<◌, ℕ, zero, suc, List, [], ◌∷◌, ◌++◌, length, min, Bool, true, false, cond, Some, slice_get, refl, ap, sym, ◌∙◌, subst}
use Rattle.std.proofs.Common.{arith, eq-eqb}
use Rattle.std.specs.List.{filter}
use Rattle.te_terms.specs.Steps.{Member}
use Rattle.te_trail.specs.Paths.{Path, thread_of}
use Rattle.te_trail.specs.Stores.{Holds}
use Rattle.te_search.specs.declared.finals.Final.{Final}
use Rattle.te_search.specs.Finals.{numbers_of, is_in, bucket_numbers, TellThreads}
use Rattle.te_search.specs.Searching.{paths_by, NoPathTwice}
use Rattle.te_trail.specs.Records.{path_at}
use Rattle.te_search.specs.Assemblies.{AssemblyStand}

-- ---- threads stay told

there_still : (paths more : List Path) (n : ℕ) (x : Path) → n < length paths → slice_get (paths ++ more) n ≡ Some x → slice_get paths n ≡ Some x
there_still [] more n x h e = absurd (omega (arith, h))
there_still (y ∷ paths) more zero x h e = e
there_still (y ∷ paths) more (suc n) x h e = there_still paths more n x (omega (arith, h)) e

number_there : (finals : List Final) (i : ℕ) (f : Final) → slice_get finals i ≡ Some f → slice_get (numbers_of finals) i ≡ Some f.path
number_there [] i f e = cc
number_there (g ∷ finals) zero f e = (let one : g ≡ f = cc in ap (λ q. Some q.path) one)
number_there (g ∷ finals) (suc i) f e = number_there finals i f e

pub told_more : (paths more : List Path) (finals : List Final) → ((i n : ℕ) → slice_get (numbers_of finals) i ≡ Some n → n < length paths) → TellThreads paths finals
    → TellThreads (paths ++ more) finals
told_more paths more finals low told i f x ef ex = told i f x ef (there_still paths more f.path x (low i f.path (number_there finals i f ef)) ex)

last_or_old : (finals : List Final) (g : Final) (i : ℕ) (f : Final) → slice_get (finals ++ (g ∷ [])) i ≡ Some f → (g ≡ f) ⊎ (slice_get finals i ≡ Some f)
last_or_old [] g zero f e = inl cc
last_or_old [] g (suc i) f e = cc
last_or_old (h ∷ finals) g zero f e = inr e
last_or_old (h ∷ finals) g (suc i) f e = last_or_old finals g i f e

pub told_one : (paths : List Path) (finals : List Final) (p t : ℕ) → TellThreads paths finals → ((x : Path) → slice_get paths p ≡ Some x → thread_of x ≡ t)
    → TellThreads paths (finals ++ (record { path = p; thread = t } ∷ []))
told_one paths finals p t told one i f x ef ex = elim (last_or_old finals (record { path = p; thread = t }) i f ef) [
  | inl e ↦ subst (λ (k : Final). slice_get paths k.path ≡ Some x → thread_of x ≡ k.thread) e (one x) ex
  | inr e ↦ told i f x e ex
]

-- ---- a bucket

kept_number : (take_it : Final → Bool) (finals : List Final) (i n : ℕ)
    → slice_get (numbers_of (filter take_it finals)) i ≡ Some n → (j : ℕ) × (slice_get (numbers_of finals) j ≡ Some n)
kept_number take_it [] i n e = cc
kept_number take_it (f ∷ finals) i n e = go (take_it f) i (λ k m. kept_number take_it finals k m) e
  where
    go : (b : Bool) (i : ℕ) → ((i n : ℕ) → slice_get (numbers_of (filter take_it finals)) i ≡ Some n → (j : ℕ) × (slice_get (numbers_of finals) j ≡ Some n))
        → slice_get (numbers_of (cond b (f ∷ filter take_it finals) (filter take_it finals))) i ≡ Some n → (j : ℕ) × (slice_get (numbers_of (f ∷ finals)) j ≡ Some n)
    go true zero ih e = (0, e)
    go true (suc i) ih e = (let r : (j : ℕ) × (slice_get (numbers_of finals) j ≡ Some n) = ih i n e in (suc r.0, r.1))
    go false i ih e = (let r : (j : ℕ) × (slice_get (numbers_of finals) j ≡ Some n) = ih i n e in (suc r.0, r.1))

kept_path : (paths : List Path) (take_it : Final → Bool) (finals : List Final) (x : Path)
    → Holds (paths_by paths (numbers_of (filter take_it finals))) x → Holds (paths_by paths (numbers_of finals)) x
kept_path paths take_it [] x h = h
kept_path paths take_it (f ∷ finals) x h = go (take_it f) (kept_path paths take_it finals x) h
  where
    go : (b : Bool) → (Holds (paths_by paths (numbers_of (filter take_it finals))) x → Holds (paths_by paths (numbers_of finals)) x)
        → Holds (paths_by paths (numbers_of (cond b (f ∷ filter take_it finals) (filter take_it finals)))) x → Holds (paths_by paths (numbers_of (f ∷ finals))) x
    go true ih (inl e) = inl e
    go true ih (inr r) = inr (ih r)
    go false ih r = inr (ih r)

kept_once : (paths : List Path) (take_it : Final → Bool) (finals : List Final)
    → NoPathTwice (paths_by paths (numbers_of finals)) → NoPathTwice (paths_by paths (numbers_of (filter take_it finals)))
kept_once paths take_it [] h = h
kept_once paths take_it (f ∷ finals) h = go (take_it f) (kept_once paths take_it finals h.1)
  where
    go : (b : Bool) → NoPathTwice (paths_by paths (numbers_of (filter take_it finals)))
        → NoPathTwice (paths_by paths (numbers_of (cond b (f ∷ filter take_it finals) (filter take_it finals))))
    go true rest = ((λ r. h.0 (kept_path paths take_it finals (path_at paths f.path) r)), rest)
    go false rest = rest

-- assembly stands on a bucket as it does on all final paths
pub stand_in : (g : List Member) (paths : List Path) (threads : List ℕ) (finals : List Final) (bucket : ℕ) (there : List ℕ) → AssemblyStand g paths threads (numbers_of finals)
    → there ≡ bucket_numbers bucket finals → AssemblyStand g paths threads there
stand_in g paths threads finals bucket there s is = subst (AssemblyStand g paths threads) (sym is) (record {
  store = s.store;
  ups = s.ups;
  closed = s.closed;
  finals_low = λ i n e. (let j : (j : ℕ) × (slice_get (numbers_of finals) j ≡ Some n) = kept_number (is_in bucket) finals i n e in s.finals_low j.0 n j.1);
  finals_final = λ x h. s.finals_final x (kept_path paths (is_in bucket) finals x h);
  finals_once = kept_once paths (is_in bucket) finals s.finals_once;
  threads_are = s.threads_are;
})

final_at : (finals : List Final) (i n : ℕ) → slice_get (numbers_of finals) i ≡ Some n → (f : Final) × (slice_get finals i ≡ Some f) × (f.path ≡ n)
final_at [] i n e = cc
final_at (f ∷ finals) zero n e = (f, refl, cc)
final_at (f ∷ finals) (suc i) n e = final_at finals i n e

in_filter : (take_it : Final → Bool) (finals : List Final) (i : ℕ) (f : Final) → slice_get finals i ≡ Some f
    → take_it f ≡ true → (j : ℕ) × (slice_get (numbers_of (filter take_it finals)) j ≡ Some f.path)
in_filter take_it [] i f e w = cc
in_filter take_it (g ∷ finals) zero f e w = go (take_it g) (let one : g ≡ f = cc in ap take_it one ∙ w)
  where
    go : (b : Bool) → b ≡ true → (j : ℕ) × (slice_get (numbers_of (cond b (g ∷ filter take_it finals) (filter take_it finals))) j ≡ Some f.path)
    go true k = (0, (let one : g ≡ f = cc in ap (λ q. Some q.path) one))
    go false k = cc
in_filter take_it (g ∷ finals) (suc i) f e w = go (take_it g) (in_filter take_it finals i f e w)
  where
    go : (b : Bool) → (j : ℕ) × (slice_get (numbers_of (filter take_it finals)) j ≡ Some f.path)
        → (j : ℕ) × (slice_get (numbers_of (cond b (g ∷ filter take_it finals) (filter take_it finals))) j ≡ Some f.path)
    go true r = (suc r.0, r.1)
    go false r = r

-- each final path of the thread is in its bucket
abbrev pub HasAllOf : List Path → List ℕ → List ℕ → ℕ → Type 0
HasAllOf paths finals there t = (i n : ℕ) (x : Path) → slice_get finals i ≡ Some n → slice_get paths n ≡ Some x → thread_of x ≡ t → (j : ℕ) × (slice_get there j ≡ Some n)

pub bucket_has : (paths : List Path) (finals : List Final) (t : ℕ) (there : List ℕ) → TellThreads paths finals → there ≡ bucket_numbers (min t 64) finals
    → HasAllOf paths (numbers_of finals) there t
bucket_has paths finals t there told is i n x en ex tx =
    let f : (f : Final) × (slice_get finals i ≡ Some f) × (f.path ≡ n) = final_at finals i n en in
    let th : f.0.thread ≡ t = sym (told i f.0 x f.1 (ap (slice_get paths) f.2 ∙ ex)) ∙ tx in
    let w : is_in (min t 64) f.0 ≡ true = eq-eqb (min f.0.thread 64) (min t 64) (ap (λ k. min k 64) th) in
    let j : (j : ℕ) × (slice_get (bucket_numbers (min t 64) finals) j ≡ Some f.0.path) = in_filter (is_in (min t 64)) finals i f.0 f.1 w in
    (j.0, ap (λ l. slice_get l j.0) is ∙ j.1 ∙ ap Some f.2)
