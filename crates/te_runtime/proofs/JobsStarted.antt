-- Jobs are started from the last one on, and joined from the first one on.
use Rattle.std.proofs.Common.{◌≡◌, ℕ, ◌≤◌, ◌+◌, List, [], ◌∷◌, ◌++◌, length, map, All, refl, sym, ap, ◌∙◌, subst, arith, append_assoc, length-append}
use Rattle.std.specs.List.{AllZip}
use Rattle.std.proofs.lemmas.List.{append-nil}
use Rattle.std.proofs.lemmas.List.Elements.{All-contains, Contains-append_right}
use Rattle.std.proofs.Math.ListN.{get_or-append}
use Rattle.te_script.specs.Cores.{At}
use Rattle.te_lock.specs.Lock.{Knowledge}
use Rattle.te_history.specs.declared.entry.Entry.{Entry}
use Rattle.te_runtime.specs.declared.working.Job.{Job}
use Rattle.te_runtime.specs.declared.running.Started.{Started}
use Rattle.te_runtime.specs.Working.{Worked}
use Rattle.te_runtime.specs.Started.{IsStarted, reversed, AreStarted, AreLeft, AreJoined}

pub none_started : (jobs : List Job) (started : List Started) → length started ≡ 0 → AreStarted jobs jobs started
none_started jobs [] none = record { taken = []; begun = []; jobs_are = sym (append-nil jobs); started_are = refl; each = tt }
none_started jobs (x ∷ xs) none = absurd (omega arith)

pub one_started : (jobs left left' : List Job) (started started' : List Started) (j : Job) (x : Started) → AreStarted jobs left started
    → left ≡ left' ++ j ∷ [] → started' ≡ started ++ x ∷ [] → IsStarted j x → AreStarted jobs left' started'
one_started jobs left left' started started' j x a popped pushed is = record {
  taken = j ∷ a.taken;
  begun = x ∷ a.begun;
  jobs_are = a.jobs_are ∙ ap (λ l. l ++ a.taken) popped ∙ append_assoc left' (j ∷ []) a.taken;
  started_are = pushed ∙ ap (λ l. l ++ x ∷ []) a.started_are;
  each = (is, a.each);
}

none_left : (passes : List (Knowledge Entry)) (cores : List At) → length passes ≡ 0 → length cores ≡ 0 → AreLeft [] passes cores
none_left [] [] none none' = record { done = []; worked = tt; passes_are = refl; cores_are = refl }
none_left (p ∷ ps) cores none none' = absurd (omega arith)
none_left [] (c ∷ cs) none none' = absurd (omega arith)

pub all_started : (jobs left : List Job) (started : List Started) (passes : List (Knowledge Entry)) (cores : List At) → AreStarted jobs left started
    → length left ≡ 0 → length passes ≡ 0 → length cores ≡ 0 → AreJoined jobs started passes cores
all_started jobs [] started passes cores a none none' none'' = record {
  first = [];
  second = a.taken;
  begun = a.begun;
  jobs_are = a.jobs_are;
  started_are = a.started_are;
  each = a.each;
  left = none_left passes cores none' none'';
}
all_started jobs (x ∷ xs) started passes cores a none none' none'' = absurd (omega arith)

last_same : {X : Type 0} (xs ys : List X) (x y : X) → xs ++ x ∷ [] ≡ ys ++ y ∷ [] → (xs ≡ ys) × (x ≡ y)
last_same [] [] x y is = (refl, cc)
last_same [] (b ∷ bs) x y is = let n = ap length is in absurd (omega (arith, n, length-append bs (y ∷ [])))
last_same (a ∷ rest) [] x y is = let n = ap length is in absurd (omega (arith, n, length-append rest (x ∷ [])))
last_same (a ∷ rest) (b ∷ bs) x y is =
    let head : a ≡ b = cc in
    let tail : rest ++ x ∷ [] ≡ bs ++ y ∷ [] = cc in
    let more = last_same rest bs x y tail in
    let front : rest ≡ bs = more.0 in
    (cc, more.1)

pub zip_push : {A B : Type 0} (R : A → B → Type 0) (xs : List A) (ys : List B) (x : A) (y : B) → AllZip R xs ys → R x y
    → AllZip R (xs ++ x ∷ []) (ys ++ y ∷ [])
zip_push R [] [] x y z r = (r, tt)
zip_push R [] (b ∷ bs) x y z r = absurd z
zip_push R (a ∷ rest) [] x y z r = absurd z
zip_push R (a ∷ rest) (b ∷ bs) x y z r = (z.0, zip_push R rest bs x y z.1 r)

map_push : {A B : Type 0} (f : A → B) (xs : List A) (x : A) → map f (xs ++ x ∷ []) ≡ map f xs ++ f x ∷ []
map_push f [] x = refl
map_push f (y ∷ ys) x = ap (λ l. f y ∷ l) (map_push f ys x)

one_left : (jobs : List Job) (j d : Job) (passes passes' : List (Knowledge Entry)) (cores cores' : List At) → AreLeft jobs passes cores → Worked j d
    → passes' ≡ passes ++ d.pass ∷ [] → cores' ≡ cores ++ d.core ∷ [] → AreLeft (jobs ++ j ∷ []) passes' cores'
one_left jobs j d passes passes' cores cores' l works pushed pushed' = record {
  done = l.done ++ d ∷ [];
  worked = zip_push Worked jobs l.done j d l.worked works;
  passes_are = pushed ∙ ap (λ (ps : List (Knowledge Entry)). ps ++ d.pass ∷ []) l.passes_are ∙ sym (map_push (λ (x : Job). x.pass) l.done d);
  cores_are = pushed' ∙ ap (λ (cs : List At). cs ++ d.core ∷ []) l.cores_are ∙ sym (map_push (λ (x : Job). x.core) l.done d);
}

-- the popped one is the first of those that are left
pub one_joined : (jobs : List Job) (started started' : List Started) (passes passes' : List (Knowledge Entry)) (cores cores' : List At) (x : Started) (d : Job)
    → AreJoined jobs started passes cores → started ≡ started' ++ x ∷ [] → passes' ≡ passes ++ d.pass ∷ [] → cores' ≡ cores ++ d.core ∷ []
    → ((j : Job) → IsStarted j x → Worked j d) → AreJoined jobs started' passes' cores'
one_joined jobs started started' passes passes' cores cores' x d a popped pushed pushed' works =
    next a.second a.begun a.jobs_are (sym popped ∙ a.started_are) a.each
  where
    next : (second : List Job) (begun : List Started) → jobs ≡ a.first ++ second → started' ++ x ∷ [] ≡ reversed begun → AllZip IsStarted second begun
        → AreJoined jobs started' passes' cores'
    next [] [] jobs_are is z = let n = ap length is in absurd (omega (arith, n, length-append started' (x ∷ [])))
    next [] (b ∷ bs) jobs_are is z = absurd z
    next (j ∷ js) [] jobs_are is z = absurd z
    next (j ∷ js) (b ∷ bs) jobs_are is z =
        let same = last_same started' (reversed bs) x b is in record {
          first = a.first ++ j ∷ [];
          second = js;
          begun = bs;
          jobs_are = jobs_are ∙ sym (append_assoc a.first (j ∷ []) js);
          started_are = same.0;
          each = z.1;
          left = one_left a.first j d passes passes' cores cores' a.left (works j (subst (λ y. IsStarted j y) (sym same.1) z.0)) pushed pushed';
        }

pub all_joined : (jobs : List Job) (started : List Started) (passes : List (Knowledge Entry)) (cores : List At) → AreJoined jobs started passes cores
    → length started ≡ 0 → AreLeft jobs passes cores
all_joined jobs started passes cores a none = last a.second a.begun a.jobs_are (ap length (sym a.started_are) ∙ none) a.each
  where
    last : (second : List Job) (begun : List Started) → jobs ≡ a.first ++ second → length (reversed begun) ≡ 0 → AllZip IsStarted second begun
        → AreLeft jobs passes cores
    last [] begun jobs_are n z = subst (λ l. AreLeft l passes cores) (sym (jobs_are ∙ append-nil a.first)) a.left
    last (j ∷ js) [] jobs_are n z = absurd z
    last (j ∷ js) (b ∷ bs) jobs_are n z = absurd (omega (arith, n, length-append (reversed bs) (b ∷ [])))

-- the last of them
pub last_of : (P : Job → Type 0) (xs : List Job) (x : Job) → All P (xs ++ x ∷ []) → P x
last_of P xs x all = All-contains P (xs ++ x ∷ []) x all (Contains-append_right xs (x ∷ []) x (0, omega arith, refl))

pub all_left : (P : Job → Type 0) (xs ys : List Job) → All P (xs ++ ys) → All P xs
all_left P xs ys all k d low = subst P (get_or-append xs ys d k low) (all k d (omega (arith, length-append xs ys)))
