-- Assembly, final path by final path.
use Rattle.std.proofs.Common.{◌≡◌, ◌⊎◌, ◌≤◌, ◌<◌, inl, inr, ℕ, zero, suc, ◌+◌, List, [], ◌∷◌, ◌++◌, length, map, Bool, true, false, cond, ltb, Option, Some}
use Rattle.std.proofs.Common.{None, Result, Ok, Err, IfOk, slice_get, get_or, Vec, Global, refl, ap}
use Rattle.std.proofs.Common.{ap₂, sym, ◌∙◌, subst, arith, nat_eq, eqb-true, ltb-true, ltb-false, le_refl, true≢false, eq-or-lt_of_le}
use Rattle.std.proofs.lemmas.Bool.{lt-ltb}
use Rattle.std.specs.Option.{option_map}
use Rattle.te_terms.specs.Steps.{Member}
use Rattle.te_terms.specs.Settling.{settled}
use Rattle.te_terms.specs.Joint.{member_of}
use Rattle.te_trail.specs.Paths.{Path, planted, branched, sent, got, thread_of, parent_of, depth_of, move_of, RestsOn, IsAbove, OnOneLine}
use Rattle.te_trail.specs.Clocks.{deeper, clock_of}
use Rattle.te_trail.specs.States.{chosen, MovedEnds, members_met, path_state, HasState}
use Rattle.te_trail.specs.Stores.{Holds, any_rests_on}
use Rattle.te_trail.specs.Trails.{IsClock, TellsWhether, IsPathThread}
use Rattle.te_trail.proofs.Lines.{above_depth, above_same, rests_move}
use Rattle.te_trail.proofs.ClockLaws.{clock_in, clock_thread, clock_top, agree_by}
use Rattle.te_terms.proofs.Lists.{some_map, get_some, if_ok, get_at, at_or_last, get_low}
use Rattle.te_trail.proofs.PastsChain.{pasts_true, then_some, parts_of}
use Rattle.te_search.specs.Groups.{IsFinal}
use Rattle.te_search.specs.Searching.{paths_by, AreUp, Fails}
use Rattle.te_trail.specs.Records.{path_at}
use Rattle.te_search.specs.Assemblies.{Tries, TriesBy, Numbers, NamesPaths, later_number, joint, IsTop, Crew, IsLined, AssemblyStand, AreNumbers}
use Rattle.te_search.specs.Assemblies.{AreNone, TellsFinal, IsOpenAt, IsOfThreads, TellsLined, TakesIn, Reaches, takes, IsFound, Assembles, TriesOnly}
use Rattle.te_search.proofs.FinalsTold.{HasAllOf}
use Rattle.te_trail.proofs.StoresHold.{place_held}
use Rattle.te_trail.proofs.StoresHold.{held}
use Rattle.te_search.proofs.WorkDone.{final_is_last}
use Rattle.te_search.proofs.JoinedPasts.{joint_in, joint_past, joint_deep, crew_open, crew_more, fails_open}
use Rattle.te_search.proofs.PartialLaws.{tries_none, tries_skip, tries_all, tries_zero, tries_more, Adding}
use Rattle.te_search.proofs.DigitsTell.{root_above}
use Rattle.te_trail.proofs.PastsTold.{clock_low}

-- ---- places

pub path_there : (paths : List Path) (n : ℕ) (x : Path) → slice_get paths n ≡ Some x → path_at paths n ≡ x
path_there [] n x e = cc
path_there (y ∷ paths) zero x e = cc
path_there (y ∷ paths) (suc n) x e = path_there paths n x e

pub paths_at : (paths : List Path) (ns : List ℕ) (i n : ℕ) (x : Path) → slice_get ns i ≡ Some n → slice_get paths n ≡ Some x → slice_get (paths_by paths ns) i ≡ Some x
paths_at paths [] i n x e f = cc
paths_at paths (m ∷ ns) zero n x e f = (let one : m ≡ n = cc in ap Some (ap (path_at paths) one ∙ path_there paths n x f))
paths_at paths (m ∷ ns) (suc i) n x e f = paths_at paths ns i n x e f

pub number_at : (paths : List Path) (ns : List ℕ) (i : ℕ) (x : Path) → slice_get (paths_by paths ns) i ≡ Some x → (n : ℕ) × (slice_get ns i ≡ Some n) × (path_at paths n ≡ x)
number_at paths [] i x e = cc
number_at paths (m ∷ ns) zero x e = (m, refl, cc)
number_at paths (m ∷ ns) (suc i) x e = number_at paths ns i x e

-- a path that is listed by its number
pub listed : (paths : List Path) (ns : List ℕ) → ((i n : ℕ) → slice_get ns i ≡ Some n → n < length paths) → (x : Path) → Holds (paths_by paths ns) x
    → (i : ℕ) × (n : ℕ) × (slice_get ns i ≡ Some n) × (slice_get paths n ≡ Some x)
listed paths ns low x h =
    let i : (i : ℕ) × (slice_get (paths_by paths ns) i ≡ Some x) = place_held (paths_by paths ns) x h in
    let n : (n : ℕ) × (slice_get ns i.0 ≡ Some n) × (path_at paths n ≡ x) = number_at paths ns i.0 x i.1 in
    (i.0, n.0, n.1, get_at paths n.0 (planted 0) (low i.0 n.0 n.1) ∙ ap Some n.2)

-- ---- numbers on a line

pub above_place : (paths : List Path) → AreUp paths → (x z : Path) (k : ℕ) → slice_get paths k ≡ Some z → IsAbove x z → (i : ℕ) × (i ≤ k) × (slice_get paths i ≡ Some x)
above_place paths ups x (planted t) k e a = (k, le_refl k, e ∙ ap Some (sym a))
above_place paths ups x (branched p l) k e (inl a) = (k, le_refl k, e ∙ ap Some (sym a))
above_place paths ups x (branched p l) k e (inr a) = let r : (r : ℕ) × (r < k) × (slice_get paths r ≡ Some p) = ups k (branched p l) p e refl in let i : (i : ℕ) × (i ≤ r.0) ×
    (slice_get paths i ≡ Some x) = above_place paths ups x p r.0 r.2 a in (i.0, omega (arith, i.1, r.1), i.2)
above_place paths ups x (sent s q) k e (inl a) = (k, le_refl k, e ∙ ap Some (sym a))
above_place paths ups x (sent s q) k e (inr a) = let r : (r : ℕ) × (r < k) × (slice_get paths r ≡ Some s) = ups k (sent s q) s e refl in let i : (i : ℕ) × (i ≤ r.0) ×
    (slice_get paths i ≡ Some x) = above_place paths ups x s r.0 r.2 a in (i.0, omega (arith, i.1, r.1), i.2)
above_place paths ups x (got s q) k e (inl a) = (k, le_refl k, e ∙ ap Some (sym a))
above_place paths ups x (got s q) k e (inr a) = let r : (r : ℕ) × (r < k) × (slice_get paths r ≡ Some q) = ups k (got s q) q e refl in let i : (i : ℕ) × (i ≤ r.0) ×
    (slice_get paths i ≡ Some x) = above_place paths ups x q r.0 r.2 a in (i.0, omega (arith, i.1, r.1), i.2)

pub above_number : (paths : List Path) → AreUp paths → ((i j : ℕ) (x : Path) → slice_get paths i ≡ Some x → slice_get paths j ≡ Some x → i ≡ j) → (a b : ℕ) (x z : Path)
    → slice_get paths a ≡ Some x → slice_get paths b ≡ Some z → IsAbove x z → a ≤ b
above_number paths ups once a b x z ea eb up = let i : (i : ℕ) × (i ≤ b) ×
    (slice_get paths i ≡ Some x) = above_place paths ups x z b eb up in let same : i.0 ≡ a = once i.0 a x i.2 ea in omega (arith, i.1, same)

pub later_deeper : (paths : List Path) → AreUp paths → ((i j : ℕ) (x : Path) → slice_get paths i ≡ Some x → slice_get paths j ≡ Some x → i ≡ j)
    → (oa oc : Option Path) (na nc : Option ℕ) → Numbers paths oa na → Numbers paths oc nc → ((x y : Path) → oa ≡ Some x → oc ≡ Some y → OnOneLine x y)
    → Numbers paths (deeper oa oc) (later_number na nc)
later_deeper paths ups once oa oc None nc a c line = subst (λ o. Numbers paths (deeper o oc) nc) (sym a) c
later_deeper paths ups once oa oc (Some m) None (x, e, f) c line = (x, e, ap₂ deeper f c)
later_deeper paths ups once oa oc (Some m) (Some n) (x, e, f) (y, h, k) line = go (ltb m n) refl (line x y f k)
  where
    go : (o : Bool) → ltb m n ≡ o → OnOneLine x y → Numbers paths (deeper oa oc) (cond o (Some n) (Some m))
    go true w (inl up) = (y, h, ap₂ deeper f k ∙ ap Some (pick (ltb (depth_of x) (depth_of y)) refl))
      where
        pick : (o : Bool) → ltb (depth_of x) (depth_of y) ≡ o → cond o y x ≡ y
        pick true o = refl
        pick false o = elim (eq-or-lt_of_le (above_depth x y up)) [ inl s ↦ above_same x y up s | inr l ↦ absurd (true≢false (sym (lt-ltb (depth_of x) (depth_of y) l) ∙ o)) ]
    go true w (inr down) = (let z : n ≤ m = above_number paths ups once n m y x h e down in let l : m < n = ltb-true m n w in absurd (omega (arith, z, l)))
    go false w (inr down) = (x, e, ap₂ deeper f k ∙ ap Some (pick (ltb (depth_of x) (depth_of y)) refl))
      where
        pick : (o : Bool) → ltb (depth_of x) (depth_of y) ≡ o → cond o y x ≡ x
        pick false o = refl
        pick true o = (let a : depth_of y ≤ depth_of x = above_depth y x down in let b : depth_of x < depth_of y = ltb-true (depth_of x) (depth_of y) o in absurd (omega (arith, a, b)))
    go false w (inl up) =
        let z : m ≤ n = above_number paths ups once m n x y e h up in
        let l : n ≤ m = ltb-false m n w in
        let same : m ≡ n = omega (arith, z, l) in
        let one : x ≡ y = (let q : Some x ≡ Some y = sym e ∙ ap (slice_get paths) same ∙ h in cc) in
        (x, e, ap₂ deeper f k ∙ ap Some (pick (ltb (depth_of x) (depth_of y)) one))
      where
        pick : (o : Bool) → x ≡ y → cond o y x ≡ x
        pick true s = sym s
        pick false s = refl

-- ---- threads of paths

pub member_place : (t : ℕ) (g : List Member) (m : Member) → member_of t g ≡ Some m → (i : ℕ) × (slice_get (map (λ m. m.thread) g) i ≡ Some t)
member_place t [] m e = cc
member_place t (x ∷ g) m e = go (member_place t g m) (nat_eq x.thread t) refl e
  where
    go : (member_of t g ≡ Some m → (i : ℕ) × (slice_get (map (λ m. m.thread) g) i ≡ Some t)) → (o : Bool) → nat_eq x.thread t ≡ o → cond o (Some x) (member_of t g) ≡ Some m
        → (i : ℕ) × (slice_get (x.thread ∷ map (λ m. m.thread) g) i ≡ Some t)
    go ih true w e = (0, ap Some (eqb-true x.thread t w))
    go ih false w e = let r : (i : ℕ) × (slice_get (map (λ m. m.thread) g) i ≡ Some t) = ih e in (suc r.0, r.1)

pub state_member : (g : List Member) (x : Path) → HasState g x → (m : Member) × (member_of (thread_of x) g ≡ Some m)
state_member g (planted t) h = let a : (m : Member) × (member_of t g ≡ Some m) × (settled m ≡ h.0) = some_map settled (member_of t g) h.0 h.1 in (a.0, a.1)
state_member g (branched p l) h = let b : (m : Member) × (path_state g p ≡ Some m) × (option_map settled (chosen l m) ≡ Some h.0) = then_some (λ m. option_map settled (chosen l m))
    (path_state g p) h.0 h.1 in state_member g p (b.0, b.1)
state_member g (sent s r) h = let b : (a : Member) × (b : Member) × (p : MovedEnds) × (path_state g s ≡ Some a) × (path_state g r ≡ Some b) × (members_met a b ≡ Some p) = parts_of g s r
    (λ p. settled p.sender) h.0 h.1 in state_member g s (b.0, b.3)
state_member g (got s r) h = let b : (a : Member) × (b : Member) × (p : MovedEnds) × (path_state g s ≡ Some a) × (path_state g r ≡ Some b) × (members_met a b ≡ Some p) = parts_of g s r
    (λ p. settled p.receiver) h.0 h.1 in state_member g r (b.1, b.4)

-- ---- final or not, place by place

not_some : {A : Type 0} (o : Option A) → ((x : A) → ¬ (o ≡ Some x)) → o ≡ None
not_some None f = refl
not_some (Some x) f = absurd (f x refl)

pub none_there : {A : Type 0} (xs : List (Option A)) (i : ℕ) → i < length xs → ((x : A) → ¬ (get_or xs i None ≡ Some x)) → slice_get xs i ≡ Some None
none_there xs i h no_one = get_at xs i None h ∙ ap Some (not_some (get_or xs i None) no_one)

pub final_not : (g : List Member) (paths : List Path) (p : ℕ) (b : Bool) → TellsFinal g paths p b → b ≡ false → (x : Path) → slice_get paths p ≡ Some x → ¬ IsFinal g x
final_not g paths p b tells e x ex f = true≢false (sym ((tells x ex).1 f) ∙ e)

-- the first n named paths are final
abbrev pub FinalsTo : List Member → List Path → List (Option ℕ) → ℕ → Type 0
FinalsTo g paths joined n = (k m : ℕ) (x : Path) → k < n → slice_get joined k ≡ Some (Some m) → slice_get paths m ≡ Some x → IsFinal g x

pub finals_without : (g : List Member) (paths : List Path) (joined : List (Option ℕ)) (n : ℕ) → ((x : ℕ) → ¬ (get_or joined n None ≡ Some x)) → n < length joined
    → FinalsTo g paths joined n → FinalsTo g paths joined (n + 1)
finals_without g paths joined n no_one low to k m x h ek ex = elim (eq-or-lt_of_le (let z : k ≤ n = omega (arith, h) in z)) [
  | inl e ↦ (let none : slice_get joined n ≡ Some None = none_there joined n low no_one in let here : slice_get joined n ≡ Some (Some m) = subst
      (λ i. slice_get joined i ≡ Some (Some m)) e ek in absurd (clash (slice_get joined n) none here))
  | inr l ↦ to k m x l ek ex
]
  where
    clash : (o : Option (Option ℕ)) → o ≡ Some None → o ≡ Some (Some m) → ⊥
    clash o e f = cc

pub finals_more : (g : List Member) (paths : List Path) (joined : List (Option ℕ)) (n p : ℕ) (b : Bool) → slice_get joined n ≡ Some (Some p) → TellsFinal g paths p b → b ≡ true
    → FinalsTo g paths joined n → FinalsTo g paths joined (n + 1)
finals_more g paths joined n p b ep tells yes_it to k m x h ek ex = elim (eq-or-lt_of_le (let z : k ≤ n = omega (arith, h) in z)) [
  | inl e ↦ (let here : slice_get joined n ≡ Some (Some m) = subst (λ i. slice_get joined i ≡ Some (Some m)) e ek in let same : p ≡ m = cc in (tells x (ap (slice_get paths) same ∙ ex)).0 yes_it)
  | inr l ↦ to k m x l ek ex
]

-- ---- lines, thread by thread

-- the first n threads have their paths on lines
abbrev pub LinedTo : List ℕ → Path → (ℕ → Option Path) → ℕ → Type 0
LinedTo threads x J n = (i t : ℕ) (a c : Path) → i < n → slice_get threads i ≡ Some t → clock_of x t ≡ Some a → J t ≡ Some c → OnOneLine a c

abbrev pub LinesTo : List Path → List ℕ → ℕ → List (Option ℕ) → ℕ → Type 0
LinesTo paths threads p joined n = (x : Path) (J : ℕ → Option Path) → slice_get paths p ≡ Some x → NamesPaths paths threads J joined → LinedTo threads x J n

-- one more thread, if its paths are on a line
lines_more : (paths : List Path) (threads : List ℕ) (p : ℕ) (joined : List (Option ℕ)) (n t : ℕ) → slice_get threads n ≡ Some t → LinesTo paths threads p joined n
    → ((x : Path) (J : ℕ → Option Path) → slice_get paths p ≡ Some x → NamesPaths paths threads J joined → (a c : Path) → clock_of x t ≡ Some a → J t ≡ Some c → OnOneLine a c)
    → LinesTo paths threads p joined (n + 1)
lines_more paths threads p joined n t et lines one x J ex nm i s a c h es ea ec = elim (eq-or-lt_of_le (let k : i ≤ n = omega (arith, h) in k)) [
  | inl e ↦ (let same : t ≡ s = (let f : slice_get threads n ≡ Some s = subst (λ k. slice_get threads k ≡ Some s) e es in cc) in one x J ex nm a c
      (subst (λ k. clock_of x k ≡ Some a) (sym same) ea) (subst (λ k. J k ≡ Some c) (sym same) ec))
  | inr l ↦ lines x J ex nm i s a c l es ea ec
]

pub lines_without : (paths : List Path) (threads : List ℕ) (p : ℕ) (joined : List (Option ℕ)) (n t : ℕ) → slice_get threads n ≡ Some t → slice_get joined n ≡ Some None
    → LinesTo paths threads p joined n → LinesTo paths threads p joined (n + 1)
lines_without paths threads p joined n t et ej lines = lines_more paths threads p joined n t et lines
    (λ x J ex nm a c ea ec. (let none : J t ≡ None = nm.each n t None et ej in absurd (clash (J t) c none ec)))
  where
    clash : (o : Option Path) (c : Path) → o ≡ None → o ≡ Some c → ⊥
    clash o c e f = cc

pub lines_beyond : (paths : List Path) (threads : List ℕ) (p : ℕ) (joined : List (Option ℕ)) (n t : ℕ) → slice_get threads n ≡ Some t → IsClock paths p t None
    → LinesTo paths threads p joined n → LinesTo paths threads p joined (n + 1)
lines_beyond paths threads p joined n t et cl lines = lines_more paths threads p joined n t et lines (λ x J ex nm a c ea ec. absurd (clash (clock_of x t) a (cl x ex) ea))
  where
    clash : (o : Option Path) (c : Path) → o ≡ None → o ≡ Some c → ⊥
    clash o c e f = cc

on_there : (paths : List Path) (o : Option Path) (n : ℕ) (c : Path) → Numbers paths o (Some n) → o ≡ Some c → slice_get paths n ≡ Some c
on_there paths o n c (d, e, f) h = let same : d ≡ c = cc in e ∙ ap Some same

pub lines_on : (paths : List Path) (threads : List ℕ) (p : ℕ) (joined : List (Option ℕ)) (n t own there : ℕ) → slice_get threads n ≡ Some t
    → slice_get joined n ≡ Some (Some there) → IsClock paths p t (Some own) → TellsWhether paths own there OnOneLine true
    → LinesTo paths threads p joined n → LinesTo paths threads p joined (n + 1)
lines_on paths threads p joined n t own there et ej cl on lines = lines_more paths threads p joined n t et lines
    (λ x J ex nm a c ea ec. (on a c (on_there paths (clock_of x t) own a (cl x ex) ea) (on_there paths (J t) there c (nm.each n t (Some there) et ej) ec)).0 refl)

pub lines_off : (paths : List Path) (threads : List ℕ) (p : ℕ) (joined : List (Option ℕ)) (n t own there : ℕ) → slice_get threads n ≡ Some t
    → slice_get joined n ≡ Some (Some there) → IsClock paths p t (Some own) → TellsWhether paths own there OnOneLine false
    → TellsLined paths threads p joined false
lines_off paths threads p joined n t own there et ej cl on x J ex nm of = (
  (λ z. absurd (true≢false (sym z))),
  (λ line. (let a : (a : Path) × (slice_get paths own ≡ Some a) × (clock_of x t ≡ Some a) = cl x ex in let c : (c : Path) × (slice_get paths there ≡ Some c) ×
      (J t ≡ Some c) = nm.each n t (Some there) et ej in
      (on a.0 c.0 a.1 c.1).1 (line t a.0 c.0 a.2 c.2))),
)

pub lines_all : (paths : List Path) (threads : List ℕ) (p : ℕ) (joined : List (Option ℕ)) → LinesTo paths threads p joined (length threads) → TellsLined paths threads p joined true
lines_all paths threads p joined lines x J ex nm of = (
  (λ z t a c ea ec.
      (let i : (i : ℕ) × (slice_get threads i ≡ Some t) = of t c ec in lines x J ex nm i.0 t a c (get_low threads t i.0 i.1) i.1 ea ec)),
  (λ line. refl),
)

-- ---- taking in, thread by thread

abbrev pub TakesTo : List Path → List ℕ → ℕ → List (Option ℕ) → List (Option ℕ) → ℕ → Type 0
TakesTo paths threads p joined out n = (x : Path) (J : ℕ → Option Path) → slice_get paths p ≡ Some x → NamesPaths paths threads J joined → IsLined x J → (i t : ℕ) (o : Option ℕ)
    → i < n → slice_get threads i ≡ Some t → slice_get out i ≡ Some o → Numbers paths (deeper (clock_of x t) (J t)) o

clock_number : (paths : List Path) (p t : ℕ) (x : Path) (o : Option ℕ) → IsClock paths p t o → slice_get paths p ≡ Some x → Numbers paths (clock_of x t) o
clock_number paths p t x None cl e = cl x e
clock_number paths p t x (Some n) cl e = cl x e

pub takes_more : (paths : List Path) (threads : List ℕ) (p : ℕ) (joined out : List (Option ℕ)) (n t : ℕ) (own there : Option ℕ) → AreUp paths
    → ((i j : ℕ) (x : Path) → slice_get paths i ≡ Some x → slice_get paths j ≡ Some x → i ≡ j)
    → length out ≡ n → slice_get threads n ≡ Some t → slice_get joined n ≡ Some there → IsClock paths p t own → TakesTo paths threads p joined out n
    → TakesTo paths threads p joined (out ++ (later_number own there ∷ [])) (n + 1)
takes_more paths threads p joined out n t own there ups once len et ej cl into x J ex nm line i s o h es eo = elim (at_or_last out (later_number own there) i o eo) [
  | inl (e, f) ↦ here (e ∙ len) f
  | inr (l, f) ↦ into x J ex nm line i s o (let z : i < n = omega (arith, l, len) in z) es f
]
  where
    here : i ≡ n → later_number own there ≡ o → Numbers paths (deeper (clock_of x s) (J s)) o
    here e f =
        let same : t ≡ s = (let g : slice_get threads n ≡ Some s = subst (λ k. slice_get threads k ≡ Some s) e es in cc) in
        subst (λ k. Numbers paths (deeper (clock_of x k) (J k)) o) same (subst (Numbers paths (deeper (clock_of x t) (J t))) f
        (later_deeper paths ups once (clock_of x t) (J t) own there (clock_number paths p t x own cl ex) (nm.each n t there et ej) (λ a c ea ec. line t a c ea ec)))

pub takes_all : (paths : List Path) (threads : List ℕ) (p : ℕ) (joined out : List (Option ℕ)) → length out ≡ length threads → TakesTo paths threads p joined out (length threads)
    → TakesIn paths threads p joined out
takes_all paths threads p joined out len into x J ex nm line = record { wide = len; each = λ i t o et eo. into x J ex nm line i t o (get_low threads t i et) et eo }

-- numbers stay numbers
pub numbers_more : (paths : List Path) (p t : ℕ) (out : List (Option ℕ)) (own there : Option ℕ) → p < length paths → IsClock paths p t own
    → ((m : ℕ) → there ≡ Some m → m < length paths) → AreNumbers paths out → AreNumbers paths (out ++ (later_number own there ∷ []))
numbers_more paths p t out own there low cl ths nums i m e = elim (at_or_last out (later_number own there) i (Some m) e) [
  | inl a ↦ later_low own there (λ n f. clock_low paths p t n low (subst (IsClock paths p t) f cl)) ths m a.1
  | inr b ↦ nums i m b.1
]
  where
    later_low : (a b : Option ℕ) → ((n : ℕ) → a ≡ Some n → n < length paths) → ((n : ℕ) → b ≡ Some n → n < length paths) → (m : ℕ) → later_number a b ≡ Some m → m < length paths
    later_low None b f h m e = h m e
    later_low (Some a) None f h m e = f m e
    later_low (Some a) (Some b) f h m e = go (ltb a b) e
      where
        go : (o : Bool) → cond o (Some b) (Some a) ≡ Some m → m < length paths
        go true e = h m e
        go false e = f m e

-- ---- final path by final path

-- of these final paths the first n have been tried for the open thread
abbrev pub TriedTo : List Member → List Path → List ℕ → List ℕ → List ℕ → List (Option ℕ) → ℕ → ℕ → ℕ → Type 0
TriedTo g paths threads finals there joined t n count = (start : Path) (ps : List Path)
    → Crew g (Holds paths) (IsFinal g) ps → Holds ps start → NamesPaths paths threads (joint ps) joined
    → TriesBy g paths start ps (paths_by paths there) t n count
    × ((j p : ℕ) (x : Path) → j < n → slice_get there j ≡ Some p → slice_get paths p ≡ Some x → thread_of x ≡ t
    → IsLined x (joint ps) → Fails (Holds (paths_by paths finals)) (x ∷ ps))

pub tried_none : (g : List Member) (paths : List Path) (threads finals there : List ℕ) (joined : List (Option ℕ))
    (t : ℕ) → TriedTo g paths threads finals there joined t 0 0
tried_none g paths threads finals there joined t start ps crew hs nm =
    (tries_none g paths start ps (paths_by paths there) t, λ j p x h ej ex tx line. absurd (omega (arith, h)))

tried_next : (g : List Member) (paths : List Path) (threads finals there : List ℕ) (joined : List (Option ℕ)) (t n p count : ℕ) → slice_get there n ≡ Some p
    → TriedTo g paths threads finals there joined t n count
    → ((ps : List Path) → Crew g (Holds paths) (IsFinal g) ps → NamesPaths paths threads (joint ps) joined → (x : Path) → slice_get paths p ≡ Some x → thread_of x ≡ t
    → ¬ IsLined x (joint ps)) → TriedTo g paths threads finals there joined t (n + 1) count
tried_next g paths threads finals there joined t n p count ep tried off start ps crew hs nm = let r : TriesBy g paths start ps (paths_by paths there) t n count ×
    ((j p : ℕ) (x : Path) → j < n → slice_get there j ≡ Some p → slice_get paths p ≡ Some x → thread_of x ≡ t → IsLined x (joint ps)
    → Fails (Holds (paths_by paths finals)) (x ∷ ps)) = tried start ps crew hs nm in (
      tries_skip g paths start ps (paths_by paths there) t n count r.0,
      λ j q x h ej ex tx line. elim (eq-or-lt_of_le (let k : j ≤ n = omega (arith, h) in k)) [
        | inl e ↦ (let same : p ≡ q = (let f : slice_get there n ≡ Some q = subst (λ i. slice_get there i ≡ Some q) e ej in cc) in
            absurd (off ps crew nm x (ap (slice_get paths) same ∙ ex) tx line))
        | inr l ↦ r.1 j q x l ej ex tx line
      ],
    )

pub tried_thread : (g : List Member) (paths : List Path) (threads finals there : List ℕ) (joined : List (Option ℕ)) (t n p s count : ℕ) → slice_get there n ≡ Some p
    → IsPathThread paths p s → (¬ (s ≡ t)) → TriedTo g paths threads finals there joined t n count → TriedTo g paths threads finals there joined t (n + 1) count
tried_thread g paths threads finals there joined t n p s count ep th ne tried = tried_next g paths threads finals there
    joined t n p count ep tried (λ ps crew nm x ex tx line. ne (sym (th x ex) ∙ tx))

-- ---- what a store has

pub stands_made : (g : List Member) (paths : List Path) (threads finals : List ℕ) → AssemblyStand g paths threads finals
    → (y : Path) (t : ℕ) (c : Path) → Holds paths y → clock_of y t ≡ Some c → Holds paths c
stands_made g paths threads finals st y t c h e = st.closed y c h (clock_in y t c (move_of c) e (rests_move c))

pub stands_top : (g : List Member) (paths : List Path) (threads finals : List ℕ) → AssemblyStand g paths threads finals → (x : Path) → IsFinal g x → IsTop (Holds paths) x
stands_top g paths threads finals st x f z hz up = final_is_last g x z f (st.store.state z hz) up

-- the thread of a path has an event
pub joined_threads : (g : List Member) (paths : List Path) (threads finals : List ℕ) (ps : List Path) → AssemblyStand g paths threads finals → Crew g (Holds paths) (IsFinal g) ps
    → IsOfThreads threads (joint ps)
joined_threads g paths threads finals ps st crew t c e =
    let y : (y : Path) × Holds ps y × (clock_of y t ≡ Some c) = joint_in ps t c e in
    let hc : Holds paths c = stands_made g paths threads finals st y.0 t c (crew.made_all y.0 y.1) y.2 in
    let m : (m : Member) × (member_of (thread_of c) g ≡ Some m) = state_member g c (st.store.state c hc) in
    let i : (i : ℕ) × (slice_get (map (λ m. m.thread) g) i ≡ Some (thread_of c)) = member_place (thread_of c) g m.0 m.1 in
    (i.0, ap (λ l. slice_get l i.0) st.threads_are ∙ i.1 ∙ ap Some (clock_thread y.0 t c y.2))

pub tried_off : (g : List Member) (paths : List Path) (threads finals there : List ℕ) (joined : List (Option ℕ)) (t n p count : ℕ) → AssemblyStand g paths threads there
    → slice_get there n ≡ Some p → TellsLined paths threads p joined false → TriedTo g paths threads finals there joined t n count
    → TriedTo g paths threads finals there joined t (n + 1) count
tried_off g paths threads finals there joined t n p count st ep lined tried = tried_next g paths threads finals there joined t n p count ep tried
    (λ ps crew nm x ex tx line. true≢false (sym ((lined x (joint ps) ex nm (joined_threads g paths threads there ps st crew)).1 line)))

-- the open thread's named path isn't final
open_named : (g : List Member) (paths : List Path) (threads finals : List ℕ) (joined : List (Option ℕ)) (ps : List Path) (i t : ℕ) → slice_get threads i ≡ Some t
    → NamesPaths paths threads (joint ps) joined → IsOpenAt g paths joined (Some i) → (x : Path) × (joint ps t ≡ Some x) × (¬ IsFinal g x)
open_named g paths threads finals joined ps i t et nm (m, e, f) = let o : (c : Path) × (slice_get paths m ≡ Some c) × (joint ps t ≡ Some c) = nm.each i t (Some m) et e in (o.0, o.2, f o.0 o.1)

-- a path is planted, or goes on from one before
root_or_later : (x : Path) → (x ≡ planted (thread_of x)) ⊎ ((y : Path) × (parent_of x ≡ Some y))
root_or_later (planted t) = inl refl
root_or_later (branched p l) = inr (p, refl)
root_or_later (sent s r) = inr (s, refl)
root_or_later (got s r) = inr (r, refl)

-- one more final path may be taken in
pub record Onward (g : List Member) (paths : List Path) (threads finals : List ℕ) (start : Path) (ps : List Path) (n : ℕ) (x : Path) (t : ℕ) : Type 0 where
  pub crew : Crew g (Holds paths) (IsFinal g) (x ∷ ps)
  pub reached : Reaches start ps → Reaches start (x ∷ ps)
  pub adds : Adding g paths start ps (paths_by paths finals) t n x

pub onward : (g : List Member) (paths : List Path) (threads finals : List ℕ) (joined : List (Option ℕ)) (start : Path) (ps : List Path) (i t n p : ℕ) (x : Path)
    → AssemblyStand g paths threads finals → Crew g (Holds paths) (IsFinal g) ps → Holds ps start → NamesPaths paths threads (joint ps) joined
    → slice_get threads i ≡ Some t → IsOpenAt g paths joined (Some i) → slice_get finals n ≡ Some p → slice_get paths p ≡ Some x → thread_of x ≡ t → IsLined x (joint ps)
    → Onward g paths threads finals start ps n x t
onward g paths threads finals joined start ps i t n p x st crew hs nm et op ep ex tx line = record {
  crew = more;
  reached = λ r. (let q : (any_rests_on ps (move_of w.0) ≡ true) × (thread_of w.0 ≡ t) = joint_past g ps crew.team t w.0 w.1 in takes start ps x w.0 r (q.1 ∙ sym tx) q.0);
  adds = record {
    store = st.store;
    final_made = λ z h. (let l : (i : ℕ) × (n : ℕ) × (slice_get finals i ≡ Some n) × (slice_get paths n ≡ Some z) = listed paths finals st.finals_low z h in held paths l.1 z l.3);
    finals_are = st.finals_final;
    once = st.finals_once;
    at = at_n;
    thread = tx;
    crew = record {
      starts = inr hs;
      made = more.made_all;
      finals = more.fins;
      agree = λ y z h k. elim (more.team.agrees y z h k) [ inl e ↦ inl e | inr a ↦ inr (agree_by y z a) ];
    };
    before = later.0;
    goes_on = later.1;
    lacked = lacks (any_rests_on ps (move_of x)) refl;
  };
}
  where
    at_n : slice_get (paths_by paths finals) n ≡ Some x
    at_n = paths_at paths finals n p x ep ex

    hx : Holds paths x
    hx = held paths p x ex

    fx : IsFinal g x
    fx = st.finals_final x (held (paths_by paths finals) n x at_n)

    w : (x : Path) × (joint ps t ≡ Some x) × (¬ IsFinal g x)
    w = open_named g paths threads finals joined ps i t et nm op

    free : (y : Path) → Holds ps y → thread_of y ≡ thread_of x → ⊥
    free y hy ty = crew_open g (Holds paths) (IsFinal g) ps crew t w.0 w.1 w.2 y hy (ty ∙ tx)

    more : Crew g (Holds paths) (IsFinal g) (x ∷ ps)
    more = crew_more g (Holds paths) (IsFinal g) ps crew x fx hx (st.store.sound x hx) (stands_top g paths threads finals st x fx) (st.store.state x hx) line free

    -- were the path planted, then the named one would go on from it
    later : (y : Path) × (parent_of x ≡ Some y)
    later = elim (root_or_later x) [ inl e ↦ absurd (w.2 (subst (IsFinal g) (sym (last e)) fx)) | inr y ↦ y ]
      where
        last : x ≡ planted (thread_of x) → w.0 ≡ x
        last e =
            let y : (y : Path) × Holds ps y × (clock_of y t ≡ Some w.0) = joint_in ps t w.0 w.1 in
            let made : Holds paths w.0 = stands_made g paths threads finals st y.0 t w.0 (crew.made_all y.0 y.1) y.2 in
            let same : thread_of w.0 ≡ thread_of x = (joint_past g ps crew.team t w.0 w.1).1 ∙ sym tx in
            final_is_last g x w.0 fx (st.store.state w.0 made) (subst (λ q. IsAbove q w.0) (ap planted same ∙ sym e) (root_above w.0))

    -- were the path in the joined past, then it would be the named one
    lacks : (o : Bool) → any_rests_on ps (move_of x) ≡ o → any_rests_on ps (move_of x) ≡ false
    lacks false e = e
    lacks true e = absurd (w.2 (subst (IsFinal g) (named (pasts_true ps (move_of x) e)) fx))
      where
        named : (y : Path) × Holds ps y × RestsOn (move_of x) y → x ≡ w.0
        named (y, hy, r) =
            let c : (c : Path) × (clock_of y (thread_of x) ≡ Some c) × IsAbove x c = clock_top y (crew.team.sounds y hy) x r in
            let one : c.0 ≡ x = stands_top g paths threads finals st x fx c.0 (stands_made g paths threads finals st y (thread_of x) c.0 (crew.made_all y hy) c.1) c.2 in
            let d : (z : Path) × (joint ps (thread_of x) ≡ Some z) × IsAbove c.0 z = joint_deep g ps crew.team y (thread_of x) c.0 hy c.1 in
            let dm : (y : Path) × Holds ps y × (clock_of y (thread_of x) ≡ Some d.0) = joint_in ps (thread_of x) d.0 d.1 in
            let two : d.0 ≡ x = stands_top g paths threads finals st x fx d.0 (stands_made g paths threads finals st dm.0 (thread_of x) d.0 (crew.made_all dm.0 dm.1) dm.2)
            (subst (λ q. IsAbove q d.0) one d.2) in
            let here : joint ps t ≡ Some d.0 = subst (λ k. joint ps k ≡ Some d.0) tx d.1 in
            let there : joint ps t ≡ Some w.0 = w.1 in
            let same : d.0 ≡ w.0 = cc in
            sym two ∙ same

open_in : (g : List Member) (paths : List Path) (threads : List ℕ) (joined : List (Option ℕ)) (ps : List Path) (i : ℕ) → length joined ≡ length threads
    → IsOpenAt g paths joined (Some i) → i < length threads
open_in g paths threads joined ps i wide (m, e, f) = let h : i < length joined = get_low joined (Some m) i e in omega (arith, h, wide)

pub open_low : (g : List Member) (paths : List Path) (threads : List ℕ) (joined : List (Option ℕ)) (i : ℕ) → length joined ≡ length threads → IsOpenAt g paths joined (Some i) → i < length threads
open_low g paths threads joined i wide op = open_in g paths threads joined [] i wide op

-- the final path is taken in, and from there nothing is found
pub tried_fails : (g : List Member) (paths : List Path) (threads finals there : List ℕ) (joined out : List (Option ℕ))
    (i t n p count more total : ℕ) → AssemblyStand g paths threads there
    → slice_get threads i ≡ Some t → IsOpenAt g paths joined (Some i) → slice_get there n ≡ Some p → IsPathThread paths p t → TellsLined paths threads p joined true
    → TakesIn paths threads p joined out
    → Assembles g paths threads finals out more None → total ≡ count + suc more
    → TriedTo g paths threads finals there joined t n count
    → TriedTo g paths threads finals there joined t (n + 1) total
tried_fails g paths threads finals there joined out i t n p count more total st et op ep th lined taken fails is tried start ps crew hs nm =
    let r : TriesBy g paths start ps (paths_by paths there) t n count
    × ((j p : ℕ) (x : Path) → j < n → slice_get there j ≡ Some p → slice_get paths p ≡ Some x → thread_of x ≡ t
    → IsLined x (joint ps) → Fails (Holds (paths_by paths finals)) (x ∷ ps)) = tried start ps crew hs nm in
    let x : (x : Path) × (slice_get paths p ≡ Some x) = get_some paths p (st.finals_low n p ep) in
    let line : IsLined x.0 (joint ps) = (lined x.0 (joint ps) x.1 nm (joined_threads g paths threads there ps st crew)).0 refl in
    let o : Onward g paths threads there start ps n x.0 t = onward g paths threads there joined start ps i t n p x.0 st crew hs nm et op ep x.1 (th x.0 x.1) line in
    let s : Tries g paths start (x.0 ∷ ps) more × Fails (Holds (paths_by paths finals)) (x.0 ∷ ps) = fails start (x.0 ∷ ps) o.crew (inr hs) (taken x.0 (joint ps) x.1 nm line) in (
      subst (TriesBy g paths start ps (paths_by paths there) t (n + 1)) (sym is) (tries_more g paths start ps (paths_by paths there) t n count more x.0 o.adds r.0 s.0),
      λ j q y h ej ey ty ly. elim (eq-or-lt_of_le (let k : j ≤ n = omega (arith, h) in k)) [
        | inl e ↦ (let same : p ≡ q = (let f : slice_get there n ≡ Some q = subst (λ i. slice_get there i ≡ Some q) e ej in cc) in let one : x.0 ≡ y =
            (let f : Some x.0 ≡ Some y = sym x.1 ∙ ap (slice_get paths) same ∙ ey in cc) in subst (λ z. Fails (Holds (paths_by paths finals)) (z ∷ ps)) one s.1)
        | inr l ↦ r.1 j q y l ej ey ty ly
      ],
    )

pub tried_all : (g : List Member) (paths : List Path) (threads finals there : List ℕ) (joined : List (Option ℕ)) (i t count : ℕ) → AssemblyStand g paths threads finals
    → slice_get threads i ≡ Some t → IsOpenAt g paths joined (Some i) → HasAllOf paths finals there t → TriedTo g paths threads finals there joined t (length there) count
    → Assembles g paths threads finals joined count None
tried_all g paths threads finals there joined i t count st et op has tried start ps crew hs nm =
    let r : TriesBy g paths start ps (paths_by paths there) t (length there) count ×
    ((j p : ℕ) (x : Path) → j < length there → slice_get there j ≡ Some p → slice_get paths p ≡ Some x → thread_of x ≡ t → IsLined x (joint ps)
    → Fails (Holds (paths_by paths finals)) (x ∷ ps)) = tried start ps crew hs nm in
    let w : (x : Path) × (joint ps t ≡ Some x) × (¬ IsFinal g x) = open_named g paths threads finals joined ps i t et nm op in (
      tries_all g paths start ps (paths_by paths there) t (length there) count r.0,
      fails_open g (Holds paths) (IsFinal g) (Holds (paths_by paths finals)) ps crew t w.0 w.1 w.2
          (λ f av tf line. (let l : (i : ℕ) × (n : ℕ) × (slice_get finals i ≡ Some n) × (slice_get paths n ≡ Some f) = listed paths finals st.finals_low f av in
          let h : (j : ℕ) × (slice_get there j ≡ Some l.1) = has l.0 l.1 f l.2 l.3 tf in r.1 h.0 l.1 f (get_low there l.1 h.0 h.1) h.1 l.3 tf line)),
    )

-- what was tried so far and the one to be taken in now, where there is nothing left to spend
pub tried_spent : (g : List Member) (paths : List Path) (threads finals there : List ℕ) (joined : List (Option ℕ)) (i t n p count total : ℕ) → AssemblyStand g paths threads there
    → slice_get threads i ≡ Some t → IsOpenAt g paths joined (Some i) → slice_get there n ≡ Some p → IsPathThread paths p t → TellsLined paths threads p joined true
    → total ≡ count + 1 → TriedTo g paths threads finals there joined t n count → TriesOnly g paths threads joined total
tried_spent g paths threads finals there joined i t n p count total st et op ep th lined is tried start ps crew hs nm =
    let x : (x : Path) × (slice_get paths p ≡ Some x) = get_some paths p (st.finals_low n p ep) in
    let line : IsLined x.0 (joint ps) = (lined x.0 (joint ps) x.1 nm (joined_threads g paths threads there ps st crew)).0 refl in
    let o : Onward g paths threads there start ps n x.0 t = onward g paths threads there joined start ps i t n p x.0 st crew hs nm et op ep x.1 (th x.0 x.1) line in
    subst (Tries g paths start ps) (sym is) (tries_all g paths start ps (paths_by paths there) t (n + 1) (count + 1)
    (tries_more g paths start ps (paths_by paths there) t n count 0 x.0 o.adds (tried start ps crew hs nm).0 (tries_zero g paths start (x.0 ∷ ps))))

-- and beyond the last that was taken in
pub tried_beyond : (g : List Member) (paths : List Path) (threads finals there : List ℕ) (joined out : List (Option ℕ))
    (i t n p count more total : ℕ) → AssemblyStand g paths threads there
    → slice_get threads i ≡ Some t → IsOpenAt g paths joined (Some i) → slice_get there n ≡ Some p → IsPathThread paths p t → TellsLined paths threads p joined true
    → TakesIn paths threads p joined out
    → TriesOnly g paths threads out more → total ≡ count + suc more → TriedTo g paths threads finals there joined t n count → TriesOnly g paths threads joined total
tried_beyond g paths threads finals there joined out i t n p count more total st et op ep th lined taken tries is tried start ps crew hs nm =
    let x : (x : Path) × (slice_get paths p ≡ Some x) = get_some paths p (st.finals_low n p ep) in
    let line : IsLined x.0 (joint ps) = (lined x.0 (joint ps) x.1 nm (joined_threads g paths threads there ps st crew)).0 refl in
    let o : Onward g paths threads there start ps n x.0 t = onward g paths threads there joined start ps i t n p x.0 st crew hs nm et op ep x.1 (th x.0 x.1) line in
    subst (Tries g paths start ps) (sym is) (tries_all g paths start ps (paths_by paths there) t (n + 1) (count + suc more)
    (tries_more g paths start ps (paths_by paths there) t n count more x.0 o.adds (tried start ps crew hs nm).0
    (tries start (x.0 ∷ ps) o.crew (inr hs) (taken x.0 (joint ps) x.1 nm line))))

-- the final path is taken in, and from there a group is found
pub tried_found : (g : List Member) (paths : List Path) (threads finals there : List ℕ) (joined out : List (Option ℕ))
    (i t n p count more total : ℕ) (v : Vec (Option ℕ) Global)
    → AssemblyStand g paths threads there → slice_get threads i ≡ Some t → IsOpenAt g paths joined (Some i) → slice_get there n ≡ Some p → IsPathThread paths p t
    → TellsLined paths threads p joined true → TakesIn paths threads p joined out
    → Assembles g paths threads finals out more (Some v) → total ≡ count + suc more
    → TriedTo g paths threads finals there joined t n count → Assembles g paths threads finals joined total (Some v)
tried_found g paths threads finals there joined out i t n p count more total v st et op ep th lined taken found is tried start ps crew hs nm =
    let x : (x : Path) × (slice_get paths p ≡ Some x) = get_some paths p (st.finals_low n p ep) in
    let line : IsLined x.0 (joint ps) = (lined x.0 (joint ps) x.1 nm (joined_threads g paths threads there ps st crew)).0 refl in
    let o : Onward g paths threads there start ps n x.0 t = onward g paths threads there joined start ps i t n p x.0 st crew hs nm et op ep x.1 (th x.0 x.1) line in
    let s : Tries g paths start (x.0 ∷ ps) more × IsFound g paths threads start (x.0 ∷ ps) v.items = found start (x.0 ∷ ps) o.crew (inr hs) (taken x.0 (joint ps) x.1 nm line) in (
      subst (Tries g paths start ps) (sym is) (tries_all g paths start ps (paths_by paths there) t (n + 1) (count + suc more)
          (tries_more g paths start ps (paths_by paths there) t n count more x.0 o.adds (tried start ps crew hs nm).0 s.0)),
      record { members = s.1.members; crew = s.1.crew; names = s.1.names; reached = λ r. s.1.reached (o.reached r); all = s.1.all },
    )

-- a joined past all of whose named paths are final
pub found_here : (g : List Member) (paths : List Path) (threads finals : List ℕ) (joined : List (Option ℕ)) (v : Vec (Option ℕ) Global) (count : ℕ) → count ≡ 0
    → IsOpenAt g paths joined None → v.items ≡ joined → Assembles g paths threads finals joined count (Some v)
found_here g paths threads finals joined v count z all e start ps crew hs nm = (
  subst (Tries g paths start ps) (sym z) (tries_zero g paths start ps),
  record { members = ps; crew = crew; names = subst (NamesPaths paths threads (joint ps)) (sym e) nm; reached = λ r. r; all = subst (λ j. IsOpenAt g paths j None) (sym e) all },
)

-- ---- one path alone

pub none_yet : AreNone []
none_yet i o e = cc

pub none_more : (joined : List (Option ℕ)) → AreNone joined → AreNone (joined ++ (None ∷ []))
none_more joined none i o e = elim (at_or_last joined None i o e) [ inl a ↦ sym a.1 | inr b ↦ none i o b.1 ]

pub alone_named : (paths : List Path) (threads : List ℕ) (p : ℕ) (none out : List (Option ℕ)) → length none ≡ length threads → AreNone none → TakesIn paths threads p none out
    → (x : Path) → slice_get paths p ≡ Some x → NamesPaths paths threads (joint (x ∷ [])) out
alone_named paths threads p none out wide are taken x ex = taken x (joint []) ex (record { wide = wide; each = λ i t o et eo. subst (Numbers paths None) (sym (are i o eo)) refl })
    (λ t a c ea ec. absurd (nothing c ec))
  where
    nothing : (c : Path) → None ≡ Some c → ⊥
    nothing c e = cc
