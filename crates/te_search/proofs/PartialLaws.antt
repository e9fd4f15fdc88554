-- Lists of partial groups, none of which is another.
use Rattle.std.proofs.Common.{◌≡◌, ◌<◌, inl, inr, ℕ, suc, ◌+◌, List, [], ◌∷◌, ◌++◌, Bool, true, false, ◌||◌, Some, slice_get, refl, ap, ap₂, sym, ◌∙◌, subst, arith, length, length-append, true≢false}
use Rattle.std.specs.List.{AllByRecursion}
use Rattle.te_terms.specs.Steps.{Member}
use Rattle.te_trail.specs.Paths.{Path, thread_of, parent_of, move_of}
use Rattle.te_trail.specs.Stores.{Holds, IsStore, rests_on, any_rests_on}
use Rattle.te_trail.proofs.Lines.{rests_move}
use Rattle.te_trail.proofs.ClockLaws.{agrees_by}
use Rattle.te_trail.proofs.PastsChain.{Agreeing, true_pasts, team_line}
use Rattle.te_search.specs.Groups.{IsFinal, Partial, IsPartial, AreOne, NoneIsAnother, AreTried}
use Rattle.te_search.specs.Searching.{NoPathTwice}
use Rattle.te_search.specs.Assemblies.{IsMore, Tries, IsThrough, TriesBy}
use Rattle.te_search.proofs.ListLaws.{one_place}
use Rattle.te_trail.proofs.StoresHold.{held}
use Rattle.te_search.proofs.WorkDone.{final_is_last}
use Rattle.te_terms.proofs.Lists.{all_with, all_both}

pub all_across : (P Q : Partial → Type 0) (xs ys : List Partial) → ((x y : Partial) → P x → Q y → ¬ AreOne x y) → AllByRecursion P xs → AllByRecursion Q ys
    → AllByRecursion (λ x. AllByRecursion (λ y. ¬ AreOne x y) ys) xs
all_across P Q [] ys f a b = tt
all_across P Q (x ∷ xs) ys f a b = (all_with Q (λ y. ¬ AreOne x y) ys (λ y q. f x y a.0 q) b, all_across P Q xs ys f a.1 b)

pub apart_both : (xs ys : List Partial) → NoneIsAnother xs → NoneIsAnother ys → AllByRecursion (λ x. AllByRecursion (λ y. ¬ AreOne x y) ys) xs → NoneIsAnother (xs ++ ys)
apart_both [] ys a b c = b
apart_both (x ∷ xs) ys a b c = (all_both (λ q. ¬ AreOne x q) xs ys a.0 c.0, apart_both xs ys a.1 b c.1)

-- ---- pasts

pub past_more : (f : Path) (ps : List Path) (m : Path) → any_rests_on ps m ≡ true → any_rests_on (f ∷ ps) m ≡ true
past_more f ps m e = go (rests_on f m)
  where
    go : (o : Bool) → o || any_rests_on ps m ≡ true
    go true = refl
    go false = e

pub past_own : (f : Path) (ps : List Path) → any_rests_on (f ∷ ps) (move_of f) ≡ true
past_own f ps = true_pasts (f ∷ ps) f (move_of f) (inl refl) (rests_move f)

pub partial_team : (g : List Member) (paths : List Path) (q : Partial) → IsStore g paths → IsPartial g paths q → Agreeing g q.members
partial_team g paths q store part = record {
  sounds = λ x h. store.sound x (part.made x h);
  states = λ x h. store.state x (part.made x h);
  agrees = λ x y h k. elim (part.agree x y h k) [ inl e ↦ inl e | inr a ↦ inr (agrees_by x y (store.sound x (part.made x h)) (store.sound y (part.made y k)) a) ];
}

-- a past has at most one final path of a thread
pub one_final : (g : List Member) (paths : List Path) (q : Partial) → IsStore g paths → IsPartial g paths q → (x y : Path) → Holds paths x → Holds paths y → IsFinal g x
    → IsFinal g y → thread_of x ≡ thread_of y
    → any_rests_on q.members (move_of x) ≡ true → any_rests_on q.members (move_of y) ≡ true → x ≡ y
one_final g paths q store part x y hx hy fx fy t ex ey = elim (team_line g q.members (partial_team g paths q store part) x y ex ey t) [
  | inl up ↦ sym (final_is_last g x y fx (store.state y hy) up)
  | inr up ↦ final_is_last g y x fy (store.state x hx) up
]

-- ---- what is tried by the final paths of a thread, one after the other

pub tries_none : (g : List Member) (paths : List Path) (start : Path) (ps finals : List Path) (t : ℕ) → TriesBy g paths start ps finals t 0 0
tries_none g paths start ps finals t = record { more = []; count_is = refl; are = tt; through = tt; once = tt }

through_later : (finals : List Path) (t n : ℕ) (q : Partial) → IsThrough finals t n q → IsThrough finals t (n + 1) q
through_later finals t n q h = record { place = h.place; early = (let z : h.place < n + 1 = omega (arith, h.early) in z); by = h.by; is = h.is; thread = h.thread; has = h.has }

pub tries_skip : (g : List Member) (paths : List Path) (start : Path) (ps finals : List Path) (t n count : ℕ) → TriesBy g paths start ps finals t n count
    → TriesBy g paths start ps finals t (n + 1) count
tries_skip g paths start ps finals t n count r = record {
  more = r.more;
  count_is = r.count_is;
  are = r.are;
  through = all_with (IsThrough finals t n)
      (IsThrough finals t (n + 1)) r.more (through_later finals t n) r.through;
  once = r.once;
}

pub tries_all : (g : List Member) (paths : List Path) (start : Path) (ps finals : List Path) (t n count : ℕ) → TriesBy g paths start ps finals t n count → Tries g paths start ps count
tries_all g paths start ps finals t n count r = record { more = r.more; count_is = r.count_is; are = r.are; once = r.once }

pub tries_zero : (g : List Member) (paths : List Path) (start : Path) (ps : List Path) → Tries g paths start ps 0
tries_zero g paths start ps = record { more = []; count_is = refl; are = tt; once = tt }

-- all but one of them
pub tries_less : (g : List Member) (paths : List Path) (start : Path) (ps : List Path) (count : ℕ) → Tries g paths start ps (count + 1) → Tries g paths start ps count
tries_less g paths start ps count t = go t.more t.count_is t.are t.once
  where
    go : (more : List Partial) → length more ≡ count + 1 → AllByRecursion (IsMore g paths start ps) more → NoneIsAnother more → Tries g paths start ps count
    go [] e a o = absurd (omega (arith, e))
    go (q ∷ qs) e a o = record { more = qs; count_is = omega (arith, e); are = a.1; once = o.1 }

-- what one more final path adds
pub record Adding (g : List Member) (paths : List Path) (start : Path) (ps finals : List Path) (t n : ℕ) (f : Path) : Type 0 where
  pub store : IsStore g paths
  pub final_made : (x : Path) → Holds finals x → Holds paths x
  pub finals_are : (x : Path) → Holds finals x → IsFinal g x
  pub once : NoPathTwice finals
  pub at : slice_get finals n ≡ Some f
  pub thread : thread_of f ≡ t
  pub crew : IsPartial g paths (record { start = start; members = f ∷ ps })
  pub before : Path
  pub goes_on : parent_of f ≡ Some before
  pub lacked : any_rests_on ps (move_of f) ≡ false

-- with the partial group of the final path, and all that is tried beyond it
pub tries_more : (g : List Member) (paths : List Path) (start : Path) (ps finals : List Path) (t n count more : ℕ) (f : Path) → Adding g paths start ps finals t n f
    → TriesBy g paths start ps finals t n count → Tries g paths start (f ∷ ps) more → TriesBy g paths start ps finals t (n + 1) (count + suc more)
tries_more g paths start ps finals t n count more f a r s = record {
  more = r.more ++ (own ∷ s.more);
  count_is = length-append r.more (own ∷ s.more) ∙ ap₂ (λ x y. x + suc y) r.count_is s.count_is;
  are = all_both (IsMore g paths start ps) r.more (own ∷ s.more) r.are (own_more, all_with (IsMore g paths start (f ∷ ps)) (IsMore g paths start ps) s.more narrower s.are);
  through = all_both (IsThrough finals t (n + 1)) r.more (own ∷ s.more) (all_with (IsThrough finals t n) (IsThrough finals t (n + 1)) r.more (through_later finals t n) r.through)
      (by_f own (past_own f ps), all_with (IsMore g paths start (f ∷ ps)) (IsThrough finals t (n + 1)) s.more (λ q h. by_f q (h.wider (move_of f) (past_own f ps))) s.are);
  once = apart_both r.more (own ∷ s.more) r.once (all_with (IsMore g paths start (f ∷ ps)) (λ q. ¬ AreOne own q) s.more beyond s.are, s.once)
      (all_across (λ q. IsPartial g paths q × IsThrough finals t n q) (λ q. any_rests_on q.members (move_of f) ≡ true) r.more (own ∷ s.more) apart
      (together r.more (all_with (IsMore g paths start ps) (IsPartial g paths) r.more (λ q h. h.partial) r.are) r.through)
      (past_own f ps, all_with (IsMore g paths start (f ∷ ps)) (λ q. any_rests_on q.members (move_of f) ≡ true) s.more (λ q h. h.wider (move_of f) (past_own f ps)) s.are));
}
  where
    own : Partial
    own = record { start = start; members = f ∷ ps }

    own_more : IsMore g paths start ps own
    own_more = record {
      partial = a.crew;
      start_is = refl;
      wider = past_more f ps;
      new = f;
      before = a.before;
      goes_on = a.goes_on;
      has_new = past_own f ps;
      lacked = a.lacked;
    }

    narrower : (q : Partial) → IsMore g paths start (f ∷ ps) q → IsMore g paths start ps q
    narrower q h = record {
      partial = h.partial;
      start_is = h.start_is;
      wider = λ m e. h.wider m (past_more f ps m e);
      new = h.new;
      before = h.before;
      goes_on = h.goes_on;
      has_new = h.has_new;
      lacked = less (rests_on f (move_of h.new)) (any_rests_on ps (move_of h.new)) h.lacked;
    }
      where
        less : (x y : Bool) → x || y ≡ false → y ≡ false
        less true y e = cc
        less false y e = e

    by_f : (q : Partial) → any_rests_on q.members (move_of f) ≡ true → IsThrough finals t (n + 1) q
    by_f q e = record { place = n; early = (let z : n < n + 1 = omega arith in z); by = f; is = a.at; thread = a.thread; has = e }

    beyond : (q : Partial) → IsMore g paths start (f ∷ ps) q → ¬ AreOne own q
    beyond q h one = true≢false (sym h.has_new ∙ sym (one.past h.new h.before h.goes_on) ∙ h.lacked)

    together : (xs : List Partial) → AllByRecursion (IsPartial g paths) xs → AllByRecursion (IsThrough finals t n) xs → AllByRecursion (λ q. IsPartial g paths q × IsThrough finals t n q) xs
    together [] x y = tt
    together (q ∷ qs) x y = ((x.0, y.0), together qs x.1 y.1)

    apart : (x y : Partial) → IsPartial g paths x × IsThrough finals t n x → any_rests_on y.members (move_of f) ≡ true → ¬ AreOne x y
    apart x y (part, h) e one =
        let here : any_rests_on x.members (move_of f) ≡ true = one.past f a.before a.goes_on ∙ e in
        let hb : Holds finals h.by = held finals h.place h.by h.is in
        let hf : Holds finals f = held finals n f a.at in
        let same : h.by ≡ f = one_final g paths x a.store part h.by f (a.final_made h.by hb) (a.final_made f hf) (a.finals_are h.by hb) (a.finals_are f hf) (h.thread ∙ sym a.thread) h.has here in
        let z : h.place ≡ n = one_place finals a.once h.place n f (h.is ∙ ap Some same) a.at in
        absurd (omega (arith, z, h.early))

-- ---- from one start after the other

-- a new start, and all that is tried from it
pub tried_more : (g : List Member) (paths finals : List Path) (p : Path) (tried : List Partial) (more : ℕ) → AreTried g paths tried
    → AllByRecursion (λ q. Holds finals q.start) tried → (¬ Holds finals p)
    → IsPartial g paths (record { start = p; members = p ∷ [] }) → (s : Tries g paths p (p ∷ []) more) → AreTried g paths (tried ++ (record { start = p; members = p ∷ [] } ∷ s.more))
tried_more g paths finals p tried more t starts new part s = record {
  partial = all_both (IsPartial g paths) tried (own ∷ s.more) t.partial (part, all_with (IsMore g paths p (p ∷ [])) (IsPartial g paths) s.more (λ q h. h.partial) s.are);
  once = apart_both tried (own ∷ s.more) t.once (all_with (IsMore g paths p (p ∷ [])) (λ q. ¬ AreOne own q) s.more beyond s.are, s.once)
      (all_across (λ q. Holds finals q.start) (λ q. q.start ≡ p) tried (own ∷ s.more) (λ x y h e one. new (subst (Holds finals) (one.start ∙ e) h)) starts
      (refl, all_with (IsMore g paths p (p ∷ [])) (λ q. q.start ≡ p) s.more (λ q h. h.start_is) s.are));
}
  where
    own : Partial
    own = record { start = p; members = p ∷ [] }

    beyond : (q : Partial) → IsMore g paths p (p ∷ []) q → ¬ AreOne own q
    beyond q h one = true≢false (sym h.has_new ∙ sym (one.past h.new h.before h.goes_on) ∙ h.lacked)
