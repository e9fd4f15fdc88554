-- The parked list where one caller stands otherwise, and the threads in it.
use Rattle.std.proofs.Common.{◌≡◌, inl, inr, ℕ, zero, suc, ◌+◌, ◌<◌, ◌≤◌, Bool, true, false, cond, ltb}
use Rattle.std.proofs.Common.{List, [], ◌∷◌, slice_set, Some, refl, sym, ap, subst, ◌∙◌, arith, add-zero, zero-add, eq-eqb, ne_eqb}
use Rattle.std.specs.Prelude.{slice_get}
use Rattle.te_terms.specs.Terms.{Term}
use Rattle.te_terms.specs.declared.event.Parked.{Parked}
use Rattle.te_cert.specs.declared.cert.Member.{Member}
use Rattle.te_history.specs.State.{Standing, idle, parked, given, ended, State, with_standing, parked_by, parked_from, parked_list}
use Rattle.te_history.specs.Follows.{Stands}
use Rattle.te_search.specs.Findings.{HasThread, IsParkedIn, put_in, without}

abbrev pub IsUnparked : Standing → Type 0
IsUnparked idle = Unit {0}
IsUnparked (parked ticket event) = ⊥
IsUnparked (given ticket outcome) = Unit {0}
IsUnparked ended = Unit {0}

abbrev pub entry_of : ℕ → ℕ → Term → Parked
entry_of t ticket event = record { thread = t; ticket = ticket; event = event }

pub unparked_by : (u : ℕ) (x : Standing) (ps : List Parked) → IsUnparked x → parked_by u x ps ≡ ps
unparked_by u idle ps h = refl
unparked_by u (parked ticket event) ps h = absurd h
unparked_by u (given ticket outcome) ps h = refl
unparked_by u ended ps h = refl

-- ---- the list is in order

abbrev pub AreAbove : ℕ → List Parked → Type 0
AreAbove low [] = Unit {0}
AreAbove low (p ∷ ps) = (low < p.thread) × AreAbove low ps

pub above_from : (low u : ℕ) (cs : List Standing) → low < u → AreAbove low (parked_from u cs)
above_from low u [] lt = tt
above_from low u (idle ∷ cs) lt = above_from low (suc u) cs (omega arith)
above_from low u (parked ticket event ∷ cs) lt = (lt, above_from low (suc u) cs (omega arith))
above_from low u (given ticket outcome ∷ cs) lt = above_from low (suc u) cs (omega arith)
above_from low u (ended ∷ cs) lt = above_from low (suc u) cs (omega arith)

less_true : (a b : ℕ) → a < b → ltb a b ≡ true
less_true a b lt = grind arith

less_false : (a b : ℕ) → b ≤ a → ltb a b ≡ false
less_false a b le = grind arith

pub put_first : (p : Parked) (ps : List Parked) → AreAbove p.thread ps → put_in p ps ≡ p ∷ ps
put_first p [] h = refl
put_first p (q ∷ qs) h = ap (λ (b : Bool). cond b (p ∷ q ∷ qs) (q ∷ put_in p qs)) (less_true p.thread q.thread h.0)

pub put_later : (p q : Parked) (qs : List Parked) → q.thread ≤ p.thread → put_in p (q ∷ qs) ≡ q ∷ put_in p qs
put_later p q qs le = ap (λ (b : Bool). cond b (p ∷ q ∷ qs) (q ∷ put_in p qs)) (less_false p.thread q.thread le)

-- ---- one caller is parked

put_over : (u i : ℕ) (cs : List Standing) (c : Standing) (ticket : ℕ) (event : Term) → slice_get cs i ≡ Some c → IsUnparked c
    → parked_from u (slice_set cs i (parked ticket event)) ≡ put_in (entry_of (u + i) ticket event) (parked_from u cs)
put_over u i [] c ticket event is free = absurd cc
put_over u zero (x ∷ cs) c ticket event is free =
    let same : x ≡ c = cc in
    let free' : IsUnparked x = subst IsUnparked (sym same) free in
    let first = put_first (entry_of u ticket event) (parked_from (suc u) cs) (above_from u (suc u) cs (omega arith)) in
    sym (ap (λ (k : ℕ). put_in (entry_of k ticket event) (parked_from u (x ∷ cs))) (add-zero u) ∙ ap (put_in (entry_of u ticket event)) (unparked_by u x (parked_from (suc u) cs) free') ∙ first)
put_over u (suc i) (x ∷ cs) c ticket event is free = behind x (put_over (suc u) i cs c ticket event is free)
  where
    behind : (x : Standing) → parked_from (suc u) (slice_set cs i (parked ticket event)) ≡ put_in (entry_of (suc u + i) ticket event) (parked_from (suc u) cs)
        → parked_by u x (parked_from (suc u) (slice_set cs i (parked ticket event))) ≡ put_in (entry_of (u + suc i) ticket event) (parked_by u x (parked_from (suc u) cs))
    behind idle e = e ∙ ap (λ (k : ℕ). put_in (entry_of k ticket event) (parked_from (suc u) cs)) (let n : suc u + i ≡ u + suc i = omega arith in n)
    behind (given k o) e = e ∙ ap (λ (k : ℕ). put_in (entry_of k ticket event) (parked_from (suc u) cs)) (let n : suc u + i ≡ u + suc i = omega arith in n)
    behind ended e = e ∙ ap (λ (k : ℕ). put_in (entry_of k ticket event) (parked_from (suc u) cs)) (let n : suc u + i ≡ u + suc i = omega arith in n)
    behind (parked k x) e =
        ap (λ (ps : List Parked). entry_of u k x ∷ ps) (e ∙ ap (λ (k : ℕ). put_in (entry_of k ticket event) (parked_from (suc u) cs)) (let n : suc u + i ≡ u + suc i = omega arith in n))
        ∙ sym (put_later (entry_of (u + suc i) ticket event) (entry_of u k x) (parked_from (suc u) cs) (omega arith))

pub parked_put : (s : State) (t ticket : ℕ) (event : Term) (c : Standing) → Stands s t c → IsUnparked c
    → parked_list (with_standing t (parked ticket event) s) ≡ put_in (entry_of t ticket event) (parked_list s)
parked_put s t ticket event c stands free =
    put_over 0 t s.callers c ticket event stands free ∙ ap (λ (k : ℕ). put_in (entry_of k ticket event) (parked_list s)) (zero-add t)

-- ---- one caller is parked no more

without_over : (u i : ℕ) (cs : List Standing) (x : Standing) (ticket : ℕ) (event : Term) → slice_get cs i ≡ Some (parked ticket event) → IsUnparked x
    → parked_from u (slice_set cs i x) ≡ without (u + i) (parked_from u cs)
without_over u i [] x ticket event is free = absurd cc
without_over u zero (y ∷ cs) x ticket event is free =
    let same : y ≡ parked ticket event = cc in
    unparked_by u x (parked_from (suc u) cs) free
    ∙ sym (ap (λ (z : Standing). without (u + zero) (parked_by u z (parked_from (suc u) cs))) same
    ∙ ap (λ (b : Bool). cond b (parked_from (suc u) cs) (entry_of u ticket event ∷ without (u + zero) (parked_from (suc u) cs))) (eq-eqb u (u + zero) (sym (add-zero u))))
without_over u (suc i) (y ∷ cs) x ticket event is free = behind y (without_over (suc u) i cs x ticket event is free)
  where
    behind : (y : Standing) → parked_from (suc u) (slice_set cs i x) ≡ without (suc u + i) (parked_from (suc u) cs)
        → parked_by u y (parked_from (suc u) (slice_set cs i x)) ≡ without (u + suc i) (parked_by u y (parked_from (suc u) cs))
    behind idle e = e ∙ ap (λ (k : ℕ). without k (parked_from (suc u) cs)) (let n : suc u + i ≡ u + suc i = omega arith in n)
    behind (given k o) e = e ∙ ap (λ (k : ℕ). without k (parked_from (suc u) cs)) (let n : suc u + i ≡ u + suc i = omega arith in n)
    behind ended e = e ∙ ap (λ (k : ℕ). without k (parked_from (suc u) cs)) (let n : suc u + i ≡ u + suc i = omega arith in n)
    behind (parked k w) e =
        ap (λ (ps : List Parked). entry_of u k w ∷ ps) (e ∙ ap (λ (k : ℕ). without k (parked_from (suc u) cs)) (let n : suc u + i ≡ u + suc i = omega arith in n))
        ∙ sym (ap (λ (b : Bool). cond b (parked_from (suc u) cs) (entry_of u k w ∷ without (u + suc i) (parked_from (suc u) cs))) (ne_eqb u (u + suc i) (λ (e : u ≡ u + suc i). omega arith)))

pub parked_without : (s : State) (t ticket : ℕ) (event : Term) (x : Standing) → Stands s t (parked ticket event) → IsUnparked x
    → parked_list (with_standing t x s) ≡ without t (parked_list s)
parked_without s t ticket event x stands free = without_over 0 t s.callers x ticket event stands free ∙ ap (λ (k : ℕ). without k (parked_list s)) (zero-add t)

-- ---- one caller that isn't parked stands otherwise, and isn't parked then

same_over : (u i : ℕ) (cs : List Standing) (c x : Standing) → slice_get cs i ≡ Some c → IsUnparked c → IsUnparked x → parked_from u (slice_set cs i x) ≡ parked_from u cs
same_over u i [] c x is free free' = absurd cc
same_over u zero (y ∷ cs) c x is free free' =
    let same : y ≡ c = cc in
    unparked_by u x (parked_from (suc u) cs) free' ∙ sym (unparked_by u y (parked_from (suc u) cs) (subst IsUnparked (sym same) free))
same_over u (suc i) (y ∷ cs) c x is free free' = ap (parked_by u y) (same_over (suc u) i cs c x is free free')

pub parked_same : (s : State) (t : ℕ) (c x : Standing) → Stands s t c → IsUnparked c → IsUnparked x → parked_list (with_standing t x s) ≡ parked_list s
parked_same s t c x stands free free' = same_over 0 t s.callers c x stands free free'

-- ---- the threads of the list

pub has_from : (u i : ℕ) (cs : List Standing) (ticket : ℕ) (event : Term) → slice_get cs i ≡ Some (parked ticket event) → HasThread (parked_from u cs) (u + i)
has_from u i [] ticket event is = absurd cc
has_from u zero (y ∷ cs) ticket event is =
    let same : y ≡ parked ticket event = cc in
    subst (λ (z : Standing). HasThread (parked_by u z (parked_from (suc u) cs)) (u + zero)) (sym same) (inl (sym (add-zero u)))
has_from u (suc i) (y ∷ cs) ticket event is = behind y (subst (HasThread (parked_from (suc u) cs)) (let n : suc u + i ≡ u + suc i = omega arith in n) (has_from (suc u) i cs ticket event is))
  where
    behind : (y : Standing) → HasThread (parked_from (suc u) cs) (u + suc i) → HasThread (parked_by u y (parked_from (suc u) cs)) (u + suc i)
    behind idle h = h
    behind (given k o) h = h
    behind ended h = h
    behind (parked k w) h = inr h

pub has_parked : (s : State) (t ticket : ℕ) (event : Term) → Stands s t (parked ticket event) → HasThread (parked_list s) t
has_parked s t ticket event stands = subst (HasThread (parked_list s)) (zero-add t) (has_from 0 t s.callers ticket event stands)

pub from_has : (u t : ℕ) (cs : List Standing) → HasThread (parked_from u cs) t → (i ticket : ℕ) × (event : Term) × (t ≡ u + i) × (slice_get cs i ≡ Some (parked ticket event))
from_has u t [] h = absurd h
from_has u t (idle ∷ cs) h = let rest = from_has (suc u) t cs h in (suc rest.0, rest.1, rest.2, (let n : suc u + rest.0 ≡ u + suc rest.0 = omega arith in rest.3 ∙ n), rest.4)
from_has u t (given k o ∷ cs) h = let rest = from_has (suc u) t cs h in (suc rest.0, rest.1, rest.2, (let n : suc u + rest.0 ≡ u + suc rest.0 = omega arith in rest.3 ∙ n), rest.4)
from_has u t (ended ∷ cs) h = let rest = from_has (suc u) t cs h in (suc rest.0, rest.1, rest.2, (let n : suc u + rest.0 ≡ u + suc rest.0 = omega arith in rest.3 ∙ n), rest.4)
from_has u t (parked k x ∷ cs) (inl e) = (0, k, x, sym e ∙ sym (add-zero u), refl)
from_has u t (parked k x ∷ cs) (inr h) = let rest = from_has (suc u) t cs h in (suc rest.0, rest.1, rest.2, (let n : suc u + rest.0 ≡ u + suc rest.0 = omega arith in rest.3 ∙ n), rest.4)

-- who isn't parked isn't in the list
pub has_none : (s : State) (t : ℕ) (c : Standing) → Stands s t c → IsUnparked c → ¬ HasThread (parked_list s) t
has_none s t c stands free = λ h.
    let found = from_has 0 t s.callers h in
    let at : t ≡ found.0 = found.3 ∙ zero-add found.0 in
    let there : Stands s t (parked found.1 found.2) = subst (λ (k : ℕ). slice_get s.callers k ≡ Some (parked found.1 found.2)) (sym at) found.4 in
    let both : Some c ≡ Some (parked found.1 found.2) = sym stands ∙ there in
    let same : c ≡ parked found.1 found.2 = cc in
    subst IsUnparked same free

-- ---- who stands in the list is parked

pub placed_from : (u : ℕ) (cs : List Standing) (m : Member) (e : Term) → IsParkedIn (parked_from u cs) m e → (i : ℕ) × (m.thread ≡ u + i) × (slice_get cs i ≡ Some (parked m.ticket e))
placed_from u [] m e h = absurd h
placed_from u (idle ∷ cs) m e h = let rest = placed_from (suc u) cs m e h in (suc rest.0, (let n : suc u + rest.0 ≡ u + suc rest.0 = omega arith in rest.1 ∙ n), rest.2)
placed_from u (given k o ∷ cs) m e h = let rest = placed_from (suc u) cs m e h in (suc rest.0, (let n : suc u + rest.0 ≡ u + suc rest.0 = omega arith in rest.1 ∙ n), rest.2)
placed_from u (ended ∷ cs) m e h = let rest = placed_from (suc u) cs m e h in (suc rest.0, (let n : suc u + rest.0 ≡ u + suc rest.0 = omega arith in rest.1 ∙ n), rest.2)
placed_from u (parked k x ∷ cs) m e (inl h) =
    let standing : parked k x ≡ parked m.ticket e = (ap (λ (n : ℕ). parked n x) h.1 ∙ ap (parked m.ticket) h.2) in
    (0, sym h.0 ∙ sym (add-zero u), ap Some standing)
placed_from u (parked k x ∷ cs) m e (inr h) = let rest = placed_from (suc u) cs m e h in (suc rest.0, (let n : suc u + rest.0 ≡ u + suc rest.0 = omega arith in rest.1 ∙ n), rest.2)

pub placed_stands : (s : State) (m : Member) (e : Term) → IsParkedIn (parked_list s) m e → Stands s m.thread (parked m.ticket e)
placed_stands s m e h =
    let found = placed_from 0 s.callers m e h in
    let at : m.thread ≡ found.0 = found.1 ∙ zero-add found.0 in
    subst (λ (k : ℕ). slice_get s.callers k ≡ Some (parked m.ticket e)) (sym at) found.2
