-- What a search finds can commit.
use Rattle.std.proofs.Common.{◌≡◌, ◌≢◌, ◌<◌, ◌⊎◌, ℕ, Bool, true, false, ◌||◌, List, [], ◌∷◌, map, Ok, refl, ap, sym, ◌∙◌, subst, inl, inr, arith, nat_eq, cond, eq-eqb}
use Rattle.te_terms.specs.declared.event.Outcome.{Outcome}
use Rattle.te_terms.specs.declared.event.Parked.{Parked}
use Rattle.te_terms.specs.Terms.{Term}
use Rattle.te_terms.specs.Steps as steps
use Rattle.te_terms.specs.Steps.{come_to}
use Rattle.te_terms.specs.Joint.{RiseFrom, IsGroup, Reduces, part, as_group, as_member, CanCommit}
use Rattle.te_cert.specs.declared.cert.Member.{Member}
use Rattle.te_cert.specs.Certificates.{Certificate}
use Rattle.te_cert.specs.Checks.{group_of, RiseAfter, ThreadsRise}
use Rattle.te_cert.specs.Play.{play}
use Rattle.te_cert.proofs.PlaysReduce.{plays_reduce}
use Rattle.te_search.specs.Findings.{IsParkedIn, ArePlacedIn, IsGroupOf}
use Rattle.tevents.proofs.PostsCounted.{same_or_apart}
use Rattle.std.proofs.lemmas.Bool.{ne_eqb}

-- the threads of the members
abbrev named : List Member → ℕ → Bool
named [] t = false
named (m ∷ ms) t = nat_eq m.thread t || named ms t

abbrev above : ℕ → List Member → Type 0
above low [] = Unit {0}
above low (m ∷ ms) = (low < m.thread) × above m.thread ms

-- ---- threads of rising lists

parked_above : (ps : List Parked) (low : ℕ) (m : Member) (e : Term) → RiseFrom low (as_group ps) → IsParkedIn ps m e → low < m.thread
parked_above [] low m e rise h = absurd h
parked_above (p ∷ ps) low m e rise (inl (is, ticket, event)) = subst (λ t. low < t) is rise.0
parked_above (p ∷ ps) low m e rise (inr h) = (let own : low < p.thread = rise.0 in let far : p.thread < m.thread = parked_above ps p.thread m e rise.1 h in omega (arith, own, far))

not_named : (ms : List Member) (low t : ℕ) → above low ms → (t < low) ⊎ (t ≡ low) → named ms t ≡ false
not_named [] low t h below = refl
not_named (m ∷ ms) low t h below = ap (λ (b : Bool). b || named ms t) (ne_eqb m.thread t (λ is. omega (arith, is, under below))) ∙ not_named ms m.thread t h.1 (inl (under below))
  where
    under : (t < low) ⊎ (t ≡ low) → t < m.thread
    under (inl l) = (let a : low < m.thread = h.0 in omega (arith, a, l))
    under (inr e) = (let a : low < m.thread = h.0 in omega (arith, a, e))

-- ---- the members' part

part_by : (f g : ℕ → Bool) (low : ℕ) (group : List steps.Member) → RiseFrom low group → ((t : ℕ) → low < t → f t ≡ g t) → part f group ≡ part g group
part_by f g low [] rise same = refl
part_by f g low (m ∷ ms) rise same = ap (λ (b : Bool). cond b (m ∷ part f ms) (part f ms)) (same m.thread rise.0)
    ∙ ap (λ (rest : List steps.Member). cond (g m.thread) (m ∷ rest) rest)
    (part_by f g m.thread ms rise.1 (λ t far. same t (let a : low < m.thread = rise.0 in omega (arith, a, far))))

part_none : (group : List steps.Member) → part (λ t. false) group ≡ []
part_none [] = refl
part_none (m ∷ ms) = part_none ms

placed_later : (p : Parked) (ps : List Parked) (ms : List Member) (es : List Term) (low : ℕ) → above low ms → (p.thread < low) ⊎ (p.thread ≡ low) → ArePlacedIn (p ∷ ps) ms es → ArePlacedIn ps ms es
placed_later p ps [] [] low h below placed = tt
placed_later p ps [] (e ∷ es) low h below placed = placed
placed_later p ps (m ∷ ms) [] low h below placed = placed
placed_later p ps (m ∷ ms) (e ∷ es) low h below (here, rest) = (later here, placed_later p ps ms es m.thread h.1 (inl (under below)) rest)
  where
    under : (p.thread < low) ⊎ (p.thread ≡ low) → p.thread < m.thread
    under (inl l) = (let a : low < m.thread = h.0 in omega (arith, a, l))
    under (inr e) = (let a : low < m.thread = h.0 in omega (arith, a, e))

    later : IsParkedIn (p ∷ ps) m e → IsParkedIn ps m e
    later (inl (is, ticket, event)) = absurd (let far : p.thread < m.thread = under below in omega (arith, is, far))
    later (inr k) = k

first_placed : (p : Parked) (ps : List Parked) (m : Member) (ms : List Member) (e : Term) (es : List Term)
    → RiseFrom p.thread (as_group ps) → above m.thread ms → ArePlacedIn (p ∷ ps) (m ∷ ms) (e ∷ es)
    → (above p.thread ms → ArePlacedIn ps ms es → part (named ms) (as_group ps) ≡ group_of ms es)
    → (p.thread < m.thread → ArePlacedIn ps (m ∷ ms) (e ∷ es) → part (named (m ∷ ms)) (as_group ps) ≡ group_of (m ∷ ms) (e ∷ es))
    → (p.thread ≡ m.thread) ⊎ (p.thread ≡ m.thread → ⊥) → part (named (m ∷ ms)) (as_group (p ∷ ps)) ≡ group_of (m ∷ ms) (e ∷ es)
first_placed p ps m ms e es rise h (here, rest) one on (inl same) = by here
  where
    takes : named (m ∷ ms) p.thread ≡ true
    takes = ap (λ (b : Bool). b || named ms p.thread) (eq-eqb m.thread p.thread (sym same))

    past : (t : ℕ) → p.thread < t → named (m ∷ ms) t ≡ named ms t
    past t far = ap (λ (b : Bool). b || named ms t) (ne_eqb m.thread t (λ is. omega (arith, is, same, far)))

    others : part (named (m ∷ ms)) (as_group ps) ≡ group_of ms es
    others = part_by (named (m ∷ ms)) (named ms) p.thread (as_group ps) rise past
        ∙ one (subst (λ t. above t ms) (sym same) h) (placed_later p ps ms es m.thread h (inr same) rest)

    by : IsParkedIn (p ∷ ps) m e → part (named (m ∷ ms)) (as_group (p ∷ ps)) ≡ group_of (m ∷ ms) (e ∷ es)
    by (inr k) = absurd (let far : p.thread < m.thread = parked_above ps p.thread m e rise k in omega (arith, same, far))
    by (inl (is, ticket, event)) =
        ap (λ (b : Bool). cond b (as_member p ∷ part (named (m ∷ ms)) (as_group ps)) (part (named (m ∷ ms)) (as_group ps))) takes
        ∙ ap (λ (rest : List steps.Member). as_member p ∷ rest) others
        ∙ ap (λ (x : steps.Member). x ∷ group_of ms es) (come is ticket event)
      where
        come : p.thread ≡ m.thread → p.ticket ≡ m.ticket → p.event ≡ e → as_member p ≡ come_to m.thread m.ticket 0 e
        come a b c = cc
first_placed p ps m ms e es rise h (here, rest) one on (inr apart) = by here
  where
    by : IsParkedIn (p ∷ ps) m e → part (named (m ∷ ms)) (as_group (p ∷ ps)) ≡ group_of (m ∷ ms) (e ∷ es)
    by (inl (is, ticket, event)) = absurd (apart is)
    by (inr k) =
        let far : p.thread < m.thread = parked_above ps p.thread m e rise k in
        ap (λ (b : Bool). cond b (as_member p ∷ part (named (m ∷ ms)) (as_group ps)) (part (named (m ∷ ms)) (as_group ps))) (not_named (m ∷ ms) p.thread p.thread (far, h) (inr refl))
        ∙ on far (k, placed_later p ps ms es m.thread h (inl far) rest)

part_placed : (ps : List Parked) (ms : List Member) (es : List Term) (low : ℕ) → RiseFrom low (as_group ps) → above low ms → ArePlacedIn ps ms es → part (named ms) (as_group ps) ≡ group_of ms es
part_placed ps [] es low rise h placed = part_by (named []) (λ t. false) low (as_group ps) rise (λ t far. refl) ∙ part_none (as_group ps)
part_placed ps (m ∷ ms) [] low rise h placed = absurd placed
part_placed [] (m ∷ ms) (e ∷ es) low rise h placed = absurd placed.0
part_placed (p ∷ ps) (m ∷ ms) (e ∷ es) low rise h placed = first_placed p ps m ms e es rise.1 h.1 placed
    (λ a k. part_placed ps ms es p.thread rise.1 a k) (λ far k.
    part_placed ps (m ∷ ms) (e ∷ es) p.thread rise.1 (far, h.1) k) (same_or_apart p.thread m.thread)

group_rises : (ms : List Member) (es : List Term) (low : ℕ) → above low ms → RiseFrom low (group_of ms es)
group_rises [] es low h = tt
group_rises (m ∷ ms) [] low h = tt
group_rises (m ∷ ms) (e ∷ es) low h = (h.0, group_rises ms es m.thread h.1)

-- threads of lists that rise lie above a number below the first
pub found_commits : (parked : List Parked) (cert : Certificate) (outcomes : List Outcome) → IsGroup (as_group parked) → IsGroupOf parked cert outcomes → CanCommit parked
found_commits parked cert outcomes rise found = by parked cert.members found.events rise found.some_member found.rise found.placed found.plays.plays
  where
    by : (ps : List Parked) (ms : List Member) (es : List Term) → IsGroup (as_group ps) → ms ≢ [] → ThreadsRise ms
        → ArePlacedIn ps ms es → play (group_of ms es) (map (λ m. m.choices) cert.members) cert.meets ≡ Ok
        (record { outcomes = outcomes; word = found.plays.word }) → CanCommit ps
    by ps [] es up some above_is placed plays = absurd (some refl)
    by [] (m ∷ ms) [] up some above_is placed plays = absurd placed
    by [] (m ∷ ms) (e ∷ es) up some above_is placed plays = absurd placed.0
    by (p ∷ ps) (m ∷ ms) [] up some above_is placed plays = absurd placed
    by (p ∷ ps) (m ∷ ms) (e ∷ es) up some above_is placed plays =
        let are : part (named (m ∷ ms)) (as_group (p ∷ ps)) ≡ group_of (m ∷ ms) (e ∷ es) =
        first_placed p ps m ms e es up (above_of m.thread ms above_is) placed
        (λ a k. part_placed ps ms es p.thread up a k) (λ far k.
        part_placed ps (m ∷ ms) (e ∷ es) p.thread up (far, above_of m.thread ms above_is) k)
        (same_or_apart p.thread m.thread) in
        record {
          side = named (m ∷ ms);
          word = found.plays.word;
          results = outcomes;
          is_some = λ none. (let bad : group_of (m ∷ ms) (e ∷ es) ≡ [] = sym are ∙ none in absurd cc);
          reduces = subst (λ (g : List steps.Member). Reduces g found.plays.word outcomes) (sym are)
              (plays_reduce (group_of (m ∷ ms) (e ∷ es)) (map (λ m. m.choices) cert.members) cert.meets
              (record { outcomes = outcomes; word = found.plays.word })
              (group_rises ms es m.thread (above_of m.thread ms above_is)) plays);
        }
      where
        above_of : (t : ℕ) (ms : List Member) → RiseAfter t ms → above t ms
        above_of t [] h = tt
        above_of t (m ∷ ms) h = (h.0, above_of m.thread ms h.1)
