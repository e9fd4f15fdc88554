-- The chains of the groups of a legal history's commits make no fresh channel twice.
use Rattle.std.proofs.Common.{◌≡◌, ◌≢◌, ℕ, zero, suc, ◌<◌, ◌≤◌, ◌^◌, ◌&&◌, ◌==◌, Bool, true, false, cond, eqb}
use Rattle.std.proofs.Common.{eq-eqb, List, [], ◌∷◌, ◌++◌, length, take, Option, Some, None, refl, sym, ap, subst, ◌∙◌, arith}
use Rattle.std.proofs.Math.Nat.{mod-eq_of_lt}
use Rattle.std.proofs.lemmas.List.{length-take}
use Rattle.std.proofs.lemmas.Option.{slice_get_within}
use Rattle.std.specs.Prelude.{slice_get}
use Rattle.std.specs.List.{AllByRecursion}
use Rattle.te_terms.specs.declared.event.Outcome.{Outcome}
use Rattle.te_terms.specs.Steps.{Member, come_to}
use Rattle.te_terms.specs.Joint.{member_of}
use Rattle.te_cert.specs.declared.cert.Cert.{Cert}
use Rattle.te_cert.specs.declared.cert.Member as certs
use Rattle.te_cert.proofs.MembersReplaced.{found_thread}
use Rattle.te_script.specs.Scripts.{Program, IsProgram}
use Rattle.te_history.specs.declared.entry.Entry.{Entry}
use Rattle.te_history.specs.declared.entry.Entry.TheVariants as entries
use Rattle.te_history.specs.State.{State, parked, state}
use Rattle.te_history.specs.Follows.{Stands, AreEvents, IsLoose, IsLegal}
use Rattle.te_history.specs.Givings.{names, item_if, given_among, givings_of, givings}
use Rattle.te_history.proofs.AfterEntry.{length-state}
use Rattle.te_history.proofs.GivenOnce.{none_yet}
use Rattle.te_history.proofs.Growing.{legal_is_loose}
use Rattle.te_report.specs.OfScript.{IsOfScript}
use Rattle.te_report.proofs.Growing.{AtPlace, at_place}
use Rattle.te_serial.specs.FreshChannels.{made_along, NoneShared, IsCommitOf, AreDifferent}
use Rattle.te_serial.proofs.FreshMade.{member_low, posted_few}
use Rattle.te_serial.proofs.FreshDifferent.{Fine, Owns, all_own, inject, none_twice}

-- ---- a member of a commit's group

record EventOf (s : State) (ms : List certs.Member) (m : Member) : Type 0 where
  place : ℕ
  member : certs.Member
  there : slice_get ms place ≡ Some member
  is : m ≡ come_to member.thread member.ticket 0 m.term
  stands : Stands s member.thread (parked member.ticket m.term)

event_of : (s : State) (ms : List certs.Member) (gs : List Member) (t : ℕ) (m : Member) → AreEvents s ms gs → member_of t gs ≡ Some m → EventOf s ms m
event_of s [] [] t m events found = absurd cc
event_of s [] (g ∷ gs) t m events found = absurd events
event_of s (x ∷ xs) [] t m events found = absurd events
event_of s (x ∷ xs) (g ∷ gs) t m events found = at (eqb g.thread t) (λ later. event_of s xs gs t m events.2 later) found
  where
    at : (b : Bool) → (member_of t gs ≡ Some m → EventOf s xs m) → cond b (Some g) (member_of t gs) ≡ Some m → EventOf s (x ∷ xs) m
    at true rest e =
        let same : g ≡ m = cc in
        subst (EventOf s (x ∷ xs)) same (record { place = 0; member = x; there = refl; is = events.0; stands = events.1 })
    at false rest e = let later = rest e in record { place = suc later.place; member = later.member; there = later.there; is = later.is; stands = later.stands }

-- ---- a commit gives its members something

cons_not_nil : {A : Type 0} (x : A) (xs : List A) → x ∷ xs ≢ []
cons_not_nil x xs e = absurd cc

item_not : (b : Bool) (o : Option Outcome) (os : List (Option Outcome)) → os ≢ [] → item_if b o os ≢ []
item_not true o os some = cons_not_nil o os
item_not false o os some = some

own_item : (m : certs.Member) (o : Option Outcome) (os : List (Option Outcome)) → item_if (names m.thread m.ticket m) o os ≢ []
own_item m o os =
    subst (λ (b : Bool). item_if b o os ≢ [])
    (sym (ap (λ (b : Bool). b && (m.ticket == m.ticket)) (eq-eqb m.thread m.thread refl) ∙ eq-eqb m.ticket m.ticket refl)) (cons_not_nil o os)

among_some : (ms : List certs.Member) (os : List Outcome) (i : ℕ) (m : certs.Member) → slice_get ms i ≡ Some m → given_among m.thread m.ticket ms os ≢ []
among_some [] os i m is = absurd cc
among_some (x ∷ xs) [] zero m is = let same : x ≡ m = cc in subst (λ (y : certs.Member). given_among y.thread y.ticket (x ∷ xs) [] ≢ []) same (own_item x None (given_among x.thread x.ticket xs []))
among_some (x ∷ xs) (o ∷ os) zero m is = let same : x ≡ m = cc in
    subst (λ (y : certs.Member). given_among y.thread y.ticket (x ∷ xs) (o ∷ os) ≢ []) same (own_item x (Some o) (given_among x.thread x.ticket xs os))
among_some (x ∷ xs) [] (suc i) m is = item_not (names m.thread m.ticket x) None (given_among m.thread m.ticket xs []) (among_some xs [] i m is)
among_some (x ∷ xs) (o ∷ os) (suc i) m is = item_not (names m.thread m.ticket x) (Some o) (given_among m.thread m.ticket xs os) (among_some xs os i m is)

front_some : {A : Type 0} (xs ys : List A) → xs ≢ [] → xs ++ ys ≢ []
front_some [] ys some = absurd (some refl)
front_some (x ∷ xs) ys some = cons_not_nil x (xs ++ ys)

back_some : {A : Type 0} (xs ys : List A) → ys ≢ [] → xs ++ ys ≢ []
back_some [] ys some = some
back_some (x ∷ xs) ys some = cons_not_nil x (xs ++ ys)

giving_some : (h : List Entry) (place by : ℕ) (cert : Cert) (outcomes : List Outcome) (i : ℕ) (m : certs.Member)
    → slice_get h place ≡ Some (entries.Commit by cert outcomes) → slice_get cert.members i ≡ Some m
    → givings m.thread m.ticket h ≢ []
giving_some [] place by cert outcomes i m is there = absurd cc
giving_some (e ∷ es) zero by cert outcomes i m is there =
    let same : entries.Commit by cert outcomes ≡ e = cc in
    subst (λ (x : Entry). givings_of m.thread m.ticket x ++ givings m.thread m.ticket es ≢ []) same
    (front_some (given_among m.thread m.ticket cert.members outcomes) (givings m.thread m.ticket es) (among_some cert.members outcomes i m there))
giving_some (e ∷ es) (suc place) by cert outcomes i m is there =
    back_some (givings_of m.thread m.ticket e) (givings m.thread m.ticket es) (giving_some es place by cert outcomes i m is there)

get_take : {A : Type 0} (xs : List A) (n i : ℕ) (x : A) → i < n → slice_get xs i ≡ Some x → slice_get (take n xs) i ≡ Some x
get_take [] n i x lt is = absurd cc
get_take (y ∷ ys) zero i x lt is = absurd (omega arith)
get_take (y ∷ ys) (suc n) zero x lt is = is
get_take (y ∷ ys) (suc n) (suc i) x lt is = get_take ys n i x (omega arith) is

-- ---- the history of a script

module _ (script : Program) (history : List Entry) (is : IsProgram script) (legal : IsLegal (length script.threads) history) (wished : IsOfScript script history)
    (short : length history ≤ 200000) where
  loose : IsLoose (length script.threads) history
  loose = legal_is_loose (length script.threads) history legal

  before : (place : ℕ) (g : List Member) (c : IsCommitOf (length script.threads) history place g)
      → AtPlace (length script.threads) script.threads [] (take place history) (entries.Commit c.by c.cert c.outcomes)
  before place g c = at_place (length script.threads) script.threads [] history place (entries.Commit c.by c.cert c.outcomes) loose wished c.is

  fine : (place : ℕ) (g : List Member) → IsCommitOf (length script.threads) history place g → Fine g
  fine place g c t m found =
      let e = event_of (state (length script.threads) (take place history)) c.cert.members g t m c.events found in
      let within = slice_get_within (state (length script.threads) (take place history)).callers e.member.thread (parked e.member.ticket m.term) e.stands in
      let many = length-state (length script.threads) (take place history) in
      let few = posted_few script history is loose wished place (entries.Commit c.by c.cert c.outcomes) c.is e.member.thread e.member.ticket m.term e.stands in
      let thread : m.thread ≡ e.member.thread = ap (λ (x : Member). x.thread) e.is in
      let count : m.count ≡ 0 = ap (λ (x : Member). x.count) e.is in
      let own = found_thread t g m found in
      let threads = is.threads in
      (omega arith, omega arith)

  -- a member's ticket is low
  low_ticket : (place : ℕ) (g : List Member) (c : IsCommitOf (length script.threads) history place g) (m : Member)
      (e : EventOf (state (length script.threads) (take place history)) c.cert.members m) → m.ticket < 2 ^ 18
  low_ticket place g c m e =
      let low = (member_low (length script.threads) (take place history) c.cert.members g e.place e.member (before place g c).loose c.events e.there).1 in
      let ticket : m.ticket ≡ e.member.ticket = ap (λ (x : Member). x.ticket) e.is in
      let cut = length-take place history in
      grind (arith, cut, low, ticket, short)

  none_again : (p q : ℕ) (g k : List Member) → p < q → (c : IsCommitOf (length script.threads) history p g) → (d : IsCommitOf (length script.threads) history q k)
      → (x y : ℕ) → Owns g x → Owns k y → x ≢ y
  none_again p q g k lt c d x y o u = λ same.
      let first = event_of (state (length script.threads) (take p history)) c.cert.members g o.member.thread o.member c.events o.found in
      let second = event_of (state (length script.threads) (take q history)) d.cert.members k u.member.thread u.member d.events u.found in
      let low = (fine p g c o.member.thread o.member o.found).0 in
      let low' = (fine q k d u.member.thread u.member u.found).0 in
      let parts = inject o.member.thread o.member.ticket o.count u.member.thread u.member.ticket u.count low low' o.few u.few (sym o.number ∙ same ∙ u.number) in
      let ticket : o.member.ticket ≡ u.member.ticket = sym (mod-eq_of_lt (low_ticket p g c o.member first)) ∙ parts.1 ∙ mod-eq_of_lt (low_ticket q k d u.member second) in
      let threads : first.member.thread ≡ second.member.thread = sym (ap (λ (m : Member). m.thread) first.is) ∙ parts.0 ∙ ap (λ (m : Member). m.thread) second.is in
      let tickets : first.member.ticket ≡ second.member.ticket = sym (ap (λ (m : Member). m.ticket) first.is) ∙ ticket ∙ ap (λ (m : Member). m.ticket) second.is in
      let none = none_yet (length script.threads) (take q history) second.member.thread second.member.ticket u.member.term (before q k d).loose second.stands in
      let some = giving_some (take q history) p c.by c.cert c.outcomes first.place first.member (get_take history q p (entries.Commit c.by c.cert c.outcomes) lt c.is) first.there in
      some ((λ i. givings (threads i) (tickets i) (take q history)) ∙ none)

  all_apart : (g k : List Member) (xs ys : List ℕ) → ((x y : ℕ) → Owns g x → Owns k y → x ≢ y) → AllByRecursion (Owns g) xs → AllByRecursion (Owns k) ys → NoneShared xs ys
  all_apart g k [] ys apart hx hy = tt
  all_apart g k (x ∷ xs) ys apart hx hy = (one ys hy, all_apart g k xs ys apart hx.1 hy)
    where
      one : (zs : List ℕ) → AllByRecursion (Owns k) zs → AllByRecursion (λ z. x ≢ z) zs
      one [] all = tt
      one (z ∷ zs) all = (apart x z hx.0 all.0, one zs all.1)

  pub are_different : AreDifferent (length script.threads) history
  are_different = record {
    once = λ place g chain c. none_twice chain g (fine place g c);
    apart = λ p q g k a b lt c d. all_apart g k (made_along a g) (made_along b k) (none_again p q g k lt c d) (all_own a g (fine p g c)) (all_own b k (fine q k d));
  }
