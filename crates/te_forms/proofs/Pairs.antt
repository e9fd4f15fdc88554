-- The pairs of a commit's meetings are those of its form members: each gives once and takes once, the next role takes, and comes to what was offered.
use Rattle.std.proofs.Common.{◌≡◌, ◌≢◌, ◌⊎◌, inl, inr, ℕ, zero, suc, ◌+◌, ◌*◌, ◌%◌, ◌<◌, ◌≤◌, ◌==◌, Bool, true, List}
use Rattle.std.proofs.Common.{[], ◌∷◌, length, Option, Some, None, refl, sym, ap, subst, ◌∙◌, arith, eq-eqb, ne_eqb}
use Rattle.std.proofs.Common.{is_some}
use Rattle.std.specs.Prelude.{slice_get, filter_map}
use Rattle.std.specs.List.{cons_option}
use Rattle.std.proofs.lemmas.Nat.{mod-mul-add}
use Rattle.te_terms.specs.declared.event.Outcome.{Outcome}
use Rattle.te_cert.specs.declared.cert.Member.{Member}
use Rattle.te_cert.specs.declared.cert.Meeting.{Meeting}
use Rattle.te_cert.specs.Checks.{RiseAfter, ThreadsRise}
use Rattle.te_history.specs.State.{State}
use Rattle.te_history.proofs.Commits.{same_or_other}
use Rattle.te_forms.specs.declared.pair.Handed.{Handed}
use Rattle.te_forms.specs.declared.form.Form.{Form}
use Rattle.te_forms.specs.Rings.{IsRing, role_before, role_after}
use Rattle.te_forms.specs.Forms.{role_of, offer_of}
use Rattle.te_forms.specs.Handing.{FormMember, HandsOn, AreHanded, nobody, hands_on, others, times_giver, times_taker, StandsBetween, NobodyElse, GoRound, outcome_by, AreGiven}
use Rattle.te_forms.specs.Reading.{pair_if, pair_in}
use Rattle.te_forms.proofs.Seats.{Seat}
use Rattle.te_forms.proofs.Turns.{kinds}
use Rattle.te_forms.proofs.Counting.{IsHandover, Fate, Fates, count_hit, count_miss, times_sending, times_receiving}
use Rattle.te_forms.proofs.Casting.{PlaceAt, some_seat, member_kind, kind_member}

-- ---- threads and places

above : (low : ℕ) (ms : List Member) (i : ℕ) (m : Member) → RiseAfter low ms → slice_get ms i ≡ Some m → low < m.thread
above low [] i m rise at = absurd cc
above low (x ∷ xs) zero m rise at = let same : x ≡ m = cc in subst (λ (y : Member). low < y.thread) same rise.0
above low (x ∷ xs) (suc i) m rise at = let higher = above x.thread xs i m rise.1 at in omega (arith, higher, rise.0)

one_place_after : (low : ℕ) (ms : List Member) (i j : ℕ) (m k : Member) → RiseAfter low ms → slice_get ms i ≡ Some m → slice_get ms j ≡ Some k
    → m.thread ≡ k.thread → i ≡ j
one_place_after low [] i j m k rise at also same = absurd cc
one_place_after low (x ∷ xs) zero zero m k rise at also same = refl
one_place_after low (x ∷ xs) zero (suc j) m k rise at also same =
    let first : x ≡ m = cc in
    let thread = ap (λ (y : Member). y.thread) first in
    let higher = above x.thread xs j k rise.1 also in
    absurd (omega (arith, thread, higher, same))
one_place_after low (x ∷ xs) (suc i) zero m k rise at also same =
    let first : x ≡ k = cc in
    let thread = ap (λ (y : Member). y.thread) first in
    let higher = above x.thread xs i m rise.1 at in
    absurd (omega (arith, thread, higher, same))
one_place_after low (x ∷ xs) (suc i) (suc j) m k rise at also same = ap suc (one_place_after x.thread xs i j m k rise.1 at also same)

-- a thread is a member once
pub one_place : (ms : List Member) (i j : ℕ) (m k : Member) → ThreadsRise ms → slice_get ms i ≡ Some m → slice_get ms j ≡ Some k → m.thread ≡ k.thread → i ≡ j
one_place [] i j m k rise at also same = absurd cc
one_place (x ∷ xs) zero zero m k rise at also same = refl
one_place (x ∷ xs) zero (suc j) m k rise at also same =
    let first : x ≡ m = cc in
    let thread = ap (λ (y : Member). y.thread) first in
    let higher = above x.thread xs j k rise also in
    absurd (omega (arith, thread, higher, same))
one_place (x ∷ xs) (suc i) zero m k rise at also same =
    let first : x ≡ k = cc in
    let thread = ap (λ (y : Member). y.thread) first in
    let higher = above x.thread xs i m rise at in
    absurd (omega (arith, thread, higher, same))
one_place (x ∷ xs) (suc i) (suc j) m k rise at also same = ap suc (one_place_after x.thread xs i j m k rise at also same)

-- ---- the role after another

pub comes_after : (roles role before : ℕ) → 2 ≤ roles → role < roles → role_before roles role ≡ before → role ≡ role_after roles before
comes_after roles zero before some lt is =
    let all : before + 1 ≡ 1 * roles + 0 = omega (arith, is, some) in
    sym (ap (λ (n : ℕ). n % roles) all ∙ mod-mul-add 1 roles 0 (omega (arith, some)))
comes_after roles (suc i) before some lt is =
    let all : before + 1 ≡ 0 * roles + suc i = omega (arith, is) in
    sym (ap (λ (n : ℕ). n % roles) all ∙ mod-mul-add 0 roles (suc i) lt)

-- ---- what the casting of a commit gives

pub record Cast (ring : List ℕ) (s : State) (members : List Member) (marks : List Bool) (seats : List Seat) : Type 0 where
  pub is_ring : IsRing ring
  pub rise : ThreadsRise members
  pub by_member : (i : ℕ) (m : Member) → slice_get members i ≡ Some m → PlaceAt ring s members seats i
  pub by_seat : (i : ℕ) (k : Seat) → slice_get seats i ≡ Some k → PlaceAt ring s members seats i
  pub mark_at : (i : ℕ) (o : Option Form) → slice_get (kinds seats) i ≡ Some o → slice_get marks i ≡ Some (is_some o)

-- a pair, with what its meeting does
pub record IsPair (ring : List ℕ) (s : State) (members : List Member) (os : List Outcome) (h : Handed) : Type 0 where
  pub giver : FormMember ring s members
  pub taker : FormMember ring s members
  pub pair : h ≡ record { giver = giver.member.thread; taker = taker.member.thread }
  pub follows : role_before (length ring) (role_of taker.form) ≡ role_of giver.form
  pub comes_to : slice_get os taker.place ≡ Some (outcome_by taker.form (offer_of giver.form))

module _ (ring : List ℕ) (s : State) (members : List Member) (marks : List Bool) (seats : List Seat) (cast : Cast ring s members marks seats) where
  abbrev forms : List (Option Form)
  forms = kinds seats

  place_of : (i : ℕ) (o : Option Form) → slice_get forms i ≡ Some o → PlaceAt ring s members seats i
  place_of i o at = let seat = some_seat seats i o at in cast.by_seat i seat.0 seat.1

  abbrev party : (i : ℕ) (f : Form) → slice_get forms i ≡ Some (Some f) → FormMember ring s members
  party i f at = kind_member ring cast.is_ring s members seats i f (place_of i (Some f) at) at

  form_of : (p : FormMember ring s members) → slice_get forms p.place ≡ Some (Some p.form)
  form_of p = member_kind ring cast.is_ring s members seats p (cast.by_member p.place p.member p.is_there)

  -- a thread is one form member
  same_party : (p q : FormMember ring s members) → p.member.thread ≡ q.member.thread → (p.place ≡ q.place) × (p.form ≡ q.form)
  same_party p q same =
      let place = one_place members p.place q.place p.member q.member cast.rise p.is_there q.is_there same in
      let both : Some (Some p.form) ≡ Some (Some q.form) = sym (form_of p) ∙ ap (slice_get forms) place ∙ form_of q in
      (place, cc)

  -- ---- the pair of a meeting

  abbrev pair_at : Meeting → Option Handed
  pair_at m = pair_in members marks m

  abbrev pairs : List Meeting → List Handed
  pairs ms = filter_map pair_at ms

  -- between form members
  module _ (os : List Outcome) (m : Meeting) (h : IsHandover (length ring) forms os m) where
    abbrev giver : FormMember ring s members
    giver = party m.sender h.giver h.giver_at

    abbrev taker : FormMember ring s members
    taker = party m.receiver h.taker h.taker_at

    abbrev pair : Handed
    pair = record { giver = giver.member.thread; taker = taker.member.thread }

    pair_is : pair_at m ≡ Some pair
    pair_is =
        ap (λ (x : Option Bool). pair_if x (slice_get marks m.receiver) (slice_get members m.sender) (slice_get members m.receiver)) (cast.mark_at m.sender (Some h.giver) h.giver_at)
        ∙ ap (λ (x : Option Bool). pair_if (Some true) x (slice_get members m.sender) (slice_get members m.receiver)) (cast.mark_at m.receiver (Some h.taker) h.taker_at)
        ∙ ap (λ (x : Option Member). pair_if (Some true) (Some true) x (slice_get members m.receiver)) giver.is_there
        ∙ ap (λ (x : Option Member). pair_if (Some true) (Some true) (Some giver.member) x) taker.is_there

    hands : HandsOn ring s members m pair
    hands = record { giver = giver; taker = taker; sends = refl; receives = refl; pair = refl }

    one_pair : IsPair ring s members os pair
    one_pair = record { giver = giver; taker = taker; pair = refl; follows = h.follows; comes_to = h.comes_to }

    more_pairs : (ms : List Meeting) → pairs (m ∷ ms) ≡ pair ∷ pairs ms
    more_pairs ms = ap (λ (o : Option Handed). cons_option o (pairs ms)) pair_is

  -- between strangers
  module _ (m : Meeting) (sender : slice_get forms m.sender ≡ Some None) (receiver : slice_get forms m.receiver ≡ Some None) where
    no_pair : pair_at m ≡ None
    no_pair = ap (λ (x : Option Bool). pair_if x (slice_get marks m.receiver) (slice_get members m.sender) (slice_get members m.receiver)) (cast.mark_at m.sender None sender)

    no_more_pairs : (ms : List Meeting) → pairs (m ∷ ms) ≡ pairs ms
    no_more_pairs ms = ap (λ (o : Option Handed). cons_option o (pairs ms)) no_pair

    not_at : (i : ℕ) → slice_get forms i ≡ Some None → (p : FormMember ring s members) → i ≡ p.place → ⊥
    not_at i at p same = let both : Some None ≡ Some (Some p.form) = sym at ∙ ap (slice_get forms) same ∙ form_of p in cc

    no_hands : (h : Handed) → HandsOn ring s members m h → ⊥
    no_hands h hands = not_at m.sender sender hands.giver hands.sends

  -- ---- all meetings

  pub handed_so : (os : List Outcome) (ms : List Meeting) → Fates (length ring) forms os ms → AreHanded ring s members ms (pairs ms)
  handed_so os [] fates = nobody
  handed_so os (m ∷ ms) fates = by_fate fates.0 (handed_so os ms fates.1)
    where
      by_fate : Fate (length ring) forms os m → AreHanded ring s members ms (pairs ms) → AreHanded ring s members (m ∷ ms) (pairs (m ∷ ms))
      by_fate (inl h) rest =
          subst (AreHanded ring s members (m ∷ ms)) (sym (more_pairs os m h ms)) (hands_on m (pair os m h) ms (pairs ms) (hands os m h) rest)
      by_fate (inr apart) rest =
          subst (AreHanded ring s members (m ∷ ms)) (sym (no_more_pairs m apart.0 apart.1 ms)) (others m ms (pairs ms) (no_hands m apart.0 apart.1) rest)

  -- ---- each once

  -- a pair counts for the thread exactly where its meeting counts for the place
  module _ (os : List Outcome) (m : Meeting) (ms : List Meeting) (p : FormMember ring s members) where
    gives_here : (h : IsHandover (length ring) forms os m) → (m.sender ≡ p.place) ⊎ (m.sender ≢ p.place) → times_giver p.member.thread (pairs ms) ≡ times_sending p.place ms
        → times_giver p.member.thread (pair os m h ∷ pairs ms) ≡ times_sending p.place (m ∷ ms)
    gives_here h (inl same) rest =
        let both : Some (giver os m h).member ≡ Some p.member = sym (giver os m h).is_there ∙ ap (slice_get members) same ∙ p.is_there in
        let one : (giver os m h).member ≡ p.member = cc in
        count_hit (λ (x : Handed). x.giver == p.member.thread) (pair os m h) (pairs ms) (eq-eqb (giver os m h).member.thread p.member.thread (ap (λ (x : Member). x.thread) one))
        ∙ ap suc rest ∙ sym (count_hit (λ (x : Meeting). x.sender == p.place) m ms (eq-eqb m.sender p.place same))
    gives_here h (inr other) rest =
        count_miss (λ (x : Handed). x.giver == p.member.thread) (pair os m h) (pairs ms)
        (ne_eqb (giver os m h).member.thread p.member.thread (λ same. other (same_party (giver os m h) p same).0))
        ∙ rest ∙ sym (count_miss (λ (x : Meeting). x.sender == p.place) m ms (ne_eqb m.sender p.place other))

    takes_here : (h : IsHandover (length ring) forms os m) → (m.receiver ≡ p.place) ⊎ (m.receiver ≢ p.place) → times_taker p.member.thread (pairs ms) ≡ times_receiving p.place ms
        → times_taker p.member.thread (pair os m h ∷ pairs ms) ≡ times_receiving p.place (m ∷ ms)
    takes_here h (inl same) rest =
        let both : Some (taker os m h).member ≡ Some p.member = sym (taker os m h).is_there ∙ ap (slice_get members) same ∙ p.is_there in
        let one : (taker os m h).member ≡ p.member = cc in
        count_hit (λ (x : Handed). x.taker == p.member.thread) (pair os m h) (pairs ms) (eq-eqb (taker os m h).member.thread p.member.thread (ap (λ (x : Member). x.thread) one))
        ∙ ap suc rest ∙ sym (count_hit (λ (x : Meeting). x.receiver == p.place) m ms (eq-eqb m.receiver p.place same))
    takes_here h (inr other) rest =
        count_miss (λ (x : Handed). x.taker == p.member.thread) (pair os m h) (pairs ms)
        (ne_eqb (taker os m h).member.thread p.member.thread (λ same. other (same_party (taker os m h) p same).0))
        ∙ rest ∙ sym (count_miss (λ (x : Meeting). x.receiver == p.place) m ms (ne_eqb m.receiver p.place other))

    gives_there : Fate (length ring) forms os m → times_giver p.member.thread (pairs ms) ≡ times_sending p.place ms
        → times_giver p.member.thread (pairs (m ∷ ms)) ≡ times_sending p.place (m ∷ ms)
    gives_there (inl h) rest = ap (times_giver p.member.thread) (more_pairs os m h ms) ∙ gives_here h (same_or_other m.sender p.place) rest
    gives_there (inr apart) rest =
        ap (times_giver p.member.thread) (no_more_pairs m apart.0 apart.1 ms) ∙ rest
        ∙ sym (count_miss (λ (x : Meeting). x.sender == p.place) m ms (ne_eqb m.sender p.place (not_at m apart.0 apart.1 m.sender apart.0 p)))

    takes_there : Fate (length ring) forms os m → times_taker p.member.thread (pairs ms) ≡ times_receiving p.place ms
        → times_taker p.member.thread (pairs (m ∷ ms)) ≡ times_receiving p.place (m ∷ ms)
    takes_there (inl h) rest = ap (times_taker p.member.thread) (more_pairs os m h ms) ∙ takes_here h (same_or_other m.receiver p.place) rest
    takes_there (inr apart) rest =
        ap (times_taker p.member.thread) (no_more_pairs m apart.0 apart.1 ms) ∙ rest
        ∙ sym (count_miss (λ (x : Meeting). x.receiver == p.place) m ms (ne_eqb m.receiver p.place (not_at m apart.0 apart.1 m.receiver apart.1 p)))

  pub gives_count : (os : List Outcome) (ms : List Meeting) (p : FormMember ring s members) → Fates (length ring) forms os ms
      → times_giver p.member.thread (pairs ms) ≡ times_sending p.place ms
  gives_count os [] p fates = refl
  gives_count os (m ∷ ms) p fates = gives_there os m ms p fates.0 (gives_count os ms p fates.1)

  pub takes_count : (os : List Outcome) (ms : List Meeting) (p : FormMember ring s members) → Fates (length ring) forms os ms
      → times_taker p.member.thread (pairs ms) ≡ times_receiving p.place ms
  takes_count os [] p fates = refl
  takes_count os (m ∷ ms) p fates = takes_there os m ms p fates.0 (takes_count os ms p fates.1)

  -- ---- each pair

  here_or_later : (os : List Outcome) (first : Handed) (rest : List Handed) (k : ℕ) (h : Handed) → IsPair ring s members os first
      → ((j : ℕ) → slice_get rest j ≡ Some h → IsPair ring s members os h) → slice_get (first ∷ rest) k ≡ Some h → IsPair ring s members os h
  here_or_later os first rest zero h one later at = let same : first ≡ h = cc in subst (IsPair ring s members os) same one
  here_or_later os first rest (suc k) h one later at = later k at

  pair_from : (os : List Outcome) (ms : List Meeting) (h : Handed) (k : ℕ) → Fates (length ring) forms os ms → slice_get (pairs ms) k ≡ Some h → IsPair ring s members os h
  pair_from os [] h k fates at = absurd cc
  pair_from os (m ∷ ms) h k fates at = by_fate fates.0 (λ j. pair_from os ms h j fates.1)
    where
      by_fate : Fate (length ring) forms os m → ((j : ℕ) → slice_get (pairs ms) j ≡ Some h → IsPair ring s members os h) → IsPair ring s members os h
      by_fate (inl t) later =
          here_or_later os (pair os m t) (pairs ms) k h (one_pair os m t) later (ap (λ (hs : List Handed). slice_get hs k) (sym (more_pairs os m t ms)) ∙ at)
      by_fate (inr apart) later = later k (ap (λ (hs : List Handed). slice_get hs k) (sym (no_more_pairs m apart.0 apart.1 ms)) ∙ at)

  module _ (os : List Outcome) (ms : List Meeting) (fates : Fates (length ring) forms os ms) where
    pub nobody_else : NobodyElse ring s members (pairs ms)
    nobody_else k h at =
        let q = pair_from os ms h k fates at in
        record { giver = q.giver; taker = q.taker; gives = ap (λ (x : Handed). x.giver) q.pair; takes = ap (λ (x : Handed). x.taker) q.pair }

    -- the pair's own form members are those that a reader finds in it
    its_giver : (h : Handed) (q : IsPair ring s members os h) (b : StandsBetween ring s members h) → (q.giver.place ≡ b.giver.place) × (q.giver.form ≡ b.giver.form)
    its_giver h q b = same_party q.giver b.giver (sym (ap (λ (x : Handed). x.giver) q.pair) ∙ b.gives)

    its_taker : (h : Handed) (q : IsPair ring s members os h) (b : StandsBetween ring s members h) → (q.taker.place ≡ b.taker.place) × (q.taker.form ≡ b.taker.form)
    its_taker h q b = same_party q.taker b.taker (sym (ap (λ (x : Handed). x.taker) q.pair) ∙ b.takes)

    pub go_round : GoRound ring s members (pairs ms)
    go_round k h at b =
        let q = pair_from os ms h k fates at in
        let next = comes_after (length ring) (role_of q.taker.form) (role_of q.giver.form) cast.is_ring.some q.taker.is_form.within q.follows in
        sym (ap role_of (its_taker h q b).1) ∙ next ∙ ap (λ (f : Form). role_after (length ring) (role_of f)) (its_giver h q b).1

    pub are_given : AreGiven ring s members os (pairs ms)
    are_given k h at b =
        let q = pair_from os ms h k fates at in
        let giver = (its_giver h q b).1 in
        let taker = its_taker h q b in
        ap (slice_get os) (sym taker.0) ∙ q.comes_to ∙ (λ i. Some (outcome_by (taker.1 i) (offer_of (giver i))))
