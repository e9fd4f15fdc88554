-- The members of a side, as parked events, as a group and in a certificate.
use Rattle.std.proofs.Common.{◌≡◌, ◌<◌, inl, inr, ℕ, zero, suc, List, [], ◌∷◌, map, Bool}
use Rattle.std.proofs.Common.{true, false, cond, ◌||◌, Some, slice_get, refl, ap, ap₂, sym, ◌∙◌, arith, nat_eq, eq-eqb}
use Rattle.te_terms.specs.declared.event.Parked.{Parked}
use Rattle.te_terms.specs.Terms.{Term}
use Rattle.te_terms.specs.Steps as steps
use Rattle.te_terms.specs.Joint.{Label, RiseFrom, IsGroup, member_of, part, as_member, as_group}
use Rattle.te_cert.specs.declared.cert.Member.{Member}
use Rattle.te_cert.specs.Certs.{letters_of, choices_of}
use Rattle.te_cert.specs.Checks.{RiseAfter, ThreadsRise, group_of}
use Rattle.te_search.specs.Works.{threads_of}
use Rattle.te_search.specs.Findings.{ArePlacedIn}
use Rattle.te_search.specs.Plantings.{has_number}
use Rattle.te_search.specs.Picks.{members_by, thread_of_member}

-- the events of the side
abbrev pub events_by : (ℕ → Bool) → List Parked → List Term
events_by side [] = []
events_by side (p ∷ parked) = cond (side p.thread) (p.event ∷ events_by side parked) (events_by side parked)

-- the members with these events are the part of the group
pub group_by : (side : ℕ → Bool) (word : List Label) (parked : List Parked) → group_of (members_by side word parked) (events_by side parked) ≡ part side (as_group parked)
group_by side word [] = refl
group_by side word (p ∷ parked) = go (group_by side word parked) (side p.thread)
  where
    go : group_of (members_by side word parked) (events_by side parked) ≡ part side (as_group parked) → (o : Bool)
        → group_of (cond o (record { thread = p.thread; ticket = p.ticket; choices = letters_of p.thread word } ∷ members_by side word parked) (members_by side word parked))
        (cond o (p.event ∷ events_by side parked) (events_by side parked)) ≡ cond o (as_member p ∷ part side (as_group parked)) (part side (as_group parked))
    go ih true = ap (λ r. as_member p ∷ r) ih
    go ih false = ih

pub choices_by : (side : ℕ → Bool) (word : List Label) (parked : List Parked) → map (λ m. m.choices) (members_by side word parked) ≡ choices_of (part side (as_group parked)) word
choices_by side word [] = refl
choices_by side word (p ∷ parked) = go (choices_by side word parked) (side p.thread)
  where
    go : map (λ m. m.choices) (members_by side word parked) ≡ choices_of (part side (as_group parked)) word → (o : Bool)
        → map (λ m. m.choices) (cond o (record { thread = p.thread; ticket = p.ticket; choices = letters_of p.thread word } ∷ members_by side word parked)
        (members_by side word parked)) ≡ choices_of (cond o (as_member p ∷ part side (as_group parked)) (part side (as_group parked))) word
    go ih true = ap (λ r. letters_of p.thread word ∷ r) ih
    go ih false = ih

pub threads_by : (side : ℕ → Bool) (word : List Label) (parked : List Parked) → map thread_of_member (members_by side word parked) ≡ threads_of (part side (as_group parked))
threads_by side word [] = refl
threads_by side word (p ∷ parked) = go (threads_by side word parked) (side p.thread)
  where
    go : map thread_of_member (members_by side word parked) ≡ threads_of (part side (as_group parked)) → (o : Bool)
        → map thread_of_member (cond o (record { thread = p.thread; ticket = p.ticket; choices = letters_of p.thread word } ∷ members_by side word parked)
        (members_by side word parked)) ≡ threads_of (cond o (as_member p ∷ part side (as_group parked)) (part side (as_group parked)))
    go ih true = ap (λ r. p.thread ∷ r) ih
    go ih false = ih

-- ---- their threads rise

rise_lower : (low high : ℕ) (g : List steps.Member) → low < high → RiseFrom high g → RiseFrom low g
rise_lower low high [] h r = tt
rise_lower low high (m ∷ ms) h r = ((let z : high < m.thread = r.0 in let k : low < m.thread = omega (arith, h, z) in k), r.1)

after_by : (side : ℕ → Bool) (word : List Label) (low : ℕ) (parked : List Parked) → RiseFrom low (as_group parked) → RiseAfter low (members_by side word parked)
after_by side word low [] r = tt
after_by side word low (p ∷ parked) r = go (λ l k. after_by side word l parked k) (side p.thread)
  where
    go : ((l : ℕ) → RiseFrom l (as_group parked) → RiseAfter l (members_by side word parked)) → (o : Bool)
        → RiseAfter low (cond o (record { thread = p.thread; ticket = p.ticket; choices = letters_of p.thread word } ∷ members_by side word parked) (members_by side word parked))
    go ih true = (r.0, ih p.thread r.1)
    go ih false = ih low (rise_lower low p.thread (as_group parked) r.0 r.1)

after_rises : (low : ℕ) (members : List Member) → RiseAfter low members → ThreadsRise members
after_rises low [] r = tt
after_rises low (m ∷ ms) r = r.1

pub rise_by : (side : ℕ → Bool) (word : List Label) (parked : List Parked) → IsGroup (as_group parked) → ThreadsRise (members_by side word parked)
rise_by side word [] r = tt
rise_by side word (p ∷ parked) r = go (side p.thread)
  where
    go : (o : Bool) → ThreadsRise (cond o (record { thread = p.thread; ticket = p.ticket; choices = letters_of p.thread word } ∷ members_by side word parked) (members_by side word parked))
    go true = after_by side word p.thread parked r
    go false = after_rises p.thread (members_by side word parked) (after_by side word p.thread parked r)

rise_part : (side : ℕ → Bool) (low : ℕ) (g : List steps.Member) → RiseFrom low g → RiseFrom low (part side g)
rise_part side low [] r = tt
rise_part side low (m ∷ ms) r = go (λ l k. rise_part side l ms k) (side m.thread)
  where
    go : ((l : ℕ) → RiseFrom l ms → RiseFrom l (part side ms)) → (o : Bool) → RiseFrom low (cond o (m ∷ part side ms) (part side ms))
    go ih true = (r.0, ih m.thread r.1)
    go ih false = ih low (rise_lower low m.thread ms r.0 r.1)

from_group : (low : ℕ) (g : List steps.Member) → RiseFrom low g → IsGroup g
from_group low [] r = tt
from_group low (m ∷ ms) r = r.1

pub group_part : (side : ℕ → Bool) (g : List steps.Member) → IsGroup g → IsGroup (part side g)
group_part side [] r = tt
group_part side (m ∷ ms) r = go (side m.thread)
  where
    go : (o : Bool) → IsGroup (cond o (m ∷ part side ms) (part side ms))
    go true = rise_part side m.thread ms r
    go false = from_group m.thread (part side ms) (rise_part side m.thread ms r)

-- ---- they are parked

placed_more : (q : Parked) (parked : List Parked) (members : List Member) (events : List Term) → ArePlacedIn parked members events → ArePlacedIn (q ∷ parked) members events
placed_more q parked [] [] a = tt
placed_more q parked (m ∷ ms) (e ∷ es) a = (inr a.0, placed_more q parked ms es a.1)
placed_more q parked [] (e ∷ es) a = absurd a
placed_more q parked (m ∷ ms) [] a = absurd a

pub placed_by : (side : ℕ → Bool) (word : List Label) (parked : List Parked) → ArePlacedIn parked (members_by side word parked) (events_by side parked)
placed_by side word [] = tt
placed_by side word (p ∷ parked) = go (placed_more p parked (members_by side word parked) (events_by side parked) (placed_by side word parked)) (side p.thread)
  where
    go : ArePlacedIn (p ∷ parked) (members_by side word parked) (events_by side parked) → (o : Bool)
        → ArePlacedIn (p ∷ parked) (cond o (record { thread = p.thread; ticket = p.ticket; choices = letters_of p.thread word } ∷ members_by side word parked)
        (members_by side word parked)) (cond o (p.event ∷ events_by side parked) (events_by side parked))
    go ih true = (inl (refl, refl, refl), ih)
    go ih false = ih

-- ---- lists of threads

pub part_same : (a b : ℕ → Bool) (g : List steps.Member) → ((t : ℕ) → a t ≡ b t) → part a g ≡ part b g
part_same a b [] h = refl
part_same a b (m ∷ ms) h = ap₂ (λ o r. cond o (m ∷ r) r) (h m.thread) (part_same a b ms h)

pub part_side : (side : ℕ → Bool) (g : List steps.Member) (i : ℕ) (m : steps.Member) → slice_get (part side g) i ≡ Some m → side m.thread ≡ true
part_side side [] i m e = cc
part_side side (n ∷ ns) i m e = go (λ j f. part_side side ns j m f) (side n.thread) refl i e
  where
    go : ((j : ℕ) → slice_get (part side ns) j ≡ Some m → side m.thread ≡ true) → (o : Bool) → side n.thread ≡ o → (i : ℕ)
        → slice_get (cond o (n ∷ part side ns) (part side ns)) i ≡ Some m → side m.thread ≡ true
    go ih true w zero e = (let one : n ≡ m = cc in ap (λ k. side k.thread) (sym one) ∙ w)
    go ih true w (suc i) e = ih i e
    go ih false w i e = ih i e

pub number_in : (ns : List ℕ) (t i : ℕ) → slice_get ns i ≡ Some t → has_number ns t ≡ true
number_in [] t i e = cc
number_in (s ∷ ss) t zero e = (let one : s ≡ t = cc in ap (λ o. o || has_number ss t) (eq-eqb s t one))
number_in (s ∷ ss) t (suc i) e = go (nat_eq s t) (number_in ss t i e)
  where
    go : (o : Bool) → has_number ss t ≡ true → o || has_number ss t ≡ true
    go true h = refl
    go false h = h

pub member_number : (g : List steps.Member) (t : ℕ) (m : steps.Member) → member_of t g ≡ Some m → has_number (threads_of g) t ≡ true
member_number [] t m e = cc
member_number (n ∷ ns) t m e = go (member_number ns t m) (nat_eq n.thread t) e
  where
    go : (member_of t ns ≡ Some m → has_number (threads_of ns) t ≡ true) → (o : Bool) → cond o (Some n) (member_of t ns) ≡ Some m → o || has_number (threads_of ns) t ≡ true
    go ih true e = refl
    go ih false e = ih e

pub number_member : (g : List steps.Member) (t : ℕ) → has_number (threads_of g) t ≡ true → (m : steps.Member) × (member_of t g ≡ Some m)
number_member [] t e = cc
number_member (n ∷ ns) t e = go (number_member ns t) (nat_eq n.thread t) e
  where
    go : (has_number (threads_of ns) t ≡ true → (m : steps.Member) × (member_of t ns ≡ Some m)) → (o : Bool) → o || has_number (threads_of ns) t ≡ true
        → (m : steps.Member) × (cond o (Some n) (member_of t ns) ≡ Some m)
    go ih true e = (n, refl)
    go ih false e = ih e
