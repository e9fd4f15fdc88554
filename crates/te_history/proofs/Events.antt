-- The events of members, and their commits.
use Rattle.std.proofs.Common.{◌≡◌, suc, List, [], ◌∷◌, ◌++◌, length, refl, ap}
use Rattle.te_terms.specs.declared.event.Outcome.{Outcome}
use Rattle.te_terms.specs.Terms.{Term}
use Rattle.te_cert.specs.declared.cert.Member.{Member}
use Rattle.te_cert.specs.Certificates.{Certificate}
use Rattle.te_cert.specs.Checks as checks
use Rattle.te_cert.specs.Lending.{lent_terms}
use Rattle.te_cert.specs.declared.lent.Lent.{Lent}
use Rattle.te_history.specs.State.{parked, State}
use Rattle.te_history.specs.Follows.{Stands, AreEvents, Commits}
use Rattle.te_history.specs.Refusals.{AreParked}

-- ---- one event more

pub parked_more : (s : State) (ms : List Member) (es : List Term) (m : Member) (e : Term) → AreParked s ms es → Stands s m.thread (parked m.ticket e)
    → AreParked s (ms ++ m ∷ []) (es ++ e ∷ [])
parked_more s [] [] m e all here = (here, tt)
parked_more s (n ∷ ns) (f ∷ fs) m e all here = (all.0, parked_more s ns fs m e all.1 here)
parked_more s [] (f ∷ fs) m e all here = absurd all
parked_more s (n ∷ ns) [] m e all here = absurd all

-- there are as many events as members
pub length-parked : (s : State) (ms : List Member) (es : List Term) → AreParked s ms es → length es ≡ length ms
length-parked s [] [] all = refl
length-parked s (m ∷ ms) (e ∷ es) all = ap suc (length-parked s ms es all.1)
length-parked s [] (e ∷ es) all = absurd all
length-parked s (m ∷ ms) [] all = absurd all

-- nor does lending change their number
pub length-lent : (ls : List Lent) → length ls ≡ length (lent_terms ls)
length-lent [] = refl
length-lent (l ∷ ls) = ap suc (length-lent ls)

-- ---- the commit

events_of_group : (s : State) (ms : List Member) (es : List Term) → AreParked s ms es → AreEvents s ms (checks.group_of ms es)
events_of_group s [] [] all = tt
events_of_group s (m ∷ ms) (e ∷ es) all = (refl, all.0, events_of_group s ms es all.1)
events_of_group s [] (e ∷ es) all = absurd all
events_of_group s (m ∷ ms) [] all = absurd all

-- parked members whose play gives these outcomes commit to them
pub commits_by : (s : State) (cert : Certificate) (events : List Term) (outcomes : List Outcome) → checks.HasOrder cert → AreParked s cert.members events
    → checks.Gives cert events outcomes → Commits s cert outcomes
commits_by s cert events outcomes order all gives = record {
  some_member = order.some_member;
  rise = order.rise;
  group = checks.group_of cert.members events;
  events = events_of_group s cert.members events all;
  word = gives.word;
  plays = gives.plays;
}

pub length-group : (s : State) (ms : List Member) (es : List Term) → AreParked s ms es → length (checks.group_of ms es) ≡ length ms
length-group s [] [] all = refl
length-group s (m ∷ ms) (e ∷ es) all = ap suc (length-group s ms es all.1)
length-group s [] (e ∷ es) all = absurd all
length-group s (m ∷ ms) [] all = absurd all
