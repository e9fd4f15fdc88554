-- The group that a joined past leads to. No public clause cites this module.
use Rattle.std.specs.Prelude.{◌≡◌, ◌<◌, ℕ, List, [], ◌∷◌, ◌++◌, map, take, Bool, true, cond, Option, Some, None, is_some, slice_get}
use Rattle.te_terms.specs.declared.event.Outcome.{Outcome}
use Rattle.te_terms.specs.declared.event.Parked.{Parked}
use Rattle.te_terms.specs.Steps as steps
use Rattle.te_terms.specs.Steps.{outcome_of}
use Rattle.te_terms.specs.Joint.{Label, choice, meeting}
use Rattle.te_cert.specs.declared.cert.Member.{Member}
use Rattle.te_cert.specs.declared.cert.Meeting.{Meeting}
use Rattle.te_cert.specs.Certs.{letters_of, place_of, meetings_of}
use Rattle.te_trail.specs.declared.moves.Move.{Move}
use Rattle.te_trail.specs.Trails.{label_of}
use Rattle.te_trail.specs.Paths.{Path, move_of}
use Rattle.te_trail.specs.States.{path_state}
use Rattle.te_trail.specs.Stores.{Holds, IsStore, labels_of, any_rests_on}
use Rattle.te_search.specs.Groups.{IsFinal}
use Rattle.te_search.specs.Searching.{AreUp}
use Rattle.te_search.specs.Assemblies.{joint, NamesPaths, Numbers, IsOfThreads, Crew, Reaches}
use Rattle.te_search.specs.declared.certifying.Gathered.{Gathered}
use Rattle.te_search.specs.Works.{threads_of}
use Rattle.te_search.specs.Plantings.{has_number}

-- agreeing final paths, one for each thread of their joined past, which the numbers name
pub record Picks (g : List steps.Member) (paths : List Path) (threads : List ℕ) (joined : List (Option ℕ)) (ps : List Path) : Type 0 where
  pub store : IsStore g paths
  pub ups : AreUp paths
  pub crew : Crew g (Holds paths) (IsFinal g) ps
  pub names : NamesPaths paths threads (joint ps) joined
  pub listed : IsOfThreads threads (joint ps)
  pub all : (t : ℕ) (x : Path) → joint ps t ≡ Some x → Holds ps x
  pub start : Path
  pub reached : Reaches start ps

-- whether the joined past has a path of the thread
abbrev pub touched : List Path → ℕ → Bool
touched ps t = is_some (joint ps t)

-- ---- what is told

-- the number that is named for the thread
abbrev pub TellsNamed : List ℕ → List (Option ℕ) → ℕ → Option ℕ → Type 0
TellsNamed threads joined t answer = (paths ps : List Path) → NamesPaths paths threads (joint ps) joined → IsOfThreads threads (joint ps) → Numbers paths (joint ps t) answer

abbrev pub IsAmongNumbers : List (Option ℕ) → Option ℕ → Type 0
IsAmongNumbers joined answer = (m : ℕ) → answer ≡ Some m → (i : ℕ) × (slice_get joined i ≡ Some (Some m))

-- whether the joined past has the move of path k
abbrev pub TellsHad : List steps.Member → List Path → List ℕ → List (Option ℕ) → ℕ → Bool → Type 0
TellsHad g paths threads joined k answer = (ps : List Path) (x : Path) → Picks g paths threads joined ps → slice_get paths k ≡ Some x → answer ≡ any_rests_on ps (move_of x)

-- the choices and meetings of the joined past
abbrev pub IsJointTrail : List steps.Member → List Path → List ℕ → List (Option ℕ) → List Move → Type 0
IsJointTrail g paths threads joined word = (ps : List Path) → Picks g paths threads joined ps → map label_of word ≡ labels_of (any_rests_on ps) paths

-- no path below the number has a choice or a meeting of the joined past
abbrev pub HasNoneBelow : List steps.Member → List Path → List ℕ → List (Option ℕ) → ℕ → Type 0
HasNoneBelow g paths threads joined n = (ps : List Path) → Picks g paths threads joined ps → labels_of (any_rests_on ps) (take n paths) ≡ []

-- both ends of each meeting are among these threads
abbrev pub AreMeetingsOf : List ℕ → List Label → Type 0
AreMeetingsOf names [] = Unit {0}
AreMeetingsOf names (choice t left ∷ word) = AreMeetingsOf names word
AreMeetingsOf names (meeting s r ∷ word) = (has_number names s ≡ true) × (has_number names r ≡ true) × AreMeetingsOf names word

-- ---- members

-- the members of the side, with their letters
abbrev pub members_by : (ℕ → Bool) → List Label → List Parked → List Member
members_by side word [] = []
members_by side word (p ∷ parked) = cond (side p.thread) (record { thread = p.thread; ticket = p.ticket; choices = letters_of p.thread word } ∷ members_by side word parked)
    (members_by side word parked)

-- the thread ends so
pub record EndsAt (g : List steps.Member) (ps : List Path) (t : ℕ) (o : Outcome) : Type 0 where
  pub path : Path
  pub named : joint ps t ≡ Some path
  pub member : steps.Member
  pub state : path_state g path ≡ Some member
  pub ends : outcome_of member.term ≡ Some o

abbrev pub EndSo : List steps.Member → List Path → List ℕ → List Outcome → Type 0
EndSo g ps [] [] = Unit {0}
EndSo g ps (t ∷ ts) (o ∷ os) = EndsAt g ps t o × EndSo g ps ts os
EndSo g ps _ _ = ⊥

abbrev pub thread_of_member : Member → ℕ
thread_of_member m = m.thread

-- the members of the joined past among these events, their threads and their outcomes
pub record AreMembers (g : List steps.Member) (ps : List Path) (word : List Label) (parked : List Parked) (members : List Member) (names : List ℕ) (outcomes : List Outcome) : Type 0 where
  pub are : members ≡ members_by (touched ps) word parked
  pub names_are : names ≡ map thread_of_member members
  pub end_so : EndSo g ps names outcomes

-- the members of the joined past among these events were gathered
abbrev pub AreGathered : List steps.Member → List Path → List ℕ → List (Option ℕ) → List Label → List Parked → Gathered → Type 0
AreGathered g paths threads joined word parked to = (ps : List Path) → Picks g paths threads joined ps → AreMembers g ps word parked to.members to.names.items to.outcomes

-- one event more was looked at
abbrev pub TakesMember : List steps.Member → List Path → List ℕ → List (Option ℕ) → List Label → Parked → Gathered → Gathered → Type 0
TakesMember g paths threads joined word p old new = (parked : List Parked) → AreGathered g paths threads joined word parked old → AreGathered g paths threads joined word (parked ++ (p ∷ [])) new

-- ---- meetings by places

abbrev pub RiseAbove : ℕ → List ℕ → Type 0
RiseAbove low [] = Unit {0}
RiseAbove low (n ∷ ns) = (low < n) × RiseAbove n ns

abbrev pub NumbersRise : List ℕ → Type 0
NumbersRise [] = Unit {0}
NumbersRise (n ∷ ns) = RiseAbove n ns

-- the place of the thread in a group of these threads
abbrev pub IsPlaceAmong : List ℕ → ℕ → ℕ → Type 0
IsPlaceAmong names t i = (group : List steps.Member) → names ≡ threads_of group → i ≡ place_of t group

abbrev pub AreMeets : List ℕ → List Label → List Meeting → Type 0
AreMeets names word meets = (group : List steps.Member) → names ≡ threads_of group → meets ≡ meetings_of group word

-- what one choice or meeting adds
abbrev pub TellsLetter : ℕ → Label → Option Bool → Type 0
TellsLetter t l None = letters_of t (l ∷ []) ≡ []
TellsLetter t l (Some left) = letters_of t (l ∷ []) ≡ left ∷ []

abbrev pub TellsMeeting : List ℕ → Label → Option Meeting → Type 0
TellsMeeting names l None = (group : List steps.Member) → meetings_of group (l ∷ []) ≡ []
TellsMeeting names l (Some m) = (group : List steps.Member) → names ≡ threads_of group → meetings_of group (l ∷ []) ≡ m ∷ []
