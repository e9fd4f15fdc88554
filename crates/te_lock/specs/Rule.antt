-- The rule that every step at the lock's table keeps, and the steps by name.
-- The table has one word, which is twice the length of the history, plus 1 while the turn is held, and one slot, which has
-- the value. A view changes only at a step on the word.
-- There are ten kinds of step:
--     a load without the turn               Looks
--     a load that changes nothing           Confirms
--     a fetch_or of 1 at an even word       Takes
--     a fetch_or of 1 at an odd word        FindsHeld
--     an exchange that empties the slot     Empties
--     an exchange that fills it             Fills
--     the swap that gives the turn back     Released, which asks Ready
--     a pass is made                        counted, next_pass
--     a note is made                        noted
--     two views are joined                  joined, spent
use Rattle.std.specs.Prelude.{◌≡◌, ◌≢◌, ◌⊎◌, ℕ, ◌+◌, ◌*◌, ◌/◌, ◌%◌, ◌<◌, ◌≤◌, Bool, true, false, List, [], ◌∷◌, ◌++◌, length, drop, max, All, Contains, Option, Some, None}
use mathlib.Core.Option.{none, some}
use mathlib.Core.List.{IsPrefix}
use lib.ListN.{get_elem?}
use Rattle.atomic_table.specs.Table.{State, Me}
use Rattle.te_lock.specs.declared.view.View.{View}
use Rattle.te_lock.specs.declared.view.Role.{Role}
use Rattle.te_lock.specs.declared.view.Role.TheVariants.{Maker, Caller, Note, Spent}
use Rattle.te_lock.specs.Entries.{entries_by, GoesOnBy, longer}

module _ {E : Type 0} where
  -- the caller number is closed in the view
  abbrev pub Closes : ℕ → View E → Type 0
  Closes caller v = (own : List E) × Contains v.closed (caller, own)

  -- the caller number stands in the view: it is the view's own, or closed in it
  abbrev pub Stands : ℕ → View E → Type 0
  Stands caller v = (v.role ≡ Caller caller) ⊎ Closes caller v

  -- exactly one view is the maker's, and it counts the passes that were made
  pub record HasMaker (count : ℕ) (views : List (View E)) : Type 0 where
    pub seat : ℕ
    pub maker : View E
    pub there : get_elem? views seat ≡ some maker
    pub role : maker.role ≡ Maker count
    pub alone : (i n : ℕ) (v : View E) → get_elem? views i ≡ some v → v.role ≡ Maker n → i ≡ seat

  -- exactly one view has the turn, and it has read the whole history
  pub record HasHolder (log : List E) (views : List (View E)) : Type 0 where
    pub seat : ℕ
    pub holder : View E
    pub there : get_elem? views seat ≡ some holder
    pub holds : holder.has_turn ≡ true
    pub whole : holder.read ≡ log
    pub alone : (i : ℕ) (v : View E) → get_elem? views i ≡ some v → v.has_turn ≡ true → i ≡ seat

  -- each caller number below the count stands in exactly one view
  pub record StandOnce (count : ℕ) (views : List (View E)) : Type 0 where
    pub each : (k : ℕ) → k < count → (i : ℕ) × (v : View E) × (get_elem? views i ≡ some v) × Stands k v
    pub once : (k i j : ℕ) (v u : View E) → get_elem? views i ≡ some v → get_elem? views j ≡ some u → Stands k v → Stands k u → i ≡ j

  -- what a view says of the history is so: what it read and each list that it knows begin it; it saw no longer one; the
  -- entries that it has of a caller are all that the caller has there
  pub record Sees (author : E → ℕ) (log : List E) (v : View E) : Type 0 where
    pub read : IsPrefix v.read log
    pub known : All (λ list. IsPrefix list log) v.known
    pub front : v.front ≤ length log
    pub own : (k : ℕ) → v.role ≡ Caller k → v.own ≡ entries_by author k log
    pub closed : All (λ c. c.1 ≡ entries_by author c.0 log) v.closed

  -- a view is so: it sees the history, of which no look found a longer one; its callers were made; it has the lock's number
  -- of callers; only a caller's view has the turn, or closed numbers
  pub record IsSo (author : E → ℕ) (callers count : ℕ) (log : List E) (v : View E) : Type 0 where
    pub sees : Sees author log v
    pub behind : length v.read ≤ v.front
    pub looks : All (λ word. word / 2 ≤ length log) v.looks
    pub made : (k : ℕ) → Stands k v → k < count
    pub number : v.role ≢ Spent → v.callers ≡ callers
    pub turn : v.has_turn ≡ true → (k : ℕ) × (v.role ≡ Caller k)
    pub closer : (k : ℕ) → Closes k v → (n : ℕ) × (v.role ≡ Caller n)

module _ {V E : Type 0} (entries : V → List E) (members : V → ℕ) where
  -- the word is even: nobody has the turn, and the slot is at home with a value whose list is the history
  pub record IsFree (callers : ℕ) (log : List E) (s : State (Option V) (View E)) : Type 0 where
    pub value : V
    pub word : s.words ≡ (2 * length log) ∷ []
    pub home : s.homes ≡ some (Some value) ∷ []
    pub list : entries value ≡ log
    pub number : members value ≡ callers
    pub nobody : (i : ℕ) (v : View E) → get_elem? s.views i ≡ some v → v.has_turn ≡ false

-- the word is odd: exactly one view has the turn, the slot is away, and the history is what that view has read
pub record IsHeld {V E : Type 0} (log : List E) (s : State (Option V) (View E)) : Type 0 where
  pub word : s.words ≡ (2 * length log + 1) ∷ []
  pub away : s.homes ≡ none ∷ []
  pub one : HasHolder log s.views

module _ {V E : Type 0} (entries : V → List E) (members : V → ℕ) (author : E → ℕ) (lawful : ℕ → List E → Type 0) where
  -- the rule: there is one lawful history, of callers that were made; the turn is free or held; every view is so
  pub record IsKept (callers : ℕ) (s : State (Option V) (View E)) : Type 0 where
    pub log : List E
    pub count : ℕ
    pub most : count ≤ callers
    pub law : lawful callers log
    pub turn : IsFree entries members callers log s ⊎ IsHeld log s
    pub maker : HasMaker count s.views
    pub numbers : StandOnce count s.views
    pub views : (i : ℕ) (v : View E) → get_elem? s.views i ≡ some v → IsSo author callers count log v
    pub unmade : (k : ℕ) → count ≤ k → entries_by author k log ≡ []

module _ {E : Type 0} where
  -- the maker's view, when it has made so many passes
  abbrev pub maker_of : ℕ → ℕ → View E
  maker_of count callers = record { role = Maker count; callers = callers; read = []; front = 0; own = []; looks = []; known = []; closed = []; has_turn = false }

  -- the view after the turn was taken, at a value of this list
  abbrev pub taken : List E → View E → View E
  taken list v = record v { read = list; front = length list; looks = v.looks ++ (2 * length list) ∷ []; has_turn = true }

  -- the view, which has not the turn, after it found this word
  abbrev pub looked : ℕ → View E → View E
  looked found v = record v { front = found / 2; looks = v.looks ++ found ∷ [] }

  -- the view after the turn was given back, with a value of this list
  abbrev pub released : List E → View E → View E
  released list v = record v { read = list; front = length list; own = v.own ++ drop (length v.read) list; has_turn = false }

-- an even word was found: the seat has the turn and the slot, and the value has all that was seen
pub record TakesTurn {V E : Type 0} (entries : V → List E) (members : V → ℕ) (author : E → ℕ) (lawful : ℕ → List E → Type 0)
    (me : Me (Option V) (View E)) (found : ℕ) (after : Me (Option V) (View E)) : Type 0 where
  pub value : V
  pub word : found ≡ 2 * length (entries value)
  pub slot : after.1 ≡ (0, Some value) ∷ me.1
  pub view : after.0 ≡ taken (entries value) me.0
  pub number : members value ≡ me.0.callers
  pub law : lawful me.0.callers (entries value)
  pub sees : Sees author (entries value) me.0
  pub looks : All (λ word. word / 2 ≤ length (entries value)) me.0.looks
  pub unmade : (k : ℕ) → me.0.callers ≤ k → entries_by author k (entries value) ≡ []

-- a seat without the turn looks at the word: half of it is no less than all that was seen
pub record Looks {V E : Type 0} (me : Me (Option V) (View E)) (found : ℕ) (after : Me (Option V) (View E)) : Type 0 where
  pub same : after ≡ (looked found me.0, me.1)
  pub reaches : me.0.front ≤ found / 2
  pub looks : All (λ word. word / 2 ≤ found / 2) me.0.looks

-- a seat looks at the word, and its view stays: where it has the turn, it has read all that it knows of the history
pub record Confirms {V E : Type 0} (me after : Me (Option V) (View E)) : Type 0 where
  pub same : after ≡ me
  pub whole : me.0.has_turn ≡ true → All (λ list. IsPrefix list me.0.read) me.0.known

module _ {V E : Type 0} where
  -- an odd word was found, and nothing is taken
  abbrev pub FindsHeld : Me (Option V) (View E) → ℕ → Me (Option V) (View E) → Type 0
  FindsHeld me found after = (found % 2 ≡ 1) × Looks me found after

  -- the seat asks for the turn, by setting the word's lowest bit
  abbrev pub Asked : (V → List E) → (V → ℕ) → (E → ℕ) → (ℕ → List E → Type 0) → Me (Option V) (View E) → ℕ → Me (Option V) (View E) → Type 0
  Asked entries members author lawful me found after = TakesTurn entries members author lawful me found after ⊎ FindsHeld me found after

  -- the slot that the seat has gives its value, and is empty
  abbrev pub Empties : Me (Option V) (View E) → V → Me (Option V) (View E) → Type 0
  Empties me value after = (me.1 ≡ (0, Some value) ∷ []) × (after ≡ (me.0, (0, None) ∷ []))

  -- the slot that the seat has takes a value
  abbrev pub Fills : Me (Option V) (View E) → V → Me (Option V) (View E) → Type 0
  Fills me value after = (me.1 ≡ (0, None) ∷ []) × (after ≡ (me.0, (0, Some value) ∷ []))

  -- the word becomes twice the length of the slot's list, the slot goes home, and the new entries are the seat's own
  abbrev pub Released : (V → List E) → Me (Option V) (View E) → Me (Option V) (View E) → Type 0
  Released entries me after = (value : V) × (me.1 ≡ (0, Some value) ∷ []) × (after ≡ (released (entries value) me.0, []))

-- the seat may give the turn back with the value in its slot: the value has the lock's number of callers, its list is lawful
-- and goes on by this caller's entries alone, and the word is twice its length
pub record Ready {V E : Type 0} (entries : V → List E) (members : V → ℕ) (author : E → ℕ) (lawful : ℕ → List E → Type 0)
    (me : Me (Option V) (View E)) (word : ℕ) : Type 0 where
  pub value : V
  pub caller : ℕ
  pub role : me.0.role ≡ Caller caller
  pub alone : me.0.closed ≡ []
  pub slot : me.1 ≡ (0, Some value) ∷ []
  pub number : members value ≡ me.0.callers
  pub law : lawful me.0.callers (entries value)
  pub goes : GoesOnBy author caller me.0.read (entries value)
  pub twice : word ≡ 2 * length (entries value)

-- the maker counts one pass more
abbrev pub count_up : Role → Role
count_up (Maker n) = Maker (n + 1)
count_up (Caller k) = Caller k
count_up Note = Note
count_up Spent = Spent

-- the next pass has the number that the maker counted to
abbrev pub next_role : Role → Role
next_role (Maker n) = Caller n
next_role (Caller k) = Spent
next_role Note = Spent
next_role Spent = Spent

-- the numbers of a joined view, each with its own entries
abbrev pub closes_of : {E : Type 0} → Role → List E → List (ℕ × List E) → List (ℕ × List E)
closes_of (Caller k) own closed = (k, own) ∷ closed
closes_of (Maker n) own closed = closed
closes_of Note own closed = closed
closes_of Spent own closed = closed

module _ {E : Type 0} where
  -- the maker's view after it made a pass
  abbrev pub counted : View E → View E
  counted v = record v { role = count_up v.role }

  -- the view of the pass that the maker makes next
  abbrev pub next_pass : View E → View E
  next_pass v = record { role = next_role v.role; callers = v.callers; read = []; front = 0; own = []; looks = []; known = []; closed = []; has_turn = false }

  -- the view of a new note
  abbrev pub noted : View E → View E
  noted v = record v { role = Note; own = []; looks = []; closed = []; has_turn = false }

  -- what is read after a join: who has the turn has read the whole history, and else it is the longer list
  abbrev pub read_after : Bool → List E → List E → List E
  read_after true xs ys = xs
  read_after false xs ys = longer xs ys

  -- the view after it took in the other
  abbrev pub joined : View E → View E → View E
  joined v u = record v {
    read = read_after v.has_turn v.read u.read;
    front = max v.front u.front;
    known = (v.known ++ u.known) ++ v.read ∷ u.read ∷ [];
    closed = v.closed ++ closes_of u.role u.own u.closed;
  }

  -- the view that was taken in
  abbrev pub spent : View E
  spent = record { role = Spent; callers = 0; read = []; front = 0; own = []; looks = []; known = []; closed = []; has_turn = false }
