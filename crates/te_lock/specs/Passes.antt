-- What is kept of a pass between two calls.
use Rattle.std.specs.Prelude.{◌≡◌, ◌<◌, ◌≤◌, ℕ, Bool, true, false, List, [], ◌∷◌, length, Option, None}
use Rattle.atomic_table.specs.Table.{Me}
use Rattle.atomic_table.specs.Seated.{TableId}
use Rattle.te_lock.specs.declared.view.View.{View}
use Rattle.te_lock.specs.declared.view.Role.TheVariants.{Caller, Note}
use Rattle.te_lock.specs.Lock.{Knowledge, Noted}

-- the slots that a pass has: the lock's one, empty, while it has the turn, and else none
abbrev pub slots_of : {V : Type 0} → Bool → List (ℕ × Option V)
slots_of true = (0, None) ∷ []
slots_of false = []

module _ {E : Type 0} where
  -- what contracts see of a pass with this view
  abbrev pub knowledge : TableId → ℕ → View E → Knowledge E
  knowledge table caller v = record {
    lock = record { table = table; callers = v.callers };
    caller = caller;
    read = v.read;
    front = v.front;
    own = v.own;
    looks = v.looks;
    known = v.known;
    has_turn = v.has_turn;
  }

  -- the view is that of this caller; the pass has the slot exactly while it has the turn; what it read meets the law
  pub record IsPassAt {V : Type 0} (lawful : ℕ → List E → Type 0) (caller : ℕ) (me : Me (Option V) (View E)) : Type 0 where
    pub role : me.0.role ≡ Caller caller
    pub alone : me.0.closed ≡ []
    pub slots : me.1 ≡ slots_of me.0.has_turn
    pub law : lawful me.0.callers me.0.read
    pub below : caller < me.0.callers
    pub behind : length me.0.read ≤ me.0.front

  -- what contracts see of a note with this view
  abbrev pub noted_of : TableId → View E → Noted E
  noted_of table v = record { lock = record { table = table; callers = v.callers }; read = v.read; front = v.front; known = v.known }

  -- the view is a note's; it has neither slot nor turn; what it read meets the law
  pub record IsNoteAt {V : Type 0} (lawful : ℕ → List E → Type 0) (me : Me (Option V) (View E)) : Type 0 where
    pub role : me.0.role ≡ Note
    pub alone : me.0.closed ≡ []
    pub idle : me.0.has_turn ≡ false
    pub slots : me.1 ≡ []
    pub law : lawful me.0.callers me.0.read
    pub behind : length me.0.read ≤ me.0.front
