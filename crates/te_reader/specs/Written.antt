-- Syncs that are read one behind another. Contracts inside this crate cite it.
use Rattle.std.specs.Prelude.{◌≡◌, ℕ, ◌<◌, ◌≤◌, List, [], ◌∷◌, ◌++◌, length, map, Some, None, Result, Ok, Err}
use Rattle.te_terms.specs.declared.code.Node.{Node}
use Rattle.te_terms.specs.Codes.{term_under}
use Rattle.te_script.specs.declared.script.Stmt.{Stmt}
use Rattle.te_script.specs.Scripts.{Statement, sync}
use Rattle.te_script.specs.Texts.{statement_of}
use Rattle.te_reader.specs.declared.refusal.Refusal.{Refusal}
use Rattle.te_reader.specs.declared.refusal.Refusal.TheVariants as faults
use Rattle.te_reader.specs.declared.sync.Draft.{Draft}
use Rattle.te_reader.specs.Tokens.{Token}
use Rattle.te_reader.specs.Lexed.{Stream}
use Rattle.te_reader.specs.Reads.{read_written}

-- the sync of a draft, whose event is a node of this code
abbrev pub draft_of : List Node → Draft → Statement
draft_of code d = sync d.reg (term_under code d.root)

abbrev pub IsDraft : List Node → Draft → Type 0
IsDraft code d = d.root < length code

-- these syncs are read one behind another, and leave these registers and tokens
abbrev pub AreWritten : List (List ℕ) → List (List ℕ) → List Token → List Statement → List (List ℕ) → List Token → Type 0
AreWritten channels registers ts [] last rest = (registers ≡ last) × (ts ≡ rest)
AreWritten channels registers ts (s ∷ ss) last rest =
    (more : List (List ℕ)) × (behind : List Token) × (read_written channels registers ts ≡ Some ((s, more), behind))
    × AreWritten channels more behind ss last rest

-- a sync was read behind the nodes of some code; where none stood before, a refusal says that none is read there
abbrev pub AnswersDraft : Result Draft Refusal → List (List ℕ) → List (List ℕ) → List (List ℕ) → List Node → List Node → Stream → Stream → Type 0
AnswersDraft (Ok d) channels registers more before after old new =
    (read_written channels registers old.tokens ≡ Some ((draft_of after d, more), new.tokens)) × (new.whole ≡ old.whole) × IsDraft after d
AnswersDraft (Err faults.Refused) channels registers more before after old new =
    (more ≡ registers) × (before ≡ [] → read_written channels registers old.tokens ≡ None)
AnswersDraft (Err faults.Memory) channels registers more before after old new = Unit {0}

-- at least one sync was read, and at most so many were
pub record AreDrafts (room : ℕ) (channels registers : List (List ℕ)) (ts : List Token) (code : List Node) (drafts : List Draft) (last : List (List ℕ)) (rest : List Token) : Type 0 where
  pub some : 0 < length drafts
  pub within : length drafts ≤ room
  pub written : AreWritten channels registers ts (map (draft_of code) drafts) last rest

-- at least one sync was appended, and all of them are at most so many
pub record AreSyncsRead (most : ℕ) (channels registers : List (List ℕ)) (ts : List Token) (old new : List Stmt) (last : List (List ℕ)) (rest : List Token) : Type 0 where
  pub first : Statement
  pub others : List Statement
  pub appended : map statement_of new ≡ map statement_of old ++ first ∷ others
  pub within : length new ≤ most
  pub written : AreWritten channels registers ts (first ∷ others) last rest
