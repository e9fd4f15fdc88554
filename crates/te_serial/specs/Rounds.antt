-- Histories in serial rounds. This project's own.
use Rattle.std.specs.Prelude.{◌≡◌, ◌≢◌, ℕ, suc, List, [], ◌∷◌, ◌++◌, ◌⊎◌}
use Rattle.std.specs.List.{AllByRecursion, flat_map}
use Rattle.te_terms.specs.declared.event.Parked.{Parked}
use Rattle.te_terms.specs.Joint.{CanCommit}
use Rattle.te_cert.specs.declared.cert.Member.{Member}
use Rattle.te_history.specs.declared.status.How.TheVariants as ways
use Rattle.te_history.specs.declared.entry.Entry.{Entry}
use Rattle.te_history.specs.declared.entry.Entry.TheVariants as entries
use Rattle.te_history.specs.State.{Standing, idle, State, state, parked_list}
use Rattle.te_history.specs.Follows.{IsParkedOrEnded}
use Rattle.te_report.specs.Whole.{IsWhole}

-- ---- openings: each idle caller posts or ends, in thread order

abbrev pub OpensBy : ℕ → Entry → Type 0
OpensBy t (entries.Post by ticket event) = by ≡ t
OpensBy t (entries.End by how) = by ≡ t
OpensBy t _ = ⊥

abbrev pub OpensFrom : ℕ → List Standing → List Entry → Type 0
OpensFrom t [] [] = Unit {0}
OpensFrom t [] (e ∷ es) = ⊥
OpensFrom t (idle ∷ cs) [] = ⊥
OpensFrom t (idle ∷ cs) (e ∷ es) = OpensBy t e × OpensFrom (suc t) cs es
OpensFrom t (_ ∷ cs) es = OpensFrom (suc t) cs es

-- ---- blocks: a commit by its lowest member, and the takes of its members in thread order

abbrev pub TakesBy : ℕ → Entry → Type 0
TakesBy t (entries.Take by ticket outcome) = by ≡ t
TakesBy t _ = ⊥

abbrev pub TakesOf : List Member → List Entry → Type 0
TakesOf [] [] = Unit {0}
TakesOf (m ∷ ms) (e ∷ es) = TakesBy m.thread e × TakesOf ms es
TakesOf _ _ = ⊥

abbrev pub IsLowestOf : List Member → ℕ → Type 0
IsLowestOf [] by = ⊥
IsLowestOf (m ∷ ms) by = by ≡ m.thread

abbrev pub IsBlock : List Entry → Type 0
IsBlock (entries.Commit by cert outcomes ∷ takes) = IsLowestOf cert.members by × TakesOf cert.members takes
IsBlock _ = ⊥

-- ---- closing: a stuck by the lowest parked caller and the ends of the parked callers, exactly where it is due

-- every caller is parked or ended, and at least one is parked
pub record IsStuckDue (s : State) : Type 0 where
  pub settled : AllByRecursion IsParkedOrEnded s.callers
  pub some_parked : parked_list s ≢ []

abbrev pub IsLowestParked : List Parked → ℕ → Type 0
IsLowestParked [] by = ⊥
IsLowestParked (p ∷ ps) by = by ≡ p.thread

abbrev pub EndsStuck : ℕ → Entry → Type 0
EndsStuck t (entries.End by ways.Stuck) = by ≡ t
EndsStuck t _ = ⊥

abbrev pub EndsOf : List Parked → List Entry → Type 0
EndsOf [] [] = Unit {0}
EndsOf (p ∷ ps) (e ∷ es) = EndsStuck p.thread e × EndsOf ps es
EndsOf _ _ = ⊥

abbrev pub IsStuckAndEnds : State → List Entry → Type 0
IsStuckAndEnds s (entries.Stuck by ∷ ends) = IsLowestParked (parked_list s) by × EndsOf (parked_list s) ends
IsStuckAndEnds s _ = ⊥

abbrev pub ClosesSo : State → List Entry → Type 0
ClosesSo s closing = IsStuckDue s × IsStuckAndEnds s closing ⊎ (¬ IsStuckDue s) × (closing ≡ [])

-- ---- rounds

pub record Round : Type 0 where
  pub openings : List Entry
  pub blocks : List (List Entry)
  pub closing : List Entry

abbrev pub before_closing : Round → List Entry
before_closing r = r.openings ++ flat_map (λ block. block) r.blocks

abbrev pub entries_of : Round → List Entry
entries_of r = before_closing r ++ r.closing

-- after the last block the parked list can't commit
pub record IsRound (callers : ℕ) (before : List Entry) (r : Round) : Type 0 where
  pub opens : OpensFrom 0 (state callers before).callers r.openings
  pub blocks : AllByRecursion IsBlock r.blocks
  pub none_left : ¬ CanCommit (parked_list (state callers (before ++ before_closing r)))
  pub closes : ClosesSo (state callers (before ++ before_closing r)) r.closing

-- rounds repeat until every caller has ended
abbrev pub AreRounds : ℕ → List Entry → List Round → Type 0
AreRounds callers before [] = IsWhole callers before
AreRounds callers before (r ∷ rs) = IsRound callers before r × AreRounds callers (before ++ entries_of r) rs

pub record IsInRounds (callers : ℕ) (history : List Entry) : Type 0 where
  pub rounds : List Round
  pub parts : flat_map entries_of rounds ≡ history
  pub are_rounds : AreRounds callers [] rounds
