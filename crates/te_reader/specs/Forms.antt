-- The grammar as a table: for each part of a script the forms that it may have, each with the role of its first token and
-- the parts that are wanted behind it. It is this project's own.
use Rattle.std.specs.Prelude.{◌≡◌, ℕ, ◌≤◌, true, false, ◌⊎◌, List, [], ◌∷◌, ◌++◌, map, ℤ, pos}
use Rattle.te_reader.specs.declared.token.Word.{Word}
use Rattle.te_reader.specs.declared.token.Word.TheVariants as words
use Rattle.te_reader.specs.declared.token.Sign.{Sign}
use Rattle.te_reader.specs.declared.token.Sign.TheVariants as signs
use Rattle.te_reader.specs.declared.part.Role.{Role}
use Rattle.te_reader.specs.declared.part.Role.TheVariants as roles
use Rattle.te_reader.specs.declared.part.Part.{Part}
use Rattle.te_reader.specs.declared.part.Part.TheVariants as parts
use Rattle.te_reader.specs.Tokens as tokens
use Rattle.te_reader.specs.Integers.{integer_value}
use Rattle.te_reader.specs.Spots.{Spot, token, over}

-- the role of the first token, and what is wanted behind it
pub record Form : Type 0 where
  pub role : Role
  pub wanted : List Part

abbrev pub form : Role → List Part → Form
form r w = record { role = r; wanted = w }

-- the same, with one part more behind it
abbrev pub then_also : Part → Form → Form
then_also p f = record f { wanted = f.wanted ++ p ∷ [] }

-- an event behind the name that it is bound to
abbrev pub bound_event : List Part → List Part
bound_event more = parts.Only (roles.Sign signs.Arrow) ∷ parts.Event ∷ parts.Only roles.PartEnd ∷ more

-- a sync behind its register
abbrev pub sync_behind : List Part → List Part
sync_behind more = parts.Only (roles.Sign signs.Arrow) ∷ parts.Only roles.SyncWord ∷ parts.Event ∷ parts.Only roles.SyncEnd ∷ more

-- a part of a tuple that stands behind an operand
abbrev pub place_of_it : List Part → List Part
place_of_it more = parts.Only (roles.Sign signs.Dot) ∷ parts.Only roles.Place ∷ more

abbrev pub forms_of_threads : List Form
forms_of_threads =
    form roles.ThreadWord (parts.Only roles.ThreadName ∷ parts.Only (roles.Sign signs.OpenBrace) ∷ parts.Statements ∷ parts.Threads ∷ [])
    ∷ form roles.End [] ∷ []

abbrev pub forms_of_events : List Form
forms_of_events =
    form (roles.Leaf words.Always) (parts.Expression ∷ [])
    ∷ form (roles.Leaf words.Never) []
    ∷ form (roles.Leaf words.Throw) (parts.Expression ∷ [])
    ∷ form (roles.Leaf words.Send) (parts.Operand ∷ parts.Expression ∷ [])
    ∷ form (roles.Leaf words.Recv) (parts.Operand ∷ [])
    ∷ form (roles.Chain words.Do) (parts.Only roles.OpenChain ∷ parts.Only roles.PartName ∷ bound_event (parts.Parts ∷ []))
    ∷ form (roles.Chain words.Choose) (parts.Only roles.OpenChain ∷ parts.Event ∷ parts.Only roles.Bar ∷ parts.Event ∷ parts.Bars ∷ [])
    ∷ form roles.Fresh []
    ∷ form (roles.Branch words.Try)
    (parts.Only roles.OpenBranch ∷ parts.Event ∷ parts.Only roles.Close ∷ parts.Only (roles.Word words.Catch)
    ∷ parts.Only roles.CatchName ∷ parts.Only (roles.Sign signs.OpenBrace) ∷ parts.Event ∷ parts.Only roles.Close ∷ [])
    ∷ form (roles.Branch words.If)
    (parts.Operand ∷ parts.Test ∷ parts.Operand ∷ parts.Only roles.OpenBranch ∷ parts.Event ∷ parts.Only roles.Close
    ∷ parts.Only (roles.Word words.Else) ∷ parts.Only roles.OpenBranch ∷ parts.Event ∷ parts.Only roles.Close ∷ [])
    ∷ []

abbrev pub forms_of_calculations : List Form
forms_of_calculations =
    form (roles.Integer true) (parts.Behind ∷ [])
    ∷ form (roles.Channel true) (parts.Behind ∷ [])
    ∷ form (roles.Variable true) (place_of_it (parts.Behind ∷ []))
    ∷ []

abbrev pub forms_behind_calculations : List Form
forms_behind_calculations = form (roles.Sign signs.Comma) (parts.Calculation ∷ []) ∷ form roles.TupleEnd [] ∷ []

-- the forms of a part
abbrev pub forms : Part → List Form
forms parts.Script =
    form (roles.Word words.Channels) (parts.Only roles.ChannelName ∷ parts.Channels ∷ parts.Threads ∷ []) ∷ forms_of_threads
forms parts.Channels = form roles.ChannelName (parts.Channels ∷ []) ∷ form (roles.Sign signs.Semicolon) [] ∷ []
forms parts.Threads = forms_of_threads
forms parts.Statements =
    form roles.Register (sync_behind (parts.Statements ∷ []))
    ∷ form roles.EmitWord (parts.Expression ∷ parts.Only (roles.Sign signs.Semicolon) ∷ parts.Statements ∷ [])
    ∷ form roles.RepeatWord (parts.Only roles.Times ∷ parts.Only (roles.Sign signs.OpenBrace) ∷ parts.Sync ∷ parts.Syncs ∷ parts.Statements ∷ [])
    ∷ form (roles.Sign signs.CloseBrace) [] ∷ []
forms parts.Sync = form roles.Register (sync_behind []) ∷ []
forms parts.Syncs = form roles.Register (sync_behind (parts.Syncs ∷ [])) ∷ form (roles.Sign signs.CloseBrace) [] ∷ []
forms parts.Event = forms_of_events
forms parts.Parts = form roles.PartName (bound_event (parts.Parts ∷ [])) ∷ map (then_also (parts.Only roles.Close)) forms_of_events
forms parts.Bars = form roles.Bar (parts.Event ∷ parts.Bars ∷ []) ∷ form roles.Close [] ∷ []
forms parts.Expression = form roles.Whole [] ∷ form (roles.Sign signs.Open) (parts.Inside ∷ []) ∷ []
forms parts.Inside = form roles.TupleEnd [] ∷ forms_of_calculations
forms parts.Calculation = forms_of_calculations
forms parts.Behind =
    form (roles.Sign signs.Plus) (parts.Operand ∷ parts.Further ∷ [])
    ∷ form (roles.Sign signs.Minus) (parts.Operand ∷ parts.Further ∷ [])
    ∷ form (roles.Sign signs.Star) (parts.Operand ∷ parts.Further ∷ [])
    ∷ forms_behind_calculations
forms parts.Further = forms_behind_calculations
forms parts.Operand =
    form (roles.Integer false) [] ∷ form (roles.Channel false) [] ∷ form (roles.Variable false) (place_of_it []) ∷ []
forms parts.Test = form (roles.Sign signs.Equal) [] ∷ form (roles.Sign signs.Less) [] ∷ []
forms (parts.Only r) = form r [] ∷ []

abbrev pub IsAmong : {A : Type 0} → A → List A → Type 0
IsAmong x [] = ⊥
IsAmong x (y ∷ ys) = (x ≡ y) ⊎ IsAmong x ys

-- these roles, one behind another, make up these parts
abbrev pub MakeUp : List Role → List Part → Type 0
MakeUp [] [] = Unit {0}
MakeUp [] (p ∷ more) = ⊥
MakeUp (r ∷ rs) [] = ⊥
MakeUp (r ∷ rs) (p ∷ more) = (wanted : List Part) × IsAmong (form r wanted) (forms p) × MakeUp rs (wanted ++ more)

-- more roles can follow, with which these make up a script
abbrev pub BeginScript : List Role → Type 0
BeginScript rs = (more : List Role) × MakeUp (rs ++ more) (parts.Script ∷ [])

-- ---- which tokens may have a role

abbrev pub IsNameSpot : Spot → Type 0
IsNameSpot s = (n : List ℕ) × (s.head ≡ token (tokens.name n))

abbrev pub IsInnerName : Spot → Type 0
IsInnerName s = (n : List ℕ) × (s.head ≡ token (tokens.inner n))

abbrev pub IsWord : Spot → Word → Type 0
IsWord s w = s.head ≡ token (tokens.word w)

abbrev pub IsSign : Spot → Sign → Type 0
IsSign s g = s.head ≡ token (tokens.sign g)

-- an INT for which this holds
abbrev pub IsInt : Spot → (ℤ → Type 0) → Type 0
IsInt s fact = (digits : List ℕ) × (s.head ≡ token (tokens.integer digits)) × fact (integer_value digits)

-- a name in the place of an operand is a channel's where no `.` is behind it, else a variable's; an inner name always is
abbrev pub FitsRole : Role → Spot → Type 0
FitsRole (roles.Word w) s = IsWord s w
FitsRole (roles.Sign g) s = IsSign s g
FitsRole roles.ChannelName s = IsNameSpot s
FitsRole roles.ThreadWord s = IsWord s words.Thread
FitsRole roles.ThreadName s = IsNameSpot s
FitsRole roles.Register s = IsNameSpot s
FitsRole roles.EmitWord s = IsWord s words.Emit
FitsRole roles.RepeatWord s = IsWord s words.Repeat
FitsRole roles.Times s = IsInt s (λ z. Unit {0})
FitsRole roles.SyncWord s = IsWord s words.Sync
FitsRole roles.SyncEnd s = IsSign s signs.Semicolon
FitsRole (roles.Leaf w) s = IsWord s w
FitsRole roles.Fresh s = IsWord s words.Fresh
FitsRole (roles.Chain w) s = IsWord s w
FitsRole (roles.Branch w) s = IsWord s w
FitsRole roles.OpenChain s = IsSign s signs.OpenBrace
FitsRole roles.OpenBranch s = IsSign s signs.OpenBrace
FitsRole roles.Close s = IsSign s signs.CloseBrace
FitsRole roles.Bar s = IsSign s signs.Bar
FitsRole roles.PartName s = IsNameSpot s ⊎ IsInnerName s
FitsRole roles.PartEnd s = IsSign s signs.Semicolon
FitsRole roles.CatchName s = IsNameSpot s ⊎ IsInnerName s
FitsRole roles.Whole s = IsNameSpot s ⊎ IsInnerName s
FitsRole (roles.Integer first) s = IsInt s (λ z. Unit {0})
FitsRole (roles.Channel first) s = IsNameSpot s × (s.dotted ≡ false)
FitsRole (roles.Variable first) s = (IsNameSpot s × (s.dotted ≡ true)) ⊎ IsInnerName s
FitsRole roles.Place s = IsInt s (λ z. (d : ℕ) × (z ≡ pos d) × (d ≤ 3))
FitsRole roles.TupleEnd s = IsSign s signs.Close
FitsRole roles.End s = s.head ≡ over
