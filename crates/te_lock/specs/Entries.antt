-- Lists of entries, each made by one caller.
use Rattle.std.specs.Prelude.{◌≡◌, ◌==◌, ℕ, nat_lt, if◌then◌else◌, List, ◌++◌, length, All}
use Rattle.std.specs.List.{filter}

-- the entries of a list that one caller made, in order
abbrev pub entries_by : {E : Type 0} → (E → ℕ) → ℕ → List E → List E
entries_by author caller entries = filter (λ e. author e == caller) entries

-- the longer of two lists, the first where both have one length
abbrev pub longer : {E : Type 0} → List E → List E → List E
longer xs ys = if nat_lt (length xs) (length ys) then ys else xs

-- the list is what was read, and then entries of this caller alone
abbrev pub GoesOnBy : {E : Type 0} → (E → ℕ) → ℕ → List E → List E → Type 0
GoesOnBy {E} author caller read entries = (more : List E) × (entries ≡ read ++ more) × All (λ e. author e ≡ caller) more
