-- What a call does to the bytes that a source still holds, and to those that a sink holds, where they are told.
-- Each relation says something only where the bytes were told before the call.
use Rattle.std.specs.Prelude.{◌≡◌, ◌≤◌, ℕ, List, [], ◌++◌, length, take, drop, Option, Some}

-- no byte is held
abbrev pub HoldsNothing : Option (List ℕ) → Type 0
HoldsNothing told = (bytes : List ℕ) → told ≡ Some bytes → bytes ≡ []

-- what is held is what was held
abbrev pub HoldsSame : Option (List ℕ) → Option (List ℕ) → Type 0
HoldsSame before after = (bytes : List ℕ) → before ≡ Some bytes → after ≡ Some bytes

-- what is held is what was held but for the first few bytes, at most n of them
abbrev pub HoldsRest : ℕ → Option (List ℕ) → Option (List ℕ) → Type 0
HoldsRest n before after = (bytes : List ℕ) → before ≡ Some bytes
    → (k : ℕ) × (k ≤ n) × (after ≡ Some (drop k bytes))

-- the first n bytes were given, all where there are no more, and the others are still held
abbrev pub GaveFirst : ℕ → Option (List ℕ) → Option (List ℕ) → List ℕ → Type 0
GaveFirst n before after given = (bytes : List ℕ) → before ≡ Some bytes
    → (given ≡ take n bytes) × (after ≡ Some (drop n bytes))

-- all bytes were given, and none is held any more
abbrev pub GaveAll : Option (List ℕ) → Option (List ℕ) → List ℕ → Type 0
GaveAll before after given = (bytes : List ℕ) → before ≡ Some bytes → (given ≡ bytes) × (after ≡ Some [])

-- the piece stands behind what was held
abbrev pub GrewBy : Option (List ℕ) → Option (List ℕ) → List ℕ → Type 0
GrewBy before after piece = (bytes : List ℕ) → before ≡ Some bytes → after ≡ Some (bytes ++ piece)

-- the first bytes of the piece stand behind what was held, perhaps none, perhaps all
abbrev pub GrewByPrefix : Option (List ℕ) → Option (List ℕ) → List ℕ → Type 0
GrewByPrefix before after piece = (n : ℕ) × (n ≤ length piece) × GrewBy before after (take n piece)
