-- Certificates of labels, and tight certificates. This project's own.
use Rattle.std.specs.Prelude.{◌≡◌, ℕ, suc, ◌<◌, Bool, ◌==◌, List, [], ◌∷◌, length, map, if◌then◌else◌}
use Rattle.std.specs.List.{AllByRecursion}
use Rattle.te_terms.specs.Steps.{Member}
use Rattle.te_terms.specs.Joint.{Label, choice, meeting}
use Rattle.te_cert.specs.declared.cert.Meeting.{Meeting}
use Rattle.te_cert.specs.declared.cert.Cert.{Cert}

-- the letters of a thread's choices, in order
abbrev pub letters_of : ℕ → List Label → List Bool
letters_of t [] = []
letters_of t (choice u left ∷ word) = if u == t then left ∷ letters_of t word else letters_of t word
letters_of t (meeting s r ∷ word) = letters_of t word

-- the place of a thread among the members
abbrev pub place_of : ℕ → List Member → ℕ
place_of t [] = 0
place_of t (m ∷ ms) = if m.thread == t then 0 else suc (place_of t ms)

-- the meetings, by places among the members
abbrev pub meetings_of : List Member → List Label → List Meeting
meetings_of group [] = []
meetings_of group (choice t left ∷ word) = meetings_of group word
meetings_of group (meeting s r ∷ word) = record { sender = place_of s group; receiver = place_of r group } ∷ meetings_of group word

-- the choices of each member, as labels give them
abbrev pub choices_of : List Member → List Label → List (List Bool)
choices_of group word = map (λ m. letters_of m.thread word) group

-- no meeting between two of so many members leads from one side to the other
abbrev pub KeepsSides : ℕ → (ℕ → Bool) → List Meeting → Type 0
KeepsSides members side meetings = AllByRecursion (λ m. m.sender < members → m.receiver < members → side m.sender ≡ side m.receiver) meetings

-- the members can't be split into two non-empty parts with no meeting between them
abbrev pub IsTight : Cert → Type 0
IsTight cert =
    (side : ℕ → Bool) → KeepsSides (length cert.members) side cert.meets → (i j : ℕ) → i < length cert.members → j < length cert.members → side i ≡ side j
