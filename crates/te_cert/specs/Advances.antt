-- A member that advances by its letters, each time with all its quiet steps at once. No public clause cites this module.
use Rattle.std.specs.Prelude.{ℕ, Bool, true, false, cond, List, [], ◌∷◌, Result, Ok, Err}
use Rattle.te_terms.specs.Steps.{Member}
use Rattle.te_terms.specs.Joint.{choice, after_choice}
use Rattle.te_terms.specs.Settling.{settled}
use Rattle.te_cert.specs.Play.{PlayFault, no_letter, Turn, by_choice, choice_of, Advance, with_label}

-- what the member does once its quiet steps are done: a choice, or nothing
abbrev pub settled_turn : Member → Turn
settled_turn m = choice_of (settled m) (after_choice true (settled m).term) (after_choice false (settled m).term)

-- at a choice it lacks a letter
abbrev pub without_letter : ℕ → Member → Turn → Result Advance PlayFault
without_letter i s (by_choice l r) = Err (no_letter i)
without_letter i s _ = Ok (record { player = record { member = s; letters = [] }; word = [] })

abbrev pub with_letter : (Member → Result Advance PlayFault) → Bool → List Bool → Member → Turn → Result Advance PlayFault
with_letter go left letters s (by_choice l r) = with_label (choice s.thread left) (go (cond left l r))
with_letter go left letters s _ = Ok (record { player = record { member = s; letters = left ∷ letters }; word = [] })

-- the member at place i, until it stands at a send, a receive or never, or is final
abbrev pub by_letters : ℕ → Member → List Bool → Result Advance PlayFault
by_letters i m [] = without_letter i (settled m) (settled_turn m)
by_letters i m (left ∷ letters) = with_letter (λ n. by_letters i n letters) left letters (settled m) (settled_turn m)
