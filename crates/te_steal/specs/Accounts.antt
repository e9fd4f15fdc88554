-- What a party of a relay knows, and how it changes. No public clause cites this module.
use Rattle.std.specs.Prelude.{◌≡◌, ℕ, ◌+◌, ◌-◌, Bool, true, false, List, [], ◌∷◌, ◌++◌, length, All}
use Rattle.std.specs.List.{concat}
use Rattle.te_steal.specs.declared.rule.Account.{Account}
use Rattle.te_steal.specs.Relays.{occurrences, IsInOrderOf}

abbrev pub account : Bool → Bool → List ℕ → List ℕ → List (List ℕ) → ℕ → Account
account owns steals pushed took absorbed thieves = record { owns = owns; steals = steals; pushed = pushed; took = took; absorbed = absorbed; thieves = thieves }

abbrev pub first_owner : Account
first_owner = account true false [] [] [] 0

-- who has no part in the relay, or none any more
abbrev pub nobody : Account
nobody = account false false [] [] [] 0

abbrev pub thief_with : List ℕ → Account
thief_with took = account false true [] took [] 0

-- an owner with one thief more
abbrev pub with_thief : Account → Account
with_thief v = account v.owns v.steals v.pushed v.took v.absorbed (v.thieves + 1)

-- an owner that takes what a thief took into its account
abbrev pub absorbing : Account → Account → Account
absorbing v w = account v.owns v.steals v.pushed v.took (v.absorbed ++ w.took ∷ []) (v.thieves - 1)

-- the same of several thieves
abbrev pub absorbing_all : Account → List (List ℕ) → Account
absorbing_all v each = account v.owns v.steals v.pushed v.took (v.absorbed ++ each) (v.thieves - length each)

abbrev pub pushing : Account → List ℕ → Account
pushing v ns = account v.owns v.steals (v.pushed ++ ns) v.took v.absorbed v.thieves

abbrev pub taking : Account → List ℕ → Account
taking v ns = account v.owns v.steals v.pushed (v.took ++ ns) v.absorbed v.thieves

-- each number was taken as often as it was pushed, and what each took stands in the order of pushing
pub record AreAllTaken (v : Account) : Type 0 where
  pub counts : (n : ℕ) → occurrences n v.pushed ≡ occurrences n v.took + occurrences n (concat v.absorbed)
  pub own : IsInOrderOf v.took v.pushed
  pub stolen : All (λ took. IsInOrderOf took v.pushed) v.absorbed
