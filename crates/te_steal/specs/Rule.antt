-- The rule of a relay: each number that has left the deque is in what one party took. No public clause cites this module.
use Rattle.std.specs.Prelude.{◌≡◌, ℕ, ◌+◌, true, false, List, [], ◌∷◌, ◌++◌, All}
use Rattle.std.specs.List.{concat}
use mathlib.Core.Option.{some}
use lib.ListN.{get_elem?}
use Rattle.te_steal.specs.declared.rule.Account.{Account}
use Rattle.te_steal.specs.Relays.{one_where, occurrences, IsInOrderOf}

abbrev pub total_of : (Account → ℕ) → List Account → ℕ
total_of f [] = 0
total_of f (v ∷ views) = f v + total_of f views

-- how often a number occurs in what a party took and absorbed
abbrev pub times_held : ℕ → Account → ℕ
times_held n v = occurrences n v.took + occurrences n (concat v.absorbed)

abbrev pub one_thief : Account → ℕ
one_thief v = one_where v.steals

-- one party owns: it knows what was pushed, and how many thieves there are. Who neither owns nor steals took nothing
pub record IsParty (owner : ℕ) (pushed gone : List ℕ) (thieves : ℕ) (port : ℕ) (v : Account) : Type 0 where
  pub owns : v.owns ≡ true → (port ≡ owner) × (v.pushed ≡ pushed) × (v.thieves ≡ thieves) × (v.steals ≡ false)
  pub absorbs : v.owns ≡ false → v.absorbed ≡ []
  pub rests : v.owns ≡ false → v.steals ≡ false → v.took ≡ []
  pub own : IsInOrderOf v.took gone
  pub stolen : All (λ took. IsInOrderOf took gone) v.absorbed

abbrev pub EachView : (ℕ → Account → Type 0) → List Account → Type 0
EachView F views = (port : ℕ) (v : Account) → get_elem? views port ≡ some v → F port v

-- of what was pushed some is gone and the rest is in the deque, in order, and the parties took what is gone
pub record IsShared (items : List ℕ) (views : List Account) : Type 0 where
  pub owner : ℕ
  pub pushed : List ℕ
  pub gone : List ℕ
  pub parts : pushed ≡ gone ++ items
  pub counts : (n : ℕ) → occurrences n gone ≡ total_of (times_held n) views
  pub parties : EachView (IsParty owner pushed gone (total_of one_thief views)) views
