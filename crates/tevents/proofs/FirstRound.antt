-- What stands behind the first two openings of a history of two callers in rounds.
use Rattle.std.proofs.Common.{◌≡◌, refl, subst, append_assoc, ◌∙◌, ap, sym}
use Rattle.std.specs.Prelude.{ℕ, List, [], ◌∷◌, ◌++◌}
use Rattle.std.specs.List.{AllByRecursion, flat_map}
use Rattle.te_terms.specs.declared.event.Outcome.{Outcome}
use Rattle.te_terms.specs.Joint.{CanCommit}
use Rattle.te_cert.specs.declared.cert.Member.{Member}
use Rattle.te_cert.specs.declared.cert.Cert.{Cert}
use Rattle.te_history.specs.declared.entry.Entry.{Entry}
use Rattle.te_history.specs.declared.entry.Entry.TheVariants as entries
use Rattle.te_history.specs.State.{idle, state, parked_list}
use Rattle.te_serial.specs.Rounds.{OpensFrom, TakesBy, TakesOf, IsLowestOf, IsBlock, ClosesSo, Round, entries_of, AreRounds, IsInRounds}

abbrev pub joined : List (List Entry) → List Entry
joined blocks = flat_map (λ block. block) blocks

-- the blocks and the closing of the first round, and what stands behind it
pub record FirstRound (first second : Entry) (rest : List Entry) : Type 0 where
  pub blocks : List (List Entry)
  pub closing : List Entry
  pub later : List Entry
  pub are_blocks : AllByRecursion IsBlock blocks
  pub none_left : ¬ CanCommit (parked_list (state 2 (first ∷ second ∷ joined blocks)))
  pub closes : ClosesSo (state 2 (first ∷ second ∷ joined blocks)) closing
  pub parts : (joined blocks ++ closing) ++ later ≡ rest

abbrev BehindTwo : List Entry → Type 0
BehindTwo (first ∷ second ∷ rest) = FirstRound first second rest
BehindTwo _ = Unit {0}

opened : {first second : Entry} {rest : List Entry} (openings : List Entry) (blocks : List (List Entry))
    (closing later : List Entry) → OpensFrom 0 (idle ∷ idle ∷ []) openings → AllByRecursion IsBlock blocks
    → ¬ CanCommit (parked_list (state 2 (openings ++ joined blocks)))
    → ClosesSo (state 2 (openings ++ joined blocks)) closing
    → ((openings ++ joined blocks) ++ closing) ++ later ≡ first ∷ second ∷ rest
    → FirstRound first second rest
opened [] blocks closing later opens are none closes e = absurd opens
opened (x ∷ []) blocks closing later opens are none closes e = absurd opens.1
opened (x ∷ y ∷ []) blocks closing later opens are none closes e =
    subst BehindTwo e (record { blocks = blocks; closing = closing; later = later; are_blocks = are; none_left = none; closes = closes; parts = refl })
opened (x ∷ y ∷ z ∷ zs) blocks closing later opens are none closes e = absurd opens.1.1

nil_not_more : {A : Type 0} {x : A} {xs : List A} → [] ≡ x ∷ xs → ⊥
nil_not_more e = cc

by_rounds : {first second : Entry} {rest : List Entry} (rounds : List Round) → AreRounds 2 [] rounds → flat_map entries_of rounds ≡ first ∷ second ∷ rest → FirstRound first second rest
by_rounds [] are e = absurd (nil_not_more e)
by_rounds (r ∷ rs) are e = opened r.openings r.blocks r.closing (flat_map entries_of rs) are.0.opens are.0.blocks are.0.none_left are.0.closes e

pub first_round : {first second : Entry} {rest : List Entry} → IsInRounds 2 (first ∷ second ∷ rest) → FirstRound first second rest
first_round h = by_rounds h.rounds h.are_rounds h.parts

-- ---- what equal lists and equal entries have in common

pub first_same : {A : Type 0} {x y : A} {xs ys : List A} → x ∷ xs ≡ y ∷ ys → x ≡ y
first_same e = cc

pub rest_same : {A : Type 0} {x y : A} {xs ys : List A} → x ∷ xs ≡ y ∷ ys → xs ≡ ys
rest_same e = cc

pub cert_same : {s t : ℕ} {c d : Cert} {os ps : List Outcome} → entries.Commit s c os ≡ entries.Commit t d ps → c ≡ d
cert_same e = cc

-- ---- a block is a commit by its lowest member, and takes

pub record BlockParts (block : List Entry) : Type 0 where
  pub by : ℕ
  pub cert : Cert
  pub outcomes : List Outcome
  pub takes : List Entry
  pub parts : entries.Commit by cert outcomes ∷ takes ≡ block
  pub lowest : IsLowestOf cert.members by
  pub takes_of : TakesOf cert.members takes

pub block_parts : (block : List Entry) → IsBlock block → BlockParts block
block_parts (entries.Commit by cert outcomes ∷ takes) is = record { by = by; cert = cert; outcomes = outcomes; takes = takes; parts = refl; lowest = is.0; takes_of = is.1 }
block_parts _ is = absurd is

-- the entry behind a commit of some members is a take by the first of them
pub first_take : (m : Member) (ms : List Member) (takes more : List Entry) (e : Entry) (es : List Entry) → TakesOf (m ∷ ms) takes → takes ++ more ≡ e ∷ es → TakesBy m.thread e
first_take m ms [] more e es of eq = absurd of
first_take m ms (t ∷ ts) more e es of eq = let P : Entry → Type 0 = λ x. TakesBy m.thread x in subst P (first_same eq) of.0

-- the first block apart from what follows it
pub block_apart : (b : List Entry) (bs : List (List Entry)) (closing later : List Entry) → ((b ++ joined bs) ++ closing) ++ later ≡ b ++ ((joined bs ++ closing) ++ later)
block_apart b bs closing later = ap (λ xs. xs ++ later) (append_assoc b (joined bs) closing) ∙ append_assoc b (joined bs ++ closing) later

-- where the parked can commit, a block comes first
pub some_block : {first second : Entry} {rest : List Entry} → CanCommit (parked_list (state 2 (first ∷ second ∷ []))) → FirstRound first second rest
    → (block : List Entry) × (more : List Entry) × IsBlock block × (block ++ more ≡ rest)
some_block {first} {second} {rest} can r = among r.blocks r.closing r.later r.are_blocks r.none_left r.parts where
  among : (blocks : List (List Entry)) (closing later : List Entry) → AllByRecursion IsBlock blocks
      → ¬ CanCommit (parked_list (state 2 (first ∷ second ∷ joined blocks))) → (joined blocks ++ closing) ++ later ≡ rest
      → (block : List Entry) × (more : List Entry) × IsBlock block × (block ++ more ≡ rest)
  among [] closing later are none e = absurd (none can)
  among (b ∷ bs) closing later are none e =
      (b, (joined bs ++ closing) ++ later, are.0, sym (block_apart b bs closing later) ∙ e)
