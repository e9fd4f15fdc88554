-- Histories that aren't in rounds: a next round while a group can commit, and a missing stuck.
use Rattle.std.proofs.Common.{◌≡◌, refl, inl, inr, subst, ap, sym, ◌∙◌}
use Rattle.std.specs.Prelude.{ℕ, List, [], ◌∷◌, ◌++◌, true}
use Rattle.std.specs.List.{AllByRecursion}
use Rattle.te_terms.specs.declared.event.Outcome.{Outcome}
use Rattle.te_terms.specs.declared.event.Outcome.TheVariants.{Gives}
use Rattle.te_terms.specs.Terms.{Term, always, never}
use Rattle.te_terms.specs.Joint.{CanCommit}
use Rattle.te_cert.specs.declared.cert.Member.{Member}
use Rattle.te_cert.specs.declared.cert.Cert.{Cert}
use Rattle.te_cert.proofs.RowsTerms.{single, single_value}
use Rattle.te_history.specs.declared.status.How.{How}
use Rattle.te_history.specs.declared.status.How.TheVariants as ways
use Rattle.te_history.specs.declared.entry.Entry.{Entry}
use Rattle.te_history.specs.declared.entry.Entry.TheVariants as entries
use Rattle.te_history.specs.State.{State, state, parked_list}
use Rattle.te_serial.specs.Rounds.{TakesOf, IsBlock, ClosesSo, IsStuckAndEnds, IsInRounds}
use Rattle.tevents.proofs.FirstRound.{first_round, joined, block_parts, block_apart, first_same, rest_same, cert_same}
use Rattle.te_terms.proofs.Lists.{some_item}

end_is_no_commit : {t by : ℕ} {cert : Cert} {outcomes : List Outcome} {how : _} → entries.Commit by cert outcomes ≡ entries.End t how → ⊥
end_is_no_commit e = cc

-- ---- a next round while the other thread can commit alone

abbrev gives : ℕ → Term
gives n = always (single n)

abbrev alone : ℕ → Cert
alone t = record { members = record { thread = t; ticket = 0; choices = [] } ∷ []; meets = [] }

abbrev commit_of : ℕ → Entry
commit_of t = entries.Commit t (alone t) (Gives (single_value t) ∷ [])

abbrev take_of : ℕ → Entry
take_of t = entries.Take t 0 (Gives (single_value t))

abbrev end_of : ℕ → Entry
end_of t = entries.End t (ways.Done [])

abbrev two_posts : List Entry
two_posts = entries.Post 0 0 (gives 0) ∷ entries.Post 1 0 (gives 1) ∷ []

abbrev first_alone : List Entry
first_alone = commit_of 0 ∷ take_of 0 ∷ []

abbrev last_entries : List Entry
last_entries = end_of 0 ∷ commit_of 1 ∷ take_of 1 ∷ end_of 1 ∷ []

both_can_commit : CanCommit (parked_list (state 2 two_posts))
both_can_commit = record {
  side = λ t. true;
  word = [];
  results = Gives (single_value 0) ∷ Gives (single_value 1) ∷ [];
  is_some = some_item;
  reduces = record { actions = []; end = _; labels_are = refl; reaches = refl; ends_so = refl };
}

second_can_commit : CanCommit (parked_list (state 2 (two_posts ++ first_alone)))
second_can_commit = record {
  side = λ t. true;
  word = [];
  results = Gives (single_value 1) ∷ [];
  is_some = some_item;
  reduces = record { actions = []; end = _; labels_are = refl; reaches = refl; ends_so = refl };
}

-- one member has one take
one_take : (m : Member) (takes : List Entry) → TakesOf (m ∷ []) takes → (t : Entry) × (takes ≡ t ∷ [])
one_take m [] of = absurd of
one_take m (t ∷ []) of = (t, refl)
one_take m (t ∷ u ∷ us) of = absurd of.1

joined_up : {x y t u : Entry} {takes block : List Entry} (more rest : List Entry) → x ∷ takes ≡ block → x ≡ y → takes ≡ t ∷ [] → takes ++ more ≡ u ∷ rest → block ≡ y ∷ u ∷ []
joined_up {x} {y} {t} {u} {takes} {block} more rest e f g h =
    let P : List Entry → Type 0 = λ ts. ts ++ more ≡ u ∷ rest in
    let same : t ≡ u = first_same (subst P g h) in
    sym e ∙ (ap (λ z. z ∷ takes) f ∙ ap (λ ts. y ∷ ts) (g ∙ ap (λ z. z ∷ []) same))

first_block_is : (block more rest : List Entry) → IsBlock block → block ++ more ≡ commit_of 0 ∷ take_of 0 ∷ rest → block ≡ first_alone
first_block_is block more rest is e =
    let b = block_parts block is in
    let whole = ap (λ xs. xs ++ more) b.parts ∙ e in
    let P : Cert → Type 0 = λ c. TakesOf c.members b.takes in
    let one = one_take (record { thread = 0; ticket = 0; choices = [] }) b.takes (subst P (cert_same (first_same whole)) b.takes_of) in
    joined_up more rest b.parts (first_same whole) one.1 (rest_same whole)

second_block_fails : (block more : List Entry) → IsBlock block → block ++ more ≡ last_entries → ⊥
second_block_fails block more is e = let b = block_parts block is in end_is_no_commit (first_same (ap (λ xs. xs ++ more) b.parts ∙ e))

too_early : (blocks : List (List Entry)) (closing later : List Entry) → AllByRecursion IsBlock blocks → ¬ CanCommit (parked_list (state 2 (two_posts ++ joined blocks)))
    → (joined blocks ++ closing) ++ later ≡ first_alone ++ last_entries → ⊥
too_early [] closing later are none e = none both_can_commit
too_early (b ∷ []) closing later are none e =
    let P : List Entry → Type 0 = λ block. CanCommit (parked_list (state 2 (two_posts ++ (block ++ [])))) in
    none (subst P (sym (first_block_is b ((joined [] ++ closing) ++ later) _ are.0 (sym (block_apart b [] closing later) ∙ e))) second_can_commit)
too_early (b ∷ c ∷ cs) closing later are none e =
    let apart : b ++ ((joined (c ∷ cs) ++ closing) ++ later) ≡ first_alone ++ last_entries = sym (block_apart b (c ∷ cs) closing later) ∙ e in
    let known = first_block_is b ((joined (c ∷ cs) ++ closing) ++ later) _ are.0 apart in
    let behind = rest_same (rest_same (ap (λ xs. xs ++ ((joined (c ∷ cs) ++ closing) ++ later)) (sym known) ∙ apart)) in
    second_block_fails c ((joined cs ++ closing) ++ later) are.1.0 (sym (block_apart c cs closing later) ∙ behind)

pub next_round_refused : ¬ IsInRounds 2 (two_posts ++ first_alone ++ last_entries)
next_round_refused h = let r = first_round h in too_early r.blocks r.closing r.later r.are_blocks r.none_left r.parts

-- ---- a missing stuck

abbrev stays : Entry
stays = entries.Post 0 0 never

abbrev stuck_end : List Entry
stuck_end = entries.End 0 ways.Stuck ∷ []

stuck_is_no_end : {s t : ℕ} {how : How} → entries.Stuck s ≡ entries.End t how → ⊥
stuck_is_no_end e = cc

closes_otherwise : (s : State) (closing later : List Entry) → IsStuckAndEnds s closing → closing ++ later ≡ stuck_end → ⊥
closes_otherwise s [] later is e = absurd is
closes_otherwise s (entries.Stuck by ∷ ends) later is e = stuck_is_no_end (first_same e)
closes_otherwise s (_ ∷ es) later is e = absurd is

without_stuck : (blocks : List (List Entry)) (closing later : List Entry) → AllByRecursion IsBlock blocks → ClosesSo (state 2 (stays ∷ end_of 1 ∷ joined blocks)) closing
    → (joined blocks ++ closing) ++ later ≡ stuck_end → ⊥
without_stuck [] closing later are (inl due) e = closes_otherwise (state 2 (stays ∷ end_of 1 ∷ [])) closing later due.1 e
without_stuck [] closing later are (inr not_due) e = not_due.0 (record { settled = (tt, (tt, tt)); some_parked = some_item })
without_stuck (b ∷ bs) closing later are closes e =
    let p = block_parts b are.0 in
    end_is_no_commit (first_same (ap (λ xs. xs ++ ((joined bs ++ closing) ++ later)) p.parts ∙ (sym (block_apart b bs closing later) ∙ e)))

pub missing_stuck_refused : ¬ IsInRounds 2 (stays ∷ end_of 1 ∷ stuck_end)
missing_stuck_refused h = let r = first_round h in without_stuck r.blocks r.closing r.later r.are_blocks r.closes r.parts
