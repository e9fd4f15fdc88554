-- Histories that aren't in rounds: a rest, a commit by another than the lowest member, and takes out of order.
use Rattle.std.proofs.Common.{◌≡◌, refl, subst, ap, ◌∙◌}
use Rattle.std.specs.Prelude.{ℕ, List, ◌∷◌, [], ◌++◌}
use Rattle.te_terms.specs.declared.event.Outcome.{Outcome}
use Rattle.te_cert.specs.declared.cert.Cert.{Cert}
use Rattle.te_history.specs.declared.entry.Entry.{Entry}
use Rattle.te_history.specs.declared.entry.Entry.TheVariants as entries
use Rattle.te_serial.specs.Rounds.{TakesBy, TakesOf, IsLowestOf, IsInRounds}
use Rattle.tevents.proofs.FirstRound.{first_round, block_parts, first_take, some_block, first_same, rest_same, cert_same}
use Rattle.te_history.proofs.HistoriesWorked.{exchange_can_commit}
use Rattle.te_history.proofs.RowsExchange as exchange

-- ---- a rest

rest_is_no_commit : {t by : ℕ} {cert : Cert} {outcomes : List Outcome} → entries.Commit by cert outcomes ≡ entries.Rest t → ⊥
rest_is_no_commit e = cc

pub rest_refused : ¬ IsInRounds 2 (exchange.posts ++ entries.Rest 0 ∷ exchange.block ++ exchange.ends)
rest_refused h =
    let found = some_block exchange_can_commit (first_round h) in
    let b = block_parts found.0 found.2 in
    rest_is_no_commit (first_same (ap (λ xs. xs ++ found.1) b.parts ∙ found.3))

-- ---- a commit by another than the lowest member

one_is_not_zero : {m : ℕ} → m ≡ 1 → m ≡ 0 → ⊥
one_is_not_zero e f = cc

caller_same : {s t : ℕ} {c d : Cert} {os ps : List Outcome} → entries.Commit s c os ≡ entries.Commit t d ps → s ≡ t
caller_same e = cc

by_lowest : (cert : Cert) (by : ℕ) → cert ≡ exchange.cert → IsLowestOf cert.members by → by ≡ 0
by_lowest cert by e lowest = let P : Cert → Type 0 = λ c. IsLowestOf c.members by in subst P e lowest

pub other_committer_refused : ¬ IsInRounds 2 (exchange.posts ++ exchange.commit_by 1 ∷ exchange.take_a ∷ exchange.take_b ∷ exchange.ends)
other_committer_refused h =
    let found = some_block exchange_can_commit (first_round h) in
    let b = block_parts found.0 found.2 in
    let same = first_same (ap (λ xs. xs ++ found.1) b.parts ∙ found.3) in
    one_is_not_zero (caller_same same) (by_lowest b.cert b.by (cert_same same) b.lowest)

-- ---- takes out of order

takes_by_first : (cert : Cert) (takes more : List Entry) (e : Entry) (es : List Entry) → cert ≡ exchange.cert → TakesOf cert.members takes → takes ++ more ≡ e ∷ es → TakesBy 0 e
takes_by_first cert takes more e es same of eq =
    let P : Cert → Type 0 = λ c. TakesOf c.members takes in
    first_take exchange.member_a (exchange.member_b ∷ []) takes more e es (subst P same of) eq

pub takes_out_of_order_refused : ¬ IsInRounds 2 (exchange.posts ++ exchange.commit_by 0 ∷ exchange.take_b ∷ exchange.take_a ∷ exchange.ends)
takes_out_of_order_refused h =
    let found = some_block exchange_can_commit (first_round h) in
    let b = block_parts found.0 found.2 in
    let whole = ap (λ xs. xs ++ found.1) b.parts ∙ found.3 in
    one_is_not_zero refl (takes_by_first b.cert b.takes found.1 exchange.take_b _ (cert_same (first_same whole)) b.takes_of (rest_same whole))
