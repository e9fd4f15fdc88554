-- One caller sends 7 on a channel and another receives it.
use Rattle.std.specs.Prelude.{ℕ, List, [], ◌∷◌, ◌++◌}
use Rattle.te_terms.specs.declared.event.Outcome.{Outcome}
use Rattle.te_terms.specs.declared.event.Outcome.TheVariants.{Gives}
use Rattle.te_terms.specs.Expressions.{chan}
use Rattle.te_terms.specs.Terms.{Term, send, recv}
use Rattle.te_cert.specs.declared.cert.Member.{Member}
use Rattle.te_cert.specs.declared.cert.Cert.{Cert}
use Rattle.te_cert.proofs.RowsTerms.{single, single_value}
use Rattle.te_history.specs.declared.status.How.TheVariants as ways
use Rattle.te_history.specs.declared.entry.Entry.{Entry}
use Rattle.te_history.specs.declared.entry.Entry.TheVariants as entries

abbrev pub sends : Term
sends = send (chan 0) (single 7)

abbrev pub receives : Term
receives = recv (chan 0)

abbrev pub member_a : Member
member_a = record { thread = 0; ticket = 0; choices = [] }

abbrev pub member_b : Member
member_b = record { thread = 1; ticket = 0; choices = [] }

abbrev pub members : List Member
members = member_a ∷ member_b ∷ []

abbrev pub cert : Cert
cert = record { members = members; meets = record { sender = 0; receiver = 1 } ∷ [] }

abbrev pub outcomes : List Outcome
outcomes = Gives [] ∷ Gives (single_value 7) ∷ []

abbrev pub posts : List Entry
posts = entries.Post 0 0 sends ∷ entries.Post 1 0 receives ∷ []

abbrev pub commit_by : ℕ → Entry
commit_by t = entries.Commit t cert outcomes

abbrev pub take_a : Entry
take_a = entries.Take 0 0 (Gives [])

abbrev pub take_b : Entry
take_b = entries.Take 1 0 (Gives (single_value 7))

abbrev pub block : List Entry
block = commit_by 0 ∷ take_a ∷ take_b ∷ []

abbrev pub ends : List Entry
ends = entries.End 0 (ways.Done []) ∷ entries.End 1 (ways.Done (single_value 7 ∷ [])) ∷ []

abbrev pub history : List Entry
history = posts ++ block ++ ends

-- the two posts, declared stuck
abbrev pub given_up : List Entry
given_up = posts ++ entries.Stuck 0 ∷ entries.End 0 ways.Stuck ∷ entries.End 1 ways.Stuck ∷ []
