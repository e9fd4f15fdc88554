-- Three threads each send to the next: none of them can commit without the other two.
use Rattle.std.specs.Prelude.{ℕ, List, [], ◌∷◌}
use Rattle.te_terms.specs.declared.event.Outcome.{Outcome}
use Rattle.te_terms.specs.Steps.{come_to}
use Rattle.te_terms.specs.declared.event.Outcome.TheVariants.{Gives}
use Rattle.te_terms.specs.Expressions.{chan}
use Rattle.te_terms.specs.Terms.{Term, always, send, recv, and_then}
use Rattle.te_terms.specs.Steps as steps
use Rattle.te_terms.specs.Joint.{Label, meeting}
use Rattle.te_cert.specs.declared.cert.Member.{Member}
use Rattle.te_cert.specs.declared.cert.Meeting.{Meeting}
use Rattle.te_cert.specs.declared.cert.Cert.{Cert}
use Rattle.te_cert.proofs.RowsTerms.{single, single_value, the_name, one_more_than}

abbrev pub starts : Term
starts = and_then (send (chan 0) (single 1)) 0 (recv (chan 2))

-- receives on one channel and sends one more on the next
abbrev pub passes : ℕ → ℕ → Term
passes from to = and_then (recv (chan from)) 0 (and_then (send (chan to) (one_more_than 0)) 1 (always (the_name 0)))

abbrev pub group : List steps.Member
group = come_to 0 0 0 starts ∷ come_to 1 0 0 (passes 0 1) ∷ come_to 2 0 0 (passes 1 2) ∷ []

abbrev pub meetings : List Meeting
meetings = record { sender = 0; receiver = 1 } ∷ record { sender = 1; receiver = 2 } ∷ record { sender = 2; receiver = 0 } ∷ []

abbrev pub members : List Member
members = record { thread = 0; ticket = 0; choices = [] } ∷ record { thread = 1; ticket = 0; choices = [] } ∷ record { thread = 2; ticket = 0; choices = [] } ∷ []

abbrev pub cert : Cert
cert = record { members = members; meets = meetings }

abbrev pub outcomes : List Outcome
outcomes = Gives (single_value 3) ∷ Gives (single_value 1) ∷ Gives (single_value 2) ∷ []

abbrev pub word : List Label
word = meeting 0 1 ∷ meeting 1 2 ∷ meeting 2 0 ∷ []
