-- A member that raises after it met another, and one that catches what it raised.
use Rattle.std.specs.Prelude.{List, [], ◌∷◌}
use Rattle.te_terms.specs.declared.event.Outcome.{Outcome}
use Rattle.te_terms.specs.Steps.{come_to}
use Rattle.te_terms.specs.declared.event.Outcome.TheVariants.{Gives, Raises}
use Rattle.te_terms.specs.Expressions.{chan}
use Rattle.te_terms.specs.Terms.{always, throw, send, recv, and_then, catch}
use Rattle.te_terms.specs.Steps as steps
use Rattle.te_cert.proofs.RowsTerms.{single, single_value, the_name, one_more_than}

abbrev pub raising_group : List steps.Member
raising_group =
    come_to 0 0 0 (and_then (send (chan 0) (single 1)) 0 (throw (single 9))) ∷ come_to 1 0 0 (recv (chan 0)) ∷ []

abbrev pub raising_outcomes : List Outcome
raising_outcomes = Raises (single_value 9) ∷ Gives (single_value 1) ∷ []

abbrev pub catching_group : List steps.Member
catching_group =
    come_to 0 0 0 (catch (and_then (recv (chan 0)) 0 (throw (one_more_than 0))) 0 (always (the_name 0))) ∷ come_to 1 0 0 (send (chan 0) (single 4)) ∷ []

abbrev pub catching_outcomes : List Outcome
catching_outcomes = Gives (single_value 5) ∷ Gives [] ∷ []
