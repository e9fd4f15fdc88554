-- A term stands at one stop alone.
use Rattle.std.proofs.Common.{◌≡◌, ℕ, true, Option, Some, None, refl, sym, ap, ◌∙◌}
use Rattle.std.specs.Option.{option_map}
use Rattle.te_terms.specs.declared.event.Outcome.{Outcome}
use Rattle.te_terms.specs.declared.event.Outcome.TheVariants.{Gives, Raises}
use Rattle.te_terms.specs.Terms.{Term, choose}
use Rattle.te_terms.specs.Steps.{come_to, outcome_of, head, with_head}
use Rattle.te_terms.specs.Joint.{Message, chosen_from, after_choice, sending, receiving}
use Rattle.te_terms.proofs.OneThing.{choice_rests, send_is_alone, receive_is_alone, never_is_alone}
use Rattle.te_path.specs.declared.spot.Stop.{Stop}
use Rattle.te_path.specs.declared.spot.Stop.TheVariants as stops
use Rattle.te_path.specs.Paths.{StandsAt}

-- the stop of a term, by the one thing that it does
abbrev by_deeds : Option Outcome → Option Message → Option ℕ → Option Term → Stop
by_deeds (Some (Gives v)) s r c = stops.Done v
by_deeds (Some (Raises v)) s r c = stops.Raised v
by_deeds None (Some m) r c = stops.Send m.channel m.value
by_deeds None None (Some c) ch = stops.Recv c
by_deeds None None None (Some t) = stops.Choice
by_deeds None None None None = stops.Dead

abbrev stop_of : Term → Stop
stop_of t = by_deeds (outcome_of t) (sending t) (receiving t) (after_choice true t)

by_choice : (t e f : Term) → head t ≡ choose e f → after_choice true t ≡ Some (with_head e t)
by_choice t e f at = ap (λ h. option_map (λ u. with_head u t) (chosen_from true h)) at

it_is : (t : Term) (stop : Stop) → StandsAt t stop → stop_of t ≡ stop
it_is t (stops.Done v) at = ap (λ o. by_deeds o (sending t) (receiving t) (after_choice true t)) at
it_is t (stops.Raised v) at = ap (λ o. by_deeds o (sending t) (receiving t) (after_choice true t)) at
it_is t (stops.Send c v) at =
    let alone = send_is_alone (come_to 0 0 0 t) t (record { channel = c; value = v }) at in
    rw (alone.0.1, at) refl
it_is t (stops.Recv c) at =
    let alone = receive_is_alone (come_to 0 0 0 t) t c at in
    rw (alone.0.1, alone.2, at) refl
it_is t stops.Choice at =
    let chosen = by_choice t at.0 at.1.0 at.1.1 in
    let alone = choice_rests (come_to 0 0 0 t) true t (with_head at.0 t) chosen in
    rw (alone.0.1, alone.1, alone.2, chosen) refl
it_is t stops.Dead at =
    let alone = never_is_alone (come_to 0 0 0 t) t at in
    rw (alone.0.1, alone.2, alone.3, alone.1 true) refl

-- two stops of one term are one
pub same_stop : (t : Term) (told stop : Stop) → StandsAt t told → StandsAt t stop → told ≡ stop
same_stop t told stop at there = sym (it_is t told at) ∙ it_is t stop there
