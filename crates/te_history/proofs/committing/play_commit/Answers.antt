use Rattle.std.proofs.Common.{◌≡◌, List, length, map, sym, ap, subst, ◌∙◌, arith}
use Rattle.te_terms.specs.Terms.{Term}
use Rattle.te_cert.specs.declared.cert.Member.{Member}
use Rattle.te_cert.specs.declared.lent.Lent.{Lent}
use Rattle.te_cert.specs.Certificates.{Certificate}
use Rattle.te_cert.specs.Checks.{group_of}
use Rattle.te_cert.specs.Lending.{lent_terms}
use Rattle.te_history.specs.Histories.{now}
use Rattle.te_history.specs.Refusals.{AreParked}
use Rattle.te_history.proofs.Rising.{few_members}
use Rattle.te_history.proofs.Events.{length-lent, length-parked, length-group, commits_by}
use Rattle.te_history.proofs.PlayLengths.{length-play}
use Rattle.te_history.proofs.committing.play_commit.Goals as goal

pub check_in-requires-clause-as_many : goal.check_in-requires-clause-as_many
check_in-requires-clause-as_many c =
    let members : c.cert.inside.members ≡ c.args.cert.now.members = ap (λ (x : Certificate). x.members) c.cert.view_is in
    let read : c.as_slice.result.now ≡ c.args.cert.now.members = c.as_slice.ensures ∙ members in
    let lents = c.in-Ok-lents_of.lents.items in
    let many = length-lent lents ∙ length-parked (now c.args.hist.now) c.as_slice.result.now (lent_terms lents) c.in-Ok-lents_of.ensures.parked in
    sym (ap length c.deref.ensures.value ∙ many ∙ ap length read)

pub returns-in-Ok-check_in-clause-ok : goal.returns-in-Ok-check_in-clause-ok
returns-in-Ok-check_in-clause-ok c =
    let members : c.cert.inside.members ≡ c.args.cert.now.members = ap (λ (x : Certificate). x.members) c.cert.view_is in
    let read : c.as_slice.result.now ≡ c.args.cert.now.members = c.as_slice.ensures ∙ members in
    let parked : AreParked (now c.args.hist.now) c.args.cert.now.members (lent_terms c.deref.result.now) =
    subst (λ (ms : List Member). AreParked (now c.args.hist.now) ms (lent_terms c.deref.result.now)) read
    (subst (λ (ls : List Lent). AreParked (now c.args.hist.now) c.as_slice.result.now (lent_terms ls)) (sym c.deref.ensures.value) c.in-Ok-lents_of.ensures.parked) in
    let checked = c.in-Ok-check_in.ensures.checked in
    commits_by (now c.args.hist.now) c.args.cert.now (lent_terms c.deref.result.now) c.in-Ok-check_in.played checked.0.order parked checked.1

pub returns-in-Ok-check_in-clause-played : goal.returns-in-Ok-check_in-clause-played
returns-in-Ok-check_in-clause-played c =
    let members : c.cert.inside.members ≡ c.args.cert.now.members = ap (λ (x : Certificate). x.members) c.cert.view_is in
    let read : c.as_slice.result.now ≡ c.args.cert.now.members = c.as_slice.ensures ∙ members in
    let parked : AreParked (now c.args.hist.now) c.args.cert.now.members (lent_terms c.deref.result.now) =
    subst (λ (ms : List Member). AreParked (now c.args.hist.now) ms (lent_terms c.deref.result.now)) read
    (subst (λ (ls : List Lent). AreParked (now c.args.hist.now) c.as_slice.result.now (lent_terms ls)) (sym c.deref.ensures.value) c.in-Ok-lents_of.ensures.parked) in
    let checked = c.in-Ok-check_in.ensures.checked in
    record { order = checked.0.order; events = lent_terms c.deref.result.now; parked_all = parked; gives = checked.1 }

pub returns-in-Ok-check_in-clause-few : goal.returns-in-Ok-check_in-clause-few
returns-in-Ok-check_in-clause-few c =
    let members : c.cert.inside.members ≡ c.args.cert.now.members = ap (λ (x : Certificate). x.members) c.cert.view_is in
    let read : c.as_slice.result.now ≡ c.args.cert.now.members = c.as_slice.ensures ∙ members in
    let parked : AreParked (now c.args.hist.now) c.args.cert.now.members (lent_terms c.deref.result.now) =
    subst (λ (ms : List Member). AreParked (now c.args.hist.now) ms (lent_terms c.deref.result.now)) read
    (subst (λ (ls : List Lent). AreParked (now c.args.hist.now) c.as_slice.result.now (lent_terms ls)) (sym c.deref.ensures.value) c.in-Ok-lents_of.ensures.parked) in
    let gives = c.in-Ok-check_in.ensures.checked.1 in
    let played : length c.in-Ok-check_in.played ≡ length c.args.cert.now.members =
    length-play (group_of c.args.cert.now.members (lent_terms c.deref.result.now))
    (map (λ (m : Member). m.choices) c.args.cert.now.members) c.args.cert.now.meets _ gives.plays ∙ length-group
    (now c.args.hist.now) c.args.cert.now.members (lent_terms c.deref.result.now) parked in
    let can = c.in-Ok.ensures.ok in
    let callers = c.in-Ok.ensures.few in
    let few = few_members c.args.cert.now.members c.args.hist.now.callers can.order.rise can.callers_all in
    omega (arith, played, few, callers)
