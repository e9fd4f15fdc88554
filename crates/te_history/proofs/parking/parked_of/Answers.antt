use Rattle.std.proofs.Common.{◌≡◌, ◌+◌, ◌++◌, ◌∷◌, List, [], ap, sym, ◌∙◌, append_assoc, arith}
use Rattle.std.proofs.lemmas.List.{append-nil}
use Rattle.te_terms.specs.declared.event.Parked.{Parked}
use Rattle.te_history.specs.Histories.{now}
use Rattle.te_history.proofs.AfterEntry.{length-state}
use Rattle.te_history.proofs.ParkedLists.{parked_after, parked_next, other_next, last_after}
use Rattle.te_history.proofs.parking.parked_of.Goals as goal

pub loop-thread-preserved-in_default : goal.loop-thread-preserved-in_default
loop-thread-preserved-in_default c =
    let s = now c.args.hist.now in
    ap (λ (l : List Parked). c.loop-thread.parked.items ++ l) (sym (other_next s c.loop-thread.thread c.status.result c.status.ensures c.in_default.not-Parked))
    ∙ c.loop-thread.invariant

pub loop-thread-preserved : goal.loop-thread-preserved
loop-thread-preserved c =
    let s = now c.args.hist.now in
    let t = c.loop-thread.thread in
    let stands = c.parked_event.ensures c.in-Parked.ticket c.in-Parked.ensures in
    let next = parked_next s t c.in-Parked.ticket c.parked_event.result.now stands in
    let copied : c.push.new.self.items ≡ c.loop-thread.parked.items ++ record { thread = t; ticket = c.in-Parked.ticket; event = c.parked_event.result.now } ∷ [] =
    c.in_ok-push.ensures.items ∙ ap (λ e. c.loop-thread.parked.items ++ record { thread = t; ticket = c.in-Parked.ticket; event = e } ∷ []) c.in_ok-event.ensures in
    ap (λ (l : List Parked). l ++ parked_after (t + 1) s) copied
    ∙ append_assoc c.loop-thread.parked.items (record { thread = t; ticket = c.in-Parked.ticket; event = c.parked_event.result.now } ∷ []) (parked_after (t + 1) s)
    ∙ ap (λ (l : List Parked). c.loop-thread.parked.items ++ l) (sym next)
    ∙ c.loop-thread.invariant

pub returns : goal.returns
returns c =
    let h = c.args.hist.now in
    let past = c.loop-thread-test.false in
    let callers = c.callers-thread-end.ensures.value in
    c.from.ensures ∙ sym (append-nil c.loop-thread.parked.items)
    ∙ ap (λ (l : List Parked). c.loop-thread.parked.items ++ l) (sym (last_after (now h) c.loop-thread.thread (omega (arith, past, callers, length-state h.callers h.entries))))
    ∙ c.loop-thread.invariant
