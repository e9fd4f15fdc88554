use Rattle.std.proofs.Common.{◌≡◌, ◌≤◌, ◌+◌, ◌∷◌, [], ◌++◌, List, drop, take, sym, ap, ◌∙◌, Some, arith}
use Rattle.std.specs.List.{slice_get}
use Rattle.te_history.specs.declared.entry.Entry.{Entry}
use Rattle.te_runtime.proofs.NewsTold.{read_on, there_is, all_read}
use Rattle.te_runtime.proofs.telling.entries_from.Goals as goal

pub loop-entry-preserved : goal.loop-entry-preserved
loop-entry-preserved c =
    let from = c.args.from in
    let place = c.loop-entry.place in
    let entries = c.history-history.result.now.entries in
    let copies = c.loop-entry.copies.items in
    let kept = c.loop-entry.invariant in
    let here : slice_get entries place ≡ Some c.in-Some.entry.now = sym c.in-Some.ensures in
    let begins : from ≤ place + 1 = omega (arith, kept.0) in
    let items : c.push.new.self.items ≡ copies ++ c.in-Some.entry.now ∷ [] =
    c.in_ok-push.ensures.items ∙ ap (λ (e : Entry). copies ++ e ∷ []) c.in_ok-copy.ensures in (
      begins,
      there_is place entries c.in-Some.entry.now here,
      items ∙ (ap (λ (es : List Entry). es ++ c.in-Some.entry.now ∷ []) kept.2 ∙ sym (read_on from place entries c.in-Some.entry.now kept.0 here)),
    )

pub returns : goal.returns
returns c =
    let entries = c.history-history.result.now.entries in
    let whole : take c.loop-entry.place entries ≡ entries = all_read c.loop-entry.place entries (sym c.in_default.ensures) in
    c.from.ensures ∙ (c.loop-entry.invariant.2 ∙ (ap (drop c.args.from) whole ∙ ap (drop c.args.from) c.history-history.ensures.entries))
