use Rattle.std.proofs.Common.{◌≡◌, ◌≢◌, ◌++◌, ◌≤◌, ◌<◌, ℕ, true, false, inl, inr, List, Some, ap, sym, ◌∙◌, subst, take, length, get_or, eqb, ltb, eqb-true, eq-eqb, arith}
use Rattle.std.specs.Prelude.{IsTrue}
use Rattle.std.specs.List.{slice_get}
use Rattle.std.proofs.lemmas.Bool.Decides.{nat_tests}
use Rattle.std.proofs.lemmas.Option.{slice_get-get_or}
use Rattle.te_terms.specs.declared.event.Parked.{Parked}
use Rattle.te_history.specs.State.{parked}
use Rattle.te_history.specs.Follows.{Stands}
use Rattle.te_history.specs.Histories.{now}
use Rattle.te_history.proofs.AfterEntry.{length-state}
use Rattle.te_history.proofs.CanPlay.{event_of}
use Rattle.te_history.proofs.Commits.{same_or_other}
use Rattle.te_history.proofs.ParkedLists.{other_next}
use Rattle.te_board.proofs.ParkedLists.{agrees_more, too_short, another, at_end, not_at_end}
use Rattle.te_board.proofs.matching.are_parked.Goals as goal

beyond : (a b : ℕ) → false ≡ ltb a b → b ≤ a
beyond a b is = grind (arith, nat_tests)

within : (a b : ℕ) → true ≡ ltb a b → a < b
within a b is = grind (arith, nat_tests)

found_at : (xs : List Parked) (k : ℕ) (x d : Parked) → k < length xs → x ≡ get_or xs k d → slice_get xs k ≡ Some x
found_at xs k x d low is = slice_get-get_or xs k d low ∙ ap Some (sym is)

by_length : (a b : ℕ) → ¬ (a ≢ b) → IsTrue (eqb a b)
by_length a b same = elim (same_or_other a b) [ inl is ↦ eq-eqb a b is | inr apart ↦ absurd (same apart) ]

pub loop-thread-preserved-in_default : goal.loop-thread-preserved-in_default
loop-thread-preserved-in_default c =
    let s = now c.args.hist.now in
    let agrees = c.loop-thread.invariant in (
      agrees.0,
      agrees.1 ∙ ap (λ (l : List Parked). take c.loop-thread.next c.args.parked.now ++ l)
          (other_next s c.loop-thread.thread c.status.result c.status.ensures c.in_default.not-Parked),
    )

pub returns-in_default-get : goal.returns-in_default-get
returns-in_default-get c =
    let s = now c.args.hist.now in
    let has = event_of s c.loop-thread.thread c.in-Parked.ticket c.in-Parked.ensures in
    let lookup = c.in_default-get.ensures.lookup in
    let past = beyond c.loop-thread.next (length c.args.parked.now) lookup.0 in (
      λ is. absurd cc,
      λ same. absurd (too_short s c.loop-thread.thread c.loop-thread.next c.in-Parked.ticket has.0 c.args.parked.now c.loop-thread.invariant past has.1 same),
    )

pub returns-then-not-is_that : goal.returns-then-not-is_that
returns-then-not-is_that c =
    let s = now c.args.hist.now in
    let has = event_of s c.loop-thread.thread c.in-Parked.ticket c.in-Parked.ensures in
    let other = c.is_that.ensures.not c.if-not-is_that.true has.0 has.1 in (
      λ is. absurd cc,
      λ same. absurd (another s c.loop-thread.thread c.loop-thread.next c.in-Parked.ticket has.0 c.args.parked.now c.in-Some.that.now c.loop-thread.invariant
          (found_at c.args.parked.now c.loop-thread.next c.in-Some.that.now _ (within c.loop-thread.next (length c.args.parked.now)
          c.in-Some.ensures.lookup.0) c.in-Some.ensures.lookup.1) has.1 other same),
    )

pub loop-thread-preserved : goal.loop-thread-preserved
loop-thread-preserved c =
    let s = now c.args.hist.now in
    let p = c.in-Some.that.now in
    let lookup = c.in-Some.ensures.lookup in
    let at = found_at c.args.parked.now c.loop-thread.next p _ (within c.loop-thread.next (length c.args.parked.now) lookup.0) lookup.1 in
    let is = c.is_that.ensures.yes c.if-not-is_that.false in
    let stands = subst (λ (n : ℕ). Stands s c.loop-thread.thread (parked n p.event)) (sym is.2) is.0 in
    agrees_more s c.loop-thread.thread c.loop-thread.next c.args.parked.now p at stands is.1 c.loop-thread.invariant

pub returns : goal.returns
returns c =
    let h = c.args.hist.now in
    let s = now h in
    let past = c.loop-thread-test.false in
    let callers = c.callers-thread-end.ensures.value in
    let beyond_all : length s.callers ≤ c.loop-thread.thread = omega (arith, past, callers, length-state h.callers h.entries) in (
      λ is. at_end s c.loop-thread.thread c.loop-thread.next c.args.parked.now c.loop-thread.invariant beyond_all (eqb-true c.loop-thread.next (length c.args.parked.now) is),
      λ same. by_length c.loop-thread.next (length c.args.parked.now)
          (λ apart. not_at_end s c.loop-thread.thread c.loop-thread.next c.args.parked.now c.loop-thread.invariant beyond_all apart same),
    )
