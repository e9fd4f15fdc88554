use Rattle.std.proofs.Common.{arith, ◌≡◌, ◌≤◌, ◌+◌, ◌∷◌, [], ◌∙◌, ap, length, length-append}
use Rattle.te_terms.proofs.Lists.{get_at}
use Rattle.te_search.proofs.WordsTold.{meets_none, meets_one, meetings_at}
use Rattle.te_search.proofs.certifying.meetings.Goals as goal

pub meeting-requires-clause-there : goal.meeting-requires-clause-there
meeting-requires-clause-there c = meetings_at c.args.names.now c.args.word.now c.moves.i _ (get_at c.args.word.now c.moves.i _ c.moves-test.true) c.requires.there

pub moves-preserved-in_default : goal.moves-preserved-in_default
moves-preserved-in_default c = (
  meets_none c.args.names.now c.args.word.now c.moves.i _ c.moves.meets
      (get_at c.args.word.now c.moves.i _ c.moves-test.true) c.moves.invariant.0 c.in_default.ensures,
  (let h : length c.moves.meets ≤ c.moves.i = c.moves.invariant.1 in omega (arith, h)),
)

pub moves-preserved : goal.moves-preserved
moves-preserved c = (
  meets_one c.args.names.now c.args.word.now c.moves.i _ c.moves.meets c.push.new.self c.in-Some.met
      (get_at c.args.word.now c.moves.i _ c.moves-test.true) c.moves.invariant.0 c.in_ok-push.ensures.ok c.in-Some.ensures,
  (let h : length c.moves.meets ≤ c.moves.i = c.moves.invariant.1 in let n : length c.push.new.self ≡ length c.moves.meets + 1 = ap length c.in_ok-push.ensures.ok
      ∙ length-append c.moves.meets (c.in-Some.met ∷ []) in omega (arith, h, n)),
)
