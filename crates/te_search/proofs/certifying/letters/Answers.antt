use Rattle.te_terms.proofs.Lists.{get_at}
use Rattle.te_search.proofs.WordsTold.{letters_none, letters_one}
use Rattle.te_search.proofs.certifying.letters.Goals as goal

pub moves-preserved-in_default : goal.moves-preserved-in_default
moves-preserved-in_default c = letters_none c.args.thread c.args.word.now c.moves.i _ c.moves.letters (get_at c.args.word.now c.moves.i _ c.moves-test.true) c.moves.invariant c.in_default.ensures

pub moves-preserved : goal.moves-preserved
moves-preserved c = letters_one c.args.thread c.args.word.now c.moves.i _ c.moves.letters c.push.new.self c.in-Some.left
    (get_at c.args.word.now c.moves.i _ c.moves-test.true) c.moves.invariant c.in_ok-push.ensures.ok c.in-Some.ensures
