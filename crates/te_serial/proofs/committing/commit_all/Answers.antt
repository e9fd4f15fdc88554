use Rattle.te_serial.proofs.Continuing.{goes_on}
use Rattle.te_serial.proofs.RoundsSoFar.{block_more}
use Rattle.te_serial.proofs.committing.commit_all.Goals as goal

pub loop-preserved : goal.loop-preserved
loop-preserved c = record {
  blocks = block_more c.args.board.now c.loop.board c.commit_block.new.board c.loop.invariant.blocks (rw c.if-branch.true at c.in_ok-commit_block.ensures.committed);
  continues = goes_on c.args.board.now c.loop.board c.commit_block.new.board c.args.cores.now.items c.loop.cores.items c.commit_block.new.cores.items
      c.loop.invariant.continues c.in_ok-commit_block.ensures.continues;
  kept = c.in_ok-commit_block.ensures.kept;
}
