use Rattle.std.proofs.Common.{arith, subst}
use Rattle.te_path.specs.Origins.{origin_of}
use Rattle.te_path.specs.Paths.{HasFewFresh}
use Rattle.te_path.proofs.Handing.{few_at_start, root_is, starts}
use Rattle.te_path.proofs.cells.Cells.start.Goals as goal

pub settle-requires : goal.settle-requires
settle-requires c = record {
  node_in = c.requires.root;
  around = record { linked = c.requires.linked; values_in = omega arith; frames_in = omega arith; fit = tt };
  few = subst HasFewFresh (root_is (origin_of c.args.posted.now) c.args.self.now c.args.root) (few_at_start (origin_of c.args.posted.now) c.len.ensures.forest c.args.root c.requires.root);
}

pub returns-clause-settles : goal.returns-clause-settles
returns-clause-settles c = starts (origin_of c.args.posted.now) c.args.self.now c.settle.new.cells c.args.root c.settle.new.spot c.in_ok-settle.ensures.spot c.in_ok-settle.ensures.alike
