use Rattle.te_reader.proofs.TextSteps.{space_goes}
use Rattle.te_reader.proofs.lexing.gap_len.Goals as goal

pub returns-then-is_solid-2-clause-same : goal.returns-then-is_solid-2-clause-same
returns-then-is_solid-2-clause-same c = (space_goes c.args.text.now c.if-text-gt1.true c.if-text-eq32.true).0

pub returns-then-is_solid-2-clause-spots : goal.returns-then-is_solid-2-clause-spots
returns-then-is_solid-2-clause-spots c = (space_goes c.args.text.now c.if-text-gt1.true c.if-text-eq32.true).1
