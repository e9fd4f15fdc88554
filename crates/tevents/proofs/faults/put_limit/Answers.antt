use Rattle.tevents.proofs.faults.put_limit.Goals as goal

pub returns : goal.returns
returns c = rw (← c.which_text.ensures) c.put_placed.ensures
