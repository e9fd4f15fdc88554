use Rattle.te_history.proofs.GivenOnce.{taken_once, given_once, none_yet}
use Rattle.te_history.proofs.laws.tickets_are_given_once.Goals as goal

pub returns : goal.returns
returns c = record { taken = taken_once; due = given_once; waiting = none_yet }
