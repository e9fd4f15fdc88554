use Rattle.te_terms.proofs.same.+same_under.Given as goal

abbrev pub decreases-same_under : goal.decreases-same_under
decreases-same_under l = l.i
