use Rattle.te_forms.proofs.naming.+avoids_under.Given as goal

abbrev pub decreases-avoids_under : goal.decreases-avoids_under
decreases-avoids_under l = l.i
