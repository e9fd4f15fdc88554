use Rattle.te_trail.proofs.Ancestors.{line_fits}
use Rattle.te_trail.proofs.store.TrailStore.on_line.Goals as goal

pub returns : goal.returns
returns c = line_fits c.args.self.now.paths c.args.p c.args.q c.fits.result c.fits.ensures
