use Rattle.std.proofs.lemmas.Option.{slice_get_within}
use Rattle.te_forms.proofs.handing.certificate_at.Goals as goal

pub entry_at-requires : goal.entry_at-requires
entry_at-requires c = slice_get_within c.args.hist.now.entries c.args.n _ c.requires.is_there
