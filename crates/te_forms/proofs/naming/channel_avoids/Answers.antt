use Rattle.te_forms.proofs.NamesTold.{is_of, is_none_of}
use Rattle.te_forms.proofs.naming.channel_avoids.Goals as goal

pub returns-in-Some : goal.returns-in-Some
returns-in-Some c = is_of c.args.ring.now c.args.channel _ c.in-Some.ensures.value

pub returns-in-None : goal.returns-in-None
returns-in-None c = is_none_of c.args.ring.now c.args.channel c.in-None.ensures.value
