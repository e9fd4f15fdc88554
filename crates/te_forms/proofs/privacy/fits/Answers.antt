use Rattle.std.proofs.Common.{◌↔◌, IsTrue, List, ap, sym, ◌∙◌, subst}
use Rattle.te_terms.specs.declared.code.Node.{Node}
use Rattle.te_forms.specs.Reading.{replaced_under}
use Rattle.te_terms.specs.Terms.{Term}
use Rattle.te_forms.specs.Privacy.{TermAvoids}
use Rattle.te_forms.proofs.NamesTold.{form_fits, other_fits}
use Rattle.te_forms.proofs.privacy.fits.Goals as goal

pub returns-in-Some : goal.returns-in-Some
returns-in-Some c =
    form_fits c.args.ring.now c.len.ensures.ring c.args.event.now c.offer_avoids.result c.in-Some.form c.in-Some.ensures c.offer_avoids.ensures

pub returns-in-None : goal.returns-in-None
returns-in-None c =
    other_fits c.args.ring.now c.len.ensures.ring c.args.event.now c.avoids_under.result c.in-None.ensures
    (subst (λ (t : Term). IsTrue c.avoids_under.result ↔ TermAvoids c.args.ring.now t)
    (ap (λ (nodes : List Node). replaced_under nodes c.parts-root.result.2.now 0 c.parts-root.result.1) c.deref.ensures ∙ sym c.parts-root.ensures.term_is) (c.avoids_under.ensures 0))
