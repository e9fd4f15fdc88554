use Rattle.std.proofs.Common.{rules, ◌≡◌, true, false, refl, sym, ◌∙◌, ap}
use Rattle.std.specs.Prelude.{Some, None, slice_get}
use Rattle.std.specs.Str.{bytes_eq}
use Rattle.std.proofs.lemmas.Slice.Eq.{bytes_eq-Decides}
use Rattle.te_reader.specs.Rules.{is_among}
use Rattle.te_reader.proofs.NameSetLemmas.{no_number, at_number, another}
use Rattle.te_reader.proofs.name_set.NameSet.contains.Goals as goal

pub returns-in-Some-label_at : goal.returns-in-Some-label_at
returns-in-Some-label_at c =
    let at : slice_get c.self.inside.names.items c.in-Some.number.now ≡ Some c.in-Some-label_at.found.now = search rules in
    let is : c.eq.result ≡ bytes_eq c.in-Some-label_at.found.now c.args.name.now = c.eq.ensures ∙ ap (λ x. bytes_eq x c.args.name.now) c.bytes.ensures in
    is
    ∙ at_number c.self.inside.names.items c.self.inside.numbers c.self.invariant c.args.name.now c.in-Some.number.now
    (sym c.get.ensures.value ∙ (rw c.in-Some.is refl)) (bytes_eq c.in-Some-label_at.found.now c.args.name.now)
    (λ e. at ∙ ap Some ((bytes_eq-Decides c.in-Some-label_at.found.now c.args.name.now).0 e))
    (λ h. another c.in-Some-label_at.found.now c.args.name.now (sym at ∙ h))
    ∙ ap (is_among c.args.name.now) c.self.view_is

pub returns-in-None-label_at : goal.returns-in-None-label_at
returns-in-None-label_at c =
    let at : slice_get c.self.inside.names.items c.in-Some.number.now ≡ None = search rules in
    at_number c.self.inside.names.items c.self.inside.numbers c.self.invariant c.args.name.now c.in-Some.number.now (sym c.get.ensures.value ∙ (rw c.in-Some.is refl)) false
    (λ e. absurd (let e' : false ≡ true = e in cc)) (λ h. absurd (let both : Some c.args.name.now ≡ None = sym h ∙ at in cc))
    ∙ ap (is_among c.args.name.now) c.self.view_is

pub returns-in-None : goal.returns-in-None
returns-in-None c =
    no_number c.self.inside.names.items c.self.inside.numbers c.self.invariant c.args.name.now (sym c.get.ensures.value ∙ (rw c.in-None.is refl)) ∙ ap (is_among c.args.name.now) c.self.view_is
