use Rattle.std.proofs.Common.{ap, ◌∙◌, sym, subst, arith, Some, ◌∷◌, [], ◌++◌, set}
use Rattle.te_steal.proofs.LooksBrought.{IsBringing, nothing_brought, look_brought, none_brought, all_brought}
use Rattle.te_steal.proofs.gathering.bring.Goals as goal

pub places-init : goal.places-init
places-init c = nothing_brought _ _ c.requires

pub places-preserved : goal.places-preserved
places-preserved c =
    let rest = c.pop.new.self.items in
    let popped = c.in-Some.ensures.items ∙ ap (λ one. rest ++ one ∷ []) c.in-Some-one.is in
    let place = c.len.ensures ∙ c.pop.new.self.ok.0 in
    let put = c.put.ensures ∙ ap (λ i. set c.places.looks i (Some c.in-Some-one.look)) place in
    subst (IsBringing c.args.looks.now c.args.theirs.items rest) (sym put)
    (look_brought c.args.looks.now c.args.theirs.items c.places.rest.items rest c.places.looks c.places.invariant c.in-Some-one.look popped)

pub places-preserved-in-None : goal.places-preserved-in-None
places-preserved-in-None c = none_brought _ _ _ _ _ c.places.invariant (c.in-Some.ensures.items ∙ ap (λ one. c.pop.new.self.items ++ one ∷ []) c.in-None.is)

pub returns : goal.returns
returns c = record {
  count = c.places.invariant.count;
  brought = all_brought _ _ c.places.rest.items _ (omega (arith, c.places.rest.ok.0, c.in_default.ensures.cases.0)) c.places.invariant;
}
