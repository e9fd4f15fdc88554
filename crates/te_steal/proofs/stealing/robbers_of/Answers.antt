use Rattle.std.proofs.Common.{◌≡◌, [], ◌∷◌, true, None, length, All, refl, sym, ap, ◌∙◌, subst, arith, length-append}
use Rattle.std.proofs.lemmas.List.Elements.{All-push}
use Rattle.te_steal.specs.Relays.{IsThiefOf, ThiefOf}
use Rattle.te_steal.specs.declared.robbing.Robber.{Robber}
use Rattle.te_steal.proofs.AllOfMany.{of_last, of_rest}
use Rattle.te_steal.proofs.stealing.robbers_of.Goals as goal

pub thieves-preserved : goal.thieves-preserved
thieves-preserved c =
    let is = c.thieves.invariant in
    let popped = c.in-Some.ensures.items in
    let pushed = c.in_ok-push.ensures.items in
    let looks = c.in_ok-looks.looks in
    let new : Robber = record { thief = c.in-Some.thief; looks = looks; whole = true } in
    record {
      count =
          let fewer = ap length popped ∙ length-append c.pop.new.self.items (c.in-Some.thief ∷ []) in
          let more = ap length pushed ∙ length-append c.thieves.robbers.items (new ∷ []) in
          omega (arith, fewer, more, is.count);
      idle = of_rest (λ (t : ThiefOf). t.took ≡ []) c.thieves.rest.items c.pop.new.self.items c.in-Some.thief is.idle popped;
      of_relay = λ owner each.
          let of = is.of_relay owner each in (
            of_rest (IsThiefOf owner) c.thieves.rest.items c.pop.new.self.items c.in-Some.thief of.0 popped,
            subst (All (λ (r : Robber). IsThiefOf owner r.thief)) (sym pushed)
                (All-push (λ (r : Robber). IsThiefOf owner r.thief) c.thieves.robbers.items new of.1
                (of_last (IsThiefOf owner) c.thieves.rest.items c.pop.new.self.items c.in-Some.thief of.0 popped)),
          );
      ready =
          subst (All (λ (r : Robber). (length r.looks.items ≡ c.args.count) × All (λ look. look ≡ None) r.looks.items × (r.thief.took ≡ []) × (r.whole ≡ true))) (sym pushed)
          (All-push (λ (r : Robber). (length r.looks.items ≡ c.args.count) × All (λ look. look ≡ None) r.looks.items × (r.thief.took ≡ []) × (r.whole ≡ true)) c.thieves.robbers.items new is.ready (
            c.in_ok-looks.ensures.count,
            c.in_ok-looks.ensures.none,
            of_last (λ (t : ThiefOf). t.took ≡ []) c.thieves.rest.items c.pop.new.self.items c.in-Some.thief is.idle popped,
            refl,
          ));
    }
