use Rattle.std.proofs.Common.{refl, arith}
use Rattle.te_reader.proofs.TokenSteps.{arrow_first, less_first}
use Rattle.te_reader.proofs.lexing.less.Goals as goal
use Rattle.te_reader.proofs.lexing.less.Goals.{else-text-gt1-via-then-text-gt1+else-text-eq45, else-text-gt1-via-else-text-gt1}

pub returns-then-text-eq45-clause-tokens : goal.returns-then-text-eq45-clause-tokens
returns-then-text-eq45-clause-tokens c = let f = arrow_first c.args.text.now c.requires c.if-text-eq45.true in (rw (f.0, c.behind.ensures) refl, rw (f.1, c.behind.ensures) refl)

pub returns-else-text-gt1-clause-tokens : goal.returns-else-text-gt1-clause-tokens
returns-else-text-gt1-clause-tokens c =
    elim c.else-text-gt1.branch [
      | else-text-gt1-via-then-text-gt1+else-text-eq45 w ↦ let f =
          less_first c.args.text.now c.requires (λ _. w.if-text-eq45.false) in
          (rw (f.0, c.behind-else-text-gt1.ensures) refl, rw (f.1, c.behind-else-text-gt1.ensures) refl)
      | else-text-gt1-via-else-text-gt1 w ↦ let f = less_first c.args.text.now c.requires
          (λ h _. omega (arith, w.if-text-gt1.false, h)) in (
            rw (f.0, c.behind-else-text-gt1.ensures) refl,
            rw (f.1, c.behind-else-text-gt1.ensures) refl,
          )
    ]
