use Rattle.std.proofs.Common.{◌≡◌, true, false, sym, ◌∙◌, subst}
use Rattle.tevents.specs.Parts.{IsRuled}
use Rattle.tevents.proofs.RulesFound.{Scanned, scanned_next, parts_found, parts_none}
use Rattle.tevents.proofs.parting.part.Goals as goal
use Rattle.tevents.proofs.parting.part.Goals.{then-starts+in_default, else-starts}

pub returns-in-Some : goal.returns-in-Some
returns-in-Some c =
    let text = c.args.text.now in
    let i = c.bytes.i in
    parts_found text c.in-Some.rest.now i (subst (λ s. Scanned text s i) c.if-starts.true c.bytes.invariant) (subst (λ bs. IsRuled bs c.in-Some.rest.now) c.behind.ensures (cc-some c))
  where
    cc-some : (c : goal.In-Some) → IsRuled c.behind.result.now c.in-Some.rest.now
    cc-some c = c.in-Some.ensures.some

pub bytes-preserved : goal.bytes-preserved
bytes-preserved c =
    let text = c.args.text.now in
    elim c.if-starts.branch [
      | then-starts+in_default w ↦ scanned_next text c.bytes.starts c.bytes.i c.bytes-test.true c.bytes.invariant
          (λ e r h. w.behind_rule.ensures.none w.in_default.is r (subst (λ bs. IsRuled bs r) (sym w.behind.ensures) h))
      | else-starts w ↦ scanned_next text c.bytes.starts c.bytes.i c.bytes-test.true c.bytes.invariant (λ e. absurd (let z : true ≡ false = sym e ∙ w.if-starts.false in cc))
    ]

pub returns : goal.returns
returns c = parts_none c.args.text.now c.bytes.starts c.bytes.i c.bytes-test.false c.bytes.invariant
