use Rattle.std.proofs.Common.{◌≡◌, inl, ℕ, suc, ◌+◌, ◌^◌, ◌<◌, ◌++◌, length, sym, ap, ◌∙◌, arith}
use Rattle.te_report.specs.Report.{last_line}
use Rattle.te_report.specs.Sayings.{up_to, said_ending}
use Rattle.te_report.proofs.LastLines.{none_last}
use Rattle.te_report.proofs.LinesTaken.{is_some}
use Rattle.te_report.proofs.reading.read_end.Goals as goal

pub returns-in-None-clause-refused : goal.returns-in-None-clause-refused
returns-in-None-clause-refused c =
    let none = rw c.in-None.is at c.in_ok-found.ensures.none in
    let begins = c.requires.ends (is_some c.args.rest.now c.is_empty.result c.is_empty.ensures c.if-is_empty.false) in
    let few : length c.args.hist.now.entries < 2 ^ 64 = omega (arith, c.requires.within) in
    let line : c.len-count.result + 2 ≡ suc (suc (length c.args.hist.now.entries)) = omega (arith, c.len-count.ensures.value) in
    inl (
      inl (
        begins,
        none_last c.args.hist.now c.args.rest.now few
            (λ more e. none more (e ∙ ap (λ (n : ℕ). last_line n (said_ending (up_to 10 c.args.rest.now)) ++ more)
            (sym c.len-count.ensures.value))),
      ),
      line,
    )
