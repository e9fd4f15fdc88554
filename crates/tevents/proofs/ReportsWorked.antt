-- The reports of worked scripts, to the byte.
use Rattle.std.proofs.Common.{◌≡◌, refl}
use Rattle.std.specs.Prelude.{codes}
use Rattle.std.specs.Fmt.{digits}
use Rattle.te_report.specs.declared.ending.Ending.TheVariants as endings
use Rattle.te_report.specs.Report.{second, report_text}
use Rattle.te_history.proofs.RowsExchange as exchange
use Rattle.tevents.proofs.RowsExchange as exchanging
use Rattle.tevents.proofs.RowsFilter as filter
use Rattle.tevents.proofs.RowsCaughtTrap as caught

pub exchange_report : report_text second exchanging.script exchange.history endings.Closed
    ≡ codes "tevents report 2\n1 post a 0 at 1.0\n2 post b 0 at 1.0\n3 commit a: a.0[]=() b.0[]=(7); a>b\n4 take a 0 =()\n5 take b 0 =(7)\n6 end a done\n7 end b done (7)\nclosed 7\n"
unfolding digits
exchange_report = refl

pub filter_report : report_text second filter.script filter.history endings.Closed
    ≡ codes
    "tevents report 2\n1 post r 0 at 1.0\n2 post s 0 at 1.0\n3 post t 0 at 1.0\n4 commit r: r.0[]=(5) t.0[]=(); t>r\n5 take r 0 =(5)\n6 take t 0 =()\n7 end r done (5)\n8 end t done\n9 stuck s\n10 end s stuck\nclosed 10\n"
unfolding digits
filter_report = refl

pub caught_report : report_text second caught.script caught.history endings.Closed
    ≡ codes "tevents report 2\n1 post a 0 at 1.0\n2 commit a: a.0[]=(-1,9223372036854775807);\n3 take a 0 =(-1,9223372036854775807)\n4 end a done (-1,9223372036854775807)\nclosed 4\n"
unfolding digits
caught_report = refl
