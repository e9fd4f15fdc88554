-- Serial rounds begin with a board on which nothing was done.
use Rattle.std.proofs.Common.{◌≡◌, ◌∙◌, refl, ap, sym, subst, length, ℕ, List, arith, []}
use Rattle.te_board.specs.Boards.{BoardLog}
use Rattle.te_script.specs.Scripts.{Program}
use Rattle.te_script.specs.Cores.{At}
use Rattle.te_serial.specs.Houses.{texts_of}
use Rattle.tevents.specs.Runs.{in_rounds}
use Rattle.tevents.proofs.FirstRun.{fresh_cores, first_house, as_many, texts_are}
use Rattle.tevents.proofs.RunsCompleted.{IsBegun, ends_where_ok}
use Rattle.tevents.proofs.running.run_rounds.Goals as goal

first_board : (script : Program) (board : BoardLog) (callers : ℕ) → board ≡ record { callers = callers; entries = [] } → callers ≡ length script.threads
    → board ≡ record { callers = length script.threads; entries = [] }
first_board script board callers is count = is ∙ ap (λ (n : ℕ). record { callers = n; entries = [] }) count

begun : (script : Program) (board : BoardLog) (cores : List At) → board ≡ record { callers = length script.threads; entries = [] }
    → cores ≡ fresh_cores script.threads → IsBegun in_rounds script board cores
begun script board cores is fresh =
    subst (λ (b : BoardLog). IsBegun in_rounds script b cores) (sym is) (record {
      callers = refl;
      texts = ap texts_of fresh ∙ texts_are script.threads;
      tight = tt;
      once = λ t. omega arith;
      begins = refl;
    })

pub complete-requires-clause-house : goal.complete-requires-clause-house
complete-requires-clause-house c =
    let count : c.len.result ≡ length c.args.script.now.threads = c.len.ensures ∙ ap length c.in_ok-cores.ensures ∙ as_many c.args.script.now.threads in
    first_house c.args.script.now.threads c.in_ok-board.board c.in_ok-cores.cores
    (first_board c.args.script.now c.in_ok-board.board c.len.result c.in_ok-board.ensures count) c.in_ok-cores.ensures

pub returns-clause-ends : goal.returns-clause-ends
returns-clause-ends c =
    let count : c.len.result ≡ length c.args.script.now.threads = c.len.ensures ∙ ap length c.in_ok-cores.ensures ∙ as_many c.args.script.now.threads in
    ends_where_ok in_rounds c.args.budget c.args.script.now c.in_ok-board.board c.in_ok-cores.cores (λ run. run.board) (λ run. run.ending) c.complete.result
    (begun c.args.script.now c.in_ok-board.board c.in_ok-cores.cores
    (first_board c.args.script.now c.in_ok-board.board c.len.result c.in_ok-board.ensures count) c.in_ok-cores.ensures)
    c.complete.ensures
