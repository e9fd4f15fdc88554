use Rattle.std.proofs.Common.{List, subst, sym}
use Rattle.te_history.specs.declared.entry.Entry.{Entry}
use Rattle.te_serial.specs.Runs.{HasMember, TellsCount, TellsMember}
use Rattle.te_serial.proofs.Continuing.{goes_on}
use Rattle.te_serial.proofs.TakesSoFar.{member_there, thread_given, turn_taken, all_taken}
use Rattle.te_serial.proofs.taking.take_all.Goals as goal

pub member_at-t-requires : goal.member_at-t-requires
member_at-t-requires c =
    let tells = subst (λ (es : List Entry). TellsCount es c.args.place c.members_at-count.result) c.history.ensures.entries c.members_at-count.ensures in
    subst (λ (es : List Entry). HasMember es c.args.place c.loop-i.i) (sym c.history-in-loop-i.ensures.entries)
    (member_there c.args.board.now c.loop-i.board c.args.place c.loop-i.i c.members_at-count.result c.loop-i.invariant.taken tells c.loop-i-test.true)

pub take-requires-clause-given : goal.take-requires-clause-given
take-requires-clause-given c =
    let tells = subst (λ (es : List Entry). TellsCount es c.args.place c.members_at-count.result) c.history.ensures.entries c.members_at-count.ensures in
    let shows = subst (λ (es : List Entry). TellsMember es c.args.place c.loop-i.i c.member_at-t.result) c.history-in-loop-i.ensures.entries c.member_at-t.ensures in
    thread_given c.args.board.now c.loop-i.board c.args.place c.loop-i.i c.members_at-count.result c.loop-i.invariant.taken tells c.member_at-t.result c.loop-i-test.true shows

pub loop-i-preserved : goal.loop-i-preserved
loop-i-preserved c =
    let tells = subst (λ (es : List Entry). TellsCount es c.args.place c.members_at-count.result) c.history.ensures.entries c.members_at-count.ensures in
    let shows = subst (λ (es : List Entry). TellsMember es c.args.place c.loop-i.i c.member_at-t.result) c.history-in-loop-i.ensures.entries c.member_at-t.ensures in
    record {
      taken = turn_taken c.args.board.now c.loop-i.board c.args.place c.loop-i.i c.members_at-count.result c.loop-i.invariant.taken tells c.take.new.board
          c.member_at-t.result c.loop-i-test.true shows c.take.ensures.taken;
      continues = goes_on c.args.board.now c.loop-i.board c.take.new.board c.args.cores.now.items c.loop-i.cores.items c.take.new.cores.items c.loop-i.invariant.continues c.take.ensures.continues;
    }

pub returns-clause-taken : goal.returns-clause-taken
returns-clause-taken c =
    let tells = subst (λ (es : List Entry). TellsCount es c.args.place c.members_at-count.result) c.history.ensures.entries c.members_at-count.ensures in
    all_taken c.args.board.now c.loop-i.board c.args.place c.loop-i.i c.members_at-count.result c.loop-i.invariant.taken tells c.loop-i-test.false
