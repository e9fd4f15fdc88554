use Rattle.te_runtime.proofs.Calling.{looked_waiting}
use Rattle.te_runtime.proofs.runtime.TeRuntime.wait_in.Goals as goal

pub returns : goal.returns
returns g c =
    let t = c.turn.ensures in
    let before = c.args.pass.now in
    let after = c.turn.new.pass in
    record {
      same = t.same;
      turn = t.turn;
      callers = t.number;
      list = t.list;
      begins = t.begins;
      begins_known = t.begins_known;
      reaches = t.reaches;
      law = t.law;
      looked = looked_waiting before.looks after.looks after.read t.found t.looks;
      own = t.kept.0;
      whole = t.own;
      front = t.front;
      known = t.kept.1;
    }
