use Rattle.std.proofs.Common.{◌<◌, ◌+◌, ℕ, arith, ◌≤◌, length, length-take}
use Rattle.std.proofs.lemmas.List.{take-append-le}
use Rattle.te_io.specs.Stream.{GaveAll}
use Rattle.te_io.proofs.PiecesRead.{all_is_first, piece_read, read_all, read_full, rest_left_after}
use Rattle.te_io.proofs.reading.read_up_to.Goals as goal

-- at a read of no byte the source is at its end
at_end : (g : _) (c : goal.After-from g)
    → GaveAll (g.S.Source.bytes_left c.args.source.now) (g.S.Source.bytes_left c.read.new.self) c.pieces.bytes.items
at_end g c =
    let has_room : 0 < length c.read.new.into = omega (arith, length-take {A = ℕ}) in
    let nothing = c.in_ok-count.ensures.end c.if-count-eq0.true has_room in
    read_all c.pieces.invariant.0 c.if-count-eq0.true c.in_ok-count.ensures.gave nothing

pub returns-then-count-eq0-clause-first : goal.returns-then-count-eq0-clause-first
returns-then-count-eq0-clause-first g c =
    rw c.from.ensures (all_is_first (c.args.most + 1) c.pieces.invariant.0.bound (at_end g c))

pub returns-then-count-eq0-clause-whole : goal.returns-then-count-eq0-clause-whole
returns-then-count-eq0-clause-whole g c _ = rw c.from.ensures (at_end g c)

pub returns-then-count-eq0-clause-rest : goal.returns-then-count-eq0-clause-rest
returns-then-count-eq0-clause-rest g c =
    let bound : length c.pieces.bytes.items ≤ c.args.most + 1 = c.pieces.invariant.0.bound in
    let room : length c.pieces.bytes.items + c.in_ok-count.count ≤ c.args.most + 1 = omega arith in
    rest_left_after c.in_ok-count.count c.pieces.invariant.0 room c.in_ok-count.ensures.gave

pub pieces-preserved : goal.pieces-preserved
pieces-preserved g c =
    let fits : c.in_ok-count.count ≤ length c.read.new.into = c.in_ok-count.ensures.bound in
    let room : length c.pieces.bytes.items + c.in_ok-count.count ≤ c.args.most + 1 =
    omega (arith, length-take {A = ℕ}) in
    let read = piece_read c.in_ok-count.count c.read.new.into c.pieces.invariant.0 fits room c.in_ok-count.ensures.gave in
    (rw (c.in_ok-extend_from_slice.ensures.items, take-append-le) read, omega arith)

pub returns-in_err-extend_from_slice-clause-rest :
    goal.returns-in_err-extend_from_slice-clause-rest
returns-in_err-extend_from_slice-clause-rest g c =
    let fits : c.in_ok-count.count ≤ length c.read.new.into = c.in_ok-count.ensures.bound in
    let room : length c.pieces.bytes.items + c.in_ok-count.count ≤ c.args.most + 1 =
    omega (arith, length-take {A = ℕ}) in
    rest_left_after c.in_ok-count.count c.pieces.invariant.0 room c.in_ok-count.ensures.gave

pub returns-clause-first : goal.returns-clause-first
returns-clause-first g c = rw c.from-2.ensures (read_full c.pieces.invariant.0 (omega arith))
