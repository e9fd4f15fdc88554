use Rattle.std.proofs.Common.{◌≡◌, ◌+◌, ◌-◌, subst, sym, arith}
use Rattle.te_history.specs.Room.{claimed, freed}
use Rattle.te_board.specs.Boards.{IsReserved}
use Rattle.te_board.proofs.Reserving.{reserved_after, some_spare, gives_back}
use Rattle.te_board.proofs.appending.append.Goals as goal

pub returns-clause-kept : goal.returns-clause-kept
returns-clause-kept c =
    let h = c.args.hist.now in
    let e = c.args.entry in
    let goes = c.room_goes_by_entries.ensures h.callers h.entries e c.requires.follows.0 in
    let back = gives_back h c.args.reserved.now e c.requires.kept goes in
    let after : (c.args.reserved.now + c.claims.result - c.frees.result) + freed e ≡ c.args.reserved.now + claimed e =
    let claims = c.claims.ensures in
    let frees = c.frees.ensures in
    omega arith in
    subst (λ k. IsReserved k (c.args.reserved.now + c.claims.result - c.frees.result)) (sym c.push.ensures)
    (reserved_after h c.args.reserved.now e c.requires.kept c.requires.follows goes c.requires.fits (some_spare h c.args.reserved.now e c.requires.kept goes c.requires.fits)
    _ after)
