use Rattle.std.proofs.Common.{◌≡◌, ◌∙◌, ap}
use Rattle.te_cert.specs.Certificates.{Certificate}
use Rattle.te_board.specs.Boards.{state_of}
use Rattle.te_serial.proofs.GroupsGiven.{group_some, group_caller, group_commits, group_plays, lowest_first, not_denied}
use Rattle.te_serial.proofs.committing.append_commit.Goals as goal

pub commit_played-requires-clause-caller : goal.commit_played-requires-clause-caller
commit_played-requires-clause-caller c =
    let same : c.as_slice.result.now ≡ c.args.cert.members = c.as_slice.ensures ∙ ap (λ (x : Certificate). x.members) c.cert.view_is in
    let some = group_some (state_of c.args.board.now) c.args.cert c.args.outcomes c.requires.group in
    let low = lowest_first c.as_slice.result.now c.args.cert.members c.index-as_slice-0.result same some in
    group_caller c.args.board.now c.args.cert c.args.outcomes _ c.requires.group low

pub commit_played-requires-clause-plays : goal.commit_played-requires-clause-plays
commit_played-requires-clause-plays c = group_plays (state_of c.args.board.now) c.args.cert c.args.outcomes c.requires.group

pub unreachable-requires : goal.unreachable-requires
unreachable-requires c =
    not_denied c.args.board.now c.args.cert c.args.outcomes c.requires.running
    (group_commits (state_of c.args.board.now) c.args.cert c.args.outcomes c.requires.group) c.in-Err.field-0 c.in-Err.ensures.cause
