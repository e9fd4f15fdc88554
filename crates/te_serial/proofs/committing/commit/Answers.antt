use Rattle.std.proofs.Common.{◌≡◌, ◌∙◌, ap, sym, subst, List}
use Rattle.te_cert.specs.Certificates.{Certificate}
use Rattle.te_cert.specs.declared.cert.Member.{Member}
use Rattle.te_serial.specs.Runs.{IsToTake, HasTakenAll, AreKept, without_all}
use Rattle.te_serial.proofs.GroupsGiven.{as_parked, group_kept, commit_continues, to_take, block_done, block_kept}
use Rattle.te_serial.proofs.committing.commit.Goals as goal

pub release-requires : goal.release-requires
release-requires c =
    let same : c.as_slice.result.now ≡ c.args.cert.members = c.as_slice.ensures ∙ ap (λ (x : Certificate). x.members) c.cert.view_is in
    let g = as_parked c.args.board.now c.args.kept.now c.args.cert c.args.outcomes c.requires.kept c.requires.group in
    subst (λ (ms : List Member). AreKept ms c.args.kept.now) (sym same) (group_kept c.args.board.now c.args.kept.now c.args.cert c.args.outcomes c.requires.kept g).0

pub take_all-requires-clause-house : goal.take_all-requires-clause-house
take_all-requires-clause-house c =
    let g = as_parked c.args.board.now c.args.kept.now c.args.cert c.args.outcomes c.requires.kept c.requires.group in
    (commit_continues c.args.board.now c.append_commit.new.board c.args.cert c.args.outcomes g c.append_commit.ensures c.args.cores.now.items c.requires.house).house

pub take_all-requires-clause-to_take : goal.take_all-requires-clause-to_take
take_all-requires-clause-to_take c =
    let g = as_parked c.args.board.now c.args.kept.now c.args.cert c.args.outcomes c.requires.kept c.requires.group in
    subst (IsToTake c.append_commit.new.board) (sym c.len-place.ensures.value) (to_take c.args.board.now c.append_commit.new.board c.args.cert c.args.outcomes g c.append_commit.ensures)

pub returns-clause-committed : goal.returns-clause-committed
returns-clause-committed c =
    let g = as_parked c.args.board.now c.args.kept.now c.args.cert c.args.outcomes c.requires.kept c.requires.group in
    let taken = subst (HasTakenAll c.append_commit.new.board c.take_all.new.board) c.len-place.ensures.value c.take_all.ensures.taken in
    block_done c.args.board.now c.append_commit.new.board c.args.cert c.args.outcomes g c.append_commit.ensures c.take_all.new.board c.requires.running c.requires.none taken

pub returns-clause-kept : goal.returns-clause-kept
returns-clause-kept c =
    let same : c.as_slice.result.now ≡ c.args.cert.members = c.as_slice.ensures ∙ ap (λ (x : Certificate). x.members) c.cert.view_is in
    let g = as_parked c.args.board.now c.args.kept.now c.args.cert c.args.outcomes c.requires.kept c.requires.group in
    let taken = subst (HasTakenAll c.append_commit.new.board c.take_all.new.board) c.len-place.ensures.value c.take_all.ensures.taken in
    let released = c.release.ensures ∙ ap (λ (ms : List Member). without_all ms c.args.kept.now) same in
    block_kept c.args.board.now c.append_commit.new.board c.args.cert c.args.outcomes g c.append_commit.ensures c.take_all.new.board c.args.kept.now c.release.new.kept c.requires.kept released taken
