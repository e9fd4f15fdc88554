use Rattle.te_history.specs.State.{posts_by}
use Rattle.te_serial.proofs.Openings.{posted_by, posted_stands, none_kept, posted_kept}
use Rattle.te_serial.proofs.opening.post.Goals as goal

pub keep-requires-clause-parked : goal.keep-requires-clause-parked
keep-requires-clause-parked c =
    let grows = posted_by c.args.board.now c.post.new.self c.args.t c.in-Ok.field-0 c.args.event c.in-Ok.ensures.ok c.in-Ok.ensures.ticket in
    (posts_by c.args.t c.args.board.now.entries, c.args.event, posted_stands c.args.board.now c.post.new.self c.args.t c.args.event c.requires.idle grows)

pub keep-requires-clause-apart : goal.keep-requires-clause-apart
keep-requires-clause-apart c = none_kept c.args.board.now c.args.kept.now c.args.t c.requires.kept c.requires.idle

pub returns-in_ok-keep-in-Ok-clause-kept : goal.returns-in_ok-keep-in-Ok-clause-kept
returns-in_ok-keep-in-Ok-clause-kept c =
    let grows = posted_by c.args.board.now c.post.new.self c.args.t c.in-Ok.field-0 c.args.event c.in-Ok.ensures.ok c.in-Ok.ensures.ticket in
    posted_kept c.args.board.now c.post.new.self c.args.t c.args.event c.args.kept.now c.keep.new.kept c.requires.idle c.requires.kept grows c.in_ok-keep-in-Ok.ensures
