use Rattle.std.proofs.Common.{◌∙◌, refl}
use Rattle.te_search.proofs.ListsParked.{put_is}
use Rattle.te_search.proofs.StacksMove.{post_stack}
use Rattle.te_search.proofs.stack.Stack.post.Goals as goal

pub returns-clause-stack : goal.returns-clause-stack
returns-clause-stack c = post_stack c.args.self.now _ c.args.parked c.requires.stack c.requires.none
    (c.in_ok-insert.ensures.ok ∙ put_is c.args.self.now.parked c.args.parked c.place_for-place.result c.place_for-place.ensures) refl refl refl

pub returns-clause-ok : goal.returns-clause-ok
returns-clause-ok c = c.in_ok-insert.ensures.ok ∙ put_is c.args.self.now.parked c.args.parked c.place_for-place.result c.place_for-place.ensures
