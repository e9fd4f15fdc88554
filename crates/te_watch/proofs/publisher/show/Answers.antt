use Rattle.std.proofs.Common.{◌≡◌, List, [], ◌∷◌, ◌++◌, drop, sym, ap, ◌∙◌}
use Rattle.te_watch.specs.Watches.{Published}
use Rattle.te_watch.proofs.OneName.{keeps, shown_last}
use Rattle.te_watch.proofs.publisher.show.Goals as goal

pub publish_as-writer-requires : goal.publish_as-writer-requires
publish_as-writer-requires g c next is =
    let w = c.append.new.self in
    let kept = c.loop.invariant in
    let pending : drop w.behind w.log.items ≡ c.loop.notice ∷ [] =
    c.in-Ok.ensures.pending ∙ ap (λ (ns : List Published). ns ++ c.loop.notice ∷ []) kept.4 in
    let last : next ≡ c.args.notice = is ∙ (shown_last w.desk.shown.value c.loop.notice _ pending ∙ kept.2) in
    let desk = c.in-Ok.ensures.desk ∙ kept.3 in
    keeps w.desk.place.id _ w.desk.shown.value next
    (ap (λ d. d.shown.value.watch) desk ∙ (c.requires.watch ∙ sym (ap (λ (p : Published). p.watch) last)))
