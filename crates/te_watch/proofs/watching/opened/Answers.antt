use Rattle.std.proofs.Common.{◌≡◌, List, [], ◌∷◌, ◌++◌, drop, sym, ap, ◌∙◌}
use Rattle.te_watch.specs.Watches.{Published}
use Rattle.te_watch.proofs.OneName.{takes, shown_last}
use Rattle.te_watch.proofs.watching.opened.Goals as goal

pub publish_as-writer-requires : goal.publish_as-writer-requires
publish_as-writer-requires g c next is =
    let w = c.append.new.self in
    let made = c.in_ok-writer.ensures in
    let pending : drop w.behind w.log.items ≡ c.copy-3.result ∷ [] =
    c.in-Ok.ensures.pending ∙ ap (λ (ns : List Published). ns ++ c.copy-3.result ∷ []) made.1 in
    let last : next ≡ c.args.notice.now = is ∙ (shown_last w.desk.shown.value c.copy-3.result _ pending ∙ c.copy-3.ensures) in
    let shown : w.desk.shown.value ≡ c.args.notice.now = ap (λ d. d.shown.value) c.in-Ok.ensures.desk ∙ (made.0 ∙ c.copy.ensures) in
    takes w.desk.place.id _ w.desk.shown.value next (ap (λ (p : Published). p.watch) (shown ∙ sym last))
