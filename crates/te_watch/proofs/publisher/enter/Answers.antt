use Rattle.std.proofs.Common.{◌≡◌, ℕ, ◌+◌, ◌++◌, List, length, sym, ap, ◌∙◌, subst, arith}
use Rattle.te_history.specs.declared.entry.Entry.{Entry}
use Rattle.te_board.specs.Boards.{IsLawful}
use Rattle.te_watch.specs.declared.ledger.Batch.{Batch}
use Rattle.te_watch.specs.Shadows.{Shadow, shadow, shadow_of}
use Rattle.te_watch.specs.Watches.{Published}
use Rattle.te_watch.specs.Views.{shadow_from}
use Rattle.te_watch.specs.Ledgers.{all_of}
use Rattle.te_watch.proofs.Shadowing.{commits_few, front_from, shadow-from}
use Rattle.te_watch.proofs.Counting.{adding_moves}
use Rattle.te_watch.proofs.publisher.enter.Goals as goal

pub after-view-requires-clause-commits : goal.after-view-requires-clause-commits
after-view-requires-clause-commits g c =
    let shown = c.notice.invariant.0 in
    omega (arith, ap (λ (s : Shadow). s.commits) shown, ap (λ (s : Shadow). s.front) shown, commits_few (all_of c.notice.inside.seen.log))

pub compare_exchange-found-requires : goal.compare_exchange-found-requires
compare_exchange-found-requires g c =
    let word = c.requires.word in
    let offer = c.plain-offer.ensures in
    let pen = c.no_pen-pen.ensures in
    let seen = c.again-seen.result in
    let view = c.notice.inside.view in
    let news = c.args.news.now in
    let book : seen.book ≡ c.args.word.now.book =
    ap (λ s. s.book) c.again-seen.ensures ∙ (ap (λ (p : Published). p.watch.book) c.notice.view_is ∙ sym (ap (λ w. w.book) word)) in
    let front : length (all_of seen.log) ≡ c.front-front.result =
    ap (λ s. length (all_of s.log)) c.again-seen.ensures ∙ (sym (ap (λ (s : Shadow). s.front) c.notice.invariant.0) ∙ sym c.front-front.ensures) in
    let next : c.front-front.result + length news ≡ c.front.result =
    let mine : c.front-front.result ≡ view.front = c.front-front.ensures in
    let its : c.front.result ≡ c.after-view.result.front = c.front.ensures in
    let more : c.after-view.result.front ≡ view.front + length news =
    ap (λ (s : Shadow). s.front) c.after-view.ensures.shadow ∙ (ap (λ (es : List Entry). (shadow_from (shadow_of view) es).front) c.as_slice.ensures
    ∙ front_from (shadow_of view) news) in
    ap (λ (n : ℕ). n + length news) mine ∙ sym (its ∙ more) in (
      ap (λ w. w.tracked) word,
      book,
      pen.0 ∙ book,
      offer.0,
      rw (ap (λ w. w.key) word, pen.1, offer.1, offer.3) (adding_moves seen.log (record { items = news }) c.front-front.result c.front.result front next),
    )

pub invariant_of-result : goal.invariant_of-result
invariant_of-result g c =
    let view = c.notice.inside.view in
    let old = c.notice.inside.seen.log in
    let news = c.args.news.now in
    let is : c.after-view.result.callers ≡ view.callers = c.after-view.ensures.callers in
    let list : all_of c.compare_exchange-found.new.seen.log ≡ all_of old ++ news =
    c.compare_exchange-found.ensures.7 c.if-found-front.true
    ∙ (ap (λ s. all_of s.log ++ c.plain-offer.result.ask.items) c.again-seen.ensures ∙ ap (λ (b : Batch). all_of old ++ b.items) c.plain-offer.ensures.1) in
    let shown : shadow_of c.after-view.result ≡ shadow view.callers (all_of old ++ news) =
    c.after-view.ensures.shadow ∙ (ap (λ (es : List Entry). shadow_from (shadow_of view) es) c.as_slice.ensures)
    ∙ (ap (λ (s : Shadow). shadow_from s news) c.notice.invariant.0 ∙ sym (shadow-from view.callers (all_of old) news)) in
    let law : IsLawful view.callers (all_of old ++ news) =
    subst (λ (p : Published). IsLawful p.watch.callers (p.list ++ news)) (sym c.notice.view_is) c.requires.law in
    let new = all_of c.compare_exchange-found.new.seen.log in (
      shown ∙ sym (λ i. shadow (is i) (list i)),
      subst (λ (k : ℕ). IsLawful k new) (sym is) (subst (IsLawful view.callers) (sym list) law),
    )
