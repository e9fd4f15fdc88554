-- How the values of a publisher, a note and an observer are stored. No contract cites this module.
use Rattle.std.specs.Prelude.{ℕ, Bool, List, refl}
use Rattle.std.specs.Coded.{Coded, code_by, coded×, coded_ℕ, coded_bool, coded_list}
use Rattle.logbook.specs.Pages.{Book, book_coded}
use Rattle.te_history.specs.declared.entry.Entry.{Entry}
use Rattle.te_history.specs.contracts.entry.Entry as entry
use Rattle.te_watch.specs.Watches.{Watch, Published, Observed}

abbrev pub entries_code : Coded (List Entry)
entries_code = coded_list entry.the_row.coded

abbrev pub watch_code : Coded Watch
watch_code = code_by (Book × ℕ) (coded× book_coded coded_ℕ) (λ w. (w.book, w.callers)) (λ p. record { book = p.0; callers = p.1 }) (λ w. refl)

abbrev pub published_code : Coded Published
published_code =
    code_by (Watch × List Entry) (coded× watch_code entries_code) (λ p. (p.watch, p.list)) (λ p. record { watch = p.0; list = p.1 }) (λ p. refl)

abbrev pub observed_code : Coded Observed
observed_code =
    code_by (Watch × (List Entry × (List Entry × Bool))) (coded× watch_code (coded× entries_code (coded× entries_code coded_bool)))
    (λ o. (o.watch, (o.seen, (o.known, o.had_reading))))
    (λ p. record { watch = p.0; seen = p.1.0; known = p.1.1.0; had_reading = p.1.1.1 })
    (λ o. refl)
