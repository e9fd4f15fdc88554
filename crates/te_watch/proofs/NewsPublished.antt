-- The news of a pass are what comes behind all that was published.
use Rattle.std.proofs.Common.{◌≡◌, ℕ, List, [], ◌++◌, length, drop, sym, ap, ◌∙◌, subst}
use mathlib.Core.List.{IsPrefix}
use Rattle.te_lock.specs.Lock.{Knowledge}
use Rattle.te_lock.proofs.Beginnings.{drop-front}
use Rattle.te_history.specs.declared.entry.Entry.{Entry}
use Rattle.te_board.specs.Boards.{IsLawful}
use Rattle.te_runtime.specs.declared.fault.SyncFault.{SyncFault}
use Rattle.te_runtime.specs.declared.fault.SyncFault.TheVariants as sync
use Rattle.te_runtime.specs.Refusals.{RefusesNews}
use Rattle.te_runtime.specs.Calls.{Called, Refused}
use Rattle.te_runtime.proofs.Calling.{prefix_then}
use Rattle.te_watch.specs.Publications.{RefusesPublish, as_publish}

rest_is : {E : Type 0} (xs ys : List E) → IsPrefix xs ys → xs ++ drop (length xs) ys ≡ ys
rest_is xs ys (more, is) =
    subst (λ zs. xs ++ drop (length xs) zs ≡ zs) is (ap (λ w. xs ++ w) (drop-front xs more))

-- what was published, and then the news, is what the pass has now read
pub with_news : {p q : Knowledge Entry} (list news : List Entry) → IsPrefix list p.read → Called p q [] → news ≡ drop (length list) q.read
    → list ++ news ≡ q.read
with_news {p} {q} list news begins called is =
    ap (λ (es : List Entry). list ++ es) is ∙ rest_is list q.read (prefix_then list p.read q.read begins called.begins)

pub news_lawful : {p q : Knowledge Entry} (callers : ℕ) (list news : List Entry) → IsPrefix list p.read → Called p q []
    → news ≡ drop (length list) q.read → p.lock.callers ≡ callers → IsLawful callers (list ++ news)
news_lawful {p} {q} callers list news begins called is same =
    let all : list ++ news ≡ q.read = with_news list news begins called is in
    let number : q.lock.callers ≡ callers = ap (λ l. l.callers) called.same.0 ∙ same in
    subst (λ (k : ℕ). IsLawful k (list ++ news)) number (subst (IsLawful q.lock.callers) (sym all) called.law)

pub news_refused_so : (p q : Knowledge Entry) (f : SyncFault) → Refused (λ _ _ fault. RefusesNews fault) p q f → RefusesPublish p q (as_publish f)
news_refused_so p q (sync.Busy word) held = held
news_refused_so p q sync.Memory r = r.0
news_refused_so p q (sync.Other status) r = absurd r.1
news_refused_so p q sync.Stuck r = absurd r.1
news_refused_so p q sync.Resting r = absurd r.1
news_refused_so p q (sync.Spent front paths groups) r = absurd r.1
news_refused_so p q sync.Full r = absurd r.1
