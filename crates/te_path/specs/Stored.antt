-- Members in a stored form, by which a proof tells two of them apart.
use Rattle.std.specs.Prelude.{◌≡◌, ℕ, refl}
use Rattle.std.specs.Coded.{Coded}
use base.Stored.{Gv, gnum, gcons}
use Rattle.te_terms.specs.Terms.{Term}
use Rattle.te_terms.specs.Steps.{Member, come_to}
use Rattle.te_terms.specs.Stored.{coded_term}

abbrev member_stored : Member → Gv
member_stored m = gcons (gnum m.thread) (gcons (gnum m.ticket) (gcons (gnum m.count) (coded_term.code m.term)))

made_alike : (a b k l c d : ℕ) (t u : Term) → a ≡ b → k ≡ l → c ≡ d → t ≡ u → come_to a k c t ≡ come_to b l d u
made_alike a b k l c d t u p q r s = rw (p, q, r, s) refl

pub member_same : (m n : Member) → member_stored m ≡ member_stored n → m ≡ n
member_same m n p =
    let threads : m.thread ≡ n.thread = cc in
    let tickets : m.ticket ≡ n.ticket = cc in
    let counts : m.count ≡ n.count = cc in
    let terms : m.term ≡ n.term = coded_term.inj m.term n.term cc in
    made_alike m.thread n.thread m.ticket n.ticket m.count n.count m.term n.term threads tickets counts terms

abbrev pub coded_member : Coded Member
coded_member = record { code = member_stored; inj = member_same }
