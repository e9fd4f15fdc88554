-- Paths and stores in a stored form, by which a proof tells two of them apart.
use Rattle.std.specs.Prelude.{◌≡◌, ℕ, List, Bool, true, false, refl}
use Rattle.std.proofs.Common.{ap, ap₂}
use Rattle.std.specs.Coded.{Coded, code_by, coded×, coded_ℕ, coded_list}
use base.Stored.{Gv, gnum, gcons}
use Rattle.te_terms.specs.Steps.{Member}
use Rattle.te_path.specs.Stored.{coded_member}
use Rattle.te_trail.specs.Paths.{Path, planted, branched, sent, got}
use Rattle.te_trail.specs.Trails.{Trail, Mark}

letter : Bool → ℕ
letter true = 1
letter false = 0

letter_same : (x y : Bool) → letter x ≡ letter y → x ≡ y
unfolding letter
letter_same true true p = refl
letter_same false false p = refl
letter_same true false p = cc
letter_same false true p = cc

pub path_stored : Path → Gv
path_stored (planted t) = gcons (gnum 0) (gnum t)
path_stored (branched p left) = gcons (gnum 1) (gcons (path_stored p) (gnum (letter left)))
path_stored (sent s r) = gcons (gnum 2) (gcons (path_stored s) (path_stored r))
path_stored (got s r) = gcons (gnum 3) (gcons (path_stored s) (path_stored r))

pub path_same : (x y : Path) → path_stored x ≡ path_stored y → x ≡ y
unfolding path_stored
path_same (planted t) (planted u) p = cc
path_same (branched x l) (branched y m) p =
    let q : path_stored x ≡ path_stored y = cc in
    let r : letter l ≡ letter m = cc in
    ap₂ branched (path_same x y q) (letter_same l m r)
path_same (sent s r) (sent a b) p =
    let q : path_stored s ≡ path_stored a = cc in
    let k : path_stored r ≡ path_stored b = cc in
    ap₂ sent (path_same s a q) (path_same r b k)
path_same (got s r) (got a b) p =
    let q : path_stored s ≡ path_stored a = cc in
    let k : path_stored r ≡ path_stored b = cc in
    ap₂ got (path_same s a q) (path_same r b k)
path_same _ _ p = cc

abbrev pub coded_path : Coded Path
coded_path = record { code = path_stored; inj = path_same }

abbrev pub coded_mark : Coded Mark
coded_mark = code_by (ℕ × ℕ) (coded× coded_ℕ coded_ℕ) (λ m. (m.events, m.paths)) (λ p. record { events = p.0; paths = p.1 }) (λ _. refl)

abbrev pub coded_trail : Coded Trail
coded_trail = code_by (List Member × (List Path × List Mark))
    (coded× (coded_list coded_member) (coded× (coded_list coded_path) (coded_list coded_mark)))
    (λ t. (t.events, (t.paths, t.marks))) (λ p. record { events = p.0; paths = p.1.0; marks = p.1.1 }) (λ _. refl)
