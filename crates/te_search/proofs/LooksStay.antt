-- A look stays what it is while other paths of the batch go on.
use Rattle.std.proofs.Common.{◌≡◌, ◌<◌, ℕ, List, ◌++◌, length, Some, slice_get, ap, sym, ◌∙◌, subst}
use Rattle.std.proofs.Common.{arith}
use Rattle.te_trail.specs.Paths.{Path}
use Rattle.te_trail.specs.States.{path_state}
use Rattle.te_trail.specs.Trails.{Trail}
use Rattle.te_pair.specs.declared.end.End.{End}
use Rattle.te_pair.specs.Ends.{IsEnd, IsPartner}
use Rattle.te_search.specs.declared.batched.Look.{Look}
use Rattle.te_search.specs.declared.batched.Look.TheVariants as looks
use Rattle.te_search.specs.Groups.{IsFinal}
use Rattle.te_search.specs.Batches.{Batches, IsLook}
use Rattle.te_terms.proofs.Lists.{get_some}
use Rattle.te_terms.proofs.Lists.{get-longer}

-- the one store has the paths of the other and perhaps more
record Grows (old new : Trail) : Type 0 where
  news : List Path
  paths : new.paths ≡ old.paths ++ news
  events : new.events ≡ old.events

before : (old new : Trail) → Grows old new → (n : ℕ) (x : Path) → n < length old.paths → slice_get new.paths n ≡ Some x
    → slice_get old.paths n ≡ Some x
before old new g n x low ex =
    let y : (y : Path) × (slice_get old.paths n ≡ Some y) = get_some old.paths n low in
    let there : slice_get new.paths n ≡ Some y.0 = ap (λ l. slice_get l n) g.paths
    ∙ get-longer old.paths g.news n y.0 y.1 in
    y.1 ∙ sym there ∙ ex

after : (old new : Trail) → Grows old new → (n : ℕ) (x : Path) → slice_get old.paths n ≡ Some x
    → slice_get new.paths n ≡ Some x
after old new g n x ex = ap (λ l. slice_get l n) g.paths ∙ get-longer old.paths g.news n x ex

end_on : (old new : Trail) → Grows old new → (e : End) → IsEnd old e → IsEnd new e
end_on old new g e h = record {
  of = h.of;
  made = after old new g e.path h.of h.made;
  member = h.member;
  state = ap
      (λ t. path_state t h.of) g.events ∙ h.state;
  stands = h.stands;
}

end_back : (old new : Trail) → Grows old new → (e : End) → e.path < length old.paths → IsEnd new e → IsEnd old e
end_back old new g e low h = record {
  of = h.of;
  made = before old new g e.path h.of low h.made;
  member = h.member;
  state = ap (λ t. path_state t h.of) (sym g.events) ∙ h.state;
  stands = h.stands;
}

partner_on : (old new : Trail) → Grows old new → (kept : List End) (p q : ℕ) → p < length old.paths
    → q < length old.paths → IsPartner old kept p q → IsPartner new kept p q
partner_on old new g kept p q lp lq h = record {
  own = h.own;
  own_path = h.own_path;
  own_end = end_on old new g h.own h.own_end;
  other = h.other;
  other_path = h.other_path;
  other_kept = h.other_kept;
  channel = h.channel;
  direction = h.direction;
  agree = λ x y ex ey. h.agree x y (before old new g p x lp ex) (before old new g q y lq ey);
}

partner_back : (old new : Trail) → Grows old new → (kept : List End) (p q : ℕ) → p < length old.paths
    → IsPartner new kept p q → IsPartner old kept p q
partner_back old new g kept p q lp h = record {
  own = h.own;
  own_path = h.own_path;
  own_end = end_back old new g h.own (subst (λ n. n < length old.paths) (sym h.own_path) lp) h.own_end;
  other = h.other;
  other_path = h.other_path;
  other_kept = h.other_kept;
  channel = h.channel;
  direction = h.direction;
  agree = λ x y ex ey. h.agree x y (after old new g p x ex) (after old new g q y ey);
}

stays : (old new : Batches) → Grows old.trail new.trail → new.kept ≡ old.kept → (q : ℕ) → q < length old.trail.paths
    → (l : Look) → IsLook old q l → IsLook new q l
stays old new g kept q low looks.Final h = λ x ex. subst (λ t. IsFinal t x) (sym g.events)
    (h x (before old.trail new.trail g q x low ex))
stays old new g kept q low looks.Dead h = λ x m ex st. h x m (before old.trail new.trail g q x low ex)
    (ap (λ t. path_state t x) (sym g.events) ∙ st)
stays old new g kept q low looks.Fork h = λ x m ex st. h x m (before old.trail new.trail g q x low ex)
    (ap (λ t. path_state t x) (sym g.events) ∙ st)
stays old new g kept q low (looks.Ends others) h = (
  (λ x m ex st. h.0 x m (before old.trail new.trail g q x low ex) (ap (λ t. path_state t x) (sym g.events) ∙ st)),
  h.1,
  λ r. (
    (λ c. (let k : (r < q) × IsPartner old.trail old.kept q r = (h.2 r).0 c in (
      k.0,
      subst (λ w. IsPartner new.trail w q r) (sym kept)
          (partner_on old.trail new.trail g old.kept q r low (let a : r < q = k.0 in omega (arith, a, low)) k.1),
    ))),
    (λ k. (h.2 r).1 (
      k.0,
      partner_back old.trail new.trail g old.kept q r low
          (subst (λ w. IsPartner new.trail w q r) kept k.1),
    )),
  ),
)

pub look_stays : (old new : Batches) (news : List Path) → new.trail.paths ≡ old.trail.paths ++ news
    → new.trail.events ≡ old.trail.events → new.kept ≡ old.kept → (q : ℕ) (l : Look)
    → q < length old.trail.paths → IsLook old q l → IsLook new q l
look_stays old new news paths events kept q l low h = stays old new
    (record { news = news; paths = paths; events = events }) kept q low l h
