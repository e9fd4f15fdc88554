-- What a kept store tells of its paths.
use Rattle.std.proofs.Common.{◌≡◌, ◌⊎◌, ◌<◌, ◌↔◌, inl, inr, ℕ, zero, suc, List, [], ◌∷◌, ◌++◌, Bool, true, false}
use Rattle.std.proofs.Common.{Option, Some, None, IsTrue, slice_get, refl, ap, sym, ◌∙◌, subst, nat_eq, eqb-true}
use Rattle.std.proofs.Common.{length, arith}
use Rattle.te_terms.specs.Steps.{Member, IsSettled}
use Rattle.te_terms.specs.Joint.{member_of}
use Rattle.te_path.specs.declared.cells.Cells.{Cells}
use Rattle.te_path.specs.declared.spot.Stop.{Stop}
use Rattle.te_path.specs.Paths.{StandsAt}
use Rattle.te_path.proofs.OneStop.{same_stop}
use Rattle.te_trail.specs.declared.planned.Planned.{Planned}
use Rattle.te_trail.specs.declared.store.PathRecord.{PathRecord}
use Rattle.te_trail.specs.declared.ticks.Tick.{Tick}
use Rattle.te_trail.specs.Paths.{Path, planted, branched, sent, got, thread_of, move_of}
use Rattle.te_trail.specs.Clocks.{Agree, IsSound}
use Rattle.te_trail.specs.States.{path_state, HasState}
use Rattle.te_trail.specs.Stores.{Holds, IsNext, with_move, with_moves, AreMade, IsStore, trail_of}
use Rattle.te_trail.specs.Views.{Chain, ChainOfBoth}
use Rattle.te_trail.specs.Trails.{Trail, TellsWhether, HaveOneChain, IsLeft, IsStop}
use Rattle.te_trail.specs.Records.{members_of, paths_of, RecordsAreKept, SpotSpells, RecordStands}
use Rattle.te_trail.proofs.ClockLaws.{Agrees, agrees_by, agree_by, differ}
use Rattle.te_trail.proofs.PastsChain.{grown_has}
use Rattle.te_trail.proofs.AgreeIsExact.{agree_together, together_agree, path_played}
use Rattle.te_trail.proofs.RecordsRead.{length_paths}
use Rattle.te_terms.proofs.Lists.{get_low, get_some}
use Rattle.te_trail.proofs.Ancestors.{node_at}

pub held : (xs : List Path) (k : ℕ) (x : Path) → slice_get xs k ≡ Some x → Holds xs x
held [] k x e = cc
held (y ∷ xs) zero x e = let one : y ≡ x = cc in inl (sym one)
held (y ∷ xs) (suc k) x e = inr (held xs k x e)

pub place_held : (xs : List Path) (x : Path) → Holds xs x → (k : ℕ) × (slice_get xs k ≡ Some x)
place_held [] x h = absurd h
place_held (y ∷ xs) x (inl e) = (0, ap Some (sym e))
place_held (y ∷ xs) x (inr h) = let r : (k : ℕ) × (slice_get xs k ≡ Some x) = place_held xs x h in (suc r.0, r.1)

pub is_store : (events : List Planned) (cells : Cells) (records : List PathRecord) (ticks : List Tick) → RecordsAreKept events cells records ticks → IsStore (members_of events) (paths_of records)
is_store events cells records ticks kept = record {
  made = kept.made;
  sound = λ x h. sound x (place_held (paths_of records) x h);
  state = λ x h. state x (place_held (paths_of records) x h);
  once = kept.fit.once;
  pairs = kept.pairs;
}
  where
    sound : (x : Path) → (k : ℕ) × (slice_get (paths_of records) k ≡ Some x) → IsSound x
    sound x (k, e) = let n : (n : PathRecord) × (slice_get records k ≡ Some n) = node_at records k x e in (kept.fit.fits k n.0 x n.1 e).sound

    state : (x : Path) → (k : ℕ) × (slice_get (paths_of records) k ≡ Some x) → HasState (members_of events) x
    state x (k, e) = let n : (n : PathRecord) × (slice_get records k ≡ Some n) = node_at records k x e in let s : RecordStands events cells n.0 x = kept.stands k n.0 x n.1 e in (s.member, s.state)

-- ---- agreement

pub tells_agree : (g : List Member) (paths : List Path) → IsStore g paths → (p q : ℕ) (answer : Bool) → TellsWhether paths p q Agrees answer → TellsWhether paths p q Agree answer
tells_agree g paths store p q answer tells x y ex ey =
    ((λ t. agree_by x y ((tells x y ex ey).0 t)), (λ a. (tells x y ex ey).1 (agrees_by x y (store.sound x (held paths p x ex)) (store.sound y (held paths q y ey)) a)))

pub tells_chain : (g : List Member) (paths : List Path) → IsStore g paths → (p q : ℕ) (answer : Bool) → TellsWhether paths p q Agrees answer → TellsWhether paths p q (HaveOneChain g) answer
tells_chain g paths store p q answer tells x y ex ey = ((λ t. there ((tells x y ex ey).0 t)), (λ c. (tells x y ex ey).1 (back c)))
  where
    there : Agrees x y → HaveOneChain g x y
    there a = ((agree_by x y a).apart, agree_together g paths store x y (held paths p x ex) (held paths q y ey) a)

    apart : (o : Bool) → nat_eq (thread_of x) (thread_of y) ≡ o → (thread_of x ≡ thread_of y → ⊥) → nat_eq (thread_of x) (thread_of y) ≡ false
    apart true e ne = absurd (ne (eqb-true (thread_of x) (thread_of y) e))
    apart false e ne = e

    back : HaveOneChain g x y → Agrees x y
    back (ne, c) = together_agree g paths store x y (held paths p x ex) (held paths q y ey) (apart (nat_eq (thread_of x) (thread_of y)) refl ne) c

-- ---- stops

pub is_left : (g : List Member) (paths : List Path) → IsStore g paths → (p : ℕ) (x : Path) (m : Member) → slice_get paths p ≡ Some x → path_state g x ≡ Some m → IsSettled m → IsLeft g paths x m
is_left g paths store p x m e state quiet =
    let played : (chain : Chain g (trail_of paths x)) × (member_of (thread_of x) chain.end ≡ path_state g x) = path_played g paths store x (held paths p x e) in
    record { chain = played.0; left = played.1 ∙ state; settled = quiet; state = state }

one_state : (g : List Member) (x : Path) (m n : Member) → path_state g x ≡ Some m → path_state g x ≡ Some n → m ≡ n
one_state g x m n e f = cc

-- where the record of a path stands
pub record Standing (events : List Planned) (records : List PathRecord) (p : ℕ) (n : PathRecord) : Type 0 where
  pub path : Path
  pub is_path : slice_get (paths_of records) p ≡ Some path
  pub left : (x : Path) → slice_get (paths_of records) p ≡ Some x → (m : Member) × IsLeft (members_of events) (paths_of records) x m × StandsAt m.term n.spot.stop
  pub only : (x : Path) (m : Member) (stop : Stop) → slice_get (paths_of records) p ≡ Some x → path_state (members_of events) x ≡ Some m → StandsAt m.term stop → n.spot.stop ≡ stop

pub standing : (events : List Planned) (cells : Cells) (records : List PathRecord) (ticks : List Tick)
    → RecordsAreKept events cells records ticks → (p : ℕ) (n : PathRecord) → slice_get records p ≡ Some n
    → Standing events records p n
standing events cells records ticks kept p n en = record {
  path = x.0;
  is_path = x.1;
  left = λ y ey. leaves y (kept.stands p n y en ey) ey;
  only = λ y m stop ey sm st. one y m stop (kept.stands p n y en ey) sm st;
}
  where
    x : (x : Path) × (slice_get (paths_of records) p ≡ Some x)
    x = get_some (paths_of records) p (omega (arith, get_low records n p en, length_paths records))

    stands : (y : Path) (s : RecordStands events cells n y) → StandsAt s.member.term n.spot.stop
    stands y s = subst (λ m. StandsAt m.term n.spot.stop) s.spot.spells s.spot.is_spot.stands

    leaves : (y : Path) → RecordStands events cells n y → slice_get (paths_of records) p ≡ Some y → (m : Member) × IsLeft (members_of events) (paths_of records) y m × StandsAt m.term n.spot.stop
    leaves y s ey = (
      s.member,
      is_left (members_of events) (paths_of records)
          (is_store events cells records ticks kept) p y s.member ey s.state
          (subst IsSettled s.spot.spells s.spot.is_spot.settled),
      stands y s,
    )

    one : (y : Path) (m : Member) (stop : Stop) (s : RecordStands events cells n y) → path_state (members_of events) y ≡ Some m → StandsAt m.term stop → n.spot.stop ≡ stop
    one y m stop s sm st = same_stop s.member.term n.spot.stop stop (stands y s) (subst (λ z. StandsAt z.term stop) (one_state (members_of events) y m s.member sm s.state) st)

pub stop_told : (events : List Planned) (records : List PathRecord) (store : Trail) (p : ℕ) (n : PathRecord)
    (stop : Stop) → Standing events records p n → members_of events ≡ store.events → paths_of records ≡ store.paths
    → stop ≡ n.spot.stop → IsStop store p stop
stop_told events records store p n stop s eg ep es x ex =
    let l : (m : Member) × IsLeft (members_of events) (paths_of records) x m × StandsAt m.term n.spot.stop = s.left x (ap (λ ps. slice_get ps p) ep ∙ ex) in
    (l.0, subst (λ g. IsLeft g store.paths x l.0) eg (subst (λ ps. IsLeft (members_of events) ps x l.0) ep l.1), subst (StandsAt l.0.term) (sym es) l.2)

pub stop_only : (events : List Planned) (records : List PathRecord) (store : Trail) (p : ℕ) (n : PathRecord)
    (stop : Stop) → Standing events records p n → members_of events ≡ store.events → paths_of records ≡ store.paths
    → stop ≡ n.spot.stop → (x : Path) (m : Member) (other : Stop) → slice_get store.paths p ≡ Some x
    → path_state store.events x ≡ Some m → StandsAt m.term other → stop ≡ other
stop_only events records store p n stop s eg ep es x m other ex sm st = es ∙ s.only x m other (ap (λ ps. slice_get ps p) ep ∙ ex) (ap (λ g. path_state g x) eg ∙ sm) st

pub sounds : (events : List Planned) (cells : Cells) (records : List PathRecord) (ticks : List Tick) (paths : List Path)
    → RecordsAreKept events cells records ticks → paths_of records ≡ paths → (k : ℕ) (x : Path)
    → slice_get paths k ≡ Some x → IsSound x
sounds events cells records ticks paths kept view k x e = (is_store events cells records ticks kept).sound x (held (paths_of records) k x (ap (λ ps. slice_get ps k) view ∙ e))
