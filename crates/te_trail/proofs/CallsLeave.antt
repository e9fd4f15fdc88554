-- What the calls of a store leave.
use Rattle.std.proofs.Common.{◌≡◌, ◌⊎◌, ◌≤◌, ◌<◌, inl, inr, ℕ, zero, suc, ◌+◌, List, [], ◌∷◌, ◌++◌, Bool, true, false}
use Rattle.std.proofs.Common.{cond, Option, Some, None, slice_get, get_or, take, length, map, refl, ap, ap₂, sym, ◌∙◌}
use Rattle.std.proofs.Common.{subst, arith, append_assoc, length-append}
use Rattle.std.proofs.lemmas.List.{map-append, length-map}
use Rattle.std.proofs.lemmas.Option.{slice_get-map}
use Rattle.std.specs.Option.{option_map}
use Rattle.te_terms.specs.Steps.{Member}
use Rattle.te_terms.specs.Joint.{member_of, after_choice}
use Rattle.te_terms.specs.Settling.{settled}
use Rattle.te_path.specs.declared.cells.Cells.{Cells}
use Rattle.te_path.specs.declared.spot.Spot.{Spot}
use Rattle.te_path.specs.Growth.{IsMarkOf, cut_to}
use Rattle.te_path.specs.Paths.{IsChoice, StepsTo}
use Rattle.te_path.specs.Spots.{spelled, IsSpot}
use Rattle.te_trail.specs.declared.planned.Planned.{Planned}
use Rattle.te_trail.specs.declared.store.PathRecord.{PathRecord}
use Rattle.te_trail.specs.declared.store.StoreMark.{StoreMark}
use Rattle.te_trail.specs.declared.store.Last.{Last}
use Rattle.te_trail.specs.declared.ticks.Tick.{Tick}
use Rattle.te_trail.specs.declared.ticks.Stretch.{Stretch}
use Rattle.te_trail.specs.Paths.{Path, planted, branched, sent, got, thread_of, move_of}
use Rattle.te_trail.specs.Clocks.{Agree}
use Rattle.te_trail.specs.States.{MovedEnds, members_met, path_state}
use Rattle.te_trail.specs.Stores.{Holds, with_move, with_moves, AreMade, IsStore}
use Rattle.te_trail.specs.Ticks.{StretchIsWithin, ticks_of, merged, marked, Joins, Raises}
use Rattle.te_trail.specs.Trails.{Trail, Mark, with_paths, with_event, with_mark, back_at, IsUnplanted, IsPlanted}
use Rattle.te_trail.specs.Trails.{IsAtChoice, IsUnmade, IsBranched, FaceEachOther, AreMeetingEnds, AreAgreeing}
use Rattle.te_trail.specs.Trails.{AreUnmet, HaveMet, IsCut}
use Rattle.te_trail.specs.Records.{origin_at, member_of_event, members_of, paths_of, mark_seen, FitsAll, Fits, SpotSpells, RecordStands, BothMet, RecordsAreKept, IsMarked, StoreIsWhole}
use Rattle.te_trail.proofs.ClockLaws.{Agrees, agrees_by}
use Rattle.te_trail.proofs.PastsChain.{grown_has}
use Rattle.te_trail.proofs.MovesChain.{state_after}
use Rattle.te_trail.proofs.RecordsRead.{got_or, length_paths, record_there}
use Rattle.te_terms.proofs.Lists.{get_taken, get_low, found_here, get_some, one_item}
use Rattle.te_trail.proofs.RecordsPut.{AreNew, Missing}
use Rattle.te_trail.proofs.NewPaths.{planted_record, plant_new, branched_record, SideIs, branch_new, sender_record, receiver_record, met_records, meet_new}
use Rattle.te_trail.proofs.EventsFound.{event_found, members_put}
use Rattle.te_trail.proofs.StoresHold.{held, place_held, is_store}
use Rattle.te_trail.proofs.StoresKeep.{AreAdded, whole_pushed, whole_marked, whole_cut}
use Rattle.te_trail.proofs.SpotsMove.{branch_state}

abbrev pub viewed : List Planned → List PathRecord → List StoreMark → Trail
viewed events records marks = record { events = members_of events; paths = paths_of records; marks = map mark_seen marks }

-- ---- moves that are there

pub moves_held : (rest moves : List Path) (m : Path) → Holds (with_moves moves rest) m → Holds moves m ⊎ Holds rest m
moves_held [] moves m h = inl h
moves_held (x ∷ rest) moves m h = elim (moves_held rest (with_move moves x) m h) [ inl a ↦ one x a | inr b ↦ inr (inr b) ]
  where
    one : (x : Path) → Holds (with_move moves x) m → Holds moves m ⊎ Holds (x ∷ rest) m
    one (planted t) (inl e) = inr (inl e)
    one (planted t) (inr h) = inl h
    one (branched p left) (inl e) = inr (inl e)
    one (branched p left) (inr h) = inl h
    one (sent s r) (inl e) = inr (inl e)
    one (sent s r) (inr h) = inl h
    one (got s r) h = inl h

not_moved : (paths : List Path) (m : Path) → (¬ Holds paths m) → Holds (with_moves [] paths) m → ⊥
not_moved paths m none h = elim (moves_held paths [] m h) [ inl a ↦ a | inr b ↦ none b ]

missing : (paths : List Path) (x : Path) → (¬ Holds paths x) → Missing paths x
missing paths x none i e = none (held paths i x e)

got_missing : (paths : List Path) (x y : Path) → AreMade [] paths → (¬ Holds paths (sent x y)) → Missing paths (got x y)
got_missing paths x y made none i e = not_moved paths (sent x y) none (grown_has paths [] (got x y) made (held paths i (got x y) e))

-- ---- more paths

pub record Leaves (events : List Planned) (cells : Cells) (records : List PathRecord) (ticks : List Tick) (marks : List StoreMark) (new : Trail) : Type 0 where
  pub whole : StoreIsWhole events cells records ticks marks
  pub view : viewed events records marks ≡ new

leaves : (events : List Planned) (cells : Cells) (records : List PathRecord) (ticks : List Tick)
    (marks : List StoreMark) (old : Trail) → StoreIsWhole events cells records ticks marks
    → viewed events records marks ≡ old → (ns : List PathRecord) (xs : List Path) (out : List Tick)
    → AreAdded events cells records ticks ns xs out → (records2 : List PathRecord) (ticks2 : List Tick)
    → records2 ≡ records ++ ns → ticks2 ≡ ticks ++ out → Leaves events cells records2 ticks2 marks (with_paths old xs)
leaves events cells records ticks marks old w v ns xs out added records2 ticks2 en et =
    subst (λ n. Leaves events cells n ticks2 marks (with_paths old xs)) (sym en)
    (subst (λ t. Leaves events cells (records ++ ns) t marks (with_paths old xs)) (sym et) (record {
      whole = r.1;
      view = ap (λ p. record { events = members_of events; paths = p; marks = map mark_seen marks }) r.0 ∙ ap (λ o. with_paths o xs) v;
    }))
  where
    r : (paths_of (records ++ ns) ≡ paths_of records ++ xs) × StoreIsWhole events cells (records ++ ns) (ticks ++ out) marks
    r = whole_pushed events cells records ticks marks ns xs out w added

-- one record and one path
only_one : {A : Type 0} (x y : A) (k : ℕ) → slice_get (x ∷ []) k ≡ Some y → x ≡ y
only_one x y zero e = cc
only_one x y (suc k) e = cc

no_pair : (x : Path) (k : ℕ) (s r : Path) → slice_get (x ∷ []) k ≡ Some (sent s r) → ((u v : Path) → x ≡ sent u v → ⊥) → slice_get (x ∷ []) (suc k) ≡ Some (got s r)
no_pair x k s r e apart = absurd (apart s r (only_one x (sent s r) k e))

-- ---- plant

pub plant_leaves : (events : List Planned) (cells : Cells) (records : List PathRecord) (ticks : List Tick)
    (marks : List StoreMark) (old : Trail) → StoreIsWhole events cells records ticks marks
    → viewed events records marks ≡ old → (i : ℕ) (e : Planned) → slice_get events i ≡ Some e → (spot : Spot)
    → IsSpot (origin_at e) cells spot → spelled (origin_at e) cells spot ≡ settled (member_of_event e)
    → IsUnplanted old i → (number at : ℕ) → number ≡ length records → at ≡ length ticks → length old.paths < 2147483648
    → (records2 : List PathRecord) (ticks2 : List Tick) → records2 ≡ records
    ++ (planted_record spot i e.thread (record { at = at; len = 1 }) ∷ [])
    → ticks2 ≡ ticks ++ (record { thread = e.thread; path = number } ∷ [])
    → StoreIsWhole events cells records2 ticks2 marks × IsPlanted old i (viewed events records2 marks)
plant_leaves events cells records ticks marks old w v i e ae spot is spells free number at en ea room records2 ticks2 e1
    e2 = (l.whole, λ m em. l.view ∙ ap (λ t. with_paths old (planted t ∷ [])) (same m em))
  where
    event_at : slice_get (members_of events) i ≡ Some (member_of_event e)
    event_at = slice_get-map member_of_event events i ∙ ap (option_map member_of_event) ae

    same : (m : Member) → slice_get old.events i ≡ Some m → e.thread ≡ m.thread
    same m em = let there : slice_get (members_of events) i ≡ Some m = ap (λ o. slice_get o.events i) v ∙ em in
        ap (λ z. z.thread) (one_item (slice_get (members_of events) i) (member_of_event e) m event_at there)

    none : ¬ Holds (paths_of records) (planted e.thread)
    none = subst (λ o. ¬ Holds o.paths (planted e.thread)) (sym v) (free (member_of_event e) (ap (λ o. slice_get o.events i) (sym v) ∙ event_at))

    low : length records < 2147483648
    low = omega (arith, room, length_paths records, ap (λ o. length o.paths) v)

    state : path_state (members_of events) (planted e.thread) ≡ Some (settled (member_of_event e))
    state = ap (option_map settled) (event_found events w.kept.events_are i e ae)

    l : Leaves events cells records2 ticks2 marks (with_paths old (planted e.thread ∷ []))
    l = leaves events cells records ticks marks old w v (planted_record spot i e.thread (record { at = at; len = 1 })
        ∷ []) (planted e.thread ∷ []) (record { thread = e.thread; path = number } ∷ []) (record {
          new = plant_new records ticks spot i e.thread number (record { at = at; len = 1 }) en ea refl (missing (paths_of records) (planted e.thread) none);
          made = (not_moved (paths_of records) (planted e.thread) none, tt);
          pairs = λ k a b ek. no_pair (planted e.thread) k a b ek (λ u v is. cc);
          stands = λ k n x nn nx. subst (RecordStands events cells n) (only_one (planted e.thread) x k nx)
              (subst (λ z. RecordStands events cells z (planted e.thread))
              (only_one (planted_record spot i e.thread (record { at = at; len = 1 })) n k nn)
              (record {
                member = settled (member_of_event e);
                state = state;
                spot =
                    record { event = e; is_event = ae; is_spot = is; spells = spells };
              }));
          few = omega (arith, low);
        }) records2 ticks2 e1 e2

-- ---- branch

-- a path by its number
pub record PathThere (events : List Planned) (cells : Cells) (records : List PathRecord) (ticks : List Tick) (p : ℕ) (n : PathRecord) : Type 0 where
  pub path : Path
  pub record_at : slice_get records p ≡ Some n
  pub path_at : slice_get (paths_of records) p ≡ Some path
  pub within : StretchIsWithin ticks n.clock
  pub stands : RecordStands events cells n path

pub path_there : (events : List Planned) (cells : Cells) (records : List PathRecord) (ticks : List Tick)
    (marks : List StoreMark) (old : Trail) → StoreIsWhole events cells records ticks marks
    → viewed events records marks ≡ old → (p : ℕ) (n : PathRecord) → p < length old.paths → n ≡ get_or records p n
    → PathThere events cells records ticks p n
path_there events cells records ticks marks old w v p n h e =
    record {
      path = x.0;
      record_at = en;
      path_at = x.1;
      within = (w.kept.fit.fits p n x.0 en x.1).within;
      stands =
          w.kept.stands p n x.0 en x.1;
    }
  where
    en : slice_get records p ≡ Some n
    en = record_there records old.paths p n (ap (λ o. o.paths) v) h e

    x : (x : Path) × (slice_get (paths_of records) p ≡ Some x)
    x = get_some (paths_of records) p (omega (arith, get_low records n p en, length_paths records))

pub path_chooses : (events : List Planned) (cells : Cells) (records : List PathRecord) (ticks : List Tick)
    (marks : List StoreMark) (old : Trail) → viewed events records marks ≡ old
    → (p : ℕ) (n : PathRecord) (t : PathThere events cells records ticks p n) → IsAtChoice old p
    → IsChoice t.stands.member.term
path_chooses events cells records ticks marks old v p n t is =
    is t.path t.stands.member (ap (λ o. slice_get o.paths p) (sym v) ∙ t.path_at)
    (ap (λ o. path_state o.events t.path) (sym v) ∙ t.stands.state)

pub branch_leaves : (events : List Planned) (cells : Cells) (records : List PathRecord) (ticks : List Tick)
    (marks : List StoreMark) (old : Trail) → StoreIsWhole events cells records ticks marks
    → viewed events records marks ≡ old → (p : ℕ) (n : PathRecord) → (x : Path) → slice_get records p ≡ Some n
    → slice_get (paths_of records) p ≡ Some x → (m : Member) → path_state (members_of events) x ≡ Some m → (e : Planned)
    → slice_get events n.event ≡ Some e → (spot : Spot) → IsSpot (origin_at e) cells spot → (left : Bool) (l : Last)
    → SideIs left l → StepsTo m (after_choice left m.term) (spelled (origin_at e) cells spot) → IsUnmade old p left
    → (number : ℕ) → number ≡ length records → length old.paths < 2147483648 → (c : Stretch) (ticks2 : List Tick)
    → Raises ticks ticks2 n.clock (record { thread = n.thread; path = number }) c → (records2 : List PathRecord)
    → records2 ≡ records ++ (branched_record spot n.event n.thread l p c ∷ [])
    → StoreIsWhole events cells records2 ticks2 marks × IsBranched old p left (viewed events records2 marks)
branch_leaves events cells records ticks marks old w v p n x en ex m sx e ae spot is left side sl step free number num
    room c ticks2 r records2 e1 = (
      l.whole,
      λ y ey. l.view ∙ ap (λ z. with_paths old (branched z left ∷ []))
          (same y ey),
    )
  where
    there : slice_get old.paths p ≡ Some x
    there = ap (λ o. slice_get o.paths p) (sym v) ∙ ex

    same : (y : Path) → slice_get old.paths p ≡ Some y → x ≡ y
    same y ey = cc

    none : ¬ Holds (paths_of records) (branched x left)
    none = subst (λ o. ¬ Holds o.paths (branched x left)) (sym v) (free x there)

    low : length records < 2147483648
    low = omega (arith, room, length_paths records, ap (λ o. length o.paths) v)

    own : Tick
    own = record { thread = n.thread; path = number }

    l : Leaves events cells records2 ticks2 marks (with_paths old (branched x left ∷ []))
    l = leaves events cells records ticks marks old w v (branched_record spot n.event n.thread side p c ∷ [])
        (branched x left ∷ []) (map (marked (record { thread = n.thread; path = number })
        (record { thread = n.thread; path = number })) (ticks_of ticks n.clock)) (record {
          new = branch_new records ticks w.kept.fit spot n.event p n x en ex left side sl
              (record { thread = n.thread; path = number }) refl num c r.at r.len
              (missing (paths_of records) (branched x left) none);
          made = ((grown_has (paths_of records) [] x w.kept.made (held (paths_of records) p x ex), not_moved (paths_of records) (branched x left) none), tt);
          pairs = λ k u z ek. no_pair (branched x left) k u z ek (λ u2 v is. cc);
          stands = λ k a y na ny. subst (RecordStands events cells a) (only_one (branched x left) y k ny)
              (subst (λ z. RecordStands events cells z (branched x left))
              (only_one (branched_record spot n.event n.thread side p c) a k na)
              (record {
                member = spelled (origin_at e) cells spot;
                state =
                    branch_state (members_of events) x left m (spelled (origin_at e) cells spot) sx step;
                spot =
                    record { event = e; is_event = ae; is_spot = is; spells = refl };
              }));
          few = omega (arith, low);
        }) records2 ticks2 e1 r.appended

-- ---- meet

pub paths_face : (events : List Planned) (cells : Cells) (records : List PathRecord) (ticks : List Tick)
    (marks : List StoreMark) (old : Trail) → viewed events records marks ≡ old
    → (p q : ℕ) (n k : PathRecord) (t : PathThere events cells records ticks p n)
    (u : PathThere events cells records ticks q k) → AreMeetingEnds old p q
    → FaceEachOther t.stands.member u.stands.member
paths_face events cells records ticks marks old v p q n k t u are =
    are t.path u.path t.stands.member u.stands.member (ap (λ o. slice_get o.paths p) (sym v) ∙ t.path_at)
    (ap (λ o. slice_get o.paths q) (sym v) ∙ u.path_at) (ap (λ o. path_state o.events t.path) (sym v) ∙ t.stands.state)
    (ap (λ o. path_state o.events u.path) (sym v) ∙ u.stands.state)

-- one spot spells one member
pub one_member : (events : List Planned) (c : Cells) (i : ℕ) (s : Spot) (a b : Member) → SpotSpells events c i s a → SpotSpells events c i s b → a ≡ b
one_member events c i s a b sa sb =
    let one : sa.event ≡ sb.event = (let x : slice_get events i ≡ Some sa.event = sa.is_event in let y : slice_get events i ≡ Some sb.event = sb.is_event in cc) in
    sym sa.spells ∙ ap (λ e. spelled (origin_at e) c s) one ∙ sb.spells

pub meet_leaves : (events : List Planned) (cells : Cells) (records : List PathRecord) (ticks : List Tick)
    (marks : List StoreMark) (old : Trail) → StoreIsWhole events cells records ticks marks
    → viewed events records marks ≡ old → (p q : ℕ) (n k : PathRecord) (x y : Path) → slice_get records p ≡ Some n
    → slice_get (paths_of records) p ≡ Some x → slice_get records q ≡ Some k → slice_get (paths_of records) q ≡ Some y
    → (a b : Member) → path_state (members_of events) x ≡ Some a → path_state (members_of events) y ≡ Some b
    → (s r : Spot) → BothMet events cells n.event s k.event r a b → AreAgreeing old p q → AreUnmet old p q
    → (number : ℕ) → number ≡ length records → length old.paths < 2147483648 → (c : Stretch) (ticks2 : List Tick)
    → Joins ticks ticks2 n.clock k.clock (record { thread = n.thread; path = number })
    (record { thread = k.thread; path = number + 1 }) c → (records2 : List PathRecord)
    → records2 ≡ records ++ met_records (sender_record s n.event n.thread p c) (receiver_record r k.event k.thread q c)
    → StoreIsWhole events cells records2 ticks2 marks × HaveMet old p q (viewed events records2 marks)
meet_leaves events cells records ticks marks old w v p q n k x y en ex ek ey a b sx sy s r both agree free number num
    room c ticks2 j records2 e1 = (
      l.whole,
      λ x2 y2 f2 g2. l.view ∙ ap₂
          (λ z u. with_paths old (sent z u ∷ (got z u ∷ []))) (one (slice_get old.paths p) x x2 there_x f2)
          (one (slice_get old.paths q) y y2 there_y g2),
    )
  where
    one : {A : Type 0} (o : Option A) (u z : A) → o ≡ Some u → o ≡ Some z → u ≡ z
    one o u z f g = cc

    there_x : slice_get old.paths p ≡ Some x
    there_x = ap (λ o. slice_get o.paths p) (sym v) ∙ ex

    there_y : slice_get old.paths q ≡ Some y
    there_y = ap (λ o. slice_get o.paths q) (sym v) ∙ ey

    store : IsStore (members_of events) (paths_of records)
    store = is_store events cells records ticks w.kept

    hx : Holds (paths_of records) x
    hx = held (paths_of records) p x ex

    hy : Holds (paths_of records) y
    hy = held (paths_of records) q y ey

    ag : Agrees x y
    ag = agrees_by x y (store.sound x hx) (store.sound y hy) (agree x y there_x there_y)

    none : ¬ Holds (paths_of records) (sent x y)
    none = subst (λ o. ¬ Holds o.paths (sent x y)) (sym v) (free x y there_x there_y)

    low : length records < 2147483648
    low = omega (arith, room, length_paths records, ap (λ o. length o.paths) v)

    states : (path_state (members_of events) (sent x y) ≡ Some (settled both.ends.sender)) × (path_state (members_of events) (got x y) ≡ Some (settled both.ends.receiver))
    states = state_after (members_of events) x y a b both.ends sx sy both.meeting

    first : PathRecord
    first = sender_record s n.event n.thread p c

    second : PathRecord
    second = receiver_record r k.event k.thread q c

    stand : (i : ℕ) (z : PathRecord) (u : Path) → slice_get (met_records (sender_record s n.event n.thread p c)
        (receiver_record r k.event k.thread q c)) i ≡ Some z → slice_get (sent x y ∷ (got x y ∷ [])) i ≡ Some u
        → RecordStands events cells z u
    stand zero z u ez eu = let f : sender_record s n.event n.thread p c ≡ z = cc in let g : sent x y ≡ u = cc in
        subst (RecordStands events cells z) g (subst (λ t. RecordStands events cells t (sent x y)) f
        (record { member = settled both.ends.sender; state = states.0; spot = both.sender }))
    stand (suc zero) z u ez eu = let f : receiver_record r k.event k.thread q c ≡ z = cc in let g : got x y ≡ u = cc in
        subst (RecordStands events cells z) g (subst (λ t. RecordStands events cells t (got x y)) f
        (record { member = settled both.ends.receiver; state = states.1; spot = both.receiver }))
    stand (suc (suc i)) z u ez eu = cc

    pair : (i : ℕ) (u z : Path) → slice_get (sent x y ∷ (got x y ∷ [])) i ≡ Some (sent u z) → slice_get (sent x y ∷ (got x y ∷ [])) (suc i) ≡ Some (got u z)
    pair zero u z e = let f : x ≡ u = cc in let g : y ≡ z = cc in ap₂ (λ s r. Some (got s r)) f g
    pair (suc zero) u z e = cc
    pair (suc (suc i)) u z e = cc

    l : Leaves events cells records2 ticks2 marks (with_paths old (sent x y ∷ (got x y ∷ [])))
    l = leaves events cells records ticks marks old w v (met_records (sender_record s n.event n.thread p c)
        (receiver_record r k.event k.thread q c)) (sent x y ∷ (got x y ∷ []))
        (map (marked (record { thread = n.thread; path = number }) (record { thread = k.thread; path = number + 1 }))
        (merged (ticks_of ticks n.clock) (ticks_of ticks k.clock))) (record {
          new = meet_new records ticks w.kept.fit s r n.event k.event p q n k x y en ex ek ey ag
              (record { thread = n.thread; path = number }) (record { thread = k.thread; path = number + 1 }) refl refl num
              (ap (λ i. i + 1) num) c j.at j.len (missing (paths_of records) (sent x y) none)
              (got_missing (paths_of records) x y w.kept.made none);
          made = ((grown_has (paths_of records) [] x w.kept.made hx, grown_has (paths_of records) [] y w.kept.made hy, not_moved (paths_of records) (sent x y) none), (inl refl, tt));
          pairs = pair;
          stands = stand;
          few = omega (arith, low);
        }) records2 ticks2 e1 j.appended

-- ---- put, mark, cut

pub put_view : (events : List Planned) (new : Planned) (records : List PathRecord) (marks : List StoreMark)
    (old : Trail) → viewed events records marks ≡ old → viewed (events ++ (new ∷ [])) records marks ≡ with_event old
    (member_of_event new)
put_view events new records marks old v = ap (λ g. record {
  events = g;
  paths = paths_of records;
  marks =
      map mark_seen marks;
}) (members_put events new) ∙ ap (λ o. with_event o (member_of_event new)) v

pub mark_view : (events : List Planned) (records : List PathRecord) (marks : List StoreMark) (m : StoreMark)
    (old : Trail) → viewed events records marks ≡ old → m.events ≡ length events → m.paths ≡ length records
    → viewed events records (marks ++ (m ∷ [])) ≡ with_mark old
mark_view events records marks m old v ee ep =
    ap (λ k. record { events = members_of events; paths = paths_of records; marks = k })
    (map-append mark_seen marks (m ∷ []) ∙ ap₂ (λ a b. map mark_seen marks ++ (record { events = a; paths = b } ∷ []))
    (ee ∙ sym (length-map events member_of_event)) (ep ∙ sym (length_paths records))) ∙ ap with_mark v

map_take : {A B : Type 0} (f : A → B) (i : ℕ) (xs : List A) → map f (take i xs) ≡ take i (map f xs)
map_take f zero xs = refl
map_take f (suc i) [] = refl
map_take f (suc i) (x ∷ xs) = ap (λ r. f x ∷ r) (map_take f i xs)

pub cut_leaves : (events : List Planned) (cells : Cells) (records : List PathRecord) (ticks : List Tick)
    (marks : List StoreMark) (old : Trail) → StoreIsWhole events cells records ticks marks
    → viewed events records marks ≡ old → (i : ℕ) (m : StoreMark) → i < length old.marks → m ≡ get_or marks i m
    → StoreIsWhole (take m.events events) (cut_to m.cells cells) (take m.paths records) (take m.ticks ticks)
    (take i marks) × IsCut old i (viewed (take m.events events) (take m.paths records) (take i marks))
cut_leaves events cells records ticks marks old w v i m h e = (r.0, λ k ek. view ∙ ap (back_at old i) (seen k ek))
  where
    em : slice_get marks i ≡ Some m
    em = found_here marks i m (subst (λ n. i < n) (length-map marks mark_seen) (subst (λ o. i < length o.marks) (sym v) h)) e

    r : StoreIsWhole (take m.events events) (cut_to m.cells cells) (take m.paths records) (take m.ticks ticks) (take i marks) × (paths_of (take m.paths records) ≡ take m.paths (paths_of records))
    r = whole_cut events cells records ticks marks i m w em

    seen : (k : Mark) → slice_get old.marks i ≡ Some k → mark_seen m ≡ k
    seen k ek = let there : slice_get (map mark_seen marks) i ≡ Some (mark_seen m) =
        slice_get-map mark_seen marks i ∙ ap (option_map mark_seen) em in
        let also : slice_get (map mark_seen marks) i ≡ Some k = ap (λ o. slice_get o.marks i) v ∙ ek in
        one_item (slice_get (map mark_seen marks) i) (mark_seen m) k there also

    view : viewed (take m.events events) (take m.paths records) (take i marks) ≡ back_at old i (mark_seen m)
    view = ap (λ g. record {
      events = g;
      paths = paths_of (take m.paths records);
      marks =
          map mark_seen (take i marks);
    }) (map_take member_of_event m.events events) ∙ ap₂
        (λ p k. record { events = take m.events (members_of events); paths = p; marks = k }) r.1
        (map_take mark_seen i marks) ∙ ap (λ o. back_at o i (mark_seen m)) v

pub cut_done : (events : List Planned) (cells : Cells) (records : List PathRecord) (ticks : List Tick)
    (marks : List StoreMark) (old : Trail) → StoreIsWhole events cells records ticks marks
    → viewed events records marks ≡ old → (i : ℕ) (m : StoreMark) → i < length old.marks → m ≡ get_or marks i m
    → (events2 : List Planned) (cells2 : Cells) (records2 : List PathRecord) (ticks2 : List Tick)
    (marks2 : List StoreMark) → events2 ≡ take m.events events → cells2 ≡ cut_to m.cells cells
    → records2 ≡ take m.paths records → ticks2 ≡ take m.ticks ticks → marks2 ≡ take i marks
    → StoreIsWhole events2 cells2 records2 ticks2 marks2 × IsCut old i (viewed events2 records2 marks2)
cut_done events cells records ticks marks old w v i m h e events2 cells2 records2 ticks2 marks2 e1 e2 e3 e4 e5 =
    subst (λ a. StoreIsWhole a cells2 records2 ticks2 marks2 × IsCut old i (viewed a records2 marks2)) (sym e1)
    (subst (λ a. StoreIsWhole (take m.events events) a records2 ticks2 marks2 × IsCut old i (viewed (take m.events events) records2 marks2)) (sym e2)
    (subst (λ a. StoreIsWhole (take m.events events) (cut_to m.cells cells) a ticks2 marks2 × IsCut old i (viewed (take m.events events) a marks2)) (sym e3)
    (subst (λ a. StoreIsWhole (take m.events events) (cut_to m.cells cells) (take m.paths records) a marks2 × IsCut old i (viewed (take m.events events) (take m.paths records) marks2)) (sym e4)
    (subst (λ a. StoreIsWhole (take m.events events) (cut_to m.cells cells) (take m.paths records)
    (take m.ticks ticks) a × IsCut old i (viewed (take m.events events) (take m.paths records) a)) (sym e5)
    (cut_leaves events cells records ticks marks old w v i m h e)))))

-- ---- lists

pub event_there : (events : List Planned) (records : List PathRecord) (marks : List StoreMark) (old : Trail)
    → viewed events records marks ≡ old → (i : ℕ) (e : Planned) → i < length old.events → e ≡ get_or events i e
    → slice_get events i ≡ Some e
event_there events records marks old v i e h at = found_here events i e (omega (arith, h, ap (λ o. length o.events) v, length-map events member_of_event)) at

pub on_one : {A : Type 0} (a b d : List A) (x : A) → d ≡ b ++ (x ∷ []) → b ≡ a → d ≡ a ++ (x ∷ [])
on_one a b d x e f = e ∙ ap (λ l. l ++ (x ∷ [])) f

pub on_two : {A : Type 0} (a b d g : List A) (x y : A) → g ≡ d ++ (y ∷ []) → d ≡ b ++ (x ∷ []) → b ≡ a → g ≡ a ++ (x ∷ (y ∷ []))
on_two a b d g x y h e f = h ∙ ap (λ l. l ++ (y ∷ [])) (on_one a b d x e f) ∙ append_assoc a (x ∷ []) (y ∷ [])

-- with room for more, and cells put behind
pub kept_so : (events : List Planned) (cells : Cells) (records records2 : List PathRecord) (ticks ticks2 : List Tick)
    (marks : List StoreMark) → StoreIsWhole events cells records ticks marks → records2 ≡ records → ticks2 ≡ ticks
    → StoreIsWhole events cells records2 ticks2 marks
kept_so events cells records records2 ticks ticks2 marks w er et = subst (λ r. StoreIsWhole events cells r ticks2 marks) (sym er) (subst (λ t. StoreIsWhole events cells records t marks) (sym et) w)
