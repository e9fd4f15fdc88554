-- What keeps a store: more cells, more events, more paths, a mark and a cut.
use Rattle.std.proofs.Common.{◌≡◌, ◌⊎◌, ◌≤◌, ◌<◌, inl, inr, ℕ, zero, suc, ◌+◌, List, [], ◌∷◌, ◌++◌, Bool, true, false}
use Rattle.std.proofs.Common.{Option, Some, None, slice_get, take, length, map, refl, ap, ap₂, sym, ◌∙◌, subst, arith}
use Rattle.std.proofs.Common.{length-append, append-nil}
use Rattle.std.proofs.lemmas.List.{take-append-le, length-map}
use Rattle.te_terms.specs.Steps.{Member}
use Rattle.te_terms.specs.Joint.{member_of}
use Rattle.te_path.specs.declared.cells.Cells.{Cells}
use Rattle.te_path.specs.declared.cells.CellMark.{CellMark}
use Rattle.te_path.specs.declared.spot.Spot.{Spot}
use Rattle.te_path.specs.Growth.{AreLinked, Grows, IsMarkOf, cut_to}
use Rattle.te_path.proofs.Growing.{grows_on, grows_none, cells_back, spelled_grown, spot_grown}
use Rattle.te_trail.specs.declared.planned.Planned.{Planned}
use Rattle.te_trail.specs.declared.store.PathRecord.{PathRecord}
use Rattle.te_trail.specs.declared.store.StoreMark.{StoreMark}
use Rattle.te_trail.specs.declared.ticks.Tick.{Tick}
use Rattle.te_trail.specs.Paths.{Path, planted, branched, sent, got, move_of}
use Rattle.te_trail.specs.States.{path_state}
use Rattle.te_trail.specs.Stores.{Holds, IsNext, with_move, with_moves, AreMade}
use Rattle.te_trail.specs.Records.{origin_at, member_of_event, members_of, ArePlannedEvents, paths_of, FitsAll, SpotSpells, RecordStands, RecordsAreKept, IsMarked, IsEarlier, StoreIsWhole}
use Rattle.te_trail.proofs.RecordsRead.{get_old, get_new, get_which, take_low, take_all, length_paths}
use Rattle.te_terms.proofs.Lists.{get_taken, get_low, get_some}
use Rattle.te_trail.proofs.RecordsPut.{AreNew, kept_push}
use Rattle.te_trail.proofs.EventsFound.{events_put, members_put, state_more}

-- ---- more cells

pub spells_grown : (events : List Planned) (c c2 : Cells) (i : ℕ) (s : Spot) (m : Member) → Grows c c2 → SpotSpells events c i s m → SpotSpells events c2 i s m
spells_grown events c c2 i s m grows sp = record {
  event = sp.event;
  is_event = sp.is_event;
  is_spot = spot_grown (origin_at sp.event) c c2 s grows sp.is_spot;
  spells = spelled_grown (origin_at sp.event) c c2 s grows sp.is_spot ∙ sp.spells;
}

stands_grown : (events : List Planned) (c c2 : Cells) (n : PathRecord) (x : Path) → Grows c c2 → RecordStands events c n x → RecordStands events c2 n x
stands_grown events c c2 n x grows st = record { member = st.member; state = st.state; spot = spells_grown events c c2 n.event n.spot st.member grows st.spot }

kept_grown : (events : List Planned) (c c2 : Cells) (records : List PathRecord) (ticks : List Tick) → Grows c c2 → RecordsAreKept events c records ticks → RecordsAreKept events c2 records ticks
kept_grown events c c2 records ticks grows k = record {
  fit = k.fit;
  made = k.made;
  pairs = k.pairs;
  stands = λ i n x en ex. stands_grown events c c2 n x grows (k.stands i n x en ex);
  events_are = k.events_are;
  linked = grows.linked;
}

-- what stood at a mark stays
cut_grown : (c c2 : Cells) (m : CellMark) → Grows c c2 → IsMarkOf (cut_to m c) m → Grows (cut_to m c) c → cut_to m c2 ≡ cut_to m c
cut_grown c c2 m grows of back = cells_back (cut_to m c) c2 m of (grows_on (cut_to m c) c c2 back grows)

marked_grown : (events : List Planned) (c c2 : Cells) (records : List PathRecord) (ticks : List Tick) (m : StoreMark)
    → Grows c c2 → IsMarked events c records ticks m → IsMarked events c2 records ticks m
marked_grown events c c2 records ticks m grows k =
    let same : cut_to m.cells c2 ≡ cut_to m.cells c = cut_grown c c2 m.cells grows k.of_cells k.grown in
    record {
      events_low = k.events_low;
      paths_low = k.paths_low;
      ticks_low = k.ticks_low;
      of_cells = subst (λ z. IsMarkOf z m.cells) (sym same) k.of_cells;
      grown = subst (λ z. Grows z c2) (sym same) (grows_on (cut_to m.cells c) c c2 k.grown grows);
      kept = subst (λ z. RecordsAreKept (take m.events events) z (take m.paths records) (take m.ticks ticks)) (sym same) k.kept;
      seen = k.seen;
    }

pub whole_grown : (events : List Planned) (c c2 : Cells) (records : List PathRecord) (ticks : List Tick)
    (marks : List StoreMark) → Grows c c2 → StoreIsWhole events c records ticks marks
    → StoreIsWhole events c2 records ticks marks
whole_grown events c c2 records ticks marks grows w = record {
  kept = kept_grown events c c2 records ticks grows w.kept;
  few = w.few;
  marked = λ i m e. marked_grown events c c2 records ticks m grows (w.marked i m e);
  rising = λ i j m l ei ej h. later m l (w.marked i m ei) (w.marked j l ej) (w.rising i j m l ei ej h);
}
  where
    later : (m l : StoreMark) → IsMarked events c records ticks m → IsMarked events c records ticks l → IsEarlier c m l → IsEarlier c2 m l
    later m l a b r = record {
      events = r.events;
      paths = r.paths;
      ticks = r.ticks;
      of_cells = subst (λ z. Grows z (cut_to l.cells c2)) (sym (cut_grown c c2 m.cells grows a.of_cells a.grown))
          (subst (Grows (cut_to m.cells c)) (sym (cut_grown c c2 l.cells grows b.of_cells b.grown)) r.of_cells);
    }

-- ---- more events

stands_put : (events : List Planned) (new : Planned) (c : Cells) (n : PathRecord) (x : Path) → RecordStands events c n x → RecordStands (events ++ (new ∷ [])) c n x
stands_put events new c n x st = record {
  member = st.member;
  state = ap (λ g. path_state g x) (members_put events new) ∙ state_more (members_of events) (member_of_event new ∷ []) x st.member st.state;
  spot = record { event = st.spot.event; is_event = get_old events (new ∷ []) st.spot.event n.event st.spot.is_event; is_spot = st.spot.is_spot; spells = st.spot.spells };
}

pub whole_put : (events : List Planned) (new : Planned) (c : Cells) (records : List PathRecord) (ticks : List Tick)
    (marks : List StoreMark) → new.root < length new.code.value → member_of new.thread (members_of events) ≡ None
    → StoreIsWhole events c records ticks marks → StoreIsWhole (events ++ (new ∷ [])) c records ticks marks
whole_put events new c records ticks marks low none w = record {
  kept = record {
    fit = w.kept.fit;
    made = w.kept.made;
    pairs = w.kept.pairs;
    stands = λ i n x en ex. stands_put events new c n x (w.kept.stands i n x en ex);
    events_are = events_put events new w.kept.events_are low none;
    linked = w.kept.linked;
  };
  few = w.few;
  marked = λ i m e. put m (w.marked i m e);
  rising = w.rising;
}
  where
    put : (m : StoreMark) → IsMarked events c records ticks m → IsMarked (events ++ (new ∷ [])) c records ticks m
    put m k = record {
      events_low = omega (arith, k.events_low, length-append events (new ∷ []));
      paths_low = k.paths_low;
      ticks_low = k.ticks_low;
      of_cells = k.of_cells;
      grown = k.grown;
      kept = subst (λ z. RecordsAreKept z (cut_to m.cells c) (take m.paths records) (take m.ticks ticks)) (sym (take-append-le m.events events (new ∷ []) k.events_low)) k.kept;
      seen = k.seen;
    }

-- ---- more paths

made_append : (moves xs ys : List Path) → AreMade moves xs → AreMade (with_moves moves xs) ys → AreMade moves (xs ++ ys)
made_append moves [] ys a b = b
made_append moves (x ∷ xs) ys a b = (a.0, made_append (with_move moves x) xs ys a.1 b)

marked_pushed : (events : List Planned) (c : Cells) (records : List PathRecord) (ticks : List Tick)
    (ns : List PathRecord) (xs : List Path) (out : List Tick) (m : StoreMark)
    → paths_of (records ++ ns) ≡ paths_of records ++ xs → IsMarked events c records ticks m
    → IsMarked events c (records ++ ns) (ticks ++ out) m
marked_pushed events c records ticks ns xs out m whole k = record {
  events_low = k.events_low;
  paths_low = omega (arith, k.paths_low, length-append records ns);
  ticks_low = omega (arith, k.ticks_low, length-append ticks out);
  of_cells = k.of_cells;
  grown = k.grown;
  kept = subst (λ z. RecordsAreKept (take m.events events) (cut_to m.cells c) z (take m.ticks (ticks ++ out)))
      (sym same) (subst (RecordsAreKept (take m.events events) (cut_to m.cells c) (take m.paths records))
      (sym (take-append-le m.ticks ticks out k.ticks_low)) k.kept);
  seen = ap paths_of same ∙ k.seen ∙ sym (ap (take m.paths) whole ∙ take-append-le m.paths (paths_of records) xs (omega (arith, k.paths_low, length_paths records)));
}
  where
    same : take m.paths (records ++ ns) ≡ take m.paths records
    same = take-append-le m.paths records ns k.paths_low

-- new paths, each standing where its record says
pub record AreAdded (events : List Planned) (c : Cells) (records : List PathRecord) (ticks : List Tick) (ns : List PathRecord) (xs : List Path) (out : List Tick) : Type 0 where
  pub new : AreNew records ticks ns xs out
  pub made : AreMade (with_moves [] (paths_of records)) xs
  pub pairs : (k : ℕ) (s r : Path) → slice_get xs k ≡ Some (sent s r) → slice_get xs (suc k) ≡ Some (got s r)
  pub stands : (k : ℕ) (n : PathRecord) (x : Path) → slice_get ns k ≡ Some n → slice_get xs k ≡ Some x → RecordStands events c n x
  pub few : length records + length ns < 4294967296

pub whole_pushed : (events : List Planned) (c : Cells) (records : List PathRecord) (ticks : List Tick)
    (marks : List StoreMark) (ns : List PathRecord) (xs : List Path) (out : List Tick)
    → StoreIsWhole events c records ticks marks → AreAdded events c records ticks ns xs out
    → (paths_of (records ++ ns) ≡ paths_of records ++ xs) × StoreIsWhole events c (records ++ ns) (ticks ++ out) marks
whole_pushed events c records ticks marks ns xs out w added = (
  f.0,
  record {
    kept = record {
      fit = f.1;
      made = subst (AreMade []) (sym f.0) (made_append [] (paths_of records) xs w.kept.made added.made);
      pairs = λ k s r e. subst (λ ps. slice_get ps (suc k) ≡ Some (got s r)) (sym f.0) (pair k s r (get_which (paths_of records) xs (sent s r) k (ap (λ ps. slice_get ps k) (sym f.0) ∙ e)));
      stands = λ k n x en ex. stand k n x (get_which records ns n k en) (get_which (paths_of records) xs x k (ap (λ ps. slice_get ps k) (sym f.0) ∙ ex));
      events_are = w.kept.events_are;
      linked = w.kept.linked;
    };
    few = omega (arith, added.few, length-append records ns);
    marked = λ i m e. marked_pushed events c records ticks ns xs out m f.0 (w.marked i m e);
    rising = w.rising;
  },
)
  where
    f : (paths_of (records ++ ns) ≡ paths_of records ++ xs) × FitsAll (records ++ ns) (ticks ++ out)
    f = kept_push records ticks ns xs out w.kept.fit added.new

    pair : (k : ℕ) (s r : Path) → (slice_get (paths_of records) k ≡ Some (sent s r))
        ⊎ ((j : ℕ) × (k ≡ length (paths_of records) + j) × (slice_get xs j ≡ Some (sent s r)))
        → slice_get (paths_of records ++ xs) (suc k) ≡ Some (got s r)
    pair k s r (inl a) = get_old (paths_of records) xs (got s r) (suc k) (w.kept.pairs k s r a)
    pair k s r (inr a) = ap (slice_get (paths_of records ++ xs))
        (let e : suc k ≡ length (paths_of records) + suc a.0 = omega (arith, a.1) in e) ∙ get_new (paths_of records) xs
        (suc a.0) ∙ added.pairs a.0 s r a.2

    stand : (k : ℕ) (n : PathRecord) (x : Path) → (slice_get records k ≡ Some n)
        ⊎ ((j : ℕ) × (k ≡ length records + j) × (slice_get ns j ≡ Some n))
        → (slice_get (paths_of records) k ≡ Some x) ⊎ ((j : ℕ) × (k ≡ length (paths_of records) + j)
        × (slice_get xs j ≡ Some x)) → RecordStands events c n x
    stand k n x (inl a) (inl b) = w.kept.stands k n x a b
    stand k n x (inl a) (inr b) = absurd (omega (arith, get_low records n k a, length_paths records, b.1))
    stand k n x (inr a) (inl b) = absurd (omega (arith, get_low (paths_of records) x k b, length_paths records, a.1))
    stand k n x (inr a) (inr b) = let same : a.0 ≡ b.0 = omega (arith, a.1, b.1, length_paths records) in added.stands b.0 n x (ap (slice_get ns) (sym same) ∙ a.2) b.2

-- ---- marks

pub whole_marked : (events : List Planned) (c : Cells) (records : List PathRecord) (ticks : List Tick)
    (marks : List StoreMark) (m : StoreMark) → StoreIsWhole events c records ticks marks → m.events ≡ length events
    → IsMarkOf c m.cells → m.paths ≡ length records → m.ticks ≡ length ticks
    → StoreIsWhole events c records ticks (marks ++ (m ∷ []))
whole_marked events c records ticks marks m w ee ec ep et = record {
  kept = w.kept;
  few = w.few;
  marked = λ i l e. elim (get_which marks (m ∷ []) l i e) [ inl old ↦ w.marked i l old | inr new ↦ subst (IsMarked events c records ticks) (last new.0 l new.2) here ];
  rising = λ i j k l ei ej h. rise i j k l h (get_which marks (m ∷ []) k i ei) (get_which marks (m ∷ []) l j ej);
}
  where
    last : (j : ℕ) (l : StoreMark) → slice_get (m ∷ []) j ≡ Some l → m ≡ l
    last zero l e = cc
    last (suc j) l e = cc

    cells : cut_to m.cells c ≡ c
    cells = cells_back c c m.cells ec (grows_none c w.kept.linked)

    all : take m.paths records ≡ records
    all = ap (λ n. take n records) ep ∙ take_all records

    here : IsMarked events c records ticks m
    here = record {
      events_low = omega (arith, ee);
      paths_low = omega (arith, ep);
      ticks_low = omega (arith, et);
      of_cells = subst (λ z. IsMarkOf z m.cells) (sym cells) ec;
      grown = subst (λ z. Grows z c) (sym cells) (grows_none c w.kept.linked);
      kept = subst (λ z. RecordsAreKept z (cut_to m.cells c) (take m.paths records) (take m.ticks ticks))
          (sym (ap (λ n. take n events) ee ∙ take_all events))
          (subst (λ z. RecordsAreKept events z (take m.paths records) (take m.ticks ticks)) (sym cells)
          (subst (λ z. RecordsAreKept events c z (take m.ticks ticks)) (sym all)
          (subst (RecordsAreKept events c records) (sym (ap (λ n. take n ticks) et ∙ take_all ticks)) w.kept)));
      seen = ap paths_of all ∙ sym (ap (λ n. take n (paths_of records)) (ep ∙ sym (length_paths records)) ∙ take_all (paths_of records));
    }

    rise : (i j : ℕ) (k l : StoreMark) → i ≤ j → (slice_get marks i ≡ Some k)
        ⊎ ((n : ℕ) × (i ≡ length marks + n) × (slice_get (m ∷ []) n ≡ Some k))
        → (slice_get marks j ≡ Some l) ⊎ ((n : ℕ) × (j ≡ length marks + n) × (slice_get (m ∷ []) n ≡ Some l))
        → IsEarlier c k l
    rise i j k l h (inl a) (inl b) = w.rising i j k l a b h
    rise i j k l h (inl a) (inr b) = let g : IsMarked events c records ticks k = w.marked i k a in subst (IsEarlier c k) (last b.0 l b.2) (record {
      events = omega (arith, g.events_low, ee);
      paths = omega (arith, g.paths_low, ep);
      ticks = omega (arith, g.ticks_low, et);
      of_cells = subst (Grows (cut_to k.cells c)) (sym cells) g.grown;
    })
    rise i j k l h (inr a) (inl b) = absurd (omega (arith, a.1, get_low marks l j b, h))
    rise i j k l h (inr a) (inr b) = subst (λ z. IsEarlier c z l) (last a.0 k a.2) (subst (IsEarlier c m) (last b.0 l b.2) (record {
      events = omega arith;
      paths = omega arith;
      ticks = omega arith;
      of_cells = subst (λ z. Grows z z) (sym cells) (grows_none c w.kept.linked);
    }))

shorter : {A : Type 0} (xs : List A) (a b : ℕ) → a ≤ b → a ≤ length xs → a ≤ length (take b xs)
shorter xs zero b h k = omega arith
shorter xs (suc a) zero h k = absurd (omega (arith, h))
shorter [] (suc a) (suc b) h k = absurd (omega (arith, k))
shorter (x ∷ xs) (suc a) (suc b) h k = omega (arith, shorter xs a b (omega (arith, h)) (omega (arith, k)))

not_longer : {A : Type 0} (xs : List A) (n : ℕ) → length (take n xs) ≤ length xs
not_longer xs zero = omega arith
not_longer [] (suc n) = omega arith
not_longer (x ∷ xs) (suc n) = omega (arith, not_longer xs n)

pub whole_cut : (events : List Planned) (c : Cells) (records : List PathRecord) (ticks : List Tick)
    (marks : List StoreMark) (i : ℕ) (m : StoreMark) → StoreIsWhole events c records ticks marks
    → slice_get marks i ≡ Some m → StoreIsWhole (take m.events events) (cut_to m.cells c) (take m.paths records)
    (take m.ticks ticks) (take i marks) × (paths_of (take m.paths records) ≡ take m.paths (paths_of records))
whole_cut events c records ticks marks i m w e = (
  record {
    kept = at.kept;
    few = omega (arith, w.few, not_longer records m.paths);
    marked = λ j l ej. old j l (get_taken marks i j l ej);
    rising = λ j k a b ea eb h. earlier a b (get_taken marks i j a ea) (get_taken marks i k b eb) (w.rising j k a b (get_taken marks i j a ea).1 (get_taken marks i k b eb).1 h);
  },
  at.seen,
)
  where
    at : IsMarked events c records ticks m
    at = w.marked i m e

    before : (j : ℕ) (l : StoreMark) → (j < i) × (slice_get marks j ≡ Some l) → IsEarlier c l m
    before j l (h, el) = w.rising j i l m el e (omega (arith, h))

    cells : (j : ℕ) (l : StoreMark) → (j < i) × (slice_get marks j ≡ Some l) → cut_to l.cells (cut_to m.cells c) ≡ cut_to l.cells c
    cells j l here = cells_back (cut_to l.cells c) (cut_to m.cells c) l.cells (w.marked j l here.1).of_cells (before j l here).of_cells

    earlier : (a b : StoreMark) {j k : ℕ} → (j < i) × (slice_get marks j ≡ Some a) → (k < i) × (slice_get marks k ≡ Some b) → IsEarlier c a b → IsEarlier (cut_to m.cells c) a b
    earlier a b {j = j} {k = k} ha hb r = record {
      events = r.events;
      paths = r.paths;
      ticks = r.ticks;
      of_cells = subst (λ z. Grows z (cut_to b.cells (cut_to m.cells c))) (sym (cells j a ha)) (subst (Grows (cut_to a.cells c)) (sym (cells k b hb)) r.of_cells);
    }

    old : (j : ℕ) (l : StoreMark) → (j < i) × (slice_get marks j ≡ Some l) → IsMarked (take m.events events) (cut_to m.cells c) (take m.paths records) (take m.ticks ticks) l
    old j l here =
        let g : IsMarked events c records ticks l = w.marked j l here.1 in
        let r : IsEarlier c l m = before j l here in
        let ev : take l.events (take m.events events) ≡ take l.events events = take_low events l.events m.events r.events in
        let rs : take l.paths (take m.paths records) ≡ take l.paths records = take_low records l.paths m.paths r.paths in
        let ts : take l.ticks (take m.ticks ticks) ≡ take l.ticks ticks = take_low ticks l.ticks m.ticks r.ticks in
        let cs : cut_to l.cells (cut_to m.cells c) ≡ cut_to l.cells c = cells j l here in
        record {
          events_low = shorter events l.events m.events r.events g.events_low;
          paths_low = shorter records l.paths m.paths r.paths g.paths_low;
          ticks_low = shorter ticks l.ticks m.ticks r.ticks g.ticks_low;
          of_cells = subst (λ z. IsMarkOf z l.cells) (sym cs) g.of_cells;
          grown = subst (λ z. Grows z (cut_to m.cells c)) (sym cs) r.of_cells;
          kept = subst (λ z. RecordsAreKept z (cut_to l.cells (cut_to m.cells c)) (take l.paths (take m.paths records))
              (take l.ticks (take m.ticks ticks))) (sym ev) (subst
              (λ z. RecordsAreKept (take l.events events) z (take l.paths (take m.paths records))
              (take l.ticks (take m.ticks ticks))) (sym cs) (subst
              (λ z. RecordsAreKept (take l.events events) (cut_to l.cells c) z (take l.ticks (take m.ticks ticks)))
              (sym rs) (subst (RecordsAreKept (take l.events events) (cut_to l.cells c) (take l.paths records))
              (sym ts) g.kept)));
          seen = ap paths_of rs ∙ g.seen ∙ sym (ap (take l.paths) at.seen ∙ take_low (paths_of records) l.paths m.paths r.paths);
        }
