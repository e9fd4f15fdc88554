-- What a view has of the passes that were joined into it, and what the value is in the end.
use Rattle.std.proofs.Common.{◌≡◌, ℕ, ◌<◌, ◌≤◌, false, true≢false, List, [], ◌∷◌, ◌++◌, length, map, Option, Some, sym, ap, ◌∙◌, subst, ⊎_elim, inl, append_assoc, arith}
use Rattle.std.specs.Prelude.{All, Contains}
use Rattle.std.proofs.lemmas.List.{length-map}
use Rattle.std.proofs.lemmas.List.Elements.{All-head, All-tail, All-map, All-contains}
use mathlib.Core.Option.{some, some-injective}
use mathlib.Core.List.{IsPrefix}
use lib.ListN.{get_elem?}
use Rattle.atomic_table.specs.Seated.{TableId}
use Rattle.atomic_table.specs.Table.{State, Final, Seen}
use Rattle.te_lock.specs.declared.view.View.{View}
use Rattle.te_lock.specs.declared.view.Role.TheVariants.{Caller}
use Rattle.te_lock.specs.Entries.{entries_by}
use Rattle.te_lock.specs.Gathered.{HasAllOf}
use Rattle.te_lock.specs.Lock.{Knowledge}
use Rattle.te_lock.specs.Passes.{knowledge}
use Rattle.te_lock.specs.Rule.{Stands, Sees, IsFree, IsHeld, IsKept, closes_of, joined}
use Rattle.te_lock.proofs.Beginnings.{all_front, all_back}
use Rattle.te_lock.proofs.Numbers.{all_closes_of_back, stays_joined, taken_in}
use Rattle.te_lock.proofs.OneView.{one_at}

module _ {E : Type 0} (author : E → ℕ) where
  -- the view of a pass has all that the pass knows
  pub has_own : (table : TableId) (caller : ℕ) (v : View E) → v.role ≡ Caller caller → HasAllOf author v (knowledge table caller v)
  has_own table caller v role = record {
    stands = inl role;
    knows = λ list s. record { read = s.read; known = s.known; front = s.front; own = sym (s.own caller role) };
  }

  -- what the joined view sees, each of the two saw
  stayed : (list : List E) (v u : View E) → Sees author list (joined v u) → Sees author list v
  stayed list v u s =
      let P : List E → Type 0 = λ l. IsPrefix l list in
      let two = all_back P (v.known ++ u.known) (v.read ∷ u.read ∷ []) s.known in
      let f = s.front in record {
        read = All-head P v.read (u.read ∷ []) two;
        known = all_front P v.known u.known (all_front P (v.known ++ u.known) (v.read ∷ u.read ∷ []) s.known);
        front = omega arith;
        own = s.own;
        closed = all_front (λ c. c.1 ≡ entries_by author c.0 list) v.closed (closes_of u.role u.own u.closed) s.closed;
      }

  came : (list : List E) (v u : View E) → Sees author list (joined v u) → Sees author list u
  came list v u s =
      let P : List E → Type 0 = λ l. IsPrefix l list in
      let Q : ℕ × List E → Type 0 = λ c. c.1 ≡ entries_by author c.0 list in
      let two = all_back P (v.known ++ u.known) (v.read ∷ u.read ∷ []) s.known in
      let numbers = all_closes_of_back Q u.role u.own u.closed (all_back Q v.closed (closes_of u.role u.own u.closed) s.closed) in
      let f = s.front in record {
        read = All-head P u.read [] (All-tail P v.read (u.read ∷ []) two);
        known = all_back P v.known u.known (all_front P (v.known ++ u.known) (v.read ∷ u.read ∷ []) s.known);
        front = omega arith;
        own = numbers.0;
        closed = numbers.1;
      }

  pub has_still : (v u : View E) (p : Knowledge E) → HasAllOf author v p → HasAllOf author (joined v u) p
  has_still v u p h = record { stands = stays_joined p.caller v u h.stands; knows = λ list s. h.knows list (stayed list v u s) }

  pub has_more : (v u : View E) (p : Knowledge E) → HasAllOf author u p → HasAllOf author (joined v u) p
  has_more v u p h = record { stands = taken_in p.caller v u h.stands; knows = λ list s. h.knows list (came list v u s) }

  -- each caller number among the passes stands in the view
  pub all_stand : (v : View E) (passes : List (Knowledge E)) → All (λ p. HasAllOf author v p) passes → (k : ℕ) → Contains (map (λ p. p.caller) passes) k → Stands k v
  all_stand v passes all k c =
      All-contains (λ n. Stands n v) (map (λ p. p.caller) passes) k (All-map (λ n. Stands n v) (λ (p : Knowledge E). p.caller) passes (λ at d below. (all at d below).stands)) c

module _ {V E : Type 0} (entries : V → List E) (members : V → ℕ) (author : E → ℕ) (lawful : ℕ → List E → Type 0) where
  -- where every caller number stands in one view without the turn, the value is at home, and all that the view says is so of its list
  pub ends : (callers id : ℕ) (v : View E) (s : State (Option V) (View E)) → IsKept entries members author lawful callers s
      → get_elem? s.views id ≡ some v → v.has_turn ≡ false → ((k : ℕ) → k < callers → Stands k v)
      → (value : V) × (get_elem? s.homes 0 ≡ some (some (Some value))) × (members value ≡ callers) × lawful callers (entries value) × Sees author (entries value) v
      × ((k : ℕ) → callers ≤ k → entries_by author k (entries value) ≡ [])
  ends callers id v s h at idle everyone =
      ⊎_elim
      (λ (f : IsFree entries members callers h.log s). (
        f.value,
        ap (λ hs. get_elem? hs 0) f.home,
        f.number,
        subst (lawful callers) (sym f.list) h.law,
        subst (λ l. Sees author l v) (sym f.list) (h.views id v at).sees,
        λ k above. let most = h.most in subst (λ l. entries_by author k l ≡ []) (sym f.list) (h.unmade k (omega arith)),
      ))
      (λ (f : IsHeld h.log s).
      let holder = h.views f.one.seat f.one.holder f.one.there in
      let caller = holder.turn f.one.holds in
      let made = holder.made caller.0 (inl caller.1) in
      let most = h.most in
      let seat = h.numbers.once caller.0 id f.one.seat v f.one.holder at f.one.there (everyone caller.0 (omega arith)) (inl caller.1) in
      let same = one_at s.views f.one.seat f.one.holder v f.one.there (ap (λ i. get_elem? s.views i) (sym seat) ∙ at) in
      absurd (true≢false (sym f.one.holds ∙ ap (λ x. x.has_turn) same ∙ idle)))
      h.turn

-- the value that the slot of a closed table has, where one view without the turn has every caller number
pub record IsLast {V E : Type 0} (entries : V → List E) (members : V → ℕ) (author : E → ℕ) (lawful : ℕ → List E → Type 0) (callers : ℕ) (v : View E) (slot : Option V) : Type 0 where
  pub value : V
  pub is : slot ≡ Some value
  pub number : members value ≡ callers
  pub law : lawful callers (entries value)
  pub sees : Sees author (entries value) v
  pub unmade : (k : ℕ) → callers ≤ k → entries_by author k (entries value) ≡ []

module _ {V E : Type 0} (entries : V → List E) (members : V → ℕ) (author : E → ℕ) (lawful : ℕ → List E → Type 0) where
  pub last_slot : (callers id : ℕ) (v : View E) (words : List ℕ) (slots : List (Option V)) (slot : Option V)
      → Final (Seen (IsKept entries members author lawful callers) id v) words slots → v.has_turn ≡ false → ((k : ℕ) → k < callers → Stands k v)
      → get_elem? slots 0 ≡ some slot → IsLast entries members author lawful callers v slot
  last_slot callers id v words slots slot f idle everyone at =
      let e = ends entries members author lawful callers id v f.0 f.1.0 f.1.1 idle everyone in record {
        value = e.0;
        is = some-injective slot (Some e.0) (sym at ∙ f.4 0 (Some e.0) e.1);
        number = e.2;
        law = e.3;
        sees = e.4;
        unmade = e.5;
      }

-- passes that are taken from the end of a list
module _ {A : Type 0} (whole left new taken : List A) (p : A) (are : whole ≡ left ++ taken) (ends_in : left ≡ new ++ p ∷ []) where
  pub last_of_all : (P : A → Type 0) → All P whole → P p
  last_of_all P all =
      let front : All P left = all_front P left taken (subst (All P) are all) in
      All-head P p [] (all_back P new (p ∷ []) (subst (All P) ends_in front))

  pub moved_over : whole ≡ new ++ p ∷ taken
  moved_over = are ∙ ap (λ l. l ++ taken) ends_in ∙ append_assoc new (p ∷ []) taken

-- where a caller's pass is among them, there is one
pub some_pass : {E : Type 0} (passes : List (Knowledge E)) → Contains (map (λ p. p.caller) passes) 0 → 0 < length passes
some_pass passes c = let below = c.1 in omega (arith, length-map passes (λ p. p.caller))
