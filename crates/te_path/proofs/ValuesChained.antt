-- The inner values of a link.
use Rattle.std.proofs.Common.{◌≡◌, ◌≢◌, ℕ, zero, suc, ◌+◌, ◌-◌, ◌<◌, ◌≤◌, inl, inr, List, [], ◌∷◌, ◌++◌, length, map, reverse, take, drop, Some, None, refl, sym, ap, ◌∙◌, subst, arith, length-append}
use Rattle.std.specs.Prelude.{slice_get}
use Rattle.std.proofs.lemmas.List.{take-append-drop, length-reverse, length-map}
use Rattle.std.proofs.lemmas.Grind.{reverse_onto}
use Rattle.std.proofs.lemmas.Bool.{cases_order}
use Rattle.std.proofs.lemmas.Option.{slice_get_within, slice_get_past}
use Rattle.te_terms.specs.declared.value.Atom.{Atom}
use Rattle.te_terms.proofs.TermLemmas.{slice_get_seam}
use Rattle.te_terms.proofs.Lists.{get_front, in_beginning, back}
use Rattle.te_path.specs.declared.values.ValueCell.{ValueCell}
use Rattle.te_path.specs.Chains.{chain, IsLinked, Extends, value_parent, value_in_cell, inner_at, AreValues}
use Rattle.te_path.proofs.Chained.{slice_get_new, chain_is, chain_grown, chain_new, linked_new, linked_cut, chain_past, chain_short}

turned : (c : ValueCell) (cs : List ValueCell) → reverse (map value_in_cell (c ∷ cs)) ≡ reverse (map value_in_cell cs) ++ c.value ∷ []
turned c cs = reverse_onto (map value_in_cell cs) c.value []

pub inner_is : (cells : List ValueCell) → IsLinked value_parent cells → (i : ℕ) (c : ValueCell) → slice_get cells i ≡ Some c → inner_at cells (suc i) ≡ inner_at cells c.parent ++ c.value ∷ []
inner_is cells is_linked i c e =
    ap (λ cs. reverse (map value_in_cell cs)) (chain_is value_parent cells is_linked i c e) ∙ turned c (chain value_parent cells c.parent)

-- later cells change no link's values
pub inner_grown : (cells new : List ValueCell) → IsLinked value_parent cells → (k : ℕ) → Extends cells new → k ≤ length cells → inner_at new k ≡ inner_at cells k
inner_grown cells new is_linked k more h = ap (λ cs. reverse (map value_in_cell cs)) (chain_grown value_parent cells is_linked new k more h)

pub inner_new : (cells : List ValueCell) → IsLinked value_parent cells → (c : ValueCell) → c.parent ≤ length cells →
    inner_at (cells ++ c ∷ []) (suc (length cells)) ≡ inner_at cells c.parent ++ c.value ∷ []
inner_new cells is_linked c h =
    ap (λ cs. reverse (map value_in_cell cs)) (chain_new value_parent cells is_linked c h) ∙ turned c (chain value_parent cells c.parent)

pub inner_short : (cells : List ValueCell) (k : ℕ) → length (inner_at cells k) ≤ k
inner_short cells k =
    omega (arith, chain_short value_parent cells k, length-reverse (map value_in_cell (chain value_parent cells k)), length-map (chain value_parent cells k) value_in_cell)

-- ---- what is kept

pub are_new : (cells : List ValueCell) → AreValues cells → (c : ValueCell) → c.parent ≤ length cells → suc (length cells) < 4294967296
    → c.level ≡ length (inner_at cells c.parent) → AreValues (cells ++ c ∷ [])
are_new cells are c h room level = record {
  few = omega (arith, room, length-append cells (c ∷ []));
  linked = linked_new value_parent cells are.linked c h;
  levels = λ i d e. elim (slice_get_new cells c i d e) [
    | inl old ↦ are.levels i d old
        ∙ sym (ap length (inner_grown cells (cells ++ c ∷ []) are.linked d.parent (c ∷ [], refl) (omega (arith, are.linked i d old, slice_get_within cells i d old))))
    | inr new ↦ subst (λ (x : ValueCell). x.level ≡ length (inner_at (cells ++ c ∷ []) x.parent)) (sym new.1)
        (level ∙ sym (ap length (inner_grown cells (cells ++ c ∷ []) are.linked c.parent (c ∷ [], refl) h)))
  ];
}

pub are_cut : (cells : List ValueCell) → AreValues cells → (m : ℕ) → AreValues (take m cells)
are_cut cells are m = record {
  few = omega (arith, are.few, length-append (take m cells) (drop m cells), ap length (take-append-drop m cells));
  linked = linked_cut value_parent cells are.linked m;
  levels = λ i c e. are.levels i c (in_beginning m cells i c e)
      ∙ ap length (inner_grown (take m cells) cells (linked_cut value_parent cells are.linked m) c.parent (drop m cells, sym (take-append-drop m cells))
      (omega (arith, linked_cut value_parent cells are.linked m i c e, slice_get_within (take m cells) i c e)));
}

-- ---- finding a name

-- below the last value, and above it, one value more is as none
pub found_below : (xs : List (List Atom)) (v : List Atom) (n : ℕ) → n ≢ length xs → slice_get (xs ++ v ∷ []) n ≡ slice_get xs n
found_below xs v n differ = elim (cases_order n (length xs)) [
  | inl same ↦ absurd (differ same)
  | inr (inl less) ↦ get_front xs (v ∷ []) n less
  | inr (inr more) ↦ slice_get_past (xs ++ v ∷ []) n (omega (arith, length-append xs (v ∷ []))) ∙ sym (slice_get_past xs n (omega arith))
]

-- of the link k, whose cell is number k - 1
module _ (cells : List ValueCell) (are : AreValues cells) where
  pub level_is : (k : ℕ) (c : ValueCell) → k ≢ 0 → slice_get cells (k - 1) ≡ Some c → length (inner_at cells k) ≡ c.level + 1
  level_is zero c some e = absurd (some refl)
  level_is (suc i) c some e' =
      let e = subst (λ n. slice_get cells n ≡ Some c) (back i) e' in
      omega (arith, ap length (inner_is cells are.linked i c e), length-append (inner_at cells c.parent) (c.value ∷ []), are.levels i c e)

  pub level_low : (i : ℕ) (c : ValueCell) → slice_get cells i ≡ Some c → c.level < length cells
  level_low i c e = omega (arith, are.levels i c e, inner_short cells c.parent, are.linked i c e, slice_get_within cells i c e)

  pub none_past : (k : ℕ) → k ≢ 0 → slice_get cells (k - 1) ≡ None → inner_at cells k ≡ []
  none_past zero some e = absurd (some refl)
  none_past (suc i) some e = ap (λ cs. reverse (map value_in_cell cs)) (chain_past value_parent cells i (subst (λ n. slice_get cells n ≡ None) (back i) e))

  pub is_found : (k : ℕ) (c : ValueCell) (n : ℕ) → k ≢ 0 → slice_get cells (k - 1) ≡ Some c → c.level ≡ n → slice_get (inner_at cells k) n ≡ Some c.value
  is_found zero c n some e at = absurd (some refl)
  is_found (suc i) c n some e' at =
      let e = subst (λ n. slice_get cells n ≡ Some c) (back i) e' in
      ap (λ xs. slice_get xs n) (inner_is cells are.linked i c e)
      ∙ ap (λ m. slice_get (inner_at cells c.parent ++ c.value ∷ []) m) (sym at ∙ are.levels i c e)
      ∙ slice_get_seam (inner_at cells c.parent) c.value []

  pub is_further : (k : ℕ) (c : ValueCell) (n : ℕ) → k ≢ 0 → slice_get cells (k - 1) ≡ Some c → c.level ≢ n → slice_get (inner_at cells k) n ≡ slice_get (inner_at cells c.parent) n
  is_further zero c n some e past = absurd (some refl)
  is_further (suc i) c n some e' past =
      let e = subst (λ n. slice_get cells n ≡ Some c) (back i) e' in
      ap (λ xs. slice_get xs n) (inner_is cells are.linked i c e)
      ∙ found_below (inner_at cells c.parent) c.value n (λ at. past (are.levels i c e ∙ sym at))

  pub is_below : (k : ℕ) (c : ValueCell) → k ≢ 0 → slice_get cells (k - 1) ≡ Some c → c.parent < k
  is_below k c some e = omega (arith, are.linked (k - 1) c e, some)

pub cell_pushed : (cells : List ValueCell) → AreValues cells → (v : List Atom) (parent level : ℕ) → parent ≤ length cells → suc (length cells) < 4294967296 → level ≡ length (inner_at cells parent) →
    (new : List ValueCell) → new ≡ cells ++ (record { value = v; parent = parent; level = level }) ∷ [] → AreValues new × (inner_at new (length new) ≡ inner_at cells parent ++ v ∷ [])
cell_pushed cells are v parent level h room at new is =
    let c : ValueCell = record { value = v; parent = parent; level = level } in
    let long : length (cells ++ c ∷ []) ≡ suc (length cells) = omega (arith, length-append cells (c ∷ [])) in
    rw is (are_new cells are c h room at, ap (inner_at (cells ++ c ∷ [])) long ∙ inner_new cells are.linked c h)
