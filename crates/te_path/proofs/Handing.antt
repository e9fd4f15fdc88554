-- A spot at a send, a receive or a choice that goes on, and settles.
use Rattle.std.proofs.Common.{◌≡◌, ℕ, suc, ◌+◌, ◌<◌, Bool, true, false, cond, List, [], length, Option, Some, None, Result, Ok, Err, refl, sym, ap, ◌∙◌, subst, arith}
use Rattle.std.specs.Prelude.{IsSome, OnOk, slice_get}
use Rattle.std.specs.Option.{option_map}
use Rattle.te_terms.specs.declared.value.Atom.{Atom}
use Rattle.te_terms.specs.declared.code.Node.TheVariants as nodes
use Rattle.te_terms.specs.Terms.{Term, choose, closed, scoped}
use Rattle.te_terms.specs.Measures.{one_fresh, fresh_count}
use Rattle.te_terms.proofs.Measured.{counted-replaced, fresh_sees}
use Rattle.te_terms.specs.Steps.{Member, giving, with_head, IsSettled, at_term}
use Rattle.te_terms.specs.Joint.{after_choice, chosen_from}
use Rattle.te_terms.specs.Settling.{settled}
use Rattle.te_terms.specs.Codes.{term_under}
use Rattle.te_terms.specs.Shape.{IsForest, NamesEarlier}
use Rattle.te_terms.proofs.OneThing.{with_own}
use Rattle.te_terms.proofs.Settles.{settled_already}
use Rattle.te_terms.proofs.BindingLaws.{closed_scoped}
use Rattle.te_path.specs.declared.cells.Cells.{Cells}
use Rattle.te_path.specs.declared.place.Place.{Place}
use Rattle.te_path.specs.declared.spot.Spot.{Spot}
use Rattle.te_path.specs.Chains.{inner_at}
use Rattle.te_path.specs.Layers.{in_layers}
use Rattle.te_path.specs.Origins.{Origin, member_at}
use Rattle.te_path.specs.Paths.{StepsTo, HasFewFresh}
use Rattle.te_path.specs.Places.{node_term, layers_at, term_of, placed, IsPlace, Alike}
use Rattle.te_path.specs.Spots.{spelled, spelled_term, head_of, head_at, IsSpot}
use Rattle.te_path.proofs.InLayers.{alike_on, with_head_in_layers, head_in_layers}
use Rattle.te_terms.proofs.FreshStaysFew.{handed_few, choice_few}
use Rattle.te_path.proofs.NodesLead.{node_term_is}

-- what settles as a member without a quiet step, settles as that one
pub settles_as : (m end : Member) → Alike m end → IsSettled end → settled m ≡ end
settles_as m end alike still = alike.settles ∙ settled_already end still

module _ (o : Origin) where
  -- ---- the start

  abbrev event_at : ℕ → Term
  event_at root = closed o.regs (term_under o.code root)

  abbrev pub root_place : ℕ → Place
  root_place root = record { node = root; values = 0; frames = 0; count = 0 }

  -- an event makes few
  pub few_at_start : IsForest o.code → (root : ℕ) → root < length o.code → HasFewFresh (member_at o 0 (event_at root))
  few_at_start forest root within =
      omega (
        arith,
        ap fresh_count (closed_scoped o.regs (term_under o.code root)),
        counted-replaced one_fresh (λ a b. a + b) fresh_sees (scoped o.regs []) (term_under o.code root),
        forest.fresh_under root within,
        forest.few_fresh,
      )

  pub root_is : (cells : Cells) (root : ℕ) → member_at o 0 (event_at root) ≡ placed o cells (root_place root)
  root_is cells root = ap (member_at o 0) (closed_scoped o.regs (term_under o.code root))

  pub starts : (cells new : Cells) (root : ℕ) (s : Spot) → IsSpot o new s → Alike (placed o cells (root_place root)) (spelled o new s) →
      spelled o new s ≡ settled (member_at o 0 (event_at root))
  starts cells new root s is alike = sym (ap settled (root_is cells root) ∙ settles_as (placed o cells (root_place root)) (spelled o new s) alike is.settled)

  -- ---- sends and receives

  pub handed : (cells : Cells) (s : Spot) → IsSpot o cells s → (u : Term) → with_head u (spelled_term o.code o.regs cells s) ≡ in_layers (layers_at o.code o.regs cells s.frames) u
  handed cells s is u =
      with_head_in_layers u (layers_at o.code o.regs cells s.frames) (head_of o.code o.regs cells s)
      ∙ ap (in_layers (layers_at o.code o.regs cells s.frames)) (with_own u (head_of o.code o.regs cells s) is.own_head)

  -- what is handed on makes no fresh channel
  pub few_handed : (cells : Cells) (s : Spot) → IsSpot o cells s → (v : List Atom) → HasFewFresh (member_at o s.count (in_layers (layers_at o.code o.regs cells s.frames) (giving v)))
  few_handed cells s is v =
      subst (λ t. HasFewFresh (member_at o s.count t)) (handed cells s is (giving v)) (omega (arith, is.few, handed_few (spelled_term o.code o.regs cells s) v))

  hands_on : {A : Type 0} (m : Member) (x : Option A) (v : List Atom) (end : Member) → IsSome x → Alike (at_term m (with_head (giving v) m.term)) end → IsSettled end →
      StepsTo m (option_map (λ y. with_head (giving v) m.term) x) end
  hands_on m (Some y) v end some alike still = record { next = with_head (giving v) m.term; steps = refl; settles = settles_as (at_term m (with_head (giving v) m.term)) end alike still }
  hands_on m None v end some alike still = absurd cc

  pub hands : {A U E : Type 0} (new : Cells) (s : Spot) (m : Member) (x : Option A) (v : List Atom) (r : Result U E) → IsSome x → OnOk r (IsSpot o new s) →
      OnOk r (Alike (at_term m (with_head (giving v) m.term)) (spelled o new s)) → OnOk r (StepsTo m (option_map (λ y. with_head (giving v) m.term) x) (spelled o new s))
  hands new s m x v (Err e) some is alike = tt
  hands new s m x v (Ok u) some is alike = hands_on m x v (spelled o new s) some alike is.settled

  -- the member after a head was replaced, in the spot's frames
  module _ (cells : Cells) (s : Spot) (is : IsSpot o cells s) (u : Term) where
    abbrev replaced_in : Member
    replaced_in = member_at o s.count (in_layers (layers_at o.code o.regs cells s.frames) u)

    pub goes_by : (m : Member) → Alike replaced_in m → Alike (at_term (spelled o cells s) (with_head u (spelled o cells s).term)) m
    goes_by m alike = subst (λ t. Alike (member_at o s.count t) m) (sym (handed cells s is u)) alike

    pub goes_then_settles : {U E : Type 0} (m : Member) (new : Cells) (n : Spot) (r : Result U E) → Alike replaced_in m →
        OnOk r (Alike m (spelled o new n)) → OnOk r (Alike (at_term (spelled o cells s) (with_head u (spelled o cells s).term)) (spelled o new n))
    goes_then_settles m new n (Err e) first rest = tt
    goes_then_settles m new n (Ok x) first rest = goes_by (spelled o new n) (alike_on replaced_in m (spelled o new n) first rest)

  -- ---- choices

  module _ (forest : IsForest o.code) (cells : Cells) (s : Spot) (is : IsSpot o cells s) (i a b : ℕ) (at : s.node ≡ suc i)
      (within : i < length o.code) (node : slice_get o.code i ≡ Some (nodes.Choose a b)) where
    abbrev inner_now : List (List Atom)
    inner_now = inner_at cells.values s.values

    abbrev part_term : ℕ → Term
    part_term j = node_term o.code o.regs inner_now j

    abbrev went : Bool → Place
    went left = record { node = cond left a b; values = s.values; frames = s.frames; count = s.count }

    at_choice : head_of o.code o.regs cells s ≡ choose (part_term a) (part_term b)
    at_choice = ap (head_at o.code o.regs inner_now s.stop) at ∙ node_term_is o.code o.regs inner_now i forest within (nodes.Choose a b) node

    part_next : (left : Bool) (j : ℕ) → chosen_from left (choose (part_term a) (part_term b)) ≡ Some (part_term j) →
        after_choice left (spelled o cells s).term ≡ Some (in_layers (layers_at o.code o.regs cells s.frames) (part_term j))
    part_next left j part =
        ap (λ h. option_map (λ u. with_head u (spelled o cells s).term) (chosen_from left h)) (head_in_layers (layers_at o.code o.regs cells s.frames)
        (head_of o.code o.regs cells s) ∙ is.own_head ∙ at_choice)
        ∙ ap (option_map (λ u. with_head u (spelled o cells s).term)) part
        ∙ ap Some (handed cells s is (part_term j))

    went_is_next : (left : Bool) → after_choice left (spelled o cells s).term ≡ Some (term_of o.code o.regs cells (went left))
    went_is_next true = part_next true a refl
    went_is_next false = part_next false b refl

    few_went : (left : Bool) → HasFewFresh (placed o cells (went left))
    few_went left = omega (arith, is.few, choice_few left (spelled o cells s).term (term_of o.code o.regs cells (went left)) (went_is_next left))

    named : NamesEarlier i (nodes.Choose a b)
    named = forest.earlier i (nodes.Choose a b) node

    pub went_is_place : (left : Bool) → IsPlace o cells (went left)
    went_is_place true = record { node_in = omega (arith, named.0, within); around = is.around; few = few_went true }
    went_is_place false = record { node_in = omega (arith, named.1.0, within); around = is.around; few = few_went false }

    pub chooses : {U E : Type 0} (new : Cells) (n : Spot) (left : Bool) (r : Result U E) → OnOk r (IsSpot o new n) → OnOk r (Alike (placed o cells (went left)) (spelled o new n)) →
        OnOk r (StepsTo (spelled o cells s) (after_choice left (spelled o cells s).term) (spelled o new n))
    chooses new n left (Err e) are alike = tt
    chooses new n left (Ok u) are alike = record {
      next = term_of o.code o.regs cells (went left);
      steps = went_is_next left;
      settles = settles_as (placed o cells (went left)) (spelled o new n) alike are.settled;
    }
