-- What comes of the node at the head, of the place.
use Rattle.std.proofs.Common.{◌≡◌, ◌≢◌, ◌⊎◌, inl, inr, ℕ, zero, suc, ◌+◌, ◌<◌, List, [], ◌∷◌, length, map, Some, None, Result, Ok, Err, refl, ap, ◌∙◌, sym, subst, arith}
use Rattle.std.specs.Prelude.{slice_get, IfOk}
use Rattle.te_terms.specs.declared.value.Atom.{Atom}
use Rattle.te_terms.specs.declared.value.Atom.TheVariants.{Chan}
use Rattle.te_terms.specs.declared.event.Outcome.{Outcome}
use Rattle.te_terms.specs.declared.event.Outcome.TheVariants.{Gives, Raises}
use Rattle.te_terms.specs.Terms.{Term, fresh}
use Rattle.te_terms.specs.Values.{fresh_channel}
use Rattle.te_terms.specs.Limits.{most_fresh}
use Rattle.te_terms.specs.Measures.{fresh_count}
use Rattle.te_terms.specs.Steps.{Member, quiet_step, giving, outcome_of, at_term}
use Rattle.te_terms.specs.Joint.{sent_from, received_on}
use Rattle.te_terms.specs.Codes.{term_at}
use Rattle.te_terms.proofs.Measured.{some_nodes}
use Rattle.te_path.specs.declared.cells.Cells.{Cells}
use Rattle.te_path.specs.declared.place.Place.{Place}
use Rattle.te_path.specs.declared.place.Went.{Went}
use Rattle.te_path.specs.declared.place.Went.TheVariants as wents
use Rattle.te_path.specs.declared.spot.Stop.{Stop}
use Rattle.te_path.specs.declared.spot.Stop.TheVariants as stops
use Rattle.te_path.specs.declared.spot.Spot.{Spot}
use Rattle.te_path.specs.Chains.{chain, linked, chain_within, inner_at, frames_at, frame_parent}
use Rattle.te_path.specs.Layers.{Layer, in_layers}
use Rattle.te_path.specs.declared.looking.Turn.{Turn}
use Rattle.te_path.specs.declared.looking.Turn.TheVariants as turns
use Rattle.te_path.specs.Leading.{RestsIn, GoesTo, EndsAs, Turns, stop_of_turn}
use Rattle.te_path.specs.Origins.{Origin, member_at}
use Rattle.te_path.specs.Paths.{StandsAt, HasFewFresh}
use Rattle.te_path.specs.Places.{placed, headed, ending_in, layers_at, layer_of, head_term, ended, IsPlace, nodes_left, left_at, Alike}
use Rattle.te_path.specs.Spots.{spelled, IsSpot}
use Rattle.te_path.specs.Wents.{GoesOn}
use Rattle.te_path.proofs.MemberLaws.{alike_by_step}
use Rattle.te_path.proofs.InLayers.{alike_itself, alike_on, alike_in_layers, fresh_inside, final_is_ended, still_in_layers, head_in_layers}
use Rattle.te_terms.proofs.Lists.{get_some}

-- a term that rests stands in layers where it stands alone
stands_in_layers : (ls : List Layer) (t : Term) (stop : Stop) → (outcome_of t ≡ None) ⊎ (ls ≡ []) → StandsAt t stop → StandsAt (in_layers ls t) stop
stands_in_layers ls t (stops.Done v) (inl open_end) at = absurd cc
stands_in_layers ls t (stops.Done v) (inr none) at = subst (λ l. outcome_of (in_layers l t) ≡ Some (Gives v)) (sym none) at
stands_in_layers ls t (stops.Raised v) (inl open_end) at = absurd cc
stands_in_layers ls t (stops.Raised v) (inr none) at = subst (λ l. outcome_of (in_layers l t) ≡ Some (Raises v)) (sym none) at
stands_in_layers ls t (stops.Send c v) lone at = ap sent_from (head_in_layers ls t) ∙ at
stands_in_layers ls t (stops.Recv c) lone at = ap received_on (head_in_layers ls t) ∙ at
stands_in_layers ls t stops.Choice lone at = (at.0, (at.1.0, head_in_layers ls t ∙ at.1.1))
stands_in_layers ls t stops.Dead lone at = head_in_layers ls t ∙ at

some_chain : {A : Type 0} (parent : A → ℕ) (cells : List A) (k : ℕ) → k ≢ 0 → ◌<◌ k (suc (length cells)) → chain parent cells k ≢ []
some_chain parent cells zero some h e = some refl
some_chain parent cells (suc i) some h e =
    let at = get_some cells i (omega (arith, h)) in
    let both : at.0 ∷ chain_within i parent cells (parent at.0) ≡ [] = sym (ap (linked (chain_within i parent cells) parent) at.1) ∙ e in
    cc

some_mapped : {A B : Type 0} (f : A → B) (xs : List A) → xs ≢ [] → map f xs ≢ []
some_mapped f [] some e = some refl
some_mapped f (x ∷ xs) some e = cc

-- a node that rests
pub rests_so : (o : Origin) (cells : Cells) (p : Place) (turn : Turn) (stop : Stop) → Turns o cells p turn → stop_of_turn turn ≡ Some stop → RestsIn o.code p.node p.frames (headed o cells p) stop
rests_so o cells p (turns.Waits c) stop at e =
    let same : stops.Recv c ≡ stop = cc in
    subst (λ s. RestsIn o.code p.node p.frames (headed o cells p) s) same at
rests_so o cells p turns.Chooses stop at e =
    let same : stops.Choice ≡ stop = cc in
    subst (λ s. RestsIn o.code p.node p.frames (headed o cells p) s) same at
rests_so o cells p turns.Dead stop at e =
    let same : stops.Dead ≡ stop = cc in
    subst (λ s. RestsIn o.code p.node p.frames (headed o cells p) s) same at
rests_so o cells p (turns.Goes j) stop at e = absurd cc
rests_so o cells p (turns.Enters awaits a b) stop at e = absurd cc
rests_so o cells p turns.Other stop at e = absurd cc

module _ (o : Origin) (cells : Cells) (p : Place) (is : IsPlace o cells p) where
  abbrev around_it : List Layer
  around_it = layers_at o.code o.regs cells p.frames

  abbrev head_is : Term
  head_is = head_term o.code o.regs cells p

  no_layers : (outcome_of head_is ≡ None) ⊎ (p.frames ≡ 0) → (outcome_of head_is ≡ None) ⊎ (around_it ≡ [])
  no_layers (inl open_end) = inl open_end
  no_layers (inr none) = inr (ap (layers_at o.code o.regs cells) none)

  abbrev spot_of : Stop → ℕ → Spot
  spot_of stop k = record { stop = stop; node = k; values = p.values; frames = p.frames; count = p.count }

  rests : (stop : Stop) → RestsIn o.code p.node p.frames (headed o cells p) stop → IsSpot o cells (spot_of stop (suc p.node))
  rests stop at = record {
    around = is.around;
    own_head = at.own_head;
    settled = still_in_layers around_it (headed o cells p) at.own_head at.quiet (no_layers at.lone);
    stands = stands_in_layers around_it head_is stop (no_layers at.lone) at.stands;
    choice = λ e. let two = at.choice e in record { number = p.node; left = two.0; right = two.1.0; at = refl; is = two.1.1 };
    few = is.few;
  }

  pub stays : (stop : Stop) (k : ℕ) → k ≡ suc p.node → RestsIn o.code p.node p.frames (headed o cells p) stop →
      IsSpot o cells (spot_of stop k) × Alike (placed o cells p) (spelled o cells (spot_of stop k))
  stays stop k at here =
      subst (λ n. IsSpot o cells (spot_of stop n) × Alike (placed o cells p) (spelled o cells (spot_of stop n))) (sym at)
      (rests stop here, alike_itself (placed o cells p))

  abbrev place_of : ℕ → Place
  place_of j = record p { node = j }

  few_after : (m : Member) → Alike (placed o cells p) m → HasFewFresh m
  few_after m alike = omega (arith, is.few, alike.no_more)

  pub goes : (j : ℕ) → GoesTo o.code o.regs (inner_at cells.values p.values) (headed o cells p) p.node j →
      IsPlace o cells (place_of j) × Alike (placed o cells p) (placed o cells (place_of j)) × (nodes_left o.code cells (place_of j) < nodes_left o.code cells p)
  goes j to =
      let alike : Alike (placed o cells p) (placed o cells (place_of j)) =
      alike_in_layers around_it (headed o cells p) (headed o cells (place_of j)) (alike_by_step (headed o cells p) (headed o cells (place_of j)) to.steps) in (
        record { node_in = to.within; around = is.around; few = few_after (placed o cells (place_of j)) alike },
        alike,
        omega (arith, to.fewer),
      )

  some_layers : p.frames ≢ 0 → around_it ≢ []
  some_layers some = some_mapped (layer_of o.code o.regs cells.values) (frames_at cells.frames p.frames) (some_chain frame_parent cells.frames p.frames some (omega (arith, is.around.frames_in)))

  -- the outcome with which the node's part is over, after so many fresh channels
  abbrev ending : ℕ → Outcome → Member
  ending count outcome = ending_in o cells count p.frames outcome

  pub ends_so : (outcome : Outcome) → EndsAs (headed o cells p) p.frames outcome → Alike (placed o cells p) (ending p.count outcome)
  ends_so outcome (inl final) = final_is_ended around_it (headed o cells p) outcome (some_layers final.1) final.0
  ends_so outcome (inr steps) =
      alike_in_layers around_it (headed o cells p) (member_at o p.count (ended outcome)) (alike_by_step (headed o cells p) (member_at o p.count (ended outcome)) steps)

  pub few_ending : (count : ℕ) (outcome : Outcome) → Alike (placed o cells p) (ending count outcome) → HasFewFresh (ending count outcome)
  few_ending count outcome alike = few_after (ending count outcome) alike

  -- ---- fresh channels

  pub room_for_one : head_is ≡ fresh → p.count < most_fresh
  room_for_one at = omega (arith, is.few, fresh_inside around_it head_is, ap fresh_count at)

  pub makes : head_is ≡ fresh → (v : List Atom) (n : ℕ) → v ≡ Chan (fresh_channel o.thread o.ticket p.count) ∷ [] → n ≡ suc p.count → Alike (placed o cells p) (ending n (Gives v))
  makes at v n is_channel one_more =
      let channel : List Atom = Chan (fresh_channel o.thread o.ticket p.count) ∷ [] in
      let step : quiet_step (headed o cells p) ≡ Some (member_at o (suc p.count) (giving channel)) = ap (λ t. quiet_step (at_term (headed o cells p) t)) at in
      rw (is_channel, one_more) (alike_in_layers around_it (headed o cells p) (member_at o (suc p.count) (giving channel))
      (alike_by_step (headed o cells p) (member_at o (suc p.count) (giving channel)) step))

  from_end : (m : Member) (new : Cells) (s : Spot) (went : Went) → Alike (placed o cells p) m →
      GoesOn o m (1 + left_at o.code cells p.frames) new s went → GoesOn o (placed o cells p) (nodes_left o.code cells p) new s went
  from_end m new s (wents.To q) alike on = (
    on.0,
    alike_on (placed o cells p) m (placed o new q) alike on.1,
    omega (arith, on.2, some_nodes (term_at o.code (length (inner_at cells.values p.values)) p.node)),
  )
  from_end m new s wents.At alike on = (on.0, alike_on (placed o cells p) m (spelled o new s) alike on.1)

  pub ends : {E : Type 0} (m : Member) (new : Cells) (s : Spot) (r : Result Went E) → Alike (placed o cells p) m →
      IfOk r (λ went. GoesOn o m (1 + left_at o.code cells p.frames) new s went) → IfOk r (λ went. GoesOn o (placed o cells p) (nodes_left o.code cells p) new s went)
  ends m new s (Ok went) alike on = from_end m new s went alike on
  ends m new s (Err e) alike on = on
