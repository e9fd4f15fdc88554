-- How far a form member has come in a play, what it does there, and where that leads it.
use Rattle.std.proofs.Common.{◌≡◌, ℕ, zero, suc, List, [], Option, Some, None, Ok, refl, subst}
use Rattle.std.specs.Prelude.{length, slice_index}
use Rattle.std.specs.Option.{option_map}
use Rattle.te_terms.specs.declared.value.Atom.{Atom}
use Rattle.te_terms.specs.declared.event.Outcome.{Outcome}
use Rattle.te_terms.specs.Terms.{Term, and_then}
use Rattle.te_terms.specs.Steps.{giving, outcome_of, with_head}
use Rattle.te_terms.specs.Joint.{Message, sending, receiving}
use Rattle.te_cert.specs.Play.{Player, player_with_term, advanced}
use Rattle.te_forms.specs.declared.form.Form.{Form}
use Rattle.te_forms.specs.declared.form.Form.TheVariants.{Swap, Barrier}
use Rattle.te_forms.specs.Rings.{role_before}
use Rattle.te_forms.specs.Forms.{sends, receives, form_term, role_of, offer_of}
use Rattle.te_forms.specs.Handing.{outcome_by}

-- it has met nobody, it has done one of its two meetings, or both; with what it has received
pub data Stage : Type 0 where
  begun : Stage
  halfway : List Atom → Stage
  done : List Atom → Stage

abbrev pub halfway_term : List ℕ → Form → List Atom → Term
halfway_term ring (Swap zero v) w = receives ring zero
halfway_term ring (Swap (suc i) v) w = and_then (sends ring (suc i) v) 1 (giving w)
halfway_term ring (Barrier zero) w = and_then (receives ring zero) 1 (giving [])
halfway_term ring (Barrier (suc i)) w = and_then (sends ring (suc i) []) 1 (giving [])

abbrev pub done_term : Form → List Atom → Term
done_term (Swap role v) w = giving w
done_term (Barrier role) w = giving []

abbrev pub stage_term : List ℕ → Form → Stage → Term
stage_term ring f begun = form_term ring f
stage_term ring f (halfway w) = halfway_term ring f w
stage_term ring f (done w) = done_term f w

-- ---- what a role does

-- the stage after its send, where that is due
abbrev pub after_send : ℕ → Stage → Option Stage
after_send zero begun = Some (halfway [])
after_send zero (halfway w) = None
after_send zero (done w) = None
after_send (suc i) begun = None
after_send (suc i) (halfway w) = Some (done w)
after_send (suc i) (done w) = None

-- the stage after it has received a value, where that is due
abbrev pub after_receive : ℕ → List Atom → Stage → Option Stage
after_receive zero v begun = None
after_receive zero v (halfway w) = Some (done v)
after_receive zero v (done w) = None
after_receive (suc i) v begun = Some (halfway v)
after_receive (suc i) v (halfway w) = None
after_receive (suc i) v (done w) = None

abbrev pub own_message : List ℕ → Form → Message
own_message ring f = record { channel = slice_index ring (role_of f); value = offer_of f }

abbrev pub own_source : List ℕ → Form → ℕ
own_source ring f = slice_index ring (role_before (length ring) (role_of f))

pub sends_at : (ring : List ℕ) (f : Form) (s : Stage) → sending (stage_term ring f s) ≡ option_map (λ _. own_message ring f) (after_send (role_of f) s)
sends_at ring (Swap zero v) begun = refl
sends_at ring (Swap zero v) (halfway w) = refl
sends_at ring (Swap zero v) (done w) = refl
sends_at ring (Swap (suc i) v) begun = refl
sends_at ring (Swap (suc i) v) (halfway w) = refl
sends_at ring (Swap (suc i) v) (done w) = refl
sends_at ring (Barrier zero) begun = refl
sends_at ring (Barrier zero) (halfway w) = refl
sends_at ring (Barrier zero) (done w) = refl
sends_at ring (Barrier (suc i)) begun = refl
sends_at ring (Barrier (suc i)) (halfway w) = refl
sends_at ring (Barrier (suc i)) (done w) = refl

pub receives_at : (ring : List ℕ) (f : Form) (v : List Atom) (s : Stage) → receiving (stage_term ring f s) ≡ option_map (λ _. own_source ring f) (after_receive (role_of f) v s)
receives_at ring (Swap zero u) v begun = refl
receives_at ring (Swap zero u) v (halfway w) = refl
receives_at ring (Swap zero u) v (done w) = refl
receives_at ring (Swap (suc i) u) v begun = refl
receives_at ring (Swap (suc i) u) v (halfway w) = refl
receives_at ring (Swap (suc i) u) v (done w) = refl
receives_at ring (Barrier zero) v begun = refl
receives_at ring (Barrier zero) v (halfway w) = refl
receives_at ring (Barrier zero) v (done w) = refl
receives_at ring (Barrier (suc i)) v begun = refl
receives_at ring (Barrier (suc i)) v (halfway w) = refl
receives_at ring (Barrier (suc i)) v (done w) = refl

-- ---- where it advances to

-- the player at the one term advances to the other, with no choice
abbrev pub Advances : ℕ → Player → Term → Term → Type 0
Advances i p t u = advanced i (player_with_term p t) ≡ Ok (record { player = player_with_term p u; word = [] })

module _ (ring : List ℕ) (i : ℕ) (p : Player) where
  pub begins : (f : Form) → Advances i p (form_term ring f) (form_term ring f)
  begins (Swap zero v) = refl
  begins (Swap (suc k) v) = refl
  begins (Barrier zero) = refl
  begins (Barrier (suc k)) = refl

  -- to the stage, and so to one that is the same
  goes_on : (f : Form) (t : Term) (s next : Stage) → s ≡ next → Advances i p t (stage_term ring f s) → Advances i p t (stage_term ring f next)
  goes_on f t s next same h = subst (λ (x : Stage). Advances i p t (stage_term ring f x)) same h

  abbrev sent_from : Form → Stage → Term
  sent_from f s = with_head (giving []) (stage_term ring f s)

  abbrev given_to : List Atom → Form → Stage → Term
  given_to v f s = with_head (giving v) (stage_term ring f s)

  pub has_sent : (f : Form) (s next : Stage) → after_send (role_of f) s ≡ Some next → Advances i p (with_head (giving []) (stage_term ring f s)) (stage_term ring f next)
  has_sent (Swap zero v) begun next e =
      let same : halfway [] ≡ next = cc in
      let there : Advances i p (sent_from (Swap zero v) begun) (stage_term ring (Swap zero v) (halfway [])) = refl in
      goes_on (Swap zero v) (sent_from (Swap zero v) begun) (halfway []) next same there
  has_sent (Swap (suc k) v) (halfway w) next e =
      let same : done w ≡ next = cc in
      let there : Advances i p (sent_from (Swap (suc k) v) (halfway w)) (stage_term ring (Swap (suc k) v) (done w)) = refl in
      goes_on (Swap (suc k) v) (sent_from (Swap (suc k) v) (halfway w)) (done w) next same there
  has_sent (Barrier zero) begun next e =
      let same : halfway [] ≡ next = cc in
      let there : Advances i p (sent_from (Barrier zero) begun) (stage_term ring (Barrier zero) (halfway [])) = refl in
      goes_on (Barrier zero) (sent_from (Barrier zero) begun) (halfway []) next same there
  has_sent (Barrier (suc k)) (halfway w) next e =
      let same : done w ≡ next = cc in
      let there : Advances i p (sent_from (Barrier (suc k)) (halfway w)) (stage_term ring (Barrier (suc k)) (done w)) = refl in
      goes_on (Barrier (suc k)) (sent_from (Barrier (suc k)) (halfway w)) (done w) next same there
  has_sent (Swap zero v) (halfway w) next e = absurd cc
  has_sent (Swap zero v) (done w) next e = absurd cc
  has_sent (Swap (suc k) v) begun next e = absurd cc
  has_sent (Swap (suc k) v) (done w) next e = absurd cc
  has_sent (Barrier zero) (halfway w) next e = absurd cc
  has_sent (Barrier zero) (done w) next e = absurd cc
  has_sent (Barrier (suc k)) begun next e = absurd cc
  has_sent (Barrier (suc k)) (done w) next e = absurd cc

  pub has_received : (f : Form) (v : List Atom) (s next : Stage) → after_receive (role_of f) v s ≡ Some next
      → Advances i p (with_head (giving v) (stage_term ring f s)) (stage_term ring f next)
  has_received (Swap zero u) v (halfway w) next e =
      let same : done v ≡ next = cc in
      let there : Advances i p (given_to v (Swap zero u) (halfway w)) (stage_term ring (Swap zero u) (done v)) = refl in
      goes_on (Swap zero u) (given_to v (Swap zero u) (halfway w)) (done v) next same there
  has_received (Swap (suc k) u) v begun next e =
      let same : halfway v ≡ next = cc in
      let there : Advances i p (given_to v (Swap (suc k) u) begun) (stage_term ring (Swap (suc k) u) (halfway v)) = refl in
      goes_on (Swap (suc k) u) (given_to v (Swap (suc k) u) begun) (halfway v) next same there
  has_received (Barrier zero) v (halfway w) next e =
      let same : done v ≡ next = cc in
      let there : Advances i p (given_to v (Barrier zero) (halfway w)) (stage_term ring (Barrier zero) (done v)) = refl in
      goes_on (Barrier zero) (given_to v (Barrier zero) (halfway w)) (done v) next same there
  has_received (Barrier (suc k)) v begun next e =
      let same : halfway v ≡ next = cc in
      let there : Advances i p (given_to v (Barrier (suc k)) begun) (stage_term ring (Barrier (suc k)) (halfway v)) = refl in
      goes_on (Barrier (suc k)) (given_to v (Barrier (suc k)) begun) (halfway v) next same there
  has_received (Swap zero u) v begun next e = absurd cc
  has_received (Swap zero u) v (done w) next e = absurd cc
  has_received (Swap (suc k) u) v (halfway w) next e = absurd cc
  has_received (Swap (suc k) u) v (done w) next e = absurd cc
  has_received (Barrier zero) v begun next e = absurd cc
  has_received (Barrier zero) v (done w) next e = absurd cc
  has_received (Barrier (suc k)) v (halfway w) next e = absurd cc
  has_received (Barrier (suc k)) v (done w) next e = absurd cc

-- ---- where it ends

-- done, with what it has received
pub record Ended (f : Form) (s : Stage) (o : Outcome) : Type 0 where
  pub received : List Atom
  pub is_done : s ≡ done received
  pub outcome_is : o ≡ outcome_by f received

pub ends_at : (ring : List ℕ) (f : Form) (s : Stage) (o : Outcome) → outcome_of (stage_term ring f s) ≡ Some o → Ended f s o
ends_at ring (Swap r v) (done w) o e = record { received = w; is_done = refl; outcome_is = cc }
ends_at ring (Barrier r) (done w) o e = record { received = w; is_done = refl; outcome_is = cc }
ends_at ring (Swap zero v) begun o e = absurd cc
ends_at ring (Swap zero v) (halfway w) o e = absurd cc
ends_at ring (Swap (suc i) v) begun o e = absurd cc
ends_at ring (Swap (suc i) v) (halfway w) o e = absurd cc
ends_at ring (Barrier zero) begun o e = absurd cc
ends_at ring (Barrier zero) (halfway w) o e = absurd cc
ends_at ring (Barrier (suc i)) begun o e = absurd cc
ends_at ring (Barrier (suc i)) (halfway w) o e = absurd cc
