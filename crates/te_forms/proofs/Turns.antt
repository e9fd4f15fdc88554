-- What a meeting leaves of one form member's seat, and that nobody's form changes.
use Rattle.std.proofs.Common.{◌≡◌, ◌≢◌, ◌⊎◌, inl, inr, ℕ, zero, suc, List, map, Option, Some, None, refl, sym, ap, subst, ◌∙◌}
use Rattle.std.specs.Prelude.{slice_get, slice_set}
use Rattle.std.specs.Option.{option_map}
use Rattle.std.proofs.lemmas.List.{map-set}
use Rattle.std.proofs.lemmas.Option.{slice_get-map}
use Rattle.te_terms.specs.declared.value.Atom.{Atom}
use Rattle.te_cert.specs.declared.cert.Meeting.{Meeting}
use Rattle.te_cert.proofs.Places.{get_set_same, get_set_other, set_own}
use Rattle.te_history.proofs.Commits.{same_or_other}
use Rattle.te_forms.specs.declared.form.Form.{Form}
use Rattle.te_forms.specs.Forms.{role_of, offer_of}
use Rattle.te_forms.proofs.Stages.{Stage, begun, halfway, done, after_send, after_receive}
use Rattle.te_forms.proofs.Seats.{Seat, stranger, acting}
use Rattle.te_forms.proofs.Moves.{Handing, both_moved}
use Rattle.te_terms.proofs.Lists.{one_item}

pub form_of_seat : (f g : Form) (s t : Stage) → acting f s ≡ acting g t → f ≡ g
form_of_seat f g s t e = cc

pub stage_of_seat : (f g : Form) (s t : Stage) → acting f s ≡ acting g t → s ≡ t
stage_of_seat f g s t e = cc

-- no stage is due to both send and receive
pub not_both : (role : ℕ) (v : List Atom) (s a b : Stage) → after_send role s ≡ Some a → after_receive role v s ≡ Some b → ⊥
not_both zero v begun a b e e' = cc
not_both zero v (halfway w) a b e e' = cc
not_both zero v (done w) a b e e' = cc
not_both (suc i) v begun a b e e' = cc
not_both (suc i) v (halfway w) a b e e' = cc
not_both (suc i) v (done w) a b e e' = cc

-- so nobody hands on to himself
pub two_seats : (roles : ℕ) (seats : List Seat) (m : Meeting) → Handing roles seats m → m.sender ≢ m.receiver
two_seats roles seats m h same =
    let one : acting h.giver h.giver_stage ≡ acting h.taker h.taker_stage =
    one_item (slice_get seats m.receiver) _ _ (subst (λ (i : ℕ). slice_get seats i ≡ Some (acting h.giver h.giver_stage)) same h.giver_at) h.taker_at in
    let form : h.giver ≡ h.taker = form_of_seat h.giver h.taker h.giver_stage h.taker_stage one in
    let stage : h.giver_stage ≡ h.taker_stage = stage_of_seat h.giver h.taker h.giver_stage h.taker_stage one in
    not_both (role_of h.taker) (offer_of h.giver) h.taker_stage h.giver_next h.taker_next
    (subst (λ (f : Form). after_send (role_of f) h.taker_stage ≡ Some h.giver_next) form
    (subst (λ (s : Stage). after_send (role_of h.giver) s ≡ Some h.giver_next) stage h.sends)) h.receives

-- ---- one seat

-- what a meeting does to the seat at a place: it gives there, takes there, or nothing
pub data Turned (roles : ℕ) (seats : List Seat) (m : Meeting) (h : Handing roles seats m) (i : ℕ) (f : Form) (s : Stage) : Type 0 where
  gives : (next : Stage) → m.sender ≡ i → m.receiver ≢ i → after_send (role_of f) s ≡ Some next
      → slice_get (both_moved roles seats m h) i ≡ Some (acting f next) → Turned roles seats m h i f s
  takes : (next : Stage) → m.sender ≢ i → m.receiver ≡ i → h.taker ≡ f → after_receive (role_of f) (offer_of h.giver) s ≡ Some next
      → slice_get (both_moved roles seats m h) i ≡ Some (acting f next) → Turned roles seats m h i f s
  rests : m.sender ≢ i → m.receiver ≢ i → slice_get (both_moved roles seats m h) i ≡ Some (acting f s) → Turned roles seats m h i f s

module _ (roles : ℕ) (seats : List Seat) (m : Meeting) (h : Handing roles seats m) (i : ℕ) (f : Form) (s : Stage) (at : slice_get seats i ≡ Some (acting f s)) where
  abbrev once : List Seat
  once = slice_set seats m.sender (acting h.giver h.giver_next)

  abbrev twice : List Seat
  twice = slice_set once m.receiver (acting h.taker h.taker_next)

  by_giver : m.sender ≡ i → Turned roles seats m h i f s
  by_giver same =
      let one : acting h.giver h.giver_stage ≡ acting f s =
      one_item (slice_get seats i) _ _ (subst (λ (j : ℕ). slice_get seats j ≡ Some (acting h.giver h.giver_stage)) same h.giver_at) at in
      let form = form_of_seat h.giver f h.giver_stage s one in
      let stage = stage_of_seat h.giver f h.giver_stage s one in
      let other : m.receiver ≢ i = λ so. two_seats roles seats m h (same ∙ sym so) in
      let put : slice_get once m.sender ≡ Some (acting h.giver h.giver_next) = get_set_same seats m.sender (acting h.giver h.giver_stage) (acting h.giver h.giver_next) h.giver_at in
      let put_here : slice_get once i ≡ Some (acting h.giver h.giver_next) = subst (λ (j : ℕ). slice_get once j ≡ Some (acting h.giver h.giver_next)) same put in
      let there : slice_get twice i ≡ Some (acting h.giver h.giver_next) = get_set_other once m.receiver i (acting h.taker h.taker_next) other ∙ put_here in
      gives h.giver_next same other
      (subst (λ (g : Form). after_send (role_of g) s ≡ Some h.giver_next) form
      (subst (λ (x : Stage). after_send (role_of h.giver) x ≡ Some h.giver_next) stage h.sends))
      (there ∙ ap (λ (g : Form). Some (acting g h.giver_next)) form)

  by_taker : m.sender ≢ i → m.receiver ≡ i → Turned roles seats m h i f s
  by_taker other same =
      let one : acting h.taker h.taker_stage ≡ acting f s =
      one_item (slice_get seats i) _ _ (subst (λ (j : ℕ). slice_get seats j ≡ Some (acting h.taker h.taker_stage)) same h.taker_at) at in
      let form = form_of_seat h.taker f h.taker_stage s one in
      let stage = stage_of_seat h.taker f h.taker_stage s one in
      let was : slice_get once m.receiver ≡ Some (acting h.taker h.taker_stage) =
      get_set_other seats m.sender m.receiver (acting h.giver h.giver_next) (two_seats roles seats m h) ∙ h.taker_at in
      let put = get_set_same once m.receiver (acting h.taker h.taker_stage) (acting h.taker h.taker_next) was in
      takes h.taker_next other same form
      (subst (λ (g : Form). after_receive (role_of g) (offer_of h.giver) s ≡ Some h.taker_next) form
      (subst (λ (x : Stage). after_receive (role_of h.taker) (offer_of h.giver) x ≡ Some h.taker_next) stage h.receives))
      (subst (λ (j : ℕ). slice_get twice j ≡ Some (acting h.taker h.taker_next)) same put ∙ ap (λ (g : Form). Some (acting g h.taker_next)) form)

  by_places : (m.sender ≡ i) ⊎ (m.sender ≢ i) → (m.receiver ≡ i) ⊎ (m.receiver ≢ i) → Turned roles seats m h i f s
  by_places (inl same) _ = by_giver same
  by_places (inr other) (inl same) = by_taker other same
  by_places (inr other) (inr also) =
      rests other also (get_set_other once m.receiver i (acting h.taker h.taker_next) also ∙ get_set_other seats m.sender i (acting h.giver h.giver_next) other ∙ at)

  pub turned : Turned roles seats m h i f s
  turned = by_places (same_or_other m.sender i) (same_or_other m.receiver i)

-- ---- forms stay

abbrev pub kind : Seat → Option Form
kind stranger = None
kind (acting f s) = Some f

abbrev pub kinds : List Seat → List (Option Form)
kinds seats = map kind seats

pub kind_at : (seats : List Seat) (i : ℕ) (k : Seat) → slice_get seats i ≡ Some k → slice_get (kinds seats) i ≡ Some (kind k)
kind_at seats i k at = slice_get-map kind seats i ∙ ap (option_map kind) at

kinds_set : (seats : List Seat) (i : ℕ) (old new : Seat) → slice_get seats i ≡ Some old → kind old ≡ kind new → kinds (slice_set seats i new) ≡ kinds seats
kinds_set seats i old new at same =
    map-set kind seats i new ∙ set_own (kinds seats) i (kind new) (kind_at seats i old at ∙ ap Some same)

pub kinds_stay : (roles : ℕ) (seats : List Seat) (m : Meeting) (h : Handing roles seats m) → kinds (both_moved roles seats m h) ≡ kinds seats
kinds_stay roles seats m h =
    let once : List Seat = slice_set seats m.sender (acting h.giver h.giver_next) in
    let was : slice_get once m.receiver ≡ Some (acting h.taker h.taker_stage) =
    get_set_other seats m.sender m.receiver (acting h.giver h.giver_next) (two_seats roles seats m h) ∙ h.taker_at in
    kinds_set once m.receiver (acting h.taker h.taker_stage) (acting h.taker h.taker_next) was refl
    ∙ kinds_set seats m.sender (acting h.giver h.giver_stage) (acting h.giver h.giver_next) h.giver_at refl
