-- Nor does a member that advances come to name a channel of the ring.
use Rattle.std.proofs.Common.{◌≡◌, ℕ, zero, suc, ◌*◌, Bool, true, false, List, [], ◌∷◌, Option, Some, None, Result, Ok, Err, refl, subst}
use Rattle.te_terms.specs.Terms.{Term}
use Rattle.te_terms.specs.Steps.{Member, at_term, quiet_step}
use Rattle.te_terms.specs.Measures.{node_count}
use Rattle.te_terms.specs.Joint.{Label, choice, after_choice}
use Rattle.te_cert.specs.Play.{PlayFault, Player, Advance, choice_of, own_turn, with_label, takes_turn, advance_within, advanced}
use Rattle.te_forms.specs.Rings.{IsRing}
use Rattle.te_forms.specs.Privacy.{TermAvoids}
use Rattle.te_forms.proofs.Avoiding.{quiet_avoids, choice_avoids}

module _ (ring : List ℕ) (is_ring : IsRing ring) where
  -- where an advance ends, no channel of the ring is named
  abbrev EndsWell : Result Advance PlayFault → Type 0
  EndsWell r = (a : Advance) → r ≡ Ok a → TermAvoids ring a.player.member.term

  labelled : (l : Label) (r : Result Advance PlayFault) → EndsWell r → EndsWell (with_label l r)
  labelled l (Ok b) h a e = let is : record { player = b.player; word = l ∷ b.word } ≡ a = cc in subst (λ (x : Advance). TermAvoids ring x.player.member.term) is (h b refl)
  labelled l (Err x) h a e = absurd cc

  stays : (p : Player) → TermAvoids ring p.member.term → EndsWell (Ok (record { player = p; word = [] }))
  stays p h a e = let is : record { player = p; word = [] } ≡ a = cc in subst (λ (x : Advance). TermAvoids ring x.player.member.term) is h

  at_choice : (go : Player → Result Advance PlayFault) (i : ℕ) (p : Player) (letters : List Bool) (e f : Option Term) → TermAvoids ring p.member.term
      → ((q : Player) → TermAvoids ring q.member.term → EndsWell (go q)) → ((u : Term) → e ≡ Some u → TermAvoids ring u)
      → ((u : Term) → f ≡ Some u → TermAvoids ring u) → EndsWell (takes_turn go i p (choice_of p.member e f) letters)
  at_choice go i p [] (Some e) (Some f) h ih on_left on_right = λ a is. absurd cc
  at_choice go i p (true ∷ letters) (Some e) (Some f) h ih on_left on_right =
      labelled (choice p.member.thread true) (go (record { member = at_term p.member e; letters = letters }))
      (ih (record { member = at_term p.member e; letters = letters }) (on_left e refl))
  at_choice go i p (false ∷ letters) (Some e) (Some f) h ih on_left on_right =
      labelled (choice p.member.thread false) (go (record { member = at_term p.member f; letters = letters }))
      (ih (record { member = at_term p.member f; letters = letters }) (on_right f refl))
  at_choice go i p letters _ _ h ih on_left on_right = stays p h

  at_turn : (go : Player → Result Advance PlayFault) (i : ℕ) (p : Player) (letters : List Bool) (o : Option Member) → TermAvoids ring p.member.term
      → ((q : Player) → TermAvoids ring q.member.term → EndsWell (go q)) → quiet_step p.member ≡ o → EndsWell (takes_turn go i p (own_turn p.member o) letters)
  at_turn go i p letters (Some n) h ih step = ih (record { member = n; letters = letters }) (quiet_avoids ring is_ring p.member n h step)
  at_turn go i p letters None h ih rests =
      at_choice go i p letters (after_choice true p.member.term) (after_choice false p.member.term) h ih
      (λ u e. choice_avoids ring true p.member.term u h e) (λ u e. choice_avoids ring false p.member.term u h e)

  within : (turns i : ℕ) (p : Player) → TermAvoids ring p.member.term → EndsWell (advance_within turns i p)
  within zero i p h = stays p h
  within (suc turns) i p h = at_turn (advance_within turns i) i p p.letters (quiet_step p.member) h (λ q k. within turns i q k) refl

  pub advance_avoids : (i : ℕ) (p : Player) (a : Advance) → TermAvoids ring p.member.term → advanced i p ≡ Ok a → TermAvoids ring a.player.member.term
  advance_avoids i p a h e = within (2 * node_count p.member.term) i p h a e
