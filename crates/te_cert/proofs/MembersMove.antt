-- Where one member's quiet steps and choices lead its group.
use Rattle.std.proofs.Common.{◌≡◌, ℕ, Bool, true, false, List, [], ◌∷◌, ◌++◌, Option, Some, Result, Ok, Err, refl, sym, ap, subst, ◌∙◌}
use Rattle.std.specs.Option.{option_map, option_and_then}
use Rattle.te_terms.specs.Terms.{Term}
use Rattle.te_terms.specs.Steps.{Member, quiet_step, at_term}
use Rattle.te_terms.specs.Joint.{Label, choice, member_of, with_member, with_term, after_choice}
use Rattle.te_terms.specs.Settling.{Quietly, here, after_one, settled}
use Rattle.te_terms.proofs.QuietStepsEnd.{step_stays}
use Rattle.te_terms.proofs.Settles.{settled_is_reached}
use Rattle.te_cert.specs.Play.{Player, advanced, PlayFault, Turn, by_choice, choice_of, Advance, with_label}
use Rattle.te_cert.specs.Advances.{by_letters, with_letter, without_letter, settled_turn}
use Rattle.te_cert.proofs.Advancing.{advanced_is}
use Rattle.te_cert.proofs.ChainsJoin.{Leads, leads_nowhere, leads_by, leads_quietly, leads_on}
use Rattle.te_cert.proofs.MembersReplaced.{found_new, replaced_by_itself, replaced_again}

-- ---- moves of one member

-- steps of the member's own lead any group that it stands in to the group with another in its place
pub record Moves (m : Member) (word : List Label) (n : Member) : Type 0 where
  pub same_thread : n.thread ≡ m.thread
  pub leads : (g : List Member) → member_of m.thread g ≡ Some m → Leads g word (with_member n g)

moves_nowhere : (m : Member) → Moves m [] m
moves_nowhere m = record {
  same_thread = refl;
  leads = λ g found. subst (Leads g []) (sym (replaced_by_itself m g found)) (leads_nowhere g);
}

moves_on : (m n k : Member) (w v : List Label) → Moves m w n → Moves n v k → Moves m (w ++ v) k
moves_on m n k w v first more = record {
  same_thread = more.same_thread ∙ first.same_thread;
  leads = λ g found.
      let there : member_of n.thread (with_member n g) ≡ Some n = found_new n m g (ap (λ t. member_of t g) first.same_thread ∙ found) in
      subst (Leads g (w ++ v)) (replaced_again k n g (sym more.same_thread))
      (leads_on g (with_member n g) (with_member k (with_member n g)) w v (first.leads g found) (more.leads (with_member n g) there));
}

moves_quietly : (m n : Member) → quiet_step m ≡ Some n → Moves m [] n
moves_quietly m n step = record {
  same_thread = (step_stays m n step).0;
  leads = λ g found. leads_quietly m.thread g (with_member n g)
      (ap (λ o. option_map (λ x. with_member x g) (option_and_then quiet_step o)) found ∙ ap (option_map (λ x. with_member x g)) step);
}

moves_along : (m n : Member) → Quietly m n → Moves m [] n
moves_along m n (here _) = moves_nowhere m
moves_along m n (after_one _ q _ step more) = moves_on m q n [] [] (moves_quietly m q step) (moves_along q n more)

moves_choosing : (left : Bool) (m : Member) (u : Term) → after_choice left m.term ≡ Some u → Moves m (choice m.thread left ∷ []) (at_term m u)
moves_choosing left m u chosen = record {
  same_thread = refl;
  leads = λ g found. leads_by (choice m.thread left) g (with_member (at_term m u) g)
      (ap (option_and_then (λ x. option_map (with_term g x) (after_choice left x.term))) found ∙ ap (option_map (with_term g m)) chosen);
}

-- ---- an advance

-- each advance that the play gives is a move of the member
abbrev GoesOn : Member → Result Advance PlayFault → Type 0
GoesOn m r = (a : Advance) → r ≡ Ok a → Moves m a.word a.player.member

stands_still : (s : Member) (letters : List Bool) → GoesOn s (Ok (record { player = record { member = s; letters = letters }; word = [] }))
stands_still s letters a e =
    let is : record { player = record { member = s; letters = letters }; word = [] } ≡ a = cc in
    subst (λ x. Moves s x.word x.player.member) is (moves_nowhere s)

without_moves : (i : ℕ) (s : Member) (turn : Turn) → GoesOn s (without_letter i s turn)
without_moves i s (by_choice l r) a e = absurd cc
without_moves i s _ a e = stands_still s [] a e

labelled_moves : (left : Bool) (s : Member) (u : Term) (r : Result Advance PlayFault) → after_choice left s.term ≡ Some u → GoesOn (at_term s u) r →
    GoesOn s (with_label (choice s.thread left) r)
labelled_moves left s u (Err f) chosen more a e = absurd cc
labelled_moves left s u (Ok b) chosen more a e =
    let is : record { player = b.player; word = choice s.thread left ∷ b.word } ≡ a = cc in
    subst (λ x. Moves s x.word x.player.member) is
    (moves_on s (at_term s u) b.player.member (choice s.thread left ∷ []) b.word (moves_choosing left s u chosen) (more b refl))

with_moves : (go : Member → Result Advance PlayFault) (left : Bool) (letters : List Bool) (s : Member) (e f : Option Term) →
    after_choice true s.term ≡ e → after_choice false s.term ≡ f → ((n : Member) → GoesOn n (go n)) → GoesOn s (with_letter go left letters s (choice_of s e f))
with_moves go true letters s (Some e) (Some f) on_left on_right more =
    labelled_moves true s e (go (at_term s e)) on_left (more (at_term s e))
with_moves go false letters s (Some e) (Some f) on_left on_right more =
    labelled_moves false s f (go (at_term s f)) on_right (more (at_term s f))
with_moves go left letters s _ _ on_left on_right more = stands_still s (left ∷ letters)

settled_first : (m : Member) (r : Result Advance PlayFault) → GoesOn (settled m) r → GoesOn m r
settled_first m r more a e = moves_on m (settled m) a.player.member [] a.word (moves_along m (settled m) (settled_is_reached m)) (more a e)

-- an advance by letters is a move of the member
letters_move : (i : ℕ) (m : Member) (letters : List Bool) → GoesOn m (by_letters i m letters)
letters_move i m [] = settled_first m (by_letters i m []) (without_moves i (settled m) (settled_turn m))
letters_move i m (left ∷ letters) =
    settled_first m (by_letters i m (left ∷ letters))
    (with_moves (λ n. by_letters i n letters) left letters (settled m) (after_choice true (settled m).term) (after_choice false (settled m).term) refl refl
    (λ n. letters_move i n letters))

pub advance_moves : (i : ℕ) (p : Player) (a : Advance) → advanced i p ≡ Ok a → Moves p.member a.word a.player.member
advance_moves i p a e = letters_move i p.member p.letters a (sym (advanced_is i p) ∙ e)
