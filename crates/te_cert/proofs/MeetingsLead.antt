-- Where a meeting leads a group, with the advances of its two ends.
use Rattle.std.proofs.Common.{◌≡◌, ℕ, true, List, [], ◌∷◌, ◌++◌, Some, None, refl, sym, ap, subst, ◌∙◌}
use Rattle.std.specs.Prelude.{◌==◌}
use Rattle.te_terms.specs.Steps.{Member, giving, with_head, at_term}
use Rattle.te_terms.specs.Joint.{Label, meeting, Message, member_of, with_member, meeting_joint, sending, receiving}
use Rattle.te_terms.proofs.OneThing.{receive_is_alone}
use Rattle.te_cert.proofs.MembersReplaced.{other_test, found_new, found_other, replaced_again, replaced_apart}
use Rattle.te_cert.proofs.ChainsJoin.{Leads, leads_by, leads_on}
use Rattle.te_cert.proofs.MembersMove.{Moves}

-- ---- two ends that fit

abbrev pub after_sending : Member → Member
after_sending m = at_term m (with_head (giving []) m.term)

abbrev pub after_receiving : Message → Member → Member
after_receiving sent m = at_term m (with_head (giving sent.value) m.term)

-- the sender has something to send, on a channel on which the receiver waits
pub record Fit (s r : Member) : Type 0 where
  pub sent : Message
  pub channel : ℕ
  pub sends : sending s.term ≡ Some sent
  pub receives : receiving r.term ≡ Some channel
  pub one_channel : (sent.channel == channel) ≡ true

-- nobody meets himself
two_threads : (g : List Member) (s r : Member) → member_of s.thread g ≡ Some s → member_of r.thread g ≡ Some r → Fit s r → ¬ (s.thread ≡ r.thread)
two_threads g s r s_found r_found fit same =
    let one : s ≡ r = let both : Some s ≡ Some r = sym s_found ∙ ap (λ t. member_of t g) same ∙ r_found in cc in
    let none : sending r.term ≡ None = (receive_is_alone r r.term fit.channel fit.receives).2 in
    let some : sending r.term ≡ Some fit.sent = ap (λ m. sending m.term) (sym one) ∙ fit.sends in
    let both : None ≡ Some fit.sent = sym none ∙ some in
    absurd cc

meeting_is : (g : List Member) (s r : Member) → member_of s.thread g ≡ Some s → member_of r.thread g ≡ Some r → (fit : Fit s r) → ¬ (s.thread ≡ r.thread) →
    meeting_joint s.thread r.thread g ≡ Some (with_member (after_receiving fit.sent r) (with_member (after_sending s) g))
meeting_is g s r s_found r_found fit apart = rw (other_test s.thread r.thread apart, s_found, r_found, fit.sends, fit.receives, fit.one_channel) refl

-- ---- a meeting, then both advances

-- what stood in both places between is gone
both_replaced : (g : List Member) (s r a b : Member) → a.thread ≡ s.thread → b.thread ≡ r.thread → ¬ (r.thread ≡ a.thread) →
    with_member b (with_member a (with_member r (with_member s g))) ≡ with_member b (with_member a g)
both_replaced g s r a b same_a same_b apart =
    ap (with_member b) (replaced_apart a r (with_member s g) apart)
    ∙ replaced_again b r (with_member a (with_member s g)) (sym same_b)
    ∙ ap (with_member b) (replaced_again a s g (sym same_a))

pub both_move : (g : List Member) (s r a b : Member) (w v : List Label) → member_of s.thread g ≡ Some s → member_of r.thread g ≡ Some r → (fit : Fit s r) →
    Moves (after_sending s) w a → Moves (after_receiving fit.sent r) v b → Leads g ((meeting s.thread r.thread ∷ w) ++ v) (with_member b (with_member a g))
both_move g s r a b w v s_found r_found fit sender receiver =
    let s_next : Member = after_sending s in
    let r_next : Member = after_receiving fit.sent r in
    let once : List Member = with_member s_next g in
    let met : List Member = with_member r_next once in
    let apart : ¬ (s.thread ≡ r.thread) = two_threads g s r s_found r_found fit in
    let not_a : ¬ (r.thread ≡ a.thread) = λ so. apart (sym (so ∙ sender.same_thread)) in
    let s_there : member_of s.thread met ≡ Some s_next = found_other s.thread r_next once (λ so. apart (sym so)) ∙ found_new s_next s g s_found in
    let r_met : member_of r.thread met ≡ Some r_next = found_new r_next r once (found_other r.thread s_next g apart ∙ r_found) in
    let r_there : member_of r.thread (with_member a met) ≡ Some r_next = found_other r.thread a met (λ so. not_a (sym so)) ∙ r_met in
    let meets = leads_by (meeting s.thread r.thread) g met (meeting_is g s r s_found r_found fit apart) in
    let end : List Member = with_member b (with_member a met) in
    let both = leads_on met (with_member a met) end w v (sender.leads met s_there) (receiver.leads (with_member a met) r_there) in
    let all = leads_on g met end (meeting s.thread r.thread ∷ []) (w ++ v) meets both in
    subst (Leads g ((meeting s.thread r.thread ∷ w) ++ v)) (both_replaced g s_next r_next a b sender.same_thread receiver.same_thread not_a) all
