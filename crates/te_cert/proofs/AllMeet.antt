-- Where the meetings of a play lead its members.
use Rattle.std.proofs.Common.{◌≡◌, ℕ, suc, List, [], ◌∷◌, ◌++◌, Option, Some, None, Ok, refl, sym, ap, subst, ◌∙◌, append_assoc}
use Rattle.std.specs.Prelude.{◌==◌, slice_get, slice_set}
use Rattle.std.specs.Option.{option_map}
use Rattle.std.proofs.lemmas.List.{map-set}
use Rattle.std.proofs.lemmas.Option.{slice_get-map, cond_some}
use Rattle.te_terms.specs.Steps.{Member, giving, with_head}
use Rattle.te_terms.specs.Joint.{Label, meeting, Message, IsGroup, with_member, sending, receiving}
use Rattle.te_cert.specs.declared.cert.Meeting.{Meeting}
use Rattle.te_cert.specs.Play.{Player, Table, Advance, advanced, player_with_term, Ends, met_by, met, ends_advance, meets, all_meet}
use Rattle.te_cert.proofs.MembersReplaced.{threads_stay, group_stays}
use Rattle.te_cert.proofs.PlacesOfThreads.{thread_at, found_at, set_at_thread}
use Rattle.te_cert.proofs.MembersMove.{Moves, advance_moves}
use Rattle.te_cert.proofs.MeetingsLead.{Fit, after_sending, after_receiving, both_move}
use Rattle.te_cert.proofs.AllAdvance.{members, through, Comes, comes_on}

-- ---- who meets

-- the ends of a meeting, once each has its value
abbrev pub ends_of : Player → Player → Message → Ends
ends_of s r sent = record { sender = player_with_term s (with_head (giving []) s.member.term); receiver = player_with_term r (with_head (giving sent.value) r.member.term) }

-- two players at these places met so
pub record Met (x y : Option Player) (e : Ends) : Type 0 where
  pub sender : Player
  pub receiver : Player
  pub sender_is : x ≡ Some sender
  pub receiver_is : y ≡ Some receiver
  pub fit : Fit sender.member receiver.member
  pub ends_are : ends_of sender receiver fit.sent ≡ e

fitting : (s r : Player) (o : Option Message) (c : Option ℕ) (e : Ends) → sending s.member.term ≡ o → receiving r.member.term ≡ c →
    met_by s r o c ≡ Some e → Met (Some s) (Some r) e
fitting s r (Some sent) (Some c) e sends receives so =
    let both = cond_some (sent.channel == c) (ends_of s r sent) e so in
    record {
      sender = s;
      receiver = r;
      sender_is = refl;
      receiver_is = refl;
      fit = record { sent = sent; channel = c; sends = sends; receives = receives; one_channel = both.0 };
      ends_are = both.1;
    }
fitting s r _ _ e sends receives so = absurd cc

pub who_met : (x y : Option Player) (e : Ends) → met x y ≡ Some e → Met x y e
who_met (Some s) (Some r) e so = fitting s r (sending s.member.term) (receiving r.member.term) e refl refl so
who_met _ _ e so = absurd cc

member_at : (ps : List Player) (i : ℕ) (p : Player) → slice_get ps i ≡ Some p → slice_get (members ps) i ≡ Some p.member
member_at ps i p e = slice_get-map (λ x. x.member) ps i ∙ ap (option_map (λ x. x.member)) e

-- ---- both move

-- the members once two players are set
both_set : (ps : List Player) (i k : ℕ) (s r a b : Player) → IsGroup (members ps) → slice_get ps i ≡ Some s → slice_get ps k ≡ Some r →
    a.member.thread ≡ s.member.thread → b.member.thread ≡ r.member.thread →
    members (slice_set (slice_set ps i a) k b) ≡ with_member b.member (with_member a.member (members ps))
both_set ps i k s r a b is at_i at_k same_a same_b =
    let g : List Member = members ps in
    let h : List Member = with_member a.member g in
    let h_is : IsGroup h = group_stays g h (threads_stay a.member g) is in
    let first_thread = thread_at g i s.member (member_at ps i s at_i) ∙ ap Some (sym same_a) in
    let other_thread = ap (λ ts. slice_get ts k) (threads_stay a.member g) ∙ thread_at g k r.member (member_at ps k r at_k) ∙ ap Some (sym same_b) in
    let one_set : members (slice_set ps i a) ≡ h = map-set (λ x. x.member) ps i a ∙ set_at_thread g i a.member is first_thread in
    map-set (λ x. x.member) (slice_set ps i a) k b ∙ ap (λ l. slice_set l k b.member) one_set ∙ set_at_thread h k b.member h_is other_thread

-- a chain from the start leads to the members of a table, with the labels so far
abbrev pub HasCome : List Member → Table → Type 0
HasCome start t = Comes start t.word (members t.players)

-- the table once both ends have moved
abbrev both_moved : Meeting → Table → Player → Player → Advance → Advance → Table
both_moved m t s r a b = record {
  players = slice_set (slice_set t.players m.sender a.player) m.receiver b.player;
  word = t.word ++ (meeting s.member.thread r.member.thread ∷ a.word) ++ b.word;
}

-- a meeting, and then both advances, lead on
moved_come : (start : List Member) (m : Meeting) (t : Table) (s r : Player) (a b : Advance) (fit : Fit s.member r.member) → IsGroup start → HasCome start t →
    slice_get t.players m.sender ≡ Some s → slice_get t.players m.receiver ≡ Some r →
    Moves (after_sending s.member) a.word a.player.member → Moves (after_receiving fit.sent r.member) b.word b.player.member →
    HasCome start (both_moved m t s r a b)
moved_come start m t s r a b fit is come at_s at_r sender receiver =
    let own : List Label = (meeting s.member.thread r.member.thread ∷ a.word) ++ b.word in
    let g : List Member = members t.players in
    let h : List Member = with_member b.player.member (with_member a.player.member g) in
    let g_is : IsGroup g = group_stays start g come.same_threads is in
    let set = both_set t.players m.sender m.receiver s r a.player b.player g_is at_s at_r sender.same_thread receiver.same_thread in
    let s_found = found_at g m.sender s.member g_is (member_at t.players m.sender s at_s) in
    let r_found = found_at g m.receiver r.member g_is (member_at t.players m.receiver r at_r) in
    let one : Comes g own h = record {
      same_threads = threads_stay b.player.member (with_member a.player.member g) ∙ threads_stay a.player.member g;
      leads = both_move g s.member r.member a.player.member b.player.member a.word b.word s_found r_found fit sender receiver;
    } in
    rw (set, append_assoc t.word (meeting s.member.thread r.member.thread ∷ a.word) b.word) (comes_on start g h t.word own come one)

ends_come : (start : List Member) (j : ℕ) (m : Meeting) (t u : Table) (s r : Player) (fit : Fit s.member r.member) → IsGroup start → HasCome start t →
    slice_get t.players m.sender ≡ Some s → slice_get t.players m.receiver ≡ Some r → ends_advance j m t (Some (ends_of s r fit.sent)) ≡ Ok u → HasCome start u
ends_come start j m t u s r fit is come at_s at_r e =
    let ends : Ends = ends_of s r fit.sent in
    let first = through (advanced m.sender ends.sender) _ u e in
    let second = through (advanced m.receiver ends.receiver) _ u first.2 in
    let so : both_moved m t s r first.0 second.0 ≡ u = let both = second.2 in cc in
    let sender = advance_moves m.sender ends.sender first.0 first.1 in
    let receiver = advance_moves m.receiver ends.receiver second.0 second.1 in
    subst (HasCome start) so (moved_come start m t s r first.0 second.0 fit is come at_s at_r sender receiver)

pub meet_comes : (start : List Member) (j : ℕ) (m : Meeting) (t u : Table) (o : Option Ends) → IsGroup start → HasCome start t →
    met (slice_get t.players m.sender) (slice_get t.players m.receiver) ≡ o → ends_advance j m t o ≡ Ok u → HasCome start u
meet_comes start j m t u None is come so e = absurd cc
meet_comes start j m t u (Some ends) is come so e =
    let who = who_met (slice_get t.players m.sender) (slice_get t.players m.receiver) ends so in
    ends_come start j m t u who.sender who.receiver who.fit is come who.sender_is who.receiver_is
    (subst (λ x. ends_advance j m t (Some x) ≡ Ok u) (sym who.ends_are) e)

-- all meetings, in order
pub meetings_come : (start : List Member) (j : ℕ) (ms : List Meeting) (t u : Table) → IsGroup start → HasCome start t → all_meet j ms t ≡ Ok u → HasCome start u
meetings_come start j [] t u is come e = let so : t ≡ u = cc in subst (HasCome start) so come
meetings_come start j (m ∷ ms) t u is come e =
    let first = through (meets j m t) _ u e in
    let one = meet_comes start j m t first.0 (met (slice_get t.players m.sender) (slice_get t.players m.receiver)) is come refl first.1 in
    meetings_come start (suc j) ms first.0 u is one first.2
