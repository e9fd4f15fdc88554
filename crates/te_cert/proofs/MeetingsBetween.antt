-- A play that succeeds names only places of members in its meetings, and two different ones each.
use Rattle.std.proofs.Common.{◌≡◌, ℕ, suc, zero, Bool, List, [], ◌∷◌, length, Some, None, Option, Ok, refl, sym, ap, subst, ◌∙◌}
use Rattle.std.specs.Prelude.{slice_get}
use Rattle.std.proofs.lemmas.Option.{slice_get_within}
use Rattle.te_terms.specs.Steps.{Member}
use Rattle.te_terms.specs.Joint.{IsGroup, receiving}
use Rattle.te_terms.proofs.OneThing.{send_is_alone}
use Rattle.te_cert.specs.declared.cert.Meeting.{Meeting}
use Rattle.te_cert.specs.Play.{Player, Table, Ends, met, ends_advance, meets, all_meet, all_advanced, Played, seated, play}
use Rattle.te_cert.specs.Checks.{IsBetween, AreBetween}
use Rattle.te_cert.proofs.MembersReplaced.{threads}
use Rattle.te_cert.proofs.AllAdvance.{members, through, Comes, all_come}
use Rattle.te_cert.proofs.AllMeet.{HasCome, Met, who_met, meet_comes}
use Rattle.te_cert.proofs.PlaysReduce.{all_seated}

many_threads : (g : List Member) → length (threads g) ≡ length g
many_threads [] = refl
many_threads (m ∷ g) = ap suc (many_threads g)

many_members : (ps : List Player) → length (members ps) ≡ length ps
many_members [] = refl
many_members (p ∷ ps) = ap suc (many_members ps)

-- there are as many players as members at the start
many_players : (start : List Member) (t : Table) → HasCome start t → length t.players ≡ length start
many_players start t come =
    sym (many_members t.players) ∙ sym (many_threads (members t.players)) ∙ ap length come.same_threads ∙ many_threads start

-- who sends doesn't receive
two_places : (ps : List Player) (m : Meeting) (e : Ends) → Met (slice_get ps m.sender) (slice_get ps m.receiver) e → ¬ (m.sender ≡ m.receiver)
two_places ps m e who same =
    let one : Some who.sender ≡ Some who.receiver = sym who.sender_is ∙ ap (slice_get ps) same ∙ who.receiver_is in
    let alone = send_is_alone who.sender.member who.sender.member.term who.fit.sent who.fit.sends in
    let itself : who.sender ≡ who.receiver = cc in
    let receives : receiving who.sender.member.term ≡ Some who.fit.channel = ap (λ p. receiving p.member.term) itself ∙ who.fit.receives in
    let none = alone.1 in
    absurd cc

meeting_between : (ps : List Player) (m : Meeting) (e : Ends) → met (slice_get ps m.sender) (slice_get ps m.receiver) ≡ Some e → IsBetween (length ps) m
meeting_between ps m e so =
    let who = who_met (slice_get ps m.sender) (slice_get ps m.receiver) e so in
    (slice_get_within ps m.sender who.sender who.sender_is, slice_get_within ps m.receiver who.receiver who.receiver_is, two_places ps m e who)

one_between : (j : ℕ) (m : Meeting) (t u : Table) (o : Option Ends) → met (slice_get t.players m.sender) (slice_get t.players m.receiver) ≡ o →
    ends_advance j m t o ≡ Ok u → IsBetween (length t.players) m
one_between j m t u None so e = absurd cc
one_between j m t u (Some ends) so e = meeting_between t.players m ends so

meetings_between : (start : List Member) (j : ℕ) (ms : List Meeting) (t u : Table) → IsGroup start → HasCome start t → all_meet j ms t ≡ Ok u → AreBetween (length start) ms
meetings_between start j [] t u is come e k m at = absurd cc
meetings_between start j (first ∷ ms) t u is come e zero m at =
    let next = through (meets j first t) _ u e in
    let here = one_between j first t next.0 (met (slice_get t.players first.sender) (slice_get t.players first.receiver)) refl next.1 in
    let this : first ≡ m = cc in
    subst (λ x. IsBetween (length start) x) this (subst (λ n. IsBetween n first) (many_players start t come) here)
meetings_between start j (first ∷ ms) t u is come e (suc k) m at =
    let next = through (meets j first t) _ u e in
    let come_on = meet_comes start j first t next.0 (met (slice_get t.players first.sender) (slice_get t.players first.receiver)) is come refl next.1 in
    meetings_between start (suc j) ms next.0 u is come_on next.2 k m at

pub play_between : (group : List Member) (letters : List (List Bool)) (ms : List Meeting) (p : Played) → IsGroup group → play group letters ms ≡ Ok p → AreBetween (length group) ms
play_between group letters ms p is e =
    let start = through (all_advanced 0 (seated group letters)) _ p e in
    let last = through (all_meet 0 ms start.0) _ p start.2 in
    let seats : members (seated group letters) ≡ group = all_seated group letters in
    let from_seats = all_come (seated group letters) start.0 start.1 (subst IsGroup (sym seats) is) in
    let came : HasCome group start.0 = subst (λ g. Comes g start.0.word (members start.0.players)) seats from_seats in
    meetings_between group 0 ms start.0 last.0 is came last.1
