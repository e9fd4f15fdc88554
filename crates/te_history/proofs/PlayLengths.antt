-- A play gives as many outcomes as there are members.
use Rattle.std.proofs.Common.{◌≡◌, ℕ, suc, Bool, List, [], ◌∷◌, length, Option, Some, None, Result, Ok, Err, refl, ap, ◌∙◌}
use Rattle.std.specs.List.{slice_get, slice_set}
use Rattle.std.proofs.Math.ListN.{length-set}
use Rattle.te_terms.specs.declared.event.Outcome.{Outcome}
use Rattle.te_terms.specs.Steps.{Member, outcome_of}
use Rattle.te_cert.specs.declared.cert.Meeting.{Meeting}
use Rattle.te_cert.specs.Play.{PlayFault, Player, Table, Played, Ends, ◌>>=◌, advanced, all_advanced, met, ends_advance, meets, all_meet, ending, endings, seated, play}
use Rattle.te_cert.proofs.AllAdvance.{through}

length-advanced : (i : ℕ) (ps : List Player) (t : Table) → all_advanced i ps ≡ Ok t → length t.players ≡ length ps
length-advanced i [] t is = let empty : t.players ≡ [] = cc in ap length empty
length-advanced i (p ∷ ps) t is =
    let first = through (advanced i p) _ t is in
    let others = through (all_advanced (suc i) ps) _ t first.2 in
    let made = others.2 in
    let players : t.players ≡ first.0.player ∷ others.0.players = cc in
    ap length players ∙ ap suc (length-advanced (suc i) ps others.0 others.1)

length-ended : (j : ℕ) (m : Meeting) (t u : Table) (o : Option Ends) → ends_advance j m t o ≡ Ok u → length u.players ≡ length t.players
length-ended j m t u None is = absurd cc
length-ended j m t u (Some e) is =
    let sender = through (advanced m.sender e.sender) _ u is in
    let receiver = through (advanced m.receiver e.receiver) _ u sender.2 in
    let made = receiver.2 in
    let players : u.players ≡ slice_set (slice_set t.players m.sender sender.0.player) m.receiver receiver.0.player = cc in
    ap length players ∙ length-set (slice_set t.players m.sender sender.0.player) m.receiver receiver.0.player ∙ length-set t.players m.sender sender.0.player

length-met : (j : ℕ) (ms : List Meeting) (t u : Table) → all_meet j ms t ≡ Ok u → length u.players ≡ length t.players
length-met j [] t u is = let same : u ≡ t = cc in ap (λ (x : Table). length x.players) same
length-met j (m ∷ ms) t u is =
    let one = through (meets j m t) (all_meet (suc j) ms) u is in
    length-met (suc j) ms one.0 u one.2 ∙ length-ended j m t one.0 (met (slice_get t.players m.sender) (slice_get t.players m.receiver)) one.1

length-endings : (i : ℕ) (ps : List Player) (os : List Outcome) → endings i ps ≡ Ok os → length os ≡ length ps
length-endings i [] os is = let none : os ≡ [] = cc in ap length none
length-endings i (p ∷ ps) os is =
    let first = through (ending i (outcome_of p.member.term) p.letters) _ os is in
    let others = through (endings (suc i) ps) _ os first.2 in
    let made = others.2 in
    let all : os ≡ first.0 ∷ others.0 = cc in
    ap length all ∙ ap suc (length-endings (suc i) ps others.0 others.1)

length-seated : (ms : List Member) (letters : List (List Bool)) → length (seated ms letters) ≡ length ms
length-seated [] letters = refl
length-seated (m ∷ ms) [] = ap suc (length-seated ms [])
length-seated (m ∷ ms) (l ∷ ls) = ap suc (length-seated ms ls)

pub length-play : (group : List Member) (letters : List (List Bool)) (meetings : List Meeting) (p : Played) → play group letters meetings ≡ Ok p
    → length p.outcomes ≡ length group
length-play group letters meetings p is =
    let start = through (all_advanced 0 (seated group letters)) _ p is in
    let last = through (all_meet 0 meetings (record { players = start.0.players; word = start.0.word })) _ p start.2 in
    let end = through (endings 0 last.0.players) _ p last.2 in
    let made = end.2 in
    let outcomes : p.outcomes ≡ end.0 = cc in
    ap length outcomes ∙ length-endings 0 last.0.players end.0 end.1
    ∙ length-met 0 meetings (record { players = start.0.players; word = start.0.word }) last.0 last.1
    ∙ length-advanced 0 (seated group letters) start.0 start.1 ∙ length-seated group letters
