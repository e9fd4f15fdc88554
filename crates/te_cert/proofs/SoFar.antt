-- What the three loops of a play have done so far, and what one more turn of each does.
use Rattle.std.proofs.Common.{◌≡◌, inl, inr, ℕ, zero, suc, ◌+◌, ◌<◌, ◌≤◌, List, [], ◌∷◌, ◌++◌, length, get_or, take}
use Rattle.std.proofs.Common.{drop, Some, Result, Ok, Err, refl, sym, ap, subst, ◌∙◌, append_assoc, append-nil}
use Rattle.std.proofs.Common.{take_all, add-one}
use Rattle.std.specs.Prelude.{slice_get}
use Rattle.std.proofs.Math.Seq.{drop-cons}
use Rattle.std.proofs.Math.ListN.{drop_of_length-le}
use Rattle.te_terms.specs.declared.event.Outcome.{Outcome}
use Rattle.te_terms.specs.Steps.{outcome_of}
use Rattle.te_terms.specs.Joint.{Label}
use Rattle.te_path.specs.declared.cells.Cells.{Cells}
use Rattle.te_path.specs.Growth.{Grows}
use Rattle.te_cert.specs.declared.cert.Meeting.{Meeting}
use Rattle.te_cert.specs.declared.cert.CertFault.{CertFault}
use Rattle.te_cert.specs.declared.seat.Seat.{Seat}
use Rattle.te_cert.specs.Play.{PlayFault, Player, Table, ◌>>=◌, advanced, all_advanced, meets, all_meet, ending, endings}
use Rattle.te_cert.specs.Players.{Entering, IsSeat, AreSeated, IsSeatedAt, start_of, starts_of, seat_of, seats_of, BecomesTable, players_before, outcomes_before, TellsFault, TellsPart}
use Rattle.te_cert.proofs.SeatsByPlace.{seated_stay, seats_stay}
use Rattle.te_terms.proofs.Lists.{drop_at, take_next}

-- ---- a list by its place

-- ---- all advance

pub none_before : (r : Result Table PlayFault) → players_before [] [] r ≡ r
none_before (Ok t) = refl
none_before (Err f) = refl

none_behind : (ps : List Player) (word : List Label) → players_before ps word (Ok (record { players = []; word = [] })) ≡ Ok (record { players = ps; word = word })
none_behind ps word = rw (append-nil ps, append-nil word) refl

one_more : (ps : List Player) (word more : List Label) (p : Player) (r : Result Table PlayFault) →
    players_before ps word (r >>= λ t. Ok (record { players = p ∷ t.players; word = more ++ t.word })) ≡ players_before (ps ++ p ∷ []) (word ++ more) r
one_more ps word more p (Err f) = refl
one_more ps word more p (Ok t) = rw (append_assoc ps (p ∷ []) t.players, append_assoc word more t.word) refl

advance_on : (i : ℕ) (ps : List Player) (word : List Label) (cells : Cells) (e : Entering) (k : Seat) (es : List Entering) (at : IsSeatedAt i e cells k) →
    players_before ps word (all_advanced i (starts_of (e ∷ es))) ≡ players_before (ps ++ seat_of cells e k ∷ []) (word ++ at.word) (all_advanced (suc i) (starts_of es))
advance_on i ps word cells e k es at = rw at.advances (one_more ps word at.word (seat_of cells e k) (all_advanced (suc i) (starts_of es)))

advance_fails : (i : ℕ) (ps : List Player) (word : List Label) (e : Entering) (es : List Entering) (fault : CertFault) → TellsFault (advanced i (start_of e)) fault →
    TellsFault (players_before ps word (all_advanced i (starts_of (e ∷ es)))) fault
advance_fails i ps word e es fault (inl memory) = inl memory
advance_fails i ps word e es fault (inr failed) = inr (failed.0, rw failed.1 refl, failed.2)

seated_more : (cells : Cells) (es : List Entering) (ks : List Seat) (e : Entering) (k : Seat) → AreSeated cells es ks → IsSeat cells e k → AreSeated cells (es ++ e ∷ []) (ks ++ k ∷ [])
seated_more cells [] [] e k at seat = (seat, tt)
seated_more cells (d ∷ es) (l ∷ ks) e k at seat = (at.0, seated_more cells es ks e k at.1 seat)
seated_more cells [] (l ∷ ks) e k at seat = absurd at
seated_more cells (d ∷ es) [] e k at seat = absurd at

seats_more : (cells : Cells) (es : List Entering) (ks : List Seat) (e : Entering) (k : Seat) → AreSeated cells es ks
    → seats_of cells (es ++ e ∷ []) (ks ++ k ∷ []) ≡ seats_of cells es ks ++ seat_of cells e k ∷ []
seats_more cells [] [] e k at = refl
seats_more cells (d ∷ es) (l ∷ ks) e k at = ap (λ ps. seat_of cells d l ∷ ps) (seats_more cells es ks e k at.1)
seats_more cells [] (l ∷ ks) e k at = absurd at
seats_more cells (d ∷ es) [] e k at = absurd at

-- the first loop: who has advanced, and the rest
pub record HaveAdvanced (cells : Cells) (es : List Entering) (ks : List Seat) (i : ℕ) : Type 0 where
  pub seated : AreSeated cells (take i es) ks
  pub word : List Label
  pub so_far : all_advanced 0 (starts_of es) ≡ players_before (seats_of cells (take i es) ks) word (all_advanced i (starts_of (drop i es)))

pub advanced_none : (cells : Cells) (es : List Entering) → HaveAdvanced cells es [] 0
advanced_none cells es = record { seated = tt; word = []; so_far = sym (none_before (all_advanced 0 (starts_of es))) }

pub advanced_more : (old new : Cells) (es : List Entering) (ks : List Seat) (i : ℕ) (e : Entering) (k : Seat) → slice_get es i ≡ Some e
    → Grows old new → HaveAdvanced old es ks i → IsSeatedAt i e new k →
    HaveAdvanced new es (ks ++ k ∷ []) (i + 1)
advanced_more old new es ks i e k e_is grows have at =
    let old_seated : AreSeated new (take i es) ks = seated_stay old new (take i es) ks grows have.seated in
    let longer : take (suc i) es ≡ take i es ++ e ∷ [] = take_next es i e e_is in
    let seats : seats_of new (take i es) ks ++ seat_of new e k ∷ [] ≡ seats_of new (take (suc i) es) (ks ++ k ∷ []) =
    sym (seats_more new (take i es) ks e k old_seated) ∙ ap (λ x. seats_of new x (ks ++ k ∷ [])) (sym longer) in
    subst (HaveAdvanced new es (ks ++ k ∷ [])) (sym (add-one i)) (record {
      seated = subst (λ x. AreSeated new x (ks ++ k ∷ [])) (sym longer) (seated_more new (take i es) ks e k old_seated at.seat);
      word = have.word ++ at.word;
      so_far = have.so_far
          ∙ ap (λ ps. players_before ps have.word (all_advanced i (starts_of (drop i es)))) (sym (seats_stay old new (take i es) ks grows have.seated))
          ∙ ap (λ x. players_before (seats_of new (take i es) ks) have.word (all_advanced i (starts_of x))) (drop_at es i e e_is)
          ∙ advance_on i (seats_of new (take i es) ks) have.word new e k (drop (suc i) es) at
          ∙ ap (λ ps. players_before ps (have.word ++ at.word) (all_advanced (suc i) (starts_of (drop (suc i) es)))) seats;
    })

pub advances_fail : (cells : Cells) (es : List Entering) (ks : List Seat) (i : ℕ) (e : Entering) (fault : CertFault) → slice_get es i ≡ Some e
    → HaveAdvanced cells es ks i → TellsFault (advanced i (start_of e)) fault →
    TellsFault (all_advanced 0 (starts_of es)) fault
advances_fail cells es ks i e fault e_is have fails =
    rw (have.so_far, drop_at es i e e_is) (advance_fails i (seats_of cells (take i es) ks) have.word e (drop (suc i) es) fault fails)

-- with none left
pub all_seated : (cells : Cells) (es : List Entering) (ks : List Seat) (i : ℕ) → length es ≤ i → HaveAdvanced cells es ks i → AreSeated cells es ks
all_seated cells es ks i past have = subst (λ x. AreSeated cells x ks) (take_all i es past) have.seated

pub all_have_advanced : (cells : Cells) (es : List Entering) (ks : List Seat) (i : ℕ) → length es ≤ i → HaveAdvanced cells es ks i → BecomesTable (all_advanced 0 (starts_of es)) (seats_of cells es ks)
all_have_advanced cells es ks i past have =
    (have.word, have.so_far ∙ rw (drop_of_length-le es past, take_all i es past) (none_behind (seats_of cells es ks) have.word))

-- ---- all meet

pub meet_on : (j : ℕ) (mt : Meeting) (mts : List Meeting) (t u : Table) → meets j mt t ≡ Ok u → all_meet j (mt ∷ mts) t ≡ all_meet (suc j) mts u
meet_on j mt mts t u met = rw met refl

pub meet_fails : (j : ℕ) (mt : Meeting) (mts : List Meeting) (t : Table) (fault : CertFault) → TellsFault (meets j mt t) fault → TellsFault (all_meet j (mt ∷ mts) t) fault
meet_fails j mt mts t fault (inl memory) = inl memory
meet_fails j mt mts t fault (inr failed) = inr (failed.0, rw failed.1 refl, failed.2)

-- one more turn of the second loop
here : (mts : List Meeting) (j : ℕ) (d : Meeting) → j < length mts → drop j mts ≡ get_or mts j d ∷ drop (j + 1) mts
here mts j d within = drop-cons mts j d within ∙ ap (λ k. get_or mts j d ∷ drop k mts) (sym (add-one j))

pub meets_on : (mts : List Meeting) (j : ℕ) (d : Meeting) (t u : Table) (r : Result Table PlayFault) → j < length mts → r ≡ all_meet j (drop j mts) t
    → meets j (get_or mts j d) t ≡ Ok u → r ≡ all_meet (j + 1) (drop (j + 1) mts) u
meets_on mts j d t u r within so_far met =
    so_far ∙ ap (λ ms. all_meet j ms t) (here mts j d within) ∙ meet_on j (get_or mts j d) (drop (j + 1) mts) t u met ∙ ap (λ k. all_meet k (drop (j + 1) mts) u) (sym (add-one j))

pub meets_fail : (mts : List Meeting) (j : ℕ) (d : Meeting) (t : Table) (r : Result Table PlayFault) (fault : CertFault) → j < length mts
    → r ≡ all_meet j (drop j mts) t → TellsFault (meets j (get_or mts j d) t) fault → TellsFault r fault
meets_fail mts j d t r fault within so_far fails = rw (so_far, here mts j d within) (meet_fails j (get_or mts j d) (drop (j + 1) mts) t fault fails)

-- ---- all end

more_outcomes : (os : List Outcome) (o : Outcome) (r : Result (List Outcome) PlayFault) → outcomes_before os (r >>= λ more. Ok (o ∷ more)) ≡ outcomes_before (os ++ o ∷ []) r
more_outcomes os o (Err f) = refl
more_outcomes os o (Ok more) = rw (append_assoc os (o ∷ []) more) refl

pub no_outcomes : (r : Result (List Outcome) PlayFault) → outcomes_before [] r ≡ r
no_outcomes (Ok os) = refl
no_outcomes (Err f) = refl

ends_on : (i : ℕ) (os : List Outcome) (o : Outcome) (p : Player) (ps : List Player) → ending i (outcome_of p.member.term) p.letters ≡ Ok o →
    outcomes_before os (endings i (p ∷ ps)) ≡ outcomes_before (os ++ o ∷ []) (endings (suc i) ps)
ends_on i os o p ps e = rw e (more_outcomes os o (endings (suc i) ps))

tells_ok : {A : Type 0} (r : Result A PlayFault) (x : A) → TellsPart r (Ok x) → r ≡ Ok x
tells_ok (Ok y) x told = let same : x ≡ y = cc in ap Ok (sym same)
tells_ok (Err f) x told = absurd cc

tells_err : {A : Type 0} (r : Result A PlayFault) (fault : CertFault) → TellsPart r (Err fault) → TellsFault r fault
tells_err (Ok y) fault told = absurd cc
tells_err (Err f) fault told = let same : fault ≡ _ = cc in inr (f, refl, same)

ends_badly : (i : ℕ) (os : List Outcome) (p : Player) (ps : List Player) (fault : CertFault)
    → TellsFault (ending i (outcome_of p.member.term) p.letters) fault → TellsFault (outcomes_before os (endings i (p ∷ ps))) fault
ends_badly i os p ps fault (inl memory) = inl memory
ends_badly i os p ps fault (inr failed) = inr (failed.0, rw failed.1 refl, failed.2)

-- the last loop: one member more
module _ (cells : Cells) (es : List Entering) (ks : List Seat) (os : List Outcome) (i : ℕ) (e : Entering) (k : Seat) (r : Result (List Outcome)
    PlayFault) (e_is : slice_get es i ≡ Some e) (k_is : slice_get ks i ≡ Some k)
    (so_far : r ≡ outcomes_before os (endings i (seats_of cells (drop i es) (drop i ks)))) where
  here_so : r ≡ outcomes_before os (endings i (seat_of cells e k ∷ seats_of cells (drop (suc i) es) (drop (suc i) ks)))
  here_so =
      so_far
      ∙ ap (λ x. outcomes_before os (endings i (seats_of cells x (drop i ks)))) (drop_at es i e e_is)
      ∙ ap (λ x. outcomes_before os (endings i (seats_of cells (e ∷ drop (suc i) es) x))) (drop_at ks i k k_is)

  pub ended_on : (o : Outcome) → TellsPart (ending i (outcome_of (seat_of cells e k).member.term) (seat_of cells e k).letters) (Ok o) →
      r ≡ outcomes_before (os ++ o ∷ []) (endings (i + 1) (seats_of cells (drop (i + 1) es) (drop (i + 1) ks)))
  ended_on o told =
      here_so
      ∙ ends_on i os o (seat_of cells e k) (seats_of cells (drop (suc i) es) (drop (suc i) ks)) (tells_ok (ending i (outcome_of (seat_of cells e k).member.term) (seat_of cells e k).letters) o told)
      ∙ rw (add-one i) refl

  pub ended_fails : (fault : CertFault) → TellsPart (ending i (outcome_of (seat_of cells e k).member.term) (seat_of cells e k).letters) (Err fault) → TellsFault r fault
  ended_fails fault told =
      rw here_so
      (ends_badly i os (seat_of cells e k) (seats_of cells (drop (suc i) es) (drop (suc i) ks)) fault
      (tells_err (ending i (outcome_of (seat_of cells e k).member.term) (seat_of cells e k).letters) fault told))

-- with none left
pub all_ended : (cells : Cells) (es : List Entering) (ks : List Seat) (os : List Outcome) (i : ℕ) → length es ≤ i →
    endings 0 (seats_of cells es ks) ≡ outcomes_before os (endings i (seats_of cells (drop i es) (drop i ks))) → endings 0 (seats_of cells es ks) ≡ Ok os
all_ended cells es ks os i past so_far =
    so_far ∙ rw (drop_of_length-le es past) (ap Ok (append-nil os))
