-- What the stages of a check say of the play, and of the answer.
use Rattle.std.proofs.Common.{◌≡◌, inl, inr, ℕ, List, [], ◌∷◌, map, Result, Ok, Err, refl, sym, ap, ◌∙◌, subst}
use Rattle.std.specs.Prelude.{IfOk, IfErr}
use Rattle.te_terms.specs.declared.event.Outcome.{Outcome}
use Rattle.te_terms.specs.Terms.{Term}
use Rattle.te_terms.specs.Joint.{Label, IsGroup, RiseFrom}
use Rattle.te_cert.specs.declared.cert.Member.{Member}
use Rattle.te_cert.specs.declared.cert.Meeting.{Meeting}
use Rattle.te_cert.specs.declared.cert.CertFault.{CertFault}
use Rattle.te_cert.specs.declared.lent.Lent.{Lent}
use Rattle.te_cert.specs.Certificates.{Certificate}
use Rattle.te_cert.specs.Play.{PlayFault, no_letter, no_meeting, unfinished, letters_left, Player, Table, Played, ◌>>=◌, all_advanced, all_meet, endings, seated}
use Rattle.te_cert.specs.Checks.{IsChecked, group_of, played, IsFormed, Gives, Reduced, ThreadsRise, RiseAfter}
use Rattle.te_cert.specs.Lending.{lent_terms}
use Rattle.te_cert.specs.Players.{Entering, entering, start_of, all_entering, starts_of, played_by, TellsFault, told, PlaysTo}
use Rattle.te_cert.proofs.PlaysReduce.{plays_reduce}

-- a fault of the play is the answer of a check
checked_so : (cert : Certificate) (es : List Term) (e : CertFault) → IsFormed cert → TellsFault (played cert es) e → IsChecked cert es (Err e)
checked_so cert es e formed (inl memory) = subst (λ (x : CertFault). IsChecked cert es (Err x)) (sym memory) tt
checked_so cert es e formed (inr failed) = subst (λ (x : CertFault). IsChecked cert es (Err x)) (sym failed.2) (by_fault failed.0 failed.1)
  where
    by_fault : (f : PlayFault) → played cert es ≡ Err f → IsChecked cert es (Err (told f))
    by_fault (no_letter i) is = (formed, inl is)
    by_fault (no_meeting j) is = (formed, is)
    by_fault (unfinished i) is = (formed, is)
    by_fault (letters_left i) is = (formed, inr is)

-- the group's threads rise as the members' do
rise_on : (t : ℕ) (ms : List Member) (es : List Term) → RiseAfter t ms → RiseFrom t (group_of ms es)
rise_on t [] es rise = tt
rise_on t (m ∷ ms) [] rise = tt
rise_on t (m ∷ ms) (e ∷ es) rise = (rise.0, rise_on m.thread ms es rise.1)

pub is_group : (ms : List Member) (es : List Term) → ThreadsRise ms → IsGroup (group_of ms es)
is_group [] es rise = tt
is_group (m ∷ ms) [] rise = tt
is_group (m ∷ ms) (e ∷ es) rise = rise_on m.thread ms es rise

-- what is given, the group reduces to
reduces_so : (cert : Certificate) (es : List Term) (os : List Outcome) → ThreadsRise cert.members → Gives cert es os → Reduced cert es os
reduces_so cert es os rise gives = record {
  word = gives.word;
  plays = gives.plays;
  reduces = plays_reduce (group_of cert.members es) (map (λ m. m.choices) cert.members) cert.meets (record { outcomes = os; word = gives.word }) (is_group cert.members es rise) gives.plays;
}

-- who enters starts as the group does
starts_are : (ms : List Member) (ls : List Lent) → seated (group_of ms (lent_terms ls)) (map (λ m. m.choices) ms) ≡ starts_of (all_entering ms ls)
starts_are [] ls = refl
starts_are (m ∷ ms) [] = refl
starts_are (m ∷ ms) (l ∷ ls) = ap (λ ps. start_of (entering m l) ∷ ps) (starts_are ms ls)

-- parts that are the same make the same certificate
pub same_certificate : (ms ns : List Member) (mts nts : List Meeting) (cert : Certificate) → ms ≡ ns → mts ≡ nts
    → record { members = ns; meets = nts } ≡ cert → record { members = ms; meets = mts } ≡ cert
same_certificate ms ns mts nts cert members meets is = rw (members, meets) is

module _ (ms : List Member) (mts : List Meeting) (ls : List Lent) where
  abbrev cert : Certificate
  cert = record { members = ms; meets = mts }

  played_so : played cert (lent_terms ls) ≡ played_by (all_entering ms ls) mts
  played_so = ap (λ ps. all_advanced 0 ps >>= λ start. all_meet 0 mts (record { players = start.players; word = start.word }) >>= λ last.
      endings 0 last.players >>= λ os. Ok (record { outcomes = os; word = last.word })) (starts_are ms ls)

  pub checked_play : IsFormed cert → (r : Result (List Outcome) CertFault) → PlaysTo (played_by (all_entering ms ls) mts) r → IsChecked cert (lent_terms ls) r
  checked_play formed (Ok os) plays = (formed, record { word = plays.0; plays = played_so ∙ plays.1 })
  checked_play formed (Err e) plays = checked_so cert (lent_terms ls) e formed (subst (λ (p : Result Played PlayFault). TellsFault p e) (sym played_so) plays)

  pub reduced_play : ThreadsRise ms → (r : Result (List Outcome) CertFault) → PlaysTo (played_by (all_entering ms ls) mts) r → IfOk r (λ os. Reduced cert (lent_terms ls) os)
  reduced_play rise (Ok os) plays = reduces_so cert (lent_terms ls) os rise (record { word = plays.0; plays = played_so ∙ plays.1 })
  reduced_play rise (Err e) plays = tt

-- ---- the stages of a play

module _ (es : List Entering) (mts : List Meeting) where
  abbrev ended : Table → Result Played PlayFault
  ended last = endings 0 last.players >>= λ os. Ok (record { outcomes = os; word = last.word })

  abbrev met : Table → Result Played PlayFault
  met start = all_meet 0 mts (record { players = start.players; word = start.word }) >>= ended

  failed : {A : Type 0} (r : Result A PlayFault) (go : A → Result Played PlayFault) (e : CertFault) → TellsFault r e → TellsFault (r >>= go) e
  failed r go e (inl memory) = inl memory
  failed r go e (inr fails) = inr (fails.0, rw fails.1 refl, fails.2)

  pub seats_fail : (e : CertFault) → TellsFault (all_advanced 0 (starts_of es)) e → TellsFault (played_by es mts) e
  seats_fail e fails = failed (all_advanced 0 (starts_of es)) met e fails

  module _ (ps : List Player) (word : List Label) (advance : all_advanced 0 (starts_of es) ≡ Ok (record { players = ps; word = word })) where
    abbrev start : Table
    start = record { players = ps; word = word }

    pub meets_fail : (e : CertFault) → TellsFault (all_meet 0 mts start) e → TellsFault (played_by es mts) e
    meets_fail e fails = rw advance (failed (all_meet 0 mts start) ended e fails)

    module _ (qs : List Player) (more : List Label) (meet : all_meet 0 mts start ≡ Ok (record { players = qs; word = more })) where
      pub ends_so : (r : Result (List Outcome) CertFault) → IfOk r (λ os. endings 0 qs ≡ Ok os) → IfErr r (λ e. TellsFault (endings 0 qs) e) → PlaysTo (played_by es mts) r
      ends_so (Ok os) ok err = (more, rw (advance, meet, ok) refl)
      ends_so (Err e) ok err = rw (advance, meet) (failed (endings 0 qs) (λ os. Ok (record { outcomes = os; word = more })) e err)
