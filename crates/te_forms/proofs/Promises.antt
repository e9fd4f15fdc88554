-- What `handed` answers keeps the promises of the commit, whichever way the commit is named.
use Rattle.std.proofs.Common.{◌≡◌, ℕ, Bool, List, take, Result, Ok, Err, IfOk, sym, ap, subst, ◌∙◌}
use Rattle.std.specs.Prelude.{filter_map}
use Rattle.te_cert.specs.declared.cert.Member.{Member}
use Rattle.te_cert.specs.declared.cert.Meeting.{Meeting}
use Rattle.te_cert.specs.declared.cert.Cert.{Cert}
use Rattle.te_cert.specs.Certificates.{Certificate}
use Rattle.te_history.specs.Follows.{IsLoose}
use Rattle.te_history.specs.Histories.{History}
use Rattle.te_forms.specs.declared.pair.Handed.{Handed}
use Rattle.te_forms.specs.Rings.{IsRing}
use Rattle.te_forms.specs.Privacy.{IsPrivate}
use Rattle.te_forms.specs.Handing.{CommitAt, state_before, AreHanded, EachOnce, NobodyElse, GoRound, AreGiven, AreEven}
use Rattle.te_forms.specs.Reading.{marks_of, pair_in}
use Rattle.te_forms.proofs.Commits.{Promised, promised}
use Rattle.te_terms.proofs.Lists.{if_ok}

-- the pairs of a certificate's meetings
abbrev pub pairs_of : List ℕ → History → ℕ → Cert → List Handed
pairs_of ring h n cert = filter_map (pair_in cert.members (marks_of ring (take n h.entries) cert.members)) cert.meets

module _ (ring : List ℕ) (is_ring : IsRing ring) (h : History) (n : ℕ) (loose : IsLoose h.callers h.entries) (private_so : IsPrivate ring h.entries) where
  pub all_promised : (k : CommitAt h n) → Promised ring (state_before h n) k.cert.members k.cert.meets k.outcomes (pairs_of ring h n k.cert)
  all_promised k = promised ring is_ring h.callers h.entries n k.by k.cert k.outcomes loose private_so k.is_there

  pub all_even : (k : CommitAt h n) → AreEven ring (state_before h n) k.cert.members
  all_even k = (all_promised k).even

  -- what the call for the pairs answers
  module _ {E : Type 0} (cert : Cert) (members : List Member) (meets : List Meeting) (looked : List Member) (met : List Meeting) (items marks : List Bool) (r : Result (List Handed) E)
      (is : record { members = members; meets = meets } ≡ cert) (members_are : looked ≡ members) (meets_are : met ≡ meets)
      (items_are : items ≡ marks_of ring (take n h.entries) looked) (marks_are : marks ≡ items) (answer : IfOk r (λ hs. hs ≡ filter_map (pair_in looked marks) met))
      (one : (k : CommitAt h n) → k.cert ≡ cert) where
    looked_is : looked ≡ cert.members
    looked_is = members_are ∙ ap (λ (x : Certificate). x.members) is

    met_is : met ≡ cert.meets
    met_is = meets_are ∙ ap (λ (x : Certificate). x.meets) is

    marks_is : marks ≡ marks_of ring (take n h.entries) cert.members
    marks_is = marks_are ∙ items_are ∙ ap (marks_of ring (take n h.entries)) looked_is

    pairs_are : filter_map (pair_in looked marks) met ≡ pairs_of ring h n cert
    pairs_are = λ i. filter_map (pair_in (looked_is i) (marks_is i)) (met_is i)

    kept_by : (hs : List Handed) → hs ≡ filter_map (pair_in looked marks) met → (k : CommitAt h n) → Promised ring (state_before h n) k.cert.members k.cert.meets k.outcomes hs
    kept_by hs are k =
        subst (Promised ring (state_before h n) k.cert.members k.cert.meets k.outcomes) (sym (are ∙ pairs_are ∙ ap (pairs_of ring h n) (sym (one k)))) (all_promised k)

    pub told_meetings : IfOk r (λ hs. (k : CommitAt h n) → AreHanded ring (state_before h n) k.cert.members k.cert.meets hs)
    told_meetings = if_ok (λ hs. hs ≡ filter_map (pair_in looked marks) met) (λ hs. (k : CommitAt h n) → AreHanded ring (state_before h n) k.cert.members k.cert.meets hs) r
        (λ hs are k. (kept_by hs are k).meetings) answer

    pub told_once : IfOk r (λ hs. (k : CommitAt h n) → EachOnce ring (state_before h n) k.cert.members hs)
    told_once = if_ok (λ hs. hs ≡ filter_map (pair_in looked marks) met) (λ hs. (k : CommitAt h n) → EachOnce ring (state_before h n) k.cert.members hs) r
        (λ hs are k. (kept_by hs are k).once) answer

    pub told_nobody_else : IfOk r (λ hs. (k : CommitAt h n) → NobodyElse ring (state_before h n) k.cert.members hs)
    told_nobody_else = if_ok (λ hs. hs ≡ filter_map (pair_in looked marks) met) (λ hs. (k : CommitAt h n) → NobodyElse ring (state_before h n) k.cert.members hs) r
        (λ hs are k. (kept_by hs are k).nobody_else) answer

    pub told_round : IfOk r (λ hs. (k : CommitAt h n) → GoRound ring (state_before h n) k.cert.members hs)
    told_round = if_ok (λ hs. hs ≡ filter_map (pair_in looked marks) met) (λ hs. (k : CommitAt h n) → GoRound ring (state_before h n) k.cert.members hs) r
        (λ hs are k. (kept_by hs are k).round) answer

    pub told_given : IfOk r (λ hs. (k : CommitAt h n) → AreGiven ring (state_before h n) k.cert.members k.outcomes hs)
    told_given = if_ok (λ hs. hs ≡ filter_map (pair_in looked marks) met) (λ hs. (k : CommitAt h n) → AreGiven ring (state_before h n) k.cert.members k.outcomes hs) r
        (λ hs are k. (kept_by hs are k).given) answer
