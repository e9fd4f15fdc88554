-- Where a synchronising caller finds the board stuck, it is parked, or had ended before.
use Rattle.std.proofs.Common.{◌≡◌, ◌≢◌, ◌⊎◌, inl, inr, ℕ, zero, suc, ◌<◌, List, [], ◌∷◌, ◌++◌, length, Some, refl, sym, ap, ◌∙◌, subst, arith}
use Rattle.std.specs.List.{slice_get}
use Rattle.std.proofs.lemmas.List.{append-nil}
use Rattle.te_terms.specs.declared.event.Outcome.{Outcome}
use Rattle.te_terms.specs.Terms.{Term}
use Rattle.te_cert.specs.declared.cert.Member.{Member}
use Rattle.te_lock.specs.Lock.{Knowledge}
use Rattle.te_history.specs.declared.entry.Entry.{Entry}
use Rattle.te_history.specs.declared.entry.Entry.TheVariants.{Post, Commit, Withdraw, Take, Rest, Stuck, End}
use Rattle.te_history.specs.declared.status.How.{How}
use Rattle.te_history.specs.State.{Standing, idle, parked, given, ended, State, opening, with_standing, with_given, changed, state_from, state}
use Rattle.te_history.specs.Follows.{Stands}
use Rattle.te_history.proofs.AfterEntry.{length-state}
use Rattle.te_history.proofs.Commits.{same_or_other, stands_other}
use Rattle.te_history.proofs.GivenOnce.{all_idle}
use Rattle.te_history.proofs.Growing.{legal_is_loose}
use Rattle.te_history.proofs.Lasting.{stuck_exactly, stuck_waits}
use Rattle.te_board.specs.Boards.{state_of}
use Rattle.te_runtime.specs.declared.fault.SyncFault.{SyncFault}
use Rattle.te_runtime.specs.declared.fault.SyncFault.TheVariants as faults
use Rattle.te_runtime.specs.Calls.{Called, board_of}
use Rattle.te_runtime.specs.Refusals.{HasStuck, RefusesOffer}
use Rattle.te_runtime.specs.Syncs.{IsSyncRefused, HasParkedEvent, HasEnded}
use Rattle.te_runtime.proofs.OwnEntries.{own_there}
use Rattle.te_runtime.proofs.PollAnswers.{set_there}
use Rattle.te_terms.proofs.Lists.{get_some}

-- ---- whoever has ended has an end in the history

-- the list has an end of this caller
abbrev HasEnd : ℕ → List Entry → Type 0
HasEnd t h = (k : ℕ) × (how : How) × (slice_get h k ≡ Some (End t how))

-- another standing was put, so the caller had ended before
was_ended : (s : State) (by t : ℕ) (x : Standing) → x ≢ ended → Stands (with_standing by x s) t ended → Stands s t ended
was_ended s by t x other stands = by_caller (same_or_other by t)
  where
    by_caller : (by ≡ t) ⊎ (by ≢ t) → Stands s t ended
    by_caller (inr apart) = sym (stands_other s by t x apart) ∙ stands
    by_caller (inl same) =
        let here : Stands (with_standing by x s) by ended = subst (λ (k : ℕ). Stands (with_standing by x s) k ended) (sym same) stands in
        absurd (other (sym (set_there s.callers by x ended here)))

was_ended_given : (ms : List Member) (os : List Outcome) (s : State) (t : ℕ) → Stands (with_given ms os s) t ended → Stands s t ended
was_ended_given [] os s t stands = stands
was_ended_given (m ∷ ms) [] s t stands = stands
was_ended_given (m ∷ ms) (o ∷ os) s t stands =
    was_ended s m.thread t (given m.ticket o) (λ is. cc) (was_ended_given ms os (with_standing m.thread (given m.ticket o) s) t stands)

ended_by : (s : State) (e : Entry) (t : ℕ) → Stands (changed s e) t ended → Stands s t ended ⊎ ((how : How) × (e ≡ End t how))
ended_by s (Post by ticket event) t stands = inl (was_ended s by t (parked ticket event) (λ is. cc) stands)
ended_by s (Commit by cert outcomes) t stands = inl (was_ended_given cert.members outcomes s t stands)
ended_by s (Withdraw by ticket) t stands = inl (was_ended s by t idle (λ is. cc) stands)
ended_by s (Take by ticket outcome) t stands = inl (was_ended s by t idle (λ is. cc) stands)
ended_by s (Rest by) t stands = inl stands
ended_by s (Stuck by) t stands = inl stands
ended_by s (End by how) t stands = by_caller (same_or_other by t)
  where
    by_caller : (by ≡ t) ⊎ (by ≢ t) → Stands s t ended ⊎ ((how' : How) × (End by how ≡ End t how'))
    by_caller (inl same) = inr (how, ap (λ (k : ℕ). End k how) same)
    by_caller (inr apart) = inl (sym (stands_other s by t ended apart) ∙ stands)

ended_from : (s : State) (h : List Entry) (t : ℕ) → Stands (state_from s h) t ended → Stands s t ended ⊎ HasEnd t h
ended_from s [] t stands = inl stands
ended_from s (e ∷ es) t stands = elim (ended_from (changed s e) es t stands) [
  | inl now ↦ elim (ended_by s e t now) [ inl was ↦ inl was | inr at ↦ inr (0, at.0, ap (λ (x : Entry). Some x) at.1) ]
  | inr later ↦ inr (suc later.0, later.1, later.2)
]

has_end : (callers : ℕ) (h : List Entry) (t : ℕ) → Stands (state callers h) t ended → HasEnd t h
has_end callers h t stands = elim (ended_from (opening callers) h t stands) [
  | inl was ↦ let is = all_idle callers t ended was in absurd cc
  | inr there ↦ there
]

-- ---- the caller of a stuck board

pub stuck_stands : (budget : ℕ) {p q : Knowledge Entry} (event : Term) (f : SyncFault) → q.caller < q.lock.callers → IsSyncRefused budget p q event f
    → f ≡ faults.Stuck → HasParkedEvent q ⊎ HasEnded p
stuck_stands budget {p} {q} event f low refused is = by_turn (subst (λ (g : SyncFault). IsSyncRefused budget p q event g) is refused)
  where
    by_standing : Called p q [] → (x : Standing) → Stands (state q.lock.callers q.read) q.caller x → HasStuck (board_of q) → HasParkedEvent q ⊎ HasEnded p
    by_standing c (parked ticket term) at stuck = inl (ticket, (term, at))
    by_standing c ended at stuck =
        let there = has_end q.lock.callers q.read q.caller at in
        let mine = own_there [] there.0 (End q.caller there.1) c refl there.2 in
        let own : q.own ≡ p.own = c.own ∙ append-nil p.own in
        inr (
          mine.0,
          there.1,
          ap (λ (l : List Entry). slice_get l mine.0) (sym own) ∙ mine.1 ∙ ap (λ (k : ℕ). Some (End k there.1)) c.same.1,
        )
    by_standing c idle at stuck =
        absurd (stuck_waits q.lock.callers q.read (legal_is_loose q.lock.callers q.read c.law.legal) ((stuck_exactly q.lock.callers q.read).1 stuck) q.caller idle at)
    by_standing c (given ticket outcome) at stuck =
        absurd (stuck_waits q.lock.callers q.read (legal_is_loose q.lock.callers q.read c.law.legal) ((stuck_exactly q.lock.callers q.read).1 stuck) q.caller
        (given ticket outcome) at)

    by_turn : IsSyncRefused budget p q event faults.Stuck → HasParkedEvent q ⊎ HasEnded p
    by_turn (inr (ticket, left)) = inl (ticket, left.parks)
    by_turn (inl (c, stuck)) =
        let count : length (state q.lock.callers q.read).callers ≡ q.lock.callers = length-state q.lock.callers q.read in
        let there = get_some (state q.lock.callers q.read).callers q.caller (omega (arith, low, count)) in
        by_standing c there.0 there.1 stuck
