-- The lines so far with one more, and what the whole of them tells.
use Rattle.std.proofs.Common.{◌≡◌, ◌≢◌, ◌⊎◌, inl, inr, ℕ, suc, ◌≤◌, List, [], ◌∷◌, ◌++◌, length, Option, Some, None, refl, sym, ap, subst, ◌∙◌, arith, append_assoc}
use Rattle.std.proofs.lemmas.List.{append-nil}
use Rattle.te_terms.specs.declared.event.Parked.{Parked}
use Rattle.te_script.specs.Scripts.{Program}
use Rattle.te_history.specs.declared.entry.Entry.{Entry}
use Rattle.te_history.specs.declared.entry.Entry.TheVariants as entries
use Rattle.te_history.specs.State.{state, parked_list}
use Rattle.te_history.specs.Histories.{History}
use Rattle.te_history.specs.Follows.{IsLoose}
use Rattle.te_history.proofs.AfterEntry.{loose-after}
use Rattle.te_report.specs.declared.ending.Ending.{Ending}
use Rattle.te_report.specs.declared.fault.ReportFault.{ReportFault}
use Rattle.te_report.specs.declared.fault.ReportFault.TheVariants as faults
use Rattle.te_report.specs.declared.reading.Declaration.{Declaration}
use Rattle.te_report.specs.OfScript.{WishedFrom}
use Rattle.te_report.specs.Report.{Version, head_line, entry_line, entry_lines}
use Rattle.te_report.specs.Told.{most_report_bytes, ReportIsClosed, IsReadAs, LineStandsAt, BeginsLast, IsRefusedFor}
use Rattle.te_report.specs.Declarations.{IsDeclared, DeclaredIn}
use Rattle.te_report.specs.Judging.{ReadingGoesOn, NextFails, FailsLast, EndIsWished}
use Rattle.te_report.proofs.Growing.{wished_more}
use Rattle.te_report.proofs.LinesSoFar.{lines_next}

-- at the first line behind the head
pub stands_first : (script : Program) (bytes : List ℕ) (version : Version) (hist : History) (rest : List ℕ)
    → length bytes ≤ most_report_bytes → hist.callers ≡ length script.threads → hist.entries ≡ []
    → bytes ≡ head_line version ++ rest → LineStandsAt script bytes version hist rest 2
stands_first script bytes version hist rest few callers none text =
    subst (λ (h : History). LineStandsAt script bytes version h rest 2) (back hist none) (record {
      few = few;
      callers = callers;
      within = omega arith;
      loose = tt;
      of_script = tt;
      text = text ∙ ap (λ x. x ++ rest) (sym (append-nil (head_line version)));
      line = refl;
    })
  where
    back : (h : History) → h.entries ≡ [] → record { callers = h.callers; entries = []; spare = h.spare } ≡ h
    back h is = λ i. record { callers = h.callers; entries = sym is i; spare = h.spare }

-- behind one line more
pub stands_next : (script : Program) (bytes : List ℕ) (version : Version) (old new : History) (rest behind : List ℕ)
    (n : ℕ) → LineStandsAt script bytes version old rest n → ReadingGoesOn version script old new rest behind
    → LineStandsAt script bytes version new behind (suc n)
stands_next script bytes version old new rest behind n at on =
    let e = on.entry in
    let h = old.entries in
    let longer : length new.entries ≡ suc (length h) = ap length on.one_more ∙ length_more h e in
    record {
      few = at.few;
      callers = on.same_callers ∙ at.callers;
      within = let lt = on.within in omega arith;
      loose = subst (λ (c : ℕ). IsLoose c new.entries) (sym on.same_callers) (subst (λ (es : List Entry). IsLoose old.callers es) (sym on.one_more) (loose-after old.callers h e at.loose on.follows));
      of_script = subst (λ (es : List Entry). WishedFrom script.threads [] es) (sym on.one_more) (wished_more script.threads [] h e at.of_script on.wished);
      text =
          at.text ∙ ap (λ r. head_line version ++ entry_lines version script [] h ++ r) on.text
          ∙ sym (append_assoc (head_line version ++ entry_lines version script [] h) (entry_line version script h e) behind)
          ∙ ap (λ x. x ++ behind) (append_assoc (head_line version) (entry_lines version script [] h)
          (entry_line version script h e) ∙ ap (λ x. head_line version ++ x) (sym (lines_next version script h e)))
          ∙ ap (λ (es : List Entry). head_line version ++ entry_lines version script [] es ++ behind) (sym on.one_more);
      line = ap suc at.line ∙ ap (λ (k : ℕ). suc (suc k)) (sym longer);
    }
  where
    length_more : (h : List Entry) (e : Entry) → length (h ++ e ∷ []) ≡ suc (length h)
    length_more [] e = refl
    length_more (x ∷ xs) e = ap suc (length_more xs e)

-- ---- what is told of the whole

pub read_as : (script : Program) (bytes : List ℕ) (version : Version) (hist : History) (rest : List ℕ) (n : ℕ)
    (ending : Ending) → LineStandsAt script bytes version hist rest n → EndIsWished hist rest ending
    → IsReadAs script hist.entries ending bytes
read_as script bytes version hist rest n ending at ends = record {
  few = at.few;
  version = version;
  report = record { within = at.within; text = at.text ∙ ap (λ r. head_line version ++ entry_lines version script [] hist.entries ++ r) ends.text };
  loose = subst (λ (c : ℕ). IsLoose c hist.entries) at.callers at.loose;
  of_script = at.of_script;
  counts = ends.counts;
  closed = subst (λ (c : ℕ). ReportIsClosed ending c hist.entries) at.callers ends.closed;
}

pub refused_next : (script : Program) (bytes : List ℕ) (version : Version) (hist : History) (rest : List ℕ) (n : ℕ)
    (fault : ReportFault) → LineStandsAt script bytes version hist rest n → rest ≢ [] → ¬ BeginsLast rest
    → NextFails version script hist rest fault → IsRefusedFor script bytes fault
refused_next script bytes version hist rest n (faults.Line k) at some not_last fails =
    let same : n ≡ k = at.line ∙ sym fails.0 in
    record { version = version; history = hist; rest = rest; stands = subst (λ m. LineStandsAt script bytes version hist rest m) same at; goes_on = some; not_last = not_last; no_entry = fails.1 }
refused_next script bytes version hist rest n (faults.Illegal k cause) at some not_last fails =
    let same : n ≡ k = at.line ∙ sym fails.0 in
    let f = fails.1 in
    record {
      version = version;
      history = hist;
      rest = rest;
      stands = subst (λ m. LineStandsAt script bytes version hist rest m) same at;
      at = f.at;
      entry = f.entry;
      line = f.line;
      more = f.more;
      split = f.split;
      spells = f.spells;
      because = f.because;
    }
refused_next script bytes version hist rest n faults.Memory at some not_last fails = tt
refused_next script bytes version hist rest n faults.Head at some not_last fails = absurd fails
refused_next script bytes version hist rest n (faults.Tail k) at some not_last fails = absurd fails
refused_next script bytes version hist rest n faults.Long at some not_last fails = absurd fails

pub refused_last : (script : Program) (bytes : List ℕ) (version : Version) (hist : History) (rest : List ℕ) (n : ℕ)
    (fault : ReportFault) → LineStandsAt script bytes version hist rest n → FailsLast hist rest fault
    → IsRefusedFor script bytes fault
refused_last script bytes version hist rest n (faults.Tail k) at (inl fails) =
    record { version = version; history = hist; rest = rest; place = n; stands = at; fails = inl (fails.0, fails.1 ∙ sym at.line) }
refused_last script bytes version hist rest n (faults.Tail k) at (inr past) =
    record { version = version; history = hist; rest = rest; place = n; stands = at; fails = inr (past.0, past.1 ∙ ap suc (sym at.line)) }
refused_last script bytes version hist rest n faults.Memory at fails = tt
refused_last script bytes version hist rest n faults.Head at fails = absurd fails
refused_last script bytes version hist rest n (faults.Line k) at fails = absurd fails
refused_last script bytes version hist rest n (faults.Illegal k cause) at fails = absurd fails
refused_last script bytes version hist rest n faults.Long at fails = absurd fails

-- ---- declarations

split_more : {A : Type 0} (y z : A) (zs h : List A) (x e : A) → y ≡ z → ((x ≡ e) × (zs ≡ h)) ⊎ ((left : List A) × (h ≡ zs ++ x ∷ left))
    → ((x ≡ e) × (z ∷ zs ≡ y ∷ h)) ⊎ ((left : List A) × (y ∷ h ≡ z ∷ zs ++ x ∷ left))
split_more y z zs h x e same (inl last) = inl (last.0, λ i. sym same i ∷ last.1 i)
split_more y z zs h x e same (inr earlier) = inr (earlier.0, λ i. same i ∷ earlier.1 i)

-- an item of a list with one more is the last one, or stands before it
split_last : {A : Type 0} (earlier later h : List A) (x e : A) → earlier ++ x ∷ later ≡ h ++ e ∷ [] → ((x ≡ e) × (earlier ≡ h)) ⊎ ((left : List A) × (h ≡ earlier ++ x ∷ left))
split_last [] later [] x e is = let same : x ≡ e = cc in inl (same, refl)
split_last [] later (y ∷ h) x e is = let same : y ≡ x = cc in inr (h, ap (λ z. z ∷ h) same)
split_last (z ∷ zs) later [] x e is = absurd (none zs x later (let rest : zs ++ x ∷ later ≡ [] = cc in rest))
  where
    none : {A : Type 0} (zs : List A) (x : A) (later : List A) → zs ++ x ∷ later ≡ [] → ⊥
    none [] x later is = absurd cc
    none (z ∷ zs) x later is = absurd cc
split_last (z ∷ zs) later (y ∷ h) x e is =
    let same : y ≡ z = cc in
    let rest : zs ++ x ∷ later ≡ h ++ e ∷ [] = cc in
    split_more y z zs h x e same (split_last zs later h x e rest)

-- by an entry that declares it
pub declares : (callers by : ℕ) (h more : List Entry) (d : Declaration) → d.before ≡ length h
    → d.parked ≡ parked_list (state callers h) → more ≡ h ++ entries.Stuck by ∷ [] → DeclaredIn callers more (Some d)
declares callers by h more d before parked is = record { earlier = h; by = by; later = []; whole = is; count = before; are_parked = parked }

-- by another entry nothing changes
pub declared_still : (callers : ℕ) (h more : List Entry) (e : Entry) (declared : Option Declaration)
    → ((by : ℕ) → e ≢ entries.Stuck by) → more ≡ h ++ e ∷ [] → DeclaredIn callers h declared
    → DeclaredIn callers more declared
declared_still callers h more e (Some d) other is declared = record {
  earlier = declared.earlier;
  by = declared.by;
  later = declared.later ++ e ∷ [];
  whole = is ∙ ap (λ (es : List Entry). es ++ e ∷ []) declared.whole ∙ append_assoc declared.earlier (entries.Stuck declared.by ∷ declared.later) (e ∷ []);
  count = declared.count;
  are_parked = declared.are_parked;
}
declared_still callers h more e None other is declared = λ before parked d. by_place before parked d (split_last d.earlier d.later h (entries.Stuck d.by) e (sym d.whole ∙ is))
  where
    by_place : (before : ℕ) (parked : List Parked) (d : IsDeclared callers more before parked)
        → ((entries.Stuck d.by ≡ e) × (d.earlier ≡ h)) ⊎ ((left : List Entry)
        × (h ≡ d.earlier ++ entries.Stuck d.by ∷ left)) → ⊥
    by_place before parked d (inl last) = other d.by (sym last.0)
    by_place before parked d (inr earlier) = declared before parked (record { earlier = d.earlier; by = d.by; later = earlier.0; whole = earlier.1; count = d.count; are_parked = d.are_parked })

pub none_declared : (callers : ℕ) → DeclaredIn callers [] None
none_declared callers before parked d = nothing d.earlier (entries.Stuck d.by) d.later d.whole
  where
    nothing : (earlier : List Entry) (x : Entry) (later : List Entry) → [] ≡ earlier ++ x ∷ later → ⊥
    nothing [] x later is = absurd cc
    nothing (y ∷ ys) x later is = absurd cc
