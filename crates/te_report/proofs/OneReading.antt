-- Of bytes one thing is told: a history and how it ends, or one fault.
use Rattle.std.proofs.Common.{◌≡◌, ◌⊎◌, inl, inr, ℕ, suc, ◌<◌, ◌≤◌, List, [], ◌∷◌, ◌++◌, length, refl, sym, ap, subst, ◌∙◌, arith, append_assoc}
use Rattle.std.proofs.lemmas.List.{append-nil}
use Rattle.te_script.specs.Scripts.{Program, IsScript}
use Rattle.te_history.specs.declared.entry.Entry.{Entry}
use Rattle.te_history.specs.Histories.{History}
use Rattle.te_history.specs.Follows.{LooseFrom, IsLoose}
use Rattle.te_history.specs.declared.entry.Entry.TheVariants as entries
use Rattle.te_history.specs.declared.entry.StepFault.{StepFault}
use Rattle.te_history.specs.declared.entry.StepFault.TheVariants as steps
use Rattle.te_history.specs.Refusals.{RefusesEntry, IsRefused}
use Rattle.te_report.specs.declared.fault.Cause.{Cause}
use Rattle.te_report.specs.declared.fault.Cause.TheVariants as causes
use Rattle.te_report.specs.declared.ending.Ending.{Ending}
use Rattle.te_report.specs.declared.fault.ReportFault.{ReportFault}
use Rattle.te_report.specs.declared.fault.ReportFault.TheVariants as faults
use Rattle.te_report.specs.OfScript.{WishedFrom}
use Rattle.te_report.specs.Report.{Version, head_line, entry_line, entry_lines, last_line, most_reported_entries}
use Rattle.te_report.specs.Told.{most_report_bytes, IsReadAs, LineStandsAt, IsCause, FailsHere, GoesPast, IsRefusedFor}
use Rattle.te_report.specs.Readable.{AreReadable}
use Rattle.te_report.specs.Answers.{Kind, ends, no_line, illegal, no_end, too_long, LineSays, IsLine}
use Rattle.te_report.proofs.ReadableOfScript.{readable}
use Rattle.te_report.proofs.SameEntries.{same_head}
use Rattle.te_report.proofs.SamePoints.{one_kind, no_kind, Longer, Stands, compare}

-- what is told at a point of the bytes
pub record IsTold (script : Program) (bytes : List ℕ) (h : History) (k : Kind) : Type 0 where
  pub version : Version
  pub rest : List ℕ
  pub n : ℕ
  pub stands : LineStandsAt script bytes version h rest n
  pub says : LineSays version script h rest k

-- the fault that tells it
abbrev pub fault_of : ℕ → Kind → ReportFault
fault_of count (ends ending) = faults.Memory
fault_of count no_line = faults.Line (suc (suc count))
fault_of count (illegal cause) = faults.Illegal (suc (suc count)) cause
fault_of count no_end = faults.Tail (suc (suc count))
fault_of count too_long = faults.Tail (suc (suc (suc count)))

-- ---- what is told doesn't hang on the spare room of a history

entry_spare : (c : ℕ) (es : List Entry) (a b : ℕ) (e : Entry) (f : StepFault)
    → RefusesEntry (record { callers = c; entries = es; spare = a }) e f
    → RefusesEntry (record { callers = c; entries = es; spare = b }) e f
entry_spare c es a b (entries.Post by ticket event) f r = r
entry_spare c es a b (entries.Commit by cert outcomes) f r = r
entry_spare c es a b (entries.Withdraw by ticket) f r = r
entry_spare c es a b (entries.Take by ticket outcome) f r = r
entry_spare c es a b (entries.Rest by) f r = r
entry_spare c es a b (entries.Stuck by) f r = r
entry_spare c es a b (entries.End by how) f r = r

refused_spare : (c : ℕ) (es : List Entry) (a b : ℕ) (e : Entry) (f : StepFault)
    → IsRefused (record { callers = c; entries = es; spare = a }) e f
    → IsRefused (record { callers = c; entries = es; spare = b }) e f
refused_spare c es a b e steps.Caller r = r
refused_spare c es a b e steps.Closed r = r
refused_spare c es a b e (steps.Other status) r = (r.0, r.1, entry_spare c es a b e (steps.Other status) r.2)
refused_spare c es a b e (steps.Ticket needed) r = (r.0, r.1, entry_spare c es a b e (steps.Ticket needed) r.2)
refused_spare c es a b e (steps.Stranger i) r = (r.0, r.1, entry_spare c es a b e (steps.Stranger i) r.2)
refused_spare c es a b e (steps.Stale i status) r = (r.0, r.1, entry_spare c es a b e (steps.Stale i status) r.2)
refused_spare c es a b e (steps.Unsound found) r = (r.0, r.1, entry_spare c es a b e (steps.Unsound found) r.2)
refused_spare c es a b e (steps.Result i) r = (r.0, r.1, entry_spare c es a b e (steps.Result i) r.2)
refused_spare c es a b e (steps.Live t status) r = (r.0, r.1, entry_spare c es a b e (steps.Live t status) r.2)
refused_spare c es a b e steps.Resting r = (r.0, r.1, entry_spare c es a b e steps.Resting r.2)
refused_spare c es a b e steps.How r = (r.0, r.1, entry_spare c es a b e steps.How r.2)
refused_spare c es a b e steps.Memory r = (r.0, r.1, entry_spare c es a b e steps.Memory r.2)

cause_spare : (version : Version) (script : Program) (c : ℕ) (es : List Entry) (a b : ℕ) (e : Entry) (line : List ℕ)
    (cause : Cause) → IsCause version script (record { callers = c; entries = es; spare = a }) e line cause
    → IsCause version script (record { callers = c; entries = es; spare = b }) e line cause
cause_spare version script c es a b e line (causes.Step f) r = (refused_spare c es a b e f r.0, r.1)
cause_spare version script c es a b e line causes.Script r = r

here_spare : (c : ℕ) (es : List Entry) (a b : ℕ) (r : List ℕ) → FailsHere (record { callers = c; entries = es; spare = a }) r → FailsHere (record { callers = c; entries = es; spare = b }) r
here_spare c es a b r (inl wrong) = inl wrong
here_spare c es a b r (inr (inl open_still)) = inr (inl (record { more = open_still.more; last = open_still.last; open_still = open_still.open_still }))
here_spare c es a b r (inr (inr none)) = inr (inr none)

says_spare : (version : Version) (script : Program) (c : ℕ) (es : List Entry) (a b : ℕ) (r : List ℕ) (k : Kind) → LineSays version script (record { callers = c; entries = es; spare = a }) r k
    → LineSays version script (record { callers = c; entries = es; spare = b }) r k
says_spare version script c es a b r (ends ending) p = record { counts = p.counts; text = p.text; closed = p.closed }
says_spare version script c es a b r no_line p = p
says_spare version script c es a b r (illegal cause) p =
    record { at = p.at; entry = p.entry; line = p.line; more = p.more; split = p.split; spells = p.spells; because = cause_spare version script c es a b p.entry p.line cause p.because }
says_spare version script c es a b r no_end p = here_spare c es a b r p
says_spare version script c es a b r too_long p = record { ending = p.ending; more = p.more; counts = p.counts; last = p.last; closed = p.closed; some = p.some }

module _ (script : Program) (is : IsScript script) (bytes : List ℕ) where
  -- the lines so far are spelled as they have to be
  can_spell : (version : Version) (h : History) (r : List ℕ) (n : ℕ) → LineStandsAt script bytes version h r n → AreReadable version script [] h.entries
  can_spell version h r n at = readable version script h.entries is.program at.within (subst (λ (c : ℕ). IsLoose c h.entries) at.callers at.loose) at.of_script

  -- the next entry of the longer history stands where the shorter one ends
  next_line : (version : Version) (h g : History) (r s : List ℕ) (n : ℕ) (e : Entry) (more : List Entry)
      → LineStandsAt script bytes version g s n → h.callers ≡ g.callers → g.entries ≡ h.entries ++ e ∷ more
      → r ≡ entry_lines version script h.entries (e ∷ more) ++ s → IsLine version script h.entries h.callers r e
  next_line version h g r s n e more at callers whole text =
      let spelled = part_readable [] h.entries (subst (AreReadable version script []) whole (can_spell version g s n at)) in
      let loose = part_loose [] h.entries (subst (LooseFrom h.callers []) whole (subst (λ c. IsLoose c g.entries) (sym callers) at.loose)) in
      let wished = part_wished [] h.entries (subst (WishedFrom script.threads []) whole at.of_script) in
      let within = at.within in
      record {
        behind = entry_lines version script (h.entries ++ e ∷ []) more ++ s;
        within = omega (arith, ap length whole, longer h.entries e more);
        follows = loose.0;
        wished = wished.0;
        readable = spelled.0;
        site = spelled.1;
        text = text ∙ append_assoc (entry_line version script h.entries e) (entry_lines version script (h.entries ++ e ∷ []) more) s;
      }
    where
      longer : (xs : List Entry) (x : Entry) (ys : List Entry) → length xs < length (xs ++ x ∷ ys)
      longer [] x ys = omega arith
      longer (z ∷ zs) x ys = let l = longer zs x ys in omega arith

      part_readable : (before first : List Entry) → AreReadable version script before (first ++ e ∷ more) → AreReadable version script (before ++ first) (e ∷ more)
      part_readable before [] all = subst (λ b. AreReadable version script b (e ∷ more)) (sym (append-nil before)) all
      part_readable before (x ∷ xs) all = subst (λ b. AreReadable version script b (e ∷ more)) (append_assoc before (x ∷ []) xs) (part_readable (before ++ x ∷ []) xs all.2)

      part_loose : (before first : List Entry) → LooseFrom h.callers before (first ++ e ∷ more) → LooseFrom h.callers (before ++ first) (e ∷ more)
      part_loose before [] all = subst (λ b. LooseFrom h.callers b (e ∷ more)) (sym (append-nil before)) all
      part_loose before (x ∷ xs) all = subst (λ b. LooseFrom h.callers b (e ∷ more)) (append_assoc before (x ∷ []) xs) (part_loose (before ++ x ∷ []) xs all.1)

      part_wished : (before first : List Entry) → WishedFrom script.threads before (first ++ e ∷ more) → WishedFrom script.threads (before ++ first) (e ∷ more)
      part_wished before [] all = subst (λ b. WishedFrom script.threads b (e ∷ more)) (sym (append-nil before)) all
      part_wished before (x ∷ xs) all = subst (λ b. WishedFrom script.threads b (e ∷ more)) (append_assoc before (x ∷ []) xs) (part_wished (before ++ x ∷ []) xs all.1)

  -- of two points at which something is told neither stands before the other
  no_longer : (version : Version) (h g : History) (r s : List ℕ) (m n : ℕ) (k : Kind)
      → LineStandsAt script bytes version h r m → LineStandsAt script bytes version g s n → LineSays version script h r k
      → Longer script is version [] h.entries g.entries r s → (h.entries ≡ g.entries) × (r ≡ s)
  no_longer version h g r s m n k at at' says l = by l.more l.whole l.text where
    by : (more : List Entry) → g.entries ≡ h.entries ++ more → r ≡ entry_lines version script h.entries more ++ s → (h.entries ≡ g.entries) × (r ≡ s)
    by [] whole text = (sym (whole ∙ append-nil h.entries), text)
    by (e ∷ more) whole text =
        absurd (no_kind script is version h r at.within e k (next_line version h g r s n e more at' (at.callers ∙ sym at'.callers) whole text) says)

  parted : (version : Version) (h : History) (r : List ℕ) (n : ℕ) → LineStandsAt script bytes version h r n → bytes ≡ head_line version ++ (entry_lines version script [] h.entries ++ r)
  parted version h r n at = at.text ∙ append_assoc (head_line version) (entry_lines version script [] h.entries) r

  stood : (version : Version) (h : History) (r : List ℕ) (n : ℕ) → LineStandsAt script bytes version h r n → Stands script is version (length script.threads) [] h.entries
  stood version h r n at = record {
    within = (let few = at.within in omega arith);
    readable =
        can_spell version h r n at;
    loose = subst (λ c. IsLoose c h.entries) at.callers at.loose;
    wished = at.of_script;
  }

  same_kind : (version : Version) (h g : History) (r s : List ℕ) (k l : Kind) → length g.entries ≤ most_reported_entries
      → h.callers ≡ g.callers → h.entries ≡ g.entries → r ≡ s → LineSays version script h r k
      → LineSays version script g s l → k ≡ l
  same_kind version h g r s k l within callers entries same p q =
      one_kind script is version g s within k l
      (subst (λ x. LineSays version script g x k) same
      (says_spare version script g.callers g.entries h.spare g.spare r k
      (subst (λ x. LineSays version script x r k) (λ i. record { callers = callers i; entries = entries i; spare = h.spare }) p)))
      q

  -- what is told at two points is told at one
  points : (version : Version) (h g : History) (r s : List ℕ) (m n : ℕ) (k l : Kind)
      → LineStandsAt script bytes version h r m → LineStandsAt script bytes version g s n → LineSays version script h r k
      → LineSays version script g s l
      → (h.entries ≡ g.entries) × (k ≡ l)
  points version h g r s m n k l at at' p q =
      by (compare script is version (length script.threads) [] h.entries g.entries r s (stood version h r m at) (stood version g s n at')
      (same_head version version (entry_lines version script [] h.entries ++ r) (entry_lines version script [] g.entries ++ s) (sym (parted version h r m at) ∙ parted version g s n at')).1)
    where
      callers : h.callers ≡ g.callers
      callers = at.callers ∙ sym at'.callers

      by : Longer script is version [] h.entries g.entries r s ⊎ Longer script is version [] g.entries h.entries s r → (h.entries ≡ g.entries) × (k ≡ l)
      by (inl longer) =
          let same = no_longer version h g r s m n k at at' p longer in
          (same.0, same_kind version h g r s k l at'.within callers same.0 same.1 p q)
      by (inr longer) =
          let same = no_longer version g h s r n m l at' at q longer in
          (sym same.0, same_kind version h g r s k l at'.within callers (sym same.0) (sym same.1) p q)

  pub one_told : (h g : History) (k l : Kind) → IsTold script bytes h k → IsTold script bytes g l → (h.entries ≡ g.entries) × (k ≡ l)
  one_told h g k l p q =
      let heads = same_head p.version q.version (entry_lines p.version script [] h.entries ++ p.rest)
      (entry_lines q.version script [] g.entries ++ q.rest)
      (sym (parted p.version h p.rest p.n p.stands) ∙ parted q.version g q.rest q.n q.stands) in
      let same = sym heads.0 in
      points p.version h g p.rest q.rest p.n q.n k l p.stands (subst (λ v. LineStandsAt script bytes v g q.rest q.n) same q.stands) p.says (subst (λ v. LineSays v script g q.rest l) same q.says)

  -- ---- readings and faults

  -- a report that is read is told so
  pub read_told : (history : List Entry) (ending : Ending) → IsReadAs script history ending bytes → (h : History) × (h.entries ≡ history) × IsTold script bytes h (ends ending)
  read_told history ending read = (
    record { callers = length script.threads; entries = history; spare = 0 },
    refl,
    record {
      version = read.version;
      rest = last_line (length history) ending;
      n = suc (suc (length history));
      stands = record {
        few = read.few;
        callers = refl;
        within = read.report.within;
        loose = read.loose;
        of_script = read.of_script;
        text = read.report.text;
        line = refl;
      };
      says = record { counts = read.counts; text = refl; closed = read.closed };
    },
  )

  -- a fault is want of memory, one of the whole text, or told at a point
  pub record IsFaultAt (fault : ReportFault) : Type 0 where
    pub history : History
    pub kind : Kind
    pub told : IsTold script bytes history kind
    pub fault_is : fault ≡ fault_of (length history.entries) kind

  pub fault_told : (fault : ReportFault) → IsRefusedFor script bytes fault → (fault ≡ faults.Memory) ⊎ ((fault ≡ faults.Long) ⊎ ((fault ≡ faults.Head) ⊎ IsFaultAt fault))
  fault_told faults.Memory f = inl refl
  fault_told faults.Long f = inr (inl refl)
  fault_told faults.Head f = inr (inr (inl refl))
  fault_told (faults.Line n) f = inr (inr (inr (record {
    history = f.history;
    kind = no_line;
    told = record { version = f.version; rest = f.rest; n = n; stands = f.stands; says = (f.goes_on, f.not_last, f.no_entry) };
    fault_is = ap faults.Line f.stands.line;
  })))
  fault_told (faults.Illegal n cause) f = inr (inr (inr (record {
    history = f.history;
    kind = illegal cause;
    told = record {
      version = f.version;
      rest = f.rest;
      n = n;
      stands = f.stands;
      says = record { at = f.at; entry = f.entry; line = f.line; more = f.more; split = f.split; spells = f.spells; because = f.because };
    };
    fault_is = ap (λ x. faults.Illegal x cause) f.stands.line;
  })))
  fault_told (faults.Tail n) f = inr (inr (inr (by f.fails))) where
    by : (FailsHere f.history f.rest × (n ≡ f.place)) ⊎ (GoesPast f.history f.rest × (n ≡ suc f.place)) → IsFaultAt (faults.Tail n)
    by (inl here) = record {
      history = f.history;
      kind = no_end;
      told = record { version = f.version; rest = f.rest; n = f.place; stands = f.stands; says = here.0 };
      fault_is = ap faults.Tail (here.1 ∙ f.stands.line);
    }
    by (inr past) = record {
      history = f.history;
      kind = too_long;
      told = record { version = f.version; rest = f.rest; n = f.place; stands = f.stands; says = past.0 };
      fault_is = ap faults.Tail (past.1 ∙ ap suc f.stands.line);
    }

  -- what is told at a point is neither too long nor without a head
  told_few : (h : History) (k : Kind) → IsTold script bytes h k → length bytes ≤ most_report_bytes
  told_few h k t = t.stands.few

  told_headed : (h : History) (k : Kind) → IsTold script bytes h k → IsRefusedFor script bytes faults.Head → ⊥
  told_headed h k t f = f.headless t.version (entry_lines t.version script [] h.entries ++ t.rest)
      (t.stands.text ∙ append_assoc (head_line t.version) (entry_lines t.version script [] h.entries) t.rest)

  -- a report that is read is the only one, and no fault but want of memory stands
  pub read_once : (history other : List Entry) (ending last : Ending) → IsReadAs script history ending bytes → IsReadAs script other last bytes → (history ≡ other) × (ending ≡ last)
  read_once history other ending last a b =
      let p = read_told history ending a in
      let q = read_told other last b in
      let one = one_told p.0 q.0 (ends ending) (ends last) p.2 q.2 in
      (sym p.1 ∙ one.0 ∙ q.1, same one.1)
    where
      same : ends ending ≡ ends last → ending ≡ last
      same e = cc

  pub read_unrefused : (history : List Entry) (ending : Ending) (fault : ReportFault) → IsReadAs script history ending bytes → IsRefusedFor script bytes fault → fault ≡ faults.Memory
  read_unrefused history ending fault read f = by (fault_told fault f) where
    p : (h : History) × (h.entries ≡ history) × IsTold script bytes h (ends ending)
    p = read_told history ending read

    by : (fault ≡ faults.Memory) ⊎ ((fault ≡ faults.Long) ⊎ ((fault ≡ faults.Head) ⊎ IsFaultAt fault)) → fault ≡ faults.Memory
    by (inl none) = none
    by (inr (inl long)) = let past : most_report_bytes < length bytes = subst (IsRefusedFor script bytes) long f in let few = read.few in absurd (omega arith)
    by (inr (inr (inl head))) = absurd (told_headed p.0 (ends ending) p.2 (subst (IsRefusedFor script bytes) head f))
    by (inr (inr (inr at))) =
        let one = one_told p.0 at.history (ends ending) at.kind p.2 at.told in
        at.fault_is ∙ ap (fault_of (length at.history.entries)) (sym one.1)

  -- of two faults both are one, but for want of memory
  pub one_fault : (a b : ReportFault) → IsRefusedFor script bytes a → IsRefusedFor script bytes b → (a ≡ b) ⊎ ((a ≡ faults.Memory) ⊎ (b ≡ faults.Memory))
  one_fault a b f g = by (fault_told a f) (fault_told b g) where
    long : (x : ReportFault) → x ≡ faults.Long → IsRefusedFor script bytes x → most_report_bytes < length bytes
    long x is r = subst (IsRefusedFor script bytes) is r

    headless : (x : ReportFault) → x ≡ faults.Head → IsRefusedFor script bytes x → IsRefusedFor script bytes faults.Head
    headless x is r = subst (IsRefusedFor script bytes) is r

    by : (a ≡ faults.Memory) ⊎ ((a ≡ faults.Long) ⊎ ((a ≡ faults.Head) ⊎ IsFaultAt a)) → (b ≡ faults.Memory) ⊎ ((b ≡ faults.Long) ⊎ ((b ≡ faults.Head) ⊎ IsFaultAt b))
        → (a ≡ b) ⊎ ((a ≡ faults.Memory) ⊎ (b ≡ faults.Memory))
    by (inl none) q = inr (inl none)
    by p (inl none) = inr (inr none)
    by (inr (inl x)) (inr (inl y)) = inl (x ∙ sym y)
    by (inr (inl x)) (inr (inr (inl y))) = absurd (let past = long a x f in let few = (headless b y g).few in omega arith)
    by (inr (inl x)) (inr (inr (inr t))) = absurd (let past = long a x f in let few = told_few t.history t.kind t.told in omega arith)
    by (inr (inr (inl x))) (inr (inl y)) = absurd (let past = long b y g in let few = (headless a x f).few in omega arith)
    by (inr (inr (inl x))) (inr (inr (inl y))) = inl (x ∙ sym y)
    by (inr (inr (inl x))) (inr (inr (inr t))) = absurd (told_headed t.history t.kind t.told (headless a x f))
    by (inr (inr (inr t))) (inr (inl y)) = absurd (let past = long b y g in let few = told_few t.history t.kind t.told in omega arith)
    by (inr (inr (inr t))) (inr (inr (inl y))) = absurd (told_headed t.history t.kind t.told (headless b y g))
    by (inr (inr (inr t))) (inr (inr (inr u))) =
        let one = one_told t.history u.history t.kind u.kind t.told u.told in
        inl (t.fault_is ∙ (λ i. fault_of (length (one.0 i)) (one.1 i)) ∙ sym u.fault_is)
