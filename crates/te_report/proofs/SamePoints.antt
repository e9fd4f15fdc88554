-- At one point of the bytes one answer is told, and the lines so far are one history's.
use Rattle.std.proofs.Common.{◌≡◌, ◌≢◌, ◌⊎◌, inl, inr, ℕ, suc, ◌+◌, ◌^◌, ◌<◌, ◌≤◌, List, [], ◌∷◌, ◌++◌, length, refl, sym, ap, subst, ◌∙◌, arith, append_assoc}
use Rattle.std.specs.Prelude.{Option}
use Rattle.std.proofs.lemmas.List.{append-nil, append_cancel_left}
use Rattle.te_terms.specs.Terms.{never}
use Rattle.te_script.specs.declared.wish.Site.{Site}
use Rattle.te_script.specs.Scripts.{Program, IsScript}
use Rattle.te_history.specs.declared.entry.Entry.{Entry}
use Rattle.te_history.specs.declared.entry.Entry.TheVariants as entries
use Rattle.te_history.specs.declared.entry.StepFault.{StepFault}
use Rattle.te_history.specs.declared.entry.StepFault.TheVariants as steps
use Rattle.te_history.specs.Histories.{History}
use Rattle.te_history.specs.Follows.{LooselyFollows, LooseFrom}
use Rattle.te_history.specs.Refusals.{IsRefused}
use Rattle.te_history.proofs.RefusalsAreOne.{refusals_are_one}
use Rattle.te_history.proofs.RefusedDontFollow.{refused_fails}
use Rattle.te_report.specs.declared.ending.Ending.{Ending}
use Rattle.te_report.specs.declared.ending.Ending.TheVariants as endings
use Rattle.te_report.specs.declared.fault.Cause.{Cause}
use Rattle.te_report.specs.declared.fault.Cause.TheVariants as causes
use Rattle.te_report.specs.OfScript.{WishedFrom}
use Rattle.te_report.specs.Readable.{SpellsEntry, AreReadable}
use Rattle.te_report.specs.Report.{Version, posted_site, most_reported_entries, numbered, entry_text, entry_line, entry_lines, last_line}
use Rattle.te_report.specs.Told.{HasCounts, ReportIsClosed, BeginsLast, GoesPast, FailsHere, IsCause}
use Rattle.te_report.specs.Sayings.{said_text, first_byte}
use Rattle.te_report.specs.Judging.{IsUnposted, HasNoEntry, HasIllegal, EndIsWished}
use Rattle.te_report.specs.Answers.{Kind, ends, no_line, illegal, no_end, too_long, LineSays, IsLine}
use Rattle.te_report.proofs.LastLines.{ending_told}
use Rattle.te_report.proofs.LinesTold.{told_as, text_same}
use Rattle.te_report.proofs.SameEntries.{line_first, last_first, word_first, last_word, plain, unposted_plain, IsPost, post_or_not, plain_same, line_plain, told_same}

-- ---- refusals of posts don't hang on their events

post_refused : (h : History) (by ticket : ℕ) (event other : _) (fault : StepFault) → IsRefused h (entries.Post by ticket event) fault → IsRefused h (entries.Post by ticket other) fault
post_refused h by ticket event other steps.Caller r = r
post_refused h by ticket event other steps.Closed r = (r.0, r.1, λ e. r.2 e)
post_refused h by ticket event other (steps.Other status) r = r
post_refused h by ticket event other (steps.Ticket needed) r = r
post_refused h by ticket event other (steps.Stranger i) r = r
post_refused h by ticket event other (steps.Stale i status) r = r
post_refused h by ticket event other (steps.Unsound found) r = r
post_refused h by ticket event other (steps.Result i) r = r
post_refused h by ticket event other (steps.Live t status) r = r
post_refused h by ticket event other steps.Resting r = r
post_refused h by ticket event other steps.How r = r
post_refused h by ticket event other steps.Memory r = r

-- what is refused or follows does so but for the event
refused_plain : (h : History) (d e : Entry) (fault : StepFault) → plain d ≡ plain e → IsRefused h d fault → IsRefused h e fault
refused_plain h d e fault same r = by (post_or_not d) (post_or_not e) where
  to_plain : (x : Entry) → IsPost x ⊎ IsUnposted x → IsRefused h x fault → IsRefused h (plain x) fault
  to_plain x (inl p) r =
      subst (λ y. IsRefused h y fault) (sym (ap plain p.is)) (post_refused h p.by p.ticket p.event never fault (subst (λ y. IsRefused h y fault) p.is r))
  to_plain x (inr un) r = subst (λ y. IsRefused h y fault) (sym (unposted_plain x un)) r

  from_plain : (x : Entry) → IsPost x ⊎ IsUnposted x → IsRefused h (plain x) fault → IsRefused h x fault
  from_plain x (inl p) r =
      subst (λ y. IsRefused h y fault) (sym p.is) (post_refused h p.by p.ticket never p.event fault (subst (λ y. IsRefused h y fault) (ap plain p.is) r))
  from_plain x (inr un) r = subst (λ y. IsRefused h y fault) (unposted_plain x un) r

  by : IsPost d ⊎ IsUnposted d → IsPost e ⊎ IsUnposted e → IsRefused h e fault
  by p q = from_plain e q (subst (λ y. IsRefused h y fault) same (to_plain d p r))

follows_plain : (h : History) (d e : Entry) → plain d ≡ plain e → LooselyFollows h.callers h.entries d → LooselyFollows h.callers h.entries e
follows_plain h d e same f = by (post_or_not d) (post_or_not e) where
  to_plain : (x : Entry) → IsPost x ⊎ IsUnposted x → LooselyFollows h.callers h.entries x → LooselyFollows h.callers h.entries (plain x)
  to_plain x (inl p) f = subst (LooselyFollows h.callers h.entries) (sym (ap plain p.is)) (subst (LooselyFollows h.callers h.entries) p.is f)
  to_plain x (inr un) f = subst (LooselyFollows h.callers h.entries) (sym (unposted_plain x un)) f

  from_plain : (x : Entry) → IsPost x ⊎ IsUnposted x → LooselyFollows h.callers h.entries (plain x) → LooselyFollows h.callers h.entries x
  from_plain x (inl p) f = subst (LooselyFollows h.callers h.entries) (sym p.is) (subst (LooselyFollows h.callers h.entries) (ap plain p.is) f)
  from_plain x (inr un) f = subst (LooselyFollows h.callers h.entries) (unposted_plain x un) f

  by : IsPost d ⊎ IsUnposted d → IsPost e ⊎ IsUnposted e → LooselyFollows h.callers h.entries e
  by p q = from_plain e q (subst (LooselyFollows h.callers h.entries) same (to_plain d p f))

few_lines : (n : ℕ) → suc n ≤ most_reported_entries → suc n < 2 ^ 64
few_lines n le = omega arith

module _ (script : Program) (is : IsScript script) (version : Version) where
  -- ---- at one point

  module _ (h : History) (rest : List ℕ) (within : length h.entries ≤ most_reported_entries) where
    abbrev number : ℕ
    number = suc (length h.entries)

    count_few : length h.entries < 2 ^ 64
    count_few = omega (arith, within)

    -- a last line's ending is one
    one_ending : (a b : Ending) (r s : List ℕ) → HasCounts a → HasCounts b → rest ≡ last_line (length h.entries) a ++ r → rest ≡ last_line (length h.entries) b ++ s → a ≡ b
    one_ending a b r s ca cb ea eb = sym (ending_told (length h.entries) a rest r count_few ca ea) ∙ ending_told (length h.entries) b rest s count_few cb eb

    ends_last : (ending : Ending) → EndIsWished h rest ending → rest ≡ last_line (length h.entries) ending ++ []
    ends_last ending e = e.text ∙ sym (append-nil (last_line (length h.entries) ending))

    letter : (ending : Ending) (r : List ℕ) → rest ≡ last_line (length h.entries) ending ++ r → 57 < first_byte rest
    letter ending r e = subst (λ x. 57 < first_byte x) (sym e) (last_first (length h.entries) ending r)

    begins_last : (ending : Ending) (r : List ℕ) → rest ≡ last_line (length h.entries) ending ++ r → BeginsLast rest
    begins_last ending r e = subst BeginsLast (sym e) (last_word (length h.entries) ending r)

    digit : (at : Option Site) (e : Entry) (line r : List ℕ) → SpellsEntry version script number at e line → rest ≡ line ++ r → (48 ≤ first_byte rest) × (first_byte rest ≤ 57)
    digit at e line r spells split =
        let some = spells.within in
        subst (λ x. (48 ≤ first_byte x) × (first_byte x ≤ 57)) (sym (split ∙ ap (λ l. l ++ r) spells.text)) (line_first number (entry_text version script at e) r (few_lines (length h.entries) some))

    illegal_digit : (cause : Cause) → HasIllegal version script h rest cause → (48 ≤ first_byte rest) × (first_byte rest ≤ 57)
    illegal_digit cause i = digit i.at i.entry i.line i.more i.spells i.split

    same_spelled : (a b : Option Site) (d e : Entry) (l m r s : List ℕ) → SpellsEntry version script number a d l
        → SpellsEntry version script number b e m → rest ≡ l ++ r → rest ≡ m ++ s
        → told_as version a d ≡ told_as version b e
    same_spelled a b d e l m r s sd se split split' =
        let some = sd.within in
        line_plain script is version number a b d e rest r s
        (few_lines (length h.entries) some) sd.entry sd.site se.entry se.site (split ∙ ap (λ x. x ++ r) sd.text)
        (split' ∙ ap (λ x. x ++ s) se.text)

    same_lines : (a b : Option Site) (d e : Entry) (l m : List ℕ) → SpellsEntry version script number a d l
        → SpellsEntry version script number b e m → told_as version a d ≡ told_as version b e → l ≡ m
    same_lines a b d e l m sd se same =
        sd.text ∙ ap (numbered number) (text_same version script a d) ∙ ap (λ t. numbered number (said_text script t)) same
        ∙ sym (se.text ∙ ap (numbered number) (text_same version script b e))

    here_not_past : FailsHere h rest → GoesPast h rest → ⊥
    here_not_past (inl wrong) past = wrong.1 past.ending past.more past.counts past.last
    here_not_past (inr (inl open_still)) past =
        let same = one_ending endings.Closed past.ending open_still.more past.more tt past.counts open_still.last past.last in
        open_still.open_still (subst (λ x. ReportIsClosed x h.callers h.entries) (sym same) past.closed)
    here_not_past (inr (inr none)) past = let l = letter past.ending past.more past.last in let z : first_byte rest ≡ 0 = ap first_byte none in omega arith

    ends_not_here : (ending : Ending) → EndIsWished h rest ending → FailsHere h rest → ⊥
    ends_not_here ending e (inl wrong) = wrong.1 ending [] e.counts (ends_last ending e)
    ends_not_here ending e (inr (inl open_still)) =
        let same = one_ending endings.Closed ending open_still.more [] tt e.counts open_still.last (ends_last ending e) in
        open_still.open_still (subst (λ x. ReportIsClosed x h.callers h.entries) (sym same) e.closed)
    ends_not_here ending e (inr (inr none)) = let l = letter ending [] (ends_last ending e) in let z : first_byte rest ≡ 0 = ap first_byte none in omega arith

    ends_not_past : (ending : Ending) → EndIsWished h rest ending → GoesPast h rest → ⊥
    ends_not_past ending e past =
        let same = one_ending ending past.ending [] past.more e.counts past.counts (ends_last ending e) past.last in
        past.some (sym (append_cancel_left (last_line (length h.entries) past.ending) [] past.more
        (ap (λ x. last_line (length h.entries) x ++ []) (sym same) ∙ sym (ends_last ending e) ∙ past.last)))

    line_not_here : (rest ≢ []) × (¬ BeginsLast rest) × HasNoEntry version script h rest → FailsHere h rest → ⊥
    line_not_here l (inl wrong) = l.1 wrong.0
    line_not_here l (inr (inl open_still)) = l.1 (begins_last endings.Closed open_still.more open_still.last)
    line_not_here l (inr (inr none)) = l.0 none

    illegal_not_here : (cause : Cause) → HasIllegal version script h rest cause → FailsHere h rest → ⊥
    illegal_not_here cause i (inl wrong) = let d = illegal_digit cause i in let w = word_first rest wrong.0 in omega arith
    illegal_not_here cause i (inr (inl open_still)) = let d = illegal_digit cause i in let w = letter endings.Closed open_still.more open_still.last in omega arith
    illegal_not_here cause i (inr (inr none)) = let d = illegal_digit cause i in let z : first_byte rest ≡ 0 = ap first_byte none in omega arith

    one_cause : (a b : Cause) → HasIllegal version script h rest a → HasIllegal version script h rest b → a ≡ b
    one_cause a b i j = causes_same a b i.because j.because where
      told : told_as version i.at i.entry ≡ told_as version j.at j.entry
      told = same_spelled i.at j.at i.entry j.entry i.line j.line i.more j.more i.spells j.spells i.split j.split

      same : plain i.entry ≡ plain j.entry
      same = told_same version i.at j.at i.entry j.entry told

      causes_same : (a b : Cause) → IsCause version script h i.entry i.line a → IsCause version script h j.entry j.line b → a ≡ b
      causes_same (causes.Step f) (causes.Step g) ra rb = ap causes.Step (refusals_are_one h j.entry f g ra.1 rb.1 (refused_plain h i.entry j.entry f same ra.0) rb.0)
      causes_same (causes.Step f) causes.Script ra rb = absurd (refused_fails h i.entry f ra.0 ra.1 (follows_plain h j.entry i.entry (sym same) rb.0))
      causes_same causes.Script (causes.Step g) ra rb = absurd (refused_fails h j.entry g rb.0 rb.1 (follows_plain h i.entry j.entry same ra.0))
      causes_same causes.Script causes.Script ra rb = refl

    -- one answer
    pub one_kind : (a b : Kind) → LineSays version script h rest a → LineSays version script h rest b → a ≡ b
    one_kind (ends x) (ends y) p q = ap ends (one_ending x y [] [] p.counts q.counts (ends_last x p) (ends_last y q))
    one_kind (ends x) no_line p q = absurd (q.1 (begins_last x [] (ends_last x p)))
    one_kind (ends x) (illegal c) p q = absurd (let d = illegal_digit c q in let l = letter x [] (ends_last x p) in omega arith)
    one_kind (ends x) no_end p q = absurd (ends_not_here x p q)
    one_kind (ends x) too_long p q = absurd (ends_not_past x p q)
    one_kind no_line (ends y) p q = absurd (p.1 (begins_last y [] (ends_last y q)))
    one_kind no_line no_line p q = refl
    one_kind no_line (illegal c) p q = absurd (p.2 q.at q.entry q.line q.more q.split q.spells)
    one_kind no_line no_end p q = absurd (line_not_here p q)
    one_kind no_line too_long p q = absurd (p.1 (begins_last q.ending q.more q.last))
    one_kind (illegal c) (ends y) p q = absurd (let d = illegal_digit c p in let l = letter y [] (ends_last y q) in omega arith)
    one_kind (illegal c) no_line p q = absurd (q.2 p.at p.entry p.line p.more p.split p.spells)
    one_kind (illegal c) (illegal d) p q = ap illegal (one_cause c d p q)
    one_kind (illegal c) no_end p q = absurd (illegal_not_here c p q)
    one_kind (illegal c) too_long p q = absurd (let d = illegal_digit c p in let l = letter q.ending q.more q.last in omega arith)
    one_kind no_end (ends y) p q = absurd (ends_not_here y q p)
    one_kind no_end no_line p q = absurd (line_not_here q p)
    one_kind no_end (illegal c) p q = absurd (illegal_not_here c q p)
    one_kind no_end no_end p q = refl
    one_kind no_end too_long p q = absurd (here_not_past p q)
    one_kind too_long (ends y) p q = absurd (ends_not_past y q p)
    one_kind too_long no_line p q = absurd (q.1 (begins_last p.ending p.more p.last))
    one_kind too_long (illegal c) p q = absurd (let d = illegal_digit c q in let l = letter p.ending p.more p.last in omega arith)
    one_kind too_long no_end p q = absurd (here_not_past q p)
    one_kind too_long too_long p q = refl

    -- no answer where the next line is one of an entry that may stand there
    line_spells : (e : Entry) → IsLine version script h.entries h.callers rest e → SpellsEntry version script number (posted_site script h.entries e) e (entry_line version script h.entries e)
    line_spells e l = record { within = l.within; entry = l.readable; site = l.site; text = refl }

    pub no_kind : (e : Entry) (k : Kind) → IsLine version script h.entries h.callers rest e → LineSays version script h rest k → ⊥
    no_kind e (ends x) l p = let d = digit _ e _ l.behind (line_spells e l) l.text in let w = letter x [] (ends_last x p) in omega arith
    no_kind e no_line l p = p.2 _ e _ l.behind l.text (line_spells e l)
    no_kind e (illegal causes.Script) l p =
        let told = same_spelled p.at _ p.entry e p.line _ p.more l.behind p.spells (line_spells e l) p.split l.text in
        let line = same_lines p.at _ p.entry e p.line _ p.spells (line_spells e l) told in
        p.because.1 e (subst (λ x. SpellsEntry version script number (posted_site script h.entries e) e x) (sym line) (line_spells e l)) l.wished
    no_kind e (illegal (causes.Step f)) l p =
        let told = same_spelled p.at _ p.entry e p.line _ p.more l.behind p.spells (line_spells e l) p.split l.text in
        let same = told_same version p.at _ p.entry e told in
        refused_fails h p.entry f p.because.0 p.because.1 (follows_plain h e p.entry (sym same) l.follows)
    no_kind e no_end l (inl wrong) = let d = digit _ e _ l.behind (line_spells e l) l.text in let w = word_first rest wrong.0 in omega arith
    no_kind e no_end l (inr (inl open_still)) = let d = digit _ e _ l.behind (line_spells e l) l.text in let w = letter endings.Closed open_still.more open_still.last in omega arith
    no_kind e no_end l (inr (inr none)) = let d = digit _ e _ l.behind (line_spells e l) l.text in let z : first_byte rest ≡ 0 = ap first_byte none in omega arith
    no_kind e too_long l p = let d = digit _ e _ l.behind (line_spells e l) l.text in let w = letter p.ending p.more p.last in omega arith

  -- ---- the lines so far

  -- one history goes on where the other ends
  pub record Longer (before shorter longer : List Entry) (r s : List ℕ) : Type 0 where
    pub more : List Entry
    pub whole : longer ≡ shorter ++ more
    pub text : r ≡ entry_lines version script (before ++ shorter) more ++ s

  -- entries that are readable, loose and wished from here on
  pub record Stands (callers : ℕ) (before es : List Entry) : Type 0 where
    pub within : length before + length es ≤ most_reported_entries
    pub readable : AreReadable version script before es
    pub loose : LooseFrom callers before es
    pub wished : WishedFrom script.threads before es

  length_push : (before : List Entry) (e : Entry) → length (before ++ e ∷ []) ≡ suc (length before)
  length_push [] e = refl
  length_push (x ∷ xs) e = ap suc (length_push xs e)

  rest_stands : (callers : ℕ) (before : List Entry) (e : Entry) (es : List Entry) → Stands callers before (e ∷ es) → Stands callers (before ++ e ∷ []) es
  rest_stands callers before e es s =
      let within = s.within in
      record { within = omega (arith, length_push before e); readable = s.readable.2; loose = s.loose.1; wished = s.wished.1 }

  later : (before : List Entry) (e : Entry) (es fs : List Entry) (r s : List ℕ) → Longer (before ++ e ∷ []) es fs r s → Longer before (e ∷ es) (e ∷ fs) r s
  later before e es fs r s l = record {
    more = l.more;
    whole = ap (λ x. e ∷ x) l.whole;
    text = l.text ∙ ap (λ b. entry_lines version script b l.more ++ s) (append_assoc before (e ∷ []) es);
  }

  none_yet : (before es : List Entry) (r s : List ℕ) → r ≡ entry_lines version script before es ++ s → Longer before [] es r s
  none_yet before es r s e = record { more = es; whole = refl; text = e ∙ ap (λ b. entry_lines version script b es ++ s) (sym (append-nil before)) }

  later_both : (before : List Entry) (d f : Entry) (es fs : List Entry) (r s : List ℕ) → d ≡ f → Longer (before ++ d ∷ []) es fs r s ⊎ Longer (before ++ d ∷ []) fs es s r
      → Longer before (d ∷ es) (f ∷ fs) r s ⊎ Longer before (f ∷ fs) (d ∷ es) s r
  later_both before d f es fs r s same (inl l) = subst (λ x. Longer before (d ∷ es) (x ∷ fs) r s ⊎ Longer before (x ∷ fs) (d ∷ es) s r) same (inl (later before d es fs r s l))
  later_both before d f es fs r s same (inr l) = subst (λ x. Longer before (d ∷ es) (x ∷ fs) r s ⊎ Longer before (x ∷ fs) (d ∷ es) s r) same (inr (later before d fs es s r l))

  pub compare : (callers : ℕ) (before es fs : List Entry) (r s : List ℕ) → Stands callers before es → Stands callers before fs
      → entry_lines version script before es ++ r ≡ entry_lines version script before fs ++ s → Longer before es fs r s ⊎ Longer before fs es s r
  compare callers before [] fs r s a b e = inl (none_yet before fs r s e)
  compare callers before (d ∷ es) [] r s a b e = inr (none_yet before (d ∷ es) s r (sym e))
  compare callers before (d ∷ es) (f ∷ fs) r s a b e =
      let within = a.within in
      let left = append_assoc (entry_line version script before d) (entry_lines version script (before ++ d ∷ []) es) r in
      let right = append_assoc (entry_line version script before f) (entry_lines version script (before ++ f ∷ []) fs) s in
      let number : suc (length before) < 2 ^ 64 = omega arith in
      let told = line_plain script is version (suc (length before)) (posted_site script before d)
      (posted_site script before f) d f ((entry_line version script before d ++ entry_lines version script
      (before ++ d ∷ []) es) ++ r)
      (entry_lines version script (before ++ d ∷ []) es ++ r) (entry_lines version script (before ++ f ∷ []) fs ++ s) number a.readable.0 a.readable.1 b.readable.0 b.readable.1 left (e ∙ right) in
      let same : d ≡ f = plain_same script before d f (told_same version (posted_site script before d) (posted_site script before f) d f told) a.wished.0 b.wished.0 in
      let rest = append_cancel_left (entry_line version script before d) (entry_lines version script (before ++ d ∷ []) es ++ r) (entry_lines version script (before ++ d ∷ []) fs ++ s)
      (sym left ∙ e ∙ right ∙ ap (λ x. entry_line version script before x ++ (entry_lines version script (before ++ x ∷ []) fs ++ s)) (sym same)) in
      later_both before d f es fs r s same
      (compare callers (before ++ d ∷ []) es fs r s (rest_stands callers before d es a) (subst (λ x. Stands callers (before ++ x ∷ []) fs) (sym same) (rest_stands callers before f fs b)) rest)
