-- Two entries with one line are one, where their threads wished them.
use Rattle.std.proofs.Common.{◌≡◌, ◌⊎◌, inl, inr, ℕ, ◌^◌, ◌<◌, ◌≤◌, List, [], ◌∷◌, ◌++◌, length, get_or, refl, sym, ap, subst, ◌∙◌, arith, append_assoc}
use Rattle.std.specs.Prelude.{codes, Option, Some, None, slice_get}
use Rattle.std.specs.Fmt.{decimal}
use Rattle.std.specs.Str.Parse.{AllDigits}
use Rattle.std.proofs.lemmas.List.{append_cancel_left}
use Rattle.std.proofs.lemmas.Fmt.{decimal_is_IsNumeral}
use Rattle.std.proofs.lemmas.Str.Parse.{digit_from_value}
use Rattle.te_terms.specs.declared.event.Outcome.{Outcome}
use Rattle.te_terms.specs.Terms.{Term, never}
use Rattle.te_script.specs.declared.wish.Site.{Site}
use Rattle.te_script.specs.Scripts.{Thread, Program, IsScript}
use Rattle.te_script.specs.Wishes.{syncs}
use Rattle.te_history.specs.declared.entry.Entry.{Entry}
use Rattle.te_history.specs.declared.entry.Entry.TheVariants as entries
use Rattle.te_report.specs.declared.ending.Ending.{Ending}
use Rattle.te_report.specs.declared.ending.Ending.TheVariants as endings
use Rattle.te_report.specs.OfScript.{taken, WishedBy}
use Rattle.te_report.specs.Readable.{IsEntryOf, HasSite}
use Rattle.te_report.specs.Report.{Version, first, second, numbered, entry_text, last_line, head_line}
use Rattle.te_report.specs.Told.{BeginsLast}
use Rattle.te_report.specs.Sayings.{entry_in, first_byte}
use Rattle.te_report.specs.Judging.{IsUnposted, IsWishedAt}
use Rattle.te_report.proofs.Appends.{parts_4}
use Rattle.te_report.proofs.LinesTold.{told_as, line_is_told}

-- ---- how lines begin

pub same_head : (v w : Version) (r s : List ℕ) → head_line v ++ r ≡ head_line w ++ s → (v ≡ w) × (r ≡ s)
same_head first first r s e = (refl, append_cancel_left (head_line first) r s e)
same_head second second r s e = (refl, append_cancel_left (head_line second) r s e)
same_head first second r s e = absurd (let other : 49 ≡ 50 = ap (λ l. get_or l 15 0) e in omega arith)
same_head second first r s e = absurd (let other : 50 ≡ 49 = ap (λ l. get_or l 15 0) e in omega arith)

digits_first : (ds xs : List ℕ) → 0 < length ds → AllDigits 10 ds → (48 ≤ first_byte (ds ++ xs)) × (first_byte (ds ++ xs) ≤ 57)
digits_first [] xs some all = absurd (omega arith)
digits_first (d ∷ ds) xs some all = digit_from_value d all.0

pub line_first : (number : ℕ) (text rest : List ℕ) → number < 2 ^ 64 → (48 ≤ first_byte (numbered number text ++ rest)) × (first_byte (numbered number text ++ rest) ≤ 57)
line_first number text rest few =
    let is = (decimal_is_IsNumeral number few).0 in
    let parted : numbered number text ++ rest ≡ decimal number ++ (32 ∷ (text ++ 10 ∷ []) ++ rest) =
    ap (λ x. x ++ rest) (parts_4 (decimal number) (codes " ") text (codes "\n")) ∙ append_assoc (decimal number) (32 ∷ (text ++ 10 ∷ [])) rest in
    subst (λ l. (48 ≤ first_byte l) × (first_byte l ≤ 57)) (sym parted) (digits_first (decimal number) (32 ∷ (text ++ 10 ∷ []) ++ rest) is.0 is.1)

pub last_first : (count : ℕ) (ending : Ending) (rest : List ℕ) → 57 < first_byte (last_line count ending ++ rest)
last_first count endings.Closed rest = omega arith
last_first count (endings.Spent f p g) rest = omega arith
last_first count endings.Full rest = omega arith

pub word_first : (rest : List ℕ) → BeginsLast rest → 57 < first_byte rest
word_first rest (inl is) = subst (λ r. 57 < first_byte r) (sym is.1) (omega arith)
word_first rest (inr (inl is)) = subst (λ r. 57 < first_byte r) (sym is.1) (omega arith)
word_first rest (inr (inr is)) = subst (λ r. 57 < first_byte r) (sym is.1) (omega arith)

pub last_word : (count : ℕ) (ending : Ending) (rest : List ℕ) → BeginsLast (last_line count ending ++ rest)
last_word count endings.Closed rest = inl (_, refl)
last_word count (endings.Spent f p g) rest = inr (inl (_, refl))
last_word count endings.Full rest = inr (inr (_, refl))

-- ---- entries but for the events of posts

abbrev pub plain : Entry → Entry
plain (entries.Post by ticket event) = entries.Post by ticket never
plain (entries.Commit by cert outcomes) = entries.Commit by cert outcomes
plain (entries.Withdraw by ticket) = entries.Withdraw by ticket
plain (entries.Take by ticket outcome) = entries.Take by ticket outcome
plain (entries.Rest by) = entries.Rest by
plain (entries.Stuck by) = entries.Stuck by
plain (entries.End by how) = entries.End by how

pub told_plain : (version : Version) (at : Option Site) (e : Entry) → entry_in (told_as version at e) ≡ plain e
told_plain version at (entries.Post by ticket event) = refl
told_plain version at (entries.Commit by cert outcomes) = refl
told_plain version at (entries.Withdraw by ticket) = refl
told_plain version at (entries.Take by ticket outcome) = refl
told_plain version at (entries.Rest by) = refl
told_plain version at (entries.Stuck by) = refl
told_plain version at (entries.End by how) = refl

pub unposted_plain : (e : Entry) → IsUnposted e → plain e ≡ e
unposted_plain (entries.Post by ticket event) un = absurd un
unposted_plain (entries.Commit by cert outcomes) un = refl
unposted_plain (entries.Withdraw by ticket) un = refl
unposted_plain (entries.Take by ticket outcome) un = refl
unposted_plain (entries.Rest by) un = refl
unposted_plain (entries.Stuck by) un = refl
unposted_plain (entries.End by how) un = refl

pub record IsPost (e : Entry) : Type 0 where
  pub by : ℕ
  pub ticket : ℕ
  pub event : Term
  pub is : e ≡ entries.Post by ticket event

pub post_or_not : (e : Entry) → IsPost e ⊎ IsUnposted e
post_or_not (entries.Post by ticket event) = inl (record { by = by; ticket = ticket; event = event; is = refl })
post_or_not (entries.Commit by cert outcomes) = inr tt
post_or_not (entries.Withdraw by ticket) = inr tt
post_or_not (entries.Take by ticket outcome) = inr tt
post_or_not (entries.Rest by) = inr tt
post_or_not (entries.Stuck by) = inr tt
post_or_not (entries.End by how) = inr tt

one_event : (o : Option Thread) (outs : List Outcome) (by ticket : ℕ) (a b : Term) → WishedBy o outs (entries.Post by ticket a) → WishedBy o outs (entries.Post by ticket b) → a ≡ b
one_event (Some x) outs by ticket a b w v = let same : syncs a ≡ syncs b = sym w ∙ v in cc
one_event None outs by ticket a b w v = absurd w

posts_same : (script : Program) (h : List Entry) (by by' ticket ticket' : ℕ) (a b : Term) → entries.Post by ticket never ≡ entries.Post by' ticket' never
    → IsWishedAt script h (entries.Post by ticket a) → IsWishedAt script h (entries.Post by' ticket' b) → entries.Post by ticket a ≡ entries.Post by' ticket' b
posts_same script h by by' ticket ticket' a b same w v =
    let one : by ≡ by' = cc in
    let two : ticket ≡ ticket' = cc in
    let back : IsWishedAt script h (entries.Post by ticket b) =
    subst (λ t. IsWishedAt script h (entries.Post t ticket b)) (sym one)
    (subst (λ k. IsWishedAt script h (entries.Post by' k b)) (sym two) v) in
    let event = one_event (slice_get script.threads by) (taken by h) by ticket a b w back in
    λ i. entries.Post (one i) (two i) (event i)

-- wished entries are one where they are but for the events
pub plain_same : (script : Program) (h : List Entry) (d e : Entry) → plain d ≡ plain e → IsWishedAt script h d → IsWishedAt script h e → d ≡ e
plain_same script h d e same w v = by (post_or_not d) (post_or_not e) where
  mixed : (p : Entry) → IsPost p → (q : Entry) → IsUnposted q → plain p ≡ plain q → ⊥
  mixed p post q un is =
      let clash : entries.Post post.by post.ticket never ≡ q = sym (ap plain post.is) ∙ is ∙ unposted_plain q un in
      subst IsUnposted (sym clash) un

  by : IsPost d ⊎ IsUnposted d → IsPost e ⊎ IsUnposted e → d ≡ e
  by (inr un) (inr un') = sym (unposted_plain d un) ∙ same ∙ unposted_plain e un'
  by (inl post) (inr un) = absurd (mixed d post e un same)
  by (inr un) (inl post) = absurd (mixed e post d un (sym same))
  by (inl p) (inl q) =
      p.is
      ∙ posts_same script h p.by q.by p.ticket q.ticket p.event q.event (sym (ap plain p.is) ∙ same ∙ ap plain q.is) (subst (IsWishedAt script h) p.is w) (subst (IsWishedAt script h) q.is v)
      ∙ sym q.is

-- entries with one line are one but for the events
pub line_plain : (script : Program) → IsScript script → (version : Version) (number : ℕ) (at at' : Option Site) (d e : Entry) (rest r s : List ℕ) → number < 2 ^ 64
    → IsEntryOf script d → HasSite version at d → IsEntryOf script e → HasSite version at' e
    → rest ≡ numbered number (entry_text version script at d) ++ r → rest ≡ numbered number (entry_text version script at' e) ++ s → told_as version at d ≡ told_as version at' e
line_plain script is version number at at' d e rest r s few hd sd he se is_d is_e =
    sym (line_is_told script is version at d number rest r few hd sd is_d) ∙ line_is_told script is version at' e number rest s few he se is_e

pub told_same : (version : Version) (at at' : Option Site) (d e : Entry) → told_as version at d ≡ told_as version at' e → plain d ≡ plain e
told_same version at at' d e is = sym (told_plain version at d) ∙ ap entry_in is ∙ told_plain version at' e
