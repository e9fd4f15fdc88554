-- The line of an entry that can be spelled is told as the entry.
use Rattle.std.proofs.Common.{◌≡◌, ℕ, ◌^◌, ◌<◌, Bool, true, false, List, [], ◌∷◌, ◌++◌, length, map, refl, sym, ap, ◌∙◌, arith, append_assoc}
use Rattle.std.specs.Prelude.{codes, Option, Some, None}
use Rattle.std.specs.List.{flat_map}
use Rattle.std.specs.Fmt.{decimal}
use Rattle.std.proofs.lemmas.List.{append-nil}
use Rattle.te_terms.specs.declared.event.Outcome.{Outcome}
use Rattle.te_terms.specs.Terms.{Term}
use Rattle.te_script.specs.declared.wish.Site.{Site}
use Rattle.te_script.specs.Scripts.{Program, IsScript}
use Rattle.te_history.specs.declared.status.How.{How}
use Rattle.te_history.specs.declared.status.How.TheVariants as ways
use Rattle.te_history.specs.declared.entry.Entry.{Entry}
use Rattle.te_history.specs.declared.entry.Entry.TheVariants as entries
use Rattle.te_report.specs.declared.saying.Said.{Said}
use Rattle.te_report.specs.declared.saying.Said.TheVariants as says
use Rattle.te_report.specs.Readable.{IsNumber, IsHowOf, IsEntryOf, HasSite}
use Rattle.te_report.specs.Report.{Version, first, second, name_of, value_text, outcome_text, end_text, site_text, commit_text, meeting_text, members_text, entry_text, numbered}
use Rattle.te_report.specs.Sayings.{called_of, up_to, cut_behind, said_ticket, said_thread, said_values, said_outcome, said_how, said_site, said_entry, said_words, said, said_text}
use Rattle.te_report.proofs.Appends.{parts_4, parts_5, parts_6}
use Rattle.te_report.proofs.Cuts.{lacks, lacks_append, front, back, whole_front, no_back, lacks_others, back_joined}
use Rattle.te_report.proofs.NumbersTold.{ticket_told, number_lacks}
use Rattle.te_report.proofs.NamesTold.{name_lacks}
use Rattle.te_report.proofs.ValuesTold.{thread_named, thread_is_told, value_is_told, value_lacks, outcome_is_told, outcome_lacks, values_spaced, values_lack, values_are_told}
use Rattle.te_report.proofs.CommitsTold.{OutsideMembers, members_text_lacks, meets_lack, commit_is_told}

abbrev pub tells : Version → Bool
tells first = false
tells second = true

abbrev pub shown : Version → Option Site → Option Site
shown first at = None
shown second at = at

-- what the line of an entry says
abbrev pub told_as : Version → Option Site → Entry → Said
told_as version at (entries.Post by ticket event) = says.Post by ticket (shown version at)
told_as version at (entries.Commit by cert outcomes) = says.Entry (entries.Commit by cert outcomes)
told_as version at (entries.Withdraw by ticket) = says.Entry (entries.Withdraw by ticket)
told_as version at (entries.Take by ticket outcome) = says.Entry (entries.Take by ticket outcome)
told_as version at (entries.Rest by) = says.Entry (entries.Rest by)
told_as version at (entries.Stuck by) = says.Entry (entries.Stuck by)
told_as version at (entries.End by how) = says.Entry (entries.End by how)

site_same : (version : Version) (at : Option Site) → site_text version at ≡ site_text second (shown version at)
site_same first at = refl
site_same second at = refl

-- its text is the entry's
pub text_same : (version : Version) (script : Program) (at : Option Site) (e : Entry) → entry_text version script at e ≡ said_text script (told_as version at e)
text_same version script at (entries.Post by ticket event) = ap (λ s. codes "post " ++ name_of script by ++ codes " " ++ decimal ticket ++ s) (site_same version at)
text_same version script at (entries.Commit by cert outcomes) = refl
text_same version script at (entries.Withdraw by ticket) = refl
text_same version script at (entries.Take by ticket outcome) = refl
text_same version script at (entries.Rest by) = refl
text_same version script at (entries.Stuck by) = refl
text_same version script at (entries.End by how) = refl

-- ---- texts in parts, bracketed to the right

abbrev site_parts : Version → Option Site → List ℕ
site_parts second (Some s) = 32 ∷ 97 ∷ 116 ∷ 32 ∷ (decimal s.statement ++ 46 ∷ decimal s.pass)
site_parts _ _ = []

site_parted : (version : Version) (at : Option Site) → site_text version at ≡ site_parts version at
site_parted first at = refl
site_parted second None = refl
site_parted second (Some s) = parts_4 (codes " at ") (decimal s.statement) (codes ".") (decimal s.pass)

abbrev entry_parts : Version → Program → Option Site → Entry → List ℕ
entry_parts version script at (entries.Post by ticket event) = codes "post " ++ (name_of script by ++ 32 ∷ (decimal ticket ++ site_parts version at))
entry_parts version script at (entries.Commit by cert outcomes) = codes "commit " ++ (name_of script by ++ 58 ∷ 32 ∷ commit_text script cert outcomes)
entry_parts version script at (entries.Withdraw by ticket) = codes "withdraw " ++ (name_of script by ++ 32 ∷ decimal ticket)
entry_parts version script at (entries.Take by ticket outcome) = codes "take " ++ (name_of script by ++ 32 ∷ (decimal ticket ++ 32 ∷ outcome_text script outcome))
entry_parts version script at (entries.Rest by) = codes "rest " ++ name_of script by
entry_parts version script at (entries.Stuck by) = codes "stuck " ++ name_of script by
entry_parts version script at (entries.End by how) = codes "end " ++ (name_of script by ++ 32 ∷ end_text script how)

entry_parted : (version : Version) (script : Program) (at : Option Site) (e : Entry) → entry_text version script at e ≡ entry_parts version script at e
entry_parted version script at (entries.Post by ticket event) =
    parts_5 (codes "post ") (name_of script by) (codes " ") (decimal ticket) (site_text version at)
    ∙ ap (λ s. codes "post " ++ (name_of script by ++ 32 ∷ (decimal ticket ++ s))) (site_parted version at)
entry_parted version script at (entries.Commit by cert outcomes) = parts_4 (codes "commit ") (name_of script by) (codes ": ") (commit_text script cert outcomes)
entry_parted version script at (entries.Withdraw by ticket) = parts_4 (codes "withdraw ") (name_of script by) (codes " ") (decimal ticket)
entry_parted version script at (entries.Take by ticket outcome) = parts_6 (codes "take ") (name_of script by) (codes " ") (decimal ticket) (codes " ") (outcome_text script outcome)
entry_parted version script at (entries.Rest by) = refl
entry_parted version script at (entries.Stuck by) = refl
entry_parted version script at (entries.End by how) = parts_4 (codes "end ") (name_of script by) (codes " ") (end_text script how)

module _ (script : Program) (is : IsScript script) where
  few_numbers : (n : ℕ) → IsNumber n → n < 2 ^ 64
  few_numbers n h = omega arith

  clear_of_space : (t : ℕ) → t < length script.threads → lacks 32 (name_of script t) ≡ true
  clear_of_space t lt = name_lacks 32 (name_of script t) refl (thread_named script is t lt)

  clear_of_colon : (t : ℕ) → t < length script.threads → lacks 58 (name_of script t) ≡ true
  clear_of_colon t lt = name_lacks 58 (name_of script t) refl (thread_named script is t lt)

  clear_of_end : (t : ℕ) → t < length script.threads → lacks 10 (name_of script t) ≡ true
  clear_of_end t lt = name_lacks 10 (name_of script t) refl (thread_named script is t lt)

  -- ---- who it is by, and what stands behind

  by_named : (sites : Bool) (letter t : ℕ) (text tail : List ℕ) → t < length script.threads → up_to 58 (up_to 32 text) ≡ name_of script t → cut_behind 32 text ≡ tail
      → said_entry (called_of script) sites letter (said_thread (called_of script).threads (up_to 58 (up_to 32 text))) (cut_behind 32 text) ≡ said_entry (called_of script) sites letter t tail
  by_named sites letter t text tail lt who rest =
      ap (λ w. said_entry (called_of script) sites letter (said_thread (called_of script).threads w) (cut_behind 32 text)) who
      ∙ ap (λ x. said_entry (called_of script) sites letter x (cut_behind 32 text)) (thread_is_told script is t lt)
      ∙ ap (said_entry (called_of script) sites letter t) rest

  -- behind a space
  by_spaced : (sites : Bool) (letter t : ℕ) (tail : List ℕ) → t < length script.threads
      → said_entry (called_of script) sites letter (said_thread (called_of script).threads (up_to 58 (up_to 32 (name_of script t ++ 32 ∷ tail)))) (cut_behind 32 (name_of script t ++ 32 ∷ tail))
      ≡ said_entry (called_of script) sites letter t tail
  by_spaced sites letter t tail lt =
      by_named sites letter t (name_of script t ++ 32 ∷ tail) tail lt
      (ap (up_to 58) (front 32 (name_of script t) tail (clear_of_space t lt)) ∙ whole_front 58 (name_of script t) (clear_of_colon t lt))
      (back 32 (name_of script t) tail (clear_of_space t lt))

  -- with nothing behind
  by_alone : (sites : Bool) (letter t : ℕ) → t < length script.threads
      → said_entry (called_of script) sites letter (said_thread (called_of script).threads (up_to 58 (up_to 32 (name_of script t)))) (cut_behind 32 (name_of script t))
      ≡ said_entry (called_of script) sites letter t []
  by_alone sites letter t lt =
      by_named sites letter t (name_of script t) [] lt
      (ap (up_to 58) (whole_front 32 (name_of script t) (clear_of_space t lt)) ∙ whole_front 58 (name_of script t) (clear_of_colon t lt))
      (no_back 32 (name_of script t) (clear_of_space t lt))

  -- behind a colon and a space
  by_colon : (sites : Bool) (letter t : ℕ) (tail : List ℕ) → t < length script.threads
      → said_entry (called_of script) sites letter (said_thread (called_of script).threads
      (up_to 58 (up_to 32 (name_of script t ++ 58 ∷ 32 ∷ tail)))) (cut_behind 32 (name_of script t ++ 58 ∷ 32 ∷ tail))
      ≡ said_entry (called_of script) sites letter t tail
  by_colon sites letter t tail lt =
      let name = name_of script t in
      let with_colon : lacks 32 (name ++ 58 ∷ []) ≡ true = lacks_append 32 name (58 ∷ []) (clear_of_space t lt) refl in
      let parted : name ++ 58 ∷ 32 ∷ tail ≡ (name ++ 58 ∷ []) ++ 32 ∷ tail = sym (append_assoc name (58 ∷ []) (32 ∷ tail)) in
      by_named sites letter t (name ++ 58 ∷ 32 ∷ tail) tail lt
      (ap (λ x. up_to 58 (up_to 32 x)) parted ∙ ap (up_to 58) (front 32 (name ++ 58 ∷ []) tail with_colon) ∙ front 58 name [] (clear_of_colon t lt))
      (ap (cut_behind 32) parted ∙ back 32 (name ++ 58 ∷ []) tail with_colon)

  -- ---- each entry

  site_told : (s : Site) → IsNumber s.statement → IsNumber s.pass → said_site true (decimal s.statement ++ 46 ∷ decimal s.pass) ≡ Some s
  site_told s h k =
      let clear = number_lacks 46 s.statement refl (few_numbers s.statement h) in
      let statement = ap said_ticket (front 46 (decimal s.statement) (decimal s.pass) clear) ∙ ticket_told s.statement h in
      let pass = ap said_ticket (back 46 (decimal s.statement) (decimal s.pass) clear) ∙ ticket_told s.pass k in
      λ i. Some (record { statement = statement i; pass = pass i })

  post_told : (version : Version) (at : Option Site) (by ticket : ℕ) (event : Term) → IsNumber ticket → HasSite version at (entries.Post by ticket event)
      → said_entry (called_of script) (tells version) 112 by (decimal ticket ++ site_parts version at) ≡ says.Post by ticket (shown version at)
  post_told first at by ticket event few site =
      let clear = number_lacks 32 ticket refl (few_numbers ticket few) in
      let under : said_ticket (up_to 32 (decimal ticket ++ [])) ≡ ticket =
      ap (λ x. said_ticket (up_to 32 x)) (append-nil (decimal ticket)) ∙ ap said_ticket
      (whole_front 32 (decimal ticket) clear) ∙ ticket_told ticket few in
      ap (λ x. says.Post by x None) under
  post_told second None by ticket event few site = absurd site
  post_told second (Some s) by ticket event few site =
      let clear = number_lacks 32 ticket refl (few_numbers ticket few) in
      let spelled : List ℕ = decimal s.statement ++ 46 ∷ decimal s.pass in
      let under : said_ticket (up_to 32 (decimal ticket ++ 32 ∷ 97 ∷ 116 ∷ 32 ∷ spelled)) ≡ ticket =
      ap said_ticket (front 32 (decimal ticket) (97 ∷ 116 ∷ 32 ∷ spelled) clear) ∙ ticket_told ticket few in
      let place : said_site true (cut_behind 32 (cut_behind 32 (decimal ticket ++ 32 ∷ 97 ∷ 116 ∷ 32 ∷ spelled))) ≡ Some s =
      ap (λ x. said_site true (cut_behind 32 x)) (back 32 (decimal ticket) (97 ∷ 116 ∷ 32 ∷ spelled) clear) ∙ site_told s site.0 site.1 in
      λ i. says.Post by (under i) (place i)

  take_told : (sites : Bool) (by ticket : ℕ) (outcome : Outcome) → IsEntryOf script (entries.Take by ticket outcome)
      → said_entry (called_of script) sites 116 by (decimal ticket ++ 32 ∷ outcome_text script outcome) ≡ says.Entry (entries.Take by ticket outcome)
  take_told sites by ticket outcome h =
      let clear = number_lacks 32 ticket refl (few_numbers ticket h.1) in
      let under = ap said_ticket (front 32 (decimal ticket) (outcome_text script outcome) clear) ∙ ticket_told ticket h.1 in
      let gets = ap (said_outcome (called_of script)) (back 32 (decimal ticket) (outcome_text script outcome) clear) ∙ outcome_is_told script is outcome h.2 in
      λ i. says.Entry (entries.Take by (under i) (gets i))

  how_told : (how : How) → IsHowOf script how → said_how (called_of script) (end_text script how) ≡ how
  how_told (ways.Done values) h =
      ap (λ x. ways.Done (said_values (called_of script) (cut_behind 32 x))) (values_spaced script is values)
      ∙ ap (λ x. ways.Done (said_values (called_of script) x)) (back_joined 32 [] (map (value_text script) values) refl)
      ∙ ap ways.Done (values_are_told script is values h)
  how_told (ways.Raised value) h = ap ways.Raised (value_is_told script is value h)
  how_told ways.Stuck h = refl

  -- the words of an entry
  words_told : (version : Version) (at : Option Site) (e : Entry) → IsEntryOf script e → HasSite version at e
      → said_words (called_of script) (tells version) (entry_parts version script at e) ≡ told_as version at e
  words_told version at (entries.Post by ticket event) h site = by_spaced (tells version) 112 by (decimal ticket ++ site_parts version at) h.0 ∙ post_told version at by ticket event h.1 site
  words_told version at (entries.Commit by cert outcomes) h site = by_colon (tells version) 99 by (commit_text script cert outcomes) h.0 ∙ commit_is_told script is by cert outcomes h.1
  words_told version at (entries.Withdraw by ticket) h site = by_spaced (tells version) 119 by (decimal ticket) h.0 ∙ ap (λ x. says.Entry (entries.Withdraw by x)) (ticket_told ticket h.1)
  words_told version at (entries.Take by ticket outcome) h site =
      by_spaced (tells version) 116 by (decimal ticket ++ 32 ∷ outcome_text script outcome) h.0 ∙ take_told (tells version) by ticket outcome h
  words_told version at (entries.Rest by) h site = by_alone (tells version) 114 by h
  words_told version at (entries.Stuck by) h site = by_alone (tells version) 115 by h
  words_told version at (entries.End by how) h site = by_spaced (tells version) 101 by (end_text script how) h.0 ∙ ap (λ x. says.Entry (entries.End by x)) (how_told how h.1)

  -- ---- no line ends within

  end_free : OutsideMembers 10
  end_free = record {
    values = record { atoms = record { word = refl; minus = refl; at_sign = refl; dot = refl }; opens = refl; closes = refl; comma = refl; gives = refl; raises = refl };
    opens = refl;
    closes = refl;
    left = refl;
    right = refl;
  }

  ticket_clear : (n : ℕ) → IsNumber n → lacks 10 (decimal n) ≡ true
  ticket_clear n h = number_lacks 10 n refl (few_numbers n h)

  site_clear : (version : Version) (at : Option Site) (by ticket : ℕ) (event : Term) → HasSite version at (entries.Post by ticket event) → lacks 10 (site_parts version at) ≡ true
  site_clear first at by ticket event h = refl
  site_clear second None by ticket event h = absurd h
  site_clear second (Some s) by ticket event h = lacks_append 10 (decimal s.statement) (46 ∷ decimal s.pass) (ticket_clear s.statement h.0) (ticket_clear s.pass h.1)

  how_clear : (how : How) → IsHowOf script how → lacks 10 (end_text script how) ≡ true
  how_clear (ways.Done values) h = ap (lacks 10) (values_spaced script is values) ∙ lacks_others 10 32 (map (value_text script) values) refl (values_lack script is 10 values end_free.values h)
  how_clear (ways.Raised value) h = value_lacks script is 10 value end_free.values h
  how_clear ways.Stuck h = refl

  name_and : (t : ℕ) (tail : List ℕ) → t < length script.threads → lacks 10 tail ≡ true → lacks 10 (name_of script t ++ tail) ≡ true
  name_and t tail lt rest = lacks_append 10 (name_of script t) tail (clear_of_end t lt) rest

  text_clear : (version : Version) (at : Option Site) (e : Entry) → IsEntryOf script e → HasSite version at e → lacks 10 (entry_parts version script at e) ≡ true
  text_clear version at (entries.Post by ticket event) h site =
      name_and by (32 ∷ (decimal ticket ++ site_parts version at)) h.0 (lacks_append 10 (decimal ticket) (site_parts version at) (ticket_clear ticket h.1) (site_clear version at by ticket event site))
  text_clear version at (entries.Commit by cert outcomes) h site =
      let c = h.1 in
      let members = members_text_lacks script is 10 end_free refl cert.members outcomes c.members c.gets in
      let meets = meets_lack script is 10 cert.members cert.meets refl refl refl c.members c.meets in
      name_and by (58 ∷ 32 ∷ commit_text script cert outcomes) h.0
      (ap (lacks 10) (append_assoc (members_text script cert.members outcomes) (codes ";") (flat_map (meeting_text script cert.members) cert.meets))
      ∙ lacks_append 10 (members_text script cert.members outcomes) (59 ∷ flat_map (meeting_text script cert.members) cert.meets) members meets)
  text_clear version at (entries.Withdraw by ticket) h site = name_and by (32 ∷ decimal ticket) h.0 (ticket_clear ticket h.1)
  text_clear version at (entries.Take by ticket outcome) h site =
      name_and by (32 ∷ (decimal ticket ++ 32 ∷ outcome_text script outcome)) h.0
      (lacks_append 10 (decimal ticket) (32 ∷ outcome_text script outcome) (ticket_clear ticket h.1) (outcome_lacks script is 10 outcome end_free.values h.2))
  text_clear version at (entries.Rest by) h site = clear_of_end by h
  text_clear version at (entries.Stuck by) h site = clear_of_end by h
  text_clear version at (entries.End by how) h site = name_and by (32 ∷ end_text script how) h.0 (how_clear how h.1)

  -- ---- the line

  pub line_parted : (number text more : List ℕ) → number ++ codes " " ++ text ++ codes "\n" ++ more ≡ (number ++ 32 ∷ text) ++ 10 ∷ more
  line_parted number text more =
      ap (λ x. x ++ codes "\n" ++ more) (append_assoc number (codes " ") text) ∙ append_assoc (number ++ 32 ∷ text) (codes "\n") more

  pub line_is_told : (version : Version) (at : Option Site) (e : Entry) (number : ℕ) (rest more : List ℕ) → number < 2 ^ 64 → IsEntryOf script e → HasSite version at e
      → rest ≡ numbered number (entry_text version script at e) ++ more → said (called_of script) (tells version) (up_to 10 rest) ≡ told_as version at e
  unfolding said
  line_is_told version at e number rest more few h site is_rest =
      let text = entry_parts version script at e in
      let clear : lacks 10 (decimal number ++ 32 ∷ text) ≡ true = lacks_append 10 (decimal number) (32 ∷ text) (number_lacks 10 number refl few) (text_clear version at e h site) in
      let whole : rest ≡ (decimal number ++ 32 ∷ text) ++ 10 ∷ more =
      is_rest ∙ ap (λ t. numbered number t ++ more) (entry_parted version script at e) ∙ line_parted (decimal number) text more in
      let line : up_to 10 rest ≡ decimal number ++ 32 ∷ text = ap (up_to 10) whole ∙ front 10 (decimal number ++ 32 ∷ text) more clear in
      ap (λ x. said_words (called_of script) (tells version) (cut_behind 32 x)) line
      ∙ ap (said_words (called_of script) (tells version)) (back 32 (decimal number) text (number_lacks 32 number refl few))
      ∙ words_told version at e h site
