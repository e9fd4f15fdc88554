-- The text of a commit is told as the commit.
use Rattle.std.proofs.Common.{◌≡◌, ℕ, ◌<◌, Bool, true, false, List, [], ◌∷◌, ◌++◌, length, map, refl, sym, ap, subst, ◌∙◌, arith, append_assoc}
use Rattle.std.specs.Prelude.{◌==◌, codes}
use Rattle.std.specs.List.{AllByRecursion, flat_map, position}
use Rattle.std.specs.Fmt.{decimal}
use Rattle.std.proofs.lemmas.Bool.Decides.{nat_tests}
use Rattle.te_terms.specs.declared.event.Outcome.{Outcome}
use Rattle.te_cert.specs.declared.cert.Member.{Member}
use Rattle.te_cert.specs.declared.cert.Meeting.{Meeting}
use Rattle.te_cert.specs.declared.cert.Cert.{Cert}
use Rattle.te_terms.proofs.Lists.{all_at}
use Rattle.te_script.specs.Names.{is_word_byte}
use Rattle.te_script.specs.Scripts.{Program, IsScript}
use Rattle.te_report.specs.declared.saying.Said.TheVariants as says
use Rattle.te_history.specs.declared.entry.Entry.TheVariants as entries
use Rattle.te_report.specs.Readable.{IsOutcomeOf, IsMemberOf, IsNamed, IsMeetingOf, CommitIsReadable}
use Rattle.te_report.specs.Report.{name_of, outcome_text, letter, member_text, other_members, members_text, member_thread, member_name, meeting_text, commit_text}
use Rattle.te_report.specs.Sayings.{called_of, up_to, cut_behind, words, or_first, said_ticket, said_thread}
use Rattle.te_report.specs.Sayings.{said_outcome, said_choices, said_member, said_gets, said_place, said_meeting}
use Rattle.te_report.specs.Sayings.{said_members, said_outcomes, said_meets, said_commit}
use Rattle.te_report.proofs.Appends.{parts_7}
use Rattle.te_report.proofs.Cuts.{lacks, lacks_cons, lacks_append, front, back, IsWord, others, joined, words_joined, lacks_joined, lacks_others, back_joined}
use Rattle.te_report.proofs.NumbersTold.{ticket_told, number_lacks}
use Rattle.te_report.proofs.NamesTold.{position_is, first_found, name_lacks, name_some}
use Rattle.te_report.proofs.ValuesTold.{OutsideValues, thread_named, thread_is_told, outcome_is_told, outcome_lacks}

-- no byte of a member
pub record OutsideMembers (c : ℕ) : Type 0 where
  pub values : OutsideValues c
  pub opens : (91 == c) ≡ false
  pub closes : (93 == c) ≡ false
  pub left : (76 == c) ≡ false
  pub right : (82 == c) ≡ false

letters_lack : (c : ℕ) (choices : List Bool) → (76 == c) ≡ false → (82 == c) ≡ false → lacks c (flat_map letter choices) ≡ true
letters_lack c [] left right = refl
letters_lack c (true ∷ choices) left right = lacks_cons c 76 (flat_map letter choices) left (letters_lack c choices left right)
letters_lack c (false ∷ choices) left right = lacks_cons c 82 (flat_map letter choices) right (letters_lack c choices left right)

letters_told : (choices : List Bool) → said_choices (flat_map letter choices) ≡ choices
letters_told [] = refl
letters_told (true ∷ choices) = ap (λ r. true ∷ r) (letters_told choices)
letters_told (false ∷ choices) = ap (λ r. false ∷ r) (letters_told choices)

append_some : (xs ys : List ℕ) → 0 < length xs → 0 < length (xs ++ ys)
append_some [] ys some = absurd (omega arith)
append_some (x ∷ xs) ys some = omega arith

abbrev pub member_texts : Program → List Member → List Outcome → List (List ℕ)
member_texts script (m ∷ ms) (o ∷ os) = member_text script m o ∷ member_texts script ms os
member_texts script _ _ = []

abbrev pub met_text : Program → List Member → Meeting → List ℕ
met_text script members m = member_name script members m.sender ++ 62 ∷ member_name script members m.receiver

module _ (script : Program) (is : IsScript script) where
  abbrev tail_of : Member → Outcome → List ℕ
  tail_of m o = decimal m.ticket ++ 91 ∷ (flat_map letter m.choices ++ 93 ∷ outcome_text script o)

  number_lacks_sign : (c : ℕ) (m : Member) → is_word_byte c ≡ false → IsMemberOf script m → lacks c (decimal m.ticket) ≡ true
  number_lacks_sign c m sign h = let few = h.1 in number_lacks c m.ticket sign (omega arith)

  module _ (m : Member) (o : Outcome) (h : IsMemberOf script m) (g : IsOutcomeOf script o) where
    -- the text in parts
    parts : member_text script m o ≡ name_of script m.thread ++ 46 ∷ tail_of m o
    parts = parts_7 (name_of script m.thread) (codes ".") (decimal m.ticket) (codes "[") (flat_map letter m.choices) (codes "]") (outcome_text script o)

    name_front : up_to 46 (member_text script m o) ≡ name_of script m.thread
    name_front = ap (up_to 46) parts ∙ front 46 (name_of script m.thread) (tail_of m o) (name_lacks 46 (name_of script m.thread) refl (thread_named script is m.thread h.0))

    name_back : cut_behind 46 (member_text script m o) ≡ tail_of m o
    name_back = ap (cut_behind 46) parts ∙ back 46 (name_of script m.thread) (tail_of m o) (name_lacks 46 (name_of script m.thread) refl (thread_named script is m.thread h.0))

    ticket_front : up_to 91 (cut_behind 46 (member_text script m o)) ≡ decimal m.ticket
    ticket_front = ap (up_to 91) name_back ∙ front 91 (decimal m.ticket) (flat_map letter m.choices ++ 93 ∷ outcome_text script o) (number_lacks_sign 91 m refl h)

    ticket_back : cut_behind 91 (cut_behind 46 (member_text script m o)) ≡ flat_map letter m.choices ++ 93 ∷ outcome_text script o
    ticket_back = ap (cut_behind 91) name_back ∙ back 91 (decimal m.ticket) (flat_map letter m.choices ++ 93 ∷ outcome_text script o) (number_lacks_sign 91 m refl h)

    choices_front : up_to 93 (cut_behind 91 (cut_behind 46 (member_text script m o))) ≡ flat_map letter m.choices
    choices_front = ap (up_to 93) ticket_back ∙ front 93 (flat_map letter m.choices) (outcome_text script o) (letters_lack 93 m.choices refl refl)

    choices_back : cut_behind 93 (cut_behind 91 (cut_behind 46 (member_text script m o))) ≡ outcome_text script o
    choices_back = ap (cut_behind 93) ticket_back ∙ back 93 (flat_map letter m.choices) (outcome_text script o) (letters_lack 93 m.choices refl refl)

    member_is_told : said_member (called_of script) (member_text script m o) ≡ m
    member_is_told =
        let thread : said_thread (called_of script).threads (up_to 46 (member_text script m o)) ≡ m.thread =
        ap (said_thread (called_of script).threads) name_front ∙ thread_is_told script is m.thread h.0 in
        let ticket : said_ticket (up_to 91 (cut_behind 46 (member_text script m o))) ≡ m.ticket = ap said_ticket ticket_front ∙ ticket_told m.ticket h.1 in
        let choices : said_choices (up_to 93 (cut_behind 91 (cut_behind 46 (member_text script m o)))) ≡ m.choices = ap said_choices choices_front ∙ letters_told m.choices in
        λ i. record { thread = thread i; ticket = ticket i; choices = choices i }

    gets_is_told : said_gets (called_of script) (member_text script m o) ≡ o
    gets_is_told = ap (said_outcome (called_of script)) choices_back ∙ outcome_is_told script is o g

    member_lacks : (c : ℕ) → OutsideMembers c → lacks c (member_text script m o) ≡ true
    member_lacks c out =
        ap (lacks c) parts
        ∙ lacks_append c (name_of script m.thread) (46 ∷ tail_of m o) (name_lacks c (name_of script m.thread) out.values.atoms.word (thread_named script is m.thread h.0))
        (lacks_cons c 46 (tail_of m o) out.values.atoms.dot
        (lacks_append c (decimal m.ticket) (91 ∷ (flat_map letter m.choices ++ 93 ∷ outcome_text script o)) (number_lacks_sign c m out.values.atoms.word h)
        (lacks_cons c 91 (flat_map letter m.choices ++ 93 ∷ outcome_text script o) out.opens
        (lacks_append c (flat_map letter m.choices) (93 ∷ outcome_text script o) (letters_lack c m.choices out.left out.right)
        (lacks_cons c 93 (outcome_text script o) out.closes (outcome_lacks script is c o out.values g))))))

    member_some : 0 < length (member_text script m o)
    member_some = subst (λ x. 0 < length x) (sym parts) (append_some (name_of script m.thread) (46 ∷ tail_of m o) (name_some (name_of script m.thread) (thread_named script is m.thread h.0)))

  -- ---- all members

  space : OutsideMembers 32
  space = record {
    values = record { atoms = record { word = refl; minus = refl; at_sign = refl; dot = refl }; opens = refl; closes = refl; comma = refl; gives = refl; raises = refl };
    opens = refl;
    closes = refl;
    left = refl;
    right = refl;
  }

  others_joined : (ms : List Member) (os : List Outcome) → other_members script ms os ≡ others 32 (member_texts script ms os)
  others_joined [] os = refl
  others_joined (m ∷ ms) [] = refl
  others_joined (m ∷ ms) (o ∷ os) = ap (λ r. 32 ∷ (member_text script m o ++ r)) (others_joined ms os)

  members_joined : (ms : List Member) (os : List Outcome) → members_text script ms os ≡ joined 32 (member_texts script ms os)
  members_joined [] os = refl
  members_joined (m ∷ ms) [] = refl
  members_joined (m ∷ ms) (o ∷ os) = ap (λ r. member_text script m o ++ r) (others_joined ms os)

  members_are_words : (ms : List Member) (os : List Outcome) → AllByRecursion (IsMemberOf script) ms → AllByRecursion (IsOutcomeOf script) os → AllByRecursion (IsWord 32) (member_texts script ms os)
  members_are_words [] os hs gs = tt
  members_are_words (m ∷ ms) [] hs gs = tt
  members_are_words (m ∷ ms) (o ∷ os) hs gs = ((member_some m o hs.0 gs.0, member_lacks m o hs.0 gs.0 32 space), members_are_words ms os hs.1 gs.1)

  members_lack : (c : ℕ) → OutsideMembers c → (ms : List Member) (os : List Outcome) → AllByRecursion (IsMemberOf script) ms → AllByRecursion (IsOutcomeOf script) os
      → AllByRecursion (λ x. lacks c x ≡ true) (member_texts script ms os)
  members_lack c out [] os hs gs = tt
  members_lack c out (m ∷ ms) [] hs gs = tt
  members_lack c out (m ∷ ms) (o ∷ os) hs gs = (member_lacks m o hs.0 gs.0 c out, members_lack c out ms os hs.1 gs.1)

  pub members_text_lacks : (c : ℕ) → OutsideMembers c → (32 == c) ≡ false → (ms : List Member) (os : List Outcome) → AllByRecursion (IsMemberOf script) ms → AllByRecursion (IsOutcomeOf script) os
      → lacks c (members_text script ms os) ≡ true
  members_text_lacks c out no_space ms os hs gs = ap (lacks c) (members_joined ms os) ∙ lacks_joined c 32 (member_texts script ms os) no_space (members_lack c out ms os hs gs)

  each_member_told : (ms : List Member) (os : List Outcome) → length os ≡ length ms → AllByRecursion (IsMemberOf script) ms → AllByRecursion (IsOutcomeOf script) os
      → map (said_member (called_of script)) (member_texts script ms os) ≡ ms
  each_member_told [] [] n hs gs = refl
  each_member_told [] (o ∷ os) n hs gs = absurd (omega arith)
  each_member_told (m ∷ ms) [] n hs gs = absurd (omega arith)
  each_member_told (m ∷ ms) (o ∷ os) n hs gs =
      let this = member_is_told m o hs.0 gs.0 in
      let rest = each_member_told ms os (omega arith) hs.1 gs.1 in
      λ i. this i ∷ rest i

  each_gets_told : (ms : List Member) (os : List Outcome) → length os ≡ length ms → AllByRecursion (IsMemberOf script) ms → AllByRecursion (IsOutcomeOf script) os
      → map (said_gets (called_of script)) (member_texts script ms os) ≡ os
  each_gets_told [] [] n hs gs = refl
  each_gets_told [] (o ∷ os) n hs gs = absurd (omega arith)
  each_gets_told (m ∷ ms) [] n hs gs = absurd (omega arith)
  each_gets_told (m ∷ ms) (o ∷ os) n hs gs =
      let this = gets_is_told m o hs.0 gs.0 in
      let rest = each_gets_told ms os (omega arith) hs.1 gs.1 in
      λ i. this i ∷ rest i

  members_split : (ms : List Member) (os : List Outcome) → AllByRecursion (IsMemberOf script) ms → AllByRecursion (IsOutcomeOf script) os
      → words 32 (members_text script ms os) ≡ member_texts script ms os
  members_split ms os hs gs = ap (words 32) (members_joined ms os) ∙ words_joined 32 (member_texts script ms os) (members_are_words ms os hs gs)

  -- ---- meetings

  place_told : (ms : List Member) (place : ℕ) → AllByRecursion (IsMemberOf script) ms → IsNamed ms place → said_place ms (said_thread (called_of script).threads (member_name script ms place)) ≡ place
  unfolding said_place
  place_told ms place hs n =
      let m = n.member in
      let own : IsMemberOf script m = all_at (IsMemberOf script) ms place m hs n.there in
      let name : member_name script ms place ≡ name_of script m.thread = ap (λ o. name_of script (member_thread o)) n.there in
      let thread : said_thread (called_of script).threads (member_name script ms place) ≡ m.thread = ap (said_thread (called_of script).threads) name ∙ thread_is_told script is m.thread own.0 in
      let passes : (m.thread == m.thread) ≡ true = grind (arith, nat_tests) in
      let found = first_found (λ (x : Member). x.thread == m.thread) ms place m n.there passes (λ k y lt there. let other = n.first_one k y lt there in grind (arith, nat_tests, other)) in
      ap (λ t. or_first (position (λ (x : Member). x.thread == t) ms)) thread ∙ ap or_first (position_is (λ (x : Member). x.thread == m.thread) ms ∙ found)

  name_at : (ms : List Member) (place : ℕ) (c : ℕ) → is_word_byte c ≡ false → AllByRecursion (IsMemberOf script) ms → IsNamed ms place
      → (0 < length (member_name script ms place)) × (lacks c (member_name script ms place) ≡ true)
  name_at ms place c sign hs n =
      let m = n.member in
      let own : IsMemberOf script m = all_at (IsMemberOf script) ms place m hs n.there in
      let name : member_name script ms place ≡ name_of script m.thread = ap (λ o. name_of script (member_thread o)) n.there in
      let named = thread_named script is m.thread own.0 in
      (subst (λ x. 0 < length x) (sym name) (name_some (name_of script m.thread) named), ap (lacks c) name ∙ name_lacks c (name_of script m.thread) sign named)

  meeting_is_told : (ms : List Member) (m : Meeting) → AllByRecursion (IsMemberOf script) ms → IsMeetingOf ms m → said_meeting (called_of script) ms (met_text script ms m) ≡ m
  meeting_is_told ms m hs n =
      let clear = (name_at ms m.sender 62 refl hs n.0).1 in
      let first_end = ap (λ x. said_place ms (said_thread (called_of script).threads x))
      (front 62 (member_name script ms m.sender) (member_name script ms m.receiver) clear)
      ∙ place_told ms m.sender hs n.0 in
      let last_end = ap (λ x. said_place ms (said_thread (called_of script).threads x))
      (back 62 (member_name script ms m.sender) (member_name script ms m.receiver) clear)
      ∙ place_told ms m.receiver hs n.1 in
      λ i. record { sender = first_end i; receiver = last_end i }

  meeting_lacks : (c : ℕ) (ms : List Member) (m : Meeting) → is_word_byte c ≡ false → (62 == c) ≡ false
      → AllByRecursion (IsMemberOf script) ms → IsMeetingOf ms m → lacks c (met_text script ms m) ≡ true
  meeting_lacks c ms m sign other hs n =
      lacks_append c (member_name script ms m.sender) (62 ∷ member_name script ms m.receiver) (name_at ms m.sender c sign hs n.0).1
      (lacks_cons c 62 (member_name script ms m.receiver) other (name_at ms m.receiver c sign hs n.1).1)

  meets_joined : (ms : List Member) (xs : List Meeting) → flat_map (meeting_text script ms) xs ≡ others 32 (map (met_text script ms) xs)
  meets_joined ms [] = refl
  meets_joined ms (x ∷ xs) =
      ap (λ t. 32 ∷ (t ++ flat_map (meeting_text script ms) xs)) (append_assoc (member_name script ms x.sender) (codes ">") (member_name script ms x.receiver))
      ∙ ap (λ r. 32 ∷ (met_text script ms x ++ r)) (meets_joined ms xs)

  meets_are_words : (ms : List Member) (xs : List Meeting) → AllByRecursion (IsMemberOf script) ms → AllByRecursion (IsMeetingOf ms) xs → AllByRecursion (IsWord 32) (map (met_text script ms) xs)
  meets_are_words ms [] hs ns = tt
  meets_are_words ms (x ∷ xs) hs ns = (
    (append_some (member_name script ms x.sender) (62 ∷ member_name script ms x.receiver) (name_at ms x.sender 32 refl hs ns.0.0).0, meeting_lacks 32 ms x refl refl hs ns.0),
    meets_are_words ms xs hs ns.1,
  )

  pub meets_lack : (c : ℕ) (ms : List Member) (xs : List Meeting) → is_word_byte c ≡ false → (62 == c) ≡ false
      → (32 == c) ≡ false → AllByRecursion (IsMemberOf script) ms → AllByRecursion (IsMeetingOf ms) xs
      → lacks c (flat_map (meeting_text script ms) xs) ≡ true
  meets_lack c ms xs sign other no_space hs ns = ap (lacks c) (meets_joined ms xs) ∙ lacks_others c 32 (map (met_text script ms) xs) no_space (each xs ns)
    where
      each : (xs : List Meeting) → AllByRecursion (IsMeetingOf ms) xs → AllByRecursion (λ x. lacks c x ≡ true) (map (met_text script ms) xs)
      each [] ns = tt
      each (x ∷ xs) ns = (meeting_lacks c ms x sign other hs ns.0, each xs ns.1)

  each_meeting_told : (ms : List Member) (xs : List Meeting) → AllByRecursion (IsMemberOf script) ms
      → AllByRecursion (IsMeetingOf ms) xs → map (said_meeting (called_of script) ms) (map (met_text script ms) xs) ≡ xs
  each_meeting_told ms [] hs ns = refl
  each_meeting_told ms (x ∷ xs) hs ns = let this = meeting_is_told ms x hs ns.0 in let rest = each_meeting_told ms xs hs ns.1 in λ i. this i ∷ rest i

  -- where nobody is a member, nobody meets
  meets_are_told : (ms : List Member) (xs : List Meeting) → AllByRecursion (IsMemberOf script) ms → AllByRecursion (IsMeetingOf ms) xs
      → said_meets (called_of script) ms (cut_behind 32 (flat_map (meeting_text script ms) xs)) ≡ xs
  meets_are_told [] [] hs ns = refl
  meets_are_told [] (x ∷ xs) hs ns = absurd (let there = ns.0.0.there in cc)
  meets_are_told (m ∷ ms) xs hs ns =
      ap (λ text. map (said_meeting (called_of script) (m ∷ ms)) (words 32 (cut_behind 32 text))) (meets_joined (m ∷ ms) xs)
      ∙ ap (λ text. map (said_meeting (called_of script) (m ∷ ms)) (words 32 text)) (back_joined 32 [] (map (met_text script (m ∷ ms)) xs) refl)
      ∙ ap (map (said_meeting (called_of script) (m ∷ ms))) (words_joined 32 (map (met_text script (m ∷ ms)) xs) (meets_are_words (m ∷ ms) xs hs ns))
      ∙ each_meeting_told (m ∷ ms) xs hs ns

  semicolon : OutsideMembers 59
  semicolon = record {
    values = record { atoms = record { word = refl; minus = refl; at_sign = refl; dot = refl }; opens = refl; closes = refl; comma = refl; gives = refl; raises = refl };
    opens = refl;
    closes = refl;
    left = refl;
    right = refl;
  }

  pub commit_is_told : (by : ℕ) (cert : Cert) (outcomes : List Outcome) → CommitIsReadable script cert outcomes
      → said_commit (called_of script) by (up_to 59 (commit_text script cert outcomes))
      (cut_behind 32 (cut_behind 59 (commit_text script cert outcomes))) ≡ says.Entry
      (entries.Commit by cert outcomes)
  commit_is_told by cert outcomes h =
      let ms = cert.members in
      let meets_text = flat_map (meeting_text script ms) cert.meets in
      let clear = members_text_lacks 59 semicolon refl ms outcomes h.members h.gets in
      let parts : commit_text script cert outcomes ≡ members_text script ms outcomes ++ 59 ∷ meets_text = append_assoc (members_text script ms outcomes) (codes ";") meets_text in
      let first_part : up_to 59 (commit_text script cert outcomes) ≡ members_text script ms outcomes = ap (up_to 59) parts ∙ front 59 (members_text script ms outcomes) meets_text clear in
      let last_part : cut_behind 59 (commit_text script cert outcomes) ≡ meets_text = ap (cut_behind 59) parts ∙ back 59 (members_text script ms outcomes) meets_text clear in
      let split = ap (words 32) first_part ∙ members_split ms outcomes h.members h.gets in
      let members : said_members (called_of script) (up_to 59 (commit_text script cert outcomes)) ≡ ms =
      ap (map (said_member (called_of script))) split ∙ each_member_told ms outcomes h.as_many h.members h.gets in
      let gets : said_outcomes (called_of script) (up_to 59 (commit_text script cert outcomes)) ≡ outcomes =
      ap (map (said_gets (called_of script))) split ∙ each_gets_told ms outcomes h.as_many h.members h.gets in
      let meets : said_meets (called_of script) (said_members (called_of script)
      (up_to 59 (commit_text script cert outcomes))) (cut_behind 32
      (cut_behind 59 (commit_text script cert outcomes))) ≡ cert.meets =
      ap (λ x. said_meets (called_of script) x (cut_behind 32 (cut_behind 59 (commit_text script cert outcomes)))) members
      ∙ ap (λ x. said_meets (called_of script) ms (cut_behind 32 x)) last_part ∙ meets_are_told ms cert.meets h.members h.meets in
      λ i. says.Entry (entries.Commit by (record { members = members i; meets = meets i }) (gets i))
