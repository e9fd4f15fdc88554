-- The text of a value is told as the value, and keeps clear of the signs that stand round it.
use Rattle.std.proofs.Common.{◌≡◌, inl, inr, ℕ, ◌-◌, ◌/◌, ◌%◌, ◌^◌, ◌<◌, true, false, nat_lt, List, [], ◌∷◌, ◌++◌, length, map, refl, sym, ap, subst, ◌∙◌, arith}
use Rattle.std.specs.Prelude.{◌==◌, nat_le, codes, Option, Some}
use Rattle.std.specs.List.{AllByRecursion, flat_map}
use Rattle.std.specs.Fmt.{decimal, signed_decimal}
use Rattle.std.proofs.lemmas.Bool.Decides.{nat_tests}
use Rattle.te_terms.specs.declared.value.Atom.{Atom}
use Rattle.te_terms.specs.declared.value.Atom.TheVariants.{Int, Chan}
use Rattle.te_terms.specs.declared.event.Outcome.{Outcome}
use Rattle.te_terms.specs.declared.event.Outcome.TheVariants.{Gives, Raises}
use Rattle.te_terms.specs.Values.{fresh_channel}
use Rattle.te_terms.specs.Limits.{most_atoms}
use Rattle.te_terms.proofs.Lists.{all_at}
use Rattle.te_script.specs.Names.{is_word_byte, IsName, IsIdentifier}
use Rattle.te_script.specs.Scripts.{Program, HasNames, IsScript}
use Rattle.te_report.specs.ScriptChannels.{IsChannelOf}
use Rattle.te_report.specs.Readable.{IsAtomOf, IsValueOf, IsOutcomeOf}
use Rattle.te_report.specs.Report.{thread_name, name_of, channel_name, channel_text, atom_text, other_atoms, atoms_text, value_text, outcome_text, spaced_value}
use Rattle.te_report.specs.Sayings.{called_of, up_to, cut_behind, words, said_number, said_ticket, said_thread}
use Rattle.te_report.specs.Sayings.{said_integer, said_channel, atom_of, said_atom, few_atoms, said_value, said_outcome}
use Rattle.te_report.specs.Sayings.{said_values}
use Rattle.te_report.proofs.Followed.{some_thread}
use Rattle.te_report.proofs.Appends.{parts_5}
use Rattle.te_report.proofs.Cuts.{lacks, lacks_cons, lacks_append, front, back, no_back, IsWord, others, joined, words_joined, lacks_joined}
use Rattle.te_report.proofs.NumbersTold.{NoAt, number_told, ticket_told, number_lacks, integer_told, integer_lacks, integer_begins, integer_some}
use Rattle.te_report.proofs.NamesTold.{thread_told, channel_there, channel_told, name_lacks}

-- no byte of an atom
pub record Outside (c : ℕ) : Type 0 where
  pub word : is_word_byte c ≡ false
  pub minus : (45 == c) ≡ false
  pub at_sign : (64 == c) ≡ false
  pub dot : (46 == c) ≡ false

-- no byte of a value or an outcome
pub record OutsideValues (c : ℕ) : Type 0 where
  pub atoms : Outside c
  pub opens : (40 == c) ≡ false
  pub closes : (41 == c) ≡ false
  pub comma : (44 == c) ≡ false
  pub gives : (61 == c) ≡ false
  pub raises : (33 == c) ≡ false

-- a fresh channel's text
fresh_spelled : (script : Program) (t k n : ℕ) → t < 64 → n < 16
    → channel_text script (fresh_channel t k n) ≡ name_of script t ++ 46 ∷ (decimal (k % 2 ^ 18) ++ 46 ∷ decimal n)
fresh_spelled script t k n lt few =
    let high : nat_lt (fresh_channel t k n) (2 ^ 30) ≡ false = grind (arith, nat_tests) in
    let thread : (fresh_channel t k n - 2 ^ 30) / 2 ^ 22 ≡ t = omega arith in
    let ticket : (fresh_channel t k n - 2 ^ 30) / 16 % 2 ^ 18 ≡ k % 2 ^ 18 = omega arith in
    let count : (fresh_channel t k n - 2 ^ 30) % 16 ≡ n = omega arith in
    rw high (rw (thread, ticket, count) (parts_5 (name_of script t) (codes ".") (decimal (k % 2 ^ 18)) (codes ".") (decimal n)))

module _ (script : Program) (is : IsScript script) where
  pub thread_named : (t : ℕ) → t < length script.threads → IsIdentifier (name_of script t)
  thread_named t lt =
      let x = some_thread script.threads t lt in
      let h = all_at HasNames script.threads t x.0 is.threads x.1 in
      subst (λ o. IsIdentifier (thread_name o)) (sym x.1) h.name.identifier

  pub thread_is_told : (t : ℕ) → t < length script.threads → said_thread (called_of script).threads (name_of script t) ≡ t
  thread_is_told t lt = thread_told script t is.program.names lt

  channel_named : (c : ℕ) → c < length script.channels → IsIdentifier (channel_name script c)
  channel_named c lt = let h = all_at IsName script.channels c (channel_name script c) is.channels (channel_there script.channels c lt) in h.identifier

  channel_is_name : (c : ℕ) → c < length script.channels → channel_text script c ≡ channel_name script c
  channel_is_name c lt =
      let few = is.program.channels in
      let low : nat_lt c (2 ^ 30) ≡ true = grind (arith, nat_tests) in
      rw low refl

  few_threads : (t : ℕ) → t < length script.threads → t < 64
  few_threads t lt = let few = is.program.threads in omega arith

  -- ---- channels

  channel_lacks : (c d : ℕ) → Outside c → IsChannelOf script d → lacks c (channel_text script d) ≡ true
  channel_lacks c d o (inl low) = ap (lacks c) (channel_is_name d low) ∙ name_lacks c (channel_name script d) o.word (channel_named d low)
  channel_lacks c d o (inr f) =
      let text = ap (channel_text script) f.number ∙ fresh_spelled script f.thread f.ticket f.count (few_threads f.thread f.is_thread) f.few in
      let ticket : f.ticket % 2 ^ 18 < 2 ^ 64 = omega arith in
      let few = f.few in
      let count : f.count < 2 ^ 64 = omega arith in
      ap (lacks c) text
      ∙ lacks_append c (name_of script f.thread) (46 ∷ (decimal (f.ticket % 2 ^ 18) ++ 46 ∷ decimal f.count)) (name_lacks c (name_of script f.thread) o.word (thread_named f.thread f.is_thread))
      (lacks_cons c 46 (decimal (f.ticket % 2 ^ 18) ++ 46 ∷ decimal f.count) o.dot
      (lacks_append c (decimal (f.ticket % 2 ^ 18)) (46 ∷ decimal f.count) (number_lacks c (f.ticket % 2 ^ 18) o.word ticket)
      (lacks_cons c 46 (decimal f.count) o.dot (number_lacks c f.count o.word count))))

  fresh_said : (name tail : List ℕ) → 0 < length tail
      → said_channel (called_of script) name tail ≡ Some (fresh_channel (said_thread (called_of script).threads (up_to 46 name)) (said_ticket (up_to 46 tail)) (said_number (cut_behind 46 tail) % 16))
  fresh_said name [] some = absurd (omega arith)
  fresh_said name (b ∷ bs) some = refl

  fresh_told : (t k n : ℕ) → t < length script.threads → n < 16 → (text : List ℕ) → text ≡ name_of script t ++ 46 ∷ (decimal (k % 2 ^ 18) ++ 46 ∷ decimal n)
      → said_channel (called_of script) text (cut_behind 46 text) ≡ Some (fresh_channel t k n)
  fresh_told t k n lt few text e =
      let name = name_lacks 46 (name_of script t) refl (thread_named t lt) in
      let small : k % 2 ^ 18 < 2 ^ 32 = omega arith in
      let wide : k % 2 ^ 18 < 2 ^ 64 = omega arith in
      let number = number_lacks 46 (k % 2 ^ 18) refl wide in
      let tail : cut_behind 46 text ≡ decimal (k % 2 ^ 18) ++ 46 ∷ decimal n = ap (cut_behind 46) e ∙ back 46 (name_of script t) (decimal (k % 2 ^ 18) ++ 46 ∷ decimal n) name in
      let some : 0 < length (cut_behind 46 text) = rw tail (omega (arith, length_tail (decimal (k % 2 ^ 18)) (decimal n))) in
      let thread : said_thread (called_of script).threads (up_to 46 text) ≡ t =
      ap (said_thread (called_of script).threads) (ap (up_to 46) e ∙ front 46 (name_of script t)
      (decimal (k % 2 ^ 18) ++ 46 ∷ decimal n) name) ∙ thread_is_told t lt in
      let ticket : said_ticket (up_to 46 (cut_behind 46 text)) ≡ k % 2 ^ 18 =
      ap said_ticket (ap (up_to 46) tail ∙ front 46 (decimal (k % 2 ^ 18)) (decimal n) number) ∙ ticket_told
      (k % 2 ^ 18) small in
      let count : said_number (cut_behind 46 (cut_behind 46 text)) ≡ n = ap said_number (ap (cut_behind 46) tail ∙ back 46 (decimal (k % 2 ^ 18)) (decimal n) number) ∙ number_told n (omega arith) in
      let same : fresh_channel t (k % 2 ^ 18) (n % 16) ≡ fresh_channel t k n = omega arith in
      fresh_said text (cut_behind 46 text) some
      ∙ ap (λ x. Some (fresh_channel x (said_ticket (up_to 46 (cut_behind 46 text))) (said_number (cut_behind 46 (cut_behind 46 text)) % 16))) thread
      ∙ ap (λ x. Some (fresh_channel t x (said_number (cut_behind 46 (cut_behind 46 text)) % 16))) ticket
      ∙ ap (λ x. Some (fresh_channel t (k % 2 ^ 18) (x % 16))) count
      ∙ ap Some same
    where
      length_tail : (xs ys : List ℕ) → 0 < length (xs ++ 46 ∷ ys)
      length_tail [] ys = omega arith
      length_tail (x ∷ xs) ys = omega arith

  channel_is_told : (d : ℕ) → IsChannelOf script d → said_channel (called_of script) (channel_text script d) (cut_behind 46 (channel_text script d)) ≡ Some d
  channel_is_told d (inl low) =
      let text = channel_is_name d low in
      let none : cut_behind 46 (channel_text script d) ≡ [] = ap (cut_behind 46) text ∙ no_back 46 (channel_name script d) (name_lacks 46 (channel_name script d) refl (channel_named d low)) in
      ap (said_channel (called_of script) (channel_text script d)) none ∙ ap (said_plain) text ∙ channel_told script d is.program.channel_names low
    where
      said_plain : List ℕ → Option ℕ
      said_plain name = said_channel (called_of script) name []
  channel_is_told d (inr f) =
      fresh_told f.thread f.ticket f.count f.is_thread f.few (channel_text script d)
      (ap (channel_text script) f.number ∙ fresh_spelled script f.thread f.ticket f.count (few_threads f.thread f.is_thread) f.few)
      ∙ ap Some (sym f.number)

  -- ---- atoms

  pub atom_lacks : (c : ℕ) (a : Atom) → Outside c → IsAtomOf script a → lacks c (atom_text script a) ≡ true
  atom_lacks c (Int z) o h = integer_lacks c z o.word o.minus h
  atom_lacks c (Chan d) o h = lacks_cons c 64 (channel_text script d) o.at_sign (channel_lacks c d o h)

  atom_some : (a : Atom) → IsAtomOf script a → 0 < length (atom_text script a)
  atom_some (Int z) h = integer_some z h
  atom_some (Chan d) h = omega arith

  integer_said : (text : List ℕ) → NoAt text → said_atom (called_of script) text ≡ Int (said_integer text)
  integer_said [] clear = absurd clear
  integer_said (b ∷ bs) clear = rw clear refl

  atom_is_told : (a : Atom) → IsAtomOf script a → said_atom (called_of script) (atom_text script a) ≡ a
  atom_is_told (Int z) h = integer_said (signed_decimal z) (integer_begins z h) ∙ ap Int (integer_told z h)
  atom_is_told (Chan d) h = ap atom_of (channel_is_told d h)

  -- ---- values

  others_same : (v : List Atom) → other_atoms script v ≡ others 44 (map (atom_text script) v)
  others_same [] = refl
  others_same (a ∷ v) = ap (λ r. 44 ∷ (atom_text script a ++ r)) (others_same v)

  atoms_joined : (v : List Atom) → atoms_text script v ≡ joined 44 (map (atom_text script) v)
  atoms_joined [] = refl
  atoms_joined (a ∷ v) = ap (λ r. atom_text script a ++ r) (others_same v)

  atoms_are_words : (v : List Atom) → AllByRecursion (IsAtomOf script) v → AllByRecursion (IsWord 44) (map (atom_text script) v)
  atoms_are_words [] all = tt
  atoms_are_words (a ∷ v) all = ((atom_some a all.0, atom_lacks 44 a (record { word = refl; minus = refl; at_sign = refl; dot = refl }) all.0), atoms_are_words v all.1)

  atoms_lack : (c : ℕ) (v : List Atom) → Outside c → AllByRecursion (IsAtomOf script) v → AllByRecursion (λ x. lacks c x ≡ true) (map (atom_text script) v)
  atoms_lack c [] o all = tt
  atoms_lack c (a ∷ v) o all = (atom_lacks c a o all.0, atoms_lack c v o all.1)

  atoms_are_told : (v : List Atom) → AllByRecursion (IsAtomOf script) v → map (said_atom (called_of script)) (map (atom_text script) v) ≡ v
  atoms_are_told [] all = refl
  atoms_are_told (a ∷ v) all = let first_one = atom_is_told a all.0 in let rest = atoms_are_told v all.1 in λ i. first_one i ∷ rest i

  atoms_text_lacks : (c : ℕ) (v : List Atom) → Outside c → (44 == c) ≡ false → AllByRecursion (IsAtomOf script) v → lacks c (atoms_text script v) ≡ true
  atoms_text_lacks c v o comma all = ap (lacks c) (atoms_joined v) ∙ lacks_joined c 44 (map (atom_text script) v) comma (atoms_lack c v o all)

  pub value_is_told : (v : List Atom) → IsValueOf script v → said_value (called_of script) (value_text script v) ≡ v
  unfolding said_value
  value_is_told v h =
      let few = h.few in
      let some_few : nat_le (length v) most_atoms ≡ true = grind (arith, nat_tests) in
      let closes = atoms_text_lacks 41 v (record { word = refl; minus = refl; at_sign = refl; dot = refl }) refl h.atoms in
      let inner : up_to 41 (atoms_text script v ++ 41 ∷ []) ≡ joined 44 (map (atom_text script) v) = front 41 (atoms_text script v) [] closes ∙ atoms_joined v in
      let parts : words 44 (up_to 41 (atoms_text script v ++ 41 ∷ [])) ≡ map (atom_text script) v = ap (words 44) inner ∙ words_joined 44 (map (atom_text script) v) (atoms_are_words v h.atoms) in
      ap (λ ws. few_atoms (map (said_atom (called_of script)) ws)) parts ∙ ap few_atoms (atoms_are_told v h.atoms) ∙ rw some_few refl

  pub value_lacks : (c : ℕ) (v : List Atom) → OutsideValues c → IsValueOf script v → lacks c (value_text script v) ≡ true
  value_lacks c v o h =
      lacks_cons c 40 (atoms_text script v ++ 41 ∷ []) o.opens
      (lacks_append c (atoms_text script v) (41 ∷ []) (atoms_text_lacks c v o.atoms o.comma h.atoms) (lacks_cons c 41 [] o.closes refl))

  pub outcome_is_told : (o : Outcome) → IsOutcomeOf script o → said_outcome (called_of script) (outcome_text script o) ≡ o
  outcome_is_told (Gives v) h = ap Gives (value_is_told v h)
  outcome_is_told (Raises v) h = ap Raises (value_is_told v h)

  pub outcome_lacks : (c : ℕ) (x : Outcome) → OutsideValues c → IsOutcomeOf script x → lacks c (outcome_text script x) ≡ true
  outcome_lacks c (Gives v) o h = lacks_cons c 61 (value_text script v) o.gives (value_lacks c v o h)
  outcome_lacks c (Raises v) o h = lacks_cons c 33 (value_text script v) o.raises (value_lacks c v o h)

  -- ---- values behind spaces

  pub space_free : OutsideValues 32
  space_free = record { atoms = record { word = refl; minus = refl; at_sign = refl; dot = refl }; opens = refl; closes = refl; comma = refl; gives = refl; raises = refl }

  pub values_spaced : (vs : List (List Atom)) → flat_map (spaced_value script) vs ≡ others 32 (map (value_text script) vs)
  values_spaced [] = refl
  values_spaced (v ∷ vs) = ap (λ r. 32 ∷ (value_text script v ++ r)) (values_spaced vs)

  values_are_words : (vs : List (List Atom)) → AllByRecursion (IsValueOf script) vs → AllByRecursion (IsWord 32) (map (value_text script) vs)
  values_are_words [] all = tt
  values_are_words (v ∷ vs) all = ((omega arith, value_lacks 32 v space_free all.0), values_are_words vs all.1)

  pub values_lack : (c : ℕ) (vs : List (List Atom)) → OutsideValues c → AllByRecursion (IsValueOf script) vs → AllByRecursion (λ x. lacks c x ≡ true) (map (value_text script) vs)
  values_lack c [] o all = tt
  values_lack c (v ∷ vs) o all = (value_lacks c v o all.0, values_lack c vs o all.1)

  each_value_told : (vs : List (List Atom)) → AllByRecursion (IsValueOf script) vs → map (said_value (called_of script)) (map (value_text script) vs) ≡ vs
  each_value_told [] all = refl
  each_value_told (v ∷ vs) all = let first_one = value_is_told v all.0 in let rest = each_value_told vs all.1 in λ i. first_one i ∷ rest i

  pub values_are_told : (vs : List (List Atom)) → AllByRecursion (IsValueOf script) vs → said_values (called_of script) (joined 32 (map (value_text script) vs)) ≡ vs
  values_are_told vs all = ap (map (said_value (called_of script))) (words_joined 32 (map (value_text script) vs) (values_are_words vs all)) ∙ each_value_told vs all
