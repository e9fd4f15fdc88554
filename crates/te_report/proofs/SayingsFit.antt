-- What a line says can be spelled.
use Rattle.std.proofs.Common.{◌≡◌, inl, inr, ℕ, zero, suc, ◌%◌, ◌^◌, ◌<◌, Bool, true, false, nat_lt, ℤ, pos, List, [], ◌∷◌, length, map, refl, sym, ap, subst, ◌∙◌, arith}
use Rattle.std.specs.Prelude.{◌==◌, ◌-ℤ◌, nat_le, Option, Some, None, slice_get, if◌then◌else◌}
use Rattle.std.specs.Option.{option_map}
use Rattle.std.specs.List.{AllByRecursion}
use Rattle.std.specs.Str.{bytes_eq}
use Rattle.std.proofs.lemmas.Bool.Decides.{nat_tests}
use Rattle.te_terms.specs.declared.value.Atom.{Atom}
use Rattle.te_terms.specs.declared.value.Atom.TheVariants.{Int}
use Rattle.te_terms.specs.declared.event.Outcome.TheVariants.{Gives, Raises}
use Rattle.te_terms.specs.Values.{fits_i64, fresh_channel}
use Rattle.te_terms.specs.Limits.{most_atoms}
use Rattle.te_cert.specs.declared.cert.Member.{Member}
use Rattle.te_script.specs.Scripts.{Thread, Program, thread_names, IsScript}
use Rattle.te_history.specs.declared.status.How.TheVariants as ways
use Rattle.te_history.specs.declared.entry.Entry.{Entry}
use Rattle.te_history.specs.declared.entry.Entry.TheVariants as entries
use Rattle.te_report.specs.declared.saying.Said.{Said}
use Rattle.te_report.specs.declared.saying.Said.TheVariants as says
use Rattle.te_report.specs.ScriptChannels.{IsChannelOf}
use Rattle.te_report.specs.Readable.{IsAtomOf, IsValueOf, IsOutcomeOf, IsHowOf, IsNumber, IsScriptThread, IsMemberOf, IsNamed, IsMeetingOf, IsEntryOf, HasSite}
use Rattle.te_report.specs.Report.{Version, entry_text}
use Rattle.te_report.specs.FirstPlaces.{place_of_name}
use Rattle.te_report.specs.Sayings.{called_of, up_to, cut_behind, words, below, said_number, said_ticket}
use Rattle.te_report.specs.Sayings.{fitting_number, or_zero, said_integer, decimal_value, or_first}
use Rattle.te_report.specs.Sayings.{said_thread, said_channel, atom_of, said_atom, few_atoms, said_value, said_outcome}
use Rattle.te_report.specs.Sayings.{said_member, said_gets, said_place, said_meeting, said_members, said_outcomes}
use Rattle.te_report.specs.Sayings.{said_meets, said_values, said_how, said_site, said_commit, said_entry, said}
use Rattle.te_report.specs.Sayings.{entry_in, site_in, said_text, version_of, first_byte}
use Rattle.te_report.specs.Judging.{IsUnposted, HasUnposted}
use Rattle.te_report.proofs.NamesTold.{place_by, position_is, found_below}

-- it can be spelled in the version, and its text is the entry's
pub record FitsIn (version : Version) (script : Program) (s : Said) : Type 0 where
  pub entry : IsEntryOf script (entry_in s)
  pub site : HasSite version (site_in s) (entry_in s)
  pub text : said_text script s ≡ entry_text version script (site_in s) (entry_in s)
  pub unposted : HasUnposted s

below_lt : (bound n : ℕ) → 0 < bound → below bound n < bound
below_lt bound n some = by (nat_lt n bound) refl where
  by : (b : Bool) → nat_lt n bound ≡ b → (if b then n else 0) < bound
  by true e = grind (arith, nat_tests)
  by false e = some

ticket_fits : (ds : List ℕ) → IsNumber (said_ticket ds)
ticket_fits ds = below_lt (2 ^ 32) (said_number ds) (omega arith)

fitting_fits : (z : ℤ) → fits_i64 (or_zero (fitting_number z)) ≡ true
fitting_fits z = by (fits_i64 z) refl where
  by : (b : Bool) → fits_i64 z ≡ b → fits_i64 (or_zero (if b then Some z else None)) ≡ true
  by true e = e
  by false e = refl

integer_fits : (bytes : List ℕ) → fits_i64 (said_integer bytes) ≡ true
unfolding said_integer
integer_fits [] = refl
integer_fits (b ∷ bs) = fitting_fits (if b == 45 then pos 0 -ℤ pos (decimal_value 0 bs) else pos (decimal_value 0 (b ∷ bs)))

-- what is found passes the test, and nothing before it does
pub record IsFirst {A : Type 0} (p : A → Bool) (xs : List A) (i : ℕ) : Type 0 where
  pub item : A
  pub there : slice_get xs i ≡ Some item
  pub passes : p item ≡ true
  pub before : (k : ℕ) (y : A) → k < i → slice_get xs k ≡ Some y → p y ≡ false

first_is : {A : Type 0} (p : A → Bool) (xs : List A) (i : ℕ) → place_by p xs ≡ Some i → IsFirst p xs i
first_is p [] i e = absurd cc
first_is {A = A} p (x ∷ xs) i e = by (p x) refl (place_by p xs) (first_is p xs) e where
  later : (b : Bool) → p x ≡ b → b ≡ false → (j : ℕ) → IsFirst p xs j → IsFirst p (x ∷ xs) (suc j)
  later b is fails j f = record { item = f.item; there = f.there; passes = f.passes; before = at }
    where
      at : (k : ℕ) (y : A) → k < suc j → slice_get (x ∷ xs) k ≡ Some y → p y ≡ false
      at zero y lt there = let same : x ≡ y = cc in ap p (sym same) ∙ is ∙ fails
      at (suc k) y lt there = f.before k y (omega arith) there

  by : (b : Bool) → p x ≡ b → (o : Option ℕ) → ((j : ℕ) → o ≡ Some j → IsFirst p xs j) → (if b then Some 0 else option_map suc o) ≡ Some i → IsFirst p (x ∷ xs) i
  by true is o rest e =
      let z : 0 ≡ i = cc in
      subst (λ n. IsFirst p (x ∷ xs) n) z (record { item = x; there = refl; passes = is; before = λ k y lt there. absurd (omega arith) })
  by false is None rest e = absurd cc
  by false is (Some j) rest e = let z : suc j ≡ i = cc in subst (λ n. IsFirst p (x ∷ xs) n) z (later false is refl j (rest j refl))

pub length_names : (threads : List Thread) → length (thread_names threads) ≡ length threads
length_names [] = refl
length_names (x ∷ xs) = ap suc (length_names xs)

name_below : (names : List (List ℕ)) (n : List ℕ) (i : ℕ) → place_of_name names n ≡ Some i → i < length names
unfolding place_of_name
name_below names n i e = found_below (λ x. bytes_eq x n) names i (sym (position_is (λ x. bytes_eq x n) names) ∙ e)

module _ (script : Program) (is : IsScript script) where
  first_fits : (o : Option ℕ) → ((i : ℕ) → o ≡ Some i → i < length script.threads) → or_first o < length script.threads
  first_fits (Some i) low = low i refl
  first_fits None low = is.program.some_thread

  thread_fits : (name : List ℕ) → IsScriptThread script (said_thread (called_of script).threads name)
  thread_fits name = first_fits (place_of_name (called_of script).threads name) (λ i e. let low = name_below (called_of script).threads name i e in omega (arith, length_names script.threads))

  channel_fits : (name tail : List ℕ) (c : ℕ) → said_channel (called_of script) name tail ≡ Some c → IsChannelOf script c
  channel_fits name [] c e = inl (name_below script.channels name c e)
  channel_fits name (b ∷ bs) c e = inr (record {
    thread = said_thread (called_of script).threads (up_to 46 name);
    ticket = said_ticket (up_to 46 (b ∷ bs));
    count = said_number (cut_behind 46 (b ∷ bs)) % 16;
    is_thread = thread_fits (up_to 46 name);
    few = omega arith;
    number = let same : fresh_channel (said_thread (called_of script).threads (up_to 46 name)) (said_ticket (up_to 46 (b ∷ bs))) (said_number (cut_behind 46 (b ∷ bs)) % 16) ≡ c = cc in sym same;
  })

  atom_of_fits : (o : Option ℕ) → ((c : ℕ) → o ≡ Some c → IsChannelOf script c) → IsAtomOf script (atom_of o)
  atom_of_fits (Some c) h = h c refl
  atom_of_fits None h = refl

  atom_fits : (bytes : List ℕ) → IsAtomOf script (said_atom (called_of script) bytes)
  atom_fits [] = refl
  atom_fits (b ∷ bs) = by (b == 64) where
    by : (t : Bool) → IsAtomOf script (if t then atom_of (said_channel (called_of script) bs (cut_behind 46 bs)) else Int (said_integer (b ∷ bs)))
    by true = atom_of_fits (said_channel (called_of script) bs (cut_behind 46 bs)) (channel_fits bs (cut_behind 46 bs))
    by false = integer_fits (b ∷ bs)

  all_map : {A B : Type 0} (P : B → Type 0) (f : A → B) → ((x : A) → P (f x)) → (xs : List A) → AllByRecursion P (map f xs)
  all_map P f h [] = tt
  all_map P f h (x ∷ xs) = (h x, all_map P f h xs)

  few_fit : (v : List Atom) → AllByRecursion (IsAtomOf script) v → IsValueOf script (few_atoms v)
  few_fit v h = by (nat_le (length v) most_atoms) refl where
    by : (b : Bool) → nat_le (length v) most_atoms ≡ b → IsValueOf script (if b then v else [])
    by true e = record { few = grind (arith, nat_tests); atoms = h }
    by false e = record { few = omega arith; atoms = tt }

  value_fits : (bytes : List ℕ) → IsValueOf script (said_value (called_of script) bytes)
  unfolding said_value
  value_fits bytes = few_fit _ (all_map (IsAtomOf script) (said_atom (called_of script)) atom_fits (words 44 (up_to 41 (cut_behind 40 bytes))))

  outcome_fits : (bytes : List ℕ) → IsOutcomeOf script (said_outcome (called_of script) bytes)
  outcome_fits [] = record { few = omega arith; atoms = tt }
  outcome_fits (b ∷ bs) = by (b == 33) where
    by : (t : Bool) → IsOutcomeOf script (if t then Raises (said_value (called_of script) bs) else Gives (said_value (called_of script) bs))
    by true = value_fits bs
    by false = value_fits bs

  member_fits : (bytes : List ℕ) → IsMemberOf script (said_member (called_of script) bytes)
  member_fits bytes = (thread_fits (up_to 46 bytes), ticket_fits (up_to 91 (cut_behind 46 bytes)))

  -- a place among members that are there
  place_fits : (m : Member) (ms : List Member) (t : ℕ) → IsNamed (m ∷ ms) (said_place (m ∷ ms) t)
  unfolding said_place
  place_fits m ms t =
      subst (λ o. IsNamed (m ∷ ms) (or_first o)) (sym (position_is (λ (x : Member). x.thread == t) (m ∷ ms)))
      (by (place_by (λ (x : Member). x.thread == t) (m ∷ ms)) (first_is (λ (x : Member). x.thread == t) (m ∷ ms)))
    where
      by : (o : Option ℕ) → ((i : ℕ) → o ≡ Some i → IsFirst (λ (x : Member). x.thread == t) (m ∷ ms) i) → IsNamed (m ∷ ms) (or_first o)
      by None found = record { member = m; there = refl; first_one = λ k y lt there. absurd (omega arith) }
      by (Some i) found =
          let f = found i refl in
          let own : f.item.thread ≡ t = let p = f.passes in grind (arith, nat_tests) in
          record {
            member = f.item;
            there = f.there;
            first_one = λ k y lt there same.
                (let fails = f.before k y lt there in let e : y.thread ≡ t = same ∙ own in let p : (y.thread == t) ≡ true =
                grind (arith, nat_tests) in absurd cc);
          }

  meets_fit : (ms : List Member) (bytes : List ℕ) → AllByRecursion (IsMeetingOf ms) (said_meets (called_of script) ms bytes)
  meets_fit [] bytes = tt
  meets_fit (m ∷ ms) bytes = all_map (IsMeetingOf (m ∷ ms)) (said_meeting (called_of script) (m ∷ ms))
      (λ w. (
        place_fits m ms (said_thread (called_of script).threads (up_to 62 w)),
        place_fits m ms (said_thread (called_of script).threads (cut_behind 62 w)),
      )) (words 32 bytes)

  length_maps : {A B C : Type 0} (f : A → B) (g : A → C) (xs : List A) → length (map f xs) ≡ length (map g xs)
  length_maps f g [] = refl
  length_maps f g (x ∷ xs) = ap suc (length_maps f g xs)

  values_fit : (bytes : List ℕ) → AllByRecursion (IsValueOf script) (said_values (called_of script) bytes)
  values_fit bytes = all_map (IsValueOf script) (said_value (called_of script)) value_fits (words 32 bytes)

  how_fits : (bytes : List ℕ) → IsHowOf script (said_how (called_of script) bytes)
  how_fits [] = tt
  how_fits (b ∷ bs) = by (b == 100) (b == 114) where
    by : (t u : Bool) → IsHowOf script (if t then ways.Done (said_values (called_of script) (cut_behind 32 (b ∷ bs)))
        else (if u then ways.Raised (said_value (called_of script) (cut_behind 32 (b ∷ bs))) else ways.Stuck))
    by true u = values_fit (cut_behind 32 (b ∷ bs))
    by false true = value_fits (cut_behind 32 (b ∷ bs))
    by false false = tt

  -- another entry than a post, which has no site
  other_fits : (sites : Bool) (e : Entry) → IsEntryOf script e → IsUnposted e → FitsIn (version_of sites) script (says.Entry e)
  other_fits sites (entries.Post by ticket event) h un = absurd un
  other_fits false (entries.Commit by cert outcomes) h un = record { entry = h; site = tt; text = refl; unposted = un }
  other_fits false (entries.Withdraw by ticket) h un = record { entry = h; site = tt; text = refl; unposted = un }
  other_fits false (entries.Take by ticket outcome) h un = record { entry = h; site = tt; text = refl; unposted = un }
  other_fits false (entries.Rest by) h un = record { entry = h; site = tt; text = refl; unposted = un }
  other_fits false (entries.Stuck by) h un = record { entry = h; site = tt; text = refl; unposted = un }
  other_fits false (entries.End by how) h un = record { entry = h; site = tt; text = refl; unposted = un }
  other_fits true (entries.Commit by cert outcomes) h un = record { entry = h; site = tt; text = refl; unposted = un }
  other_fits true (entries.Withdraw by ticket) h un = record { entry = h; site = tt; text = refl; unposted = un }
  other_fits true (entries.Take by ticket outcome) h un = record { entry = h; site = tt; text = refl; unposted = un }
  other_fits true (entries.Rest by) h un = record { entry = h; site = tt; text = refl; unposted = un }
  other_fits true (entries.Stuck by) h un = record { entry = h; site = tt; text = refl; unposted = un }
  other_fits true (entries.End by how) h un = record { entry = h; site = tt; text = refl; unposted = un }

  post_fits : (sites : Bool) (by : ℕ) (under place : List ℕ) → by < length script.threads → FitsIn (version_of sites) script (says.Post by (said_ticket under) (said_site sites place))
  post_fits false by under place lt = record { entry = (lt, ticket_fits under); site = tt; text = refl; unposted = tt }
  post_fits true by under place lt = record { entry = (lt, ticket_fits under); site = (ticket_fits (up_to 46 place), ticket_fits (cut_behind 46 place)); text = refl; unposted = tt }

  commit_fits : (by : ℕ) (members meets : List ℕ) → by < length script.threads
      → IsEntryOf script (entries.Commit by (record {
        members = said_members (called_of script) members;
        meets =
            said_meets (called_of script) (said_members (called_of script) members) meets;
      })
      (said_outcomes (called_of script) members))
  commit_fits by members meets lt = (
    lt,
    record {
      members = all_map (IsMemberOf script) (said_member (called_of script)) member_fits (words 32 members);
      as_many = length_maps (said_gets (called_of script)) (said_member (called_of script)) (words 32 members);
      gets = all_map (IsOutcomeOf script) (said_gets (called_of script)) (λ w. outcome_fits (cut_behind 93 (cut_behind 91 (cut_behind 46 w)))) (words 32 members);
      meets = meets_fit (said_members (called_of script) members) meets;
    },
  )

  entry_fits : (sites : Bool) (letter by : ℕ) (tail : List ℕ) → by < length script.threads → FitsIn (version_of sites) script (said_entry (called_of script) sites letter by tail)
  entry_fits sites letter by tail lt = pick (letter == 112) (letter == 99) (letter == 119) (letter == 116) (letter == 114) (letter == 115) where
    pick : (p c w t r s : Bool) → FitsIn (version_of sites) script
        (if p then says.Post by (said_ticket (up_to 32 tail)) (said_site sites (cut_behind 32 (cut_behind 32 tail)))
        else (if c then said_commit (called_of script) by (up_to 59 tail) (cut_behind 32 (cut_behind 59 tail))
        else (if w then says.Entry (entries.Withdraw by (said_ticket tail))
        else (if t then says.Entry (entries.Take by (said_ticket (up_to 32 tail)) (said_outcome (called_of script) (cut_behind 32 tail)))
        else (if r then says.Entry (entries.Rest by)
        else (if s then says.Entry (entries.Stuck by)
        else says.Entry (entries.End by (said_how (called_of script) tail))))))))
    pick true c w t r s = post_fits sites by (up_to 32 tail) (cut_behind 32 (cut_behind 32 tail)) lt
    pick false true w t r s = other_fits sites _ (commit_fits by (up_to 59 tail) (cut_behind 32 (cut_behind 59 tail)) lt) tt
    pick false false true t r s = other_fits sites (entries.Withdraw by (said_ticket tail)) (lt, ticket_fits tail) tt
    pick false false false true r s = other_fits sites (entries.Take by (said_ticket (up_to 32 tail))
        (said_outcome (called_of script) (cut_behind 32 tail)))
        (lt, ticket_fits (up_to 32 tail), outcome_fits (cut_behind 32 tail)) tt
    pick false false false false true s = other_fits sites (entries.Rest by) lt tt
    pick false false false false false true = other_fits sites (entries.Stuck by) lt tt
    pick false false false false false false = other_fits sites (entries.End by (said_how (called_of script) tail)) (lt, how_fits tail) tt

  pub said_fits : (sites : Bool) (line : List ℕ) → FitsIn (version_of sites) script (said (called_of script) sites line)
  unfolding said
  said_fits sites line =
      let bytes = cut_behind 32 line in
      entry_fits sites (first_byte bytes) (said_thread (called_of script).threads
      (up_to 58 (up_to 32 (cut_behind 32 bytes)))) (cut_behind 32 (cut_behind 32 bytes))
      (thread_fits (up_to 58 (up_to 32 (cut_behind 32 bytes))))
