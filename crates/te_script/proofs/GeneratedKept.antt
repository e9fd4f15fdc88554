-- The scripts of the generator keep all limits and rules.
use Rattle.std.proofs.Common.{◌≡◌, ◌≢◌, ℕ, zero, suc, ◌+◌, ◌*◌, ◌/◌, ◌%◌, ◌<◌, ◌≤◌, List, [], ◌∷◌, ◌++◌, true, length, get_or, map, pos, refl, sym, ap, subst, ◌∙◌, arith, length-append}
use Rattle.std.specs.Prelude.{codes}
use Rattle.std.specs.List.{AllByRecursion}
use Rattle.std.specs.Fmt.{decimal}
use Rattle.std.proofs.lemmas.List.{map-append}
use Rattle.std.proofs.lemmas.Fmt.{decimal_injective}
use Rattle.std.proofs.lemmas.Bool.Decides.{nat_tests}
use Rattle.te_terms.specs.Limits.{IsWithinLimits}
use Rattle.te_terms.specs.Values.{fits_i64}
use Rattle.te_terms.specs.Expressions.{register, whole}
use Rattle.te_terms.specs.Terms.{Term}
use Rattle.te_script.specs.Scripts.{Statement, sync, emit, Scope, IsEvent, AreStatements, AreDistinct, AreApart, IsThread, IsProgram, Thread, Program, thread_names, HasNames, IsScript}
use Rattle.te_script.specs.Names.{IsName}
use Rattle.te_script.specs.Generated.{each, rings_of, rounds_of, generated_channel_name, generated_thread_name, starting, passing_event, part_event, event_of, generated_thread, generated}
use Rattle.te_script.proofs.NamesMade.{numbered_name, letter_name}
use Rattle.te_script.proofs.Appending.{AreStatements-append}
use Rattle.te_terms.proofs.Lists.{AllByRecursion-append}

-- ---- lists of so many

pub length_each : {A : Type 0} (f : ℕ → A) (n : ℕ) → length (each f n) ≡ n
length_each f zero = refl
length_each f (suc n) = omega (arith, length-append (each f n) (f n ∷ []), length_each f n)

pub map_each : {A B : Type 0} (g : A → B) (f : ℕ → A) (n : ℕ) → map g (each f n) ≡ each (λ i. g (f i)) n
map_each g f zero = refl
map_each g f (suc n) = map-append g (each f n) (f n ∷ []) ∙ (λ i. map_each g f n i ++ g (f n) ∷ [])

pub all_each : {A : Type 0} (P : A → Type 0) (f : ℕ → A) (n : ℕ) → ((i : ℕ) → i < n → P (f i)) → AllByRecursion P (each f n)
all_each P f zero h = tt
all_each P f (suc n) h = AllByRecursion-append P (each f n) (f n) (all_each P f n (λ i lt. h i (omega (arith, lt)))) (h n (omega arith))

-- ---- names

distinct_append : (xs : List (List ℕ)) (n : List ℕ) → AreDistinct xs → AllByRecursion (λ x. x ≢ n) xs → AreDistinct (xs ++ n ∷ [])
distinct_append [] n d h = (tt, tt)
distinct_append (x ∷ xs) n d h = (AllByRecursion-append (λ y. x ≢ y) xs n d.0 h.0, distinct_append xs n d.1 h.1)

numbers_differ : (letter i j : ℕ) → i < j → j < 1000 → (◌≡◌ {A = List ℕ} (letter ∷ decimal i) (letter ∷ decimal j)) → ⊥
numbers_differ letter i j lt few e = let same : decimal i ≡ decimal j = cc in let number : i ≡ j = decimal_injective i j (omega (arith, lt, few)) (omega (arith, few)) same in omega (arith, number, lt)

distinct_names : (letter n : ℕ) → n ≤ 1000 → AreDistinct (each (λ i. letter ∷ decimal i) n)
distinct_names letter zero few = tt
distinct_names letter (suc n) few =
    distinct_append (each (λ i. letter ∷ decimal i) n) (letter ∷ decimal n) (distinct_names letter n (omega (arith, few)))
    (all_each (λ x. x ≢ letter ∷ decimal n) (λ i. letter ∷ decimal i) n (λ i lt. numbers_differ letter i n lt (omega (arith, few))))

-- ---- events and threads

starting_kept : (channels written p r round : ℕ) → round ≤ 300 → p < channels → r < channels → IsEvent (record { written = written; level = 0; channels = channels }) (starting p r round)
starting_kept channels written p r round most h k = let fits : fits_i64 (pos round) ≡ true = grind (arith, nat_tests, most) in (refl, (h, ((fits, tt), omega arith)), k)

passing_kept : (channels written p q : ℕ) → p < channels → q < channels → IsEvent (record { written = written; level = 0; channels = channels }) (passing_event p q)
passing_kept channels written p q h k = (refl, h, (refl, (k, ((((omega arith, omega arith), refl), tt), omega arith)), omega arith))

starting_limits : (p r round : ℕ) → IsWithinLimits (starting p r round)
starting_limits p r round = record { low = omega arith; few = omega arith; few_fresh = omega arith }

passing_limits : (p q : ℕ) → IsWithinLimits (passing_event p q)
passing_limits p q = record { low = omega arith; few = omega arith; few_fresh = omega arith }

part_kept : (place channels written first round : ℕ) → round ≤ 300 → first + 2 < channels
    → IsEvent (record { written = written; level = 0; channels = channels }) (part_event place first round)
    × IsWithinLimits (part_event place first round)
part_kept zero channels written first round most h = (starting_kept channels written first (first + 2) round most (omega (arith, h)) h, starting_limits first (first + 2) round)
part_kept (suc zero) channels written first round most h = (passing_kept channels written first (first + 1) (omega (arith, h)) (omega (arith, h)), passing_limits first (first + 1))
part_kept (suc (suc more)) channels written first round most h = (passing_kept channels written (first + 1) (first + 2) (omega (arith, h)) h, passing_limits (first + 1) (first + 2))

syncs_kept : (channels thread rounds : ℕ) → rounds < 300 → 3 * (thread / 3) + 2 < channels → AreStatements channels 1 0 (each (λ round. sync 0 (event_of thread round)) (suc rounds))
syncs_kept channels thread zero few h = let event = part_kept (thread % 3) channels 0 (3 * (thread / 3)) 0 (omega arith) h in (omega arith, event.0, event.1, refl)
syncs_kept channels thread (suc rounds) few h =
    let event = part_kept (thread % 3) channels 1 (3 * (thread / 3)) (suc rounds) (omega (arith, few)) h in
    AreStatements-append channels 1 0 (each (λ round. sync 0 (event_of thread round)) (suc rounds)) (sync 0 (event_of thread (suc rounds)))
    (syncs_kept channels thread rounds (omega (arith, few)) h) (omega arith, event.0, event.1, refl)

pub thread_kept : (channels thread rounds : ℕ) → 3 * (thread / 3) + 2 < channels → 0 < rounds → rounds ≤ 300 → IsThread channels (generated_thread rounds thread)
thread_kept channels thread zero h some most = absurd (omega arith)
thread_kept channels thread (suc rounds) h some most = record {
  registers = omega arith;
  distinct = (tt, tt);
  statements = omega (
    arith,
    length-append (each (λ round. sync 0 (event_of thread round)) (suc rounds)) (emit (whole (register 0)) ∷ []),
    length_each
        (λ round. sync 0 (event_of thread round)) (suc rounds),
    most,
  );
  in_order = AreStatements-append channels 1 0 (each (λ round. sync 0 (event_of thread round)) (suc rounds)) (emit (whole (register 0)))
      (syncs_kept channels thread rounds (omega (arith, most)) h) (omega arith, refl);
}

pub thread_named : (rounds thread : ℕ) → thread < 1000 → HasNames (generated_thread rounds thread)
thread_named rounds thread few = record { name = numbered_name 116 thread refl few; registers = (letter_name 120 refl, tt) }

-- ---- programs

x_differs : (n : ℕ) → codes "x" ≢ generated_channel_name n
x_differs n e = let heads : 120 ≡ 99 = ap (λ (xs : List ℕ). get_or xs 0 0) e in omega (arith, heads)

apart : (n m : ℕ) → AreApart (codes "x" ∷ []) (each generated_channel_name n)
apart n m = (all_each (λ y. codes "x" ≢ y) generated_channel_name n (λ i lt. x_differs i), tt)

program_kept : (count rounds : ℕ) → 0 < count → count ≤ 63 → ((i : ℕ) → i < count → 3 * (i / 3) + 2 < count) → 0 < rounds → rounds ≤ 300
    → IsProgram (record { channels = each generated_channel_name count; threads = each (generated_thread rounds) count })
program_kept count rounds some few rings some_rounds most = record {
  channels = omega (arith, length_each generated_channel_name count);
  channel_names = distinct_names 99 count (omega (arith, few));
  some_thread = omega (arith, length_each (generated_thread rounds) count);
  threads = omega (arith, length_each (generated_thread rounds) count);
  names = subst AreDistinct (sym (map_each (λ (t : Thread). t.name) (generated_thread rounds) count)) (distinct_names 116 count (omega (arith, few)));
  each = all_each (IsThread (length (each generated_channel_name count))) (generated_thread rounds) count (λ i lt.
      thread_kept (length (each generated_channel_name count)) i rounds (omega (arith, rings i lt, length_each generated_channel_name count)) some_rounds most);
  apart = all_each (λ t. AreApart t.registers (each generated_channel_name count)) (generated_thread rounds) count (λ i lt. apart count i);
}

pub script_kept : (count rounds : ℕ) → 0 < count → count ≤ 63 → ((i : ℕ) → i < count → 3 * (i / 3) + 2 < count) → 0 < rounds → rounds ≤ 300
    → IsScript (record { channels = each generated_channel_name count; threads = each (generated_thread rounds) count })
script_kept count rounds some few rings some_rounds most = record {
  program = program_kept count rounds some few rings some_rounds most;
  channels = all_each IsName generated_channel_name count (λ i lt. numbered_name 99 i refl (omega (arith, lt, few)));
  threads = all_each HasNames (generated_thread rounds) count (λ i lt. thread_named rounds i (omega (arith, lt, few)));
}
