-- A last line tells how the report ends.
use Rattle.std.proofs.Common.{◌≡◌, ◌≢◌, ℕ, ◌^◌, ◌<◌, Bool, true, false, nat_lt, List, [], ◌∷◌, ◌++◌, length, refl, sym, ap, ◌∙◌, arith, append_assoc}
use Rattle.std.specs.Prelude.{◌==◌, codes, if◌then◌else◌}
use Rattle.std.specs.Fmt.{decimal}
use Rattle.std.proofs.lemmas.Bool.Decides.{nat_tests}
use Rattle.te_history.specs.Histories.{History}
use Rattle.te_report.specs.declared.ending.Ending.{Ending}
use Rattle.te_report.specs.declared.ending.Ending.TheVariants as endings
use Rattle.te_report.specs.Report.{last_line}
use Rattle.te_report.specs.Told.{HasCounts, IsNoLast}
use Rattle.te_report.specs.Sayings.{up_to, cut_behind, said_number, decimal_value, said_spent, said_ending, first_byte}
use Rattle.te_report.proofs.Appends.{parts_9}
use Rattle.te_report.proofs.Cuts.{lacks, front, back}
use Rattle.te_report.proofs.NumbersTold.{number_told, number_lacks}

-- up to a byte behind what lacks it
front_over : (c : ℕ) (xs ys : List ℕ) → lacks c xs ≡ true → up_to c (xs ++ ys) ≡ xs ++ up_to c ys
front_over c [] ys p = refl
front_over c (b ∷ bs) ys p = by (b == c) (front_over c bs ys) p where
  by : (t : Bool) → (lacks c bs ≡ true → up_to c (bs ++ ys) ≡ bs ++ up_to c ys) → (if t then false else lacks c bs) ≡ true → (if t then [] else b ∷ up_to c (bs ++ ys)) ≡ b ∷ (bs ++ up_to c ys)
  by true more p = absurd cc
  by false more p = ap (λ l. b ∷ l) (more p)

module _ (count front_at paths groups : ℕ) (h0 : count < 2 ^ 64) (h1 : front_at < 2 ^ 64) (h2 : paths < 2 ^ 64) (h3 : groups < 2 ^ 64) (more : List ℕ) where
  clear : (n : ℕ) → n < 2 ^ 64 → lacks 10 (decimal n) ≡ true
  clear n few = number_lacks 10 n refl few

  spaced : (n : ℕ) → n < 2 ^ 64 → lacks 32 (decimal n) ≡ true
  spaced n few = number_lacks 32 n refl few

  -- behind each word, up to the end of the line
  abbrev third : List ℕ
  third = codes "groups " ++ decimal groups

  abbrev second : List ℕ
  second = codes "paths " ++ (decimal paths ++ 32 ∷ third)

  abbrev first_part : List ℕ
  first_part = codes "front " ++ (decimal front_at ++ 32 ∷ second)

  -- the line from each number on, with its end
  abbrev from_3 : List ℕ
  from_3 = decimal groups ++ codes "\n"

  abbrev from_2 : List ℕ
  from_2 = decimal paths ++ (codes " groups " ++ from_3)

  abbrev from_1 : List ℕ
  from_1 = decimal front_at ++ (codes " paths " ++ from_2)

  abbrev from_0 : List ℕ
  from_0 = decimal count ++ (codes " front " ++ from_1)

  line_3 : up_to 10 (from_3 ++ more) ≡ decimal groups
  line_3 = ap (up_to 10) (append_assoc (decimal groups) (codes "\n") more) ∙ front 10 (decimal groups) more (clear groups h3)

  line_2 : up_to 10 (from_2 ++ more) ≡ decimal paths ++ 32 ∷ third
  line_2 =
      ap (up_to 10) (append_assoc (decimal paths) (codes " groups " ++ from_3) more)
      ∙ front_over 10 (decimal paths) ((codes " groups " ++ from_3) ++ more) (clear paths h2)
      ∙ ap (λ x. decimal paths ++ (codes " groups " ++ x)) line_3

  line_1 : up_to 10 (from_1 ++ more) ≡ decimal front_at ++ 32 ∷ second
  line_1 =
      ap (up_to 10) (append_assoc (decimal front_at) (codes " paths " ++ from_2) more)
      ∙ front_over 10 (decimal front_at) ((codes " paths " ++ from_2) ++ more) (clear front_at h1)
      ∙ ap (λ x. decimal front_at ++ (codes " paths " ++ x)) line_2

  line_0 : up_to 10 (from_0 ++ more) ≡ decimal count ++ 32 ∷ first_part
  line_0 =
      ap (up_to 10) (append_assoc (decimal count) (codes " front " ++ from_1) more)
      ∙ front_over 10 (decimal count) ((codes " front " ++ from_1) ++ more) (clear count h0)
      ∙ ap (λ x. decimal count ++ (codes " front " ++ x)) line_1

  spent_said : said_spent first_part ≡ endings.Spent front_at paths groups
  spent_said =
      let f : said_number (up_to 32 (decimal front_at ++ 32 ∷ second)) ≡ front_at = ap said_number (front 32 (decimal front_at) second (spaced front_at h1)) ∙ number_told front_at h1 in
      let behind_f : cut_behind 32 (decimal front_at ++ 32 ∷ second) ≡ second = back 32 (decimal front_at) second (spaced front_at h1) in
      let p : said_number (up_to 32 (cut_behind 32 (cut_behind 32 (decimal front_at ++ 32 ∷ second)))) ≡ paths =
      ap (λ x. said_number (up_to 32 (cut_behind 32 x))) behind_f ∙ ap said_number (front 32 (decimal paths) third (spaced paths h2)) ∙ number_told paths h2 in
      let g : said_number (cut_behind 32 (cut_behind 32 (cut_behind 32 (cut_behind 32 (decimal front_at ++ 32 ∷ second))))) ≡ groups =
      ap (λ x. said_number (cut_behind 32 (cut_behind 32 (cut_behind 32 x)))) behind_f
      ∙ ap (λ x. said_number (cut_behind 32 x)) (back 32 (decimal paths) third (spaced paths h2))
      ∙ number_told groups h3 in
      λ i. endings.Spent (f i) (p i) (g i)

  pub spent_told : said_ending (up_to 10 (last_line count (endings.Spent front_at paths groups) ++ more)) ≡ endings.Spent front_at paths groups
  unfolding said_ending
  spent_told =
      ap (λ x. said_ending (up_to 10 (x ++ more)))
      (parts_9 (codes "spent ") (decimal count) (codes " front ") (decimal front_at) (codes " paths ") (decimal paths) (codes " groups ") (decimal groups) (codes "\n"))
      ∙ ap (λ x. said_spent (cut_behind 32 x)) line_0 ∙ ap said_spent (back 32 (decimal count) first_part (spaced count h0)) ∙ spent_said

pub ending_told : (count : ℕ) (ending : Ending) (rest more : List ℕ) → count < 2 ^ 64 → HasCounts ending → rest ≡ last_line count ending ++ more → said_ending (up_to 10 rest) ≡ ending
unfolding said_ending
ending_told count endings.Closed rest more few counts is = ap (λ x. said_ending (up_to 10 x)) is
ending_told count (endings.Spent f p g) rest more few counts is = ap (λ x. said_ending (up_to 10 x)) is ∙ spent_told count f p g few counts.0 counts.1 counts.2 more
ending_told count endings.Full rest more few counts is = ap (λ x. said_ending (up_to 10 x)) is

number_fits : (ds : List ℕ) → said_number ds < 2 ^ 64
unfolding said_number
number_fits ds = by (nat_lt (decimal_value 0 ds) (2 ^ 64)) refl where
  by : (b : Bool) → nat_lt (decimal_value 0 ds) (2 ^ 64) ≡ b → (if b then decimal_value 0 ds else 0) < 2 ^ 64
  by true e = grind (arith, nat_tests)
  by false e = omega arith

pub ending_fits : (line : List ℕ) → HasCounts (said_ending line)
unfolding said_ending
ending_fits line = by (first_byte line == 115) (first_byte line == 102) where
  by : (s f : Bool) → HasCounts (if s then said_spent (cut_behind 32 (cut_behind 32 line)) else (if f then endings.Full else endings.Closed))
  by true f = (number_fits _, number_fits _, number_fits _)
  by false true = tt
  by false false = tt

-- no last line is read: none is there
pub none_last : (hist : History) (rest : List ℕ) → length hist.entries < 2 ^ 64 → ((more : List ℕ) → rest ≢ last_line (length hist.entries) (said_ending (up_to 10 rest)) ++ more) → IsNoLast hist rest
none_last hist rest few none ending more counts is =
    none more (is ∙ ap (λ e. last_line (length hist.entries) e ++ more) (sym (ending_told (length hist.entries) ending rest more few counts is)))
