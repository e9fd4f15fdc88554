-- What words say, by the definition of `clap`.
use Rattle.std.specs.Prelude.{◌≡◌, ◌≢◌, ◌⊎◌, ◌≤◌, ℕ, List, [], ◌∷◌, codes, true, Some, None}
use Rattle.std.specs.Str.Parse.{digits_value, without_leading_plus}
use Rattle.clap.specs.Words.{App, Rule, Text, new_app, new_rule, with_rule, first_of, found_of, one_text, first_value, matches_of, IsUnsignedIn}
use Rattle.clap.specs.Walk.{one_of}
use Rattle.clap.specs.Faults.{fault_of}
use Rattle.clap.specs.Facts.{WantsDefault, least_values}
use Rattle.clap.specs.declared.builder.arg.Arg.{Arg}
use Rattle.clap.specs.declared.parser.matches.ArgMatches.{ArgMatches}
use Rattle.clap.specs.declared.builder.action.ArgAction.TheVariants.{Set}
use Rattle.clap.specs.declared.builder.value_parser.ValueParser.{ValueParser}
use Rattle.clap.specs.declared.builder.value_parser.ValueParser.TheVariants as vp
use Rattle.tevents.specs.declared.words.Mode.{Mode}
use Rattle.tevents.specs.declared.words.Mode.TheVariants as modes
use Rattle.tevents.specs.declared.words.Words.{Words}

-- ---- the command

abbrev pub mode_rule : Rule
mode_rule = record (new_rule (codes "mode")) { required = true; action = Some Set }

-- an option with a number, and its default
abbrev pub number_rule : Text → Text → ValueParser → Rule
number_rule name default range = record (new_rule name) { long = Some name; action = Some Set; defaults = default ∷ []; parser = Some range }

abbrev pub budget_rule : Rule
budget_rule = number_rule (codes "budget") (codes "100000") (vp.Unsigned 1 1000000)

abbrev pub script_rule : Rule
script_rule = number_rule (codes "number") (codes "0") (vp.Unsigned 0 999)

abbrev pub without_name : App → App
without_name a = record a { top = record a.top { no_binary_name = true } }

-- a mode that is required, and two options; the words are those after the program's name
unfoldable pub program : App
program = with_rule (with_rule (with_rule (without_name (new_app (codes "tevents"))) mode_rule) budget_rule) script_rule

-- ---- what the words say

abbrev pub mode_name : Mode → Text
mode_name modes.Serial = codes "serial"
mode_name modes.Run = codes "run"
mode_name modes.Print = codes "print"
mode_name modes.Gen = codes "gen"
mode_name modes.Check = codes "check"
mode_name modes.Lift = codes "lift"

-- the option has this number, of this range
pub record HasNumber (words : List Text) (name : Text) (low high n : ℕ) : Type 0 where
  pub text : Text
  pub given : one_of name (matches_of program words) ≡ Some text
  pub value : n ≡ digits_value 10 (without_leading_plus text)
  pub least : low ≤ n
  pub most : n ≤ high

-- the words are those of the command, and name this mode, this budget and this number
pub record Says (words : List Text) (w : Words) : Type 0 where
  pub taken : fault_of program words ≡ []
  pub mode_is : first_of (codes "mode") (matches_of program words) ≡ Some (mode_name w.mode)
  pub budget_is : HasNumber words (codes "budget") 1 1000000 w.budget
  pub number_is : HasNumber words (codes "number") 0 999 w.number

-- the words aren't those of the command, or the mode is none
abbrev pub AreRefused : List Text → Type 0
AreRefused words = (fault_of program words ≢ []) ⊎ ((m : Mode) → first_of (codes "mode") (matches_of program words) ≢ Some (mode_name m))

-- ---- inner

-- the argument takes a number of the range, and has a default
pub record IsNumberArgument (a : Arg) (name : Text) (range : ValueParser) : Type 0 where
  pub id_is : a.id.now ≡ name
  pub default : WantsDefault a
  pub set : a.action ≡ Some Set
  pub delimiter : a.val_delim ≡ None
  pub some_value : 1 ≤ least_values a
  pub parser : a.value_parser ≡ Some range

-- a text was given, and reads as a number of the range
abbrev pub IsGiven : ArgMatches → Text → ℕ → ℕ → Type 0
IsGiven m name low high = (text : Text) × (one_text (found_of m) name ≡ Some text) × IsUnsignedIn low high text

abbrev pub Reads : ArgMatches → Text → ℕ → ℕ → ℕ → Type 0
Reads m name low high n = (text : Text) × (one_text (found_of m) name ≡ Some text) × (n ≡ digits_value 10 (without_leading_plus text)) × (low ≤ n) × (n ≤ high)

pub record IsSaid (m : ArgMatches) (w : Words) : Type 0 where
  pub mode_is : first_value (found_of m) (codes "mode") ≡ Some (mode_name w.mode)
  pub budget_is : Reads m (codes "budget") 1 1000000 w.budget
  pub number_is : Reads m (codes "number") 0 999 w.number
