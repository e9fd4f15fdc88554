-- Worked texts: two that are texts of their programs, and two that are texts of none.
use Rattle.std.proofs.Common.{◌≡◌, ℕ, ◌<◌, Bool, true, List, [], ◌∷◌, length, refl, sym, ◌∙◌, ap, subst, arith}
use Rattle.std.specs.Prelude.{Some, codes, pos}
use Rattle.te_terms.specs.declared.expr.Arith.TheVariants as ariths
use Rattle.te_terms.specs.declared.expr.Test.TheVariants as tests
use Rattle.te_terms.specs.Expressions.{register, name, known, int, chan, part, one, both, whole, tuple}
use Rattle.te_terms.specs.Terms.{always, never, throw, send, recv, and_then, choose, catch, when}
use Rattle.te_script.specs.Scripts.{Statement, sync, emit, repeat, Thread, Program, AreDistinct}
use Rattle.te_reader.specs.declared.token.Word.TheVariants as words
use Rattle.te_reader.specs.declared.token.Sign.TheVariants as signs
use Rattle.te_reader.specs.Tokens as tokens
use Rattle.te_reader.specs.Tokens.{Token, word, sign}
use Rattle.te_reader.specs.Lexed.{reserved_as, lexed_behind, lexed}
use Rattle.te_reader.specs.Heads.{word_first, sign_first, name_first, inner_first, bound_first, integer_first}
use Rattle.te_reader.specs.Grammar.{spells_statements, spells_threads, spells_channels, spells_program}
use Rattle.te_reader.specs.Text.{Text}
use Rattle.te_reader.specs.NameReads.{first_place_of, declared_in, integer_read, variable_named, bound_in}
use Rattle.te_reader.specs.ExpressionReads.{read_place, read_inner_part, read_named, read_primitive, arith_first, read_calculation, read_calculations, read_tuple, read_expression}
use Rattle.te_reader.specs.EventReads.{read_leaf, made, read_braced, read_part, read_do, read_second, read_choose}
use Rattle.te_reader.specs.EventReads.{read_try, test_first, read_condition, read_if, read_one, read_alone, read_in_do}
use Rattle.te_reader.specs.EventReads.{read_in_choose, read_event}
use Rattle.te_reader.specs.Reads.{read_sync, register_of, read_emit, read_written, read_statement, more_body, read_body}
use Rattle.te_reader.specs.Reads.{read_thread, read_new_thread, read_threads, read_names, read_channels, read_program}
use Rattle.te_reader.specs.Reads.{read_text}
use Rattle.te_reader.proofs.SpelledIsLexed.{spelled_is_lexed}
use Rattle.te_reader.proofs.TextIsRead.{text_is_read}

-- ---- two threads exchange a number

abbrev pub exchange_text : List ℕ
exchange_text = codes "channels c; thread a { x <- sync send c (7); } thread b { y <- sync recv c; emit y; }"

-- a sends (7) on c and b receives it and emits it
abbrev pub exchange : Program
exchange = record {
  channels = codes "c" ∷ [];
  threads =
      record { name = codes "a"; registers = codes "x" ∷ []; statements = sync 0 (send (chan 0) (tuple (one (int (pos 7)) ∷ []))) ∷ [] }
      ∷ record { name = codes "b"; registers = codes "y" ∷ []; statements = sync 0 (recv (chan 0)) ∷ emit (whole (register 0)) ∷ [] }
      ∷ [];
}

exchange_is_read : read_text exchange_text ≡ Some exchange
unfolding reserved_as lexed_behind word_first sign_first name_first inner_first bound_first integer_first first_place_of
    declared_in integer_read variable_named read_place read_inner_part read_named read_primitive arith_first
    read_calculation read_calculations read_tuple read_expression read_leaf made bound_in read_braced read_part read_do
    read_second read_choose read_try test_first read_condition read_if read_one read_alone read_in_do read_in_choose
    read_event read_sync register_of read_emit read_written read_statement more_body read_body read_thread
    read_new_thread read_threads read_names read_channels read_program read_text
exchange_is_read = refl

pub exchange_has_its_text : Text exchange_text exchange
exchange_has_its_text = text_is_read exchange_text exchange exchange_is_read

-- ---- what is raised in a part of a `do` is caught

abbrev pub caught_text : List ℕ
caught_text = codes "channels c; thread a { x <- sync try { do { _0 <- recv c; throw (_0.0 + 1) } } catch u { choose { always u | if u.0 < 3 { always () } else { never } } }; }"

abbrev pub caught : Program
caught = record {
  channels = codes "c" ∷ [];
  threads =
      record {
        name = codes "a";
        registers = codes "x" ∷ [];
        statements =
            sync 0
            (catch (and_then (recv (chan 0)) 0 (throw (tuple (both ariths.Add (part (name 0) 0) (int (pos 1)) ∷ [])))) 0
            (choose (always (whole (name 0))) (when tests.Less (part (name 0) 0) (int (pos 3)) (always (tuple [])) never))) ∷ [];
      }
      ∷ [];
}

caught_is_read : read_text caught_text ≡ Some caught
unfolding reserved_as lexed_behind word_first sign_first name_first inner_first bound_first integer_first first_place_of
    declared_in integer_read variable_named read_place read_inner_part read_named read_primitive arith_first
    read_calculation read_calculations read_tuple read_expression read_leaf made bound_in read_braced read_part read_do
    read_second read_choose read_try test_first read_condition read_if read_one read_alone read_in_do read_in_choose
    read_event read_sync register_of read_emit read_written read_statement more_body read_body read_thread
    read_new_thread read_threads read_names read_channels read_program read_text
caught_is_read = refl

pub caught_has_its_text : Text caught_text caught
caught_has_its_text = text_is_read caught_text caught caught_is_read

-- ---- a register that no statement wrote

abbrev pub unwritten_text : List ℕ
unwritten_text = codes "thread a { emit x; }"

abbrev unwritten_tokens : List Token
unwritten_tokens =
    word words.Thread ∷ tokens.name (codes "a") ∷ sign signs.OpenBrace ∷ word words.Emit ∷ tokens.name (codes "x") ∷ sign signs.Semicolon ∷ sign signs.CloseBrace ∷ []

unwritten_lexed : lexed unwritten_text ≡ record { tokens = unwritten_tokens; whole = true }
unfolding reserved_as lexed_behind
unwritten_lexed = refl

-- no statement emits a register that none wrote
no_statement : (channels registers : List (List ℕ)) (stmts : List Statement) (rest middle after : List Token)
    → spells_statements true channels registers 0 0 stmts (word words.Emit ∷ tokens.name (codes "x") ∷ rest) middle
    → middle ≡ sign signs.CloseBrace ∷ after → ⊥
no_statement channels registers [] rest middle after h close = let same = h ∙ close in absurd cc
no_statement channels registers (sync r t ∷ stmts) rest middle after h close = let begins = h.1.1.1 in absurd cc
no_statement channels registers (repeat times count ∷ stmts) rest middle after h close = let begins = h.1.1 in absurd cc
no_statement channels [] (emit (whole (register r)) ∷ stmts) rest middle after h close = let at = h.2.1.1.0 in absurd cc
no_statement channels (x ∷ xs) (emit (whole (register r)) ∷ stmts) rest middle after h close = let at = h.2.1.1.0 in absurd cc
no_statement channels registers (emit (whole (name l)) ∷ stmts) rest middle after h close = let at = h.2.1.1.0 in absurd cc
no_statement channels registers (emit (whole (known v)) ∷ stmts) rest middle after h close = h.2.1
no_statement channels registers (emit (tuple cs) ∷ stmts) rest middle after h close = let begins = h.1 in let opens = h.2.1.1 in absurd cc

no_threads : (channels : List (List ℕ)) (threads : List Thread) → 0 < length threads → spells_threads true channels threads unwritten_tokens [] → ⊥
no_threads channels [] some h = omega arith
no_threads channels (t ∷ threads) some h =
    let a = h.1.1 in
    let b = a.2 in
    let c = b.2 in
    let d = c.2 in
    let inside : c.0 ≡ word words.Emit ∷ tokens.name (codes "x") ∷ sign signs.Semicolon ∷ sign signs.CloseBrace ∷ [] = let one = a.1 in let two = b.1 in let three = c.1 in cc in
    no_statement channels t.registers t.statements _ d.0 h.0 (subst (λ (ts : List Token). spells_statements true channels t.registers 0 0 t.statements ts d.0) inside d.1) d.2

no_channels : (channels : List (List ℕ)) (threads : List Thread) (middle : List Token) → 0 < length threads
    → spells_channels true channels unwritten_tokens middle → spells_threads true channels threads middle [] → ⊥
no_channels [] threads middle some h k = no_threads [] threads some (subst (λ (ts : List Token). spells_threads true [] threads ts []) (sym h) k)
no_channels (n ∷ ns) threads middle some h k = let begins = h.1 in absurd cc

-- the tokens of a text are those that it is lexed to
tokens_are : (bytes : List ℕ) (p : Program) (ts : List Token) (complete : Bool) (text : Text bytes p) → lexed bytes ≡ record { tokens = ts; whole = complete } → text.tokens ≡ ts
tokens_are bytes p ts complete text e = ap (λ s. s.tokens) (sym (spelled_is_lexed text.tokens bytes text.spelled) ∙ e)

pub unwritten_is_no_text : (p : Program) → Text unwritten_text p → ⊥
unwritten_is_no_text p text =
    let same = tokens_are unwritten_text p unwritten_tokens true text unwritten_lexed in
    let g = subst (λ (ts : List Token). spells_program true p ts []) same text.grammar in
    no_channels p.channels p.threads g.0 text.kept.some_thread g.1 g.2

-- ---- a channel that is declared twice

abbrev pub twice_text : List ℕ
twice_text = codes "channels c c;"

abbrev twice_tokens : List Token
twice_tokens = word words.Channels ∷ tokens.name (codes "c") ∷ tokens.name (codes "c") ∷ sign signs.Semicolon ∷ []

twice_lexed : lexed twice_text ≡ record { tokens = twice_tokens; whole = true }
unfolding reserved_as lexed_behind
twice_lexed = refl

-- the names of the channels are both c, and no list of distinct names has it twice
only_twice : (channels : List (List ℕ)) (threads : List Thread) (middle : List Token) → AreDistinct channels
    → 0 < length threads → spells_channels true channels twice_tokens middle
    → spells_threads true channels threads middle [] → ⊥
only_twice [] [] middle distinct some h k = omega arith
only_twice [] (t ∷ threads) middle distinct some h k = let same = h in let begins = k.1.1.1 in absurd cc
only_twice (n ∷ []) threads middle distinct some h k =
    let begins = h.1 in
    let names = h.2.1.1 in
    let first = names.1 in
    let none = names.2 in
    let close = h.2.2 in
    absurd cc
only_twice (n ∷ m ∷ ns) threads middle distinct some h k =
    let begins = h.1 in
    let names = h.2.1.1 in
    let first = names.1 in
    let second = names.2.1.1 in
    distinct.0.0 cc

pub twice_is_no_text : (p : Program) → Text twice_text p → ⊥
twice_is_no_text p text =
    let same = tokens_are twice_text p twice_tokens true text twice_lexed in
    let g = subst (λ (ts : List Token). spells_program true p ts []) same text.grammar in
    only_twice p.channels p.threads g.0 text.kept.channel_names text.kept.some_thread g.1 g.2
