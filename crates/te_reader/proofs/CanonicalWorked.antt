-- Canonical texts, computed.
use Rattle.std.proofs.Common.{◌≡◌, List, [], ◌∷◌, refl}
use Rattle.std.specs.Prelude.{codes, pos, negsuc}
use Rattle.std.specs.Fmt.{digits}
use Rattle.te_terms.specs.declared.expr.Arith.TheVariants.{Add, Sub}
use Rattle.te_terms.specs.declared.expr.Test.TheVariants.{Less}
use Rattle.te_terms.specs.Expressions.{register, name, int, chan, part, one, both, whole, tuple}
use Rattle.te_terms.specs.Terms.{Term, always, never, fresh, throw, send, recv, and_then, choose, catch, when}
use Rattle.te_script.specs.Scripts.{Statement, sync, emit, repeat, Program}
use Rattle.te_reader.specs.Canonical.{canonical_text}

abbrev thread_of : List Statement → Program
thread_of ss = record { channels = codes "c" ∷ codes "d" ∷ []; threads = record { name = codes "a"; registers = codes "x" ∷ []; statements = ss } ∷ [] }

-- an exchange
abbrev exchange : Program
exchange = record {
  channels = codes "c" ∷ [];
  threads =
      record { name = codes "a"; registers = codes "x" ∷ []; statements = sync 0 (send (chan 0) (tuple (one (int (pos 7)) ∷ []))) ∷ [] }
      ∷ record { name = codes "b"; registers = codes "y" ∷ []; statements = sync 0 (recv (chan 0)) ∷ emit (whole (register 0)) ∷ [] } ∷ [];
}

pub exchange_text :
    canonical_text exchange
    ≡ codes "channels c;\nthread a {\n  x <- sync send c (7);\n}\nthread b {\n  y <- sync recv c;\n  emit y;\n}\n"
unfolding digits
exchange_text = refl

-- no channels, and a thread without statements
pub empty_text : canonical_text (record { channels = []; threads = record { name = codes "a"; registers = []; statements = [] } ∷ [] }) ≡ codes "thread a {\n}\n"
empty_text = refl

-- an inner name is numbered by its level, and nothing stands round a dot
abbrev caught : Term
caught = catch (and_then (recv (chan 0)) 0 (throw (tuple (both Add (part (name 0) 0) (int (pos 1)) ∷ [])))) 0 (always (whole (name 0)))

pub caught_text :
    canonical_text (thread_of (sync 0 caught ∷ []))
    ≡ codes "channels c d;\nthread a {\n  x <- sync try { do { _0 <- recv c; throw (_0.0 + 1) } } catch _0 { always _0 };\n}\n"
unfolding digits
caught_text = refl

-- a `do` behind a part of a `do`, and one in a part
abbrev nested : Term
nested = and_then (and_then never 0 (always (tuple []))) 0 (and_then fresh 1 (choose never (choose (recv (part (name 1) 0)) (choose (choose never never) never))))

pub nested_text :
    canonical_text (thread_of (sync 0 nested ∷ []))
    ≡ codes "channels c d;\nthread a {\n  x <- sync do { _0 <- do { _0 <- never; always () }; _1 <- fresh; choose { never | recv _1.0 | choose { never | never } | never } };\n}\n"
unfolding digits
nested_text = refl

-- zero, a negative integer, and an `if`
pub numbers_text :
    canonical_text (thread_of (sync 0 (when Less (int (pos 0)) (int (negsuc 9)) never (always (tuple (both Sub (int (pos 100)) (int (negsuc 0)) ∷ one (chan 1) ∷ [])))) ∷ []))
    ≡ codes "channels c d;\nthread a {\n  x <- sync if 0 < -10 { never } else { always (100 - -1, d) };\n}\n"
unfolding digits
numbers_text = refl

-- two repeats, with an emit between them
pub repeated_text :
    canonical_text (thread_of (repeat 2 1 ∷ sync 0 never ∷ emit (whole (register 0)) ∷ repeat 10000 2 ∷ sync 0 fresh ∷ sync 0 never ∷ emit (tuple []) ∷ []))
    ≡ codes "channels c d;\nthread a {\n  repeat 2 {\n    x <- sync never;\n  }\n  emit x;\n  repeat 10000 {\n    x <- sync fresh;\n    x <- sync never;\n  }\n  emit ();\n}\n"
unfolding digits
repeated_text = refl
