-- Sizes of terms, each one count over the nodes. All of these are this project's own.
use Rattle.std.specs.Prelude.{ℕ, ◌+◌, max, List, Result, Ok, Err}
use Rattle.te_terms.specs.declared.value.Atom.{Atom}
use Rattle.te_terms.specs.declared.value.Trap.{Trap}
use Rattle.te_terms.specs.declared.code.Counts.{Counts}
use Rattle.te_terms.specs.Expressions.{value_of}
use Rattle.te_terms.specs.Terms.{Term, always, fresh, throw, send, recv, and_then, choose, catch, when}

-- what each node counts for itself, with what its two parts count joined
abbrev pub counted : (Term → ℕ) → (ℕ → ℕ → ℕ) → Term → ℕ
counted own join (and_then e n f) = own (and_then e n f) + join (counted own join e) (counted own join f)
counted own join (choose e f) = own (choose e f) + join (counted own join e) (counted own join f)
counted own join (catch e n h) = own (catch e n h) + join (counted own join e) (counted own join h)
counted own join (when test p q e f) = own (when test p q e f) + join (counted own join e) (counted own join f)
counted own join t = own t

-- the sum over all nodes
abbrev pub total : (Term → ℕ) → Term → ℕ
total own t = counted own (λ a b. a + b) t

-- each node
abbrev pub one_each : Term → ℕ
one_each t = 1

-- what each choose, each send and each receive node counts, in this order; no other node counts
abbrev pub weighing : ℕ → ℕ → ℕ → Term → ℕ
weighing c s r (choose e f) = c
weighing c s r (send p e) = s
weighing c s r (recv p) = r
weighing c s r _ = 0

abbrev pub one_fresh : Term → ℕ
one_fresh fresh = 1
one_fresh _ = 0

abbrev pub one_with_value : Result (List Atom) Trap → ℕ
one_with_value (Ok v) = 1
one_with_value (Err t) = 0

-- the nodes `always E` and `throw E` where E has a value
abbrev pub one_final : Term → ℕ
one_final (always e) = one_with_value (value_of e)
one_final (throw e) = one_with_value (value_of e)
one_final _ = 0

-- a leaf has height 1
abbrev pub height : Term → ℕ
height t = counted one_each max t

-- the choose, send and receive nodes
abbrev pub weight : Term → ℕ
weight t = total (weighing 1 1 1) t

abbrev pub choice_count : Term → ℕ
choice_count t = total (weighing 1 0 0) t

abbrev pub send_count : Term → ℕ
send_count t = total (weighing 0 1 0) t

abbrev pub receive_count : Term → ℕ
receive_count t = total (weighing 0 0 1) t

abbrev pub counts_of : Term → Counts
counts_of t = record { choices = choice_count t; sends = send_count t; receives = receive_count t }

abbrev pub node_count : Term → ℕ
node_count t = total one_each t

abbrev pub final_count : Term → ℕ
final_count t = total one_final t

abbrev pub fresh_count : Term → ℕ
fresh_count t = total one_fresh t
