-- How one emit moves a thread on.
use Rattle.std.proofs.Common.{◌≡◌, ℕ, suc, ◌+◌, ◌≤◌, ◌<◌, List, [], ◌∷◌, ◌++◌, length, map, drop, get_or, None, Ok, Err, refl, sym, ap, subst, ◌∙◌, add-one, arith}
use Rattle.std.proofs.Math.Seq.{drop-cons}
use Rattle.std.proofs.Math.ListN.{drop_of_length-le}
use Rattle.std.proofs.lemmas.List.{drop-map}
use Rattle.te_terms.specs.declared.value.Atom.{Atom}
use Rattle.te_terms.specs.declared.value.Trap.{Trap}
use Rattle.te_terms.specs.Values.{trap_value}
use Rattle.te_terms.specs.Expressions.{Variable, register, name, known, Expression, in_expression, value_of}
use Rattle.te_terms.specs.Terms.{registers_to, scoped}
use Rattle.te_terms.specs.declared.expr.Expr.{Expr}
use Rattle.te_terms.specs.Codes.{expression_of}
use Rattle.te_script.specs.declared.script.Stmt.{Stmt}
use Rattle.te_script.specs.declared.script.Stmt.TheVariants as kinds
use Rattle.te_script.specs.declared.wish.Site.{Site}
use Rattle.te_script.specs.Scripts.{Statement, sync, emit}
use Rattle.te_script.specs.Wishes.{Step, syncing, emitting, site_at, flat_from}
use Rattle.te_script.specs.Cores.{failed, stand_at, emits, under, next_at, IsPastEmitting, IsPastEmits, steps_behind}
use Rattle.te_script.specs.Texts.{statement_of}

-- with no inner name in scope, a variable is a register's value
scoped_nil : (regs : List (List Atom)) (x : Variable) → scoped regs [] x ≡ registers_to regs x
scoped_nil regs (register r) = refl
scoped_nil regs (name n) = refl
scoped_nil regs (known v) = refl

pub evaluated : (regs : List (List Atom)) (e : Expression) → value_of (in_expression (scoped regs []) e) ≡ value_of (in_expression (registers_to regs) e)
evaluated regs e = ap (λ (by : Variable → Variable). value_of (in_expression by e)) (λ i x. scoped_nil regs x i)

-- the statement at a place, and those behind it
pub statements_from : (stmts : List Stmt) (i : ℕ) (s : Stmt) → i < length stmts → s ≡ get_or stmts i s → drop i (map statement_of stmts) ≡ statement_of s ∷ drop (i + 1) (map statement_of stmts)
statements_from stmts i s lt is =
    let rest : map statement_of (drop (suc i) stmts) ≡ drop (i + 1) (map statement_of stmts) = rw add-one (sym (drop-map statement_of (suc i) stmts)) in
    let here : map statement_of (drop i stmts) ≡ statement_of (get_or stmts i s) ∷ map statement_of (drop (suc i) stmts) = ap (map statement_of) (drop-cons stmts i s lt) in
    let same : statement_of (get_or stmts i s) ≡ statement_of s = ap statement_of (sym is) in
    let whole = drop-map statement_of i stmts in
    cc

-- past the end nothing is left
pub nothing_from : (stmts : List Stmt) (i : ℕ) → length stmts ≤ i → drop i (map statement_of stmts) ≡ []
nothing_from stmts i le = drop-map statement_of i stmts ∙ ap (map statement_of) (drop_of_length-le stmts le)

-- an emit that has a value
pub emits_on : (regs : List (List Atom)) (at : Site) (e : Expression) (rest : List Step) (emitted : List (List Atom)) (v : List Atom) → value_of (in_expression (scoped regs []) e) ≡ Ok v
    → stand_at (under (registers_to regs) (emitting at e ∷ rest)) emitted ≡ stand_at (under (registers_to regs) rest) (emitted ++ v ∷ [])
emits_on regs at e rest emitted v is = ap (λ r. emits r emitted (stand_at (under (registers_to regs) rest))) (sym (evaluated regs e) ∙ is)

-- an emit that traps
pub emits_trap : (regs : List (List Atom)) (at : Site) (e : Expression) (rest : List Step) (emitted : List (List Atom)) (t : Trap) → value_of (in_expression (scoped regs []) e) ≡ Err t
    → stand_at (under (registers_to regs) (emitting at e ∷ rest)) emitted ≡ record { emitted = emitted; next = failed (trap_value t) }
emits_trap regs at e rest emitted t is = ap (λ r. emits r emitted (stand_at (under (registers_to regs) rest))) (sym (evaluated regs e) ∙ is)

-- at a sync or past the end the emits are done
pub settled_stand : (regs : List (List Atom)) (rest : List Step) (emitted : List (List Atom)) → IsPastEmitting rest
    → stand_at (under (registers_to regs) rest) emitted ≡ record { emitted = emitted; next = next_at None regs rest }
settled_stand regs [] emitted h = refl
settled_stand regs (syncing at r t ∷ rest) emitted h = refl
settled_stand regs (emitting at e ∷ rest) emitted h = absurd h

pub emit_from : (stmts : List Stmt) (i : ℕ) (s : Stmt) (e : Expr) → i < length stmts → s ≡ get_or stmts i s → s ≡ kinds.Emit e
    → drop i (map statement_of stmts) ≡ emit (expression_of e) ∷ drop (i + 1) (map statement_of stmts)
emit_from stmts i s e lt is kind = statements_from stmts i s lt is ∙ ap (λ k. statement_of k ∷ drop (i + 1) (map statement_of stmts)) kind

-- the steps from an emit on
pub behind_emit : (place : ℕ) (ss : List Statement) (e : Expression) → drop place ss ≡ emit e ∷ drop (place + 1) ss
    → steps_behind place ss ≡ emitting (site_at (suc place) 0) e ∷ steps_behind (place + 1) ss
behind_emit place ss e is = ap (flat_from (suc place) 0) is ∙ (let n : suc place ≡ place + 1 = omega arith in λ i. emitting (site_at (suc place) 0) e ∷ flat_from (suc (n i)) 0 (drop (place + 1) ss))

-- what is no emit is past the emits
pub past_emits_at : (s : Stmt) (ss rest : List Statement) → ss ≡ statement_of s ∷ rest → ((e : Expr) → s ≡ kinds.Emit e → ⊥) → IsPastEmits ss
past_emits_at (kinds.Sync r code root) ss rest is not = subst IsPastEmits (sym is) tt
past_emits_at (kinds.Emit e) ss rest is not = absurd (not e refl)
past_emits_at (kinds.Repeat times count) ss rest is not = subst IsPastEmits (sym is) tt
