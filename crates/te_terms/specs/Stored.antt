-- Terms in a stored form, by which a proof tells two of them apart.
use Rattle.std.specs.Prelude.{◌≡◌, List, refl}
use Rattle.std.proofs.Common.{ap}
use Rattle.std.specs.Coded.{Coded, coded_ℤ, coded_list}
use base.Stored.{Gv, gnil, gnum, gcons}
use Rattle.te_terms.specs.declared.value.Atom.{Atom}
use Rattle.te_terms.specs.contracts.value.Atom as atom
use Rattle.te_terms.specs.contracts.expr.Arith as arith
use Rattle.te_terms.specs.contracts.expr.Test as test
use Rattle.te_terms.specs.Expressions.{Variable, register, name, known, Primitive, int, chan, part, Calculation, one, both, Expression, whole, tuple}
use Rattle.te_terms.specs.Terms.{Term, always, never, fresh, throw, send, recv, and_then, choose, catch, when}

abbrev pub coded_value : Coded (List Atom)
coded_value = coded_list atom.the_row.coded

abbrev variable_stored : Variable → Gv
variable_stored (register r) = gcons (gnum 0) (gnum r)
variable_stored (name n) = gcons (gnum 1) (gnum n)
variable_stored (known v) = gcons (gnum 2) (coded_value.code v)

pub variable_same : (x y : Variable) → variable_stored x ≡ variable_stored y → x ≡ y
variable_same (register r) (register s) p = cc
variable_same (name n) (name m) p = cc
variable_same (known v) (known w) p = ap known (coded_value.inj v w cc)
variable_same _ _ p = absurd cc

abbrev pub coded_variable : Coded Variable
coded_variable = record { code = variable_stored; inj = variable_same }

abbrev primitive_stored : Primitive → Gv
primitive_stored (int z) = gcons (gnum 0) (coded_ℤ.code z)
primitive_stored (chan c) = gcons (gnum 1) (gnum c)
primitive_stored (part x d) = gcons (gnum 2) (gcons (coded_variable.code x) (gnum d))

pub primitive_same : (p q : Primitive) → primitive_stored p ≡ primitive_stored q → p ≡ q
primitive_same (int z) (int y) e = ap int (coded_ℤ.inj z y cc)
primitive_same (chan c) (chan d) e = cc
primitive_same (part x d) (part y f) e =
    let vars : x ≡ y = coded_variable.inj x y cc in
    cc
primitive_same _ _ e = absurd cc

abbrev pub coded_primitive : Coded Primitive
coded_primitive = record { code = primitive_stored; inj = primitive_same }

abbrev calculation_stored : Calculation → Gv
calculation_stored (one p) = gcons (gnum 0) (coded_primitive.code p)
calculation_stored (both o p q) = gcons (gnum 1) (gcons (arith.the_row.coded.code o) (gcons (coded_primitive.code p) (coded_primitive.code q)))

pub calculation_same : (c d : Calculation) → calculation_stored c ≡ calculation_stored d → c ≡ d
calculation_same (one p) (one q) e = ap one (coded_primitive.inj p q cc)
calculation_same (both o p q) (both o' p' q') e =
    let os : o ≡ o' = arith.the_row.coded.inj o o' cc in
    let ps : p ≡ p' = coded_primitive.inj p p' cc in
    let qs : q ≡ q' = coded_primitive.inj q q' cc in
    cc
calculation_same _ _ e = absurd cc

abbrev pub coded_calculation : Coded Calculation
coded_calculation = record { code = calculation_stored; inj = calculation_same }

abbrev expression_stored : Expression → Gv
expression_stored (whole x) = gcons (gnum 0) (coded_variable.code x)
expression_stored (tuple cs) = gcons (gnum 1) ((coded_list coded_calculation).code cs)

pub expression_same : (e f : Expression) → expression_stored e ≡ expression_stored f → e ≡ f
expression_same (whole x) (whole y) p = ap whole (coded_variable.inj x y cc)
expression_same (tuple cs) (tuple ds) p = ap tuple ((coded_list coded_calculation).inj cs ds cc)
expression_same _ _ p = absurd cc

abbrev pub coded_expression : Coded Expression
coded_expression = record { code = expression_stored; inj = expression_same }

abbrev term_stored : Term → Gv
term_stored (always e) = gcons (gnum 0) (coded_expression.code e)
term_stored never = gcons (gnum 1) gnil
term_stored fresh = gcons (gnum 9) gnil
term_stored (throw e) = gcons (gnum 2) (coded_expression.code e)
term_stored (send p e) = gcons (gnum 3) (gcons (coded_primitive.code p) (coded_expression.code e))
term_stored (recv p) = gcons (gnum 4) (coded_primitive.code p)
term_stored (and_then e n f) = gcons (gnum 5) (gcons (term_stored e) (gcons (gnum n) (term_stored f)))
term_stored (choose e f) = gcons (gnum 6) (gcons (term_stored e) (term_stored f))
term_stored (catch e n h) = gcons (gnum 7) (gcons (term_stored e) (gcons (gnum n) (term_stored h)))
term_stored (when t p q e f) = gcons (gnum 8) (gcons (test.the_row.coded.code t) (gcons (gcons (coded_primitive.code p) (coded_primitive.code q)) (gcons (term_stored e) (term_stored f))))

pub term_same : (t u : Term) → term_stored t ≡ term_stored u → t ≡ u
term_same (always e) (always e') p = ap always (coded_expression.inj e e' cc)
term_same never never p = refl
term_same fresh fresh p = refl
term_same (throw e) (throw e') p = ap throw (coded_expression.inj e e' cc)
term_same (send q e) (send q' e') p =
    let qs : q ≡ q' = coded_primitive.inj q q' cc in
    let es : e ≡ e' = coded_expression.inj e e' cc in
    cc
term_same (recv q) (recv q') p = ap recv (coded_primitive.inj q q' cc)
term_same (and_then e n f) (and_then e' n' f') p =
    let es : e ≡ e' = term_same e e' cc in
    let fs : f ≡ f' = term_same f f' cc in
    cc
term_same (choose e f) (choose e' f') p =
    let es : e ≡ e' = term_same e e' cc in
    let fs : f ≡ f' = term_same f f' cc in
    cc
term_same (catch e n f) (catch e' n' f') p =
    let es : e ≡ e' = term_same e e' cc in
    let fs : f ≡ f' = term_same f f' cc in
    cc
term_same (when t q r e f) (when t' q' r' e' f') p =
    let ts : t ≡ t' = test.the_row.coded.inj t t' cc in
    let qs : q ≡ q' = coded_primitive.inj q q' cc in
    let rs : r ≡ r' = coded_primitive.inj r r' cc in
    let es : e ≡ e' = term_same e e' cc in
    let fs : f ≡ f' = term_same f f' cc in
    cc
term_same _ _ p = absurd cc

abbrev pub coded_term : Coded Term
coded_term = record { code = term_stored; inj = term_same }
