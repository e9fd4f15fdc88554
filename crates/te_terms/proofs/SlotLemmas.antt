-- Nodes and the slots that keep them.
use Rattle.std.proofs.Common.{◌≡◌, ℕ, zero, suc, ◌≤◌, List, [], ◌∷◌, ◌++◌, length, drop, Some, slice_get, option_map, refl, ap, subst, ◌∙◌, arith, length-append, length-drop}
use Rattle.std.specs.List.{AllByRecursion}
use Rattle.std.proofs.lemmas.List.{map-append, take-append-le, drop-append-le}
use Rattle.std.proofs.lemmas.Option.{slice_get-map}
use Rattle.std.proofs.Math.Seq.{take-length, drop-append_seam}
use Rattle.te_terms.specs.declared.expr.Calc.{Calc}
use Rattle.te_terms.specs.declared.expr.Expr.{Expr}
use Rattle.te_terms.specs.declared.expr.Expr.TheVariants as exprs
use Rattle.te_terms.specs.declared.code.Node.{Node}
use Rattle.te_terms.specs.declared.code.Node.TheVariants as nodes
use Rattle.te_terms.specs.declared.slot.Outline.{Outline}
use Rattle.te_terms.specs.declared.slot.Outline.TheVariants as outlines
use Rattle.te_terms.specs.declared.slot.Form.{Form}
use Rattle.te_terms.specs.declared.slot.Form.TheVariants as forms
use Rattle.te_terms.specs.declared.slot.Slot.{Slot}
use Rattle.te_terms.specs.Slots.{outline_of, form_of, listed_in, calculations_of, primitive_in, expression_in, node_in, node_of, nodes_of, count_in, needed, IsFew, IsWithin, IsStored}
use Rattle.te_terms.proofs.Lists.{AllByRecursion-append}

-- ---- a node comes back

expression_back : (e : Expr) → expression_in (outline_of e) (listed_in e) ≡ e
expression_back (exprs.Whole x) = refl
expression_back (exprs.Tuple cs) = ap exprs.Tuple (take-length cs)

node_back : (n : Node) → node_in (form_of n) (calculations_of n) ≡ n
node_back (nodes.Always e) = ap nodes.Always (expression_back e)
node_back nodes.Never = refl
node_back nodes.Fresh = refl
node_back (nodes.Throw e) = ap nodes.Throw (expression_back e)
node_back (nodes.Send p e) = ap (nodes.Send p) (expression_back e)
node_back (nodes.Recv p) = refl
node_back (nodes.Then a b) = refl
node_back (nodes.Choose a b) = refl
node_back (nodes.Catch a b) = refl
node_back (nodes.If c a b) = refl

-- ---- how many calculations

count_is : (e : Expr) → count_in (outline_of e) ≡ length (listed_in e)
count_is (exprs.Whole x) = refl
count_is (exprs.Tuple cs) = refl

pub needed_is : (n : Node) → needed (form_of n) ≡ length (calculations_of n)
needed_is (nodes.Always e) = count_is e
needed_is nodes.Never = refl
needed_is nodes.Fresh = refl
needed_is (nodes.Throw e) = count_is e
needed_is (nodes.Send p e) = omega (arith, count_is e)
needed_is (nodes.Recv p) = refl
needed_is (nodes.Then a b) = refl
needed_is (nodes.Choose a b) = refl
needed_is (nodes.Catch a b) = refl
needed_is (nodes.If c a b) = refl

few_needed : (f : Form) → IsFew f → needed f ≤ 5
few_needed (forms.Always e) h = omega arith
few_needed forms.Never h = omega arith
few_needed forms.Fresh h = omega arith
few_needed (forms.Throw e) h = omega arith
few_needed (forms.Send e) h = omega arith
few_needed forms.Recv h = omega arith
few_needed (forms.Then a b) h = omega arith
few_needed (forms.Choose a b) h = omega arith
few_needed (forms.Catch a b) h = omega arith
few_needed (forms.If t a b) h = omega arith

-- ---- what stands behind a stretch doesn't matter

expression_more : (e : Outline) (cs more : List Calc) → count_in e ≤ length cs → expression_in e (cs ++ more) ≡ expression_in e cs
expression_more (outlines.Whole x) cs more h = refl
expression_more (outlines.Tuple n) cs more h = ap exprs.Tuple (take-append-le n cs more h)

node_more : (f : Form) (cs more : List Calc) → needed f ≤ length cs → node_in f (cs ++ more) ≡ node_in f cs
node_more (forms.Always e) cs more h = ap nodes.Always (expression_more e cs more h)
node_more (forms.Throw e) cs more h = ap nodes.Throw (expression_more e cs more h)
node_more (forms.Send e) (c ∷ cs) more h = ap (nodes.Send (primitive_in c)) (expression_more e cs more (omega arith))
node_more forms.Recv (c ∷ cs) more h = refl
node_more (forms.If t a b) (c ∷ d ∷ cs) more h = refl
node_more forms.Never cs more h = refl
node_more forms.Fresh cs more h = refl
node_more (forms.Then a b) cs more h = refl
node_more (forms.Choose a b) cs more h = refl
node_more (forms.Catch a b) cs more h = refl
node_more (forms.Send e) [] more h = absurd (omega arith)
node_more forms.Recv [] more h = absurd (omega arith)
node_more (forms.If t a b) [] more h = absurd (omega arith)
node_more (forms.If t a b) (c ∷ []) more h = absurd (omega arith)

node_of_more : (slot : Slot) (list more : List Calc) → IsWithin list slot → node_of (list ++ more) slot ≡ node_of list slot
node_of_more slot list more w =
    ap (node_in slot.form) (drop-append-le slot.from list more (omega (arith, w.within))) ∙
    node_more slot.form (drop slot.from list) more (omega (arith, w.within, length-drop slot.from list))

nodes_more : (slots : List Slot) (list more : List Calc) → AllByRecursion (IsWithin list) slots → nodes_of slots (list ++ more) ≡ nodes_of slots list
nodes_more [] list more a = refl
nodes_more (s ∷ slots) list more a = ap (λ n. n ∷ nodes_of slots (list ++ more)) (node_of_more s list more a.0) ∙ ap (λ ns. node_of list s ∷ ns) (nodes_more slots list more a.1)

within_more : (slots : List Slot) (list more : List Calc) → AllByRecursion (IsWithin list) slots → AllByRecursion (IsWithin (list ++ more)) slots
within_more [] list more a = tt
within_more (s ∷ slots) list more a = (record { within = omega (arith, a.0.within, length-append list more); few = a.0.few }, within_more slots list more a.1)

-- ---- one node more

pub record Appended (slots : List Slot) (list : List Calc) (n : Node) : Type 0 where
  pub nodes : nodes_of (slots ++ record { form = form_of n; from = length list } ∷ []) (list ++ calculations_of n) ≡ nodes_of slots list ++ n ∷ []
  pub stored : IsStored (slots ++ record { form = form_of n; from = length list } ∷ []) (list ++ calculations_of n)

pub appended : (slots : List Slot) (list : List Calc) (n : Node) → IsStored slots list → IsFew (form_of n) → Appended slots list n
appended slots list n s f =
    let slot : Slot = record { form = form_of n; from = length list } in
    let long = length-append list (calculations_of n) in
    let needs = needed_is n in
    let last : node_of (list ++ calculations_of n) slot ≡ n = ap (node_in (form_of n)) (drop-append_seam list (calculations_of n)) ∙ node_back n in
    record {
      nodes = map-append (node_of (list ++ calculations_of n)) slots (slot ∷ []) ∙
          ap (λ ns. ns ++ node_of (list ++ calculations_of n) slot ∷ []) (nodes_more slots list (calculations_of n) s.each) ∙ ap (λ m. nodes_of slots list ++ m ∷ []) last;
      stored = record {
        each = AllByRecursion-append (IsWithin (list ++ calculations_of n)) slots slot (within_more slots list (calculations_of n) s.each) (record { within = omega (arith, long, needs); few = f });
        short = omega (arith, s.short, long, needs, few_needed (form_of n) f, length-append slots (slot ∷ []));
      };
    }

-- the same of lists that are these
pub record Grown (slots new_slots : List Slot) (list new_list : List Calc) (n : Node) : Type 0 where
  pub nodes : nodes_of new_slots new_list ≡ nodes_of slots list ++ n ∷ []
  pub stored : IsStored new_slots new_list

pub grown : (slots new_slots : List Slot) (list new_list : List Calc) (n : Node) (form : Form) (from : ℕ) → IsStored slots list → IsFew form → form ≡ form_of n → from ≡ length list →
    new_slots ≡ slots ++ record { form = form; from = from } ∷ [] → new_list ≡ list ++ calculations_of n → Grown slots new_slots list new_list n
grown slots new_slots list new_list n form from s few f k e g =
    let more = appended slots list n s (subst IsFew f few) in
    let slot : new_slots ≡ slots ++ record { form = form_of n; from = length list } ∷ [] =
    e ∙ ap (λ x. slots ++ record { form = x; from = from } ∷ []) f ∙ ap (λ x. slots ++ record { form = form_of n; from = x } ∷ []) k in
    rw (slot, g) (record { nodes = more.nodes; stored = more.stored })

-- ---- reading one

pub within_at : (list : List Calc) (slots : List Slot) (i : ℕ) (slot : Slot) → AllByRecursion (IsWithin list) slots → slice_get slots i ≡ Some slot → IsWithin list slot
within_at list [] i slot a e = absurd cc
within_at list (s ∷ slots) zero slot a e = let P : Slot → Type 0 = IsWithin list in let same : s ≡ slot = cc in subst P same a.0
within_at list (s ∷ slots) (suc i) slot a e = within_at list slots i slot a.1 e

pub node_at : (list : List Calc) (slots : List Slot) (i : ℕ) (slot : Slot) → slice_get slots i ≡ Some slot → slice_get (nodes_of slots list) i ≡ Some (node_of list slot)
node_at list slots i slot e = slice_get-map (node_of list) slots i ∙ ap (option_map (node_of list)) e
