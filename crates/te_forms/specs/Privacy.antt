-- Which terms name a channel of a ring, and whose histories keep a ring private. This project's own.
use Rattle.std.specs.Prelude.{◌≡◌, ◌⊎◌, ℕ, List, Some, slice_get}
use Rattle.std.specs.List.{AllByRecursion}
use Rattle.te_terms.specs.declared.value.Atom.{Atom}
use Rattle.te_terms.specs.declared.value.Atom.TheVariants.{Int, Chan}
use Rattle.te_terms.specs.Expressions.{Variable, register, name, known, Primitive, int, chan, part, Calculation, one, both, Expression, whole, tuple}
use Rattle.te_terms.specs.Terms.{Term, always, never, fresh, throw, send, recv, and_then, choose, catch, when}
use Rattle.te_history.specs.declared.entry.Entry.{Entry}
use Rattle.te_history.specs.declared.entry.Entry.TheVariants.{Post}
use Rattle.te_forms.specs.declared.form.Form.{Form}
use Rattle.te_forms.specs.Rings.{IsOnRing}
use Rattle.te_forms.specs.Forms.{IsForm, offer_of}

-- ---- no channel of the ring is named

abbrev pub AtomAvoids : List ℕ → Atom → Type 0
AtomAvoids ring (Int z) = Unit {0}
AtomAvoids ring (Chan c) = ¬ IsOnRing ring c

abbrev pub ValueAvoids : List ℕ → List Atom → Type 0
ValueAvoids ring v = AllByRecursion (AtomAvoids ring) v

-- a value that replaced a variable names each channel in it, whichever place of it is asked for
abbrev pub VariableAvoids : List ℕ → Variable → Type 0
VariableAvoids ring (register r) = Unit {0}
VariableAvoids ring (name n) = Unit {0}
VariableAvoids ring (known v) = ValueAvoids ring v

abbrev pub PrimitiveAvoids : List ℕ → Primitive → Type 0
PrimitiveAvoids ring (int z) = Unit {0}
PrimitiveAvoids ring (chan c) = ¬ IsOnRing ring c
PrimitiveAvoids ring (part x d) = VariableAvoids ring x

abbrev pub CalculationAvoids : List ℕ → Calculation → Type 0
CalculationAvoids ring (one p) = PrimitiveAvoids ring p
CalculationAvoids ring (both o p q) = PrimitiveAvoids ring p × PrimitiveAvoids ring q

abbrev pub ExpressionAvoids : List ℕ → Expression → Type 0
ExpressionAvoids ring (whole x) = VariableAvoids ring x
ExpressionAvoids ring (tuple cs) = AllByRecursion (CalculationAvoids ring) cs

abbrev pub TermAvoids : List ℕ → Term → Type 0
TermAvoids ring (always e) = ExpressionAvoids ring e
TermAvoids ring never = Unit {0}
TermAvoids ring fresh = Unit {0}
TermAvoids ring (throw e) = ExpressionAvoids ring e
TermAvoids ring (send p e) = PrimitiveAvoids ring p × ExpressionAvoids ring e
TermAvoids ring (recv p) = PrimitiveAvoids ring p
TermAvoids ring (and_then e n f) = TermAvoids ring e × TermAvoids ring f
TermAvoids ring (choose e f) = TermAvoids ring e × TermAvoids ring f
TermAvoids ring (catch e n h) = TermAvoids ring e × TermAvoids ring h
TermAvoids ring (when test p q e f) = PrimitiveAvoids ring p × PrimitiveAvoids ring q × TermAvoids ring e × TermAvoids ring f

-- ---- private rings

-- the term of a form whose offer names no channel of the ring
pub record IsOwn (ring : List ℕ) (t : Term) : Type 0 where
  pub form : Form
  pub is_form : IsForm ring form t
  pub offer_avoids : ValueAvoids ring (offer_of form)

abbrev pub FitsRing : List ℕ → Term → Type 0
FitsRing ring t = IsOwn ring t ⊎ TermAvoids ring t

-- each event that is posted is a form's over the ring, or names no channel of it
abbrev pub IsPrivate : List ℕ → List Entry → Type 0
IsPrivate ring entries = (k by ticket : ℕ) (event : Term) → slice_get entries k ≡ Some (Post by ticket event) → FitsRing ring event
