-- What is told of a text is the fault that stands in it.
use Rattle.std.proofs.Common.{◌≡◌, ℕ, ◌-◌, ◌<◌, Bool, true, false, List, [], ◌∷◌, length, refl, sym, ◌∙◌, ap, inl, inr, arith}
use Rattle.std.specs.Prelude.{Option, Some, None, ◌⊎◌, nat_le}
use Rattle.std.proofs.lemmas.Bool.Decides.{nat_tests}
use Rattle.te_script.specs.Scripts.{Program}
use Rattle.te_reader.specs.declared.cause.Which.TheVariants as limits
use Rattle.te_reader.specs.declared.cause.Cause.{Cause}
use Rattle.te_reader.specs.declared.cause.Cause.TheVariants as causes
use Rattle.te_reader.specs.declared.fault.ScriptFault.{ScriptFault}
use Rattle.te_reader.specs.declared.fault.ScriptFault.TheVariants.{Memory}
use Rattle.te_reader.specs.Text.{Text}
use Rattle.te_reader.specs.Reads.{read_text}
use Rattle.te_reader.specs.Rules.{nothing_before}
use Rattle.te_reader.specs.Spots.{spots}
use Rattle.te_reader.specs.declared.part.Part.TheVariants.{Script}
use Rattle.te_reader.specs.Runs.{Found, found, run, found_if, fault_of}
use Rattle.te_reader.specs.Places.{fault_from, place_in, StandsIn, HasFault}
use Rattle.te_reader.specs.Telling.{FaultIsTold}
use Rattle.te_reader.proofs.FaultIsFound.{found_is_fault, fault_is_found}
use Rattle.te_reader.proofs.SpotsStand.{spots_stand, only_spots}
use Rattle.te_reader.proofs.TextIsRead.{program_of_text_is_read}
use Rattle.te_reader.proofs.NoFaultIsText.{no_fault_is_text, text_has_no_fault}

-- what is found stands in the text
found_stands_in : (bytes : List ℕ) (f : Found) → fault_of bytes ≡ Some f → StandsIn bytes f.cause f.left
unfolding fault_of
found_stands_in bytes f e = by (nat_le (length bytes) 1048576) refl e where
  by : (b : Bool) → nat_le (length bytes) 1048576 ≡ b → found_if b (length bytes) (run (Script ∷ []) nothing_before (spots bytes)) ≡ Some f → StandsIn bytes f.cause f.left
  by true w h = inr (grind (arith, nat_tests, w), spots bytes, spots_stand bytes, found_is_fault (spots bytes) f.cause f.left h)
  by false w h =
      let same : found (causes.Limit limits.Bytes) (length bytes) ≡ f = cc in
      inl (grind (arith, nat_tests, w), ap (λ x. x.cause) (sym same), ap (λ x. x.left) (sym same))

-- what stands in the text is found
stands_is_found : (bytes : List ℕ) (k : Cause) (left : ℕ) → StandsIn bytes k left → fault_of bytes ≡ Some (found k left)
unfolding fault_of
stands_is_found bytes k left (inl h) =
    let long : nat_le (length bytes) 1048576 ≡ false = grind (arith, nat_tests, h.0) in
    rw (long, h.1, h.2) refl
stands_is_found bytes k left (inr h) =
    let small : nat_le (length bytes) 1048576 ≡ true = grind (arith, nat_tests, h.0) in
    let ran : run (Script ∷ []) nothing_before (spots bytes) ≡ Some (found k left) = ap (run (Script ∷ []) nothing_before) (sym (only_spots h.1 bytes h.2)) ∙ fault_is_found h.1 k left h.3 in
    rw (small, ran) refl

-- more bytes than a script may have
pub long_is_told : (bytes : List ℕ) → 1048576 < length bytes → FaultIsTold bytes (fault_from (causes.Limit limits.Bytes) (record { line = 1; column = 1 }))
unfolding fault_of
long_is_told bytes h =
    let long : nat_le (length bytes) 1048576 ≡ false = grind (arith, nat_tests, h) in
    let none : length bytes - length bytes ≡ 0 = omega arith in
    inr (found (causes.Limit limits.Bytes) (length bytes), rw long refl, rw none refl)

pub found_is_told : (bytes : List ℕ) (f : Found) (e : ScriptFault) → fault_of bytes ≡ Some f → e ≡ fault_from f.cause (place_in bytes f.left) → FaultIsTold bytes e
found_is_told bytes f e found_it is = inr (f, found_it, is)

-- ---- the promises of reading

-- what is read of a text that is refused
pub refused_has_fault : (bytes : List ℕ) → read_text bytes ≡ None → fault_of bytes ≡ None → ⊥
refused_has_fault bytes refused none =
    let t = no_fault_is_text bytes none in
    let both : Some t.program ≡ None = sym (program_of_text_is_read bytes t.program t.text) ∙ refused in
    cc

pub told_is_fault : (bytes : List ℕ) (e : ScriptFault) → FaultIsTold bytes e → (e ≡ Memory) ⊎ HasFault bytes e
told_is_fault bytes e (inl h) = inl h
told_is_fault bytes e (inr h) = inr (record { cause = h.0.cause; left = h.0.left; stands = found_stands_in bytes h.0 h.1; told = h.2 })

pub fault_is_told : (bytes : List ℕ) (e told : ScriptFault) → FaultIsTold bytes told → HasFault bytes e → (told ≡ e) ⊎ (told ≡ Memory)
fault_is_told bytes e told (inl h) f = inr h
fault_is_told bytes e told (inr h) f =
    let both : Some h.0 ≡ Some (found f.cause f.left) = sym h.1 ∙ stands_is_found bytes f.cause f.left f.stands in
    let same : h.0 ≡ found f.cause f.left = cc in
    inl (h.2 ∙ ap (λ x. fault_from x.cause (place_in bytes x.left)) same ∙ sym f.told)

-- a text of a script has no fault
pub text_is_faultless : (bytes : List ℕ) (p : Program) (e : ScriptFault) → Text bytes p → HasFault bytes e → ⊥
text_is_faultless bytes p e text f =
    let both : Some (found f.cause f.left) ≡ None = sym (stands_is_found bytes f.cause f.left f.stands) ∙ text_has_no_fault bytes p text in
    cc

-- bytes that are a text of no script have a fault
pub text_or_fault : (bytes : List ℕ) → ((p : Program) × Text bytes p) ⊎ ((fault : ScriptFault) × HasFault bytes fault)
text_or_fault bytes = by (fault_of bytes) refl where
  by : (o : Option Found) → fault_of bytes ≡ o → ((p : Program) × Text bytes p) ⊎ ((fault : ScriptFault) × HasFault bytes fault)
  by None e = let t = no_fault_is_text bytes e in inl (t.program, t.text)
  by (Some f) e =
      inr (
        fault_from f.cause (place_in bytes f.left),
        record { cause = f.cause; left = f.left; stands = found_stands_in bytes f e; told = refl },
      )

-- a text has at most one fault
pub one_fault : (bytes : List ℕ) (fault other : ScriptFault) → HasFault bytes fault → HasFault bytes other → fault ≡ other
one_fault bytes fault other f g =
    let both : Some (found f.cause f.left) ≡ Some (found g.cause g.left) = sym (stands_is_found bytes f.cause f.left f.stands) ∙ stands_is_found bytes g.cause g.left g.stands in
    let same : found f.cause f.left ≡ found g.cause g.left = cc in
    f.told ∙ ap (λ x. fault_from x.cause (place_in bytes x.left)) same ∙ sym g.told
