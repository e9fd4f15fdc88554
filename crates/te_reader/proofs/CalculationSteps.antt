-- One turn of the loop over a tuple's calculations.
use Rattle.std.proofs.Common.{◌≡◌, ℕ, suc, ◌+◌, ◌-◌, ◌<◌, List, [], ◌∷◌, ◌++◌, refl, sym, ◌∙◌, ap, append_assoc}
use Rattle.std.specs.Prelude.{Some, None}
use Rattle.te_terms.specs.Expressions.{Calculation}
use Rattle.te_reader.specs.declared.token.Sign.TheVariants as signs
use Rattle.te_reader.specs.Tokens.{Token}
use Rattle.te_reader.specs.Heads.{sign_first}
use Rattle.te_reader.specs.Grammar.{Names}
use Rattle.te_reader.specs.NameReads.{Read, ◌>>=◌}
use Rattle.te_reader.specs.ExpressionReads.{read_calculation, read_calculations}
use Rattle.te_reader.specs.Behind.{behind}
use Rattle.te_reader.proofs.LoopSteps.{one_turn}

opened : (most i : ℕ) (done : List Calculation) (s : Names) (ts : List Token) (all : Read (List Calculation)) → i < most
    → behind done (read_calculations (most - i) s ts) ≡ all → behind done
    (read_calculations (suc (most - (i + 1))) s ts) ≡ all
opened most i done s ts all h e = rw (← one_turn most i h) e

module _ (most i : ℕ) (done : List Calculation) (s : Names) (ts : List Token) (all : Read (List Calculation)) (lt : i < most) (kept : behind done (read_calculations (most - i) s ts) ≡ all) where
  pub no_calculation : read_calculation s ts ≡ None → all ≡ None
  unfolding read_calculations
  no_calculation e = sym (opened most i done s ts all lt kept) ∙ (rw e refl)

  module _ (c : Calculation) (after : List Token) (read : read_calculation s ts ≡ Some (c, after)) where
    pub last_calculation : (rest : List Token) → sign_first signs.Close after ≡ Some rest → all ≡ Some (done ++ c ∷ [], rest)
    unfolding read_calculations
    last_calculation rest e = sym (opened most i done s ts all lt kept) ∙ (rw (read, e) refl)

    pub no_comma : sign_first signs.Close after ≡ None → sign_first signs.Comma after ≡ None → all ≡ None
    unfolding read_calculations
    no_comma e f = sym (opened most i done s ts all lt kept) ∙ (rw (read, e, f) refl)

    pub more_calculations : (next : List Token) → sign_first signs.Close after ≡ None
        → sign_first signs.Comma after ≡ Some next → behind (done ++ c ∷ [])
        (read_calculations (most - (i + 1)) s next) ≡ all
    unfolding read_calculations
    more_calculations next e f =
        let start : behind done (read_calculations (suc (most - (i + 1))) s ts) ≡ behind (done ++ c ∷ [])
        (read_calculations (most - (i + 1)) s next) = rw (read, e, f)
        (by (read_calculations (most - (i + 1)) s next)) in
        sym start ∙ opened most i done s ts all lt kept where
          by : (o : Read (List Calculation)) → behind done (o >>= λ cs. Some (c ∷ cs.0, cs.1)) ≡ behind (done ++ c ∷ []) o
          by None = refl
          by (Some r) = ap (λ xs. Some (xs, r.1)) (sym (append_assoc done (c ∷ []) r.0))

pub no_more : (done : List Calculation) (s : Names) (ts : List Token) (all : Read (List Calculation)) (left : ℕ) → left ≡ 0 → behind done (read_calculations left s ts) ≡ all → all ≡ None
unfolding read_calculations
no_more done s ts all left z e = sym e ∙ (rw z refl)
