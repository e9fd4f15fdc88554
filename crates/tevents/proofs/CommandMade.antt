-- The command has its three arguments, each in its place.
use Rattle.std.proofs.Common.{◌≡◌, ◌∙◌, ◌<◌, ◌++◌, ℕ, true, false, List, [], ◌∷◌, length, refl, sym, subst, ap, ap₂, inl, inr, arith, zero, suc, codes}
use Rattle.std.specs.List.{All, slice_index_or, slice_index}
use Rattle.std.specs.Str.{bytes_eq}
use Rattle.std.proofs.lemmas.List.Elements.{All-nil}
use Rattle.clap.specs.Words.{Rule, Text, args_of, groups_of, app_of, rule_of, with_rule, IsPlain, IsPlainArg, AddsArg, SameRules, new_app}
use Rattle.clap.specs.Built.{IsAuto}
use Rattle.clap.specs.declared.builder.action.ArgAction.TheVariants.{Set}
use Rattle.clap.specs.declared.builder.arg.Arg.{Arg}
use Rattle.clap.specs.declared.builder.command.Command.{Command}
use Rattle.clap.specs.declared.builder.value_parser.ValueParser.{ValueParser}
use Rattle.clap.specs.declared.builder.value_parser.ValueParser.TheVariants as vp
use Rattle.clap.proofs.CallerLemmas.{added_plain}
use Rattle.tevents.specs.Words.{mode_rule, budget_rule, script_rule, without_name, program, IsNumberArgument}
use Rattle.tevents.proofs.NumbersGiven.{IsPlaced}

kept : (a b : Arg) (name : Text) (range : ValueParser) → SameRules a b → IsNumberArgument a name range → IsNumberArgument b b.id.now range
kept a b name range s n = record {
  id_is = refl;
  default = (s.ifs ∙ n.default.0, rw (s.defaults n.default.1) n.default.1);
  set = s.action Set n.set;
  delimiter = s.val_delim ∙ n.delimiter;
  some_value = s.least n.set n.some_value;
  parser = s.parser range n.parser;
}

-- three arguments of these names
pub record AreNamed (x y z : Arg) : Type 0 where
  pub mode : x.id.now ≡ codes "mode"
  pub budget : y.id.now ≡ codes "budget"
  pub number : z.id.now ≡ codes "number"

alone_second : (x y z : Arg) → AreNamed x y z → (j : ℕ) (e : Arg) → j < 3 → bytes_eq (slice_index_or (x ∷ (y ∷ (z ∷ []))) j e).id.now y.id.now ≡ true → j ≡ 1
alone_second x y z n zero e lt h = let bad : false ≡ true = rw (n.mode, n.budget) at h in cc
alone_second x y z n (suc zero) e lt h = refl
alone_second x y z n (suc (suc zero)) e lt h = let bad : false ≡ true = rw (n.number, n.budget) at h in cc
alone_second x y z n (suc (suc (suc j))) e lt h = absurd (omega (lt, arith))

alone_third : (x y z : Arg) → AreNamed x y z → (j : ℕ) (e : Arg) → j < 3 → bytes_eq (slice_index_or (x ∷ (y ∷ (z ∷ []))) j e).id.now z.id.now ≡ true → j ≡ 2
alone_third x y z n zero e lt h = let bad : false ≡ true = rw (n.mode, n.number) at h in cc
alone_third x y z n (suc zero) e lt h = let bad : false ≡ true = rw (n.budget, n.number) at h in cc
alone_third x y z n (suc (suc zero)) e lt h = refl
alone_third x y z n (suc (suc (suc j))) e lt h = absurd (omega (lt, arith))

head_is : (a : Arg) (t : Text) → a.id.now ≡ t → slice_index a.id.now 0 ≡ slice_index t 0
head_is a t e = ap (λ l. slice_index l 0) e

not_budget_auto : (a : Arg) → a.id.now ≡ codes "budget" → IsAuto a → ⊥
not_budget_auto a e (inl h) = let bad : 98 ≡ 104 = ap (λ l. slice_index l 0) (sym e ∙ h) in absurd (omega (bad, arith))
not_budget_auto a e (inr h) = let bad : 98 ≡ 118 = ap (λ l. slice_index l 0) (sym e ∙ h) in absurd (omega (bad, arith))

not_number_auto : (a : Arg) → a.id.now ≡ codes "number" → IsAuto a → ⊥
not_number_auto a e (inl h) = let bad : 110 ≡ 104 = ap (λ l. slice_index l 0) (sym e ∙ h) in absurd (omega (bad, arith))
not_number_auto a e (inr h) = let bad : 110 ≡ 118 = ap (λ l. slice_index l 0) (sym e ∙ h) in absurd (omega (bad, arith))

-- a command with the mode and both options
pub record IsMade (c : Command) : Type 0 where
  pub budget : Arg
  pub number : Arg
  pub budget_id : budget.id.now ≡ codes "budget"
  pub number_id : number.id.now ≡ codes "number"
  pub budget_is : IsNumberArgument budget budget.id.now (vp.Unsigned 1 1000000)
  pub number_is : IsNumberArgument number number.id.now (vp.Unsigned 0 999)
  pub budget_placed : IsPlaced c 1 budget
  pub number_placed : IsPlaced c 2 number
  pub app : app_of c ≡ program
  pub plain : IsPlain c

module _ (c0 c1 c2 c3 : Command) (mode budget number : Arg) (none : args_of c0 ≡ []) (groups : groups_of c0 ≡ []) (app : app_of c0 ≡ without_name (new_app (codes "tevents")))
    (first : AddsArg c0 mode c1) (second : AddsArg c1 budget c2) (third : AddsArg c2 number c3)
    (mode_is : rule_of mode ≡ mode_rule) (budget_is : rule_of budget ≡ budget_rule) (number_is : rule_of number ≡ script_rule)
    (plain_mode : IsPlainArg mode) (plain_budget : IsPlainArg budget) (plain_number : IsPlainArg number)
    (local_mode : mode.global ≡ false) (local_budget : budget.global ≡ false) (local_number : number.global ≡ false)
    (takes_budget : IsNumberArgument budget (codes "budget") (vp.Unsigned 1 1000000)) (takes_number : IsNumberArgument number (codes "number") (vp.Unsigned 0 999)) where
  list : args_of c3 ≡ first.arg ∷ (second.arg ∷ (third.arg ∷ []))
  list = third.args ∙ ap (λ l. l ++ (third.arg ∷ [])) (second.args ∙ ap (λ l. l ++ (second.arg ∷ [])) (first.args ∙ ap (λ l. l ++ (first.arg ∷ [])) none))

  named : AreNamed first.arg second.arg third.arg
  named = record {
    mode = ap (λ i. i.now) first.rules.id ∙ ap (λ (r : Rule). r.id) mode_is;
    budget = ap (λ i. i.now) second.rules.id ∙ takes_budget.id_is;
    number = ap (λ i. i.now) third.rules.id ∙ takes_number.id_is;
  }

  app_is : app_of c3 ≡ program
  unfolding program
  app_is = third.shape local_number ∙ ap₂ with_rule (second.shape local_budget ∙ ap₂ with_rule (first.shape local_mode ∙ ap₂ with_rule app mode_is) budget_is) number_is

  plain0 : IsPlain c0
  plain0 = (subst (All IsPlainArg) (sym none) (All-nil IsPlainArg), groups)

  pub command_made : IsMade c3
  command_made = record {
    budget = second.arg;
    number = third.arg;
    budget_id = named.budget;
    number_id = named.number;
    budget_is = kept budget second.arg (codes "budget") (vp.Unsigned 1 1000000) second.rules takes_budget;
    number_is = kept number third.arg (codes "number") (vp.Unsigned 0 999) third.rules takes_number;
    budget_placed = record {
      within = rw list (omega arith);
      is = λ d. ap (λ l. slice_index_or l 1 d) list;
      alone = λ j e lt h. alone_second first.arg second.arg third.arg named j e
          (subst (λ (l : List Arg). j < length l) list lt) (subst
          (λ (l : List Arg). bytes_eq (slice_index_or l j e).id.now second.arg.id.now ≡ true) list h);
      named = λ e. (let bad : codes "budget" ≡ [] = sym named.budget ∙ e in cc);
      own = not_budget_auto second.arg named.budget;
    };
    number_placed = record {
      within = rw list (omega arith);
      is = λ d. ap (λ l. slice_index_or l 2 d) list;
      alone = λ j e lt h. alone_third first.arg second.arg third.arg named j e
          (subst (λ (l : List Arg). j < length l) list lt) (subst
          (λ (l : List Arg). bytes_eq (slice_index_or l j e).id.now third.arg.id.now ≡ true) list h);
      named = λ e. (let bad : codes "number" ≡ [] = sym named.number ∙ e in cc);
      own = not_number_auto third.arg named.number;
    };
    app = app_is;
    plain = added_plain c2 c3 number third (added_plain c1 c2 budget second (added_plain c0 c1 mode first plain0 plain_mode) plain_budget) plain_number;
  }
