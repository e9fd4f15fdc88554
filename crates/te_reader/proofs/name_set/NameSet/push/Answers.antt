use Rattle.std.proofs.Common.{rules, ◌≡◌, true, false, List, ℕ, [], ◌∷◌, ◌++◌, sym, ◌∙◌, ap, subst}
use Rattle.std.specs.Borrow.{Bor}
use Rattle.std.specs.BTreeMap.{BTreeMap}
use Rattle.te_reader.specs.NameSets.{FindsEachName}
use Rattle.te_reader.specs.Rules.{is_among}
use Rattle.te_reader.proofs.NameSetLemmas.{still_found, found_new, found_again}
use Rattle.te_reader.proofs.name_set.NameSet.push.Goals as goal
use Rattle.te_reader.proofs.name_set.NameSet.push.Goals.{then-not-contains+in_ok-insert, else-not-contains}

-- the lists and the index that a fact is of, exchanged for equal ones
moved : (a b : List (List ℕ)) (m n : BTreeMap (Bor (List ℕ)) ℕ) → b ≡ a → n ≡ m → FindsEachName a m → FindsEachName b n
moved a b m n e f h = subst (λ (x : List (List ℕ)). FindsEachName x n) (sym e) (subst (λ (x : BTreeMap (Bor (List ℕ)) ℕ). FindsEachName a x) (sym f) h)

pub invariant_of-self-in_err-push : goal.invariant_of-self-in_err-push
invariant_of-self-in_err-push c =
    let names = c.self.inside.names.items in
    elim c.if-not-contains.branch [
      | then-not-contains+in_ok-insert w ↦
          let new : is_among c.args.name.now names ≡ false = search rules in
          moved names c.push.new.self.items w.insert.new.self c.if-not-contains.self-inside.numbers
          (c.in_err-push.ensures.items ∙ ap (λ x. x.names.items) w.self-inside-is)
          (ap (λ x. x.numbers) w.self-inside-is)
          (still_found names c.args.name.now c.self.inside.numbers c.self.invariant w.insert.new.self w.len-number.result (search rules) w.in_ok-insert.ensures.updates new)
      | else-not-contains w ↦
          moved names c.push.new.self.items c.self.inside.numbers c.if-not-contains.self-inside.numbers
          (c.in_err-push.ensures.items ∙ ap (λ x. x.names.items) w.self-inside-is)
          (ap (λ x. x.numbers) w.self-inside-is) c.self.invariant
    ]

pub invariant_of-self-2 : goal.invariant_of-self-2
invariant_of-self-2 c =
    let names = c.self.inside.names.items in
    elim c.if-not-contains.branch [
      | then-not-contains+in_ok-insert w ↦
          let new : is_among c.args.name.now names ≡ false = search rules in
          moved (names ++ c.args.name.now ∷ []) c.push.new.self.items w.insert.new.self c.if-not-contains.self-inside.numbers (search rules) (ap (λ x. x.numbers) w.self-inside-is)
          (found_new names c.args.name.now c.self.inside.numbers c.self.invariant w.insert.new.self w.len-number.result (search rules) w.in_ok-insert.ensures.updates new)
      | else-not-contains w ↦
          let old : is_among c.args.name.now names ≡ true = search rules in
          moved (names ++ c.args.name.now ∷ []) c.push.new.self.items c.self.inside.numbers c.if-not-contains.self-inside.numbers (search rules) (ap (λ x. x.numbers) w.self-inside-is)
          (found_again names c.args.name.now c.self.inside.numbers c.self.invariant old)
    ]
