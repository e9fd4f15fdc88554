-- An option with a default and a range of numbers has a number of the range.
use Rattle.std.proofs.Common.{◌≡◌, ◌∙◌, ◌<◌, ◌≤◌, ℕ, Bool, true, false, List, [], ◌∷◌, length, Some, refl, sym, subst, ap, inl, inr, arith, cond, zero, suc}
use Rattle.std.specs.List.{All, slice_index_or}
use Rattle.std.specs.Str.{bytes_eq}
use Rattle.std.specs.Prelude.{option_map, option_and_then, slice_get, find}
use Rattle.std.specs.Borrow.{Bor}
use Rattle.std.proofs.lemmas.Slice.Eq.{bytes_eq-Decides}
use Rattle.std.proofs.lemmas.List.Elements.{All-get_or}
use Rattle.clap.specs.Words.{args_of, groups_of, IsParsed, IsParsedFrom, found_of, has_subcommand, matched_of, one_text, IsUnsignedIn, Accepts, parser_of, reading_of, read_as, SameRules}
use Rattle.clap.specs.Facts.{Entry, EntryPasses, PassesArg, HasReading, HasId, HasIn, WantsDefault, least_values, parser_of_value}
use Rattle.clap.specs.Built.{IsAuto}
use Rattle.clap.specs.declared.parser.matches.MatchedArg.{MatchedArg}
use Rattle.clap.specs.declared.parser.matches.ArgMatches.{ArgMatches}
use Rattle.clap.specs.declared.builder.action.ArgAction.TheVariants.{Set, Count}
use Rattle.clap.specs.declared.builder.arg.Arg.{Arg}
use Rattle.clap.specs.declared.builder.command.Command.{Command}
use Rattle.clap.specs.declared.builder.value_parser.ValueParser.{ValueParser}
use Rattle.clap.specs.declared.builder.value_parser.ValueParser.TheVariants as vp
use Rattle.clap.specs.declared.builder.value_parser.Reading.{Reading}
use Rattle.clap.specs.declared.builder.value_parser.Reading.TheVariants as readings
use Rattle.clap.proofs.CallerLemmas.{entry_by_id, same_rules_by_id}
use Rattle.tevents.specs.Words.{IsNumberArgument}

-- an entry of this id is found
found_in : (id : List ℕ) (xs : List Entry) → HasIn xs id → (x : MatchedArg) × (option_map (λ e. e.1) (find (λ e. bytes_eq e.0.now id) xs) ≡ Some x)
found_in id [] h = absurd (omega (h.1, arith))
found_in id (e ∷ es) (zero, lt, same) = go (bytes_eq e.0.now id) (same e)
  where
    go : (o : Bool) → o ≡ true → (x : MatchedArg) × (option_map (λ (y : Entry). y.1) (cond o (Some e) (find (λ y. bytes_eq y.0.now id) es)) ≡ Some x)
    go true h = (e.1, refl)
    go false h = cc
found_in id (e ∷ es) (suc i, lt, same) = go (found_in id es (i, omega (lt, arith), same)) (bytes_eq e.0.now id)
  where
    go : (x : MatchedArg) × (option_map (λ (y : Entry). y.1) (find (λ y. bytes_eq y.0.now id) es) ≡ Some x) → (o : Bool)
        → (x : MatchedArg) × (option_map (λ (y : Entry). y.1) (cond o (Some e) (find (λ y. bytes_eq y.0.now id) es))
        ≡ Some x)
    go later true = (e.1, refl)
    go later false = later

head_of : (P : Bor (List ℕ) → Type 0) (vs : List (Bor (List ℕ))) → 0 < length vs → All P vs → (v : Bor (List ℕ)) × (slice_get vs 0 ≡ Some v) × P v
head_of P [] lt h = absurd (omega (lt, arith))
head_of P (v ∷ vs) lt h = (v, refl, All-get_or P (v ∷ vs) 0 v (omega arith) h)

-- where an option stands among the arguments of a command, and that no other has its name
pub record IsPlaced (old : Command) (k : ℕ) (a : Arg) : Type 0 where
  pub within : k < length (args_of old)
  pub is : (d : Arg) → slice_index_or (args_of old) k d ≡ a
  pub alone : (j : ℕ) (e : Arg) → j < length (args_of old) → bytes_eq (slice_index_or (args_of old) j e).id.now a.id.now ≡ true → j ≡ k
  pub named : a.id.now ≡ [] → ⊥
  pub own : IsAuto a → ⊥

module _ (old : Command) (m : ArgMatches) (p : IsParsedFrom old m) (parsed : IsParsed p.built (found_of m) (has_subcommand m)) (groups : groups_of p.built ≡ [])
    (k : ℕ) (a : Arg) (placed : IsPlaced old k a) (low high : ℕ) (is_number : IsNumberArgument a a.id.now (vp.Unsigned low high)) where
  -- an argument of this name is read as the option's rules say
  rules : (x : (j : ℕ) × (x : Arg) × (j < length (args_of p.built)) × (slice_index_or (args_of p.built) j x ≡ x)) → bytes_eq x.1.id.now a.id.now ≡ true → SameRules a x.1
  rules x same = subst (λ (b : Arg). SameRules b x.1) (placed.is a)
      (same_rules_by_id old m p k a placed.within
      (λ j e lt s. placed.alone j e lt (subst (λ (b : Arg). bytes_eq (slice_index_or (args_of old) j e).id.now b.id.now ≡ true) (placed.is a) s))
      (λ auto. placed.own (subst IsAuto (placed.is a) auto))
      x.0 x.1 x.2 x.3 (subst (λ (b : Arg). bytes_eq x.1.id.now b.id.now ≡ true) (sym (placed.is a)) same))

  accepts : (v : List ℕ) → PassesArg p.built a.id.now v → IsUnsignedIn low high v
  accepts v any =
      let s : SameRules a any.1 = rules (any.0, any.1, any.2, any.3) any.4.0 in
      let is : parser_of any.1 ≡ vp.Unsigned low high = ap parser_of_value (s.parser (vp.Unsigned low high) is_number.parser) in
      subst (λ (q : ValueParser). Accepts any.1.ignore_case q v) is any.4.1

  reads : (r : Reading) → HasReading p.built a.id.now r → r ≡ readings.AsWritten
  reads r any =
      let s : SameRules a any.1 = rules (any.0, any.1, any.2, any.3) any.4.0 in
      sym any.4.1 ∙ ap reading_of (ap parser_of_value (s.parser (vp.Unsigned low high) is_number.parser))

  has_id : HasId (found_of m) a.id.now
  has_id =
      let kept = p.from.kept k a placed.within in
      let old_is : slice_index_or (args_of old) k a ≡ a = placed.is a in
      let wants : WantsDefault (slice_index_or (args_of old) k a) = subst WantsDefault (sym old_is) is_number.default in
      let wants2 : WantsDefault (slice_index_or (args_of p.built) k a) = (kept.1.ifs ∙ wants.0, rw (kept.1.defaults wants.1) wants.1) in
      subst (λ (i : List ℕ). HasId (found_of m) i) (ap (λ i. i.now) (kept.1.id ∙ ap (λ (b : Arg). b.id) old_is)) (parsed.defaults k a kept.0 wants2)

  one_text_is : (x : MatchedArg) → matched_of (found_of m) a.id.now ≡ Some x → x.reading ≡ readings.AsWritten
      → (v : Bor (List ℕ)) → slice_get x.vals.items 0 ≡ Some v → one_text (found_of m) a.id.now ≡ Some v.now
  one_text_is x found is v first =
      ap (option_and_then (λ (y : MatchedArg). option_map (λ (s : Bor (List ℕ)). read_as y.reading s.now) (slice_get y.vals.items 0))) found
      ∙ ap (option_map (λ (s : Bor (List ℕ)). read_as x.reading s.now)) first ∙ ap (λ (r : Reading). Some (read_as r v.now)) is

  in_entry : (x : MatchedArg) → matched_of (found_of m) a.id.now ≡ Some x → (e : Entry) → e.1 ≡ x → e.0.now ≡ a.id.now → EntryPasses p.built e
      → (t : List ℕ) × (one_text (found_of m) a.id.now ≡ Some t) × IsUnsignedIn low high t
  in_entry x found e same key pass =
      let no_group : e.1.is_group ≡ true → ⊥ = λ g. elim (pass.3 g) [
        | inl empty ↦ placed.named (sym key ∙ empty)
        | inr lots ↦ let bad : 0 < 0 = rw groups at lots in absurd (omega (bad, arith))
      ] in
      let filled : 0 < length e.1.vals.items = elim pass.1 [
        | inl h ↦ absurd (no_group h.0)
        | inr (inl v) ↦ v
        | inr (inr (inl h)) ↦
            let any = h.1 in
            let s : SameRules a any.1 = rules (any.0, any.1, any.2, any.3) (subst (λ (i : List ℕ). bytes_eq any.1.id.now i ≡ true) key any.4.0) in
            let is_set : any.1.action ≡ Some Set = s.action Set is_number.set in
            let bad : Set ≡ Count = rw is_set at any.4.1 in
            cc
        | inr (inr (inr any)) ↦
            let s : SameRules a any.1 = rules (any.0, any.1, any.2, any.3) (subst (λ (i : List ℕ). bytes_eq any.1.id.now i ≡ true) key any.4.0) in
            elim any.4.1 [
              | inl none ↦ let one : 1 ≤ least_values any.1 = s.least is_number.set is_number.some_value in absurd (omega (one, none, arith))
              | inr some ↦ let bad : false ≡ true = rw (s.val_delim, is_number.delimiter) at some in cc
            ]
      ] in
      let all : All (λ v. PassesArg p.built a.id.now v.now) e.1.vals.items = elim pass.0 [
        | inl g ↦ absurd (no_group g)
        | inr vals ↦ subst (λ (w : List ℕ). All (λ v. PassesArg p.built w v.now) e.1.vals.items) key vals
      ] in
      let is : e.1.reading ≡ readings.AsWritten = elim pass.4 [
        | inl g ↦ absurd (no_group g)
        | inr h ↦ reads e.1.reading (subst (λ (w : List ℕ). HasReading p.built w e.1.reading) key h)
      ] in
      let head : (v : Bor (List ℕ)) × (slice_get e.1.vals.items 0 ≡ Some v) × PassesArg p.built a.id.now v.now = head_of (λ v. PassesArg p.built a.id.now v.now) e.1.vals.items filled all in (
        head.0.now,
        one_text_is x found (subst (λ (y : MatchedArg). y.reading ≡ readings.AsWritten) same is) head.0
            (subst (λ (y : MatchedArg). slice_get y.vals.items 0 ≡ Some head.0) same head.1),
        accepts head.0.now head.2,
      )

  pub number_given : (t : List ℕ) × (one_text (found_of m) a.id.now ≡ Some t) × IsUnsignedIn low high t
  number_given =
      let x : (x : MatchedArg) × (matched_of (found_of m) a.id.now ≡ Some x) = found_in a.id.now (found_of m).entries.items has_id in
      let e = entry_by_id (EntryPasses p.built) (found_of m).entries.items a.id.now x.0 parsed.values x.1 in
      in_entry x.0 x.1 e.0 e.1 ((bytes_eq-Decides e.0.0.now a.id.now).0 e.2) e.3
