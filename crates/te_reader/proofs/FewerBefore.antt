-- An event that is read behind some nodes is read behind fewer.
use Rattle.std.proofs.Common.{◌≡◌, ℕ, zero, suc, ◌≤◌, List, length, refl, ◌∙◌, arith}
use Rattle.std.specs.Prelude.{Option, Some, None}
use Rattle.te_terms.specs.Terms.{Term, and_then, choose, catch, when}
use Rattle.te_reader.specs.declared.token.Word.TheVariants as words
use Rattle.te_reader.specs.declared.token.Sign.TheVariants as signs
use Rattle.te_reader.specs.Tokens.{Token}
use Rattle.te_reader.specs.Heads.{word_first, sign_first, bound_first}
use Rattle.te_reader.specs.Grammar.{Names, EventPlace, alone, in_do, in_choose}
use Rattle.te_reader.specs.NameReads.{Read, bound_in}
use Rattle.te_reader.specs.Tallies.{Tally, no_node, tally_with_event}
use Rattle.te_reader.specs.EventReads.{Parts, made, read_condition, read_braced, read_part, read_do, read_second}
use Rattle.te_reader.specs.EventReads.{read_choose, read_try, read_if, read_leaf, read_one, if_or_one, try_or_other}
use Rattle.te_reader.specs.EventReads.{choose_or_other, do_or_other, read_alone, part_or_last, read_in_do, bar_or_end}
use Rattle.te_reader.specs.EventReads.{read_in_choose, read_standing, read_event}
use Rattle.te_reader.proofs.NameLemmas.{bind_some}
use Rattle.te_reader.proofs.BuiltLemmas.{made_within}
use Rattle.te_reader.proofs.EventIsSpelled.{made_some}
use Rattle.te_reader.proofs.EventSteps.{part_made, second_made, choose_begun, try_made, if_made}

-- fewer nodes, and fewer fresh channels among them
pub record IsFewer (fewer used : Tally) : Type 0 where
  pub nodes : fewer.nodes ≤ used.nodes
  pub fresh : fewer.fresh ≤ used.fresh

with_both : (fewer used : Tally) (e : Term) → IsFewer fewer used → IsFewer (tally_with_event fewer e) (tally_with_event used e)
with_both fewer used e h = record { nodes = omega (arith, h.nodes); fresh = omega (arith, h.fresh) }

made_fewer : (fewer used : Tally) (t u : Term) (ts rest : List Token) → IsFewer fewer used
    → made used t ts ≡ Some (u, rest) → made fewer t ts ≡ Some (u, rest)
made_fewer fewer used t u ts rest h e =
    let m = made_some used t u ts rest e in
    made_within fewer t ts (omega (arith, h.nodes, m.1.0), omega (arith, h.fresh, m.1.1)) m.2 ∙ m.0

-- what is read behind some nodes is read behind fewer
abbrev pub Lowers : Parts → Type 0
Lowers next =
    (at : EventPlace) (s : Names) (fewer used : Tally) (t : Term) (ts rest : List Token) → IsFewer fewer used
    → next at s used ts ≡ Some (t, rest) → next at s fewer ts ≡ Some (t, rest)

module _ (next : Parts) (lowers : Lowers next) (s : Names) (fewer used : Tally) (k : IsFewer fewer used) where
  braced_fewer : (s : Names) (fewer used : Tally) → IsFewer fewer used → (t : Term) (ts rest : List Token)
      → read_braced next s used ts ≡ Some (t, rest) → read_braced next s fewer ts ≡ Some (t, rest)
  unfolding read_braced
  braced_fewer s fewer used k t ts rest h =
      let a = bind_some (sign_first signs.OpenBrace ts) _ _ h in
      let b = bind_some (next alone s used a.0) _ _ a.2 in
      let c = bind_some (sign_first signs.CloseBrace b.0.1) _ _ b.2 in
      rw (a.1, lowers alone s fewer used b.0.0 a.0 b.0.1 k b.1, c.1) c.2

  part_fewer : (t : Term) (n : List ℕ) (ts rest : List Token)
      → read_part next s used n ts ≡ Some (t, rest) → read_part next s fewer n ts ≡ Some (t, rest)
  unfolding read_part
  part_fewer t n ts rest h =
      let a = bind_some (sign_first signs.Arrow ts) _ _ h in
      let b = bind_some (next alone s used a.0) _ _ a.2 in
      let c = bind_some (sign_first signs.Semicolon b.0.1) _ _ b.2 in
      let d = bind_some (bound_in s n) _ _ c.2 in
      let f = bind_some (next in_do d.0 (tally_with_event used b.0.0) c.0) _ _ d.2 in
      let first = lowers alone s fewer used b.0.0 a.0 b.0.1 k b.1 in
      let second = lowers in_do d.0 (tally_with_event fewer b.0.0) (tally_with_event used b.0.0) f.0.0 c.0 f.0.1 (with_both fewer used b.0.0 k) f.1 in
      part_made next s fewer (tally_with_event fewer b.0.0) b.0.0 f.0.0 ts f.0.1 refl n d.0 a.0 b.0.1 c.0 a.1 first c.1 d.1 second
      ∙ made_fewer fewer used (and_then b.0.0 (length s.inners) f.0.0) t f.0.1 rest k f.2

  do_fewer : (t : Term) (ts rest : List Token)
      → read_do next s used ts ≡ Some (t, rest) → read_do next s fewer ts ≡ Some (t, rest)
  unfolding read_do
  do_fewer t ts rest h =
      let a = bind_some (sign_first signs.OpenBrace ts) _ _ h in
      let n = bind_some (bound_first a.0) _ _ a.2 in
      rw (a.1, n.1) (part_fewer t n.0.0 n.0.1 rest n.2)

  second_fewer : (t e : Term) (ts rest : List Token)
      → read_second next s used e ts ≡ Some (t, rest) → read_second next s fewer e ts ≡ Some (t, rest)
  unfolding read_second
  second_fewer t e ts rest h =
      let f = bind_some (next in_choose s (tally_with_event used e) ts) _ _ h in
      let second = lowers in_choose s (tally_with_event fewer e) (tally_with_event used e) f.0.0 ts f.0.1 (with_both fewer used e k) f.1 in
      second_made next s fewer (tally_with_event fewer e) e f.0.0 ts f.0.1 refl second ∙ made_fewer fewer used (choose e f.0.0) t f.0.1 rest k f.2

  choose_fewer : (t : Term) (ts rest : List Token)
      → read_choose next s used ts ≡ Some (t, rest) → read_choose next s fewer ts ≡ Some (t, rest)
  unfolding read_choose
  choose_fewer t ts rest h =
      let a = bind_some (sign_first signs.OpenBrace ts) _ _ h in
      let b = bind_some (next alone s used a.0) _ _ a.2 in
      let c = bind_some (sign_first signs.Bar b.0.1) _ _ b.2 in
      choose_begun next s fewer b.0.0 ts a.0 b.0.1 c.0 a.1 (lowers alone s fewer used b.0.0 a.0 b.0.1 k b.1) c.1 ∙ second_fewer t b.0.0 c.0 rest c.2

  try_fewer : (t : Term) (ts rest : List Token)
      → read_try next s used ts ≡ Some (t, rest) → read_try next s fewer ts ≡ Some (t, rest)
  unfolding read_try
  try_fewer t ts rest h =
      let e = bind_some (read_braced next s used ts) _ _ h in
      let a = bind_some (word_first words.Catch e.0.1) _ _ e.2 in
      let n = bind_some (bound_first a.0) _ _ a.2 in
      let more = bind_some (bound_in s n.0.0) _ _ n.2 in
      let f = bind_some (read_braced next more.0 (tally_with_event used e.0.0) n.0.1) _ _ more.2 in
      let first = braced_fewer s fewer used k e.0.0 ts e.0.1 e.1 in
      let second = braced_fewer more.0 (tally_with_event fewer e.0.0) (tally_with_event used e.0.0) (with_both fewer used e.0.0 k) f.0.0 n.0.1 f.0.1 f.1 in
      try_made next s fewer (tally_with_event fewer e.0.0) e.0.0 f.0.0 ts f.0.1 refl n.0.0 more.0 e.0.1 a.0 n.0.1 first a.1 n.1 more.1 second
      ∙ made_fewer fewer used (catch e.0.0 (length s.inners) f.0.0) t f.0.1 rest k f.2

  if_fewer : (t : Term) (ts rest : List Token)
      → read_if next s used ts ≡ Some (t, rest) → read_if next s fewer ts ≡ Some (t, rest)
  unfolding read_if
  if_fewer t ts rest h =
      let c = bind_some (read_condition s ts) _ _ h in
      let e = bind_some (read_braced next s used c.0.1) _ _ c.2 in
      let a = bind_some (word_first words.Else e.0.1) _ _ e.2 in
      let f = bind_some (read_braced next s (tally_with_event used e.0.0) a.0) _ _ a.2 in
      let first = braced_fewer s fewer used k e.0.0 c.0.1 e.0.1 e.1 in
      let second = braced_fewer s (tally_with_event fewer e.0.0) (tally_with_event used e.0.0) (with_both fewer used e.0.0 k) f.0.0 a.0 f.0.1 f.1 in
      if_made next s fewer (tally_with_event fewer e.0.0) e.0.0 f.0.0 ts f.0.1 refl c.0.0.0 c.0.0.1 c.0.0.2 c.0.1 e.0.1 a.0 c.1 first a.1 second
      ∙ made_fewer fewer used (when c.0.0.0 c.0.0.1 c.0.0.2 e.0.0 f.0.0) t f.0.1 rest k f.2

  one_fewer : (t : Term) (ts rest : List Token)
      → read_one s used ts ≡ Some (t, rest) → read_one s fewer ts ≡ Some (t, rest)
  unfolding read_one
  one_fewer t ts rest h =
      let l = bind_some (read_leaf s ts) _ _ h in
      rw l.1 (made_fewer fewer used l.0.0 t l.0.1 rest k l.2)

  alone_fewer : (t : Term) (ts rest : List Token)
      → read_alone next s used ts ≡ Some (t, rest) → read_alone next s fewer ts ≡ Some (t, rest)
  unfolding read_alone
  alone_fewer t ts rest h = by_do (word_first words.Do ts) h where
    by_if : (o : Option (List Token)) → if_or_one next s used ts o ≡ Some (t, rest) → if_or_one next s fewer ts o ≡ Some (t, rest)
    by_if None h = one_fewer t ts rest h
    by_if (Some behind) h = if_fewer t behind rest h

    by_try : (o : Option (List Token)) → try_or_other next s used ts o ≡ Some (t, rest) → try_or_other next s fewer ts o ≡ Some (t, rest)
    by_try None h = by_if (word_first words.If ts) h
    by_try (Some behind) h = try_fewer t behind rest h

    by_choose : (o : Option (List Token)) → choose_or_other next s used ts o ≡ Some (t, rest) → choose_or_other next s fewer ts o ≡ Some (t, rest)
    by_choose None h = by_try (word_first words.Try ts) h
    by_choose (Some behind) h = choose_fewer t behind rest h

    by_do : (o : Option (List Token)) → do_or_other next s used ts o ≡ Some (t, rest) → do_or_other next s fewer ts o ≡ Some (t, rest)
    by_do None h = by_choose (word_first words.Choose ts) h
    by_do (Some behind) h = do_fewer t behind rest h

  in_do_fewer : (t : Term) (ts rest : List Token)
      → read_in_do next s used ts ≡ Some (t, rest) → read_in_do next s fewer ts ≡ Some (t, rest)
  unfolding read_in_do
  in_do_fewer t ts rest h = by (bound_first ts) h where
    by : (o : Read (List ℕ)) → part_or_last next s used ts o ≡ Some (t, rest) → part_or_last next s fewer ts o ≡ Some (t, rest)
    by (Some n) h = part_fewer t n.0 n.1 rest h
    by None h =
        let a = bind_some (read_alone next s used ts) _ _ h in
        let b = bind_some (sign_first signs.CloseBrace a.0.1) _ _ a.2 in
        rw (alone_fewer a.0.0 ts a.0.1 a.1, b.1) b.2

  in_choose_fewer : (t : Term) (ts rest : List Token)
      → read_in_choose next s used ts ≡ Some (t, rest) → read_in_choose next s fewer ts ≡ Some (t, rest)
  unfolding read_in_choose
  in_choose_fewer t ts rest h =
      let a = bind_some (read_alone next s used ts) _ _ h in
      rw (alone_fewer a.0.0 ts a.0.1 a.1) (by a.0.0 a.0.1 (sign_first signs.Bar a.0.1) a.2) where
        by : (e : Term) (behind : List Token) (o : Option (List Token)) → bar_or_end next s used e behind o ≡ Some (t, rest)
            → bar_or_end next s fewer e behind o ≡ Some (t, rest)
        by e behind None h = h
        by e behind (Some more) h = second_fewer t e more rest h

  standing_fewer : (at : EventPlace) (t : Term) (ts rest : List Token)
      → read_standing next at s used ts ≡ Some (t, rest) → read_standing next at s fewer ts ≡ Some (t, rest)
  standing_fewer alone t ts rest h = alone_fewer t ts rest h
  standing_fewer in_do t ts rest h = in_do_fewer t ts rest h
  standing_fewer in_choose t ts rest h = in_choose_fewer t ts rest h

event_fewer : (layers : ℕ) → Lowers (read_event layers)
unfolding read_event
event_fewer zero at s fewer used t ts rest k h = h
event_fewer (suc layers) at s fewer used t ts rest k h =
    standing_fewer (read_event layers) (event_fewer layers) s fewer used k at t ts rest h

-- an event that is read behind some nodes is read behind none
pub event_behind_none : (layers : ℕ) (at : EventPlace) (s : Names) (used : Tally) (t : Term) (ts rest : List Token)
    → read_event layers at s used ts ≡ Some (t, rest) → read_event layers at s no_node ts ≡ Some (t, rest)
event_behind_none layers at s used t ts rest h =
    event_fewer layers at s no_node used t ts rest (record { nodes = omega arith; fresh = omega arith }) h
