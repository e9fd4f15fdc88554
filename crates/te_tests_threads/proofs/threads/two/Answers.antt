use Rattle.std.proofs.Common.{rules, ◌≡◌, ◌≢◌, ◌≤◌, ℕ, List, [], ◌∷◌, ◌++◌, length, map, get_or, refl, sym, ap, ◌∙◌, arith, subst}
use Rattle.std.specs.List.{AllByRecursion}
use Rattle.te_script.specs.Scripts.{Thread, Program, IsThread, IsScript, IsProgram, HasNames, AreApart}
use Rattle.te_tests_threads.proofs.threads.two.Goals as goal

letters_differ : (xs ys : List ℕ) → xs ≡ 97 ∷ [] → ys ≡ 98 ∷ [] → xs ≢ ys
letters_differ xs ys is is' same = let n = ap (λ (l : List ℕ). get_or l 0 0) (sym is ∙ same ∙ is') in absurd (omega (arith, n))

none_apart : (xs : List (List ℕ)) → AreApart xs []
none_apart [] = tt
none_apart (x ∷ xs) = (tt, none_apart xs)

-- two threads without channels are a script
of_two : (a b : Thread) → a.name ≢ b.name → HasNames a → HasNames b → IsThread 0 a → IsThread 0 b → IsScript (record { channels = []; threads = a ∷ b ∷ [] })
of_two a b apart names names' thread thread' = record {
  program = record {
    channels = omega arith;
    channel_names = tt;
    some_thread = omega arith;
    threads = omega arith;
    names = ((apart, tt), (tt, tt));
    each = (thread, (thread', tt));
    apart = (none_apart a.registers, (none_apart b.registers, tt));
  };
  channels = tt;
  threads = (names, (names', tt));
}

pub invariant_of-result : goal.invariant_of-result
invariant_of-result c =
    let a = c.in_ok-thread.field-0 in
    let b = c.in_ok-thread-2.field-0 in
    let none : c.new.result ≡ [] = c.new.ensures in
    let threads : c.push-2.new.self ≡ a ∷ b ∷ [] =
    c.in_ok-push-2.ensures.ok ∙ ap (λ l. l ++ b ∷ []) (c.in_ok-push.ensures.ok ∙ ap (λ l. l ++ a ∷ []) c.new-threads.ensures) in
    let first : c.in_ok-a.a ≡ 97 ∷ [] = search rules in
    let second : c.in_ok-b.b ≡ 98 ∷ [] = search rules in
    let apart : a.value.name ≢ b.value.name =
    letters_differ a.value.name b.value.name (c.in_ok-thread.ensures.name ∙ first) (c.in_ok-thread-2.ensures.name ∙ second) in
    subst (λ cs. IsScript (record { channels = cs; threads = map (λ x. x.value) c.push-2.new.self })) (sym none)
    (subst (λ l. IsScript (record { channels = []; threads = map (λ x. x.value) l })) (sym threads)
    (of_two a.value b.value apart c.in_ok-thread.ensures.names c.in_ok-thread-2.ensures.names (c.in_ok-thread.ensures.thread 0) (c.in_ok-thread-2.ensures.thread 0)))
