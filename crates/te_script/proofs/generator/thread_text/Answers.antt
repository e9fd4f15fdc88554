use Rattle.std.proofs.Common.{◌≡◌, ◌++◌, ◌∷◌, [], List, ℕ, map, sym, ap, subst, ◌∙◌, arith}
use Rattle.std.specs.Prelude.{codes}
use Rattle.te_terms.specs.Expressions.{register, whole}
use Rattle.te_terms.specs.Terms.{Term}
use Rattle.te_script.specs.Scripts.{Statement, sync, emit, Thread, IsThread, HasNames}
use Rattle.te_script.specs.Texts.{statement_of}
use Rattle.te_script.specs.Generated.{each, event_of, generated_thread, generated_thread_name}
use Rattle.te_script.proofs.GeneratedKept.{map_each, thread_kept, thread_named}
use Rattle.te_script.proofs.generator.thread_text.Goals as goal

-- the text that was made
made : (c : goal.In_ok-push)
    → (◌≡◌ {A = Thread} (record { name = c.numbered-name.result; registers = c.push.new.self; statements = map statement_of c.in_ok-stmts.stmts })
    (generated_thread c.args.rounds c.args.thread))
made c =
    let registers : c.push.new.self ≡ codes "x" ∷ [] = c.in_ok-push.ensures.ok ∙ (λ i. c.new-regs.ensures i ++ c.x_name.ensures i ∷ []) in
    let statements : map statement_of c.in_ok-stmts.stmts ≡ (generated_thread c.args.rounds c.args.thread).statements =
    c.in_ok-stmts.ensures.value ∙ ap (λ (es : List Term). map (sync 0) es ++ emit (whole (register 0)) ∷ []) c.in_ok-events.ensures.events_are
    ∙ ap (λ (ss : List Statement). ss ++ emit (whole (register 0)) ∷ []) (map_each (sync 0) (event_of c.args.thread) c.args.rounds) in
    λ i. record { name = c.numbered-name.ensures i; registers = registers i; statements = statements i }

pub returns : goal.returns
returns c = made c

pub invariant_of-result : goal.invariant_of-result
invariant_of-result c = record {
  thread = subst (IsThread 256) (sym (made c)) (thread_kept 256 c.args.thread c.args.rounds (omega (arith, c.requires.few)) c.requires.some c.requires.most);
  names = subst HasNames (sym (made c)) (thread_named c.args.rounds c.args.thread (omega (arith, c.requires.few)));
  roots = c.in_ok-stmts.ensures.roots;
}
