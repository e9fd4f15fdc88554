-- A repeat and its syncs stand behind the statements before.
use Rattle.std.proofs.Common.{◌≡◌, ◌-◌, [], ◌∷◌, ◌++◌, length, map, ◌∙◌, ap, arith}
use Rattle.te_script.specs.declared.script.Stmt.TheVariants as stmts
use Rattle.te_script.specs.Texts.{statement_of}
use Rattle.te_script.specs.Scripts.{repeat}
use Rattle.te_reader.proofs.LoopSteps.{map_length, repeat_is_read, repeat_listed, repeat_longer}
use Rattle.te_reader.proofs.thread.read_repeat.Goals as goal

pub returns-clause-read : goal.returns-clause-read
returns-clause-read c =
    let old = c.args.stmts.now.items in
    let k = c.in_ok-syncs.syncs.items in
    let read = c.in_ok-syncs.ensures.read in
    let new : c.append.new.self.items ≡ (old ++ stmts.Repeat c.in_ok-times.times c.len-count.result ∷ []) ++ k = c.in_ok-append.ensures.items ∙ ap (λ x. x ++ k) c.in_ok-push.ensures.items in
    let long = repeat_longer old k c.append.new.self.items _ new in
    let size : c.len-count.result ≡ length k = omega (arith, c.len-count.ensures) in
    record {
      within = omega (arith, long, map_length k, read.within, c.len.ensures, c.requires.room);
      more = omega (arith, long);
      added = repeat c.in_ok-times.times (length (map statement_of k)) ∷ map statement_of k;
      appended = repeat_listed old k c.append.new.self.items c.in_ok-times.times c.len-count.result new size;
      read = repeat_is_read _ _ _ (length old) (1023 - c.len.result) _ (length k) _ _ _ _
          (map statement_of k) c.in_ok-times.ensures.0 (omega (arith, c.len.ensures))
          (omega (arith, long, map_length k, c.len.ensures)) read.read;
    }
