use Rattle.std.proofs.Common.{◌≡◌, ◌+◌, [], ◌∷◌, length, map, sym, ◌∙◌, ap, arith, length-append}
use Rattle.std.specs.Prelude.{Some}
use Rattle.std.proofs.lemmas.Result.{err_from_is_err_and}
use Rattle.std.proofs.lemmas.List.{map-append}
use Rattle.te_reader.specs.Reads.{read_new_thread}
use Rattle.te_reader.proofs.PassedOn.{passed_on}
use Rattle.te_reader.proofs.LoopSteps.{threads_ended, threads_full, no_thread, more_threads}
use Rattle.te_reader.proofs.thread.read_threads.Goals as goal

pub returns-then-len-ge-MOST_THREADS : goal.returns-then-len-ge-MOST_THREADS
returns-then-len-ge-MOST_THREADS c =
    threads_full 64 (length c.threads.threads) _ _ _ _ _ c.threads.invariant.read _ c.threads-test.ensures.0 (omega (arith, c.len.ensures, c.if-len-ge-MOST_THREADS.true))

pub returns-in_err-thread : goal.returns-in_err-thread
returns-in_err-thread c =
    let p = err_from_is_err_and c.from_residual.result c.from_residual.ensures.1 in
    rw (p.1, p.2)
    (passed_on _ (λ a. (a.value, c.read_new_thread.new.names)) _ c.take_word.new.self c.read_new_thread.new.cursor _ _
    (read_new_thread c.args.channels.now c.threads.names c.take_word.new.self.tokens) _ c.in_err-thread.ensures
    (no_thread 64 (length c.threads.threads) _ _ _ _ _ c.threads.invariant.read _ c.threads-test.ensures.0 (omega (arith, c.len.ensures, c.if-len-ge-MOST_THREADS.false))))

pub threads-preserved : goal.threads-preserved
threads-preserved c =
    let pushed = c.in_ok-push.ensures.ok in
    let long : length c.push.new.self ≡ length c.threads.threads + 1 = ap length pushed ∙ length-append c.threads.threads (c.in_ok-thread.thread ∷ []) in
    record {
      read =
          rw (long, pushed, map-append (λ a. a.value) c.threads.threads (c.in_ok-thread.thread ∷ []))
          (more_threads 64 (length c.threads.threads) _ _ _ _ _ c.threads.invariant.read _ c.threads-test.ensures.0
          (omega (arith, c.len.ensures, c.if-len-ge-MOST_THREADS.false)) _ _ _ c.in_ok-thread.ensures.0);
      whole = c.in_ok-thread.ensures.1 ∙ c.threads-test.ensures.1 ∙ c.threads.invariant.whole;
      most = omega (arith, long, c.len.ensures, c.if-len-ge-MOST_THREADS.false);
    }

pub returns : goal.returns
returns c = (
  threads_ended 64 (length c.threads.threads) _ _ _ _ _ c.threads.invariant.read c.threads-test.ensures.0
      ∙ ap (λ s. Some (map (λ a. a.value) c.threads.threads, s.tokens)) (sym c.threads-test.ensures.1),
  ap (λ s. s.whole) c.threads-test.ensures.1 ∙ c.threads.invariant.whole,
)
