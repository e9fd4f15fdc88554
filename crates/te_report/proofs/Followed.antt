-- A history of a script's threads and their cores, with one entry more.
use Rattle.std.proofs.Common.{◌≡◌, ℕ, zero, suc, ◌+◌, ◌<◌, List, [], ◌∷◌, ◌++◌, length, Option, Some, refl, sym, ap, subst, ◌∙◌, arith, zero-add, add-zero}
use Rattle.std.specs.Prelude.{slice_get}
use Rattle.te_terms.specs.declared.event.Outcome.{Outcome}
use Rattle.te_script.specs.Scripts.{Thread, Program}
use Rattle.te_terms.specs.declared.value.Atom.{Atom}
use Rattle.te_script.specs.declared.wish.Want.{Want}
use Rattle.te_script.specs.declared.wish.Want.TheVariants as wants
use Rattle.te_script.specs.Wants.{IsWant}
use Rattle.te_script.specs.Wishes.{Doing, synchronises, ends, has_raised, reached, done, wish_of, wish}
use Rattle.te_script.proofs.WishReached.{emitted_after}
use Rattle.te_script.specs.Cores.{At, core_after}
use Rattle.te_history.specs.declared.entry.Entry.{Entry}
use Rattle.te_history.specs.declared.entry.Entry.TheVariants as entries
use Rattle.te_history.specs.Histories.{History}
use Rattle.te_history.specs.Follows.{caller_of, LooselyFollows, IsLoose}
use Rattle.te_report.specs.OfScript.{taken, IsWished, WishedBy, WishedFrom}
use Rattle.te_report.specs.Following.{cores_from, HasCore, followed, AreFollowed, IsUnwished}
use Rattle.te_report.proofs.Growing.{wished_more}
use Rattle.te_report.proofs.CoresFollow.{has_core, cores_next}

module _ (script : Program) (hist : History) (cores : List At) (e : Entry) (so_far : AreFollowed script hist cores)
    (w : WishedBy (slice_get script.threads (caller_of e)) (taken (caller_of e) hist.entries) e) where
  pub ready : IsLoose hist.callers hist.entries → LooselyFollows hist.callers hist.entries e → HasCore cores e
  ready loose follows = subst (λ (cs : List At). HasCore cs e) (sym so_far.cores_are) (has_core hist.callers script.threads hist.entries e loose so_far.of_script follows w)

  pub one_more : (new : History) (after : List At) → new.callers ≡ hist.callers → new.entries ≡ hist.entries ++ e ∷ [] → after ≡ followed cores e → AreFollowed script new after
  one_more new after callers entries is = record {
    callers = callers ∙ so_far.callers;
    of_script = subst (λ (h : List Entry). WishedFrom script.threads [] h) (sym entries) (wished_more script.threads [] hist.entries e so_far.of_script w);
    cores_are =
        is ∙ ap (λ (cs : List At). followed cs e) so_far.cores_are ∙ cores_next hist.callers script.threads hist.entries e w
        ∙ ap (λ (h : List Entry). cores_from h 0 script.threads) (sym entries);
  }

-- the thread of a core
pub core_back : (h : List Entry) (k t : ℕ) (threads : List Thread) (c : At) → slice_get (cores_from h k threads) t ≡ Some c → (x : Thread)
    × (slice_get threads t ≡ Some x) × (c ≡ core_after x (taken (k + t) h))
core_back h k t [] c is = absurd cc
core_back h k zero (x ∷ xs) c is =
    let same : core_after x (taken k h) ≡ c = cc in (x, refl, sym same ∙ ap (λ (n : ℕ). core_after x (taken n h)) (sym (add-zero k)))
core_back h k (suc t) (x ∷ xs) c is =
    let rest = core_back h (suc k) t xs c is in
    let n : suc k + t ≡ k + suc t = omega arith in
    (rest.0, rest.1, rest.2 ∙ ap (λ (m : ℕ). core_after rest.0 (taken m h)) n)

-- an entry that needs no wish is wished by each thread
pub unwished : (o : Option Thread) (x : Thread) (outs : List Outcome) (e : Entry) → o ≡ Some x → IsUnwished e → WishedBy o outs e
unwished o x outs e is h = subst (λ (p : Option Thread). WishedBy p outs e) (sym is) (of_kind e h)
  where
    of_kind : (f : Entry) → IsUnwished f → IsWished (wish x outs) f
    of_kind (entries.Post by ticket event) h = absurd h
    of_kind (entries.End by how) h = absurd h
    of_kind (entries.Commit by cert outcomes) h = tt
    of_kind (entries.Withdraw by ticket) h = tt
    of_kind (entries.Take by ticket outcome) h = tt
    of_kind (entries.Rest by) h = tt
    of_kind (entries.Stuck by) h = tt

pub some_thread : (threads : List Thread) (t : ℕ) → t < length threads → (x : Thread) × (slice_get threads t ≡ Some x)
some_thread [] t lt = absurd (omega arith)
some_thread (x ∷ xs) zero lt = (x, refl)
some_thread (x ∷ xs) (suc t) lt = some_thread xs t (omega arith)

-- ---- what a core that has ended tells

done_by : (emitted : List (List Atom)) (does : Doing) → IsWant (wish_of emitted does) wants.Done → wish_of emitted does ≡ done emitted
done_by emitted (synchronises at t) told = absurd told
done_by emitted ends told = refl
done_by emitted (has_raised v) told = absurd told

pub done_told : (c : At) (outs : List Outcome) (want : Want) (rows : List (List Atom)) → c ≡ core_after c.thread outs → IsWant (wish c.thread outs) want → want ≡ wants.Done
    → rows ≡ c.stand.emitted → wish c.thread outs ≡ done rows
done_told c outs want rows is told ended emitted =
    let done_so = done_by (reached c.thread outs).emitted (reached c.thread outs).does (subst (IsWant (wish c.thread outs)) ended told) in
    done_so ∙ ap done (sym (emitted_after c.thread outs) ∙ ap (λ (a : At). a.stand.emitted) (sym is) ∙ sym emitted)
