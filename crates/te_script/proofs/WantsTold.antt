-- What a core that stands at a sync wishes, and of which statement its event is.
use Rattle.std.proofs.Common.{◌≡◌, ℕ, zero, suc, ◌+◌, ◌<◌, ◌≤◌, List, [], ◌∷◌, length, map, drop, get_or, Option, Some, None, Result, Ok, Err, refl, sym, ap, subst, ◌∙◌}
use Rattle.std.specs.Prelude.{slice_get, IfOk}
use Rattle.std.proofs.Math.Seq.{drop-nil}
use Rattle.te_terms.specs.declared.value.Atom.{Atom}
use Rattle.te_terms.specs.declared.expr.Expr.{Expr}
use Rattle.te_terms.specs.declared.event.Outcome.{Outcome}
use Rattle.te_terms.specs.Terms.{Term, closed}
use Rattle.te_script.specs.declared.script.Stmt.{Stmt}
use Rattle.te_script.specs.declared.script.Stmt.TheVariants as kinds
use Rattle.te_script.specs.declared.wish.Want.{Want}
use Rattle.te_script.specs.declared.wish.Want.TheVariants as wants
use Rattle.te_script.specs.declared.wish.Spot.{Spot}
use Rattle.te_script.specs.Scripts.{Statement, sync, Thread}
use Rattle.te_script.specs.Wishes.{Step, syncing, Wish, wish_of, syncs, done, wish, site_at, site_of}
use Rattle.te_script.specs.Cores.{At, core_after, wish_at, next_at, doing_of, IsWaiting, IsAtSync, IsSyncSpot, steps_left_at, pass_of}
use Rattle.te_script.specs.Texts.{statement_of}
use Rattle.te_script.specs.Wants.{IsWant, IsOfText, IsOfStatement}
use Rattle.te_script.proofs.EmitsDone.{statements_from, nothing_from}
use Rattle.te_script.proofs.StepsLeft.{at_sync, left_sync, waits_at, none_left}
use Rattle.te_script.proofs.CoreMoves.{waits_itself}
use Rattle.te_script.proofs.WishReached.{wish_after}
use Rattle.te_terms.proofs.Lists.{if_ok}

-- the statement at which a core stands, and those behind it
pub stands_at : (ss : List Statement) (stmts : List Stmt) (i : ℕ) (s : Stmt) → map statement_of stmts ≡ ss → i < length stmts → s ≡ get_or stmts i s
    → drop i ss ≡ statement_of s ∷ drop (i + 1) (map statement_of stmts)
stands_at ss stmts i s is lt here = ap (drop i) (sym is) ∙ statements_from stmts i s lt here

-- a spot is at no emit and at no repeat
pub no_emit : (spot : Spot) (ss rest : List Statement) (s : Stmt) (e : Expr) → IsSyncSpot spot ss → drop spot.place ss ≡ statement_of s ∷ rest → s ≡ kinds.Emit e → ⊥
no_emit spot ss rest s e h is emits = subst (λ k. IsAtSync (statement_of k ∷ rest)) emits (subst IsAtSync is (at_sync spot ss h))

pub no_repeat : (spot : Spot) (ss rest : List Statement) (s : Stmt) (times count : ℕ) → IsSyncSpot spot ss → drop spot.place ss ≡ statement_of s ∷ rest → s ≡ kinds.Repeat times count → ⊥
no_repeat spot ss rest s times count h is repeats = subst (λ k. IsAtSync (statement_of k ∷ rest)) repeats (subst IsAtSync is (at_sync spot ss h))

pub sync_wish : (regs emitted : List (List Atom)) (raised : Option (List Atom)) (spot : Spot) (ss rest : List Statement) (r : ℕ) (t : Term)
    → raised ≡ None → IsSyncSpot spot ss → drop spot.place ss ≡ sync r t ∷ rest
    → wish_of emitted (doing_of (next_at raised regs (steps_left_at spot ss))) ≡ syncs (closed regs t)
sync_wish regs emitted raised spot ss rest r t none h is = rw (none, left_sync spot ss rest r t h is) refl

pub done_wish : (regs emitted : List (List Atom)) (raised : Option (List Atom)) (spot : Spot) (ss : List Statement) (stmts : List Stmt)
    → raised ≡ None → IsSyncSpot spot ss → map statement_of stmts ≡ ss → length stmts ≤ spot.place
    → wish_of emitted (doing_of (next_at raised regs (steps_left_at spot ss))) ≡ done emitted
done_wish regs emitted raised spot ss stmts none h is le = rw (none, none_left spot ss h (ap (drop spot.place) (sym is) ∙ nothing_from stmts spot.place le)) refl

-- the site of a wish to synchronise
pub waiting_site : (raised : Option (List Atom)) (regs : List (List Atom)) (spot : Spot) (ss : List Statement) → IsSyncSpot spot ss → IsWaiting (next_at raised regs (steps_left_at spot ss))
    → site_of (doing_of (next_at raised regs (steps_left_at spot ss))) ≡ Some (site_at (suc spot.place) (pass_of spot.round))
waiting_site (Some v) regs spot ss h w = absurd w
waiting_site None regs spot ss h w =
    let here = waits_at spot ss h (waits_itself None regs (steps_left_at spot ss) w) in
    rw (left_sync spot ss _ here.0 here.1 h here.2) refl

first_left : (ss rest : List Statement) (i : ℕ) (s : Statement) → drop i ss ≡ s ∷ rest → slice_get ss i ≡ Some s
first_left [] rest i s e = absurd (let nil : [] ≡ s ∷ rest = sym (drop-nil i) ∙ e in cc)
first_left (s' ∷ ss) rest zero s e = cc
first_left (s' ∷ ss) rest (suc i) s e = first_left ss rest i s e

pub of_statement : (t : Thread) (regs : List (List Atom)) (rest : List Statement) (i r : ℕ) (term : Term) → length regs ≡ 8
    → drop i t.statements ≡ sync r term ∷ rest → IsOfStatement t (closed regs term)
of_statement t regs rest i r term eight is = record {
  place = i;
  register = r;
  term = term;
  regs = regs;
  stands = first_left t.statements rest i (sync r term) is;
  eight = eight;
  closed_so = refl;
}

-- a wish to synchronise on an event of a statement is of the text
pub told_of_text : (t : Thread) (event : Term) (want : Want) → IsOfStatement t event → IsWant (syncs event) want → IsOfText t want
told_of_text t event (wants.Sync told) of is = subst (IsOfStatement t) is of
told_of_text t event wants.Done of is = tt
told_of_text t event (wants.Raised v) of is = tt

-- where a core is after its outcomes, its wish is that of the whole text
pub told_after : (a : At) (so_far : List Outcome) (want : Want) → IsWant (wish_at a.stand) want → a ≡ core_after a.thread so_far → IsWant (wish a.thread so_far) want
told_after a so_far want told is = subst (λ w. IsWant w want) (ap (λ (b : At). wish_at b.stand) is ∙ wish_after a.thread so_far) told
