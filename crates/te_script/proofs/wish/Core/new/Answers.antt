use Rattle.std.proofs.Common.{◌≡◌, List, [], map, length, ap, subst, ◌∙◌, arith, ◌+◌, ◌≤◌, vec_len, vec_capacity}
use Rattle.te_script.specs.Scripts.{Statement, IsThread}
use Rattle.te_script.specs.Texts.{statement_of}
use Rattle.te_script.specs.Cores.{emits_left, emits_in, steps_behind, steps_left_at, IsSyncSpot}
use Rattle.te_script.proofs.EmitsCounted.{emits_whole}
use Rattle.te_script.proofs.Unwritten.{first_stand}
use Rattle.te_script.proofs.wish.Core.new.Goals as goal

pub returns : goal.returns
returns c =
    let is : map statement_of c.statements-stmts.result.now ≡ c.args.text.value.statements = c.statements-stmts.ensures.value ∙ ap (λ t. t.statements) c.deref.ensures in
    let emitted : c.in_ok-emitted.emitted.items ≡ [] = c.in_ok-emitted.ensures.items in
    let stand = first_stand c.args.text.value c.statements-stmts.result.now c.past_emits-stop.result.spot is
    (rw c.deref.ensures at c.statements-stmts.ensures.thread) (rw emitted at c.past_emits-stop.ensures.settles) in
    λ i. record { thread = c.args.text.value; stand = stand i }

pub past_emits-stop-requires-clause-room : goal.past_emits-stop-requires-clause-room
past_emits-stop-requires-clause-room c =
    omega (arith, emits_whole (map statement_of c.statements-stmts.result.now) c.statements-stmts.ensures.bodies, c.emits_among.ensures, c.in_ok-emitted.ensures.len, c.in_ok-emitted.ensures.capacity)

pub invariant_of-result : goal.invariant_of-result
invariant_of-result c =
    let is : map statement_of c.statements-stmts.result.now ≡ c.args.text.value.statements = c.statements-stmts.ensures.value ∙ ap (λ t. t.statements) c.deref.ensures in
    let thread : IsThread 256 c.args.text.value = rw c.deref.ensures at c.statements-stmts.ensures.thread in
    let fits : vec_len c.past_emits-stop.new.emitted + emits_left (steps_left_at c.past_emits-stop.result.spot
    (map statement_of c.statements-stmts.result.now)) ≤ vec_capacity c.past_emits-stop.new.emitted =
    omega (
      arith,
      c.past_emits-stop.ensures.settles.fits,
      c.past_emits-stop.ensures.room,
      c.past_emits-stop.new.emitted.ok.0,
      emits_whole
          (map statement_of c.statements-stmts.result.now) c.statements-stmts.ensures.bodies,
      c.emits_among.ensures,
      c.in_ok-emitted.ensures.len,
      c.in_ok-emitted.ensures.capacity,
      ap length c.in_ok-emitted.ensures.items,
    ) in
    record {
      short = thread.statements;
      at = subst (IsSyncSpot c.past_emits-stop.result.spot) is c.past_emits-stop.ensures.spot;
      fits = subst (λ (ss : List Statement). vec_len c.past_emits-stop.new.emitted + emits_left (steps_left_at c.past_emits-stop.result.spot ss) ≤ vec_capacity c.past_emits-stop.new.emitted) is fits;
    }
