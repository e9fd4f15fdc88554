use Rattle.std.proofs.Common.{arith, ◌≡◌, ◌≤◌, ◌<◌, ◌+◌, ◌∷◌, [], ◌∙◌, ap, sym, None, Some, length, map, length-append}
use Rattle.te_trail.specs.Trails.{label_of}
use Rattle.te_terms.proofs.Lists.{get_at, get_some}
use Rattle.te_search.proofs.PastsJoined.{trail_untold, trail_without, trail_with, none_at, as_long}
use Rattle.te_search.proofs.certifying.joint_trail.Goals as goal

pub moves-init : goal.moves-init
moves-init c = (
  (let n : length c.new-word.result.items ≡ 0 = ap length c.new-word.ensures.items in omega (arith, n)),
  λ ps p. ap (map label_of) c.new-word.ensures.items ∙ sym (c.requires.none ps p),
)

pub moves-preserved-in_default : goal.moves-preserved-in_default
moves-preserved-in_default c = (
  (let h : length c.moves.word.items ≤ c.moves.k = c.moves.invariant.0 in omega (arith, h)),
  λ ps p. (
      let low : c.moves.k < length c.args.store.now.paths = omega (arith, c.len-k-end.ensures.number, c.moves-test.true) in
      let x = get_some c.args.store.now.paths c.moves.k low in
      trail_untold ps c.args.store.now.paths c.args.moves.now c.moves.k x.0 c.moves.word.items c.requires.told
      (none_at c.args.moves.now c.moves.k (let l : length c.args.moves.now ≡ length c.args.store.now.paths = as_long c.args.moves.now c.args.store.now.paths c.requires.told in
      omega (arith, low, l)) c.in_default.not-Some) x.1 (c.moves.invariant.1 ps p)),
)

pub moves-preserved : goal.moves-preserved
moves-preserved c = (
  (let h : length c.moves.word.items ≤ c.moves.k = c.moves.invariant.0 in let n : length c.push.new.self.items ≡ length c.moves.word.items + 1 = ap length
      c.in_ok-push.ensures.items ∙ length-append c.moves.word.items (c.in-Some.made ∷ []) in omega (arith, h, n)),
  λ ps p. (
      let low : c.moves.k < length c.args.store.now.paths = omega (arith, c.len-k-end.ensures.number, c.moves-test.true) in
      let x = get_some c.args.store.now.paths c.moves.k low in
      trail_with ps c.args.store.now.paths c.args.moves.now c.moves.k x.0 c.moves.word.items c.push.new.self.items c.in-Some.made c.requires.told
      (get_at c.args.moves.now c.moves.k None (let l : length c.args.moves.now ≡ length c.args.store.now.paths = as_long c.args.moves.now c.args.store.now.paths c.requires.told in
      omega (arith, low, l)) ∙ ap Some c.in-Some.is) x.1 (sym c.if-not-has_move.false ∙ c.has_move.ensures ps x.0 p x.1) c.in_ok-push.ensures.items (c.moves.invariant.1 ps p)),
)

pub moves-preserved-then-not-has_move : goal.moves-preserved-then-not-has_move
moves-preserved-then-not-has_move c = (
  (let h : length c.moves.word.items ≤ c.moves.k = c.moves.invariant.0 in omega (arith, h)),
  λ ps p. (
      let low : c.moves.k < length c.args.store.now.paths = omega (arith, c.len-k-end.ensures.number, c.moves-test.true) in
      let x = get_some c.args.store.now.paths c.moves.k low in
      trail_without ps c.args.store.now.paths c.args.moves.now c.moves.k x.0 c.moves.word.items c.in-Some.made c.requires.told
      (get_at c.args.moves.now c.moves.k None (let l : length c.args.moves.now ≡ length c.args.store.now.paths = as_long c.args.moves.now c.args.store.now.paths c.requires.told in
      omega (arith, low, l)) ∙ ap Some c.in-Some.is) x.1 (sym c.if-not-has_move.true ∙ c.has_move.ensures ps x.0 p x.1) (c.moves.invariant.1 ps p)),
)
