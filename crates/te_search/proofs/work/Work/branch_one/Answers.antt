use Rattle.std.proofs.Common.{arith, ◌≡◌, ◌<◌, ◌+◌, ◌++◌, ◌∷◌, [], ◌∙◌, ap, ap₂, sym, refl, inl, length, map, Some, length-append}
use Rattle.te_terms.specs.Joint.{choice}
use Rattle.te_trail.specs.declared.moves.Move.TheVariants as moves
use Rattle.te_trail.specs.Paths.{branched}
use Rattle.te_search.specs.Works.{label_told}
use Rattle.te_trail.proofs.StoresHold.{held}
use Rattle.te_search.proofs.StoresGrow.{branch_grows}
use Rattle.te_terms.proofs.Lists.{get_some}
use Rattle.te_search.proofs.Working.{map_both, gains_one}
use Rattle.te_search.proofs.WorkKept.{keeps_same, keeps_paths}
use Rattle.te_search.proofs.work.Work.branch_one.Goals as goal

pub returns-clause-ok : goal.returns-clause-ok
returns-clause-ok c x e = gains_one c.args.self.now (record {
  store = c.branch-number.new.self;
  moves = c.push_reserved-2.new.self;
  pending = c.push_reserved.new.self;
  waiting = c.args.self.now.waiting;
  finals = c.args.self.now.finals;
  groups = c.args.self.now.groups;
}) (branched x c.args.left)
    (c.in_Ok-number.ensures.ok x e) c.len-paths.ensures.store (c.push_reserved.ensures.items ∙ ap₂ (λ l n. l ++ (n ∷ [])) c.reserve.ensures.items c.in_Ok-number.ensures.number)
    (ap (map label_told) (c.push_reserved-2.ensures.items ∙ ap (λ l. l ++ (Some (moves.Branch c.thread-thread.result c.args.left) ∷ [])) c.reserve-2.ensures.items)
    ∙ map_both label_told c.args.self.now.moves.items (Some (moves.Branch c.thread-thread.result c.args.left) ∷ [])
    ∙ ap (λ t. map label_told c.args.self.now.moves.items ++ ((choice t c.args.left ∷ []) ∷ [])) (sym (c.thread-thread.ensures x e)))
    refl refl refl c.requires.low

pub returns-clause-within : goal.returns-clause-within
returns-clause-within c =
    let x = get_some c.args.self.now.store.paths c.args.p c.requires.path in
    let l : length c.branch-number.new.self.paths ≡ length c.args.self.now.store.paths + 1 = ap (λ t. length t.paths) (c.in_Ok-number.ensures.ok x.0 x.1)
    ∙ length-append c.args.self.now.store.paths (branched x.0 c.args.left ∷ []) in
    omega (arith, l, c.left.ensures.left, c.if-left-eq0.false)

pub returns-then-left-eq0-clause-spent : goal.returns-then-left-eq0-clause-spent
returns-then-left-eq0-clause-spent c h =
    let x = get_some c.args.self.now.store.paths c.args.p c.requires.path in
    let sum : length c.args.self.now.store.paths + c.args.self.now.groups ≡ c.args.budget = omega (arith, c.left.ensures.left, c.if-left-eq0.true) in (
      refl,
      record {
        near = inl sum;
        more = branched x.0 c.args.left ∷ [];
        store = branch_grows c.args.self.now.store.events c.args.self.now.store.paths x.0 c.args.left c.left.ensures.store (held c.args.self.now.store.paths c.args.p x.0 x.1)
            (c.requires.unmade x.0 x.1) (λ m e. c.requires.stands x.0 m x.1 e);
        beyond = (let more : c.args.budget < length c.args.self.now.store.paths + 1 + c.args.self.now.groups = omega (arith, sum) in more);
      },
    )

pub returns-then-left-eq0-clause-keeps : goal.returns-then-left-eq0-clause-keeps
returns-then-left-eq0-clause-keeps c = keeps_same _ _ refl refl refl refl

pub returns-then-is_err-clause-keeps : goal.returns-then-is_err-clause-keeps
returns-then-is_err-clause-keeps c = keeps_same _ _ refl refl refl refl

pub returns-then-is_err-2-clause-keeps : goal.returns-then-is_err-2-clause-keeps
returns-then-is_err-2-clause-keeps c = keeps_same _ _ refl c.reserve-2.ensures.items refl refl

pub returns-in_default-number-clause-keeps : goal.returns-in_default-number-clause-keeps
returns-in_default-number-clause-keeps c = keeps_same _ _ c.in_default-number.ensures.err c.reserve-2.ensures.items refl refl

pub returns-clause-keeps : goal.returns-clause-keeps
returns-clause-keeps c =
    let x = get_some c.args.self.now.store.paths c.args.p c.requires.path in
    let t = c.in_Ok-number.ensures.ok x.0 x.1 in
    keeps_paths _ _ (branched x.0 c.args.left ∷ []) (Some (moves.Branch c.thread-thread.result c.args.left) ∷ []) (ap (λ q. q.events) t) (ap (λ q. q.marks) t)
    (ap (λ q. q.paths) t) (c.push_reserved-2.ensures.items ∙ ap (λ l. l ++ (Some (moves.Branch c.thread-thread.result c.args.left) ∷ [])) c.reserve-2.ensures.items) refl refl
