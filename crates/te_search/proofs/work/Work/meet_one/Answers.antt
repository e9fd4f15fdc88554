use Rattle.std.proofs.Common.{arith, ◌≡◌, ◌+◌, ◌++◌, ◌∷◌, [], ◌∙◌, ap, ap₂, sym, refl, inl, inr, ℕ, zero, suc, ◌<◌, length, map, Some, None, length-append}
use Rattle.te_terms.specs.Joint.{meeting}
use Rattle.te_trail.specs.declared.moves.Move.TheVariants as moves
use Rattle.te_trail.specs.Paths.{sent, got}
use Rattle.te_search.specs.Works.{label_told, IsNear}
use Rattle.te_trail.proofs.StoresHold.{held}
use Rattle.te_search.proofs.StoresGrow.{meet_grows}
use Rattle.te_terms.proofs.Lists.{get_some}
use Rattle.te_search.proofs.Working.{map_both, gains_two, appended_two}
use Rattle.te_search.proofs.WorkKept.{keeps_same, keeps_paths}
use Rattle.te_search.proofs.work.Work.meet_one.Goals as goal

-- less than two are left
near_by : (left used budget : ℕ) → left + used ≡ budget → left < 2 → IsNear used budget
near_by zero used budget e h = inl (omega (arith, e))
near_by (suc zero) used budget e h = inr (omega (arith, e))
near_by (suc (suc left)) used budget e h = absurd (omega (arith, h))

pub returns-clause-ok : goal.returns-clause-ok
returns-clause-ok c x y e f = gains_two c.args.self.now (record {
  store = c.meet.new.self;
  moves = c.push_reserved-4.new.self;
  pending = c.push_reserved-2.new.self;
  waiting = c.args.self.now.waiting;
  finals = c.args.self.now.finals;
  groups = c.args.self.now.groups;
}) (sent x y) (got x y)
    (c.in-Ok.ensures.ok x y e f) c.len-paths.ensures.store
    (appended_two c.args.self.now.pending.items c.reserve.new.self.items c.push_reserved.new.self.items c.push_reserved-2.new.self.items _ _ _ _ c.reserve.ensures.items
    c.push_reserved.ensures.items c.push_reserved-2.ensures.items c.in-Ok.ensures.numbers.0 c.in-Ok.ensures.numbers.1)
    (ap (map label_told) (appended_two c.args.self.now.moves.items c.reserve-2.new.self.items c.push_reserved-3.new.self.items c.push_reserved-4.new.self.items
    (Some (moves.Meet c.thread-sender.result c.thread-receiver.result)) None _ _ c.reserve-2.ensures.items c.push_reserved-3.ensures.items c.push_reserved-4.ensures.items refl refl)
    ∙ map_both label_told c.args.self.now.moves.items (Some (moves.Meet c.thread-sender.result c.thread-receiver.result) ∷ (None ∷ []))
    ∙ ap₂ (λ s r. map label_told c.args.self.now.moves.items ++ ((meeting s r ∷ []) ∷ ([] ∷ []))) (sym (c.thread-sender.ensures x e)) (sym (c.thread-receiver.ensures y f)))
    refl refl refl c.requires.low

pub returns-clause-within : goal.returns-clause-within
returns-clause-within c =
    let x = get_some c.args.self.now.store.paths c.args.p c.requires.sender in
    let y = get_some c.args.self.now.store.paths c.args.q c.requires.receiver in
    let l : length c.meet.new.self.paths ≡ length c.args.self.now.store.paths + 2 = ap (λ t. length t.paths) (c.in-Ok.ensures.ok x.0 y.0 x.1 y.1)
    ∙ length-append c.args.self.now.store.paths (sent x.0 y.0 ∷ (got x.0 y.0 ∷ [])) in
    omega (arith, l, c.left.ensures.left, c.if-left-lt2.false)

pub returns-then-left-lt2-clause-spent : goal.returns-then-left-lt2-clause-spent
returns-then-left-lt2-clause-spent c h =
    let x = get_some c.args.self.now.store.paths c.args.p c.requires.sender in
    let y = get_some c.args.self.now.store.paths c.args.q c.requires.receiver in (
      refl,
      record {
        near = near_by c.left.result (length c.args.self.now.store.paths + c.args.self.now.groups) c.args.budget c.left.ensures.left c.if-left-lt2.true;
        more = sent x.0 y.0 ∷ (got x.0 y.0 ∷ []);
        store = meet_grows c.args.self.now.store.events c.args.self.now.store.paths x.0 y.0 c.left.ensures.store (held c.args.self.now.store.paths c.args.p x.0 x.1)
            (held c.args.self.now.store.paths c.args.q y.0 y.1) (c.requires.unmet x.0 y.0 x.1 y.1) (c.requires.agree x.0 y.0 x.1 y.1)
            (λ a b ea eb. c.requires.stand x.0 y.0 a b x.1 y.1 ea eb);
        beyond = (let more : c.args.budget < length c.args.self.now.store.paths + 2 + c.args.self.now.groups = omega (arith, c.left.ensures.left, c.if-left-lt2.true) in more);
      },
    )

pub returns-then-left-lt2-clause-keeps : goal.returns-then-left-lt2-clause-keeps
returns-then-left-lt2-clause-keeps c = keeps_same _ _ refl refl refl refl

pub returns-then-is_err-clause-keeps : goal.returns-then-is_err-clause-keeps
returns-then-is_err-clause-keeps c = keeps_same _ _ refl refl refl refl

pub returns-then-is_err-2-clause-keeps : goal.returns-then-is_err-2-clause-keeps
returns-then-is_err-2-clause-keeps c = keeps_same _ _ refl c.reserve-2.ensures.items refl refl

pub returns-in_default-clause-keeps : goal.returns-in_default-clause-keeps
returns-in_default-clause-keeps c = keeps_same _ _ c.in_default.ensures.err c.reserve-2.ensures.items refl refl

pub returns-clause-keeps : goal.returns-clause-keeps
returns-clause-keeps c =
    let x = get_some c.args.self.now.store.paths c.args.p c.requires.sender in
    let y = get_some c.args.self.now.store.paths c.args.q c.requires.receiver in
    let t = c.in-Ok.ensures.ok x.0 y.0 x.1 y.1 in
    keeps_paths _ _ (sent x.0 y.0 ∷ (got x.0 y.0 ∷ [])) (Some (moves.Meet c.thread-sender.result c.thread-receiver.result) ∷ (None ∷ [])) (ap (λ q. q.events) t)
    (ap (λ q. q.marks) t) (ap (λ q. q.paths) t)
    (appended_two c.args.self.now.moves.items c.reserve-2.new.self.items c.push_reserved-3.new.self.items c.push_reserved-4.new.self.items
    (Some (moves.Meet c.thread-sender.result c.thread-receiver.result)) None _ _ c.reserve-2.ensures.items c.push_reserved-3.ensures.items c.push_reserved-4.ensures.items refl refl) refl refl
