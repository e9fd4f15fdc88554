use Rattle.std.proofs.Common.{rules, ◌≡◌, ◌++◌, ◌∷◌, [], None, ◌∙◌, ap, sym, subst, refl, length, vec_len, slice_get, append-nil}
use Rattle.te_terms.specs.Joint.{as_member, member_of}
use Rattle.te_trail.specs.Paths.{planted}
use Rattle.te_trail.specs.Stores.{Holds}
use Rattle.te_search.proofs.EventsPlanted.{unplanted_yet}
use Rattle.te_search.proofs.StacksMove.{put_levels, opened_stack, not_put, on_err, same_parked, last_event, at_last}
use Rattle.te_search.proofs.StacksMove.{by_length}
use Rattle.te_search.proofs.stack.Stack.plant.Goals as goal

pub put-requires : goal.put-requires
put-requires c =
    let p = c.requires.left in
    let one : p.0 ≡ c.at-parked.result.now = same_parked c.args.self.now.parked c.args.place p.0 c.at-parked.result.now p.1 c.at-parked.ensures in
    record { new = subst (λ q. member_of q.thread c.args.self.now.work.store.events ≡ None) one (not_put c.args.self.now p.0.thread c.requires.begun.levels p.2) }

pub plant-requires-clause-unplanted : goal.plant-requires-clause-unplanted
plant-requires-clause-unplanted c m e =
    let p = c.requires.left in
    let one : p.0 ≡ c.at-parked.result.now = same_parked c.args.self.now.parked c.args.place p.0 c.at-parked.result.now p.1 c.at-parked.ensures in
    let at : c.len-count.result ≡ length c.args.self.now.work.store.events = c.len-count.ensures
    ∙ ap length c.requires.begun.levels.threads_are ∙ by_length c.args.self.now.work.store.events in
    let is : as_member c.at-parked.result.now ≡ m = last_event c.args.self.now.work.store.events c.put.new.self.events (as_member c.at-parked.result.now) c.len-count.result m
    (ap (λ t. t.events) c.in-Ok.ensures.ok) at e in
    λ h. unplanted_yet c.args.self.now.work.store.events c.args.self.now.work.store.paths p.0.thread c.requires.begun.whole.search.store
    (not_put c.args.self.now p.0.thread c.requires.begun.levels p.2)
    (subst (λ q. Holds q (planted p.0.thread)) (ap (λ t. t.paths) c.in-Ok.ensures.ok)
    (subst (λ q. Holds c.put.new.self.paths (planted q)) (sym (ap (λ k. k.thread) is) ∙ ap (λ q. q.thread) (sym one)) h))

pub returns-in_err-p-clause-err : goal.returns-in_err-p-clause-err
returns-in_err-p-clause-err c =
    let p = c.requires.left in
    let one : p.0 ≡ c.at-parked.result.now = same_parked c.args.self.now.parked c.args.place p.0 c.at-parked.result.now p.1 c.at-parked.ensures in
    on_err _ c.from_residual-in_err-p.result (put_levels c.args.self.now _ p.0 c.requires.begun.levels (record {
      parked = refl;
      levels = refl;
      place = c.args.place;
      is = p.1;
      new = p.2;
      threads = c.in_ok-push.ensures.ok ∙ ap (λ q. c.args.self.now.threads ++ (q.thread ∷ [])) (sym one);
      events = ap (λ t. t.events) c.in_err-p.ensures.err ∙ ap (λ t. t.events) c.in-Ok.ensures.ok ∙ ap (λ q. c.args.self.now.work.store.events ++ (as_member q ∷ [])) (sym one);
      marks = ap (λ t. t.marks) c.in_err-p.ensures.err ∙ ap (λ t. t.marks) c.in-Ok.ensures.ok;
      more_paths = [];
      paths = ap (λ t. t.paths) c.in_err-p.ensures.err ∙ ap (λ t. t.paths) c.in-Ok.ensures.ok ∙ sym (append-nil c.args.self.now.work.store.paths);
      more_moves = [];
      moves = c.in_ok-reserve.ensures.items ∙ sym (append-nil c.args.self.now.work.moves.items);
      waiting = refl;
      finals = refl;
    }))

pub returns-clause-ok : goal.returns-clause-ok
returns-clause-ok c =
    let p = c.requires.left in
    let one : p.0 ≡ c.at-parked.result.now = same_parked c.args.self.now.parked c.args.place p.0 c.at-parked.result.now p.1 c.at-parked.ensures in
    let at : c.len-count.result ≡ length c.args.self.now.work.store.events = c.len-count.ensures
    ∙ ap length c.requires.begun.levels.threads_are ∙ by_length c.args.self.now.work.store.events in
    let put : c.put.new.self.events ≡ c.args.self.now.work.store.events ++ (as_member c.at-parked.result.now ∷ []) = ap (λ t. t.events) c.in-Ok.ensures.ok in
    let planted_now = c.in_ok-p.ensures.ok (as_member c.at-parked.result.now)
    (ap (λ l. slice_get l c.len-count.result) put ∙ ap (slice_get (c.args.self.now.work.store.events ++ (as_member c.at-parked.result.now ∷ []))) at
    ∙ at_last c.args.self.now.work.store.events (as_member c.at-parked.result.now)) in
    opened_stack c.args.self.now _ p.0 c.requires.begun (record {
      parked = refl;
      levels = refl;
      place = c.args.place;
      is = p.1;
      new = p.2;
      threads = c.in_ok-push.ensures.ok ∙ ap (λ q. c.args.self.now.threads ++ (q.thread ∷ [])) (sym one);
      events = ap (λ t. t.events) planted_now ∙ put ∙ ap (λ q. c.args.self.now.work.store.events ++ (as_member q ∷ [])) (sym one);
      marks = ap (λ t. t.marks) planted_now ∙ ap (λ t. t.marks) c.in-Ok.ensures.ok;
      more_paths = planted p.0.thread ∷ [];
      paths = ap (λ t. t.paths) planted_now ∙ ap (λ t. t.paths ++ (planted c.at-parked.result.now.thread ∷ [])) c.in-Ok.ensures.ok
          ∙ ap (λ q. c.args.self.now.work.store.paths ++ (planted q.thread ∷ [])) (sym one);
      more_moves = None ∷ [];
      moves = c.push_reserved.ensures.items ∙ ap (λ l. l ++ (None ∷ [])) c.in_ok-reserve.ensures.items;
      waiting = refl;
      finals = refl;
    }) refl refl c.len-made.ensures.store (c.push_reserved-2.ensures.items ∙ ap (λ l. l ++ (c.in_ok-p.p ∷ [])) (c.in_ok-reserve-2.ensures.items ∙ c.requires.begun.idle)
    ∙ ap (λ n. n ∷ []) (c.in_ok-p.ensures.number ∙ ap (λ t. length t.paths) c.in-Ok.ensures.ok)) refl
