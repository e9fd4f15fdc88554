use Rattle.std.proofs.Common.{◌≡◌, ℕ, ◌<◌, ◌^◌, List, [], ◌∷◌, ◌++◌, length, slice_index_or, sym, ap, subst, ◌∙◌}
use Rattle.std.proofs.Math.Seq.{get_or-append_seam}
use Rattle.te_history.specs.declared.entry.Entry.{Entry}
use Rattle.te_history.specs.declared.seat.Seat.{Seat}
use Rattle.te_history.specs.declared.status.Phase.{Phase}
use Rattle.te_history.specs.Follows.{LooselyFollows, caller_of}
use Rattle.te_history.specs.Histories.{History}
use Rattle.te_history.specs.Kept.{StateIsKept, seats_after, phase_after, resting_after}
use Rattle.te_history.proofs.SeatsAfter.{length-seats_after}
use Rattle.te_history.proofs.KeptAfter.{members_within, few_posts, kept_after, kept_along, written_over}
use Rattle.te_history.proofs.history.Hist.push.Goals as goal

-- what is read behind the earlier entries is the new one
last_read : (before after : List Entry) (entry : Entry) (place : ℕ) → place ≡ length before → after ≡ before ++ entry ∷ [] → (read : Entry)
    → read ≡ slice_index_or after place read → read ≡ entry
last_read before after entry place at is read reads =
    reads ∙ ap (λ (n : ℕ). slice_index_or after n read) at ∙ ap (λ (l : List Entry). slice_index_or l (length before) read) is
    ∙ get_or-append_seam before entry [] read

read_back : (c : goal.After-deref_mut) → c.index-entry.result.now ≡ c.args.entry
read_back c = last_read c.self.inside.entries.items c.push_reserved.new.self.items c.args.entry c.len-place.result
    (c.len-place.ensures ∙ c.self.inside.entries.ok.0) c.push_reserved.ensures.items c.index-entry.result.now c.index-entry.ensures

pub sit-requires-clause-members : goal.sit-requires-clause-members
sit-requires-clause-members c =
    let follows = subst (λ (h : History). LooselyFollows h.callers h.entries c.args.entry) (sym c.self.view_is) c.requires.follows in
    members_within _ c.self.inside.entries.items c.index-entry.result.now
    (subst (λ (n : ℕ). LooselyFollows n c.self.inside.entries.items c.index-entry.result.now) (ap length (sym c.deref_mut.ensures.value))
    (subst (λ (e : Entry). LooselyFollows (length c.self.inside.seats.items) c.self.inside.entries.items e) (sym (read_back c)) follows))

pub sit-requires-clause-few : goal.sit-requires-clause-few
sit-requires-clause-few c =
    let short = subst (λ (h : History). length h.entries < 2 ^ 31) (sym c.self.view_is) c.requires.few in
    λ seat is. few_posts c.self.inside.entries.items _ _ _ (caller_of c.index-entry.result.now) seat
    (subst (λ (xs : List Seat). StateIsKept c.self.inside.entries.items xs c.self.inside.phase c.self.inside.resting)
    (sym c.deref_mut.ensures.value) c.self.invariant) short is

pub invariant_of-self : goal.invariant_of-self
invariant_of-self c =
    let follows = subst (λ (h : History). LooselyFollows h.callers h.entries c.args.entry) (sym c.self.view_is) c.requires.follows in
    let short = subst (λ (h : History). length h.entries < 2 ^ 31) (sym c.self.view_is) c.requires.few in
    let place : c.len-place.result ≡ length c.self.inside.entries.items = c.len-place.ensures ∙ c.self.inside.entries.ok.0 in
    let read : c.index-entry.result.now ≡ c.args.entry =
    last_read c.self.inside.entries.items c.push_reserved.new.self.items c.args.entry c.len-place.result place c.push_reserved.ensures.items
    c.index-entry.result.now c.index-entry.ensures in
    let sat : c.sit.new.seats ≡ seats_after (length c.self.inside.entries.items) c.self.inside.seats.items c.args.entry =
    c.sit.ensures ∙ ap (λ (p : ℕ). seats_after p c.deref_mut.result.now c.index-entry.result.now) place
    ∙ ap (λ (xs : List Seat). seats_after (length c.self.inside.entries.items) xs c.index-entry.result.now) c.deref_mut.ensures.value
    ∙ ap (λ (e : Entry). seats_after (length c.self.inside.entries.items) c.self.inside.seats.items e) read in
    let longer : length c.sit.new.seats ≡ c.self.inside.seats.len =
    ap length sat ∙ length-seats_after (length c.self.inside.entries.items) c.self.inside.seats.items c.args.entry ∙ sym c.self.inside.seats.ok.0 in
    kept_along (sym c.push_reserved.ensures.items) (sym (written_over c.self.inside.seats.len c.sit.new.seats c.self.inside.seats.items longer ∙ sat))
    (sym (c.phase_after-self-inside.ensures ∙ ap (λ (e : Entry). phase_after c.self.inside.phase e) read))
    (sym (c.resting_after-self-inside.ensures ∙ ap (λ (e : Entry). resting_after c.self.inside.resting e) read))
    (kept_after c.self.inside.entries.items c.self.inside.seats.items c.self.inside.phase c.self.inside.resting c.args.entry c.self.invariant follows short)
