-- What a joined past has, and whom it leaves at which outcome.
use Rattle.std.proofs.Common.{◌≡◌, ◌<◌, ◌≤◌, inl, inr, ℕ, zero, suc, ◌+◌, List, [], ◌∷◌, ◌++◌, map, take, length, Bool, true}
use Rattle.std.proofs.Common.{false, cond, leb, Option, Some, None, is_some, slice_get, get_or, refl, ap, ap₂, sym, ◌∙◌, subst, arith, append_assoc, append-nil, true≢false}
use Rattle.te_terms.specs.declared.value.Atom.{Atom}
use Rattle.te_terms.specs.declared.event.Outcome.{Outcome}
use Rattle.te_terms.specs.declared.event.Outcome.TheVariants as outcomes
use Rattle.te_path.specs.declared.spot.Stop.{Stop}
use Rattle.te_path.specs.declared.spot.Stop.TheVariants as stops
use Rattle.te_path.specs.Paths.{StandsAt}
use Rattle.te_terms.specs.declared.event.Parked.{Parked}
use Rattle.te_terms.specs.Steps as steps
use Rattle.te_terms.specs.Steps.{outcome_of}
use Rattle.te_terms.specs.Joint.{Label, IsGroup, as_group, part}
use Rattle.te_cert.specs.declared.cert.Member.{Member}
use Rattle.te_cert.specs.declared.cert.Meeting.{Meeting}
use Rattle.te_cert.specs.Certs.{letters_of}
use Rattle.te_trail.specs.declared.moves.Move.{Move}
use Rattle.te_trail.specs.Trails.{label_of, TellsWhether}
use Rattle.te_trail.specs.Paths.{Path, planted, branched, sent, got, thread_of, IsAbove, OnOneLine, move_of}
use Rattle.te_trail.specs.Clocks.{clock_of}
use Rattle.te_trail.specs.States.{path_state}
use Rattle.te_trail.specs.Stores.{Holds, labels_of_move, labels_of, any_rests_on}
use Rattle.std.proofs.lemmas.Bool.{lt-leb}
use Rattle.te_trail.proofs.Lines.{rests_move, above_rests}
use Rattle.te_trail.proofs.ClockLaws.{clock_in}
use Rattle.te_trail.proofs.PastsChain.{true_pasts}
use Rattle.te_search.specs.declared.work.Work.{Work}
use Rattle.te_search.specs.declared.certifying.Gathered.{Gathered}
use Rattle.te_search.specs.Groups.{IsFinal}
use Rattle.te_search.specs.Assemblies.{joint, Numbers}
use Rattle.te_search.specs.Works.{label_told, threads_of, IsHit}
use Rattle.te_search.specs.Findings.{IsGroupOf}
use Rattle.te_search.specs.Stacks.{EventsAreAmong}
use Rattle.te_search.specs.Plantings.{has_number}
use Rattle.te_search.specs.Picks.{Picks, touched, members_by, EndsAt, EndSo, thread_of_member, AreMembers, AreGathered, IsJointTrail, AreMeetingsOf, AreMeets, NumbersRise, TellsNamed}
use Rattle.te_search.proofs.Working.{map_both}
use Rattle.te_search.proofs.Trying.{above_number}
use Rattle.te_terms.proofs.Lists.{get_at, bool_is}
use Rattle.te_search.proofs.JoinedPasts.{joint_in}
use Rattle.te_search.proofs.GroupsClosed.{past_named}
use Rattle.te_search.proofs.EventsAdded.{state_more}
use Rattle.te_search.proofs.PicksOfHits.{hit_picks, picks_more}
use Rattle.te_search.proofs.MembersPicked.{threads_by, group_part, number_in}
use Rattle.te_search.proofs.NumbersListed.{take_one, group_numbers}
use Rattle.te_search.proofs.GroupsCertified.{certified, meetings_in, touched_named}
use Rattle.te_trail.proofs.PastsTold.{labels_append}

-- ---- moves of the past

past_above : (ps : List Path) (t : ℕ) (x z : Path) → joint ps t ≡ Some z → IsAbove x z → any_rests_on ps (move_of x) ≡ true
past_above ps t x z e up = (let y : (y : Path) × Holds ps y × (clock_of y t ≡ Some z) = joint_in ps t z e in true_pasts ps y.0 (move_of x) y.1
    (clock_in y.0 t z (move_of x) y.2 (above_rests x z (move_of x) up (rests_move x))))

above_past : (g : List steps.Member) (paths : List Path) (threads : List ℕ) (joined : List (Option ℕ)) (ps : List Path) → Picks g paths threads joined ps → (x z : Path)
    → joint ps (thread_of x) ≡ Some z → any_rests_on ps (move_of x) ≡ true → IsAbove x z
above_past g paths threads joined ps p x z e h = (let k : (z : Path) × (joint ps (thread_of x) ≡ Some z) × IsAbove x z = past_named g (Holds paths)
    (IsFinal g) ps p.crew x h in let one : k.0 ≡ z = (let f : Some k.0 ≡ Some z = sym k.1 ∙ e in cc) in subst (IsAbove x) one k.2)

pub had_none : (g : List steps.Member) (paths : List Path) (threads : List ℕ) (joined : List (Option ℕ)) (ps : List Path) (x : Path) (t : ℕ) → Picks g paths threads joined ps
    → thread_of x ≡ t → Numbers paths (joint ps t) None → false ≡ any_rests_on ps (move_of x)
had_none g paths threads joined ps x t p tx none = bool_is false (any_rests_on ps (move_of x)) (λ e. cc)
    (λ h. (let k : (z : Path) × (joint ps (thread_of x) ≡ Some z) × IsAbove x z = past_named g (Holds paths) (IsFinal g) ps p.crew x h in let f : None ≡ Some k.0 = sym none
    ∙ ap (joint ps) (sym tx) ∙ k.1 in clash k.0 f))
  where
    clash : (z : Path) → None ≡ Some z → false ≡ true
    clash z f = cc

pub had_later : (g : List steps.Member) (paths : List Path) (threads : List ℕ) (joined : List (Option ℕ)) (ps : List Path) (x : Path) (t k n : ℕ) → Picks g paths threads joined ps
    → slice_get paths k ≡ Some x → thread_of x ≡ t → Numbers paths (joint ps t) (Some n) → n < k → false ≡ any_rests_on ps (move_of x)
had_later g paths threads joined ps x t k n p ex tx (z, ez, jz) low = bool_is false (any_rests_on ps (move_of x)) (λ e. cc)
    (λ h. (let up : IsAbove x z = above_past g paths threads joined ps p x z
    (ap (joint ps) tx ∙ jz) h in let l : k ≤ n = above_number paths p.ups p.store.once k n x z ex ez up in absurd (omega (arith, l, low))))

pub had_line : (g : List steps.Member) (paths : List Path) (threads : List ℕ) (joined : List (Option ℕ)) (ps : List Path) (x : Path) (t k n : ℕ) (answer : Bool)
    → Picks g paths threads joined ps → slice_get paths k ≡ Some x → thread_of x ≡ t → Numbers paths (joint ps t) (Some n) → k ≤ n → TellsWhether paths k n OnOneLine answer
    → answer ≡ any_rests_on ps (move_of x)
had_line g paths threads joined ps x t k n answer p ex tx (z, ez, jz) low tells = bool_is answer (any_rests_on ps (move_of x))
    (λ a. (let line : OnOneLine x z = (tells x z ex ez).0 a in past_above ps t x z jz
    (elim line [
      | inl up ↦ up
      | inr down ↦ (let l : n ≤ k = above_number paths p.ups p.store.once n k z x ez ex down in let same : k ≡ n = omega
          (arith, l, low) in let one : x ≡ z = (let f : Some x ≡ Some z = sym ex ∙ ap (slice_get paths) same ∙ ez in cc) in subst (λ q. IsAbove q z) (sym one)
          (subst (IsAbove z) one down))
    ])))
    (λ h. (tells x z ex ez).1 (inl (above_past g paths threads joined ps p x z (ap (joint ps) tx ∙ jz) h)))

-- ---- the trail

told_at : (moves : List (Option Move)) (paths : List Path) (k : ℕ) (m : Option Move) (x : Path) → map label_told moves ≡ map labels_of_move paths → slice_get moves k ≡ Some m
    → slice_get paths k ≡ Some x → label_told m ≡ labels_of_move x
told_at [] paths k m x e f g = cc
told_at (n ∷ moves) [] k m x e f g = cc
told_at (n ∷ moves) (y ∷ paths) zero m x e f g = (let one : n ≡ m = cc in let two : y ≡ x = cc in let h : label_told n ≡ labels_of_move y = cc in ap label_told (sym one) ∙ h ∙ ap labels_of_move two)
told_at (n ∷ moves) (y ∷ paths) (suc k) m x e f g = (let h : map label_told moves ≡ map labels_of_move paths = cc in told_at moves paths k m x h f g)

-- a move that the past hasn't, or that isn't told, adds nothing
trail_one : (has : Path → Bool) (paths : List Path) (k : ℕ) (x : Path) (so : List Label) → slice_get paths k ≡ Some x → so ≡ cond (has x) (labels_of_move x) []
    → labels_of has (take (k + 1) paths) ≡ labels_of has (take k paths) ++ so
trail_one has paths k x so e is = ap (labels_of has) (take_one paths k x e) ∙ labels_append has (take k paths) (x ∷ [])
    ∙ ap (λ r. labels_of has (take k paths) ++ r) (append-nil (cond (has x) (labels_of_move x) []) ∙ sym is)

nothing_told : (o : Bool) (x : Path) → labels_of_move x ≡ [] → [] ≡ cond o (labels_of_move x) []
nothing_told true x e = sym e
nothing_told false x e = refl

pub trail_untold : (ps paths : List Path) (moves : List (Option Move)) (k : ℕ) (x : Path) (word : List Move) → map label_told moves ≡ map labels_of_move paths
    → slice_get moves k ≡ Some None → slice_get paths k ≡ Some x → map label_of word ≡ labels_of (any_rests_on ps) (take k paths) → map label_of word ≡ labels_of (any_rests_on ps)
    (take (k + 1) paths)
trail_untold ps paths moves k x word t em ex is = is ∙ sym (append-nil (labels_of (any_rests_on ps) (take k paths)))
    ∙ sym (trail_one (any_rests_on ps) paths k x [] ex (nothing_told (any_rests_on ps x) x (sym (told_at moves paths k None x t em ex))))

-- a move that is told is that of its path
own_move : (x : Path) (m : Move) → label_told (Some m) ≡ labels_of_move x → move_of x ≡ x
own_move (planted t) m e = refl
own_move (branched p l) m e = refl
own_move (sent s r) m e = refl
own_move (got s r) m e = cc

pub trail_without : (ps paths : List Path) (moves : List (Option Move)) (k : ℕ) (x : Path) (word : List Move) (m : Move) → map label_told moves ≡ map labels_of_move paths
    → slice_get moves k ≡ Some (Some m) → slice_get paths k ≡ Some x → false ≡ any_rests_on ps (move_of x) → map label_of word ≡ labels_of (any_rests_on ps) (take k paths)
    → map label_of word ≡ labels_of (any_rests_on ps) (take (k + 1) paths)
trail_without ps paths moves k x word m t em ex not_had is = is ∙ sym (append-nil (labels_of (any_rests_on ps) (take k paths)))
    ∙ sym (trail_one (any_rests_on ps) paths k x [] ex (ap (λ o. cond o (labels_of_move x) [])
    (not_had ∙ ap (any_rests_on ps) (own_move x m (told_at moves paths k (Some m) x t em ex)))))

pub trail_with : (ps paths : List Path) (moves : List (Option Move)) (k : ℕ) (x : Path) (word more : List Move) (m : Move) → map label_told moves ≡ map labels_of_move paths
    → slice_get moves k ≡ Some (Some m) → slice_get paths k ≡ Some x → true ≡ any_rests_on ps (move_of x) → more ≡ word ++ (m ∷ [])
    → map label_of word ≡ labels_of (any_rests_on ps) (take k paths) → map label_of more ≡ labels_of (any_rests_on ps) (take (k + 1) paths)
trail_with ps paths moves k x word more m t em ex had push is = ap (map label_of) push ∙ map_both label_of word (m ∷ []) ∙ ap (λ l. l ++ (label_of m ∷ [])) is
    ∙ sym (trail_one (any_rests_on ps) paths k x (label_of m ∷ []) ex
    (told_at moves paths k (Some m) x t em ex ∙ ap (λ o. cond o (labels_of_move x) []) (had ∙ ap (any_rests_on ps) (own_move x m (told_at moves paths k (Some m) x t em ex)))))

-- ---- members

members_more : (side : ℕ → Bool) (word : List Label) (parked : List Parked) (p : Parked) (so : List Member) → so ≡ members_by side word (p ∷ [])
    → members_by side word (parked ++ (p ∷ [])) ≡ members_by side word parked ++ so
members_more side word [] p so e = sym e
members_more side word (q ∷ parked) p so e = go (side q.thread) (members_more side word parked p so e)
  where
    go : (o : Bool) → members_by side word (parked ++ (p ∷ [])) ≡ members_by side word parked ++ so
        → cond o (record { thread = q.thread; ticket = q.ticket; choices = letters_of q.thread word } ∷ members_by side word (parked ++ (p ∷ [])))
        (members_by side word (parked ++ (p ∷ []))) ≡ cond o
        (record { thread = q.thread; ticket = q.ticket; choices = letters_of q.thread word } ∷ members_by side word parked) (members_by side word parked) ++ so
    go true e = ap (λ r. record { thread = q.thread; ticket = q.ticket; choices = letters_of q.thread word } ∷ r) e
    go false e = e

end_more : (g : List steps.Member) (ps : List Path) (ts : List ℕ) (os : List Outcome) (t : ℕ) (o : Outcome) → EndSo g ps ts os → EndsAt g ps t o → EndSo g ps (ts ++ (t ∷ [])) (os ++ (o ∷ []))
end_more g ps [] [] t o e h = (h, tt)
end_more g ps (s ∷ ts) (p ∷ os) t o e h = (e.0, end_more g ps ts os t o e.1 h)
end_more g ps [] (p ∷ os) t o e h = absurd e
end_more g ps (s ∷ ts) [] t o e h = absurd e

pub gathered_none : (g : List steps.Member) (ps : List Path) (word : List Label) (parked : List Parked) (p : Parked) (members : List Member) (names : List ℕ)
    (outcomes : List Outcome) → joint ps p.thread ≡ None → AreMembers g ps word parked members names outcomes → AreMembers g ps word (parked ++ (p ∷ [])) members names outcomes
gathered_none g ps word parked p members names outcomes none a = record {
  are = a.are ∙ sym (append-nil (members_by (touched ps) word parked))
      ∙ sym (members_more (touched ps) word parked p [] (ap (λ o. cond (is_some o) (record { thread = p.thread; ticket = p.ticket; choices = letters_of p.thread word } ∷ []) [])
      (sym none)));
  names_are = a.names_are;
  end_so = a.end_so;
}

pub gathered_more : (g : List steps.Member) (ps : List Path) (word : List Label) (parked : List Parked) (p : Parked) (members members2 : List Member) (names names2 : List ℕ)
    (outcomes outcomes2 : List Outcome) (choices : List Bool) (o : Outcome) (x : Path) (m : steps.Member) → joint ps p.thread ≡ Some x → path_state g x ≡ Some m
    → outcome_of m.term ≡ Some o
    → choices ≡ letters_of p.thread word → members2 ≡ members ++ (record { thread = p.thread; ticket = p.ticket; choices = choices } ∷ []) → names2 ≡ names ++ (p.thread ∷ [])
    → outcomes2 ≡ outcomes ++ (o ∷ []) → AreMembers g ps word parked members names outcomes → AreMembers g ps word (parked ++ (p ∷ [])) members2 names2 outcomes2
gathered_more g ps word parked p members members2 names names2 outcomes outcomes2 choices o x m named st ends ch me na ou a = record {
  are = me ∙ ap₂ (λ l c. l ++ (record { thread = p.thread; ticket = p.ticket; choices = c } ∷ [])) a.are ch
      ∙ sym (members_more (touched ps) word parked p (record { thread = p.thread; ticket = p.ticket; choices = letters_of p.thread word } ∷ [])
      (ap (λ o. cond (is_some o) (record { thread = p.thread; ticket = p.ticket; choices = letters_of p.thread word } ∷ []) []) (sym named)));
  names_are = na ∙ ap (λ l. l ++ (p.thread ∷ [])) a.names_are ∙ sym (map_both thread_of_member members (record { thread = p.thread; ticket = p.ticket; choices = choices } ∷ []))
      ∙ ap (map thread_of_member) (sym me);
  end_so = ends_here;
}
  where
    ends_here : EndSo g ps names2 outcomes2
    ends_here = subst (λ l. EndSo g ps l outcomes2) (sym na)
        (subst (EndSo g ps (names ++ (p.thread ∷ []))) (sym ou)
        (end_more g ps names outcomes p.thread o a.end_so (record { path = x; named = named; member = m; state = st; ends = ends })))

members_lift : (g h : List steps.Member) (ps : List Path) (word : List Label) (parked : List Parked) (members : List Member) (names : List ℕ) (outcomes : List Outcome)
    → EventsAreAmong g h → AreMembers g ps word parked members names outcomes → AreMembers h ps word parked members names outcomes
members_lift g h ps word parked members names outcomes among a = record { are = a.are; names_are = a.names_are; end_so = lift names outcomes a.end_so }
  where
    lift : (ts : List ℕ) (os : List Outcome) → EndSo g ps ts os → EndSo h ps ts os
    lift [] [] e = tt
    lift (t ∷ ts) (o ∷ os) e = (record { path = e.0.path; named = e.0.named; member = e.0.member; state = state_more g h among e.0.path e.0.member e.0.state; ends = e.0.ends }, lift ts os e.1)
    lift [] (o ∷ os) e = absurd e
    lift (t ∷ ts) [] e = absurd e

-- ---- the group

pub names_told : (g : List steps.Member) (ps : List Path) (word : List Label) (parked : List Parked) (members : List Member) (names : List ℕ) (outcomes : List Outcome)
    → AreMembers g ps word parked members names outcomes → names ≡ threads_of (part (touched ps) (as_group parked))
names_told g ps word parked members names outcomes a = a.names_are ∙ ap (map thread_of_member) a.are ∙ threads_by (touched ps) word parked

-- all that was told of a joined past that was found
pub record Told (w : Work) (threads : List ℕ) (joined : List (Option ℕ)) (parked : List Parked) (word : List Move) (gathered : Gathered) : Type 0 where
  pub hit : IsHit w threads joined
  pub among : EventsAreAmong w.store.events (as_group parked)
  pub rise : IsGroup (as_group parked)
  pub trail : IsJointTrail w.store.events w.store.paths threads joined word
  pub members : AreGathered w.store.events w.store.paths threads joined (map label_of word) parked gathered

pub told_between : (w : Work) (threads : List ℕ) (joined : List (Option ℕ)) (parked : List Parked) (word : List Move) (gathered : Gathered)
    → Told w threads joined parked word gathered → AreMeetingsOf gathered.names.items (map label_of word)
told_between w threads joined parked word gathered t =
    let p : (ps : List Path) × Picks w.store.events w.store.paths threads joined ps = hit_picks w threads joined t.hit in
    let q : Picks (as_group parked) w.store.paths threads joined p.0 = picks_more w.store.events (as_group parked) w.store.paths threads joined p.0 t.among p.1 in
    let n : gathered.names.items ≡ threads_of (part (touched p.0) (as_group parked)) = names_told w.store.events p.0
    (map label_of word) parked gathered.members gathered.names.items gathered.outcomes (t.members p.0 p.1) in
    subst (λ l. AreMeetingsOf gathered.names.items l) (sym (t.trail p.0 p.1))
    (meetings_in (as_group parked) w.store.paths threads joined p.0 q gathered.names.items
    (λ k e. ap (λ l. has_number l k) n ∙ touched_named (as_group parked) w.store.paths threads joined p.0 q k e) w.store.paths)

pub told_rise : (w : Work) (threads : List ℕ) (joined : List (Option ℕ)) (parked : List Parked) (word : List Move) (gathered : Gathered)
    → Told w threads joined parked word gathered → NumbersRise gathered.names.items
told_rise w threads joined parked word gathered t =
    let p : (ps : List Path) × Picks w.store.events w.store.paths threads joined ps = hit_picks w threads joined t.hit in
    subst NumbersRise (sym (names_told w.store.events p.0 (map label_of word) parked gathered.members gathered.names.items gathered.outcomes (t.members p.0 p.1)))
    (group_numbers (part (touched p.0) (as_group parked)) (group_part (touched p.0) (as_group parked) t.rise))

pub told_group : (w : Work) (threads : List ℕ) (joined : List (Option ℕ)) (parked : List Parked) (word : List Move) (gathered : Gathered) (meets : List Meeting)
    → Told w threads joined parked word gathered → AreMeets gathered.names.items (map label_of word) meets
    → IsGroupOf parked (record { members = gathered.members; meets = meets }) gathered.outcomes
told_group w threads joined parked word gathered meets t m =
    let p : (ps : List Path) × Picks w.store.events w.store.paths threads joined ps = hit_picks w threads joined t.hit in
    let q : Picks (as_group parked) w.store.paths threads joined p.0 = picks_more w.store.events (as_group parked) w.store.paths threads joined p.0 t.among p.1 in
    let a : AreMembers w.store.events p.0 (map label_of word) parked gathered.members gathered.names.items gathered.outcomes = t.members p.0 p.1 in
    let n : gathered.names.items ≡ threads_of (part (touched p.0) (as_group parked)) = names_told w.store.events p.0
    (map label_of word) parked gathered.members gathered.names.items gathered.outcomes a in
    certified parked w.store.paths threads joined p.0 (map label_of word) (record { members = gathered.members; meets = meets }) gathered.outcomes gathered.names.items t.rise q
    (t.trail p.0 p.1) (members_lift w.store.events (as_group parked) p.0 (map label_of word) parked gathered.members gathered.names.items gathered.outcomes t.among a)
    (m (part (touched p.0) (as_group parked)) n)

-- ---- what the code reads

pub unnamed : (threads : List ℕ) (joined : List (Option ℕ)) (t : ℕ) → has_number threads t ≡ false → TellsNamed threads joined t None
unnamed threads joined t none paths ps names listed = go (joint ps t) refl
  where
    go : (o : Option Path) → joint ps t ≡ o → joint ps t ≡ None
    go None e = e
    go (Some c) e = (let i : (i : ℕ) × (slice_get threads i ≡ Some t) = listed t c e in absurd (true≢false (sym (number_in threads t i.0 i.1) ∙ none)))

pub final_stop : (g : List steps.Member) (x : Path) (stop : Stop) → IsFinal g x → ((m : steps.Member) (s : Stop) → path_state g x ≡ Some m → StandsAt m.term s → stop ≡ s)
    → ((v : List Atom) → stop ≡ stops.Done v → ⊥) → ((v : List Atom) → stop ≡ stops.Raised v → ⊥) → ⊥
final_stop g x stop f only not_done not_raised = go f.outcome f.ends
  where
    go : (o : Outcome) → outcome_of f.member.term ≡ Some o → ⊥
    go (outcomes.Gives v) e = not_done v (only f.member (stops.Done v) f.state e)
    go (outcomes.Raises v) e = not_raised v (only f.member (stops.Raised v) f.state e)

pub none_at : (moves : List (Option Move)) (k : ℕ) → k < length moves → ((m : Move) → get_or moves k None ≡ Some m → ⊥) → slice_get moves k ≡ Some None
none_at moves k l f = get_at moves k None l ∙ ap Some (nothing (get_or moves k None) f)
  where
    nothing : (o : Option Move) → ((m : Move) → o ≡ Some m → ⊥) → o ≡ None
    nothing None f = refl
    nothing (Some m) f = absurd (f m refl)

pub as_long : (moves : List (Option Move)) (paths : List Path) → map label_told moves ≡ map labels_of_move paths → length moves ≡ length paths
as_long [] [] e = refl
as_long [] (x ∷ paths) e = cc
as_long (m ∷ moves) [] e = cc
as_long (m ∷ moves) (x ∷ paths) e = (let h : map label_told moves ≡ map labels_of_move paths = cc in ap suc (as_long moves paths h))

pub late : (k n : ℕ) → n < k → leb k n ≡ false
late k n h = lt-leb k n h
