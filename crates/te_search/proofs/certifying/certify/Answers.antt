use Rattle.std.proofs.Common.{sym, subst, subst₂, map}
use Rattle.te_trail.specs.Trails.{label_of}
use Rattle.te_search.specs.Picks.{AreMeetingsOf, NumbersRise, AreMeets, AreGathered}
use Rattle.te_search.proofs.PicksOfHits.{hit_numbers}
use Rattle.te_search.proofs.PastsJoined.{Told, told_between, told_rise, told_group}
use Rattle.te_search.proofs.certifying.certify.Goals as goal

pub joint_trail-requires-clause-numbers : goal.joint_trail-requires-clause-numbers
joint_trail-requires-clause-numbers c = hit_numbers c.args.work.now c.args.threads.now c.args.joined.now c.requires.hit

pub gather-requires-clause-numbers : goal.gather-requires-clause-numbers
gather-requires-clause-numbers c = hit_numbers c.args.work.now c.args.threads.now c.args.joined.now c.requires.hit

pub meetings-requires-clause-there : goal.meetings-requires-clause-there
meetings-requires-clause-there c =
    let t : Told c.args.work.now c.args.threads.now c.args.joined.now c.args.parked.now c.in_ok-word.word.items c.in_ok-gathered.gathered = record {
      hit = c.requires.hit;
      among = c.requires.among;
      rise = c.requires.rise;
      trail = c.in_ok-word.ensures.trail;
      members = subst
          (λ w. AreGathered c.args.work.now.store.events c.args.work.now.store.paths c.args.threads.now c.args.joined.now
          (map label_of w) c.args.parked.now c.in_ok-gathered.gathered) c.deref-2.ensures.value c.in_ok-gathered.ensures;
    } in
    subst₂ (λ n w. AreMeetingsOf n (map label_of w)) (sym c.deref-3.ensures.value) (sym c.deref-4.ensures.value)
    (told_between c.args.work.now c.args.threads.now c.args.joined.now c.args.parked.now c.in_ok-word.word.items c.in_ok-gathered.gathered t)

pub meetings-requires-clause-rise : goal.meetings-requires-clause-rise
meetings-requires-clause-rise c =
    let t : Told c.args.work.now c.args.threads.now c.args.joined.now c.args.parked.now c.in_ok-word.word.items c.in_ok-gathered.gathered = record {
      hit = c.requires.hit;
      among = c.requires.among;
      rise = c.requires.rise;
      trail = c.in_ok-word.ensures.trail;
      members = subst
          (λ w. AreGathered c.args.work.now.store.events c.args.work.now.store.paths c.args.threads.now c.args.joined.now
          (map label_of w) c.args.parked.now c.in_ok-gathered.gathered) c.deref-2.ensures.value c.in_ok-gathered.ensures;
    } in
    subst NumbersRise (sym c.deref-3.ensures.value) (told_rise c.args.work.now c.args.threads.now c.args.joined.now c.args.parked.now c.in_ok-word.word.items c.in_ok-gathered.gathered t)

pub returns : goal.returns
returns c =
    let t : Told c.args.work.now c.args.threads.now c.args.joined.now c.args.parked.now c.in_ok-word.word.items c.in_ok-gathered.gathered = record {
      hit = c.requires.hit;
      among = c.requires.among;
      rise = c.requires.rise;
      trail = c.in_ok-word.ensures.trail;
      members = subst
          (λ w. AreGathered c.args.work.now.store.events c.args.work.now.store.paths c.args.threads.now c.args.joined.now
          (map label_of w) c.args.parked.now c.in_ok-gathered.gathered) c.deref-2.ensures.value c.in_ok-gathered.ensures;
    } in
    told_group c.args.work.now c.args.threads.now c.args.joined.now c.args.parked.now c.in_ok-word.word.items c.in_ok-gathered.gathered c.in_ok-meets.meets t
    (subst₂ (λ n w. AreMeets n (map label_of w) c.in_ok-meets.meets) c.deref-3.ensures.value c.deref-4.ensures.value c.in_ok-meets.ensures.meets)
