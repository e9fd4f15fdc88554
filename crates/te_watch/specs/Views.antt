-- What an entry changes of a shadow. No public clause cites this module.
use Rattle.std.specs.Prelude.{ℕ, ◌+◌, List, [], ◌∷◌, slice_set, fold}
use Rattle.te_terms.specs.declared.event.Outcome.{Outcome}
use Rattle.te_cert.specs.declared.cert.Member.{Member}
use Rattle.te_history.specs.declared.entry.Entry.{Entry}
use Rattle.te_history.specs.declared.entry.Entry.TheVariants as entries
use Rattle.te_history.specs.Kept.{phase_after, resting_after}
use Rattle.te_watch.specs.declared.light.Light.{Light}
use Rattle.te_watch.specs.declared.light.Light.TheVariants as lights
use Rattle.te_watch.specs.Shadows.{Shadow}

-- each member shows its ticket, where it is given an outcome
abbrev pub lights_given : List Member → List Outcome → List Light → List Light
lights_given [] os ls = ls
lights_given (m ∷ ms) [] ls = ls
lights_given (m ∷ ms) (o ∷ os) ls = lights_given ms os (slice_set ls m.thread (lights.Given m.ticket))

abbrev pub lights_after : List Light → Entry → List Light
lights_after ls (entries.Post by ticket event) = slice_set ls by (lights.Parked ticket)
lights_after ls (entries.Commit by cert outcomes) = lights_given cert.members outcomes ls
lights_after ls (entries.Withdraw by ticket) = slice_set ls by lights.Idle
lights_after ls (entries.Take by ticket outcome) = slice_set ls by lights.Idle
lights_after ls (entries.Rest by) = ls
lights_after ls (entries.Stuck by) = ls
lights_after ls (entries.End by how) = slice_set ls by lights.Ended

abbrev pub commits_after : ℕ → Entry → ℕ
commits_after n (entries.Commit by cert outcomes) = n + 1
commits_after n _ = n

abbrev pub shadow_after : Shadow → Entry → Shadow
shadow_after s e = record {
  front = s.front + 1;
  commits = commits_after s.commits e;
  phase = phase_after s.phase e;
  resting = resting_after s.resting e;
  lights = lights_after s.lights e;
}

-- the shadow after all of these
abbrev pub shadow_from : Shadow → List Entry → Shadow
shadow_from s es = fold shadow_after s es
