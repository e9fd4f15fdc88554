-- Where a path stands, from what the store tells.
use Rattle.std.proofs.Common.{◌≡◌, ◌<◌, ℕ, zero, suc, Bool, true, false, List, [], ◌∷◌, length, Option, Some, slice_get, refl, ap, sym, ◌∙◌, subst, arith}
use Rattle.te_terms.specs.declared.value.Atom.{Atom}
use Rattle.te_terms.specs.Steps.{Member}
use Rattle.te_path.specs.declared.spot.Stop.{Stop}
use Rattle.te_path.specs.declared.spot.Stop.TheVariants as stops
use Rattle.te_path.specs.Paths.{StandsAt}
use Rattle.te_trail.specs.Paths.{Path}
use Rattle.te_trail.specs.States.{path_state}
use Rattle.te_trail.specs.Trails.{Trail, IsStop}
use Rattle.te_pair.specs.declared.end.End.{End}
use Rattle.te_pair.specs.Ends.{StandsOn, IsEnd, IsAtEnd}

-- the clause `only` of where a path stands
abbrev pub OnlyStop : Trail → ℕ → Stop → Type 0
OnlyStop store p told = (x : Path) (m : Member) (stop : Stop) → slice_get store.paths p ≡ Some x → path_state store.events x ≡ Some m → StandsAt m.term stop → told ≡ stop

end_is : (e : End) (p c : ℕ) (s : Bool) → e.path ≡ p → e.channel ≡ c → e.sends ≡ s → e ≡ record { path = p; channel = c; sends = s }
end_is e p c s hp hc hs = ap {B = End} (λ q. record { path = q; channel = e.channel; sends = e.sends }) hp
    ∙ ap {B = End} (λ d. record { path = p; channel = d; sends = e.sends }) hc ∙ ap {B = End}
    (λ b. record { path = p; channel = c; sends = b }) hs

pub path_there : (xs : List Path) (p : ℕ) → p < length xs → (x : Path) × (slice_get xs p ≡ Some x)
path_there [] p h = absurd (omega (arith, h))
path_there (x ∷ xs) zero h = (x, refl)
path_there (x ∷ xs) (suc p) h = path_there xs p (omega (arith, h))

pub path_low : (xs : List Path) (p : ℕ) (x : Path) → slice_get xs p ≡ Some x → p < length xs
path_low [] p x h = cc
path_low (y ∷ xs) zero x h = omega arith
path_low (y ∷ xs) (suc p) x h = let low : p < length xs = path_low xs p x h in omega (arith, low)

pub send_told : (store : Trail) (p c : ℕ) (v : List Atom) → p < length store.paths → IsStop store p (stops.Send c v) → IsEnd store (record { path = p; channel = c; sends = true })
send_told store p c v low told = by (path_there store.paths p low)
  where
    by : (x : Path) × (slice_get store.paths p ≡ Some x) → IsEnd store (record { path = p; channel = c; sends = true })
    by (x, ex) = record { of = x; made = ex; member = (told x ex).0; state = (told x ex).1.state; stands = (record { channel = c; value = v }, (told x ex).2, refl) }

pub receive_told : (store : Trail) (p c : ℕ) → p < length store.paths → IsStop store p (stops.Recv c) → IsEnd store (record { path = p; channel = c; sends = false })
receive_told store p c low told = by (path_there store.paths p low)
  where
    by : (x : Path) × (slice_get store.paths p ≡ Some x) → IsEnd store (record { path = p; channel = c; sends = false })
    by (x, ex) = record { of = x; made = ex; member = (told x ex).0; state = (told x ex).1.state; stands = (told x ex).2 }

pub record Seen (e : End) (told : Stop) : Type 0 where
  pub sends : e.sends ≡ true → (v : List Atom) × (told ≡ stops.Send e.channel v)
  pub receives : e.sends ≡ false → told ≡ stops.Recv e.channel

pub seen : (store : Trail) (p : ℕ) (told : Stop) → OnlyStop store p told → (e : End) → e.path ≡ p → IsEnd store e → Seen e told
seen store p told only e here h = record { sends = λ s. sends e.sends s h.stands; receives = λ s. receives e.sends s h.stands }
  where
    made : slice_get store.paths p ≡ Some h.of
    made = subst (λ q. slice_get store.paths q ≡ Some h.of) here h.made

    sends : (s : Bool) → s ≡ true → StandsOn s e.channel h.member → (v : List Atom) × (told ≡ stops.Send e.channel v)
    sends true s (m, em, ec) = (m.value, only h.of h.member (stops.Send m.channel m.value) made h.state em ∙ ap (λ c. stops.Send c m.value) ec)
    sends false s g = cc

    receives : (s : Bool) → s ≡ false → StandsOn s e.channel h.member → told ≡ stops.Recv e.channel
    receives true s g = cc
    receives false s g = only h.of h.member (stops.Recv e.channel) made h.state g

pub only_send : (store : Trail) (p c : ℕ) (v : List Atom) → OnlyStop store p (stops.Send c v) → (e : End) → e.path ≡ p → IsEnd store e → e ≡ record { path = p; channel = c; sends = true }
only_send store p c v only e here h = by e.sends refl
  where
    told : Seen e (stops.Send c v)
    told = seen store p (stops.Send c v) only e here h

    by : (s : Bool) → e.sends ≡ s → e ≡ record { path = p; channel = c; sends = true }
    by true s = (let same : stops.Send c v ≡ stops.Send e.channel (told.sends s).0 = (told.sends s).1 in let one : e.channel ≡ c = cc in end_is e p c true here one s)
    by false s = (let same : stops.Send c v ≡ stops.Recv e.channel = told.receives s in cc)

pub only_receive : (store : Trail) (p c : ℕ) → OnlyStop store p (stops.Recv c) → (e : End) → e.path ≡ p → IsEnd store e → e ≡ record { path = p; channel = c; sends = false }
only_receive store p c only e here h = by e.sends refl
  where
    told : Seen e (stops.Recv c)
    told = seen store p (stops.Recv c) only e here h

    by : (s : Bool) → e.sends ≡ s → e ≡ record { path = p; channel = c; sends = false }
    by true s = (let same : stops.Recv c ≡ stops.Send e.channel (told.sends s).0 = (told.sends s).1 in cc)
    by false s = (let same : stops.Recv c ≡ stops.Recv e.channel = told.receives s in let one : e.channel ≡ c = cc in end_is e p c false here one s)

-- a path at an end is seen at a send or a receive
pub some_end : (store : Trail) (p : ℕ) (told : Stop) → p < length store.paths → IsAtEnd store p → IsStop store p told → OnlyStop store p told → (e : End) × (e.path ≡ p) × Seen e told
some_end store p told low stands is only = by (path_there store.paths p low)
  where
    by : (x : Path) × (slice_get store.paths p ≡ Some x) → (e : End) × (e.path ≡ p) × Seen e told
    by (x, ex) = (let at : (sends : Bool) × (channel : ℕ) × StandsOn sends channel (is x ex).0 = stands x (is x ex).0 ex (is x ex).1.state in (
      record { path = p; channel = at.1; sends = at.0 },
      refl,
      seen store p told only (record { path = p; channel = at.1; sends = at.0 }) refl
          (record { of = x; made = ex; member = (is x ex).0; state = (is x ex).1.state; stands = at.2 }),
    ))

-- what is seen at a send or a receive is at an end
pub one_state : (o : Option Member) (a b : Member) → o ≡ Some a → o ≡ Some b → a ≡ b
one_state o a b e f = (let same : Some a ≡ Some b = sym e ∙ f in cc)

pub at_send : (store : Trail) (p c : ℕ) (v : List Atom) (told : Stop) → told ≡ stops.Send c v → IsStop store p told → IsAtEnd store p
at_send store p c v told e is x m ex em = (
  true,
  c,
  (
    record { channel = c; value = v },
    subst (λ k. StandsAt k.term (stops.Send c v)) (one_state (path_state store.events x) (is x ex).0 m
        (is x ex).1.state em) (subst (StandsAt (is x ex).0.term) e (is x ex).2),
    refl,
  ),
)

pub at_receive : (store : Trail) (p c : ℕ) (told : Stop) → told ≡ stops.Recv c → IsStop store p told → IsAtEnd store p
at_receive store p c told e is x m ex em = (
  false,
  c,
  subst (λ k. StandsAt k.term (stops.Recv c))
      (one_state (path_state store.events x) (is x ex).0 m (is x ex).1.state em)
      (subst (StandsAt (is x ex).0.term) e (is x ex).2),
)
