-- The plays of one event that has a value, and of a sender and a receiver on one channel.
use Rattle.std.proofs.Common.{◌≡◌, ℕ, List, [], ◌∷◌, Ok, refl, eq-eqb}
use Rattle.te_terms.specs.declared.value.Atom.{Atom}
use Rattle.te_terms.specs.Steps.{come_to}
use Rattle.te_terms.specs.declared.event.Outcome.TheVariants.{Gives}
use Rattle.te_terms.specs.Expressions.{Primitive, Expression, value_of, channel_value}
use Rattle.te_terms.specs.Terms.{always, send, recv}
use Rattle.te_terms.specs.Joint.{meeting}
use Rattle.te_cert.specs.Play.{play}

pub play-alone : (t k : ℕ) (e : Expression) (v : List Atom) → value_of e ≡ Ok v
    → play (come_to t k 0 (always e) ∷ []) ([] ∷ []) [] ≡ Ok (record { outcomes = Gives v ∷ []; word = [] })
play-alone t k e v of = simp of

pub play-sender_first : (s h r k : ℕ) (p q : Primitive) (e : Expression) (c : ℕ) (v : List Atom) → channel_value p ≡ Ok c → value_of e ≡ Ok v → channel_value q ≡ Ok c
    → play (come_to s h 0 (send p e) ∷ come_to r k 0 (recv q) ∷ []) ([] ∷ [] ∷ []) (record { sender = 0; receiver = 1 } ∷ [])
    ≡ Ok (record { outcomes = Gives [] ∷ Gives v ∷ []; word = meeting s r ∷ [] })
play-sender_first s h r k p q e c v on of same = simp (on, of, same, eq-eqb c c refl)

pub play-receiver_first : (s h r k : ℕ) (p q : Primitive) (e : Expression) (c : ℕ) (v : List Atom) → channel_value p ≡ Ok c → value_of e ≡ Ok v → channel_value q ≡ Ok c
    → play (come_to r k 0 (recv q) ∷ come_to s h 0 (send p e) ∷ []) ([] ∷ [] ∷ []) (record { sender = 1; receiver = 0 } ∷ [])
    ≡ Ok (record { outcomes = Gives v ∷ Gives [] ∷ []; word = meeting s r ∷ [] })
play-receiver_first s h r k p q e c v on of same = simp (on, of, same, eq-eqb c c refl)
