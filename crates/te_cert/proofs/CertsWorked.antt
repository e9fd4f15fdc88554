-- Certificates of labels, and which worked certificates are tight.
use Rattle.std.proofs.Common.{◌≡◌, ◌<◌, ◌∙◌, sym, refl, arith, lit<}
use Rattle.std.specs.Prelude.{ℕ, zero, suc, List, [], ◌∷◌, Bool, true, false, Ok, nat_lt}
use Rattle.te_terms.specs.declared.event.Outcome.{Outcome}
use Rattle.te_terms.specs.Steps.{come_to}
use Rattle.te_terms.specs.declared.event.Outcome.TheVariants.{Gives}
use Rattle.te_terms.specs.Expressions.{chan}
use Rattle.te_terms.specs.Terms.{Term, always, never, send, recv, choose}
use Rattle.te_terms.specs.Steps as steps
use Rattle.te_terms.specs.Joint.{Label, choice, meeting, labelled, Reduces}
use Rattle.te_cert.specs.declared.cert.Cert.{Cert}
use Rattle.te_cert.specs.Play.{play}
use Rattle.te_cert.specs.Certs.{choices_of, meetings_of, IsTight}
use Rattle.te_cert.proofs.RowsTerms.{single, single_value, unit}
use Rattle.te_cert.proofs.RowsRing as ring

-- ---- from labels to a certificate: the order of the choices of two members doesn't matter

abbrev choosers : List steps.Member
choosers = come_to 0 0 0 (choose (always (single 1)) never) ∷ come_to 1 0 0 (choose (always (single 2)) never) ∷ []

abbrev second_first : List Label
second_first = choice 1 true ∷ choice 0 true ∷ []

abbrev chosen : List Outcome
chosen = Gives (single_value 1) ∷ Gives (single_value 2) ∷ []

pub labels_reduce : Reduces choosers second_first chosen
labels_reduce = record {
  actions = labelled (choice 1 true) ∷ labelled (choice 0 true) ∷ [];
  end = come_to 0 0 0 (always (single 1)) ∷ come_to 1 0 0 (always (single 2)) ∷ [];
  labels_are = refl;
  reaches = refl;
  ends_so = refl;
}

-- the certificate of these labels plays to the same outcomes, with the labels in the order of the members
pub certificate_plays : play choosers (choices_of choosers second_first) (meetings_of choosers second_first) ≡ Ok (record { outcomes = chosen; word = choice 0 true ∷ choice 1 true ∷ [] })
certificate_plays = refl

-- ---- tight certificates

-- where all of three places agree with the next, the first agrees with each
three_agree : (side : ℕ → Bool) → side 0 ≡ side 1 → side 1 ≡ side 2 → (i : ℕ) → i < 3 → side 0 ≡ side i
three_agree side e f zero h = refl
three_agree side e f (suc zero) h = e
three_agree side e f (suc (suc zero)) h = e ∙ f
three_agree side e f (suc (suc (suc i))) h = absurd (omega (arith, h))

pub ring_is_tight : IsTight ring.cert
ring_is_tight side m i j h k =
    let first : side 0 ≡ side 1 = m.0 (lit< tt) (lit< tt) in
    let second : side 1 ≡ side 2 = m.1.0 (lit< tt) (lit< tt) in
    sym (three_agree side first second i h) ∙ three_agree side first second j k

-- two pairs that meet each on a channel of their own
abbrev pairs : Cert
pairs = record {
  members =
      record { thread = 0; ticket = 0; choices = [] }
      ∷ record { thread = 1; ticket = 0; choices = [] }
      ∷ record { thread = 2; ticket = 0; choices = [] }
      ∷ record { thread = 3; ticket = 0; choices = [] }
      ∷ [];
  meets = record { sender = 0; receiver = 1 } ∷ record { sender = 2; receiver = 3 } ∷ [];
}

true_false : true ≡ false → ⊥
true_false e = cc

-- the first pair on one side, the second on the other
pub pairs_are_not_tight : ¬ IsTight pairs
pairs_are_not_tight tight = true_false (tight (λ i. nat_lt i 2) (λ a b. refl, (λ a b. refl, tt)) 0 2 (lit< tt) (lit< tt))

-- ---- a tight certificate isn't always of a smallest group: here the first member could commit alone

abbrev alone_or_not : Term
alone_or_not = choose (always unit) (send (chan 0) (single 1))

abbrev whole_group : List steps.Member
whole_group = come_to 0 0 0 alone_or_not ∷ come_to 1 0 0 (recv (chan 0)) ∷ []

abbrev whole_cert : Cert
whole_cert = record {
  members = record { thread = 0; ticket = 0; choices = false ∷ [] } ∷ record { thread = 1; ticket = 0; choices = [] } ∷ [];
  meets = record { sender = 0; receiver = 1 } ∷ [];
}

two_agree : (side : ℕ → Bool) → side 0 ≡ side 1 → (i : ℕ) → i < 2 → side 0 ≡ side i
two_agree side e zero h = refl
two_agree side e (suc zero) h = e
two_agree side e (suc (suc i)) h = absurd (omega (arith, h))

pub whole_is_tight : IsTight whole_cert
whole_is_tight side m i j h k =
    let first : side 0 ≡ side 1 = m.0 (lit< tt) (lit< tt) in
    sym (two_agree side first i h) ∙ two_agree side first j k

pub whole_plays : play whole_group ((false ∷ []) ∷ [] ∷ []) whole_cert.meets
    ≡ Ok (record { outcomes = Gives [] ∷ Gives (single_value 1) ∷ []; word = choice 0 false ∷ meeting 0 1 ∷ [] })
whole_plays = refl

pub first_plays_alone : play (come_to 0 0 0 alone_or_not ∷ []) ((true ∷ []) ∷ []) [] ≡ Ok (record { outcomes = Gives [] ∷ []; word = choice 0 true ∷ [] })
first_plays_alone = refl
