-- Seats: what an advance to one says of the play.
use Rattle.std.proofs.Common.{◌≡◌, inr, ℕ, ◌<◌, Bool, true, false, List, [], ◌∷◌, ◌++◌, length, Option, Some, None, Result, Ok, Err, refl, sym, ap, ◌∙◌, arith}
use Rattle.std.specs.Prelude.{IsSome, IfOk}
use Rattle.std.specs.Option.{option_map}
use Rattle.te_terms.specs.declared.value.Atom.{Atom}
use Rattle.te_terms.specs.declared.event.Outcome.{Outcome}
use Rattle.te_terms.specs.declared.memory.NoMemory.{NoMemory}
use Rattle.te_terms.specs.Steps.{at_term, giving, with_head}
use Rattle.te_terms.specs.Settling.{settled}
use Rattle.te_path.specs.declared.cells.Cells.{Cells}
use Rattle.te_path.specs.Paths.{StepsTo}
use Rattle.te_cert.specs.declared.cert.CertFault.TheVariants as faults
use Rattle.te_cert.specs.declared.seat.Seat.{Seat}
use Rattle.te_cert.specs.Play.{Player, advanced, ending, no_letter, letters_left}
use Rattle.te_cert.specs.Players.{Entering, start_of, seat_of, IsSeat, IsSeatedAt, TakesSeat, Comes, player_handed, PassesOn, TellsFault, TellsPart}
use Rattle.te_cert.specs.Advances.{by_letters}
use Rattle.te_cert.proofs.Advancing.{advanced_is}
use Rattle.te_cert.proofs.Letters.{settles_twice}
use Rattle.te_cert.proofs.GoingAhead.{as_settled}

-- what settles alike, with the same letters, comes to the same
pub comes_from : (p q r : Player) (done : Bool) → settled p.member ≡ settled q.member → p.letters ≡ q.letters → Comes q done r → Comes p done r
comes_from p q r true same letters comes = λ i.
    let there = comes i in
    (there.0, as_settled i p.member q.member p.letters same ∙ ap (λ ls. by_letters i q.member ls) letters ∙ there.1)
comes_from p q r false same letters comes = λ i.
    as_settled i p.member q.member p.letters same ∙ ap (λ ls. by_letters i q.member ls) letters ∙ comes i

-- the step of an end of a meeting
pub passes_on : {A : Type 0} (v : List Atom) (p q : Player) (o : Option A) → IsSome o
    → StepsTo p.member (option_map (λ x. with_head (giving v) p.member.term) o) q.member → p.letters ≡ q.letters → PassesOn v p q
passes_on v p q None some to letters = absurd cc
passes_on v p q (Some x) some to letters =
    let same : to.next ≡ with_head (giving v) p.member.term = let both : Some (with_head (giving v) p.member.term) ≡ Some to.next = to.steps in cc in
    record { settles = ap (λ t. settled (at_term p.member t)) (sym same) ∙ to.settles; letters = letters }

handed_comes : (v : List Atom) (p q r : Player) (done : Bool) → PassesOn v p q → Comes q done r → Comes (player_handed v p) done r
handed_comes v p q r done on comes =
    comes_from (player_handed v p) q r done (sym (settles_twice (player_handed v p).member) ∙ ap settled on.settles) on.letters comes

pub handed_comes_so : (v : List Atom) (p q r : Player) (done : Result Bool NoMemory) → PassesOn v p q → IfOk done (λ d. Comes q d r) → IfOk done (λ d. Comes (player_handed v p) d r)
handed_comes_so v p q r (Ok d) on comes = handed_comes v p q r d on comes
handed_comes_so v p q r (Err e) on comes = tt

-- ---- from the event on

starts : (e : Entering) (q r : Player) (done : Bool) → q.member ≡ settled (start_of e).member → q.letters ≡ e.letters → Comes q done r → Comes (start_of e) done r
starts e q r done is letters comes =
    comes_from (start_of e) q r done (sym (settles_twice (start_of e).member) ∙ ap settled (sym is)) (sym letters) comes

seated_so : (i : ℕ) (e : Entering) (q : Player) (cells : Cells) (k : Seat) → q.member ≡ settled (start_of e).member → q.letters ≡ e.letters → Comes q true (seat_of cells e k) → IsSeat cells e k →
    IsSeatedAt i e cells k
seated_so i e q cells k is letters comes seat =
    let there = starts e q (seat_of cells e k) true is letters comes i in
    record { word = there.0; advances = advanced_is i (start_of e) ∙ there.1; seat = seat }

pub takes_seat : (i : ℕ) (e : Entering) (q : Player) (cells : Cells) (k : Seat) (before after : List Seat) → q.member ≡ settled (start_of e).member
    → q.letters ≡ e.letters → Comes q true (seat_of cells e k) → IsSeat cells e k →
    after ≡ before ++ k ∷ [] → TakesSeat i e cells before after
takes_seat i e q cells k before after is letters comes seat put = record { seat = k; seated = seated_so i e q cells k is letters comes seat; put = put }

-- one that lacks a letter
pub lacks_so : (i : ℕ) (e : Entering) (q r : Player) → q.member ≡ settled (start_of e).member → q.letters ≡ e.letters → Comes q false r → TellsFault (advanced i (start_of e)) (faults.Choices i)
lacks_so i e q r is letters comes = inr (no_letter i, advanced_is i (start_of e) ∙ starts e q r false is letters comes i, refl)

-- ---- letters that are left in the end

over : (i : ℕ) (o : Outcome) (letters : List Bool) → 0 < length letters → ending i (Some o) letters ≡ Err (letters_left i)
over i o [] some = absurd (omega arith)
over i o (l ∷ ls) some = refl

pub letters_over : (i : ℕ) (t : Option Outcome) (o : Outcome) (letters : List Bool) → t ≡ Some o → 0 < length letters → TellsPart (ending i t letters) (Err (faults.Choices i))
letters_over i t o letters final some = rw (final, over i o letters some) refl
