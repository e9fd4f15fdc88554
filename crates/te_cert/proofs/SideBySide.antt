-- Members and players, place by place: where one member changes, one player does.
use Rattle.std.proofs.Common.{◌≡◌, ℕ, suc, ◌<◌, cond, List, [], ◌∷◌, Some, slice_get, slice_set, refl, sym, subst, arith}
use Rattle.std.specs.Prelude.{⊤}
use Rattle.te_terms.specs.Steps.{Member}
use Rattle.te_terms.specs.Joint.{RiseFrom, IsGroup, member_of, with_member}
use Rattle.te_cert.specs.Play.{Player}
use Rattle.te_cert.specs.Certs.{place_of}
use Rattle.te_cert.proofs.Places.{by_threads}
use Rattle.te_cert.proofs.PlacesOfThreads.{rest_is_group}

-- the player at each place fits the member there
abbrev pub AreBeside : (Member → Player → Type 0) → List Member → List Player → Type 0
AreBeside Fits [] [] = ⊤
AreBeside Fits (m ∷ ms) (p ∷ ps) = Fits m p × AreBeside Fits ms ps
AreBeside Fits _ _ = ⊥

-- a player that fits a new member at this place; any that fits the member before does in its place
pub record TakesPlace (Before After : Member → Player → Type 0) (g : List Member) (m n : Member) (ps : List Player) (i : ℕ) : Type 0 where
  pub player : Player
  pub stands : slice_get ps i ≡ Some player
  pub fits : After n player
  pub before : (q : Player) → Before m q → AreBeside Before g (slice_set ps i q)

-- members of higher threads stay as they are
higher : (Before After : Member → Player → Type 0) (low : ℕ) (g : List Member) (ps : List Player) → RiseFrom low g →
    ((o : Member) (p : Player) → low < o.thread → After o p → Before o p) → AreBeside After g ps → AreBeside Before g ps
higher Before After low [] [] rise others h = h
higher Before After low [] (p ∷ ps) rise others h = absurd h
higher Before After low (o ∷ g) [] rise others h = absurd h
higher Before After low (o ∷ g) (p ∷ ps) rise others h = (
  others o p rise.0 h.0,
  higher Before After o.thread g ps rise.1 (λ u q more. others u q (omega (arith, rise.0))) h.1,
)

-- beside a group in which one member is new stand players of which one alone has to change
pub one_changes : (Before After : Member → Player → Type 0) (g : List Member) (m n : Member) (ps : List Player) → IsGroup g → member_of n.thread g ≡ Some m →
    ((o : Member) (p : Player) → (n.thread ≡ o.thread → ⊥) → After o p → Before o p) → AreBeside After (with_member n g) ps →
    TakesPlace Before After g m n ps (place_of n.thread g)
one_changes Before After [] m n ps group at others h = absurd cc
one_changes Before After (o ∷ g) m n ps group at others h = by_threads o.thread n.thread
    (λ b. cond b (Some o) (member_of n.thread g) ≡ Some m → AreBeside After (cond b (n ∷ g) (o ∷ with_member n g)) ps →
    TakesPlace Before After (o ∷ g) m n ps (cond b 0 (suc (place_of n.thread g))))
    (λ same at' h'. let is : o ≡ m = cc in here ps is same h')
    (λ apart at' h'. there ps at' apart h' (one_changes Before After g m n))
    at h
  where
    here : (ps : List Player) → o ≡ m → o.thread ≡ n.thread → AreBeside After (n ∷ g) ps → TakesPlace Before After (o ∷ g) m n ps 0
    here [] is same h = absurd h
    here (p ∷ ps) is same h = record {
      player = p;
      stands = refl;
      fits = h.0;
      before = λ q fits. (
        subst (λ x. Before x q) (sym is) fits,
        higher Before After o.thread g ps group (λ u v more. others u v (λ e. omega (arith, same, e, more))) h.1,
      );
    }

    there : (ps : List Player) → member_of n.thread g ≡ Some m → (o.thread ≡ n.thread → ⊥) → AreBeside After (o ∷ with_member n g) ps →
        ((qs : List Player) → IsGroup g → member_of n.thread g ≡ Some m → ((o : Member) (p : Player) → (n.thread ≡ o.thread → ⊥) → After o p → Before o p) →
        AreBeside After (with_member n g) qs → TakesPlace Before After g m n qs (place_of n.thread g)) →
        TakesPlace Before After (o ∷ g) m n ps (suc (place_of n.thread g))
    there [] at apart h ih = absurd h
    there (p ∷ ps) at apart h ih =
        let rest = ih ps (rest_is_group o.thread g group) at others h.1 in
        record {
          player = rest.player;
          stands = rest.stands;
          fits = rest.fits;
          before = λ q fits. (others o p (λ e. apart (sym e)) h.0, rest.before q fits);
        }
