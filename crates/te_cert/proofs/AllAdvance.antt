-- Where the members of a group lead it when they advance one after another.
use Rattle.std.proofs.Common.{◌≡◌, ℕ, suc, List, [], ◌∷◌, ◌++◌, length, map, Result, Ok, Err, refl, sym, ap, subst, ◌∙◌, append_assoc}
use Rattle.te_terms.specs.Steps.{Member}
use Rattle.te_terms.specs.Joint.{Label, IsGroup, with_member}
use Rattle.te_cert.specs.Play.{PlayFault, Player, Table, ◌>>=◌, advanced, all_advanced}
use Rattle.te_terms.proofs.TermLemmas.{slice_get_seam}
use Rattle.te_cert.proofs.MembersReplaced.{threads, threads_stay, group_stays}
use Rattle.te_cert.proofs.PlacesOfThreads.{found_at, replaced_behind}
use Rattle.te_cert.proofs.ChainsJoin.{Leads, leads_nowhere, leads_on}
use Rattle.te_cert.proofs.MembersMove.{Moves, advance_moves}

abbrev pub members : List Player → List Member
members ps = map (λ p. p.member) ps

-- what came to a value came there through its first part
pub through : {A B : Type 0} (r : Result A PlayFault) (f : A → Result B PlayFault) (y : B) → (r >>= f) ≡ Ok y → (x : A) × (r ≡ Ok x) × (f x ≡ Ok y)
through (Ok x) f y e = (x, refl, e)
through (Err t) f y e = absurd cc

-- the same threads, and a chain with these labels
pub record Comes (g : List Member) (word : List Label) (h : List Member) : Type 0 where
  pub same_threads : threads h ≡ threads g
  pub leads : Leads g word h

pub comes_on : (g h k : List Member) (w v : List Label) → Comes g w h → Comes h v k → Comes g (w ++ v) k
comes_on g h k w v first more = record {
  same_threads = more.same_threads ∙ first.same_threads;
  leads = leads_on g h k w v first.leads more.leads;
}

-- one member moves behind others
one_comes : (front rest : List Member) (m n : Member) (word : List Label) → IsGroup (front ++ m ∷ rest) → Moves m word n →
    Comes (front ++ m ∷ rest) word (front ++ n ∷ rest)
one_comes front rest m n word is moves =
    let g : List Member = front ++ m ∷ rest in
    let there : with_member n g ≡ front ++ n ∷ rest = replaced_behind front rest m n is moves.same_thread in
    let found = found_at g (length front) m is (slice_get_seam front m rest) in
    record {
      same_threads = ap threads (sym there) ∙ threads_stay n g;
      leads = subst (Leads g word) there (moves.leads g found);
    }

-- all members from a place on
from_place : (front : List Member) (i : ℕ) (ps : List Player) (t : Table) → all_advanced i ps ≡ Ok t → IsGroup (front ++ members ps) →
    Comes (front ++ members ps) t.word (front ++ members t.players)
from_place front i [] t e is =
    let none : record { players = []; word = [] } ≡ t = cc in
    subst (λ x. Comes (front ++ []) x.word (front ++ members x.players)) none (record { same_threads = refl; leads = leads_nowhere (front ++ []) })
from_place front i (p ∷ ps) t e is =
    let first = through (advanced i p) _ t e in
    let others = through (all_advanced (suc i) ps) _ t first.2 in
    let both : record { players = first.0.player ∷ others.0.players; word = first.0.word ++ others.0.word } ≡ t = let so = others.2 in cc in
    let m : Member = first.0.player.member in
    let one = one_comes front (members ps) p.member m first.0.word is (advance_moves i p first.0 first.1) in
    let behind : (front ++ m ∷ []) ++ members ps ≡ front ++ m ∷ members ps = append_assoc front (m ∷ []) (members ps) in
    let so_far : IsGroup (front ++ m ∷ members ps) = group_stays (front ++ p.member ∷ members ps) (front ++ m ∷ members ps) one.same_threads is in
    let more = from_place (front ++ m ∷ []) (suc i) ps others.0 others.1 (subst IsGroup (sym behind) so_far) in
    subst (λ x. Comes (front ++ p.member ∷ members ps) x.word (front ++ members x.players)) both
    (comes_on (front ++ p.member ∷ members ps) (front ++ m ∷ members ps) (front ++ m ∷ members others.0.players) first.0.word others.0.word one
    (rw (append_assoc front (m ∷ []) (members ps), append_assoc front (m ∷ []) (members others.0.players)) at more))

pub all_come : (ps : List Player) (t : Table) → all_advanced 0 ps ≡ Ok t → IsGroup (members ps) → Comes (members ps) t.word (members t.players)
all_come ps t e is = from_place [] 0 ps t e is
