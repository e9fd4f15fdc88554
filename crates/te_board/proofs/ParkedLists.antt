-- Lists of parked callers that are gone through beside the callers of a state.
use Rattle.std.proofs.Common.{◌≡◌, ◌≢◌, ℕ, zero, suc, ◌+◌, ◌≤◌, ◌<◌, List, [], ◌∷◌, ◌++◌, length, take, drop, Some, refl, ap, sym, ◌∙◌, arith, append_assoc, add-one}
use Rattle.std.specs.List.{slice_get}
use Rattle.std.proofs.lemmas.List.{append_cancel_left}
use Rattle.std.proofs.lemmas.Option.{slice_get_within}
use Rattle.te_terms.specs.declared.event.Parked.{Parked}
use Rattle.te_terms.specs.Terms.{Term}
use Rattle.te_history.specs.State.{Standing, idle, parked, given, ended, State, parked_by, parked_from, parked_list}
use Rattle.te_history.specs.Follows.{Stands}
use Rattle.te_terms.proofs.Lists.{drop_at, take_next as take_suc}
use Rattle.te_history.proofs.ParkedLists.{parked_after, parked_next, last_after}

take_next : {A : Type 0} (xs : List A) (k : ℕ) (x : A) → slice_get xs k ≡ Some x → take (k + 1) xs ≡ take k xs ++ x ∷ []
take_next xs k x is = ap (λ (n : ℕ). take n xs) (add-one k) ∙ take_suc xs k x is

split_at : {A : Type 0} (xs : List A) (k : ℕ) → take k xs ++ drop k xs ≡ xs
split_at [] zero = refl
split_at [] (suc k) = refl
split_at (x ∷ xs) zero = refl
split_at (x ∷ xs) (suc k) = ap (λ ys. x ∷ ys) (split_at xs k)

-- the first so many of the list are the parked callers so far
abbrev pub Agrees : ℕ → ℕ → List Parked → State → Type 0
Agrees next t list s = (next ≤ length list) × (parked_list s ≡ take next list ++ parked_after t s)

pub agrees_more : (s : State) (t next : ℕ) (list : List Parked) (p : Parked) → slice_get list next ≡ Some p → Stands s t (parked p.ticket p.event) → p.thread ≡ t
    → Agrees next t list s → Agrees (next + 1) (t + 1) list s
agrees_more s t next list p at stands thread agrees =
    let low = slice_get_within list next p at in
    let one : record { thread = t; ticket = p.ticket; event = p.event } ≡ p = ap (λ (n : ℕ). record { thread = n; ticket = p.ticket; event = p.event }) (sym thread) in
    let after : parked_after t s ≡ p ∷ parked_after (t + 1) s =
    parked_next s t p.ticket p.event stands ∙ ap (λ (x : Parked). x ∷ parked_after (t + 1) s) one in (
      omega arith,
      agrees.1 ∙ ap (λ (l : List Parked). take next list ++ l) after ∙ sym (append_assoc (take next list) (p ∷ []) (parked_after (t + 1) s))
          ∙ ap (λ (l : List Parked). l ++ parked_after (t + 1) s) (sym (take_next list next p at)),
    )

-- lists that agree so far, and differ from there on, differ
pub differs : (s : State) (t next : ℕ) (list : List Parked) → Agrees next t list s → parked_after t s ≢ drop next list → parked_list s ≢ list
differs s t next list agrees other = λ same.
    other (append_cancel_left (take next list) (parked_after t s) (drop next list) (sym agrees.1 ∙ same ∙ sym (split_at list next)))

drop_all : {A : Type 0} (xs : List A) (k : ℕ) → length xs ≤ k → drop k xs ≡ []
drop_all [] zero past = refl
drop_all [] (suc k) past = refl
drop_all (x ∷ xs) zero past = absurd (omega arith)
drop_all (x ∷ xs) (suc k) past = drop_all xs k (omega arith)

-- the list is at its end, and a caller is parked
pub too_short : (s : State) (t next ticket : ℕ) (event : Term) (list : List Parked) → Agrees next t list s → length list ≤ next
    → Stands s t (parked ticket event) → parked_list s ≢ list
too_short s t next ticket event list agrees past stands = differs s t next list agrees (λ same.
    let clash : record { thread = t; ticket = ticket; event = event } ∷ parked_after (t + 1) s ≡ [] =
    sym (parked_next s t ticket event stands) ∙ same ∙ drop_all list next past in
    cc)

pub another : (s : State) (t next ticket : ℕ) (event : Term) (list : List Parked) (p : Parked) → Agrees next t list s → slice_get list next ≡ Some p
    → Stands s t (parked ticket event) → p ≢ record { thread = t; ticket = ticket; event = event } → parked_list s ≢ list
another s t next ticket event list p agrees at stands other = differs s t next list agrees (λ same.
    let heads : record { thread = t; ticket = ticket; event = event } ∷ parked_after (t + 1) s ≡ p ∷ drop (suc next) list =
    sym (parked_next s t ticket event stands) ∙ same ∙ drop_at list next p at in
    let one : p ≡ record { thread = t; ticket = ticket; event = event } = cc in
    other one)

-- at the end of the callers the lists are equal exactly where the list is at its end too
pub at_end : (s : State) (t next : ℕ) (list : List Parked) → Agrees next t list s → length s.callers ≤ t → next ≡ length list → parked_list s ≡ list
at_end s t next list agrees past whole =
    agrees.1 ∙ ap (λ (l : List Parked). take next list ++ l) (last_after s t past ∙ sym (drop_all list next (omega (arith, whole)))) ∙ split_at list next

drop_some : {A : Type 0} (xs : List A) (k : ℕ) → k < length xs → drop k xs ≢ []
drop_some [] k low = absurd (omega arith)
drop_some (x ∷ xs) zero low = λ is. cc
drop_some (x ∷ xs) (suc k) low = drop_some xs k (omega arith)

pub not_at_end : (s : State) (t next : ℕ) (list : List Parked) → Agrees next t list s → length s.callers ≤ t → next ≢ length list → parked_list s ≢ list
not_at_end s t next list agrees past short =
    let within = agrees.0 in
    differs s t next list agrees (λ same. drop_some list next (omega arith) (sym same ∙ last_after s t past))

pub one_event : (s : State) (t ticket : ℕ) (a b : Term) → Stands s t (parked ticket a) → Stands s t (parked ticket b) → a ≡ b
one_event s t ticket a b at at' = let both : Some (parked ticket a) ≡ Some (parked ticket b) = sym at ∙ at' in cc
