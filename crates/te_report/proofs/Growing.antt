-- Histories of a script, entry by entry.
use Rattle.std.proofs.Common.{◌≡◌, ℕ, zero, suc, Bool, true, false, cond, eqb, List, [], ◌∷◌, ◌++◌, take, Some, refl, sym, ap, subst, ◌∙◌, append_assoc, ne_eqb}
use Rattle.std.proofs.lemmas.List.{append-nil}
use Rattle.std.specs.Prelude.{◌≢◌, slice_get}
use Rattle.te_terms.specs.declared.event.Outcome.{Outcome}
use Rattle.te_script.specs.Scripts.{Thread}
use Rattle.te_history.specs.declared.entry.Entry.{Entry}
use Rattle.te_history.specs.declared.entry.Entry.TheVariants as entries
use Rattle.te_history.specs.Follows.{caller_of, LooselyFollows, LooseFrom}
use Rattle.te_report.specs.OfScript.{taken, taken_from, WishedBy, WishedFrom}
use Rattle.te_terms.proofs.Lists.{take_next}

taken_step : (t : ℕ) (e : Entry) (rest : List Outcome) → taken_from t e rest ≡ taken_from t e [] ++ rest
taken_step t (entries.Take by ticket outcome) rest = at (eqb by t)
  where
    at : (b : Bool) → cond b (outcome ∷ rest) rest ≡ cond b (outcome ∷ []) [] ++ rest
    at true = refl
    at false = refl
taken_step t (entries.Post by ticket event) rest = refl
taken_step t (entries.Commit by cert outcomes) rest = refl
taken_step t (entries.Withdraw by ticket) rest = refl
taken_step t (entries.Rest by) rest = refl
taken_step t (entries.Stuck by) rest = refl
taken_step t (entries.End by how) rest = refl

-- what a thread has taken after one entry more
pub taken_more : (t : ℕ) (history : List Entry) (e : Entry) → taken t (history ++ e ∷ []) ≡ taken t history ++ taken_from t e []
taken_more t [] e = refl
taken_more t (x ∷ xs) e =
    taken_step t x (taken t (xs ++ e ∷ [])) ∙ ap (λ os. taken_from t x [] ++ os) (taken_more t xs e) ∙ sym (append_assoc (taken_from t x []) (taken t xs) (taken_from t e []))
    ∙ ap (λ os. os ++ taken_from t e []) (sym (taken_step t x (taken t xs)))

-- an entry that is no take of the thread changes nothing of it
pub taken_same : (t : ℕ) (history : List Entry) (e : Entry) → taken_from t e [] ≡ [] → taken t (history ++ e ∷ []) ≡ taken t history
taken_same t history e none = taken_more t history e ∙ ap (λ os. taken t history ++ os) none ∙ append-nil (taken t history)

-- a take by another thread
pub not_mine : (t by ticket : ℕ) (outcome : Outcome) → by ≢ t → taken_from t (entries.Take by ticket outcome) [] ≡ []
not_mine t by ticket outcome other = ap (λ (b : Bool). cond b (outcome ∷ []) []) (ne_eqb by t other)

-- a history of a script with one entry more that is wished
pub wished_more : (threads : List Thread) (before history : List Entry) (e : Entry) → WishedFrom threads before history
    → WishedBy (slice_get threads (caller_of e)) (taken (caller_of e) (before ++ history)) e → WishedFrom threads before (history ++ e ∷ [])
wished_more threads before [] e h w = (subst (λ b. WishedBy (slice_get threads (caller_of e)) (taken (caller_of e) b) e) (append-nil before) w, tt)
wished_more threads before (x ∷ xs) e h w =
    (h.0, wished_more threads (before ++ x ∷ []) xs e h.1 (subst (λ b. WishedBy (slice_get threads (caller_of e)) (taken (caller_of e) b) e) (sym (append_assoc before (x ∷ []) xs)) w))

-- what holds at first, and is kept by each entry that follows loosely and is wished, holds of the whole
pub grows_wished : (callers : ℕ) (threads : List Thread) (P : List Entry → Type 0)
    → ((h : List Entry) (e : Entry) → LooselyFollows callers h e → WishedBy (slice_get threads (caller_of e)) (taken (caller_of e) h) e → P h → P (h ++ e ∷ []))
    → (before history : List Entry) → LooseFrom callers before history → WishedFrom threads before history → P before → P (before ++ history)
grows_wished callers threads P step before [] loose wished holds = subst P (sym (append-nil before)) holds
grows_wished callers threads P step before (e ∷ es) loose wished holds =
    subst P (append_assoc before (e ∷ []) es)
    (grows_wished callers threads P step (before ++ e ∷ []) es loose.1 wished.1 (step before e loose.0 wished.0 holds))

-- what is known at a place of a history of a script
pub record AtPlace (callers : ℕ) (threads : List Thread) (before : List Entry) (earlier : List Entry) (e : Entry) : Type 0 where
  pub follows : LooselyFollows callers (before ++ earlier) e
  pub wished : WishedBy (slice_get threads (caller_of e)) (taken (caller_of e) (before ++ earlier)) e
  pub loose : LooseFrom callers before earlier
  pub of_script : WishedFrom threads before earlier

pub at_place : (callers : ℕ) (threads : List Thread) (before history : List Entry) (i : ℕ) (e : Entry) → LooseFrom callers before history → WishedFrom threads before history
    → slice_get history i ≡ Some e → AtPlace callers threads before (take i history) e
at_place callers threads before [] i e loose wished is = absurd cc
at_place callers threads before (x ∷ xs) zero e loose wished is =
    let same : x ≡ e = cc in
    let here = sym (append-nil before) in
    record {
      follows = subst (λ (y : Entry). LooselyFollows callers (before ++ []) y) same (subst (λ (h : List Entry). LooselyFollows callers h x) here loose.0);
      wished = subst (λ (y : Entry). WishedBy (slice_get threads (caller_of y)) (taken (caller_of y) (before ++ [])) y) same
          (subst (λ (h : List Entry). WishedBy (slice_get threads (caller_of x)) (taken (caller_of x) h) x) here wished.0);
      loose = tt;
      of_script = tt;
    }
at_place callers threads before (x ∷ xs) (suc i) e loose wished is =
    let rest = at_place callers threads (before ++ x ∷ []) xs i e loose.1 wished.1 is in
    let longer = append_assoc before (x ∷ []) (take i xs) in
    record {
      follows = subst (λ (h : List Entry). LooselyFollows callers h e) longer rest.follows;
      wished = subst (λ (h : List Entry). WishedBy (slice_get threads (caller_of e)) (taken (caller_of e) h) e) longer rest.wished;
      loose = (loose.0, rest.loose);
      of_script = (wished.0, rest.of_script);
    }
