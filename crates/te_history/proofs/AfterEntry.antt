-- Histories with one entry more: their state, their posts, and that they are loose or legal.
use Rattle.std.proofs.Common.{◌≡◌, ℕ, suc, ◌≤◌, cond, Bool, true, false, List, [], ◌∷◌, ◌++◌, length, refl, ap, sym, ◌∙◌, subst, arith, append_assoc}
use Rattle.std.proofs.Math.ListN.{length-set}
use Rattle.std.proofs.lemmas.List.{length-replicate, append-nil}
use Rattle.te_terms.specs.declared.event.Outcome.{Outcome}
use Rattle.te_cert.specs.declared.cert.Member.{Member}
use Rattle.te_history.specs.declared.entry.Entry.{Entry}
use Rattle.te_history.specs.declared.entry.Entry.TheVariants.{Post, Commit, Withdraw, Take, Rest, Stuck, End}
use Rattle.te_history.specs.State.{idle, given, State, opening, with_standing, with_given, changed, state_from, state, is_post_by, posts_by}
use Rattle.te_history.specs.Follows.{LooselyFollows, Follows, LooseFrom, LegalFrom, IsLoose, IsLegal}

state_from-after : (s : State) (history : List Entry) (e : Entry) → state_from s (history ++ e ∷ []) ≡ changed (state_from s history) e
state_from-after s [] e = refl
state_from-after s (x ∷ xs) e = state_from-after (changed s x) xs e

-- the state after one entry more
pub state-after : (callers : ℕ) (history : List Entry) (e : Entry) → state callers (history ++ e ∷ []) ≡ changed (state callers history) e
state-after callers history e = state_from-after (opening callers) history e

-- one more post, where the entry is one
abbrev pub counted : Bool → ℕ → ℕ
counted true n = suc n
counted false n = n

counted_either_way : (a b : Bool) (n : ℕ) → counted a (counted b n) ≡ counted b (counted a n)
counted_either_way true true n = refl
counted_either_way true false n = refl
counted_either_way false true n = refl
counted_either_way false false n = refl

as_counted : (b : Bool) (n : ℕ) → cond b (suc n) n ≡ counted b n
as_counted true n = refl
as_counted false n = refl

pub posts_by-after : (t : ℕ) (history : List Entry) (e : Entry) → posts_by t (history ++ e ∷ []) ≡ counted (is_post_by t e) (posts_by t history)
posts_by-after t [] e = as_counted (is_post_by t e) 0
posts_by-after t (x ∷ xs) e =
    as_counted (is_post_by t x) (posts_by t (xs ++ e ∷ []))
    ∙ ap (counted (is_post_by t x)) (posts_by-after t xs e)
    ∙ counted_either_way (is_post_by t x) (is_post_by t e) (posts_by t xs)
    ∙ ap (counted (is_post_by t e)) (sym (as_counted (is_post_by t x) (posts_by t xs)))

counted_at_most : (b : Bool) (n m : ℕ) → n ≤ m → cond b (suc n) n ≤ suc m
counted_at_most true n m le = omega arith
counted_at_most false n m le = omega arith

-- no caller has posted more often than there are entries
pub posts_by_at_most : (t : ℕ) (history : List Entry) → posts_by t history ≤ length history
posts_by_at_most t [] = omega arith
posts_by_at_most t (x ∷ xs) = counted_at_most (is_post_by t x) (posts_by t xs) (length xs) (posts_by_at_most t xs)

-- ---- the number of callers

length-given : (ms : List Member) (os : List Outcome) (s : State) → length (with_given ms os s).callers ≡ length s.callers
length-given [] os s = refl
length-given (m ∷ ms) [] s = refl
length-given (m ∷ ms) (o ∷ os) s = length-given ms os (with_standing m.thread (given m.ticket o) s) ∙ length-set s.callers m.thread (given m.ticket o)

length-changed : (s : State) (e : Entry) → length (changed s e).callers ≡ length s.callers
length-changed s (Post by ticket event) = length-set s.callers by _
length-changed s (Commit by cert outcomes) = length-given cert.members outcomes s
length-changed s (Withdraw by ticket) = length-set s.callers by _
length-changed s (Take by ticket outcome) = length-set s.callers by _
length-changed s (Rest by) = refl
length-changed s (Stuck by) = refl
length-changed s (End by how) = length-set s.callers by _

length-state_from : (s : State) (history : List Entry) → length (state_from s history).callers ≡ length s.callers
length-state_from s [] = refl
length-state_from s (e ∷ es) = length-state_from (changed s e) es ∙ length-changed s e

-- a history keeps the number of its callers
pub length-state : (callers : ℕ) (history : List Entry) → length (state callers history).callers ≡ callers
length-state callers history = length-state_from (opening callers) history ∙ length-replicate callers idle

-- ---- loose and legal histories

loose_from-after : (callers : ℕ) (before history : List Entry) (e : Entry) → LooseFrom callers before history → LooselyFollows callers (before ++ history) e
    → LooseFrom callers before (history ++ e ∷ [])
loose_from-after callers before [] e loose follows = (subst (λ (h : List Entry). LooselyFollows callers h e) (append-nil before) follows, tt)
loose_from-after callers before (x ∷ xs) e loose follows = (
  loose.0,
  loose_from-after callers (before ++ x ∷ []) xs e loose.1
      (subst (λ (h : List Entry). LooselyFollows callers h e) (sym (append_assoc before (x ∷ []) xs)) follows),
)

-- a loose history with an entry that follows it loosely
pub loose-after : (callers : ℕ) (history : List Entry) (e : Entry) → IsLoose callers history → LooselyFollows callers history e
    → IsLoose callers (history ++ e ∷ [])
loose-after callers history e loose follows = loose_from-after callers [] history e loose follows

legal_from-after : (callers : ℕ) (before history : List Entry) (e : Entry) → LegalFrom callers before history → Follows callers (before ++ history) e
    → LegalFrom callers before (history ++ e ∷ [])
legal_from-after callers before [] e legal follows = (subst (λ (h : List Entry). Follows callers h e) (append-nil before) follows, tt)
legal_from-after callers before (x ∷ xs) e legal follows = (
  legal.0,
  legal_from-after callers (before ++ x ∷ []) xs e legal.1
      (subst (λ (h : List Entry). Follows callers h e) (sym (append_assoc before (x ∷ []) xs)) follows),
)

-- a legal history with an entry that follows it
pub legal-after : (callers : ℕ) (history : List Entry) (e : Entry) → IsLegal callers history → Follows callers history e → IsLegal callers (history ++ e ∷ [])
legal-after callers history e legal follows = legal_from-after callers [] history e legal follows
