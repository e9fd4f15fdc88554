-- The posts and the commits of the entries up to a place.
use Rattle.std.proofs.Common.{◌≡◌, ◌∙◌, ℕ, suc, ◌+◌, List, [], ◌∷◌, ◌++◌, take, Some, ap, arith}
use Rattle.std.specs.Prelude.{slice_get}
use Rattle.te_history.specs.declared.entry.Entry.{Entry}
use Rattle.te_history.specs.declared.entry.Entry.TheVariants as entries
use Rattle.te_terms.proofs.Lists.{take_next}
use Rattle.tevents.specs.Summaries.{posts_in, commits_in}

posts_behind : (es : List Entry) (e : Entry) → posts_in (es ++ e ∷ []) ≡ posts_in es + posts_in (e ∷ [])
posts_behind [] e = omega arith
posts_behind (entries.Post by ticket event ∷ es) e = let later = posts_behind es e in omega (arith, later)
posts_behind (entries.Commit by cert outcomes ∷ es) e = posts_behind es e
posts_behind (entries.Withdraw by ticket ∷ es) e = posts_behind es e
posts_behind (entries.Take by ticket outcome ∷ es) e = posts_behind es e
posts_behind (entries.Rest by ∷ es) e = posts_behind es e
posts_behind (entries.Stuck by ∷ es) e = posts_behind es e
posts_behind (entries.End by how ∷ es) e = posts_behind es e

commits_behind : (es : List Entry) (e : Entry) → commits_in (es ++ e ∷ []) ≡ commits_in es + commits_in (e ∷ [])
commits_behind [] e = omega arith
commits_behind (entries.Post by ticket event ∷ es) e = commits_behind es e
commits_behind (entries.Commit by cert outcomes ∷ es) e = let later = commits_behind es e in omega (arith, later)
commits_behind (entries.Withdraw by ticket ∷ es) e = commits_behind es e
commits_behind (entries.Take by ticket outcome ∷ es) e = commits_behind es e
commits_behind (entries.Rest by ∷ es) e = commits_behind es e
commits_behind (entries.Stuck by ∷ es) e = commits_behind es e
commits_behind (entries.End by how ∷ es) e = commits_behind es e

pub posts_next : (es : List Entry) (at : ℕ) (e : Entry) → slice_get es at ≡ Some e → posts_in (take (suc at) es) ≡ posts_in (take at es) + posts_in (e ∷ [])
posts_next es at e is = ap posts_in (take_next es at e is) ∙ posts_behind (take at es) e

pub commits_next : (es : List Entry) (at : ℕ) (e : Entry) → slice_get es at ≡ Some e → commits_in (take (suc at) es) ≡ commits_in (take at es) + commits_in (e ∷ [])
commits_next es at e is = ap commits_in (take_next es at e is) ∙ commits_behind (take at es) e
