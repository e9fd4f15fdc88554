use Rattle.std.proofs.Common.{◌≡◌, ◌∷◌, [], sym, subst, length, slice_get, Some}
use Rattle.te_trail.specs.Paths.{Path}
use Rattle.te_search.specs.Assemblies.{NamesPaths, joint, AreNone}
use Rattle.te_search.proofs.Trying.{alone_named}
use Rattle.te_terms.proofs.Lists.{if_ok}
use Rattle.te_search.proofs.assembly.past_of.Goals as goal

pub returns-clause-names : goal.returns-clause-names
returns-clause-names c = if_ok _ (λ v. (x : Path) → slice_get c.args.store.now.paths c.args.p ≡ Some x → NamesPaths c.args.store.now.paths c.args.threads.now (joint (x ∷ [])) v.items) c.take_in.result
    (λ v taken. alone_named c.args.store.now.paths c.args.threads.now c.args.p c.deref.result.now v.items
    (subst (λ l. length l ≡ length c.args.threads.now) (sym c.deref.ensures.value) c.in_ok-none.ensures.wide)
    (subst AreNone (sym c.deref.ensures.value) c.in_ok-none.ensures.none) taken) c.take_in.ensures.taken
