-- Each step keeps the rule of what is shown.
use Rattle.std.proofs.Common.{◌≡◌, ◌≢◌, ℕ, List, [], ◌∷◌, ◌++◌, fold, set, refl, ap, ◌∙◌, subst, ⊎_elim}
use mathlib.Core.Option.{some}
use lib.ListN.{get_elem?}
use Rattle.left_right.specs.Register.{Admits, TurnsAt, Forks, Merges}
use Rattle.atomic_table.proofs.Lists.{at_set, at_snoc}
use Rattle.te_watch.specs.declared.shown.Name.{Name}
use Rattle.te_watch.specs.Watches.{Published}
use Rattle.te_watch.specs.Naming.{NamesWatch, AllName, KeepsName, TakesName, watch_name, nameless}

-- ---- the names that others have

none_names : (shown : Published) → NamesWatch shown nameless
none_names shown known = absurd cc

with_name : (shown : Published) (views : List Name) (seat : ℕ) (v : Name) → AllName shown views → NamesWatch shown v → AllName shown (set views seat v)
with_name shown views seat v all names at w there =
    ⊎_elim
    (λ (here : (at ≡ seat) × (v ≡ w)). subst (NamesWatch shown) here.1 names)
    (λ (other : (at ≢ seat) × (get_elem? views at ≡ some w)). all at w other.1)
    (at_set views seat at v w there)

one_name_more : (shown : Published) (views : List Name) (v : Name) → AllName shown views → NamesWatch shown v → AllName shown (views ++ v ∷ [])
one_name_more shown views v all names at w there =
    ⊎_elim (all at w) (λ (last : v ≡ w). subst (NamesWatch shown) last names) (at_snoc views v w at there)

goes_on : (before after : Published) (views : List Name) → before.watch ≡ after.watch → AllName before views → AllName after views
goes_on before after views same all at v there known = all at v there known ∙ same

-- ---- the steps

-- a reader comes, who knows no name
pub admits : Admits AllName nameless
admits shown views all = one_name_more shown views nameless all (none_names shown)

-- what is shown stays of its watch
pub keeps : (seat : ℕ) (v : Name) (before after : Published) → before.watch ≡ after.watch → TurnsAt AllName seat v before after KeepsName
keeps seat v before after same views all at = (
  v,
  with_name after views seat v (goes_on before after views same all) (λ known. all seat v at known ∙ same),
  (refl, all seat v at),
)

-- the name is taken from what is shown
pub takes : (seat : ℕ) (v : Name) (before after : Published) → before.watch ≡ after.watch → TurnsAt AllName seat v before after TakesName
takes seat v before after same views all at =
    (watch_name after.watch, with_name after views seat (watch_name after.watch) (goes_on before after views same all) (λ known. refl), refl)

-- it is told to a reader, who then has it
pub forks : (seat : ℕ) (v : Name) → Forks AllName seat v v v
forks seat v shown views all at = one_name_more shown (set views seat v) v (with_name shown views seat v all (all seat v at)) (all seat v at)

pub merges : (seat : ℕ) (v : Name) (other : ℕ) (w : Name) → Merges AllName seat v other w w nameless
merges seat v other w shown views all at apart there =
    let names : NamesWatch shown w =
    ⊎_elim
    (λ (here : (other ≡ seat) × (w ≡ w)). absurd (apart here.0))
    (λ (far : (other ≢ seat) × (get_elem? views other ≡ some w)). all other w far.1)
    (at_set views seat other w w there) in
    with_name shown (set views seat w) other nameless (with_name shown views seat w all names) (none_names shown)

-- ---- what is shown after one operation

pub shown_last : (before after : Published) (pending : List Published) → pending ≡ after ∷ [] → fold (λ (_ n : Published). n) before pending ≡ after
shown_last before after pending is = ap (λ (ns : List Published). fold (λ (_ n : Published). n) before ns) is
