-- A board and cores before anything was done.
use Rattle.std.proofs.Common.{◌≡◌, ℕ, zero, suc, List, [], ◌∷◌, length, map, Some, refl, ap, sym, subst}
use Rattle.std.specs.Prelude.{slice_get}
use Rattle.te_script.specs.Scripts.{Thread}
use Rattle.te_script.specs.Cores.{At, core_after}
use Rattle.te_board.specs.Boards.{BoardLog}
use Rattle.te_serial.specs.Houses.{texts_of, IsHouse}

abbrev pub fresh_cores : List Thread → List At
fresh_cores threads = map (λ t. core_after t []) threads

pub of_texts : {A : Type 0} (text : A → Thread) (xs : List A) → map (λ a. core_after (text a) []) xs ≡ fresh_cores (map text xs)
of_texts text [] = refl
of_texts text (x ∷ xs) = ap (λ (cs : List At). core_after (text x) [] ∷ cs) (of_texts text xs)

pub texts_are : (threads : List Thread) → texts_of (fresh_cores threads) ≡ threads
texts_are [] = refl
texts_are (t ∷ ts) = ap (λ (rest : List Thread). t ∷ rest) (texts_are ts)

pub as_many : (threads : List Thread) → length (fresh_cores threads) ≡ length threads
as_many [] = refl
as_many (t ∷ ts) = ap suc (as_many ts)

each_fresh : (threads : List Thread) (t : ℕ) (core : At) → slice_get (fresh_cores threads) t ≡ Some core → core ≡ core_after core.thread []
each_fresh [] t core is = cc
each_fresh (x ∷ xs) zero core is = let same : core_after x [] ≡ core = cc in subst (λ (c : At). c ≡ core_after c.thread []) same refl
each_fresh (x ∷ xs) (suc t) core is = each_fresh xs t core is

-- nobody has done anything
pub first_house : (threads : List Thread) (board : BoardLog) (cores : List At) → board ≡ record { callers = length threads; entries = [] } → cores ≡ fresh_cores threads → IsHouse board cores
first_house threads board cores is fresh =
    subst (λ (b : BoardLog). IsHouse b cores) (sym is) (subst (λ (c : List At). IsHouse (record { callers = length threads; entries = [] }) c) (sym fresh)
    (record { callers = as_many threads; stand = λ t core h. each_fresh threads t core h; of_texts = tt }))
