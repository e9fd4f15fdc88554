-- A house before any thread has done anything.
use Rattle.std.proofs.Common.{◌≡◌, List, [], ◌∷◌, ◌++◌, length, sym, ap, refl, subst, ◌∙◌}
use Rattle.te_script.specs.Scripts.{Thread}
use Rattle.te_terms.proofs.Lists.{AllByRecursion-append, all_at}
use Rattle.te_script.specs.Cores.{At, core_after}
use Rattle.te_board.specs.Boards.{BoardLog}
use Rattle.te_serial.specs.Houses.{IsHouse, AreFresh}

pub first_house : (board : BoardLog) (cores : List At) → board ≡ record { callers = length cores; entries = [] } → AreFresh cores → IsHouse board cores
first_house board cores is fresh =
    subst (λ (b : BoardLog). IsHouse b cores) (sym is) (record { callers = refl; stand = λ t c at. all_at (λ x. x ≡ core_after x.thread []) cores t c fresh at; of_texts = tt })

-- one core more at its thread's start
pub fresh_more : (cores : List At) (c : At) (x : Thread) → AreFresh cores → c ≡ core_after x [] → AreFresh (cores ++ c ∷ [])
fresh_more cores c x fresh is =
    AllByRecursion-append (λ y. y ≡ core_after y.thread []) cores c fresh (is ∙ ap (λ (y : Thread). core_after y []) (sym (ap (λ (a : At). a.thread) is)))
