-- A board and its cores go on from step to step.
use Rattle.std.proofs.Common.{◌≡◌, List, [], ◌∷◌, ◌++◌, refl, sym, ap, subst, ◌∙◌, append_assoc}
use Rattle.std.proofs.lemmas.List.{append-nil}
use Rattle.std.specs.List.{AllByRecursion}
use Rattle.te_script.specs.Cores.{At}
use Rattle.te_history.specs.declared.entry.Entry.{Entry}
use Rattle.te_board.specs.Boards.{BoardLog}
use Rattle.te_serial.specs.Houses.{texts_of, IsHouse, grown, MayAppend, Continues}
use Rattle.te_terms.proofs.Lists.{all_both}

pub grown_nothing : (board : BoardLog) → board ≡ grown board []
grown_nothing board = λ i. record { callers = board.callers; entries = sym (append-nil board.entries) i }

pub grown_twice : (run : BoardLog) (xs ys : List Entry) → grown (grown run xs) ys ≡ grown run (xs ++ ys)
grown_twice run xs ys = λ i. record { callers = run.callers; entries = append_assoc run.entries xs ys i }

-- nothing was done
pub stays : (board : BoardLog) (cores : List At) → IsHouse board cores → Continues board cores board cores
stays board cores h = record { entries = []; grows = grown_nothing board; each = tt; texts = refl; house = h }

-- the same boards by other names
pub stays_as : (old new : BoardLog) (cores : List At) → IsHouse old cores → new ≡ old → Continues old cores new cores
stays_as old new cores h same = subst (λ (b : BoardLog). Continues old cores b cores) (sym same) (stays old cores h)

-- one entry
pub by_one : (old new : BoardLog) (cores after : List At) (e : Entry) → new ≡ grown old (e ∷ []) → MayAppend e → texts_of after ≡ texts_of cores
    → IsHouse (grown old (e ∷ [])) after → Continues old cores new after
by_one old new cores after e grows may texts house =
    record { entries = e ∷ []; grows = grows; each = (may, tt); texts = texts; house = subst (λ (b : BoardLog). IsHouse b after) (sym grows) house }

-- one step after another
pub goes_on : (a b c : BoardLog) (f g k : List At) → Continues a f b g → Continues b g c k → Continues a f c k
goes_on a b c f g k h l = record {
  entries = h.entries ++ l.entries;
  grows = l.grows ∙ ap (λ (x : BoardLog). grown x l.entries) h.grows ∙ grown_twice a h.entries l.entries;
  each = all_both MayAppend h.entries l.entries h.each l.each;
  texts = l.texts ∙ h.texts;
  house = l.house;
}
