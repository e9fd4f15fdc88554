-- A code that grows, and the drafts of syncs whose events are in it.
use Rattle.std.proofs.Common.{◌≡◌, ℕ, suc, ◌+◌, ◌-◌, ◌<◌, ◌≤◌, List, [], ◌∷◌, ◌++◌, length, map, refl, sym, ◌∙◌, ap, append_assoc, length-append, arith}
use Rattle.std.specs.Prelude.{Result, Ok, Err, OnOk, IsErrOf}
use Rattle.std.proofs.lemmas.List.{append-nil}
use Rattle.std.specs.List.{AllByRecursion}
use Rattle.te_terms.specs.declared.code.Node.{Node}
use Rattle.te_terms.specs.Codes.{term_under}
use Rattle.te_terms.specs.Shape.{IsForest}
use Rattle.te_terms.proofs.TermLemmas.{term_at-append}
use Rattle.te_script.specs.declared.script.Stmt.{Stmt}
use Rattle.te_script.specs.Scripts.{Statement, sync}
use Rattle.te_script.specs.Texts.{statement_of}
use Rattle.te_reader.specs.declared.refusal.Refusal.{Refusal}
use Rattle.te_reader.specs.declared.refusal.Refusal.TheVariants as faults
use Rattle.te_reader.specs.Tokens.{Token}
use Rattle.te_reader.specs.NameReads.{Read}
use Rattle.te_reader.specs.Bodies.{OnRead}
use Rattle.te_reader.specs.declared.sync.Draft.{Draft}
use Rattle.te_reader.specs.Answering.{CodeExtends}
use Rattle.te_reader.specs.Written.{draft_of, IsDraft, AreWritten, AreDrafts, AreSyncsRead}
use Rattle.te_reader.proofs.ListsKept.{all_weaker}
use Rattle.te_reader.proofs.LoopSteps.{map_length}

pub extends_none : (code : List Node) → CodeExtends code code
extends_none code = record { added = []; appended = sym (append-nil code) }

pub extends_both : (a b c : List Node) → CodeExtends a b → CodeExtends b c → CodeExtends a c
extends_both a b c f g = record { added = f.added ++ g.added; appended = g.appended ∙ ap (λ x. x ++ g.added) f.appended ∙ append_assoc a f.added g.added }

pub extends_by : (before after : List Node) (node : Node) → after ≡ before ++ node ∷ [] → CodeExtends before after
extends_by before after node e = record { added = node ∷ []; appended = e }

pub longer : (before after : List Node) → CodeExtends before after → length before ≤ length after
longer before after e = omega (arith, ap length e.appended, length-append before e.added)

-- drafts stand for the same syncs in a longer code
pub drafts_stay : (code after : List Node) → IsForest code → CodeExtends code after → (ds : List Draft) → AllByRecursion (IsDraft code) ds
    → map (draft_of after) ds ≡ map (draft_of code) ds
drafts_stay code after forest more [] h = refl
drafts_stay code after forest more (d ∷ ds) h =
    let same : term_under after d.root ≡ term_under code d.root = ap (λ c. term_under c d.root) more.appended ∙ term_at-append code more.added forest.earlier 0 d.root h.0 in
    ap (λ t. sync d.reg t ∷ map (draft_of after) ds) same ∙ ap (λ xs. draft_of code d ∷ xs) (drafts_stay code after forest more ds h.1)

pub drafts_inside : (code after : List Node) → CodeExtends code after → (ds : List Draft) → AllByRecursion (IsDraft code) ds
    → AllByRecursion (IsDraft after) ds
drafts_inside code after more ds h = all_weaker (IsDraft code) (IsDraft after) (λ d below. omega (arith, below, longer code after more)) ds h

-- ---- appended to the statements

map_size : (f : Draft → Statement) (ds : List Draft) → length (map f ds) ≡ length ds
map_size f [] = refl
map_size f (d ∷ ds) = omega (arith, map_size f ds)

module _ (most room : ℕ) (channels registers : List (List ℕ)) (ts : List Token) (old new : List Stmt) (last : List (List ℕ)) (rest : List Token) (code : List Node) (drafts : List Draft) where
  all_read : room ≡ most - length old → length old < most → AreDrafts room channels registers ts code drafts last rest
      → map statement_of new ≡ map statement_of old ++ map (draft_of code) drafts
      → AreSyncsRead most channels registers ts old new last rest
  all_read size some read listed = by drafts read.some read.within read.written listed where
    by : (ds : List Draft) → 0 < length ds → length ds ≤ room → AreWritten channels registers ts (map (draft_of code) ds) last rest
        → map statement_of new ≡ map statement_of old ++ map (draft_of code) ds → AreSyncsRead most channels registers ts old new last rest
    by [] none within written listed = absurd (omega arith)
    by (d ∷ ds) one within written listed =
        let long : length (map statement_of new) ≡ length (map statement_of old) + suc
        (length (map (draft_of code) ds)) = ap length listed ∙ length-append (map statement_of old)
        (draft_of code d ∷ map (draft_of code) ds) in
        record {
          first = draft_of code d;
          others = map (draft_of code) ds;
          appended = listed;
          within = omega (arith, size, some, within, long, map_length new, map_length old, map_size (draft_of code) ds);
          written = written;
        }

pub appended : {U : Type 0} (r : Result U Refusal) (most room : ℕ) (channels registers : List (List ℕ))
    (ts : List Token) (old new : List Stmt) (last : List (List ℕ)) (rest : List Token) (code : List Node)
    (drafts : List Draft)
    (o : Read (Statement × List (List ℕ))) → room ≡ most - length old → length old < most → AreDrafts room channels registers ts code drafts last rest
    → OnOk r (map statement_of new ≡ map statement_of old ++ map (draft_of code) drafts) → (IsErrOf r faults.Refused → ⊥) → OnRead r (λ u. AreSyncsRead most channels registers ts old new last rest) o
appended (Ok u) most room channels registers ts old new last rest code drafts o size some read listed never =
    all_read most room channels registers ts old new last rest code drafts size some read listed
appended (Err faults.Refused) most room channels registers ts old new last rest code drafts o size some read listed never = absurd (never refl)
appended (Err faults.Memory) most room channels registers ts old new last rest code drafts o size some read listed never = tt
