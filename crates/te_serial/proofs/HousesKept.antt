-- A house with one entry more.
use Rattle.std.proofs.Common.{◌≡◌, ◌≢◌, ◌⊎◌, inl, inr, ℕ, zero, suc, ◌<◌, Bool, cond, eq-eqb, List, [], ◌∷◌, ◌++◌, length, slice_set, Option, Some, refl, sym, ap, subst, ◌∙◌, arith}
use Rattle.std.proofs.lemmas.List.{length-set}
use Rattle.std.specs.Prelude.{slice_get}
use Rattle.te_terms.specs.declared.event.Outcome.{Outcome}
use Rattle.te_script.specs.Scripts.{Thread}
use Rattle.te_script.specs.Wishes.{Wish}
use Rattle.te_script.specs.Cores.{At, core_after}
use Rattle.te_script.proofs.Places.{slice_get_set_same, slice_get_set_other}
use Rattle.te_history.specs.declared.entry.Entry.{Entry}
use Rattle.te_history.specs.declared.entry.Entry.TheVariants as entries
use Rattle.te_history.specs.Follows.{caller_of}
use Rattle.te_history.proofs.Commits.{same_or_other}
use Rattle.te_report.specs.OfScript.{taken, taken_from, IsWished, WishedBy, WishedFrom}
use Rattle.te_report.proofs.Growing.{taken_more, taken_same, not_mine, wished_more}
use Rattle.te_board.specs.Boards.{BoardLog}
use Rattle.te_serial.specs.Houses.{texts_of, IsHouse, grown}

pub text_of_core : (cores : List At) (t : ℕ) (c : At) → slice_get cores t ≡ Some c → slice_get (texts_of cores) t ≡ Some c.thread
text_of_core [] t c e = absurd cc
text_of_core (x ∷ cs) zero c e = let same : x ≡ c = cc in rw same refl
text_of_core (x ∷ cs) (suc t) c e = text_of_core cs t c e

pub core_within : (cores : List At) (t : ℕ) → t < length cores → (c : At) × (slice_get cores t ≡ Some c)
core_within [] t lt = absurd (omega arith)
core_within (c ∷ cs) zero lt = (c, refl)
core_within (c ∷ cs) (suc t) lt = core_within cs t (omega arith)

pub texts_same : (cs : List At) (i : ℕ) (c c' : At) → slice_get cs i ≡ Some c → c'.thread ≡ c.thread → texts_of (slice_set cs i c') ≡ texts_of cs
texts_same [] i c c' e same = refl
texts_same (x ∷ cs) zero c c' e same = let here : x ≡ c = cc in ap (λ (t : Thread). t ∷ texts_of cs) (same ∙ ap (λ (y : At). y.thread) (sym here))
texts_same (x ∷ cs) (suc i) c c' e same = ap (λ (ts : List Thread). x.thread ∷ ts) (texts_same cs i c c' e same)

-- an entry that no wish speaks of
abbrev pub IsFree : Entry → Type 0
IsFree e = (w : Wish) → IsWished w e

module _ (board : BoardLog) (cores : List At) (h : IsHouse board cores) where
  -- nobody takes, and the entry is wished
  pub house_more : (e : Entry) → ((u : ℕ) → taken_from u e [] ≡ []) → WishedBy (slice_get (texts_of cores) (caller_of e)) (taken (caller_of e) board.entries) e → IsHouse (grown board (e ∷ [])) cores
  house_more e none w = record {
    callers = h.callers;
    stand = λ t c is. h.stand t c is ∙ ap (core_after c.thread) (sym (taken_same t board.entries e (none t)));
    of_texts = wished_more (texts_of cores) [] board.entries e h.of_texts w;
  }

  wished_free : (t : ℕ) (outs : List Outcome) (e : Entry) → t < board.callers → IsFree e → WishedBy (slice_get (texts_of cores) t) outs e
  wished_free t outs e lt free =
      let within : t < length cores = let count = h.callers in omega arith in
      let at = core_within cores t within in
      subst (λ (o : Option Thread). WishedBy o outs e) (sym (text_of_core cores t at.0 at.1)) (free _)

  -- nobody takes, and no wish speaks of the entry
  pub house_free : (e : Entry) → ((u : ℕ) → taken_from u e [] ≡ []) → caller_of e < board.callers → IsFree e → IsHouse (grown board (e ∷ [])) cores
  house_free e none lt free = house_more e none (wished_free (caller_of e) (taken (caller_of e) board.entries) e lt free)

  -- a caller takes, and its core moves on
  pub house_taken : (t ticket : ℕ) (o : Outcome) (c c' : At) → slice_get cores t ≡ Some c → t < length cores → c' ≡ core_after c.thread (taken t board.entries ++ o ∷ [])
      → IsHouse (grown board (entries.Take t ticket o ∷ [])) (slice_set cores t c')
  house_taken t ticket o c c' is lt moves =
      let e : Entry = entries.Take t ticket o in
      let same_text : c'.thread ≡ c.thread = ap (λ (a : At). a.thread) moves in
      let mine : taken t (board.entries ++ e ∷ []) ≡ taken t board.entries ++ o ∷ [] = taken_more t board.entries e
      ∙ ap (λ (b : Bool). taken t board.entries ++ cond b (o ∷ []) []) (eq-eqb t t refl) in
      let here : c' ≡ core_after c'.thread (taken t (board.entries ++ e ∷ [])) = moves
      ∙ ap (λ (x : Thread). core_after x (taken t board.entries ++ o ∷ [])) (sym same_text) ∙ ap (core_after c'.thread) (sym mine) in
      record {
        callers = length-set cores t c' ∙ h.callers;
        stand = λ u core at. by_caller u core at (same_or_other t u) here;
        of_texts = subst (λ (ts : List Thread). WishedFrom ts [] (board.entries ++ e ∷ [])) (sym (texts_same cores t c c' is same_text))
            (wished_more (texts_of cores) [] board.entries e h.of_texts (wished_free t (taken t board.entries) e (let count = h.callers in omega arith) (λ w. tt)));
      }
    where
      by_caller : (u : ℕ) (core : At) → slice_get (slice_set cores t c') u ≡ Some core → (t ≡ u) ⊎ (t ≢ u)
          → c' ≡ core_after c'.thread (taken t (board.entries ++ entries.Take t ticket o ∷ [])) → core ≡ core_after core.thread (taken u (board.entries ++ entries.Take t ticket o ∷ []))
      by_caller u core at (inl same) here =
          let put : slice_get (slice_set cores t c') u ≡ Some c' = subst (λ (k : ℕ). slice_get (slice_set cores t c') k ≡ Some c') same (slice_get_set_same cores t c' lt) in
          let both : Some c' ≡ Some core = sym put ∙ at in
          let one : c' ≡ core = cc in
          subst (λ (k : ℕ). core ≡ core_after core.thread (taken k (board.entries ++ entries.Take t ticket o ∷ []))) same
          (subst (λ (x : At). x ≡ core_after x.thread (taken t (board.entries ++ entries.Take t ticket o ∷ []))) one here)
      by_caller u core at (inr other) here =
          let was : slice_get cores u ≡ Some core = sym (slice_get_set_other cores t u c' (λ (e : u ≡ t). other (sym e))) ∙ at in
          h.stand u core was ∙ ap (core_after core.thread) (sym (taken_same u board.entries (entries.Take t ticket o) (not_mine u t ticket o other)))
