-- One turn of the writer: the core that it needs is there, and then it stands behind the entry.
use Rattle.std.proofs.Common.{◌≡◌, ℕ, zero, suc, ◌+◌, List, [], ◌∷◌, ◌++◌, take, length, Some, Option, refl, sym, ap, ◌∙◌, append_assoc, arith}
use Rattle.std.specs.Prelude.{slice_get}
use Rattle.te_script.specs.declared.wish.Site.{Site}
use Rattle.te_script.specs.Scripts.{Program}
use Rattle.te_script.specs.Cores.{At}
use Rattle.te_history.specs.declared.entry.Entry.{Entry}
use Rattle.te_history.specs.Follows.{IsLoose}
use Rattle.te_report.specs.OfScript.{IsOfScript}
use Rattle.te_report.specs.Report.{second, entry_text, numbered, entry_line, entry_lines, posted_site}
use Rattle.te_report.specs.Following.{HasCore, cores_from, shown_site, followed}
use Rattle.te_report.proofs.Growing.{AtPlace, at_place}
use Rattle.te_terms.proofs.Lists.{take_next}
use Rattle.te_report.proofs.CoresFollow.{has_core, cores_next, sites_shown}
use Rattle.te_report.proofs.LinesSoFar.{lines_next}

module _ (callers : ℕ) (script : Program) (history : List Entry) (i : ℕ) (e : Entry) (as_many : callers ≡ length script.threads)
    (loose : IsLoose callers history) (wished : IsOfScript script history) (is : slice_get history i ≡ Some e) where
  here : AtPlace callers script.threads [] (take i history) e
  here = at_place callers script.threads [] history i e loose wished is

  pub ready : HasCore (cores_from (take i history) 0 script.threads) e
  ready = has_core callers script.threads (take i history) e here.loose here.of_script here.follows here.wished

as_long : {A : Type 0} (xs : List A) (i : ℕ) (x : A) → slice_get xs i ≡ Some x → length (take i xs) ≡ i
as_long [] i x is = absurd cc
as_long (y ∷ ys) zero x is = refl
as_long (y ∷ ys) (suc i) x is = ap suc (as_long ys i x is)

pub goes_on : (script : Program) (callers : ℕ) (history : List Entry) (i : ℕ) (e : Entry) (first out new : List ℕ) (cores seen after : List At) (site : Option Site)
    → callers ≡ length script.threads → IsLoose callers history → IsOfScript script history → slice_get history i ≡ Some e
    → cores ≡ cores_from (take i history) 0 script.threads → out ≡ first ++ entry_lines second script [] (take i history)
    → seen ≡ cores → site ≡ shown_site seen e → new ≡ out ++ numbered (i + 1) (entry_text second script site e) → after ≡ followed cores e
    → (after ≡ cores_from (take (i + 1) history) 0 script.threads) × (new ≡ first ++ entry_lines second script [] (take (i + 1) history))
goes_on script callers history i e first out new cores seen after site as_many loose wished is so_far written same shown line follows =
    let here = at_place callers script.threads [] history i e loose wished is in
    let h = take i history in
    let one : i + 1 ≡ suc i = omega arith in
    let next : take (i + 1) history ≡ h ++ e ∷ [] = ap (λ (n : ℕ). take n history) one ∙ take_next history i e is in
    let site_is : site ≡ posted_site script h e = shown ∙ ap (λ (cs : List At). shown_site cs e) (same ∙ so_far) ∙ sites_shown script h e in
    let number : i + 1 ≡ suc (length h) = omega (arith, as_long history i e is) in
    let line_is : numbered (i + 1) (entry_text second script site e) ≡ entry_line second script h e =
    ap (λ (s : Option Site). numbered (i + 1) (entry_text second script s e)) site_is ∙ ap (λ (n : ℕ). numbered n (entry_text second script (posted_site script h e) e)) number in (
      follows ∙ ap (λ (cs : List At). followed cs e) so_far ∙ cores_next callers script.threads h e here.wished ∙ ap (λ (k : List Entry). cores_from k 0 script.threads) (sym next),
      line ∙ ap (λ (o : List ℕ). o ++ numbered (i + 1) (entry_text second script site e)) written
          ∙ append_assoc first (entry_lines second script [] h) (numbered (i + 1) (entry_text second script site e))
          ∙ ap (λ (o : List ℕ). first ++ (entry_lines second script [] h ++ o)) line_is
          ∙ ap (λ (o : List ℕ). first ++ o) (sym (lines_next second script h e))
          ∙ ap (λ (k : List Entry). first ++ entry_lines second script [] k) (sym next),
    )
