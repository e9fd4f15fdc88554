use Rattle.std.proofs.Common.{◌∙◌, ap, sym, refl, inr, codes}
use Rattle.clap.specs.Words.{found_of, first_of}
use Rattle.clap.specs.Walk.{one_of}
use Rattle.tevents.proofs.RowsFound.{first_is, one_is}
use Rattle.tevents.proofs.words.read_words.Goals as goal

pub returns-in-Some-clause-ok : goal.returns-in-Some-clause-ok
returns-in-Some-clause-ok c =
    let rows = c.in_ok-matches.ensures.rows in
    let said = c.in-Some.ensures.some in
    let f = found_of c.in_ok-matches.field-0 in
    record {
      taken = c.in_ok-matches.ensures.taken;
      mode_is = ap (first_of (codes "mode")) (sym rows) ∙ sym (first_is f (codes "mode")) ∙ said.mode_is;
      budget_is = record {
        text = said.budget_is.0;
        given = ap (one_of (codes "budget")) (sym rows) ∙ sym (one_is f (codes "budget")) ∙ said.budget_is.1;
        value = said.budget_is.2;
        least = said.budget_is.3;
        most = said.budget_is.4;
      };
      number_is = record {
        text = said.number_is.0;
        given = ap (one_of (codes "number")) (sym rows) ∙ sym (one_is f (codes "number")) ∙ said.number_is.1;
        value = said.number_is.2;
        least = said.number_is.3;
        most = said.number_is.4;
      };
    }

pub returns-clause-refused : goal.returns-clause-refused
returns-clause-refused c = λ e. inr (λ m h. c.in-None.ensures.none refl m (first_is (found_of c.in_ok-matches.field-0) (codes "mode") ∙ ap (first_of (codes "mode")) c.in_ok-matches.ensures.rows ∙ h))
