use Rattle.std.proofs.Common.{◌≡◌, Some, slice_get, set, ap, sym, ◌∙◌, subst}
use Rattle.std.proofs.lemmas.Option.{slice_get-get_or}
use Rattle.te_crew.proofs.BatchesOfNumbers.{others_stay}
use Rattle.te_crew.proofs.applying.take_at.Goals as goal

pub returns : goal.returns
returns c =
    let looks = c.args.looks.now in
    record {
      value =
          slice_get-get_or looks c.args.i c.index-looks-i.result c.requires.place ∙ ap Some (sym c.take.ensures.value);
      rest = λ k look there. others_stay looks c.args.i k look
          (subst (λ left. slice_get (set looks c.args.i left) k ≡ Some (Some look)) c.take.ensures.after there);
    }
