use Rattle.std.proofs.Common.{◌≡◌, subst}
use Rattle.std.specs.Prelude.{IfOk}
use Rattle.te_cert.specs.Certificates.{Certificate}
use Rattle.te_cert.specs.Checks.{IsChecked, IsFormed, Reduced}
use Rattle.te_cert.specs.Lending.{lent_terms}
use Rattle.te_cert.proofs.Checked.{checked_play, reduced_play, same_certificate}
use Rattle.te_cert.proofs.checking.check_in.Goals as goal

module _ (c : goal.After-play) where
  view : record { members = c.as_slice-members.result.now; meets = c.as_slice-meetings.result.now } ≡ c.args.cert.now
  view =
      same_certificate c.as_slice-members.result.now c.cert.inside.members c.as_slice-meetings.result.now c.cert.inside.meets c.args.cert.now
      c.as_slice-members.ensures c.as_slice-meetings.ensures c.cert.view_is

  formed : IsFormed (record { members = c.as_slice-members.result.now; meets = c.as_slice-meetings.result.now })
  formed = record { order = record { some_member = c.in_ok-in_order.ensures.some; rise = c.in_ok-in_order.ensures.rise }; between = c.in_ok-all_between.ensures.ok }

pub returns-clause-checked : goal.returns-clause-checked
returns-clause-checked c =
    subst (λ (cert : Certificate). IsChecked cert (lent_terms c.args.lents.now) c.play.result) (view c)
    (checked_play c.as_slice-members.result.now c.as_slice-meetings.result.now c.args.lents.now (formed c) c.play.result c.play.ensures)

pub returns-clause-reduces : goal.returns-clause-reduces
returns-clause-reduces c =
    subst (λ (cert : Certificate). IfOk c.play.result (λ os. Reduced cert (lent_terms c.args.lents.now) os)) (view c)
    (reduced_play c.as_slice-members.result.now c.as_slice-meetings.result.now c.args.lents.now c.in_ok-in_order.ensures.rise c.play.result c.play.ensures)
