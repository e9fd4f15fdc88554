-- A certificate: members, and meetings by places among them. This project's own.
use Rattle.std.specs.Prelude.{List, refl}
use Rattle.std.specs.Coded.{Coded, code_by, coded×, coded_list}
use Rattle.te_cert.specs.declared.cert.Member.{Member}
use Rattle.te_cert.specs.declared.cert.Meeting.{Meeting}
use Rattle.te_cert.specs.contracts.cert.Member as member
use Rattle.te_cert.specs.contracts.cert.Meeting as meeting

pub record Certificate : Type 0 where
  pub members : List Member
  pub meets : List Meeting

abbrev pub coded_certificate : Coded Certificate
coded_certificate =
    code_by (List Member × List Meeting) (coded× (coded_list member.the_row.coded) (coded_list meeting.the_row.coded)) (λ c. (c.members, c.meets))
    (λ p. record { members = p.0; meets = p.1 }) (λ c. refl)
