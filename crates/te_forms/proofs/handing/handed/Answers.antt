use Rattle.te_forms.proofs.Promises.{all_even, told_meetings, told_once, told_nobody_else, told_round, told_given}
use Rattle.te_forms.proofs.handing.handed.Goals as goal

pub returns-in_err-marked-clause-even : goal.returns-in_err-marked-clause-even
returns-in_err-marked-clause-even c = all_even c.args.ring.now c.len-2.ensures.ring c.args.hist.now c.args.n c.len.ensures.loose c.requires.private

pub returns-clause-even : goal.returns-clause-even
returns-clause-even c = all_even c.args.ring.now c.len-2.ensures.ring c.args.hist.now c.args.n c.len.ensures.loose c.requires.private

pub returns-clause-meetings : goal.returns-clause-meetings
returns-clause-meetings c =
    told_meetings c.args.ring.now c.len-2.ensures.ring c.args.hist.now c.args.n c.len.ensures.loose c.requires.private
    c.certificate_at-cert.result.now c.cert.inside.members c.cert.inside.meets c.as_slice-members.result.now c.as_slice-meetings.result.now c.in_ok-marked.marked.items
    c.as_slice-marked.result.now c.pairs.result c.cert.view_is c.as_slice-members.ensures c.as_slice-meetings.ensures c.in_ok-marked.ensures c.as_slice-marked.ensures.value
    c.pairs.ensures c.certificate_at-cert.ensures

pub returns-clause-once : goal.returns-clause-once
returns-clause-once c =
    told_once c.args.ring.now c.len-2.ensures.ring c.args.hist.now c.args.n c.len.ensures.loose c.requires.private
    c.certificate_at-cert.result.now c.cert.inside.members c.cert.inside.meets c.as_slice-members.result.now c.as_slice-meetings.result.now c.in_ok-marked.marked.items
    c.as_slice-marked.result.now c.pairs.result c.cert.view_is c.as_slice-members.ensures c.as_slice-meetings.ensures c.in_ok-marked.ensures c.as_slice-marked.ensures.value
    c.pairs.ensures c.certificate_at-cert.ensures

pub returns-clause-nobody_else : goal.returns-clause-nobody_else
returns-clause-nobody_else c =
    told_nobody_else c.args.ring.now c.len-2.ensures.ring c.args.hist.now c.args.n c.len.ensures.loose c.requires.private
    c.certificate_at-cert.result.now c.cert.inside.members c.cert.inside.meets c.as_slice-members.result.now c.as_slice-meetings.result.now c.in_ok-marked.marked.items
    c.as_slice-marked.result.now c.pairs.result c.cert.view_is c.as_slice-members.ensures c.as_slice-meetings.ensures c.in_ok-marked.ensures c.as_slice-marked.ensures.value
    c.pairs.ensures c.certificate_at-cert.ensures

pub returns-clause-round : goal.returns-clause-round
returns-clause-round c =
    told_round c.args.ring.now c.len-2.ensures.ring c.args.hist.now c.args.n c.len.ensures.loose c.requires.private
    c.certificate_at-cert.result.now c.cert.inside.members c.cert.inside.meets c.as_slice-members.result.now c.as_slice-meetings.result.now c.in_ok-marked.marked.items
    c.as_slice-marked.result.now c.pairs.result c.cert.view_is c.as_slice-members.ensures c.as_slice-meetings.ensures c.in_ok-marked.ensures c.as_slice-marked.ensures.value
    c.pairs.ensures c.certificate_at-cert.ensures

pub returns-clause-given : goal.returns-clause-given
returns-clause-given c =
    told_given c.args.ring.now c.len-2.ensures.ring c.args.hist.now c.args.n c.len.ensures.loose c.requires.private
    c.certificate_at-cert.result.now c.cert.inside.members c.cert.inside.meets c.as_slice-members.result.now c.as_slice-meetings.result.now c.in_ok-marked.marked.items
    c.as_slice-marked.result.now c.pairs.result c.cert.view_is c.as_slice-members.ensures c.as_slice-meetings.ensures c.in_ok-marked.ensures c.as_slice-marked.ensures.value
    c.pairs.ensures c.certificate_at-cert.ensures
