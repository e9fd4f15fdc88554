use Rattle.std.proofs.Common.{map, ap, Err, inl}
use Rattle.std.specs.String.{string_bytes}
use Rattle.tevents.specs.declared.words.Mode.TheVariants as modes
use Rattle.tevents.proofs.AnswersTold.{only_told}
use Rattle.tevents.proofs.InputsTold.{checked_input, lifted_input, checked_at, lifted_at}
use Rattle.tevents.proofs.WordsOnce.{says_once, answers_in}
use Rattle.tevents.proofs.program.tevents.Goals as goal

pub returns-in-Serial-clause-told : goal.returns-in-Serial-clause-told
returns-in-Serial-clause-told g c = λ told w says read left.
    let answer = c.serial_run.ensures.told told read left in (
      answer.0,
      answers_in w c.in-Ok.said modes.Serial read answer.0 c.serial_run.result
          (says_once (map string_bytes c.args.words.now) w c.in-Ok.said says c.in-Ok.ensures.ok) c.in-Serial.is answer.1,
      answer.2,
    )

pub returns-in-Serial-clause-cut_short : goal.returns-in-Serial-clause-cut_short
returns-in-Serial-clause-cut_short g c = λ four w says read left.
    let answer = c.serial_run.ensures.cut_short four read left in (
      answer.0,
      answer.1,
      answers_in w c.in-Ok.said modes.Serial read answer.0 answer.1
          (says_once (map string_bytes c.args.words.now) w c.in-Ok.said says c.in-Ok.ensures.ok) c.in-Serial.is answer.2,
      answer.3,
    )

pub returns-in-Run-clause-told : goal.returns-in-Run-clause-told
returns-in-Run-clause-told g c = λ told w says read left.
    let answer = c.threads_run.ensures.told told read left in (
      answer.0,
      answers_in w c.in-Ok.said modes.Run read answer.0 c.threads_run.result
          (says_once (map string_bytes c.args.words.now) w c.in-Ok.said says c.in-Ok.ensures.ok) c.in-Run.is answer.1,
      answer.2,
    )

pub returns-in-Run-clause-cut_short : goal.returns-in-Run-clause-cut_short
returns-in-Run-clause-cut_short g c = λ four w says read left.
    let answer = c.threads_run.ensures.cut_short four read left in (
      answer.0,
      answer.1,
      answers_in w c.in-Ok.said modes.Run read answer.0 answer.1
          (says_once (map string_bytes c.args.words.now) w c.in-Ok.said says c.in-Ok.ensures.ok) c.in-Run.is answer.2,
      answer.3,
    )

pub returns-in-Print-clause-told : goal.returns-in-Print-clause-told
returns-in-Print-clause-told g c = λ told w says read left.
    let answer = c.print_run.ensures.told told read left in (
      answer.0,
      answers_in w c.in-Ok.said modes.Print read answer.0 c.print_run.result
          (says_once (map string_bytes c.args.words.now) w c.in-Ok.said says c.in-Ok.ensures.ok) c.in-Print.is answer.1,
      answer.2,
    )

pub returns-in-Print-clause-cut_short : goal.returns-in-Print-clause-cut_short
returns-in-Print-clause-cut_short g c = λ four w says read left.
    let answer = c.print_run.ensures.cut_short four read left in (
      answer.0,
      answer.1,
      answers_in w c.in-Ok.said modes.Print read answer.0 answer.1
          (says_once (map string_bytes c.args.words.now) w c.in-Ok.said says c.in-Ok.ensures.ok) c.in-Print.is answer.2,
      answer.3,
    )

pub returns-in-Check-clause-told : goal.returns-in-Check-clause-told
returns-in-Check-clause-told g c = λ told w says read left.
    let answer = c.check_run.ensures.told told read left in (
      answer.0,
      answers_in w c.in-Ok.said modes.Check read answer.0 c.check_run.result
          (says_once (map string_bytes c.args.words.now) w c.in-Ok.said says c.in-Ok.ensures.ok) c.in-Check.is answer.1,
      answer.2,
    )

pub returns-in-Check-clause-cut_short : goal.returns-in-Check-clause-cut_short
returns-in-Check-clause-cut_short g c = λ four w says read left.
    let answer = c.check_run.ensures.cut_short four read left in (
      answer.0,
      answer.1,
      answers_in w c.in-Ok.said modes.Check read answer.0 answer.1
          (says_once (map string_bytes c.args.words.now) w c.in-Ok.said says c.in-Ok.ensures.ok) c.in-Check.is answer.2,
      answer.3,
    )

pub returns-in-Lift-clause-told : goal.returns-in-Lift-clause-told
returns-in-Lift-clause-told g c = λ told w says read left.
    let answer = c.lift_run.ensures.told told read left in (
      answer.0,
      answers_in w c.in-Ok.said modes.Lift read answer.0 c.lift_run.result
          (says_once (map string_bytes c.args.words.now) w c.in-Ok.said says c.in-Ok.ensures.ok) c.in-Lift.is answer.1,
      answer.2,
    )

pub returns-in-Lift-clause-cut_short : goal.returns-in-Lift-clause-cut_short
returns-in-Lift-clause-cut_short g c = λ four w says read left.
    let answer = c.lift_run.ensures.cut_short four read left in (
      answer.0,
      answer.1,
      answers_in w c.in-Ok.said modes.Lift read answer.0 answer.1
          (says_once (map string_bytes c.args.words.now) w c.in-Ok.said says c.in-Ok.ensures.ok) c.in-Lift.is answer.2,
      answer.3,
    )

pub returns-in-Gen-clause-told : goal.returns-in-Gen-clause-told
returns-in-Gen-clause-told g c = λ told w says read left.
    let answer = c.gen_run.ensures.told told in
    (answer.0, answers_in w c.in-Ok.said modes.Gen read answer.0 c.gen_run.result (says_once (map string_bytes c.args.words.now) w c.in-Ok.said says c.in-Ok.ensures.ok) c.in-Gen.is answer.1, answer.2)

pub returns-in-Gen-clause-cut_short : goal.returns-in-Gen-clause-cut_short
returns-in-Gen-clause-cut_short g c = λ four w says read left.
    let answer = c.gen_run.ensures.cut_short four in (
      answer.0,
      answer.1,
      answers_in w c.in-Ok.said modes.Gen read answer.0 answer.1
          (says_once (map string_bytes c.args.words.now) w c.in-Ok.said says c.in-Ok.ensures.ok) c.in-Gen.is answer.2,
      answer.3,
    )

pub returns-in-Err-Refused-clause-refused : goal.returns-in-Err-Refused-clause-refused
returns-in-Err-Refused-clause-refused g c = λ _. c.in-Err-Refused.ensures.refused (ap Err c.in-Err-Refused.field-0-is)

pub returns-in-Check-clause-checked : goal.returns-in-Check-clause-checked
returns-in-Check-clause-checked g c = λ zero w says mode read left.
    let answer = c.check_run.ensures.told (inl (inl zero)) read left in
    checked_input c.in-Ok.said.budget read answer.0 c.check_run.result _ answer.1 zero answer.2

pub returns-in-Check-clause-checks : goal.returns-in-Check-clause-checks
returns-in-Check-clause-checks g c = λ w says mode read left input source_well sink_well remembered.
    let told = only_told c.check_run.result c.check_run.ensures.statuses c.check_run.ensures.known
    (λ three. source_well (c.check_run.ensures.source_failed three)) (λ four. sink_well (c.check_run.ensures.sink_failed four)) remembered in
    let answer = c.check_run.ensures.told told read left in
    checked_at c.in-Ok.said.budget read answer.0 c.check_run.result answer.1 input

pub returns-in-Lift-clause-lifted : goal.returns-in-Lift-clause-lifted
returns-in-Lift-clause-lifted g c = λ zero w says mode read left.
    let answer = c.lift_run.ensures.told (inl (inl zero)) read left in
    lifted_input read answer.0 c.lift_run.result _ answer.1 zero answer.2

pub returns-in-Lift-clause-lifts : goal.returns-in-Lift-clause-lifts
returns-in-Lift-clause-lifts g c = λ w says mode read left input source_well sink_well remembered.
    let told = only_told c.lift_run.result c.lift_run.ensures.statuses c.lift_run.ensures.known
    (λ three. source_well (c.lift_run.ensures.source_failed three)) (λ four. sink_well (c.lift_run.ensures.sink_failed four)) remembered in
    let answer = c.lift_run.ensures.told told read left in
    lifted_at read answer.0 c.lift_run.result answer.1 input
