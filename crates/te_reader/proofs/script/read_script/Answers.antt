use Rattle.std.proofs.Common.{rules, ◌≡◌, sym, ◌∙◌, ap, inl, inr}
use Rattle.std.specs.Prelude.{Some, None, Result, Ok, Err, ◌⊎◌}
use Rattle.te_script.specs.Scripts.{Program}
use Rattle.te_reader.specs.declared.fault.ScriptFault.{ScriptFault}
use Rattle.te_reader.specs.declared.fault.ScriptFault.TheVariants.{Memory}
use Rattle.te_reader.specs.Reads.{read_text}
use Rattle.te_reader.proofs.TextIsRead.{text_is_read, program_of_text_is_read}
use Rattle.te_reader.proofs.FaultIsTold.{refused_has_fault, told_is_fault, fault_is_told, text_is_faultless}
use Rattle.te_reader.proofs.script.read_script.Goals as goal

same_program : (p q : Program) → Some p ≡ Some q → p ≡ q
same_program p q e = cc

-- an answer by what was told
abbrev refusal : ScriptFault → Result Program ScriptFault
refusal e = Err e

told_or_memory : (e told : ScriptFault) → (told ≡ e) ⊎ (told ≡ Memory) → (refusal told ≡ refusal e) ⊎ (refusal told ≡ refusal Memory)
told_or_memory e told (inl h) = inl (ap refusal h)
told_or_memory e told (inr h) = inr (ap refusal h)

pub told-requires : goal.told-requires
told-requires c =
    let refused : read_text c.args.bytes.now ≡ None = search rules in
    refused_has_fault c.args.bytes.now refused

pub returns-in-Ok-clause-ok : goal.returns-in-Ok-clause-ok
returns-in-Ok-clause-ok c =
    let read : read_text c.args.bytes.now ≡ Some c.in-Ok.script = search rules in
    text_is_read c.args.bytes.now c.in-Ok.script read

pub returns-in-Ok-clause-one : goal.returns-in-Ok-clause-one
returns-in-Ok-clause-one c other text =
    let read : read_text c.args.bytes.now ≡ Some c.in-Ok.script = search rules in
    same_program other c.in-Ok.script (sym (program_of_text_is_read c.args.bytes.now other text) ∙ read)

pub returns-in-Ok-clause-faulty : goal.returns-in-Ok-clause-faulty
returns-in-Ok-clause-faulty c e has =
    let read : read_text c.args.bytes.now ≡ Some c.in-Ok.script = search rules in
    absurd (text_is_faultless c.args.bytes.now c.in-Ok.script e (text_is_read c.args.bytes.now c.in-Ok.script read) has)

pub returns-in-Ok-clause-text : goal.returns-in-Ok-clause-text
returns-in-Ok-clause-text c script text =
    let read : read_text c.args.bytes.now ≡ Some c.in-Ok.script = search rules in
    inl (ap Ok (sym (same_program script c.in-Ok.script (sym (program_of_text_is_read c.args.bytes.now script text) ∙ read))))

pub returns-in-Err-Refused-clause-fault : goal.returns-in-Err-Refused-clause-fault
returns-in-Err-Refused-clause-fault c = told_is_fault c.args.bytes.now c.told.result c.told.ensures

pub returns-in-Err-Refused-clause-faulty : goal.returns-in-Err-Refused-clause-faulty
returns-in-Err-Refused-clause-faulty c e has = told_or_memory e c.told.result (fault_is_told c.args.bytes.now e c.told.result c.told.ensures has)

pub returns-in-Err-Refused-clause-text : goal.returns-in-Err-Refused-clause-text
returns-in-Err-Refused-clause-text c script text =
    let refused : read_text c.args.bytes.now ≡ None = search rules in
    absurd (let both : Some script ≡ None = sym (program_of_text_is_read c.args.bytes.now script text) ∙ refused in cc)
