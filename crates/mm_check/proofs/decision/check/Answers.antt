use Rattle.std.proofs.Common.{Err, ap}
use Rattle.rule_core.specs.ProgramView.{theory_of}
use Rattle.mm_verify.specs.declared.ends.VerifyEnd.{VerifyEnd}
use Rattle.mm_check.proofs.DecisionLaws.{faulty_justifies_nothing, judged_derived, judged_nothing}
use Rattle.mm_check.proofs.decision.check.Goals as goal

pub returns-in-Ok-clause-derived : goal.returns-in-Ok-clause-derived
returns-in-Ok-clause-derived c =
    judged_derived c.args.program.now c.args.bytes.now c.judged.result c.adequacy_laws.ensures.closed
    c.adequacy_laws.ensures.justified c.requires c.judged.ensures

pub returns-in-Err-Invalid-clause-nothing : goal.returns-in-Err-Invalid-clause-nothing
returns-in-Err-Invalid-clause-nothing c = λ end is other.
    faulty_justifies_nothing (theory_of c.args.program.now) c.args.bytes.now
    c.in-Err-Invalid.fault c.proof_laws.ensures.valid c.proof_laws.ensures.first_fault
    (c.in-Err-Invalid.ensures.invalid c.in-Err-Invalid.fault
    (ap (λ (e : VerifyEnd). Err e) c.in-Err-Invalid.field-0-is))

pub returns-in-Ok-clause-nothing : goal.returns-in-Ok-clause-nothing
returns-in-Ok-clause-nothing c = λ end is other.
    judged_nothing (theory_of c.args.program.now) c.args.bytes.now c.judged.result end
    c.offence_laws.ensures.none c.judged.ensures is other
