use Rattle.std.proofs.Common.{◌∙◌, ap, Err}
use Rattle.mm_verify.specs.declared.ends.VerifyEnd.{VerifyEnd}
use Rattle.kore_prove.proofs.Verifying.{invalid_by}
use Rattle.kore_prove.proofs.verification.verdict_on.Goals as goal

pub returns-in-Invalid : goal.returns-in-Invalid
returns-in-Invalid c =
    invalid_by c.args.bytes.now c.in-Invalid.fault
    (c.verify.ensures.invalid c.in-Invalid.fault
    (c.in-Err.is ∙ ap (λ (e : VerifyEnd). Err e) c.in-Invalid.is))
