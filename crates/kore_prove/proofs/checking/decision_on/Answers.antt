use Rattle.std.proofs.Common.{◌≡◌, ◌∙◌, ap, Err}
use Rattle.mm_check.specs.declared.ends.CheckEnd.{CheckEnd}
use Rattle.mm_check.specs.declared.ends.CheckEnd.TheVariants.{Unjustified, Memory}
use Rattle.kore_prove.proofs.Verifying.{invalid_by}
use Rattle.kore_prove.proofs.checking.decision_on.Goals as goal

pub returns-in-Invalid : goal.returns-in-Invalid
returns-in-Invalid c =
    invalid_by c.args.bytes.now c.in-Invalid.fault
    (c.check.ensures.invalid c.in-Invalid.fault
    (c.in-Err.is ∙ ap (λ (e : CheckEnd). Err e) c.in-Invalid.is))

pub returns-in-Unjustified : goal.returns-in-Unjustified
returns-in-Unjustified c =
    let is = c.in-Err.is ∙ ap (λ (e : CheckEnd). Err e) c.in-Unjustified.is in
    let found = c.check.ensures.unjustified c.in-Unjustified.offence c.in-Unjustified.at is in (
      found.0,
      c.check.ensures.nothing (Unjustified c.in-Unjustified.offence c.in-Unjustified.at) is
          (λ same. (let never : ⊥ = cc in never)),
      found.1,
    )
