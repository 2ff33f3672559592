use Rattle.ml_image.proofs.SideLaws.{injective_closes}
use Rattle.ml_image.proofs.apart.inj_injective.Goals as goal

pub returns-clause-image : goal.returns-clause-image
returns-clause-image c =
    injective_closes c.args.sig.now c.injection_image.new.names c.close.new.names c.args.from.0
    c.args.to.0 c.in_ok-head.head c.in_ok-one.one c.in_ok-other.other c.in_ok-body.body
    c.close.result c.requires.below c.in_ok-head.ensures.image c.in_ok-one.ensures
    c.in_ok-other.ensures c.in_ok-body.ensures c.close.ensures.image
