use Rattle.ml_image.proofs.ImageLaws.{gained_twice}
use Rattle.ml_image.proofs.SentenceLaws.{collapse_closes}
use Rattle.ml_image.proofs.subsorts.inj_collapse.Goals as goal

pub returns-in_err-once-clause-names : goal.returns-in_err-once-clause-names
returns-in_err-once-clause-names c =
    gained_twice _ _ _ _ c.injected_variable.ensures.names
    (gained_twice _ _ _ _ c.injection_image.ensures.names c.injected_variable-2.ensures.names)

pub returns-in_err-body-clause-names : goal.returns-in_err-body-clause-names
returns-in_err-body-clause-names c =
    gained_twice _ _ _ _ c.injected_variable.ensures.names
    (gained_twice _ _ _ _ c.injection_image.ensures.names c.injected_variable-2.ensures.names)

pub returns-clause-image : goal.returns-clause-image
returns-clause-image c =
    collapse_closes c.args.sig.now c.injected_variable.new.names c.injection_image.new.names
    c.injected_variable-2.new.names c.close.new.names c.args.from.0 c.args.through.0 c.args.to.0
    c.in_ok-lower.lower c.in_ok-upper.upper c.in_ok-once.once c.in_ok-twice.twice
    c.in_ok-body.body c.close.result
    c.injection_image.ensures.names c.injected_variable-2.ensures.names c.requires.lower
    c.requires.upper c.in_ok-lower.ensures.image c.in_ok-upper.ensures.image
    c.in_ok-twice.ensures c.in_ok-once.ensures.image c.in_ok-body.ensures c.close.ensures.image

pub returns-clause-names : goal.returns-clause-names
returns-clause-names c =
    gained_twice _ _ _ _ (gained_twice _ _ _ _ c.injected_variable.ensures.names (gained_twice _ _ _
    _ c.injection_image.ensures.names c.injected_variable-2.ensures.names))
    c.close.ensures.names
