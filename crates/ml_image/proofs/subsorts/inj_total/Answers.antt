use Rattle.ml_image.proofs.ImageLaws.{gained_twice}
use Rattle.ml_image.proofs.SentenceLaws.{subsort_closes}
use Rattle.ml_image.proofs.subsorts.inj_total.Goals as goal

pub returns-clause-image : goal.returns-clause-image
returns-clause-image c =
    subsort_closes c.args.sig.now c.injected_variable.new.names c.sort_number.new.names
    c.close.new.names c.args.from.0 c.args.to.0 c.in_ok-sort.sort.0 c.in_ok-injected.injected
    c.in_ok-body.body c.close.result
    c.sort_number.ensures.names c.requires.pair c.in_ok-injected.ensures.image
    c.in_ok-sort.ensures.number c.in_ok-body.ensures c.close.ensures.image

pub returns-clause-names : goal.returns-clause-names
returns-clause-names c =
    gained_twice _ _ _ _ c.injected_variable.ensures.names
    (gained_twice _ _ _ _ c.sort_number.ensures.names c.close.ensures.names)
