use Rattle.ml_image.proofs.ImageLaws.{none_some}
use Rattle.ml_image.specs.OwnAxioms.{SaysCollapse}
use Rattle.assumed_texts.specs.Kinds.{IsCollapse}
use Rattle.assumed_texts.proofs.Deciding.{decides-no, decides-same}
use Rattle.assumed_texts.proofs.SubsortLaws.{only-collapse, collapse-unique}
use Rattle.assumed_texts.proofs.subsorts.says_collapse.Goals as goal

pub returns-in_default-clause-answer : goal.returns-in_default-clause-answer
returns-in_default-clause-answer c =
    decides-no c.args.sig.now c.args.names.now c.args.names.now (IsCollapse c.args.sig.now)
    c.args.pat.now
    (λ (s, (d, e, f, says), is).
    none_some (d, (e, f)) (c.in_default.ensures.only d e f (s, says, is)))

pub returns-clause-answer : goal.returns-clause-answer
returns-clause-answer c =
    decides-same c.args.sig.now c.args.names.now c.inj_collapse.new.names
    (SaysCollapse c.args.sig.now c.in-Some.from.0 c.in-Some.through.0 c.in-Some.to.0)
    (IsCollapse c.args.sig.now) c.args.pat.now c.in_ok-image.image c.same.result
    c.in_ok-image.ensures.names
    (λ s h. (c.in-Some.from.0, c.in-Some.through.0, c.in-Some.to.0, h))
    (collapse-unique c.args.sig.now c.in-Some.from.0 c.in-Some.through.0 c.in-Some.to.0)
    (only-collapse c.args.sig.now c.args.names.now c.in-Some.from.0 c.in-Some.through.0
    c.in-Some.to.0 c.args.pat.now c.in-Some.ensures.only)
    c.in_ok-image.ensures.image c.same.ensures
