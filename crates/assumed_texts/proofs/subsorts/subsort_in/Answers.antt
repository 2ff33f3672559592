use Rattle.std.proofs.Common.{◌∙◌}
use Rattle.ml_image.proofs.ImageLaws.{none_some}
use Rattle.assumed_texts.proofs.SubsortLaws.{SubsortParts, subsort-parts}
use Rattle.assumed_texts.proofs.subsorts.subsort_in.Goals as goal

pub returns-in_err-a-clause-only : goal.returns-in_err-a-clause-only
returns-in_err-a-clause-only c a b i =
    let parts : SubsortParts c.args.sig.now c.args.names.now a b c.args.pat.now =
    subsort-parts c.args.sig.now c.args.names.now a b c.args.pat.now i in
    absurd (none_some (parts.from, parts.to) (c.in_err-a.ensures ∙ parts.at))
