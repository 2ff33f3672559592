use Rattle.std.proofs.Common.{◌∙◌, sym, ap}
use Rattle.std.specs.Option.{is_some}
use Rattle.ml_image.proofs.ImageLaws.{none_some}
use Rattle.assumed_texts.proofs.SubsortLaws.{CollapseParts, collapse-parts, below-sorts}
use Rattle.assumed_texts.proofs.subsorts.chain_in.Goals as goal

pub returns-in_err-a-clause-only : goal.returns-in_err-a-clause-only
returns-in_err-a-clause-only c a b d i =
    let parts : CollapseParts c.args.sig.now c.args.names.now a b d c.args.pat.now =
    collapse-parts c.args.sig.now c.args.names.now a b d c.args.pat.now i in
    absurd (none_some (parts.from, (parts.through, parts.to)) (c.in_err-a.ensures ∙ parts.at))

pub returns-then-below-2-clause-sorts : goal.returns-then-below-2-clause-sorts
returns-then-below-2-clause-sorts c =
    let lower = below-sorts c.args.sig.now c.requires.signature
    (c.below.ensures.0 c.if-below.true) in
    let upper = below-sorts c.args.sig.now c.requires.signature
    (c.below-then-below.ensures.0 c.if-below-2.true) in (
      ap is_some (sym c.injection_symbol.ensures.symbol ∙ c.in_ok-injection_symbol.was),
      (lower.0, (lower.1, (upper.1, tt))),
    )
