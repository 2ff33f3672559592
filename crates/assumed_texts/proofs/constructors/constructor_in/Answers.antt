use Rattle.rule_core.specs.Sorting.{IsSymbol}
use Rattle.ml_image.proofs.WellSortedLaws.{constructor_has_totality}
use Rattle.assumed_texts.proofs.ConstructorLaws.{found-there}
use Rattle.assumed_texts.proofs.constructors.constructor_in.Goals as goal

pub returns-in-Ctor-clause-total : goal.returns-in-Ctor-clause-total
returns-in-Ctor-clause-total c =
    let there : IsSymbol c.args.sig.now c.in_ok-symbol.symbol c.in_ok-info.info.now =
    found-there c.args.sig.now c.in_ok-symbol.symbol c.in_ok-info.info.now c.in_ok-info.ensures in
    constructor_has_totality c.args.sig.now c.in_ok-symbol.symbol c.in_ok-info.info.now
    c.requires.signature there c.in-Ctor.is
    (c.requires.arguments c.in_ok-symbol.symbol c.in_ok-info.info.now there)
