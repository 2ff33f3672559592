use Rattle.std.proofs.Common.{None, refl}
use Rattle.ml_image.specs.OwnAxioms.{SaysTotal}
use Rattle.assumed_texts.specs.Kinds.{IsTotality}
use Rattle.assumed_texts.proofs.Deciding.{decides-no, decides-same}
use Rattle.assumed_texts.proofs.ConstructorLaws.{total-unique, no-total, only-total}
use Rattle.assumed_texts.proofs.constructors.says_total.Goals as goal

pub returns-in_default-clause-answer : goal.returns-in_default-clause-answer
returns-in_default-clause-answer c =
    decides-no c.args.sig.now c.args.names.now c.args.names.now (IsTotality c.args.sig.now)
    c.args.pat.now
    (no-total c.args.sig.now c.args.names.now c.args.pat.now None refl c.in_default.ensures.only)

pub returns-clause-answer : goal.returns-clause-answer
returns-clause-answer c =
    decides-same c.args.sig.now c.args.names.now c.ctor_total.new.names
    (SaysTotal c.args.sig.now c.in-Some.symbol.0) (IsTotality c.args.sig.now) c.args.pat.now
    c.in_ok-image.image c.same.result c.in_ok-image.ensures.names
    (λ s h. (c.in-Some.symbol.0, h)) (total-unique c.args.sig.now c.in-Some.symbol.0)
    (only-total c.args.sig.now c.args.names.now c.in-Some.symbol.0 c.args.pat.now
    c.in-Some.ensures.only)
    c.in_ok-image.ensures.image c.same.ensures
