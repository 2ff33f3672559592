use Rattle.std.proofs.Common.{None, refl, sym, ◌∙◌}
use Rattle.std.proofs.lemmas.Bool.{false≢true}
use Rattle.ml_image.specs.HasImages.{HasTotality}
use Rattle.ml_image.specs.OwnAxioms.{SaysFree}
use Rattle.assumed_texts.specs.Kinds.{IsFreedom}
use Rattle.assumed_texts.proofs.Deciding.{decides-no, decides-same}
use Rattle.assumed_texts.proofs.ConstructorLaws.{free-unique, no-free, only-free, not-free}
use Rattle.assumed_texts.proofs.constructors.says_free.Goals as goal

pub returns-in_default-clause-answer : goal.returns-in_default-clause-answer
returns-in_default-clause-answer c =
    decides-no c.args.sig.now c.args.names.now c.args.names.now (IsFreedom c.args.sig.now)
    c.args.pat.now
    (no-free c.args.sig.now c.args.names.now c.args.pat.now None refl c.in_default.ensures.only)

pub returns-then-not-is_free-clause-answer : goal.returns-then-not-is_free-clause-answer
returns-then-not-is_free-clause-answer c =
    let total : HasTotality c.args.sig.now c.in-Some.symbol.0 =
    c.in-Some.ensures.total in
    decides-no c.args.sig.now c.args.names.now c.args.names.now (IsFreedom c.args.sig.now)
    c.args.pat.now
    (λ i. not-free c.args.sig.now c.args.names.now c.in-Some.symbol.0 c.args.pat.now total
    (λ h. false≢true (sym c.if-not-is_free.true ∙ c.is_free.ensures.1 h))
    (only-free c.args.sig.now c.args.names.now c.in-Some.symbol.0 c.args.pat.now
    c.in-Some.ensures.only i))

pub returns-clause-answer : goal.returns-clause-answer
returns-clause-answer c =
    decides-same c.args.sig.now c.args.names.now c.ctor_free.new.names
    (SaysFree c.args.sig.now c.in-Some.symbol.0) (IsFreedom c.args.sig.now) c.args.pat.now
    c.in_ok-image.image c.same.result c.in_ok-image.ensures.names
    (λ s h. (c.in-Some.symbol.0, h)) (free-unique c.args.sig.now c.in-Some.symbol.0)
    (only-free c.args.sig.now c.args.names.now c.in-Some.symbol.0 c.args.pat.now
    c.in-Some.ensures.only)
    c.in_ok-image.ensures.image c.same.ensures
