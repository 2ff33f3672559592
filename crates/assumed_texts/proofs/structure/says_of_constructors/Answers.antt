use Rattle.assumed_texts.specs.Kinds.{IsDifference, IsEither, IsFreedom, IsTotality}
use Rattle.assumed_texts.proofs.Deciding.{then-second-ok}
use Rattle.assumed_texts.proofs.structure.says_of_constructors.Goals as goal

pub returns-clause-answer : goal.returns-clause-answer
returns-clause-answer c =
    then-second-ok c.args.sig.now c.args.names.now c.says_total.new.names c.says_apart_or_free.new.names
    (IsTotality c.args.sig.now) (IsEither (IsDifference c.args.sig.now) (IsFreedom c.args.sig.now)) c.args.pat.now
    c.in_ok-says_total.field-0 c.says_apart_or_free.result c.in_ok-says_total.ensures.names
    c.in_ok-says_total.ensures.answer c.if-branch.false c.says_apart_or_free.ensures.answer
