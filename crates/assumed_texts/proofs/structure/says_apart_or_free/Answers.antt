use Rattle.assumed_texts.specs.Kinds.{IsDifference, IsFreedom}
use Rattle.assumed_texts.proofs.Deciding.{then-second-ok}
use Rattle.assumed_texts.proofs.structure.says_apart_or_free.Goals as goal

pub returns-clause-answer : goal.returns-clause-answer
returns-clause-answer c =
    then-second-ok c.args.sig.now c.args.names.now c.says_apart.new.names c.says_free.new.names
    (IsDifference c.args.sig.now) (IsFreedom c.args.sig.now) c.args.pat.now
    c.in_ok-says_apart.field-0 c.says_free.result c.in_ok-says_apart.ensures.names
    c.in_ok-says_apart.ensures.answer c.if-branch.false c.says_free.ensures.answer
