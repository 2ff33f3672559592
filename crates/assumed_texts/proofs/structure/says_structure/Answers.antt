use Rattle.assumed_texts.specs.Kinds.{IsOfConstructors, IsOfSorts}
use Rattle.assumed_texts.proofs.Deciding.{then-second-ok}
use Rattle.assumed_texts.proofs.structure.says_structure.Goals as goal

pub returns-clause-answer : goal.returns-clause-answer
returns-clause-answer c =
    then-second-ok c.args.sig.now c.args.names.now c.says_of_constructors.new.names c.says_of_sorts.new.names
    (IsOfConstructors c.args.sig.now) (IsOfSorts c.args.sig.now) c.args.pat.now
    c.in_ok-says_of_constructors.field-0 c.says_of_sorts.result c.in_ok-says_of_constructors.ensures.names
    c.in_ok-says_of_constructors.ensures.answer c.if-branch.false c.says_of_sorts.ensures.answer
