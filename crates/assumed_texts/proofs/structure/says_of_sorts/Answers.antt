use Rattle.assumed_texts.specs.Kinds.{IsCollapse, IsSubsortAxiom}
use Rattle.assumed_texts.proofs.Deciding.{then-second-ok}
use Rattle.assumed_texts.proofs.structure.says_of_sorts.Goals as goal

pub returns-clause-answer : goal.returns-clause-answer
returns-clause-answer c =
    then-second-ok c.args.sig.now c.args.names.now c.says_subsort.new.names c.says_collapse.new.names
    (IsSubsortAxiom c.args.sig.now) (IsCollapse c.args.sig.now) c.args.pat.now
    c.in_ok-says_subsort.field-0 c.says_collapse.result c.in_ok-says_subsort.ensures.names
    c.in_ok-says_subsort.ensures.answer c.if-branch.false c.says_collapse.ensures.answer
