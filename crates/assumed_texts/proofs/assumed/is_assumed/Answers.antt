use Rattle.std.proofs.Common.{◌∙◌, sym}
use Rattle.std.proofs.lemmas.Bool.{false≢true}
use Rattle.rule_core.specs.ProgramView.{theory_of}
use Rattle.assumed_texts.proofs.AssumedLaws.{written-yes, structure-yes, fact-decided}
use Rattle.assumed_texts.proofs.assumed.is_assumed.Goals as goal

pub returns-then-branch-clause-answer : goal.returns-then-branch-clause-answer
returns-then-branch-clause-answer c =
    written-yes (theory_of c.args.program.now) c.args.names.now c.requires.images.images
    c.args.pat.now c.requires.images.lists
    ((c.in_ok-has_image.ensures c.requires.images.images c.requires.images.filed).0
    c.if-branch.true)

pub returns-then-branch-2-clause-answer : goal.returns-then-branch-2-clause-answer
returns-then-branch-2-clause-answer c =
    structure-yes (theory_of c.args.program.now) c.args.names.now c.says_structure.new.names
    c.args.pat.now c.in_ok-says_structure.field-0 c.in_ok-says_structure.ensures.answer
    c.if-branch-2.true

pub returns-clause-answer : goal.returns-clause-answer
returns-clause-answer c =
    fact-decided (theory_of c.args.program.now) c.args.names.now c.says_structure.new.names
    c.requires.images.images c.args.pat.now c.in_ok-says_structure.field-0 c.is_true_fact.result
    c.requires.images.lists
    (λ has. false≢true (sym c.if-branch.false
    ∙ (c.in_ok-has_image.ensures c.requires.images.images c.requires.images.filed).1 has))
    c.in_ok-says_structure.ensures.answer c.if-branch-2.false c.in_ok-says_structure.ensures.names
    c.is_true_fact.ensures
