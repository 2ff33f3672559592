use Rattle.std.proofs.Common.{◌≡◌, ◌≤◌, Some, List, length, option_map, ap, sym, ◌∙◌, subst, arith}
use Rattle.term_core.specs.RulePatterns.{plain_pattern}
use Rattle.term_core.specs.PatternLists.{plain_patterns}
use Rattle.term_core.specs.declared.rule_patterns.RulePat.{RulePat}
use Rattle.rule_core.specs.NamedParts.{Name}
use Rattle.rule_core.specs.ProgramView.{sorts_of, names_of, function_equation}
use Rattle.rule_core.specs.declared.rules.VarInfo.{VarInfo}
use Rattle.ml_image.specs.Images.{all_renamed}
use Rattle.ml_image.specs.Sentences.{sentence_image}
use Rattle.ml_image.specs.Premises.{meets}
use Rattle.ml_image.specs.PartNames.{part_names, names_renamed}
use Rattle.ml_image.specs.HasImages.{AreNamesBelow}
use Rattle.ml_image.specs.Counted.{IsConditionImage}
use Rattle.ml_image.specs.Numbering.{number_in, room}
use Rattle.ml_image.proofs.ConditionLaws.{HaveImages-more, length-sorts_of}
use Rattle.ml_image.proofs.ConstructorLaws.{count-plain}
use Rattle.ml_image.proofs.NamedLaws.{below_more}
use Rattle.ml_image.proofs.LastResortLaws.{premise_said}
use Rattle.ml_image.proofs.rules.premise_image.Goals.{After-deref-4}
use Rattle.ml_image.proofs.rules.premise_image.Goals as goal

parts_are : (c : After-deref-4)
    → part_names c.deref-4.result.now ≡ names_of c.args.equation.now.named.items
parts_are c =
    ap part_names c.deref-4.ensures.value ∙ c.in_ok-parts.ensures
    ∙ ap names_of c.deref-2.ensures.value

pub meets_image-requires-clause-arguments : goal.meets_image-requires-clause-arguments
meets_image-requires-clause-arguments c =
    let few : length (sorts_of c.args.equation.now.vars.items) ≤ room c.args.numbering.now =
    omega (arith, c.requires.few, length-sorts_of c.args.equation.now.vars.items) in
    rw c.deref-3.ensures.value (HaveImages-more c.args.sig.now
    (length (sorts_of c.args.equation.now.vars.items)) (room c.args.numbering.now)
    (plain_patterns c.args.equation.now.args.items) few c.requires.premise.arguments)

pub meets_image-requires-clause-parts : goal.meets_image-requires-clause-parts
meets_image-requires-clause-parts c =
    let few : length (sorts_of c.args.equation.now.vars.items) ≤ room c.args.numbering.now =
    omega (arith, c.requires.few, length-sorts_of c.args.equation.now.vars.items) in
    subst (AreNamesBelow (room c.args.numbering.now))
    (sym (parts_are (goal.at.meets_image-requires-clause-parts c).After-deref-4))
    (below_more (length (sorts_of c.args.equation.now.vars.items)) (room c.args.numbering.now)
    (names_of c.args.equation.now.named.items) few c.requires.premise.names)

pub meets_image-requires-clause-few : goal.meets_image-requires-clause-few
meets_image-requires-clause-few c =
    rw c.deref-3.ensures.value
    (omega (arith, c.requires.premise.few, count-plain c.args.equation.now.args.items))

pub returns-clause-image : goal.returns-clause-image
returns-clause-image c =
    let condition : IsConditionImage c.args.sig.now c.condition_image.new.names
    (sorts_of c.args.equation.now.vars.items) (number_in c.args.numbering.now)
    (option_map plain_pattern c.args.equation.now.cond) c.in_ok-condition.condition =
    subst (λ (vs : List VarInfo). IsConditionImage c.args.sig.now c.condition_image.new.names
    (sorts_of vs) (number_in c.args.numbering.now)
    (option_map plain_pattern c.args.equation.now.cond) c.in_ok-condition.condition)
    c.deref.ensures.value c.in_ok-condition.ensures.image in
    let met : sentence_image c.args.sig.now c.meets_image.new.names (meets
    (names_renamed (number_in c.args.numbering.now) (names_of c.args.equation.now.named.items)) 0
    (all_renamed (number_in c.args.numbering.now)
    (plain_patterns c.args.equation.now.args.items))) ≡ Some c.in_ok-met.met =
    ap (λ (ns : List Name). sentence_image c.args.sig.now c.meets_image.new.names (meets
    (names_renamed (number_in c.args.numbering.now) ns) 0
    (all_renamed (number_in c.args.numbering.now)
    (plain_patterns c.args.equation.now.args.items))))
    (sym (parts_are (goal.at.returns-clause-image c).After-deref-4))
    ∙ ap (λ (ps : List RulePat). sentence_image c.args.sig.now c.meets_image.new.names (meets
    (names_renamed (number_in c.args.numbering.now) (part_names c.deref-4.result.now)) 0
    (all_renamed (number_in c.args.numbering.now) (plain_patterns ps))))
    (sym c.deref-3.ensures.value)
    ∙ c.in_ok-met.ensures.image in
    premise_said c.args.sig.now c.condition_image.new.names c.meets_image.new.names
    (number_in c.args.numbering.now) (function_equation c.args.equation.now)
    c.in_ok-condition.condition c.in_ok-met.met c.and.result c.meets_image.ensures.names condition
    met c.and.ensures
