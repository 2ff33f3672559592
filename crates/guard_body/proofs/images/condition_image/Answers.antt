use Rattle.std.proofs.Common.{◌≡◌, Some, List, option_map, length, ap, sym, ◌∙◌, subst, arith}
use Rattle.term_core.specs.RulePatterns.{plain_pattern}
use Rattle.term_core.specs.declared.ids.SortId.{SortId}
use Rattle.term_core.proofs.PlainPatterns.{plain-Value}
use Rattle.rule_core.specs.ProgramView.{sorts_of}
use Rattle.rule_core.specs.declared.rules.Program.{Program}
use Rattle.rule_core.specs.declared.rules.VarInfo.{VarInfo}
use Rattle.ml_image.specs.HasImages.{HasImage, IsCondition, IsTruth}
use Rattle.ml_image.specs.Images.{image_of}
use Rattle.ml_image.specs.Premises.{sort_of}
use Rattle.ml_image.proofs.ConditionLaws.{length-sorts_of}
use Rattle.prove_term.proofs.ContextLaws.{grown_twice}
use Rattle.guard_body.specs.Renaming.{number_in}
use Rattle.guard_body.proofs.ImageLaws.{has_renamed, occurs_within, condition_some}
use Rattle.guard_body.proofs.images.condition_image.Goals as goal

pub renamed-requires : goal.renamed-requires
renamed-requires c = λ x o.
    let is : IsTruth c.args.cx.now.program.sig (sorts_of c.args.equation.now.vars.items)
    (plain_pattern c.in-Some.condition) =
    subst (IsCondition c.args.cx.now.program.sig (sorts_of c.args.equation.now.vars.items))
    (ap (option_map plain_pattern) c.in-Some.is) c.requires.condition in
    omega (
      arith,
      occurs_within c.args.cx.now.program.sig (length (sorts_of c.args.equation.now.vars.items)) x
          (plain_pattern c.in-Some.condition) is.image o,
      length-sorts_of c.args.equation.now.vars.items,
      c.requires.numbers,
    )

pub image-requires : goal.image-requires
image-requires c =
    let is : IsTruth c.args.cx.now.program.sig (sorts_of c.args.equation.now.vars.items)
    (plain_pattern c.in-Some.condition) =
    subst (IsCondition c.args.cx.now.program.sig (sorts_of c.args.equation.now.vars.items))
    (ap (option_map plain_pattern) c.in-Some.is) c.requires.condition in
    subst (HasImage c.args.cx.now.program.sig 4294967296) (sym c.in_ok-renamed.ensures)
    (has_renamed c.args.cx.now.program.sig (number_in c.args.numbers.now)
    (length (sorts_of c.args.equation.now.vars.items)) 4294967296
    (plain_pattern c.in-Some.condition) (λ x. omega (arith, c.type_inv.numbers x)) is.image)

pub returns-clause-image : goal.returns-clause-image
returns-clause-image c =
    let sort : sort_of c.args.cx.now.program.sig (sorts_of c.args.equation.now.vars.items)
    (plain_pattern c.in-Some.condition) ≡ Some c.in-Some-sort_of.sort.0 =
    ap (λ (program : Program). sort_of program.sig (sorts_of c.args.equation.now.vars.items)
    (plain_pattern c.in-Some.condition)) (sym c.program.ensures)
    ∙ ap (λ (vs : List VarInfo). sort_of c.program.result.now.sig (sorts_of vs)
    (plain_pattern c.in-Some.condition)) (sym c.deref.ensures.value)
    ∙ sym c.sort_of.ensures
    ∙ ap (option_map (λ (s : SortId). s.0)) c.in-Some-sort_of.is in
    condition_some c.args.cx.now c.image.new.self c.image-2.new.self
    (number_in c.args.numbers.now) (sorts_of c.args.equation.now.vars.items)
    (option_map plain_pattern c.args.equation.now.cond) (plain_pattern c.in-Some.condition)
    c.in-Some-sort_of.sort.0 c.in_ok-held.held c.in_ok-truth.truth c.equal.result
    (grown_twice c.args.cx.now c.image.new.self c.image-2.new.self c.in_ok-held.ensures.grown
    c.in_ok-truth.ensures.grown) c.in_ok-truth.ensures.grown
    (ap (option_map plain_pattern) c.in-Some.is) sort
    (ap (image_of c.image.new.self.program.sig c.image.new.self.names)
    (sym c.in_ok-renamed.ensures) ∙ c.in_ok-held.ensures.image)
    (ap (image_of c.image-2.new.self.program.sig c.image-2.new.self.names)
    (sym (plain-Value c.in-Some-sort_of.sort _)) ∙ c.in_ok-truth.ensures.image)
    c.equal.ensures
