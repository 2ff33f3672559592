use Rattle.std.proofs.Common.{◌≡◌, ap, sym, ◌∙◌, subst, arith, []}
use Rattle.term_core.specs.Patterns.{ground_pattern}
use Rattle.term_core.specs.RulePatterns.{plain_pattern}
use Rattle.rule_core.specs.ProgramView.{names_of}
use Rattle.rule_core.specs.declared.rules.Program.{Program}
use Rattle.ml_image.specs.HasImages.{HasImage}
use Rattle.ml_image.specs.Images.{image_of}
use Rattle.ml_image.specs.NamedSides.{of_child}
use Rattle.ml_image.specs.PartNames.{part_names}
use Rattle.ml_image.proofs.ConditionLaws.{HasImage-more}
use Rattle.guard_body.proofs.ImageLaws.{member_said}
use Rattle.guard_body.proofs.images.member_image.Goals as goal

pub image-requires : goal.image-requires
image-requires c =
    subst (HasImage c.args.cx.now.program.sig 4294967296) (sym c.in_ok-pattern_of.ensures.tree)
    (HasImage-more c.args.cx.now.program.sig 0 4294967296
    (ground_pattern c.args.argument.now.term.now) (omega arith)
    (c.condition_laws.ensures.pattern c.args.cx.now.program.sig []
    (ground_pattern c.args.argument.now.term.now) c.requires.argument.2.sort
    c.requires.well_sorted.signature c.requires.argument.2.is_term))

pub image-requires-2 : goal.image-requires-2
image-requires-2 c =
    subst (λ (program : Program).
    HasImage program.sig 4294967296 (plain_pattern c.args.argument.now.pat))
    (sym c.in_ok-term.ensures.grown.program)
    (HasImage-more c.args.cx.now.program.sig _ 4294967296 (plain_pattern c.args.argument.now.pat)
    (omega (arith, c.requires.argument.1))
    (c.condition_laws.ensures.pattern c.args.cx.now.program.sig c.requires.argument.0
    (plain_pattern c.args.argument.now.pat) c.requires.argument.2.sort
    c.requires.well_sorted.signature c.requires.argument.2.sorted))

pub returns-clause-image : goal.returns-clause-image
returns-clause-image c =
    let names : part_names c.deref-3.result.now
    ≡ of_child 0 (names_of c.args.argument.now.named.items) =
    ap part_names c.deref-3.ensures.value ∙ c.in_ok-names.ensures
    ∙ ap (of_child 0) (ap part_names c.deref-2.ensures.value ∙ c.in_ok-part_names.ensures
    ∙ ap names_of c.deref.ensures.value) in
    member_said c.image.new.self c.image-2.new.self c.args.argument.now
    (part_names c.deref-3.result.now) c.in_ok-term.term c.in_ok-side.side c.member.result
    c.in_ok-image.ensures.grown
    (ap (image_of c.image.new.self.program.sig c.image.new.self.names)
    (sym c.in_ok-pattern_of.ensures.tree) ∙ c.in_ok-term.ensures.image)
    names c.in_ok-side.ensures c.member.ensures
