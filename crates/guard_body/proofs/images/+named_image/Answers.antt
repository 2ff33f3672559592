use Rattle.std.proofs.Common.{◌≡◌, ◌≤◌, ◌+◌, List, Some, length, ap, sym, ◌∙◌, subst, arith}
use Rattle.ml_pat.specs.Patterns.{Pattern, app, constant}
use Rattle.term_core.specs.Patterns.{Pattern as RulePattern, application, injection}
use Rattle.term_core.specs.RulePatterns.{plain_pattern}
use Rattle.term_core.specs.PatternLists.{plain_patterns}
use Rattle.term_core.specs.declared.rule_patterns.RulePat.{RulePat}
use Rattle.term_core.proofs.PatternLaws.{depth, depths, depth_of-item}
use Rattle.term_core.proofs.PlainPatterns.{plain-Ctor, plain-Inj}
use Rattle.rule_core.specs.NamedParts.{Name}
use Rattle.ml_image.specs.Images.{image_of}
use Rattle.ml_image.specs.NamedSides.{of_child}
use Rattle.ml_image.specs.PartNames.{part_names, left_renamed, part_renamed}
use Rattle.ml_image.specs.Sentences.{sentence_image}
use Rattle.ml_image.proofs.ImageLaws.{gained-nothing}
use Rattle.ml_image.proofs.NamedLaws.{none_there, without_names, side_next, injection_image_of}
use Rattle.prove_term.specs.Schemas.{AreImages}
use Rattle.prove_term.proofs.ComparingInjections.{HasHalves, halves_of}
use Rattle.prove_term.proofs.ComparingLaws.{application_image, as_many_images, image_item}
use Rattle.prove_term.proofs.ResultLaws.{if_ok}
use Rattle.guard_body.specs.Renaming.{itself}
use Rattle.guard_body.proofs.ImageLaws.{leaf_image, renamed_itself}
use Rattle.guard_body.proofs.images.+named_image.Goals as goal

pub named_image-returns-then-is_empty : goal.named_image-returns-then-is_empty
named_image-returns-then-is_empty t c =
    if_ok c.share.result
    (λ p is. without_names c.args.cx.now.program.sig c.args.cx.now.names itself c.args.names.now
    (plain_pattern c.args.pat.now) p
    (none_there c.args.names.now c.is_empty.result c.is_empty.ensures c.if-is_empty.true)
    (ap (image_of c.args.cx.now.program.sig c.args.cx.now.names)
    (renamed_itself (plain_pattern c.args.pat.now)) ∙ c.requires
    ∙ ap (λ (q : Pattern). Some q) (sym is)))
    c.share.ensures

-- ---- constructors

pub part_image-taken_apart-requires : goal.part_image-taken_apart-requires
part_image-taken_apart-requires t c =
    let w = application_image c.args.cx.now.program.sig c.args.cx.now.names c.in-Ctor.symbol.0
    (plain_patterns c.in-Ctor.args.items) c.args.image.now
    (ap (image_of c.args.cx.now.program.sig c.args.cx.now.names)
    (sym (ap plain_pattern c.in-Ctor.is ∙ plain-Ctor _ _)) ∙ c.requires) in
    let many : c.len.result ≡ length c.in-Ctor.args.items = omega (arith, c.len.ensures) in (
      constant w.0,
      w.1,
      w.4,
      many ∙ as_many_images c.args.cx.now.program.sig c.args.cx.now.names
          c.in-Ctor.args.items w.1 w.3,
    )

pub part_image-sides_image-requires : goal.part_image-sides_image-requires
part_image-sides_image-requires t c =
    let is : plain_pattern c.args.pat.now
    ≡ application c.in-Ctor.symbol.0 (plain_patterns c.deref.result.now) =
    ap plain_pattern c.in-Ctor.is ∙ plain-Ctor _ _
    ∙ ap (λ (ps : List RulePat). application c.in-Ctor.symbol.0 (plain_patterns ps))
    (sym c.deref.ensures.value) in
    let high : depth (plain_pattern c.args.pat.now)
    ≡ depths (plain_patterns c.deref.result.now) + 1 =
    ap depth is in
    let w = application_image c.args.cx.now.program.sig c.args.cx.now.names c.in-Ctor.symbol.0
    (plain_patterns c.deref.result.now) c.args.image.now
    (ap (image_of c.args.cx.now.program.sig c.args.cx.now.names) (sym is) ∙ c.requires) in
    let count : c.len.result ≡ length c.in-Ctor.args.items = omega (arith, c.len.ensures) in
    let many : c.len.result ≡ length w.1 =
    count ∙ ap (λ (ps : List RulePat). length ps) (sym c.deref.ensures.value)
    ∙ as_many_images c.args.cx.now.program.sig c.args.cx.now.names c.deref.result.now w.1 w.3 in
    let parts : (c.in_ok-parts-in-Ctor.parts.head ≡ constant w.0)
    × (c.in_ok-parts-in-Ctor.parts.arguments.items ≡ w.1) =
    c.in_ok-parts-in-Ctor.ensures (constant w.0) w.1 w.4 many in (
      omega (arith, high, c.decreases),
      (
        w.2 ∙ ap (λ (q : Pattern). Some q) (sym parts.0),
        subst (λ (qs : List Pattern). AreImages c.args.cx.now.program.sig c.args.cx.now.names
            (plain_patterns c.deref.result.now) qs)
            (sym (c.deref-in-Ctor.ensures.value ∙ parts.1)) w.3,
      ),
    )

-- ---- injections

pub part_image-returns-in_ok-below-in-Inj : goal.part_image-returns-in_ok-below-in-Inj
part_image-returns-in_ok-below-in-Inj t c =
    let is : plain_pattern c.args.pat.now ≡ injection c.in-Inj.field-0.0 c.in-Inj.field-1.0
    (plain_pattern c.deref-in-Inj.result.now) =
    ap plain_pattern c.in-Inj.is ∙ plain-Inj _ _ _
    ∙ ap (λ (p : RulePat). injection c.in-Inj.field-0.0 c.in-Inj.field-1.0 (plain_pattern p))
    (sym c.deref-in-Inj.ensures) in
    let split : HasHalves c.args.cx.now c.in-Inj.field-0.0 c.in-Inj.field-1.0
    (plain_pattern c.deref-in-Inj.result.now) c.halves.result.0.now c.halves.result.1.now =
    halves_of c.args.cx.now c.in-Inj.field-0.0 c.in-Inj.field-1.0
    (plain_pattern c.deref-in-Inj.result.now) c.args.image.now c.halves.result.0.now
    c.halves.result.1.now
    (ap (image_of c.args.cx.now.program.sig c.args.cx.now.names) (sym is) ∙ c.requires)
    c.halves.ensures in
    let below : sentence_image c.args.cx.now.program.sig c.args.cx.now.names (left_renamed itself
    (of_child 0 (part_names c.args.names.now)) (plain_pattern c.deref-in-Inj.result.now))
    ≡ Some c.in_ok-below-in-Inj.below =
    ap (λ (ns : List Name). sentence_image c.args.cx.now.program.sig c.args.cx.now.names
    (left_renamed itself ns (plain_pattern c.deref-in-Inj.result.now)))
    (sym (ap part_names c.deref-in-Inj-2.ensures.value ∙ c.in_ok-inside-in-Inj.ensures))
    ∙ c.in_ok-below-in-Inj.ensures in
    let whole : sentence_image c.args.cx.now.program.sig c.args.cx.now.names
    (part_renamed itself (part_names c.args.names.now) (plain_pattern c.args.pat.now))
    ≡ Some (app c.halves.result.0.now c.in_ok-below-in-Inj.below) =
    ap (λ (q : RulePattern). sentence_image c.args.cx.now.program.sig c.args.cx.now.names
    (part_renamed itself (part_names c.args.names.now) q)) is
    ∙ injection_image_of c.args.cx.now.program.sig c.args.cx.now.names itself c.in-Inj.field-0.0
    c.in-Inj.field-1.0 (part_names c.args.names.now) (plain_pattern c.deref-in-Inj.result.now)
    c.halves.result.0.now c.in_ok-below-in-Inj.below split.is_head below in
    if_ok c.app.result
    (λ (p : Pattern) (made : p ≡ app c.halves.result.0.now c.in_ok-below-in-Inj.below).
    whole ∙ ap (λ (q : Pattern). Some q) (sym made)) c.app.ensures

-- ---- variables, values and calls

pub part_image-returns-in-Var : goal.part_image-returns-in-Var
part_image-returns-in-Var t c =
    leaf_image c.args.cx.now.program.sig c.args.cx.now.names (part_names c.args.names.now)
    c.args.pat.now c.args.image.now c.share.result c.in-Var.is c.requires c.share.ensures

-- ---- arguments

pub sides_image-bounds-images-i : goal.sides_image-bounds-images-i
sides_image-bounds-images-i t c =
    omega (
      arith,
      c.loop-i-test.true,
      as_many_images c.args.cx.now.program.sig c.args.cx.now.names c.args.args.now
          c.args.images.now c.requires.images,
    )

pub sides_image-named_image-requires : goal.sides_image-named_image-requires
sides_image-named_image-requires t c =
    let high : depth (plain_pattern c.index-args-i.result)
    ≤ depths (plain_patterns c.args.args.now) =
    depth_of-item c.args.args.now c.loop-i.i c.index-args-i.result c.index-args-i.is
    c.loop-i-test.true in (
      omega (arith, high, c.decreases),
      image_item c.args.cx.now.program.sig c.args.cx.now.names c.args.args.now c.args.images.now
          c.loop-i.i c.index-args-i.result c.index-images-i.result c.requires.images
          c.loop-i-test.true c.index-args-i.is c.index-images-i.is,
    )

pub sides_image-loop-i-preserved : goal.sides_image-loop-i-preserved
sides_image-loop-i-preserved t c =
    side_next c.args.cx.now.program.sig c.args.cx.now.names c.args.cx.now.names itself
    c.args.symbol.0 (part_names c.args.names.now) c.args.args.now c.loop-i.i c.index-args-i.result
    c.loop-i.made c.in_ok-one.one
    (gained-nothing c.args.cx.now.program.sig c.args.cx.now.names) c.loop-i-test.true
    c.index-args-i.is c.loop-i.invariant
    (ap (λ (ns : List Name). sentence_image c.args.cx.now.program.sig c.args.cx.now.names
    (left_renamed itself ns (plain_pattern c.index-args-i.result)))
    (sym (ap part_names c.deref.ensures.value ∙ c.in_ok-inside.ensures))
    ∙ c.in_ok-one.ensures)
    ∙ ap (λ (p : Pattern). Some p) (sym c.in_ok-made-2.ensures)
