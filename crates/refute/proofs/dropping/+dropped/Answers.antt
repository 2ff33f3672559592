use Rattle.std.proofs.Common.{◌≡◌, ◌≤◌, ◌+◌, List, Some, length, ap, sym, ◌∙◌, subst, arith}
use Rattle.ml_pat.specs.Patterns.{Pattern, constant}
use Rattle.term_core.specs.Patterns.{Pattern as RulePattern, application, injection}
use Rattle.term_core.specs.RulePatterns.{plain_pattern}
use Rattle.term_core.specs.PatternLists.{plain_patterns}
use Rattle.term_core.specs.declared.rule_patterns.RulePat.{RulePat}
use Rattle.term_core.proofs.PatternLaws.{depth, depths, depth_of-item}
use Rattle.term_core.proofs.PlainPatterns.{plain-Ctor, plain-Inj}
use Rattle.rule_core.specs.NamedParts.{Name}
use Rattle.ml_image.specs.Images.{image_of}
use Rattle.ml_image.specs.NamedSides.{left_sentence}
use Rattle.ml_image.specs.PartNames.{part_names, part_sentence}
use Rattle.ml_image.specs.Sentences.{term}
use Rattle.ml_image.proofs.NamedLaws.{none_there}
use Rattle.prove_term.specs.Schemas.{AreImages}
use Rattle.prove_term.proofs.ComparingInjections.{HasHalves, halves_of}
use Rattle.prove_term.proofs.ComparingLaws.{application_image, as_many_images, image_item}
use Rattle.prove_term.proofs.ResultLaws.{if_ok, if_ok_two}
use Rattle.refute.specs.Choosing.{chosen, part_chosen}
use Rattle.refute.specs.Dropping.{Implies}
use Rattle.refute.proofs.DroppingLaws.{plain_implies, whole_implies, injection_implies, leaf_implies}
use Rattle.refute.proofs.DroppingLaws.{applied_first, applied_next}
use Rattle.refute.proofs.dropping.+dropped.Goals as goal

pub dropped-returns-then-is_empty : goal.dropped-returns-then-is_empty
dropped-returns-then-is_empty t c =
    if_ok_two c.itself.result
    (λ u says stays. plain_implies c.args.cx.now c.args.names.now c.args.x
    (plain_pattern c.args.pat.now) c.args.image.now u
    (none_there c.args.names.now c.is_empty.result c.is_empty.ensures c.if-is_empty.true)
    c.requires says stays)
    c.itself.ensures.conclusion c.itself.ensures.stays

pub dropped-returns : goal.dropped-returns
dropped-returns t c =
    if_ok c.whole_dropped.result
    (λ u says. whole_implies c.args.cx.now (part_names c.args.names.now) c.args.x
    (plain_pattern c.args.pat.now) u
    (says (part_sentence (part_names c.args.names.now) (plain_pattern c.args.pat.now))
    (part_chosen c.args.x (part_names c.args.names.now) (plain_pattern c.args.pat.now))
    c.in_ok-part.ensures))
    c.whole_dropped.ensures

-- ---- arguments

pub all_dropped-loop-i-init : goal.all_dropped-loop-i-init
all_dropped-loop-i-init t c =
    applied_first c.args.cx.now (part_names c.args.names.now) c.args.x c.args.constructor.0
    c.args.args.now c.args.head.now c.in_ok-present.present c.requires.head
    c.in_ok-present.ensures.conclusion c.in_ok-present.ensures.stays

pub all_dropped-bounds-images-i : goal.all_dropped-bounds-images-i
all_dropped-bounds-images-i t c =
    omega (
      arith,
      c.loop-i-test.true,
      as_many_images c.args.cx.now.program.sig c.args.cx.now.names c.args.args.now
          c.args.images.now c.requires.images,
    )

pub all_dropped-dropped-requires : goal.all_dropped-dropped-requires
all_dropped-dropped-requires t c =
    let high : depth (plain_pattern c.index-args-i.result) ≤ depths (plain_patterns c.args.args.now) =
    depth_of-item c.args.args.now c.loop-i.i c.index-args-i.result c.index-args-i.is
    c.loop-i-test.true in (
      omega (arith, high, c.decreases),
      image_item c.args.cx.now.program.sig c.args.cx.now.names c.args.args.now c.args.images.now
          c.loop-i.i c.index-args-i.result c.index-images-i.result c.requires.images
          c.loop-i-test.true c.index-args-i.is c.index-images-i.is,
    )

pub all_dropped-loop-i-preserved : goal.all_dropped-loop-i-preserved
all_dropped-loop-i-preserved t c =
    applied_next c.args.cx.now (part_names c.args.names.now) c.args.x c.args.constructor.0
    c.loop-i.i c.args.args.now c.index-args-i.result c.loop-i.present c.in_ok-one.one
    c.in_ok-present-2.present c.loop-i-test.true c.index-args-i.is
    (subst (λ (ns : List Name). Implies c.args.cx.now
    (left_sentence ns (plain_pattern c.index-args-i.result))
    (term (chosen c.args.x ns (plain_pattern c.index-args-i.result))) c.in_ok-one.one)
    (ap part_names c.deref.ensures.value ∙ c.in_ok-inside.ensures) c.in_ok-one.ensures)
    c.in_ok-present-2.ensures.conclusion c.in_ok-present-2.ensures.stays c.loop-i.invariant

-- ---- constructors

pub part_dropped-taken_apart-requires : goal.part_dropped-taken_apart-requires
part_dropped-taken_apart-requires t c =
    let w = application_image c.args.cx.now.program.sig c.args.cx.now.names c.in-Ctor.symbol.0
    (plain_patterns c.in-Ctor.args.items) c.args.image.now
    (ap (image_of c.args.cx.now.program.sig c.args.cx.now.names)
    (sym (ap plain_pattern c.in-Ctor.is ∙ plain-Ctor _ _)) ∙ c.requires) in
    let many : c.len.result ≡ length c.in-Ctor.args.items = omega (arith, c.len.ensures) in (
      constant w.0,
      w.1,
      w.4,
      many ∙ as_many_images c.args.cx.now.program.sig c.args.cx.now.names
          c.in-Ctor.args.items w.1 w.3,
    )

pub part_dropped-all_dropped-requires : goal.part_dropped-all_dropped-requires
part_dropped-all_dropped-requires t c =
    let is : plain_pattern c.args.pat.now
    ≡ application c.in-Ctor.symbol.0 (plain_patterns c.deref.result.now) =
    ap plain_pattern c.in-Ctor.is ∙ plain-Ctor _ _
    ∙ ap (λ (ps : List RulePat). application c.in-Ctor.symbol.0 (plain_patterns ps))
    (sym c.deref.ensures.value) in
    let high : depth (plain_pattern c.args.pat.now) ≡ depths (plain_patterns c.deref.result.now) + 1 =
    ap depth is in
    let w = application_image c.args.cx.now.program.sig c.args.cx.now.names c.in-Ctor.symbol.0
    (plain_patterns c.deref.result.now) c.args.image.now
    (ap (image_of c.args.cx.now.program.sig c.args.cx.now.names) (sym is) ∙ c.requires) in
    let count : c.len.result ≡ length c.in-Ctor.args.items = omega (arith, c.len.ensures) in
    let many : c.len.result ≡ length w.1 =
    count ∙ ap (λ (ps : List RulePat). length ps) (sym c.deref.ensures.value)
    ∙ as_many_images c.args.cx.now.program.sig c.args.cx.now.names c.deref.result.now w.1 w.3 in
    let parts : (c.in_ok-parts-in-Ctor.parts.head ≡ constant w.0)
    × (c.in_ok-parts-in-Ctor.parts.arguments.items ≡ w.1) =
    c.in_ok-parts-in-Ctor.ensures (constant w.0) w.1 w.4 many in (
      omega (arith, high, c.decreases),
      (
        w.2 ∙ ap (λ (q : Pattern). Some q) (sym parts.0),
        subst (λ (qs : List Pattern). AreImages c.args.cx.now.program.sig c.args.cx.now.names
            (plain_patterns c.deref.result.now) qs)
            (sym (c.deref-in-Ctor.ensures.value ∙ parts.1)) w.3,
      ),
    )

-- ---- injections

pub part_dropped-returns-in_ok-itself-in-Inj : goal.part_dropped-returns-in_ok-itself-in-Inj
part_dropped-returns-in_ok-itself-in-Inj t c =
    let is : plain_pattern c.args.pat.now ≡ injection c.in-Inj.field-0.0 c.in-Inj.field-1.0
    (plain_pattern c.deref-in-Inj.result.now) =
    ap plain_pattern c.in-Inj.is ∙ plain-Inj _ _ _
    ∙ ap (λ (p : RulePat). injection c.in-Inj.field-0.0 c.in-Inj.field-1.0 (plain_pattern p))
    (sym c.deref-in-Inj.ensures) in
    let split : HasHalves c.args.cx.now c.in-Inj.field-0.0 c.in-Inj.field-1.0
    (plain_pattern c.deref-in-Inj.result.now) c.halves.result.0.now c.halves.result.1.now =
    halves_of c.args.cx.now c.in-Inj.field-0.0 c.in-Inj.field-1.0
    (plain_pattern c.deref-in-Inj.result.now) c.args.image.now c.halves.result.0.now
    c.halves.result.1.now
    (ap (image_of c.args.cx.now.program.sig c.args.cx.now.names) (sym is) ∙ c.requires)
    c.halves.ensures in
    if_ok_two c.applied.result
    (λ u applied stays. subst (λ (p : RulePattern). Implies c.args.cx.now
    (part_sentence (part_names c.args.names.now) p)
    (term (part_chosen c.args.x (part_names c.args.names.now) p)) u) (sym is)
    (injection_implies c.args.cx.now (part_names c.args.names.now) c.args.x c.in-Inj.field-0.0
    c.in-Inj.field-1.0 (plain_pattern c.deref-in-Inj.result.now) c.halves.result.0.now
    c.in_ok-itself-in-Inj.field-0 c.in_ok-one-in-Inj.one u split.is_head
    c.in_ok-itself-in-Inj.ensures.conclusion c.in_ok-itself-in-Inj.ensures.stays
    (subst (λ (ns : List Name). Implies c.args.cx.now
    (left_sentence ns (plain_pattern c.deref-in-Inj.result.now))
    (term (chosen c.args.x ns (plain_pattern c.deref-in-Inj.result.now)))
    c.in_ok-one-in-Inj.one)
    (ap part_names c.deref-in-Inj-2.ensures.value ∙ c.in_ok-inside-in-Inj.ensures)
    c.in_ok-one-in-Inj.ensures) applied stays))
    c.applied.ensures.conclusion c.applied.ensures.stays

-- ---- variables, values and calls

pub part_dropped-returns-in-Var : goal.part_dropped-returns-in-Var
part_dropped-returns-in-Var t c =
    if_ok_two c.itself-in-Var.result
    (λ u says stays. leaf_implies c.args.cx.now (part_names c.args.names.now) c.args.x
    c.args.pat.now c.args.image.now u c.requires c.in-Var.is says stays)
    c.itself-in-Var.ensures.conclusion c.itself-in-Var.ensures.stays
