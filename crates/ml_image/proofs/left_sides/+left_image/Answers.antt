use Rattle.std.proofs.Common.{◌≡◌, ◌≤◌, ◌+◌, List, Some, ap, sym, ◌∙◌}
use Rattle.std.proofs.Common.{subst}
use Rattle.std.proofs.Common.{arith}
use Rattle.ml_pat.specs.Patterns.{Pattern, app}
use Rattle.term_core.specs.Patterns.{Pattern as RulePattern, injection}
use Rattle.term_core.specs.RulePatterns.{plain_pattern}
use Rattle.term_core.specs.PatternLists.{plain_patterns}
use Rattle.term_core.specs.declared.rule_patterns.RulePat.{RulePat}
use Rattle.term_core.proofs.PatternLaws.{depth, depths, depth_of-item}
use Rattle.term_core.proofs.PlainPatterns.{plain-Inj}
use Rattle.rule_core.specs.NamedParts.{Name}
use Rattle.ml_image.specs.Numbering.{number_in, room}
use Rattle.ml_image.specs.HasImages.{HasImage, AreNamesBelow}
use Rattle.ml_image.specs.Images.{injection_image}
use Rattle.ml_image.specs.NamedSides.{of_child}
use Rattle.ml_image.specs.PartNames.{part_names, left_renamed, part_renamed}
use Rattle.ml_image.specs.Sentences.{sentence_image}
use Rattle.ml_image.proofs.ImageLaws.{gained_twice, gained-injection, if_ok}
use Rattle.ml_image.proofs.LoopLaws.{image-item}
use Rattle.ml_image.proofs.NamedLaws.{without_names, none_there, of_child-below, side_next}
use Rattle.ml_image.proofs.NamedLaws.{injection_image_of}
use Rattle.ml_image.proofs.left_sides.+left_image.Goals as goal

pub left_image-returns-then-is_empty-clause-image :
    goal.left_image-returns-then-is_empty-clause-image
left_image-returns-then-is_empty-clause-image t c =
    if_ok _ _ c.image.result
    (λ p is. without_names c.args.sig.now c.image.new.names (number_in c.args.numbering.now)
    c.args.parts.now
    (plain_pattern c.args.pat.now) p
    (none_there c.args.parts.now c.is_empty.result c.is_empty.ensures c.if-is_empty.true) is)
    c.image.ensures.image

pub part_image-left_image-requires : goal.part_image-left_image-requires
part_image-left_image-requires t c =
    let is : plain_pattern c.args.pat.now ≡ injection c.in-Inj.from.0 c.in-Inj.to.0
    (plain_pattern c.in-Inj.below.value) =
    ap plain_pattern c.in-Inj.is ∙ plain-Inj _ _ _ in
    let own : HasImage c.args.sig.now (room c.args.numbering.now)
    (injection c.in-Inj.from.0 c.in-Inj.to.0 (plain_pattern c.in-Inj.below.value)) =
    subst (HasImage c.args.sig.now (room c.args.numbering.now)) is c.requires.pattern in
    let high : depth (plain_pattern c.args.pat.now) ≡ depth (plain_pattern c.in-Inj.below.value) + 1
    =
    ap depth is in
    let below : depth (plain_pattern c.deref-in-Inj.result.now)
    ≡ depth (plain_pattern c.in-Inj.below.value) =
    ap (λ (p : RulePat). depth (plain_pattern p)) c.deref-in-Inj.ensures in (
      omega (arith, high, below, c.decreases),
      (
        rw c.deref-in-Inj.ensures own.2,
        subst (AreNamesBelow (room c.args.numbering.now))
            (sym (ap part_names c.deref-in-Inj-2.ensures.value ∙ c.in_ok-inside-in-Inj.ensures))
            (of_child-below 0 (room c.args.numbering.now) (part_names c.args.parts.now)
            c.requires.parts),
      ),
    )

pub part_image-returns-in_ok-below-in-Inj-clause-image :
    goal.part_image-returns-in_ok-below-in-Inj-clause-image
part_image-returns-in_ok-below-in-Inj-clause-image t c =
    let is : plain_pattern c.args.pat.now ≡ injection c.in-Inj.from.0 c.in-Inj.to.0
    (plain_pattern c.in-Inj.below.value) =
    ap plain_pattern c.in-Inj.is ∙ plain-Inj _ _ _ in
    let head : injection_image c.args.sig.now c.left_image.new.names c.in-Inj.from.0 c.in-Inj.to.0
    ≡ Some c.in_ok-head-in-Inj.head =
    gained-injection c.args.sig.now c.injection_image.new.names c.left_image.new.names
    c.in-Inj.from.0 c.in-Inj.to.0 c.left_image.ensures.names c.in_ok-head-in-Inj.head
    c.in_ok-head-in-Inj.ensures.image in
    let inside : part_names c.deref-in-Inj-2.result.now ≡ of_child 0 (part_names c.args.parts.now) =
    ap part_names c.deref-in-Inj-2.ensures.value ∙ c.in_ok-inside-in-Inj.ensures in
    let below : sentence_image c.args.sig.now c.left_image.new.names (left_renamed (number_in
    c.args.numbering.now)
    (of_child 0 (part_names c.args.parts.now)) (plain_pattern c.in-Inj.below.value)) ≡ Some
    c.in_ok-below-in-Inj.below =
    ap (λ (ns : List Name). sentence_image c.args.sig.now c.left_image.new.names
    (left_renamed (number_in c.args.numbering.now) ns (plain_pattern c.in-Inj.below.value))) (sym
    inside)
    ∙ ap (λ (p : RulePat). sentence_image c.args.sig.now c.left_image.new.names
    (left_renamed (number_in c.args.numbering.now) (part_names c.deref-in-Inj-2.result.now)
    (plain_pattern p)))
    (sym c.deref-in-Inj.ensures)
    ∙ c.in_ok-below-in-Inj.ensures.image in
    let whole : sentence_image c.args.sig.now c.left_image.new.names
    (part_renamed (number_in c.args.numbering.now) (part_names c.args.parts.now) (plain_pattern
    c.args.pat.now)) ≡ Some
    (app c.in_ok-head-in-Inj.head c.in_ok-below-in-Inj.below) =
    ap (λ (q : RulePattern). sentence_image c.args.sig.now c.left_image.new.names
    (part_renamed (number_in c.args.numbering.now) (part_names c.args.parts.now) q)) is
    ∙ injection_image_of c.args.sig.now c.left_image.new.names (number_in c.args.numbering.now)
    c.in-Inj.from.0
    c.in-Inj.to.0 (part_names c.args.parts.now) (plain_pattern c.in-Inj.below.value)
    c.in_ok-head-in-Inj.head c.in_ok-below-in-Inj.below head below in
    if_ok _ (λ p. sentence_image c.args.sig.now c.left_image.new.names
    (part_renamed (number_in c.args.numbering.now) (part_names c.args.parts.now) (plain_pattern
    c.args.pat.now)) ≡ Some p)
    c.app.result
    (λ (p : Pattern) (made : p ≡ app c.in_ok-head-in-Inj.head c.in_ok-below-in-Inj.below).
    whole ∙ ap (λ (q : Pattern). Some q) (sym made)) c.app.ensures

pub sides_image-left_image-requires : goal.sides_image-left_image-requires
sides_image-left_image-requires t c =
    let low : depth (plain_pattern c.index-args-i.result) ≤ depths (plain_patterns c.args.args.now)
    =
    depth_of-item c.args.args.now c.loop-i.i c.index-args-i.result c.index-args-i.is
    c.loop-i-test.true in (
      omega (arith, low, c.decreases),
      (
        image-item c.args.sig.now (room c.args.numbering.now) c.args.args.now c.loop-i.i
            c.index-args-i.result c.requires.patterns c.loop-i-test.true c.index-args-i.is,
        subst (AreNamesBelow (room c.args.numbering.now))
            (sym (ap part_names c.deref.ensures.value ∙ c.in_ok-inside.ensures))
            (of_child-below c.loop-i.i (room c.args.numbering.now) (part_names c.args.parts.now)
            c.requires.parts),
      ),
    )

pub sides_image-loop-i-preserved : goal.sides_image-loop-i-preserved
sides_image-loop-i-preserved t c = record {
  images =
      side_next c.args.sig.now c.loop-i.names c.left_image.new.names (number_in
      c.args.numbering.now) c.args.symbol.0
      (part_names c.args.parts.now) c.args.args.now c.loop-i.i c.index-args-i.result c.loop-i.made
      c.in_ok-arg.arg c.left_image.ensures.names c.loop-i-test.true c.index-args-i.is
      c.loop-i.invariant.images
      (ap (λ (ns : List Name). sentence_image c.args.sig.now c.left_image.new.names
      (left_renamed (number_in c.args.numbering.now) ns (plain_pattern c.index-args-i.result)))
      (sym (ap part_names c.deref.ensures.value ∙ c.in_ok-inside.ensures))
      ∙ c.in_ok-arg.ensures.image)
      ∙ ap (λ (p : Pattern). Some p) (sym c.in_ok-made-2.ensures);
  gained = gained_twice _ _ _ _ c.loop-i.invariant.gained c.left_image.ensures.names;
}
