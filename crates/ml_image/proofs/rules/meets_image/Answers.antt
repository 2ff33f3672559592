use Rattle.std.proofs.Common.{◌≡◌, ◌<◌, ◌-◌, ℕ, List, Some, length, drop}
use Rattle.std.proofs.Common.{ap, sym, ◌∙◌, subst, arith}
use Rattle.ml_pat.specs.Patterns.{Pattern, and, member}
use Rattle.term_core.specs.PatternLists.{plain_patterns}
use Rattle.ml_image.specs.Numbering.{number_in, room}
use Rattle.ml_image.specs.Images.{all_renamed}
use Rattle.ml_image.specs.Sentences.{sentence_image}
use Rattle.ml_image.specs.Premises.{meets}
use Rattle.ml_image.proofs.ImageLaws.{gained_twice, gained-nothing}
use Rattle.ml_image.proofs.LoopLaws.{image-item}
use Rattle.ml_image.proofs.ListedLaws.{meets-none, meets-next}
use Rattle.ml_image.proofs.NamedLaws.{of_child-below}
use Rattle.ml_image.specs.HasImages.{AreNamesBelow}
use Rattle.ml_image.specs.PartNames.{left_renamed, names_renamed, part_names}
use Rattle.rule_core.specs.NamedParts.{Name}
use Rattle.term_core.specs.RulePatterns.{plain_pattern}
use Rattle.ml_image.proofs.rules.meets_image.Goals as goal

pub loop-i-init : goal.loop-i-init
loop-i-init c = record {
  images =
      ap (sentence_image c.args.sig.now c.args.names.now)
      (meets-none (length c.args.args.now) (number_in c.args.numbering.now)
      (names_renamed (number_in c.args.numbering.now) (part_names c.args.parts.now))
      c.args.args.now)
      ∙ ap (λ (p : Pattern). Some p) (sym c.in_ok-made.ensures);
  gained = gained-nothing c.args.sig.now c.args.names.now;
}

pub left_image-requires-clause-pattern : goal.left_image-requires-clause-pattern
left_image-requires-clause-pattern c =
    let low : c.loop-i.i - 1 < length c.args.args.now =
    omega (arith, c.loop-i-test.true, c.loop-i.auto.i) in
    image-item c.args.sig.now (room c.args.numbering.now) c.args.args.now (c.loop-i.i - 1)
    c.index-args-i.result c.requires.arguments low c.index-args-i.is

pub left_image-requires-clause-parts : goal.left_image-requires-clause-parts
left_image-requires-clause-parts c =
    subst (AreNamesBelow (room c.args.numbering.now))
    (sym (ap part_names c.deref.ensures.value ∙ c.in_ok-inside.ensures))
    (of_child-below (c.loop-i.i - 1) (room c.args.numbering.now) (part_names c.args.parts.now)
    c.requires.parts)

pub returns-in_err-argument-clause-names : goal.returns-in_err-argument-clause-names
returns-in_err-argument-clause-names c =
    gained_twice _ _ _ _ c.loop-i.invariant.gained c.left_image.ensures.names

pub returns-in_err-parameter-clause-names : goal.returns-in_err-parameter-clause-names
returns-in_err-parameter-clause-names c =
    gained_twice _ _ _ _ c.loop-i.invariant.gained c.left_image.ensures.names

pub returns-in_err-member-clause-names : goal.returns-in_err-member-clause-names
returns-in_err-member-clause-names c =
    gained_twice _ _ _ _ c.loop-i.invariant.gained c.left_image.ensures.names

pub returns-in_err-made-2-clause-names : goal.returns-in_err-made-2-clause-names
returns-in_err-made-2-clause-names c =
    gained_twice _ _ _ _ c.loop-i.invariant.gained c.left_image.ensures.names

pub loop-i-preserved : goal.loop-i-preserved
loop-i-preserved c =
    let low : c.loop-i.i - 1 < length c.args.args.now =
    omega (arith, c.loop-i-test.true, c.loop-i.auto.i) in
    record {
      images =
          meets-next c.args.sig.now c.loop-i.names c.left_image.new.names (number_in
          c.args.numbering.now)
          (part_names c.args.parts.now) c.args.args.now
          c.loop-i.i (c.loop-i.i - 1) c.index-args-i.result c.loop-i.made
          c.in_ok-argument.argument (omega (arith, c.loop-i-test.true)) low c.index-args-i.is
          c.left_image.ensures.names c.loop-i.invariant.images
          (ap (λ (ns : List Name). sentence_image c.args.sig.now c.left_image.new.names
          (left_renamed (number_in c.args.numbering.now) ns (plain_pattern c.index-args-i.result)))
          (sym (ap part_names c.deref.ensures.value ∙ c.in_ok-inside.ensures))
          ∙ c.in_ok-argument.ensures.image)
          ∙ ap (λ (p : Pattern). Some (and (member p c.in_ok-argument.argument) c.loop-i.made))
          (sym c.in_ok-parameter.ensures)
          ∙ ap (λ (p : Pattern). Some (and p c.loop-i.made)) (sym c.in_ok-member.ensures)
          ∙ ap (λ (p : Pattern). Some p) (sym c.in_ok-made-2.ensures);
      gained = gained_twice _ _ _ _ c.loop-i.invariant.gained c.left_image.ensures.names;
    }

pub returns-clause-image : goal.returns-clause-image
returns-clause-image c =
    let none : c.loop-i.i ≡ 0 = omega (arith, c.loop-i-test.false) in
    subst (λ (i : ℕ). sentence_image c.args.sig.now c.loop-i.names
    (meets (names_renamed (number_in c.args.numbering.now) (part_names c.args.parts.now)) i
    (all_renamed (number_in c.args.numbering.now) (plain_patterns (drop i c.args.args.now))))
    ≡ Some c.loop-i.made) none c.loop-i.invariant.images

pub returns-clause-names : goal.returns-clause-names
returns-clause-names c = c.loop-i.invariant.gained
