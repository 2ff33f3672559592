use Rattle.std.proofs.Common.{◌≡◌, ◌≤◌, ℕ, List, ap, sym, ◌∙◌, arith}
use Rattle.term_core.specs.Patterns.{Pattern, application}
use Rattle.term_core.specs.RulePatterns.{plain_pattern}
use Rattle.term_core.specs.PatternLists.{plain_patterns}
use Rattle.term_core.specs.declared.rule_patterns.RulePat.{RulePat}
use Rattle.term_core.proofs.PatternLaws.{depth, depths, depth_of-item}
use Rattle.term_core.proofs.PlainPatterns.{plain-Ctor}
use Rattle.ml_image.specs.NamedSides.{of_whole}
use Rattle.ml_image.specs.PartNames.{part_names, part_sentence}
use Rattle.ml_image.specs.Sentences.{symbol}
use Rattle.ml_image.proofs.NamedLaws.{left_parts}
use Rattle.prove_term.proofs.ResultLaws.{if_ok}
use Rattle.refute.specs.NamedRefutations.{and_new_in}
use Rattle.refute.specs.Written.{and_new_in_all, with_last_names}
use Rattle.refute.proofs.WrittenLaws.{named_added, sides_added}
use Rattle.refute.proofs.written.+add_written.Goals as goal

pub add_all_written-add_written-requires : goal.add_all_written-add_written-requires
add_all_written-add_written-requires t c =
    let high : depth (plain_pattern c.index-args-i.result) ≤ depths (plain_patterns c.args.args.now) =
    depth_of-item c.args.args.now c.loop-i.i c.index-args-i.result c.index-args-i.is
    c.loop-i-test.true in
    omega (arith, high, c.decreases)

pub add_part-returns-in-Ctor : goal.add_part-returns-in-Ctor
add_part-returns-in-Ctor t c =
    let is : plain_pattern c.args.pat.now
    ≡ application c.in-Ctor.field-0.0 (plain_patterns c.in-Ctor.args.items) =
    ap plain_pattern c.in-Ctor.is ∙ plain-Ctor _ _ in
    if_ok c.add_all_written.result
    (λ u added. added
    ∙ ap (λ (qs : List RulePat). and_new_in_all c.args.variables.now.items
    (part_names c.args.names.now) 0 (plain_patterns qs)) c.deref.ensures.value
    ∙ sym (sides_added c.args.variables.now.items (part_names c.args.names.now) 0
    (symbol c.in-Ctor.field-0.0) (plain_patterns c.in-Ctor.args.items))
    ∙ ap (λ (p : Pattern). and_new_in c.args.variables.now.items
    (part_sentence (part_names c.args.names.now) p)) (sym is))
    c.add_all_written.ensures

pub add_written-returns : goal.add_written-returns
add_written-returns t c =
    if_ok c.add_last_names.result
    (λ u last. last
    ∙ ap (λ (ys : List ℕ). with_last_names ys (of_whole (part_names c.args.names.now)))
    (c.in_ok-add_part.ensures
    ∙ ap (λ (ys : List ℕ). and_new_in ys
    (part_sentence (part_names c.args.names.now) (plain_pattern c.args.pat.now)))
    c.in_ok-add_first_names.ensures)
    ∙ sym (named_added c.args.variables.now.items
    (part_sentence (part_names c.args.names.now) (plain_pattern c.args.pat.now))
    (of_whole (part_names c.args.names.now)))
    ∙ ap (and_new_in c.args.variables.now.items)
    (sym (left_parts (part_names c.args.names.now) (plain_pattern c.args.pat.now))))
    c.add_last_names.ensures
