use Rattle.std.proofs.Common.{rules, ◌≡◌, Some, None, refl, sym, ◌∙◌, ap, subst}
use Rattle.std.specs.Option.{option_and_then}
use Rattle.term_core.specs.Values.{value_of}
use Rattle.term_core.specs.Patterns.{Pattern}
use Rattle.term_core.proofs.PlainPatterns.{plain-Value}
use Rattle.kore_ast.specs.Plain.{plain_sort}
use Rattle.kore_sig.specs.SortReferences.{sort_number}
use Rattle.kore_check.specs.Folds.{written_value}
use Rattle.kore_check.specs.ValueTexts.{value_of_text}
use Rattle.kore_check.specs.PatternSorts.{sort_kind}
use Rattle.kore_check.specs.PatternMeanings.{Means, by_value}
use Rattle.kore_check.proofs.BuildLaws.{declared_kind}
use Rattle.kore_check.proofs.build.build_value.Goals as goal

pub returns-in_default-kind_of : goal.returns-in_default-kind_of
returns-in_default-kind_of c = λ at byte vars good.
    let number : sort_number c.args.sig.now.sorts (plain_sort c.args.sort.now) ≡ Some
    c.in-Some.sort.0 =
    search rules in
    let none : sort_kind c.args.sig.now c.in-Some.sort.0 ≡ None = search rules in
    declared_kind c.args.sig.now (plain_sort c.args.sort.now) c.in-Some.sort.0 number none

pub returns : goal.returns
returns c = λ at byte vars.
    let number : sort_number c.args.sig.now.sorts (plain_sort c.args.sort.now) ≡ Some
    c.in-Some.sort.0 =
    search rules in
    let kind : sort_kind c.args.sig.now c.in-Some.sort.0 ≡ Some c.in-Some-kind_of.kind =
    search rules in
    let value : value_of_text c.in-Some-kind_of.kind c.args.text.now ≡ Some
    (value_of c.in-Some-2.value) =
    search rules in (
      refl,
      λ more ext. subst (λ (p : Pattern). Means c.args.sig.now more
          (written_value at (plain_sort c.args.sort.now) c.args.text.now byte) p)
          (sym (plain-Value c.in-Some.sort c.in-Some-2.value))
          (by_value number
          (ap (option_and_then (λ k. value_of_text k c.args.text.now)) kind ∙ value)),
    )
