use Rattle.std.proofs.Common.{rules, ◌≡◌, ℕ, List, Some, sym, ◌∙◌, ap, subst}
use Rattle.term_core.specs.Patterns.{Pattern}
use Rattle.term_core.proofs.PlainPatterns.{plain-Var}
use Rattle.kore_ast.specs.Plain.{plain_sort}
use Rattle.kore_sig.specs.SortReferences.{sort_number}
use Rattle.kore_check.specs.Folds.{named_variable}
use Rattle.kore_check.specs.PatternMeanings.{with_variable, variable_number, Means, by_variable}
use Rattle.kore_check.specs.Building.{Extends}
use Rattle.kore_check.proofs.BuildLaws.{number-kept}
use Rattle.kore_check.proofs.VariableLaws.{with_variable-extends}
use Rattle.kore_check.proofs.build.build_variable.Goals as goal

pub returns-clause-built : goal.returns-clause-built
returns-clause-built c = λ at.
    let number : sort_number c.args.sig.now.sorts (plain_sort c.args.sort.now) ≡ Some
    c.in-Some.sort.0 =
    search rules in
    let name : c.as_str.result.now ≡ c.args.name.now = search rules in
    let added : c.number_or_add.new.self ≡ with_variable c.args.vars.now c.args.name.now
    (Some c.in-Some.sort.0) =
    subst (λ (n : List ℕ).
    c.number_or_add.new.self ≡ with_variable c.args.vars.now n (Some c.in-Some.sort.0))
    name c.in_ok-number.ensures.vars in
    let found : variable_number c.number_or_add.new.self c.args.name.now c.in-Some.sort.0 ≡ Some
    c.in_ok-number.number =
    subst (λ (n : List ℕ). variable_number c.number_or_add.new.self n c.in-Some.sort.0
    ≡ Some c.in_ok-number.number) name c.in_ok-number.ensures.number in (
      added ∙ ap (with_variable c.args.vars.now c.args.name.now) (sym number),
      λ more ext. subst (λ (p : Pattern). Means c.args.sig.now more
          (named_variable at c.args.name.now (plain_sort c.args.sort.now)) p)
          (sym (plain-Var c.in_ok-number.number))
          (by_variable number (number-kept c.number_or_add.new.self more c.args.name.now
          c.in-Some.sort.0 c.in_ok-number.number ext found)),
    )

pub returns-clause-grows : goal.returns-clause-grows
returns-clause-grows c =
    subst (λ (vs : List (List ℕ × ℕ)). Extends c.args.vars.now vs) (sym c.in_ok-number.ensures.vars)
    (with_variable-extends c.args.vars.now c.as_str.result.now (Some c.in-Some.sort.0))
