use Rattle.std.proofs.Common.{◌≡◌, ◌≤◌, ◌-◌, ◌++◌, ℕ, List, Some, length, map, ap}
use Rattle.std.proofs.Common.{sym, ◌∙◌, subst, arith}
use Rattle.ml_pat.specs.Patterns.{Pattern}
use Rattle.ml_pat.specs.Patterns as logic
use Rattle.term_core.specs.RulePatterns.{plain_pattern, sort_numbers}
use Rattle.rule_core.specs.Sorting.{AreSorts}
use Rattle.rule_core.specs.ProgramView.{sorts_of, function_equation}
use Rattle.ml_image.specs.Images.{image_of, shifted}
use Rattle.ml_image.specs.Sentences.{sentence_image}
use Rattle.ml_image.specs.OwnAxioms.{sort_numbered, of_variables}
use Rattle.ml_image.specs.HasImages.{HasParameters}
use Rattle.ml_image.proofs.ImageLaws.{gained_twice}
use Rattle.ml_image.proofs.ConditionLaws.{HasImage-more}
use Rattle.ml_image.proofs.ConstructorLaws.{read_sorts, read_declared, AreSorts-append}
use Rattle.ml_image.proofs.ConstructorLaws.{numbers-append}
use Rattle.ml_image.proofs.SentenceLaws.{kompile_closes, has_parameters, has_premise}
use Rattle.ml_image.proofs.rules.kompile_image.Goals as goal

pub held_image-requires-clause-premise : goal.held_image-requires-clause-premise
held_image-requires-clause-premise c =
    has_premise c.args.sig.now (map function_equation c.args.equations.now)
    c.args.equation.now.fun.0 (function_equation c.args.equation.now) c.requires.equation
    c.requires.kompile

pub image-requires : goal.image-requires
image-requires c =
    let few : length (sorts_of c.args.equation.now.vars.items) ≤ 4294967296 -
    c.args.equation.now.params =
    omega (arith, c.requires.equation.few) in
    HasImage-more c.args.sig.now (length (sorts_of c.args.equation.now.vars.items))
    (4294967296 - c.args.equation.now.params) (plain_pattern c.args.equation.now.right) few
    c.requires.equation.right

pub returns-in_err-body-clause-names : goal.returns-in_err-body-clause-names
returns-in_err-body-clause-names c =
    gained_twice _ _ _ _ c.held_image.ensures.names
    (gained_twice _ _ _ _ c.of_variables.ensures.names c.image.ensures.names)

pub returns-in_err-sorts-clause-names : goal.returns-in_err-sorts-clause-names
returns-in_err-sorts-clause-names c =
    gained_twice _ _ _ _ c.held_image.ensures.names
    (gained_twice _ _ _ _ c.of_variables.ensures.names c.image.ensures.names)

pub returns-in_err-variable_sorts-clause-names : goal.returns-in_err-variable_sorts-clause-names
returns-in_err-variable_sorts-clause-names c =
    gained_twice _ _ _ _ c.held_image.ensures.names
    (gained_twice _ _ _ _ c.of_variables.ensures.names c.image.ensures.names)

pub returns-in_err-extend_from_slice-clause-names :
    goal.returns-in_err-extend_from_slice-clause-names
returns-in_err-extend_from_slice-clause-names c =
    gained_twice _ _ _ _ c.held_image.ensures.names
    (gained_twice _ _ _ _ c.of_variables.ensures.names c.image.ensures.names)

pub close-requires-clause-sorts : goal.close-requires-clause-sorts
close-requires-clause-sorts c =
    let has : HasParameters c.args.sig.now c.args.equation.now.fun.0
    (function_equation c.args.equation.now) =
    has_parameters c.args.equation.now.params c.requires.equation.parameters
    c.requires.kompile in
    let takes : c.declaration.result.now.args.items ≡ map sort_numbered
    (sort_numbers c.in_ok-sorts.sorts.items) =
    sym c.deref.ensures.value ∙ c.in_ok-sorts.ensures in
    let read : has.sorts ≡ sort_numbers c.in_ok-sorts.sorts.items =
    read_sorts c.args.sig.now c.args.equation.now.fun.0 has.info c.declaration.result.now
    has.sorts (sort_numbers c.in_ok-sorts.sorts.items) has.sort has.declared
    c.declaration.ensures takes in
    let all : sort_numbers c.deref-4.result.now ≡ sort_numbers c.in_ok-sorts.sorts.items ++ sorts_of
    c.args.equation.now.vars.items =
    ap sort_numbers c.deref-4.ensures.value
    ∙ ap sort_numbers c.in_ok-extend_from_slice.ensures.items
    ∙ numbers-append c.in_ok-sorts.sorts.items c.deref-3.result.now
    ∙ ap (λ (ns : List ℕ). sort_numbers c.in_ok-sorts.sorts.items ++ ns)
    (ap sort_numbers c.deref-3.ensures.value ∙ c.in_ok-variable_sorts.ensures
    ∙ ap sorts_of c.deref-2.ensures.value) in
    subst (AreSorts c.args.sig.now) (sym all) (AreSorts-append c.args.sig.now
    (sort_numbers c.in_ok-sorts.sorts.items) (sorts_of c.args.equation.now.vars.items)
    (subst (AreSorts c.args.sig.now) read has.are_sorts) c.requires.equation.sorts)

pub returns-clause-image : goal.returns-clause-image
returns-clause-image c =
    let has : HasParameters c.args.sig.now c.args.equation.now.fun.0
    (function_equation c.args.equation.now) =
    has_parameters c.args.equation.now.params c.requires.equation.parameters
    c.requires.kompile in
    let takes : c.declaration.result.now.args.items ≡ map sort_numbered
    (sort_numbers c.in_ok-sorts.sorts.items) =
    sym c.deref.ensures.value ∙ c.in_ok-sorts.ensures in
    let read : has.sorts ≡ sort_numbers c.in_ok-sorts.sorts.items =
    read_sorts c.args.sig.now c.args.equation.now.fun.0 has.info c.declaration.result.now
    has.sorts (sort_numbers c.in_ok-sorts.sorts.items) has.sort has.declared
    c.declaration.ensures takes in
    let all : sort_numbers c.deref-4.result.now ≡ sort_numbers c.in_ok-sorts.sorts.items ++ sorts_of
    c.args.equation.now.vars.items =
    ap sort_numbers c.deref-4.ensures.value
    ∙ ap sort_numbers c.in_ok-extend_from_slice.ensures.items
    ∙ numbers-append c.in_ok-sorts.sorts.items c.deref-3.result.now
    ∙ ap (λ (ns : List ℕ). sort_numbers c.in_ok-sorts.sorts.items ++ ns)
    (ap sort_numbers c.deref-3.ensures.value ∙ c.in_ok-variable_sorts.ensures
    ∙ ap sorts_of c.deref-2.ensures.value) in
    let many : c.args.equation.now.params ≡ length (sort_numbers c.in_ok-sorts.sorts.items) =
    has.as_many ∙ ap length read in
    let function : sentence_image c.args.sig.now c.of_variables.new.names
    (of_variables c.args.equation.now.fun.0 0 (length (sort_numbers c.in_ok-sorts.sorts.items)))
    ≡ Some c.in_ok-function.function =
    subst (λ (k : ℕ). sentence_image c.args.sig.now c.of_variables.new.names
    (of_variables c.args.equation.now.fun.0 0 k) ≡ Some c.in_ok-function.function) many
    c.in_ok-function.ensures.image in
    let right : image_of c.args.sig.now c.image.new.names (shifted
    (length (sort_numbers c.in_ok-sorts.sorts.items))
    (plain_pattern c.args.equation.now.right)) ≡ Some c.in_ok-right.right =
    subst (λ (k : ℕ). image_of c.args.sig.now c.image.new.names
    (shifted k (plain_pattern c.args.equation.now.right)) ≡ Some c.in_ok-right.right)
    many c.in_ok-right.ensures.image in
    kompile_closes c.args.sig.now c.held_image.new.names
    c.of_variables.new.names c.image.new.names c.close.new.names
    (map function_equation c.args.equations.now) c.args.equation.now.fun.0
    c.declaration.result.now (sort_numbers c.in_ok-sorts.sorts.items) has.sort
    (function_equation c.args.equation.now)
    c.in_ok-held.held c.in_ok-function.function c.in_ok-right.right
    c.in_ok-body.body (sort_numbers c.deref-4.result.now) c.close.result
    c.of_variables.ensures.names c.image.ensures.names
    c.requires.kompile many
    (read_declared c.args.sig.now c.args.equation.now.fun.0 has.info c.declaration.result.now
    has.sorts (sort_numbers c.in_ok-sorts.sorts.items) has.sort has.declared
    c.declaration.ensures takes)
    c.in_ok-held.ensures.image function right
    (c.in_ok-body.ensures
    ∙ ap (λ (p : Pattern). logic.imp c.in_ok-held.held p) c.in_ok-equal.ensures)
    all c.close.ensures.image

pub returns-clause-names : goal.returns-clause-names
returns-clause-names c =
    gained_twice _ _ _ _ (gained_twice _ _ _ _ c.held_image.ensures.names
    (gained_twice _ _ _ _ c.of_variables.ensures.names c.image.ensures.names))
    c.close.ensures.names
