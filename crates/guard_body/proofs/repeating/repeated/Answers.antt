use Rattle.std.proofs.Common.{◌≡◌, ◌<◌, ◌+◌, ℕ, List, All, Some, option_map, length, refl, ap, sym}
use Rattle.std.proofs.Common.{◌∙◌, slice_get, subst, arith}
use Rattle.std.proofs.Math.Path.{fun_ext}
use Rattle.term_core.specs.declared.ids.SortId.{SortId}
use Rattle.term_core.specs.Forests.{forest}
use Rattle.term_core.specs.PatternLists.{plain_patterns}
use Rattle.term_core.specs.RulePatterns.{plain_pattern, sort_numbers}
use Rattle.rule_core.specs.ProgramView.{function_equation, names_of, sorts_of, theory_of}
use Rattle.rule_core.specs.AcSymbols.{IsAcFree}
use Rattle.rule_core.specs.Sorting.{AreSorts}
use Rattle.rule_core.specs.WellSorted.{IsWellSorted}
use Rattle.rule_core.specs.declared.rules.Program.{Program}
use Rattle.rule_core.specs.declared.rules.VarInfo.{VarInfo}
use Rattle.ml_image.specs.HasImages.{IsCondition}
use Rattle.ml_image.specs.LastResorts.{number_from, condition_renamed}
use Rattle.ml_image.specs.Sentences.{Sentence, and, sentence_image}
use Rattle.ml_image.proofs.ConditionLaws.{length-sorts_of}
use Rattle.ml_image.proofs.ListedLaws.{length-numbers}
use Rattle.prove_term.specs.Contexts.{HasGrown}
use Rattle.prove_term.proofs.ContextLaws.{image_grown, grown_twice}
use Rattle.prove_open.specs.Givens.{HasFact, IsGiven, all_sorted}
use Rattle.prove_open.proofs.GatheringLaws.{given_grown}
use Rattle.guard_body.specs.Arguments.{IsArgument, IsVariableOf, all_in}
use Rattle.guard_body.specs.Guarded.{IsOrderOf}
use Rattle.guard_body.specs.Hypotheses.{down_from}
use Rattle.guard_body.specs.Renaming.{AreRenamed, number_in, sorts_from}
use Rattle.guard_body.specs.declared.arguments.Argument.{Argument}
use Rattle.guard_body.proofs.RepeatedLaws.{order_within, sorts_are, sorts_many, sorts_few}
use Rattle.guard_body.proofs.RepeatedLaws.{can_rename, as_many_terms, condition_met}
use Rattle.guard_body.proofs.RepeatedLaws.{are_renamed_as, arguments_are, condition_said}
use Rattle.guard_body.proofs.RepeatedLaws.{variables_numbered}
use Rattle.guard_body.proofs.repeating.repeated.Goals.{After-deref-2, After-deref-5}
use Rattle.guard_body.proofs.repeating.repeated.Goals as goal

pub listed_numbers-requires-clause-order : goal.listed_numbers-requires-clause-order
listed_numbers-requires-clause-order c = λ k d low.
    omega (
      arith,
      order_within (length c.args.equation.now.vars.items) c.args.order.now c.requires.order k d
          low,
      c.len.ensures,
    )

pub sorts_from-requires : goal.sorts_from-requires
sorts_from-requires c = λ k d low.
    omega (
      arith,
      order_within (length c.args.equation.now.vars.items) c.args.order.now c.requires.order k d
          low,
      ap length c.deref.ensures.value,
    )

-- the order of the variables by their sorts
is_order : (c : After-deref-2)
    → IsOrderOf (length (sorts_of c.args.equation.now.vars.items)) c.args.order.now
is_order c =
    subst (λ (n : ℕ). IsOrderOf n c.args.order.now)
    (sym (length-sorts_of c.args.equation.now.vars.items)) c.requires.order

within : (c : After-deref-2)
    → All (λ x. x < length (sorts_of c.args.equation.now.vars.items)) c.args.order.now
within c =
    order_within (length (sorts_of c.args.equation.now.vars.items)) c.args.order.now (is_order c)

-- the sorts of the new variables
sorts_said : (c : After-deref-2)
    → sort_numbers c.deref-2.result.now
    ≡ sorts_from c.args.first (sorts_of c.args.equation.now.vars.items) c.args.order.now
sorts_said c =
    ap sort_numbers c.deref-2.ensures.value ∙ c.in_ok-sorts.ensures
    ∙ ap (λ (vs : List VarInfo). sorts_from c.args.first (sorts_of vs) c.args.order.now)
    c.deref.ensures.value

pub quantified-requires-clause-sorts : goal.quantified-requires-clause-sorts
quantified-requires-clause-sorts c =
    let at : After-deref-2 = (goal.at.quantified-requires-clause-sorts c).After-deref-2 in
    subst (AreSorts c.args.cx.now.program.sig) (sym (sorts_said at))
    (sorts_are c.args.cx.now.program.sig c.args.first
    (sorts_of c.args.equation.now.vars.items) c.args.order.now c.requires.equation.1.variables
    (within at))

pub quantified-requires-clause-many : goal.quantified-requires-clause-many
quantified-requires-clause-many c = λ x low.
    let at : After-deref-2 = (goal.at.quantified-requires-clause-many c).After-deref-2 in
    omega (
      arith,
      sorts_many c.args.first (sorts_of c.args.equation.now.vars.items) c.args.order.now x
          (within at) low,
      ap length (sorts_said at),
      length-numbers c.deref-2.result.now,
    )

pub renamed_arguments-requires-clause-numbers : goal.renamed_arguments-requires-clause-numbers
renamed_arguments-requires-clause-numbers c =
    can_rename c.args.cx.now.program.sig (forest c.args.args.now)
    (function_equation c.args.equation.now) c.deref-3.result.now c.requires.equation
    (omega (
      arith,
      ap length c.deref-3.ensures.value,
      c.in_ok-numbers.ensures.long,
      c.len.ensures,
      length-sorts_of c.args.equation.now.vars.items,
    ))

pub renamed_arguments-requires-clause-many : goal.renamed_arguments-requires-clause-many
renamed_arguments-requires-clause-many c =
    as_many_terms c.args.cx.now.program.sig c.args.equation.now.args.items c.args.args.now
    (function_equation c.args.equation.now) refl c.requires.equation

pub body_image-requires-clause-condition : goal.body_image-requires-clause-condition
body_image-requires-clause-condition c =
    subst (λ (program : Program). IsCondition program.sig
    (sorts_of c.args.equation.now.vars.items)
    (option_map plain_pattern c.args.equation.now.cond))
    (sym c.in_ok-given.ensures.grown.program)
    (condition_met c.args.cx.now.program.sig (sorts_of c.args.equation.now.vars.items)
    (plain_patterns c.args.equation.now.args.items) (names_of c.args.equation.now.named.items)
    (option_map plain_pattern c.args.equation.now.cond) c.requires.well_sorted.signature
    c.requires.equation.1.condition)

-- the arguments with the numbers of the guard
are_renamed : (c : After-deref-5)
    → AreRenamed (number_from c.args.first c.args.order.now)
    (names_of c.args.equation.now.named.items) 0 (plain_patterns c.args.equation.now.args.items)
    (forest c.args.args.now) c.in_ok-arguments.arguments.items
are_renamed c =
    are_renamed_as (number_in c.deref-3.result.now) (number_from c.args.first c.args.order.now)
    (names_of c.args.equation.now.named.items) 0 (plain_patterns c.args.equation.now.args.items)
    (forest c.args.args.now) c.in_ok-arguments.arguments.items
    (λ x. ap (λ (ns : List ℕ). number_in ns x) c.deref-3.ensures.value
    ∙ c.in_ok-numbers.ensures.each x) c.in_ok-arguments.ensures

arguments_fit : (c : After-deref-5) → IsOrderOf (length (sorts_of c.args.equation.now.vars.items))
    c.args.order.now
    → All (IsArgument c.args.cx.now.program.sig (sorts_from c.args.first
    (sorts_of c.args.equation.now.vars.items) c.args.order.now))
    c.in_ok-arguments.arguments.items
arguments_fit c is =
    arguments_are c.args.cx.now.program.sig c.args.first c.args.order.now
    (forest c.args.args.now) (function_equation c.args.equation.now)
    c.in_ok-arguments.arguments.items is c.requires.equation (are_renamed c)

pub body_image-requires-clause-arguments : goal.body_image-requires-clause-arguments
body_image-requires-clause-arguments c =
    let at : After-deref-5 = (goal.at.body_image-requires-clause-arguments c).After-deref-5 in
    let before : After-deref-2 =
    (goal.at.body_image-requires-clause-arguments c).After-deref-2 in (
      sorts_from c.args.first (sorts_of c.args.equation.now.vars.items) c.args.order.now,
      omega (
        arith,
        sorts_few c.args.first (sorts_of c.args.equation.now.vars.items) c.args.order.now,
        c.requires.few,
      ),
      subst (λ (xs : List Argument). All (IsArgument c.quantified.new.cx.program.sig
          (sorts_from c.args.first (sorts_of c.args.equation.now.vars.items) c.args.order.now)) xs)
          (sym c.deref-5.ensures.value)
          (subst (λ (program : Program). All (IsArgument program.sig (sorts_from c.args.first
          (sorts_of c.args.equation.now.vars.items) c.args.order.now))
          c.in_ok-arguments.arguments.items) (sym c.in_ok-given.ensures.grown.program)
          (arguments_fit at (is_order before))),
    )

-- the sorts of the new variables, as they are returned
sorts_made : (c : After-deref-2)
    → sort_numbers c.in_ok-sorts.sorts.items
    ≡ sorts_from c.args.first (sorts_of c.args.equation.now.vars.items) c.args.order.now
sorts_made c =
    c.in_ok-sorts.ensures
    ∙ ap (λ (vs : List VarInfo). sorts_from c.args.first (sorts_of vs) c.args.order.now)
    c.deref.ensures.value

-- there is a fact on each variable of an argument
facts_there : (c : After-deref-5) → IsOrderOf (length (sorts_of c.args.equation.now.vars.items))
    c.args.order.now → (i y : ℕ) (a : Argument)
    → slice_get c.in_ok-arguments.arguments.items i ≡ Some a → IsVariableOf a y
    → HasFact c.in_ok-given.given y
facts_there c is i y a there h =
    let w : (x : ℕ) × (x < length c.args.order.now) × (y ≡ c.args.first + x) =
    variables_numbered c.args.cx.now.program.sig c.args.first c.args.order.now
    (forest c.args.args.now) (function_equation c.args.equation.now)
    c.in_ok-arguments.arguments.items i y a is c.requires.equation (are_renamed c) there h in
    subst (HasFact c.in_ok-given.given) (sym w.2) (c.in_ok-given.ensures.facts w.0 w.1)

pub returns-clause-guard : goal.returns-clause-guard
returns-clause-guard c =
    let before : After-deref-2 = (goal.at.returns-clause-guard c).After-deref-2 in
    let at : After-deref-5 = (goal.at.returns-clause-guard c).After-deref-5 in
    let grown : HasGrown c.args.cx.now c.body_image.new.cx =
    grown_twice c.args.cx.now c.quantified.new.cx c.body_image.new.cx c.in_ok-given.ensures.grown
    c.in_ok-body.ensures.grown in
    let met : IsCondition c.body_image.new.cx.program.sig
    (sorts_of c.args.equation.now.vars.items)
    (option_map plain_pattern c.args.equation.now.cond) =
    subst (λ (program : Program). IsCondition program.sig
    (sorts_of c.args.equation.now.vars.items)
    (option_map plain_pattern c.args.equation.now.cond)) (sym grown.program)
    (condition_met c.args.cx.now.program.sig (sorts_of c.args.equation.now.vars.items)
    (plain_patterns c.args.equation.now.args.items) (names_of c.args.equation.now.named.items)
    (option_map plain_pattern c.args.equation.now.cond) c.requires.well_sorted.signature
    c.requires.equation.1.condition) in
    let said : (s : Sentence) × (condition_renamed c.body_image.new.cx.program.sig
    (number_from c.args.first c.args.order.now) (sorts_of c.args.equation.now.vars.items)
    (option_map plain_pattern c.args.equation.now.cond) ≡ Some s) =
    condition_said c.body_image.new.cx.program.sig (number_from c.args.first c.args.order.now)
    (sorts_of c.args.equation.now.vars.items)
    (option_map plain_pattern c.args.equation.now.cond) met in
    let same : number_in c.deref-4.result.now ≡ number_from c.args.first c.args.order.now =
    fun_ext (λ (x : ℕ). ap (λ (ns : List ℕ). number_in ns x) c.deref-4.ensures.value
    ∙ c.in_ok-numbers.ensures.each x) in
    record {
      condition = said.0;
      is_condition = said.1;
      guarded = record {
        well_sorted =
            subst (λ (program : Program). IsWellSorted (theory_of program)) (sym grown.program)
            c.requires.well_sorted;
        no_ac =
            subst (λ (program : Program). IsAcFree program.sig) (sym grown.program)
            c.requires.no_ac;
        sorts =
            subst (AreSorts c.body_image.new.cx.program.sig) (sym (sorts_made before))
            (subst (λ (program : Program). AreSorts program.sig (sorts_from c.args.first
            (sorts_of c.args.equation.now.vars.items) c.args.order.now)) (sym grown.program)
            (sorts_are c.args.cx.now.program.sig c.args.first
            (sorts_of c.args.equation.now.vars.items) c.args.order.now
            c.requires.equation.1.variables (within before)));
        given =
            given_grown c.quantified.new.cx c.body_image.new.cx
            (sort_numbers c.in_ok-sorts.sorts.items) c.in_ok-given.given
            c.in_ok-body.ensures.grown
            (subst (λ (ss : List SortId). IsGiven c.quantified.new.cx (sort_numbers ss)
            c.in_ok-given.given) c.deref-2.ensures.value c.in_ok-given.ensures.given);
        few =
            omega (
              arith,
              ap length (sorts_made before),
              length-numbers c.in_ok-sorts.sorts.items,
              sorts_few c.args.first (sorts_of c.args.equation.now.vars.items) c.args.order.now,
              c.requires.few,
            );
        arguments =
            subst (λ (ss : List ℕ). All (IsArgument c.body_image.new.cx.program.sig ss)
            c.in_ok-arguments.arguments.items) (sym (sorts_made before))
            (subst (λ (program : Program). All (IsArgument program.sig (sorts_from c.args.first
            (sorts_of c.args.equation.now.vars.items) c.args.order.now))
            c.in_ok-arguments.arguments.items) (sym grown.program)
            (arguments_fit at (is_order before)));
        facts = facts_there at (is_order before);
        body =
            ap (λ (xs : List Argument). sentence_image c.body_image.new.cx.program.sig
            c.body_image.new.cx.names (and said.0 (all_in xs))) (sym c.deref-5.ensures.value)
            ∙ c.in_ok-body.ensures.image said.0
            (ap (λ (f : ℕ → ℕ). condition_renamed c.body_image.new.cx.program.sig f
            (sorts_of c.args.equation.now.vars.items)
            (option_map plain_pattern c.args.equation.now.cond)) same ∙ said.1);
      };
      sorts = sorts_made before;
      hypothesis =
          image_grown c.quantified.new.cx c.body_image.new.cx
          (all_sorted (sort_numbers c.in_ok-sorts.sorts.items)
          (down_from c.args.first (length c.args.order.now))) c.in_ok-given.given.hypothesis
          c.in_ok-body.ensures.grown
          (subst (λ (ss : List SortId). sentence_image c.quantified.new.cx.program.sig
          c.quantified.new.cx.names (all_sorted (sort_numbers ss)
          (down_from c.args.first (length c.args.order.now)))
          ≡ Some c.in_ok-given.given.hypothesis) c.deref-2.ensures.value
          c.in_ok-given.ensures.hypothesis);
      arguments = are_renamed at;
    }
