use Rattle.std.proofs.Common.{◌≡◌, ℕ, List, Some, map, ap, sym, ◌∙◌, subst}
use Rattle.term_core.specs.Terms.{DomainValue}
use Rattle.term_core.specs.Values.{value_of, scalar_value}
use Rattle.term_core.specs.RulePatterns.{sort_numbers}
use Rattle.rule_core.specs.declared.signature.SymInfo.{SymInfo}
use Rattle.ml_image.specs.Tokens.{token_of_value, number_in_names}
use Rattle.ml_image.specs.Images.{applied}
use Rattle.ml_image.specs.OwnAxioms.{sort_numbered}
use Rattle.ml_image.specs.TrueFacts.{HaveValues, value_patterns}
use Rattle.ml_image.proofs.ImageLaws.{gained_twice, gained-symbol}
use Rattle.ml_image.proofs.ConstructorLaws.{read_sorts, one_sort}
use Rattle.ml_image.proofs.SentenceLaws.{hook_said, one_symbol}
use Rattle.ml_image.proofs.HookLaws.{ok_same}
use Rattle.ml_image.proofs.facts.hook_fact.Goals as goal

pub at_values-requires : goal.at_values-requires
at_values-requires c =
    let takes : c.declaration-info.result.now.args.items ≡ map sort_numbered
    (sort_numbers c.in_ok-sorts.sorts.items) =
    sym c.deref.ensures.value ∙ c.in_ok-sorts.ensures in
    let read : c.requires.1.sorts ≡ sort_numbers c.in_ok-sorts.sorts.items =
    read_sorts c.args.sig.now c.args.symbol.0 c.requires.1.info c.declaration-info.result.now
    c.requires.1.sorts (sort_numbers c.in_ok-sorts.sorts.items) c.requires.1.sort
    c.requires.1.declared c.declaration-info.ensures takes in
    let whole : c.requires.1.sorts ≡ sort_numbers c.deref-2.result.now =
    read ∙ ap sort_numbers (sym c.deref-2.ensures.value) in
    subst (λ (ss : List ℕ). HaveValues c.args.sig.now ss (map scalar_value c.args.args.now)) whole
    c.requires.1.arguments

pub returns-clause-image : goal.returns-clause-image
returns-clause-image c =
    let takes : c.declaration-info.result.now.args.items ≡ map sort_numbered
    (sort_numbers c.in_ok-sorts.sorts.items) =
    sym c.deref.ensures.value ∙ c.in_ok-sorts.ensures in
    let read : c.requires.1.sorts ≡ sort_numbers c.in_ok-sorts.sorts.items =
    read_sorts c.args.sig.now c.args.symbol.0 c.requires.1.info c.declaration-info.result.now
    c.requires.1.sorts (sort_numbers c.in_ok-sorts.sorts.items) c.requires.1.sort
    c.requires.1.declared c.declaration-info.ensures takes in
    let whole : c.requires.1.sorts ≡ sort_numbers c.deref-2.result.now =
    read ∙ ap sort_numbers (sym c.deref-2.ensures.value) in
    let same : c.requires.1.info ≡ c.declaration-info.result.now =
    one_symbol c.args.sig.now c.args.symbol.0 c.requires.1.info c.declaration-info.result.now
    c.requires.1.declared.there c.declaration-info.ensures in
    let sort : c.requires.1.sort ≡ c.result_sort.result.0 =
    one_sort c.requires.1.sort c.result_sort.result.0 (sym c.requires.1.declared.makes
    ∙ ap (λ (i : SymInfo). i.result) same ∙ c.result_sort.ensures) in
    let value : c.requires.1.value ≡ value_of c.value-value.result =
    ok_same _ _ (sym c.requires.1.answers
    ∙ c.hook_answer.ensures c.requires.1.row
    (ap (λ (i : SymInfo). i.kind) (sym same) ∙ c.requires.1.hooked))
    ∙ sym c.value-value.ensures in
    hook_said c.args.sig.now c.at_values.new.names c.value_number.new.names c.args.symbol.0
    (map scalar_value c.args.args.now) c.requires.0 c.requires.1 c.in_ok-head.head
    c.in_ok-call.call c.in_ok-constant.field-0 c.in_ok-number.number.0 c.equal.result
    c.value_number.ensures.names
    (gained-symbol c.args.sig.now _ _ _ c.at_values.ensures.names _ c.in_ok-head.ensures.image)
    (subst (λ (ss : List ℕ). applied c.args.sig.now c.at_values.new.names (Some c.in_ok-head.head)
    (value_patterns ss (map scalar_value c.args.args.now)) ≡ Some c.in_ok-call.call)
    (sym whole) c.in_ok-call.ensures.image)
    (ap (λ (s : ℕ). number_in_names c.value_number.new.names
    (token_of_value c.args.sig.now s c.requires.1.value)) sort
    ∙ ap (λ (v : DomainValue). number_in_names c.value_number.new.names
    (token_of_value c.args.sig.now c.result_sort.result.0 v)) value
    ∙ c.in_ok-number.ensures.number)
    c.in_ok-constant.ensures c.equal.ensures

pub returns-clause-names : goal.returns-clause-names
returns-clause-names c =
    gained_twice _ _ _ _ c.head_image.ensures.names
    (gained_twice _ _ _ _ c.at_values.ensures.names c.value_number.ensures.names)
