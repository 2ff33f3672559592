use Rattle.std.proofs.Common.{◌≡◌, List, ℕ, Some, map, sym, subst}
use Rattle.rule_core.specs.Sorting.{IsSymbol}
use Rattle.rule_core.specs.declared.signature.SortRef.{SortRef}
use Rattle.term_core.specs.RulePatterns.{sort_numbers}
use Rattle.ml_image.specs.OwnAxioms.{sort_numbered}
use Rattle.true_facts.specs.Only.{IsOnly}
use Rattle.true_facts.specs.Constructors.{sorts_found}
use Rattle.true_facts.proofs.TokenLaws.{value_there}
use Rattle.true_facts.proofs.OnlyLaws.{only_at}
use Rattle.true_facts.proofs.ConstructorLaws.{declaration_is}
use Rattle.true_facts.proofs.constructors.declaration.Goals as goal

pub returns : goal.returns
returns c =
    let there : IsSymbol c.args.sig.now c.args.symbol c.in-Some.info.now =
    value_there c.args.sig.now.symbols c.args.symbol c.in-Some.info.now (sym c.in-Some.ensures) in
    declaration_is c.args.sig.now c.args.symbol c.in-Some.info.now c.in-Sort.sort
    (sort_numbers c.in-Some-2.args.items) there c.in-Ctor.is c.if-info.false c.in-Sort.is
    (only_at (λ (ss : List ℕ). c.in-Some.info.now.args.items ≡ map sort_numbered ss) sorts_found
    c.in_ok-args.field-0 (Some c.in-Some-2.args) c.in-Some-2.is
    (subst (λ (refs : List SortRef).
    IsOnly (λ (ss : List ℕ). refs ≡ map sort_numbered ss) (sorts_found c.in_ok-args.field-0))
    c.deref.ensures.value c.in_ok-args.ensures))
