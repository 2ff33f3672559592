use Rattle.std.proofs.Common.{sym, ◌∙◌}
use Rattle.rule_core.specs.Sorting.{IsSymbol}
use Rattle.term_core.specs.RulePatterns.{sort_numbers}
use Rattle.true_facts.proofs.TokenLaws.{value_there}
use Rattle.true_facts.proofs.HookFactLaws.{hook_is}
use Rattle.true_facts.proofs.hook_facts.hook_at.Goals as goal

pub returns-then-refers_to : goal.returns-then-refers_to
returns-then-refers_to c =
    let there : IsSymbol c.args.sig.now c.in-Some-symbol_of.symbol c.in-Some-value.info.now =
    value_there c.args.sig.now.symbols c.in-Some-symbol_of.symbol c.in-Some-value.info.now
    (sym c.in-Some-value.ensures) in
    hook_is c.args.sig.now c.args.names.now c.args.head.now c.in-Some.number.0
    c.in-Some-symbol_of.symbol c.in-Some-value.info.now c.in-Hooked.hook
    (sort_numbers c.args.sorts.now) c.args.result_sort.0 c.in-Some.ensures
    c.in-Some-symbol_of.ensures there c.in-Hooked.is
    (sym c.deref.ensures.value ∙ c.takes.ensures.0 c.if-takes.true)
    (c.refers_to.ensures.0 c.if-refers_to.true)
