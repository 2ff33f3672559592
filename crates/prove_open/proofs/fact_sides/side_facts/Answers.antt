use Rattle.std.proofs.Common.{rules, ◌≡◌, [], ◌∷◌, ap, ◌∙◌, sym}
use Rattle.term_core.specs.Patterns.{injection}
use Rattle.term_core.specs.RulePatterns.{plain_pattern, sort_numbers}
use Rattle.term_core.proofs.PlainPatterns.{plain-Inj}
use Rattle.prove_open.proofs.FactParts.{one_fact}
use Rattle.prove_open.proofs.fact_sides.side_facts.Goals as goal

pub returns-in_ok-vec-in-Inj-clause-have : goal.returns-in_ok-vec-in-Inj-clause-have
returns-in_ok-vec-in-Inj-clause-have c =
    let is : plain_pattern c.args.pat.now
    ≡ injection c.in-Inj.field-0.0 c.in-Inj.field-1.0 (plain_pattern c.in-Inj.below.value) =
    ap plain_pattern c.in-Inj.is ∙ plain-Inj _ _ _ in
    let same : plain_pattern c.deref-in-Inj.result.now ≡ plain_pattern c.in-Inj.below.value =
    search rules in
    let items : c.in_ok-vec-in-Inj.field-0.items ≡ c.in_ok-fact-in-Inj.fact ∷ [] = search rules in
    one_fact c.element.new.cx (sort_numbers c.args.sorts.now) c.args.given.now
    (plain_pattern c.args.pat.now) c.deref-in-Inj.result.now c.in-Inj.field-0.0
    c.in-Inj.field-1.0 c.args.deep c.in_ok-vec-in-Inj.field-0.items c.in_ok-fact-in-Inj.fact
    (is ∙ ap (injection c.in-Inj.field-0.0 c.in-Inj.field-1.0) (sym same)) c.if-deep.false items
    c.in_ok-fact-in-Inj.ensures.is
