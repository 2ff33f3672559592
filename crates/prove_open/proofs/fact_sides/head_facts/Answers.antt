use Rattle.std.proofs.Common.{◌≡◌, ap, ◌∙◌, sym, subst}
use Rattle.term_core.specs.Patterns.{application}
use Rattle.term_core.specs.PatternLists.{plain_patterns}
use Rattle.term_core.specs.RulePatterns.{plain_pattern, sort_numbers}
use Rattle.term_core.proofs.PlainPatterns.{plain-Ctor}
use Rattle.prove_term.proofs.ResultLaws.{if_ok}
use Rattle.prove_open.specs.Elements.{HasElement, HaveElements}
use Rattle.prove_open.proofs.CoverLaws.{covered_arguments, have_elements}
use Rattle.prove_open.proofs.FactParts.{constructor_facts}
use Rattle.prove_open.proofs.fact_sides.head_facts.Goals as goal

pub all_elements-requires-clause-covered : goal.all_elements-requires-clause-covered
all_elements-requires-clause-covered c =
    let is : plain_pattern c.args.pat.now
    ≡ application c.in-Ctor.field-0.0 (plain_patterns c.in-Ctor.args.items) =
    ap plain_pattern c.in-Ctor.is ∙ plain-Ctor _ _ in
    let e : HasElement c.args.cx.now.program.sig (sort_numbers c.args.sorts.now)
    c.args.given.now (application c.in-Ctor.field-0.0 (plain_patterns c.in-Ctor.args.items)) =
    subst (HasElement c.args.cx.now.program.sig (sort_numbers c.args.sorts.now)
    c.args.given.now) is c.requires.covered in
    subst (HaveElements c.args.cx.now.program.sig (sort_numbers c.args.sorts.now)
    c.args.given.now) (sym c.deref.ensures.value)
    (have_elements c.args.cx.now.program.sig (sort_numbers c.args.sorts.now) c.args.given.now
    c.in-Ctor.args.items e.1.sorted.0.args.items
    (covered_arguments c.args.cx.now.program.sig (sort_numbers c.args.sorts.now)
    c.args.given.now c.in-Ctor.field-0.0 (plain_patterns c.in-Ctor.args.items) e.0 e.1))

pub returns-in-Ctor-clause-have : goal.returns-in-Ctor-clause-have
returns-in-Ctor-clause-have c =
    if_ok c.all_elements.result
    (λ v are. constructor_facts c.all_elements.new.cx (sort_numbers c.args.sorts.now)
    c.args.given.now (plain_pattern c.args.pat.now) c.in-Ctor.field-0.0 c.in-Ctor.args.items
    c.deref.result.now v.items (ap plain_pattern c.in-Ctor.is ∙ plain-Ctor _ _)
    c.deref.ensures.value are)
    c.all_elements.ensures.are
