use Rattle.std.proofs.Common.{◌≡◌, ◌<◌, length, ◌∙◌, ap, subst, arith}
use Rattle.std.specs.Prelude.{IsSome}
use Rattle.term_core.specs.Patterns.{Pattern, application}
use Rattle.term_core.specs.PatternLists.{plain_patterns}
use Rattle.term_core.specs.RulePatterns.{plain_pattern}
use Rattle.term_core.proofs.PlainPatterns.{plain-Ctor}
use Rattle.rule_core.specs.NamedParts.{parts, pattern_at}
use Rattle.rule_core.proofs.NamingLaws.{within_list, at_in_list}
use Rattle.rule_core.proofs.naming.child.Goals as goal

pub index-requires : goal.index-requires
index-requires c =
    let is : plain_pattern c.args.pat.now ≡ application c.in-Ctor.field-0.0
    (plain_patterns c.in-Ctor.args.items) =
    ap plain_pattern c.in-Ctor.is ∙ plain-Ctor c.in-Ctor.field-0 c.in-Ctor.args in
    let low : c.args.number < length c.in-Ctor.args.items =
    within_list c.in-Ctor.args.items c.args.number
    (subst (λ (p : Pattern). IsSome (pattern_at (parts p) c.args.number)) is c.requires) in
    omega (arith, low, c.in-Ctor.args.ok)

pub returns-in-Ctor : goal.returns-in-Ctor
returns-in-Ctor c =
    let is : plain_pattern c.args.pat.now ≡ application c.in-Ctor.field-0.0
    (plain_patterns c.in-Ctor.args.items) =
    ap plain_pattern c.in-Ctor.is ∙ plain-Ctor c.in-Ctor.field-0 c.in-Ctor.args in
    ap (λ (p : Pattern). pattern_at (parts p) c.args.number) is
    ∙ at_in_list c.in-Ctor.args.items c.args.number c.index.result.now
    (within_list c.in-Ctor.args.items c.args.number
    (subst (λ (p : Pattern). IsSome (pattern_at (parts p) c.args.number)) is c.requires))
    c.index.ensures
