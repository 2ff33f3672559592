use Rattle.std.proofs.Common.{◌≡◌, length, ap, ◌∙◌, sym, arith}
use Rattle.term_core.specs.Patterns.{application}
use Rattle.term_core.specs.PatternLists.{plain_patterns}
use Rattle.term_core.specs.RulePatterns.{plain_pattern}
use Rattle.term_core.proofs.PlainPatterns.{plain-Ctor}
use Rattle.ml_image.specs.Sides.{numbered}
use Rattle.prove_open.specs.FactSides.{head_form}
use Rattle.prove_open.proofs.FactsTaken.{count_plain}
use Rattle.prove_open.proofs.fact_sides.head_of.Goals as goal

pub returns-in_ok-variables-in-Ctor : goal.returns-in_ok-variables-in-Ctor
returns-in_ok-variables-in-Ctor c =
    let is : plain_pattern c.args.pat.now
    ≡ application c.in-Ctor.symbol.0 (plain_patterns c.in-Ctor.args.items) =
    ap plain_pattern c.in-Ctor.is ∙ plain-Ctor _ _ in
    let many : c.len.result ≡ length c.in-Ctor.args.items = omega (arith, c.len.ensures) in
    plain-Ctor _ _
    ∙ ap (application c.in-Ctor.symbol.0)
    (c.in_ok-variables-in-Ctor.ensures
    ∙ ap (numbered c.args.k) (many ∙ sym (count_plain c.in-Ctor.args.items)))
    ∙ ap (head_form c.args.k) (sym is)
