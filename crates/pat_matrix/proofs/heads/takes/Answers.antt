use Rattle.std.proofs.Common.{◌≡◌, ◌∙◌, ap, sym, arith}
use Rattle.term_core.specs.Patterns.{application}
use Rattle.term_core.specs.RulePatterns.{plain_pattern}
use Rattle.term_core.specs.PatternLists.{plain_patterns}
use Rattle.term_core.proofs.PlainPatterns.{plain-Ctor}
use Rattle.pat_matrix.specs.Heads.{of_constructor}
use Rattle.pat_matrix.specs.HeadView.{head_of}
use Rattle.pat_matrix.proofs.PartLaws.{constructor_takes}
use Rattle.pat_matrix.proofs.heads.takes.Goals as goal

pub returns-then-eq : goal.returns-then-eq
returns-then-eq c =
    let is : plain_pattern c.args.pat.now ≡ application c.in-Ctor.sym.0
    (plain_patterns c.in-Ctor.args.items) =
    ap plain_pattern c.in-Ctor.is ∙ plain-Ctor _ _ in
    let own : head_of c.args.head.now ≡ of_constructor c.in-Ctor-head.own.0 c.in-Ctor-head.count =
    ap head_of c.in-Ctor-head.is in
    constructor_takes c.args.subsorts.now _ c.args.head.now _ _ c.in-Ctor.args.items _ _ is own
    (sym c.eq.ensures ∙ c.if-eq.true) (omega arith)
