use Rattle.std.proofs.Common.{◌≡◌, ◌∙◌, ap, sym, arith}
use Rattle.term_core.specs.Patterns.{application}
use Rattle.term_core.specs.RulePatterns.{plain_pattern}
use Rattle.term_core.specs.PatternLists.{plain_patterns}
use Rattle.term_core.proofs.PlainPatterns.{plain-Ctor}
use Rattle.pat_matrix.proofs.PartLaws.{constructor_root}
use Rattle.pat_matrix.proofs.heads.takes_root.Goals as goal

pub returns-then-eq-2-clause-takes : goal.returns-then-eq-2-clause-takes
returns-then-eq-2-clause-takes g c =
    let is : plain_pattern c.args.pat.now ≡ application c.in-Ctor-pat.own.0
    (plain_patterns c.in-Ctor-pat.args.items) =
    ap plain_pattern c.in-Ctor-pat.is ∙ plain-Ctor _ _ in
    constructor_root c.args.subsorts.now _ c.args.term.now _ _ c.in-Ctor-pat.args.items _ _ is
    c.in-Ctor.ensures.shows.0 c.in-Ctor.ensures.shows.1
    (sym c.eq-in-Ctor-pat.ensures ∙ c.if-eq-2.true) (omega arith)
