use Rattle.std.proofs.Common.{◌≡◌, ◌∙◌, ap, option_map, slice_get, List}
use Rattle.term_core.specs.Patterns.{application}
use Rattle.term_core.specs.RulePatterns.{plain_pattern}
use Rattle.term_core.specs.PatternLists.{plain_patterns}
use Rattle.term_core.specs.declared.rule_patterns.RulePat.{RulePat}
use Rattle.term_core.proofs.PlainPatterns.{plain-Ctor}
use Rattle.pat_matrix.proofs.PartLaws.{argument_part}
use Rattle.pat_matrix.proofs.Slices.{looked_up}
use Rattle.pat_matrix.proofs.cells.part.Goals as goal

pub returns-in-Ctor : goal.returns-in-Ctor
returns-in-Ctor c =
    let is : plain_pattern c.args.pat.now ≡ application c.in-Ctor.field-0.0
    (plain_patterns c.in-Ctor.args.items) =
    ap plain_pattern c.in-Ctor.is ∙ plain-Ctor _ _ in
    ap (option_map plain_pattern)
    (looked_up _ _ _ c.get.ensures.lookup.0 c.get.ensures.lookup.1
    ∙ ap (λ (ps : List RulePat). slice_get ps c.args.no) c.deref.ensures.value)
    ∙ argument_part _ _ _ _ is
