use Rattle.std.proofs.Common.{ap, ◌∙◌}
use Rattle.term_core.specs.RulePatterns.{plain_pattern}
use Rattle.term_core.specs.PatternLists.{plain_patterns}
use Rattle.term_core.proofs.PlainPatterns.{plain-Ctor}
use Rattle.ml_image.proofs.SideLaws.{symbol_within, symbol_takes}
use Rattle.ml_image.proofs.apart.head_sorts.Goals as goal

pub declaration-requires : goal.declaration-requires
declaration-requires c =
    symbol_within c.args.sig.now (plain_pattern c.args.head.now) c.in-Ctor.symbol.0
    (plain_patterns c.in-Ctor.field-1.items) c.requires
    (ap plain_pattern c.in-Ctor.is ∙ plain-Ctor _ _)

pub returns-in-Ctor : goal.returns-in-Ctor
returns-in-Ctor c =
    symbol_takes _ c.args.sig.now (plain_pattern c.args.head.now) c.in-Ctor.symbol.0
    (plain_patterns c.in-Ctor.field-1.items) c.declaration.result.now c.deref.result.now
    c.named_sorts.result (ap plain_pattern c.in-Ctor.is ∙ plain-Ctor _ _) c.declaration.ensures
    c.deref.ensures.value c.named_sorts.ensures
