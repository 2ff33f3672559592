use Rattle.std.proofs.Common.{[], sym, subst, arith}
use Rattle.term_core.specs.Patterns.{ground_pattern}
use Rattle.ml_image.specs.HasImages.{HasImage}
use Rattle.ml_image.proofs.ConditionLaws.{HasImage-more}
use Rattle.refute.proofs.supposing.term_image.Goals as goal

pub image-requires : goal.image-requires
image-requires c =
    subst (HasImage c.args.cx.now.program.sig 4294967296) (sym c.in_ok-pat.ensures.tree)
    (HasImage-more c.args.cx.now.program.sig 0 4294967296 (ground_pattern c.args.term.now)
    (omega arith)
    (c.condition_laws.ensures.pattern c.args.cx.now.program.sig []
    (ground_pattern c.args.term.now) c.requires.sorted.0 c.requires.well_sorted.signature
    c.requires.sorted.1))
