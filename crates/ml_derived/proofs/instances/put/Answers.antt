use Rattle.std.proofs.Common.{◌≡◌, Some, None, sym, ◌∙◌}
use Rattle.ml_pat.specs.Patterns.{Pattern}
use Rattle.ml_derived.specs.Instances.{put}
use Rattle.ml_derived.proofs.PutLaws.{some_same, substituted-put}
use Rattle.ml_derived.proofs.instances.put.Goals as goal

none_some : (p : Pattern) → None ≡ Some p → ⊥
none_some p h = cc

pub unreachable-requires : goal.unreachable-requires
unreachable-requires c =
    none_some (put c.args.x.0 c.args.by.now c.args.pat.now) (sym c.in-None.is ∙ c.in_ok-made.ensures
    ∙ substituted-put c.args.x.0 c.args.by.now c.args.pat.now c.requires)

pub returns : goal.returns
returns c =
    some_same c.in-Some.made (put c.args.x.0 c.args.by.now c.args.pat.now)
    (sym c.in-Some.is ∙ c.in_ok-made.ensures
    ∙ substituted-put c.args.x.0 c.args.by.now c.args.pat.now c.requires)
