use Rattle.std.proofs.Common.{◌≡◌, IfOk, length, sym, subst, rules}
use Rattle.ml_pat.specs.Patterns.{Pattern}
use Rattle.ml_kernel.proofs.InstanceLaws.{instance-empty}
use Rattle.ml_kernel.proofs.instances.instance.Goals as goal

pub returns-then-is_empty : goal.returns-then-is_empty
returns-then-is_empty c =
    let none : length c.args.metas.now ≡ 0 = search rules in
    subst (λ (q : Pattern). IfOk c.share.result (λ made. made ≡ q))
    (sym (instance-empty c.args.metas.now c.args.pat.now none c.requires)) c.share.ensures
