use Rattle.std.proofs.Common.{◌≡◌, ◌/◌, arith}
use Rattle.std.proofs.lemmas.Grind.{common_steps}
use Rattle.rule_core.specs.SubsortFields.{word_at}
use Rattle.rule_core.proofs.SortWords.{has_inserted}
use Rattle.rule_core.proofs.sort_sets.insert.Goals as goal

pub returns : goal.returns
returns c y =
    let read : c.index_mut.result.now ≡ word_at c.args.set.now.items (c.args.b.0 / 64) =
    grind (arith, common_steps) in
    has_inserted c.args.set.now.items c.args.b.0 c.index_mut.result.now y c.requires read
