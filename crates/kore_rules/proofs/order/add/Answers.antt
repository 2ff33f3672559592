use Rattle.std.proofs.Common.{◌∙◌, sym}
use Rattle.kore_rules.proofs.ListedLaws.{listed_set}
use Rattle.kore_rules.proofs.order.add.Goals as goal

pub returns-clause-listed : goal.returns-clause-listed
returns-clause-listed c =
    listed_set c.args.lists.now.items c.args.equation.fun.0 c.index_mut-list.result.now
    c.push.new.self c.args.equation c.requires c.index_mut-list.ensures.value
    c.in_ok-push.ensures.items
