use Rattle.match_tree.proofs.FlatLaws.{grown, is_node-more, node_is_replaced}
use Rattle.match_tree.proofs.laws.node_laws.Goals as goal

pub returns-clause-trees : goal.returns-clause-trees
returns-clause-trees c = grown

pub returns-clause-stay : goal.returns-clause-stay
returns-clause-stay c = is_node-more

pub returns-clause-replaced : goal.returns-clause-replaced
returns-clause-replaced c = node_is_replaced
