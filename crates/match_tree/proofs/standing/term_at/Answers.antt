use Rattle.std.proofs.Common.{sym}
use Rattle.std.proofs.lemmas.Option.{get_or_from_slice_get}
use Rattle.match_tree.proofs.Walks.{way_has_child, way_goes_on}
use Rattle.match_tree.proofs.standing.term_at.Goals as goal

pub child-term-requires : goal.child-term-requires
child-term-requires c =
    way_has_child c.loop-i.term.now c.args.position.now c.loop-i.i c.number_at.result _
    c.loop-i-test.true
    (sym (get_or_from_slice_get c.args.position.now _ _ _ c.number_at.ensures))
    c.loop-i.invariant c.requires

pub loop-i-preserved : goal.loop-i-preserved
loop-i-preserved c =
    way_goes_on c.loop-i.term.now _ c.args.position.now c.loop-i.i c.number_at.result _
    c.loop-i-test.true
    (sym (get_or_from_slice_get c.args.position.now _ _ _ c.number_at.ensures))
    c.child-term.ensures c.loop-i.invariant
