use Rattle.std.proofs.Common.{refl}
use Rattle.pat_matrix.proofs.GroupLaws.{gains_begun, gains_grown, is_absent, is_present}
use Rattle.pat_matrix.proofs.groups.add.Goals as goal

pub returns-in_ok-push : goal.returns-in_ok-push
returns-in_ok-push c =
    gains_begun c.args.groups.now _ c.args.head c.args.row c.in_ok-vec.field-0 c.requires
    c.in_ok-at.ensures.keys (is_absent _ _ c.in_ok-at.ensures.added c.if-new.true)
    c.in_ok-push.ensures.items c.in_ok-vec.ensures.items

pub returns-in_ok-push-2 : goal.returns-in_ok-push-2
returns-in_ok-push-2 c =
    gains_grown c.args.groups.now _ c.args.head c.args.row c.in_ok-at.at c.index_mut.result.now
    c.push-else-new.new.self c.requires c.in_ok-at.ensures.keys
    (is_present _ _ c.in_ok-at.ensures.added c.if-new.false) c.in_ok-at.ensures.index
    c.in_ok-at.ensures.within c.index_mut.ensures.value c.in_ok-push-2.ensures.items refl
