use Rattle.std.proofs.Common.{sym}
use Rattle.mm_frame.specs.PlainFrames.{in_groups}
use Rattle.mm_scope.specs.ScopeState.{scope_state}
use Rattle.mm_check.proofs.ApartLaws.{group_apart}
use Rattle.mm_check.proofs.object_types.all_apart.Goals as goal

pub returns-then-are_together : goal.returns-then-are_together
returns-then-are_together c =
    sym (group_apart (in_groups (scope_state c.args.scopes.now).disjoint) c.args.numbers.now
    (c.are_together.ensures c.if-are_together.true))
