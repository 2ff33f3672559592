use Rattle.std.proofs.Common.{rules, arith, ◌≡◌, ◌<◌, subst, length, Option, []}
use Rattle.std.specs.Prelude.{Some, IfSome, filter}
use Rattle.mm_frame.specs.HypothesesView.{hypotheses_in}
use Rattle.mm_frame.specs.DisjointView.{groups_in}
use Rattle.mm_scope.specs.Sharing.{IsCommon, is_wanted_number}
use Rattle.mm_scope.specs.declared.common.Common.{Common}
use Rattle.mm_scope.proofs.CommonSteps.{common-same, common-group}
use Rattle.mm_scope.proofs.scopes.Scopes.common_apart.Goals as goal

pub returns-then-len-lt2 : goal.returns-then-len-lt2
returns-then-len-lt2 c = λ new more.
    let s = c.args.self.now in
    let hs = hypotheses_in s.hyps in
    let gs = groups_in s.disjoint in
    let kept = c.in_ok-wanted-in-Some.field-0.items in
    let found : s.common ≡ Some c.in-Some.common = search rules in
    let is : IsCommon s.types.items hs gs c.in-Some.common =
    subst (λ (o : Option Common). IfSome o (IsCommon s.types.items hs gs)) found s.common_is in
    let was : kept ≡ filter (is_wanted_number hs []) c.args.group.now =
    c.in_ok-wanted-in-Some.ensures in
    let short : length kept < 2 =
    let low = c.if-len-lt2.true in let size = c.len.ensures in omega (arith, low, size) in
    common-group s.types.items hs gs new c.args.group.now kept c.in_ok-share-in-Some.field-0 was
    short more
    (common-same s.types.items hs gs c.in-Some.common c.in_ok-share-in-Some.field-0
    c.in_ok-share-in-Some.ensures.tree c.in_ok-share-in-Some.ensures.pairs is)
