use Rattle.std.proofs.Common.{rules, ◌≡◌, false, subst, Option}
use Rattle.std.specs.Prelude.{Some, IfSome}
use Rattle.std.specs.List.{list_any}
use Rattle.mm_frame.specs.HypothesesView.{hypotheses_in}
use Rattle.mm_frame.specs.DisjointView.{groups_in}
use Rattle.mm_frame.specs.NeededNumbers.{number_stands_in}
use Rattle.mm_scope.specs.Sharing.{IsCommon}
use Rattle.mm_scope.specs.declared.common.Common.{Common}
use Rattle.mm_scope.proofs.CommonSteps.{common-same, common-floating}
use Rattle.mm_scope.proofs.scopes.Scopes.common_with_type.Goals as goal

pub returns-in_ok-share-in-Some : goal.returns-in_ok-share-in-Some
returns-in_ok-share-in-Some c = λ l k.
    let s = c.args.self.now in
    let hs = hypotheses_in s.hyps in
    let gs = groups_in s.disjoint in
    let found : s.common ≡ Some c.in-Some.common = search rules in
    let is : IsCommon s.types.items hs gs c.in-Some.common =
    subst (λ (o : Option Common). IfSome o (IsCommon s.types.items hs gs)) found s.common_is in
    let free : list_any (number_stands_in c.args.variable) hs ≡ false = search rules in
    common-floating s.types.items hs gs l k c.args.variable c.in_ok-share-in-Some.field-0 free
    (common-same s.types.items hs gs c.in-Some.common c.in_ok-share-in-Some.field-0
    c.in_ok-share-in-Some.ensures.tree c.in_ok-share-in-Some.ensures.pairs is)
