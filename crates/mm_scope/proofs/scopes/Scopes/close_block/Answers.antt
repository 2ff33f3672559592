use Rattle.std.proofs.Common.{◌≡◌, ◌++◌, ◌∷◌, [], List, ℕ, take, sym, subst, Option}
use Rattle.std.specs.Prelude.{IfSome}
use Rattle.mm_frame.specs.Numbered.{NumberedHypothesis}
use Rattle.mm_frame.specs.HypothesesView.{hypotheses_in}
use Rattle.mm_frame.specs.DisjointView.{groups_in}
use Rattle.mm_scope.specs.Sharing.{IsCommon, AreOuter}
use Rattle.mm_scope.specs.declared.common.Common.{Common}
use Rattle.mm_scope.specs.declared.scopes.OpenBlock.{OpenBlock}
use Rattle.mm_scope.proofs.OuterKept.{closed-common, closed-outer}
use Rattle.mm_scope.proofs.scopes.Scopes.close_block.Goals as goal

pub invariant_of-self-2 : goal.invariant_of-self-2
invariant_of-self-2 c =
    let s = c.args.self.now in
    let ts = s.types.items in
    let hs = hypotheses_in s.hyps in
    let gs = groups_in s.disjoint in
    let b = c.in_ok-block.block in
    let o = c.in_ok-self.field-0 in
    let front = c.pop.new.self.items in
    let ofront = c.pop-2.new.self.items in
    let are : AreOuter ts hs gs (front ++ b ∷ []) (ofront ++ o ∷ []) =
    subst (λ (bs : List OpenBlock). AreOuter ts hs gs bs (ofront ++ o ∷ []))
    c.in_ok-block.ensures.items
    (subst (λ (os : List (Option Common)). AreOuter ts hs gs s.blocks.items os)
    c.in_ok-self.ensures.items s.outer_are) in
    let cut : hypotheses_in c.truncate-2.new.self ≡ take b.hyps hs = c.truncate-2.ensures in
    let cut' : groups_in c.truncate-3.new.self ≡ take b.disjoint gs = c.truncate-3.ensures in
    record {
      common_is =
          subst (λ (xs : List NumberedHypothesis).
          IfSome o (IsCommon ts xs (groups_in c.truncate-3.new.self))) (sym cut)
          (subst (λ (ys : List (List ℕ)). IfSome o (IsCommon ts (take b.hyps hs) ys)) (sym cut')
          (closed-common ts hs gs front ofront b o are));
      outer_are =
          subst (λ (xs : List NumberedHypothesis).
          AreOuter ts xs (groups_in c.truncate-3.new.self) front ofront) (sym cut)
          (subst (λ (ys : List (List ℕ)). AreOuter ts (take b.hyps hs) ys front ofront) (sym cut')
          (closed-outer ts hs gs front ofront b o are));
    }
