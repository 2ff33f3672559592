use Rattle.std.proofs.Common.{rules, ◌≡◌, ◌++◌, ◌∷◌, [], List, Option, sym, subst}
use Rattle.mm_frame.specs.HypothesesView.{hypotheses_in}
use Rattle.mm_frame.specs.DisjointView.{groups_in}
use Rattle.mm_scope.specs.Sharing.{AreOuter}
use Rattle.mm_scope.specs.declared.common.Common.{Common}
use Rattle.mm_scope.specs.declared.scopes.OpenBlock.{OpenBlock}
use Rattle.mm_scope.proofs.OuterKept.{outer-opened}
use Rattle.mm_scope.proofs.scopes.Scopes.push_block.Goals as goal

pub invariant_of-self-2 : goal.invariant_of-self-2
invariant_of-self-2 c =
    let s = c.args.self.now in
    let ts = s.types.items in
    let hs = hypotheses_in s.hyps in
    let gs = groups_in s.disjoint in
    let b : OpenBlock =
    record {
      at = c.args.at;
      variables = c.len.result;
      hyps = c.len-2.result;
      disjoint = c.len-3.result;
    } in
    let o = c.in_ok-common.common in
    let blocks : c.push.new.self.items ≡ s.blocks.items ++ b ∷ [] = search rules in
    let outer : c.push-2.new.self.items ≡ s.outer.items ++ o ∷ [] = search rules in
    record {
      common_is = s.common_is;
      outer_are =
          subst (λ (bs : List OpenBlock). AreOuter ts hs gs bs c.push-2.new.self.items) (sym blocks)
          (subst (λ (os : List (Option Common)). AreOuter ts hs gs (s.blocks.items ++ b ∷ []) os)
          (sym outer)
          (outer-opened ts hs gs s.blocks.items s.outer.items b o c.len-2.ensures c.len-3.ensures
          c.in_ok-common.ensures s.outer_are));
    }
