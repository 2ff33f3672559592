use Rattle.std.proofs.Common.{rules, ◌≡◌, ◌++◌, ◌∷◌, [], ap, subst, ◌∙◌, Option, List, ℕ}
use Rattle.std.specs.Prelude.{Some, IfSome}
use Rattle.mm_database.specs.Frames.{essential}
use Rattle.mm_frame.specs.ExpressionView.{expression_symbols}
use Rattle.mm_frame.specs.HypothesesView.{hypotheses_in}
use Rattle.mm_frame.specs.DisjointView.{groups_in}
use Rattle.mm_scope.specs.Sharing.{IsCommon, ArePairs, groups_at}
use Rattle.mm_scope.specs.declared.common.Common.{Common}
use Rattle.mm_scope.proofs.OuterKept.{placed-before}
use Rattle.mm_scope.proofs.scopes.Scopes.common_with_premise.Goals as goal

pub returns-in_ok-tree-in-None : goal.returns-in_ok-tree-in-None
returns-in_ok-tree-in-None c =
    let s = c.args.self.now in
    let e = essential c.args.label.now (expression_symbols c.args.statement.now.value) in
    record {
      tree =
          λ placed. c.in_ok-tree-in-None.ensures
          (placed-before s.types.items (hypotheses_in s.hyps) (e ∷ []) placed);
      pairs = tt;
    }

pub returns-in_ok-pairs-in-Some : goal.returns-in_ok-pairs-in-Some
returns-in_ok-pairs-in-Some c =
    let s = c.args.self.now in
    let hs = hypotheses_in s.hyps in
    let gs = groups_in s.disjoint in
    let e = essential c.args.label.now (expression_symbols c.args.statement.now.value) in
    let found : s.common ≡ Some c.in-Some.common = search rules in
    let is : IsCommon s.types.items hs gs c.in-Some.common =
    subst (λ (o : Option Common). IfSome o (IsCommon s.types.items hs gs)) found s.common_is in
    record {
      tree =
          λ placed. let before = placed-before s.types.items hs (e ∷ []) placed in
          c.in_ok-tree-in-Some.ensures before (is.tree before);
      pairs =
          subst (λ (ns : List ℕ). IfSome (groups_at c.in_ok-pairs-in-Some.pairs)
          (ArePairs (hs ++ essential c.args.label.now ns ∷ []) gs))
          (c.symbols-in-Some.ensures ∙ ap expression_symbols c.deref-in-Some.ensures)
          (c.in_ok-pairs-in-Some.ensures c.args.label.now is.pairs);
    }
