use Rattle.std.proofs.Common.{rules, ◌≡◌, ◌++◌, ◌∷◌, [], ℕ, List, subst, sym}
use Rattle.std.specs.Prelude.{IfSome}
use Rattle.mm_frame.specs.HypothesesView.{hypotheses_in}
use Rattle.mm_frame.specs.DisjointView.{groups_in}
use Rattle.mm_scope.specs.Sharing.{IsCommon, AreOuter}
use Rattle.mm_scope.proofs.OuterKept.{common-typed, placed-symbol, outer-symbol}
use Rattle.mm_scope.proofs.scopes.Scopes.push_symbol.Goals as goal

pub invariant_of-self-2 : goal.invariant_of-self-2
invariant_of-self-2 c =
    let s = c.args.self.now in
    let ts = s.types.items in
    let hs = hypotheses_in s.hyps in
    let gs = groups_in s.disjoint in
    let more : c.push-2.new.self.items ≡ ts ++ 0 ∷ [] = search rules in
    record {
      common_is =
          subst (λ (ns : List ℕ). IfSome s.common (IsCommon ns hs gs)) (sym more)
          (common-typed ts (ts ++ 0 ∷ []) hs gs s.common (placed-symbol ts hs) s.common_is);
      outer_are =
          subst (λ (ns : List ℕ). AreOuter ns hs gs s.blocks.items s.outer.items) (sym more)
          (outer-symbol ts hs gs s.blocks.items s.outer.items s.outer_are);
    }
