use Rattle.std.proofs.Common.{rules, ◌≡◌, true, ℕ, List, subst, sym}
use Rattle.std.specs.Prelude.{is_ok}
use Rattle.mm_frame.specs.Grouping.{Extends}
use Rattle.mm_frame.specs.HypothesesView.{hypotheses_in}
use Rattle.mm_frame.specs.DisjointView.{groups_in}
use Rattle.mm_scope.proofs.OuterKept.{outer-group, where-ok}
use Rattle.mm_scope.proofs.scopes.Scopes.add_disjoint.Goals as goal

pub invariant_of-self-2 : goal.invariant_of-self-2
invariant_of-self-2 c =
    let s = c.args.self.now in
    let hs = hypotheses_in s.hyps in
    let gs = groups_in s.disjoint in
    let new = groups_in c.push.new.self in
    let passed : is_ok c.push.result ≡ true = search rules in
    let more : Extends gs c.args.variables.items new =
    where-ok _ c.push.result passed c.push.ensures in
    record {
      common_is =
          c.in_ok-common.ensures new
          (subst (λ (ns : List ℕ). Extends gs ns new) (sym c.deref.ensures.value) more);
      outer_are =
          outer-group s.types.items hs gs new c.args.variables.items s.blocks.items s.outer.items
          more s.outer_are;
    }
