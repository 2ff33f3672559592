use Rattle.std.proofs.Common.{rules, ◌≡◌, ◌∙◌, ◌++◌, ◌∷◌, [], true, ℕ, List, length, ap, subst, sym}
use Rattle.std.specs.Prelude.{IfSome, is_ok}
use Rattle.mm_frame.specs.Numbered.{NumberedHypothesis}
use Rattle.mm_scope.specs.ScopeState.{ScopeState}
use Rattle.mm_scope.specs.StateSteps.{types_with}
use Rattle.mm_frame.specs.PlainFrames.{plain_hypothesis}
use Rattle.mm_frame.specs.HypothesesView.{hypotheses_in}
use Rattle.mm_frame.specs.DisjointView.{groups_in}
use Rattle.mm_scope.specs.Sharing.{IsCommon, AreOuter}
use Rattle.mm_scope.proofs.OuterKept.{outer-hypothesis, where-ok}
use Rattle.mm_scope.proofs.scopes.Scopes.add_hypothesis.Goals as goal

pub invariant_of-self-2 : goal.invariant_of-self-2
invariant_of-self-2 c =
    let s = c.rename.new.self in
    let h = plain_hypothesis c.args.hyp in
    let hs = hypotheses_in s.hyps in
    let gs = groups_in s.disjoint in
    let ts = types_with s.types.items (length hs) h in
    let size : c.len-place.result ≡ length hs =
    c.len-place.ensures
    ∙ ap (λ (d : ScopeState). length d.hypotheses) (sym c.in_ok-rename.ensures.rest) in
    let typed : c.set_type.new.types.items ≡ ts =
    c.set_type.ensures ∙ ap (λ (n : ℕ). types_with s.types.items n h) size in
    let passed : is_ok c.push.result ≡ true = search rules in
    let more : hypotheses_in c.push.new.self ≡ hs ++ h ∷ [] =
    where-ok _ c.push.result passed c.push.ensures in
    record {
      common_is =
          subst (λ (ns : List ℕ).
          IfSome c.in_ok-common.common (IsCommon ns (hypotheses_in c.push.new.self) gs))
          (sym typed)
          (subst
          (λ (xs : List NumberedHypothesis). IfSome c.in_ok-common.common (IsCommon ts xs gs))
          (sym more) c.in_ok-common.ensures);
      outer_are =
          subst (λ (ns : List ℕ).
          AreOuter ns (hypotheses_in c.push.new.self) gs s.blocks.items s.outer.items)
          (sym typed)
          (subst (λ (xs : List NumberedHypothesis). AreOuter ts xs gs s.blocks.items s.outer.items)
          (sym more)
          (outer-hypothesis s.types.items hs h gs s.blocks.items s.outer.items s.outer_are));
    }
