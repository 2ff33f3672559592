use Rattle.std.proofs.Common.{ℕ, [], ◌∷◌, ap, ◌∙◌, sym, List}
use Rattle.ml_pat.specs.Patterns.{Pattern}
use Rattle.ml_kernel.specs.Rules.{Instance}
use Rattle.ml_kernel.specs.StepView.{instances_of}
use Rattle.ml_kernel.specs.declared.rules.Rule.{Rule}
use Rattle.mm_proof.specs.Labels.{own_labels}
use Rattle.mm_proof.specs.Trees.{fresh_tree, pattern_at, trees_after}
use Rattle.mm_proof.specs.declared.works.Goal.TheVariants.{Fresh}
use Rattle.mm_render.proofs.PartLaws.{one_goal}
use Rattle.mm_render.proofs.derivations.put_after.Goals as goal

pub returns-in_ok-push-in-ExEl : goal.returns-in_ok-push-in-ExEl
returns-in_ok-push-in-ExEl c =
    let is : List Instance = instances_of c.args.instances.now in
    let x = c.variable_at.result in
    let p = c.pattern_at.result in
    one_goal (Fresh x p) (λ k at. trees_after (own_labels k) c.args.rule is)
    c.args.stack.now.items c.push.new.self.items
    (λ k at. ap (λ (r : Rule). trees_after (own_labels k) r is) c.in-ExEl.is
    ∙ ap (λ (y : ℕ). fresh_tree (own_labels k) y (pattern_at is 1) ∷ [])
    (sym c.variable_at.ensures)
    ∙ ap (λ (q : Pattern). fresh_tree (own_labels k) x.0 q ∷ []) (sym c.pattern_at.ensures))
    c.in_ok-push-in-ExEl.ensures.items
