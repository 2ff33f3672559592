use Rattle.std.proofs.Common.{◌≡◌, ◌∷◌, ◌++◌, [], ap, ◌∙◌, rules}
use Rattle.ml_kernel.specs.Theorems.{Theorem}
use Rattle.prove_term.proofs.KeptInside.{kept_learns}
use Rattle.prove_term.proofs.context.Cx.add_lemma.Goals as goal

pub invariant_of-self-2 : goal.invariant_of-self-2
invariant_of-self-2 c =
    let same : c.in_ok-lemma.lemma ≡ c.args.thm = c.in_ok-lemma.ensures ∙ c.in_ok-share.ensures in
    let lemmas : c.push-2.new.self.items ≡ c.self.inside.lemmas.items ++ c.in_ok-lemma.lemma ∷ [] =
    search rules in
    let theorems : c.push.new.self.items ≡ c.self.inside.theorems.items ++ c.args.thm ∷ [] =
    search rules in
    kept_learns c.self.inside c.args.self.now c.args.thm c.push-2.new.self c.push.new.self
    c.self.view_is c.self.invariant c.requires
    (lemmas ∙ ap (λ (t : Theorem). c.self.inside.lemmas.items ++ t ∷ []) same) theorems
