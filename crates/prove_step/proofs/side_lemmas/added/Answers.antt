use Rattle.std.proofs.Common.{◌∙◌}
use Rattle.prove_step.proofs.SideLaws.{added_there}
use Rattle.prove_step.proofs.side_lemmas.added.Goals as goal

pub returns-clause-there : goal.returns-clause-there
returns-clause-there c =
    added_there c.args.cx.now c.add_lemma.new.self c.args.thm c.in_ok-lemma.lemma
    c.in_ok-add_lemma.ensures.ok (c.in_ok-lemma.ensures ∙ c.in_ok-shared.ensures)
