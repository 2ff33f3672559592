use Rattle.std.proofs.Common.{[], List, sym, subst, take}
use Rattle.std.proofs.lemmas.List.{take_more}
use Rattle.proof_nodes.specs.Numbering.{SpellsSteps}
use Rattle.proof_nodes.specs.declared.walk.ProofStep.{ProofStep}
use Rattle.proof_nodes.proofs.Placing.{SpellsSteps-push}
use Rattle.proof_nodes.proofs.letters.letters_of.Goals as goal

pub loop-step-preserved : goal.loop-step-preserved
loop-step-preserved c =
    subst (λ (ss : List ProofStep). SpellsSteps c.args.count ss [] c.push_step.new.letters.items)
    (sym (take_more c.args.steps.now c.loop-step.step-index _ c.loop-step-test.true))
    (SpellsSteps-push c.args.count (take c.loop-step.step-index c.args.steps.now) _ []
    c.loop-step.letters.items c.push_step.new.letters.items c.loop-step.invariant
    c.in_ok-push_step.ensures)
