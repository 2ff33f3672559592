use Rattle.std.proofs.Common.{◌≡◌, ◌++◌, ◌∷◌, [], List, ℕ, sym, subst, take, get_or, ◌+◌}
use Rattle.std.proofs.lemmas.List.{take_more}
use Rattle.proof_nodes.specs.Walking.{labels_of}
use Rattle.proof_nodes.specs.Numbering.{AreAmong, AreNew, ArePlaced}
use Rattle.proof_nodes.specs.declared.walk.ProofStep.{ProofStep}
use Rattle.proof_nodes.specs.declared.walk.ProofStep.TheVariants.{Cites}
use Rattle.proof_nodes.proofs.Placing.{listed_more, placed_more}
use Rattle.proof_nodes.proofs.letters.placed_steps.Goals as goal

pub loop-step-preserved : goal.loop-step-preserved
loop-step-preserved c =
    let table = c.loop-step.numbering.table.items in
    let new = c.placed_step.new.numbering.table.items in
    let step : ProofStep = get_or c.args.steps.now c.loop-step.step-index (Cites 0) in
    let before : List ProofStep = take c.loop-step.step-index c.args.steps.now in
    let more : take (c.loop-step.step-index + 1) c.args.steps.now ≡ before ++ step ∷ [] =
    take_more c.args.steps.now c.loop-step.step-index (Cites 0) c.loop-step-test.true in (
      c.in_ok-placed_step.ensures.places,
      subst (λ (ss : List ProofStep). ArePlaced c.placed_step.new.numbering.table.items ss
          c.push.new.self.items) (sym more)
          (subst (λ (ps : List ProofStep). ArePlaced c.placed_step.new.numbering.table.items
          (before ++ step ∷ []) ps)
          (sym c.in_ok-push.ensures.items)
          (placed_more table new before c.loop-step.placed.items step
          c.in_ok-placed_step.field-0 c.loop-step.invariant.1
          c.in_ok-placed_step.ensures.listed c.in_ok-placed_step.ensures.step)),
      subst (λ (ss : List ProofStep). (listed : List ℕ)
          × (c.placed_step.new.numbering.table.items ≡ c.args.numbering.now.table.items ++ listed)
          × AreNew c.args.numbering.now.table.items listed × AreAmong (labels_of ss) listed)
          (sym more)
          (listed_more c.args.numbering.now.table.items table new before step
          c.loop-step.invariant.2 c.in_ok-placed_step.ensures.listed),
    )
