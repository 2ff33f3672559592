use Rattle.std.proofs.Common.{◌≡◌, [], sym, subst}
use Rattle.ml_kernel.specs.Theorems.{Theorem}
use Rattle.rule_core.specs.RecordView.{plain_step}
use Rattle.ml_image.proofs.ImageLaws.{if_ok}
use Rattle.prove_term.specs.Contexts.{Context, HasGrown, StaysIn}
use Rattle.prove_term.proofs.ContextLaws.{grown_twice}
use Rattle.prove_schema.proofs.ScopeLaws.{stays_no_hypotheses}
use Rattle.prove_step.specs.Applying.{IsStepOf}
use Rattle.prove_step.specs.RuleLemmas.{IsRuleLemma}
use Rattle.prove_step.proofs.GrowthLaws.{lemmas_after, lemmas_grown, lemmas_turned}
use Rattle.prove_step.proofs.StepFacts.{step_image, step_later}
use Rattle.prove_step.proofs.SideLaws.{side_lemmas_grown}
use Rattle.prove_step.proofs.ProverLaws.{can_step_at, applied_sides, rule_lemma_later}
use Rattle.prove_step.proofs.prover.Prover.step.Goals as goal

pub rule_lemma-requires : goal.rule_lemma-requires
rule_lemma-requires c = step_image c.args.self.now.program (plain_step c.args.step.now)
    (record {
      well_sorted = c.requires.well_sorted;
      bound = c.requires.bound;
      term = c.requires.follows.0;
      follows = c.requires.follows.1;
    })

pub condition_held-requires-clause-step : goal.condition_held-requires-clause-step
condition_held-requires-clause-step c =
    step_later c.args.self.now c.self.inside.cx (plain_step c.args.step.now)
    (subst (HasGrown c.args.self.now) (sym c.self.view_is) c.rule_lemma.ensures.grown)
    (record {
      well_sorted = c.requires.well_sorted;
      bound = c.requires.bound;
      term = c.requires.follows.0;
      follows = c.requires.follows.1;
    })

pub applied-requires : goal.applied-requires
applied-requires c =
    let s : IsStepOf c.args.self.now.program (plain_step c.args.step.now) =
    record {
      well_sorted = c.requires.well_sorted;
      bound = c.requires.bound;
      term = c.requires.follows.0;
      follows = c.requires.follows.1;
    } in
    let g : HasGrown c.args.self.now c.self.inside.cx =
    subst (HasGrown c.args.self.now) (sym c.self.view_is) c.rule_lemma.ensures.grown in
    let later : IsStepOf c.condition_held.new.cx.program (plain_step c.args.step.now) =
    step_later c.self.inside.cx c.condition_held.new.cx (plain_step c.args.step.now)
    c.in_ok-condition.ensures.grown
    (step_later c.args.self.now c.self.inside.cx (plain_step c.args.step.now) g s) in
    let lemma : IsRuleLemma c.condition_held.new.cx c.args.step.now.rule c.in_ok-lemma.lemma =
    rule_lemma_later c.self.inside.cx c.condition_held.new.cx c.args.step.now.rule
    c.in_ok-lemma.lemma c.in_ok-condition.ensures.grown
    (subst (λ (cx : Context). IsRuleLemma cx c.args.step.now.rule c.in_ok-lemma.lemma)
    (sym c.self.view_is) c.in_ok-lemma.ensures.lemma) in
    can_step_at c.condition_held.new.cx (plain_step c.args.step.now) c.in_ok-lemma.lemma
    c.in_ok-condition.condition later lemma c.in_ok-condition.ensures.says

pub normalized-requires-clause-step : goal.normalized-requires-clause-step
normalized-requires-clause-step c =
    let s : IsStepOf c.args.self.now.program (plain_step c.args.step.now) =
    record {
      well_sorted = c.requires.well_sorted;
      bound = c.requires.bound;
      term = c.requires.follows.0;
      follows = c.requires.follows.1;
    } in
    let g : HasGrown c.args.self.now c.self.inside.cx =
    subst (HasGrown c.args.self.now) (sym c.self.view_is) c.rule_lemma.ensures.grown in
    let later : IsStepOf c.condition_held.new.cx.program (plain_step c.args.step.now) =
    step_later c.self.inside.cx c.condition_held.new.cx (plain_step c.args.step.now)
    c.in_ok-condition.ensures.grown
    (step_later c.args.self.now c.self.inside.cx (plain_step c.args.step.now) g s) in
    step_later c.condition_held.new.cx c.applied.new.cx (plain_step c.args.step.now)
    c.in_ok-written.ensures.grown later

pub normalized-requires-clause-says : goal.normalized-requires-clause-says
normalized-requires-clause-says c =
    let s : IsStepOf c.args.self.now.program (plain_step c.args.step.now) =
    record {
      well_sorted = c.requires.well_sorted;
      bound = c.requires.bound;
      term = c.requires.follows.0;
      follows = c.requires.follows.1;
    } in
    let g : HasGrown c.args.self.now c.self.inside.cx =
    subst (HasGrown c.args.self.now) (sym c.self.view_is) c.rule_lemma.ensures.grown in
    let later : IsStepOf c.condition_held.new.cx.program (plain_step c.args.step.now) =
    step_later c.self.inside.cx c.condition_held.new.cx (plain_step c.args.step.now)
    c.in_ok-condition.ensures.grown
    (step_later c.args.self.now c.self.inside.cx (plain_step c.args.step.now) g s) in
    let lemma : IsRuleLemma c.condition_held.new.cx c.args.step.now.rule c.in_ok-lemma.lemma =
    rule_lemma_later c.self.inside.cx c.condition_held.new.cx c.args.step.now.rule
    c.in_ok-lemma.lemma c.in_ok-condition.ensures.grown
    (subst (λ (cx : Context). IsRuleLemma cx c.args.step.now.rule c.in_ok-lemma.lemma)
    (sym c.self.view_is) c.in_ok-lemma.ensures.lemma) in
    applied_sides c.condition_held.new.cx c.applied.new.cx (plain_step c.args.step.now)
    c.in_ok-lemma.lemma c.in_ok-condition.condition c.in_ok-written.written
    c.in_ok-written.ensures.grown later lemma c.in_ok-condition.ensures.says
    c.in_ok-written.ensures.says

pub normalized-requires-clause-lemmas : goal.normalized-requires-clause-lemmas
normalized-requires-clause-lemmas c =
    side_lemmas_grown c.condition_held.new.cx c.applied.new.cx c.self.inside.sides
    c.applied.ensures.grown
    (side_lemmas_grown c.self.inside.cx c.condition_held.new.cx c.self.inside.sides
    c.condition_held.ensures.grown c.self.invariant.sides)

pub returns-clause-no_hypotheses : goal.returns-clause-no_hypotheses
returns-clause-no_hypotheses c =
    if_ok (StaysIn c.normalized.new.cx) (λ (t : Theorem). t.hypotheses ≡ []) c.normalized.result
    (λ t stays. stays_no_hypotheses c.normalized.new.cx t stays) c.normalized.ensures.stays

pub invariant_of-self : goal.invariant_of-self
invariant_of-self c =
    lemmas_after c.self.inside.cx c.condition_held.new.cx c.self.inside.rules.items
    c.self.inside.kept c.condition_held.new.kept c.self.inside.sides
    c.condition_held.ensures.grown c.self.invariant c.condition_held.ensures.kept

pub invariant_of-self-in_err-written : goal.invariant_of-self-in_err-written
invariant_of-self-in_err-written c =
    lemmas_grown c.condition_held.new.cx c.applied.new.cx c.self.inside.rules.items
    c.condition_held.new.kept c.self.inside.sides c.applied.ensures.grown
    (lemmas_after c.self.inside.cx c.condition_held.new.cx c.self.inside.rules.items
    c.self.inside.kept c.condition_held.new.kept c.self.inside.sides
    c.condition_held.ensures.grown c.self.invariant c.condition_held.ensures.kept)

pub invariant_of-self-2 : goal.invariant_of-self-2
invariant_of-self-2 c =
    let applied : HasGrown c.self.inside.cx c.applied.new.cx =
    grown_twice c.self.inside.cx c.condition_held.new.cx c.applied.new.cx
    c.condition_held.ensures.grown c.applied.ensures.grown in
    lemmas_turned c.self.inside.cx c.normalized.new.cx c.self.inside.rules.items c.self.inside.kept
    c.normalized.new.kept c.self.inside.sides c.normalized.new.lemmas
    (grown_twice c.self.inside.cx c.applied.new.cx c.normalized.new.cx applied
    c.normalized.ensures.grown) c.self.invariant c.normalized.ensures.kept
    c.normalized.ensures.lemmas

pub returns-in_err-written-clause-grown : goal.returns-in_err-written-clause-grown
returns-in_err-written-clause-grown c =
    let g : HasGrown c.args.self.now c.self.inside.cx =
    subst (HasGrown c.args.self.now) (sym c.self.view_is) c.rule_lemma.ensures.grown in
    let first : HasGrown c.args.self.now c.condition_held.new.cx =
    grown_twice c.args.self.now c.self.inside.cx c.condition_held.new.cx g
    c.condition_held.ensures.grown in
    grown_twice c.args.self.now c.condition_held.new.cx c.applied.new.cx first
    c.applied.ensures.grown

pub returns-clause-grown : goal.returns-clause-grown
returns-clause-grown c =
    let g : HasGrown c.args.self.now c.self.inside.cx =
    subst (HasGrown c.args.self.now) (sym c.self.view_is) c.rule_lemma.ensures.grown in
    let first : HasGrown c.args.self.now c.condition_held.new.cx =
    grown_twice c.args.self.now c.self.inside.cx c.condition_held.new.cx g
    c.condition_held.ensures.grown in
    let second : HasGrown c.args.self.now c.applied.new.cx =
    grown_twice c.args.self.now c.condition_held.new.cx c.applied.new.cx first
    c.applied.ensures.grown in
    grown_twice c.args.self.now c.applied.new.cx c.normalized.new.cx second
    c.normalized.ensures.grown
