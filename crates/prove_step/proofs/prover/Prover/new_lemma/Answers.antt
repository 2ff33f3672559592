use Rattle.std.proofs.Common.{length, ℕ, refl, sym, ap, subst}
use Rattle.prove_term.specs.Contexts.{Context, HasGrown}
use Rattle.prove_term.specs.RuleAxioms.{HasImageAt}
use Rattle.prove_term.proofs.ContextLaws.{grown_twice}
use Rattle.prove_step.specs.RuleLemmas.{IsLemmaOf}
use Rattle.prove_step.proofs.GrowthLaws.{lemmas_grown}
use Rattle.prove_step.proofs.ProverLaws.{lemma_placed, grown_to, grown_same}
use Rattle.prove_step.proofs.prover.Prover.new_lemma.Goals as goal

pub rule_schema-requires : goal.rule_schema-requires
rule_schema-requires c =
    subst (λ (cx : Context). HasImageAt cx.program c.args.rule) (sym c.self.view_is) c.requires

pub invariant_of-self : goal.invariant_of-self
invariant_of-self c =
    lemmas_grown c.self.inside.cx c.rule_schema.new.cx c.self.inside.rules.items c.self.inside.kept
    c.self.inside.sides c.rule_schema.ensures.grown c.self.invariant

pub invariant_of-self-in_err-add_lemma : goal.invariant_of-self-in_err-add_lemma
invariant_of-self-in_err-add_lemma c =
    let grown : HasGrown c.self.inside.cx c.add_lemma.new.self =
    grown_twice c.self.inside.cx c.rule_schema.new.cx c.add_lemma.new.self
    c.rule_schema.ensures.grown
    (grown_same c.rule_schema.new.cx c.add_lemma.new.self c.in_err-add_lemma.ensures.err) in
    lemmas_grown c.self.inside.cx c.add_lemma.new.self c.self.inside.rules.items c.self.inside.kept
    c.self.inside.sides grown c.self.invariant

pub invariant_of-self-2 : goal.invariant_of-self-2
invariant_of-self-2 c =
    let grown : HasGrown c.self.inside.cx c.add_lemma.new.self =
    grown_twice c.self.inside.cx c.rule_schema.new.cx c.add_lemma.new.self
    c.rule_schema.ensures.grown (grown_to c.rule_schema.new.cx c.add_lemma.new.self
    c.in_ok-schema.schema c.in_ok-add_lemma.ensures.ok) in
    lemmas_grown c.self.inside.cx c.add_lemma.new.self c.self.inside.rules.items c.self.inside.kept
    c.self.inside.sides grown c.self.invariant

pub returns-clause-place : goal.returns-clause-place
returns-clause-place c =
    let there : IsLemmaOf c.add_lemma.new.self c.args.rule (length c.rule_schema.new.cx.lemmas) =
    lemma_placed c.rule_schema.new.cx c.add_lemma.new.self c.args.rule c.in_ok-schema.schema
    c.in_ok-schema.schema refl c.in_ok-add_lemma.ensures.ok c.in_ok-schema.ensures.says in
    subst (λ (n : ℕ). IsLemmaOf c.add_lemma.new.self c.args.rule n)
    (sym (ap length c.lemmas-place.ensures)) there
