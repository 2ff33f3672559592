use Rattle.std.proofs.Common.{◌<◌, length, sym, subst}
use Rattle.prove_term.specs.Contexts.{Context}
use Rattle.prove_term.proofs.ContextLaws.{grown_none}
use Rattle.prove_step.specs.RuleLemmas.{IsLemmaOf}
use Rattle.prove_step.proofs.ProverLaws.{place_kept, rule_within}
use Rattle.prove_step.proofs.prover.Prover.rule_place.Goals as goal

pub returns-in-Some-clause-place : goal.returns-in-Some-clause-place
returns-in-Some-clause-place c =
    let low : c.args.rule < length c.self.inside.cx.program.rules.items =
    subst (λ (cx : Context). c.args.rule < length cx.program.rules.items) (sym c.self.view_is)
    (rule_within c.args.self.now c.args.self.now c.args.rule (grown_none c.args.self.now)
    c.requires) in
    subst (λ (cx : Context). IsLemmaOf cx c.args.rule c.in-Some.place) c.self.view_is
    (place_kept c.self.inside.cx c.self.inside.rules.items c.args.rule c.in-Some.place
    c.index.result.now c.self.invariant.room low c.self.invariant.rules c.index.ensures
    c.in-Some.is)

pub returns-in-Some-clause-grown : goal.returns-in-Some-clause-grown
returns-in-Some-clause-grown c = grown_none c.args.self.now

pub keep_rule-requires-clause-there : goal.keep_rule-requires-clause-there
keep_rule-requires-clause-there c =
    rule_within c.args.self.now c.new_lemma.new.self c.args.rule c.new_lemma.ensures.grown
    c.requires
