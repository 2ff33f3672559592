use Rattle.std.proofs.Common.{◌≡◌, ◌∙◌, List, ℕ, subst}
use Rattle.term_core.specs.RulePatterns.{plain_pattern}
use Rattle.rule_core.specs.ProgramView.{theory_of}
use Rattle.drill_gen.specs.Drill.{drill_definition, drill_term}
use Rattle.kore_rules.specs.Acceptance.{IsAccepted}
use Rattle.kore_rules.specs.Refused.{IsRefused, IsRefusedTerm}
use Rattle.kore_rules.specs.RefusedTexts.{RefusesFor, top_of}
use Rattle.kore_prove.proofs.Drills.{few_bytes, texts_accepted, refused_for_none}
use Rattle.kore_prove.proofs.drilling.accepted_drill.Goals as goal

pub accept-requires : goal.accept-requires
accept-requires c =
    rw (c.deref.ensures.value, c.in_ok-texts.ensures.definition)
    (few_bytes _ (c.drill_laws.ensures.short c.args.steps c.requires).definition)

pub out_of_memory-requires : goal.out_of_memory-requires
out_of_memory-requires c =
    let is : c.deref.result.now ≡ drill_definition c.args.steps =
    c.deref.ensures.value ∙ c.in_ok-texts.ensures.definition in
    refused_for_none (IsRefused (drill_definition c.args.steps)) c.in-Err.refusal
    (λ f. c.drill_acceptance_laws.ensures.unrefused c.args.steps f c.requires)
    (subst (λ (bytes : List ℕ). RefusesFor (IsRefused bytes) c.in-Err.refusal) is
    c.in-Err.ensures.refused)

pub out_of_memory-requires-in-Err-accept_term : goal.out_of_memory-requires-in-Err-accept_term
out_of_memory-requires-in-Err-accept_term c =
    let theory = theory_of c.in-Ok.program in
    let top = top_of c.in-Ok.program in
    let is : c.deref.result.now ≡ drill_definition c.args.steps =
    c.deref.ensures.value ∙ c.in_ok-texts.ensures.definition in
    let is_term : c.deref-2.result.now ≡ drill_term =
    c.deref-2.ensures.value ∙ c.in_ok-texts.ensures.term in
    refused_for_none (IsRefusedTerm theory.sig top drill_term) c.in-Err-accept_term.refusal
    (λ f. c.drill_acceptance_laws.ensures.unrefused_term c.args.steps theory top f c.requires
    (subst (λ (bytes : List ℕ). IsAccepted bytes theory top) is c.in-Ok.ensures.accepted))
    (subst (λ (bytes : List ℕ). RefusesFor (IsRefusedTerm theory.sig top bytes)
    c.in-Err-accept_term.refusal) is_term c.in-Err-accept_term.ensures.refused)

pub returns-in-Ok-accept_term-clause-program : goal.returns-in-Ok-accept_term-clause-program
returns-in-Ok-accept_term-clause-program c =
    let is : c.deref.result.now ≡ drill_definition c.args.steps =
    c.deref.ensures.value ∙ c.in_ok-texts.ensures.definition in
    let is_term : c.deref-2.result.now ≡ drill_term =
    c.deref-2.ensures.value ∙ c.in_ok-texts.ensures.term in
    texts_accepted c.args.steps c.deref.result.now c.deref-2.result.now (theory_of c.in-Ok.program)
    (top_of c.in-Ok.program) (plain_pattern c.in-Ok-accept_term.start) is is_term
    c.in-Ok.ensures.accepted c.in-Ok-accept_term.ensures.accepted
