use Rattle.std.proofs.Common.{Some}
use Rattle.std.proofs.lemmas.Result.{err_from_is_err_and}
use Rattle.kore_ast.specs.Plain.{plain_definition}
use Rattle.kore_text.specs.Faults.{IsDefinition}
use Rattle.rule_core.specs.BoundVariables.{HasBoundVariables}
use Rattle.rule_core.specs.ProgramView.{theory_of}
use Rattle.rule_core.specs.WellSorted.{IsWellSorted}
use Rattle.rule_core.specs.declared.rules.Program.{Program}
use Rattle.kore_axioms.specs.declared.refusals.Refusal.{Refusal}
use Rattle.kore_sig.specs.FirstFault.{Fault}
use Rattle.kore_rules.specs.Acceptance.{IsAccepted}
use Rattle.kore_rules.specs.NamedVariables.{NamesVariables}
use Rattle.kore_rules.specs.Refused.{IsRefused, HasTextFault, FirstOfDefinition}
use Rattle.kore_rules.specs.MadePrograms.{IsMadeOf, ListsOwnEquations, HasNamesOf}
use Rattle.kore_rules.specs.Names.{HasIdentifierNames}
use Rattle.kore_rules.specs.RefusedTexts.{top_of, IsSortOfRules, RefusesFor}
use Rattle.kore_rules.proofs.AcceptedLaws.{axioms_few, made_accepted, text_refused}
use Rattle.kore_rules.proofs.AcceptedLaws.{definition_refused, made_sorted, made_top, made_names}
use Rattle.kore_rules.proofs.AcceptedLaws.{made_bound}
use Rattle.kore_rules.proofs.AnswerLaws.{ok_into, ok_both, err_into}
use Rattle.kore_rules.proofs.FirstLaws.{refuses_into}
use Rattle.kore_rules.proofs.acceptance.accept.Goals as goal

pub program_of-requires : goal.program_of-requires
program_of-requires c =
    axioms_few c.token_laws.ensures.cover c.args.bytes.now
    (plain_definition c.in_ok-definition.definition) c.requires
    c.in_ok-definition.ensures.spelled

pub returns-clause-accepted : goal.returns-clause-accepted
returns-clause-accepted c =
    let d = plain_definition c.in_ok-definition.definition in
    ok_into (λ (p : Program). IsMadeOf d (theory_of p) (top_of p))
    (λ (p : Program). IsAccepted c.args.bytes.now (theory_of p) (top_of p)) c.program_of.result
    (λ p made.
    made_accepted c.args.bytes.now d (theory_of p) (top_of p)
    c.in_ok-definition.ensures.spelled made)
    c.program_of.ensures.made

pub returns-clause-well_sorted : goal.returns-clause-well_sorted
returns-clause-well_sorted c =
    let d = plain_definition c.in_ok-definition.definition in
    ok_into (λ (p : Program). IsMadeOf d (theory_of p) (top_of p))
    (λ (p : Program). IsWellSorted (theory_of p)) c.program_of.result
    (λ p made. made_sorted d (theory_of p) (top_of p) made) c.program_of.ensures.made

pub returns-clause-top : goal.returns-clause-top
returns-clause-top c =
    let d = plain_definition c.in_ok-definition.definition in
    ok_into (λ (p : Program). IsMadeOf d (theory_of p) (top_of p))
    (λ (p : Program). IsSortOfRules (theory_of p) (top_of p)) c.program_of.result
    (λ p made. made_top d (theory_of p) (top_of p) made) c.program_of.ensures.made

pub returns-clause-bound : goal.returns-clause-bound
returns-clause-bound c =
    let d = plain_definition c.in_ok-definition.definition in
    ok_into (λ (p : Program). IsMadeOf d (theory_of p) (top_of p) × ListsOwnEquations p)
    HasBoundVariables c.program_of.result
    (λ p h. made_bound c.token_laws.ensures.cover c.args.bytes.now d p c.requires
    c.in_ok-definition.ensures.spelled h.0 h.1)
    (ok_both (λ (p : Program). IsMadeOf d (theory_of p) (top_of p)) ListsOwnEquations
    c.program_of.result c.program_of.ensures.made c.program_of.ensures.own)

pub returns-clause-names : goal.returns-clause-names
returns-clause-names c =
    let d = plain_definition c.in_ok-definition.definition in
    ok_into (λ (p : Program). IsMadeOf d (theory_of p) (top_of p))
    (λ (p : Program). HasIdentifierNames p.sig) c.program_of.result
    (λ p made. made_names c.name_laws.ensures.definition c.args.bytes.now d (theory_of p) (top_of p)
    c.in_ok-definition.ensures.spelled made) c.program_of.ensures.made

pub returns-clause-variables : goal.returns-clause-variables
returns-clause-variables c =
    let d = plain_definition c.in_ok-definition.definition in
    ok_into (HasNamesOf d) (NamesVariables c.args.bytes.now) c.program_of.result
    (λ p named. record {
      definition = d;
      spelled = c.in_ok-definition.ensures.spelled;
      declared = named.0;
      signature = named.1;
      named = named.2;
    }) c.program_of.ensures.named

pub returns-clause-refused : goal.returns-clause-refused
returns-clause-refused c =
    let d = plain_definition c.in_ok-definition.definition in
    err_into (RefusesFor (λ (f : Fault). FirstOfDefinition d (Some f)))
    (RefusesFor (IsRefused c.args.bytes.now)) c.program_of.result
    (λ (refusal : Refusal) h. refuses_into (λ (f : Fault). FirstOfDefinition d (Some f))
    (IsRefused c.args.bytes.now) refusal
    (λ f first. definition_refused c.args.bytes.now d f c.in_ok-definition.ensures.spelled
    first) h)
    c.program_of.ensures.refused

pub returns-in_err-definition-clause-refused : goal.returns-in_err-definition-clause-refused
returns-in_err-definition-clause-refused c =
    let q = err_from_is_err_and c.from_residual.result c.from_residual.ensures.1 in
    rw (q.1, q.2) (refuses_into (HasTextFault IsDefinition c.args.bytes.now)
    (IsRefused c.args.bytes.now) c.in_err-definition.field-0.0
    (λ f h. text_refused c.args.bytes.now f h) c.in_err-definition.ensures.refused)
