use Rattle.std.proofs.Common.{◌≡◌, ◌∙◌, ap, sym, subst, List, Option, ℕ, None, Some, map}
use Rattle.std.proofs.lemmas.Result.{err_from_is_err_and}
use Rattle.kore_text.specs.Trees.{AxiomDeclaration}
use Rattle.kore_ast.specs.Plain.{plain_definition}
use Rattle.rule_core.specs.ProgramView.{theory_of}
use Rattle.kore_sig.specs.Declarations.{axioms_of}
use Rattle.kore_sig.specs.FirstFault.{Fault}
use Rattle.kore_rules.specs.AxiomsRead.{tree_at}
use Rattle.kore_rules.specs.FirstRefusal.{FirstOfAxioms}
use Rattle.kore_rules.specs.Refused.{FirstOfDefinition}
use Rattle.kore_rules.specs.Programs.{IsProgramUnder, IsTopOf}
use Rattle.kore_rules.specs.KeptNames.{KeepsNames}
use Rattle.kore_rules.specs.RefusedTexts.{number_of_sort}
use Rattle.kore_rules.proofs.AcceptedLaws.{top_any, axioms_refused}
use Rattle.kore_rules.proofs.FirstLaws.{refuses_into}
use Rattle.kore_rules.proofs.acceptance.program_of.Goals as goal

pub returns-clause-made : goal.returns-clause-made
returns-clause-made c =
    let d = plain_definition c.args.definition.now in
    let sig = c.in_ok-sig.sig in
    let p = c.in_ok-program_under.field-0 in
    let same : map tree_at c.deref.result.now ≡ axioms_of d =
    ap (map tree_at) c.deref.ensures.value ∙ c.in_ok-axioms.ensures in
    let same_too : map tree_at c.deref-2.result.now ≡ axioms_of d =
    ap (map tree_at) c.deref-2.ensures.value ∙ c.in_ok-axioms.ensures in
    let program : IsProgramUnder sig (axioms_of d) (theory_of p) =
    subst (λ (axioms : List AxiomDeclaration). IsProgramUnder sig axioms (theory_of p)) same_too
    c.in_ok-program_under.ensures.means in
    let top : IsTopOf sig (axioms_of d) (number_of_sort c.sort_of_rules-top.result) =
    subst (λ (axioms : List AxiomDeclaration).
    IsTopOf sig axioms (number_of_sort c.sort_of_rules-top.result)) same
    (c.sort_of_rules-top.ensures (map tree_at c.deref.result.now)
    c.in_ok-readings.ensures.first) in
    record {
      declared = sig;
      signature = c.in_ok-sig.ensures.declared;
      sorted = c.in_ok-sig.ensures.sorted;
      distinct = c.names_differ.ensures;
      no_fault = c.in_ok-sig.ensures.faultless;
      no_axiom_fault =
          subst (λ (axioms : List AxiomDeclaration). FirstOfAxioms sig axioms None) same
          c.in_ok-readings.ensures.clear;
      program = program;
      sort =
          top_any sig p.sig (axioms_of d) _ program.sorts
          (subst (IsTopOf sig (axioms_of d)) (sym c.in_ok-program_under.ensures.top) top);
    }

pub returns-clause-named : goal.returns-clause-named
returns-clause-named c =
    let d = plain_definition c.args.definition.now in
    let sig = c.in_ok-sig.sig in
    let p = c.in_ok-program_under.field-0 in
    let same : map tree_at c.deref-2.result.now ≡ axioms_of d =
    ap (map tree_at) c.deref-2.ensures.value ∙ c.in_ok-axioms.ensures in (
      sig,
      c.in_ok-sig.ensures.declared,
      subst (λ (axioms : List AxiomDeclaration). KeepsNames sig axioms p) same
          c.in_ok-program_under.ensures.named,
    )

pub returns-in_err-readings-clause-refused : goal.returns-in_err-readings-clause-refused
returns-in_err-readings-clause-refused c =
    let d = plain_definition c.args.definition.now in
    let sig = c.in_ok-sig.sig in
    let same : map tree_at c.deref.result.now ≡ axioms_of d =
    ap (map tree_at) c.deref.ensures.value ∙ c.in_ok-axioms.ensures in
    let q =
    err_from_is_err_and c.from_residual-in_err-readings.result
    c.from_residual-in_err-readings.ensures.1 in
    rw (q.1, q.2) (refuses_into
    (λ (f : Fault). FirstOfAxioms sig (map tree_at c.deref.result.now) (Some f))
    (λ (f : Fault). FirstOfDefinition d (Some f)) c.in_err-readings.field-0.0
    (λ f is. axioms_refused d sig f c.in_ok-sig.ensures.faultless c.in_ok-sig.ensures.declared
    (subst (λ (axioms : List AxiomDeclaration). FirstOfAxioms sig axioms (Some f)) same is))
    c.in_err-readings.ensures.refused)
