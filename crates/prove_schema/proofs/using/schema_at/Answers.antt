use Rattle.std.proofs.Common.{List, sym, ◌∙◌, subst}
use Rattle.ml_pat.specs.Patterns.{Pattern}
use Rattle.ml_kernel.specs.Theorems.{Theorem}
use Rattle.prove_schema.specs.Giving.{AreGiven}
use Rattle.prove_schema.proofs.ResultLaws.{if_ok}
use Rattle.prove_schema.proofs.UsingLaws.{IsReadyToUse, can_prove, ready_hypotheses, ready_closed}
use Rattle.prove_schema.proofs.UsingLaws.{ready_proofs, ready_stays}
use Rattle.prove_schema.proofs.using.schema_at.Goals as goal

pub proofs-requires : goal.proofs-requires
proofs-requires c =
    can_prove c.args.lemma.now c.args.facts.now c.args.others.now c.hypotheses.result.now c.requires
    c.hypotheses.ensures.value

pub use_lemma-requires-clause-hypotheses_metas : goal.use_lemma-requires-clause-hypotheses_metas
use_lemma-requires-clause-hypotheses_metas c =
    let r : IsReadyToUse c.args.lemma.now c.args.facts.now c.args.others.now c.deref.result.now
    c.deref-2.result.now =
    record {
      subjects = λ qs ns are. c.deref.ensures.value ∙ c.in_ok-patterns.ensures qs ns are;
      given =
          subst (λ (ts : List Theorem).
          AreGiven c.args.lemma.now.hypotheses c.args.facts.now c.args.others.now ts)
          (sym c.deref-2.ensures.value)
          (subst (λ (hs : List Pattern).
          AreGiven hs c.args.facts.now c.args.others.now c.in_ok-proofs.proofs.items)
          c.hypotheses.ensures.value c.in_ok-proofs.ensures);
    } in
    ready_hypotheses c.args.lemma.now c.args.facts.now c.args.others.now c.deref.result.now
    c.deref-2.result.now r c.requires

pub use_lemma-requires-clause-no_variables : goal.use_lemma-requires-clause-no_variables
use_lemma-requires-clause-no_variables c =
    let r : IsReadyToUse c.args.lemma.now c.args.facts.now c.args.others.now c.deref.result.now
    c.deref-2.result.now =
    record {
      subjects = λ qs ns are. c.deref.ensures.value ∙ c.in_ok-patterns.ensures qs ns are;
      given =
          subst (λ (ts : List Theorem).
          AreGiven c.args.lemma.now.hypotheses c.args.facts.now c.args.others.now ts)
          (sym c.deref-2.ensures.value)
          (subst (λ (hs : List Pattern).
          AreGiven hs c.args.facts.now c.args.others.now c.in_ok-proofs.proofs.items)
          c.hypotheses.ensures.value c.in_ok-proofs.ensures);
    } in
    ready_closed c.args.lemma.now c.args.facts.now c.args.others.now c.deref.result.now
    c.deref-2.result.now r c.requires

pub use_lemma-requires-clause-proofs : goal.use_lemma-requires-clause-proofs
use_lemma-requires-clause-proofs c =
    let r : IsReadyToUse c.args.lemma.now c.args.facts.now c.args.others.now c.deref.result.now
    c.deref-2.result.now =
    record {
      subjects = λ qs ns are. c.deref.ensures.value ∙ c.in_ok-patterns.ensures qs ns are;
      given =
          subst (λ (ts : List Theorem).
          AreGiven c.args.lemma.now.hypotheses c.args.facts.now c.args.others.now ts)
          (sym c.deref-2.ensures.value)
          (subst (λ (hs : List Pattern).
          AreGiven hs c.args.facts.now c.args.others.now c.in_ok-proofs.proofs.items)
          c.hypotheses.ensures.value c.in_ok-proofs.ensures);
    } in
    ready_proofs c.args.lemma.now c.args.facts.now c.args.others.now c.deref.result.now
    c.deref-2.result.now r c.requires

pub returns-clause-stays : goal.returns-clause-stays
returns-clause-stays c =
    let r : IsReadyToUse c.args.lemma.now c.args.facts.now c.args.others.now c.deref.result.now
    c.deref-2.result.now =
    record {
      subjects = λ qs ns are. c.deref.ensures.value ∙ c.in_ok-patterns.ensures qs ns are;
      given =
          subst (λ (ts : List Theorem).
          AreGiven c.args.lemma.now.hypotheses c.args.facts.now c.args.others.now ts)
          (sym c.deref-2.ensures.value)
          (subst (λ (hs : List Pattern).
          AreGiven hs c.args.facts.now c.args.others.now c.in_ok-proofs.proofs.items)
          c.hypotheses.ensures.value c.in_ok-proofs.ensures);
    } in
    if_ok c.use_lemma.result
    (λ t cites. ready_stays c.args.lemma.now c.args.facts.now c.args.others.now c.deref.result.now
    c.deref-2.result.now t r c.requires cites)
    c.use_lemma.ensures.stays
