use Rattle.std.proofs.Common.{◌≡◌, List, length, sym, ◌∙◌, ap, subst}
use Rattle.std.specs.List.{AllZip}
use Rattle.ml_pat.specs.Patterns.{Pattern}
use Rattle.ml_kernel.specs.Lemmas.{instance, instances, AreMetasBelow, IsMetaBelow, HaveNoVariables}
use Rattle.ml_kernel.specs.Theorems.{Theorem, conclusions}
use Rattle.ml_derived.specs.Scopes.{CitesWithin}
use Rattle.prove_term.proofs.ResultLaws.{if_ok}
use Rattle.prove_step.specs.Turning.{IsProofFor}
use Rattle.prove_step.proofs.TurningLaws.{three, conclusion_metas, hypotheses_metas, is_turned}
use Rattle.prove_step.proofs.TurningLaws.{proofs_conclude, stays_citing}
use Rattle.prove_step.proofs.turning.turned_by.Goals as goal

pub images-requires : goal.images-requires
images-requires c =
    let can = c.requires.can in (
      can.before,
      can.after,
      can.other,
      c.conclusion-equality.ensures
          ∙ can.turns,
      c.conclusion-moved.ensures ∙ can.says,
    )

pub use_lemma-requires-clause-hypotheses_metas : goal.use_lemma-requires-clause-hypotheses_metas
use_lemma-requires-clause-hypotheses_metas c =
    let can = c.requires.can in
    let items : c.deref.result.now ≡ three can.before can.after can.other =
    (c.deref.ensures.value
    ∙ c.in_ok-images.ensures can.before can.after can.other
    (c.conclusion-equality.ensures ∙ can.turns)
    (c.conclusion-moved.ensures ∙ can.says)) in
    subst (λ (ms : List Pattern). AreMetasBelow (length ms) c.args.lemma.now.hypotheses) (sym items)
    (hypotheses_metas c.args.side c.args.lemma.now.hypotheses c.requires.lemma.hypotheses)

pub use_lemma-requires-clause-conclusion_metas : goal.use_lemma-requires-clause-conclusion_metas
use_lemma-requires-clause-conclusion_metas c =
    let can = c.requires.can in
    let items : c.deref.result.now ≡ three can.before can.after can.other =
    (c.deref.ensures.value
    ∙ c.in_ok-images.ensures can.before can.after can.other
    (c.conclusion-equality.ensures ∙ can.turns)
    (c.conclusion-moved.ensures ∙ can.says)) in
    subst (λ (ms : List Pattern). IsMetaBelow (length ms) c.args.lemma.now.conclusion) (sym items)
    (conclusion_metas c.args.side c.args.lemma.now c.requires.lemma)

pub use_lemma-requires-clause-no_variables : goal.use_lemma-requires-clause-no_variables
use_lemma-requires-clause-no_variables c =
    let can = c.requires.can in
    let items : c.deref.result.now ≡ three can.before can.after can.other =
    (c.deref.ensures.value
    ∙ c.in_ok-images.ensures can.before can.after can.other
    (c.conclusion-equality.ensures ∙ can.turns)
    (c.conclusion-moved.ensures ∙ can.says)) in
    subst HaveNoVariables (sym items) can.closed

pub use_lemma-requires-clause-proofs : goal.use_lemma-requires-clause-proofs
use_lemma-requires-clause-proofs c =
    let can = c.requires.can in
    let items : c.deref.result.now ≡ three can.before can.after can.other =
    (c.deref.ensures.value
    ∙ c.in_ok-images.ensures can.before can.after can.other
    (c.conclusion-equality.ensures ∙ can.turns)
    (c.conclusion-moved.ensures ∙ can.says)) in
    let proofs : AllZip (IsProofFor c.args.e.now c.args.step.now) c.args.lemma.now.hypotheses
    c.in_ok-proofs.proofs.items =
    subst (λ (ps : List Pattern).
    AllZip (IsProofFor c.args.e.now c.args.step.now) ps c.in_ok-proofs.proofs.items)
    c.hypotheses.ensures.value c.in_ok-proofs.ensures in
    ap conclusions c.deref-2.ensures.value
    ∙ proofs_conclude c.args.side can.before can.after can.other c.args.lemma.now c.args.e.now
    c.args.step.now c.in_ok-proofs.proofs.items c.requires.lemma can.turns can.says proofs
    ∙ ap (λ (ms : List Pattern). instances ms c.args.lemma.now.hypotheses) (sym items)

pub returns-clause-conclusion : goal.returns-clause-conclusion
returns-clause-conclusion c =
    let can = c.requires.can in
    let items : c.deref.result.now ≡ three can.before can.after can.other =
    (c.deref.ensures.value
    ∙ c.in_ok-images.ensures can.before can.after can.other
    (c.conclusion-equality.ensures ∙ can.turns)
    (c.conclusion-moved.ensures ∙ can.says)) in
    if_ok c.use_lemma.result
    (λ t whole. is_turned c.args.side can.before can.after can.other c.args.lemma.now c.args.e.now
    c.args.step.now t c.requires.lemma can.turns can.says
    (subst (λ (ms : List Pattern). t.conclusion ≡ instance ms c.args.lemma.now.conclusion) items
    whole))
    c.use_lemma.ensures.conclusion

pub returns-clause-stays : goal.returns-clause-stays
returns-clause-stays c =
    let can = c.requires.can in
    let items : c.deref.result.now ≡ three can.before can.after can.other =
    (c.deref.ensures.value
    ∙ c.in_ok-images.ensures can.before can.after can.other
    (c.conclusion-equality.ensures ∙ can.turns)
    (c.conclusion-moved.ensures ∙ can.says)) in
    let proofs : AllZip (IsProofFor c.args.e.now c.args.step.now) c.args.lemma.now.hypotheses
    c.in_ok-proofs.proofs.items =
    subst (λ (ps : List Pattern).
    AllZip (IsProofFor c.args.e.now c.args.step.now) ps c.in_ok-proofs.proofs.items)
    c.hypotheses.ensures.value c.in_ok-proofs.ensures in
    if_ok c.use_lemma.result
    (λ t cites. stays_citing c.args.side can.before can.after can.other c.args.lemma.now
    c.args.e.now c.args.step.now t c.in_ok-proofs.proofs.items c.requires.lemma can.turns
    can.says proofs
    (subst (λ (ms : List Pattern). CitesWithin c.args.lemma.now ms c.in_ok-proofs.proofs.items t)
    items
    (subst (λ (ts : List Theorem). CitesWithin c.args.lemma.now c.deref.result.now ts t)
    c.deref-2.ensures.value cites)))
    c.use_lemma.ensures.stays
