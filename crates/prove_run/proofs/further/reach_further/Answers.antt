use Rattle.std.proofs.Common.{◌≡◌, List, length, sym, ◌∙◌, ap, subst, Result, Ok, Err, IfOk}
use Rattle.std.specs.Prelude.{All}
use Rattle.std.specs.List.{AllZip}
use Rattle.ml_pat.specs.Patterns.{Pattern}
use Rattle.ml_kernel.specs.Lemmas.{instances, AreMetasBelow}
use Rattle.ml_kernel.specs.Theorems.{Theorem, conclusions}
use Rattle.ml_derived.specs.Scopes.{CitesWithin}
use Rattle.prove_run.specs.ReachLemma.{IsReachHypothesis, ProvesHypothesis, CitesReachLemma}
use Rattle.prove_run.proofs.ReachLaws.{three, hypotheses_metas, proofs_conclude, goes_further}
use Rattle.prove_run.proofs.further.reach_further.Goals as goal

if_ok : {T E : Type 0} (r : Result T E) (P Q : T → Type 0) → ((t : T) → P t → Q t) → IfOk r P
    → IfOk r Q
if_ok (Ok t) P Q f h = f t h
if_ok (Err e) P Q f h = tt

pub proofs-requires : goal.proofs-requires
proofs-requires c =
    subst (All IsReachHypothesis) (sym c.hypotheses.ensures.value) c.requires.lemma.hypotheses

pub use_lemma-requires-clause-hypotheses_metas : goal.use_lemma-requires-clause-hypotheses_metas
use_lemma-requires-clause-hypotheses_metas c =
    let parts = c.requires.linked in
    let items : c.deref.result.now ≡ three parts.0 parts.1.0 parts.1.1.0 =
    (c.deref.ensures.value
    ∙ c.in_ok-images.ensures parts.0 parts.1.0 parts.1.1.0
    (c.conclusion-reached.ensures ∙ parts.1.1.1.0)
    (c.conclusion-moved.ensures ∙ parts.1.1.1.1)) in
    let proofs : AllZip (ProvesHypothesis c.args.sofar.now c.args.step.now)
    c.args.lemma.now.hypotheses c.in_ok-proofs.proofs.items =
    subst (λ (ps : List Pattern). AllZip (ProvesHypothesis c.args.sofar.now c.args.step.now) ps
    c.in_ok-proofs.proofs.items) c.hypotheses.ensures.value c.in_ok-proofs.ensures in
    subst (λ (ms : List Pattern). AreMetasBelow (length ms) c.args.lemma.now.hypotheses) (sym items)
    (hypotheses_metas c.args.sofar.now c.args.step.now c.args.lemma.now.hypotheses
    c.in_ok-proofs.proofs.items proofs)

pub use_lemma-requires-clause-proofs : goal.use_lemma-requires-clause-proofs
use_lemma-requires-clause-proofs c =
    let parts = c.requires.linked in
    let items : c.deref.result.now ≡ three parts.0 parts.1.0 parts.1.1.0 =
    (c.deref.ensures.value
    ∙ c.in_ok-images.ensures parts.0 parts.1.0 parts.1.1.0
    (c.conclusion-reached.ensures ∙ parts.1.1.1.0)
    (c.conclusion-moved.ensures ∙ parts.1.1.1.1)) in
    let proofs : AllZip (ProvesHypothesis c.args.sofar.now c.args.step.now)
    c.args.lemma.now.hypotheses c.in_ok-proofs.proofs.items =
    subst (λ (ps : List Pattern). AllZip (ProvesHypothesis c.args.sofar.now c.args.step.now) ps
    c.in_ok-proofs.proofs.items) c.hypotheses.ensures.value c.in_ok-proofs.ensures in
    ap conclusions c.deref-2.ensures.value
    ∙ proofs_conclude parts.0 parts.1.0 parts.1.1.0 c.args.sofar.now c.args.step.now parts.1.1.1.0
    parts.1.1.1.1 c.args.lemma.now.hypotheses c.in_ok-proofs.proofs.items proofs
    ∙ ap (λ (ms : List Pattern). instances ms c.args.lemma.now.hypotheses) (sym items)

pub returns-clause-stays : goal.returns-clause-stays
returns-clause-stays c =
    let parts = c.requires.linked in
    let items : c.deref.result.now ≡ three parts.0 parts.1.0 parts.1.1.0 =
    (c.deref.ensures.value
    ∙ c.in_ok-images.ensures parts.0 parts.1.0 parts.1.1.0
    (c.conclusion-reached.ensures ∙ parts.1.1.1.0)
    (c.conclusion-moved.ensures ∙ parts.1.1.1.1)) in
    let proofs : AllZip (ProvesHypothesis c.args.sofar.now c.args.step.now)
    c.args.lemma.now.hypotheses c.in_ok-proofs.proofs.items =
    subst (λ (ps : List Pattern). AllZip (ProvesHypothesis c.args.sofar.now c.args.step.now) ps
    c.in_ok-proofs.proofs.items) c.hypotheses.ensures.value c.in_ok-proofs.ensures in
    if_ok c.use_lemma.result (CitesWithin c.args.lemma.now c.deref.result.now c.deref-2.result.now)
    (CitesReachLemma c.args.lemma.now c.args.sofar.now c.args.step.now)
    (λ t cites. goes_further parts.0 parts.1.0 parts.1.1.0 c.args.lemma.now c.args.sofar.now
    c.args.step.now t c.in_ok-proofs.proofs.items c.requires.lemma parts.1.1.1.0 parts.1.1.1.1
    proofs
    (subst (λ (ms : List Pattern). CitesWithin c.args.lemma.now ms c.in_ok-proofs.proofs.items t)
    items (subst (λ (ts : List Theorem). CitesWithin c.args.lemma.now c.deref.result.now ts t)
    c.deref-2.ensures.value cites)))
    c.use_lemma.ensures.stays
