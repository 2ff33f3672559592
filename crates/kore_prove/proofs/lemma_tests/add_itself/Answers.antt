use Rattle.std.proofs.Common.{◌∷◌, [], List, sym, subst}
use Rattle.std.specs.Prelude.{All}
use Rattle.std.proofs.lemmas.List.Elements.{All-cons, All-nil}
use Rattle.ml_kernel.specs.Theorems.{Theorem}
use Rattle.prove_term.specs.Contexts.{Context, StaysIn}
use Rattle.prove_run.specs.RunProof.{RunProof, proof_context}
use Rattle.kore_prove.proofs.lemma_tests.add_itself.Goals as goal

pub add_lemmas-requires-clause-stays : goal.add_lemmas-requires-clause-stays
add_lemmas-requires-clause-stays c =
    let cx : Context = proof_context c.join-proof.result in
    subst (λ (ts : List Theorem). All (StaysIn cx) ts) (sym c.from_ref.ensures.value)
    (All-cons (StaysIn cx) c.in_ok-itself.itself []
    (subst (λ (q : RunProof). StaysIn (proof_context q) c.in_ok-itself.itself)
    (sym c.join-proof.ensures.same) c.in_ok-itself.ensures.stays) (All-nil (StaysIn cx)))
