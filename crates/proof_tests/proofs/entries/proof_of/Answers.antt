use Rattle.std.proofs.Common.{[], ◌∷◌, subst}
use Rattle.mm_proof.specs.Listings.{Listing, Builds, empty_listing}
use Rattle.mm_proof.specs.Writing.{goal_tree}
use Rattle.proof_tests.proofs.entries.proof_of.Goals as goal

pub push_proof-requires : goal.push_proof-requires
push_proof-requires c =
    let built : Builds (λ k. goal_tree k c.args.goal ∷ []) (empty_listing 7)
    c.prove_goal.new.table =
    subst (λ (l : Listing). Builds (λ k. goal_tree k c.args.goal ∷ []) l c.prove_goal.new.table)
    c.start.ensures c.in_ok-prove_goal.ensures in
    (goal_tree 7 c.args.goal, built.1)
