use Rattle.std.proofs.Common.{◌≡◌, ◌<◌, ◌≤◌, ◌++◌, ◌∷◌, [], List, length, arith, ap, ◌∙◌, sym}
use Rattle.std.proofs.Common.{append-nil, append_assoc}
use Rattle.proof_nodes.specs.Links.{parts_of}
use Rattle.proof_nodes.specs.Walking.{visits}
use Rattle.proof_nodes.specs.declared.walk.Task.{Task}
use Rattle.proof_nodes.specs.declared.walk.Task.TheVariants.{Visit}
use Rattle.proof_nodes.proofs.Chains.{no_parts}
use Rattle.proof_nodes.proofs.Visiting.{visits-push}
use Rattle.proof_nodes.proofs.walk.push_visits.Goals as goal

pub loop-rest-preserved : goal.loop-rest-preserved
loop-rest-preserved c =
    let before = c.last_link-before.result.0 in
    let part = c.last_link-before.result.1 in
    let lt : before < c.loop-rest.rest = c.last_link-before.ensures.before in
    let le : c.loop-rest.rest ≤ length c.args.links.now = c.loop-rest.invariant.0 in
    let put : visits (parts_of c.args.links.now c.loop-rest.rest)
    ≡ Visit part ∷ visits (parts_of c.args.links.now before) =
    ap visits c.last_link-before.ensures.parts
    ∙ visits-push (parts_of c.args.links.now before) part in (
      omega (arith, lt, le),
      ap (λ (ts : List Task). ts ++ visits (parts_of c.args.links.now before))
          c.in_ok-push.ensures.items
          ∙ append_assoc c.loop-rest.tasks.items (Visit part ∷ [])
          (visits (parts_of c.args.links.now before))
          ∙ ap (λ (ts : List Task). c.loop-rest.tasks.items ++ ts) (sym put)
          ∙ c.loop-rest.invariant.1,
    )

pub returns : goal.returns
returns c =
    let none : c.loop-rest.rest ≡ 0 = omega (arith, c.loop-rest-test.false) in
    sym (append-nil c.loop-rest.tasks.items)
    ∙ ap (λ (ts : List Task). c.loop-rest.tasks.items ++ ts)
    (sym (ap (λ r. visits (parts_of c.args.links.now r)) none
    ∙ ap visits (no_parts c.args.links.now)))
    ∙ c.loop-rest.invariant.1
