use Rattle.std.proofs.Common.{◌≡◌, ◌<◌, ◌≤◌, ◌-◌, ◌+◌, length, arith, ap, ◌∙◌}
use Rattle.std.proofs.Common.{slice_index_or}
use Rattle.std.proofs.lemmas.Option.{slice_get-get_or}
use Rattle.proof_nodes.specs.Links.{parts_of}
use Rattle.proof_nodes.proofs.Chains.{parts_of-link}
use Rattle.proof_nodes.proofs.walk.last_link.Goals as goal

pub returns-clause-before : goal.returns-clause-before
returns-clause-before c =
    let some : 0 < c.args.chain = c.requires.some in
    let within : c.args.chain ≤ length c.args.links.now = c.requires.within in
    let le : (slice_index_or c.args.links.now (c.args.chain - 1) (0, 0)).0 ≤ c.args.chain - 1 =
    c.requires.links (c.args.chain - 1) _
    (slice_get-get_or c.args.links.now (c.args.chain - 1) (0, 0) (omega (arith, some, within))) in
    omega (arith, le, some)

pub returns-clause-parts : goal.returns-clause-parts
returns-clause-parts c =
    let some : 0 < c.args.chain = c.requires.some in
    let within : c.args.chain ≤ length c.args.links.now = c.requires.within in
    let at : c.args.chain ≡ (c.args.chain - 1) + 1 = omega (arith, some) in
    ap (parts_of c.args.links.now) at
    ∙ parts_of-link c.args.links.now (c.args.chain - 1) _ c.requires.links
    (slice_get-get_or c.args.links.now (c.args.chain - 1) (0, 0) (omega (arith, some, within)))
