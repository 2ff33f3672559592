use Rattle.std.proofs.Common.{◌≡◌, length, arith}
use Rattle.proof_nodes.proofs.Placing.{places-more}
use Rattle.proof_nodes.proofs.letters.add_label.Goals as goal

pub returns-clause-places : goal.returns-clause-places
returns-clause-places c =
    let long : c.len.result ≡ length c.args.numbering.now.table.items =
    omega (arith, c.len.ensures) in
    places-more c.args.numbering.now.places c.insert.new.self c.args.label c.len.result
    c.args.numbering.now.table.items c.push.new.self.items long c.in_ok-push.ensures.items
    c.in_ok-insert.ensures.updates.0 c.requires
