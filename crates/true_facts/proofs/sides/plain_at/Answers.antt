use Rattle.std.proofs.Common.{Some, None}
use Rattle.true_facts.specs.Sides.{IsHeadAt, head_found, plain_head}
use Rattle.true_facts.proofs.OnlyLaws.{only_at}
use Rattle.true_facts.proofs.SideLaws.{plain_none, plain_some}
use Rattle.true_facts.proofs.sides.plain_at.Goals as goal

pub returns-in_default : goal.returns-in_default
returns-in_default c =
    plain_none c.args.sig.now c.args.names.now c.args.pattern.now c.args.first
    (only_at (IsHeadAt c.args.sig.now c.args.names.now c.args.pattern.now c.args.first) head_found
    c.in_ok-plain.field-0 None c.in_default.is c.in_ok-plain.ensures)

pub returns : goal.returns
returns c =
    plain_some c.args.sig.now c.args.names.now c.args.pattern.now c.args.first
    (c.in-Some.plain.sort.0, plain_head c.in-Some.plain.head)
    (only_at (IsHeadAt c.args.sig.now c.args.names.now c.args.pattern.now c.args.first) head_found
    c.in_ok-plain.field-0 (Some c.in-Some.plain) c.in-Some.is c.in_ok-plain.ensures)
