use Rattle.std.proofs.Common.{sym, ◌∙◌, arith}
use Rattle.kore_check.proofs.NamedMeanings.{only_named-other}
use Rattle.kore_check.proofs.build.named_part.Goals as goal

pub returns-then-len-ne2 : goal.returns-then-len-ne2
returns-then-len-ne2 c =
    sym (only_named-other c.args.pair.items
    (λ two. c.if-len-ne2.true (omega (arith, c.len.ensures, two))))
