use Rattle.std.proofs.Common.{subst}
use Rattle.std.specs.Prelude.{Some}
use Rattle.memchr.specs.Find.{IsFirstByte, is_byte}
use Rattle.hint_file.proofs.Cutting.{cut_nowhere, cut_found}
use Rattle.hint_file.proofs.lines.cut_at.Goals as goal

pub returns-in_default-clause-none : goal.returns-in_default-clause-none
returns-in_default-clause-none c =
    cut_nowhere c.args.byte c.args.bytes.now (subst
    (λ o. IsFirstByte (is_byte c.args.byte) c.args.bytes.now o) c.in_default.is c.memchr.ensures)

pub returns-clause-found : goal.returns-clause-found
returns-clause-found c =
    let found : IsFirstByte (is_byte c.args.byte) c.args.bytes.now (Some c.in-Some.at) =
    subst (λ o. IsFirstByte (is_byte c.args.byte) c.args.bytes.now o) c.in-Some.is
    c.memchr.ensures in
    cut_found c.args.byte c.args.bytes.now c.in-Some.at found.0.high found.0.before found.1
