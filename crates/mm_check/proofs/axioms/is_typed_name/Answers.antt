use Rattle.std.proofs.Common.{sym, ◌∙◌}
use Rattle.mm_check.proofs.NameLaws.{typed_name}
use Rattle.mm_check.proofs.axioms.is_typed_name.Goals as goal

pub returns-then-eq : goal.returns-then-eq
returns-then-eq c =
    typed_name c.args.sig.now c.args.typecode.now c.args.token.now c.is_own_token.result
    c.typecode_of.result.now (sym c.eq.ensures ∙ c.if-eq.true) c.typecode_of.ensures
    c.is_own_token.ensures
