use Rattle.std.proofs.Common.{◌-◌, length, take, sym, ap, ◌∙◌, subst, arith}
use Rattle.kore_lex.specs.Tokens.{IsInner}
use Rattle.kore_lex.proofs.StringLaws.{string-inside}
use Rattle.kore_lex.proofs.value.inner.Goals as goal

pub behind-requires : goal.behind-requires
behind-requires c = let h = string-inside c.args.token.now c.requires in omega (arith, h.0)

pub overflow_sub-token : goal.overflow_sub-token
overflow_sub-token c = let h = string-inside c.args.token.now c.requires in h.0

pub returns-clause-inner : goal.returns-clause-inner
returns-clause-inner c =
    let h = string-inside c.args.token.now c.requires in
    subst IsInner (sym (c.first.ensures ∙ ap (take (length c.args.token.now - 2)) c.behind.ensures))
    h.1
