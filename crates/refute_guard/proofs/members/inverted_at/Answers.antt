use Rattle.std.proofs.Common.{◌≡◌, sym, ◌∙◌, ap}
use Rattle.ml_pat.specs.Patterns.{Pattern, imp, and, member}
use Rattle.ml_derived.proofs.StayingLaws.{if_ok}
use Rattle.refute_guard.proofs.MemberLaws.{inverted_is}
use Rattle.refute_body.proofs.Shapes.{imp_right}
use Rattle.refute_guard.proofs.members.inverted_at.Goals as goal

pub returns-clause-conclusion : goal.returns-clause-conclusion
returns-clause-conclusion c =
    let both : c.conjuncts.result.1.now ≡ and c.requires.q c.requires.t =
    inverted_is c.conclusion.result.now c.sides.result.0.now c.sides.result.1.now
    c.conjuncts.result.0.now c.conjuncts.result.1.now c.requires.h
    (and c.requires.q c.requires.t) c.requires.e (c.conclusion.ensures ∙ c.requires.is_rule)
    c.sides.ensures c.conjuncts.ensures in
    if_ok c.after_member.result
    (λ u says h w b m e rule inside.
    let same : m ≡ member c.requires.t c.requires.q =
    imp_right b m c.requires.b (member c.requires.t c.requires.q)
    (sym inside ∙ c.requires.is_inside) in
    let end : c.sides.result.1.now ≡ e =
    imp_right c.sides.result.0.now c.sides.result.1.now (and h w) e
    (sym c.sides.ensures ∙ c.conclusion.ensures ∙ rule) in
    says b m e inside
    (c.in_ok-member.ensures.conclusion c.requires.q c.requires.t both
    ∙ ap (λ (n : Pattern). imp c.args.g.now (imp n c.sides.result.1.now)) (sym same)
    ∙ ap (λ (n : Pattern). imp c.args.g.now (imp m n)) end))
    c.after_member.ensures.conclusion
