use Rattle.std.proofs.Common.{◌≡◌, sym, ◌∙◌, ap}
use Rattle.ml_pat.specs.Patterns.{Pattern, and, imp}
use Rattle.ml_derived.proofs.StayingLaws.{if_ok}
use Rattle.stuck_prove.proofs.bodies.equations_in.Goals as goal

left_is : (x p r h b k m e : Pattern) → x ≡ imp p r → p ≡ and h b → x ≡ imp (and k m) e → h ≡ k
left_is x p r h b k m e is parts other = cc

both_is : (x p r h b k m e : Pattern) → x ≡ imp p r → p ≡ and h b → x ≡ imp (and k m) e → b ≡ m
both_is x p r h b k m e is parts other = cc

end_is : (x p r h b k m e : Pattern) → x ≡ imp p r → p ≡ and h b → x ≡ imp (and k m) e → r ≡ e
end_is x p r h b k m e is parts other = cc

pub returns-clause-conclusion : goal.returns-clause-conclusion
returns-clause-conclusion c =
    if_ok c.from_both.result
    (λ r says h q t e rule.
    let is : c.conclusion.result.now ≡ imp (and h (and q t)) e = c.conclusion.ensures ∙ rule in
    says q t e
    (both_is c.conclusion.result.now c.sides.result.0.now c.sides.result.1.now
    c.conjuncts.result.0.now c.conjuncts.result.1.now h (and q t) e c.sides.ensures
    c.conjuncts.ensures is)
    (c.in_ok-under.ensures.conclusion c.args.g.now c.conjuncts.result.0.now
    (imp c.conjuncts.result.1.now c.sides.result.1.now)
    (c.requires.is_weaker ∙ ap (imp c.args.g.now)
    (sym (left_is c.conclusion.result.now c.sides.result.0.now c.sides.result.1.now
    c.conjuncts.result.0.now c.conjuncts.result.1.now c.requires.h
    (and c.requires.q c.requires.t) c.requires.e c.sides.ensures c.conjuncts.ensures
    (c.conclusion.ensures ∙ c.requires.is_rule))))
    c.in_ok-open.ensures.conclusion
    ∙ ap (λ (p : Pattern). imp c.args.g.now (imp c.conjuncts.result.1.now p))
    (end_is c.conclusion.result.now c.sides.result.0.now c.sides.result.1.now
    c.conjuncts.result.0.now c.conjuncts.result.1.now h (and q t) e c.sides.ensures
    c.conjuncts.ensures is)))
    c.from_both.ensures.conclusion
