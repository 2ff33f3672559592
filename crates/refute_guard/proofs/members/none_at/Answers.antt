use Rattle.std.proofs.Common.{◌≡◌, sym, ◌∙◌, ap}
use Rattle.ml_pat.specs.Patterns.{Pattern, bot, imp, and, not, member}
use Rattle.ml_derived.proofs.StayingLaws.{if_ok}
use Rattle.refute_guard.proofs.MemberLaws.{denied_is}
use Rattle.refute_body.proofs.Shapes.{imp_right}
use Rattle.refute_guard.proofs.members.none_at.Goals.{After-denied-both}
use Rattle.refute_guard.proofs.members.none_at.Goals as goal

pub sides-requires : goal.sides-requires
sides-requires c = (
  c.args.g.now,
  not (and c.requires.q c.requires.t),
  c.conclusion.ensures
      ∙ c.in_ok-apart.ensures.conclusion c.args.g.now c.requires.h
      (not (and c.requires.q c.requires.t)) c.requires.is_weaker c.requires.is_none,
)

-- what is denied
both_is : (c : After-denied-both) → c.denied-both.result.now ≡ and c.requires.q c.requires.t
both_is c =
    denied_is c.conclusion.result.now c.sides.result.0.now c.sides.result.1.now
    c.denied-both.result.now c.args.g.now c.requires.q c.requires.t
    (c.conclusion.ensures
    ∙ c.in_ok-apart.ensures.conclusion c.args.g.now c.requires.h
    (not (and c.requires.q c.requires.t)) c.requires.is_weaker c.requires.is_none)
    c.sides.ensures c.denied-both.ensures

pub outside-requires-clause-both : goal.outside-requires-clause-both
outside-requires-clause-both c =
    (c.requires.q, c.requires.t, both_is (goal.at.outside-requires-clause-both c).After-denied-both)

pub after_member-requires : goal.after_member-requires
after_member-requires c = (
  c.requires.b,
  member c.requires.t c.requires.q,
  bot,
  c.requires.is_inside,
  c.in_ok-outside.ensures.conclusion c.requires.q c.requires.t
      (both_is (goal.at.after_member-requires c).After-denied-both),
)

pub returns-clause-conclusion : goal.returns-clause-conclusion
returns-clause-conclusion c =
    if_ok c.after_member.result
    (λ u says b q t inside.
    let same : member t q ≡ member c.requires.t c.requires.q =
    imp_right b (member t q) c.requires.b (member c.requires.t c.requires.q)
    (sym inside ∙ c.requires.is_inside) in
    says b (member t q) bot inside
    (c.in_ok-outside.ensures.conclusion c.requires.q c.requires.t
    (both_is (goal.at.returns-clause-conclusion c).After-denied-both)
    ∙ ap (λ (m : Pattern). imp c.args.g.now (imp m bot)) (sym same)))
    c.after_member.ensures.conclusion
