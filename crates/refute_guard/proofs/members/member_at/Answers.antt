use Rattle.std.proofs.Common.{◌≡◌, ◌<◌, ◌+◌, ℕ, List, length, drop, get_or, sym, ◌∙◌, ap, subst, arith}
use Rattle.std.proofs.lemmas.Option.{slice_get_within}
use Rattle.ml_pat.specs.Patterns.{Pattern, imp, and}
use Rattle.ml_derived.specs.Scopes.{IsOver, IsWithin}
use Rattle.ml_derived.proofs.StayingLaws.{if_ok}
use Rattle.refute_guard.specs.Implications.{all_of}
use Rattle.refute_guard.proofs.MemberLaws.{front, from_first, from_next, member_is}
use Rattle.refute_body.proofs.Shapes.{imp_right}
use Rattle.refute_guard.proofs.members.member_at.Goals.{After-conclusion}
use Rattle.refute_guard.proofs.members.member_at.Goals as goal

pub loop-init : goal.loop-init
loop-init c =
    from_first c.args.b.now c.conjuncts.result.0.now c.conjuncts.result.1.now
    c.in_ok-present.present c.conjuncts.ensures c.in_ok-present.ensures.conclusion
    c.in_ok-present.ensures.stays

pub loop-preserved : goal.loop-preserved
loop-preserved c =
    from_next c.args.b.now c.loop.counter c.loop.present c.in_ok-present-2.present
    c.loop.invariant c.in_ok-present-2.ensures.conclusion c.in_ok-present-2.ensures.stays

pub without_first-requires : goal.without_first-requires
without_first-requires c =
    let ms : List Pattern = c.requires.1 in
    let d : Pattern = c.requires.0 in
    let low : c.loop.counter < length ms = omega (arith, c.loop-test.true, c.requires.3) in (
      c.args.b.now,
      get_or ms c.loop.counter d,
      all_of (drop (c.loop.counter + 1) ms),
      c.loop.invariant.0 d ms c.requires.2 (omega (arith, low))
          ∙ ap (imp c.args.b.now) (front ms c.loop.counter d low),
    )

-- the member at the place, in front of the others
reached : (c : After-conclusion) (d : Pattern) (ms : List Pattern)
    → c.args.b.now ≡ and d (all_of ms) → c.args.place < length ms
    → c.conclusion.result.now
    ≡ imp c.args.b.now (and (get_or ms c.args.place d) (all_of (drop (c.args.place + 1) ms)))
reached c d ms is low =
    let all : c.loop.counter ≡ c.args.place =
    omega (arith, c.loop-test.false, c.loop.auto.counter-end) in
    c.conclusion.ensures ∙ c.loop.invariant.0 d ms is (omega (arith, all, low))
    ∙ ap (λ (n : ℕ). imp c.args.b.now (all_of (drop n ms))) all
    ∙ ap (imp c.args.b.now) (front ms c.args.place d low)

pub sides-requires : goal.sides-requires
sides-requires c = (
  c.args.b.now,
  and (get_or c.requires.1 c.args.place c.requires.0)
      (all_of (drop (c.args.place + 1) c.requires.1)),
  reached c c.requires.0 c.requires.1 c.requires.2 c.requires.3,
)

pub conjuncts-requires-2 : goal.conjuncts-requires-2
conjuncts-requires-2 c = (
  get_or c.requires.1 c.args.place c.requires.0,
  all_of (drop (c.args.place + 1) c.requires.1),
  imp_right c.sides.result.0.now c.sides.result.1.now c.args.b.now _
      (sym c.sides.ensures
      ∙ reached (goal.at.conjuncts-requires-2 c).After-conclusion c.requires.0 c.requires.1
      c.requires.2 c.requires.3),
)

pub returns-clause-conclusion : goal.returns-clause-conclusion
returns-clause-conclusion c =
    if_ok c.chain.result
    (λ t says d n ms is there.
    let read : (c.sides.result.0.now ≡ c.args.b.now) × (c.conjuncts-2.result.0.now ≡ n) =
    member_is c.conclusion.result.now c.sides.result.0.now c.sides.result.1.now
    c.conjuncts-2.result.0.now (all_of (drop (c.args.place + 1) ms)) c.args.b.now ms c.args.place d
    n
    (reached (goal.at.returns-clause-conclusion c).After-conclusion d ms is
    (slice_get_within ms c.args.place n there)) c.sides.ensures c.conjuncts-2.result.1.now
    c.conjuncts-2.ensures there in
    says c.sides.result.0.now c.sides.result.1.now c.conjuncts-2.result.0.now
    (sym c.conclusion.ensures ∙ c.sides.ensures)
    (c.in_ok-and_1.ensures.conclusion
    ∙ ap (λ (p : Pattern). imp p c.conjuncts-2.result.0.now) (sym c.conjuncts-2.ensures))
    ∙ ap (λ (p : Pattern). imp p c.conjuncts-2.result.0.now) read.0
    ∙ ap (imp c.args.b.now) read.1)
    c.chain.ensures.conclusion

pub returns-clause-stays : goal.returns-clause-stays
returns-clause-stays c =
    let is : c.loop.present.conclusion ≡ imp c.sides.result.0.now
    (and c.conjuncts-2.result.0.now c.conjuncts-2.result.1.now) =
    sym c.conclusion.ensures ∙ c.sides.ensures
    ∙ ap (imp c.sides.result.0.now) c.conjuncts-2.ensures in
    if_ok c.chain.result
    (λ t stays s hp ht.
    let within : IsWithin s c.loop.present = c.loop.invariant.1 s hp tt in
    let over : IsOver s (imp c.sides.result.0.now
    (and c.conjuncts-2.result.0.now c.conjuncts-2.result.1.now)) =
    subst (IsOver s) is within.conclusion in
    stays s tt (within, (c.in_ok-and_1.ensures.stays s (over.1.0, (over.1.1, tt)) tt, tt)))
    c.chain.ensures.stays
