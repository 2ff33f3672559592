use Rattle.std.proofs.Common.{sym, ◌∙◌, ap}
use Rattle.ml_pat.specs.Patterns.{Pattern, bot, imp, and}
use Rattle.ml_derived.specs.Scopes.{IsOver, IsWithin}
use Rattle.ml_derived.proofs.StayingLaws.{if_ok, concluded, made}
use Rattle.refute_guard.proofs.members.of_member.Goals as goal

pub chain_under-requires-clause-a : goal.chain_under-requires-clause-a
chain_under-requires-clause-a c =
    c.in_ok-weaker.ensures.conclusion (and c.args.g.now c.in_ok-denial.denial) c.args.g.now
    (imp c.args.both.now c.args.e.now) c.in_ok-and_1.ensures.conclusion c.requires.rule
    ∙ ap (λ (r : Pattern). imp r (imp c.args.both.now c.args.e.now)) (sym c.in_ok-r.ensures)

pub returns-clause-stays : goal.returns-clause-stays
returns-clause-stays c =
    if_ok c.back.result
    (λ t stays s hp ht.
    let parts : IsOver s (imp c.args.g.now (imp c.args.both.now c.args.e.now)) =
    concluded s c.args.rule.now (imp c.args.g.now (imp c.args.both.now c.args.e.now)) ht.0
    c.requires.rule in
    let denial : IsOver s c.in_ok-denial.denial =
    made s c.in_ok-denial.denial (imp c.args.e.now c.in_ok-nothing.nothing)
    (parts.1.1, made s c.in_ok-nothing.nothing bot tt c.in_ok-nothing.ensures)
    c.in_ok-denial.ensures in
    let w-first : IsWithin s c.in_ok-and_1.field-0 =
    c.in_ok-and_1.ensures.stays s (parts.0, (denial, tt)) tt in
    let w-weaker : IsWithin s c.in_ok-weaker.weaker =
    c.in_ok-weaker.ensures.stays s tt (w-first, (ht.0, tt)) in
    let w-against : IsWithin s c.in_ok-against.against =
    c.in_ok-against.ensures.stays s (parts.0, (denial, tt)) tt in
    let w-none : IsWithin s c.in_ok-none.none =
    c.in_ok-none.ensures.stays s tt (w-weaker, (w-against, tt)) in
    let w-outside : IsWithin s c.in_ok-outside.outside =
    c.in_ok-outside.ensures.stays s tt (w-none, tt) in
    stays s tt (c.in_ok-unpack.ensures.stays s tt (w-outside, tt), tt))
    c.back.ensures.stays
