use Rattle.std.proofs.Common.{Option}
use Rattle.ml_image.proofs.ImageLaws.{if_ok}
use Rattle.true_facts.specs.Only.{IsOnly}
use Rattle.true_facts.specs.Sides.{IsSideAt, IsInjectedAt, IsPlainAt, side_found}
use Rattle.true_facts.specs.declared.sides.SortedSide.{SortedSide}
use Rattle.true_facts.proofs.SideLaws.{injected_only, plain_only}
use Rattle.true_facts.proofs.sides.side_at.Goals as goal

pub returns-in-Some : goal.returns-in-Some
returns-in-Some c =
    if_ok (λ (r : Option SortedSide).
    IsOnly (IsInjectedAt c.args.sig.now c.args.names.now c.in-Some.arg.now c.args.first
    c.in-Some.injection.from.0 c.in-Some.injection.to.0) (side_found r))
    (λ (r : Option SortedSide).
    IsOnly (IsSideAt c.args.sig.now c.args.names.now c.args.pattern.now c.args.first)
    (side_found r)) c.injected_at.result
    (λ r one. injected_only c.args.sig.now c.args.names.now c.args.pattern.now c.in-Some.arg.now
    c.args.first c.in-Some.injection.from.0 c.in-Some.injection.to.0 (side_found r)
    c.in-Some.ensures one) c.injected_at.ensures

pub returns-in-None : goal.returns-in-None
returns-in-None c =
    if_ok (λ (r : Option SortedSide).
    IsOnly (IsPlainAt c.args.sig.now c.args.names.now c.args.pattern.now c.args.first)
    (side_found r))
    (λ (r : Option SortedSide).
    IsOnly (IsSideAt c.args.sig.now c.args.names.now c.args.pattern.now c.args.first)
    (side_found r)) c.plain_at.result
    (λ r one. plain_only c.args.sig.now c.args.names.now c.args.pattern.now c.args.first
    (side_found r) c.in-None.ensures one) c.plain_at.ensures
