use Rattle.std.proofs.Common.{rules, ◌≡◌, List, [], ◌∷◌, ◌++◌, sym, ◌∙◌, ap, subst}
use Rattle.ml_pat.specs.Patterns.{Pattern, fun, all, meta}
use Rattle.ml_kernel.specs.Theorems.{Theorem, conclusions}
use Rattle.ml_derived.specs.Scopes.{AssumesWithin}
use Rattle.prove_schema.specs.Assumptions.{facts_of}
use Rattle.prove_schema.specs.Assumptions.{AreAssumptions}
use Rattle.prove_schema.proofs.OpeningLaws.{one_more_assumption, one_more_quantifier}
use Rattle.prove_schema.proofs.opening.assumed_facts.Goals as goal

pub loop-x-preserved : goal.loop-x-preserved
loop-x-preserved c =
    let t : Theorem = c.in_ok-assume.field-0 in
    let items : c.push.new.self.items ≡ c.loop-x.facts.items ++ t ∷ [] = search rules in
    let whole : c.loop-x.rest.now ≡ all c.in-All.x.0 c.in-All.sort.0 c.in-All.body = search rules in
    let front : facts_of c.loop-x.rest.now ≡ fun (meta c.in-All.x.0) c.in-All.sort.0 ∷ facts_of
    c.in-All.body =
    ap facts_of whole in
    let fact : t.conclusion ≡ fun (meta c.in-All.x.0) c.in-All.sort.0 =
    c.in_ok-assume.ensures.conclusion ∙ c.in_ok-fun.ensures
    ∙ ap (λ (p : Pattern). fun p c.in-All.sort.0) c.in_ok-element.ensures in
    let one : AssumesWithin t.conclusion t =
    subst (λ (p : Pattern). AssumesWithin p t) (sym c.in_ok-assume.ensures.conclusion)
    c.in_ok-assume.ensures.stays in
    subst (λ (ts : List Theorem). AreAssumptions ts
    × (conclusions ts ++ facts_of c.in-All.body ≡ facts_of c.args.sentence.now)) (sym items) (
      one_more_assumption c.loop-x.facts.items t c.loop-x.invariant.0 one,
      one_more_quantifier c.loop-x.facts.items t c.loop-x.rest.now
          (fun (meta c.in-All.x.0) c.in-All.sort.0) (facts_of c.in-All.body)
          (facts_of c.args.sentence.now) fact front c.loop-x.invariant.1,
    )
