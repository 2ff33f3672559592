use Rattle.std.proofs.Common.{◌≡◌, ◌∷◌, [], sym, ◌∙◌, ap, subst}
use Rattle.ml_pat.specs.Patterns.{Pattern, and}
use Rattle.ml_derived.specs.Scopes.{AssumesWithin}
use Rattle.prove_schema.specs.Schemas.{parts_of}
use Rattle.prove_schema.specs.Assumptions.{HoldsByParts}
use Rattle.prove_schema.proofs.ResultLaws.{if_ok}
use Rattle.prove_schema.proofs.OpeningLaws.{alone, whole_held, both_held}
use Rattle.ml_pat.specs.PatternView.{pattern_of}
use Rattle.prove_schema.proofs.opening.+held.Goals as goal

pub returns-in-Top-clause-stays : goal.returns-in-Top-clause-stays
returns-in-Top-clause-stays t c =
    if_ok c.top.result (λ u stays. λ s may. stays s tt tt) c.top.ensures.stays

pub returns-in_ok-second-in-And-clause-stays : goal.returns-in_ok-second-in-And-clause-stays
returns-in_ok-second-in-And-clause-stays t c =
    let is : c.args.pattern.now ≡ and c.in-And.left c.in-And.right =
    sym c.form.ensures ∙ ap pattern_of c.in-And.is in
    if_ok c.both.result
    (λ u stays. subst (λ (p : Pattern). HoldsByParts p u) (sym is)
    (both_held c.in-And.left c.in-And.right c.in_ok-first-in-And.first c.in_ok-second-in-And.second
    u c.in_ok-first-in-And.ensures.stays c.in_ok-second-in-And.ensures.stays stays))
    c.both.ensures.stays

pub returns-in_ok-share-in_default-clause-stays : goal.returns-in_ok-share-in_default-clause-stays
returns-in_ok-share-in_default-clause-stays t c =
    let one : parts_of (pattern_of c.form.result.now) ≡ pattern_of c.form.result.now ∷ [] =
    alone c.form.result.now c.in_default.not-Top c.in_default.not-And in
    let is : parts_of c.args.pattern.now ≡ c.args.pattern.now ∷ [] =
    subst (λ (p : Pattern). parts_of p ≡ p ∷ []) c.form.ensures one in
    if_ok c.assume.result
    (λ u stays. whole_held c.args.pattern.now u is
    (subst (λ (p : Pattern). AssumesWithin p u) c.in_ok-share-in_default.ensures stays))
    c.assume.ensures.stays
