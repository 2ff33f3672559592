use Rattle.std.proofs.Common.{◌≡◌, Some, sym, ◌∙◌, ap}
use Rattle.ml_pat.specs.Patterns.{Pattern, app}
use Rattle.ml_image.proofs.ImageLaws.{none_some}
use Rattle.true_facts.proofs.sides.injected.Goals as goal

pub returns-in_default-injection_at : goal.returns-in_default-injection_at
returns-in_default-injection_at c = λ a b head q is applied.
    let whole : app c.in-Some.head.now c.in-Some.arg.now ≡ app head q =
    sym c.in-Some.ensures ∙ applied in
    let heads : head ≡ c.in-Some.head.now = cc in
    none_some (a, b) ((c.in_default-injection_at.ensures (a, b)).0
    (is ∙ ap (λ (p : Pattern). Some p) heads))

pub returns : goal.returns
returns c = (c.in-Some.head.now, c.in-Some.ensures, c.in-Some-injection_at.ensures)
