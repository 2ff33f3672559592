use Rattle.std.proofs.Common.{rules, ◌≡◌, ◌≤◌, ◌∙◌, arith, ap, map, length}
use Rattle.std.proofs.lemmas.List.{length-map}
use Rattle.mm_frame.specs.PlainFrames.{plain_hypothesis, plain_hypotheses}
use Rattle.mm_frame.specs.ExpressionView.{expression_symbols}
use Rattle.mm_frame.specs.declared.expression.Expression.{Expression}
use Rattle.mm_verify.specs.Locating.{place_by}
use Rattle.mm_verify.proofs.Placing.{parts-placed, parts-symbols}
use Rattle.mm_verify.proofs.parts.stated.Goals as goal

same : (c : goal.In_ok-table) → c.in_ok-clone.field-0.value ≡ c.args.expression.now.value
same c = search rules

pub returns-clause-symbols : goal.returns-clause-symbols
returns-clause-symbols c =
    parts-symbols c.in_ok-table.field-0.value (expression_symbols c.in_ok-clone.field-0.value)
    ∙ ap expression_symbols (same c)

pub returns-clause-places : goal.returns-clause-places
returns-clause-places c =
    let all = plain_hypotheses c.args.places.now.hyps.now in
    let few : length all ≤ 4294967295 =
    omega (arith, c.args.places.now.few, length-map c.args.places.now.hyps.now plain_hypothesis) in
    parts-placed c.in_ok-table.field-0.value all c.in_ok-table.ensures few
    (expression_symbols c.in_ok-clone.field-0.value)
    ∙ ap (λ (e : Expression). map (place_by c.args.places.now) (expression_symbols e)) (same c)
