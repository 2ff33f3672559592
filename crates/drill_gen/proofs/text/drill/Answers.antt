use Rattle.std.proofs.Common.{◌≡◌, ◌∙◌, ◌++◌, ◌+◌, ℕ, suc, List, ap, append_assoc, arith}
use Rattle.drill_gen.specs.Drill.{first_lines, symbol_lines, rule_line, rule_lines}
use Rattle.drill_gen.proofs.text.drill.Goals as goal

pub loop-i-2-preserved : goal.loop-i-2-preserved
loop-i-2-preserved c =
    let i = c.loop-i-2.i in
    let on : suc i ≡ i + 1 = omega arith in
    let front : List ℕ = first_lines ++ symbol_lines (c.args.steps + 1) in
    c.in_ok-push_rule_line.ensures
    ∙ ap (λ (text : List ℕ). text ++ rule_line i) c.loop-i-2.invariant
    ∙ append_assoc front (rule_lines i) (rule_line i)
    ∙ ap (λ (n : ℕ). front ++ rule_lines n) on
