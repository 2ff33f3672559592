use Rattle.std.proofs.Common.{ℕ, List, [], Option, ap}
use Rattle.std.specs.Prelude.{unwrap_or}
use Rattle.run_lines.specs.Lines.{symbol_name}
use Rattle.run_lines.proofs.end_line.symbol_name.Goals as goal

pub returns-in-Some : goal.returns-in-Some
unfolding symbol_name
returns-in-Some c = ap (λ (o : Option (List ℕ)). unwrap_or o []) c.in-Some.ensures

pub returns-in-None : goal.returns-in-None
unfolding symbol_name
returns-in-None c = ap (λ (o : Option (List ℕ)). unwrap_or o []) c.in-None.ensures
