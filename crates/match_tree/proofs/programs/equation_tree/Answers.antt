use Rattle.std.proofs.Common.{◌≡◌, ◌<◌, ◌∙◌, ap, map, length, arith}
use Rattle.std.proofs.lemmas.List.{length-map}
use Rattle.rule_core.specs.ProgramView.{theory_of, function_equation}
use Rattle.rule_core.specs.Theories.{equations_of}
use Rattle.rule_core.specs.declared.rules.Equation.{Equation}
use Rattle.pat_matrix.specs.Rows.{collapsed_rows}
use Rattle.pat_matrix.specs.MatrixView.{lent_rows}
use Rattle.match_tree.specs.Programs.{equation_row}
use Rattle.match_tree.proofs.ProgramRows.{lower_is_declared, mapped_after, other_lists}
use Rattle.match_tree.proofs.ProgramRows.{rows_count, own_equations}
use Rattle.match_tree.proofs.programs.equation_tree.Goals as goal

pub of-requires-clause-count : goal.of-requires-clause-count
of-requires-clause-count c =
    let within : c.args.sym.0 < length c.args.program.now.equations.items =
    omega (
      arith,
      c.requires.there,
      length-map c.args.program.now.equations.items
          (λ es. map function_equation es.items),
    ) in
    let same : collapsed_rows (lent_rows c.deref-2.result.now)
    ≡ map equation_row (equations_of (theory_of c.args.program.now) c.args.sym.0) =
    ap (λ rs. collapsed_rows (lent_rows rs)) c.deref-2.ensures.value ∙ c.in_ok-rows.ensures
    ∙ ap (map (λ (e : Equation). equation_row (function_equation e))) c.deref.ensures.value
    ∙ mapped_after equation_row function_equation c.index.result.now.items
    ∙ ap (map equation_row)
    (own_equations c.args.program.now c.args.sym.0 c.index.result.now within c.index.ensures) in
    let count : length c.deref-2.result.now
    ≡ length (equations_of (theory_of c.args.program.now) c.args.sym.0) =
    rows_count equation_row (equations_of (theory_of c.args.program.now) c.args.sym.0)
    c.deref-2.result.now same in
    omega (arith, count, c.requires.equations)

pub of-requires-clause-sorts : goal.of-requires-clause-sorts
of-requires-clause-sorts c =
    λ a b below.
    let lt =
    lower_is_declared c.args.program.now.sig a b c.requires.sorted.signature.pairs below in
    omega (arith, lt, c.len-sorts.ensures)

pub returns : goal.returns
returns c =
    let within : c.args.sym.0 < length c.args.program.now.equations.items =
    omega (
      arith,
      c.requires.there,
      length-map c.args.program.now.equations.items
          (λ es. map function_equation es.items),
    ) in
    other_lists c.of.result c.args.program.now.sig.subsorts
    (collapsed_rows (lent_rows c.deref-2.result.now))
    (map equation_row (equations_of (theory_of c.args.program.now) c.args.sym.0))
    (ap (λ rs. collapsed_rows (lent_rows rs)) c.deref-2.ensures.value ∙ c.in_ok-rows.ensures
    ∙ ap (map (λ (e : Equation). equation_row (function_equation e))) c.deref.ensures.value
    ∙ mapped_after equation_row function_equation c.index.result.now.items
    ∙ ap (map equation_row)
    (own_equations c.args.program.now c.args.sym.0 c.index.result.now within c.index.ensures))
    c.of.ensures
