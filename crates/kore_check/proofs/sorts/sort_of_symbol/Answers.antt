use Rattle.std.proofs.Common.{rules, ◌≡◌, length, map, Some, sym, ◌∙◌, ap, arith, true, eq-eqb}
use Rattle.std.proofs.Common.{refl}
use Rattle.std.specs.Prelude.{◌==◌, is_some, option_copied}
use Rattle.std.proofs.lemmas.List.{length-map}
use Rattle.kore_ast.specs.Plain.{plain_sort}
use Rattle.kore_check.specs.PatternSorts.{sort_numbers, result_sort}
use Rattle.kore_check.proofs.SortLaws.{result-declared}
use Rattle.kore_check.proofs.sorts.sort_of_symbol.Goals as goal

pub returns : goal.returns
returns c =
    let symbol : option_copied c.args.symbol ≡ Some c.in_ok-symbol.symbol.now = search rules in
    let count : (length (map plain_sort c.args.sorts.now) == c.in_ok-symbol.symbol.now.params) ≡
    true =
    eq-eqb _ _
    (omega (arith, length-map c.args.sorts.now plain_sort, c.if-sorts-symbol.false)) in
    let all : true ≡ is_some (sort_numbers c.args.sig.now (map plain_sort c.args.sorts.now)) =
    sym c.if-not-all_declared.false ∙ c.requires.all in
    c.wanted.ensures
    ∙ result-declared c.args.sig.now c.in_ok-symbol.symbol.now (map plain_sort c.args.sorts.now)
    (sort_numbers c.args.sig.now (map plain_sort c.args.sorts.now)) refl all count
    ∙ ap (λ s. result_sort s (map plain_sort c.args.sorts.now)
    (sort_numbers c.args.sig.now (map plain_sort c.args.sorts.now))) (sym symbol)
