use Rattle.std.proofs.Common.{map}
use Rattle.std.specs.Prelude.{flat_map, option_copied}
use Rattle.kore_ast.specs.Plain.{plain_sort}
use Rattle.kore_check.specs.PatternFaults.{sort_faults, symbol_faults}
use Rattle.kore_check.proofs.Applications.{after-append}
use Rattle.kore_check.proofs.heads.check_head.Goals as goal

pub returns-clause-first : goal.returns-clause-first
returns-clause-first c =
    after-append c.args.first.now c.check_sorts-all_declared.new.first _
    (flat_map (sort_faults c.args.sig.now) (map plain_sort c.args.sorts.now))
    (symbol_faults c.args.sig.now c.args.at (option_copied c.args.symbol)
    (map plain_sort c.args.sorts.now) c.args.args)
    c.check_sorts-all_declared.ensures.first c.check_symbol.ensures
