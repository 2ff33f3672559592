use Rattle.std.proofs.Common.{◌≡◌, ◌∙◌, ap, sym, arith, take}
use Rattle.std.specs.Prelude.{option_copied}
use Rattle.rule_core.proofs.AcSymbols.{symbol_found}
use Rattle.kore_rules.specs.AxiomsRead.{is_marked}
use Rattle.kore_rules.specs.ScalarSorts.{entry_makes}
use Rattle.kore_rules.proofs.MarkLaws.{marked_entry, makes_declared}
use Rattle.kore_rules.proofs.sorts.mark_results.Goals as goal

pub mark_result-requires : goal.mark_result-requires
mark_result-requires c = λ n e.
    let found =
    symbol_found c.args.sig.now c.loop-number.number c.in-Some.symbol.now
    (ap option_copied (sym c.in-Some.is) ∙ c.value.ensures) in
    let within =
    makes_declared c.args.sig.now c.in-Some.symbol.now n
    (c.requires.signature.declared c.loop-number.number c.in-Some.symbol.now found) e in
    let len = c.loop-number.invariant.len in
    let same = c.requires.len in omega (arith, within, len, same)

pub loop-number-preserved : goal.loop-number-preserved
loop-number-preserved c =
    let found =
    symbol_found c.args.sig.now c.loop-number.number c.in-Some.symbol.now
    (ap option_copied (sym c.in-Some.is) ∙ c.value.ensures) in
    record {
      len = c.mark_result.ensures.len ∙ c.loop-number.invariant.len;
      marked = λ n.
          marked_entry (entry_makes n) c.args.sig.now.symbols c.loop-number.number
          (found.0, c.in-Some.symbol.now) (is_marked c.args.marks.now.items n)
          (is_marked c.loop-number.marks.items n) (is_marked c.mark_result.new.marks.items n)
          found.1
          (c.loop-number.invariant.marked n) (c.mark_result.ensures.marked n);
    }
