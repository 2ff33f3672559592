use Rattle.std.proofs.Common.{rules, arith, sym, ◌≤◌, length}
use Rattle.mm_verify.proofs.Cuts.{start_high, end_low, end_high, get_or-cut}
use Rattle.mm_verify.proofs.lists.piece.Goals as goal

pub offset_bounds-symbols-from : goal.offset_bounds-symbols-from
offset_bounds-symbols-from c =
    let low : c.start-from.result ≤ length c.args.symbols.now =
    omega (
      arith,
      c.start-from.ensures,
      start_high (length c.args.symbols.now) 0 c.args.ends.now c.args.i c.requires.cut
          (omega (arith, c.requires.within)),
    ) in
    grind arith

pub slice_bounds-result-count : goal.slice_bounds-result-count
slice_bounds-result-count c =
    omega (
      arith,
      c.start-from.ensures,
      end_low (length c.args.symbols.now) 0 c.args.ends.now c.args.i 0 c.requires.cut
          c.requires.within,
    )

pub slice_bounds-result-start : goal.slice_bounds-result-start
slice_bounds-result-start c =
    let low = slice_bounds-result-count c in
    let high =
    end_high (length c.args.symbols.now) 0 c.args.ends.now c.args.i 0 c.requires.cut
    c.requires.within in
    search (rules, arith)

pub slice_bounds-result-end : goal.slice_bounds-result-end
slice_bounds-result-end c =
    let low = slice_bounds-result-count c in
    let high =
    end_high (length c.args.symbols.now) 0 c.args.ends.now c.args.i 0 c.requires.cut
    c.requires.within in
    search (rules, arith)

pub returns : goal.returns
returns c =
    rw c.start-from.ensures
    (sym (get_or-cut c.args.symbols.now 0 c.args.ends.now c.args.i 0 _ c.requires.within))
