use Rattle.std.proofs.Common.{arith, ◌<◌, ◌∙◌, ap, sym, length}
use Rattle.mm_verify.specs.Pairs.{is_pair_apart}
use Rattle.mm_verify.proofs.Spreading.{all-get}
use Rattle.mm_verify.proofs.notes.Notes.is_last.Goals as goal

pub returns : goal.returns
returns c is p noted =
    let lt : c.args.number < length c.args.self.now.pairs =
    omega (arith, c.len.ensures, c.if-number-len.false) in
    ap (is_pair_apart p)
    (sym c.deref.ensures.value ∙ sym (c.are_same.ensures is) ∙ c.entry.ensures)
    ∙ all-get (is_pair_apart p) c.args.self.now.pairs c.args.number c.entry.result.now noted lt
