use Rattle.std.proofs.Common.{◌∙◌, ap, sym}
use Rattle.mm_verify.specs.Pairs.{is_pair_apart}
use Rattle.mm_verify.proofs.Spreading.{pair-read}
use Rattle.mm_verify.proofs.notes.Notes.have.Goals as goal

pub returns-clause-found : goal.returns-clause-found
returns-clause-found c is p noted =
    sym (pair-read p c.args.xs.now c.args.ys.now)
    ∙ ap (is_pair_apart p) (sym c.in_ok-write_pair.ensures)
    ∙ c.have_last.ensures is p noted
