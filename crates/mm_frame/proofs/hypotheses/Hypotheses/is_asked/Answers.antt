use Rattle.std.proofs.Common.{ap, sym, ◌∙◌}
use Rattle.std.specs.Prelude.{nat_lt}
use Rattle.mm_frame.specs.HypothesesView.{hypotheses_in}
use Rattle.mm_frame.proofs.Counting.{counts_in}
use Rattle.mm_frame.proofs.hypotheses.Hypotheses.is_asked.Goals as goal

pub returns : goal.returns
returns c =
    c.has.ensures ∙ ap (nat_lt 0) (c.args.self.now.counted c.args.n)
    ∙ sym (counts_in c.args.n (hypotheses_in c.args.self.now))
