use Rattle.std.proofs.Common.{ap, ◌∙◌}
use Rattle.mm_frame.specs.PlainFrames.{has_number}
use Rattle.mm_frame.specs.HypothesesView.{hypotheses_in}
use Rattle.mm_scope.specs.Sharing.{is_unasked_number}
use Rattle.mm_frame.proofs.Groups.{has_number-filter}
use Rattle.mm_scope.proofs.scopes.Scopes.own_symbols.Goals as goal

pub returns-clause-symbols : goal.returns-clause-symbols
returns-clause-symbols c = λ n.
    c.ascending.ensures.numbers n
    ∙ ap (λ ms. has_number ms n) c.in_ok-symbols.ensures
    ∙ has_number-filter (is_unasked_number (hypotheses_in c.args.self.now.hyps))
    c.args.statement.now n
