use Rattle.std.proofs.Common.{sym, ◌∙◌, ap}
use Rattle.std.specs.Prelude.{option_copied}
use Rattle.rule_core.proofs.MatchAnswers.{bound_known}
use Rattle.rule_core.proofs.matching.bind_term.Goals as goal

pub returns-in-Some-clause-found : goal.returns-in-Some-clause-found
returns-in-Some-clause-found c =
    bound_known _ c.in-Some.known.now _ _ _ _ (sym c.get.ensures ∙ ap option_copied c.in-Some.is)
    c.same.ensures
