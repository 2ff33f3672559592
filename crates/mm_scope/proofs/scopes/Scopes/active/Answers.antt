use Rattle.std.proofs.Common.{sym, ap, ◌∙◌}
use Rattle.std.specs.Prelude.{option_map}
use Rattle.mm_scope.specs.ScopeState.{scope_state}
use Rattle.mm_frame.specs.Numbered.{named_hypothesis}
use Rattle.mm_frame.specs.PlainFrames.{plain_hypothesis}
use Rattle.mm_scope.proofs.StandReads.{hypothesis-found, map-twice}
use Rattle.mm_scope.proofs.scopes.Scopes.active.Goals as goal

pub returns-clause-tells : goal.returns-clause-tells
returns-clause-tells a =
    λ c name w naming names. hypothesis-found (scope_state a.args.self.now) c name w naming names
    a.args.label.now ∙ ap (option_map (named_hypothesis name)) (sym a.hypothesis.ensures)
    ∙ map-twice (λ h. plain_hypothesis h.now) (named_hypothesis name) a.hypothesis.result
