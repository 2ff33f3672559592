use Rattle.std.proofs.Common.{[], ◌∷◌, ◌++◌, append_assoc}
use Rattle.std.specs.Prelude.{codes}
use Rattle.kore_prove.proofs.report.send_hint_refusal.Goals as goal

pub returns-clause-sent : goal.returns-clause-sent
returns-clause-sent g c =
    rw (
      ← c.format.ensures.text,
      ← c.format-2.ensures.text,
      append_assoc c.format.result.now
          (codes " at line " ++ c.format-2.result.now) (10 ∷ []),
    ) c.send_pieces.ensures.sent
