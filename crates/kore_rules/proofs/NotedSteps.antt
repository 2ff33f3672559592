-- Noting the faults of one thing and of others after it.
use Rattle.std.proofs.Common.{◌≡◌, ◌++◌, List, ℕ, sym, ap, ◌∙◌}
use Rattle.std.specs.Prelude.{Option}
use Rattle.kore_sig.specs.FirstFault.{Fault}
use Rattle.kore_sig.specs.Noted.{noted, leads_by_byte}
use Rattle.kore_sig.proofs.NotedLaws.{noted_append}
use Rattle.kore_rules.specs.GroundNotes.{not_ground_at, behind}

-- what is kept after the faults of one thing, and then after those of the rest
pub noted_step : (old new : Option ℕ) (one rest : List Fault) → not_ground_at new ≡ behind old one
    → behind new rest ≡ behind old (one ++ rest)
noted_step old new one rest e =
    ap (λ (o : Option Fault). noted leads_by_byte o rest) e
    ∙ sym (noted_append leads_by_byte (not_ground_at old) one rest)
