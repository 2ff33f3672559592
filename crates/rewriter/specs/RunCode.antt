-- How the state of a run is stored.
use Rattle.std.specs.Prelude.{ℕ, refl}
use Rattle.std.specs.Coded.{Coded, code_by, coded×, coded_ℕ}
use Rattle.term_core.specs.Terms.{Tree}
use Rattle.term_core.specs.TermCode.{tree_code}
use Rattle.rewriter.specs.Configurations.{RunState}

-- it is stored as the pair of its fields
abbrev pub run_state_code : Coded RunState
run_state_code =
    code_by (Tree × ℕ) (coded× tree_code coded_ℕ) (λ s. (s.config, s.calls))
    (λ p. record { config = p.0; calls = p.1 })
    (λ _. refl)
