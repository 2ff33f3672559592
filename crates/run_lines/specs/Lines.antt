-- The two lines of a run: its end, and what it keeps.
use Rattle.std.specs.Prelude.{ℕ, List, [], ◌∷◌, ◌++◌, Option, option_map, unwrap_or, slice_get}
use Rattle.std.specs.Prelude.{codes, decimal}
use Rattle.kore_text.specs.Trees.{PatternTree}
use Rattle.kore_print.specs.CanonicalText.{canonical_text}
use Rattle.kore_show.specs.KorePatterns.{declared_name, kore_pattern}
use Rattle.term_core.specs.HookValues.{Hook, hooks}
use Rattle.term_core.specs.Patterns.{Pattern}
use Rattle.rule_core.specs.Evaluation.{Cause, no_value, closed, no_equation, no_call_left, too_high}
use Rattle.rule_core.specs.Evaluation.{too_nested}
use Rattle.rule_core.specs.Runs.{Run, stuck, limited, stopped, unstarted, kept_by}
use Rattle.rule_core.specs.declared.signature.Signature.{Signature}

-- the name of the hook with this number
unfoldable pub hook_name : ℕ → List ℕ
hook_name row = unwrap_or (option_map (λ (h : Hook). h.name) (slice_get hooks row)) []

-- the name of the symbol with this number
unfoldable pub symbol_name : Signature → ℕ → List ℕ
symbol_name sig f = unwrap_or (declared_name sig.symbols f) []

-- why an evaluation has no value, in a word
abbrev pub cause_word : Cause → List ℕ
cause_word (no_value row why) = codes "NoValue"
cause_word (closed f) = codes "Closed"
cause_word (no_equation f) = codes "NoEquation"
cause_word (no_call_left f) = codes "Calls"
cause_word (too_high f) = codes "Height"
cause_word (too_nested f) = codes "Nest"

-- the name of the hook or of the symbol at which the evaluation has no value
abbrev pub cause_name : Signature → Cause → List ℕ
cause_name sig (no_value row why) = hook_name row
cause_name sig (closed f) = symbol_name sig f
cause_name sig (no_equation f) = symbol_name sig f
cause_name sig (no_call_left f) = symbol_name sig f
cause_name sig (too_high f) = symbol_name sig f
cause_name sig (too_nested f) = symbol_name sig f

-- `blocked N CAUSE NAME`
abbrev pub blocked_line : Signature → ℕ → Cause → List ℕ
blocked_line sig n cause =
    codes "blocked "
    ++ (decimal n ++ (codes " " ++ (cause_word cause ++ (codes " " ++ cause_name sig cause))))

-- `stuck N`, `limit N` or `blocked N CAUSE NAME`; a run that does not start is blocked after 0
-- steps
abbrev pub end_line : Signature → Run → List ℕ
end_line sig (stuck n t) = codes "stuck " ++ decimal n
end_line sig (limited n t) = codes "limit " ++ decimal n
end_line sig (stopped n cause t) = blocked_line sig n cause
end_line sig (unstarted cause) = blocked_line sig 0 cause

-- the Kore pattern of what the run keeps: the last configuration, or the initial term as it was
-- read
abbrev pub kept_pattern : Signature → Pattern → Run → Option PatternTree
kept_pattern sig start run = kore_pattern sig (kept_by start run)

-- a line and the canonical text of a pattern, each followed by a newline
abbrev pub two_lines : List ℕ → PatternTree → List ℕ
two_lines line p = line ++ (10 ∷ (canonical_text p ++ (10 ∷ [])))

-- the two lines of a run, if what it keeps has a Kore pattern
abbrev pub lines_of : Signature → Pattern → Run → Option (List ℕ)
lines_of sig start run = option_map (two_lines (end_line sig run)) (kept_pattern sig start run)
