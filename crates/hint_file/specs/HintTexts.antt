-- The hint text of a path. Line 1 is `kore-hints 1`. Line 2 is the initial term as it was read.
-- Each further line is a step: the byte of its rule's axiom in decimal, a space, and the
-- configuration after it. Patterns are in canonical text, and each line ends in LF.
use Rattle.std.specs.Prelude.{ℕ, List, [], ◌∷◌, ◌++◌, Option, Some, None, option_map, codes}
use Rattle.std.specs.Prelude.{decimal}
use Rattle.std.specs.Option.{option_and_then}
use Rattle.term_core.specs.Terms.{Tree}
use Rattle.term_core.specs.Patterns.{Pattern, ground_pattern}
use Rattle.rule_core.specs.Records.{StepRecord, result_of}
use Rattle.rule_core.specs.Theories.{RewriteTheory}
use Rattle.rule_core.specs.declared.signature.Signature.{Signature}
use Rattle.kore_print.specs.CanonicalText.{canonical_text}
use Rattle.kore_show.specs.KorePatterns.{kore_pattern}
use Rattle.hint_file.specs.Paths.{PathStep, numbered_step}

-- the canonical text of a pattern, if it has a Kore pattern
abbrev pub shown_text : Signature → Pattern → Option (List ℕ)
shown_text sig p = option_map canonical_text (kore_pattern sig p)

-- a line is ended by LF
abbrev pub ended : List ℕ → List ℕ
ended text = text ++ (10 ∷ [])

abbrev pub first_line : List ℕ
first_line = codes "kore-hints 1"

-- lines 1 and 2
abbrev pub first_lines : Signature → Pattern → Option (List ℕ)
first_lines sig start =
    option_map (λ (text : List ℕ). ended first_line ++ ended text) (shown_text sig start)

-- the line of a step
abbrev pub step_line : Signature → PathStep → Option (List ℕ)
step_line sig step =
    option_map (λ (text : List ℕ). decimal step.byte ++ (32 ∷ ended text))
    (shown_text sig (ground_pattern step.after))

-- the line of the step by the rule with this number to a configuration
abbrev pub numbered_line : RewriteTheory → ℕ → Tree → Option (List ℕ)
numbered_line theory number after =
    option_and_then (step_line theory.sig) (numbered_step theory number after)

-- the line of the step that a record states
abbrev pub stated_line : RewriteTheory → StepRecord → Option (List ℕ)
stated_line theory s = numbered_line theory s.rule (result_of s.right)

-- one text after another
abbrev pub joined : Option (List ℕ) → Option (List ℕ) → Option (List ℕ)
joined None others = None
joined (Some text) None = None
joined (Some text) (Some others) = Some (text ++ others)

-- the lines of the steps
abbrev pub step_lines : Signature → List PathStep → Option (List ℕ)
step_lines sig [] = Some []
step_lines sig (step ∷ steps) = joined (step_line sig step) (step_lines sig steps)

-- the hint text of steps from an initial term
abbrev pub hint_text : Signature → Pattern → List PathStep → Option (List ℕ)
hint_text sig start steps = joined (first_lines sig start) (step_lines sig steps)
