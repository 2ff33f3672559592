-- The lines of a hint file, and what the line of a step is found to be.
use Rattle.std.specs.Prelude.{◌≡◌, ◌==◌, ◌+◌, ℕ, nat_le, List, [], ◌∷◌, length, slice_get, Option}
use Rattle.std.specs.Prelude.{Some, None, option_map, if◌then◌else◌}
use Rattle.std.specs.Option.{option_and_then}
use Rattle.term_core.specs.Terms.{Tree}
use Rattle.term_core.specs.Patterns.{ground_pattern}
use Rattle.rule_core.specs.Rules.{RewriteRule}
use Rattle.rule_core.specs.Theories.{RewriteTheory}
use Rattle.rule_core.specs.Evaluation.{Cause}
use Rattle.rule_core.specs.Runs.{steps_on, stays, stops}
use Rattle.kore_check.specs.ValueTexts.{number_of_digits}
use Rattle.hint_file.specs.Paths.{StepsBy}
use Rattle.hint_file.specs.HintTexts.{shown_text}

-- what stands before the first such byte, and what follows it
abbrev pub cut_at : ℕ → List ℕ → Option (List ℕ × List ℕ)
cut_at b [] = None
cut_at b (x ∷ xs) =
    if x == b then Some ([], xs)
    else option_map (λ (p : List ℕ × List ℕ). (x ∷ p.0, p.1)) (cut_at b xs)

-- the number of one to ten digits
abbrev pub short_number : List ℕ → Option ℕ
short_number digits = if nat_le (length digits) 10 then number_of_digits digits else None

-- the byte that begins the line of a step, and the text after the space
abbrev pub line_parts : List ℕ → Option (ℕ × List ℕ)
line_parts line =
    option_and_then
    (λ (p : List ℕ × List ℕ). option_map (λ (n : ℕ). (n, p.1)) (short_number p.0)) (cut_at 32 line)

-- the number of the first rule whose axiom is at this byte, where i is the number of the first rule
abbrev pub number_from : ℕ → List RewriteRule → ℕ → Option ℕ
number_from i [] byte = None
number_from i (rule ∷ rules) byte =
    if rule.place == byte then Some i else number_from (i + 1) rules byte

-- the number of the rule whose axiom is at this byte
abbrev pub rule_number : RewriteTheory → ℕ → Option ℕ
rule_number theory byte = number_from 0 theory.rules byte

-- the line begins with the byte of this rule's axiom, and then has this text
pub record NamesRule (theory : RewriteTheory) (line : List ℕ) (number : ℕ) (rule : RewriteRule)
    (text : List ℕ) : Type 0 where
  pub byte : ℕ
  pub parts : line_parts line ≡ Some (byte, text)
  pub numbered : rule_number theory byte ≡ Some number
  pub there : slice_get theory.rules number ≡ Some rule

-- a line is good, and leads to this configuration with so many calls left; or it is bad by a number
pub data LineOutcome : Type 0 where
  good : Tree → ℕ → LineOutcome
  bad : ℕ → LineOutcome

-- What the line of a step from this configuration, with this many calls left, is found to be. It is
-- bad by 1 without a number, by 2 without a rule, by 3 if the rule makes no step, by 4 if the step
-- is blocked, and by 5 if its text is not that of the configuration after the step.
pub data ReadsLine (theory : RewriteTheory) (t : Tree) (c : ℕ) (line : List ℕ) : LineOutcome
    → Type 0 where
  no_number : line_parts line ≡ None → ReadsLine theory t c line (bad 1)
  no_rule : {byte : ℕ} {text : List ℕ} → line_parts line ≡ Some (byte, text)
      → rule_number theory byte ≡ None → ReadsLine theory t c line (bad 2)
  no_step : {number : ℕ} {rule : RewriteRule} {text : List ℕ}
      → NamesRule theory line number rule text → StepsBy theory rule t c stays
      → ReadsLine theory t c line (bad 3)
  blocked_step : {number : ℕ} {rule : RewriteRule} {text : List ℕ} {cause : Cause}
      → NamesRule theory line number rule text → StepsBy theory rule t c (stops cause)
      → ReadsLine theory t c line (bad 4)
  other_text : {number d : ℕ} {rule : RewriteRule} {text : List ℕ} {u : Tree}
      → NamesRule theory line number rule text → StepsBy theory rule t c (steps_on u d)
      → (shown_text theory.sig (ground_pattern u) ≡ Some text → ⊥)
      → ReadsLine theory t c line (bad 5)
  step_read : {number d : ℕ} {rule : RewriteRule} {text : List ℕ} {u : Tree}
      → NamesRule theory line number rule text → StepsBy theory rule t c (steps_on u d)
      → shown_text theory.sig (ground_pattern u) ≡ Some text
      → ReadsLine theory t c line (good u d)
