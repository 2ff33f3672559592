-- What a line is found to be.
use Rattle.std.proofs.Common.{◌≡◌, ℕ, ◌<◌, List, length, Some, sym, ◌∙◌, ap, subst}
use Rattle.std.proofs.Common.{arith}
use Rattle.std.specs.Prelude.{IsSome, Ok}
use Rattle.std.proofs.lemmas.Option.{slice_get_within}
use Rattle.term_core.specs.Terms.{Tree}
use Rattle.term_core.specs.Patterns.{ground_pattern}
use Rattle.rule_core.specs.Rules.{RewriteRule}
use Rattle.rule_core.specs.Theories.{RewriteTheory}
use Rattle.rule_core.specs.WellSorted.{IsWellSorted}
use Rattle.rule_core.specs.ProgramView.{theory_of}
use Rattle.rule_core.specs.Records.{result_of}
use Rattle.rule_core.specs.RecordView.{plain_record}
use Rattle.rule_core.specs.declared.records.StepRecord.{StepRecord}
use Rattle.rule_core.specs.declared.rules.Program.{Program}
use Rattle.kore_show.specs.KorePatterns.{kore_pattern}
use Rattle.kore_show.proofs.SortedShown.{sorted-shown}
use Rattle.rewriter.specs.Configurations.{IsConfiguration}
use Rattle.hint_file.specs.HintTexts.{shown_text}
use Rattle.hint_file.specs.HintLines.{NamesRule, rule_number, bad, step_read, other_text}
use Rattle.hint_file.specs.HintLines.{ReadsLine}
use Rattle.hint_file.specs.ReadAnswers.{TakesStepBy, AnswersLine}
use Rattle.hint_file.proofs.RuleNumbers.{number_there}

-- the number that a byte has is that of a rule
pub number_within : (theory : RewriteTheory) (byte number : ℕ)
    → rule_number theory byte ≡ Some number → number < length theory.rules
number_within theory byte number is =
    let found = number_there theory.rules 0 byte number is in
    omega (arith, found.1, slice_get_within theory.rules found.0 found.2 found.3)

-- a configuration has a Kore pattern
pub config_shown : (p q : Program) (t u : Tree) → q ≡ p → u ≡ t → IsWellSorted (theory_of p)
    → IsConfiguration (theory_of p) t → IsSome (kore_pattern q.sig (ground_pattern u))
config_shown p q t u same term good is =
    let shown : IsSome (kore_pattern p.sig (ground_pattern t)) =
    sorted-shown p.sig (ground_pattern t) is.0 good.signature is.2 in
    subst (λ (r : Program). IsSome (kore_pattern r.sig (ground_pattern u))) (sym same)
    (subst (λ (v : Tree). IsSome (kore_pattern p.sig (ground_pattern v))) (sym term) shown)

pub line_read : (theory : RewriteTheory) (t : Tree) (c : ℕ) (line : List ℕ) (number left : ℕ)
    (rule : RewriteRule) (text : List ℕ) (s : StepRecord)
    → NamesRule theory line number rule text
    → TakesStepBy theory rule number t c (Ok (Some (s, left)))
    → shown_text theory.sig (ground_pattern (result_of (plain_record s.right))) ≡ Some text
    → AnswersLine theory t c line (Ok (s, left))
line_read theory t c line number left rule text s names made shown = (
  step_read names made.0 shown,
  record {
    rule = rule;
    text = text;
    names = subst (λ (n : ℕ). NamesRule theory line n rule text) (sym made.2) names;
    by = made.0;
    follows = made.1;
    shown = shown;
  },
  made.3,
)

pub line_differs : (theory : RewriteTheory) (t : Tree) (c : ℕ) (line : List ℕ) (number left : ℕ)
    (rule : RewriteRule) (text : List ℕ) (s : StepRecord)
    → NamesRule theory line number rule text
    → TakesStepBy theory rule number t c (Ok (Some (s, left)))
    → (shown_text theory.sig (ground_pattern (result_of (plain_record s.right))) ≡ Some text → ⊥)
    → ReadsLine theory t c line (bad 5)
line_differs theory t c line number left rule text s names made other =
    other_text names made.0 other

-- the text of an equal term, in an equal signature
pub text_same : (p q : Program) (t u : Tree) → q ≡ p → u ≡ t
    → shown_text p.sig (ground_pattern t) ≡ shown_text q.sig (ground_pattern u)
text_same p q t u same term =
    ap (λ (r : Program). shown_text r.sig (ground_pattern t)) (sym same)
    ∙ ap (λ (v : Tree). shown_text q.sig (ground_pattern v)) (sym term)
