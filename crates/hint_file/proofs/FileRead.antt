-- What a hint file is found to be.
use Rattle.std.proofs.Common.{◌≡◌, ℕ, List, [], Option, Some, refl, sym, subst}
use Rattle.term_core.specs.Terms.{Tree}
use Rattle.term_core.specs.Patterns.{Pattern}
use Rattle.rule_core.specs.Theories.{RewriteTheory}
use Rattle.rule_core.specs.Evaluation.{value, Evaluates}
use Rattle.rule_core.specs.FirstRule.{most_nesting}
use Rattle.rule_core.specs.Records.{Record, StepRecord, Records, result_of}
use Rattle.rule_core.specs.Runs.{Reaches, at_start, after_step}
use Rattle.fun_eval.specs.EvalEnds.{EndsBy}
use Rattle.fun_eval.specs.declared.answer.EvalEnd.TheVariants as eval_end
use Rattle.rule_core.specs.ProgramView.{theory_of}
use Rattle.rule_core.specs.declared.rules.Blocked.{Blocked}
use Rattle.rule_core.specs.declared.rules.Program.{Program}
use Rattle.kore_rules.specs.Acceptance.{IsAcceptedTerm}
use Rattle.hint_file.specs.HintTexts.{first_line}
use Rattle.hint_file.specs.HintLines.{cut_at}
use Rattle.hint_file.specs.HintFiles.{HasTermLine, ReadsHints, ReadsSteps, bad_line, steps_read}
use Rattle.hint_file.specs.HintFiles.{term_blocked, IsReadPath, RecordsLines, no_bad_line}
use Rattle.hint_file.specs.ReadPaths.{IsFirstBad}
use Rattle.hint_file.specs.declared.ends.HintEnd.{HintEnd}
use Rattle.hint_file.specs.declared.ends.HintEnd.TheVariants.{Bad, Memory}

-- after no step a run is at the value of its initial term
begun_at : {theory : RewriteTheory} {start : Pattern} {calls n c : ℕ} {t : Tree}
    → Reaches theory start calls n t c → n ≡ 0
    → Evaluates theory most_nesting [] start calls (value t c)
begun_at (at_start e) is = e
begun_at (after_step before step) is = absurd (let no : ⊥ = cc in no)

pub begun : (p q : Program) (start : Pattern) (calls c d : ℕ) (t u : Tree)
    → Reaches (theory_of q) start calls 0 t c → q ≡ p → u ≡ t → d ≡ c
    → Evaluates (theory_of p) most_nesting [] start calls (value u d)
begun p q start calls c d t u reached same term left =
    subst (λ (r : Program). Evaluates (theory_of r) most_nesting [] start calls (value u d)) same
    (subst (λ (v : Tree). Evaluates (theory_of q) most_nesting [] start calls (value v d))
    (sym term) (subst (λ (n : ℕ). Evaluates (theory_of q) most_nesting [] start calls (value t n))
    (sym left) (begun_at reached refl)))

pub has_term_line : (bytes first rest line more : List ℕ) → first ≡ first_line
    → cut_at 10 bytes ≡ Some (first, rest) → cut_at 10 rest ≡ Some (line, more)
    → HasTermLine bytes line more
has_term_line bytes first rest line more is cut next =
    (rest, subst (λ (u : List ℕ). cut_at 10 bytes ≡ Some (u, rest)) is cut, next)

-- the term has no value
pub start_ends : (theory : RewriteTheory) (top : Option ℕ) (calls : ℕ) (bytes line more : List ℕ)
    (start : Pattern) (why : Blocked) → HasTermLine bytes line more
    → IsAcceptedTerm theory.sig top line start
    → EndsBy (Evaluates theory most_nesting [] start calls) (eval_end.Blocked why)
    → ReadsHints theory top calls bytes (bad_line 2 4)
start_ends theory top calls bytes line more start why lines accepted h =
    term_blocked lines accepted h

-- a line of a step is bad
pub steps_end : (theory : RewriteTheory) (top : Option ℕ) (calls c : ℕ) (bytes line more : List ℕ)
    (start : Pattern) (t : Tree) (end : HintEnd) → HasTermLine bytes line more
    → IsAcceptedTerm theory.sig top line start
    → Evaluates theory most_nesting [] start calls (value t c)
    → IsFirstBad (ReadsSteps theory 3 t c more) end
    → IsFirstBad (ReadsHints theory top calls bytes) end
steps_end theory top calls c bytes line more start t (Bad n k) lines accepted evaluated h =
    steps_read lines accepted evaluated h
steps_end theory top calls c bytes line more start t Memory lines accepted evaluated h = tt

pub file_read : (theory : RewriteTheory) (top : Option ℕ) (calls c : ℕ) (bytes line more : List ℕ)
    (start : Pattern) (t : Tree) (first : Record) (steps : List StepRecord)
    → HasTermLine bytes line more → IsAcceptedTerm theory.sig top line start
    → Evaluates theory most_nesting [] start calls (value t c) → Records theory [] start first
    → result_of first ≡ t → RecordsLines theory t c more steps
    → ReadsSteps theory 3 t c more no_bad_line
    → IsReadPath theory top calls bytes start first steps
file_read theory top calls c bytes line more start t first steps lines accepted evaluated recorded
    is stepped read = record {
      line = line;
      more = more;
      lines = lines;
      accepted = accepted;
      left = c;
      evaluated =
          subst (λ (u : Tree). Evaluates theory most_nesting [] start calls (value u c)) (sym is)
          evaluated;
      recorded = recorded;
      stepped = subst (λ (u : Tree). RecordsLines theory u c more steps) (sym is) stepped;
      found = steps_read lines accepted evaluated read;
    }
