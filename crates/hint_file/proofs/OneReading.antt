-- A line and a file have one outcome.
use Rattle.std.proofs.Common.{◌≡◌, ℕ, suc, ◌⊎◌, inl, inr, List, [], Option, Some, None, refl, sym}
use Rattle.std.proofs.Common.{◌∙◌}
use Rattle.std.proofs.Common.{subst}
use Rattle.std.specs.Prelude.{slice_get}
use Rattle.term_core.specs.Terms.{Tree}
use Rattle.term_core.specs.Patterns.{Pattern, ground_pattern}
use Rattle.rule_core.specs.Rules.{RewriteRule}
use Rattle.rule_core.specs.Theories.{RewriteTheory}
use Rattle.rule_core.specs.WellSorted.{IsWellSorted}
use Rattle.rule_core.specs.Evaluation.{Evaluated, value, blocked, Evaluates}
use Rattle.rule_core.specs.FirstRule.{most_nesting}
use Rattle.rule_core.specs.Runs.{Stepped, steps_on, stays, stops}
use Rattle.rule_core.proofs.Determined.{evaluation_is_unique}
use Rattle.kore_sig.specs.FirstFault.{Fault}
use Rattle.kore_rules.specs.Acceptance.{IsAcceptedTerm}
use Rattle.kore_rules.specs.AcceptanceLaws.{AcceptedTermIsNotRefused, StartIsOne}
use Rattle.kore_rules.specs.Refused.{IsRefusedTerm}
use Rattle.hint_file.specs.HintTexts.{first_line, shown_text}
use Rattle.hint_file.specs.Paths.{StepsBy}
use Rattle.hint_file.specs.HintLines.{cut_at, line_parts, rule_number, NamesRule, LineOutcome, good}
use Rattle.hint_file.specs.HintLines.{bad, ReadsLine, no_number, no_rule, no_step, blocked_step}
use Rattle.hint_file.specs.HintLines.{other_text, step_read}
use Rattle.hint_file.specs.HintFiles.{FileOutcome, no_bad_line, bad_line, ReadsSteps, all_read}
use Rattle.hint_file.specs.HintFiles.{not_ended, bad_step, good_step, HasTermLine, ReadsHints}
use Rattle.hint_file.specs.HintFiles.{no_first_line, other_first_line, no_term_line, term_refused}
use Rattle.hint_file.specs.HintFiles.{term_blocked, steps_read}
use Rattle.hint_file.specs.ReadingLaws.{LineIsOne, FileIsOne}
use Rattle.hint_file.proofs.OneStep.{step_by_is_one}

-- ---- a line

abbrev AfterStep : RewriteTheory → List ℕ → Stepped → LineOutcome → Type 0
AfterStep theory text (steps_on u d) r =
    ((shown_text theory.sig (ground_pattern u) ≡ Some text) × (r ≡ good u d))
    ⊎ ((shown_text theory.sig (ground_pattern u) ≡ Some text → ⊥) × (r ≡ bad 5))
AfterStep theory text stays r = r ≡ bad 3
AfterStep theory text (stops cause) r = r ≡ bad 4

abbrev AtNumber : RewriteTheory → Tree → ℕ → List ℕ → Option ℕ → LineOutcome → Type 0
AtNumber theory t c text None r = r ≡ bad 2
AtNumber theory t c text (Some number) r =
    (rule : RewriteRule) × (s : Stepped) × (slice_get theory.rules number ≡ Some rule)
    × StepsBy theory rule t c s × AfterStep theory text s r

abbrev AtParts : RewriteTheory → Tree → ℕ → Option (ℕ × List ℕ) → LineOutcome → Type 0
AtParts theory t c None r = r ≡ bad 1
AtParts theory t c (Some p) r = AtNumber theory t c p.1 (rule_number theory p.0) r

named : (theory : RewriteTheory) (t : Tree) (c number : ℕ) (line text : List ℕ)
    (rule : RewriteRule) (s : Stepped) (r : LineOutcome) → NamesRule theory line number rule text
    → StepsBy theory rule t c s → AfterStep theory text s r
    → AtParts theory t c (line_parts line) r
named theory t c number line text rule s r names by after =
    subst (λ (o : Option (ℕ × List ℕ)). AtParts theory t c o r) (sym names.parts)
    (subst (λ (o : Option ℕ). AtNumber theory t c text o r) (sym names.numbered)
    (rule, s, names.there, by, after))

line_split : {theory : RewriteTheory} {t : Tree} {c : ℕ} {line : List ℕ} {r : LineOutcome}
    → ReadsLine theory t c line r → AtParts theory t c (line_parts line) r
line_split {theory} {t} {c} {r = r} (no_number h) =
    subst (λ (o : Option (ℕ × List ℕ)). AtParts theory t c o (bad 1)) (sym h) refl
line_split {theory} {t} {c} (no_rule {text = text} h k) =
    subst (λ (o : Option (ℕ × List ℕ)). AtParts theory t c o (bad 2)) (sym h)
    (subst (λ (o : Option ℕ). AtNumber theory t c text o (bad 2)) (sym k) refl)
line_split {theory} {t} {c} {line}
    (no_step {number = number} {rule = rule} {text = text} names by) =
    named theory t c number line text rule stays (bad 3) names by refl
line_split {theory} {t} {c} {line}
    (blocked_step {number = number} {rule = rule} {text = text} {cause = cause} names by) =
    named theory t c number line text rule (stops cause) (bad 4) names by refl
line_split {theory} {t} {c} {line}
    (other_text {number = number} {d = d} {rule = rule} {text = text} {u = u} names by other) =
    named theory t c number line text rule (steps_on u d) (bad 5) names by (inr (other, refl))
line_split {theory} {t} {c} {line}
    (step_read {number = number} {d = d} {rule = rule} {text = text} {u = u} names by shown) =
    named theory t c number line text rule (steps_on u d) (good u d) names by (inl (shown, refl))

one_shown : (theory : RewriteTheory) (text : List ℕ) (u : Tree) (d : ℕ) (r s : LineOutcome)
    → AfterStep theory text (steps_on u d) r → AfterStep theory text (steps_on u d) s → r ≡ s
one_shown theory text u d r s (inl a) (inl b) = a.1 ∙ sym b.1
one_shown theory text u d r s (inl a) (inr b) = absurd (b.0 a.0)
one_shown theory text u d r s (inr a) (inl b) = absurd (a.0 b.0)
one_shown theory text u d r s (inr a) (inr b) = a.1 ∙ sym b.1

one_after : (theory : RewriteTheory) (text : List ℕ) (x : Stepped) (r s : LineOutcome)
    → AfterStep theory text x r → AfterStep theory text x s → r ≡ s
one_after theory text (steps_on u d) r s h k = one_shown theory text u d r s h k
one_after theory text stays r s h k = h ∙ sym k
one_after theory text (stops cause) r s h k = h ∙ sym k

one_number : (theory : RewriteTheory) (t : Tree) (c : ℕ) (text : List ℕ) (o : Option ℕ)
    (r s : LineOutcome) → IsWellSorted theory → AtNumber theory t c text o r
    → AtNumber theory t c text o s → r ≡ s
one_number theory t c text None r s well h k = h ∙ sym k
one_number theory t c text (Some number) r s well h k =
    let both : Some k.0 ≡ Some h.0 = sym k.2 ∙ h.2 in
    let rule : k.0 ≡ h.0 = cc in
    let by : StepsBy theory h.0 t c k.1 =
    subst (λ (x : RewriteRule). StepsBy theory x t c k.1) rule k.3 in
    let step : k.1 ≡ h.1 = step_by_is_one theory number c h.0 t k.1 h.1 well h.2 by h.3 in
    one_after theory text h.1 r s h.4
    (subst (λ (x : Stepped). AfterStep theory text x s) step k.4)

one_parts : (theory : RewriteTheory) (t : Tree) (c : ℕ) (o : Option (ℕ × List ℕ))
    (r s : LineOutcome) → IsWellSorted theory → AtParts theory t c o r → AtParts theory t c o s
    → r ≡ s
one_parts theory t c None r s well h k = h ∙ sym k
one_parts theory t c (Some p) r s well h k =
    one_number theory t c p.1 (rule_number theory p.0) r s well h k

pub line_is_one : LineIsOne
line_is_one theory t c line r s well h k =
    one_parts theory t c (line_parts line) r s well (line_split h) (line_split k)

-- ---- the lines of steps

abbrev AfterLine : RewriteTheory → ℕ → List ℕ → LineOutcome → FileOutcome → Type 0
AfterLine theory n more (good u d) r = ReadsSteps theory (suc n) u d more r
AfterLine theory n more (bad k) r = r ≡ bad_line n k

abbrev AtCut : RewriteTheory → ℕ → Tree → ℕ → List ℕ → Option (List ℕ × List ℕ) → FileOutcome
    → Type 0
AtCut theory n t c bytes None r =
    ((bytes ≡ []) × (r ≡ no_bad_line)) ⊎ ((bytes ≡ [] → ⊥) × (r ≡ bad_line n 1))
AtCut theory n t c bytes (Some p) r =
    (x : LineOutcome) × ReadsLine theory t c p.0 x × AfterLine theory n p.1 x r

steps_split : {theory : RewriteTheory} {n c : ℕ} {t : Tree} {bytes : List ℕ} {r : FileOutcome}
    → ReadsSteps theory n t c bytes r → AtCut theory n t c bytes (cut_at 10 bytes) r
steps_split all_read = inl (refl, refl)
steps_split {theory} {n} {c} {t} {bytes} (not_ended some cut) =
    subst (λ (o : Option (List ℕ × List ℕ)). AtCut theory n t c bytes o (bad_line n 1)) (sym cut)
    (inr (some, refl))
steps_split {theory} {n} {c} {t} {bytes} (bad_step {k = k} cut read) =
    subst (λ (o : Option (List ℕ × List ℕ)). AtCut theory n t c bytes o (bad_line n k)) (sym cut)
    (bad k, read, refl)
steps_split {theory} {n} {c} {t} {bytes} {r} (good_step {d = d} {u = u} cut read later) =
    subst (λ (o : Option (List ℕ × List ℕ)). AtCut theory n t c bytes o r) (sym cut)
    (good u d, read, later)

one_end : (n : ℕ) (bytes : List ℕ) (s : FileOutcome) → bytes ≡ []
    → ((bytes ≡ []) × (s ≡ no_bad_line)) ⊎ ((bytes ≡ [] → ⊥) × (s ≡ bad_line n 1))
    → no_bad_line ≡ s
one_end n bytes s empty (inl a) = sym a.1
one_end n bytes s empty (inr b) = absurd (b.0 empty)

one_unended : (n : ℕ) (bytes : List ℕ) (s : FileOutcome) → (bytes ≡ [] → ⊥)
    → ((bytes ≡ []) × (s ≡ no_bad_line)) ⊎ ((bytes ≡ [] → ⊥) × (s ≡ bad_line n 1))
    → bad_line n 1 ≡ s
one_unended n bytes s some (inl a) = absurd (some a.0)
one_unended n bytes s some (inr b) = sym b.1

steps_one : (theory : RewriteTheory) → IsWellSorted theory → {n c : ℕ} {t : Tree}
    {bytes : List ℕ} {r : FileOutcome} → ReadsSteps theory n t c bytes r → (s : FileOutcome)
    → ReadsSteps theory n t c bytes s → r ≡ s
steps_one theory well {n} all_read s k = one_end n [] s refl (steps_split k)
steps_one theory well {n} {c} {t} {bytes} (not_ended some cut) s k =
    one_unended n bytes s some
    (subst (λ (o : Option (List ℕ × List ℕ)). AtCut theory n t c bytes o s) cut (steps_split k))
steps_one theory well {n} {c} {t} {bytes}
    (bad_step {k = number} {line = line} {more = more} cut read) s k =
    let other : AtCut theory n t c bytes (Some (line, more)) s =
    subst (λ (o : Option (List ℕ × List ℕ)). AtCut theory n t c bytes o s) cut (steps_split k) in
    let same : other.0 ≡ bad number =
    line_is_one theory t c line other.0 (bad number) well other.1 read in
    sym (subst (λ (x : LineOutcome). AfterLine theory n more x s) same other.2)
steps_one theory well {n} {c} {t} {bytes}
    (good_step {d = d} {u = u} {line = line} {more = more} cut read later) s k =
    let other : AtCut theory n t c bytes (Some (line, more)) s =
    subst (λ (o : Option (List ℕ × List ℕ)). AtCut theory n t c bytes o s) cut (steps_split k) in
    let same : other.0 ≡ good u d =
    line_is_one theory t c line other.0 (good u d) well other.1 read in
    steps_one theory well later s
    (subst (λ (x : LineOutcome). AfterLine theory n more x s) same other.2)

-- ---- lines 1 and 2

abbrev AfterStart : RewriteTheory → Evaluated → List ℕ → FileOutcome → Type 0
AfterStart theory (value t c) more r = ReadsSteps theory 3 t c more r
AfterStart theory (blocked cause) more r = r ≡ bad_line 2 4

record Begins (theory : RewriteTheory) (top : Option ℕ) (calls : ℕ) (line more : List ℕ)
    (r : FileOutcome) : Type 0 where
  start : Pattern
  accepted : IsAcceptedTerm theory.sig top line start
  outcome : Evaluated
  evaluated : Evaluates theory most_nesting [] start calls outcome
  after : AfterStart theory outcome more r

abbrev AtTerm : RewriteTheory → Option ℕ → ℕ → List ℕ → List ℕ → FileOutcome → Type 0
AtTerm theory top calls line more r =
    ((f : Fault) × IsRefusedTerm theory.sig top line f × (r ≡ bad_line 2 1))
    ⊎ Begins theory top calls line more r

abbrev AtSecond : RewriteTheory → Option ℕ → ℕ → Option (List ℕ × List ℕ) → FileOutcome → Type 0
AtSecond theory top calls None r = r ≡ bad_line 2 1
AtSecond theory top calls (Some p) r = AtTerm theory top calls p.0 p.1 r

abbrev AtFirst : RewriteTheory → Option ℕ → ℕ → Option (List ℕ × List ℕ) → FileOutcome → Type 0
AtFirst theory top calls None r = r ≡ bad_line 1 1
AtFirst theory top calls (Some p) r =
    ((p.0 ≡ first_line → ⊥) × (r ≡ bad_line 1 1))
    ⊎ ((p.0 ≡ first_line) × AtSecond theory top calls (cut_at 10 p.1) r)

second : (theory : RewriteTheory) (top : Option ℕ) (calls : ℕ) (bytes rest : List ℕ)
    (r : FileOutcome) → cut_at 10 bytes ≡ Some (first_line, rest)
    → AtSecond theory top calls (cut_at 10 rest) r → AtFirst theory top calls (cut_at 10 bytes) r
second theory top calls bytes rest r cut at =
    subst (λ (o : Option (List ℕ × List ℕ)). AtFirst theory top calls o r) (sym cut)
    (inr (refl, at))

term : (theory : RewriteTheory) (top : Option ℕ) (calls : ℕ) (bytes line more : List ℕ)
    (r : FileOutcome) → HasTermLine bytes line more → AtTerm theory top calls line more r
    → AtFirst theory top calls (cut_at 10 bytes) r
term theory top calls bytes line more r lines at =
    second theory top calls bytes lines.0 r lines.1
    (subst (λ (o : Option (List ℕ × List ℕ)). AtSecond theory top calls o r) (sym lines.2) at)

hints_split : {theory : RewriteTheory} {top : Option ℕ} {calls : ℕ} {bytes : List ℕ}
    {r : FileOutcome} → ReadsHints theory top calls bytes r
    → AtFirst theory top calls (cut_at 10 bytes) r
hints_split {theory} {top} {calls} (no_first_line cut) =
    subst (λ (o : Option (List ℕ × List ℕ)). AtFirst theory top calls o (bad_line 1 1)) (sym cut)
    refl
hints_split {theory} {top} {calls} (other_first_line cut other) =
    subst (λ (o : Option (List ℕ × List ℕ)). AtFirst theory top calls o (bad_line 1 1)) (sym cut)
    (inl (other, refl))
hints_split {theory} {top} {calls} {bytes} (no_term_line {rest = rest} cut next) =
    second theory top calls bytes rest (bad_line 2 1) cut
    (subst (λ (o : Option (List ℕ × List ℕ)). AtSecond theory top calls o (bad_line 2 1)) (sym next)
    refl)
hints_split {theory} {top} {calls} {bytes}
    (term_refused {line = line} {more = more} {f = f} lines refused) =
    term theory top calls bytes line more (bad_line 2 1) lines (inl (f, refused, refl))
hints_split {theory} {top} {calls} {bytes}
    (term_blocked {line = line} {more = more} {start = start} {cause = cause} lines accepted
    evaluated) =
    term theory top calls bytes line more (bad_line 2 4) lines (inr (record {
      start = start;
      accepted = accepted;
      outcome = blocked cause;
      evaluated = evaluated;
      after = refl;
    }))
hints_split {theory} {top} {calls} {bytes} {r}
    (steps_read {line = line} {more = more} {start = start} {t = t} {c = c} lines accepted evaluated
    read) =
    term theory top calls bytes line more r lines (inr (record {
      start = start;
      accepted = accepted;
      outcome = value t c;
      evaluated = evaluated;
      after = read;
    }))

one_start : (theory : RewriteTheory) (x : Evaluated) (more : List ℕ) (r s : FileOutcome)
    → IsWellSorted theory → AfterStart theory x more r → AfterStart theory x more s → r ≡ s
one_start theory (value t c) more r s well h k = steps_one theory well h s k
one_start theory (blocked cause) more r s well h k = h ∙ sym k

one_begin : (theory : RewriteTheory) (top : Option ℕ) (calls : ℕ) (line more : List ℕ)
    (r s : FileOutcome) → StartIsOne → IsWellSorted theory
    → Begins theory top calls line more r → Begins theory top calls line more s → r ≡ s
one_begin theory top calls line more r s starts well a b =
    let start : b.start ≡ a.start =
    starts theory.sig top line b.start a.start b.accepted a.accepted in
    let evaluated : Evaluates theory most_nesting [] a.start calls b.outcome =
    subst (λ (p : Pattern). Evaluates theory most_nesting [] p calls b.outcome) start b.evaluated in
    let outcome : b.outcome ≡ a.outcome =
    evaluation_is_unique theory most_nesting calls [] a.start b.outcome a.outcome well evaluated
    a.evaluated in
    one_start theory a.outcome more r s well a.after
    (subst (λ (x : Evaluated). AfterStart theory x more s) outcome b.after)

one_term : (theory : RewriteTheory) (top : Option ℕ) (calls : ℕ) (line more : List ℕ)
    (r s : FileOutcome) → AcceptedTermIsNotRefused → StartIsOne → IsWellSorted theory
    → AtTerm theory top calls line more r → AtTerm theory top calls line more s → r ≡ s
one_term theory top calls line more r s exclusive starts well (inl a) (inl b) = a.2 ∙ sym b.2
one_term theory top calls line more r s exclusive starts well (inl a) (inr b) =
    absurd (exclusive theory.sig top line b.start a.0 b.accepted a.1)
one_term theory top calls line more r s exclusive starts well (inr a) (inl b) =
    absurd (exclusive theory.sig top line a.start b.0 a.accepted b.1)
one_term theory top calls line more r s exclusive starts well (inr a) (inr b) =
    one_begin theory top calls line more r s starts well a b

one_second : (theory : RewriteTheory) (top : Option ℕ) (calls : ℕ)
    (o : Option (List ℕ × List ℕ)) (r s : FileOutcome) → AcceptedTermIsNotRefused → StartIsOne
    → IsWellSorted theory → AtSecond theory top calls o r → AtSecond theory top calls o s → r ≡ s
one_second theory top calls None r s exclusive starts well h k = h ∙ sym k
one_second theory top calls (Some p) r s exclusive starts well h k =
    one_term theory top calls p.0 p.1 r s exclusive starts well h k

one_line_1 : (theory : RewriteTheory) (top : Option ℕ) (calls : ℕ) (p : List ℕ × List ℕ)
    (r s : FileOutcome) → AcceptedTermIsNotRefused → StartIsOne → IsWellSorted theory
    → AtFirst theory top calls (Some p) r → AtFirst theory top calls (Some p) s → r ≡ s
one_line_1 theory top calls p r s exclusive starts well (inl a) (inl b) = a.1 ∙ sym b.1
one_line_1 theory top calls p r s exclusive starts well (inl a) (inr b) = absurd (a.0 b.0)
one_line_1 theory top calls p r s exclusive starts well (inr a) (inl b) = absurd (b.0 a.0)
one_line_1 theory top calls p r s exclusive starts well (inr a) (inr b) =
    one_second theory top calls (cut_at 10 p.1) r s exclusive starts well a.1 b.1

one_first : (theory : RewriteTheory) (top : Option ℕ) (calls : ℕ)
    (o : Option (List ℕ × List ℕ)) (r s : FileOutcome) → AcceptedTermIsNotRefused → StartIsOne
    → IsWellSorted theory → AtFirst theory top calls o r → AtFirst theory top calls o s → r ≡ s
one_first theory top calls None r s exclusive starts well h k = h ∙ sym k
one_first theory top calls (Some p) r s exclusive starts well h k =
    one_line_1 theory top calls p r s exclusive starts well h k

pub file_is_one : AcceptedTermIsNotRefused → StartIsOne → FileIsOne
file_is_one exclusive starts theory top calls bytes r s well h k =
    one_first theory top calls (cut_at 10 bytes) r s exclusive starts well (hints_split h)
    (hints_split k)
