use Rattle.std.proofs.Common.{◌≡◌, ◌<◌, ℕ, Option, Some, length, sym, ◌∙◌, subst}
use Rattle.std.specs.Prelude.{slice_get, Ok, Err}
use Rattle.std.proofs.lemmas.Bool.{false≢true}
use Rattle.term_core.specs.Patterns.{ground_pattern}
use Rattle.rule_core.specs.ProgramView.{theory_of, rewrite_rule, rewrite_rules}
use Rattle.rule_core.specs.Records.{result_of}
use Rattle.rule_core.specs.RecordView.{plain_record}
use Rattle.rule_core.specs.declared.records.StepRecord.{StepRecord}
use Rattle.rule_core.specs.declared.rules.Program.{Program}
use Rattle.fun_eval.specs.declared.answer.EvalEnd.{EvalEnd}
use Rattle.hint_file.specs.HintTexts.{shown_text}
use Rattle.hint_file.specs.HintLines.{NamesRule, rule_number, no_number, no_rule, no_step}
use Rattle.hint_file.specs.HintLines.{blocked_step}
use Rattle.hint_file.specs.ReadAnswers.{TakesStepBy}
use Rattle.hint_file.proofs.LineAnswers.{number_within, config_shown, line_read, line_differs}
use Rattle.hint_file.proofs.LineAnswers.{text_same}
use Rattle.hint_file.proofs.reading.read_line.Goals as goal

pub returns-in_default : goal.returns-in_default
returns-in_default c = no_number c.in_default.ensures.none

pub returns-in_default-get : goal.returns-in_default-get
returns-in_default-get c =
    no_rule c.in-Some.ensures.found (sym (c.requires.numbers c.in-Some.byte)
    ∙ sym c.in_default-get.ensures.value)

pub rule_of-rule-requires : goal.rule_of-rule-requires
rule_of-rule-requires c =
    let is : rule_number (theory_of c.args.engine.now) c.in-Some.byte
    ≡ Some c.in-Some-get.number.now =
    sym (c.requires.numbers c.in-Some.byte) ∙ sym c.in-Some-get.ensures.value in
    subst (λ (p : Program). c.in-Some-get.number.now < length (rewrite_rules p.rules.items))
    (sym c.program-program.ensures.program)
    (number_within (theory_of c.args.engine.now) c.in-Some.byte c.in-Some-get.number.now is)

pub has_text-requires : goal.has_text-requires
has_text-requires c =
    let made =
    subst (λ (o : Option (StepRecord × ℕ)). TakesStepBy (theory_of c.args.engine.now)
    (rewrite_rule c.rule_of-rule.result.now) c.in-Some-get.number.now c.args.config.now
    c.args.calls (Ok o)) c.in-Ok-Some.field-0-is c.in-Ok-Some.ensures in
    config_shown c.args.engine.now c.program-program.result.now
    (result_of (plain_record c.in-Ok-Some.step.right)) c.result.result.now
    c.program-program.ensures.program c.result.ensures c.program-program.ensures.sorted made.3

pub returns-then-branch : goal.returns-then-branch
returns-then-branch c =
    let is : rule_number (theory_of c.args.engine.now) c.in-Some.byte
    ≡ Some c.in-Some-get.number.now =
    sym (c.requires.numbers c.in-Some.byte) ∙ sym c.in-Some-get.ensures.value in
    let there : slice_get (theory_of c.args.engine.now).rules c.in-Some-get.number.now
    ≡ Some (rewrite_rule c.rule_of-rule.result.now) =
    subst (λ (p : Program). slice_get (theory_of p).rules c.in-Some-get.number.now
    ≡ Some (rewrite_rule c.rule_of-rule.result.now)) c.program-program.ensures.program
    c.rule_of-rule.ensures in
    let names : NamesRule (theory_of c.args.engine.now) c.args.line.now c.in-Some-get.number.now
    (rewrite_rule c.rule_of-rule.result.now) c.in-Some.text.now =
    record {
      byte = c.in-Some.byte;
      parts = c.in-Some.ensures.found;
      numbered = is;
      there = there;
    } in
    let made =
    subst (λ (o : Option (StepRecord × ℕ)). TakesStepBy (theory_of c.args.engine.now)
    (rewrite_rule c.rule_of-rule.result.now) c.in-Some-get.number.now c.args.config.now
    c.args.calls (Ok o)) c.in-Ok-Some.field-0-is c.in-Ok-Some.ensures in
    let same : shown_text c.args.engine.now.sig
    (ground_pattern (result_of (plain_record c.in-Ok-Some.step.right)))
    ≡ shown_text c.program-program.result.now.sig (ground_pattern c.result.result.now) =
    text_same c.args.engine.now c.program-program.result.now
    (result_of (plain_record c.in-Ok-Some.step.right)) c.result.result.now
    c.program-program.ensures.program c.result.ensures in
    line_read (theory_of c.args.engine.now) c.args.config.now c.args.calls c.args.line.now
    c.in-Some-get.number.now c.in-Ok-Some.left (rewrite_rule c.rule_of-rule.result.now)
    c.in-Some.text.now c.in-Ok-Some.step names made
    (same ∙ c.in_ok-has_text-in-Ok-Some.ensures.0 c.if-branch.true)

pub returns-else-branch : goal.returns-else-branch
returns-else-branch c =
    let is : rule_number (theory_of c.args.engine.now) c.in-Some.byte
    ≡ Some c.in-Some-get.number.now =
    sym (c.requires.numbers c.in-Some.byte) ∙ sym c.in-Some-get.ensures.value in
    let there : slice_get (theory_of c.args.engine.now).rules c.in-Some-get.number.now
    ≡ Some (rewrite_rule c.rule_of-rule.result.now) =
    subst (λ (p : Program). slice_get (theory_of p).rules c.in-Some-get.number.now
    ≡ Some (rewrite_rule c.rule_of-rule.result.now)) c.program-program.ensures.program
    c.rule_of-rule.ensures in
    let names : NamesRule (theory_of c.args.engine.now) c.args.line.now c.in-Some-get.number.now
    (rewrite_rule c.rule_of-rule.result.now) c.in-Some.text.now =
    record {
      byte = c.in-Some.byte;
      parts = c.in-Some.ensures.found;
      numbered = is;
      there = there;
    } in
    let made =
    subst (λ (o : Option (StepRecord × ℕ)). TakesStepBy (theory_of c.args.engine.now)
    (rewrite_rule c.rule_of-rule.result.now) c.in-Some-get.number.now c.args.config.now
    c.args.calls (Ok o)) c.in-Ok-Some.field-0-is c.in-Ok-Some.ensures in
    let same : shown_text c.args.engine.now.sig
    (ground_pattern (result_of (plain_record c.in-Ok-Some.step.right)))
    ≡ shown_text c.program-program.result.now.sig (ground_pattern c.result.result.now) =
    text_same c.args.engine.now c.program-program.result.now
    (result_of (plain_record c.in-Ok-Some.step.right)) c.result.result.now
    c.program-program.ensures.program c.result.ensures in
    line_differs (theory_of c.args.engine.now) c.args.config.now c.args.calls c.args.line.now
    c.in-Some-get.number.now c.in-Ok-Some.left (rewrite_rule c.rule_of-rule.result.now)
    c.in-Some.text.now c.in-Ok-Some.step names made (λ shown. false≢true (sym c.if-branch.false ∙
    c.in_ok-has_text-in-Ok-Some.ensures.1 (sym same ∙ shown)))

pub returns-in-Ok-None : goal.returns-in-Ok-None
returns-in-Ok-None c =
    let is : rule_number (theory_of c.args.engine.now) c.in-Some.byte
    ≡ Some c.in-Some-get.number.now =
    sym (c.requires.numbers c.in-Some.byte) ∙ sym c.in-Some-get.ensures.value in
    let there : slice_get (theory_of c.args.engine.now).rules c.in-Some-get.number.now
    ≡ Some (rewrite_rule c.rule_of-rule.result.now) =
    subst (λ (p : Program). slice_get (theory_of p).rules c.in-Some-get.number.now
    ≡ Some (rewrite_rule c.rule_of-rule.result.now)) c.program-program.ensures.program
    c.rule_of-rule.ensures in
    let names : NamesRule (theory_of c.args.engine.now) c.args.line.now c.in-Some-get.number.now
    (rewrite_rule c.rule_of-rule.result.now) c.in-Some.text.now =
    record {
      byte = c.in-Some.byte;
      parts = c.in-Some.ensures.found;
      numbered = is;
      there = there;
    } in
    no_step names (subst (λ (o : Option (StepRecord × ℕ)). TakesStepBy
    (theory_of c.args.engine.now) (rewrite_rule c.rule_of-rule.result.now)
    c.in-Some-get.number.now c.args.config.now c.args.calls (Ok o)) c.in-Ok-None.field-0-is
    c.in-Ok-None.ensures)

pub returns-in-Err-Blocked : goal.returns-in-Err-Blocked
returns-in-Err-Blocked c =
    let is : rule_number (theory_of c.args.engine.now) c.in-Some.byte
    ≡ Some c.in-Some-get.number.now =
    sym (c.requires.numbers c.in-Some.byte) ∙ sym c.in-Some-get.ensures.value in
    let there : slice_get (theory_of c.args.engine.now).rules c.in-Some-get.number.now
    ≡ Some (rewrite_rule c.rule_of-rule.result.now) =
    subst (λ (p : Program). slice_get (theory_of p).rules c.in-Some-get.number.now
    ≡ Some (rewrite_rule c.rule_of-rule.result.now)) c.program-program.ensures.program
    c.rule_of-rule.ensures in
    let names : NamesRule (theory_of c.args.engine.now) c.args.line.now c.in-Some-get.number.now
    (rewrite_rule c.rule_of-rule.result.now) c.in-Some.text.now =
    record {
      byte = c.in-Some.byte;
      parts = c.in-Some.ensures.found;
      numbered = is;
      there = there;
    } in
    blocked_step names (subst (λ (e : EvalEnd). TakesStepBy (theory_of c.args.engine.now)
    (rewrite_rule c.rule_of-rule.result.now) c.in-Some-get.number.now c.args.config.now
    c.args.calls (Err e)) c.in-Err-Blocked.field-0-is c.in-Err-Blocked.ensures)
