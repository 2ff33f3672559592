use Rattle.std.proofs.Common.{◌≡◌, [], map, subst, sym, ◌∙◌, arith}
use Rattle.std.proofs.lemmas.Bool.{false≢true}
use Rattle.std.proofs.lemmas.Result.{err_from_is_err_and}
use Rattle.term_core.specs.RulePatterns.{plain_pattern}
use Rattle.rule_core.specs.Evaluation.{value, Evaluates}
use Rattle.rule_core.specs.FirstRule.{most_nesting}
use Rattle.rule_core.specs.ProgramView.{theory_of}
use Rattle.rule_core.specs.Records.{Records}
use Rattle.rule_core.specs.RecordView.{plain_record, plain_step}
use Rattle.rule_core.specs.declared.rules.Program.{Program}
use Rattle.fun_eval.specs.EvalEnds.{EndsBy}
use Rattle.fun_eval.specs.declared.answer.EvalEnd.{EvalEnd}
use Rattle.kore_axioms.specs.declared.refusals.Refusal.{Refusal}
use Rattle.kore_rules.specs.Refused.{IsRefusedTerm}
use Rattle.kore_rules.specs.RefusedTexts.{RefusesFor, top_of}
use Rattle.hint_file.specs.HintTexts.{first_line}
use Rattle.hint_file.specs.HintFiles.{no_first_line, other_first_line, no_term_line, term_refused}
use Rattle.hint_file.specs.HintFiles.{HasTermLine, ReadsSteps, RecordsLines, no_bad_line}
use Rattle.hint_file.specs.ReadPaths.{IsFirstBad}
use Rattle.hint_file.proofs.Cutting.{cut_shorter}
use Rattle.hint_file.proofs.FileRead.{begun, has_term_line, start_ends, steps_end, file_read}
use Rattle.hint_file.proofs.reading.HintPath.read.Goals as goal

pub returns-in_default-clause-bad : goal.returns-in_default-clause-bad
returns-in_default-clause-bad c = no_first_line c.in_default.ensures.none

pub returns-then-not-is_first_line-clause-bad : goal.returns-then-not-is_first_line-clause-bad
returns-then-not-is_first_line-clause-bad c =
    other_first_line c.in-Some.ensures.found (λ is. false≢true
    (sym c.if-not-is_first_line.true ∙ c.is_first_line.ensures.1 is))

pub returns-in_default-cut_at-clause-bad : goal.returns-in_default-cut_at-clause-bad
returns-in_default-cut_at-clause-bad c =
    let is : c.in-Some.line.now ≡ first_line =
    c.is_first_line.ensures.0 c.if-not-is_first_line.false in
    no_term_line (rw is at c.in-Some.ensures.found) c.in_default-cut_at.ensures.none

pub accept_term-requires-clause-few : goal.accept_term-requires-clause-few
accept_term-requires-clause-few c =
    omega (
      arith,
      c.requires.few,
      cut_shorter 10 c.args.bytes.now c.in-Some.line.now
          c.in-Some.rest.now c.in-Some.ensures.found,
      cut_shorter 10 c.in-Some.rest.now
          c.in-Some-cut_at.line.now c.in-Some-cut_at.more.now c.in-Some-cut_at.ensures.found,
    )

pub returns-in-Err-Refused-clause-bad : goal.returns-in-Err-Refused-clause-bad
returns-in-Err-Refused-clause-bad c =
    let lines : HasTermLine c.args.bytes.now c.in-Some-cut_at.line.now c.in-Some-cut_at.more.now =
    has_term_line c.args.bytes.now c.in-Some.line.now c.in-Some.rest.now c.in-Some-cut_at.line.now
    c.in-Some-cut_at.more.now (c.is_first_line.ensures.0 c.if-not-is_first_line.false)
    c.in-Some.ensures.found c.in-Some-cut_at.ensures.found in
    let refused =
    subst (λ (r : Refusal). RefusesFor (IsRefusedTerm c.args.program.now.sig
    (top_of c.args.program.now) c.in-Some-cut_at.line.now) r) c.in-Err-Refused.field-0-is
    c.in-Err-Refused.ensures.refused in
    term_refused lines refused

pub returns-in-Err-Blocked-clause-bad : goal.returns-in-Err-Blocked-clause-bad
returns-in-Err-Blocked-clause-bad c =
    let lines : HasTermLine c.args.bytes.now c.in-Some-cut_at.line.now c.in-Some-cut_at.more.now =
    has_term_line c.args.bytes.now c.in-Some.line.now c.in-Some.rest.now c.in-Some-cut_at.line.now
    c.in-Some-cut_at.more.now (c.is_first_line.ensures.0 c.if-not-is_first_line.false)
    c.in-Some.ensures.found c.in-Some-cut_at.ensures.found in
    let ends =
    subst (λ (p : Program). EndsBy (Evaluates (theory_of p) most_nesting []
    (plain_pattern c.in-Ok.start) c.args.calls) c.in-Err-Blocked.field-0) c.requires.engine
    c.in-Err-Blocked.ensures.blocked in
    start_ends (theory_of c.args.program.now) (top_of c.args.program.now) c.args.calls
    c.args.bytes.now c.in-Some-cut_at.line.now c.in-Some-cut_at.more.now
    (plain_pattern c.in-Ok.start) c.in-Err-Blocked.field-0-0 lines c.in-Ok.ensures.accepted
    (subst (λ (e : EvalEnd). EndsBy (Evaluates (theory_of c.args.program.now) most_nesting []
    (plain_pattern c.in-Ok.start) c.args.calls) e) c.in-Err-Blocked.field-0-is ends)

pub read_steps-requires-clause-few : goal.read_steps-requires-clause-few
read_steps-requires-clause-few c =
    omega (
      arith,
      c.requires.few,
      cut_shorter 10 c.args.bytes.now c.in-Some.line.now
          c.in-Some.rest.now c.in-Some.ensures.found,
      cut_shorter 10 c.in-Some.rest.now
          c.in-Some-cut_at.line.now c.in-Some-cut_at.more.now c.in-Some-cut_at.ensures.found,
    )

pub returns-in_err-steps-clause-bad : goal.returns-in_err-steps-clause-bad
returns-in_err-steps-clause-bad c =
    let lines : HasTermLine c.args.bytes.now c.in-Some-cut_at.line.now c.in-Some-cut_at.more.now =
    has_term_line c.args.bytes.now c.in-Some.line.now c.in-Some.rest.now c.in-Some-cut_at.line.now
    c.in-Some-cut_at.more.now (c.is_first_line.ensures.0 c.if-not-is_first_line.false)
    c.in-Some.ensures.found c.in-Some-cut_at.ensures.found in
    let evaluated : Evaluates (theory_of c.args.program.now) most_nesting []
    (plain_pattern c.in-Ok.start) c.args.calls
    (value c.config.result.now c.calls_left.result) =
    begun c.args.program.now c.args.engine.now (plain_pattern c.in-Ok.start) c.args.calls
    c.in-Ok-new.begun.0.calls c.calls_left.result c.in-Ok-new.begun.0.config c.config.result.now
    c.in-Ok-new.ensures.starts c.requires.engine c.config.ensures c.calls_left.ensures in
    let bad =
    subst (λ (p : Program). IsFirstBad (ReadsSteps (theory_of p) 3 c.config.result.now
    c.calls_left.result c.in-Some-cut_at.more.now) c.in_err-steps.field-0.0) c.requires.engine
    c.in_err-steps.ensures.bad in
    let p = err_from_is_err_and c.from_residual.result c.from_residual.ensures.1 in
    rw (p.1, p.2) (steps_end (theory_of c.args.program.now) (top_of c.args.program.now)
    c.args.calls c.calls_left.result c.args.bytes.now c.in-Some-cut_at.line.now
    c.in-Some-cut_at.more.now (plain_pattern c.in-Ok.start) c.config.result.now
    c.in_err-steps.field-0.0 lines c.in-Ok.ensures.accepted evaluated bad)

pub returns-clause-read : goal.returns-clause-read
returns-clause-read c =
    let lines : HasTermLine c.args.bytes.now c.in-Some-cut_at.line.now c.in-Some-cut_at.more.now =
    has_term_line c.args.bytes.now c.in-Some.line.now c.in-Some.rest.now c.in-Some-cut_at.line.now
    c.in-Some-cut_at.more.now (c.is_first_line.ensures.0 c.if-not-is_first_line.false)
    c.in-Some.ensures.found c.in-Some-cut_at.ensures.found in
    let evaluated : Evaluates (theory_of c.args.program.now) most_nesting []
    (plain_pattern c.in-Ok.start) c.args.calls
    (value c.config.result.now c.calls_left.result) =
    begun c.args.program.now c.args.engine.now (plain_pattern c.in-Ok.start) c.args.calls
    c.in-Ok-new.begun.0.calls c.calls_left.result c.in-Ok-new.begun.0.config c.config.result.now
    c.in-Ok-new.ensures.starts c.requires.engine c.config.ensures c.calls_left.ensures in
    let recorded =
    subst (λ (p : Program). Records (theory_of p) [] (plain_pattern c.in-Ok.start)
    (plain_record c.in-Ok-new.begun.1)) c.requires.engine c.in-Ok-new.ensures.recorded in
    let stepped =
    subst (λ (p : Program). RecordsLines (theory_of p) c.config.result.now c.calls_left.result
    c.in-Some-cut_at.more.now (map plain_step c.in_ok-steps.steps.items)) c.requires.engine
    c.in_ok-steps.ensures.recorded in
    let read =
    subst (λ (p : Program). ReadsSteps (theory_of p) 3 c.config.result.now c.calls_left.result
    c.in-Some-cut_at.more.now no_bad_line) c.requires.engine c.in_ok-steps.ensures.read in
    file_read (theory_of c.args.program.now) (top_of c.args.program.now) c.args.calls
    c.calls_left.result c.args.bytes.now c.in-Some-cut_at.line.now c.in-Some-cut_at.more.now
    (plain_pattern c.in-Ok.start) c.config.result.now (plain_record c.in-Ok-new.begun.1)
    (map plain_step c.in_ok-steps.steps.items) lines c.in-Ok.ensures.accepted evaluated recorded
    (c.in-Ok-new.ensures.value ∙ sym c.config.ensures) stepped read
