use Rattle.std.proofs.Common.{◌≡◌, [], ◌∷◌, ◌++◌, List, ℕ, map, length, subst, sym, ◌∙◌, ap}
use Rattle.std.proofs.Common.{arith, rules}
use Rattle.std.specs.Prelude.{Ok, Err}
use Rattle.rule_core.specs.ProgramView.{theory_of}
use Rattle.rule_core.specs.Records.{result_of}
use Rattle.rule_core.specs.RecordView.{plain_record, plain_step}
use Rattle.rule_core.specs.declared.records.StepRecord.{StepRecord}
use Rattle.rewriter.specs.Configurations.{IsConfiguration}
use Rattle.term_core.specs.Terms.{Tree}
use Rattle.hint_file.specs.HintFiles.{bad_line, bad_step, not_ended, no_bad_line, all_read}
use Rattle.hint_file.specs.HintFiles.{RecordsLines, ReadsSteps}
use Rattle.hint_file.specs.HintLines.{ReadsLine, good}
use Rattle.hint_file.specs.ReadAnswers.{AnswersLine}
use Rattle.hint_file.specs.declared.ends.LineEnd.{LineEnd}
use Rattle.hint_file.proofs.Cutting.{cut_shorter}
use Rattle.hint_file.proofs.StepsRead.{reads_on, records_on, records_end, empty_list}
use Rattle.hint_file.proofs.reading.read_steps.Goals as goal

pub returns-in_default-clause-bad : goal.returns-in_default-clause-bad
returns-in_default-clause-bad c =
    let some : c.loop-rest.rest.now ≡ [] → ⊥ = λ is.
    let none : length c.loop-rest.rest.now ≡ 0 = ap length is in
    let no : ⊥ = grind (arith, c.is_empty.ensures, c.loop-rest-test.true, none) in no in
    c.loop-rest.invariant.reads (bad_line c.loop-rest.number 1)
    (not_ended some c.in_default.ensures.none)

pub returns-in-Err-Bad-clause-bad : goal.returns-in-Err-Bad-clause-bad
returns-in-Err-Bad-clause-bad c =
    rw c.in-Err-Bad.field-0-is (c.loop-rest.invariant.reads
    (bad_line c.loop-rest.number c.in-Err-Bad.k)
    (bad_step c.in-Some.ensures.found (subst (λ (e : LineEnd). AnswersLine
    (theory_of c.args.engine.now) c.loop-rest.last c.loop-rest.left c.in-Some.line.now (Err e))
    c.in-Err-Bad.field-0-is c.in-Err-Bad.ensures)))

pub loop-rest-smaller : goal.loop-rest-smaller
loop-rest-smaller c =
    omega (
      arith,
      cut_shorter 10 c.loop-rest.rest.now c.in-Some.line.now c.in-Some.more.now
          c.in-Some.ensures.found,
    )

pub loop-rest-preserved : goal.loop-rest-preserved
loop-rest-preserved c =
    let is : c.in_ok-last-in-Ok.last ≡ result_of (plain_record c.in-Ok.step.right) =
    c.in_ok-last-in-Ok.ensures.same ∙ c.result.ensures in
    let read : AnswersLine (theory_of c.args.engine.now) c.loop-rest.last c.loop-rest.left
    c.in-Some.line.now (Ok (c.in-Ok.step, c.in-Ok.fewer)) = c.in-Ok.ensures in
    let good_line : ReadsLine (theory_of c.args.engine.now) c.loop-rest.last c.loop-rest.left
    c.in-Some.line.now (good c.in_ok-last-in-Ok.last c.in-Ok.fewer) =
    subst (λ (u : Tree). ReadsLine (theory_of c.args.engine.now) c.loop-rest.last c.loop-rest.left
    c.in-Some.line.now (good u c.in-Ok.fewer)) (sym is) read.0 in
    let pushed : c.push.new.self.items ≡ c.loop-rest.steps.items ++ (c.in-Ok.step ∷ []) =
    search rules in
    record {
      sorted = subst (IsConfiguration (theory_of c.args.engine.now)) (sym is) read.2;
      few =
          omega (
            arith,
            c.loop-rest.invariant.few,
            cut_shorter 10 c.loop-rest.rest.now c.in-Some.line.now c.in-Some.more.now
                c.in-Some.ensures.found,
          );
      reads = λ r later. c.loop-rest.invariant.reads r
          (reads_on (theory_of c.args.engine.now) c.loop-rest.number c.loop-rest.left c.in-Ok.fewer
          c.loop-rest.last c.in_ok-last-in-Ok.last c.loop-rest.rest.now c.in-Some.line.now
          c.in-Some.more.now c.in-Some.ensures.found good_line r later);
      recorded = λ ss later. subst
          (λ (xs : List StepRecord). RecordsLines (theory_of c.args.engine.now) c.args.config.now
          c.args.calls c.args.bytes.now (map plain_step xs ++ ss)) (sym pushed)
          (records_on (theory_of c.args.engine.now) c.args.config.now c.loop-rest.last
          c.in_ok-last-in-Ok.last c.args.calls c.loop-rest.left c.in-Ok.fewer c.args.bytes.now
          c.loop-rest.rest.now c.in-Some.line.now
          c.in-Some.more.now c.loop-rest.steps.items c.in-Ok.step c.loop-rest.invariant.recorded
          c.in-Some.ensures.found read.1 is ss later);
    }

pub returns-clause-read : goal.returns-clause-read
returns-clause-read c =
    let none : length c.loop-rest.rest.now ≡ 0 =
    grind (arith, c.is_empty.ensures, c.loop-rest-test.false) in
    let empty : c.loop-rest.rest.now ≡ [] = empty_list c.loop-rest.rest.now none in
    c.loop-rest.invariant.reads no_bad_line
    (subst (λ (bs : List ℕ). ReadsSteps (theory_of c.args.engine.now) c.loop-rest.number
    c.loop-rest.last c.loop-rest.left bs no_bad_line) (sym empty) all_read)

pub returns-clause-recorded : goal.returns-clause-recorded
returns-clause-recorded c =
    let none : length c.loop-rest.rest.now ≡ 0 =
    grind (arith, c.is_empty.ensures, c.loop-rest-test.false) in
    let empty : c.loop-rest.rest.now ≡ [] = empty_list c.loop-rest.rest.now none in
    records_end (theory_of c.args.engine.now) c.args.config.now c.loop-rest.last c.args.calls
    c.loop-rest.left c.args.bytes.now c.loop-rest.steps.items (λ ss later.
    c.loop-rest.invariant.recorded ss
    (subst (λ (bs : List ℕ). RecordsLines (theory_of c.args.engine.now) c.loop-rest.last
    c.loop-rest.left bs ss)
    (sym empty) later))
