-- The answers of `by_equation`: a call whose value an equation gave.
use Rattle.std.proofs.Common.{◌≡◌, [], ℕ, List, Option, Some, map, slice_get, refl, sym, ◌∙◌, ap}
use Rattle.std.proofs.Common.{subst, arith}
use Rattle.ml_pat.specs.Patterns.{Pattern}
use Rattle.ml_kernel.specs.Lemmas.{HasNoVariable}
use Rattle.ml_kernel.specs.Theorems.{Theorem}
use Rattle.term_core.specs.Terms.{Tree}
use Rattle.term_core.specs.Patterns.{Pattern as RulePattern, call, ground_pattern}
use Rattle.term_core.specs.RulePatterns.{plain_pattern}
use Rattle.term_core.specs.PatternLists.{plain_patterns}
use Rattle.term_core.specs.declared.rule_patterns.RulePat.{RulePat}
use Rattle.rule_core.specs.declared.rules.Program.{Program}
use Rattle.rule_core.specs.Records.{Record, result_of, results_of}
use Rattle.rule_core.specs.RecordView.{plain_record, records}
use Rattle.rule_core.specs.Rules.{Equation as PlainEquation}
use Rattle.rule_core.specs.Theories.{equations_of}
use Rattle.rule_core.specs.ProgramView.{theory_of}
use Rattle.rule_core.specs.declared.records.EqRecord.{EqRecord}
use Rattle.rule_core.specs.declared.records.EvalRecord.{EvalRecord}
use Rattle.ml_image.specs.Sentences.{term}
use Rattle.prove_term.specs.Contexts.{Context, HasGrown, StaysIn}
use Rattle.prove_term.specs.Values.{SaysEquationAt}
use Rattle.prove_term.specs.Filling.{filled}
use Rattle.rule_core.specs.BoundVariables.{IsEquationAt}
use Rattle.prove_fun.specs.Using.{IsUseRecord, condition_record, missed_records, used_record}
use Rattle.prove_term.proofs.ResultLaws.{if_ok}
use Rattle.prove_term.proofs.ContextLaws.{grown_twice, image_grown}
use Rattle.prove_term.proofs.ComparingLaws.{image_closed}
use Rattle.prove_fun.specs.RecordParts.{children_of}
use Rattle.prove_fun.specs.Evaluating.{IsRecorded, AreRecorded, IsImage, Equates, HasEqual}
use Rattle.prove_fun.specs.Evaluating.{IsEvaluated, SaysCall}
use Rattle.prove_fun.proofs.Recording.{as_many_records, call_recorded, equation_recorded}
use Rattle.prove_fun.proofs.Sizes.{size, equation_size}
use Rattle.prove_fun.proofs.Uses.{equation_call, then_parts, recorded_later, used_right}
use Rattle.prove_fun.proofs.evaluating.+evaluated.Goals as goal

abbrev Use : (program : Program) (f : ℕ) (r : Record) (used : EqRecord) → Type 0
Use program f r used = IsUseRecord program f (results_of (children_of r)) used

use_of : (program : Program) (theta : List (Option Tree)) (f : ℕ) (args : List RulePat) (r : Record)
    (used : EqRecord) → r ≡ used_record used
    → IsRecorded program theta (call f [] (plain_patterns args)) r → Use program f r used
use_of program theta f args r used is h =
    equation_recorded program theta f (plain_patterns args) r used.fun.0
    (records (map plain_record used.args.items)) used.equation used.subst
    (condition_record used) (plain_record used.body.value) (missed_records used) is h

pub by_equation-equation_of-equation-requires : goal.by_equation-equation_of-equation-requires
by_equation-equation_of-equation-requires t c =
    let u : Use c.args.cx.now.program c.args.symbol.0 (plain_record c.args.evaluation.now)
    c.args.used.now =
    use_of c.args.cx.now.program c.args.subst.now c.args.symbol.0 c.args.args.now
    (plain_record c.args.evaluation.now) c.args.used.now c.requires.used
    c.requires.recorded in (
      u.equation,
      subst (λ (p : Program). slice_get (equations_of (theory_of p) c.args.symbol.0)
          c.args.used.now.equation ≡ Some u.equation) (sym c.program.ensures) u.there,
    )

pub by_equation-used_equation-requires : goal.by_equation-used_equation-requires
by_equation-used_equation-requires t c =
    let u : Use c.args.cx.now.program c.args.symbol.0 (plain_record c.args.evaluation.now)
    c.args.used.now =
    use_of c.args.cx.now.program c.args.subst.now c.args.symbol.0 c.args.args.now
    (plain_record c.args.evaluation.now) c.args.used.now c.requires.used
    c.requires.recorded in
    let all =
    (call_recorded c.args.cx.now.program c.args.subst.now c.args.symbol.0 []
    (plain_patterns c.args.args.now) (plain_record c.args.evaluation.now)
    c.requires.recorded).1 in (
      omega (arith, c.decreases),
      (
        c.requires.recorded.ready,
        (
          subst (λ (p : Program). IsEquationAt p c.args.symbol.0 c.args.used.now.equation
              c.equation_of-equation.result.now) c.program.ensures
              c.equation_of-equation.ensures,
          (
            c.requires.used,
            (
              u,
              (
                sym (as_many_records c.args.cx.now.program c.args.subst.now c.args.args.now
                    (children_of (plain_record c.args.evaluation.now)) all.records),
                c.requires.kept,
              ),
            ),
          ),
        ),
      ),
    )

-- what is known of the fact
record IsFact (old cx : Context) (f : ℕ) (r : Record) (used : EqRecord) (fact : Theorem) :
    Type 0 where
  right : Pattern
  says : SaysCall cx f (results_of (children_of r)) right fact
  equation_right : RulePattern
  is_right : IsImage cx (filled used.subst equation_right) right
  applied : Use old.program f r used
  same : applied.equation.right ≡ equation_right

fact_of : (old cx : Context) (f : ℕ) (r : Record) (used : EqRecord) (fact : Theorem)
    → Use old.program f r used
    → ((e : PlainEquation)
    → slice_get (equations_of (theory_of old.program) f) used.equation ≡ Some e
    → SaysEquationAt cx f e used.subst (results_of (children_of r)) fact.conclusion)
    → StaysIn cx fact → IsFact old cx f r used fact
fact_of old cx f r used fact u says stays =
    let s : SaysEquationAt cx f u.equation used.subst (results_of (children_of r)) fact.conclusion =
    says u.equation u.there in
    record {
      right = s.right;
      says = equation_call cx f u.equation used.subst (results_of (children_of r)) fact s stays;
      equation_right = u.equation.right;
      is_right = s.right_image;
      applied = u;
      same = refl;
    }

pub by_equation-at_values-requires : goal.by_equation-at_values-requires
by_equation-at_values-requires t c =
    let u : Use c.args.cx.now.program c.args.symbol.0 (plain_record c.args.evaluation.now)
    c.args.used.now =
    use_of c.args.cx.now.program c.args.subst.now c.args.symbol.0 c.args.args.now
    (plain_record c.args.evaluation.now) c.args.used.now c.requires.used
    c.requires.recorded in
    let fact : IsFact c.args.cx.now c.used_equation.new.cx c.args.symbol.0
    (plain_record c.args.evaluation.now) c.args.used.now c.in_ok-fact.fact =
    fact_of c.args.cx.now c.used_equation.new.cx c.args.symbol.0
    (plain_record c.args.evaluation.now) c.args.used.now c.in_ok-fact.fact u
    c.in_ok-fact.ensures.says c.in_ok-fact.ensures.stays in
    let all =
    (call_recorded c.args.cx.now.program c.args.subst.now c.args.symbol.0 []
    (plain_patterns c.args.args.now) (plain_record c.args.evaluation.now)
    c.requires.recorded).1 in
    let g : HasGrown c.args.cx.now c.used_equation.new.cx = c.in_ok-fact.ensures.grown in (
      omega (arith, c.decreases),
      (
        subst (λ (p : Program). AreRecorded p c.args.subst.now (plain_patterns c.args.args.now)
            (children_of (plain_record c.args.evaluation.now))) (sym g.program) all,
        ((c.args.symbol.0, fact.right, fact.says), c.in_ok-fact.ensures.kept),
      ),
    )

pub by_equation-evaluated-requires : goal.by_equation-evaluated-requires
by_equation-evaluated-requires t c =
    let u : Use c.args.cx.now.program c.args.symbol.0 (plain_record c.args.evaluation.now)
    c.args.used.now =
    use_of c.args.cx.now.program c.args.subst.now c.args.symbol.0 c.args.args.now
    (plain_record c.args.evaluation.now) c.args.used.now c.requires.used
    c.requires.recorded in
    let at =
    subst (λ (p : Program). IsEquationAt p c.args.symbol.0 c.args.used.now.equation
    c.equation_of-equation.result.now) c.program.ensures
    c.equation_of-equation.ensures in
    let right =
    used_right c.args.cx.now.program c.args.symbol.0 _ c.args.used.now.equation _ _ _ _
    c.equation_of-equation.result.now u at in
    let low =
    equation_size (plain_record c.args.evaluation.now) _ _ _ _ (condition_record c.args.used.now)
    (plain_record c.args.used.now.body.value) _ c.requires.used in
    let g : HasGrown c.args.cx.now c.at_values.new.cx =
    grown_twice c.args.cx.now c.used_equation.new.cx c.at_values.new.cx
    c.in_ok-fact.ensures.grown c.in_ok-first.ensures.grown in
    let h : IsRecorded c.args.cx.now.program c.args.used.now.subst
    (plain_pattern c.equation_of-equation.result.now.right)
    (plain_record c.args.used.now.body.value) =
    subst (λ (p : RulePattern). IsRecorded c.args.cx.now.program c.args.used.now.subst p
    (plain_record c.args.used.now.body.value)) right u.right in
    let body : c.deref.result.now ≡ c.args.used.now.body.value = c.deref.ensures in
    let result : result_of (plain_record c.args.evaluation.now) ≡ result_of
    (plain_record c.args.used.now.body.value) =
    ap result_of c.requires.used in (
      omega (arith, low, ap (λ (r : EvalRecord). size (plain_record r)) body, c.decreases),
      (
        subst (λ (r : EvalRecord). IsRecorded c.at_values.new.cx.program c.args.used.now.subst
            (plain_pattern c.equation_of-equation.result.now.right) (plain_record r)) (sym body)
            (recorded_later c.args.cx.now c.at_values.new.cx _ _ _ g h),
        (
          subst (λ (r : Tree). IsImage c.at_values.new.cx (ground_pattern r) c.args.image.now)
              (result ∙ ap (λ (r : EvalRecord). result_of (plain_record r)) (sym body))
              (image_grown c.args.cx.now c.at_values.new.cx
              (term (ground_pattern (result_of (plain_record c.args.evaluation.now))))
              c.args.image.now g c.requires.image),
          c.in_ok-first.ensures.kept,
        ),
      ),
    )

both_of : (old cx next last : Context) (theta : List (Option Tree)) (f : ℕ)
    (args : List RulePat) (r : Record) (used : EqRecord) (q : RulePattern) (image : Pattern)
    (fact first : Theorem) (second : Option Theorem) → (known : IsFact old cx f r used fact)
    → known.applied.equation.right ≡ q → HasGrown cx next → HasGrown next last
    → ((g : ℕ) (right : Pattern) → SaysCall cx g (results_of (children_of r)) right fact
    → IsEvaluated next theta (call g [] (plain_patterns args)) right (Some first))
    → IsEvaluated last used.subst q image second
    → HasEqual last (filled theta (call f [] (plain_patterns args))) known.right (Some first)
    × (Equates last known.right image second × HasNoVariable known.right)
both_of old cx next last theta f args r used q image fact first second known is g k says right =
    then_parts cx next last used.subst (filled theta (call f [] (plain_patterns args)))
    known.equation_right q known.right image first second g k known.is_right
    (sym known.same ∙ is) (says f known.right known.says) right

pub by_equation-followed-requires : goal.by_equation-followed-requires
by_equation-followed-requires t c =
    let u : Use c.args.cx.now.program c.args.symbol.0 (plain_record c.args.evaluation.now)
    c.args.used.now =
    use_of c.args.cx.now.program c.args.subst.now c.args.symbol.0 c.args.args.now
    (plain_record c.args.evaluation.now) c.args.used.now c.requires.used
    c.requires.recorded in
    let at =
    subst (λ (p : Program). IsEquationAt p c.args.symbol.0 c.args.used.now.equation
    c.equation_of-equation.result.now) c.program.ensures
    c.equation_of-equation.ensures in
    let fact : IsFact c.args.cx.now c.used_equation.new.cx c.args.symbol.0
    (plain_record c.args.evaluation.now) c.args.used.now c.in_ok-fact.fact =
    fact_of c.args.cx.now c.used_equation.new.cx c.args.symbol.0
    (plain_record c.args.evaluation.now) c.args.used.now c.in_ok-fact.fact u
    c.in_ok-fact.ensures.says c.in_ok-fact.ensures.stays in
    let right =
    used_right c.args.cx.now.program c.args.symbol.0 _ c.args.used.now.equation _ _ _ _
    c.equation_of-equation.result.now fact.applied at in
    let both =
    both_of c.args.cx.now c.used_equation.new.cx c.at_values.new.cx c.evaluated.new.cx c.args.subst.now c.args.symbol.0 c.args.args.now
    (plain_record c.args.evaluation.now) c.args.used.now
    (plain_pattern c.equation_of-equation.result.now.right) c.args.image.now
    c.in_ok-fact.fact c.in_ok-first.first c.in_ok-right.right fact right
    c.in_ok-first.ensures.grown c.in_ok-right.ensures.grown c.in_ok-first.ensures.says
    c.in_ok-right.ensures.says in (
      both.0.left,
      fact.right,
      c.args.image.now,
      record {
        closed = (
          both.0.closed,
          (
            both.1.1,
            image_closed c.args.cx.now.program.sig c.args.cx.now.names
                (result_of (plain_record c.args.evaluation.now)) c.args.image.now c.requires.image,
          ),
        );
        one = both.0.equates;
        two = both.1.0;
      },
    )

pub by_equation-returns-clause-says : goal.by_equation-returns-clause-says
by_equation-returns-clause-says t c =
    let u : Use c.args.cx.now.program c.args.symbol.0 (plain_record c.args.evaluation.now)
    c.args.used.now =
    use_of c.args.cx.now.program c.args.subst.now c.args.symbol.0 c.args.args.now
    (plain_record c.args.evaluation.now) c.args.used.now c.requires.used
    c.requires.recorded in
    let at =
    subst (λ (p : Program). IsEquationAt p c.args.symbol.0 c.args.used.now.equation
    c.equation_of-equation.result.now) c.program.ensures
    c.equation_of-equation.ensures in
    let fact : IsFact c.args.cx.now c.used_equation.new.cx c.args.symbol.0
    (plain_record c.args.evaluation.now) c.args.used.now c.in_ok-fact.fact =
    fact_of c.args.cx.now c.used_equation.new.cx c.args.symbol.0
    (plain_record c.args.evaluation.now) c.args.used.now c.in_ok-fact.fact u
    c.in_ok-fact.ensures.says c.in_ok-fact.ensures.stays in
    let right =
    used_right c.args.cx.now.program c.args.symbol.0 _ c.args.used.now.equation _ _ _ _
    c.equation_of-equation.result.now fact.applied at in
    let both =
    both_of c.args.cx.now c.used_equation.new.cx c.at_values.new.cx c.evaluated.new.cx c.args.subst.now c.args.symbol.0 c.args.args.now
    (plain_record c.args.evaluation.now) c.args.used.now
    (plain_pattern c.equation_of-equation.result.now.right) c.args.image.now
    c.in_ok-fact.fact c.in_ok-first.first c.in_ok-right.right fact right
    c.in_ok-first.ensures.grown c.in_ok-right.ensures.grown c.in_ok-first.ensures.says
    c.in_ok-right.ensures.says in
    if_ok c.followed.result
    (λ made joins. record {
      left = both.0.left;
      left_image =
          image_grown c.evaluated.new.cx c.followed.new.cx (term (filled c.args.subst.now
          (call c.args.symbol.0 [] (plain_patterns c.args.args.now)))) both.0.left
          c.followed.ensures.grown both.0.left_image;
      closed = both.0.closed;
      equates = joins both.0.left fact.right c.args.image.now (record {
        closed = (
          both.0.closed,
          (
            both.1.1,
            image_closed c.args.cx.now.program.sig c.args.cx.now.names
                (result_of (plain_record c.args.evaluation.now)) c.args.image.now c.requires.image,
          ),
        );
        one = both.0.equates;
        two = both.1.0;
      });
    })
    c.followed.ensures.says
