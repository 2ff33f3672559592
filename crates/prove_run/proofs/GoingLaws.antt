-- What a start reaches with one more step, by the last theorem and the theorem of the step.
use Rattle.std.proofs.Common.{◌≡◌, [], refl, ◌∙◌, sym, subst}
use Rattle.std.specs.Prelude.{Contains}
use Rattle.ml_pat.specs.Patterns.{Pattern, imp, next, ev}
use Rattle.ml_kernel.specs.Theorems.{Theorem, IsByLemma}
use Rattle.ml_kernel.specs.Lemmas.{HasNoMeta, HasNoVariable, instance}
use Rattle.ml_kernel.proofs.InstanceLaws.{instance-empty}
use Rattle.ml_derived.specs.Scopes.{Scope, IsOver, IsStatedIn, IsWithin}
use Rattle.ml_derived.proofs.RuleLaws.{lemma_within}
use Rattle.ml_derived.specs.Implications.{IsOneStepOn, ReachesOneFurther}
use Rattle.term_core.specs.Terms.{Tree}
use Rattle.term_core.specs.Patterns.{Pattern as RulePattern, ground_pattern}
use Rattle.rule_core.specs.ProgramView.{theory_of}
use Rattle.rule_core.specs.Records.{StepRecord, result_of}
use Rattle.rule_core.specs.declared.rules.Program.{Program}
use Rattle.ml_image.specs.Sentences.{term}
use Rattle.ml_image.proofs.ImageLaws.{some_same}
use Rattle.prove_term.specs.Contexts.{Context, HasContext, HasGrown, StaysIn}
use Rattle.prove_term.proofs.ImageShapes.{sentence_has_no_meta}
use Rattle.prove_schema.proofs.ElementLaws.{pattern_grown}
use Rattle.prove_step.specs.Steps.{IsStepFrom, SaysStep}
use Rattle.prove_run.specs.Starting.{SaysReached}
use Rattle.prove_run.specs.ReachLemma.{CitesReachLemma}
use Rattle.prove_run.specs.Going.{MayGoOn, ExtendsRun}
use Rattle.prove_run.proofs.ContextLaws.{lemma_grown}

-- ---- patterns

same_end : (a b c d : Pattern) → imp a (ev b) ≡ imp c (ev d) → b ≡ d
same_end a b c d h = cc

next_from : (p q r s : Pattern) → p ≡ imp q (next s) → q ≡ r → p ≡ imp r (next s)
next_from p q r s h k = cc

-- a theorem without pattern variables, cited without any, says the same
pub cited_says : (p q : Pattern) → HasNoMeta p → q ≡ instance [] p → q ≡ p
cited_says p q no_meta is = is ∙ instance-empty [] p refl no_meta

-- ---- the last theorem

-- the last theorem has no pattern variables
pub last_no_meta : (cx : Context) (start reached : RulePattern) (last : Theorem)
    → SaysReached cx start reached last → HasNoMeta last.conclusion
last_no_meta cx start reached last h =
    subst HasNoMeta (sym h.says) (
      sentence_has_no_meta cx.program.sig cx.names (term start) h.from h.from_image,
      sentence_has_no_meta cx.program.sig cx.names (term reached) h.to h.to_image,
    )

-- so the theorem says the same when it is cited
again_says : (cx : Context) (start reached : RulePattern) (last sofar : Theorem)
    (h : SaysReached cx start reached last) → sofar.conclusion ≡ instance [] last.conclusion
    → sofar.conclusion ≡ imp h.from (ev h.to)
again_says cx start reached last sofar h again =
    cited_says last.conclusion sofar.conclusion (last_no_meta cx start reached last h) again
    ∙ h.says

-- ---- the theorem of the step

-- what the theorem says, from each term that makes the step
abbrev pub SaysMoved : Context → StepRecord → Pattern → Type 0
SaysMoved cx step p =
    (t : Tree) → IsStepFrom (theory_of cx.program) t step → SaysStep cx t (result_of step.right) p

-- What is known when both theorems are made: the cited last theorem, and the theorem of the step.
pub record Making (old new : Context) (last reach sofar moved : Theorem) (step : StepRecord) :
    Type 0 where
  pub may : MayGoOn old last reach step
  pub grown : HasGrown old new
  pub moves : SaysMoved new step moved.conclusion
  pub again : sofar.conclusion ≡ instance [] last.conclusion

step_says : (old new : Context) (last reach sofar moved : Theorem) (step : StepRecord)
    (m : Making old new last reach sofar moved step)
    → SaysStep new m.may.term (result_of step.right) moved.conclusion
step_says old new last reach sofar moved step m =
    m.moves m.may.term (subst (λ (p : Program). IsStepFrom (theory_of p) m.may.term step)
    (sym m.grown.program) m.may.follows)

-- the theorem is about a step from what the start reaches
moved_says : (old new : Context) (last reach sofar moved : Theorem) (step : StepRecord)
    (m : Making old new last reach sofar moved step)
    → (says : SaysStep new m.may.term (result_of step.right) moved.conclusion)
    → moved.conclusion ≡ imp m.may.says.to (next says.to)
moved_says old new last reach sofar moved step m says =
    next_from moved.conclusion says.from m.may.says.to says.to says.says
    (some_same says.from m.may.says.to (sym says.from_image
    ∙ pattern_grown old new (ground_pattern m.may.term) m.may.says.to m.grown
    m.may.says.to_image))

-- ---- both are linked, and have no object variable

pub linked : (old new : Context) (last reach sofar moved : Theorem) (step : StepRecord)
    → Making old new last reach sofar moved step → IsOneStepOn sofar.conclusion moved.conclusion
linked old new last reach sofar moved step m =
    let says = step_says old new last reach sofar moved step m in (
      m.may.says.from,
      (
        m.may.says.to,
        (
          says.to,
          (
            again_says old m.may.start
                (ground_pattern m.may.term) last sofar m.may.says m.again,
            moved_says old new last reach sofar moved step m says,
          ),
        ),
      ),
    )

pub both_closed : (old new : Context) (last reach sofar moved : Theorem) (step : StepRecord)
    → Making old new last reach sofar moved step
    → HasNoVariable sofar.conclusion × HasNoVariable moved.conclusion
both_closed old new last reach sofar moved step m =
    let says = step_says old new last reach sofar moved step m in (
      subst HasNoVariable (sym (again_says old m.may.start (ground_pattern
          m.may.term) last sofar m.may.says m.again)) m.may.says.closed,
      subst HasNoVariable (sym says.says) says.no_variable,
    )

-- ---- so the start reaches the result of the step

-- for each start of which the last theorem says something
further_says : (old new : Context) (last reach sofar moved t : Theorem) (step : StepRecord)
    → Making old new last reach sofar moved step
    → ReachesOneFurther sofar.conclusion moved.conclusion t.conclusion
    → (start reached : RulePattern) → SaysReached old start reached last
    → SaysReached new start (ground_pattern (result_of step.right)) t
further_says old new last reach sofar moved t step m reaches start reached h =
    let says = step_says old new last reach sofar moved step m in
    let same : m.may.says.to ≡ h.to =
    same_end m.may.says.from m.may.says.to h.from h.to (sym m.may.says.says ∙ h.says) in
    record {
      from = h.from;
      to = says.to;
      from_image = pattern_grown old new start h.from m.grown h.from_image;
      to_image = says.to_image;
      closed = (h.closed.0, says.no_variable.1);
      says = reaches h.from h.to says.to (again_says old start reached last sofar h m.again)
          (next_from moved.conclusion m.may.says.to h.to says.to
          (moved_says old new last reach sofar moved step m says) same);
    }

-- what the last theorem says is over each scope that has the context
pub last_over : (old new : Context) (last : Theorem) (start reached : RulePattern) (s : Scope)
    → HasGrown old new → HasContext s new → (h : SaysReached old start reached last)
    → IsOver s (imp h.from (ev h.to))
last_over old new last start reached s grown has h = (
  has.images (term start) h.from (pattern_grown old new start h.from grown h.from_image),
  has.images (term reached) h.to (pattern_grown old new reached h.to grown h.to_image),
)

further_stays : (old new : Context) (last reach sofar moved t : Theorem) (step : StepRecord)
    → Making old new last reach sofar moved step → IsByLemma last [] [] sofar → StaysIn new moved
    → CitesReachLemma reach sofar moved t → (s : Scope) → HasContext s new
    → IsStatedIn s last.hypotheses last.conclusion → IsWithin s t
further_stays old new last reach sofar moved t step m by stays goes s has stated =
    let over : IsOver s sofar.conclusion =
    subst (IsOver s)
    (sym (again_says old m.may.start (ground_pattern m.may.term) last sofar m.may.says m.again))
    (last_over old new last m.may.start (ground_pattern m.may.term) s m.grown has m.may.says) in
    let sofar_within : IsWithin s sofar = lemma_within s last [] [] sofar by stated tt over tt in
    goes s (has.lemmas reach (lemma_grown old new reach m.grown m.may.listed))
    (sofar_within, (stays s has, tt))

pub goes_on : (old new : Context) (last reach sofar moved t : Theorem) (step : StepRecord)
    → Making old new last reach sofar moved step → IsByLemma last [] [] sofar → StaysIn new moved
    → ReachesOneFurther sofar.conclusion moved.conclusion t.conclusion
    → CitesReachLemma reach sofar moved t → ExtendsRun old new last (result_of step.right) t
goes_on old new last reach sofar moved t step m by stays reaches goes = record {
  grown = m.grown;
  says = further_says old new last reach sofar moved t step m reaches;
  stays = further_stays old new last reach sofar moved t step m by stays goes;
}
