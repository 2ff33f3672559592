-- Records of steps, built from what is recorded of their evaluations.
use Rattle.std.proofs.Common.{◌≡◌, ℕ, ◌<◌, Option, Some, None, sym, ◌∙◌, ap, subst}
use Rattle.std.specs.Prelude.{slice_get, option_map}
use Rattle.term_core.specs.Terms.{Tree}
use Rattle.rule_core.specs.Rules.{RewriteRule}
use Rattle.rule_core.specs.Theories.{RewriteTheory}
use Rattle.rule_core.specs.FirstRule.{Matches}
use Rattle.rule_core.specs.Records.{Record, OptionalRecord, conditional, RecordsCondition, Records}
use Rattle.rule_core.specs.Records.{IsUnusedRule, result_of}
use Rattle.rule_core.specs.RecordView.{optional, plain_record}
use Rattle.rule_core.specs.declared.records.EvalRecord.{EvalRecord}
use Rattle.rule_core.specs.declared.records.StepRecord.{StepRecord}
use Rattle.match_tree.specs.declared.compiling.Tree as code
use Rattle.match_tree.specs.declared.slots.Slots.{Slots}
use Rattle.fun_eval.specs.RecordLists.{TellsOption}
use Rattle.rewriter.specs.NextSteps.{TellsStep, RecordsNext, RecordedNext}
use Rattle.rewriter.specs.KeptRules.{KeepsRule, KeepsMadeRule}
use Rattle.rewriter.specs.WithRecords.{IsWithRecord}
use Rattle.rewriter.specs.declared.run.Next.{Next}
use Rattle.rewriter.specs.declared.run.Next.TheVariants as answer
use Rattle.rewriter.specs.declared.step.Made.{Made}

abbrev pub tells_plain : EvalRecord → Record → Type 0
tells_plain one r = plain_record one ≡ r

told_option : (kept : Option EvalRecord) (o : OptionalRecord) → TellsOption tells_plain kept o
    → o ≡ optional (option_map plain_record kept)
told_option None o is = is
told_option (Some one) o h = h.1 ∙ ap conditional (sym h.2)

made_recorded : (theory : RewriteTheory) (t u : Tree) (s : Made EvalRecord)
    → TellsStep tells_plain theory t u s
    → RecordsNext theory t u
    (answer.Made (record { rule = s.rule; subst = s.subst; cond = s.cond; right = s.right }))
made_recorded theory t u s h =
    let step = h.follows in
    let right : h.step.right ≡ plain_record s.right = sym h.right in (
      record {
        rule = step.rule;
        there = subst (λ n. slice_get theory.rules n ≡ Some step.rule) h.rule step.there;
        matches = subst (λ th. Matches theory step.rule t th) h.theta step.matches;
        earlier =
            subst (λ n. (j : ℕ) (other : RewriteRule) → j < n
            → slice_get theory.rules j ≡ Some other → IsUnusedRule theory other t) h.rule
            step.earlier;
        condition =
            subst (λ th. RecordsCondition theory th step.rule.condition
            (optional (option_map plain_record s.cond))) h.theta (subst
            (λ o. RecordsCondition theory h.step.theta step.rule.condition o)
            (told_option s.cond h.step.condition h.condition) step.condition);
        right =
            subst (λ th. Records theory th step.rule.right (plain_record s.right)) h.theta
            (subst (λ r. Records theory h.step.theta step.rule.right r) right step.right);
      },
      ap result_of (sym right) ∙ h.result,
    )

pub next_recorded : (theory : RewriteTheory) (t u : Tree) (n : Next (Made EvalRecord))
    (m : Next StepRecord) → IsWithRecord n m → RecordedNext tells_plain theory t u n
    → RecordsNext theory t u m
next_recorded theory t u (answer.Made s) m is h =
    subst (RecordsNext theory t u) (sym is) (made_recorded theory t u s h)
next_recorded theory t u answer.Stuck m is h = subst (RecordsNext theory t u) (sym is) tt
next_recorded theory t u (answer.Blocked why) m is h = subst (RecordsNext theory t u) (sym is) tt

-- what the slots keep of a step is the same
pub next_kept : (tree : code.Tree) (t : Tree) (slots : Slots) (n : Next (Made EvalRecord))
    (m : Next StepRecord) → IsWithRecord n m → KeepsMadeRule tree t slots n
    → KeepsRule tree t slots m
next_kept tree t slots (answer.Made s) m is h = subst (KeepsRule tree t slots) (sym is) h
next_kept tree t slots answer.Stuck m is h = subst (KeepsRule tree t slots) (sym is) tt
next_kept tree t slots (answer.Blocked why) m is h = subst (KeepsRule tree t slots) (sym is) tt
