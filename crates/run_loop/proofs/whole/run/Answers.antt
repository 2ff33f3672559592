use Rattle.std.proofs.Common.{◌≡◌, ◌<◌, ℕ, ◌+◌, length, refl, sym, ◌∙◌, ap, subst, arith, add-one}
use Rattle.term_core.specs.Terms.{Tree}
use Rattle.term_core.specs.Patterns.{Pattern}
use Rattle.term_core.specs.RulePatterns.{plain_pattern}
use Rattle.rule_core.specs.ProgramView.{theory_of, rewrite_rules}
use Rattle.rule_core.specs.Theories.{RewriteTheory}
use Rattle.rule_core.specs.Runs.{Steps, steps_on, Reaches, after_step}
use Rattle.rule_core.specs.RunView.{cause_of}
use Rattle.rule_core.specs.declared.rules.Program.{Program}
use Rattle.rewriter.specs.Configurations.{RunState}
use Rattle.run_loop.proofs.HintsGrow.{first_added, step_added, rule_within, lines_of_start}
use Rattle.run_loop.proofs.HintsGrow.{line_of_step, same_steps, stuck_told, limited_told}
use Rattle.run_loop.proofs.HintsGrow.{stopped_told}
use Rattle.run_loop.proofs.whole.run.Goals as goal

one_more : (theory : RewriteTheory) (start : Pattern) (calls n c d : ℕ) (t u : Tree)
    → Reaches theory start calls n t c → Steps theory t c (steps_on u d)
    → Reaches theory start calls (n + 1) u d
one_more theory start calls n c d t u reached step =
    subst (λ (m : ℕ). Reaches theory start calls m u d) (sym (add-one n)) (after_step reached step)

same_place : (theory : RewriteTheory) (start : Pattern) (calls n m c : ℕ) (t u : Tree) → n ≡ m
    → t ≡ u → Reaches theory start calls n t c → Reaches theory start calls m u c
same_place theory start calls n m c t u number term reached =
    subst (λ (v : Tree). Reaches theory start calls m v c) term
    (subst (λ (k : ℕ). Reaches theory start calls k t c) number reached)

pub loop-made-init : goal.loop-made-init
loop-made-init c = record {
  reached = c.in-Ok.ensures.starts;
  hinted =
      first_added (theory_of c.args.engine.now) (plain_pattern c.args.start.now) c.args.calls _ _
      c.args.hints.now c.start.new.self
      (lines_of_start c.args.engine.now c.program.result.now (plain_pattern c.args.start.now)
      c.args.hints.now c.start.new.self c.program.ensures.program c.in_ok-start.ensures)
      c.in-Ok.ensures.starts;
  sorted = c.in-Ok.ensures.sorted;
  room = c.in_ok-slots.ensures.room;
}

pub push-requires-clause-rule : goal.push-requires-clause-rule
push-requires-clause-rule c =
    let within : c.in-Made.step.rule < length (rewrite_rules c.args.engine.now.rules.items) =
    rule_within _ (theory_of c.args.engine.now) _ _ c.in-Made.step
    (rw c.in-Made.is at c.in_ok-step.ensures.recorded) in
    subst (λ (p : Program). c.in-Made.step.rule < length (rewrite_rules p.rules.items))
    (sym c.program-in-Made.ensures.program) within

pub loop-made-preserved : goal.loop-made-preserved
loop-made-preserved c = record {
  reached =
      one_more _ _ _ _ _ _ _ _ c.loop-made.invariant.reached
      (rw c.in-Made.is at c.in_ok-step.ensures.next);
  hinted =
      step_added c.hint_laws.ensures.texts _ (theory_of c.args.engine.now) _ _ _ _ _ _ _
      c.in-Made.step _ c.loop-made.hints c.push.new.self c.loop-made.invariant.hinted
      (rw c.in-Made.is at c.in_ok-step.ensures.next)
      (rw c.in-Made.is at c.in_ok-step.ensures.recorded)
      (line_of_step c.args.engine.now c.program-in-Made.result.now c.in-Made.step.rule
      c.config.result.now _ c.loop-made.hints c.push.new.self c.program-in-Made.ensures.program
      c.config.ensures c.in_ok-push-in-Made.ensures);
  sorted = c.step_as.ensures.sorted;
  room = c.step_as.ensures.room;
}

pub returns-in-Stuck-clause-hints : goal.returns-in-Stuck-clause-hints
returns-in-Stuck-clause-hints c =
    let same : c.step_as.new.self ≡ c.loop-made.run =
    (rw c.in-Stuck.is at c.in_ok-step.ensures.next).1 in
    let term : c.in_ok-share-in-Stuck.field-0 ≡ c.loop-made.run.config =
    c.in_ok-share-in-Stuck.ensures.same ∙ c.config-in-Stuck.ensures
    ∙ ap (λ (r : RunState). r.config) same in
    stuck_told _ _ _ _ _ _ _ _
    (same_steps _ _ _ _ _ _ _ _ _ _ refl term c.loop-made.invariant.hinted)

pub returns-in-Blocked-clause-hints : goal.returns-in-Blocked-clause-hints
returns-in-Blocked-clause-hints c =
    let same : c.step_as.new.self ≡ c.loop-made.run =
    (rw c.in-Blocked.is at c.in_ok-step.ensures.next).1 in
    let term : c.in_ok-share-in-Blocked.field-0 ≡ c.loop-made.run.config =
    c.in_ok-share-in-Blocked.ensures.same ∙ c.config-in-Blocked.ensures
    ∙ ap (λ (r : RunState). r.config) same in
    stopped_told _ _ _ _ _ (cause_of c.in-Blocked.why) _ _ _
    (same_steps _ _ _ _ _ _ _ _ _ _ refl term c.loop-made.invariant.hinted)

pub returns-clause-run : goal.returns-clause-run
returns-clause-run c =
    let number : c.loop-made.made ≡ c.args.limit = omega arith in
    let term : c.loop-made.run.config ≡ c.in_ok-share.field-0 =
    sym (c.in_ok-share.ensures.same ∙ c.config-2.ensures) in (
      c.loop-made.run.calls,
      same_place _ _ _ _ _ _ _ _ number term c.loop-made.invariant.reached,
      refl,
    )

pub returns-clause-hints : goal.returns-clause-hints
returns-clause-hints c =
    let number : c.loop-made.made ≡ c.args.limit = omega arith in
    let term : c.in_ok-share.field-0 ≡ c.loop-made.run.config =
    c.in_ok-share.ensures.same ∙ c.config-2.ensures in
    limited_told _ _ _ _ _ _ _ _
    (same_steps _ _ _ _ _ _ _ _ _ _ number term c.loop-made.invariant.hinted)
