use Rattle.std.proofs.Common.{rules, ◌≡◌, ◌<◌, ◌≤◌, ◌+◌, ℕ, List, [], ◌∷◌, ◌++◌, length, take, drop}
use Rattle.std.proofs.Common.{get_or, sym, ◌∙◌, ap, subst, arith}
use Rattle.std.proofs.Math.Seq.{take_all}
use Rattle.ml_kernel.specs.Theorems.{Theorem}
use Rattle.term_core.specs.Terms.{Tree}
use Rattle.rule_core.specs.FirstRule.{Tries, none_applies}
use Rattle.rule_core.specs.ProgramView.{rewrite_rule, rewrite_rules, theory_of}
use Rattle.rule_core.specs.WellSorted.{IsRuleOf, IsWellSorted}
use Rattle.rule_core.specs.declared.rules.Program.{Program}
use Rattle.rule_core.specs.declared.rules.Rule.{Rule}
use Rattle.prove_term.proofs.ContextLaws.{grown_none, grown_twice}
use Rattle.stuck_prove.specs.RefutedRules.{SayNoneMet, SaysNotMet}
use Rattle.stuck_prove.specs.Trials.{AreOfOneSort, IsPassed, IsShowable}
use Rattle.stuck_prove.proofs.StuckLaws.{IsPassedFirst, at_rule, next_passed, one_more_shown}
use Rattle.stuck_prove.proofs.StuckLaws.{stuck_tries}
use Rattle.stuck_prove.proofs.stuck.not_met.Goals.{After-config-config}
use Rattle.stuck_prove.proofs.stuck.not_met.Goals as goal

pub loop-i-init : goal.loop-i-init
loop-i-init c = record {
  grown = grown_none c.args.cx.now;
  kept = c.requires.kept;
  tries =
      subst (λ (n : ℕ). Tries (theory_of c.args.engine.now) c.args.run.now.config 0
      (rewrite_rules c.args.engine.now.rules.items) n none_applies) (sym c.calls_left.ensures)
      (stuck_tries c.requires.stuck);
  shown =
      subst (λ (ts : List Theorem). SayNoneMet c.args.cx.now c.args.run.now.config [] ts)
      (sym c.in_ok-shown.ensures.items) tt;
}

-- the rule at the place of the loop
rule_low : (c : After-config-config) → c.loop-i.i < length c.args.engine.now.rules.items
rule_low c =
    omega (
      arith,
      c.loop-i-test.true,
      c.len-i-end.ensures,
      ap (λ (p : Program). length p.rules.items) c.program-program.ensures.program,
    )

rule_read : (c : After-config-config)
    → c.index-rule.result.now
    ≡ get_or c.args.engine.now.rules.items c.loop-i.i c.index-rule.result.now
rule_read c =
    c.index-rule.ensures
    ∙ ap (λ (p : Program). get_or p.rules.items c.loop-i.i c.index-rule.result.now)
    c.program-program.ensures.program

-- it is passed
next : (c : After-config-config) → IsPassedFirst (theory_of c.args.engine.now) c.args.run.now.config
    c.loop-i.i (rewrite_rule c.index-rule.result.now)
    (rewrite_rules (drop (c.loop-i.i + 1) c.args.engine.now.rules.items)) c.loop-i.budget.calls
next c =
    next_passed (theory_of c.args.engine.now) c.args.run.now.config c.args.engine.now.rules.items
    c.loop-i.i c.index-rule.result.now c.loop-i.budget.calls (rule_low c) (rule_read c)
    c.loop-i.invariant.tries

-- as the configuration is read
passed : (c : After-config-config)
    → IsPassed (theory_of c.args.engine.now) (rewrite_rule c.index-rule.result.now)
    c.config-config.result.now c.loop-i.budget.calls (next c).left
passed c =
    subst (λ (t : Tree). IsPassed (theory_of c.args.engine.now)
    (rewrite_rule c.index-rule.result.now) t c.loop-i.budget.calls (next c).left)
    (sym c.config-config.ensures) (next c).passed

pub rule_not_met-requires-clause-showable : goal.rule_not_met-requires-clause-showable
rule_not_met-requires-clause-showable c =
    subst IsShowable (sym c.loop-i.invariant.grown.program) (record {
      well_sorted =
          subst (λ (p : Program). IsWellSorted (theory_of p)) (sym c.requires.program)
          c.program-program.ensures.sorted;
      bound = c.requires.bound;
      no_ac = c.requires.no_ac;
    })

pub rule_not_met-requires-clause-sorted : goal.rule_not_met-requires-clause-sorted
rule_not_met-requires-clause-sorted c =
    let at : After-config-config =
    (goal.at.rule_not_met-requires-clause-sorted c).After-config-config in
    subst (AreOfOneSort c.args.engine.now (rewrite_rule c.index-rule.result.now))
    (sym c.config-config.ensures) (
      c.requires.config.0,
      at_rule (IsRuleOf c.args.engine.now.sig c.requires.config.0) c.args.engine.now.rules.items
          c.loop-i.i c.index-rule.result.now c.requires.config.1 (rule_low at)
          (rule_read at),
      c.requires.config.2,
    )

pub rule_not_met-requires-clause-passed : goal.rule_not_met-requires-clause-passed
rule_not_met-requires-clause-passed c =
    let at : After-config-config =
    (goal.at.rule_not_met-requires-clause-passed c).After-config-config in
    ((next at).left, passed at)

pub loop-i-preserved : goal.loop-i-preserved
loop-i-preserved c =
    let at : After-config-config = (goal.at.loop-i-preserved c).After-config-config in
    let thm : Theorem = c.in_ok-rule_not_met.field-0 in
    let items : c.push.new.self.items ≡ c.loop-i.shown.items ++ thm ∷ [] = search rules in
    record {
      grown =
          grown_twice c.args.cx.now c.loop-i.cx c.rule_not_met.new.cx c.loop-i.invariant.grown
          c.in_ok-rule_not_met.ensures.grown;
      kept = c.in_ok-rule_not_met.ensures.kept;
      tries =
          subst (λ (n : ℕ). Tries (theory_of c.args.engine.now) c.args.run.now.config
          (c.loop-i.i + 1)
          (rewrite_rules (drop (c.loop-i.i + 1) c.args.engine.now.rules.items)) n none_applies)
          (sym (c.in_ok-rule_not_met.ensures.passed (next at).left (passed at))) (next at).others;
      shown =
          subst (λ (ts : List Theorem). SayNoneMet c.rule_not_met.new.cx c.args.run.now.config
          (rewrite_rules (take (c.loop-i.i + 1) c.args.engine.now.rules.items)) ts) (sym items)
          (one_more_shown c.loop-i.cx c.rule_not_met.new.cx c.args.run.now.config
          c.args.engine.now.rules.items c.loop-i.i c.index-rule.result.now c.loop-i.shown.items thm
          (rule_low at) (rule_read at) c.in_ok-rule_not_met.ensures.grown c.loop-i.invariant.shown
          (subst (λ (t : Tree). SaysNotMet c.rule_not_met.new.cx t
          (rewrite_rule c.index-rule.result.now) thm) c.config-config.ensures
          c.in_ok-rule_not_met.ensures.says));
    }

pub returns-in_err-push-clause-grown : goal.returns-in_err-push-clause-grown
returns-in_err-push-clause-grown c =
    grown_twice c.args.cx.now c.loop-i.cx c.rule_not_met.new.cx c.loop-i.invariant.grown
    c.in_ok-rule_not_met.ensures.grown

pub returns-clause-shown : goal.returns-clause-shown
returns-clause-shown c =
    let all : length c.args.engine.now.rules.items ≤ c.loop-i.i =
    omega (
      arith,
      c.loop-i-test.false,
      c.len-i-end.ensures,
      ap (λ (p : Program). length p.rules.items) c.program-program.ensures.program,
    ) in
    let same : take c.loop-i.i c.args.engine.now.rules.items ≡ c.loop-i.cx.program.rules.items =
    take_all c.loop-i.i c.args.engine.now.rules.items all
    ∙ ap (λ (p : Program). p.rules.items)
    (sym (c.loop-i.invariant.grown.program ∙ c.requires.program)) in
    subst (λ (rs : List Rule). SayNoneMet c.loop-i.cx c.args.run.now.config (rewrite_rules rs)
    c.loop-i.shown.items) same c.loop-i.invariant.shown
