use Rattle.std.proofs.Common.{◌≤◌, subst, arith}
use Rattle.std.proofs.lemmas.Result.{err_from_is_err_and}
use Rattle.term_core.specs.Terms.{height}
use Rattle.rule_core.specs.ProgramView.{theory_of, rewrite_rule}
use Rattle.match_tree.specs.SlotView.{first_row}
use Rattle.fun_eval.specs.declared.equations.Trial.TheVariants.{Failed, Used}
use Rattle.rewriter.specs.Choosing.{RuleSays}
use Rattle.rewriter.proofs.Trying.{triable}
use Rattle.rewriter.proofs.Walks.{count_of, found_matches, found_scoped, found_within, names_fit}
use Rattle.rewriter.proofs.Walks.{none_is_used, none_tried, rule_chosen, rule_nearer, rule_passed, rule_stops}
use Rattle.rewriter.proofs.rules.first_used.Goals as goal

pub loop-row-init : goal.loop-row-init
loop-row-init g c = record {
  done =
      none_tried (theory_of c.args.engine.now) c.args.tree.now c.args.term.now c.args.slots.now
      c.start-from.result c.args.calls c.start-from.ensures;
  room = c.requires.room;
}

pub rule_of-rule-requires : goal.rule_of-rule-requires
rule_of-rule-requires g c =
    found_within (theory_of c.args.engine.now) c.args.tree.now c.args.term.now
    (first_row c.loop-row.slots c.loop-row.from) c.in-Row.row c.in-Row.ensures.tells

pub bindings-requires-clause-fits : goal.bindings-requires-clause-fits
bindings-requires-clause-fits g c = c.in-Row.ensures.keeps.1

pub bindings-requires-clause-scoped : goal.bindings-requires-clause-scoped
bindings-requires-clause-scoped g c =
    found_scoped (theory_of c.args.engine.now) c.args.tree.now c.args.term.now
    (first_row c.loop-row.slots c.loop-row.from) c.in-Row.row c.len.result
    (rewrite_rule c.rule_of-rule.result.now) c.in-Row.ensures.tells c.rule_of-rule.ensures
    (count_of c.rule_of-rule.result.now c.len.result c.len.ensures)

pub try_rule-requires-clause-triable : goal.try_rule-requires-clause-triable
try_rule-requires-clause-triable g c =
    triable (theory_of c.args.engine.now) c.args.term.now c.in-Row.row
    (rewrite_rule c.rule_of-rule.result.now) c.requires.config c.rule_of-rule.ensures

pub with_names-requires-clause-fits : goal.with_names-requires-clause-fits
with_names-requires-clause-fits g c =
    let low : height c.args.term.now ≤ 500 =
    omega (arith, c.height-high.ensures.bound, c.height-high.ensures.value) in
    (names_fit (theory_of c.args.engine.now) c.args.tree.now c.args.term.now
    (first_row c.loop-row.slots c.loop-row.from) c.in-Row.row c.len.result
    c.rule_of-rule.result.now c.from_ref.result.now c.deref.result.now c.in_ok-subst.subst
    c.requires.config low c.in-Row.ensures.tells c.rule_of-rule.ensures
    (count_of c.rule_of-rule.result.now c.len.result c.len.ensures) c.from_ref.ensures.value
    c.deref.ensures.value c.in_ok-subst.ensures).0

pub with_names-requires-clause-names : goal.with_names-requires-clause-names
with_names-requires-clause-names g c =
    let low : height c.args.term.now ≤ 500 =
    omega (arith, c.height-high.ensures.bound, c.height-high.ensures.value) in
    (names_fit (theory_of c.args.engine.now) c.args.tree.now c.args.term.now
    (first_row c.loop-row.slots c.loop-row.from) c.in-Row.row c.len.result
    c.rule_of-rule.result.now c.from_ref.result.now c.deref.result.now c.in_ok-subst.subst
    c.requires.config low c.in-Row.ensures.tells c.rule_of-rule.ensures
    (count_of c.rule_of-rule.result.now c.len.result c.len.ensures) c.from_ref.ensures.value
    c.deref.ensures.value c.in_ok-subst.ensures).1

pub try_rule-requires-clause-matches : goal.try_rule-requires-clause-matches
try_rule-requires-clause-matches g c =
    found_matches (theory_of c.args.engine.now) c.args.tree.now c.args.term.now
    (first_row c.loop-row.slots c.loop-row.from) c.in-Row.row c.len.result
    c.rule_of-rule.result.now c.from_ref.result.now c.deref.result.now c.in_ok-subst.subst
    c.in_ok-subst-2.subst c.requires.config c.in-Row.ensures.tells c.rule_of-rule.ensures
    (count_of c.rule_of-rule.result.now c.len.result c.len.ensures) c.from_ref.ensures.value
    c.deref.ensures.value c.in_ok-subst.ensures c.in_ok-subst-2.ensures

pub loop-row-preserved-in-Failed : goal.loop-row-preserved-in-Failed
loop-row-preserved-in-Failed g c =
    let says : RuleSays g.R.Recording.tells (theory_of c.args.engine.now)
    (rewrite_rule c.rule_of-rule.result.now) c.args.term.now c.loop-row.left
    (Failed c.in-Failed.field-0 c.in-Failed.field-1) c.in_ok-trial.rest =
    subst (λ o. RuleSays g.R.Recording.tells (theory_of c.args.engine.now)
    (rewrite_rule c.rule_of-rule.result.now) c.args.term.now c.loop-row.left o c.in_ok-trial.rest)
    c.in-Failed.is c.in_ok-trial.ensures in
    record {
      done =
          rule_passed g.R.Recording.tells (theory_of c.args.engine.now) c.args.tree.now
          c.args.term.now c.loop-row.slots c.next_match.new.slots c.loop-row.from c.in-Row.resume
          c.args.calls c.loop-row.left c.in_ok-trial.rest c.in-Row.row
          (rewrite_rule c.rule_of-rule.result.now) c.in-Failed.field-0 c.in-Failed.field-1
          c.loop-row.invariant.done c.in-Row.ensures.tells c.in-Row.ensures.keeps
          c.rule_of-rule.ensures (omega arith) says;
      room = c.next_match.ensures.room;
    }

pub loop-row-smaller : goal.loop-row-smaller
loop-row-smaller g c =
    rule_nearer (theory_of c.args.engine.now) c.args.tree.now c.args.term.now c.loop-row.slots
    c.next_match.new.slots c.loop-row.from c.in-Row.resume c.in-Row.row c.in-Row.ensures.tells
    c.in-Row.ensures.keeps

pub returns-in-Used-clause-chooses : goal.returns-in-Used-clause-chooses
returns-in-Used-clause-chooses g c =
    let says : RuleSays g.R.Recording.tells (theory_of c.args.engine.now)
    (rewrite_rule c.rule_of-rule.result.now) c.args.term.now c.loop-row.left
    (Used c.in-Used.subst c.in-Used.cond) c.in_ok-trial.rest =
    subst (λ o. RuleSays g.R.Recording.tells (theory_of c.args.engine.now)
    (rewrite_rule c.rule_of-rule.result.now) c.args.term.now c.loop-row.left o c.in_ok-trial.rest)
    c.in-Used.is c.in_ok-trial.ensures in (
      rule_chosen (theory_of c.args.engine.now) c.args.tree.now c.args.term.now c.loop-row.slots
          c.loop-row.from c.args.calls c.loop-row.left c.in_ok-trial.rest c.in-Row.row
          (rewrite_rule c.rule_of-rule.result.now) c.in-Used.subst c.loop-row.invariant.done
          c.in-Row.ensures.tells c.rule_of-rule.ensures says.0 says.1,
      says.2,
    )

pub returns-in_err-trial-clause-chooses : goal.returns-in_err-trial-clause-chooses
returns-in_err-trial-clause-chooses g c =
    let p = err_from_is_err_and c.from_residual-in_err-trial.result
    c.from_residual-in_err-trial.ensures.1 in
    rw (p.1, p.2) (rule_stops g.R.Recording.tells (theory_of c.args.engine.now) c.args.tree.now
    c.args.term.now c.loop-row.slots c.loop-row.from c.args.calls c.loop-row.left c.in-Row.row
    (rewrite_rule c.rule_of-rule.result.now) c.in_err-trial.field-0.0 c.loop-row.invariant.done
    c.in-Row.ensures.tells c.rule_of-rule.ensures c.in_err-trial.ensures)

pub returns-clause-chooses : goal.returns-clause-chooses
returns-clause-chooses g c =
    none_is_used (theory_of c.args.engine.now) c.args.tree.now c.args.term.now c.loop-row.slots
    c.loop-row.from c.args.calls c.loop-row.left c.loop-row.invariant.done c.in_default.ensures.tells
