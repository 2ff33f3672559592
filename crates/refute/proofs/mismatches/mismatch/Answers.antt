use Rattle.std.proofs.Common.{◌<◌, ℕ, List, length, refl, sym, ◌∙◌, subst}
use Rattle.std.specs.Prelude.{All, Contains}
use Rattle.term_core.specs.Patterns.{ground_pattern}
use Rattle.term_core.specs.RulePatterns.{plain_pattern, sort_numbers}
use Rattle.rule_core.specs.declared.rules.Program.{Program}
use Rattle.prove_term.proofs.ContextLaws.{grown_twice}
use Rattle.refute.specs.Clashes.{Fails}
use Rattle.refute.specs.declared.settings.Goal.TheVariants as aim
use Rattle.refute.proofs.Begun.{clash_setting, begun_pair, mismatch_said}
use Rattle.refute.proofs.Growing.{program_grown}
use Rattle.refute.proofs.Listed.{occurs_listed}
use Rattle.refute.proofs.Reached.{variables_low}
use Rattle.prove_term.proofs.ResultLaws.{if_ok}
use Rattle.prove_open.proofs.ScopeLaws.{stays_no_hypotheses}
use Rattle.refute.proofs.mismatches.mismatch.Goals as goal

pub of-requires-clause-variables : goal.of-requires-clause-variables
of-requires-clause-variables c =
    subst (All (λ (x : ℕ). x < length c.args.sorts.now)) (sym c.deref.ensures.value)
    (variables_low c.args.cx.now.program.sig c.args.sorts.now (plain_pattern c.args.pat.now)
    c.requires.sorted.0 c.in_ok-variables.variables.items c.requires.sorted.1 c.requires.no_call
    c.in_ok-variables.ensures)

pub none_under-requires-clause-setting : goal.none_under-requires-clause-setting
none_under-requires-clause-setting c =
    clash_setting c.args.cx.now c.of.new.cx (record {
      given = c.in_ok-given.given;
      sorts = c.args.sorts;
      new = c.in_ok-new_variable.field-0;
      goal = aim.Clash;
    }) c.in_ok-given.ensures.grown c.requires.well_sorted c.requires.no_ac
    c.in_ok-given.ensures.given c.in_ok-new_variable.ensures refl

pub none_under-requires-clause-pair : goal.none_under-requires-clause-pair
none_under-requires-clause-pair c =
    begun_pair c.args.cx.now c.of.new.cx (sort_numbers c.args.sorts.now) c.in_ok-given.given
    (plain_pattern c.args.pat.now) c.requires.sorted.0 c.args.term.now
    c.deref.result.now c.in_ok-variables.variables.items c.in_ok-given.ensures.grown
    c.requires.sorted.1 c.requires.no_call c.requires.sorted.2 c.height-high.ensures.normal
    c.in_ok-variables.ensures c.deref.ensures.value c.in_ok-given.ensures.facts

pub none_under-requires-clause-fails : goal.none_under-requires-clause-fails
none_under-requires-clause-fails c =
    program_grown c.args.cx.now c.of.new.cx
    (λ (program : Program). Fails program.sig.subsorts (plain_pattern c.args.pat.now)
    c.args.term.now) c.in_ok-given.ensures.grown
    (c.clash_laws.ensures.mismatch c.args.cx.now.program.sig (sort_numbers c.args.sorts.now)
    (plain_pattern c.args.pat.now) c.requires.sorted.0 c.args.term.now c.requires.sorted.1
    c.requires.no_call c.requires.sorted.2 c.height-high.ensures.normal c.requires.mismatch)

pub none_under-requires-clause-listed : goal.none_under-requires-clause-listed
none_under-requires-clause-listed c = λ x occurs.
    subst (λ (xs : List ℕ). Contains xs x)
    (sym (c.deref-2.ensures.value ∙ c.in_ok-variables.ensures))
    (occurs_listed (plain_pattern c.args.pat.now) x occurs)

pub returns-clause-says : goal.returns-clause-says
returns-clause-says c =
    if_ok c.none_under.result
    (λ t says. mismatch_said c.of.new.cx c.none_under.new.cx (sort_numbers c.args.sorts.now)
    c.in_ok-given.given.hypothesis (plain_pattern c.args.pat.now)
    (ground_pattern c.args.term.now) c.args.term.now c.deref.result.now
    c.in_ok-variables.variables.items t.conclusion c.none_under.ensures.grown
    c.in_ok-given.ensures.hypothesis c.in_ok-variables.ensures c.deref.ensures.value refl says)
    c.none_under.ensures.says

pub returns-clause-no_hypotheses : goal.returns-clause-no_hypotheses
returns-clause-no_hypotheses c =
    if_ok c.none_under.result (λ t stays. stays_no_hypotheses c.none_under.new.cx t stays)
    c.none_under.ensures.stays

pub returns-clause-grown : goal.returns-clause-grown
returns-clause-grown c =
    grown_twice c.args.cx.now c.of.new.cx c.none_under.new.cx c.in_ok-given.ensures.grown
    c.none_under.ensures.grown
