use Rattle.std.proofs.Common.{ℕ, refl, subst}
use Rattle.std.specs.Prelude.{Contains}
use Rattle.term_core.specs.Patterns.{Pattern}
use Rattle.term_core.specs.RulePatterns.{plain_pattern, sort_numbers}
use Rattle.rule_core.specs.declared.rules.Program.{Program}
use Rattle.ml_image.specs.Sentences.{term, and, not}
use Rattle.prove_term.proofs.ContextLaws.{grown_twice}
use Rattle.prove_term.proofs.ResultLaws.{if_ok}
use Rattle.prove_open.specs.Under.{SaysUnder}
use Rattle.refute.specs.Bindings.{HasTwo}
use Rattle.refute.proofs.Comparisons.{some_denied}
use Rattle.refute.proofs.Growing.{program_grown, setting_grown, pair_grown, covered_grown}
use Rattle.refute.proofs.NoClash.{no_clash_there}
use Rattle.refute.proofs.Pairs.{pair_covered}
use Rattle.refute.proofs.Reached.{two_at_one}
use Rattle.refute.proofs.mismatches.none_under.Goals as goal

pub by_clash-requires-clause-setting : goal.by_clash-requires-clause-setting
by_clash-requires-clause-setting c =
    setting_grown c.args.cx.now c.refuted.new.cx c.args.setting.now
    c.in_ok-difference.ensures.grown c.requires.setting

pub by_clash-requires-clause-covered : goal.by_clash-requires-clause-covered
by_clash-requires-clause-covered c =
    covered_grown c.args.cx.now c.refuted.new.cx (sort_numbers c.args.setting.now.sorts.now)
    c.args.setting.now.given (plain_pattern c.args.pat.now) (plain_pattern c.args.whole.now)
    c.in_ok-difference.ensures.grown
    (pair_covered c.args.cx.now.program.sig (sort_numbers c.args.setting.now.sorts.now)
    c.args.setting.now.given (plain_pattern c.args.pat.now) (plain_pattern c.args.whole.now)
    c.args.term.now c.requires.whole c.requires.pair)

pub by_clash-requires-clause-denies : goal.by_clash-requires-clause-denies
by_clash-requires-clause-denies c =
    some_denied c.refuted.new.cx c.args.setting.now (plain_pattern c.args.pat.now)
    (plain_pattern c.args.whole.now) c.args.term.now c.in_ok-difference.field-0
    c.in-Some.difference c.in-Some.is c.requires.whole c.in_ok-difference.ensures.says

pub by_bindings-requires-clause-setting : goal.by_bindings-requires-clause-setting
by_bindings-requires-clause-setting c =
    setting_grown c.args.cx.now c.refuted.new.cx c.args.setting.now
    c.in_ok-difference.ensures.grown c.requires.setting

pub by_bindings-requires-clause-pair : goal.by_bindings-requires-clause-pair
by_bindings-requires-clause-pair c =
    pair_grown c.args.cx.now c.refuted.new.cx (sort_numbers c.args.setting.now.sorts.now)
    c.args.setting.now.given (plain_pattern c.args.pat.now) c.args.term.now
    c.in_ok-difference.ensures.grown c.requires.pair

pub by_bindings-requires-clause-two : goal.by_bindings-requires-clause-two
by_bindings-requires-clause-two c =
    program_grown c.args.cx.now c.refuted.new.cx
    (λ (program : Program). (x : ℕ) × Contains c.args.variables.now x
    × HasTwo program.sig.subsorts x (plain_pattern c.args.pat.now) c.args.term.now)
    c.in_ok-difference.ensures.grown
    (two_at_one c.args.cx.now.program.sig.subsorts (plain_pattern c.args.pat.now)
    c.args.term.now c.args.variables.now c.requires.fails
    (no_clash_there c.args.cx.now c.refuted.new.cx c.args.setting.now
    (plain_pattern c.args.pat.now) (plain_pattern c.args.pat.now) c.args.term.now
    c.in_ok-difference.field-0 c.in_ok-difference.ensures.grown c.in-None.is
    c.in_ok-difference.ensures.says refl)
    c.requires.listed)

pub returns-in-Some-clause-says : goal.returns-in-Some-clause-says
returns-in-Some-clause-says c =
    if_ok c.by_clash.result
    (λ t says. subst (λ (w : Pattern). SaysUnder c.by_clash.new.cx
    c.args.setting.now.given.hypothesis
    (not (and (term (plain_pattern c.args.pat.now)) (term w))) t.conclusion) c.requires.whole says)
    c.by_clash.ensures.says

pub returns-in-Some-clause-grown : goal.returns-in-Some-clause-grown
returns-in-Some-clause-grown c =
    grown_twice c.args.cx.now c.refuted.new.cx c.by_clash.new.cx c.in_ok-difference.ensures.grown
    c.by_clash.ensures.grown

pub returns-in-None-clause-grown : goal.returns-in-None-clause-grown
returns-in-None-clause-grown c =
    grown_twice c.args.cx.now c.refuted.new.cx c.by_bindings.new.cx c.in_ok-difference.ensures.grown
    c.by_bindings.ensures.grown
