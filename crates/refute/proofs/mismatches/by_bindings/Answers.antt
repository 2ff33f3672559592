use Rattle.std.proofs.Common.{ℕ, sym, ap, subst}
use Rattle.std.specs.Prelude.{Contains}
use Rattle.term_core.specs.Patterns.{variable}
use Rattle.term_core.specs.RulePatterns.{plain_pattern, sort_numbers}
use Rattle.rule_core.specs.AcSymbols.{IsAcFree}
use Rattle.rule_core.specs.ProgramView.{theory_of}
use Rattle.rule_core.specs.Sorting.{IsTermOf}
use Rattle.rule_core.specs.WellSorted.{IsWellSorted}
use Rattle.rule_core.specs.declared.rules.Program.{Program}
use Rattle.prove_term.proofs.ContextLaws.{grown_twice, stays_grown}
use Rattle.refute.specs.Bindings.{HasTwo, bound_if_common}
use Rattle.refute.specs.Clashes.{ComesTo}
use Rattle.refute.proofs.Bound.{pair_sorted, two_sorted, three_stay}
use Rattle.refute.proofs.Denied.{two_bindings_are, none_common_said}
use Rattle.refute.proofs.Growing.{program_grown, setting_grown, pair_grown, says_under_grown}
use Rattle.prove_term.proofs.ResultLaws.{if_ok}
use Rattle.refute.proofs.mismatches.by_bindings.Goals as goal

pub bound_twice-requires-clause-sorted : goal.bound_twice-requires-clause-sorted
bound_twice-requires-clause-sorted c =
    record {
      sig = c.args.cx.now.program.sig;
      variables = sort_numbers c.args.setting.now.sorts.now;
      subsorts = ap (λ (program : Program). program.sig.subsorts) (sym c.program.ensures);
      pair =
          pair_sorted c.args.cx.now.program.sig (sort_numbers c.args.setting.now.sorts.now)
          c.args.setting.now.given (plain_pattern c.args.pat.now) c.args.term.now c.requires.pair;
    }

pub bound_twice-requires-clause-two : goal.bound_twice-requires-clause-two
bound_twice-requires-clause-two c =
    subst
    (λ (program : Program). (x : ℕ) × Contains c.args.variables.now x
    × HasTwo program.sig.subsorts x (plain_pattern c.args.pat.now) c.args.term.now)
    (sym c.program.ensures) c.requires.two

pub binding_under-requires-clause-comes : goal.binding_under-requires-clause-comes
binding_under-requires-clause-comes c =
    subst (λ (program : Program). ComesTo program.sig.subsorts
    (variable c.in_ok-twice.twice.variable) c.in_ok-twice.twice.first (plain_pattern c.args.pat.now)
    c.args.term.now)
    c.program.ensures c.in_ok-twice.ensures.first

pub binding_under-requires-2-clause-setting : goal.binding_under-requires-2-clause-setting
binding_under-requires-2-clause-setting c =
    setting_grown c.args.cx.now c.binding_under.new.cx c.args.setting.now c.in_ok-one.ensures.grown
    c.requires.setting

pub binding_under-requires-2-clause-pair : goal.binding_under-requires-2-clause-pair
binding_under-requires-2-clause-pair c =
    pair_grown c.args.cx.now c.binding_under.new.cx (sort_numbers c.args.setting.now.sorts.now)
    c.args.setting.now.given (plain_pattern c.args.pat.now) c.args.term.now
    c.in_ok-one.ensures.grown
    c.requires.pair

pub binding_under-requires-2-clause-comes : goal.binding_under-requires-2-clause-comes
binding_under-requires-2-clause-comes c =
    program_grown c.args.cx.now c.binding_under.new.cx
    (λ (program : Program). ComesTo program.sig.subsorts (variable c.in_ok-twice.twice.variable)
    c.in_ok-twice.twice.second (plain_pattern c.args.pat.now) c.args.term.now)
    c.in_ok-one.ensures.grown
    (subst (λ (program : Program). ComesTo program.sig.subsorts
    (variable c.in_ok-twice.twice.variable) c.in_ok-twice.twice.second
    (plain_pattern c.args.pat.now) c.args.term.now)
    c.program.ensures c.in_ok-twice.ensures.second)

pub differ-requires-clause-well_sorted : goal.differ-requires-clause-well_sorted
differ-requires-clause-well_sorted c =
    program_grown c.args.cx.now c.binding_under-2.new.cx
    (λ (program : Program). IsWellSorted (theory_of program))
    (grown_twice c.args.cx.now c.binding_under.new.cx c.binding_under-2.new.cx
    c.in_ok-one.ensures.grown c.in_ok-other.ensures.grown) c.requires.setting.well_sorted

pub differ-requires-clause-no_ac : goal.differ-requires-clause-no_ac
differ-requires-clause-no_ac c =
    program_grown c.args.cx.now c.binding_under-2.new.cx
    (λ (program : Program). IsAcFree program.sig)
    (grown_twice c.args.cx.now c.binding_under.new.cx c.binding_under-2.new.cx
    c.in_ok-one.ensures.grown c.in_ok-other.ensures.grown) c.requires.setting.no_ac

pub differ-requires-clause-sorted : goal.differ-requires-clause-sorted
differ-requires-clause-sorted c =
    program_grown c.args.cx.now c.binding_under-2.new.cx
    (λ (program : Program). (sort : ℕ)
    × IsTermOf program.sig c.in_ok-twice.twice.first sort
    × IsTermOf program.sig c.in_ok-twice.twice.second sort)
    (grown_twice c.args.cx.now c.binding_under.new.cx c.binding_under-2.new.cx
    c.in_ok-one.ensures.grown c.in_ok-other.ensures.grown)
    (two_sorted c.args.cx.now.program.sig (sort_numbers c.args.setting.now.sorts.now)
    c.args.setting.now.given (plain_pattern c.args.pat.now) c.args.term.now
    c.in_ok-twice.twice.variable
    c.in_ok-twice.twice.first c.in_ok-twice.twice.second c.requires.pair
    (subst (λ (program : Program). ComesTo program.sig.subsorts
    (variable c.in_ok-twice.twice.variable) c.in_ok-twice.twice.first (plain_pattern c.args.pat.now)
    c.args.term.now)
    c.program.ensures c.in_ok-twice.ensures.first)
    (subst (λ (program : Program). ComesTo program.sig.subsorts
    (variable c.in_ok-twice.twice.variable) c.in_ok-twice.twice.second
    (plain_pattern c.args.pat.now) c.args.term.now)
    c.program.ensures c.in_ok-twice.ensures.second))

pub denied_by_both-requires : goal.denied_by_both-requires
denied_by_both-requires c =
    let sorted : (sort : ℕ)
    × IsTermOf c.differ.new.cx.program.sig c.in_ok-twice.twice.first sort
    × IsTermOf c.differ.new.cx.program.sig c.in_ok-twice.twice.second sort =
    program_grown c.args.cx.now c.differ.new.cx
    (λ (program : Program). (sort : ℕ)
    × IsTermOf program.sig c.in_ok-twice.twice.first sort
    × IsTermOf program.sig c.in_ok-twice.twice.second sort)
    (grown_twice c.args.cx.now c.binding_under-2.new.cx c.differ.new.cx
    (grown_twice c.args.cx.now c.binding_under.new.cx c.binding_under-2.new.cx
    c.in_ok-one.ensures.grown c.in_ok-other.ensures.grown) c.in_ok-differ.ensures.grown)
    (two_sorted c.args.cx.now.program.sig (sort_numbers c.args.setting.now.sorts.now)
    c.args.setting.now.given (plain_pattern c.args.pat.now) c.args.term.now
    c.in_ok-twice.twice.variable
    c.in_ok-twice.twice.first c.in_ok-twice.twice.second c.requires.pair
    (subst (λ (program : Program). ComesTo program.sig.subsorts
    (variable c.in_ok-twice.twice.variable) c.in_ok-twice.twice.first (plain_pattern c.args.pat.now)
    c.args.term.now)
    c.program.ensures c.in_ok-twice.ensures.first)
    (subst (λ (program : Program). ComesTo program.sig.subsorts
    (variable c.in_ok-twice.twice.variable) c.in_ok-twice.twice.second
    (plain_pattern c.args.pat.now) c.args.term.now)
    c.program.ensures c.in_ok-twice.ensures.second)) in
    two_bindings_are c.differ.new.cx c.args.setting.now.given.hypothesis
    c.in_ok-twice.twice.variable c.args.setting.now.new.0 c.in_ok-twice.twice.first
    c.in_ok-twice.twice.second sorted.0 (plain_pattern c.args.pat.now) c.args.term.now
    c.in_ok-one.one.conclusion c.in_ok-other.other.conclusion c.in_ok-differ.differ.conclusion
    sorted.2
    (says_under_grown c.binding_under.new.cx c.differ.new.cx
    c.args.setting.now.given.hypothesis (bound_if_common c.in_ok-twice.twice.variable
    c.in_ok-twice.twice.first (plain_pattern c.args.pat.now) c.args.term.now)
    c.in_ok-one.one.conclusion (grown_twice c.binding_under.new.cx c.binding_under-2.new.cx
    c.differ.new.cx
    c.in_ok-other.ensures.grown c.in_ok-differ.ensures.grown) c.in_ok-one.ensures.says)
    (says_under_grown c.binding_under-2.new.cx c.differ.new.cx
    c.args.setting.now.given.hypothesis (bound_if_common c.in_ok-twice.twice.variable
    c.in_ok-twice.twice.second (plain_pattern c.args.pat.now) c.args.term.now)
    c.in_ok-other.other.conclusion c.in_ok-differ.ensures.grown c.in_ok-other.ensures.says)
    c.in_ok-differ.ensures.says

pub returns-clause-says : goal.returns-clause-says
returns-clause-says c =
    if_ok c.denied_by_both.result
    (λ t is. none_common_said c.differ.new.cx c.args.setting.now.given.hypothesis
    c.in_ok-twice.twice.variable c.in_ok-twice.twice.first (plain_pattern c.args.pat.now)
    c.args.term.now
    c.in_ok-one.one.conclusion t.conclusion
    (says_under_grown c.binding_under.new.cx c.differ.new.cx
    c.args.setting.now.given.hypothesis (bound_if_common c.in_ok-twice.twice.variable
    c.in_ok-twice.twice.first (plain_pattern c.args.pat.now) c.args.term.now)
    c.in_ok-one.one.conclusion (grown_twice c.binding_under.new.cx c.binding_under-2.new.cx
    c.differ.new.cx
    c.in_ok-other.ensures.grown c.in_ok-differ.ensures.grown) c.in_ok-one.ensures.says) is)
    c.denied_by_both.ensures.conclusion

pub returns-clause-stays : goal.returns-clause-stays
returns-clause-stays c =
    if_ok c.denied_by_both.result
    (λ t stays. three_stay c.differ.new.cx c.args.setting.now.new.0 c.in_ok-one.one
    c.in_ok-other.other c.in_ok-differ.differ t
    (stays_grown c.binding_under.new.cx c.differ.new.cx c.in_ok-one.one
    (grown_twice c.binding_under.new.cx c.binding_under-2.new.cx c.differ.new.cx
    c.in_ok-other.ensures.grown c.in_ok-differ.ensures.grown) c.in_ok-one.ensures.stays)
    (stays_grown c.binding_under-2.new.cx c.differ.new.cx c.in_ok-other.other
    c.in_ok-differ.ensures.grown c.in_ok-other.ensures.stays)
    c.in_ok-differ.ensures.stays stays)
    c.denied_by_both.ensures.stays

pub returns-clause-grown : goal.returns-clause-grown
returns-clause-grown c =
    grown_twice c.args.cx.now c.binding_under-2.new.cx c.differ.new.cx
    (grown_twice c.args.cx.now c.binding_under.new.cx c.binding_under-2.new.cx
    c.in_ok-one.ensures.grown c.in_ok-other.ensures.grown) c.in_ok-differ.ensures.grown

pub returns-in_err-other-clause-grown : goal.returns-in_err-other-clause-grown
returns-in_err-other-clause-grown c =
    grown_twice c.args.cx.now c.binding_under.new.cx c.binding_under-2.new.cx
    c.in_ok-one.ensures.grown c.binding_under-2.ensures.grown

pub returns-in_err-differ-clause-grown : goal.returns-in_err-differ-clause-grown
returns-in_err-differ-clause-grown c =
    grown_twice c.args.cx.now c.binding_under-2.new.cx c.differ.new.cx
    (grown_twice c.args.cx.now c.binding_under.new.cx c.binding_under-2.new.cx
    c.in_ok-one.ensures.grown c.in_ok-other.ensures.grown) c.differ.ensures.grown
