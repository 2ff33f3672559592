use Rattle.std.proofs.Common.{◌≡◌, ℕ, Option, Some, refl, sym, ◌∙◌, ap, subst}
use Rattle.ml_pat.specs.Patterns.{bot}
use Rattle.std.specs.Option.{option_copied}
use Rattle.term_core.specs.Terms.{Tree}
use Rattle.term_core.specs.Patterns.{binding}
use Rattle.term_core.specs.RulePatterns.{sort_numbers}
use Rattle.rule_core.specs.Sorting.{IsTermOf}
use Rattle.rule_core.specs.declared.rules.Program.{Program}
use Rattle.prove_term.specs.Contexts.{HasGrown}
use Rattle.prove_term.proofs.ContextLaws.{grown_twice, stays_grown}
use Rattle.prove_term.proofs.ResultLaws.{if_ok_two}
use Rattle.refute.specs.Refutations.{is_bound_to}
use Rattle.guard_body.specs.Arguments.{MatchesArgument}
use Rattle.refute_body.specs.Conditions.{SaysUnderTwo}
use Rattle.refute_guard.proofs.GuardParts.{guarded_grown}
use Rattle.refute_guard.proofs.Growths.{program_grown}
use Rattle.refute_guard.proofs.TwoBindings.{two_equations}
use Rattle.refute_guard.proofs.bindings.by_bindings.Goals.{In_ok-other}
use Rattle.refute_guard.proofs.bindings.by_bindings.Goals as goal

pub equation_at-requires-2-clause-guard : goal.equation_at-requires-2-clause-guard
equation_at-requires-2-clause-guard c = (
  c.requires.guard.0,
  guarded_grown c.args.cx.now c.equation_at.new.cx c.requires.guard.0 c.args.guard.now
      c.in_ok-one.ensures.grown c.requires.guard.1,
)

pub equation_at-requires-2-clause-matches : goal.equation_at-requires-2-clause-matches
equation_at-requires-2-clause-matches c = (
  c.requires.second.0,
  c.requires.second.1,
  program_grown c.args.cx.now c.equation_at.new.cx
      (λ (program : Program). MatchesArgument program.sig
      (sort_numbers c.args.guard.now.sorts.items) c.requires.second.0 c.args.sigma.now)
      c.in_ok-one.ensures.grown c.requires.second.2,
)

grown : (c : In_ok-other) → HasGrown c.args.cx.now c.equation_at-2.new.cx
grown c =
    grown_twice c.args.cx.now c.equation_at.new.cx c.equation_at-2.new.cx c.in_ok-one.ensures.grown
    c.in_ok-other.ensures.grown

first : (c : In_ok-other) → binding c.args.theta.now c.args.twice.variable ≡ Some c.in-Some-Some.t.now
first c = sym c.get.ensures ∙ ap option_copied c.in-Some-Some.is-0

second : (c : In_ok-other)
    → binding c.args.sigma.now c.args.twice.variable ≡ Some c.in-Some-Some.u.now
second c = sym c.get-2.ensures ∙ ap option_copied c.in-Some-Some.is-1

-- both terms are of the variable's sort
sorted : (c : In_ok-other) → (sort : ℕ)
    × IsTermOf c.equation_at-2.new.cx.program.sig c.in-Some-Some.t.now sort
    × IsTermOf c.equation_at-2.new.cx.program.sig c.in-Some-Some.u.now sort
sorted c =
    let m = c.requires.first.2.binds.sorted c.args.twice.variable c.in-Some-Some.t.now (first c) in
    let n = c.requires.second.2.binds.sorted c.args.twice.variable c.in-Some-Some.u.now (second c) in
    let same : n.1.0 ≡ m.1.0 = some_same n.1.0 m.1.0 (sym n.1.1 ∙ m.1.1) in (
      m.1.0,
      program_grown c.args.cx.now c.equation_at-2.new.cx
          (λ (program : Program). IsTermOf program.sig c.in-Some-Some.t.now m.1.0) (grown c) m.1.2,
      program_grown c.args.cx.now c.equation_at-2.new.cx
          (λ (program : Program). IsTermOf program.sig c.in-Some-Some.u.now m.1.0) (grown c)
          (subst (λ (r : ℕ). IsTermOf c.args.cx.now.program.sig c.in-Some-Some.u.now r) same n.1.2),
    )
  where
    some_same : (x y : ℕ) → Some x ≡ Some y → x ≡ y
    some_same x y e = cc

pub differ-requires-clause-no_ac : goal.differ-requires-clause-no_ac
differ-requires-clause-no_ac c =
    let at : In_ok-other = (goal.at.differ-requires-clause-no_ac c).In_ok-other in
    (guarded_grown c.args.cx.now c.equation_at-2.new.cx c.requires.guard.0 c.args.guard.now (grown at)
    c.requires.guard.1).no_ac

pub differ-requires-clause-sorted : goal.differ-requires-clause-sorted
differ-requires-clause-sorted c =
    sorted (goal.at.differ-requires-clause-sorted c).In_ok-other

pub returns-in_err-differ-clause-grown : goal.returns-in_err-differ-clause-grown
returns-in_err-differ-clause-grown c =
    grown_twice c.args.cx.now c.equation_at-2.new.cx c.differ.new.cx
    (grown (goal.at.returns-in_err-differ-clause-grown c).In_ok-other) c.in_err-differ.ensures.grown

pub not_two-requires : goal.not_two-requires
not_two-requires c =
    let at : In_ok-other = (goal.at.not_two-requires c).In_ok-other in
    two_equations c.equation_at.new.cx c.equation_at-2.new.cx c.differ.new.cx
    c.args.guard.now.given.hypothesis c.args.guard.now.body c.args.twice.variable (sorted at).0
    c.in-Some-Some.t.now c.in-Some-Some.u.now c.in_ok-one.one.conclusion
    c.in_ok-other.other.conclusion c.in_ok-differ.differ.conclusion c.in_ok-other.ensures.grown
    c.in_ok-differ.ensures.grown
    (subst (λ (o : Option Tree). SaysUnderTwo c.equation_at.new.cx
    c.args.guard.now.given.hypothesis c.args.guard.now.body (is_bound_to c.args.twice.variable o)
    c.in_ok-one.one.conclusion) (first at) c.in_ok-one.ensures.says.says)
    (subst (λ (o : Option Tree). SaysUnderTwo c.equation_at-2.new.cx
    c.args.guard.now.given.hypothesis c.args.guard.now.body (is_bound_to c.args.twice.variable o)
    c.in_ok-other.other.conclusion) (second at) c.in_ok-other.ensures.says.says) (sorted at).2
    c.in_ok-differ.ensures.says

pub returns-clause-says : goal.returns-clause-says
returns-clause-says c =
    if_ok_two c.not_two.result
    (λ t made stays. record {
      says = record {
        image = bot;
        is_image = refl;
        says = made c.args.guard.now.given.hypothesis c.args.guard.now.body
            c.in_ok-one.ensures.says.says.image c.in_ok-one.ensures.says.says.says;
      };
      stays = λ s has. stays s (has.objects c.args.twice.variable, tt) (
        stays_grown c.equation_at-2.new.cx c.differ.new.cx c.in_ok-one.one
            c.in_ok-differ.ensures.grown
            (stays_grown c.equation_at.new.cx c.equation_at-2.new.cx c.in_ok-one.one
            c.in_ok-other.ensures.grown c.in_ok-one.ensures.says.stays) s has,
        (
          stays_grown c.equation_at-2.new.cx c.differ.new.cx c.in_ok-other.other
              c.in_ok-differ.ensures.grown c.in_ok-other.ensures.says.stays s has,
          (c.in_ok-differ.ensures.stays s has, tt),
        ),
      );
    })
    c.not_two.ensures.conclusion c.not_two.ensures.stays

pub returns-clause-grown : goal.returns-clause-grown
returns-clause-grown c =
    grown_twice c.args.cx.now c.equation_at-2.new.cx c.differ.new.cx
    (grown (goal.at.returns-clause-grown c).In_ok-other) c.in_ok-differ.ensures.grown
