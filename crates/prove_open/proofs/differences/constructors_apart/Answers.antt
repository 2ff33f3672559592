use Rattle.std.proofs.Common.{◌≡◌, [], ◌∷◌, List, ℕ, sym, ◌∙◌, subst, length}
use Rattle.ml_kernel.specs.Theorems.{Theorem, conclusions}
use Rattle.ml_derived.specs.Scopes.{StaysWithin}
use Rattle.term_core.specs.Patterns.{application}
use Rattle.term_core.specs.PatternLists.{plain_patterns}
use Rattle.term_core.specs.RulePatterns.{sort_numbers}
use Rattle.rule_core.specs.declared.rules.Program.{Program}
use Rattle.prove_term.specs.Contexts.{HasGrown}
use Rattle.prove_term.specs.OpenAxioms.{SaysApartFrom, AreApartConstructors}
use Rattle.prove_term.proofs.ContextLaws.{grown_twice}
use Rattle.prove_term.proofs.InjectionSteps.{length-numbers}
use Rattle.prove_term.proofs.ResultLaws.{if_ok_two}
use Rattle.prove_open.specs.Elements.{IsReady, AreBothUnder}
use Rattle.prove_open.specs.FactSides.{AreCoveredAlike}
use Rattle.prove_open.specs.Instances.{IsForPatterns, HoldsOfPatterns}
use Rattle.prove_open.proofs.CoverLaws.{covered_arguments, have_elements}
use Rattle.prove_open.proofs.FreedomLaws.{both_arguments}
use Rattle.prove_open.proofs.GatheringLaws.{ready_grown, both_grown}
use Rattle.prove_open.proofs.KeptApart.{apart_constructors, apart_for, apart_under}
use Rattle.prove_open.proofs.differences.constructors_apart.Goals as goal

pub both_elements-requires-clause-ready : goal.both_elements-requires-clause-ready
both_elements-requires-clause-ready c = c.requires.ready

pub both_elements-requires-clause-left : goal.both_elements-requires-clause-left
both_elements-requires-clause-left c =
    have_elements c.args.cx.now.program.sig (sort_numbers c.args.sorts.now) c.args.given.now
    c.args.left.now c.requires.covered.1.sorted.0.args.items
    (covered_arguments c.args.cx.now.program.sig (sort_numbers c.args.sorts.now)
    c.args.given.now c.args.first.0 (plain_patterns c.args.left.now) c.requires.covered.0
    c.requires.covered.1)

pub both_elements-requires-clause-right : goal.both_elements-requires-clause-right
both_elements-requires-clause-right c =
    have_elements c.args.cx.now.program.sig (sort_numbers c.args.sorts.now) c.args.given.now
    c.args.right.now c.requires.covered.2.sorted.0.args.items
    (covered_arguments c.args.cx.now.program.sig (sort_numbers c.args.sorts.now)
    c.args.given.now c.args.second.0 (plain_patterns c.args.right.now) c.requires.covered.0
    c.requires.covered.2)

pub apart_from-requires-clause-apart : goal.apart_from-requires-clause-apart
apart_from-requires-clause-apart c =
    subst (λ (program : Program). AreApartConstructors program.sig c.args.first.0
    c.args.second.0) (sym c.in_ok-facts.ensures.grown.program)
    (apart_constructors c.args.cx.now.program.sig (sort_numbers c.args.sorts.now)
    c.args.given.now c.args.first.0 c.args.second.0 (plain_patterns c.args.left.now)
    (plain_patterns c.args.right.now) c.requires.ready.well_sorted.signature c.requires.no_ac
    c.requires.differ c.requires.covered)

pub at_patterns-requires : goal.at_patterns-requires
at_patterns-requires c =
    let g : HasGrown c.args.cx.now c.apart_from.new.self =
    grown_twice c.args.cx.now c.both_elements.new.cx c.apart_from.new.self
    c.in_ok-facts.ensures.grown c.in_ok-stated.ensures.grown in
    let covered : AreCoveredAlike c.apart_from.new.self.program.sig
    (sort_numbers c.args.sorts.now) c.args.given.now
    (application c.args.first.0 (plain_patterns c.args.left.now))
    (application c.args.second.0 (plain_patterns c.args.right.now)) =
    subst (λ (program : Program). AreCoveredAlike program.sig (sort_numbers c.args.sorts.now)
    c.args.given.now (application c.args.first.0 (plain_patterns c.args.left.now))
    (application c.args.second.0 (plain_patterns c.args.right.now))) (sym g.program)
    c.requires.covered in
    let both : AreBothUnder c.apart_from.new.self (sort_numbers c.args.sorts.now)
    c.args.given.now c.args.left.now c.args.right.now c.in_ok-facts.facts.items =
    both_grown c.both_elements.new.cx c.apart_from.new.self (sort_numbers c.args.sorts.now)
    c.args.given.now c.args.left.now c.args.right.now c.in_ok-facts.facts.items
    c.in_ok-stated.ensures.grown c.in_ok-facts.ensures.are in
    let k : c.in_ok-first_new.field-0 ≡ length (sort_numbers c.args.sorts.now) =
    c.in_ok-first_new.ensures ∙ sym (length-numbers c.args.sorts.now) in
    let says : SaysApartFrom c.apart_from.new.self c.args.first.0 c.args.second.0
    (length (sort_numbers c.args.sorts.now)) c.in_ok-stated.stated.conclusion =
    subst (λ (n : ℕ). SaysApartFrom c.apart_from.new.self c.args.first.0 c.args.second.0 n
    c.in_ok-stated.stated.conclusion) k c.in_ok-stated.ensures.says in
    subst (λ (ts : List Theorem). IsForPatterns c.args.given.now.hypothesis
    c.in_ok-stated.stated.conclusion (conclusions ts)) (sym c.deref.ensures.value)
    (apart_for c.apart_from.new.self c.args.given.now.hypothesis
    (length (sort_numbers c.args.sorts.now)) c.args.first.0 c.args.second.0
    (plain_patterns c.args.left.now) (plain_patterns c.args.right.now)
    c.in_ok-stated.stated.conclusion c.in_ok-facts.facts.items says
    (both_arguments c.apart_from.new.self (sort_numbers c.args.sorts.now) c.args.given.now
    c.args.first.0 c.args.second.0 c.args.left.now c.args.right.now covered.0 covered.0
    c.in_ok-facts.facts.items says.first says.second covered.1 covered.2 both))

pub returns-clause-apart : goal.returns-clause-apart
returns-clause-apart c =
    let g : HasGrown c.args.cx.now c.apart_from.new.self =
    grown_twice c.args.cx.now c.both_elements.new.cx c.apart_from.new.self
    c.in_ok-facts.ensures.grown c.in_ok-stated.ensures.grown in
    let ready : IsReady c.apart_from.new.self (sort_numbers c.args.sorts.now) c.args.given.now =
    ready_grown c.args.cx.now c.apart_from.new.self (sort_numbers c.args.sorts.now)
    c.args.given.now g c.requires.ready in
    let covered : AreCoveredAlike c.apart_from.new.self.program.sig
    (sort_numbers c.args.sorts.now) c.args.given.now
    (application c.args.first.0 (plain_patterns c.args.left.now))
    (application c.args.second.0 (plain_patterns c.args.right.now)) =
    subst (λ (program : Program). AreCoveredAlike program.sig (sort_numbers c.args.sorts.now)
    c.args.given.now (application c.args.first.0 (plain_patterns c.args.left.now))
    (application c.args.second.0 (plain_patterns c.args.right.now))) (sym g.program)
    c.requires.covered in
    let both : AreBothUnder c.apart_from.new.self (sort_numbers c.args.sorts.now)
    c.args.given.now c.args.left.now c.args.right.now c.in_ok-facts.facts.items =
    both_grown c.both_elements.new.cx c.apart_from.new.self (sort_numbers c.args.sorts.now)
    c.args.given.now c.args.left.now c.args.right.now c.in_ok-facts.facts.items
    c.in_ok-stated.ensures.grown c.in_ok-facts.ensures.are in
    let k : c.in_ok-first_new.field-0 ≡ length (sort_numbers c.args.sorts.now) =
    c.in_ok-first_new.ensures ∙ sym (length-numbers c.args.sorts.now) in
    let says : SaysApartFrom c.apart_from.new.self c.args.first.0 c.args.second.0
    (length (sort_numbers c.args.sorts.now)) c.in_ok-stated.stated.conclusion =
    subst (λ (n : ℕ). SaysApartFrom c.apart_from.new.self c.args.first.0 c.args.second.0 n
    c.in_ok-stated.stated.conclusion) k c.in_ok-stated.ensures.says in
    if_ok_two c.at_patterns.result
    (λ made holds stays. apart_under c.apart_from.new.self (sort_numbers c.args.sorts.now)
    c.args.given.now c.args.first.0 c.args.second.0 c.args.left.now c.args.right.now covered.0
    covered.0 c.in_ok-stated.stated c.in_ok-facts.facts.items made says covered.1 covered.2 both
    (record {
      over = ready.given.over;
      stated_stays = c.in_ok-stated.ensures.stays;
      holds =
          subst (λ (ts : List Theorem). HoldsOfPatterns c.args.given.now.hypothesis
          c.in_ok-stated.stated.conclusion (conclusions ts) made.conclusion)
          c.deref.ensures.value holds;
      stays =
          subst (λ (ts : List Theorem). StaysWithin (c.args.given.now.hypothesis ∷ [])
          (c.in_ok-stated.stated ∷ ts) made) c.deref.ensures.value stays;
    }))
    c.at_patterns.ensures.conclusion c.at_patterns.ensures.stays
