use Rattle.std.proofs.Common.{◌≡◌, [], ◌∷◌, sym, ◌∙◌, subst, length, List, ℕ}
use Rattle.ml_kernel.specs.Theorems.{Theorem, conclusions}
use Rattle.ml_derived.specs.Scopes.{StaysWithin}
use Rattle.term_core.specs.Patterns.{application}
use Rattle.term_core.specs.RulePatterns.{sort_numbers}
use Rattle.term_core.specs.PatternLists.{plain_patterns}
use Rattle.rule_core.specs.declared.rules.Program.{Program}
use Rattle.prove_term.specs.Contexts.{HasGrown}
use Rattle.prove_term.specs.OpenAxioms.{SaysFreeFrom, IsFreeConstructor}
use Rattle.prove_term.proofs.ResultLaws.{if_ok_two}
use Rattle.prove_term.proofs.ContextLaws.{grown_twice}
use Rattle.prove_term.proofs.InjectionSteps.{length-numbers}
use Rattle.prove_open.specs.Instances.{IsForPatterns, HoldsOfPatterns}
use Rattle.prove_open.specs.Elements.{IsReady, HasElement, AreBothUnder}
use Rattle.prove_open.proofs.CoverLaws.{covered_arguments, have_elements}
use Rattle.prove_open.proofs.GatheringLaws.{ready_grown, has_element_grown, both_grown}
use Rattle.prove_open.proofs.FreedomLaws.{both_arguments, free_for, free_under, is_free}
use Rattle.prove_open.proofs.freedom.freed.Goals as goal

pub both_elements-requires-clause-left : goal.both_elements-requires-clause-left
both_elements-requires-clause-left c =
    have_elements c.args.cx.now.program.sig (sort_numbers c.args.sorts.now) c.args.given.now
    c.args.left.now c.requires.left.1.sorted.0.args.items
    (covered_arguments c.args.cx.now.program.sig (sort_numbers c.args.sorts.now)
    c.args.given.now c.args.symbol.0 (plain_patterns c.args.left.now) c.requires.left.0
    c.requires.left.1)

pub both_elements-requires-clause-right : goal.both_elements-requires-clause-right
both_elements-requires-clause-right c =
    have_elements c.args.cx.now.program.sig (sort_numbers c.args.sorts.now) c.args.given.now
    c.args.right.now c.requires.right.1.sorted.0.args.items
    (covered_arguments c.args.cx.now.program.sig (sort_numbers c.args.sorts.now)
    c.args.given.now c.args.symbol.0 (plain_patterns c.args.right.now) c.requires.right.0
    c.requires.right.1)

pub free_from-requires-clause-free : goal.free_from-requires-clause-free
free_from-requires-clause-free c =
    subst (λ (program : Program). IsFreeConstructor program.sig c.args.symbol.0)
    (sym c.in_ok-facts.ensures.grown.program)
    (is_free c.args.cx.now.program.sig (sort_numbers c.args.sorts.now) c.args.given.now
    c.args.symbol.0 c.args.left.now c.requires.left.0 c.requires.no_ac c.requires.some
    c.requires.left.1)

pub at_patterns-requires : goal.at_patterns-requires
at_patterns-requires c =
    let g : HasGrown c.args.cx.now c.free_from.new.self =
    grown_twice c.args.cx.now c.both_elements.new.cx c.free_from.new.self
    c.in_ok-facts.ensures.grown c.in_ok-stated.ensures.grown in
    let left : HasElement c.free_from.new.self.program.sig (sort_numbers c.args.sorts.now)
    c.args.given.now (application c.args.symbol.0 (plain_patterns c.args.left.now)) =
    has_element_grown c.args.cx.now c.free_from.new.self (sort_numbers c.args.sorts.now)
    c.args.given.now (application c.args.symbol.0 (plain_patterns c.args.left.now)) g
    c.requires.left in
    let right : HasElement c.free_from.new.self.program.sig (sort_numbers c.args.sorts.now)
    c.args.given.now (application c.args.symbol.0 (plain_patterns c.args.right.now)) =
    has_element_grown c.args.cx.now c.free_from.new.self (sort_numbers c.args.sorts.now)
    c.args.given.now (application c.args.symbol.0 (plain_patterns c.args.right.now)) g
    c.requires.right in
    let both : AreBothUnder c.free_from.new.self (sort_numbers c.args.sorts.now)
    c.args.given.now c.args.left.now c.args.right.now c.in_ok-facts.facts.items =
    both_grown c.both_elements.new.cx c.free_from.new.self (sort_numbers c.args.sorts.now)
    c.args.given.now c.args.left.now c.args.right.now c.in_ok-facts.facts.items
    c.in_ok-stated.ensures.grown c.in_ok-facts.ensures.are in
    let k : c.in_ok-first_new.field-0 ≡ length (sort_numbers c.args.sorts.now) =
    c.in_ok-first_new.ensures ∙ sym (length-numbers c.args.sorts.now) in
    let says : SaysFreeFrom c.free_from.new.self c.args.symbol.0
    (length (sort_numbers c.args.sorts.now)) c.in_ok-stated.stated.conclusion =
    subst (λ (n : ℕ). SaysFreeFrom c.free_from.new.self c.args.symbol.0 n
    c.in_ok-stated.stated.conclusion) k c.in_ok-stated.ensures.says in
    subst (λ (ts : List Theorem). IsForPatterns c.args.given.now.hypothesis
    c.in_ok-stated.stated.conclusion (conclusions ts)) (sym c.deref.ensures.value)
    (free_for c.free_from.new.self c.args.given.now.hypothesis
    (length (sort_numbers c.args.sorts.now)) c.args.symbol.0 (plain_patterns c.args.left.now)
    (plain_patterns c.args.right.now) c.in_ok-stated.stated.conclusion c.in_ok-facts.facts.items
    says
    (both_arguments c.free_from.new.self (sort_numbers c.args.sorts.now) c.args.given.now
    c.args.symbol.0 c.args.symbol.0 c.args.left.now c.args.right.now left.0 right.0
    c.in_ok-facts.facts.items says.numbered says.numbered left.1 right.1 both))

pub returns-clause-is : goal.returns-clause-is
returns-clause-is c =
    let g : HasGrown c.args.cx.now c.free_from.new.self =
    grown_twice c.args.cx.now c.both_elements.new.cx c.free_from.new.self
    c.in_ok-facts.ensures.grown c.in_ok-stated.ensures.grown in
    let left : HasElement c.free_from.new.self.program.sig (sort_numbers c.args.sorts.now)
    c.args.given.now (application c.args.symbol.0 (plain_patterns c.args.left.now)) =
    has_element_grown c.args.cx.now c.free_from.new.self (sort_numbers c.args.sorts.now)
    c.args.given.now (application c.args.symbol.0 (plain_patterns c.args.left.now)) g
    c.requires.left in
    let right : HasElement c.free_from.new.self.program.sig (sort_numbers c.args.sorts.now)
    c.args.given.now (application c.args.symbol.0 (plain_patterns c.args.right.now)) =
    has_element_grown c.args.cx.now c.free_from.new.self (sort_numbers c.args.sorts.now)
    c.args.given.now (application c.args.symbol.0 (plain_patterns c.args.right.now)) g
    c.requires.right in
    let both : AreBothUnder c.free_from.new.self (sort_numbers c.args.sorts.now)
    c.args.given.now c.args.left.now c.args.right.now c.in_ok-facts.facts.items =
    both_grown c.both_elements.new.cx c.free_from.new.self (sort_numbers c.args.sorts.now)
    c.args.given.now c.args.left.now c.args.right.now c.in_ok-facts.facts.items
    c.in_ok-stated.ensures.grown c.in_ok-facts.ensures.are in
    let k : c.in_ok-first_new.field-0 ≡ length (sort_numbers c.args.sorts.now) =
    c.in_ok-first_new.ensures ∙ sym (length-numbers c.args.sorts.now) in
    let says : SaysFreeFrom c.free_from.new.self c.args.symbol.0
    (length (sort_numbers c.args.sorts.now)) c.in_ok-stated.stated.conclusion =
    subst (λ (n : ℕ). SaysFreeFrom c.free_from.new.self c.args.symbol.0 n
    c.in_ok-stated.stated.conclusion) k c.in_ok-stated.ensures.says in
    let ready : IsReady c.free_from.new.self (sort_numbers c.args.sorts.now) c.args.given.now =
    ready_grown c.args.cx.now c.free_from.new.self (sort_numbers c.args.sorts.now)
    c.args.given.now g c.requires.ready in
    if_ok_two c.at_patterns.result
    (λ t holds stays.
    free_under c.free_from.new.self (sort_numbers c.args.sorts.now) c.args.given.now
    c.args.symbol.0 c.args.left.now c.args.right.now left.0 right.0 c.in_ok-stated.stated
    c.in_ok-facts.facts.items t says left.1 right.1 both
    (record {
      over = ready.given.over;
      stated_stays = c.in_ok-stated.ensures.stays;
      holds =
          subst (λ (ts : List Theorem). HoldsOfPatterns c.args.given.now.hypothesis
          c.in_ok-stated.stated.conclusion (conclusions ts) t.conclusion)
          c.deref.ensures.value holds;
      stays =
          subst (λ (ts : List Theorem). StaysWithin (c.args.given.now.hypothesis ∷ [])
          (c.in_ok-stated.stated ∷ ts) t) c.deref.ensures.value stays;
    }))
    c.at_patterns.ensures.conclusion c.at_patterns.ensures.stays
