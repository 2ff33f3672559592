use Rattle.std.proofs.Common.{◌≡◌, ℕ, length, sym}
use Rattle.std.proofs.Common.{◌∙◌, subst}
use Rattle.term_core.specs.Patterns.{application}
use Rattle.term_core.specs.RulePatterns.{sort_numbers}
use Rattle.term_core.specs.PatternLists.{plain_patterns}
use Rattle.prove_term.specs.Contexts.{HasGrown}
use Rattle.prove_term.specs.OpenAxioms.{SaysTotalFrom}
use Rattle.prove_term.proofs.ResultLaws.{if_ok_two}
use Rattle.prove_term.proofs.InjectionSteps.{length-numbers}
use Rattle.prove_open.specs.Elements.{IsReady, HasElement}
use Rattle.prove_open.proofs.GatheringLaws.{ready_grown, has_element_grown}
use Rattle.prove_open.proofs.GatheringLaws.{elements_grown}
use Rattle.prove_open.proofs.ConstructingLaws.{arguments, arguments_of, total_for, IsTotal, total_some}
use Rattle.prove_open.proofs.ConstructingLaws.{total_element}
use Rattle.prove_open.proofs.elements.total.Goals as goal

pub total_from-requires-clause-constructs : goal.total_from-requires-clause-constructs
total_from-requires-clause-constructs c =
    let e : HasElement c.args.cx.now.program.sig (sort_numbers c.args.sorts.now)
    c.args.given.now (application c.args.symbol.0 (plain_patterns c.args.args.now)) =
    c.requires.covered in
    (e.1.sorted.0, e.1.sorted.1, e.1.sorted.2)

pub at_patterns-requires : goal.at_patterns-requires
at_patterns-requires c =
    let g : HasGrown c.args.cx.now c.total_from.new.self =
    c.in_ok-total.ensures.grown in
    let e : HasElement c.total_from.new.self.program.sig (sort_numbers c.args.sorts.now)
    c.args.given.now (application c.args.symbol.0 (plain_patterns c.args.args.now)) =
    has_element_grown c.args.cx.now c.total_from.new.self (sort_numbers c.args.sorts.now)
    c.args.given.now (application c.args.symbol.0 (plain_patterns c.args.args.now)) g
    c.requires.covered in
    let k : c.in_ok-first_new.field-0 ≡ length (sort_numbers c.args.sorts.now) =
    c.in_ok-first_new.ensures ∙ sym (length-numbers c.args.sorts.now) in
    let says : SaysTotalFrom c.total_from.new.self c.args.symbol.0
    (length (sort_numbers c.args.sorts.now)) c.in_ok-total.total.conclusion =
    subst (λ (n : ℕ). SaysTotalFrom c.total_from.new.self c.args.symbol.0 n
    c.in_ok-total.total.conclusion) k c.in_ok-total.ensures.says in
    (total_for c.total_from.new.self c.args.given.now.hypothesis
    (length (sort_numbers c.args.sorts.now)) c.args.symbol.0 (plain_patterns c.args.args.now)
    c.in_ok-total.total.conclusion c.args.facts.now says
    (arguments c.total_from.new.self (sort_numbers c.args.sorts.now) c.args.given.now
    c.args.symbol.0 c.args.args.now e.0 c.args.facts.now (arguments_of says.numbered) e.1
    (elements_grown c.args.cx.now c.total_from.new.self (sort_numbers c.args.sorts.now)
    c.args.given.now c.args.args.now c.args.facts.now c.in_ok-total.ensures.grown
    c.requires.facts)))

pub one_under-requires : goal.one_under-requires
one_under-requires c =
    let g : HasGrown c.args.cx.now c.total_from.new.self =
    c.in_ok-total.ensures.grown in
    let e : HasElement c.total_from.new.self.program.sig (sort_numbers c.args.sorts.now)
    c.args.given.now (application c.args.symbol.0 (plain_patterns c.args.args.now)) =
    has_element_grown c.args.cx.now c.total_from.new.self (sort_numbers c.args.sorts.now)
    c.args.given.now (application c.args.symbol.0 (plain_patterns c.args.args.now)) g
    c.requires.covered in
    let ready : IsReady c.total_from.new.self (sort_numbers c.args.sorts.now) c.args.given.now =
    ready_grown c.args.cx.now c.total_from.new.self (sort_numbers c.args.sorts.now)
    c.args.given.now g c.requires.ready in
    let k : c.in_ok-first_new.field-0 ≡ length (sort_numbers c.args.sorts.now) =
    c.in_ok-first_new.ensures ∙ sym (length-numbers c.args.sorts.now) in
    let total : IsTotal c.total_from.new.self (sort_numbers c.args.sorts.now) c.args.given.now
    c.args.symbol.0 c.args.args.now c.in_ok-total.total c.in_ok-some.some
    c.args.facts.now =
    record {
      over = ready.given.over;
      says =
          subst (λ (n : ℕ). SaysTotalFrom c.total_from.new.self c.args.symbol.0 n
          c.in_ok-total.total.conclusion) k c.in_ok-total.ensures.says;
      total_stays = c.in_ok-total.ensures.stays;
      elements =
          elements_grown c.args.cx.now c.total_from.new.self
          (sort_numbers c.args.sorts.now) c.args.given.now c.args.args.now
          c.args.facts.now c.in_ok-total.ensures.grown c.requires.facts;
      holds =
          c.in_ok-some.ensures.conclusion;
      stays =
          c.in_ok-some.ensures.stays;
    } in
    total_some c.total_from.new.self (sort_numbers c.args.sorts.now) c.args.given.now
    c.args.symbol.0 c.args.args.now c.in_ok-total.total c.in_ok-some.some
    c.args.facts.now e.0 total e.1

pub returns-clause-is : goal.returns-clause-is
returns-clause-is c =
    let g : HasGrown c.args.cx.now c.total_from.new.self =
    c.in_ok-total.ensures.grown in
    let ready : IsReady c.total_from.new.self (sort_numbers c.args.sorts.now) c.args.given.now =
    ready_grown c.args.cx.now c.total_from.new.self (sort_numbers c.args.sorts.now)
    c.args.given.now g c.requires.ready in
    let k : c.in_ok-first_new.field-0 ≡ length (sort_numbers c.args.sorts.now) =
    c.in_ok-first_new.ensures ∙ sym (length-numbers c.args.sorts.now) in
    let total : IsTotal c.total_from.new.self (sort_numbers c.args.sorts.now) c.args.given.now
    c.args.symbol.0 c.args.args.now c.in_ok-total.total c.in_ok-some.some
    c.args.facts.now =
    record {
      over = ready.given.over;
      says =
          subst (λ (n : ℕ). SaysTotalFrom c.total_from.new.self c.args.symbol.0 n
          c.in_ok-total.total.conclusion) k c.in_ok-total.ensures.says;
      total_stays = c.in_ok-total.ensures.stays;
      elements =
          elements_grown c.args.cx.now c.total_from.new.self
          (sort_numbers c.args.sorts.now) c.args.given.now c.args.args.now
          c.args.facts.now c.in_ok-total.ensures.grown c.requires.facts;
      holds =
          c.in_ok-some.ensures.conclusion;
      stays =
          c.in_ok-some.ensures.stays;
    } in
    if_ok_two c.one_under.result
    (λ made one stays. total_element c.total_from.new.self (sort_numbers c.args.sorts.now)
    c.args.given.now c.args.symbol.0 c.args.args.now c.in_ok-total.total c.in_ok-some.some made
    c.args.facts.now total one stays)
    c.one_under.ensures.conclusion c.one_under.ensures.stays
