use Rattle.std.proofs.Common.{rules, ◌≡◌, [], ◌∷◌, sym, ◌∙◌, subst, length, ℕ}
use Rattle.term_core.specs.Patterns.{injection}
use Rattle.term_core.specs.RulePatterns.{plain_pattern, sort_numbers}
use Rattle.rule_core.specs.declared.rules.Program.{Program}
use Rattle.prove_term.specs.Contexts.{HasGrown}
use Rattle.prove_term.specs.InjectionTables.{InjectsBelow}
use Rattle.prove_term.specs.OpenAxioms.{SaysInjectiveFrom}
use Rattle.prove_term.proofs.ResultLaws.{if_ok_two}
use Rattle.prove_term.proofs.ContextLaws.{grown_twice}
use Rattle.prove_term.proofs.InjectionSteps.{length-numbers}
use Rattle.prove_open.specs.Elements.{IsReady, HasElement, IsElementUnder}
use Rattle.prove_open.proofs.CoverLaws.{covered_below}
use Rattle.prove_open.proofs.GatheringLaws.{ready_grown, has_element_grown, under_grown}
use Rattle.prove_open.proofs.ElementLaws.{injects}
use Rattle.prove_open.proofs.FreedomLaws.{injective_fits, injective_at_patterns}
use Rattle.prove_open.proofs.freedom.injective.Goals as goal

pub element-requires-clause-covered : goal.element-requires-clause-covered
element-requires-clause-covered c = (
  c.args.pair.0.0,
  covered_below c.args.cx.now.program.sig (sort_numbers c.args.sorts.now) c.args.given.now
      c.args.pair.0.0 c.args.pair.1.0 (plain_pattern c.args.left.now) c.requires.left.0
      c.requires.left.1,
)

pub element-requires-2-clause-ready : goal.element-requires-2-clause-ready
element-requires-2-clause-ready c =
    ready_grown c.args.cx.now c.element.new.cx (sort_numbers c.args.sorts.now)
    c.args.given.now c.in_ok-first.ensures.grown c.requires.ready

pub element-requires-2-clause-covered : goal.element-requires-2-clause-covered
element-requires-2-clause-covered c =
    has_element_grown c.args.cx.now c.element.new.cx (sort_numbers c.args.sorts.now)
    c.args.given.now (plain_pattern c.args.right.now) c.in_ok-first.ensures.grown (
      c.args.pair.0.0,
      covered_below c.args.cx.now.program.sig (sort_numbers c.args.sorts.now) c.args.given.now
          c.args.pair.0.0 c.args.pair.1.0 (plain_pattern c.args.right.now) c.requires.right.0
          c.requires.right.1,
    )

pub injective_from-requires : goal.injective_from-requires
injective_from-requires c =
    let g : HasGrown c.args.cx.now c.element-2.new.cx =
    grown_twice c.args.cx.now c.element.new.cx c.element-2.new.cx
    c.in_ok-first.ensures.grown c.in_ok-second.ensures.grown in
    subst (λ (program : Program). InjectsBelow program.sig c.args.pair.0.0 c.args.pair.1.0)
    (sym g.program)
    (injects c.args.cx.now (sort_numbers c.args.sorts.now) c.args.given.now c.args.pair.0.0
    c.args.pair.1.0 (plain_pattern c.args.left.now) c.requires.ready.well_sorted.signature
    c.requires.left)

pub at_patterns-requires : goal.at_patterns-requires
at_patterns-requires c =
    let g : HasGrown c.args.cx.now c.element-2.new.cx =
    grown_twice c.args.cx.now c.element.new.cx c.element-2.new.cx
    c.in_ok-first.ensures.grown c.in_ok-second.ensures.grown in
    let whole : HasGrown c.args.cx.now c.injective_from.new.self =
    grown_twice c.args.cx.now c.element-2.new.cx c.injective_from.new.self g
    c.in_ok-stated.ensures.grown in
    let later : HasGrown c.element.new.cx c.injective_from.new.self =
    grown_twice c.element.new.cx c.element-2.new.cx c.injective_from.new.self
    c.in_ok-second.ensures.grown c.in_ok-stated.ensures.grown in
    let left : HasElement c.injective_from.new.self.program.sig (sort_numbers c.args.sorts.now)
    c.args.given.now
    (injection c.args.pair.0.0 c.args.pair.1.0 (plain_pattern c.args.left.now)) =
    has_element_grown c.args.cx.now c.injective_from.new.self (sort_numbers c.args.sorts.now)
    c.args.given.now
    (injection c.args.pair.0.0 c.args.pair.1.0 (plain_pattern c.args.left.now)) whole
    c.requires.left in
    let right : HasElement c.injective_from.new.self.program.sig (sort_numbers c.args.sorts.now)
    c.args.given.now
    (injection c.args.pair.0.0 c.args.pair.1.0 (plain_pattern c.args.right.now)) =
    has_element_grown c.args.cx.now c.injective_from.new.self (sort_numbers c.args.sorts.now)
    c.args.given.now
    (injection c.args.pair.0.0 c.args.pair.1.0 (plain_pattern c.args.right.now)) whole
    c.requires.right in
    let first : IsElementUnder c.injective_from.new.self (sort_numbers c.args.sorts.now)
    c.args.given.now (plain_pattern c.args.left.now) c.in_ok-first.first =
    under_grown c.element.new.cx c.injective_from.new.self (sort_numbers c.args.sorts.now)
    c.args.given.now (plain_pattern c.args.left.now) c.in_ok-first.first later
    c.in_ok-first.ensures.is in
    let second : IsElementUnder c.injective_from.new.self (sort_numbers c.args.sorts.now)
    c.args.given.now (plain_pattern c.args.right.now) c.in_ok-second.second =
    under_grown c.element-2.new.cx c.injective_from.new.self (sort_numbers c.args.sorts.now)
    c.args.given.now (plain_pattern c.args.right.now) c.in_ok-second.second
    c.in_ok-stated.ensures.grown c.in_ok-second.ensures.is in
    let are : c.deref.result.now ≡ c.in_ok-first.first ∷ c.in_ok-second.second ∷ [] =
    search rules in
    let k : c.in_ok-first_new.field-0 ≡ length (sort_numbers c.args.sorts.now) =
    c.in_ok-first_new.ensures ∙ sym (length-numbers c.args.sorts.now) in
    let says : SaysInjectiveFrom c.injective_from.new.self c.args.pair.0.0 c.args.pair.1.0
    (length (sort_numbers c.args.sorts.now)) c.in_ok-stated.stated.conclusion =
    subst (λ (n : ℕ). SaysInjectiveFrom c.injective_from.new.self c.args.pair.0.0
    c.args.pair.1.0 n c.in_ok-stated.stated.conclusion) k c.in_ok-stated.ensures.says in
    injective_fits c.injective_from.new.self (sort_numbers c.args.sorts.now) c.args.given.now
    c.args.pair.0.0 c.args.pair.1.0 (plain_pattern c.args.left.now)
    (plain_pattern c.args.right.now) left.0 right.0 c.in_ok-stated.stated.conclusion
    c.in_ok-first.first c.in_ok-second.second c.deref.result.now says left.1 right.1 first second
    are

pub returns-clause-is : goal.returns-clause-is
returns-clause-is c =
    let g : HasGrown c.args.cx.now c.element-2.new.cx =
    grown_twice c.args.cx.now c.element.new.cx c.element-2.new.cx
    c.in_ok-first.ensures.grown c.in_ok-second.ensures.grown in
    let whole : HasGrown c.args.cx.now c.injective_from.new.self =
    grown_twice c.args.cx.now c.element-2.new.cx c.injective_from.new.self g
    c.in_ok-stated.ensures.grown in
    let later : HasGrown c.element.new.cx c.injective_from.new.self =
    grown_twice c.element.new.cx c.element-2.new.cx c.injective_from.new.self
    c.in_ok-second.ensures.grown c.in_ok-stated.ensures.grown in
    let left : HasElement c.injective_from.new.self.program.sig (sort_numbers c.args.sorts.now)
    c.args.given.now
    (injection c.args.pair.0.0 c.args.pair.1.0 (plain_pattern c.args.left.now)) =
    has_element_grown c.args.cx.now c.injective_from.new.self (sort_numbers c.args.sorts.now)
    c.args.given.now
    (injection c.args.pair.0.0 c.args.pair.1.0 (plain_pattern c.args.left.now)) whole
    c.requires.left in
    let right : HasElement c.injective_from.new.self.program.sig (sort_numbers c.args.sorts.now)
    c.args.given.now
    (injection c.args.pair.0.0 c.args.pair.1.0 (plain_pattern c.args.right.now)) =
    has_element_grown c.args.cx.now c.injective_from.new.self (sort_numbers c.args.sorts.now)
    c.args.given.now
    (injection c.args.pair.0.0 c.args.pair.1.0 (plain_pattern c.args.right.now)) whole
    c.requires.right in
    let first : IsElementUnder c.injective_from.new.self (sort_numbers c.args.sorts.now)
    c.args.given.now (plain_pattern c.args.left.now) c.in_ok-first.first =
    under_grown c.element.new.cx c.injective_from.new.self (sort_numbers c.args.sorts.now)
    c.args.given.now (plain_pattern c.args.left.now) c.in_ok-first.first later
    c.in_ok-first.ensures.is in
    let second : IsElementUnder c.injective_from.new.self (sort_numbers c.args.sorts.now)
    c.args.given.now (plain_pattern c.args.right.now) c.in_ok-second.second =
    under_grown c.element-2.new.cx c.injective_from.new.self (sort_numbers c.args.sorts.now)
    c.args.given.now (plain_pattern c.args.right.now) c.in_ok-second.second
    c.in_ok-stated.ensures.grown c.in_ok-second.ensures.is in
    let are : c.deref.result.now ≡ c.in_ok-first.first ∷ c.in_ok-second.second ∷ [] =
    search rules in
    let k : c.in_ok-first_new.field-0 ≡ length (sort_numbers c.args.sorts.now) =
    c.in_ok-first_new.ensures ∙ sym (length-numbers c.args.sorts.now) in
    let says : SaysInjectiveFrom c.injective_from.new.self c.args.pair.0.0 c.args.pair.1.0
    (length (sort_numbers c.args.sorts.now)) c.in_ok-stated.stated.conclusion =
    subst (λ (n : ℕ). SaysInjectiveFrom c.injective_from.new.self c.args.pair.0.0
    c.args.pair.1.0 n c.in_ok-stated.stated.conclusion) k c.in_ok-stated.ensures.says in
    let ready : IsReady c.injective_from.new.self (sort_numbers c.args.sorts.now)
    c.args.given.now =
    ready_grown c.args.cx.now c.injective_from.new.self (sort_numbers c.args.sorts.now)
    c.args.given.now whole c.requires.ready in
    if_ok_two c.at_patterns.result
    (λ t holds stays. injective_at_patterns c.injective_from.new.self
    (sort_numbers c.args.sorts.now) c.args.given.now c.args.pair.0.0 c.args.pair.1.0
    (plain_pattern c.args.left.now) (plain_pattern c.args.right.now) left.0 right.0
    c.in_ok-stated.stated c.in_ok-first.first c.in_ok-second.second c.deref.result.now t says
    left.1 right.1 first second are
    (record {
      over = ready.given.over;
      stated_stays = c.in_ok-stated.ensures.stays;
      holds = holds;
      stays = stays;
    }))
    c.at_patterns.ensures.conclusion c.at_patterns.ensures.stays

pub returns-in_err-stated-clause-grown : goal.returns-in_err-stated-clause-grown
returns-in_err-stated-clause-grown c =
    grown_twice c.args.cx.now c.element.new.cx c.injective_from.new.self
    c.in_ok-first.ensures.grown
    (grown_twice c.element.new.cx c.element-2.new.cx c.injective_from.new.self
    c.in_ok-second.ensures.grown c.injective_from.ensures.grown)

pub returns-clause-grown : goal.returns-clause-grown
returns-clause-grown c =
    grown_twice c.args.cx.now c.element.new.cx c.injective_from.new.self
    c.in_ok-first.ensures.grown
    (grown_twice c.element.new.cx c.element-2.new.cx c.injective_from.new.self
    c.in_ok-second.ensures.grown c.in_ok-stated.ensures.grown)
