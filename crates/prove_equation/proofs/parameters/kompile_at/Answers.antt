use Rattle.std.proofs.Common.{◌≡◌, ℕ, List, [], ◌++◌, sym, ◌∙◌, ap, subst, arith}
use Rattle.std.specs.List.{AllZip}
use Rattle.ml_pat.specs.Patterns.{Pattern}
use Rattle.ml_kernel.specs.Theorems.{Theorem}
use Rattle.term_core.specs.Patterns.{instances_of}
use Rattle.term_core.specs.PatternLists.{plain_patterns}
use Rattle.term_core.specs.declared.rule_patterns.RulePat.{RulePat}
use Rattle.rule_core.specs.ProgramView.{function_equation, names_of, theory_of}
use Rattle.rule_core.specs.Theories.{equations_of}
use Rattle.rule_core.specs.Sorting.{HaveSorts}
use Rattle.rule_core.specs.declared.rules.Named.{Named}
use Rattle.rule_core.specs.declared.signature.SortRef.{SortRef}
use Rattle.prove_term.specs.FilledSides.{AreBoundToParts}
use Rattle.prove_term.proofs.ContextLaws.{grown_twice}
use Rattle.prove_schema.specs.Elements.{IsElementOf}
use Rattle.prove_schema.specs.Using.{IsUsable, IsUsed, StaysUsed}
use Rattle.prove_schema.proofs.ResultLaws.{if_ok_two}
use Rattle.prove_equation.specs.Conditions.{listed}
use Rattle.prove_equation.specs.Parameters.{AreMemberships}
use Rattle.prove_equation.proofs.FillingLaws.{all_bound, can_use_grown}
use Rattle.prove_equation.proofs.ShapeLaws.{few_arguments}
use Rattle.prove_equation.proofs.TurningLaws.{arguments_sorted}
use Rattle.prove_equation.proofs.MembershipLaws.{met_terms}
use Rattle.prove_equation.proofs.KompileLaws.{IsMet, met_later, met_usable, met_proves}
use Rattle.prove_equation.proofs.parameters.kompile_at.Goals as goal

pub term_elements-requires-clause-well_sorted : goal.term_elements-requires-clause-well_sorted
term_elements-requires-clause-well_sorted c = c.requires.usable.well_sorted

pub term_elements-requires-clause-sorted : goal.term_elements-requires-clause-sorted
term_elements-requires-clause-sorted c = met_terms c.args.args.now c.requires.usable

pub memberships-requires-clause-signature : goal.memberships-requires-clause-signature
memberships-requires-clause-signature c =
    (can_use_grown c.term_elements.ensures.grown c.requires.usable).well_sorted.signature

pub memberships-requires-clause-sorted : goal.memberships-requires-clause-sorted
memberships-requires-clause-sorted c =
    let can = can_use_grown c.term_elements.ensures.grown c.requires.usable in
    let args : (refs : List SortRef) × HaveSorts c.term_elements.new.cx.program.sig
    (function_equation c.args.equation.now).variables []
    (function_equation c.args.equation.now).arguments refs =
    arguments_sorted c.term_elements.new.cx c.args.equation.now.fun.0
    (function_equation c.args.equation.now) can.well_sorted can.own in (
      (function_equation c.args.equation.now).variables,
      args.0,
      subst (λ (ps : List RulePat). HaveSorts c.term_elements.new.cx.program.sig
          (function_equation c.args.equation.now).variables [] (plain_patterns ps) args.0)
          (sym c.deref.ensures.value) args.1,
      can.matches.binds.sorted,
    )

pub memberships-requires-clause-makes : goal.memberships-requires-clause-makes
memberships-requires-clause-makes c =
    ap (λ (ps : List RulePat). instances_of c.args.subst.now (plain_patterns ps))
    c.deref.ensures.value ∙ c.requires.usable.matches.makes

pub memberships-requires-clause-named : goal.memberships-requires-clause-named
memberships-requires-clause-named c =
    subst (λ (ps : List RulePat).
    AreBoundToParts c.args.subst.now (plain_patterns ps) (names_of c.deref-2.result.now))
    (sym c.deref.ensures.value)
    (subst (λ (ns : List Named). AreBoundToParts c.args.subst.now
    (function_equation c.args.equation.now).arguments (names_of ns)) (sym c.deref-2.ensures.value)
    c.requires.usable.matches.named)

pub memberships-requires-clause-few : goal.memberships-requires-clause-few
memberships-requires-clause-few c =
    few_arguments c.args.cx.now
    (equations_of (theory_of c.args.cx.now.program) c.args.equation.now.fun.0) c.args.equation.now
    c.deref.result.now c.requires.usable.image
    c.requires.kompile c.deref.ensures.value

pub memberships-requires-clause-facts : goal.memberships-requires-clause-facts
memberships-requires-clause-facts c =
    subst (λ (ts : List Theorem). AllZip (IsElementOf c.term_elements.new.cx) c.args.args.now ts)
    (sym c.deref-3.ensures.value) c.in_ok-first.ensures.facts

pub elements-requires-clause-well_sorted : goal.elements-requires-clause-well_sorted
elements-requires-clause-well_sorted c =
    (can_use_grown (grown_twice c.args.cx.now c.term_elements.new.cx c.memberships.new.cx
    c.term_elements.ensures.grown c.memberships.ensures.grown) c.requires.usable).well_sorted

pub elements-requires-clause-few : goal.elements-requires-clause-few
elements-requires-clause-few c =
    omega (arith, c.requires.usable.matches.binds.room, c.requires.usable.image.few)

pub elements-requires-clause-bound : goal.elements-requires-clause-bound
elements-requires-clause-bound c =
    let can =
    can_use_grown (grown_twice c.args.cx.now c.term_elements.new.cx c.memberships.new.cx
    c.term_elements.ensures.grown c.memberships.ensures.grown) c.requires.usable in
    all_bound c.memberships.new.cx.program.sig (function_equation c.args.equation.now).variables
    c.args.subst.now can.matches.binds.sorted can.matches.binds.room can.bound

pub schema_at-requires : goal.schema_at-requires
schema_at-requires c =
    let facts : c.deref-10.result.now ≡ c.in_ok-first.first.items ++ c.in_ok-rest.rest.items =
    c.deref-10.ensures.value ∙ c.in_ok-facts.ensures
    ∙ ap (λ (ts : List Theorem). ts ++ c.deref-5.result.now) c.deref-4.ensures.value
    ∙ ap (λ (ts : List Theorem). c.in_ok-first.first.items ++ ts) c.deref-5.ensures.value in
    let before : c.in_ok-before.before.items ≡ c.in_ok-members.members.items ++ listed
    c.args.denied.now =
    c.in_ok-before.ensures
    ∙ ap (λ (ts : List Theorem). ts ++ c.deref-7.result.now) c.deref-6.ensures.value
    ∙ ap (λ (ts : List Theorem). c.in_ok-members.members.items ++ ts)
    (c.deref-7.ensures.value ∙ c.in_ok-denials.ensures) in
    let others : c.deref-11.result.now
    ≡ (c.in_ok-members.members.items ++ listed c.args.denied.now) ++ listed c.args.condition.now =
    c.deref-11.ensures.value ∙ c.in_ok-others.ensures
    ∙ ap (λ (ts : List Theorem). ts ++ c.deref-9.result.now) (c.deref-8.ensures.value ∙ before)
    ∙ ap (λ (ts : List Theorem).
    (c.in_ok-members.members.items ++ listed c.args.denied.now) ++ ts)
    (c.deref-9.ensures.value ∙ c.in_ok-held.ensures) in
    let w : IsMet c.elements.new.cx c.args.equation.now.fun.0
    (function_equation c.args.equation.now) c.args.lemma.now c.args.subst.now
    c.args.args.now c.args.condition.now c.args.denied.now c.in_ok-first.first.items
    c.in_ok-rest.rest.items
    c.in_ok-members.members.items =
    met_later c.term_elements.new.cx c.memberships.new.cx c.args.args.now
    c.term_elements.ensures.grown c.memberships.ensures.grown c.elements.ensures.grown
    c.requires.usable c.requires.kompile c.in_ok-first.ensures.facts
    (subst (λ (ps : List RulePat). AreMemberships c.memberships.new.cx c.args.subst.now
    (function_equation c.args.equation.now).names 0 (plain_patterns ps) c.args.args.now
    c.in_ok-members.members.items) c.deref.ensures.value
    (subst (λ (ns : List Named). AreMemberships c.memberships.new.cx c.args.subst.now (names_of ns)
    0
    (plain_patterns c.deref.result.now) c.args.args.now c.in_ok-members.members.items)
    c.deref-2.ensures.value c.in_ok-members.ensures.members)) c.in_ok-rest.ensures.facts in
    subst (λ (ts : List Theorem). (qs : List Pattern) × (ns : List ℕ)
    × IsUsable qs ns c.args.lemma.now ts c.deref-11.result.now) (sym facts)
    (subst (λ (os : List Theorem). (qs : List Pattern) × (ns : List ℕ)
    × IsUsable qs ns c.args.lemma.now (c.in_ok-first.first.items ++ c.in_ok-rest.rest.items)
    os) (sym others)
    (met_usable c.elements.new.cx c.args.equation.now.fun.0 (function_equation c.args.equation.now)
    c.args.lemma.now c.args.subst.now c.args.args.now c.args.condition.now c.args.denied.now
    c.in_ok-first.first.items c.in_ok-rest.rest.items c.in_ok-members.members.items w))

pub returns-clause-proves : goal.returns-clause-proves
returns-clause-proves c =
    let facts : c.deref-10.result.now ≡ c.in_ok-first.first.items ++ c.in_ok-rest.rest.items =
    c.deref-10.ensures.value ∙ c.in_ok-facts.ensures
    ∙ ap (λ (ts : List Theorem). ts ++ c.deref-5.result.now) c.deref-4.ensures.value
    ∙ ap (λ (ts : List Theorem). c.in_ok-first.first.items ++ ts) c.deref-5.ensures.value in
    let before : c.in_ok-before.before.items ≡ c.in_ok-members.members.items ++ listed
    c.args.denied.now =
    c.in_ok-before.ensures
    ∙ ap (λ (ts : List Theorem). ts ++ c.deref-7.result.now) c.deref-6.ensures.value
    ∙ ap (λ (ts : List Theorem). c.in_ok-members.members.items ++ ts)
    (c.deref-7.ensures.value ∙ c.in_ok-denials.ensures) in
    let others : c.deref-11.result.now
    ≡ (c.in_ok-members.members.items ++ listed c.args.denied.now) ++ listed c.args.condition.now =
    c.deref-11.ensures.value ∙ c.in_ok-others.ensures
    ∙ ap (λ (ts : List Theorem). ts ++ c.deref-9.result.now) (c.deref-8.ensures.value ∙ before)
    ∙ ap (λ (ts : List Theorem).
    (c.in_ok-members.members.items ++ listed c.args.denied.now) ++ ts)
    (c.deref-9.ensures.value ∙ c.in_ok-held.ensures) in
    let w : IsMet c.elements.new.cx c.args.equation.now.fun.0
    (function_equation c.args.equation.now) c.args.lemma.now c.args.subst.now
    c.args.args.now c.args.condition.now c.args.denied.now c.in_ok-first.first.items
    c.in_ok-rest.rest.items
    c.in_ok-members.members.items =
    met_later c.term_elements.new.cx c.memberships.new.cx c.args.args.now
    c.term_elements.ensures.grown c.memberships.ensures.grown c.elements.ensures.grown
    c.requires.usable c.requires.kompile c.in_ok-first.ensures.facts
    (subst (λ (ps : List RulePat). AreMemberships c.memberships.new.cx c.args.subst.now
    (function_equation c.args.equation.now).names 0 (plain_patterns ps) c.args.args.now
    c.in_ok-members.members.items) c.deref.ensures.value
    (subst (λ (ns : List Named). AreMemberships c.memberships.new.cx c.args.subst.now (names_of ns)
    0
    (plain_patterns c.deref.result.now) c.args.args.now c.in_ok-members.members.items)
    c.deref-2.ensures.value c.in_ok-members.ensures.members)) c.in_ok-rest.ensures.facts in
    if_ok_two c.schema_at.result
    (λ t used within. met_proves c.elements.new.cx c.args.equation.now.fun.0
    (function_equation c.args.equation.now) c.args.lemma.now c.args.subst.now c.args.args.now
    c.args.condition.now c.args.denied.now c.in_ok-first.first.items c.in_ok-rest.rest.items
    c.in_ok-members.members.items t w
    (subst (λ (os : List Theorem).
    IsUsed c.args.lemma.now (c.in_ok-first.first.items ++ c.in_ok-rest.rest.items) os t)
    others (subst (λ (ts : List Theorem). IsUsed c.args.lemma.now ts c.deref-11.result.now t)
    facts used))
    (subst (λ (os : List Theorem).
    StaysUsed c.args.lemma.now (c.in_ok-first.first.items ++ c.in_ok-rest.rest.items) os t)
    others (subst (λ (ts : List Theorem). StaysUsed c.args.lemma.now ts c.deref-11.result.now t)
    facts within))) c.schema_at.ensures.says c.schema_at.ensures.stays

pub returns-clause-grown : goal.returns-clause-grown
returns-clause-grown c =
    grown_twice c.args.cx.now c.memberships.new.cx c.elements.new.cx
    (grown_twice c.args.cx.now c.term_elements.new.cx c.memberships.new.cx
    c.term_elements.ensures.grown c.memberships.ensures.grown) c.elements.ensures.grown

pub returns-in_err-members-clause-grown : goal.returns-in_err-members-clause-grown
returns-in_err-members-clause-grown c =
    grown_twice c.args.cx.now c.term_elements.new.cx c.memberships.new.cx
    c.term_elements.ensures.grown c.memberships.ensures.grown

pub returns-in_err-rest-clause-grown : goal.returns-in_err-rest-clause-grown
returns-in_err-rest-clause-grown c =
    grown_twice c.args.cx.now c.memberships.new.cx c.elements.new.cx
    (grown_twice c.args.cx.now c.term_elements.new.cx c.memberships.new.cx
    c.term_elements.ensures.grown c.memberships.ensures.grown) c.elements.ensures.grown

pub returns-in_err-facts-clause-grown : goal.returns-in_err-facts-clause-grown
returns-in_err-facts-clause-grown c =
    grown_twice c.args.cx.now c.memberships.new.cx c.elements.new.cx
    (grown_twice c.args.cx.now c.term_elements.new.cx c.memberships.new.cx
    c.term_elements.ensures.grown c.memberships.ensures.grown) c.elements.ensures.grown

pub returns-in_err-held-clause-grown : goal.returns-in_err-held-clause-grown
returns-in_err-held-clause-grown c =
    grown_twice c.args.cx.now c.memberships.new.cx c.elements.new.cx
    (grown_twice c.args.cx.now c.term_elements.new.cx c.memberships.new.cx
    c.term_elements.ensures.grown c.memberships.ensures.grown) c.elements.ensures.grown

pub returns-in_err-others-clause-grown : goal.returns-in_err-others-clause-grown
returns-in_err-others-clause-grown c =
    grown_twice c.args.cx.now c.memberships.new.cx c.elements.new.cx
    (grown_twice c.args.cx.now c.term_elements.new.cx c.memberships.new.cx
    c.term_elements.ensures.grown c.memberships.ensures.grown) c.elements.ensures.grown

pub returns-in_err-denials-clause-grown : goal.returns-in_err-denials-clause-grown
returns-in_err-denials-clause-grown c =
    grown_twice c.args.cx.now c.memberships.new.cx c.elements.new.cx
    (grown_twice c.args.cx.now c.term_elements.new.cx c.memberships.new.cx
    c.term_elements.ensures.grown c.memberships.ensures.grown) c.elements.ensures.grown

pub returns-in_err-before-clause-grown : goal.returns-in_err-before-clause-grown
returns-in_err-before-clause-grown c =
    grown_twice c.args.cx.now c.memberships.new.cx c.elements.new.cx
    (grown_twice c.args.cx.now c.term_elements.new.cx c.memberships.new.cx
    c.term_elements.ensures.grown c.memberships.ensures.grown) c.elements.ensures.grown
