use Rattle.std.proofs.Common.{rules, ◌≡◌, ◌<◌, ◌≤◌, ◌+◌, ℕ, List, [], ◌∷◌, ◌++◌, length, take, sym}
use Rattle.std.proofs.Common.{subst, arith}
use Rattle.std.proofs.lemmas.List.{take_all}
use Rattle.ml_kernel.specs.Theorems.{Theorem}
use Rattle.term_core.specs.Terms.{Tree}
use Rattle.term_core.specs.PatternLists.{plain_patterns}
use Rattle.term_core.specs.RulePatterns.{plain_pattern}
use Rattle.term_core.specs.declared.rule_patterns.RulePat.{RulePat}
use Rattle.term_core.proofs.PatternLaws.{length-instances}
use Rattle.rule_core.specs.Matching.{RespectsSorts}
use Rattle.rule_core.specs.Sorting.{HasSort}
use Rattle.rule_core.specs.WellSorted.{IsSignature}
use Rattle.rule_core.specs.declared.rules.Program.{Program}
use Rattle.rule_core.specs.ProgramView.{names_of}
use Rattle.rule_core.proofs.NamingLaws.{at_in_list}
use Rattle.prove_term.proofs.ContextLaws.{grown_twice, grown_none}
use Rattle.prove_schema.proofs.ElementLaws.{elements_grown}
use Rattle.prove_equation.specs.Parameters.{AreMemberships}
use Rattle.prove_equation.proofs.MembershipLaws.{one_more_membership, argument_makes}
use Rattle.prove_equation.proofs.MembershipLaws.{argument_sorted, fact_item, as_many_facts}
use Rattle.prove_equation.proofs.parameters.memberships.Goals as goal

pub returns-in_err-members-clause-grown : goal.returns-in_err-members-clause-grown
returns-in_err-members-clause-grown c = grown_none c.args.cx.now

pub loop-i-init : goal.loop-i-init
loop-i-init c = (grown_none c.args.cx.now, rw c.in_ok-members.ensures.items tt)

pub bounds-terms-i : goal.bounds-terms-i
bounds-terms-i c =
    omega (
      arith,
      c.loop-i-test.true,
      length-instances c.args.subst.now c.args.pats.now c.args.terms.now c.requires.makes,
    )

pub bounds-facts-i : goal.bounds-facts-i
bounds-facts-i c =
    omega (
      arith,
      c.loop-i-test.true,
      length-instances c.args.subst.now c.args.pats.now c.args.terms.now c.requires.makes,
      as_many_facts c.args.cx.now c.args.terms.now c.args.facts.now c.requires.facts,
    )

pub membership-requires-clause-signature : goal.membership-requires-clause-signature
membership-requires-clause-signature c =
    subst (λ (p : Program). IsSignature p.sig) (sym c.loop-i.invariant.0.program)
    c.requires.signature

pub membership-requires-clause-sorted : goal.membership-requires-clause-sorted
membership-requires-clause-sorted c =
    let one : (sort : ℕ) × HasSort c.args.cx.now.program.sig c.requires.sorted.0
    (plain_pattern c.index-pats-i.result) sort =
    argument_sorted c.args.cx.now.program.sig c.requires.sorted.0 c.args.pats.now
    c.requires.sorted.1 c.loop-i.i c.index-pats-i.result c.requires.sorted.2 c.loop-i-test.true
    c.index-pats-i.is in
    subst (λ (p : Program). (variables : List ℕ) × (sort : ℕ)
    × HasSort p.sig variables (plain_pattern c.index-pats-i.result) sort
    × RespectsSorts p.sig variables c.args.subst.now) (sym c.loop-i.invariant.0.program)
    (c.requires.sorted.0, one.0, one.1, c.requires.sorted.3)

pub membership-requires-clause-makes : goal.membership-requires-clause-makes
membership-requires-clause-makes c =
    argument_makes c.args.subst.now c.args.pats.now c.args.terms.now c.loop-i.i
    c.index-pats-i.result c.index-terms-i.result c.requires.makes c.loop-i-test.true
    c.index-pats-i.is c.index-terms-i.is

pub membership-requires-clause-named : goal.membership-requires-clause-named
membership-requires-clause-named c = (
  plain_patterns c.args.pats.now,
  at_in_list c.args.pats.now c.loop-i.i c.index-pats-i.result c.loop-i-test.true
      c.index-pats-i.is,
  c.requires.named,
)

pub membership-requires-clause-fact : goal.membership-requires-clause-fact
membership-requires-clause-fact c =
    fact_item c.loop-i.cx c.args.terms.now c.args.facts.now c.loop-i.i c.index-terms-i.result
    c.index-facts-i.result
    (elements_grown c.args.cx.now c.loop-i.cx c.args.terms.now c.args.facts.now c.loop-i.invariant.0
    c.requires.facts)
    (omega (
      arith,
      c.loop-i-test.true,
      length-instances c.args.subst.now c.args.pats.now c.args.terms.now c.requires.makes,
    ))
    c.index-terms-i.is c.index-facts-i.is

pub returns-in_err-membership-clause-grown : goal.returns-in_err-membership-clause-grown
returns-in_err-membership-clause-grown c =
    grown_twice c.args.cx.now c.loop-i.cx c.membership.new.cx c.loop-i.invariant.0
    c.membership.ensures.grown

pub returns-in_err-push-clause-grown : goal.returns-in_err-push-clause-grown
returns-in_err-push-clause-grown c =
    grown_twice c.args.cx.now c.loop-i.cx c.membership.new.cx c.loop-i.invariant.0
    c.membership.ensures.grown

pub loop-i-preserved : goal.loop-i-preserved
loop-i-preserved c =
    let t : Theorem = c.in_ok-membership.field-0 in
    let items : c.push.new.self.items ≡ c.loop-i.members.items ++ t ∷ [] = search rules in
    let low : c.loop-i.i < length c.args.terms.now =
    omega (
      arith,
      c.loop-i-test.true,
      length-instances c.args.subst.now c.args.pats.now c.args.terms.now c.requires.makes,
    ) in (
      grown_twice c.args.cx.now c.loop-i.cx c.membership.new.cx c.loop-i.invariant.0
          c.membership.ensures.grown,
      subst (λ (ts : List Theorem). AreMemberships c.membership.new.cx c.args.subst.now
          (names_of c.args.named.now) 0 (plain_patterns (take (c.loop-i.i + 1) c.args.pats.now))
          (take (c.loop-i.i + 1) c.args.terms.now) ts) (sym items)
          (one_more_membership c.loop-i.cx c.membership.new.cx c.args.subst.now
          (names_of c.args.named.now) c.args.pats.now c.args.terms.now c.loop-i.i c.index-pats-i.result c.index-terms-i.result
          c.loop-i.members.items t
          c.loop-i-test.true low c.index-pats-i.is c.index-terms-i.is c.membership.ensures.grown
          c.loop-i.invariant.1 c.in_ok-membership.ensures.member),
    )

pub returns-clause-members : goal.returns-clause-members
returns-clause-members c =
    let many : length c.args.pats.now ≡ length c.args.terms.now =
    length-instances c.args.subst.now c.args.pats.now c.args.terms.now c.requires.makes in
    let enough : length c.args.pats.now ≤ c.loop-i.i = omega arith in
    let also : length c.args.terms.now ≤ c.loop-i.i = omega arith in
    subst (λ (ps : List RulePat). AreMemberships c.loop-i.cx c.args.subst.now
    (names_of c.args.named.now) 0 (plain_patterns ps) c.args.terms.now c.loop-i.members.items) (take_all c.loop-i.i c.args.pats.now enough)
    (subst (λ (us : List Tree). AreMemberships c.loop-i.cx c.args.subst.now
    (names_of c.args.named.now) 0 (plain_patterns (take c.loop-i.i c.args.pats.now)) us c.loop-i.members.items)
    (take_all c.loop-i.i c.args.terms.now also) c.loop-i.invariant.1)
