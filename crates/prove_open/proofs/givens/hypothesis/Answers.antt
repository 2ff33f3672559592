use Rattle.std.proofs.Common.{◌≡◌, ◌-◌, ◌<◌, ℕ, Some, length, get_or, drop, ap, sym, subst, arith}
use Rattle.std.proofs.Common.{◌∙◌}
use Rattle.ml_pat.specs.Patterns.{Pattern, and, fun, var}
use Rattle.term_core.specs.RulePatterns.{sort_numbers}
use Rattle.rule_core.specs.declared.rules.Program.{Program}
use Rattle.ml_image.specs.Sentences.{sentence_image}
use Rattle.prove_term.proofs.ContextLaws.{grown_none, grown_twice}
use Rattle.prove_open.specs.Givens.{all_sorted}
use Rattle.prove_open.proofs.GivenLaws.{sort_within, variable_low, sorted_none, sorted_from}
use Rattle.prove_open.proofs.givens.hypothesis.Goals as goal

pub loop-i-init : goal.loop-i-init
loop-i-init c = record {
  image =
      sorted_none c.args.cx.now (sort_numbers c.args.sorts.now) c.args.variables.now
      c.in_ok-whole.whole c.in_ok-whole.ensures;
  grown = grown_none c.args.cx.now;
}

pub sort-requires : goal.sort-requires
sort-requires c =
    let lt : c.loop-i.i - 1 < length c.args.variables.now =
    omega (arith, c.loop-i-test.true, c.loop-i.auto.i) in
    let x : ℕ = get_or c.args.variables.now (c.loop-i.i - 1) 0 in
    subst (λ (program : Program). (get_or c.args.sorts.now x (record { 0 = 0 })).0
    < length program.sig.sorts) (sym c.loop-i.invariant.grown.program)
    (sort_within c.args.cx.now.program.sig c.args.sorts.now x (record { 0 = 0 }) c.requires.sorts
    (variable_low (length c.args.sorts.now) c.args.variables.now (c.loop-i.i - 1)
    c.requires.variables lt))

pub loop-i-preserved : goal.loop-i-preserved
loop-i-preserved c =
    let lt : c.loop-i.i - 1 < length c.args.variables.now =
    omega (arith, c.loop-i-test.true, c.loop-i.auto.i) in
    let x : ℕ = get_or c.args.variables.now (c.loop-i.i - 1) 0 in
    let low : x < length c.args.sorts.now =
    variable_low (length c.args.sorts.now) c.args.variables.now (c.loop-i.i - 1)
    c.requires.variables lt in
    let made : c.in_ok-whole-2.whole
    ≡ and (fun (var x) c.in_ok-sort.sort.0) c.loop-i.whole =
    c.in_ok-whole-2.ensures
    ∙ ap (λ (p : Pattern). and p c.loop-i.whole)
    (c.in_ok-element.ensures
    ∙ ap (λ (p : Pattern). fun p c.in_ok-sort.sort.0) c.in_ok-var.ensures) in
    record {
      image =
          sorted_from c.loop-i.cx c.sort.new.self c.args.sorts.now c.args.variables.now
          c.loop-i.i (c.loop-i.i - 1) c.in_ok-sort.sort.0 (record { 0 = 0 }) c.loop-i.whole
          c.in_ok-sort.ensures.grown (omega (arith, c.loop-i-test.true)) lt low
          c.loop-i.invariant.image c.in_ok-sort.ensures.number
          ∙ ap (λ (p : Pattern). Some p) (sym made);
      grown =
          grown_twice c.args.cx.now c.loop-i.cx c.sort.new.self c.loop-i.invariant.grown
          c.in_ok-sort.ensures.grown;
    }

pub returns-clause-image : goal.returns-clause-image
returns-clause-image c =
    let none : c.loop-i.i ≡ 0 = omega (arith, c.loop-i-test.false) in
    subst (λ (i : ℕ). sentence_image c.loop-i.cx.program.sig c.loop-i.cx.names
    (all_sorted (sort_numbers c.args.sorts.now) (drop i c.args.variables.now))
    ≡ Some c.loop-i.whole) none c.loop-i.invariant.image
