use Rattle.std.proofs.Common.{◌≡◌, ◌<◌, ◌+◌, ◌-◌, ℕ, length, get_or, sym, subst, arith}
use Rattle.std.specs.Prelude.{Contains}
use Rattle.term_core.specs.RulePatterns.{sort_numbers}
use Rattle.rule_core.specs.Subsorts.{IsBelow, by_pair}
use Rattle.rule_core.specs.declared.rules.Program.{Program}
use Rattle.prove_term.specs.InjectionTables.{AllowsPair}
use Rattle.prove_term.proofs.ContextLaws.{grown_twice}
use Rattle.prove_term.proofs.InjectionSteps.{path_long, path_last, length-numbers, number_at}
use Rattle.prove_term.proofs.InjectionSteps.{pair_at, first_pair, one_further}
use Rattle.prove_open.specs.Elements.{RaisesTo, IsInjectedAt}
use Rattle.prove_open.proofs.RaisingLaws.{element_grown, further_raises}
use Rattle.prove_open.proofs.injections.stepwise.Goals as goal

pub bounds-sorts-1 : goal.bounds-sorts-1
bounds-sorts-1 c =
    let long : 1 < length (sort_numbers c.args.sorts.now) =
    path_long c.args.cx.now.program.sig.subsorts c.args.from.0 c.args.to.0
    (sort_numbers c.args.sorts.now) c.requires.path in
    omega (arith, long, length-numbers c.args.sorts.now)

pub raised-requires-clause-pair : goal.raised-requires-clause-pair
raised-requires-clause-pair c = record {
  signature = c.requires.injects.signature;
  symbol = c.requires.injects.symbol;
  pair =
      first_pair c.args.cx.now.program.sig.subsorts c.args.from.0 c.args.to.0 c.args.sorts.now
      (record { 0 = 0 }) c.requires.path;
}

pub loop-i-init : goal.loop-i-init
loop-i-init c =
    let long : 1 < length (sort_numbers c.args.sorts.now) =
    path_long c.args.cx.now.program.sig.subsorts c.args.from.0 c.args.to.0
    (sort_numbers c.args.sorts.now) c.requires.path in
    let at : get_or (sort_numbers c.args.sorts.now) 1 0 ≡
    (get_or c.args.sorts.now 1 (record { 0 = 0 })).0 =
    number_at c.args.sorts.now 1 (record { 0 = 0 })
    (omega (arith, long, length-numbers c.args.sorts.now)) in
    record {
      raises =
          subst (λ (s : ℕ). RaisesTo c.args.cx.now c.raised.new.cx c.args.h.now c.args.k
          c.args.from.0 s c.args.fact.now c.in_ok-present.present) (sym at)
          c.in_ok-present.ensures.raises;
      below =
          subst (λ (s : ℕ). IsBelow c.args.cx.now.program.sig.subsorts c.args.from.0 s) (sym at)
          (by_pair (first_pair c.args.cx.now.program.sig.subsorts c.args.from.0 c.args.to.0
          c.args.sorts.now (record { 0 = 0 }) c.requires.path));
      grown = c.in_ok-present.ensures.grown;
    }

pub further-requires-clause-below : goal.further-requires-clause-below
further-requires-clause-below c =
    let next : c.loop-i.i - 1 + 1 ≡ c.loop-i.i = omega (arith, c.loop-i.auto.i) in
    let at : get_or (sort_numbers c.args.sorts.now) (c.loop-i.i - 1) 0 ≡
    (get_or c.args.sorts.now (c.loop-i.i - 1) (record { 0 = 0 })).0 =
    number_at c.args.sorts.now (c.loop-i.i - 1) (record { 0 = 0 })
    (omega (arith, next, c.loop-i-test.true)) in
    subst (λ (program : Program). IsBelow program.sig.subsorts c.args.from.0
    (get_or c.args.sorts.now (c.loop-i.i - 1) (record { 0 = 0 })).0)
    (sym c.loop-i.invariant.grown.program)
    (subst (λ (s : ℕ). IsBelow c.args.cx.now.program.sig.subsorts c.args.from.0 s) at
    c.loop-i.invariant.below)

pub further-requires-clause-pair : goal.further-requires-clause-pair
further-requires-clause-pair c =
    let next : c.loop-i.i - 1 + 1 ≡ c.loop-i.i = omega (arith, c.loop-i.auto.i) in
    let pair : Contains c.args.cx.now.program.sig.subsorts (
      (get_or c.args.sorts.now
          (c.loop-i.i - 1) (record { 0 = 0 })).0,
      (get_or c.args.sorts.now c.loop-i.i (record { 0 = 0 })).0,
    ) =
    subst (λ (n : ℕ). Contains c.args.cx.now.program.sig.subsorts (
      (get_or c.args.sorts.now (c.loop-i.i - 1) (record { 0 = 0 })).0,
      (get_or c.args.sorts.now n (record { 0 = 0 })).0,
    )) next
    (pair_at c.args.cx.now.program.sig.subsorts c.args.from.0 c.args.to.0 c.args.sorts.now
    (c.loop-i.i - 1) (record { 0 = 0 }) (record { 0 = 0 }) c.requires.path
    (omega (arith, next, c.loop-i-test.true))) in
    subst (λ (program : Program). AllowsPair program.sig
    (get_or c.args.sorts.now (c.loop-i.i - 1) (record { 0 = 0 })).0
    (get_or c.args.sorts.now c.loop-i.i (record { 0 = 0 })).0)
    (sym c.loop-i.invariant.grown.program)
    (record {
      signature = c.requires.injects.signature;
      symbol = c.requires.injects.symbol;
      pair = pair;
    })

pub further-requires-clause-raised : goal.further-requires-clause-raised
further-requires-clause-raised c =
    let next : c.loop-i.i - 1 + 1 ≡ c.loop-i.i = omega (arith, c.loop-i.auto.i) in
    let at : get_or (sort_numbers c.args.sorts.now) (c.loop-i.i - 1) 0 ≡
    (get_or c.args.sorts.now (c.loop-i.i - 1) (record { 0 = 0 })).0 =
    number_at c.args.sorts.now (c.loop-i.i - 1) (record { 0 = 0 })
    (omega (arith, next, c.loop-i-test.true)) in
    record {
      q = c.requires.element.0;
      element =
          element_grown c.args.cx.now c.loop-i.cx c.args.h.now c.args.k c.args.from.0
          c.requires.element.0 c.args.fact.now c.loop-i.invariant.grown c.requires.element.1;
      injected =
          subst (λ (s : ℕ). IsInjectedAt c.loop-i.cx c.args.h.now c.args.k c.args.from.0 s
          c.requires.element.0 c.loop-i.present) at
          (c.loop-i.invariant.raises c.requires.element.0 c.requires.element.1);
    }

pub loop-i-preserved : goal.loop-i-preserved
loop-i-preserved c =
    let next : c.loop-i.i - 1 + 1 ≡ c.loop-i.i = omega (arith, c.loop-i.auto.i) in
    let same : c.loop-i.i + 1 - 1 ≡ c.loop-i.i = omega arith in
    let at : get_or (sort_numbers c.args.sorts.now) c.loop-i.i 0 ≡
    (get_or c.args.sorts.now c.loop-i.i (record { 0 = 0 })).0 =
    number_at c.args.sorts.now c.loop-i.i (record { 0 = 0 }) c.loop-i-test.true in
    let at' : get_or (sort_numbers c.args.sorts.now) (c.loop-i.i - 1) 0 ≡
    (get_or c.args.sorts.now (c.loop-i.i - 1) (record { 0 = 0 })).0 =
    number_at c.args.sorts.now (c.loop-i.i - 1) (record { 0 = 0 })
    (omega (arith, next, c.loop-i-test.true)) in
    let pair : Contains c.args.cx.now.program.sig.subsorts (
      (get_or c.args.sorts.now
          (c.loop-i.i - 1) (record { 0 = 0 })).0,
      (get_or c.args.sorts.now c.loop-i.i (record { 0 = 0 })).0,
    ) =
    subst (λ (n : ℕ). Contains c.args.cx.now.program.sig.subsorts (
      (get_or c.args.sorts.now (c.loop-i.i - 1) (record { 0 = 0 })).0,
      (get_or c.args.sorts.now n (record { 0 = 0 })).0,
    )) next
    (pair_at c.args.cx.now.program.sig.subsorts c.args.from.0 c.args.to.0 c.args.sorts.now
    (c.loop-i.i - 1) (record { 0 = 0 }) (record { 0 = 0 }) c.requires.path
    (omega (arith, next, c.loop-i-test.true))) in
    let below : IsBelow c.args.cx.now.program.sig.subsorts c.args.from.0
    (get_or c.args.sorts.now (c.loop-i.i - 1) (record { 0 = 0 })).0 =
    subst (λ (s : ℕ). IsBelow c.args.cx.now.program.sig.subsorts c.args.from.0 s) at'
    c.loop-i.invariant.below in
    let raises : RaisesTo c.args.cx.now c.loop-i.cx c.args.h.now c.args.k c.args.from.0
    (get_or c.args.sorts.now (c.loop-i.i - 1) (record { 0 = 0 })).0 c.args.fact.now
    c.loop-i.present =
    subst (λ (s : ℕ). RaisesTo c.args.cx.now c.loop-i.cx c.args.h.now c.args.k c.args.from.0 s
    c.args.fact.now c.loop-i.present) at' c.loop-i.invariant.raises in
    record {
      raises =
          subst (λ (n : ℕ). RaisesTo c.args.cx.now c.further.new.cx c.args.h.now c.args.k
          c.args.from.0 (get_or (sort_numbers c.args.sorts.now) n 0) c.args.fact.now
          c.in_ok-present-2.present) (sym same)
          (subst (λ (s : ℕ). RaisesTo c.args.cx.now c.further.new.cx c.args.h.now c.args.k
          c.args.from.0 s c.args.fact.now c.in_ok-present-2.present) (sym at)
          (further_raises c.args.cx.now c.loop-i.cx c.further.new.cx c.args.h.now c.args.k
          c.args.from.0 (get_or c.args.sorts.now (c.loop-i.i - 1) (record { 0 = 0 })).0
          (get_or c.args.sorts.now c.loop-i.i (record { 0 = 0 })).0 c.args.fact.now
          c.loop-i.present c.in_ok-present-2.present c.loop-i.invariant.grown raises
          c.in_ok-present-2.ensures.raises));
      below =
          subst (λ (n : ℕ). IsBelow c.args.cx.now.program.sig.subsorts c.args.from.0
          (get_or (sort_numbers c.args.sorts.now) n 0)) (sym same)
          (subst (λ (s : ℕ). IsBelow c.args.cx.now.program.sig.subsorts c.args.from.0 s) (sym at)
          (one_further c.args.cx.now.program.sig.subsorts c.args.from.0
          (get_or c.args.sorts.now (c.loop-i.i - 1) (record { 0 = 0 })).0
          (get_or c.args.sorts.now c.loop-i.i (record { 0 = 0 })).0 below pair));
      grown =
          grown_twice c.args.cx.now c.loop-i.cx c.further.new.cx c.loop-i.invariant.grown
          c.in_ok-present-2.ensures.grown;
    }

pub returns-clause-raises : goal.returns-clause-raises
returns-clause-raises c =
    let long : 1 < length (sort_numbers c.args.sorts.now) =
    path_long c.args.cx.now.program.sig.subsorts c.args.from.0 c.args.to.0
    (sort_numbers c.args.sorts.now) c.requires.path in
    let last : c.loop-i.i - 1 + 1 ≡ length (sort_numbers c.args.sorts.now) =
    omega (
      arith,
      long,
      c.loop-i.auto.i,
      c.loop-i.auto.i-end,
      c.loop-i-test.false,
      length-numbers c.args.sorts.now,
    ) in
    subst (λ (s : ℕ). RaisesTo c.args.cx.now c.loop-i.cx c.args.h.now c.args.k c.args.from.0 s
    c.args.fact.now c.loop-i.present)
    (path_last c.args.cx.now.program.sig.subsorts c.args.from.0 c.args.to.0
    (sort_numbers c.args.sorts.now) (c.loop-i.i - 1) c.requires.path last)
    c.loop-i.invariant.raises
