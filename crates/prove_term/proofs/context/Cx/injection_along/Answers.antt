use Rattle.std.proofs.Common.{◌≡◌, ◌<◌, ◌+◌, ◌-◌, ℕ, length, get_or, sym, subst, arith}
use Rattle.std.specs.Prelude.{Contains}
use Rattle.term_core.specs.RulePatterns.{sort_numbers}
use Rattle.rule_core.specs.Subsorts.{IsBelow, by_pair}
use Rattle.rule_core.specs.declared.rules.Program.{Program}
use Rattle.prove_term.specs.Injections.{IsInjectionAt}
use Rattle.prove_term.specs.InjectionTables.{AllowsPair}
use Rattle.prove_term.proofs.ContextLaws.{grown_twice}
use Rattle.prove_term.proofs.InjectionSteps.{path_long, path_last, length-numbers, number_at}
use Rattle.prove_term.proofs.InjectionSteps.{pair_at, first_pair, one_further}
use Rattle.prove_term.proofs.context.Cx.injection_along.Goals as goal

pub bounds-sorts-1 : goal.bounds-sorts-1
bounds-sorts-1 c =
    let long : 1 < length (sort_numbers c.args.sorts.now) =
    path_long c.args.self.now.program.sig.subsorts c.args.from.0 c.args.to.0
    (sort_numbers c.args.sorts.now) c.requires.path in
    omega (arith, long, length-numbers c.args.sorts.now)

pub direct-requires : goal.direct-requires
direct-requires c = record {
  signature = c.requires.injects.signature;
  symbol = c.requires.injects.symbol;
  pair =
      first_pair c.args.self.now.program.sig.subsorts c.args.from.0 c.args.to.0 c.args.sorts.now
      (record { 0 = 0 }) c.requires.path;
}

pub loop-i-init : goal.loop-i-init
loop-i-init c =
    let long : 1 < length (sort_numbers c.args.sorts.now) =
    path_long c.args.self.now.program.sig.subsorts c.args.from.0 c.args.to.0
    (sort_numbers c.args.sorts.now) c.requires.path in
    let at : get_or (sort_numbers c.args.sorts.now) 1 0 ≡
    (get_or c.args.sorts.now 1 (record { 0 = 0 })).0 =
    number_at c.args.sorts.now 1 (record { 0 = 0 })
    (omega (arith, long, length-numbers c.args.sorts.now)) in
    record {
      place =
          subst (λ (s : ℕ). IsInjectionAt c.direct.new.self c.args.from.0 s c.in_ok-place.place)
          (sym at) c.in_ok-place.ensures.lemma;
      below =
          subst (λ (s : ℕ). IsBelow c.args.self.now.program.sig.subsorts c.args.from.0 s) (sym at)
          (by_pair (first_pair c.args.self.now.program.sig.subsorts c.args.from.0 c.args.to.0
          c.args.sorts.now (record { 0 = 0 }) c.requires.path));
      grown = c.in_ok-place.ensures.grown;
    }

pub further-requires-clause-pair : goal.further-requires-clause-pair
further-requires-clause-pair c =
    let next : c.loop-i.i - 1 + 1 ≡ c.loop-i.i = omega (arith, c.loop-i.auto.i) in
    let pair : Contains c.args.self.now.program.sig.subsorts (
      (get_or c.args.sorts.now
          (c.loop-i.i - 1) (record { 0 = 0 })).0,
      (get_or c.args.sorts.now c.loop-i.i (record { 0 = 0 })).0,
    ) =
    subst (λ (n : ℕ). Contains c.args.self.now.program.sig.subsorts (
      (get_or c.args.sorts.now (c.loop-i.i - 1) (record { 0 = 0 })).0,
      (get_or c.args.sorts.now n (record { 0 = 0 })).0,
    )) next
    (pair_at c.args.self.now.program.sig.subsorts c.args.from.0 c.args.to.0 c.args.sorts.now
    (c.loop-i.i - 1) (record { 0 = 0 }) (record { 0 = 0 }) c.requires.path
    (omega (arith, next, c.loop-i-test.true))) in
    subst (λ (program : Program). AllowsPair program.sig
    (get_or c.args.sorts.now (c.loop-i.i - 1) (record { 0 = 0 })).0
    (get_or c.args.sorts.now c.loop-i.i (record { 0 = 0 })).0)
    (sym c.loop-i.invariant.grown.program)
    (record {
      signature = c.requires.injects.signature;
      symbol = c.requires.injects.symbol;
      pair = pair;
    })

pub loop-i-preserved : goal.loop-i-preserved
loop-i-preserved c =
    let next : c.loop-i.i - 1 + 1 ≡ c.loop-i.i = omega (arith, c.loop-i.auto.i) in
    let same : c.loop-i.i + 1 - 1 ≡ c.loop-i.i = omega arith in
    let at : get_or (sort_numbers c.args.sorts.now) c.loop-i.i 0 ≡
    (get_or c.args.sorts.now c.loop-i.i (record { 0 = 0 })).0 =
    number_at c.args.sorts.now c.loop-i.i (record { 0 = 0 }) c.loop-i-test.true in
    let at' : get_or (sort_numbers c.args.sorts.now) (c.loop-i.i - 1) 0 ≡
    (get_or c.args.sorts.now (c.loop-i.i - 1) (record { 0 = 0 })).0 =
    number_at c.args.sorts.now (c.loop-i.i - 1) (record { 0 = 0 })
    (omega (arith, next, c.loop-i-test.true)) in
    let pair : Contains c.args.self.now.program.sig.subsorts (
      (get_or c.args.sorts.now
          (c.loop-i.i - 1) (record { 0 = 0 })).0,
      (get_or c.args.sorts.now c.loop-i.i (record { 0 = 0 })).0,
    ) =
    subst (λ (n : ℕ). Contains c.args.self.now.program.sig.subsorts (
      (get_or c.args.sorts.now (c.loop-i.i - 1) (record { 0 = 0 })).0,
      (get_or c.args.sorts.now n (record { 0 = 0 })).0,
    )) next
    (pair_at c.args.self.now.program.sig.subsorts c.args.from.0 c.args.to.0 c.args.sorts.now
    (c.loop-i.i - 1) (record { 0 = 0 }) (record { 0 = 0 }) c.requires.path
    (omega (arith, next, c.loop-i-test.true))) in
    let below : IsBelow c.args.self.now.program.sig.subsorts c.args.from.0
    (get_or c.args.sorts.now (c.loop-i.i - 1) (record { 0 = 0 })).0 =
    subst (λ (s : ℕ). IsBelow c.args.self.now.program.sig.subsorts c.args.from.0 s) at'
    c.loop-i.invariant.below in
    record {
      place =
          subst (λ (n : ℕ). IsInjectionAt c.further.new.self c.args.from.0
          (get_or (sort_numbers c.args.sorts.now) n 0) c.in_ok-place-2.place) (sym same)
          (subst (λ (s : ℕ). IsInjectionAt c.further.new.self c.args.from.0 s c.in_ok-place-2.place)
          (sym at) c.in_ok-place-2.ensures.lemma);
      below =
          subst (λ (n : ℕ). IsBelow c.args.self.now.program.sig.subsorts c.args.from.0
          (get_or (sort_numbers c.args.sorts.now) n 0)) (sym same)
          (subst (λ (s : ℕ). IsBelow c.args.self.now.program.sig.subsorts c.args.from.0 s) (sym at)
          (one_further c.args.self.now.program.sig.subsorts c.args.from.0
          (get_or c.args.sorts.now (c.loop-i.i - 1) (record { 0 = 0 })).0
          (get_or c.args.sorts.now c.loop-i.i (record { 0 = 0 })).0 below pair));
      grown =
          grown_twice c.args.self.now c.loop-i.self c.further.new.self c.loop-i.invariant.grown
          c.in_ok-place-2.ensures.grown;
    }

pub returns-clause-lemma : goal.returns-clause-lemma
returns-clause-lemma c =
    let long : 1 < length (sort_numbers c.args.sorts.now) =
    path_long c.args.self.now.program.sig.subsorts c.args.from.0 c.args.to.0
    (sort_numbers c.args.sorts.now) c.requires.path in
    let last : c.loop-i.i - 1 + 1 ≡ length (sort_numbers c.args.sorts.now) =
    omega (
      arith,
      long,
      c.loop-i.auto.i,
      c.loop-i.auto.i-end,
      c.loop-i-test.false,
      length-numbers c.args.sorts.now,
    ) in
    subst (λ (s : ℕ). IsInjectionAt c.loop-i.self c.args.from.0 s c.loop-i.place)
    (path_last c.args.self.now.program.sig.subsorts c.args.from.0 c.args.to.0
    (sort_numbers c.args.sorts.now) (c.loop-i.i - 1) c.requires.path last)
    c.loop-i.invariant.place
