use Rattle.std.proofs.Common.{length, List, sym, ◌∙◌, ap, subst, arith}
use Rattle.ml_kernel.specs.Theorems.{Theorem}
use Rattle.prove_term.specs.Contexts.{Context}
use Rattle.prove_term.specs.Constructing.{IsConstructorAt}
use Rattle.prove_term.proofs.ConstructingLaws.{arguments_few, is_totality, constructor_learned}
use Rattle.prove_term.proofs.context.Cx.constructor.Goals as goal

pub overflow_cast-count : goal.overflow_cast-count
overflow_cast-count c =
    omega (
      arith,
      arguments_few c.totality.new.self c.args.symbol.0 c.count.result
          c.in_ok-totality.totality.conclusion c.in_ok-totality.ensures.says c.count.ensures,
    )

pub total_lemma-requires : goal.total_lemma-requires
total_lemma-requires c =
    let says = c.in_ok-totality.ensures.says in (
      says.numbered.numbers.head,
      says.numbered.numbers.numbers,
      says.numbered.numbers.number,
      is_totality c.totality.new.self c.args.symbol.0 c.count.result c.in_ok-totality.totality
          says c.in_ok-totality.ensures.no_hypotheses c.count.ensures,
    )

pub keep_constructor-requires : goal.keep_constructor-requires
keep_constructor-requires c =
    subst (λ (v : Context). IsConstructorAt v c.args.symbol.0 (length c.lemmas-place.result.now))
    (sym c.in_ok-add_lemma.ensures.ok)
    (constructor_learned c.totality.new.self c.args.symbol.0 c.count.result
    (length c.lemmas-place.result.now) c.in_ok-totality.totality c.in_ok-lemma.lemma
    c.in_ok-totality.ensures.says c.in_ok-totality.ensures.no_hypotheses c.count.ensures
    c.in_ok-lemma.ensures.says (ap (λ (ts : List Theorem). length ts) c.lemmas-place.ensures))

pub returns-clause-lemma : goal.returns-clause-lemma
returns-clause-lemma c =
    subst (λ (v : Context). IsConstructorAt v c.args.symbol.0 (length c.lemmas-place.result.now))
    (sym (c.keep_constructor.ensures ∙ c.in_ok-add_lemma.ensures.ok))
    (constructor_learned c.totality.new.self c.args.symbol.0 c.count.result
    (length c.lemmas-place.result.now) c.in_ok-totality.totality c.in_ok-lemma.lemma
    c.in_ok-totality.ensures.says c.in_ok-totality.ensures.no_hypotheses c.count.ensures
    c.in_ok-lemma.ensures.says (ap (λ (ts : List Theorem). length ts) c.lemmas-place.ensures))
