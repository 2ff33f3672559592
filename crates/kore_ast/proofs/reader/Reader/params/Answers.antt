use Rattle.std.proofs.Common.{arith, List, ℕ, map, sym, subst, refl}
use Rattle.kore_text.specs.Grammar.{spell_name}
use Rattle.kore_ast.specs.Streams.{after}
use Rattle.kore_ast.specs.Reading.{left}
use Rattle.kore_ast.proofs.Lists.{Keeps, list-start, list-more, list-done}
use Rattle.kore_ast.proofs.Declared.{name-read, names-read, begins-name}
use Rattle.kore_ast.proofs.reader.Reader.params.Goals as goal

pub loop-self-init : goal.loop-self-init
loop-self-init c = record {
  keeps =
      subst (λ s. Keeps spell_name 125 (map (λ (n : List ℕ). n) c.new-params.result.items)
      (after (left c.args.self.now)) s) (sym c.pass.ensures.rest)
      (list-start (λ (n : List ℕ). n) spell_name 125 c.new-params.result
      (after (left c.args.self.now)) c.new-params.ensures.items);
  shorter = omega (arith, c.pass.ensures.shorter);
}

pub loop-self-preserved : goal.loop-self-preserved
loop-self-preserved c = record {
  keeps =
      list-more (λ (n : List ℕ). n) spell_name 125 c.loop-self.params c.push.new.self
      c.in_ok-name.name (after (left c.args.self.now)) (left c.loop-self.self)
      (left c.another.new.self) (left c.name.new.self) c.is_empty.result c.another.result refl
      c.is_empty.ensures c.another.ensures.comes
      c.loop-self-test.true c.another.ensures.rest
      (name-read c.in_ok-name.name (left c.another.new.self) (left c.name.new.self)
      c.in_ok-name.ensures.read.1 c.in_ok-name.ensures.rest)
      c.in_ok-push.ensures.items c.loop-self.invariant.keeps;
  shorter =
      omega (
        arith,
        c.loop-self.invariant.shorter,
        c.another.ensures.shorter,
        c.in_ok-name.ensures.shorter,
      );
}

pub returns-clause-exact : goal.returns-clause-exact
returns-clause-exact c =
    names-read c.loop-self.params.items (left c.args.self.now) (after (left c.args.self.now))
    (left c.another.new.self) refl
    (list-done (λ (n : List ℕ). n) spell_name 125 c.loop-self.params (after (left c.args.self.now))
    (left c.loop-self.self) (left c.another.new.self)
    c.is_empty.result c.another.result refl begins-name c.another.ensures.comes
    c.loop-self-test.false c.another.ensures.rest
    c.loop-self.invariant.keeps)

pub returns-clause-shorter : goal.returns-clause-shorter
returns-clause-shorter c =
    omega (arith, c.loop-self.invariant.shorter, c.another.ensures.ended c.loop-self-test.false)
