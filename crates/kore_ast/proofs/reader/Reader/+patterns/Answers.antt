use Rattle.std.proofs.Common.{arith, map, sym, ◌∙◌, refl, ◌≤◌}
use Rattle.kore_ast.specs.Plain.{plain_sort, pattern_tree}
use Rattle.kore_text.specs.Grammar.{spell_pattern}
use Rattle.kore_ast.specs.Reading.{left, size}
use Rattle.kore_ast.specs.declared.reader.Head.TheVariants as head
use Rattle.kore_ast.proofs.Steps.{headed}
use Rattle.kore_ast.proofs.Lists.{list-start, list-more, list-done}
use Rattle.kore_ast.proofs.PlainLaws.{plain-pattern-Elem, plain-pattern-App, plain-pattern-Built}
use Rattle.kore_ast.proofs.PlainLaws.{plain-pattern-Bound, plain-pattern-Fold}
use Rattle.kore_ast.proofs.Patterns.{element-read, symbol-read, connected-read, binding-read}
use Rattle.kore_ast.proofs.Patterns.{fold-read, begins-pattern}
use Rattle.kore_ast.proofs.reader.Reader.+patterns.Goals as goal

pub named-returns-then-has_mark-clause-exact : goal.named-returns-then-has_mark-clause-exact
named-returns-then-has_mark-clause-exact t c =
    let e = c.in_ok-at.ensures in
    rw (plain-pattern-Elem c.in_ok-at.at c.in_ok-at.name c.in_ok-sort.sort)
    (element-read c.in_ok-at.at c.in_ok-at.name (plain_sort c.in_ok-sort.sort)
    (left c.args.self.now) (left c.name.new.self) (left c.pass.new.self) (left c.sort.new.self)
    c.requires e.read.0 e.read.1 e.rest (sym c.has_mark.ensures.same ∙ c.if-has_mark.true)
    c.pass.ensures.rest c.in_ok-sort.ensures.exact)

pub named-returns-clause-exact : goal.named-returns-clause-exact
named-returns-clause-exact t c =
    let e = c.in_ok-at.ensures in
    rw (plain-pattern-App c.in_ok-at.at c.in_ok-at.name c.in_ok-sorts.sorts
    c.in_ok-arguments.arguments)
    (symbol-read c.in_ok-at.at c.in_ok-at.name (map plain_sort c.in_ok-sorts.sorts.items)
    (map pattern_tree c.in_ok-arguments.arguments.items)
    (left c.args.self.now) (left c.name.new.self) (left c.pass-2.new.self) (left c.sorts.new.self)
    (left c.pass-3.new.self) (left c.patterns.new.self)
    c.requires e.read.0 e.read.1 e.rest (sym c.has_mark.ensures.same ∙ c.if-has_mark.false)
    c.pass-2.ensures.rest c.in_ok-sorts.ensures.exact
    c.pass-3.ensures.rest c.in_ok-arguments.ensures.exact)

pub connected-returns-clause-exact : goal.connected-returns-clause-exact
connected-returns-clause-exact t c =
    rw (plain-pattern-Built c.pass-at.result c.args.op c.in_ok-sorts.sorts
    c.in_ok-arguments.arguments)
    (connected-read c.pass-at.result c.args.op (map plain_sort c.in_ok-sorts.sorts.items)
    (map pattern_tree c.in_ok-arguments.arguments.items)
    (left c.args.self.now) (left c.pass-at.new.self) (left c.pass.new.self) (left c.sorts.new.self)
    (left c.pass-2.new.self) (left c.patterns.new.self)
    c.requires c.pass-at.ensures.at c.pass-at.ensures.rest c.pass.ensures.rest
    c.in_ok-sorts.ensures.exact
    c.pass-2.ensures.rest c.in_ok-arguments.ensures.exact)

pub patterns-loop-self-init : goal.patterns-loop-self-init
patterns-loop-self-init t c = record {
  keeps =
      λ b. list-start pattern_tree (spell_pattern b) c.args.close c.new-patterns.result
      (left c.args.self.now) c.new-patterns.ensures.items;
  shorter = omega arith;
}

pub patterns-loop-self-preserved : goal.patterns-loop-self-preserved
patterns-loop-self-preserved t c = record {
  keeps = λ b.
      list-more pattern_tree (spell_pattern b) c.args.close c.loop-self.patterns c.push.new.self
      c.in_ok-pattern.pattern (left c.args.self.now) (left c.loop-self.self)
      (left c.another.new.self) (left c.pattern.new.self) c.is_empty.result c.another.result
      c.requires c.is_empty.ensures c.another.ensures.comes
      c.loop-self-test.true c.another.ensures.rest (c.in_ok-pattern.ensures.exact b)
      c.in_ok-push.ensures.items (c.loop-self.invariant.keeps b);
  shorter =
      omega (
        arith,
        c.loop-self.invariant.shorter,
        c.another.ensures.shorter,
        c.in_ok-pattern.ensures.shorter,
      );
}

pub patterns-returns-clause-exact : goal.patterns-returns-clause-exact
patterns-returns-clause-exact t c = λ b.
    list-done pattern_tree (spell_pattern b) c.args.close c.loop-self.patterns
    (left c.args.self.now) (left c.loop-self.self) (left c.another.new.self)
    c.is_empty.result c.another.result c.requires (begins-pattern b c.args.close)
    c.another.ensures.comes c.loop-self-test.false c.another.ensures.rest
    (c.loop-self.invariant.keeps b)

pub patterns-returns-clause-shorter : goal.patterns-returns-clause-shorter
patterns-returns-clause-shorter t c =
    omega (arith, c.loop-self.invariant.shorter, c.another.ensures.ended c.loop-self-test.false)

pub named-patterns-requires : goal.named-patterns-requires
named-patterns-requires t c =
    let n : 1 ≤ size c.args.self.now =
    headed (left c.args.self.now) head.Name c.requires (λ e. let z : ⊥ = cc in z) in (
      omega (
        arith,
        n,
        c.decreases,
        c.in_ok-at.ensures.shorter,
        c.pass-2.ensures.shorter,
        c.in_ok-sorts.ensures.shorter,
        c.pass-3.ensures.shorter,
      ),
      refl,
    )

pub connected-patterns-requires : goal.connected-patterns-requires
connected-patterns-requires t c =
    let n : 1 ≤ size c.args.self.now =
    headed (left c.args.self.now) _ c.requires (λ e. let z : ⊥ = cc in z) in (
      omega (
        arith,
        n,
        c.decreases,
        c.pass-at.ensures.shorter,
        c.pass.ensures.shorter,
        c.in_ok-sorts.ensures.shorter,
        c.pass-2.ensures.shorter,
      ),
      refl,
    )

pub binding-pattern-requires : goal.binding-pattern-requires
binding-pattern-requires t c =
    let n : 1 ≤ size c.args.self.now =
    headed (left c.args.self.now) _ c.requires (λ e. let z : ⊥ = cc in z) in (
      omega (
        arith,
        n,
        c.decreases,
        c.pass-at.ensures.shorter,
        c.pass.ensures.shorter,
        c.in_ok-sorts.ensures.shorter,
        c.pass-2.ensures.shorter,
      ),
      tt,
    )

pub binding-pattern-requires-2 : goal.binding-pattern-requires-2
binding-pattern-requires-2 t c =
    let n : 1 ≤ size c.args.self.now =
    headed (left c.args.self.now) _ c.requires (λ e. let z : ⊥ = cc in z) in (
      omega (
        arith,
        n,
        c.decreases,
        c.pass-at.ensures.shorter,
        c.pass.ensures.shorter,
        c.in_ok-sorts.ensures.shorter,
        c.pass-2.ensures.shorter,
        c.in_ok-variable.ensures.shorter,
        c.pass-3.ensures.shorter,
      ),
      tt,
    )

pub binding-returns-clause-exact : goal.binding-returns-clause-exact
binding-returns-clause-exact t c =
    rw (
      plain-pattern-Bound c.pass-at.result c.args.binder c.in_ok-sorts.sorts
          c.in_ok-variable-2.variable c.in_ok-body-2.body,
      c.in_ok-variable-2.ensures.ok,
      c.in_ok-body-2.ensures.ok,
    )
    (binding-read c.pass-at.result c.args.binder (map plain_sort c.in_ok-sorts.sorts.items)
    (pattern_tree c.in_ok-variable.variable) (pattern_tree c.in_ok-body.body)
    (left c.args.self.now) (left c.pass-at.new.self) (left c.pass.new.self) (left c.sorts.new.self)
    (left c.pass-2.new.self) (left c.pattern.new.self)
    (left c.pass-3.new.self) (left c.pattern-2.new.self) (left c.pass-4.new.self)
    c.requires c.pass-at.ensures.at c.pass-at.ensures.rest c.pass.ensures.rest
    c.in_ok-sorts.ensures.exact c.pass-2.ensures.rest c.in_ok-variable.ensures.exact
    c.pass-3.ensures.rest c.in_ok-body.ensures.exact c.pass-4.ensures.rest)

pub fold-pattern-requires : goal.fold-pattern-requires
fold-pattern-requires t c =
    let n : 1 ≤ size c.args.self.now =
    headed (left c.args.self.now) _ c.requires (λ e. let z : ⊥ = cc in z) in (
      omega (
        arith,
        n,
        c.decreases,
        c.pass-at.ensures.shorter,
        c.pass.ensures.shorter,
        c.pass-2.ensures.shorter,
        c.pass-3.ensures.shorter,
      ),
      tt,
    )

pub fold-returns-clause-exact : goal.fold-returns-clause-exact
fold-returns-clause-exact t c =
    rw (
      plain-pattern-Fold c.pass-at.result c.args.from_left c.in_ok-folded-2.folded,
      c.in_ok-folded-2.ensures.ok,
    )
    (fold-read c.pass-at.result c.args.from_left (pattern_tree c.in_ok-folded.folded)
    (left c.args.self.now) (left c.pass-at.new.self) (left c.pass.new.self)
    (left c.pass-2.new.self) (left c.pass-3.new.self) (left c.pattern.new.self)
    (left c.pass-4.new.self)
    c.requires c.pass-at.ensures.at c.pass-at.ensures.rest c.pass.ensures.rest c.pass-2.ensures.rest
    c.pass-3.ensures.rest c.in_ok-folded.ensures.exact c.pass-4.ensures.rest)
