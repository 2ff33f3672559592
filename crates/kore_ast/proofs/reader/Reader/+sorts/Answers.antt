use Rattle.std.proofs.Common.{arith, map, sym, ◌∙◌}
use Rattle.kore_ast.specs.Plain.{plain_sort}
use Rattle.kore_text.specs.Grammar.{spell_sort}
use Rattle.kore_ast.specs.Reading.{left}
use Rattle.kore_ast.proofs.Lists.{list-start, list-more, list-done}
use Rattle.kore_ast.proofs.PlainLaws.{plain-sort-Param, plain-sort-App}
use Rattle.kore_ast.proofs.Sorts.{param-read, applied-read, begins-sort}
use Rattle.kore_ast.proofs.reader.Reader.+sorts.Goals as goal

pub sort-returns-then-not-has_mark-clause-exact : goal.sort-returns-then-not-has_mark-clause-exact
sort-returns-then-not-has_mark-clause-exact t c =
    let e = c.in_ok-at.ensures in
    rw (plain-sort-Param c.in_ok-at.at c.in_ok-at.name)
    (param-read c.in_ok-at.at c.in_ok-at.name (left c.args.self.now) (left c.name.new.self) e.read.0
    e.read.1 e.rest
    (sym c.has_mark.ensures.same ∙ c.if-not-has_mark.true))

pub sort-returns-clause-exact : goal.sort-returns-clause-exact
sort-returns-clause-exact t c =
    let e = c.in_ok-at.ensures in
    rw (plain-sort-App c.in_ok-at.at c.in_ok-at.name c.in_ok-sorts.sorts)
    (applied-read c.in_ok-at.at c.in_ok-at.name (left c.args.self.now) (left c.name.new.self)
    (left c.pass.new.self) (left c.sorts.new.self)
    (map plain_sort c.in_ok-sorts.sorts.items) e.read.0 e.read.1 e.rest
    (sym c.has_mark.ensures.same ∙ c.if-not-has_mark.false) c.pass.ensures.rest
    c.in_ok-sorts.ensures.exact)

pub sorts-loop-self-init : goal.sorts-loop-self-init
sorts-loop-self-init t c = record {
  keeps =
      list-start plain_sort spell_sort c.args.close c.new-sorts.result (left c.args.self.now)
      c.new-sorts.ensures.items;
  shorter = omega arith;
}

pub sorts-loop-self-preserved : goal.sorts-loop-self-preserved
sorts-loop-self-preserved t c = record {
  keeps =
      list-more plain_sort spell_sort c.args.close c.loop-self.sorts c.push.new.self
      c.in_ok-sort.sort (left c.args.self.now) (left c.loop-self.self)
      (left c.another.new.self) (left c.sort.new.self) c.is_empty.result c.another.result c.requires
      c.is_empty.ensures c.another.ensures.comes
      c.loop-self-test.true c.another.ensures.rest c.in_ok-sort.ensures.exact
      c.in_ok-push.ensures.items c.loop-self.invariant.keeps;
  shorter =
      omega (
        arith,
        c.loop-self.invariant.shorter,
        c.another.ensures.shorter,
        c.in_ok-sort.ensures.shorter,
      );
}

pub sorts-returns-clause-exact : goal.sorts-returns-clause-exact
sorts-returns-clause-exact t c =
    list-done plain_sort spell_sort c.args.close c.loop-self.sorts (left c.args.self.now)
    (left c.loop-self.self) (left c.another.new.self)
    c.is_empty.result c.another.result c.requires (begins-sort c.args.close) c.another.ensures.comes
    c.loop-self-test.false c.another.ensures.rest
    c.loop-self.invariant.keeps

pub sorts-returns-clause-shorter : goal.sorts-returns-clause-shorter
sorts-returns-clause-shorter t c =
    omega (arith, c.loop-self.invariant.shorter, c.another.ensures.ended c.loop-self-test.false)
