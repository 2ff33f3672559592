use Rattle.std.proofs.Common.{◌≡◌, ◌+◌, ap, arith}
use Rattle.term_core.specs.Forests.{forest, children, size, sizes}
use Rattle.term_core.proofs.Forests.{sizes-drop}
use Rattle.hint_file.proofs.TextSizes.{some_node}
use Rattle.hint_file.proofs.sizes.+room_after.Goals as goal

pub returns-then-room-eq0-clause-none : goal.returns-then-room-eq0-clause-none
returns-then-room-eq0-clause-none g t c =
    omega (arith, c.if-room-eq0.true, some_node c.args.term.now)

pub returns-in_default-clause-none : goal.returns-in_default-clause-none
returns-in_default-clause-none g t c =
    let whole : size c.args.term.now ≡ sizes (forest (children c.args.term.now)) + 1 =
    ap size c.in-Ctor.ensures.shows.0 in
    omega (
      arith,
      whole,
      c.loop-i.invariant.left,
      c.in_default.ensures.none,
      sizes-drop (children c.args.term.now) c.loop-i.i c.child.result.now c.child.ensures,
    )

pub loop-i-preserved : goal.loop-i-preserved
loop-i-preserved g t c =
    record {
      left =
          omega (
            arith,
            c.loop-i.invariant.left,
            c.in-Some.ensures.left,
            sizes-drop (children c.args.term.now) c.loop-i.i c.child.result.now c.child.ensures,
          );
      less = omega (arith, c.loop-i.invariant.less, c.in-Some.ensures.left);
    }
