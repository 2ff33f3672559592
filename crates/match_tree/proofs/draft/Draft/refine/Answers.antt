use Rattle.std.proofs.Common.{◌≡◌, ap, drop, length, arith}
use Rattle.std.proofs.lemmas.List.{drop_all}
use Rattle.match_tree.specs.TrailView.{plain_trail}
use Rattle.match_tree.specs.WorkView.{works_of}
use Rattle.match_tree.proofs.DraftSteps.{no_room_for_hit, enough_tested, end_added, hit_goes_on}
use Rattle.match_tree.proofs.draft.Draft.refine.Goals as goal

pub returns-then-len-ge-MAX_NODES-clause-draft : goal.returns-then-len-ge-MAX_NODES-clause-draft
returns-then-len-ge-MAX_NODES-clause-draft c =
    no_room_for_hit c.args.matrix.now c.loop-i.self.nodes.items
    (record {
      place = c.loop-i.place;
      from = c.loop-i.from;
      rows = drop c.loop-i.i c.args.rows.now;
      trail = plain_trail c.args.trail.items;
    })
    (works_of c.loop-i.self.pending.items) c.loop-i.invariant.draft (omega arith)

pub returns-then-len-ge-MAX_TESTS-clause-draft : goal.returns-then-len-ge-MAX_TESTS-clause-draft
returns-then-len-ge-MAX_TESTS-clause-draft c =
    enough_tested c.args.matrix.now c.loop-i.self.nodes.items c.loop-i.place c.loop-i.from
    (drop c.loop-i.i c.args.rows.now) c.args.trail.items
    (works_of c.loop-i.self.pending.items) c.loop-i.invariant.draft (omega arith)

pub loop-i-preserved : goal.loop-i-preserved
loop-i-preserved c =
    let same : length c.add_hit.new.self.pending.items ≡ length c.loop-i.self.pending.items =
    ap (λ v. length v.items) c.in_ok-place-in-None.ensures.pending in record {
      draft = hit_goes_on c.args.matrix.now c.loop-i.self c.add_hit.new.self c.loop-i.place
          c.loop-i.from c.loop-i.i c.in_ok-place-in-None.place c.args.rows.now c.args.trail.items _ _
          _ c.in_ok-position.field-0 c.loop-i-test.true c.deref.ensures.value
          c.deref-in-None.ensures.value c.row.ensures c.in-None.is c.in_ok-position.ensures
          c.loop-i.invariant.draft c.in_ok-place-in-None.ensures.draft;
      few = omega (arith, c.in_ok-place-in-None.ensures.count);
      fewer = omega (arith, c.in_ok-place-in-None.ensures.count);
      longer = omega (arith, c.in_ok-place-in-None.ensures.count);
    }

pub returns-clause-draft : goal.returns-clause-draft
returns-clause-draft c =
    end_added c.args.matrix.now c.loop-i.self.nodes.items c.loop-i.place c.loop-i.from
    (drop c.loop-i.i c.args.rows.now) (plain_trail c.args.trail.items)
    (works_of c.loop-i.self.pending.items) c.loop-i.invariant.draft
    (drop_all c.loop-i.i c.args.rows.now c.loop-i-test.false)
