use Rattle.std.proofs.Common.{◌≡◌, ◌+◌, ◌<◌, ◌∙◌, ap, length, arith}
use Rattle.std.proofs.lemmas.List.{length-append}
use Rattle.match_tree.specs.WorkView.{works_of}
use Rattle.match_tree.proofs.DraftSteps.{nodes_so_far, nodes_next, places_next, works_next}
use Rattle.match_tree.proofs.draft.Draft.open_branches.Goals as goal

pub loop-own-preserved : goal.loop-own-preserved
loop-own-preserved c =
    let old = c.args.self.now in
    let now = c.loop-own.self in
    let done = c.loop-own.branches.items in
    let parted = c.args.parted.now.value in
    let steps = c.in-Some.ensures.steps.0 in
    let so_far : length now.nodes.items ≡ length old.nodes.items + length done =
    nodes_so_far old.nodes.items now.nodes.items (length done) parted.from
    c.loop-own.invariant.nodes in
    let more : length c.push.new.self.items ≡ length done + 1 =
    ap length c.in_ok-push.ensures.items ∙ length-append done _ in
    let left : length c.loop-own.own-iterator.rest.items
    ≡ length c.next.new.self.rest.items + 1 = omega (arith, ap length steps) in
    let counted = c.loop-own.invariant.counted in
    let within : length done < length c.args.heads.now = omega arith in record {
      counted = omega arith;
      branches = places_next (length old.nodes.items) (length done) _ c.len-in-loop-own.result done
          c.push.new.self.items more (omega (arith, c.len-in-loop-own.ensures)) c.loop-own.invariant.branches
          c.in_ok-push.ensures.items;
      nodes = nodes_next old.nodes.items now.nodes.items c.open.new.self.nodes.items (length done)
          _ parted c.in_ok-clone.field-0.value more c.in_ok-clone.ensures.cases
          c.loop-own.invariant.nodes c.in_ok-open.ensures.nodes;
      works = works_next (length old.nodes.items) (length done) _ _ _ c.args.heads.now
          c.index-heads-len.result c.in-Some.own _ c.next.new.self.rest.items parted
          c.in_ok-clone.field-0.value c.source_of-source.result (works_of now.pending.items)
          (works_of c.open.new.self.pending.items) _ more so_far (omega (arith, c.len.ensures))
          c.in_ok-clone.ensures.cases within c.index-heads-len.is c.source_of-source.ensures steps
          c.loop-own.invariant.works c.in_ok-open.ensures.works;
    }
