use Rattle.std.proofs.Common.{◌≡◌, true, false, rules}
use Rattle.mm_proof.proofs.Looking.{looked, looked_smaller, still_going, stopped}
use Rattle.mm_proof.proofs.searching.is_absent.Goals as goal

pub returns-then-not-going : goal.returns-then-not-going
returns-then-not-going c =
    let no : c.in_ok-going.going ≡ false = search rules in
    stopped c.in_ok-going.going _ _ no (looked c.args.x.0 c.in-Some.next c.loop-next.stack.items
    c.pop.new.self.items c.is_absent_at.new.stack.items c.in_ok-going.going _
    c.in-Some.ensures.items c.loop-next.invariant c.in_ok-going.ensures)

pub loop-next-smaller : goal.loop-next-smaller
loop-next-smaller c =
    looked_smaller c.args.x.0 c.in-Some.next c.loop-next.stack.items c.pop.new.self.items
    c.is_absent_at.new.stack.items c.in_ok-going.going c.in-Some.ensures.items
    c.in_ok-going.ensures

pub loop-next-preserved : goal.loop-next-preserved
loop-next-preserved c =
    let yes : c.in_ok-going.going ≡ true = search rules in
    still_going c.in_ok-going.going _ _ yes (looked c.args.x.0 c.in-Some.next
    c.loop-next.stack.items c.pop.new.self.items c.is_absent_at.new.stack.items
    c.in_ok-going.going _ c.in-Some.ensures.items c.loop-next.invariant c.in_ok-going.ensures)
