use Rattle.std.proofs.Common.{rules, refl, List, ℕ, subst}
use Rattle.mm_verify.specs.Meeting.{MeetsAll}
use Rattle.mm_verify.proofs.Meeting.{meets-none, meets-more, take-whole}
use Rattle.mm_verify.proofs.together.Met.meet_all.Goals as goal

pub loop-n-init : goal.loop-n-init
loop-n-init c = meets-none c.args.self.now c.requires

pub loop-n-preserved : goal.loop-n-preserved
loop-n-preserved c =
    meets-more c.args.self.now c.loop-n.self c.meet.new.self c.args.list.now c.loop-n.n-index _
    c.loop-n-test.true refl
    c.loop-n.invariant (c.in_ok-meet.ensures (search rules))

pub returns : goal.returns
returns c = λ yes.
    subst (λ (xs : List ℕ). MeetsAll c.args.self.now xs c.loop-n.self)
    (take-whole c.loop-n.n-index c.args.list.now c.loop-n-test.false) c.loop-n.invariant
