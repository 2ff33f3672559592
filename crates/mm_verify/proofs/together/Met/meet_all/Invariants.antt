use Rattle.std.specs.Prelude.{take}
use Rattle.mm_verify.specs.Meeting.{MeetsAll}
use Rattle.mm_verify.proofs.together.Met.meet_all.Given as goal

abbrev pub invariant-loop-n : goal.invariant-loop-n
invariant-loop-n l = MeetsAll l.fn.self (take l.n-index l.list) l.self
