use Rattle.std.proofs.Common.{refl}
use Rattle.run_tests.proofs.desks.small_desk.Goals as goal

pub new-requires-2-clause-names : goal.new-requires-2-clause-names
new-requires-2-clause-names c =
    rw (c.in_ok-files.ensures.items, c.in_ok-a.ensures.ok, c.in_ok-b.ensures.ok) (refl, (refl, tt))
