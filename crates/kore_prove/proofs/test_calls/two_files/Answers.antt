use Rattle.std.proofs.Common.{refl}
use Rattle.kore_prove.proofs.test_calls.two_files.Goals as goal

pub new-requires-clause-names : goal.new-requires-clause-names
new-requires-clause-names c =
    rw (
      c.in_ok-push-2.ensures.items,
      c.in_ok-push.ensures.items,
      c.new-files.ensures.items,
      c.in_ok-definition_name.ensures.ok,
      c.in_ok-term_name.ensures.ok,
    ) (refl, (refl, tt))
