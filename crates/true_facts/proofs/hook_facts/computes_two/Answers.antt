use Rattle.std.proofs.Common.{[], ◌∷◌}
use Rattle.term_core.specs.Values.{scalar_value}
use Rattle.true_facts.proofs.HookFactLaws.{computed, not_computed}
use Rattle.true_facts.proofs.hook_facts.computes_two.Goals as goal

pub returns-in-Some : goal.returns-in-Some
returns-in-Some c =
    computed c.args.sig.now c.args.names.now c.args.head.now
    (c.args.first.sort.0 ∷ (c.args.second.sort.0 ∷ []))
    (scalar_value c.args.first.scalar ∷ (scalar_value c.args.second.scalar ∷ []))
    c.args.value.sort.0 c.in-Some.hook.0 (scalar_value c.args.value.scalar) c.answers.result
    c.in-Some.ensures c.answers.ensures

pub returns-in-None : goal.returns-in-None
returns-in-None c =
    not_computed c.args.sig.now c.args.names.now c.args.head.now
    (c.args.first.sort.0 ∷ (c.args.second.sort.0 ∷ []))
    (scalar_value c.args.first.scalar ∷ (scalar_value c.args.second.scalar ∷ []))
    c.args.value.sort.0 (scalar_value c.args.value.scalar) c.in-None.ensures
