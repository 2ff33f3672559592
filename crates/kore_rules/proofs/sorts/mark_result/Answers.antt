use Rattle.std.proofs.Common.{refl, eq-eqb}
use Rattle.kore_rules.proofs.sorts.mark_result.Goals as goal

pub mark-requires : goal.mark-requires
mark-requires c =
    c.requires c.in-Ctor-Sort.sort.0 (rw (c.in-Ctor-Sort.is-0, c.in-Ctor-Sort.is-1)
    (eq-eqb c.in-Ctor-Sort.sort.0 c.in-Ctor-Sort.sort.0 refl))
