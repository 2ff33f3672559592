use Rattle.std.proofs.Common.{ℕ}
use Rattle.std.specs.Prelude.{Option, option_map}
use Rattle.term_core.specs.declared.ids.SortId.{SortId}
use Rattle.kore_ast.specs.Plain.{pattern_tree}
use Rattle.kore_equations.proofs.ArgumentLaws.{next_faultless}
use Rattle.kore_equations.proofs.sorts.are_parameters.Goals as goal

pub loop-i-preserved : goal.loop-i-preserved
loop-i-preserved c =
    let wanted : Option ℕ = option_map (λ (s : SortId). s.0) c.wanted.result in
    next_faultless pattern_tree c.args.sig.now c.args.places.now c.args.pats.now c.loop-i.i
    c.index-pats-i.result wanted c.is_faultless.result _ c.loop-i-test.true c.index-pats-i.is
    (c.wanted.ensures c.args.sig.now) c.is_faultless.ensures c.if-not-is_faultless.false
    c.loop-i.invariant
