use Rattle.std.proofs.Common.{◌<◌, List, length, refl, subst, sym}
use Rattle.std.proofs.lemmas.Option.{slice_get_read}
use Rattle.ml_pat.specs.Patterns.{Pattern}
use Rattle.ml_kernel.proofs.InstanceLaws.{HasNoMeta-at}
use Rattle.ml_kernel.proofs.theory.Theory.at.Goals as goal

pub returns-clause-no_meta : goal.returns-clause-no_meta
returns-clause-no_meta c =
    let axioms = c.self.inside.axioms.items in
    let lt : c.args.no.0 < length axioms =
    subst (λ (ps : List Pattern). c.args.no.0 < length ps) (sym c.self.view_is) c.requires in
    HasNoMeta-at axioms c.args.no.0 c.index.result.now c.self.invariant
    (slice_get_read axioms (length axioms) c.args.no.0 c.index.result.now refl lt c.index.ensures)
