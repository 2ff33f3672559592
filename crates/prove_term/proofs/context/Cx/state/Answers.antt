use Rattle.std.proofs.Common.{◌≡◌, List, Some, slice_get, sym, subst}
use Rattle.ml_pat.specs.Patterns.{Pattern}
use Rattle.prove_term.proofs.ResultLaws.{on_both}
use Rattle.prove_term.proofs.KeptInside.{assumed_no_meta, kept_states, grown_states, last_there}
use Rattle.prove_term.proofs.context.Cx.state.Goals as goal

pub add-requires : goal.add-requires
add-requires c = assumed_no_meta c.args.self.now c.args.image c.requires

pub invariant_of-self : goal.invariant_of-self
invariant_of-self c =
    kept_states c.add.result c.self.inside c.args.self.now c.args.image c.add.new.self
    c.self.view_is c.self.invariant c.requires c.add.ensures.axioms c.add.ensures.err

pub returns-clause-there : goal.returns-clause-there
returns-clause-there c =
    on_both c.add.result
    (λ no number axioms. subst (λ (ps : List Pattern). slice_get ps no.0 ≡ Some c.args.image)
    (sym axioms) (last_there c.self.inside.theory c.args.image no.0 number))
    c.add.ensures.number c.add.ensures.axioms

pub returns-clause-grown : goal.returns-clause-grown
returns-clause-grown c =
    grown_states c.add.result c.self.inside c.args.self.now c.args.image c.add.new.self
    c.self.view_is c.add.ensures.axioms c.add.ensures.err
