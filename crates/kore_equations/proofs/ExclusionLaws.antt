-- The readings of an axiom exclude each other.
use Rattle.std.proofs.Common.{◌≡◌, Some, sym, ◌∙◌, subst}
use Rattle.rule_core.specs.declared.signature.SymInfo.{SymInfo}
use Rattle.kore_axioms.specs.AxiomClasses.{equates}
use Rattle.kore_shapes.specs.Statements.{StatedEquation}
use Rattle.kore_equations.specs.ReadableEquations.{IsReadable}
use Rattle.kore_equations.specs.ReadingLaws.{ReadingsExclude}

pub readings_exclude : ReadingsExclude
readings_exclude sig f a e is not =
    let classes : equates is.stated ≡ equates not.stated = sym is.states.class ∙ not.states.class in
    let stated : is.stated ≡ not.stated = cc in
    let infos : Some is.info ≡ Some not.info = sym is.states.declared ∙ not.states.declared in
    let info : is.info ≡ not.info = cc in
    not.unreadable is.parts
    (subst (λ (i : SymInfo). IsReadable sig a i not.stated is.parts) info
    (subst (λ (s : StatedEquation). IsReadable sig a is.info s is.parts) stated is.readable))
