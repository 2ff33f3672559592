use Rattle.std.proofs.Common.{◌≡◌, ◌<◌, List, [], length, get_or, ap, sym, ◌∙◌, subst, arith}
use Rattle.std.proofs.lemmas.Option.{slice_get_within}
use Rattle.ml_kernel.specs.Theorems.{Theorem}
use Rattle.term_core.specs.GroundPatterns.{IsGround}
use Rattle.term_core.specs.RulePatterns.{plain_pattern}
use Rattle.term_core.proofs.PatternLaws.{IsGround-ground_pattern}
use Rattle.rule_core.specs.Sorting.{HasSort}
use Rattle.rule_core.specs.declared.rules.Program.{Program}
use Rattle.prove_term.specs.Carrying.{Collapses, CollapsesTo, CollapsesBy}
use Rattle.prove_term.specs.Comparing.{IsFactOn}
use Rattle.prove_term.specs.Injections.{IsCollapseAt}
use Rattle.prove_term.proofs.ComparingInjections.{fact_of, fact_grown, fact_collapses, once_of}
use Rattle.prove_term.proofs.ElementLaws.{lemma_found}
use Rattle.prove_term.proofs.ResultLaws.{if_ok_two}
use Rattle.prove_term.proofs.naming.merged.Goals as goal
use Rattle.prove_term.proofs.naming.merged.Goals.{After-lemmas, After-index-lemmas-place}

place_low : (c : After-lemmas) → c.in_ok-place.place < length c.lemmas.result.now
place_low c =
    let at : IsCollapseAt c.collapse.new.self c.args.lowest.0 c.args.through.0 c.args.to.0
    c.in_ok-place.place = c.in_ok-place.ensures.lemma in
    subst (λ (ts : List Theorem). c.in_ok-place.place < length ts) (sym c.lemmas.ensures)
    (slice_get_within c.collapse.new.self.lemmas c.in_ok-place.place at.lemma at.there)

-- the fact about the element, once the lemma is there
fact_there : (c : After-lemmas) → IsFactOn c.collapse.new.self (plain_pattern c.args.base.now)
    c.args.lowest.0 c.in_ok-fact.fact
fact_there c =
    fact_grown c.element.new.cx c.collapse.new.self (plain_pattern c.args.base.now) c.args.lowest.0
    c.in_ok-fact.fact c.in_ok-place.ensures.grown
    (fact_of c.element.new.cx (plain_pattern c.args.base.now) c.args.lowest.0 c.in_ok-fact.fact
    (subst (λ (program : Program).
    HasSort program.sig [] (plain_pattern c.args.base.now) c.args.lowest.0)
    (sym c.in_ok-fact.ensures.grown.program) c.requires.sorted) c.in_ok-fact.ensures.says
    c.in_ok-fact.ensures.no_hypotheses c.in_ok-fact.ensures.stays)

pub element-requires-clause-ground : goal.element-requires-clause-ground
element-requires-clause-ground c =
    subst IsGround (sym c.requires.term.1) (IsGround-ground_pattern c.requires.term.0)

pub bounds-lemmas-place : goal.bounds-lemmas-place
bounds-lemmas-place c = place_low (goal.at.bounds-lemmas-place c).After-lemmas

pub offset_bounds-lemmas-place : goal.offset_bounds-lemmas-place
offset_bounds-lemmas-place c =
    omega (
      arith,
      place_low (goal.at.offset_bounds-lemmas-place c).After-lemmas,
      c.lemmas.type_inv.1,
    )

-- the lemma that is read is that of the collapse
lemma_read : (c : After-index-lemmas-place)
    → c.in_ok-place.ensures.lemma.lemma ≡ c.index-lemmas-place.result
lemma_read c =
    let at : IsCollapseAt c.collapse.new.self c.args.lowest.0 c.args.through.0 c.args.to.0
    c.in_ok-place.place = c.in_ok-place.ensures.lemma in
    lemma_found c.collapse.new.self.lemmas c.in_ok-place.place at.lemma c.index-lemmas-place.result
    at.there (c.index-lemmas-place.is
    ∙ ap (λ (ts : List Theorem). get_or ts c.in_ok-place.place c.index-lemmas-place.result)
    c.lemmas.ensures)

pub at_once-requires : goal.at_once-requires
at_once-requires c =
    let at : IsCollapseAt c.collapse.new.self c.args.lowest.0 c.args.through.0 c.args.to.0
    c.in_ok-place.place = c.in_ok-place.ensures.lemma in
    let fact : IsFactOn c.collapse.new.self (plain_pattern c.args.base.now) c.args.lowest.0
    c.in_ok-fact.fact = fact_there (goal.at.at_once-requires c).After-lemmas in
    let e = at.is.ends in (
      e.symbol,
      e.lower,
      e.upper,
      at.is.last,
      fact.image,
      subst (λ (l : Theorem).
          Collapses e.symbol e.lower e.upper at.is.last fact.image l c.in_ok-fact.fact)
          (lemma_read (goal.at.at_once-requires c).After-index-lemmas-place)
          (fact_collapses c.collapse.new.self c.args.lowest.0 c.args.through.0 c.args.to.0
          c.in_ok-place.place (plain_pattern c.args.base.now) c.in_ok-fact.fact at fact),
    )

pub returns-clause-says : goal.returns-clause-says
returns-clause-says c =
    let at : IsCollapseAt c.collapse.new.self c.args.lowest.0 c.args.through.0 c.args.to.0
    c.in_ok-place.place = c.in_ok-place.ensures.lemma in
    let read = lemma_read (goal.at.returns-clause-says c).After-index-lemmas-place in
    if_ok_two c.at_once.result
    (λ once to by. once_of c.collapse.new.self c.args.lowest.0 c.args.through.0 c.args.to.0
    c.in_ok-place.place (plain_pattern c.args.base.now) c.in_ok-fact.fact once at
    (fact_there (goal.at.returns-clause-says c).After-lemmas)
    (subst (λ (l : Theorem). CollapsesTo l c.in_ok-fact.fact once) (sym read) to)
    (subst (λ (l : Theorem). CollapsesBy l c.in_ok-fact.fact once) (sym read) by))
    c.at_once.ensures.conclusion c.at_once.ensures.by
