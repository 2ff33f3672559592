use Rattle.std.proofs.Common.{◌≡◌, ◌∙◌, ap, sym, [], Some, None}
use Rattle.std.proofs.lemmas.Result.{err_from_is_err_and}
use Rattle.kore_ast.specs.Plain.{pattern_tree as plain_tree}
use Rattle.kore_sig.specs.FirstFault.{Fault}
use Rattle.kore_rules.specs.FirstRefusal.{FirstOfTerm}
use Rattle.kore_rules.specs.GroundNotes.{not_ground_at}
use Rattle.kore_rules.specs.GroundTerms.{ground_faults}
use Rattle.kore_rules.specs.RefusedTexts.{number_of_sort}
use Rattle.kore_rules.proofs.FirstLaws.{refuses_into}
use Rattle.kore_rules.proofs.StartLaws.{none_noted, not_ground_first, sort_fault_first}
use Rattle.kore_rules.proofs.StartLaws.{other_sort_first, no_fault}
use Rattle.kore_rules.proofs.start.start_of.Goals as goal

pub returns-in-Some-clause-refused : goal.returns-in-Some-clause-refused
returns-in-Some-clause-refused c =
    not_ground_first c.args.sig.now (number_of_sort c.args.top) (plain_tree c.args.term.now)
    (record { number = 26; byte = c.in-Some.at })
    (sym (ap not_ground_at c.in-Some.is) ∙ c.first_not_ground.ensures)

pub ground_pattern-requires-clause-ground : goal.ground_pattern-requires-clause-ground
ground_pattern-requires-clause-ground c =
    none_noted (ground_faults (plain_tree c.args.term.now))
    (sym (ap not_ground_at c.in_default.is) ∙ c.first_not_ground.ensures)

pub returns-then-differs_from-clause-refused : goal.returns-then-differs_from-clause-refused
returns-then-differs_from-clause-refused c =
    let p = plain_tree c.args.term.now in
    let ground : ground_faults p ≡ [] =
    none_noted (ground_faults p)
    (sym (ap not_ground_at c.in_default.is) ∙ c.first_not_ground.ensures) in
    other_sort_first c.args.sig.now (number_of_sort c.args.top) p c.in_ok-start.sort.0 ground
    c.in_ok-start.ensures.faultless c.in_ok-start.ensures.own_sort
    (sym c.differs_from.ensures ∙ c.if-differs_from.true)

pub returns-clause-faultless : goal.returns-clause-faultless
returns-clause-faultless c =
    let p = plain_tree c.args.term.now in
    let ground : ground_faults p ≡ [] =
    none_noted (ground_faults p)
    (sym (ap not_ground_at c.in_default.is) ∙ c.first_not_ground.ensures) in
    no_fault c.args.sig.now (number_of_sort c.args.top) p c.in_ok-start.sort.0 ground
    c.in_ok-start.ensures.faultless
    c.in_ok-start.ensures.own_sort (sym c.differs_from.ensures ∙ c.if-differs_from.false)

pub returns-in_err-start-clause-refused : goal.returns-in_err-start-clause-refused
returns-in_err-start-clause-refused c =
    let p = plain_tree c.args.term.now in
    let ground : ground_faults p ≡ [] =
    none_noted (ground_faults p)
    (sym (ap not_ground_at c.in_default.is) ∙ c.first_not_ground.ensures) in
    let q = err_from_is_err_and c.from_residual.result c.from_residual.ensures.1 in
    rw (q.1, q.2) (refuses_into _
    (λ (f : Fault). FirstOfTerm c.args.sig.now (number_of_sort c.args.top) p (Some f))
    c.in_err-start.field-0.0
    (λ f is. sort_fault_first c.args.sig.now (number_of_sort c.args.top) p f ground is)
    c.in_err-start.ensures.refused)
