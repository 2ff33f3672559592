use Rattle.std.proofs.Common.{◌≡◌, ◌<◌, ◌∙◌, ap, sym, refl, subst, arith, length, map, List, Some}
use Rattle.std.specs.Prelude.{Vec}
use Rattle.std.specs.Global.{Global}
use Rattle.std.proofs.lemmas.Bool.{false≢true}
use Rattle.kore_ast.specs.Plain.{plain_axiom_decl}
use Rattle.rule_core.specs.Named.{number_of_name}
use Rattle.rule_core.specs.ProgramView.{function_equation}
use Rattle.rule_core.specs.Rules as plain
use Rattle.rule_core.specs.declared.rules.Equation.{Equation}
use Rattle.kore_sig.proofs.ListLaws.{number_within}
use Rattle.kore_shapes.specs.StatementViews.{plain_statement}
use Rattle.kore_equations.specs.Readings.{IsReadLast, function_of}
use Rattle.kore_equations.specs.declared.readings.Reading.{Reading}
use Rattle.kore_rules.specs.TrialOrder.{listed_at}
use Rattle.kore_rules.proofs.LastResortReads.{last_unreadable, last_read, last_among, two_unreadable}
use Rattle.kore_rules.proofs.LastResortReads.{beside_unreadable}
use Rattle.kore_rules.proofs.ListedLaws.{entry_at}
use Rattle.kore_rules.proofs.last_resorts.read_beside.Goals as goal

pub bounds-two-number : goal.bounds-two-number
bounds-two-number c =
    let within =
    number_within c.args.sig.now.symbols c.args.stated.now.function.now
    c.function_number-number.result c.function_number-number.ensures in
    let many = c.requires.counted in omega (arith, within, many)

pub mark-requires : goal.mark-requires
mark-requires c =
    let within =
    number_within c.args.sig.now.symbols c.args.stated.now.function.now
    c.function_number-number.result c.function_number-number.ensures in
    let many = c.requires.marks in omega (arith, within, many)

pub returns-then-two-number : goal.returns-then-two-number
returns-then-two-number c = λ axioms some marked has others counted h.
    let sig = c.args.sig.now in
    let a = plain_axiom_decl c.args.decl.now in
    let e = plain_statement c.args.stated.now in
    let n = c.function_number-number.result in
    let number = c.function_number-number.ensures in
    last_unreadable sig axioms some a e n marked c.args.read.now _ c.requires.stated number
    (two_unreadable sig axioms a e c.requires.stated
    ((counted e.function n number).0 c.if-two-number.true)) refl c.mark.ensures.len
    c.mark.ensures.marked h

pub offset_bounds-others-number : goal.offset_bounds-others-number
offset_bounds-others-number c =
    let within =
    number_within c.args.sig.now.symbols c.args.stated.now.function.now
    c.function_number-number.result c.function_number-number.ensures in
    let few = c.requires.numbered.1 in omega (arith, within, few)

pub bounds-others-number : goal.bounds-others-number
bounds-others-number c =
    let within =
    number_within c.args.sig.now.symbols c.args.stated.now.function.now
    c.function_number-number.result c.function_number-number.ensures in
    let many = c.requires.lists in omega (arith, within, many)

pub mark-requires-in-Unreadable : goal.mark-requires-in-Unreadable
mark-requires-in-Unreadable c =
    let within =
    number_within c.args.sig.now.symbols c.args.stated.now.function.now c.in-Unreadable.function.0
    (subst (λ (r : Reading). number_of_name c.args.sig.now.symbols c.args.stated.now.function.now
    ≡ Some (function_of r)) c.in-Unreadable.is c.in_ok-equation.ensures.function) in
    let many = c.requires.marks in omega (arith, within, many)

pub returns-in_ok-push-in-Equation : goal.returns-in_ok-push-in-Equation
returns-in_ok-push-in-Equation c = λ axioms some marked has others counted h.
    let sig = c.args.sig.now in
    let a = plain_axiom_decl c.args.decl.now in
    let e = plain_statement c.args.stated.now in
    let n = c.function_number-number.result in
    let number = c.function_number-number.ensures in
    let made : Equation = c.in-Equation.equation in
    let within : n < length c.args.others.now =
    (let w = number_within sig.symbols e.function n number in
    let many = c.requires.lists in omega (arith, w, many)) in
    let es : List plain.Equation = map function_equation (listed_at c.args.others.now n) in
    let same : map function_equation c.deref.result.now ≡ es =
    ap (map function_equation) (c.deref.ensures.value
    ∙ ap (λ (v : Vec Equation Global). v.items) c.index-others-number.is
    ∙ entry_at c.args.others.now n c.index-others-number.result within) in
    let is : IsReadLast sig e.function es a c.in_ok-equation.field-0 =
    subst (λ (xs : List plain.Equation). IsReadLast sig e.function xs a c.in_ok-equation.field-0)
    same c.in_ok-equation.ensures.means in
    last_read sig axioms some a e marked c.args.read.now _ made c.requires.stated
    (subst (λ (r : Reading). number_of_name sig.symbols e.function ≡ Some (function_of r))
    c.in-Equation.is c.in_ok-equation.ensures.function)
    (last_among sig axioms a e es made has c.requires.stated
    (λ le. false≢true (sym c.if-two-number.false ∙ (counted e.function n number).1 le))
    (others e.function n number)
    (subst (λ (r : Reading). IsReadLast sig e.function es a r) c.in-Equation.is is))
    c.in_ok-push-in-Equation.ensures.items refl h

pub returns-in-Unreadable : goal.returns-in-Unreadable
returns-in-Unreadable c = λ axioms some marked has others counted h.
    let sig = c.args.sig.now in
    let a = plain_axiom_decl c.args.decl.now in
    let e = plain_statement c.args.stated.now in
    let n = c.function_number-number.result in
    let number = c.function_number-number.ensures in
    let within : n < length c.args.others.now =
    (let w = number_within sig.symbols e.function n number in
    let many = c.requires.lists in omega (arith, w, many)) in
    let es : List plain.Equation = map function_equation (listed_at c.args.others.now n) in
    let same : map function_equation c.deref.result.now ≡ es =
    ap (map function_equation) (c.deref.ensures.value
    ∙ ap (λ (v : Vec Equation Global). v.items) c.index-others-number.is
    ∙ entry_at c.args.others.now n c.index-others-number.result within) in
    let is : IsReadLast sig e.function es a c.in_ok-equation.field-0 =
    subst (λ (xs : List plain.Equation). IsReadLast sig e.function xs a c.in_ok-equation.field-0)
    same c.in_ok-equation.ensures.means in
    last_unreadable sig axioms some a e c.in-Unreadable.function.0 marked c.args.read.now _
    c.requires.stated
    (subst (λ (r : Reading). number_of_name sig.symbols e.function ≡ Some (function_of r))
    c.in-Unreadable.is c.in_ok-equation.ensures.function)
    (beside_unreadable sig axioms a e es c.requires.stated (others e.function n number)
    (subst (λ (r : Reading). IsReadLast sig e.function es a r) c.in-Unreadable.is is))
    refl c.mark-in-Unreadable.ensures.len c.mark-in-Unreadable.ensures.marked h
