use Rattle.std.proofs.Common.{ℕ, Option, Some, None, inl, inr, sym, ap, ◌∙◌, subst}
use Rattle.std.specs.Prelude.{Contains, option_map}
use Rattle.kore_ast.specs.Plain.{plain_sort, plain_axiom_decl}
use Rattle.kore_sig.specs.FirstFault.{ByByte, ByNumber, IsFirstBy}
use Rattle.kore_check.specs.FaultNumbers.{IsFirstOf}
use Rattle.kore_check.specs.declared.faults.PatternFault.{PatternFault}
use Rattle.kore_axioms.specs.RuleForms.{form_faults}
use Rattle.kore_axioms.specs.RuleFaults.{sorted_faults}
use Rattle.kore_axioms.specs.Views.{plain_rule_parts, fault_at}
use Rattle.kore_axioms.proofs.FirstLaws.{by_number_first, none_by_number, none_by_byte}
use Rattle.kore_axioms.proofs.rules.check_shape.Goals as goal

pub returns-in-Some-clause-refused : goal.returns-in-Some-clause-refused
returns-in-Some-clause-refused c =
    let fs = form_faults (plain_axiom_decl c.args.decl.now) (plain_rule_parts c.args.parts) in
    let at = c.args.decl.now.at in
    let first : IsFirstBy ByNumber (Contains fs) (Some (fault_at at c.in-Some.fault)) =
    by_number_first fs (Some (fault_at at c.in-Some.fault))
    (sym (ap (option_map (fault_at at)) c.in-Some.is) ∙ c.form_fault.ensures) in
    inl (subst
    (λ (n : ℕ). IsFirstBy ByNumber (Contains fs) (Some (record { number = n; byte = at })))
    (sym c.number.ensures) first)

pub returns-in-Some-sort_fault-clause-refused : goal.returns-in-Some-sort_fault-clause-refused
returns-in-Some-sort_fault-clause-refused c =
    let fs = form_faults (plain_axiom_decl c.args.decl.now) (plain_rule_parts c.args.parts) in
    let gs =
    sorted_faults c.args.sig.now (plain_sort c.args.sort.now) (plain_rule_parts c.args.parts) in
    let at = c.args.decl.now.at in
    let none : IsFirstBy ByNumber (Contains fs) None =
    by_number_first fs None
    (sym (ap (option_map (fault_at at)) c.in_default.is) ∙ c.form_fault.ensures) in
    let first : IsFirstOf gs (Some c.in-Some-sort_fault.fault) =
    subst (λ (r : Option PatternFault). IsFirstOf gs r) c.in-Some-sort_fault.is
    c.sort_fault.ensures in
    inr (
      none,
      subst (λ (n : ℕ). IsFirstBy ByByte (Contains gs)
          (Some (record { number = n; byte = c.in-Some-sort_fault.fault.at })))
          (sym c.number-in-Some-sort_fault.ensures) first,
    )

pub returns-clause-form : goal.returns-clause-form
returns-clause-form c =
    none_by_number (form_faults (plain_axiom_decl c.args.decl.now) (plain_rule_parts c.args.parts))
    (sym (c.form_fault.ensures) ∙ ap (option_map (fault_at c.args.decl.now.at)) c.in_default.is)

pub returns-clause-sorts : goal.returns-clause-sorts
returns-clause-sorts c =
    none_by_byte
    (sorted_faults c.args.sig.now (plain_sort c.args.sort.now) (plain_rule_parts c.args.parts))
    (subst (λ (r : Option PatternFault). IsFirstOf (sorted_faults c.args.sig.now
    (plain_sort c.args.sort.now) (plain_rule_parts c.args.parts)) r)
    c.in_default-sort_fault.is c.sort_fault.ensures)
