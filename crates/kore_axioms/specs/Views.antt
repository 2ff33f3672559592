-- The parts of trees that borrowed parts of the program stand for, and the numbers of faults at an
-- axiom.
use Rattle.std.specs.Prelude.{ℕ, Bool}
use Rattle.kore_sig.specs.FirstFault.{Fault}
use Rattle.kore_shapes.specs.Views.{plain_side, plain_condition}
use Rattle.kore_axioms.specs.RuleParts.{RuleParts as PartsOfTree}
use Rattle.kore_axioms.specs.declared.parts.RuleParts.{RuleParts}
use Rattle.kore_axioms.specs.declared.faults.AxiomFault.{AxiomFault}
use Rattle.kore_axioms.specs.declared.faults.AxiomFault.TheVariants as fault

abbrev pub plain_rule_parts : RuleParts → PartsOfTree
plain_rule_parts w = record {
  before = plain_side w.before;
  after = plain_side w.after;
  condition
      = plain_condition w.condition;
}

-- the number of the refusal
abbrev pub fault_number : AxiomFault → ℕ
fault_number fault.LeftFunction = 12
fault_number fault.Form = 13
fault_number fault.AcSymbol = 14
fault_number fault.Binder = 15
fault_number fault.Ensures = 16
fault_number fault.Condition = 17
fault_number fault.Unbound = 18
fault_number fault.TopSort = 19
fault_number fault.Anywhere = 20
fault_number fault.Overload = 21
fault_number fault.AsPattern = 22
fault_number fault.BadPriority = 23

-- the fault at this byte
abbrev pub fault_at : ℕ → AxiomFault → Fault
fault_at at f = record { number = fault_number f; byte = at }

abbrev pub plain_test : Bool × AxiomFault → Bool × ℕ
plain_test t = (t.0, fault_number t.1)
