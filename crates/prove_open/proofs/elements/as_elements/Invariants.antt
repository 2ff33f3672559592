use Rattle.std.proofs.Common.{ℕ, List, take}
use Rattle.term_core.specs.declared.rule_patterns.RulePat.{RulePat}
use Rattle.prove_term.specs.Contexts.{HasGrown}
use Rattle.prove_open.specs.Elements.{AreElementsUnder}
use Rattle.prove_open.specs.Known.{AreKnown}
use Rattle.prove_open.proofs.elements.as_elements.Given as goal

abbrev pub invariant-loop-part : goal.invariant-loop-part
invariant-loop-part l = record {
  elements : (sorts : List ℕ) (ps : List RulePat) → AreKnown l.initial.cx sorts l.given ps l.parts
      → AreElementsUnder l.cx sorts l.given (take l.part-index ps) l.facts.items;
  grown : HasGrown l.initial.cx l.cx;
}
