use Rattle.std.proofs.Common.{take}
use Rattle.prove_term.specs.Contexts.{HasGrown}
use Rattle.prove_schema.specs.Elements.{AreElementsFor}
use Rattle.prove_schema.proofs.bindings.elements.Given as goal

abbrev pub invariant-loop-x : goal.invariant-loop-x
invariant-loop-x l =
    HasGrown l.initial.cx l.cx × AreElementsFor l.cx (take l.x l.subst) l.facts.items
