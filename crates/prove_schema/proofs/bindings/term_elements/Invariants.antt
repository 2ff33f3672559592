use Rattle.std.proofs.Common.{take}
use Rattle.std.specs.List.{AllZip}
use Rattle.prove_term.specs.Contexts.{HasGrown}
use Rattle.prove_schema.specs.Elements.{IsElementOf}
use Rattle.prove_schema.proofs.bindings.term_elements.Given as goal

abbrev pub invariant-loop-term : goal.invariant-loop-term
invariant-loop-term l =
    HasGrown l.initial.cx l.cx × AllZip (IsElementOf l.cx) (take l.term-index l.terms) l.facts.items
