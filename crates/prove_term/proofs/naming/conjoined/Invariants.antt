use Rattle.std.proofs.Common.{take}
use Rattle.ml_image.specs.PartNames.{part_names}
use Rattle.prove_term.specs.Applications.{SaysEqualTo}
use Rattle.prove_term.specs.Contexts.{HasGrown}
use Rattle.prove_term.specs.Naming.{IsConjoinedTo}
use Rattle.prove_term.proofs.naming.conjoined.Given as goal

abbrev pub invariant-loop-name : goal.invariant-loop-name
invariant-loop-name l = record {
  done : IsConjoinedTo l.initial.cx l.cx (part_names (take l.name-index l.names)) l.image
      l.initial.made l.made;
  says : SaysEqualTo l.image l.made;
  grown : HasGrown l.initial.cx l.cx;
}
