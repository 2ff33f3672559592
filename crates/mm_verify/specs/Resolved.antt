-- Assertions whose variables have the places of their `$f`.
use Rattle.std.specs.Prelude.{List, [], map}
use Rattle.mm_frame.specs.Numbered.{NumberedHypothesis}
use Rattle.mm_verify.specs.declared.parts.Part.{Part}
use Rattle.mm_verify.specs.declared.parts.Wanted.{Wanted}
use Rattle.mm_verify.specs.declared.parts.Wanted.TheVariants as wanted
use Rattle.mm_verify.specs.Places.{symbol_of}
use Rattle.mm_verify.specs.StatementView.{statement_parts}
use Rattle.mm_database.specs.Frames.{floating, essential}

abbrev pub wanted_hypothesis : Wanted → NumberedHypothesis
wanted_hypothesis (wanted.Typed label typecode variable) = floating label.now typecode variable
wanted_hypothesis (wanted.Stated label statement) =
    essential label.now (map symbol_of (statement_parts statement))

-- the parts of what a hypothesis asks for
abbrev pub parts_in : Wanted → List Part
parts_in (wanted.Typed label typecode variable) = []
parts_in (wanted.Stated label statement) = statement_parts statement

abbrev pub hypotheses_of : List Wanted → List NumberedHypothesis
hypotheses_of all = map wanted_hypothesis all
