-- The pattern that represents an `MPat` of the code.
use Rattle.ml_pat.specs.Patterns.{Pattern}
use Rattle.ml_pat.specs.PatternView.{pattern_of}
use Rattle.ml_pat.specs.declared.patterns.MPat.TheInside.{Inside}

abbrev pub whole_pattern : Inside → Pattern
whole_pattern a = pattern_of a.node.value.form
