-- A pattern applied to several others.
use Rattle.std.specs.Prelude.{List, [], ◌∷◌}
use Rattle.ml_pat.specs.Patterns.{Pattern, app}

-- the pattern applied to these, one after another
abbrev pub applied_to : Pattern → List Pattern → Pattern
applied_to f [] = f
applied_to f (p ∷ ps) = applied_to (app f p) ps
