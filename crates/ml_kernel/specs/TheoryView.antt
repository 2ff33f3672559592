-- What holds of the axioms that a `Theory` of the code keeps.
use Rattle.std.specs.Prelude.{List, [], ◌∷◌}
use Rattle.ml_pat.specs.Patterns.{Pattern}
use Rattle.ml_kernel.specs.Lemmas.{HasNoMeta}

-- no pattern variable occurs in any of them
abbrev pub HaveNoMetas : List Pattern → Type 0
HaveNoMetas [] = Unit {0}
HaveNoMetas (p ∷ ps) = HasNoMeta p × HaveNoMetas ps
