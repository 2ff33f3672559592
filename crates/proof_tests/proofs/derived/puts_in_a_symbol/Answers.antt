use Rattle.std.proofs.Common.{◌≡◌, List, [], ◌∷◌, refl, sym, subst, rules}
use Rattle.ml_pat.specs.Patterns.{Pattern, constant, imp, next, var, all, fun}
use Rattle.ml_kernel.specs.Theorems.{conclusions}
use Rattle.ml_derived.specs.Instances.{HasInstance}
use Rattle.proof_tests.proofs.derived.puts_in_a_symbol.Goals as goal

has : (sentence : Pattern) (facts : List Pattern) → sentence ≡ all 4 9 (imp (var 4) (next (var 4)))
    → facts ≡ fun (constant 0) 9 ∷ [] → HasInstance sentence facts
has sentence facts h i =
    subst (HasInstance sentence) (sym i) (
      imp (constant 0) (next (constant 0)),
      (4, (9, (constant 0, (imp (var 4) (next (var 4)), (h, (refl, (tt, refl))))))),
    )

pub instance-requires : goal.instance-requires
instance-requires g c =
    has c.in_ok-sentence.sentence.conclusion _ c.in_ok-sentence.ensures (search rules)
