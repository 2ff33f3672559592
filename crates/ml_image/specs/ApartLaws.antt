-- Why the facts about unequal patterns and about injections are true: what they say of the normal
-- forms of ground terms.
use Rattle.std.specs.Prelude.{◌≡◌, ◌≢◌, ℕ, List, [], ◌∷◌, Option, Some}
use Rattle.term_core.specs.Terms.{Tree}
use Rattle.term_core.specs.Patterns.{Pattern, variable, injection, binding, instance_of}
use Rattle.rule_core.specs.Subsorts.{HasNoCycle}
use Rattle.rule_core.specs.Matching.{RespectsSorts}
use Rattle.rule_core.specs.declared.signature.Signature.{Signature}
use Rattle.ml_image.specs.Sides.{AreApart}

-- under each substitution the normal forms of the two patterns differ
abbrev pub InstancesDiffer : Type 0
InstancesDiffer =
    (sig : Signature) (p q : Pattern) (sorts : List ℕ) (theta : List (Option Tree)) (t u : Tree)
    → AreApart sig p q sorts → RespectsSorts sig sorts theta → instance_of theta p ≡ Some t
    → instance_of theta q ≡ Some u → t ≢ u

-- if the normal forms of two injections from a sort into another are equal, then what is injected
-- is equal
abbrev pub InjectionsDiffer : Type 0
InjectionsDiffer =
    (sig : Signature) (a b : ℕ) (theta : List (Option Tree)) (t : Tree) → HasNoCycle sig.subsorts
    → RespectsSorts sig (a ∷ a ∷ []) theta
    → instance_of theta (injection a b (variable 0)) ≡ Some t
    → instance_of theta (injection a b (variable 1)) ≡ Some t
    → binding theta 0 ≡ binding theta 1
