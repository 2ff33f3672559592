-- What the root of a term says.
use Rattle.std.specs.Prelude.{◌≡◌, ℕ, List, Some, map, Result}
use Rattle.term_core.specs.Terms.{Tree, leaf, DomainValue, Forest}
use Rattle.term_core.specs.HookValues.{hook_value}
use Rattle.term_core.specs.HookSignatures.{hook_arguments}
use Rattle.term_core.specs.Values.{scalar_value}
use Rattle.term_core.specs.declared.values.Scalar.{Scalar}
use Rattle.rule_core.specs.HookCalls.{AreValues}
use Rattle.hook_table.specs.Scalars.{kind_of, plain_outcome}
use Rattle.term_core.specs.declared.values.NoValue.{NoValue}

-- a whole number or a truth value
abbrev pub IsScalar : Tree → Type 0
IsScalar t = (sort : ℕ) × (s : Scalar) × (t ≡ leaf sort (scalar_value s))

-- the terms are arguments of the hook with this number, of the right kinds
abbrev pub AreHookArguments : ℕ → Forest → Type 0
AreHookArguments row ts =
    (ss : List Scalar) × AreValues ts (map scalar_value ss)
    × (hook_arguments row ≡ Some (map kind_of ss))

-- the result of the hook with this number at the terms
abbrev pub HookAnswersSo : ℕ → Forest → Result Scalar NoValue → Type 0
HookAnswersSo row ts answer =
    (vs : List DomainValue) × AreValues ts vs × (hook_value row vs ≡ Some (plain_outcome answer))
