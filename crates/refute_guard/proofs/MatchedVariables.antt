-- What a substitution that matches an argument binds.
use Rattle.std.proofs.Common.{◌≡◌, ◌⊎◌, inl, inr, ℕ, List, Option, Some}
use Rattle.std.specs.Prelude.{Contains}
use Rattle.term_core.specs.Terms.{Tree}
use Rattle.term_core.specs.Patterns.{binding, no_pattern, more_patterns}
use Rattle.rule_core.specs.Matching.{OccursInSome}
use Rattle.rule_core.specs.NamedParts.{IsNamed}
use Rattle.rule_core.specs.declared.signature.Signature.{Signature}
use Rattle.rule_core.proofs.Bindings.{IsSome-of}
use Rattle.guard_body.specs.Arguments.{IsArgument, IsVariableOf, MatchesArgument, part_names_of}
use Rattle.guard_body.specs.Arguments.{pattern_of}
use Rattle.refute_guard.specs.Bodies.{variables_of}
use Rattle.guard_body.specs.declared.arguments.Argument.{Argument}
use Rattle.refute_guard.proofs.NamedWritten.{variable_written}

-- it binds only variables of the argument
pub bound_is : (sig : Signature) (sorts : List ℕ) (a : Argument) (theta : List (Option Tree)) (x : ℕ)
    (t : Tree) → MatchesArgument sig sorts a theta → binding theta x ≡ Some t → IsVariableOf a x
bound_is sig sorts a theta x t matches bound =
    go ((matches.binds.just x).0 (IsSome-of (binding theta x) t bound))
  where
    go : OccursInSome x (more_patterns (pattern_of a) no_pattern) ⊎ IsNamed (part_names_of a) x
        → IsVariableOf a x
    go (inl (inl occurs)) = inl occurs
    go (inl (inr none)) = absurd none
    go (inr named) = inr named

pub bound_written : (sig : Signature) (sorts : List ℕ) (a : Argument) (theta : List (Option Tree))
    (x : ℕ) (t : Tree) → IsArgument sig sorts a → MatchesArgument sig sorts a theta
    → binding theta x ≡ Some t → Contains (variables_of a) x
bound_written sig sorts a theta x t is matches bound =
    variable_written sig sorts (part_names_of a) (pattern_of a) x is.names
    (bound_is sig sorts a theta x t matches bound)
