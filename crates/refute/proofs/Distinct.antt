-- Comparing two different terms of one sort comes to a clash.
use Rattle.std.proofs.Common.{◌≡◌, ◌≢◌, ℕ, List, [], Some, refl, sym, ◌∙◌, ap}
use Rattle.term_core.specs.Terms.{Tree, no_tree, more_trees, IsNormal}
use Rattle.term_core.specs.Patterns.{Pattern, variable, no_pattern, more_patterns, ground_pattern}
use Rattle.term_core.specs.Patterns.{instance_of, instances_of}
use Rattle.term_core.proofs.PatternLaws.{instance_of-ground_pattern}
use Rattle.rule_core.specs.Matching.{NoneMatches}
use Rattle.rule_core.specs.Sorting.{IsTermOf}
use Rattle.rule_core.specs.declared.signature.Signature.{Signature}
use Rattle.rule_core.proofs.SortedInstances.{both_there}
use Rattle.refute.specs.Clashes.{ComesTo, Clash, Fails, clash, two_bindings}
use Rattle.refute.specs.ClashLaws.{MismatchHasReason}
use Rattle.refute.proofs.Pairs.{ground_no_call, ground_occurs}
use Rattle.refute.proofs.PlaceSorts.{comes_occurs}

some_same : {A : Type 0} (a b : A) → Some a ≡ Some b → a ≡ b
some_same a b h = cc

-- the pattern of a normal term matches no other term
none_matches : (sig : Signature) (variables : List ℕ) (t u : Tree) → IsNormal t → t ≢ u
    → NoneMatches sig variables (more_patterns (ground_pattern t) no_pattern)
    (more_trees u no_tree)
none_matches sig variables t u normal other theta matches =
    let parts =
    both_there (instance_of theta (ground_pattern t)) (instances_of theta no_pattern)
    (more_trees u no_tree) matches.makes in
    let first : parts.0 ≡ u = cc in
    other (some_same t u (sym (instance_of-ground_pattern theta t normal) ∙ parts.1.1.1.0
    ∙ ap (λ (w : Tree). Some w) first))

pub terms_clash : MismatchHasReason → (sig : Signature) (t u : Tree) (sort : ℕ)
    → IsTermOf sig t sort → IsTermOf sig u sort → IsNormal t → IsNormal u → t ≢ u
    → ((q : Pattern) (w : Tree) → ComesTo sig.subsorts q w (ground_pattern t) u
    → Clash sig.subsorts q w → ⊥)
    → ⊥
terms_clash reason sig t u sort one two first second other free =
    decide (reason sig [] (ground_pattern t) sort u one (ground_no_call t) two second
    (none_matches sig [] t u first other))
  where
    decide : Fails sig.subsorts (ground_pattern t) u → ⊥
    decide (clash q w comes clashes) = free q w comes clashes
    decide (two_bindings x v w comes again differ) =
        ground_occurs x t (comes_occurs sig.subsorts x (variable x) v comes refl)
