-- Terms whose value is `false`.
use Rattle.std.proofs.Common.{◌≡◌, ◌≢◌, ℕ, List, [], ◌∷◌, Option, Some, inl, refl}
use Rattle.std.proofs.Common.{sym, subst, ◌∙◌, true, false, arith}
use Rattle.ml_pat.specs.Patterns.{Pattern as LogicPattern}
use Rattle.term_core.specs.Terms.{Tree, leaf, truth}
use Rattle.term_core.specs.Patterns.{Pattern, no_pattern}
use Rattle.term_core.specs.Patterns.{more_patterns, binding}
use Rattle.rule_core.specs.ProgramView.{theory_of}
use Rattle.rule_core.specs.Sorting.{HasSort, HasValue, IsTermOf, IsValueOf}
use Rattle.rule_core.specs.WellSorted.{BindsVariablesOf}
use Rattle.rule_core.specs.declared.rules.Program.{Program}
use Rattle.rule_core.specs.declared.signature.Signature.{Signature}
use Rattle.rule_core.specs.declared.signature.SortKind.{SortKind}
use Rattle.rule_core.specs.declared.signature.SortKind.TheVariants as kind
use Rattle.rule_core.specs.declared.signature.SortRef.TheVariants.{Sort}
use Rattle.rule_core.proofs.SortedInstances.{sorted_use_first}
use Rattle.prove_term.specs.Contexts.{Context}
use Rattle.prove_term.specs.Values.{SaysValue}
use Rattle.rewriter.specs.Configurations.{IsConfiguration}
use Rattle.refute.specs.Refutations.{EqualsTerm}

nothing_bound : {P : Type 0} (x : ℕ) (t : Tree) → binding [] x ≡ Some t → P
nothing_bound x t e = absurd (let no : ⊥ = cc in no)

-- no variable of a ground pattern needs to be bound
pub nothing_serves : (sig : Signature) (theta : List (Option Tree)) (p : Pattern) (sort : ℕ)
    → theta ≡ [] → HasSort sig [] p sort → BindsVariablesOf sig [] theta p
nothing_serves sig theta p sort none sorted =
    subst (λ (s : List (Option Tree)). BindsVariablesOf sig [] s p) (sym none) (record {
      bound =
          λ x stands. absurd (let low = sorted_use_first sig [] [] (more_patterns p no_pattern)
          (Sort (record { 0 = sort }) ∷ []) (sort, refl, sorted, tt) x (inl stands) in
          omega (arith, low));
      sorted = λ x t bound. nothing_bound x t bound;
      low = λ x t bound. nothing_bound x t bound;
    })

-- the value of a theorem on values
pub equals_value : (cx : Context) (theta : List (Option Tree)) (p : Pattern) (t : Tree)
    (e : LogicPattern) → SaysValue cx theta p t e → EqualsTerm cx t e
equals_value cx theta p t e says = (says.left, says.right, says.says, says.right_image)

-- a configuration that is `false` has the sort of that value, which has both truth values
pub false_sorted : (p : Program) (t : Tree) (s : ℕ) → IsConfiguration (theory_of p) t
    → t ≡ leaf s (truth false) → IsTermOf p.sig t s
false_sorted p t s is value =
    let own : IsTermOf p.sig (leaf s (truth false)) is.0 =
    subst (λ (u : Tree). IsTermOf p.sig u is.0) value is.2 in
    subst (λ (u : Tree). IsTermOf p.sig u s) (sym value) (refl, own.1)

both_truths : (k : SortKind) → IsValueOf k (truth false) → IsValueOf k (truth true)
both_truths kind.Int h = absurd h
both_truths kind.Bool h = h
both_truths kind.Map h = absurd h
both_truths kind.Other h = absurd h

pub true_there : (p : Program) (t : Tree) (s : ℕ) → IsConfiguration (theory_of p) t
    → t ≡ leaf s (truth false) → HasValue p.sig s (truth true)
true_there p t s is value =
    let own : IsTermOf p.sig (leaf s (truth false)) is.0 =
    subst (λ (u : Tree). IsTermOf p.sig u is.0) value is.2 in
    let has : HasValue p.sig s (truth false) = own.1 in
    (has.0, has.1, has.2, both_truths has.1.kind has.3)

leaves_differ : (s : ℕ) → leaf s (truth false) ≡ leaf s (truth true) → ⊥
leaves_differ s e = let no : ⊥ = cc in no

pub false_differs : (t : Tree) (s : ℕ) → t ≡ leaf s (truth false) → t ≢ leaf s (truth true)
false_differs t s is e = leaves_differ s (sym is ∙ e)
