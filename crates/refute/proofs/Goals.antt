-- What is looked for at a variable.
use Rattle.std.proofs.Common.{◌≡◌, ℕ, List, sym, subst}
use Rattle.ml_pat.specs.Patterns.{Pattern as LogicPattern}
use Rattle.ml_kernel.specs.Theorems.{Theorem}
use Rattle.term_core.specs.Terms.{Tree}
use Rattle.term_core.specs.Patterns.{Pattern, variable, ground_pattern}
use Rattle.prove_term.specs.Contexts.{Context}
use Rattle.prove_open.specs.declared.differences.Difference.TheVariants.{Unequal}
use Rattle.refute.specs.Clashes.{Clash}
use Rattle.refute.specs.Refuting.{IsGoal, Attains, AreFree, Denies}
use Rattle.refute.specs.declared.settings.Goal.{Goal}
use Rattle.refute.specs.declared.settings.Goal.TheVariants as goal
use Rattle.refute.proofs.Places.{variable_place}

pub denied_by_goal : (cx : Context) (h : LogicPattern) (what : Goal) (x y : ℕ) (t bound : Tree)
    (fact made : Theorem) → what ≡ goal.Binding y bound fact → IsGoal cx h what → x ≡ y
    → bound ≡ t → made ≡ fact → Denies cx h (variable x) (ground_pattern t) (Unequal made)
denied_by_goal cx h what x y t bound fact made is holds same terms shared =
    let known : IsGoal cx h (goal.Binding y bound fact) = subst (IsGoal cx h) is holds in
    let given : Denies cx h (variable y) (ground_pattern bound) (Unequal fact) =
    record { says = known.0; stays = known.1 } in
    subst (λ (n : ℕ). Denies cx h (variable n) (ground_pattern t) (Unequal made)) (sym same)
    (subst (λ (u : Tree). Denies cx h (variable y) (ground_pattern u) (Unequal made)) terms
    (subst (λ (f : Theorem). Denies cx h (variable y) (ground_pattern bound) (Unequal f))
    (sym shared) given))

-- a variable never clashes
no_clash : (pairs : List (ℕ × ℕ)) (x : ℕ) (t : Tree) → Clash pairs (variable x) t → ⊥
no_clash pairs x t h = h

pub no_clash_alone : (pairs : List (ℕ × ℕ)) (what : Goal) (x : ℕ) (t : Tree) → what ≡ goal.Clash
    → AreFree pairs what (variable x) t
no_clash_alone pairs what x t is =
    variable_place pairs
    (λ (q : Pattern) (u : Tree). (Clash pairs q u → ⊥) × (Attains what q u → ⊥)) x t
    (no_clash pairs x t, λ attains. subst (λ (g : Goal). Attains g (variable x) t) is attains)

pub no_other_binding : (pairs : List (ℕ × ℕ)) (what : Goal) (x y : ℕ) (t bound : Tree)
    (fact : Theorem) → what ≡ goal.Binding y bound fact → ((x ≡ y) × (bound ≡ t) → ⊥)
    → AreFree pairs what (variable x) t
no_other_binding pairs what x y t bound fact is apart =
    variable_place pairs
    (λ (q : Pattern) (u : Tree). (Clash pairs q u → ⊥) × (Attains what q u → ⊥)) x t (
      no_clash pairs x t,
      λ attains.
          let both : Attains (goal.Binding y bound fact) (variable x) t =
          subst (λ (g : Goal). Attains g (variable x) t) is attains in
          apart (same_variable x y both.0, sym both.1),
    )
  where
    same_variable : (x y : ℕ) → variable x ≡ variable y → x ≡ y
    same_variable x y h = cc
