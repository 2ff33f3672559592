-- What has been read of the axioms so far.
use Rattle.std.specs.Prelude.{◌≡◌, ◌↔◌, ◌≤◌, ◌==◌, ◌^◌, ℕ, Bool, List, map, length, Option, Some}
use Rattle.std.specs.Prelude.{None, option_map, Contains, slice_index_or, count_by, IsTrue, false, not}
use Rattle.std.specs.Borrow.{Bor}
use Rattle.kore_text.specs.Trees.{SortTree, AxiomDeclaration}
use Rattle.kore_ast.specs.Plain.{plain_sort, plain_axiom_decl}
use Rattle.kore_ast.specs.declared.tree.AxiomDecl.{AxiomDecl}
use Rattle.kore_ast.specs.declared.tree.Sort.{Sort}
use Rattle.rule_core.specs.Named.{number_of_name}
use Rattle.rule_core.specs.ProgramView.{rewrite_rule, function_equation}
use Rattle.rule_core.specs.Rules.{RewriteRule}
use Rattle.rule_core.specs.Rules as plain
use Rattle.rule_core.specs.declared.rules.Equation.{Equation}
use Rattle.rule_core.specs.declared.signature.Signature.{Signature}
use Rattle.kore_sig.specs.SortReferences.{sort_number}
use Rattle.kore_shapes.specs.Shapes.{Rewriting}
use Rattle.kore_axioms.specs.AxiomClasses.{rewrites, axiom_class}
use Rattle.kore_axioms.specs.AxiomMeanings.{MeansRule}
use Rattle.kore_axioms.specs.NamedRules.{MeansNamedRule}
use Rattle.kore_equations.specs.EquationMeanings.{MeansEquation, IsUnreadable}
use Rattle.kore_equations.specs.NamedEquations.{MeansNamedEquation}
use Rattle.kore_rules.specs.EquationsAmong.{is_last_resort}
use Rattle.kore_rules.specs.KeptNames.{AreOf}
use Rattle.kore_rules.specs.declared.axioms.Readings.{Readings}

abbrev pub tree_at : Bor AxiomDecl → AxiomDeclaration
tree_at d = plain_axiom_decl d.now

abbrev pub sort_at : Option (Bor Sort) → Option SortTree
sort_at first = option_map (λ (s : Bor Sort). plain_sort s.now) first

-- The list has exactly the things that these axioms are. Each place occurs in it at most as often
-- as it occurs among the axioms.
pub record AreRead {X : Type 0} (Is : AxiomDeclaration → X → Type 0) (place : X → ℕ)
    (axioms : List AxiomDeclaration)
    (xs : List X) : Type 0 where
  pub just : (x : X) → Contains xs x ↔ ((a : AxiomDeclaration) × Contains axioms a × Is a x)
  pub short : length xs ≤ length axioms
  pub few : (at : ℕ)
      → count_by (λ x. place x == at) xs ≤ count_by (λ (a : AxiomDeclaration). a.at == at) axioms

-- the axiom is this equation of the function with this number
abbrev pub IsNumberedEquation : Signature → AxiomDeclaration → ℕ × plain.Equation → Type 0
IsNumberedEquation sig a e =
    (f : List ℕ) × (number_of_name sig.symbols f ≡ Some e.0) × MeansEquation sig f a e.1

abbrev pub numbered_equation : Equation → ℕ × plain.Equation
numbered_equation e = (e.fun.0, function_equation e)

-- the axiom is this equation, and the equation's variables have their names in the axiom
abbrev pub IsNamedOrdinary : Signature → AxiomDeclaration → Equation → Type 0
IsNamedOrdinary sig a e = (f : List ℕ) × MeansNamedEquation sig f a e

-- one of the axioms states an equation of the function with this number, which is so
abbrev pub HasStated : Signature → (List ℕ → AxiomDeclaration → Type 0) → List AxiomDeclaration
    → ℕ → Type 0
HasStated sig Is axioms n =
    (a : AxiomDeclaration) × Contains axioms a
    × ((f : List ℕ) × (number_of_name sig.symbols f ≡ Some n) × Is f a)

-- the axiom states an equation that is not readable and none of the last resort
abbrev pub IsUnreadableOrdinary : Signature → List ℕ → AxiomDeclaration → Type 0
IsUnreadableOrdinary sig f a = (is_last_resort a ≡ false) × IsUnreadable sig f a

abbrev pub is_ordinary : AxiomDeclaration → Bool
is_ordinary a = not (is_last_resort a)

-- the mark with this number is set
abbrev pub is_marked : List Bool → ℕ → Bool
is_marked marks n = slice_index_or marks n false

-- the sort of a rule; None if there are no rules
abbrev pub IsFirstSort : Signature → List AxiomDeclaration → Option SortTree → Type 0
IsFirstSort sig axioms None =
    (a : AxiomDeclaration) → Contains axioms a → (w : Rewriting) → axiom_class sig a ≡ rewrites w
    → ⊥
IsFirstSort sig axioms (Some s) =
    (a : AxiomDeclaration) × Contains axioms a
    × ((w : Rewriting) × (axiom_class sig a ≡ rewrites w) × (w.sort ≡ s))
    × ((n : ℕ) × (sort_number sig.sorts s ≡ Some n))

-- what is read of these axioms
pub record HaveRead (sig : Signature) (axioms : List AxiomDeclaration) (read : Readings) :
    Type 0 where
  pub rules : AreRead (MeansRule sig) (λ (r : RewriteRule). r.place) axioms
      (map rewrite_rule read.rules.items)
  pub equations : AreRead (IsNumberedEquation sig) (λ (e : ℕ × plain.Equation). e.1.place) axioms
      (map numbered_equation read.equations.items)
  pub named_rules : AreOf (MeansNamedRule sig) axioms read.rules.items
  pub named_equations : AreOf (IsNamedOrdinary sig) axioms read.equations.items
  pub ordinary : length read.equations.items ≤ count_by is_ordinary axioms
  pub marked : length read.unreadable.items ≡ length sig.symbols
  pub unreadable : (n : ℕ) → IsTrue (is_marked read.unreadable.items n)
      ↔ HasStated sig (IsUnreadableOrdinary sig) axioms n

-- no place occurs twice
abbrev pub AreApart : List (ℕ × ℕ) → Type 0
AreApart keys = (at : ℕ) → count_by (λ (k : ℕ × ℕ). k.1 == at) keys ≤ 1

-- there are at most 2^32 axioms, and no two are at the same place
pub record AreFew (axioms : List AxiomDeclaration) : Type 0 where
  pub short : length axioms ≤ 2 ^ 32
  pub apart : (at : ℕ) → count_by (λ (a : AxiomDeclaration). a.at == at) axioms ≤ 1
