-- Names that are added to a substitution.
use Rattle.std.proofs.Common.{◌≡◌, ◌≤◌, ℕ, List, length, Option, Some, refl, sym}
use Rattle.std.proofs.Common.{subst, slice_get, arith}
use Rattle.std.specs.Prelude.{IsSome, IsSomeAnd}
use Rattle.std.proofs.lemmas.Option.{slice_get_within}
use Rattle.term_core.specs.Terms.{Tree, Forest, heights}
use Rattle.term_core.specs.Patterns.{Pattern, Patterns, instances_of}
use Rattle.term_core.specs.PatternLists.{AllFitWithin}
use Rattle.rule_core.specs.Rules.{Equation}
use Rattle.rule_core.specs.Theories.{RewriteTheory, equations_of}
use Rattle.rule_core.specs.NamedParts.{Name}
use Rattle.rule_core.specs.Naming.{AreNamesOf}
use Rattle.rule_core.specs.WellSorted.{HaveNames, IsEquationOf, IsWellSorted}
use Rattle.rule_core.specs.declared.signature.Signature.{Signature}
use Rattle.rule_core.proofs.FirstApplies.{all_at}
use Rattle.fun_eval.specs.Equations.{IsDefined}

-- an equation of the function is well-sorted
pub is_equation : (theory : RewriteTheory) (f : ℕ) (ts : Forest) (i : ℕ) (e : Equation)
    → IsWellSorted theory → (is : IsDefined theory f ts)
    → slice_get (equations_of theory f) i ≡ Some e → IsEquationOf theory.sig is.info e
is_equation theory f ts i e good is there =
    all_at (IsEquationOf theory.sig is.info) (equations_of theory f) i e
    (good.equations f is.info is.there) there

-- patterns that become terms fit where the terms do
pub all_fit : (n : ℕ) (theta : List (Option Tree)) (ps : Patterns) (ts : Forest)
    → instances_of theta ps ≡ Some ts → heights ts ≤ n → AllFitWithin n theta ps
all_fit n theta ps ts makes low =
    subst (λ (o : Option Forest). IsSomeAnd o (λ (us : Forest). heights us ≤ n)) (sym makes) low

-- names of parts that have sorts are names of parts that are there
pub are_names_of : (sig : Signature) (variables : List ℕ) (ps : Patterns) (names : List Name)
    (count : ℕ) → HaveNames sig variables ps names → count ≡ length variables
    → AreNamesOf ps count names
are_names_of sig variables ps names count have room = record {
  different = have.different;
  within =
      λ k d lt. let n = have.sorted k d lt in
      omega (arith, room, slice_get_within variables _ n.1 n.4);
  elsewhere = have.elsewhere;
  there =
      λ k d lt. let n = have.sorted k d lt in
      subst (λ (o : Option Pattern). IsSome o) (sym n.2) refl;
}
