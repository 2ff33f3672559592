-- The equation that is made of built patterns.
use Rattle.std.proofs.Common.{◌≡◌, ℕ, List, [], ◌∷◌, map, length, Option, Some, refl, sym, ◌∙◌, ap, subst}
use Rattle.std.specs.Prelude.{Vec}
use Rattle.std.specs.Global.{Global}
use Rattle.kore_text.specs.Trees.{AxiomDeclaration}
use Rattle.rule_core.proofs.Belows.{true_both}
use Rattle.rule_core.specs.ProgramView.{sorts_of}
use Rattle.rule_core.specs.declared.rules.Guard.{Guard}
use Rattle.rule_core.specs.declared.rules.VarInfo.{VarInfo}
use Rattle.rule_core.specs.declared.signature.Signature.{Signature}
use Rattle.term_core.specs.RulePatterns.{plain_pattern}
use Rattle.term_core.specs.declared.rule_patterns.RulePat.{RulePat}
use Rattle.kore_check.specs.Folds.{unfolded}
use Rattle.kore_check.specs.PatternMeanings.{with_all_variables, Means}
use Rattle.kore_check.specs.VariableNames.{named_sorts}
use Rattle.kore_shapes.specs.Statements.{StatedEquation}
use Rattle.kore_shapes.specs.EquationForms.{EquationParts}
use Rattle.kore_axioms.specs.Priorities.{priority_of}
use Rattle.kore_equations.specs.ReadableSides.{all_read}
use Rattle.kore_equations.specs.ReadableEquations.{condition_of_equation}
use Rattle.kore_equations.specs.BuiltEquations.{AreBuiltOf, IsMeantBound}
use Rattle.kore_equations.specs.MeantEquations.{AreMeantParts, guards_at}
use Rattle.kore_equations.specs.declared.patterns.Sides.{Sides}

pub sorts_named : (vars : List VarInfo)
    → sorts_of vars ≡ map (λ (v : List ℕ × ℕ). v.1) (named_sorts vars)
sorts_named [] = refl
sorts_named (v ∷ vars) = ap (λ (ss : List ℕ). v.sort.0 ∷ ss) (sorts_named vars)

pub parts_meant : (sig : Signature) (f : ℕ) (a : AxiomDeclaration) (e : StatedEquation)
    (q : EquationParts) (guards : Option (Vec Guard Global)) (sides : Sides) (right : RulePat)
    (vars : List (List ℕ × ℕ)) (infos : Vec VarInfo Global) (n p : ℕ)
    → AreBuiltOf sig q.patterns (condition_of_equation sig e q) sides
    → IsMeantBound sig (all_read q.patterns) (unfolded q.right) vars (Some right)
    → named_sorts infos.items ≡ vars → n ≡ length q.parameters → p ≡ priority_of a.attributes
    → AreMeantParts sig f a e q (guards_at guards) (Some (record {
      at = a.at;
      fun = record { 0 = f };
      params = n;
      args = sides.args;
      named = sides.named;
      owise = guards;
      cond = sides.cond;
      right = right;
      vars = infos;
      priority = p;
    }))
parts_meant sig f a e q guards sides right vars infos n p b meant named count stated =
    let all : List (List ℕ × ℕ) = with_all_variables sig [] (all_read q.patterns) in
    let names : named_sorts infos.items ≡ all = named ∙ meant.1 in (
      true_both _ _ b.bound meant.0,
      refl,
      refl,
      record {
        variables = all;
        numbered = refl;
        parameters = count;
        means_arguments = b.means_arguments;
        names = b.names;
        means_condition = b.means_condition;
        means_right =
            subst (λ (vs : List (List ℕ × ℕ)). Means sig vs (unfolded q.right) (plain_pattern right))
            meant.1 meant.2;
        sorts =
            sorts_named infos.items ∙ ap (map (λ (v : List ℕ × ℕ). v.1)) names;
        priority = stated;
        place = refl;
      },
      names,
    )
