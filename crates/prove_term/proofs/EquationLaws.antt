-- The axiom of an equation.
use Rattle.std.proofs.Common.{◌≡◌, ◌<◌, ℕ, zero, suc, List, [], ◌∷◌, length, map, Some, inl, slice_get}
use Rattle.std.proofs.Common.{get_or, sym, ◌∙◌, ap, subst, arith}
use Rattle.std.specs.Prelude.{Vec, Contains, slice_index_or}
use Rattle.std.specs.Global.{Global}
use Rattle.ml_pat.specs.Patterns.{Pattern}
use Rattle.rule_core.specs.Rules.{Equation}
use Rattle.rule_core.specs.Theories.{equations_of}
use Rattle.rule_core.specs.ProgramView.{theory_of, function_equation, function_equations}
use Rattle.rule_core.specs.declared.rules.Equation.{Equation as CodeEquation}
use Rattle.rule_core.specs.declared.rules.Program.{Program}
use Rattle.ml_image.specs.OwnAxioms.{IsEquationFor, SaysEquation, of_equation}
use Rattle.ml_image.specs.Sentences.{IsImageOf}
use Rattle.ml_image.proofs.ImageLaws.{some_same}
use Rattle.prove_term.specs.Contexts.{Context, HasGrown}
use Rattle.ml_image.specs.Assumed.{IsAssumed}
use Rattle.prove_term.specs.EquationAxioms.{SaysEquationOf}
use Rattle.prove_term.proofs.ContextLaws.{image_grown}

pub equation_assumed : (old cx : Context) (f : ℕ) (e : Equation) (p : Pattern) → HasGrown old cx
    → IsEquationFor (theory_of old.program) f e → SaysEquationOf cx f e p
    → IsImageOf cx.program.sig cx.names (IsAssumed (theory_of cx.program)) p
equation_assumed old cx f e p g own (s, says, image) = (
  s,
  inl (of_equation f e
      (subst (λ (q : Program). IsEquationFor (theory_of q) f e) (sym g.program) own) says),
  image,
)

pub says_equation_grown : (a b : Context) (f : ℕ) (e : Equation) (p : Pattern) → HasGrown a b
    → SaysEquationOf a f e p → SaysEquationOf b f e p
says_equation_grown a b f e p g (s, says, image) = (
  s,
  subst (λ (q : Program). SaysEquation q.sig (equations_of (theory_of q) f) f e s) (sym g.program)
      says,
  image_grown a b s p g image,
)

pub says_equation_there : (cx : Context) (f : ℕ) (e : Equation) (n : ℕ) (p q : Pattern)
    → SaysEquationOf cx f e p → slice_get cx.axioms n ≡ Some p → slice_get cx.axioms n ≡ Some q
    → SaysEquationOf cx f e q
says_equation_there cx f e n p q says there other =
    subst (SaysEquationOf cx f e) (some_same p q (sym there ∙ other)) says

-- ---- the equations of a function, in the code

-- a function with an equation is one of those whose equations the program lists
pub function_listed : (program : Program) (f : ℕ) (e : Equation)
    → IsEquationFor (theory_of program) f e → f < length program.equations.items
function_listed program f e own = go program.equations.items f own.listed
  where
    go : (lists : List (Vec CodeEquation Global)) (f : ℕ)
        → Contains (slice_index_or (function_equations lists) f []) e → f < length lists
    go [] f h = absurd (omega (arith, h.1))
    go (es ∷ lists) zero h = omega arith
    go (es ∷ lists) (suc f) h = omega (arith, go lists f h)

-- the equations in the place of a function are the function's
pub equations_found : (program : Program) (f : ℕ) (es : Vec CodeEquation Global)
    → f < length program.equations.items → es ≡ get_or program.equations.items f es
    → map function_equation es.items ≡ equations_of (theory_of program) f
equations_found program f es low at = go program.equations.items f es low at
  where
    go : (lists : List (Vec CodeEquation Global)) (f : ℕ) (es : Vec CodeEquation Global)
        → f < length lists → es ≡ get_or lists f es
        → map function_equation es.items ≡ slice_index_or (function_equations lists) f []
    go [] f es low at = absurd (omega (arith, low))
    go (v ∷ lists) zero es low at =
        ap (λ (v : Vec CodeEquation Global). map function_equation v.items) at
    go (v ∷ lists) (suc f) es low at = go lists f es (omega (arith, low)) at
