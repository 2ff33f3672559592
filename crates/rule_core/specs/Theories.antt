-- What a definition means: a signature, rewrite rules, and the equations of its functions.
use Rattle.std.specs.Prelude.{ℕ, List, [], slice_index_or}
use Rattle.rule_core.specs.Rules.{RewriteRule, Equation}
use Rattle.rule_core.specs.declared.signature.Signature.{Signature}

-- Rules are listed in the order in which they are tried. The same holds for the equations of each
-- symbol, which are indexed by its number.
pub record RewriteTheory : Type 0 where
  pub sig : Signature
  pub rules : List RewriteRule
  pub equations : List (List Equation)

abbrev pub equations_of : RewriteTheory → ℕ → List Equation
equations_of theory f = slice_index_or theory.equations f []
