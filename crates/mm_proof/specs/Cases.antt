-- Small patterns, with their tokens and proofs.
use Rattle.std.specs.Prelude.{◌≡◌, ◌==◌, if◌then◌else◌, [], ◌∷◌, codes}
use Rattle.mm_database.specs.Proofs.{postorder}
use Rattle.ml_pat.specs.Patterns.{bot, imp, app, all, ex, fun, equal, next, var, constant}
use Rattle.ml_kernel.specs.Rules.{pattern, variable, sort}
use Rattle.ml_kernel.specs.Theorems.{by_rule, own_axiom, no_derivation, more_derivations}
use Rattle.ml_kernel.specs.declared.rules.Rule.TheVariants as rule
use Rattle.mm_proof.specs.Tokens.{Naming, pattern_tokens, object_token}
use Rattle.mm_proof.specs.Trees.{cite, syntax_tree, fresh_tree, substitution_tree, predicate_tree}
use Rattle.mm_proof.specs.Trees.{rule_tree}
use Rattle.mm_proof.specs.Derivations.{Citing, derivation_tree}

-- short labels: the sort is S, the constants are a and b, and the variables x and y
abbrev short : Naming
short = record {
  sort = λ i. codes "S";
  constant = λ i. if i == 0 then codes "a" else codes "b";
  object = λ i. if i == 0 then codes "x" else codes "y";
  meta = λ i. codes "m";
}

-- the only axiom is A, and there is no hypothesis and no lemma
abbrev one_axiom : Citing
one_axiom = record {
  premise = λ p. cite (codes "H") [];
  fact = λ p new. cite (codes "A") [];
  lemma = λ own q ms trees. cite (codes "L") trees;
}

pub record TriedCases : Type 0 where
  pub application : pattern_tokens (codes "f:f" ∷ codes "f:a" ∷ []) (app (constant 0) (constant 1))
      ≡ codes "(" ∷ codes "\\app" ∷ codes "f:f" ∷ codes "f:a" ∷ codes ")" ∷ []
  pub universal : pattern_tokens (codes "s:S" ∷ []) (all 0 0 (fun (var 0) 0))
      ≡ codes "(" ∷ codes "\\all" ∷ object_token 0 ∷ codes "s:S" ∷ codes "(" ∷ codes "\\fun"
      ∷ object_token 0 ∷ codes "s:S" ∷ codes ")" ∷ codes ")" ∷ []
  pub syntax : postorder (syntax_tree short (imp (constant 0) bot))
      ≡ codes "a" ∷ codes "w.bot" ∷ codes "w.imp" ∷ []
  pub bound :
      postorder (fresh_tree short 0 (ex 0 0 (constant 0)))
      ≡ codes "a" ∷ codes "x" ∷ codes "S" ∷ codes "fr.exb" ∷ []
  pub absent :
      postorder (fresh_tree short 0 (ex 1 0 (constant 0))) ≡
      codes "a" ∷ codes "y" ∷ codes "S" ∷ codes "w.ex" ∷ codes "x" ∷ codes "fr.d" ∷ []
  pub partly_absent :
      postorder (fresh_tree short 0 (app (app (constant 0) (constant 1)) (ex 0 0 (constant 0)))) ≡
      codes "a" ∷ codes "b" ∷ codes "w.app" ∷ codes "a" ∷ codes "x" ∷ codes "S" ∷ codes "w.ex"
      ∷ codes "x" ∷
      codes "a" ∷ codes "b" ∷ codes "w.app" ∷ codes "x" ∷ codes "fr.d" ∷
      codes "a" ∷ codes "x" ∷ codes "S" ∷ codes "fr.exb" ∷ codes "fr.app" ∷ []
  pub replaced :
      postorder (substitution_tree short 0 (constant 0) (var 0) (constant 0)) ≡
      codes "a" ∷ codes "x" ∷ codes "su.v" ∷ []
  pub kept :
      postorder (substitution_tree short 0 (constant 0) (next (constant 1)) (next (constant 1))) ≡
      codes "b" ∷ codes "w.next" ∷ codes "a" ∷ codes "x" ∷ codes "b" ∷ codes "w.next" ∷ codes "x"
      ∷ codes "fr.d" ∷
      codes "su.f" ∷ []
  pub equality : postorder (predicate_tree short (equal (constant 0) (constant 1)))
      ≡ codes "a" ∷ codes "b" ∷ codes "pr.eq" ∷ []
  pub schema : postorder (rule_tree short rule.Ev1 (pattern (constant 0) ∷ []) [])
      ≡ codes "a" ∷ codes "ev.1" ∷ []
  pub instantiated : postorder (rule_tree short rule.Inst
      (pattern (var 0) ∷ pattern (constant 0) ∷ pattern (constant 0) ∷ variable 0 ∷ sort 0 ∷ [])
      [])
      ≡ codes "x" ∷ codes "w.var" ∷ codes "a" ∷ codes "a" ∷ codes "x" ∷ codes "S" ∷ codes "a"
      ∷ codes "x" ∷ codes "su.v" ∷ codes "inst" ∷ []
  pub step : postorder (derivation_tree short one_axiom (by_rule rule.NextIn
      (pattern (constant 0) ∷ pattern (constant 1) ∷ [])
      (more_derivations (own_axiom 0 (imp (constant 0) (constant 1)) []) no_derivation)))
      ≡ codes "a" ∷ codes "b" ∷ codes "A" ∷ codes "next.in" ∷ []
