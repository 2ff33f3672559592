-- What an axiom about a domain value says.
use Rattle.std.specs.Prelude.{◌≡◌, ℕ, Some, List, slice_get}
use Rattle.ml_pat.specs.Patterns.{Pattern, fun, constant}
use Rattle.term_core.specs.Terms.{DomainValue}
use Rattle.rule_core.specs.declared.signature.Signature.{Signature}
use Rattle.ml_image.specs.Tokens.{token_of_value, number_in_names}
use Rattle.ml_image.specs.Images.{sort_image}
use Rattle.prove_term.specs.Contexts.{Context}

-- the pattern says that the constant of the value is one element of the sort
pub record IsValueFact (sig : Signature) (names : List (List ℕ)) (s : ℕ) (v : DomainValue)
    (p : Pattern) : Type 0 where
  pub token : ℕ
  pub is_token : number_in_names names (token_of_value sig s v) ≡ Some token
  pub sort : ℕ
  pub is_sort : sort_image sig names s ≡ Some sort
  pub says : p ≡ fun (constant token) sort

abbrev pub SaysValueOf : Context → ℕ → DomainValue → Pattern → Type 0
SaysValueOf cx s v p = IsValueFact cx.program.sig cx.names s v p

-- the axiom with number n says that the constant c is one element of the sort with number s
abbrev pub IsValueAxiom : Context → ℕ → ℕ → ℕ → Type 0
IsValueAxiom cx c s n = slice_get cx.axioms n ≡ Some (fun (constant c) s)
