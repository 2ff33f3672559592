-- What a lemma on a constructor says.
use Rattle.std.specs.Prelude.{◌≡◌, ◌<◌, ◌^◌, ℕ, Some, List, length, slice_get}
use Rattle.ml_pat.specs.Patterns.{Pattern, fun, constant}
use Rattle.ml_kernel.specs.Theorems.{Theorem}
use Rattle.rule_core.specs.Sorting.{IsSymbol}
use Rattle.rule_core.specs.declared.signature.Signature.{Signature}
use Rattle.rule_core.specs.declared.signature.SymInfo.{SymInfo}
use Rattle.prove_term.specs.Contexts.{Context}
use Rattle.prove_term.specs.Schemas.{totality_from, at_metas, meta_facts, reversed}
use Rattle.prove_term.specs.Numbered.{IsNumbered}

-- for all arguments, a constructor with these numbers makes one element of its sort
abbrev pub totality : ℕ → List ℕ → ℕ → Pattern
totality head numbers number = totality_from head 0 numbers (length numbers) number

-- the pattern says that the constructor is total
pub record SaysTotality (cx : Context) (f : ℕ) (p : Pattern) : Type 0 where
  pub numbered : IsNumbered cx.program.sig cx.names f
  pub few : length numbered.numbers.numbers < 2 ^ 31
  pub says : p ≡ totality numbered.numbers.head numbered.numbers.numbers numbered.numbers.number

-- The theorem is about a constructor with these numbers, applied to pattern variables. It assumes
-- that each variable is one element of its sort. It says that the application is one element of the
-- constructor's sort.
pub record IsTotalLemma (head : ℕ) (numbers : List ℕ) (number : ℕ) (t : Theorem) : Type 0 where
  pub hypotheses : t.hypotheses ≡ reversed (meta_facts 0 numbers)
  pub conclusion : t.conclusion ≡ fun (at_metas (constant head) 0 (length numbers)) number

-- the lemma at this place says that of the constructor
pub record IsConstructorAt (cx : Context) (f k : ℕ) : Type 0 where
  pub numbered : IsNumbered cx.program.sig cx.names f
  pub lemma : Theorem
  pub there : slice_get cx.lemmas k ≡ Some lemma
  pub says : IsTotalLemma numbered.numbers.head numbered.numbers.numbers numbered.numbers.number
      lemma

-- the symbol has n arguments
abbrev pub HasArity : Signature → ℕ → ℕ → Type 0
HasArity sig f n = (info : SymInfo) → IsSymbol sig f info → n ≡ length info.args.items
