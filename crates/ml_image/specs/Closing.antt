-- Sentences under quantifiers: what it means to close a pattern, which sorts a constructor takes, and
-- what is said of a constructor under the quantifiers.
use Rattle.std.specs.Prelude.{◌≡◌, ℕ, List, map, Some}
use Rattle.ml_pat.specs.Patterns.{Pattern}
use Rattle.rule_core.specs.Sorting.{IsSymbol}
use Rattle.rule_core.specs.declared.signature.Signature.{Signature}
use Rattle.rule_core.specs.declared.signature.SymInfo.{SymInfo}
use Rattle.ml_image.specs.Sentences.{Sentence, symbol, not, and, implies, sentence_image, for_all}
use Rattle.ml_image.specs.Sentences.{for_some}
use Rattle.ml_image.specs.Sentences.{variables, apply_all, conjunctions}
use Rattle.ml_image.specs.OwnAxioms.{sort_numbered, of_variables}

-- if the body is the image of a sentence under the old names, then the pattern is the image of that
-- sentence, quantified over variables of these sorts, under the new names
abbrev pub Closes : Signature → List (List ℕ) → List (List ℕ) → List ℕ → Pattern → Pattern → Type 0
Closes sig old new sorts body p = (s : Sentence) → sentence_image sig old s ≡ Some body
    → sentence_image sig new (for_all 0 sorts s) ≡ Some p

-- the same with existential quantifiers, and the variables numbered from k
abbrev pub ClosesSome : Signature → List (List ℕ) → List (List ℕ) → ℕ → List ℕ → Pattern → Pattern
    → Type 0
ClosesSome sig old new k sorts body p = (s : Sentence) → sentence_image sig old s ≡ Some body
    → sentence_image sig new (for_some k sorts s) ≡ Some p

-- the symbol is declared with arguments of these sorts
pub record TakesSorts (sig : Signature) (f : ℕ) (sorts : List ℕ) : Type 0 where
  pub info : SymInfo
  pub there : IsSymbol sig f info
  pub takes : info.args.items ≡ map sort_numbered sorts

-- the results of f, which has n arguments, and of g, which has m arguments, differ
abbrev pub apart_body : ℕ → ℕ → ℕ → ℕ → Sentence
apart_body f n g m = not (and (of_variables f 0 n) (of_variables g n m))

-- the symbol applied to n conjunctions, of the variables 0 and n, 1 and n + 1, and so on
abbrev pub of_pairs : ℕ → ℕ → Sentence
of_pairs f n = apply_all (symbol f) (conjunctions (variables 0 n) (variables n n))

-- equal results of the symbol, which has n arguments, have equal arguments
abbrev pub free_body : ℕ → ℕ → Sentence
free_body f n = implies (and (of_variables f 0 n) (of_variables f n n)) (of_pairs f n)
