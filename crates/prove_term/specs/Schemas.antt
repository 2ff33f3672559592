-- Patterns over numbered variables and pattern variables, as they occur in sentences and lemmas
-- about symbols.
use Rattle.std.specs.Prelude.{◌≡◌, ℕ, ◌+◌, zero, suc, List, [], ◌∷◌, ◌++◌, length, Some}
use Rattle.ml_pat.specs.Patterns.{Pattern, app, fun, var, meta, constant, ex, equal}
use Rattle.rule_core.specs.declared.signature.Signature.{Signature}
use Rattle.term_core.specs.Patterns.{Patterns, no_pattern, more_patterns}
use Rattle.ml_image.specs.Counted.{at_variables}
use Rattle.ml_image.specs.Images.{image_of}
use Rattle.prove_term.specs.Numbered.{all_from}

-- the head, applied to n pattern variables numbered from k on
abbrev pub at_metas : Pattern → ℕ → ℕ → Pattern
at_metas head k zero = head
at_metas head k (suc n) = at_metas (app head (meta k)) (k + 1) n

-- the facts that each pattern variable, numbered from k on, is one element of its sort
abbrev pub meta_facts : ℕ → List ℕ → List Pattern
meta_facts k [] = []
meta_facts k (s ∷ ss) = fun (meta k) s ∷ meta_facts (k + 1) ss

-- the facts that each pattern is one element of its sort
abbrev pub facts : List Pattern → List ℕ → List Pattern
facts [] ss = []
facts (q ∷ qs) [] = []
facts (q ∷ qs) (s ∷ ss) = fun q s ∷ facts qs ss

-- the images of patterns
abbrev pub AreImages : Signature → List (List ℕ) → Patterns → List Pattern → Type 0
AreImages sig names no_pattern [] = Unit {0}
AreImages sig names no_pattern (q ∷ qs) = ⊥
AreImages sig names (more_patterns p ps) [] = ⊥
AreImages sig names (more_patterns p ps) (q ∷ qs) =
    (image_of sig names p ≡ Some q) × AreImages sig names ps qs

-- What is left of the sentence that a constructor is total, after i of its variables became pattern
-- variables. It is for all variables from i on, of the sorts in `rest`. It says that some x:n of
-- the sort equals the constructor's application.
abbrev pub totality_from : ℕ → ℕ → List ℕ → ℕ → ℕ → Pattern
totality_from head i rest n sort =
    all_from i rest
    (ex n sort (equal (var n) (at_variables (at_metas (constant head) 0 i) i (length rest))))

-- a list in reverse order
abbrev pub reversed : {A : Type 0} → List A → List A
reversed [] = []
reversed (x ∷ xs) = reversed xs ++ x ∷ []
