-- What patterns mean with more variables.
use Rattle.std.proofs.Common.{◌≡◌, ◌<◌, ◌≤◌, ℕ, ◌+◌, List, [], ◌∷◌, ◌++◌, length, map, drop, get_or}
use Rattle.std.proofs.Common.{append_assoc, ap, sym, ◌∙◌, subst}
use Rattle.std.proofs.lemmas.List.{append-nil, drop_all}
use Rattle.kore_text.specs.Trees.{PatternTree}
use Rattle.term_core.specs.Patterns.{Pattern, no_pattern}
use Rattle.term_core.specs.Instances.{patterns}
use Rattle.rule_core.specs.declared.signature.Signature.{Signature}
use Rattle.kore_sig.specs.SortReferences.{sort_number}
use Rattle.kore_check.specs.Building.{Extends}
use Rattle.kore_check.specs.Folds.{Unfolded, Unfoldeds, no_more, and_more, named_variable}
use Rattle.kore_check.specs.Folds.{written_value, applied_symbol, both_of, other_form, unfolded}
use Rattle.kore_check.specs.PatternMeanings.{Means, by_variable, by_value, by_symbol, by_name}
use Rattle.kore_check.specs.PatternMeanings.{AllMean}
use Rattle.kore_check.specs.PatternMeanings.{none_mean, more_mean, with_variables}
use Rattle.kore_check.specs.PatternMeanings.{with_all_variables}
use Rattle.kore_check.proofs.BuildLaws.{number-kept, extends-refl, extends-trans}
use Rattle.kore_check.proofs.Items.{drop-item}
use Rattle.kore_check.proofs.VariableLaws.{with_variable-extends}
use Rattle.rule_core.specs.NamedParts.{Name}
use Rattle.kore_check.specs.PartNames.{names_in, names_in_all}
use Rattle.kore_equations.specs.ReadableSides.{all_read}
use Rattle.kore_equations.specs.BuiltEquations.{IsFine, AreFine}

mutual
  pub means_more : (sig : Signature) (vars more : List (List ℕ × ℕ)) {u : Unfolded} {p : Pattern}
      → Extends vars more → Means sig vars u p → Means sig more u p
  means_more sig vars more ext (by_variable {x = x} {s = s} {name = name} a b) =
      by_variable a (number-kept vars more name s x ext b)
  means_more sig vars more ext (by_value a b) = by_value a b
  means_more sig vars more ext (by_symbol a b all d) =
      by_symbol a b (all_mean_more sig vars more ext all) d
  means_more sig vars more ext (by_name first second part) =
      by_name (means_more sig vars more ext first) (means_more sig vars more ext second) part

  all_mean_more : (sig : Signature) (vars more : List (List ℕ × ℕ)) {us : Unfoldeds} {ps : _}
      → Extends vars more → AllMean sig vars us ps → AllMean sig more us ps
  all_mean_more sig vars more ext none_mean = none_mean
  all_mean_more sig vars more ext (more_mean first rest) =
      more_mean (means_more sig vars more ext first) (all_mean_more sig vars more ext rest)

mutual
  pub variables_extend : (sig : Signature) (vars : List (List ℕ × ℕ)) (u : Unfolded)
      → Extends vars (with_variables sig vars u)
  variables_extend sig vars (named_variable at name s) =
      with_variable-extends vars name (sort_number sig.sorts s)
  variables_extend sig vars (written_value at s text byte) = extends-refl vars
  variables_extend sig vars (applied_symbol at byte name ss us) = all_variables_extend sig vars us
  variables_extend sig vars (both_of at s p q) =
      extends-trans vars (with_variables sig vars p)
      (with_variables sig (with_variables sig vars p) q) (variables_extend sig vars p)
      (variables_extend sig (with_variables sig vars p) q)
  variables_extend sig vars (other_form at) = extends-refl vars

  pub all_variables_extend : (sig : Signature) (vars : List (List ℕ × ℕ)) (us : Unfoldeds)
      → Extends vars (with_all_variables sig vars us)
  all_variables_extend sig vars no_more = extends-refl vars
  all_variables_extend sig vars (and_more u us) =
      extends-trans vars (with_variables sig vars u)
      (with_all_variables sig (with_variables sig vars u) us) (variables_extend sig vars u)
      (all_variables_extend sig (with_variables sig vars u) us)

-- ---- one turn of a loop over patterns

pub first_fine : {X : Type 0} (f : X → PatternTree) (sig : Signature) (xs : List X) (i : ℕ) (x : X)
    → i < length xs → x ≡ get_or xs i x → AreFine sig (all_read (map f (drop i xs)))
    → IsFine sig (unfolded (f x)) × AreFine sig (all_read (map f (drop (i + 1) xs)))
first_fine f sig xs i x lt item fine =
    subst (λ (ys : List _). AreFine sig (all_read (map f ys))) (drop-item xs i x lt item) fine

pub next_variables : {X : Type 0} (f : X → PatternTree) (sig : Signature) (xs : List X) (i : ℕ)
    (x : X) (old new whole : List (List ℕ × ℕ)) → i < length xs → x ≡ get_or xs i x
    → new ≡ with_variables sig old (unfolded (f x))
    → with_all_variables sig old (all_read (map f (drop i xs))) ≡ whole
    → with_all_variables sig new (all_read (map f (drop (i + 1) xs))) ≡ whole
next_variables f sig xs i x old new whole lt item is known =
    ap (λ (vs : List (List ℕ × ℕ)). with_all_variables sig vs (all_read (map f (drop (i + 1) xs))))
    is
    ∙ ap (λ (ys : List _). with_all_variables sig old (all_read (map f ys)))
    (sym (drop-item xs i x lt item)) ∙ known

-- the patterns that were built mean the patterns so far, with any meaning of the others
abbrev pub MeanBefore : {X : Type 0} → (X → PatternTree) → Signature → List (List ℕ × ℕ) → List X
    → ℕ → List Pattern → Type 0
MeanBefore f sig vars xs i made =
    (more : List (List ℕ × ℕ)) (qs : List Pattern) → Extends vars more
    → AllMean sig more (all_read (map f (drop i xs))) (patterns qs)
    → AllMean sig more (all_read (map f xs)) (patterns (made ++ qs))

pub next_meaning : {X : Type 0} (f : X → PatternTree) (sig : Signature) (xs : List X) (i : ℕ)
    (x : X) (old new : List (List ℕ × ℕ)) (made : List Pattern) (p : Pattern) → i < length xs
    → x ≡ get_or xs i x → new ≡ with_variables sig old (unfolded (f x))
    → Means sig new (unfolded (f x)) p → MeanBefore f sig old xs i made
    → MeanBefore f sig new xs (i + 1) (made ++ p ∷ [])
next_meaning f sig xs i x old new made p lt item is means before = λ more qs ext rest.
    let grown : AllMean sig more (all_read (map f (drop i xs))) (patterns (p ∷ qs)) =
    subst (λ (ys : List _). AllMean sig more (all_read (map f ys)) (patterns (p ∷ qs)))
    (sym (drop-item xs i x lt item)) (more_mean (means_more sig new more ext means) rest) in
    let ext2 : Extends old new =
    subst (λ (vs : List (List ℕ × ℕ)). Extends old vs) (sym is)
    (variables_extend sig old (unfolded (f x))) in
    subst (λ (ps : List Pattern). AllMean sig more (all_read (map f xs)) (patterns ps))
    (sym (append_assoc made (p ∷ []) qs))
    (before more (p ∷ qs) (extends-trans old new more ext2 ext) grown)

pub last_meaning : {X : Type 0} (f : X → PatternTree) (sig : Signature) (xs : List X) (i : ℕ)
    (vars : List (List ℕ × ℕ)) (made : List Pattern) → length xs ≤ i
    → MeanBefore f sig vars xs i made → AllMean sig vars (all_read (map f xs)) (patterns made)
last_meaning f sig xs i vars made le before =
    subst (λ (ps : List Pattern). AllMean sig vars (all_read (map f xs)) (patterns ps))
    (append-nil made)
    (before vars [] (extends-refl vars) (subst
    (λ (ys : List _). AllMean sig vars (all_read (map f ys)) no_pattern)
    (sym (drop_all i xs le)) none_mean))

-- the names of one more pattern
pub next_names : {X : Type 0} (f : X → PatternTree) (sig : Signature) (vars : List (List ℕ × ℕ))
    (xs : List X) (i : ℕ) (x : X) (before after whole : List Name) → i < length xs
    → x ≡ get_or xs i x → after ≡ before ++ names_in sig vars (i ∷ []) (unfolded (f x))
    → before ++ names_in_all sig vars [] i (all_read (map f (drop i xs))) ≡ whole
    → after ++ names_in_all sig vars [] (i + 1) (all_read (map f (drop (i + 1) xs))) ≡ whole
next_names f sig vars xs i x before after whole lt item made known =
    let rest : List Name =
    names_in_all sig vars [] (i + 1) (all_read (map f (drop (i + 1) xs))) in
    ap (λ (ns : List Name). ns ++ rest) made
    ∙ append_assoc before (names_in sig vars (i ∷ []) (unfolded (f x))) rest
    ∙ ap (λ (ys : List _). before ++ names_in_all sig vars [] i (all_read (map f ys)))
    (sym (drop-item xs i x lt item)) ∙ known

pub last_names : {X : Type 0} (f : X → PatternTree) (sig : Signature) (vars : List (List ℕ × ℕ))
    (xs : List X) (i : ℕ) (names whole : List Name) → length xs ≤ i
    → names ++ names_in_all sig vars [] i (all_read (map f (drop i xs))) ≡ whole → names ≡ whole
last_names f sig vars xs i names whole le known =
    sym (append-nil names)
    ∙ ap (λ (ys : List _). names ++ names_in_all sig vars [] i (all_read (map f ys)))
    (sym (drop_all i xs le)) ∙ known
