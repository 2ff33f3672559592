-- Guards of equations of the last resort at terms: what a guard says with terms in the place of the
-- parameters.
use Rattle.std.specs.Prelude.{ℕ, ◌+◌, List, [], ◌∷◌, length, map, slice_get, Option, Some, None}
use Rattle.std.specs.Prelude.{option_map}
use Rattle.term_core.specs.Terms.{Forest, no_tree, more_trees}
use Rattle.term_core.specs.Patterns.{Patterns, no_pattern, more_patterns, ground_pattern}
use Rattle.rule_core.specs.NamedParts.{Name}
use Rattle.rule_core.specs.Rules.{Equation, Guard}
use Rattle.rule_core.specs.declared.signature.Signature.{Signature}
use Rattle.ml_image.specs.Images.{both, all_renamed}
use Rattle.ml_image.specs.NamedSides.{left_sentence, of_child}
use Rattle.ml_image.specs.Premises.{renamed_name}
use Rattle.ml_image.specs.LastResorts.{number_from, sorts_at, condition_renamed}
use Rattle.ml_image.specs.Sentences.{Sentence, term, top, bottom, and, or, is_in, for_some}

-- each term is in its pattern, whose parts may have names; the first pattern is argument k
abbrev pub are_in : List Name → ℕ → Forest → Patterns → Sentence
are_in names k no_tree no_pattern = top
are_in names k no_tree (more_patterns p ps) = top
are_in names k (more_trees t ts) no_pattern = top
are_in names k (more_trees t ts) (more_patterns p ps) =
    and (is_in (term (ground_pattern t)) (left_sentence (of_child k names) p))
    (are_in names (k + 1) ts ps)

-- the condition of the equation is true and each term is in its argument, with each variable x of
-- the equation as the variable g x
abbrev pub premise_at : Signature → (ℕ → ℕ) → Equation → Forest → Option Sentence
premise_at sig g e ts =
    option_map (λ (c : Sentence).
    and c (are_in (map (renamed_name g) e.names) 0 ts (all_renamed g e.arguments)))
    (condition_renamed sig g e.variables e.condition)

-- the sentence of a guard that repeats this equation, with its variables numbered from k in this
-- order, at the terms
abbrev pub guard_at : Signature → ℕ → List ℕ → Forest → Option Equation → Option Sentence
guard_at sig k order ts None = None
guard_at sig k order ts (Some e) =
    option_map (for_some k (sorts_at e.variables order))
    (premise_at sig (number_from k order) e ts)

-- one of the guards holds at the terms; their variables are numbered from k, and on from guard to
-- guard
abbrev pub guards_at : Signature → List Equation → ℕ → List Guard → Forest → Option Sentence
guards_at sig equations k [] ts = Some bottom
guards_at sig equations k (g ∷ gs) ts =
    both or (guard_at sig k g.order ts (slice_get equations g.equation))
    (guards_at sig equations (k + length g.order) gs ts)
