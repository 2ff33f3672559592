-- Equations of the last resort (K framework, attribute `owise`). Such an equation is used if none
-- of its guards holds. A guard says that there are values of the variables of another equation of
-- the function at which the condition of that equation is true and its arguments match.
use Rattle.std.specs.Prelude.{ℕ, ◌+◌, if◌then◌else◌, nat_eq, List, [], ◌∷◌, length, map, slice_get}
use Rattle.std.specs.Prelude.{slice_index_or, Option, Some, None, option_map}
use Rattle.term_core.specs.Patterns.{Pattern}
use Rattle.rule_core.specs.Rules.{Equation, Guard}
use Rattle.rule_core.specs.declared.signature.Signature.{Signature}
use Rattle.ml_image.specs.Images.{both, renamed, all_renamed}
use Rattle.ml_image.specs.Sentences.{Sentence, term, symbol, top, bottom, not, and, or, implies}
use Rattle.ml_image.specs.Sentences.{equals, for_all, for_some, variables, apply_all}
use Rattle.ml_image.specs.Premises.{sort_of, is_true, meets, renamed_name}

-- the number of a variable, if the listed ones are numbered from k and all others are 0
abbrev pub number_from : ℕ → List ℕ → ℕ → ℕ
number_from k [] x = 0
number_from k (y ∷ ys) x = if nat_eq x y then k else number_from (k + 1) ys x

-- the sorts of the listed variables, in their order
abbrev pub sorts_at : List ℕ → List ℕ → List ℕ
sorts_at sorts xs = map (λ (x : ℕ). slice_index_or sorts x 0) xs

-- the sentence of a condition over variables of these sorts, with each variable x as the variable g
-- x
abbrev pub condition_renamed : Signature → (ℕ → ℕ) → List ℕ → Option Pattern → Option Sentence
condition_renamed sig g sorts None = Some top
condition_renamed sig g sorts (Some p) = option_map (is_true (renamed g p)) (sort_of sig sorts p)

-- the condition of the equation is true and each parameter is in its argument, with each variable x
-- of the equation as the variable g x
abbrev pub premise : Signature → (ℕ → ℕ) → Equation → Option Sentence
premise sig g e =
    option_map (λ (c : Sentence).
    and c (meets (map (renamed_name g) e.names) 0 (all_renamed g e.arguments)))
    (condition_renamed sig g e.variables e.condition)

-- The sentence of a guard that repeats this equation: its premise holds for some values of its
-- variables. These are numbered from k, in the order in which the guard lists them.
abbrev pub guard_sentence : Signature → ℕ → List ℕ → Option Equation → Option Sentence
guard_sentence sig k order None = None
guard_sentence sig k order (Some e) =
    option_map (for_some k (sorts_at e.variables order)) (premise sig (number_from k order) e)

-- one of the guards holds; their variables are numbered from k, and on from guard to guard
abbrev pub guards_sentence : Signature → List Equation → ℕ → List Guard → Option Sentence
guards_sentence sig equations k [] = Some bottom
guards_sentence sig equations k (g ∷ gs) =
    both or (guard_sentence sig k g.order (slice_get equations g.equation))
    (guards_sentence sig equations (k + length g.order) gs)

-- The sentence of an equation of the last resort with n parameters: if no guard holds, the
-- condition holds and each parameter is in its argument, the function applied to the parameters
-- equals the right side.
abbrev pub last_resort_sentence : ℕ → ℕ → Equation → Sentence → Sentence → Sentence
last_resort_sentence f n e guards c =
    for_all 0 e.variables
    (implies (and (not guards) (and c (meets e.names 0 e.arguments)))
    (equals (apply_all (symbol f) (variables 0 n)) (term e.right)))
