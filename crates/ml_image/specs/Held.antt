-- What an equation with parameters requires, as the code builds it.
use Rattle.std.specs.Prelude.{ℕ, ◌+◌, List, length, Option, Some, None, option_map}
use Rattle.rule_core.specs.Rules.{Equation, Guard}
use Rattle.rule_core.specs.declared.signature.Signature.{Signature}
use Rattle.ml_image.specs.Images.{both}
use Rattle.ml_image.specs.Sentences.{Sentence, not, and}
use Rattle.ml_image.specs.LastResorts.{premise, guards_sentence}

-- no guard holds, if there are guards; their variables are numbered from k
abbrev pub without_guards : Signature → List Equation → ℕ → Option (List Guard) → Option Sentence
    → Option Sentence
without_guards sig equations k None s = s
without_guards sig equations k (Some guards) s =
    both and (option_map not (guards_sentence sig equations k guards)) s

-- the premise of the equation, and that no guard holds
abbrev pub held : Signature → List Equation → Equation → Option Sentence
held sig equations e =
    without_guards sig equations (e.parameters + length e.variables) e.last_resort
    (premise sig (λ x. e.parameters + x) e)
