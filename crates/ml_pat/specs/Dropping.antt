-- What is still to be dropped while a pattern is dropped.
use Rattle.std.specs.Prelude.{ℕ, ◌+◌, ◌*◌, ◌≤◌, Option, Some, None}
use Rattle.ml_pat.specs.FormsIn.{forms_in}
use Rattle.ml_pat.specs.Patterns.{Pattern, unary, binary}
use Rattle.ml_pat.specs.declared.patterns.Taken.{Taken}
use Rattle.ml_pat.specs.declared.patterns.Taken.TheVariants.{Two, One, Nothing}

-- the forms in a list of links
abbrev pub later_forms : Option Pattern → ℕ
later_forms None = 0
later_forms (Some link) = forms_in link

-- the parts in a list of links: twice their forms, and one for each link
abbrev pub weight_of : Pattern → ℕ
weight_of (binary c p rest) = 2 * forms_in p + weight_of rest + 1
weight_of (unary c p) = 2 * forms_in p + 1
weight_of p = 0

abbrev pub later_weight : Option Pattern → ℕ
later_weight None = 0
later_weight (Some link) = weight_of link

-- what is left to drop when this was taken out of a node, which now is this pattern
abbrev pub weight_left : Pattern → Taken → ℕ
weight_left node (Two first) = 2 * forms_in first + weight_of node
weight_left node (One part later) = 2 * forms_in part + later_weight later
weight_left node (Nothing later) = later_weight later

-- the same in forms, with the node that became no link
abbrev pub forms_left : Pattern → Taken → ℕ
forms_left node (Two first) = forms_in first + forms_in node
forms_left node (One part later) = forms_in part + later_forms later + 1
forms_left node (Nothing later) = later_forms later + 1

-- a node that became no link has not grown
abbrev pub StaysSmall : Pattern → Pattern → Taken → Type 0
StaysSmall old new (Two first) = Unit {0}
StaysSmall old new (One part later) = forms_in new ≤ forms_in old
StaysSmall old new (Nothing later) = forms_in new ≤ forms_in old
