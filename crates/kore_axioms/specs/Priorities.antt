-- The priority of a rule or an equation (K framework, attribute `priority`). The rule with the
-- smaller number is tried first.
use Rattle.std.specs.Prelude.{ℕ, List, Bool, ◌&&◌, length, Option, Some, None, if◌then◌else◌, codes}
use Rattle.std.specs.Prelude.{nat_le, is_some, is_none}
use Rattle.kore_text.specs.Trees.{PatternTree}
use Rattle.kore_sig.specs.Attributes.{has_attribute, first_of_name, attribute_text}
use Rattle.kore_check.specs.ValueTexts.{number_of_digits}

-- the number of a text of one to nine digits; none for any other text
abbrev pub short_number : Option (List ℕ) → Option ℕ
short_number None = None
short_number (Some text) = if nat_le (length text) 9 then number_of_digits text else None

-- the number of an attribute whose only argument is a text of one to nine digits
abbrev pub stated_number : Option PatternTree → Option ℕ
stated_number None = None
stated_number (Some attribute) = short_number (attribute_text attribute)

-- the attribute that states a priority; if there are several, the first one
abbrev pub stated_priority : List PatternTree → Option PatternTree
stated_priority attributes = first_of_name (codes "priority") attributes

-- the attributes state a priority, but not by one text of one to nine digits
abbrev pub has_bad_priority : List PatternTree → Bool
has_bad_priority attributes =
    is_some (stated_priority attributes) && is_none (stated_number (stated_priority attributes))

-- the stated number; if none is stated, 200 for a last resort (`owise`) and 50 for any other rule
abbrev pub number_or : Option ℕ → Bool → ℕ
number_or None owise = if owise then 200 else 50
number_or (Some n) owise = n

abbrev pub priority_of : List PatternTree → ℕ
priority_of attributes =
    number_or (stated_number (stated_priority attributes))
    (has_attribute (codes "owise") attributes)
