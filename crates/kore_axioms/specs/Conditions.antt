-- Conditions that test a pattern of a sort of truth values.
use Rattle.std.specs.Prelude.{Bool, true, false, if◌then◌else◌, Option, Some, None}
use Rattle.std.specs.Option.{option_and_then}
use Rattle.kore_text.specs.Trees.{SortTree, PatternTree}
use Rattle.rule_core.specs.declared.signature.Signature.{Signature}
use Rattle.rule_core.specs.declared.signature.SortKind.{SortKind}
use Rattle.rule_core.specs.declared.signature.SortKind.TheVariants as kind
use Rattle.kore_sig.specs.SortReferences.{sort_number}
use Rattle.kore_check.specs.PatternSorts.{sort_kind}
use Rattle.kore_shapes.specs.Shapes.{Condition, tests, ill}

abbrev pub is_bool_kind : SortKind → Bool
is_bool_kind kind.Bool = true
is_bool_kind _ = false

abbrev pub is_some_bool : Option SortKind → Bool
is_some_bool None = false
is_some_bool (Some kind) = is_bool_kind kind

-- the sort is a declared sort of truth values
abbrev pub is_bool : Signature → SortTree → Bool
is_bool sig s = is_some_bool (option_and_then (sort_kind sig) (sort_number sig.sorts s))

-- the condition; it is ill if the pattern that it tests is not of a sort of truth values
abbrev pub over_bool : Signature → Condition → Condition
over_bool sig (tests t b) = if is_bool sig t then tests t b else ill
over_bool sig c = c

-- the pattern that a condition tests, if it tests one
abbrev pub tested_pattern : Condition → Option PatternTree
tested_pattern (tests t b) = Some b
tested_pattern _ = None

abbrev pub is_ill : Condition → Bool
is_ill ill = true
is_ill _ = false
