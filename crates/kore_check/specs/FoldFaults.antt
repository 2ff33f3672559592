-- The faults of the arguments of a fold. The faults of its symbol are noted once, elsewhere.
use Rattle.std.specs.Prelude.{ℕ, Bool, true, false, List, [], ◌++◌, Option, option_map}
use Rattle.kore_sig.specs.FirstFault.{Fault}
use Rattle.rule_core.specs.declared.signature.Signature.{Signature}
use Rattle.kore_check.specs.declared.check.FoldSorts.{FoldSorts}
use Rattle.kore_check.specs.Folds.{Unfoldeds, no_more, and_more, unfolded_byte}
use Rattle.kore_check.specs.PatternSorts.{sort_of_pattern}
use Rattle.kore_check.specs.PatternFaults.{pattern_faults, clash_faults}
use Rattle.kore_check.specs.Notes.{sort_no}

-- The clashes at an argument after the first one. The parameters are whether it is the last one,
-- whether the fold is from the left, the argument's byte and its sort, and the sorts of the fold.
abbrev pub next_faults : Bool → Bool → ℕ → Option ℕ → FoldSorts → List Fault
next_faults true left at own s = clash_faults at own (option_map sort_no s.upper)
next_faults false true at own s =
    clash_faults at own (option_map sort_no s.upper)
    ++ clash_faults s.at (option_map sort_no s.own) (option_map sort_no s.lower)
next_faults false false at own s =
    clash_faults at own (option_map sort_no s.lower)
    ++ clash_faults s.at (option_map sort_no s.own) (option_map sort_no s.upper)

abbrev pub is_none_more : Unfoldeds → Bool
is_none_more no_more = true
is_none_more (and_more p ps) = false

-- the faults of the arguments after the first one
abbrev pub rest_faults : Signature → Bool → FoldSorts → Unfoldeds → List Fault
rest_faults sig left s no_more = []
rest_faults sig left s (and_more p ps) =
    pattern_faults sig p ++ (next_faults (is_none_more ps) left (unfolded_byte p)
    (sort_of_pattern sig p) s
    ++ rest_faults sig left s ps)

-- the faults of all arguments
abbrev pub folded_faults : Signature → Bool → FoldSorts → Unfoldeds → List Fault
folded_faults sig left s no_more = []
folded_faults sig left s (and_more p ps) =
    pattern_faults sig p
    ++ (clash_faults (unfolded_byte p) (sort_of_pattern sig p) (option_map sort_no s.lower)
    ++ rest_faults sig left s ps)
