-- All the faults of a pattern. `IsFirstOf` says which of them is the first.
use Rattle.std.specs.Prelude.{◌==◌, ◌&&◌, not, ℕ, Bool, false, List, [], ◌∷◌, ◌++◌, length, drop}
use Rattle.std.specs.Prelude.{Option, Some, None, is_some, flat_map, nat_lt}
use Rattle.std.specs.Option.{option_and_then}
use Rattle.kore_text.specs.Trees.{SortTree}
use Rattle.rule_core.specs.Evaluation.{most_height}
use Rattle.rule_core.specs.Subsorts.{is_below}
use Rattle.rule_core.specs.declared.signature.Signature.{Signature}
use Rattle.rule_core.specs.declared.signature.SortKind.{SortKind}
use Rattle.rule_core.specs.declared.signature.SymInfo.{SymInfo}
use Rattle.rule_core.specs.KindTests.{is_injection, has_no_kind}
use Rattle.rule_core.specs.declared.signature.SortRef.{SortRef}
use Rattle.kore_sig.specs.FirstFault.{Fault, when, unless}
use Rattle.kore_sig.specs.SortReferences.{sort_number, sort_place}
use Rattle.kore_check.specs.Folds.{Unfolded, named_variable, written_value, applied_symbol}
use Rattle.kore_check.specs.Folds.{both_of, other_form, Unfoldeds, no_more, and_more, count}
use Rattle.kore_check.specs.Folds.{unfolded_byte, unfolded_height}
use Rattle.kore_check.specs.ValueTexts.{value_of_text}
use Rattle.kore_check.specs.PatternSorts.{sort_kind, symbol_named, sort_numbers, sort_of_pattern}
use Rattle.kore_check.specs.PatternSorts.{wanted_sort, places_of}

-- 6 at the sort's name: the sort is not declared, has arguments, or is a sort parameter
abbrev pub sort_faults : Signature → SortTree → List Fault
sort_faults sig s = unless (is_some (sort_number sig.sorts s)) 6 (sort_place s)

-- 11 at the string: the text is not a value of the sort
abbrev pub text_faults : Option SortKind → List ℕ → ℕ → List Fault
text_faults None text byte = []
text_faults (Some kind) text byte = unless (is_some (value_of_text kind text)) 11 byte

-- 9: the sort is not the one that is wanted. There is no clash if one of the two is missing.
abbrev pub clash_faults : ℕ → Option ℕ → Option ℕ → List Fault
clash_faults byte None wanted = []
clash_faults byte (Some s) None = []
clash_faults byte (Some s) (Some wanted) = unless (s == wanted) 9 byte

-- the first sort of an injection is not below the second
abbrev pub is_bad_injection : Signature → Option (List ℕ) → Bool
is_bad_injection sig (Some (a ∷ (b ∷ []))) = not (is_below sig.subsorts a b)
is_bad_injection sig ns = false

-- The faults of a symbol. 7: it is not declared. 8: it has a wrong number of sort arguments or of
-- arguments. 9: it is an injection whose first sort is not below the second. 25: it has no kind.
abbrev pub symbol_faults : Signature → ℕ → Option SymInfo → List SortTree → ℕ → List Fault
symbol_faults sig byte None ss args = record { number = 7; byte = byte } ∷ []
symbol_faults sig byte (Some info) ss args =
    unless ((length ss == info.params) && (args == length info.args.items)) 8 byte
    ++ when (is_injection info.kind && is_bad_injection sig (sort_numbers sig ss)) 9 byte
    ++ when (has_no_kind info.kind) 25 byte

-- the sort that the first of these places wants
abbrev pub first_wanted : Signature → List SortTree → List SortRef → Option ℕ
first_wanted sig ss [] = None
first_wanted sig ss (of ∷ refs) = wanted_sort sig ss of

-- the faults of a pattern, except that of its height; 9 at a pattern of an `\and` whose sort is not
-- that of the `\and`
abbrev mutual
  pub pattern_faults : Signature → Unfolded → List Fault
  pattern_faults sig (named_variable at name s) = sort_faults sig s
  pattern_faults sig (written_value at s text byte) =
      sort_faults sig s
      ++ text_faults (option_and_then (sort_kind sig) (sort_number sig.sorts s)) text byte
  pattern_faults sig (applied_symbol at byte name ss ps) =
      flat_map (sort_faults sig) ss
      ++ (symbol_faults sig byte (symbol_named sig name) ss (count ps)
      ++ argument_faults sig ss (places_of (symbol_named sig name)) ps)
  pattern_faults sig (both_of at s p q) =
      sort_faults sig s
      ++ (pattern_faults sig p
      ++ (clash_faults (unfolded_byte p) (sort_of_pattern sig p) (sort_number sig.sorts s)
      ++ (pattern_faults sig q
      ++ clash_faults (unfolded_byte q) (sort_of_pattern sig q) (sort_number sig.sorts s))))
  pattern_faults sig (other_form at) = []

  -- the faults of the arguments at these places; 9 at an argument whose sort is not that of its
  -- place
  pub argument_faults : Signature → List SortTree → List SortRef → Unfoldeds → List Fault
  argument_faults sig ss refs no_more = []
  argument_faults sig ss refs (and_more p ps) =
      pattern_faults sig p
      ++ (clash_faults (unfolded_byte p) (sort_of_pattern sig p) (first_wanted sig ss refs)
      ++ argument_faults sig ss (drop 1 refs) ps)

-- all faults of a pattern: those above, and 3 at the pattern if it is higher than a value may be
abbrev pub all_faults : Signature → Unfolded → List Fault
all_faults sig p = when (nat_lt most_height (unfolded_height p)) 3 (unfolded_byte p)
    ++ pattern_faults sig p
