-- The rule pattern that a Kore pattern means, and the pattern's variables. Variables are numbered
-- by name and sort, in the order of their first occurrence.
use Rattle.std.specs.Prelude.{◌≡◌, ◌==◌, ◌&&◌, ◌++◌, ℕ, List, [], ◌∷◌, Option, Some, None, is_some}
use Rattle.std.specs.Prelude.{Bool, true, false, if◌then◌else◌}
use Rattle.std.specs.List.{position_from}
use Rattle.std.specs.Str.{bytes_eq}
use Rattle.std.specs.Option.{option_and_then}
use Rattle.kore_text.specs.Trees.{SortTree}
use Rattle.term_core.specs.Patterns.{Pattern, Patterns, variable, domain_value, application}
use Rattle.term_core.specs.Patterns.{injection, call, no_pattern, more_patterns}
use Rattle.rule_core.specs.Named.{number_of_name}
use Rattle.rule_core.specs.declared.signature.Signature.{Signature}
use Rattle.rule_core.specs.declared.signature.SymInfo.{SymInfo}
use Rattle.rule_core.specs.declared.signature.SymKind.{SymKind}
use Rattle.rule_core.specs.declared.signature.SymKind.TheVariants.{Injection, Ctor, NoKind}
use Rattle.term_core.specs.Terms.{DomainValue}
use Rattle.kore_sig.specs.SortReferences.{sort_number}
use Rattle.kore_check.specs.Folds.{Unfolded, named_variable, written_value, applied_symbol}
use Rattle.kore_check.specs.Folds.{both_of, Unfoldeds, no_more, and_more}
use Rattle.kore_check.specs.ValueTexts.{value_of_text}
use Rattle.kore_check.specs.PatternSorts.{sort_kind, symbol_info, sort_numbers}

-- the number of the variable with this name and this sort, if there is one
abbrev pub variable_number : List (List ℕ × ℕ) → List ℕ → ℕ → Option ℕ
variable_number vars name s =
    position_from (λ (v : List ℕ × ℕ). bytes_eq name v.0 && (s == v.1)) 0 vars

-- the variables, with this one at the end if it is new and its sort is declared
abbrev pub with_variable : List (List ℕ × ℕ) → List ℕ → Option ℕ → List (List ℕ × ℕ)
with_variable vars name None = vars
with_variable vars name (Some s) =
    if is_some (variable_number vars name s) then vars else vars ++ (name, s) ∷ []

-- the variables, with the new ones of the pattern at the end
abbrev mutual
  pub with_variables : Signature → List (List ℕ × ℕ) → Unfolded → List (List ℕ × ℕ)
  with_variables sig vars (named_variable at name s) =
      with_variable vars name (sort_number sig.sorts s)
  with_variables sig vars (applied_symbol at byte name ss ps) = with_all_variables sig vars ps
  with_variables sig vars (both_of at s p q) = with_variables sig (with_variables sig vars p) q
  with_variables sig vars p = vars

  pub with_all_variables : Signature → List (List ℕ × ℕ) → Unfoldeds → List (List ℕ × ℕ)
  with_all_variables sig vars no_more = vars
  with_all_variables sig vars (and_more p ps) =
      with_all_variables sig (with_variables sig vars p) ps

-- the symbol with this name is declared, and has this number and this declaration
abbrev pub IsNamed : Signature → List ℕ → ℕ → SymInfo → Type 0
IsNamed sig name f info = (number_of_name sig.symbols name ≡ Some f)
    × (symbol_info sig f ≡ Some info)

-- the injection of one pattern from the first sort to the second; else None
abbrev pub injected_only : List ℕ → Patterns → Option Pattern
injected_only (a ∷ (b ∷ [])) (more_patterns p no_pattern) = Some (injection a b p)
injected_only ns ps = None

-- A symbol applied to patterns, by its kind, number and sort arguments. It is None if the symbol
-- has no kind, or is an injection without exactly two sort arguments and one pattern.
abbrev pub applied_pattern : SymKind → ℕ → List ℕ → Patterns → Option Pattern
applied_pattern Injection f ns ps = injected_only ns ps
applied_pattern Ctor f ns ps = Some (application f ps)
applied_pattern NoKind f ns ps = None
applied_pattern kind f ns ps = Some (call f ns ps)

abbrev pub is_variable_pattern : Pattern → Bool
is_variable_pattern (variable x) = true
is_variable_pattern p = false

-- The part that has a name in an `\and` of two patterns: the one that is no variable. It is None if
-- both of them are variables, or none of them.
abbrev pub named_part : Pattern → Pattern → Option Pattern
named_part p q =
    if is_variable_pattern p
    then (if is_variable_pattern q then None else Some q)
    else (if is_variable_pattern q then Some p else None)

mutual
  -- The rule pattern that a pattern means if the variables have these names and sorts. A variable
  -- means the variable with its number. A domain value means the value of its text in its sort. An
  -- application means its symbol applied to the meanings of its arguments. An `\and` means the part
  -- that it gives a name.
  pub data Means (sig : Signature) (vars : List (List ℕ × ℕ)) : Unfolded → Pattern → Type 0 where
    by_variable : {at x s : ℕ} {name : List ℕ} {tree : SortTree}
        → sort_number sig.sorts tree ≡ Some s → variable_number vars name s ≡ Some x
        → Means sig vars (named_variable at name tree) (variable x)
    by_value : {at s byte : ℕ} {text : List ℕ} {tree : SortTree} {v : DomainValue} →
        sort_number sig.sorts tree ≡ Some s →
        option_and_then (λ kind. value_of_text kind text) (sort_kind sig s) ≡ Some v →
        Means sig vars (written_value at tree text byte) (domain_value s v)
    by_symbol : {at byte f : ℕ} {name : List ℕ} {ss : List SortTree} {us : Unfoldeds} {ns : List ℕ}
        {ps : Patterns}
        {p : Pattern} {info : SymInfo} →
        IsNamed sig name f info → sort_numbers sig ss ≡ Some ns → AllMean sig vars us ps →
        applied_pattern info.kind f ns ps ≡ Some p
        → Means sig vars (applied_symbol at byte name ss us) p
    by_name : {at : ℕ} {tree : SortTree} {u w : Unfolded} {p q r : Pattern} → Means sig vars u p
        → Means sig vars w q → named_part p q ≡ Some r → Means sig vars (both_of at tree u w) r

  -- the same for patterns in order
  pub data AllMean (sig : Signature) (vars : List (List ℕ × ℕ)) : Unfoldeds → Patterns
      → Type 0 where
    none_mean : AllMean sig vars no_more no_pattern
    more_mean : {u : Unfolded} {us : Unfoldeds} {p : Pattern} {ps : Patterns} → Means sig vars u p →
        AllMean sig vars us ps → AllMean sig vars (and_more u us) (more_patterns p ps)
