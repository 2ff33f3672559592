-- The sorts of integers and of truth values, by marks, and the kinds of symbols that follow from
-- them.
use Rattle.std.specs.Prelude.{◌≡◌, ◌==◌, ◌&&◌, ◌||◌, not, ℕ, Bool, true, false, List, [], ◌∷◌, map}
use Rattle.std.specs.Prelude.{Option, Some, None, option_map, slice_get, string_bytes}
use Rattle.std.specs.Prelude.{if◌then◌else◌}
use Rattle.std.specs.List.{list_any}
use Rattle.std.specs.Option.{option_and_then}
use Rattle.term_core.specs.HookValues.{Kind, integers, truths, hooks}
use Rattle.term_core.specs.HookSignatures.{Signature as HookSignature, signature}
use Rattle.std.specs.Borrow.{Bor}
use Rattle.hook_table.specs.Names.{hook_number}
use Rattle.hook_table.specs.Rows.{plain_row}
use Rattle.hook_table.specs.declared.table.HookRow.{HookRow}
use Rattle.kore_text.specs.Trees.{SortTree, PatternTree, AxiomDeclaration}
use Rattle.rule_core.specs.Named.{number_of_name}
use Rattle.rule_core.specs.declared.signature.Signature.{Signature}
use Rattle.rule_core.specs.declared.signature.SortInfo.{SortInfo}
use Rattle.rule_core.specs.declared.signature.SortKind.{SortKind}
use Rattle.rule_core.specs.declared.signature.SortKind.TheVariants as kind
use Rattle.rule_core.specs.declared.signature.SortRef.{SortRef}
use Rattle.rule_core.specs.declared.signature.SortRef.TheVariants.{Param, Sort}
use Rattle.rule_core.specs.declared.signature.SymInfo.{SymInfo}
use Rattle.rule_core.specs.declared.signature.SymKind.{SymKind}
use Rattle.rule_core.specs.declared.signature.SymKind.TheVariants.{Injection, Ctor, Equations}
use Rattle.rule_core.specs.declared.signature.SymKind.TheVariants.{Hooked, Closed, NoKind}
use Rattle.kore_sig.specs.Attributes.{subsort_sorts}
use Rattle.kore_sig.specs.SortReferences.{sort_number}
use Rattle.kore_check.specs.PatternSorts.{sort_kind}
use Rattle.rule_core.specs.KindTests.{is_defined_kind}
use Rattle.kore_rules.specs.AxiomsRead.{is_marked}

-- ---- which sorts have terms other than values

abbrev pub is_constructor_kind : SymKind → Bool
is_constructor_kind Injection = false
is_constructor_kind Ctor = true
is_constructor_kind Equations = false
is_constructor_kind (Hooked row) = false
is_constructor_kind Closed = false
is_constructor_kind NoKind = false

abbrev pub is_sort : ℕ → SortRef → Bool
is_sort n (Param i) = false
is_sort n (Sort s) = n == s.0

-- the symbol is a constructor of terms of this sort
abbrev pub makes : ℕ → SymInfo → Bool
makes n info = is_constructor_kind info.kind && is_sort n info.result

abbrev pub entry_makes : ℕ → List ℕ × SymInfo → Bool
entry_makes n e = makes n e.1

abbrev pub is_number : ℕ → Option ℕ → Bool
is_number n None = false
is_number n (Some m) = n == m

-- the upper sort of a pair
abbrev pub upper_one : Option (SortTree × SortTree) → Option SortTree
upper_one pair = option_map (λ (p : SortTree × SortTree). p.1) pair

-- the sort is there and has this number
abbrev pub is_numbered_so : List (List ℕ × SortInfo) → ℕ → Option SortTree → Bool
is_numbered_so sorts n s = is_number n (option_and_then (sort_number sorts) s)

-- the attribute puts a sort below this one
abbrev pub puts_below : List (List ℕ × SortInfo) → ℕ → PatternTree → Bool
puts_below sorts n attribute = is_numbered_so sorts n (upper_one (subsort_sorts attribute))

abbrev pub states_upper : List (List ℕ × SortInfo) → ℕ → AxiomDeclaration → Bool
states_upper sorts n a = list_any (puts_below sorts n) a.attributes

-- a constructor makes terms of this sort, or an axiom puts a sort below it
abbrev pub has_terms : Signature → List AxiomDeclaration → ℕ → Bool
has_terms sig axioms n =
    list_any (entry_makes n) sig.symbols || list_any (states_upper sig.sorts n) axioms

-- exactly the sorts with terms are marked
abbrev pub MarksTerms : Signature → List AxiomDeclaration → List Bool → Type 0
MarksTerms sig axioms marks = (n : ℕ) → is_marked marks n ≡ has_terms sig axioms n

-- ---- which hooks fit

abbrev pub is_of_kind : Kind → Option SortKind → Bool
is_of_kind k None = false
is_of_kind integers (Some kind.Int) = true
is_of_kind integers (Some kind.Bool) = false
is_of_kind integers (Some kind.Map) = false
is_of_kind integers (Some kind.Other) = false
is_of_kind truths (Some kind.Int) = false
is_of_kind truths (Some kind.Bool) = true
is_of_kind truths (Some kind.Map) = false
is_of_kind truths (Some kind.Other) = false

-- the reference is to a sort of this kind that is not marked
abbrev pub refers_to : Signature → List Bool → Kind → SortRef → Bool
refers_to sig marks k (Param i) = false
refers_to sig marks k (Sort s) = is_of_kind k (sort_kind sig s.0) && not (is_marked marks s.0)

abbrev pub refer_to : Signature → List Bool → List Kind → List SortRef → Bool
refer_to sig marks [] [] = true
refer_to sig marks [] (of ∷ refs) = false
refer_to sig marks (k ∷ ks) [] = false
refer_to sig marks (k ∷ ks) (of ∷ refs) = refers_to sig marks k of && refer_to sig marks ks refs

-- the declaration has no sort parameters, and has the sorts of the row
abbrev pub fits_row : Signature → List Bool → HookSignature → SymInfo → Bool
fits_row sig marks row info =
    (info.params == 0)
    && (refer_to sig marks row.arguments info.args.items
    && refers_to sig marks row.result info.result)

-- the kind of a function by the row with this number
abbrev pub kind_in_row : Signature → List Bool → SymInfo → ℕ → Option HookSignature → SymKind
kind_in_row sig marks info n None = Closed
kind_in_row sig marks info n (Some row) =
    if fits_row sig marks row info then Hooked (record { 0 = n }) else Closed

abbrev pub row_at : Bor HookRow → HookSignature
row_at row = plain_row row.now

-- the row of the table for the hook with this number
unfoldable pub hook_row : ℕ → Option HookSignature
hook_row n = slice_get (map signature hooks) n

abbrev pub kind_of_number : Signature → List Bool → SymInfo → Option ℕ → SymKind
kind_of_number sig marks info None = Closed
kind_of_number sig marks info (Some n) = kind_in_row sig marks info n (hook_row n)

-- the kind of a function by the name of its hook
abbrev pub kind_by_hook : Signature → List Bool → SymInfo → List ℕ → SymKind
kind_by_hook sig marks info name = kind_of_number sig marks info (hook_number name)

-- ---- what a symbol is used for

abbrev pub kind_of_function : Signature → List Bool → SymInfo → Bool → Option (List ℕ) → SymKind
kind_of_function sig marks info unreadable None = if unreadable then Closed else Equations
kind_of_function sig marks info unreadable (Some name) = kind_by_hook sig marks info name

abbrev pub final_kind : Signature → List Bool → SymInfo → Bool → SymKind
final_kind sig marks info unreadable =
    if is_defined_kind info.kind
    then kind_of_function sig marks info unreadable (option_map string_bytes info.hook)
    else info.kind

-- the mark with this number is set; false if there is no number
abbrev pub is_marked_at : List Bool → Option ℕ → Bool
is_marked_at marks None = false
is_marked_at marks (Some n) = is_marked marks n

-- the symbol's entry is the declared one, except that it has its final kind
pub record IsFinal (sig : Signature) (marks unreadable : List Bool)
    (declared made : List ℕ × SymInfo) : Type 0 where
  pub name : made.0 ≡ declared.0
  pub kind : made.1.kind
      ≡ final_kind sig marks declared.1
      (is_marked_at unreadable (number_of_name sig.symbols declared.0))
  pub params : made.1.params ≡ declared.1.params
  pub args : made.1.args.items ≡ declared.1.args.items
  pub result : made.1.result ≡ declared.1.result
  pub hook : option_map string_bytes made.1.hook ≡ option_map string_bytes declared.1.hook
  pub ac : made.1.ac ≡ declared.1.ac
