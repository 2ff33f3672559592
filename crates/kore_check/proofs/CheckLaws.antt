-- What the check of a pattern returns.
use Rattle.std.proofs.Common.{◌≡◌, ℕ, true, List, [], ◌∷◌, ◌++◌, length, Option, Some, None}
use Rattle.std.proofs.Common.{Contains, eq-eqb, refl, sym, ◌∙◌, ap, subst, arith}
use Rattle.std.specs.Prelude.{◌==◌}
use Rattle.std.specs.Option.{option_and_then}
use Rattle.rule_core.specs.WellSorted.{IsSignature, IsDeclaration, IsReference}
use Rattle.rule_core.specs.Sorting.{sort_at, IsSymbol}
use Rattle.rule_core.specs.declared.signature.Signature.{Signature}
use Rattle.rule_core.specs.declared.signature.SymInfo.{SymInfo}
use Rattle.rule_core.specs.declared.signature.SortRef.{SortRef}
use Rattle.rule_core.specs.declared.signature.SortRef.TheVariants.{Param, Sort}
use Rattle.rule_core.specs.Named.{number_of_name}
use Rattle.rule_core.proofs.AcSymbols.{symbol_found}
use Rattle.kore_sig.specs.FirstFault.{Fault, ByByte, IsFirstBy}
use Rattle.kore_check.specs.declared.faults.PatternFault.{PatternFault}
use Rattle.kore_check.specs.declared.faults.FaultKind.{FaultKind}
use Rattle.kore_check.specs.declared.faults.FaultKind.TheVariants as kind
use Rattle.kore_check.specs.FaultNumbers.{IsFirstOf, IsRefusal, as_refusal, refusal_of}
use Rattle.kore_check.specs.FaultNumbers.{fault_number}
use Rattle.kore_check.specs.Folds.{Unfolded, named_variable, written_value, applied_symbol}
use Rattle.kore_check.specs.Folds.{both_of, other_form, unfolded_byte}
use Rattle.kore_check.specs.Notes.{kept_fault, after}
use Rattle.kore_text.specs.Trees.{SortTree}
use Rattle.kore_sig.specs.SortReferences.{sort_number}
use Rattle.kore_check.proofs.Applications.{after-append}
use Rattle.kore_check.specs.Applicative.{IsApplicative}
use Rattle.kore_check.specs.PatternSorts.{sort_of_pattern, symbol_named, symbol_info, sort_numbers}
use Rattle.kore_check.specs.PatternSorts.{result_sort}
use Rattle.kore_check.specs.PatternFaults.{pattern_faults, sort_faults, clash_faults}
use Rattle.kore_check.proofs.NotedLaws.{contains_here}
use Rattle.kore_check.proofs.SortLaws.{sort_numbers-length}
use Rattle.kore_check.proofs.BuildLaws.{IsSound, application_faultless, variable_known}
use Rattle.kore_check.proofs.BuildLaws.{value_sort_known, some_there, parts_empty}

none_kept : (fs : List Fault) → ((f : Fault) → Contains fs f → ⊥) → fs ≡ []
none_kept [] none = refl
none_kept (f ∷ fs) none = absurd (none f (contains_here fs f))

pub nothing_noted : (faults : List Fault) (first : Option PatternFault)
    → ((before : List Fault) → IsFirstOf before None → IsFirstOf (before ++ faults) first)
    → first ≡ None → faults ≡ []
nothing_noted faults first noted is =
    none_kept faults (subst (λ (o : Option PatternFault). IsFirstOf faults o) is
    (noted [] (λ f known. omega (arith, known.1))))

by_kind : (faults : List Fault) (k : FaultKind) (at : ℕ)
    → IsFirstBy ByByte (Contains faults) (Some (record { number = fault_number k; byte = at }))
    → IsRefusal faults (refusal_of k at)
by_kind faults kind.Deep at is = is
by_kind faults kind.UnknownSort at is = is
by_kind faults kind.UnknownSymbol at is = is
by_kind faults kind.Arity at is = is
by_kind faults kind.SortClash at is = is
by_kind faults kind.BadValue at is = is
by_kind faults kind.NoKind at is = is

pub something_noted : (faults : List Fault) (first : Option PatternFault) (fault : PatternFault)
    → ((before : List Fault) → IsFirstOf before None → IsFirstOf (before ++ faults) first)
    → first ≡ Some fault → IsRefusal faults (as_refusal fault)
something_noted faults first fault noted is =
    by_kind faults fault.kind fault.at (subst (λ (o : Option PatternFault). IsFirstOf faults o) is
    (noted [] (λ f known. omega (arith, known.1))))

pub some_or_none : {X : Type 0} (o : Option X) → (o ≡ None → ⊥) → (x : X) × (o ≡ Some x)
some_or_none None some = absurd (some refl)
some_or_none (Some x) some = (x, refl)

pub result_there : (sig : Signature) (info : SymInfo) (ns : List ℕ) (of : SortRef)
    → IsReference sig info.params of → length ns ≡ info.params → sort_at ns of ≡ None → ⊥
result_there sig info ns (Param i) there count none =
    some_there ns i (omega (arith, there, count)) none
result_there sig info ns (Sort s) there count none = let no_sort : ⊥ = cc in no_sort

symbol_of_name : (sig : Signature) (name : List ℕ) (info : SymInfo)
    → symbol_named sig name ≡ Some info → (f : ℕ) × IsSymbol sig f info
symbol_of_name sig name info is = by_number (number_of_name sig.symbols name) is where
  by_number : (o : Option ℕ) → option_and_then (symbol_info sig) o ≡ Some info
      → (f : ℕ) × IsSymbol sig f info
  by_number None e = absurd (let no_symbol : ⊥ = cc in no_symbol)
  by_number (Some f) e = (f, symbol_found sig f info (sym e))

-- a pattern without faults has a sort
pub faultless_sorted : (sig : Signature) (u : Unfolded) → IsSignature sig → IsApplicative u
    → pattern_faults sig u ≡ [] → sort_of_pattern sig u ≡ None → ⊥
faultless_sorted sig (named_variable at name s) good form e none =
    variable_known sig at name s (e, form) none
faultless_sorted sig (written_value at s text byte) good form e none =
    value_sort_known sig at byte s text (e, form) none
faultless_sorted sig (both_of at s p q) good form e none =
    variable_known sig at [] s ((parts_empty (sort_faults sig s) _ e).0, tt) none
faultless_sorted sig (other_form at) good form e none = form
faultless_sorted sig (applied_symbol at byte name ss us) good form e none =
    let sound : IsSound sig name ss _ =
    (application_faultless sig at byte name ss us (e, form)).0 in
    let numbers : (ns : List ℕ) × (sort_numbers sig ss ≡ Some ns) =
    some_or_none (sort_numbers sig ss) sound.sorts in
    let symbol : (f : ℕ) × IsSymbol sig f sound.info =
    symbol_of_name sig name sound.info sound.named in
    let declared : IsDeclaration sig sound.info = good.declared symbol.0 sound.info symbol.1 in
    let count : (length ss == sound.info.params) ≡ true = eq-eqb _ _ sound.parameters in
    let whole : result_sort (Some sound.info) ss (Some numbers.0) ≡ None =
    ap (λ o. result_sort o ss (Some numbers.0)) (sym sound.named)
    ∙ ap (λ o. result_sort (symbol_named sig name) ss o) (sym numbers.1) ∙ none in
    let at_result : sort_at numbers.0 sound.info.result ≡ None = rw count at whole in
    result_there sig sound.info numbers.0 sound.info.result declared.result
    (sort_numbers-length sig ss numbers.0 numbers.1 ∙ sound.parameters) at_result

-- what the check of an `\and` of two patterns notes
pub pair_checked : (sig : Signature) (at : ℕ) (s : SortTree) (p q : Unfolded) (lower upper : ℕ)
    (own one two : Option ℕ) (f g h k l m : Option PatternFault) → own ≡ sort_number sig.sorts s
    → unfolded_byte p ≡ lower → unfolded_byte q ≡ upper → one ≡ sort_of_pattern sig p
    → two ≡ sort_of_pattern sig q → kept_fault g ≡ after f (sort_faults sig s)
    → kept_fault h ≡ after g (pattern_faults sig p) → kept_fault k ≡ after h (clash_faults lower one own)
    → kept_fault l ≡ after k (pattern_faults sig q) → kept_fault m ≡ after l (clash_faults upper two own)
    → kept_fault m ≡ after f (pattern_faults sig (both_of at s p q))
pair_checked sig at s p q lower upper own one two f g h k l m sort here there first second a b c d
    e =
    let clash : kept_fault k ≡ after h
    (clash_faults (unfolded_byte p) (sort_of_pattern sig p) (sort_number sig.sorts s)) =
    c ∙ ap (λ (n : ℕ). after h (clash_faults n one own)) (sym here)
    ∙ ap (λ (o : Option ℕ). after h (clash_faults (unfolded_byte p) o own)) first
    ∙ ap (λ (o : Option ℕ).
    after h (clash_faults (unfolded_byte p) (sort_of_pattern sig p) o)) sort in
    let last : kept_fault m ≡ after l
    (clash_faults (unfolded_byte q) (sort_of_pattern sig q) (sort_number sig.sorts s)) =
    e ∙ ap (λ (n : ℕ). after l (clash_faults n two own)) (sym there)
    ∙ ap (λ (o : Option ℕ). after l (clash_faults (unfolded_byte q) o own)) second
    ∙ ap (λ (o : Option ℕ).
    after l (clash_faults (unfolded_byte q) (sort_of_pattern sig q) o)) sort in
    let lower_clash : List Fault =
    clash_faults (unfolded_byte p) (sort_of_pattern sig p) (sort_number sig.sorts s) in
    let upper_clash : List Fault =
    clash_faults (unfolded_byte q) (sort_of_pattern sig q) (sort_number sig.sorts s) in
    let after_clash : List Fault = pattern_faults sig q ++ upper_clash in
    after-append f g (kept_fault m) (sort_faults sig s)
    (pattern_faults sig p ++ (lower_clash ++ after_clash)) a
    (after-append g h (kept_fault m) (pattern_faults sig p) (lower_clash ++ after_clash) b
    (after-append h k (kept_fault m) lower_clash after_clash clash
    (after-append k l (kept_fault m) (pattern_faults sig q) upper_clash d last)))
