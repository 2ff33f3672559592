-- A pattern without faults means some rule pattern. So a text is a term of a program, or is refused
-- as one.
use Rattle.std.proofs.Common.{◌≡◌, ℕ, ◌+◌, List, [], ◌∷◌, ◌++◌, length, Option, Some, None, refl}
use Rattle.std.proofs.Common.{sym, ap, ◌∙◌, subst, arith, inl, inr}
use Rattle.std.specs.Prelude.{◌⊎◌, ◌≢◌, is_some, if◌then◌else◌, nat_lt}
use Rattle.std.specs.Option.{option_and_then}
use Rattle.std.proofs.lemmas.Bool.{false≢true}
use Rattle.kore_text.specs.Trees.{SortTree, PatternTree}
use Rattle.kore_text.specs.Faults.{IsPattern}
use Rattle.kore_ast.specs.KoreText.{ReadsPattern}
use Rattle.term_core.specs.Patterns.{Pattern, Patterns, variable, domain_value, injection}
use Rattle.term_core.specs.Patterns.{application, call, no_pattern, more_patterns}
use Rattle.term_core.specs.Terms.{DomainValue}
use Rattle.rule_core.specs.Named.{number_of_name}
use Rattle.rule_core.specs.WellSorted.{IsSignature, IsInjectionDeclaration}
use Rattle.rule_core.specs.declared.signature.Signature.{Signature}
use Rattle.rule_core.specs.declared.signature.SortKind.{SortKind}
use Rattle.rule_core.specs.declared.signature.SortRef.{SortRef}
use Rattle.rule_core.specs.declared.signature.SymInfo.{SymInfo}
use Rattle.rule_core.specs.declared.signature.SymKind.{SymKind}
use Rattle.rule_core.specs.declared.signature.SymKind.TheVariants.{Injection, Ctor, Equations}
use Rattle.rule_core.specs.declared.signature.SymKind.TheVariants.{Hooked, Closed, NoKind}
use Rattle.rule_core.proofs.AcSymbols.{symbol_found}
use Rattle.kore_sig.specs.FirstFault.{Fault, when}
use Rattle.kore_sig.specs.SortReferences.{sort_number}
use Rattle.kore_check.specs.Building.{Extends, MeansFrom, AllMeanFrom, IsFaultless, AreFaultless}
use Rattle.kore_check.specs.Folds.{Unfolded, named_variable, written_value, applied_symbol}
use Rattle.kore_check.specs.Folds.{both_of, other_form, Unfoldeds, no_more, and_more, count, unfolded_height}
use Rattle.kore_check.specs.Folds.{unfolded_byte, unfolded}
use Rattle.rule_core.specs.Evaluation.{most_height}
use Rattle.kore_check.specs.PatternFaults.{pattern_faults, all_faults}
use Rattle.rule_core.specs.KindTests.{has_no_kind}
use Rattle.kore_check.specs.PatternMeanings.{variable_number, with_variable, with_variables}
use Rattle.kore_check.specs.PatternMeanings.{with_all_variables, injected_only, applied_pattern}
use Rattle.kore_check.specs.PatternMeanings.{IsNamed, Means, by_variable, by_value, by_symbol}
use Rattle.kore_check.specs.PatternMeanings.{by_name, named_part, is_variable_pattern}
use Rattle.kore_check.specs.Applicative.{is_variable}
use Rattle.kore_check.proofs.NamedMeanings.{part_there, variable_meaning as meaning_of_variable}
use Rattle.kore_check.specs.PatternMeanings.{AllMean, none_mean, more_mean}
use Rattle.kore_check.specs.PatternSorts.{sort_kind, symbol_info, symbol_named, sort_numbers}
use Rattle.kore_check.specs.ValueTexts.{value_of_text}
use Rattle.kore_check.proofs.BuildLaws.{number-added, number-kept, extends-refl, extends-trans}
use Rattle.kore_check.proofs.BuildLaws.{declared_kind, variable_known, value_sort_known}
use Rattle.kore_check.proofs.BuildLaws.{value_known, IsSound, application_faultless}
use Rattle.kore_check.proofs.BuildLaws.{pair_faultless}
use Rattle.kore_check.proofs.SortLaws.{sort_numbers-length}
use Rattle.kore_check.proofs.VariableLaws.{with_variable-extends}
use Rattle.kore_axioms.proofs.BoundLaws.{no_faults}
use Rattle.kore_axioms.proofs.FirstLaws.{none_by_byte}
use Rattle.kore_rules.specs.Acceptance.{IsAcceptedTerm}
use Rattle.kore_rules.specs.Refused.{IsRefusedTerm, HasTextFault}
use Rattle.kore_rules.specs.AcceptanceLaws.{EachTermIsDecided}
use Rattle.kore_rules.specs.FirstRefusal.{FirstOfTerm}
use Rattle.kore_rules.specs.GroundTerms.{ground_faults}
use Rattle.kore_rules.proofs.FaultsFound.{pattern_is_found, term_fault_is_found}
use Rattle.kore_rules.proofs.GroundLaws.{ground_form, ground_variables}

abbrev pub Variables : Type 0
Variables = List (List ℕ × ℕ)

-- ---- variables

mutual
  pub variables_extend : (sig : Signature) (u : Unfolded) (vars : Variables)
      → Extends vars (with_variables sig vars u)
  variables_extend sig (named_variable at name s) vars =
      with_variable-extends vars name (sort_number sig.sorts s)
  variables_extend sig (written_value at s text byte) vars = extends-refl vars
  variables_extend sig (applied_symbol at byte name ss us) vars = all_variables_extend sig us vars
  variables_extend sig (both_of at s p q) vars =
      extends-trans vars (with_variables sig vars p)
      (with_variables sig (with_variables sig vars p) q) (variables_extend sig p vars)
      (variables_extend sig q (with_variables sig vars p))
  variables_extend sig (other_form at) vars = extends-refl vars

  pub all_variables_extend : (sig : Signature) (us : Unfoldeds) (vars : Variables)
      → Extends vars (with_all_variables sig vars us)
  all_variables_extend sig no_more vars = extends-refl vars
  all_variables_extend sig (and_more u us) vars =
      extends-trans vars (with_variables sig vars u)
      (with_all_variables sig (with_variables sig vars u) us) (variables_extend sig u vars)
      (all_variables_extend sig us (with_variables sig vars u))

numbered : (vars : Variables) (name : List ℕ) (s : ℕ)
    → (x : ℕ) × (variable_number (with_variable vars name (Some s)) name s ≡ Some x)
numbered vars name s = by_case (variable_number vars name s) refl where
  by_case : (o : Option ℕ) → variable_number vars name s ≡ o
      → (x : ℕ) × (variable_number (with_variable vars name (Some s)) name s ≡ Some x)
  by_case None e = (
    length vars,
    ap (λ (o : Option ℕ).
        variable_number (if is_some o then vars else vars ++ (name, s) ∷ []) name s) e
        ∙ number-added vars name s e,
  )
  by_case (Some x) e = (
    x,
    ap (λ (o : Option ℕ).
        variable_number (if is_some o then vars else vars ++ (name, s) ∷ []) name s) e
        ∙ e,
  )

-- ---- heads

-- a declared symbol has a number
named : (sig : Signature) (name : List ℕ) (info : SymInfo) → symbol_named sig name ≡ Some info
    → (f : ℕ) × IsNamed sig name f info
named sig name info e = by_case (number_of_name sig.symbols name) refl where
  by_case : (o : Option ℕ) → number_of_name sig.symbols name ≡ o → (f : ℕ) × IsNamed sig name f info
  by_case None n =
      let both : None ≡ Some info = sym (ap (option_and_then (symbol_info sig)) n) ∙ e in
      let never : ⊥ = cc in absurd never
  by_case (Some f) n = (f, (n, sym (ap (option_and_then (symbol_info sig)) n) ∙ e))

abbrev how_many : Patterns → ℕ
how_many no_pattern = 0
how_many (more_patterns p ps) = how_many ps + 1

many_mean : (sig : Signature) (vars : Variables) {us : Unfoldeds} {ps : Patterns}
    → AllMean sig vars us ps → count us ≡ how_many ps
many_mean sig vars none_mean = refl
many_mean sig vars (more_mean first rest) = ap (λ (n : ℕ). n + 1) (many_mean sig vars rest)

injected : (ns : List ℕ) (ps : Patterns) → length ns ≡ 2 → how_many ps ≡ 1
    → (p : Pattern) × (injected_only ns ps ≡ Some p)
injected [] ps two one = absurd (omega (arith, two))
injected (a ∷ []) ps two one = absurd (omega (arith, two))
injected (a ∷ b ∷ []) no_pattern two one = absurd (omega (arith, one))
injected (a ∷ b ∷ []) (more_patterns p no_pattern) two one = (injection a b p, refl)
injected (a ∷ b ∷ []) (more_patterns p (more_patterns q ps)) two one = absurd (omega (arith, one))
injected (a ∷ b ∷ c ∷ ns) ps two one = absurd (omega (arith, two))

-- a head without faults can be applied to as many patterns as it has arguments
makes : (sig : Signature) (name : List ℕ) (ss : List SortTree) (n : ℕ)
    (sound : IsSound sig name ss n) (f : ℕ) (ns : List ℕ) (ps : Patterns) → IsSignature sig
    → IsNamed sig name f sound.info → sort_numbers sig ss ≡ Some ns → n ≡ how_many ps
    → (kind : SymKind) → sound.info.kind ≡ kind
    → (p : Pattern) × (applied_pattern kind f ns ps ≡ Some p)
makes sig name ss n sound f ns ps good known sorts many Injection is =
    let form : IsInjectionDeclaration sound.info =
    good.injections f sound.info (symbol_found sig f sound.info (sym known.1)) is in
    let args : n ≡ 1 = sound.arguments ∙ ap (λ (rs : List SortRef). length rs) form.argument in
    injected ns ps (sort_numbers-length sig ss ns sorts ∙ sound.parameters ∙ form.parameters)
    (sym many ∙ args)
makes sig name ss n sound f ns ps good known sorts many Ctor is = (application f ps, refl)
makes sig name ss n sound f ns ps good known sorts many Equations is = (call f ns ps, refl)
makes sig name ss n sound f ns ps good known sorts many (Hooked row) is = (call f ns ps, refl)
makes sig name ss n sound f ns ps good known sorts many Closed is = (call f ns ps, refl)
makes sig name ss n sound f ns ps good known sorts many NoKind is =
    absurd (false≢true (sym sound.kind ∙ ap has_no_kind is))

-- ---- meanings

abbrev pub HasMeaning : Signature → Variables → Unfolded → Type 0
HasMeaning sig vars u = (p : Pattern) × MeansFrom sig vars u p

abbrev pub HaveMeaning : Signature → Variables → Unfoldeds → Type 0
HaveMeaning sig vars us = (ps : Patterns) × AllMeanFrom sig vars us ps

variable_meaning : (sig : Signature) (at : ℕ) (name : List ℕ) (tree : SortTree) (old : Variables)
    → IsFaultless sig (named_variable at name tree)
    → HasMeaning sig (with_variables sig old (named_variable at name tree))
    (named_variable at name tree)
variable_meaning sig at name tree old good = by_case (sort_number sig.sorts tree) refl where
  by_case : (o : Option ℕ) → sort_number sig.sorts tree ≡ o
      → HasMeaning sig (with_variables sig old (named_variable at name tree))
      (named_variable at name tree)
  by_case None e = absurd (variable_known sig at name tree good e)
  by_case (Some s) e =
      let x = numbered old name s in
      let known : variable_number (with_variable old name (sort_number sig.sorts tree)) name s ≡
      Some x.0 =
      ap (λ (o : Option ℕ). variable_number (with_variable old name o) name s) e ∙ x.1 in (
        variable x.0,
        λ more ext. by_variable e (number-kept
            (with_variable old name (sort_number sig.sorts tree)) more name s x.0 ext known),
      )

value_meaning : (sig : Signature) (at byte : ℕ) (text : List ℕ) (tree : SortTree) (vars : Variables)
    → IsFaultless sig (written_value at tree text byte)
    → HasMeaning sig vars (written_value at tree text byte)
value_meaning sig at byte text tree vars good = by_sort (sort_number sig.sorts tree) refl where
  by_value_of : (s : ℕ) (kind : SortKind) → sort_number sig.sorts tree ≡ Some s
      → sort_kind sig s ≡ Some kind → (o : Option DomainValue) → value_of_text kind text ≡ o
      → HasMeaning sig vars (written_value at tree text byte)
  by_value_of s kind e k None v = absurd (value_known sig at byte s tree text kind good e k v)
  by_value_of s kind e k (Some v) is = (
    domain_value s v,
    λ more ext.
        by_value e (ap (option_and_then (λ (of : SortKind). value_of_text of text)) k ∙ is),
  )

  by_kind : (s : ℕ) → sort_number sig.sorts tree ≡ Some s → (o : Option SortKind)
      → sort_kind sig s ≡ o → HasMeaning sig vars (written_value at tree text byte)
  by_kind s e None k = absurd (declared_kind sig tree s e k)
  by_kind s e (Some kind) k = by_value_of s kind e k (value_of_text kind text) refl

  by_sort : (o : Option ℕ) → sort_number sig.sorts tree ≡ o
      → HasMeaning sig vars (written_value at tree text byte)
  by_sort None e = absurd (value_sort_known sig at byte tree text good e)
  by_sort (Some s) e = by_kind s e (sort_kind sig s) refl

symbol_meaning : (sig : Signature) (at byte : ℕ) (name : List ℕ) (ss : List SortTree)
    (us : Unfoldeds) (vars : Variables) → IsSignature sig → IsSound sig name ss (count us)
    → HaveMeaning sig vars us → HasMeaning sig vars (applied_symbol at byte name ss us)
symbol_meaning sig at byte name ss us vars good sound all = by_case (sort_numbers sig ss) refl where
  by_case : (o : Option (List ℕ)) → sort_numbers sig ss ≡ o
      → HasMeaning sig vars (applied_symbol at byte name ss us)
  by_case None e = absurd (sound.sorts e)
  by_case (Some ns) e =
      let known = named sig name sound.info sound.named in
      let made =
      makes sig name ss (count us) sound known.0 ns all.0 good known.1 e
      (many_mean sig vars (all.1 vars (extends-refl vars))) sound.info.kind refl in
      (made.0, λ more ext. by_symbol known.1 e (all.1 more ext) made.1)

-- the part of an `\and` of which exactly one pattern is a variable
part_found : (sig : Signature) (vars : Variables) (at : ℕ) (tree : SortTree) {u w : Unfolded}
    {p q : Pattern} → is_variable u ≢ is_variable w → MeansFrom sig vars u p
    → MeansFrom sig vars w q → HasMeaning sig vars (both_of at tree u w)
part_found sig vars at tree {u} {w} {p} {q} apart first second = by_case (named_part p q) refl where
  other : is_variable_pattern p ≢ is_variable_pattern q
  other same =
      apart (sym (meaning_of_variable sig vars (first vars (extends-refl vars))) ∙ same
      ∙ meaning_of_variable sig vars (second vars (extends-refl vars)))

  by_case : (o : Option Pattern) → named_part p q ≡ o → HasMeaning sig vars (both_of at tree u w)
  by_case None none = absurd (part_there p q other none)
  by_case (Some r) is = (r, λ more ext. by_name (first more ext) (second more ext) is)

mutual
  pub meaning : (sig : Signature) → IsSignature sig → (u : Unfolded) (old : Variables)
      → IsFaultless sig u → HasMeaning sig (with_variables sig old u) u
  meaning sig sorted (named_variable at name tree) old good =
      variable_meaning sig at name tree old good
  meaning sig sorted (written_value at tree text byte) old good =
      value_meaning sig at byte text tree old good
  meaning sig sorted (applied_symbol at byte name ss us) old good =
      let parts = application_faultless sig at byte name ss us good in
      symbol_meaning sig at byte name ss us (with_all_variables sig old us) sorted parts.0
      (all_meanings sig sorted us old parts.1)
  meaning sig sorted (both_of at tree u w) old good =
      let mid : Variables = with_variables sig old u in
      let new : Variables = with_variables sig mid w in
      let clear = pair_faultless sig at tree u w good in
      let first = meaning sig sorted u old clear.0 in
      let second = meaning sig sorted w mid clear.1 in
      part_found sig new at tree good.1.0 (λ more ext. first.1 more
      (extends-trans mid new more (variables_extend sig w mid) ext)) second.1
  meaning sig sorted (other_form at) old good = absurd good.1

  pub all_meanings : (sig : Signature) → IsSignature sig → (us : Unfoldeds) (old : Variables)
      → AreFaultless sig us → HaveMeaning sig (with_all_variables sig old us) us
  all_meanings sig sorted no_more old good = (no_pattern, λ more ext. none_mean)
  all_meanings sig sorted (and_more u us) old good =
      let mid : Variables = with_variables sig old u in
      let first = meaning sig sorted u old good.0 in
      let rest = all_meanings sig sorted us mid good.1 in (
        more_patterns first.0 rest.0,
        λ more ext. more_mean (first.1 more (extends-trans mid (with_all_variables sig mid us) more
            (all_variables_extend sig us mid) ext)) (rest.1 more ext),
      )

-- ---- terms

pub each_term_is_decided : EachTermIsDecided
each_term_is_decided sig top bytes sorted = by_text (pattern_is_found bytes) where
  accepted : (p : PatternTree) → ReadsPattern bytes p → FirstOfTerm sig top p None
      → (start : Pattern) × IsAcceptedTerm sig top bytes start
  accepted p reads clear =
      let ground : ground_faults p ≡ [] = none_by_byte (ground_faults p) clear.0 in
      let faults : all_faults sig (unfolded p) ≡ [] =
      none_by_byte (all_faults sig (unfolded p)) clear.1.0 in
      let fine : pattern_faults sig (unfolded p) ≡ [] =
      (no_faults
      (when (nat_lt most_height (unfolded_height (unfolded p))) 3 (unfolded_byte (unfolded p)))
      (pattern_faults sig (unfolded p)) faults).1 in
      let found = meaning sig sorted (unfolded p) [] (fine, ground_form p ground) in
      let vars : Variables = with_variables sig [] (unfolded p) in (
        found.0,
        record {
          term = p;
          spelled = reads;
          no_fault = clear;
          means =
              subst (λ (vs : Variables). Means sig vs (unfolded p) found.0)
              (ground_variables p ground sig []) (found.1 vars (extends-refl vars));
        },
      )

  by_fault : (p : PatternTree) → ReadsPattern bytes p → (r : Option Fault) × FirstOfTerm sig top p r
      → ((start : Pattern) × IsAcceptedTerm sig top bytes start)
      ⊎ ((f : Fault) × IsRefusedTerm sig top bytes f)
  by_fault p reads (None, clear) = inl (accepted p reads clear)
  by_fault p reads (Some f, first) = inr (f, inr (p, reads, first))

  by_text : ((p : PatternTree) × ReadsPattern bytes p)
      ⊎ ((f : Fault) × HasTextFault IsPattern bytes f)
      → ((start : Pattern) × IsAcceptedTerm sig top bytes start)
      ⊎ ((f : Fault) × IsRefusedTerm sig top bytes f)
  by_text (inl (p, reads)) = by_fault p reads (term_fault_is_found sig top p)
  by_text (inr (f, h)) = inr (f, inl h)
