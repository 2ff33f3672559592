-- What an `\and` of two patterns means: the one that is no variable.
use Rattle.std.proofs.Common.{◌≡◌, ◌⊎◌, inl, inr, ℕ, Bool, true, false, cond, List, [], ◌∷◌}
use Rattle.std.proofs.Common.{Option, Some, None, option_map, length, refl, sym, ◌∙◌, ap, subst, Vec, Global}
use Rattle.std.specs.Prelude.{◌≢◌, if◌then◌else◌}
use Rattle.std.proofs.lemmas.Bool.{false≢true}
use Rattle.kore_text.specs.Trees.{SortTree}
use Rattle.term_core.specs.Patterns.{Pattern, Patterns, no_pattern, more_patterns}
use Rattle.rule_core.specs.declared.signature.Signature.{Signature}
use Rattle.rule_core.specs.declared.signature.SymKind.{SymKind}
use Rattle.rule_core.specs.declared.signature.SymKind.TheVariants.{Injection, Ctor, Equations}
use Rattle.rule_core.specs.declared.signature.SymKind.TheVariants.{Hooked, Closed, NoKind}
use Rattle.kore_check.specs.Folds.{Unfolded, Unfoldeds, both_of, and_more, no_more}
use Rattle.kore_check.specs.Applicative.{is_variable, IsApplicative}
use Rattle.kore_check.specs.PatternMeanings.{Means, by_variable, by_value, by_symbol, by_name}
use Rattle.kore_check.specs.PatternMeanings.{AllMean, none_mean, more_mean}
use Rattle.kore_check.specs.PatternMeanings.{named_part, is_variable_pattern, applied_pattern}
use Rattle.kore_check.specs.PatternMeanings.{injected_only, with_all_variables}
use Rattle.kore_check.specs.Building.{Built, MeansFrom, AllMeanFrom, only_named}
use Rattle.kore_check.proofs.BuildLaws.{extends-refl}
use Rattle.term_core.specs.RulePatterns.{plain_pattern}
use Rattle.term_core.specs.PatternLists.{plain_patterns}
use Rattle.term_core.specs.declared.rule_patterns.RulePat.{RulePat}

some_same : {X : Type 0} (x y : X) → Some x ≡ Some y → x ≡ y
some_same x y e = cc

-- exactly one of the two is a variable, and the other one is the part
abbrev pub IsPartOf : Pattern → Pattern → Pattern → Type 0
IsPartOf p q r =
    ((is_variable_pattern p ≡ true) × (is_variable_pattern q ≡ false) × (q ≡ r))
    ⊎ ((is_variable_pattern p ≡ false) × (is_variable_pattern q ≡ true) × (p ≡ r))

pub part_cases : (p q r : Pattern) → named_part p q ≡ Some r → IsPartOf p q r
part_cases p q r is = by_case (is_variable_pattern p) refl (is_variable_pattern q) refl where
  by_case : (b : Bool) → is_variable_pattern p ≡ b → (d : Bool) → is_variable_pattern q ≡ d
      → IsPartOf p q r
  by_case true e true f =
      absurd (let none : None ≡ Some r = rw (e, f) at is in let no_value : ⊥ = cc in no_value)
  by_case true e false f = inl (e, f, some_same q r (rw (e, f) at is))
  by_case false e true f = inr (e, f, some_same p r (rw (e, f) at is))
  by_case false e false f =
      absurd (let none : None ≡ Some r = rw (e, f) at is in let no_value : ⊥ = cc in no_value)

pub part_no_variable : (p q r : Pattern) → named_part p q ≡ Some r
    → is_variable_pattern r ≡ false
part_no_variable p q r is = by_case (part_cases p q r is) where
  by_case : IsPartOf p q r → is_variable_pattern r ≡ false
  by_case (inl second) = sym (ap is_variable_pattern second.2) ∙ second.1
  by_case (inr first) = sym (ap is_variable_pattern first.2) ∙ first.0

injected_no_variable : (ns : List ℕ) (ps : Patterns) (p : Pattern) → injected_only ns ps ≡ Some p
    → is_variable_pattern p ≡ false
injected_no_variable [] ps p is = absurd (let no_value : ⊥ = cc in no_value)
injected_no_variable (a ∷ []) ps p is = absurd (let no_value : ⊥ = cc in no_value)
injected_no_variable (a ∷ (b ∷ [])) no_pattern p is = absurd (let no_value : ⊥ = cc in no_value)
injected_no_variable (a ∷ (b ∷ [])) (more_patterns q no_pattern) p is =
    sym (ap is_variable_pattern (some_same _ p is))
injected_no_variable (a ∷ (b ∷ [])) (more_patterns q (more_patterns r ps)) p is =
    absurd (let no_value : ⊥ = cc in no_value)
injected_no_variable (a ∷ (b ∷ (d ∷ ns))) ps p is = absurd (let no_value : ⊥ = cc in no_value)

applied_no_variable : (k : SymKind) (f : ℕ) (ns : List ℕ) (ps : Patterns) (p : Pattern)
    → applied_pattern k f ns ps ≡ Some p → is_variable_pattern p ≡ false
applied_no_variable Injection f ns ps p is = injected_no_variable ns ps p is
applied_no_variable Ctor f ns ps p is = sym (ap is_variable_pattern (some_same _ p is))
applied_no_variable Equations f ns ps p is = sym (ap is_variable_pattern (some_same _ p is))
applied_no_variable (Hooked row) f ns ps p is = sym (ap is_variable_pattern (some_same _ p is))
applied_no_variable Closed f ns ps p is = sym (ap is_variable_pattern (some_same _ p is))
applied_no_variable NoKind f ns ps p is = absurd (let no_value : ⊥ = cc in no_value)

-- a variable means a variable, and no other pattern does
pub variable_meaning : (sig : Signature) (vars : List (List ℕ × ℕ)) {u : Unfolded} {p : Pattern}
    → Means sig vars u p → is_variable_pattern p ≡ is_variable u
variable_meaning sig vars (by_variable a b) = refl
variable_meaning sig vars (by_value a b) = refl
variable_meaning sig vars (by_symbol {f = f} {ns = ns} {ps = ps} {p = p} {info = info} a b all d) =
    applied_no_variable info.kind f ns ps p d
variable_meaning sig vars (by_name {p = p} {q = q} {r = r} first second part) =
    part_no_variable p q r part

pub part_apart : (p q r : Pattern) → named_part p q ≡ Some r
    → is_variable_pattern p ≢ is_variable_pattern q
part_apart p q r is = by_case (part_cases p q r is) where
  by_case : IsPartOf p q r → is_variable_pattern p ≢ is_variable_pattern q
  by_case (inl second) = λ same. false≢true (sym second.1 ∙ sym same ∙ second.0)
  by_case (inr first) = λ same. false≢true (sym first.0 ∙ same ∙ first.1)

-- if exactly one of two patterns is a variable, there is a part
pub part_there : (p q : Pattern) → is_variable_pattern p ≢ is_variable_pattern q
    → named_part p q ≡ None → ⊥
part_there p q apart none = by_case (is_variable_pattern p) refl (is_variable_pattern q) refl where
  by_case : (b : Bool) → is_variable_pattern p ≡ b → (d : Bool) → is_variable_pattern q ≡ d → ⊥
  by_case true e true f = apart (e ∙ sym f)
  by_case true e false f =
      let some : Some q ≡ None = rw (e, f) at none in let no_value : ⊥ = cc in no_value
  by_case false e true f =
      let some : Some p ≡ None = rw (e, f) at none in let no_value : ⊥ = cc in no_value
  by_case false e false f = apart (e ∙ sym f)

first_mean : (sig : Signature) (vars : List (List ℕ × ℕ)) {u : Unfolded} {us : Unfoldeds}
    {p : Pattern} {ps : Patterns} → AllMean sig vars (and_more u us) (more_patterns p ps)
    → Means sig vars u p
first_mean sig vars (more_mean first rest) = first

rest_mean : (sig : Signature) (vars : List (List ℕ × ℕ)) {u : Unfolded} {us : Unfoldeds}
    {p : Pattern} {ps : Patterns} → AllMean sig vars (and_more u us) (more_patterns p ps)
    → AllMean sig vars us ps
rest_mean sig vars (more_mean first rest) = rest

-- what is built from an `\and` of two patterns
named_built : (sig : Signature) (old new : List (List ℕ × ℕ)) (at : ℕ) (s : SortTree)
    (u w : Unfolded) (p q : Pattern) (found : Option RulePat)
    → new ≡ with_all_variables sig old (and_more u (and_more w no_more)) → MeansFrom sig new u p
    → MeansFrom sig new w q → option_map plain_pattern found ≡ named_part p q
    → Built sig old new (both_of at s u w) found
named_built sig old new at s u w p q None grown first second is = λ good.
    part_there p q (λ same. good.1.0
    (sym (variable_meaning sig new (first new (extends-refl new))) ∙ same
    ∙ variable_meaning sig new (second new (extends-refl new)))) (sym is)
named_built sig old new at s u w p q (Some r) grown first second is =
    (grown, λ more ext. by_name (first more ext) (second more ext) (sym is))

pub pair_built : (sig : Signature) (old new : List (List ℕ × ℕ)) (at : ℕ) (s : SortTree)
    (u w : Unfolded) (ps : Patterns) (found : Option RulePat)
    → new ≡ with_all_variables sig old (and_more u (and_more w no_more))
    → AllMeanFrom sig new (and_more u (and_more w no_more)) ps
    → option_map plain_pattern found ≡ only_named ps → Built sig old new (both_of at s u w) found
pair_built sig old new at s u w no_pattern found grown all is =
    elim (all new (extends-refl new)) [ ]
pair_built sig old new at s u w (more_patterns p no_pattern) found grown all is =
    elim (rest_mean sig new (all new (extends-refl new))) [ ]
pair_built sig old new at s u w (more_patterns p (more_patterns q no_pattern)) found grown all is =
    named_built sig old new at s u w p q found grown (λ more ext. first_mean sig more (all more ext))
    (λ more ext. first_mean sig more (rest_mean sig more (all more ext))) is
pair_built sig old new at s u w (more_patterns p (more_patterns q (more_patterns r ps))) found grown
    all is =
    elim (rest_mean sig new (rest_mean sig new (all new (extends-refl new)))) [ ]

pub only_named-other : (ps : List RulePat) → (length ps ≡ 2 → ⊥)
    → only_named (plain_patterns ps) ≡ None
only_named-other [] other = refl
only_named-other (p ∷ []) other = refl
only_named-other (p ∷ (q ∷ [])) other = absurd (other refl)
only_named-other (p ∷ (q ∷ (r ∷ ps))) other = refl
