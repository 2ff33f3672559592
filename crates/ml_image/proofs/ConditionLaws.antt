-- Conditions under which patterns have images, with more variables, and the sentences of
-- conditions.
use Rattle.std.proofs.Common.{◌≡◌, ℕ, ◌≤◌, zero, suc, List, [], ◌∷◌, Option, Some, None}
use Rattle.std.proofs.Common.{option_map, Result, IfOk, refl, sym, ◌∙◌, ap, length, slice_get}
use Rattle.std.proofs.Common.{true, arith}
use Rattle.ml_pat.specs.Patterns.{Pattern, equal, constant}
use Rattle.ml_pat.specs.Patterns as logic
use Rattle.term_core.specs.Terms.{truth}
use Rattle.term_core.specs.Patterns.{Pattern as RulePattern, Patterns as RulePatterns, variable}
use Rattle.term_core.specs.Patterns.{domain_value, application, injection, call, no_pattern}
use Rattle.term_core.specs.Patterns.{more_patterns}
use Rattle.rule_core.specs.ProgramView.{sorts_of}
use Rattle.rule_core.specs.declared.rules.VarInfo.{VarInfo}
use Rattle.rule_core.specs.declared.signature.Signature.{Signature}
use Rattle.ml_image.specs.Tokens.{token_of_value, number_in_names}
use Rattle.ml_image.specs.Images.{both, image_of, renamed}
use Rattle.ml_image.specs.Sentences.{term, top, sentence_image}
use Rattle.ml_image.specs.Premises.{sort_of, is_true}
use Rattle.ml_image.specs.LastResorts.{condition_renamed}
use Rattle.ml_image.specs.HasImages.{HasImage, HaveImages}
use Rattle.ml_image.specs.Counted.{IsConditionImage}
use Rattle.ml_image.specs.Gained.{HasGained}
use Rattle.ml_image.proofs.ImageLaws.{if_ok}
use Rattle.ml_image.proofs.NamingLaws.{gained-sentence}

mutual
  pub HasImage-more : (sig : Signature) (n m : ℕ) (p : RulePattern) → n ≤ m → HasImage sig n p
      → HasImage sig m p
  HasImage-more sig n m (variable x) le h = omega (arith, le, h)
  HasImage-more sig n m (domain_value s v) le h = h
  HasImage-more sig n m (application f ps) le h = (h.0, HaveImages-more sig n m ps le h.1)
  HasImage-more sig n m (injection a b p) le h = (h.0, h.1, HasImage-more sig n m p le h.2)
  HasImage-more sig n m (call f ss ps) le h = (h.0, h.1, HaveImages-more sig n m ps le h.2)

  pub HaveImages-more : (sig : Signature) (n m : ℕ) (ps : RulePatterns) → n ≤ m
      → HaveImages sig n ps → HaveImages sig m ps
  HaveImages-more sig n m no_pattern le h = tt
  HaveImages-more sig n m (more_patterns p ps) le h =
      (HasImage-more sig n m p le h.0, HaveImages-more sig n m ps le h.1)

pub length-sorts_of : (vars : List VarInfo) → length (sorts_of vars) ≡ length vars
length-sorts_of [] = refl
length-sorts_of (v ∷ vars) = ap suc (length-sorts_of vars)

pub sorts_of-get : (vars : List VarInfo) (x : ℕ)
    → slice_get (sorts_of vars) x ≡ option_map (λ (v : VarInfo). v.sort.0) (slice_get vars x)
sorts_of-get [] x = refl
sorts_of-get (v ∷ vars) zero = refl
sorts_of-get (v ∷ vars) (suc x) = sorts_of-get vars x

pub nothing_said : {E : Type 0} (sig : Signature) (names : List (List ℕ)) (sorts : List ℕ) (g : ℕ →
    ℕ)
    (condition : Option RulePattern) (result : Result Pattern E) → condition ≡ None
    → IfOk result (λ p. p ≡ logic.top) → IfOk result (IsConditionImage sig names sorts g condition)
nothing_said sig names sorts g condition result none made =
    if_ok (λ (p : Pattern). p ≡ logic.top) (IsConditionImage sig names sorts g condition) result
    (λ p is. (top, ap (condition_renamed sig g sorts) none, ap (λ (q : Pattern). Some q) (sym is)))
    made

pub truth_said : {E : Type 0} (sig : Signature) (n1 n2 : List (List ℕ)) (sorts : List ℕ) (g : ℕ → ℕ)
    (q : RulePattern) (s t : ℕ) (held value : Pattern) (result : Result Pattern E)
    → HasGained sig n1 n2 → sort_of sig sorts q ≡ Some s → image_of sig n1 (renamed g q) ≡ Some held
    → number_in_names n2 (token_of_value sig s (truth true)) ≡ Some t → value ≡ constant t
    → IfOk result (λ p. p ≡ equal held value)
    → IfOk result (IsConditionImage sig n2 sorts g (Some q))
truth_said sig n1 n2 sorts g q s t held value result gained sort image number is made =
    let held' : sentence_image sig n2 (term (renamed g q)) ≡ Some held =
    gained-sentence sig n1 n2 (term (renamed g q)) gained held image in
    let whole : sentence_image sig n2 (is_true (renamed g q) s) ≡ Some (equal held (constant t)) =
    ap (λ (o : Option Pattern).
    both equal o (option_map constant (number_in_names n2 (token_of_value sig s (truth true)))))
    held'
    ∙ ap (λ (o : Option ℕ). both equal (Some held) (option_map constant o)) number in
    if_ok (λ (p : Pattern). p ≡ equal held value) (IsConditionImage sig n2 sorts g (Some q)) result
    (λ p e. (
      is_true (renamed g q) s,
      ap (option_map (is_true (renamed g q))) sort,
      whole
          ∙ ap (λ (v : Pattern). Some (equal held v)) (sym is)
          ∙ ap (λ (r : Pattern). Some r) (sym e),
    )) made
