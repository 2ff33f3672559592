-- One more argument, and one more sort argument.
use Rattle.std.proofs.Common.{◌≡◌, ℕ, ◌+◌, ◌<◌, List, [], ◌∷◌, ◌++◌, Option, Some, refl, sym, ◌∙◌}
use Rattle.std.proofs.Common.{ap, length, take, get_or, map, zero, suc, arith}
use Rattle.std.proofs.lemmas.List.{take_more, map-append}
use Rattle.ml_pat.specs.Patterns.{Pattern, app, at_sort}
use Rattle.term_core.specs.Patterns.{Pattern as RulePattern}
use Rattle.term_core.specs.Instances.{patterns}
use Rattle.term_core.specs.RulePatterns.{plain_pattern, sort_numbers}
use Rattle.term_core.specs.PatternLists.{plain_patterns}
use Rattle.term_core.specs.declared.rule_patterns.RulePat.{RulePat}
use Rattle.term_core.specs.declared.ids.SortId.{SortId}
use Rattle.rule_core.specs.declared.signature.Signature.{Signature}
use Rattle.ml_image.specs.Tokens.{token_of_sort, number_in_names}
use Rattle.rule_core.specs.Sorting.{AreSorts}
use Rattle.ml_image.specs.Images.{both, at_sorts, image_of, applied, renamed, all_renamed}
use Rattle.ml_image.specs.HasImages.{HasImage, HaveImages}
use Rattle.ml_image.specs.Gained.{HasGained}
use Rattle.ml_image.proofs.ImageLaws.{gained-at_sorts, gained-applied}

applied-push : (sig : Signature) (names : List (List ℕ)) (g : ℕ → ℕ) (ps : List RulePattern)
    (p : RulePattern) (head : Option Pattern)
    → applied sig names head (all_renamed g (patterns (ps ++ p ∷ [])))
    ≡ both app (applied sig names head (all_renamed g (patterns ps)))
    (image_of sig names (renamed g p))
applied-push sig names g [] p head = refl
applied-push sig names g (q ∷ ps) p head =
    applied-push sig names g ps p (both app head (image_of sig names (renamed g q)))

pub applied-next : (sig : Signature) (old new : List (List ℕ)) (g : ℕ → ℕ) (head : Pattern)
    (ps : List RulePat) (i : ℕ) (p : RulePat) (made a : Pattern) → HasGained sig old new
    → i < length ps → p ≡ get_or ps i p
    → applied sig old (Some head) (all_renamed g (plain_patterns (take i ps))) ≡ Some made
    → image_of sig new (renamed g (plain_pattern p)) ≡ Some a
    → applied sig new (Some head) (all_renamed g (plain_patterns (take (i + 1) ps)))
    ≡ Some (app made a)
applied-next sig old new g head ps i p made a gained lt e before arg =
    let front : take (i + 1) ps ≡ take i ps ++ p ∷ [] =
    take_more ps i p lt ∙ ap (λ (q : RulePat). take i ps ++ q ∷ []) (sym e) in
    let listed : map plain_pattern (take (i + 1) ps) ≡ map plain_pattern (take i ps) ++
    plain_pattern p ∷ [] =
    ap (λ (qs : List RulePat). map plain_pattern qs) front
    ∙ map-append plain_pattern (take i ps) (p ∷ []) in
    let kept : applied sig new (Some head) (all_renamed g (plain_patterns (take i ps))) ≡ Some
    made =
    gained-applied sig old new (all_renamed g (plain_patterns (take i ps))) (Some head) (Some head)
    gained (λ q h. h) made before in
    ap (λ (qs : List RulePattern). applied sig new (Some head) (all_renamed g (patterns qs))) listed
    ∙ applied-push sig new g (map plain_pattern (take i ps)) (plain_pattern p) (Some head)
    ∙ ap (λ (o : Option Pattern). both app o (image_of sig new (renamed g (plain_pattern p)))) kept
    ∙ ap (λ (o : Option Pattern). both app (Some made) o) arg

at_sorts-push : (sig : Signature) (names : List (List ℕ)) (ss : List ℕ) (s : ℕ)
    (head : Option Pattern)
    → at_sorts sig names head (ss ++ s ∷ [])
    ≡ both at_sort (at_sorts sig names head ss) (number_in_names names (token_of_sort sig s))
at_sorts-push sig names [] s head = refl
at_sorts-push sig names (r ∷ ss) s head =
    at_sorts-push sig names ss s (both at_sort head (number_in_names names (token_of_sort sig r)))

pub at_sorts-next : (sig : Signature) (old new : List (List ℕ)) (head : Pattern) (ss : List SortId)
    (i : ℕ) (s : SortId) (made : Pattern) (n : ℕ) → HasGained sig old new → i < length ss
    → s ≡ get_or ss i s → at_sorts sig old (Some head) (sort_numbers (take i ss)) ≡ Some made
    → number_in_names new (token_of_sort sig s.0) ≡ Some n
    → at_sorts sig new (Some head) (sort_numbers (take (i + 1) ss)) ≡ Some (at_sort made n)
at_sorts-next sig old new head ss i s made n g lt e before there =
    let front : take (i + 1) ss ≡ take i ss ++ s ∷ [] =
    take_more ss i s lt ∙ ap (λ (q : SortId). take i ss ++ q ∷ []) (sym e) in
    let listed : sort_numbers (take (i + 1) ss) ≡ sort_numbers (take i ss) ++ s.0 ∷ [] =
    ap (λ (qs : List SortId). sort_numbers qs) front
    ∙ map-append (λ (t : SortId). t.0) (take i ss) (s ∷ []) in
    let kept : at_sorts sig new (Some head) (sort_numbers (take i ss)) ≡ Some made =
    gained-at_sorts sig old new (sort_numbers (take i ss)) (Some head) (Some head) g (λ q h. h) made
    before in
    ap (λ (qs : List ℕ). at_sorts sig new (Some head) qs) listed
    ∙ at_sorts-push sig new (sort_numbers (take i ss)) s.0 (Some head)
    ∙ ap (λ (o : Option Pattern). both at_sort o (number_in_names new (token_of_sort sig s.0))) kept
    ∙ ap (λ (o : Option ℕ). both at_sort (Some made) o) there

-- the conditions of one argument and of one sort
pub image-item : (sig : Signature) (n : ℕ) (ps : List RulePat) (i : ℕ) (p : RulePat)
    → HaveImages sig n (plain_patterns ps) → i < length ps → p ≡ get_or ps i p
    → HasImage sig n (plain_pattern p)
image-item sig n [] i p h lt e = absurd (omega (arith, lt))
image-item sig n (q ∷ ps) zero p h lt e = rw e h.0
image-item sig n (q ∷ ps) (suc i) p h lt e = image-item sig n ps i p h.1 (omega (arith, lt)) e

pub sort-item : (sig : Signature) (ss : List SortId) (i : ℕ) (s : SortId)
    → AreSorts sig (sort_numbers ss) → i < length ss → s ≡ get_or ss i s → s.0 < length sig.sorts
sort-item sig [] i s h lt e = absurd (omega (arith, lt))
sort-item sig (r ∷ ss) zero s h lt e = rw e h.0
sort-item sig (r ∷ ss) (suc i) s h lt e = sort-item sig ss i s h.1 (omega (arith, lt)) e
