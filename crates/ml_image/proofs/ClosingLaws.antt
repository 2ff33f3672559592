-- Quantifiers, added one by one, and variables as arguments.
use Rattle.std.proofs.Common.{◌≡◌, ℕ, ◌+◌, ◌<◌, zero, suc, List, [], ◌∷◌, ◌++◌}
use Rattle.std.proofs.Common.{Option, Some, refl, sym, ◌∙◌, ap, subst, length, take, drop, get_or}
use Rattle.std.proofs.Common.{map, arith}
use Rattle.std.proofs.lemmas.List.{take_more, map-append}
use Rattle.ml_pat.specs.Patterns.{Pattern, app, and, var, ex, all}
use Rattle.term_core.specs.RulePatterns.{sort_numbers}
use Rattle.term_core.specs.declared.ids.SortId.{SortId}
use Rattle.rule_core.specs.ProgramView.{sorts_of}
use Rattle.rule_core.specs.declared.rules.VarInfo.{VarInfo}
use Rattle.rule_core.specs.declared.signature.Signature.{Signature}
use Rattle.rule_core.specs.declared.signature.SortRef.{SortRef}
use Rattle.rule_core.specs.declared.signature.SortRef.TheVariants.{Param, Sort}
use Rattle.ml_image.specs.Images.{both, sort_image}
use Rattle.ml_image.specs.Sentences.{Sentence, sentence_image, for_all, for_some, variables}
use Rattle.ml_image.specs.Sentences.{apply_all, conjunctions}
use Rattle.ml_image.specs.OwnAxioms.{sort_numbered}
use Rattle.ml_image.specs.Counted.{at_variables, at_pairs}
use Rattle.ml_image.specs.Gained.{HasGained}
use Rattle.ml_image.proofs.NamingLaws.{gained-sentence}

-- ---- lists of sorts

numbers-drop : (ss : List SortId) (j : ℕ) (d : SortId) → j < length ss
    → drop j (sort_numbers ss) ≡ (get_or ss j d).0 ∷ drop (j + 1) (sort_numbers ss)
numbers-drop [] j d low = absurd (omega (arith, low))
numbers-drop (s ∷ ss) zero d low = refl
numbers-drop (s ∷ ss) (suc j) d low =
    let further : suc (j + 1) ≡ suc j + 1 = omega arith in
    numbers-drop ss j d (omega (arith, low))
    ∙ ap (λ (k : ℕ). (get_or ss j d).0 ∷ drop k (sort_numbers (s ∷ ss))) further

pub drop-numbers : (ss : List SortId) → drop (length ss) (sort_numbers ss) ≡ []
drop-numbers [] = refl
drop-numbers (s ∷ ss) = drop-numbers ss

pub sorts_of-next : (vars : List VarInfo) (i : ℕ) (v : VarInfo) (sorts : List SortId)
    → i < length vars → v ≡ get_or vars i v → sort_numbers sorts ≡ sorts_of (take i vars)
    → sort_numbers (sorts ++ v.sort ∷ []) ≡ sorts_of (take (i + 1) vars)
sorts_of-next vars i v sorts low is before =
    let front : take (i + 1) vars ≡ take i vars ++ v ∷ [] =
    take_more vars i v low ∙ ap (λ (u : VarInfo). take i vars ++ u ∷ []) (sym is) in
    map-append (λ (s : SortId). s.0) sorts (v.sort ∷ [])
    ∙ ap (λ (ns : List ℕ). ns ++ v.sort.0 ∷ []) before
    ∙ sym (map-append (λ (u : VarInfo). u.sort.0) (take i vars) (v ∷ [])) ∙ sym (ap sorts_of front)

pub named-next : (refs : List SortRef) (i : ℕ) (s : SortId) (d : SortRef) (sorts : List SortId)
    → i < length refs → get_or refs i d ≡ Sort s → take i refs
    ≡ map sort_numbered (sort_numbers sorts)
    → take (i + 1) refs ≡ map sort_numbered (sort_numbers (sorts ++ s ∷ []))
named-next refs i s d sorts low is before =
    let ends : map sort_numbered (sort_numbers (sorts ++ s ∷ []))
    ≡ map sort_numbered (sort_numbers sorts) ++ Sort s
    ∷ [] =
    ap (map sort_numbered) (map-append (λ (t : SortId). t.0) sorts (s ∷ []))
    ∙ map-append sort_numbered (sort_numbers sorts) (s.0 ∷ []) in
    take_more refs i d low ∙ ap (λ (r : SortRef). take i refs ++ r ∷ []) is
    ∙ ap (λ (rs : List SortRef). rs ++ Sort s ∷ []) before ∙ sym ends

named_item : (sorts : List ℕ) (i k : ℕ) (d : SortRef) → i < length (map sort_numbered sorts)
    → get_or (map sort_numbered sorts) i d ≡ Param k → ⊥
named_item [] i k d low is = absurd (omega (arith, low))
named_item (s ∷ sorts) zero k d low is = cc
named_item (s ∷ sorts) (suc i) k d low is = named_item sorts i k d (omega (arith, low)) is

pub no_parameter : (refs : List SortRef) (sorts : List ℕ) (i k : ℕ) (d : SortRef)
    → refs ≡ map sort_numbered sorts → i < length refs → get_or refs i d ≡ Param k → ⊥
no_parameter refs sorts i k d are low is =
    named_item sorts i k d (subst (λ (rs : List SortRef). i < length rs) are low)
    (ap (λ (rs : List SortRef). get_or rs i d) (sym are) ∙ is)

-- ---- one more quantifier in front

pub closed-next : (sig : Signature) (old new : List (List ℕ)) (ss : List SortId) (i j : ℕ)
    (d : SortId) (s : Sentence) (made : Pattern) (n : ℕ) → i ≡ j + 1 → j < length ss
    → HasGained sig old new
    → sentence_image sig old (for_all i (drop i (sort_numbers ss)) s) ≡ Some made
    → sort_image sig new (get_or ss j d).0 ≡ Some n
    → sentence_image sig new (for_all j (drop j (sort_numbers ss)) s) ≡ Some (all j n made)
closed-next sig old new ss i j d s made n is low gained before sort =
    let below : sentence_image sig new (for_all (j + 1) (drop (j + 1) (sort_numbers ss)) s) ≡ Some
    made =
    ap (λ (k : ℕ). sentence_image sig new (for_all k (drop k (sort_numbers ss)) s)) (sym is)
    ∙ gained-sentence sig old new (for_all i (drop i (sort_numbers ss)) s) gained made before in
    ap (λ (ns : List ℕ). sentence_image sig new (for_all j ns s)) (numbers-drop ss j d low)
    ∙ ap (λ (o : Option ℕ). both (all j) o
    (sentence_image sig new (for_all (j + 1) (drop (j + 1) (sort_numbers ss)) s))) sort
    ∙ ap (λ (o : Option Pattern). both (all j) (Some n) o) below

-- the same for existential quantifiers, whose variables are numbered from k
pub some_closed-next : (sig : Signature) (old new : List (List ℕ)) (ss : List SortId)
    (k i j : ℕ) (d : SortId) (s : Sentence) (made : Pattern) (n : ℕ) → i ≡ j + 1 → j < length ss
    → HasGained sig old new
    → sentence_image sig old (for_some (k + i) (drop i (sort_numbers ss)) s) ≡ Some made
    → sort_image sig new (get_or ss j d).0 ≡ Some n
    → sentence_image sig new (for_some (k + j) (drop j (sort_numbers ss)) s)
    ≡ Some (ex (k + j) n made)
some_closed-next sig old new ss k i j d s made n is low gained before sort =
    let further : k + i ≡ k + j + 1 = omega (arith, is) in
    let below : sentence_image sig new
    (for_some (k + j + 1) (drop (j + 1) (sort_numbers ss)) s) ≡ Some made =
    ap (λ (m : ℕ). sentence_image sig new
    (for_some m (drop (j + 1) (sort_numbers ss)) s)) (sym further)
    ∙ ap (λ (m : ℕ). sentence_image sig new (for_some (k + i) (drop m (sort_numbers ss)) s))
    (sym is)
    ∙ gained-sentence sig old new (for_some (k + i) (drop i (sort_numbers ss)) s) gained made
    before in
    ap (λ (ns : List ℕ). sentence_image sig new (for_some (k + j) ns s)) (numbers-drop ss j d low)
    ∙ ap (λ (o : Option ℕ). both (ex (k + j)) o (sentence_image sig new
    (for_some (k + j + 1) (drop (j + 1) (sort_numbers ss)) s))) sort
    ∙ ap (λ (o : Option Pattern). both (ex (k + j)) (Some n) o) below

-- ---- applications to variables

pub at_variables-push : (n k : ℕ) (head : Pattern)
    → at_variables head k (suc n) ≡ app (at_variables head k n) (var (k + n))
at_variables-push zero k head = ap (λ (x : ℕ). app head (var x)) (omega arith)
at_variables-push (suc n) k head = at_variables-push n (k + 1) (app head (var k))
    ∙ ap (λ (x : ℕ). app (at_variables (app head (var k)) (k + 1) n) (var x)) (omega arith)

pub at_pairs-push : (n k m : ℕ) (head : Pattern)
    → at_pairs head k m (suc n) ≡ app (at_pairs head k m n) (and (var (k + n)) (var (m + n)))
at_pairs-push zero k m head = ap (λ (x : ℕ). app head (and (var x) (var m))) (omega arith)
    ∙ ap (λ (x : ℕ). app head (and (var (k + 0)) (var x))) (omega arith)
at_pairs-push (suc n) k m head =
    at_pairs-push n (k + 1) (m + 1) (app head (and (var k) (var m)))
    ∙ ap (λ (x : ℕ). app (at_pairs (app head (and (var k) (var m))) (k + 1) (m + 1) n)
    (and (var x) (var (m + 1 + n)))) (omega arith)
    ∙ ap (λ (x : ℕ). app (at_pairs (app head (and (var k) (var m))) (k + 1) (m + 1) n)
    (and (var (k + suc n)) (var x))) (omega arith)

pub variables_image : (sig : Signature) (names : List (List ℕ)) (n k : ℕ) (s : Sentence)
    (head : Pattern) → sentence_image sig names s ≡ Some head
    → sentence_image sig names (apply_all s (variables k n)) ≡ Some (at_variables head k n)
variables_image sig names zero k s head is = is
variables_image sig names (suc n) k s head is =
    variables_image sig names n (k + 1) _ (app head (var k))
    (ap (λ (o : Option Pattern). both app o (Some (var k))) is)

pub pairs_image : (sig : Signature) (names : List (List ℕ)) (n k m : ℕ) (s : Sentence)
    (head : Pattern) → sentence_image sig names s ≡ Some head
    → sentence_image sig names (apply_all s (conjunctions (variables k n) (variables m n)))
    ≡ Some (at_pairs head k m n)
pairs_image sig names zero k m s head is = is
pairs_image sig names (suc n) k m s head is =
    pairs_image sig names n (k + 1) (m + 1) _ (app head (and (var k) (var m)))
    (ap (λ (o : Option Pattern). both app o (Some (and (var k) (var m)))) is)
