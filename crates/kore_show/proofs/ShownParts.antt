-- The Kore patterns of patterns, part by part.
use Rattle.std.proofs.Common.{◌≡◌, ◌+◌, ◌<◌, ℕ, zero, suc, List, [], ◌∷◌, ◌++◌, map, take, length}
use Rattle.std.proofs.Common.{get_or, Option, Some, None, IsSome, refl, subst, sym, ◌∙◌, ap, arith}
use Rattle.std.proofs.lemmas.List.{map_push, take_more}
use Rattle.kore_text.specs.Trees.{SortTree, PatternTree, PatternTrees, pattern_trees}
use Rattle.term_core.specs.RulePatterns.{sort_numbers, plain_pattern}
use Rattle.term_core.specs.PatternLists.{plain_patterns}
use Rattle.term_core.specs.declared.ids.SortId.{SortId}
use Rattle.term_core.specs.declared.rule_patterns.RulePat.{RulePat}
use Rattle.rule_core.specs.declared.signature.Signature.{Signature}
use Rattle.kore_ast.specs.declared.tree.Sort.{Sort}
use Rattle.kore_ast.specs.declared.tree.Pat.{Pat}
use Rattle.kore_ast.specs.Plain.{plain_sort}
use Rattle.kore_ast.specs.Plain.{pattern_tree as kore_tree}
use Rattle.kore_show.specs.KorePatterns.{kore_sort, with_sort, kore_sorts, in_front, kore_pattern}
use Rattle.kore_show.specs.KorePatterns.{kore_patterns}

pub both_there : (first : Option PatternTree) (others : Option PatternTrees)
    → IsSome (in_front first others) → IsSome first × IsSome others
both_there None others h = absurd (let no : ⊥ = cc in no)
both_there (Some p) None h = absurd (let no : ⊥ = cc in no)
both_there (Some p) (Some ps) h = (refl, refl)

pub both_sorts : (first : Option SortTree) (others : Option (List SortTree))
    → IsSome (with_sort first others) → IsSome first × IsSome others
both_sorts None others h = absurd (let no : ⊥ = cc in no)
both_sorts (Some s) None h = absurd (let no : ⊥ = cc in no)
both_sorts (Some s) (Some ss) h = (refl, refl)

-- if all patterns have Kore patterns, one of them has
pub item-shown : (sig : Signature) (ps : List RulePat) (i : ℕ) (p : RulePat) → p ≡ get_or ps i p
    → i < length ps → IsSome (kore_patterns sig (plain_patterns ps))
    → IsSome (kore_pattern sig (plain_pattern p))
item-shown sig [] i p e lt h = absurd (omega arith)
item-shown sig (q ∷ ps) zero p e lt h =
    subst (λ (r : RulePat). IsSome (kore_pattern sig (plain_pattern r))) (sym e)
    (both_there (kore_pattern sig (plain_pattern q)) (kore_patterns sig (plain_patterns ps)) h).0
item-shown sig (q ∷ ps) (suc i) p e lt h =
    item-shown sig ps i p e (omega arith) (both_there (kore_pattern sig (plain_pattern q))
    (kore_patterns sig (plain_patterns ps)) h).1

-- if all sorts are declared, one of them is
pub item-sort : (sig : Signature) (ss : List SortId) (i : ℕ) (s : SortId) → s ≡ get_or ss i s
    → i < length ss → IsSome (kore_sorts sig (sort_numbers ss)) → IsSome (kore_sort sig s.0)
item-sort sig [] i s e lt h = absurd (omega arith)
item-sort sig (q ∷ ss) zero s e lt h =
    subst (λ (r : SortId). IsSome (kore_sort sig r.0)) (sym e)
    (both_sorts (kore_sort sig q.0) (kore_sorts sig (sort_numbers ss)) h).0
item-sort sig (q ∷ ss) (suc i) s e lt h =
    item-sort sig ss i s e (omega arith)
    (both_sorts (kore_sort sig q.0) (kore_sorts sig (sort_numbers ss)) h).1

-- the Kore patterns of the single patterns are the Kore patterns of all
pub each-shown : (sig : Signature) (ps : List RulePat) (ts : List PatternTree)
    → map (λ (p : RulePat). kore_pattern sig (plain_pattern p)) ps
    ≡ map (λ (t : PatternTree). Some t) ts
    → kore_patterns sig (plain_patterns ps) ≡ Some (pattern_trees ts)
each-shown sig [] [] e = refl
each-shown sig [] (t ∷ ts) e = absurd (let no : ⊥ = cc in no)
each-shown sig (p ∷ ps) [] e = absurd (let no : ⊥ = cc in no)
each-shown sig (p ∷ ps) (t ∷ ts) e =
    let first : kore_pattern sig (plain_pattern p) ≡ Some t = cc in
    let others : map (λ (q : RulePat). kore_pattern sig (plain_pattern q)) ps ≡ map
    (λ (u : PatternTree). Some u) ts =
    cc in
    rw (first, each-shown sig ps ts others) refl

pub each-sort : (sig : Signature) (ss : List SortId) (ts : List SortTree)
    → map (λ (s : SortId). kore_sort sig s.0) ss ≡ map (λ (t : SortTree). Some t) ts
    → kore_sorts sig (sort_numbers ss) ≡ Some ts
each-sort sig [] [] e = refl
each-sort sig [] (t ∷ ts) e = absurd (let no : ⊥ = cc in no)
each-sort sig (s ∷ ss) [] e = absurd (let no : ⊥ = cc in no)
each-sort sig (s ∷ ss) (t ∷ ts) e =
    let first : kore_sort sig s.0 ≡ Some t = cc in
    let others : map (λ (q : SortId). kore_sort sig q.0) ss ≡ map (λ (u : SortTree). Some u) ts =
    cc in
    rw (first, each-sort sig ss ts others) refl

-- the same, with one more pattern
pub push-shown : (sig : Signature) (ps : List RulePat) (i : ℕ) (p : RulePat) (all new : List Pat)
    (made : Pat) → p ≡ get_or ps i p → i < length ps → new ≡ all ++ made ∷ []
    → map (λ (q : RulePat). kore_pattern sig (plain_pattern q)) (take i ps)
    ≡ map (λ (t : PatternTree). Some t) (map kore_tree all)
    → kore_pattern sig (plain_pattern p) ≡ Some (kore_tree made)
    → map (λ (q : RulePat). kore_pattern sig (plain_pattern q)) (take (i + 1) ps)
    ≡ map (λ (t : PatternTree). Some t) (map kore_tree new)
push-shown sig ps i p all new made e lt grown before one =
    let shown : RulePat → Option PatternTree = λ q. kore_pattern sig (plain_pattern q) in
    let some : PatternTree → Option PatternTree = λ t. Some t in
    let front : take (i + 1) ps ≡ take i ps ++ p ∷ [] =
    take_more ps i p lt ∙ ap (λ (q : RulePat). take i ps ++ q ∷ []) (sym e) in
    rw (
      front,
      grown,
      map_push shown (take i ps) p,
      map_push kore_tree all made,
      map_push some (map kore_tree all) (kore_tree made),
      before,
      one,
    ) refl

pub push-sort : (sig : Signature) (ss : List SortId) (i : ℕ) (s : SortId) (all new : List Sort)
    (made : Sort) → s ≡ get_or ss i s → i < length ss → new ≡ all ++ made ∷ []
    → map (λ (q : SortId). kore_sort sig q.0) (take i ss)
    ≡ map (λ (t : SortTree). Some t) (map plain_sort all)
    → kore_sort sig s.0 ≡ Some (plain_sort made)
    → map (λ (q : SortId). kore_sort sig q.0) (take (i + 1) ss)
    ≡ map (λ (t : SortTree). Some t) (map plain_sort new)
push-sort sig ss i s all new made e lt grown before one =
    let shown : SortId → Option SortTree = λ q. kore_sort sig q.0 in
    let some : SortTree → Option SortTree = λ t. Some t in
    let front : take (i + 1) ss ≡ take i ss ++ s ∷ [] =
    take_more ss i s lt ∙ ap (λ (q : SortId). take i ss ++ q ∷ []) (sym e) in
    rw (
      front,
      grown,
      map_push shown (take i ss) s,
      map_push plain_sort all made,
      map_push some (map plain_sort all) (plain_sort made),
      before,
      one,
    ) refl
