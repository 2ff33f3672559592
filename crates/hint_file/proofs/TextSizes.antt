-- The canonical text of a term has at least one byte for each of the term's nodes.
use Rattle.std.proofs.Common.{◌≡◌, ℕ, ◌+◌, ◌<◌, ◌≤◌, List, [], ◌∷◌, length, Option, Some, None}
use Rattle.std.proofs.Common.{refl}
use Rattle.std.proofs.Common.{ap, subst, arith}
use Rattle.std.specs.Prelude.{option_map, false}
use Rattle.std.proofs.lemmas.List.{length-append}
use Rattle.term_core.specs.Terms.{Tree, leaf, node, inj, Forest, no_tree, more_trees, DomainValue}
use Rattle.term_core.specs.Forests.{size, sizes}
use Rattle.term_core.specs.Patterns.{ground_pattern, ground_patterns}
use Rattle.term_core.specs.ValueTexts.{value_text}
use Rattle.rule_core.specs.declared.signature.Signature.{Signature}
use Rattle.kore_text.specs.TokenStream.{KoreToken, identifier, mark, string_token}
use Rattle.kore_text.specs.Trees.{SortTree, SortTrees, sort_parameter, sort_applied, no_sorts}
use Rattle.kore_text.specs.Trees.{sort_then, sort_trees, PatternTree, PatternTrees, symbol_applied}
use Rattle.kore_text.specs.Trees.{value_written, no_patterns, pattern_then}
use Rattle.kore_text.specs.Grammar.{Requirement, Spelling, any, placed, listed, more_listed}
use Rattle.kore_text.specs.Grammar.{spell_sort, spell_sorts, spell_pattern, spell_patterns}
use Rattle.kore_print.specs.CanonicalText.{text_of, canonical_text}
use Rattle.kore_print.specs.TokenText.{token_text}
use Rattle.kore_show.specs.KorePatterns.{kore_pattern, kore_patterns, kore_sort, kore_sorts}
use Rattle.kore_show.specs.KorePatterns.{kore_value, applied_tree, in_front, declared_name}
use Rattle.kore_show.specs.KorePatterns.{injection_name}
use Rattle.hint_file.specs.HintTexts.{shown_text}

pub some_node : (t : Tree) → 0 < size t
some_node (leaf s v) = omega arith
some_node (node f ts) = omega arith
some_node (inj a b t) = omega arith

-- what is spelled has at least so many bytes more than what follows it
abbrev Adds : ℕ → Spelling → Type 0
Adds n f = (k : List Requirement) → n + length (text_of k) ≤ length (text_of (f k))

token_adds : (t : KoreToken) (k : List Requirement)
    → length (text_of k) ≤ length (text_of (any t ∷ k))
token_adds t k = omega (arith, length-append (token_text t) (text_of k))

mutual
  sort_adds : (s : SortTree) → Adds 0 (spell_sort s)
  sort_adds (sort_parameter at n) = λ k. omega (arith, token_adds (identifier n) k)
  sort_adds (sort_applied at n ss) =
      λ k. omega (
        arith,
        length-append n (123 ∷ text_of (listed (spell_sorts ss) 125 k)),
        sorts_add ss 125 k,
      )

  sorts_add : (ss : SortTrees) (close : ℕ) → Adds 1 (listed (spell_sorts ss) close)
  sorts_add no_sorts close = λ k. omega arith
  sorts_add (sort_then s ss) close =
      λ k. omega (
        arith,
        sort_adds s (more_listed (spell_sorts ss) close k),
        later_sorts_add ss close k,
      )

  later_sorts_add : (ss : SortTrees) (close : ℕ) → Adds 1 (more_listed (spell_sorts ss) close)
  later_sorts_add no_sorts close = λ k. omega arith
  later_sorts_add (sort_then s ss) close =
      λ k. omega (
        arith,
        sort_adds s (more_listed (spell_sorts ss) close k),
        later_sorts_add ss close k,
      )

value_adds : (o : Option SortTree) (v : DomainValue) (p : PatternTree) → kore_value o v ≡ Some p
    → Adds 1 (spell_pattern false p)
value_adds None v p h = absurd (let no : ⊥ = cc in no)
value_adds (Some s) v p h =
    let same : value_written 0 s (value_text v) 0 ≡ p = cc in
    subst (λ (q : PatternTree). Adds 1 (spell_pattern false q)) same (λ k. omega (
      arith,
      sort_adds s (any (mark 125) ∷ any (mark 40) ∷ placed 0 (string_token (value_text v))
          ∷ any (mark 41) ∷ k),
      length-append (token_text (string_token (value_text v))) (41 ∷ text_of k),
    ))

applied_adds : (n : ℕ) (name : Option (List ℕ)) (sorts : Option (List SortTree))
    (args : Option PatternTrees) (p : PatternTree) → applied_tree name sorts args ≡ Some p
    → ((ps : PatternTrees) → args ≡ Some ps → Adds n (listed (spell_patterns false ps) 41))
    → Adds (n + 1) (spell_pattern false p)
applied_adds n None sorts args p h adds = absurd (let no : ⊥ = cc in no)
applied_adds n (Some name) None args p h adds = absurd (let no : ⊥ = cc in no)
applied_adds n (Some name) (Some ss) None p h adds = absurd (let no : ⊥ = cc in no)
applied_adds n (Some name) (Some ss) (Some ps) p h adds =
    let same : symbol_applied 0 name (sort_trees ss) ps ≡ p = cc in
    subst (λ (q : PatternTree). Adds (n + 1) (spell_pattern false q)) same (λ k. omega (
      arith,
      length-append name (123 ∷ text_of (listed (spell_sorts (sort_trees ss)) 125
          (any (mark 40) ∷ listed (spell_patterns false ps) 41 k))),
      sorts_add (sort_trees ss) 125 (any (mark 40) ∷ listed (spell_patterns false ps) 41 k),
      adds ps refl k,
    ))

record Front (o : Option PatternTree) (os : Option PatternTrees) (qs : PatternTrees) : Type 0 where
  first : PatternTree
  rest : PatternTrees
  first_is : o ≡ Some first
  rest_is : os ≡ Some rest
  whole : pattern_then first rest ≡ qs

front : (o : Option PatternTree) (os : Option PatternTrees) (qs : PatternTrees)
    → in_front o os ≡ Some qs → Front o os qs
front None os qs h = absurd (let no : ⊥ = cc in no)
front (Some p) None qs h = absurd (let no : ⊥ = cc in no)
front (Some p) (Some ps) qs h =
    let same : pattern_then p ps ≡ qs = cc in
    record { first = p; rest = ps; first_is = refl; rest_is = refl; whole = same }

one_adds : (n : ℕ) (o : Option PatternTree) (ps : PatternTrees)
    → in_front o (Some no_patterns) ≡ Some ps
    → ((q : PatternTree) → o ≡ Some q → Adds n (spell_pattern false q))
    → Adds n (listed (spell_patterns false ps) 41)
one_adds n o ps h adds =
    let parts = front o (Some no_patterns) ps h in
    let none : no_patterns ≡ parts.rest = let e = parts.rest_is in cc in
    subst (λ (qs : PatternTrees). Adds n (listed (spell_patterns false qs) 41)) parts.whole
    (subst (λ (qs : PatternTrees).
    Adds n (listed (spell_patterns false (pattern_then parts.first qs)) 41)) none
    (λ k. omega (arith, adds parts.first parts.first_is (any (mark 41) ∷ k))))

mutual
  tree_adds : (sig : Signature) (t : Tree) (p : PatternTree)
      → kore_pattern sig (ground_pattern t) ≡ Some p → Adds (size t) (spell_pattern false p)
  tree_adds sig (leaf s v) p h = value_adds (kore_sort sig s) v p h
  tree_adds sig (node f ts) p h =
      applied_adds (sizes ts) (declared_name sig.symbols f) (Some [])
      (kore_patterns sig (ground_patterns ts)) p h (λ ps is. forest_adds sig ts ps is)
  tree_adds sig (inj a b t) p h =
      applied_adds (size t) (injection_name sig.symbols) (kore_sorts sig (a ∷ (b ∷ [])))
      (in_front (kore_pattern sig (ground_pattern t)) (Some no_patterns)) p h
      (λ ps is. one_adds (size t) (kore_pattern sig (ground_pattern t)) ps is
      (λ q its. tree_adds sig t q its))

  forest_adds : (sig : Signature) (ts : Forest) (ps : PatternTrees)
      → kore_patterns sig (ground_patterns ts) ≡ Some ps
      → Adds (sizes ts) (listed (spell_patterns false ps) 41)
  forest_adds sig no_tree ps h =
      let same : no_patterns ≡ ps = cc in
      subst (λ (qs : PatternTrees). Adds 0 (listed (spell_patterns false qs) 41)) same
      (λ k. omega arith)
  forest_adds sig (more_trees t ts) ps h =
      let parts =
      front (kore_pattern sig (ground_pattern t)) (kore_patterns sig (ground_patterns ts)) ps h in
      subst (λ (qs : PatternTrees). Adds (size t + sizes ts) (listed (spell_patterns false qs) 41))
      parts.whole (λ k. omega (
        arith,
        tree_adds sig t parts.first parts.first_is
            (more_listed (spell_patterns false parts.rest) 41 k),
        later_adds sig ts parts.rest parts.rest_is k,
      ))

  later_adds : (sig : Signature) (ts : Forest) (ps : PatternTrees)
      → kore_patterns sig (ground_patterns ts) ≡ Some ps
      → Adds (sizes ts) (more_listed (spell_patterns false ps) 41)
  later_adds sig no_tree ps h =
      let same : no_patterns ≡ ps = cc in
      subst (λ (qs : PatternTrees). Adds 0 (more_listed (spell_patterns false qs) 41)) same
      (λ k. omega arith)
  later_adds sig (more_trees t ts) ps h =
      let parts =
      front (kore_pattern sig (ground_pattern t)) (kore_patterns sig (ground_patterns ts)) ps h in
      subst (λ (qs : PatternTrees).
      Adds (size t + sizes ts) (more_listed (spell_patterns false qs) 41)) parts.whole (λ k. omega (
        arith,
        tree_adds sig t parts.first parts.first_is
            (more_listed (spell_patterns false parts.rest) 41 k),
        later_adds sig ts parts.rest parts.rest_is k,
      ))

-- the text of a term is at least as long as the term has nodes
pub text_is_long : (sig : Signature) (t : Tree) (text : List ℕ)
    → shown_text sig (ground_pattern t) ≡ Some text → size t ≤ length text
text_is_long sig t text h = by (kore_pattern sig (ground_pattern t)) refl h where
  by : (o : Option PatternTree) → kore_pattern sig (ground_pattern t) ≡ o
      → option_map canonical_text o ≡ Some text → size t ≤ length text
  by None is h = absurd (let no : ⊥ = cc in no)
  by (Some p) is h =
      let same : canonical_text p ≡ text = cc in
      omega (arith, tree_adds sig t p is [], ap length same)
