-- Terms for an equation's parameters, before those for its variables.
use Rattle.std.proofs.Common.{◌≡◌, ◌≤◌, ◌+◌, ℕ, zero, suc, List, [], ◌∷◌, ◌++◌, Option, Some}
use Rattle.std.proofs.Common.{None, Bool, true, false, length, length-append, append_assoc, map}
use Rattle.std.proofs.Common.{refl, sym, ◌∙◌, ap, subst, arith}
use Rattle.std.specs.Prelude.{if◌then◌else◌}
use Rattle.std.specs.List.{AllZip}
use Rattle.ml_kernel.specs.Theorems.{Theorem}
use Rattle.term_core.specs.Terms.{Tree, IsNormal}
use Rattle.term_core.specs.Forests.{forest}
use Rattle.term_core.specs.Patterns.{Pattern as RulePattern, Patterns as RulePatterns, variable}
use Rattle.term_core.specs.Patterns.{domain_value, application, injection, call, no_pattern}
use Rattle.term_core.specs.Patterns.{more_patterns, binding, ground_pattern, ground_patterns}
use Rattle.rule_core.specs.NamedParts.{Name}
use Rattle.rule_core.specs.Sorting.{IsTermOf}
use Rattle.rule_core.specs.Matching.{RespectsSorts}
use Rattle.rule_core.specs.declared.signature.Signature.{Signature}
use Rattle.ml_image.specs.Images.{applied, shifted, all_shifted}
use Rattle.ml_image.specs.HasImages.{HasImage, HaveImages}
use Rattle.ml_image.specs.NamedSides.{whole, of_whole, way_in, at_way, of_child, named_part}
use Rattle.ml_image.specs.NamedSides.{named_parts, left_sentence, applied_sides}
use Rattle.ml_image.specs.OwnAxioms.{name_behind}
use Rattle.ml_image.specs.Sentences.{Sentence, sentence_image, term, symbol, inject, apply, and}
use Rattle.ml_image.specs.Sentences.{apply_all, variables}
use Rattle.ml_image.proofs.ImageLaws.{some_same}
use Rattle.prove_term.specs.Contexts.{Context}
use Rattle.prove_term.specs.Filling.{filled, all_filled, in_place}
use Rattle.prove_term.specs.FilledSides.{filled_sentence}
use Rattle.prove_schema.specs.Elements.{IsElementOf, AreElementsFor}
use Rattle.prove_schema.proofs.InstanceLaws.{AllThere}
use Rattle.prove_schema.proofs.LeftSides.{AreBelow, of_whole_below, of_child_below}
use Rattle.prove_equation.specs.Parameters.{behind_terms}

pub length-behind : (ts : List Tree) (theta : List (Option Tree))
    → length (behind_terms ts theta) ≡ length ts + length theta
length-behind [] theta = omega arith
length-behind (t ∷ ts) theta = omega (arith, length-behind ts theta)

pub binding-behind : (ts : List Tree) (theta : List (Option Tree)) (x : ℕ)
    → binding (behind_terms ts theta) (length ts + x) ≡ binding theta x
binding-behind [] theta x = ap (binding theta) (omega arith)
binding-behind (t ∷ ts) theta x =
    let further : length (t ∷ ts) + x ≡ suc (length ts + x) = omega arith in
    ap (binding (Some t ∷ behind_terms ts theta)) further ∙ binding-behind ts theta x

pub binding-front : (pre ts : List Tree) (t : Tree) (theta : List (Option Tree))
    → binding (behind_terms (pre ++ t ∷ ts) theta) (length pre) ≡ Some t
binding-front [] ts t theta = refl
binding-front (u ∷ pre) ts t theta = binding-front pre ts t theta

pub there-behind : (ts : List Tree) (theta : List (Option Tree)) (n : ℕ) → AllThere theta n
    → AllThere (behind_terms ts theta) (length ts + n)
there-behind [] theta n there x low = there x (omega (arith, low))
there-behind (t ∷ ts) theta n there zero low = (t, refl)
there-behind (t ∷ ts) theta n there (suc x) low =
    there-behind ts theta n there x (omega (arith, low))

pub elements-behind : (cx : Context) (ts : List Tree) (theta : List (Option Tree))
    (fs gs : List Theorem) → AllZip (IsElementOf cx) ts fs → AreElementsFor cx theta gs
    → AreElementsFor cx (behind_terms ts theta) (fs ++ gs)
elements-behind cx [] theta [] gs h k = k
elements-behind cx [] theta (f ∷ fs) gs h k = absurd h
elements-behind cx (t ∷ ts) theta [] gs h k = absurd h
elements-behind cx (t ∷ ts) theta (f ∷ fs) gs h k = (h.0, elements-behind cx ts theta fs gs h.1 k)

-- normal terms of these sorts
abbrev pub AreOfSorts : Signature → List Tree → List ℕ → Type 0
AreOfSorts sig ts sorts = AllZip (λ (t : Tree) (s : ℕ). IsNormal t × IsTermOf sig t s) ts sorts

pub as_many_sorts : (sig : Signature) (ts : List Tree) (sorts : List ℕ) → AreOfSorts sig ts sorts
    → length ts ≡ length sorts
as_many_sorts sig [] [] h = refl
as_many_sorts sig [] (s ∷ sorts) h = absurd h
as_many_sorts sig (t ∷ ts) [] h = absurd h
as_many_sorts sig (t ∷ ts) (s ∷ sorts) h = ap suc (as_many_sorts sig ts sorts h.1)

pub respects-behind : (sig : Signature) (ts : List Tree) (sorts vars : List ℕ)
    (theta : List (Option Tree)) → AreOfSorts sig ts sorts → RespectsSorts sig vars theta
    → RespectsSorts sig (sorts ++ vars) (behind_terms ts theta)
respects-behind sig [] [] vars theta h k = k
respects-behind sig [] (s ∷ sorts) vars theta h k = absurd h
respects-behind sig (t ∷ ts) [] vars theta h k = absurd h
respects-behind sig (t ∷ ts) (s ∷ sorts) vars theta h k =
    each (respects-behind sig ts sorts vars theta h.1 k)
  where
    each : RespectsSorts sig (sorts ++ vars) (behind_terms ts theta)
        → RespectsSorts sig (s ∷ (sorts ++ vars)) (Some t ∷ behind_terms ts theta)
    each below zero u bound =
        let same : t ≡ u = some_same t u bound in
        subst (λ (v : Tree). IsNormal v × ((sort : ℕ) × (Some s ≡ Some sort) × IsTermOf sig v sort))
        same (h.0.0, (s, refl, h.0.1))
    each below (suc x) u bound = below x u bound

-- ---- filled patterns

mutual
  pub filled-behind : (sig : Signature) (ts : List Tree) (theta : List (Option Tree)) (n : ℕ)
      (p : RulePattern) → AllThere theta n → HasImage sig n p
      → filled (behind_terms ts theta) (shifted (length ts) p) ≡ filled theta p
  filled-behind sig ts theta n (variable x) there has =
      let bound : (t : Tree) × (binding theta x ≡ Some t) = there x has in
      ap (in_place (length ts + x)) (binding-behind ts theta x ∙ bound.1)
      ∙ ap (in_place x) (sym bound.1)
  filled-behind sig ts theta n (domain_value s v) there has = refl
  filled-behind sig ts theta n (application f ps) there has =
      ap (application f) (all_filled-behind sig ts theta n ps there has.1)
  filled-behind sig ts theta n (injection a b p) there has =
      ap (injection a b) (filled-behind sig ts theta n p there has.2)
  filled-behind sig ts theta n (call f ss ps) there has =
      ap (call f ss) (all_filled-behind sig ts theta n ps there has.2)

  pub all_filled-behind : (sig : Signature) (ts : List Tree) (theta : List (Option Tree)) (n : ℕ)
      (ps : RulePatterns) → AllThere theta n → HaveImages sig n ps
      → all_filled (behind_terms ts theta) (all_shifted (length ts) ps) ≡ all_filled theta ps
  all_filled-behind sig ts theta n no_pattern there has = refl
  all_filled-behind sig ts theta n (more_patterns p ps) there has =
      ap (λ (q : RulePattern).
      more_patterns q (all_filled (behind_terms ts theta) (all_shifted (length ts) ps)))
      (filled-behind sig ts theta n p there has.0)
      ∙ ap (more_patterns (filled theta p)) (all_filled-behind sig ts theta n ps there has.1)

-- ---- names behind the parameters

whole-behind : (k : ℕ) (place : List ℕ) (m : Name) (names : List Name)
    → whole place (name_behind k m) (map (name_behind k) names)
    ≡ map (name_behind k) (whole place m names)
whole-behind k [] m names = refl
whole-behind k (i ∷ way) m names = refl

of_whole-behind : (k : ℕ) (names : List Name)
    → of_whole (map (name_behind k) names) ≡ map (name_behind k) (of_whole names)
of_whole-behind k [] = refl
of_whole-behind k (m ∷ names) =
    ap (whole m.place (name_behind k m)) (of_whole-behind k names)
    ∙ whole-behind k m.place m (of_whole names)

at_way-behind : (k : ℕ) (o : Option (List ℕ)) (m : Name) (names : List Name)
    → at_way o (name_behind k m) (map (name_behind k) names)
    ≡ map (name_behind k) (at_way o m names)
at_way-behind k None m names = refl
at_way-behind k (Some way) m names = refl

pub of_child-behind : (k j : ℕ) (names : List Name)
    → of_child j (map (name_behind k) names) ≡ map (name_behind k) (of_child j names)
of_child-behind k j [] = refl
of_child-behind k j (m ∷ names) =
    ap (at_way (way_in j m.place) (name_behind k m)) (of_child-behind k j names)
    ∙ at_way-behind k (way_in j m.place) m (of_child j names)

-- ---- filled left sides

in_order-behind : (ts : List Tree) (theta : List (Option Tree)) (x : ℕ) (s t : Sentence)
    (first : Bool) → ((u : Tree) × (binding theta x ≡ Some u))
    → filled_sentence (behind_terms ts theta) s ≡ filled_sentence theta t
    → filled_sentence (behind_terms ts theta)
    (if first then and (term (variable (length ts + x))) s else and s (term
    (variable (length ts + x))))
    ≡ filled_sentence theta
    (if first then and (term (variable x)) t else and t (term (variable x)))
in_order-behind ts theta x s t first (u, bound) same = go first
  where
    name : in_place (length ts + x) (binding (behind_terms ts theta) (length ts + x))
        ≡ in_place x (binding theta x)
    name =
        ap (in_place (length ts + x)) (binding-behind ts theta x ∙ bound)
        ∙ ap (in_place x) (sym bound)

    go : (first : Bool)
        → filled_sentence (behind_terms ts theta)
        (if first then and (term (variable (length ts + x))) s else and s (term
        (variable (length ts + x))))
        ≡ filled_sentence theta
        (if first then and (term (variable x)) t else and t (term (variable x)))
    go true =
        ap (λ (p : RulePattern). and (term p) (filled_sentence (behind_terms ts theta) s)) name
        ∙ ap (and (term (in_place x (binding theta x)))) same
    go false =
        ap (λ (q : Sentence). and q (term (in_place (length ts + x)
        (binding (behind_terms ts theta) (length ts + x))))) same
        ∙ ap (λ (p : RulePattern). and (filled_sentence theta t) (term p)) name

named-behind : (ts : List Tree) (theta : List (Option Tree)) (n : ℕ) (names : List Name)
    (s t : Sentence) → AllThere theta n → AreBelow n names
    → filled_sentence (behind_terms ts theta) s ≡ filled_sentence theta t
    → filled_sentence (behind_terms ts theta) (named_parts s (map (name_behind (length ts)) names))
    ≡ filled_sentence theta (named_parts t names)
named-behind ts theta n [] s t there low same = same
named-behind ts theta n (m ∷ names) s t there low same =
    named-behind ts theta n names (named_part s (name_behind (length ts) m)) (named_part t m) there
    low.1
    (in_order-behind ts theta m.variable s t m.first (there m.variable low.0) same)

-- the same, with the names of the whole pattern
whole_named-behind : (ts : List Tree) (theta : List (Option Tree)) (n : ℕ) (names : List Name)
    (s t : Sentence) → AllThere theta n → AreBelow n names
    → filled_sentence (behind_terms ts theta) s ≡ filled_sentence theta t
    → filled_sentence (behind_terms ts theta)
    (named_parts s (of_whole (map (name_behind (length ts)) names)))
    ≡ filled_sentence theta (named_parts t (of_whole names))
whole_named-behind ts theta n names s t there low same =
    ap (λ (ms : List Name). filled_sentence (behind_terms ts theta) (named_parts s ms))
    (of_whole-behind (length ts) names)
    ∙ named-behind ts theta n (of_whole names) s t there (of_whole_below n names low) same

-- the names of a child are those of the whole, behind the parameters
child_renamed : (ts : List Tree) (theta : List (Option Tree)) (names : List Name) (k : ℕ)
    (p : RulePattern)
    → filled_sentence (behind_terms ts theta)
    (left_sentence (map (name_behind (length ts)) (of_child k names)) (shifted (length ts) p))
    ≡ filled_sentence theta (left_sentence (of_child k names) p)
    → filled_sentence (behind_terms ts theta)
    (left_sentence (of_child k (map (name_behind (length ts)) names)) (shifted (length ts) p))
    ≡ filled_sentence theta (left_sentence (of_child k names) p)
child_renamed ts theta names k p same =
    ap (λ (ms : List Name). filled_sentence (behind_terms ts theta) (left_sentence ms
    (shifted (length ts) p))) (of_child-behind (length ts) k names)
    ∙ same

mutual
  pub left-behind : (sig : Signature) (ts : List Tree) (theta : List (Option Tree)) (n : ℕ)
      (names : List Name) (p : RulePattern) → AllThere theta n → AreBelow n names
      → HasImage sig n p
      → filled_sentence (behind_terms ts theta)
      (left_sentence (map (name_behind (length ts)) names) (shifted (length ts) p))
      ≡ filled_sentence theta (left_sentence names p)
  left-behind sig ts theta n names (variable x) there low has =
      whole_named-behind ts theta n names (term (variable (length ts + x))) (term (variable x)) there
      low (ap term (filled-behind sig ts theta n (variable x) there has))
  left-behind sig ts theta n names (domain_value s v) there low has =
      whole_named-behind ts theta n names (term (domain_value s v)) (term (domain_value s v)) there
      low refl
  left-behind sig ts theta n names (application f ps) there low has =
      whole_named-behind ts theta n names
      (applied_sides (map (name_behind (length ts)) names) 0 (symbol f) (all_shifted (length ts) ps))
      (applied_sides names 0 (symbol f) ps) there low
      (applied-behind sig ts theta n names 0 (symbol f) (symbol f) ps there low has.1 refl)
  left-behind sig ts theta n names (injection a b p) there low has =
      let below : filled_sentence (behind_terms ts theta) (left_sentence
      (of_child 0 (map (name_behind (length ts)) names)) (shifted (length ts) p))
      ≡ filled_sentence theta (left_sentence (of_child 0 names) p) =
      child_renamed ts theta names 0 p (left-behind sig ts theta n (of_child 0 names) p there
      (of_child_below n 0 names low) has.2) in
      whole_named-behind ts theta n names
      (apply (inject a b) (left_sentence (of_child 0 (map (name_behind (length ts)) names))
      (shifted (length ts) p)))
      (apply (inject a b) (left_sentence (of_child 0 names) p)) there low
      (ap (apply (inject a b)) below)
  left-behind sig ts theta n names (call f ss ps) there low has =
      whole_named-behind ts theta n names (term (call f ss (all_shifted (length ts) ps)))
      (term (call f ss ps)) there low
      (ap term (filled-behind sig ts theta n (call f ss ps) there has))

  applied-behind : (sig : Signature) (ts : List Tree) (theta : List (Option Tree)) (n : ℕ)
      (names : List Name) (k : ℕ) (s t : Sentence) (ps : RulePatterns) → AllThere theta n
      → AreBelow n names → HaveImages sig n ps
      → filled_sentence (behind_terms ts theta) s ≡ filled_sentence theta t
      → filled_sentence (behind_terms ts theta)
      (applied_sides (map (name_behind (length ts)) names) k s (all_shifted (length ts) ps))
      ≡ filled_sentence theta (applied_sides names k t ps)
  applied-behind sig ts theta n names k s t no_pattern there low has same = same
  applied-behind sig ts theta n names k s t (more_patterns p ps) there low has same =
      applied-behind sig ts theta n names (k + 1)
      (apply s (left_sentence (of_child k (map (name_behind (length ts)) names))
      (shifted (length ts) p)))
      (apply t (left_sentence (of_child k names) p)) ps there low has.1
      (ap (λ (q : Sentence). apply q (filled_sentence (behind_terms ts theta) (left_sentence
      (of_child k (map (name_behind (length ts)) names)) (shifted (length ts) p)))) same
      ∙ ap (apply (filled_sentence theta t)) (child_renamed ts theta names k p (left-behind sig ts
      theta n (of_child k names) p there (of_child_below n k names low) has.0)))

-- a child, with the names of its parts
pub child-behind : (sig : Signature) (ts : List Tree) (theta : List (Option Tree)) (n : ℕ)
    (names : List Name) (k : ℕ) (p : RulePattern) → AllThere theta n → AreBelow n names
    → HasImage sig n p
    → filled_sentence (behind_terms ts theta)
    (left_sentence (of_child k (map (name_behind (length ts)) names)) (shifted (length ts) p))
    ≡ filled_sentence theta (left_sentence (of_child k names) p)
child-behind sig ts theta n names k p there low has =
    child_renamed ts theta names k p
    (left-behind sig ts theta n (of_child k names) p there (of_child_below n k names low) has)

-- ---- parameters as patterns

-- n variables as patterns, numbered from k on
abbrev pub variable_patterns : ℕ → ℕ → RulePatterns
variable_patterns k zero = no_pattern
variable_patterns k (suc n) = more_patterns (variable k) (variable_patterns (k + 1) n)

pub variables-image : (sig : Signature) (names : List (List ℕ)) (n k : ℕ) (s : Sentence)
    → sentence_image sig names (apply_all s (variables k n))
    ≡ applied sig names (sentence_image sig names s) (variable_patterns k n)
variables-image sig names zero k s = refl
variables-image sig names (suc n) k s =
    variables-image sig names n (k + 1) (apply s (term (variable k)))

pub variables-have : (sig : Signature) (n m k : ℕ) → k + m ≤ n
    → HaveImages sig n (variable_patterns k m)
variables-have sig n zero k few = tt
variables-have sig n (suc m) k few =
    (omega (arith, few), variables-have sig n m (k + 1) (omega (arith, few)))

pub variables-filled : (pre ts : List Tree) (theta : List (Option Tree))
    → all_filled (behind_terms (pre ++ ts) theta) (variable_patterns (length pre) (length ts))
    ≡ ground_patterns (forest ts)
variables-filled pre [] theta = refl
variables-filled pre (t ∷ ts) theta =
    let whole : (pre ++ t ∷ []) ++ ts ≡ pre ++ t ∷ ts = append_assoc pre (t ∷ []) ts in
    let count : length (pre ++ t ∷ []) ≡ length pre + 1 = length-append pre (t ∷ []) in
    let below : all_filled (behind_terms (pre ++ t ∷ ts) theta)
    (variable_patterns (length pre + 1) (length ts)) ≡ ground_patterns (forest ts) =
    subst (λ (us : List Tree). all_filled (behind_terms us theta)
    (variable_patterns (length pre + 1) (length ts)) ≡ ground_patterns (forest ts))
    whole
    (subst (λ (k : ℕ). all_filled (behind_terms ((pre ++ t ∷ []) ++ ts) theta)
    (variable_patterns k (length ts)) ≡ ground_patterns (forest ts)) count
    (variables-filled (pre ++ t ∷ []) ts theta)) in
    ap (λ (o : Option Tree). more_patterns (in_place (length pre) o) (all_filled
    (behind_terms (pre ++ t ∷ ts) theta) (variable_patterns (length pre + 1) (length ts))))
    (binding-front pre ts t theta)
    ∙ ap (more_patterns (ground_pattern t)) below
