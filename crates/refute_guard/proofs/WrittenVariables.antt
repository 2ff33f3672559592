-- The variables of an argument, as it is written: those of its pattern, and its names.
use Rattle.std.proofs.Common.{◌≡◌, ◌⊎◌, inl, inr, ℕ, ◌+◌, Bool, true, false, List, [], ◌∷◌, refl}
use Rattle.std.specs.Prelude.{Contains, if◌then◌else◌, Option, Some, None}
use Rattle.std.proofs.Common.{arith}
use Rattle.term_core.specs.Patterns.{Pattern, Patterns, variable, domain_value, application}
use Rattle.term_core.specs.Patterns.{injection, call, no_pattern, more_patterns}
use Rattle.rule_core.specs.Matching.{OccursIn, OccursInSome}
use Rattle.rule_core.specs.NamedParts.{IsNamed, Name}
use Rattle.ml_image.specs.NamedSides.{applied_sides, at_way, left_sentence, named_part, named_parts}
use Rattle.ml_image.specs.NamedSides.{of_child, of_whole, way_in, whole}
use Rattle.ml_image.specs.Sentences.{Sentence, and, apply, inject, symbol, term}
use Rattle.refute.specs.NamedRefutations.{and_new_in, variables_as_written}
use Rattle.refute.specs.Refutations.{and_new_of_all}
use Rattle.refute.proofs.Listed.{from_variable, there_occur}

-- ---- names

pub whole_named : (names : List Name) (y : ℕ) → IsNamed (of_whole names) y → IsNamed names y
whole_named [] y h = h
whole_named (n ∷ names) y h = go n.place h (λ k. whole_named names y k)
  where
    go : (place : List ℕ) → IsNamed (whole place n (of_whole names)) y
        → (IsNamed (of_whole names) y → IsNamed names y) → IsNamed (n ∷ names) y
    go [] (inl same) rest = inl same
    go [] (inr k) rest = inr (rest k)
    go (i ∷ way) k rest = inr (rest k)

pub child_named : (k : ℕ) (names : List Name) (y : ℕ) → IsNamed (of_child k names) y
    → IsNamed names y
child_named k [] y h = h
child_named k (n ∷ names) y h = go (way_in k n.place) h (λ j. child_named k names y j)
  where
    go : (o : Option (List ℕ)) → IsNamed (at_way o n (of_child k names)) y
        → (IsNamed (of_child k names) y → IsNamed names y) → IsNamed (n ∷ names) y
    go None j rest = inr (rest j)
    go (Some way) (inl same) rest = inl same
    go (Some way) (inr j) rest = inr (rest j)

-- ---- what a sentence adds

-- the sentence adds only variables with the property
abbrev Adds : Sentence → (ℕ → Type 0) → Type 0
Adds s Q = (xs : List ℕ) (y : ℕ) → Contains (and_new_in xs s) y → Contains xs y ⊎ Q y

adds_both : (s r : Sentence) (Q : ℕ → Type 0) → Adds s Q → Adds r Q → Adds (and s r) Q
adds_both s r Q first second xs y h = go (second (and_new_in xs s) y h)
  where
    go : Contains (and_new_in xs s) y ⊎ Q y → Contains xs y ⊎ Q y
    go (inl there) = first xs y there
    go (inr q) = inr q

adds_variable : (x : ℕ) (Q : ℕ → Type 0) → Q x → Adds (term (variable x)) Q
adds_variable x Q q xs y h = go (from_variable xs x y h)
  where
    go : Contains xs y ⊎ (y ≡ x) → Contains xs y ⊎ Q y
    go (inl there) = inl there
    go (inr same) = inr (rw same q)

adds_name : (s : Sentence) (n : Name) (Q : ℕ → Type 0) → Q n.variable → Adds s Q
    → Adds (named_part s n) Q
adds_name s n Q q adds = go n.first
  where
    go : (b : Bool) → Adds (if b then and (term (variable n.variable)) s
        else and s (term (variable n.variable))) Q
    go true =
        adds_both (term (variable n.variable)) s Q (adds_variable n.variable Q q) adds
    go false = adds_both s (term (variable n.variable)) Q adds (adds_variable n.variable Q q)

adds_names : (s : Sentence) (ns : List Name) (Q : ℕ → Type 0) → ((y : ℕ) → IsNamed ns y → Q y)
    → Adds s Q → Adds (named_parts s ns) Q
adds_names s [] Q each adds = adds
adds_names s (n ∷ ns) Q each adds =
    adds_names (named_part s n) ns Q (λ y is. each y (inr is))
    (adds_name s n Q (each n.variable (inl refl)) adds)

adds_more : (s r : Sentence) (Q : ℕ → Type 0) → Adds s Q → Adds r Q → Adds (apply s r) Q
adds_more s r Q first second xs y h = adds_both s r Q first second xs y h

some_occur : (xs : List ℕ) (ps : Patterns) (y : ℕ) (Q : ℕ → Type 0)
    → ((z : ℕ) → OccursInSome z ps → Q z) → Contains (and_new_of_all xs ps) y → Contains xs y ⊎ Q y
some_occur xs ps y Q occurs h = go (there_occur xs ps y h)
  where
    go : Contains xs y ⊎ OccursInSome y ps → Contains xs y ⊎ Q y
    go (inl there) = inl there
    go (inr o) = inr (occurs y o)

mutual
  left_adds : (names : List Name) (p : Pattern) (Q : ℕ → Type 0)
      → ((y : ℕ) → OccursIn y p → Q y) → ((y : ℕ) → IsNamed names y → Q y)
      → Adds (left_sentence names p) Q
  left_adds names (variable x) Q occurs named =
      adds_names (term (variable x)) (of_whole names) Q (λ y is. named y (whole_named names y is))
      (adds_variable x Q (occurs x refl))
  left_adds names (domain_value s v) Q occurs named =
      adds_names (term (domain_value s v)) (of_whole names) Q
      (λ y is. named y (whole_named names y is)) (λ xs y h. inl h)
  left_adds names (application f ps) Q occurs named =
      adds_names (applied_sides names 0 (symbol f) ps) (of_whole names) Q
      (λ y is. named y (whole_named names y is))
      (sides_add names 0 (symbol f) ps Q (λ xs y h. inl h) occurs named)
  left_adds names (injection a b p) Q occurs named =
      adds_names (apply (inject a b) (left_sentence (of_child 0 names) p)) (of_whole names) Q
      (λ y is. named y (whole_named names y is))
      (λ xs y h. left_adds (of_child 0 names) p Q occurs
      (λ z is. named z (child_named 0 names z is)) xs y h)
  left_adds names (call f ss ps) Q occurs named =
      adds_names (term (call f ss ps)) (of_whole names) Q
      (λ y is. named y (whole_named names y is)) (λ xs y h. some_occur xs ps y Q occurs h)

  sides_add : (names : List Name) (k : ℕ) (head : Sentence) (ps : Patterns) (Q : ℕ → Type 0)
      → Adds head Q → ((y : ℕ) → OccursInSome y ps → Q y) → ((y : ℕ) → IsNamed names y → Q y)
      → Adds (applied_sides names k head ps) Q
  sides_add names k head no_pattern Q adds occurs named = adds
  sides_add names k head (more_patterns p ps) Q adds occurs named =
      sides_add names (k + 1) (apply head (left_sentence (of_child k names) p)) ps Q
      (λ xs y h. adds_more head (left_sentence (of_child k names) p) Q adds
      (left_adds (of_child k names) p Q (λ z o. occurs z (inl o))
      (λ z is. named z (child_named k names z is))) xs y h)
      (λ z o. occurs z (inr o)) named

none_there : (y : ℕ) → Contains [] y → ⊥
none_there y (k, low, is) = omega (arith, low)

pub written_variables : (names : List Name) (p : Pattern) (Q : ℕ → Type 0)
    → ((y : ℕ) → OccursIn y p ⊎ IsNamed names y → Q y) → (y : ℕ)
    → Contains (variables_as_written names p) y → Q y
written_variables names p Q each y h =
    go (left_adds names p Q (λ z o. each z (inl o)) (λ z is. each z (inr is)) [] y h)
  where
    go : Contains [] y ⊎ Q y → Q y
    go (inl there) = absurd (none_there y there)
    go (inr q) = q
