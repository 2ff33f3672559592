-- The variables of a pattern whose parts have names: those of the pattern and the names.
use Rattle.std.proofs.Common.{◌≡◌, ◌⊎◌, inl, inr, ℕ, ◌+◌, Bool, true, false, List, [], ◌∷◌}
use Rattle.std.proofs.Common.{refl, sym, ◌∙◌, ap, subst}
use Rattle.std.specs.Prelude.{◌==◌, ◌||◌, if◌then◌else◌, Contains}
use Rattle.std.proofs.Common.{eq-eqb}
use Rattle.term_core.specs.Patterns.{Pattern, Patterns, variable, domain_value, application}
use Rattle.term_core.specs.Patterns.{injection, call, no_pattern, more_patterns}
use Rattle.rule_core.specs.Matching.{OccursIn, OccursInSome}
use Rattle.rule_core.specs.NamedParts.{Name}
use Rattle.ml_image.specs.NamedSides.{left_sentence, applied_sides, named_part, named_parts}
use Rattle.ml_image.specs.NamedSides.{of_child, of_whole}
use Rattle.ml_image.specs.Sentences.{Sentence, term, symbol, inject, apply, and}
use Rattle.refute.specs.Choosing.{is_named, or_name, chosen, all_chosen}
use Rattle.refute.specs.NamedRefutations.{and_new_in, variables_as_written}
use Rattle.refute.specs.Refutations.{and_new, and_new_of, and_new_of_all, variables_in_order}
use Rattle.refute.specs.Written.{with_first_names, with_last_names, and_new_in_all}
use Rattle.refute.proofs.Listed.{keeps_variable, has_variable, from_variable}
use Rattle.refute.proofs.Listed.{keeps_all, there_occur, occur_there, none_there}

-- ---- what is added

-- the names of the whole before the pattern, the pattern, and the names of the whole behind it
pub named_added : (xs : List ℕ) (s : Sentence) (names : List Name)
    → and_new_in xs (named_parts s names)
    ≡ with_last_names (and_new_in (with_first_names xs names) s) names
named_added xs s [] = refl
named_added xs s (n ∷ names) = named_added xs (named_part s n) names ∙ go n.first
  where
    ys : List ℕ
    ys = with_first_names xs names

    go : (first : Bool)
        → with_last_names (and_new_in ys (if first then and (term (variable n.variable)) s
        else and s (term (variable n.variable)))) names
        ≡ with_last_names (if first
        then and_new_in (if first then and_new ys n.variable else ys) s
        else and_new (and_new_in (if first then and_new ys n.variable else ys) s) n.variable) names
    go true = refl
    go false = refl

-- the arguments of a symbol
pub sides_added : (xs : List ℕ) (names : List Name) (k : ℕ) (head : Sentence) (ps : Patterns)
    → and_new_in xs (applied_sides names k head ps)
    ≡ and_new_in_all (and_new_in xs head) names k ps
sides_added xs names k head no_pattern = refl
sides_added xs names k head (more_patterns p ps) =
    sides_added xs names (k + 1) (apply head (left_sentence (of_child k names) p)) ps

-- ---- what is kept

first_keeps : (xs : List ℕ) (names : List Name) (y : ℕ) → Contains xs y
    → Contains (with_first_names xs names) y
first_keeps xs [] y h = h
first_keeps xs (n ∷ names) y h = go n.first (first_keeps xs names y h)
  where
    go : (first : Bool) → Contains (with_first_names xs names) y
        → Contains (if first then and_new (with_first_names xs names) n.variable
        else with_first_names xs names) y
    go true k = keeps_variable (with_first_names xs names) n.variable y k
    go false k = k

last_keeps : (xs : List ℕ) (names : List Name) (y : ℕ) → Contains xs y
    → Contains (with_last_names xs names) y
last_keeps xs [] y h = h
last_keeps xs (n ∷ names) y h =
    last_keeps (if n.first then xs else and_new xs n.variable) names y (go n.first)
  where
    go : (first : Bool) → Contains (if first then xs else and_new xs n.variable) y
    go true = h
    go false = keeps_variable xs n.variable y h

whole_keeps : (xs : List ℕ) (s : Sentence) (names : List Name) (y : ℕ)
    → ((zs : List ℕ) → Contains zs y → Contains (and_new_in zs s) y) → Contains xs y
    → Contains (and_new_in xs (named_parts s names)) y
whole_keeps xs s names y inside h =
    subst (λ (zs : List ℕ). Contains zs y) (sym (named_added xs s names))
    (last_keeps (and_new_in (with_first_names xs names) s) names y
    (inside (with_first_names xs names) (first_keeps xs names y h)))

mutual
  left_keeps : (xs : List ℕ) (names : List Name) (p : Pattern) (y : ℕ) → Contains xs y
      → Contains (and_new_in xs (left_sentence names p)) y
  left_keeps xs names (variable x) y h =
      whole_keeps xs (term (variable x)) (of_whole names) y (λ zs k. keeps_variable zs x y k) h
  left_keeps xs names (domain_value s v) y h =
      whole_keeps xs (term (domain_value s v)) (of_whole names) y (λ zs k. k) h
  left_keeps xs names (application f ps) y h =
      whole_keeps xs (applied_sides names 0 (symbol f) ps) (of_whole names) y
      (λ zs k. subst (λ (ws : List ℕ). Contains ws y)
      (sym (sides_added zs names 0 (symbol f) ps)) (sides_keep zs names 0 ps y k)) h
  left_keeps xs names (injection a b p) y h =
      whole_keeps xs (apply (inject a b) (left_sentence (of_child 0 names) p)) (of_whole names) y
      (λ zs k. left_keeps zs (of_child 0 names) p y k) h
  left_keeps xs names (call f ss ps) y h =
      whole_keeps xs (term (call f ss ps)) (of_whole names) y (λ zs k. keeps_all zs ps y k) h

  sides_keep : (xs : List ℕ) (names : List Name) (k : ℕ) (ps : Patterns) (y : ℕ) → Contains xs y
      → Contains (and_new_in_all xs names k ps) y
  sides_keep xs names k no_pattern y h = h
  sides_keep xs names k (more_patterns p ps) y h =
      sides_keep (and_new_in xs (left_sentence (of_child k names) p)) names (k + 1) ps y
      (left_keeps xs (of_child k names) p y h)

-- ---- the variables of the pattern are there

whole_there : (xs : List ℕ) (s : Sentence) (names : List Name) (y : ℕ)
    → ((zs : List ℕ) → Contains (and_new_in zs s) y)
    → Contains (and_new_in xs (named_parts s names)) y
whole_there xs s names y inside =
    subst (λ (zs : List ℕ). Contains zs y) (sym (named_added xs s names))
    (last_keeps (and_new_in (with_first_names xs names) s) names y
    (inside (with_first_names xs names)))

mutual
  left_there : (xs : List ℕ) (names : List Name) (p : Pattern) (y : ℕ) → OccursIn y p
      → Contains (and_new_in xs (left_sentence names p)) y
  left_there xs names (variable x) y h =
      whole_there xs (term (variable x)) (of_whole names) y
      (λ zs. subst (Contains (and_new zs x)) (sym h) (has_variable zs x))
  left_there xs names (domain_value s v) y h = absurd h
  left_there xs names (application f ps) y h =
      whole_there xs (applied_sides names 0 (symbol f) ps) (of_whole names) y
      (λ zs. subst (λ (ws : List ℕ). Contains ws y) (sym (sides_added zs names 0 (symbol f) ps))
      (sides_there zs names 0 ps y h))
  left_there xs names (injection a b p) y h =
      whole_there xs (apply (inject a b) (left_sentence (of_child 0 names) p)) (of_whole names) y
      (λ zs. left_there zs (of_child 0 names) p y h)
  left_there xs names (call f ss ps) y h =
      whole_there xs (term (call f ss ps)) (of_whole names) y (λ zs. occur_there zs ps y h)

  sides_there : (xs : List ℕ) (names : List Name) (k : ℕ) (ps : Patterns) (y : ℕ)
      → OccursInSome y ps → Contains (and_new_in_all xs names k ps) y
  sides_there xs names k no_pattern y h = absurd h
  sides_there xs names k (more_patterns p ps) y (inl h) =
      sides_keep (and_new_in xs (left_sentence (of_child k names) p)) names (k + 1) ps y
      (left_there xs (of_child k names) p y h)
  sides_there xs names k (more_patterns p ps) y (inr h) =
      sides_there (and_new_in xs (left_sentence (of_child k names) p)) names (k + 1) ps y h

pub occurs_written : (names : List Name) (p : Pattern) (x : ℕ) → OccursIn x p
    → Contains (variables_as_written names p) x
occurs_written names p x h = left_there [] names p x h

-- ---- a variable that is there stands in the place of its part

is_named_here : (x y : ℕ) (rest : Bool) → y ≡ x → (x == y || rest) ≡ true
is_named_here x y rest same =
    ap (λ (b : Bool). b || rest) (eq-eqb x y (sym same))

is_named_there : (x y : ℕ) (rest : Bool) → rest ≡ true → (x == y || rest) ≡ true
is_named_there x y rest is = go (x == y)
  where
    go : (b : Bool) → (b || rest) ≡ true
    go true = refl
    go false = is

first_from : (xs : List ℕ) (names : List Name) (y : ℕ) → Contains (with_first_names xs names) y
    → Contains xs y ⊎ (is_named y names ≡ true)
first_from xs [] y h = inl h
first_from xs (n ∷ names) y h = go n.first (λ k. first_from xs names y k) h
  where
    more : Contains xs y ⊎ (is_named y names ≡ true)
        → Contains xs y ⊎ (is_named y (n ∷ names) ≡ true)
    more (inl there) = inl there
    more (inr is) = inr (is_named_there n.variable y (is_named y names) is)

    one : (Contains (with_first_names xs names) y → Contains xs y ⊎ (is_named y names ≡ true))
        → Contains (with_first_names xs names) y ⊎ (y ≡ n.variable)
        → Contains xs y ⊎ (is_named y (n ∷ names) ≡ true)
    one before (inl there) = more (before there)
    one before (inr same) = inr (is_named_here n.variable y (is_named y names) same)

    go : (first : Bool)
        → (Contains (with_first_names xs names) y → Contains xs y ⊎ (is_named y names ≡ true))
        → Contains (if first then and_new (with_first_names xs names) n.variable
        else with_first_names xs names) y
        → Contains xs y ⊎ (is_named y (n ∷ names) ≡ true)
    go true before h = one before (from_variable (with_first_names xs names) n.variable y h)
    go false before h = more (before h)

last_from : (xs : List ℕ) (names : List Name) (y : ℕ) → Contains (with_last_names xs names) y
    → Contains xs y ⊎ (is_named y names ≡ true)
last_from xs [] y h = inl h
last_from xs (n ∷ names) y h =
    more (last_from (if n.first then xs else and_new xs n.variable) names y h)
  where
    one : Contains xs y ⊎ (y ≡ n.variable) → Contains xs y ⊎ (is_named y (n ∷ names) ≡ true)
    one (inl there) = inl there
    one (inr same) = inr (is_named_here n.variable y (is_named y names) same)

    go : (first : Bool) → Contains (if first then xs else and_new xs n.variable) y
        → Contains xs y ⊎ (is_named y (n ∷ names) ≡ true)
    go true h = inl h
    go false h = one (from_variable xs n.variable y h)

    more : Contains (if n.first then xs else and_new xs n.variable) y ⊎ (is_named y names ≡ true)
        → Contains xs y ⊎ (is_named y (n ∷ names) ≡ true)
    more (inl there) = go n.first there
    more (inr is) = inr (is_named_there n.variable y (is_named y names) is)

-- a name stands in the place of the whole pattern
name_occurs : (y : ℕ) (names : List Name) (q : Pattern) → is_named y names ≡ true
    → OccursIn y (or_name y names q)
name_occurs y names q is =
    subst (λ (b : Bool). OccursIn y (if b then variable y else q)) (sym is) refl

other_occurs : (y : ℕ) (names : List Name) (q : Pattern) → OccursIn y q
    → OccursIn y (or_name y names q)
other_occurs y names q h = go (is_named y names)
  where
    go : (b : Bool) → OccursIn y (if b then variable y else q)
    go true = refl
    go false = h

whole_from : (xs : List ℕ) (s : Sentence) (names : List Name) (q : Pattern) (y : ℕ)
    → ((zs : List ℕ) → Contains (and_new_in zs s) y → Contains zs y ⊎ OccursIn y q)
    → Contains (and_new_in xs (named_parts s names)) y
    → Contains xs y ⊎ OccursIn y (or_name y names q)
whole_from xs s names q y inside h =
    last (last_from (and_new_in (with_first_names xs names) s) names y
    (subst (λ (zs : List ℕ). Contains zs y) (named_added xs s names) h))
  where
    first : Contains xs y ⊎ (is_named y names ≡ true)
        → Contains xs y ⊎ OccursIn y (or_name y names q)
    first (inl there) = inl there
    first (inr is) = inr (name_occurs y names q is)

    middle : Contains (with_first_names xs names) y ⊎ OccursIn y q
        → Contains xs y ⊎ OccursIn y (or_name y names q)
    middle (inl there) = first (first_from xs names y there)
    middle (inr occurs) = inr (other_occurs y names q occurs)

    last : Contains (and_new_in (with_first_names xs names) s) y ⊎ (is_named y names ≡ true)
        → Contains xs y ⊎ OccursIn y (or_name y names q)
    last (inl there) = middle (inside (with_first_names xs names) there)
    last (inr is) = inr (name_occurs y names q is)

mutual
  left_from : (xs : List ℕ) (names : List Name) (p : Pattern) (y : ℕ)
      → Contains (and_new_in xs (left_sentence names p)) y
      → Contains xs y ⊎ OccursIn y (chosen y names p)
  left_from xs names (variable x) y h =
      whole_from xs (term (variable x)) (of_whole names) (variable x) y
      (λ zs k. from_variable zs x y k) h
  left_from xs names (domain_value s v) y h =
      whole_from xs (term (domain_value s v)) (of_whole names) (domain_value s v) y
      (λ zs k. inl k) h
  left_from xs names (application f ps) y h =
      whole_from xs (applied_sides names 0 (symbol f) ps) (of_whole names)
      (application f (all_chosen y names 0 ps)) y
      (λ zs k. sides_from zs names 0 ps y
      (subst (λ (ws : List ℕ). Contains ws y) (sides_added zs names 0 (symbol f) ps) k)) h
  left_from xs names (injection a b p) y h =
      whole_from xs (apply (inject a b) (left_sentence (of_child 0 names) p)) (of_whole names)
      (injection a b (chosen y (of_child 0 names) p)) y
      (λ zs k. left_from zs (of_child 0 names) p y k) h
  left_from xs names (call f ss ps) y h =
      whole_from xs (term (call f ss ps)) (of_whole names) (call f ss ps) y
      (λ zs k. there_occur zs ps y k) h

  sides_from : (xs : List ℕ) (names : List Name) (k : ℕ) (ps : Patterns) (y : ℕ)
      → Contains (and_new_in_all xs names k ps) y
      → Contains xs y ⊎ OccursInSome y (all_chosen y names k ps)
  sides_from xs names k no_pattern y h = inl h
  sides_from xs names k (more_patterns p ps) y h =
      go (λ there. left_from xs (of_child k names) p y there)
      (sides_from (and_new_in xs (left_sentence (of_child k names) p)) names (k + 1) ps y h)
    where
      one : Contains xs y ⊎ OccursIn y (chosen y (of_child k names) p)
          → Contains xs y ⊎ OccursInSome y (all_chosen y names k (more_patterns p ps))
      one (inl there) = inl there
      one (inr occurs) = inr (inl occurs)

      go : (Contains (and_new_in xs (left_sentence (of_child k names) p)) y
          → Contains xs y ⊎ OccursIn y (chosen y (of_child k names) p))
          → Contains (and_new_in xs (left_sentence (of_child k names) p)) y
          ⊎ OccursInSome y (all_chosen y names (k + 1) ps)
          → Contains xs y ⊎ OccursInSome y (all_chosen y names k (more_patterns p ps))
      go before (inl there) = one (before there)
      go before (inr occurs) = inr (inr occurs)

pub written_occurs : (names : List Name) (p : Pattern) (x : ℕ)
    → Contains (variables_as_written names p) x → OccursIn x (chosen x names p)
written_occurs names p x h = go (left_from [] names p x h)
  where
    go : Contains [] x ⊎ OccursIn x (chosen x names p) → OccursIn x (chosen x names p)
    go (inl there) = absurd (none_there x there)
    go (inr occurs) = occurs

-- ---- without names

mutual
  plain_added : (xs : List ℕ) (p : Pattern)
      → and_new_in xs (left_sentence [] p) ≡ and_new_of xs p
  plain_added xs (variable x) = refl
  plain_added xs (domain_value s v) = refl
  plain_added xs (application f ps) =
      sides_added xs [] 0 (symbol f) ps ∙ plain_all_added xs 0 ps
  plain_added xs (injection a b p) = plain_added xs p
  plain_added xs (call f ss ps) = refl

  plain_all_added : (xs : List ℕ) (k : ℕ) (ps : Patterns)
      → and_new_in_all xs [] k ps ≡ and_new_of_all xs ps
  plain_all_added xs k no_pattern = refl
  plain_all_added xs k (more_patterns p ps) =
      plain_all_added (and_new_in xs (left_sentence [] p)) (k + 1) ps
      ∙ ap (λ (ys : List ℕ). and_new_of_all ys ps) (plain_added xs p)

pub written_in_order : (p : Pattern) → variables_as_written [] p ≡ variables_in_order p
written_in_order p = plain_added [] p
