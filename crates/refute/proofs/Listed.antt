-- The variables of a pattern are those that occur in it.
use Rattle.std.proofs.Common.{◌≡◌, ◌⊎◌, inl, inr, ◌<◌, ℕ, zero, suc, Bool, true, false, List, [], ◌∷◌}
use Rattle.std.proofs.Common.{◌++◌, length, refl, sym, subst, arith}
use Rattle.std.specs.Prelude.{◌==◌, ◌||◌, if◌then◌else◌, All, Contains, slice_index_or}
use Rattle.std.proofs.lemmas.Bool.{eqb-true, false≢true}
use Rattle.std.proofs.lemmas.List.Elements.{Contains-append_left, Contains-append_right}
use Rattle.std.proofs.lemmas.List.Elements.{Contains-append_cases}
use Rattle.term_core.specs.Patterns.{Pattern, Patterns, variable, domain_value, application}
use Rattle.term_core.specs.Patterns.{injection, call, no_pattern, more_patterns}
use Rattle.rule_core.specs.Matching.{OccursIn, OccursInSome}
use Rattle.refute.specs.Refutations.{is_one_of, and_new, and_new_of, and_new_of_all}
use Rattle.refute.specs.Refutations.{variables_in_order}

listed_there : (x : ℕ) (xs : List ℕ) → is_one_of x xs ≡ true → Contains xs x
listed_there x [] h = absurd (false≢true h)
listed_there x (y ∷ xs) h = go (x == y) refl h (listed_there x xs)
  where
    go : (b : Bool) → (x == y) ≡ b → (b || is_one_of x xs) ≡ true
        → (is_one_of x xs ≡ true → Contains xs x) → Contains (y ∷ xs) x
    go true e h further = (zero, omega arith, sym (eqb-true x y e))
    go false e h further =
        let rest : Contains xs x = further h in (suc rest.0, omega (arith, rest.1), rest.2)

one_there : (x : ℕ) → Contains (x ∷ []) x
one_there x = (zero, omega arith, refl)

only_one : (x y : ℕ) → Contains (x ∷ []) y → y ≡ x
only_one x y (zero, low, is) = sym is
only_one x y (suc k, low, is) = absurd (omega (arith, low))

pub keeps_variable : (xs : List ℕ) (x y : ℕ) → Contains xs y → Contains (and_new xs x) y
keeps_variable xs x y h = go (is_one_of x xs)
  where
    go : (b : Bool) → Contains (if b then xs else xs ++ x ∷ []) y
    go true = h
    go false = Contains-append_left xs (x ∷ []) y h

pub has_variable : (xs : List ℕ) (x : ℕ) → Contains (and_new xs x) x
has_variable xs x = go (is_one_of x xs) refl
  where
    go : (b : Bool) → is_one_of x xs ≡ b → Contains (if b then xs else xs ++ x ∷ []) x
    go true e = listed_there x xs e
    go false e = Contains-append_right xs (x ∷ []) x (one_there x)

pub from_variable : (xs : List ℕ) (x y : ℕ) → Contains (and_new xs x) y
    → Contains xs y ⊎ (y ≡ x)
from_variable xs x y h = go (is_one_of x xs) h
  where
    last : Contains xs y ⊎ Contains (x ∷ []) y → Contains xs y ⊎ (y ≡ x)
    last (inl there) = inl there
    last (inr there) = inr (only_one x y there)

    go : (b : Bool) → Contains (if b then xs else xs ++ x ∷ []) y → Contains xs y ⊎ (y ≡ x)
    go true h = inl h
    go false h = last (Contains-append_cases xs (x ∷ []) y h)

mutual
  keeps_variables : (xs : List ℕ) (p : Pattern) (y : ℕ) → Contains xs y
      → Contains (and_new_of xs p) y
  keeps_variables xs (variable x) y h = keeps_variable xs x y h
  keeps_variables xs (domain_value s v) y h = h
  keeps_variables xs (application f ps) y h = keeps_all xs ps y h
  keeps_variables xs (injection a b p) y h = keeps_variables xs p y h
  keeps_variables xs (call f ss ps) y h = keeps_all xs ps y h

  pub keeps_all : (xs : List ℕ) (ps : Patterns) (y : ℕ) → Contains xs y
      → Contains (and_new_of_all xs ps) y
  keeps_all xs no_pattern y h = h
  keeps_all xs (more_patterns p ps) y h =
      keeps_all (and_new_of xs p) ps y (keeps_variables xs p y h)

mutual
  occurs_there : (xs : List ℕ) (p : Pattern) (y : ℕ) → OccursIn y p
      → Contains (and_new_of xs p) y
  occurs_there xs (variable x) y h =
      subst (Contains (and_new xs x)) (sym h) (has_variable xs x)
  occurs_there xs (domain_value s v) y h = absurd h
  occurs_there xs (application f ps) y h = occur_there xs ps y h
  occurs_there xs (injection a b p) y h = occurs_there xs p y h
  occurs_there xs (call f ss ps) y h = occur_there xs ps y h

  pub occur_there : (xs : List ℕ) (ps : Patterns) (y : ℕ) → OccursInSome y ps
      → Contains (and_new_of_all xs ps) y
  occur_there xs no_pattern y h = absurd h
  occur_there xs (more_patterns p ps) y (inl h) =
      keeps_all (and_new_of xs p) ps y (occurs_there xs p y h)
  occur_there xs (more_patterns p ps) y (inr h) = occur_there (and_new_of xs p) ps y h

joined : (xs : List ℕ) (p : Pattern) (ps : Patterns) (y : ℕ)
    → (Contains (and_new_of xs p) y → Contains xs y ⊎ OccursIn y p)
    → Contains (and_new_of xs p) y ⊎ OccursInSome y ps
    → Contains xs y ⊎ OccursInSome y (more_patterns p ps)
joined xs p ps y inside (inl h) = first (inside h)
  where
    first : Contains xs y ⊎ OccursIn y p → Contains xs y ⊎ OccursInSome y (more_patterns p ps)
    first (inl h) = inl h
    first (inr h) = inr (inl h)
joined xs p ps y inside (inr h) = inr (inr h)

mutual
  there_occurs : (xs : List ℕ) (p : Pattern) (y : ℕ) → Contains (and_new_of xs p) y
      → Contains xs y ⊎ OccursIn y p
  there_occurs xs (variable x) y h = from_variable xs x y h
  there_occurs xs (domain_value s v) y h = inl h
  there_occurs xs (application f ps) y h = there_occur xs ps y h
  there_occurs xs (injection a b p) y h = there_occurs xs p y h
  there_occurs xs (call f ss ps) y h = there_occur xs ps y h

  pub there_occur : (xs : List ℕ) (ps : Patterns) (y : ℕ) → Contains (and_new_of_all xs ps) y
      → Contains xs y ⊎ OccursInSome y ps
  there_occur xs no_pattern y h = inl h
  there_occur xs (more_patterns p ps) y h =
      joined xs p ps y (there_occurs xs p y) (there_occur (and_new_of xs p) ps y h)

pub occurs_listed : (p : Pattern) (x : ℕ) → OccursIn x p → Contains (variables_in_order p) x
occurs_listed p x h = occurs_there [] p x h

pub none_there : (x : ℕ) → Contains [] x → ⊥
none_there x (k, low, is) = omega (arith, low)

pub listed_occurs : (p : Pattern) (x : ℕ) → Contains (variables_in_order p) x → OccursIn x p
listed_occurs p x h = go (there_occurs [] p x h)
  where
    go : Contains [] x ⊎ OccursIn x p → OccursIn x p
    go (inl h) = absurd (none_there x h)
    go (inr h) = h

-- ---- what holds of each

any_default : {X : Type 0} (xs : List X) (k : ℕ) (d e : X) → k < length xs
    → slice_index_or xs k d ≡ slice_index_or xs k e
any_default [] k d e low = absurd (omega (arith, low))
any_default (x ∷ xs) zero d e low = refl
any_default (x ∷ xs) (suc k) d e low = any_default xs k d e (omega (arith, low))

pub all_contained : {X : Type 0} (P : X → Type 0) (xs : List X)
    → ((x : X) → Contains xs x → P x) → All P xs
all_contained P xs h = λ k d low.
    h (slice_index_or xs k d) (k, low, any_default xs k (slice_index_or xs k d) d low)
