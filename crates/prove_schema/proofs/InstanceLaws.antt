-- Instances of schemas at the images of terms.
use Rattle.std.proofs.Common.{◌≡◌, ◌<◌, ℕ, List, [], ◌∷◌, Option, Some, None, option_map, slice_get}
use Rattle.std.proofs.Common.{slice_index_or, zero, suc, refl, sym, ◌∙◌, ap}
use Rattle.std.proofs.lemmas.Option.{get_or_from_slice_get}
use Rattle.ml_pat.specs.Patterns.{Pattern, unary, binary, sorted, quantified, app, at_sort, var}
use Rattle.ml_pat.specs.Patterns.{meta, constant}
use Rattle.ml_kernel.specs.Lemmas.{instance, HasNoVariable, HaveNoVariables}
use Rattle.term_core.specs.Terms.{Tree}
use Rattle.term_core.specs.Patterns.{Pattern as RulePattern, Patterns as RulePatterns, variable}
use Rattle.term_core.specs.Patterns.{domain_value, application, injection, call, no_pattern}
use Rattle.term_core.specs.Patterns.{more_patterns, binding, ground_pattern}
use Rattle.rule_core.specs.declared.signature.Signature.{Signature}
use Rattle.ml_image.specs.Tokens.{token_of_symbol, token_of_value, number_in_names}
use Rattle.ml_image.specs.Images.{both, symbol_image, sort_image, at_sorts, image_of, applied}
use Rattle.ml_image.specs.Images.{some_symbol_image, injection_symbol, injection_image}
use Rattle.ml_image.specs.HasImages.{HasImage, HaveImages}
use Rattle.ml_image.proofs.ImageLaws.{none_some, some_same}
use Rattle.prove_term.specs.Filling.{filled, all_filled, in_place}
use Rattle.prove_schema.specs.Schemas.{with_metas}
use Rattle.prove_schema.proofs.OpenLaws.{meta_below}

-- ---- images of filled patterns

-- for each bound variable, the list has the image of the term that is bound to it
abbrev pub AreImages : Signature → List (List ℕ) → List (Option Tree) → List Pattern → Type 0
AreImages sig names theta qs =
    (x : ℕ) (t : Tree) → binding theta x ≡ Some t →
    (q : Pattern) × ((slice_get qs x ≡ Some q) × (image_of sig names (ground_pattern t) ≡ Some q))

-- each variable below n is bound
abbrev pub AllThere : List (Option Tree) → ℕ → Type 0
AllThere theta n = (x : ℕ) → x < n → (t : Tree) × (binding theta x ≡ Some t)

-- a pattern that is there becomes the instance of its schema
abbrev pub Becomes : ℕ → List Pattern → Option Pattern → Option Pattern → Type 0
Becomes n qs old new = (p : Pattern) → old ≡ Some p → new ≡ Some (instance qs (with_metas n p))

pub becomes_constant : (n : ℕ) (qs : List Pattern) (o : Option ℕ)
    → Becomes n qs (option_map constant o) (option_map constant o)
becomes_constant n qs None p e = absurd (none_some p e)
becomes_constant n qs (Some c) p e =
    ap (λ (r : Pattern). Some (instance qs (with_metas n r))) (some_same (constant c) p e)

pub becomes_both : (n : ℕ) (qs : List Pattern) (f : Pattern → Pattern → Pattern)
    (a a' b b' : Option Pattern)
    → ((x y : Pattern) → f (instance qs (with_metas n x)) (instance qs (with_metas n y))
    ≡ instance qs (with_metas n (f x y)))
    → Becomes n qs a a' → Becomes n qs b b' → Becomes n qs (both f a b) (both f a' b')
becomes_both n qs f None a' b b' inside ka kb p e = absurd (none_some p e)
becomes_both n qs f (Some x) a' None b' inside ka kb p e = absurd (none_some p e)
becomes_both n qs f (Some x) a' (Some y) b' inside ka kb p e =
    ap (λ (o : Option Pattern). both f o b') (ka x refl)
    ∙ ap (both f (Some (instance qs (with_metas n x)))) (kb y refl)
    ∙ ap (λ (r : Pattern). Some r) (inside x y)
    ∙ ap (λ (r : Pattern). Some (instance qs (with_metas n r))) (some_same (f x y) p e)

pub becomes_app : (n : ℕ) (qs : List Pattern) (a a' b b' : Option Pattern) → Becomes n qs a a'
    → Becomes n qs b b' → Becomes n qs (both app a b) (both app a' b')
becomes_app n qs a a' b b' = becomes_both n qs app a a' b b' (λ x y. refl)

becomes_at : (n : ℕ) (qs : List Pattern) (a a' : Option Pattern) (s : Option ℕ) → Becomes n qs a a'
    → Becomes n qs (both at_sort a s) (both at_sort a' s)
becomes_at n qs None a' s ka p e = absurd (none_some p e)
becomes_at n qs (Some x) a' None ka p e = absurd (none_some p e)
becomes_at n qs (Some x) a' (Some s) ka p e =
    ap (λ (o : Option Pattern). both at_sort o (Some s)) (ka x refl)
    ∙ ap (λ (r : Pattern). Some (instance qs (with_metas n r))) (some_same (at_sort x s) p e)

pub becomes_at_sorts : (sig : Signature) (names : List (List ℕ)) (n : ℕ) (qs : List Pattern)
    (ss : List ℕ)
    (a a' : Option Pattern) → Becomes n qs a a'
    → Becomes n qs (at_sorts sig names a ss) (at_sorts sig names a' ss)
becomes_at_sorts sig names n qs [] a a' k = k
becomes_at_sorts sig names n qs (s ∷ ss) a a' k =
    becomes_at_sorts sig names n qs ss (both at_sort a (sort_image sig names s))
    (both at_sort a' (sort_image sig names s)) (becomes_at n qs a a' (sort_image sig names s) k)

becomes_some : (sig : Signature) (names : List (List ℕ)) (n : ℕ) (qs : List Pattern) (o : Option ℕ)
    → Becomes n qs (some_symbol_image sig names o) (some_symbol_image sig names o)
becomes_some sig names n qs None p e = absurd (none_some p e)
becomes_some sig names n qs (Some f) p e =
    becomes_constant n qs (number_in_names names (token_of_symbol sig f)) p e

pub becomes_injection : (sig : Signature) (names : List (List ℕ)) (n : ℕ) (qs : List Pattern)
    (a b : ℕ)
    → Becomes n qs (injection_image sig names a b) (injection_image sig names a b)
becomes_injection sig names n qs a b =
    becomes_at_sorts sig names n qs (a ∷ b ∷ [])
    (some_symbol_image sig names (injection_symbol sig))
    (some_symbol_image sig names (injection_symbol sig))
    (becomes_some sig names n qs (injection_symbol sig))

-- The image of a pattern with terms in place of its variables is the instance of the pattern's
-- schema at the images of the terms.
mutual
  pub filled_image : (sig : Signature) (names : List (List ℕ)) (theta : List (Option Tree))
      (qs : List Pattern) (n : ℕ) (p : RulePattern) → AreImages sig names theta qs
      → AllThere theta n → HasImage sig n p
      → Becomes n qs (image_of sig names p) (image_of sig names (filled theta p))
  filled_image sig names theta qs n (variable x) are there has =
      let bound : (t : Tree) × (binding theta x ≡ Some t) = there x has in
      let at : (q : Pattern) ×
      ((slice_get qs x ≡ Some q) × (image_of sig names (ground_pattern bound.0) ≡ Some q)) =
      are x bound.0 bound.1 in
      λ q is. ap (λ (o : Option Tree). image_of sig names (in_place x o)) bound.1 ∙ at.1.1
      ∙ ap (λ (r : Pattern). Some r) (sym (get_or_from_slice_get qs x at.0 (meta x) at.1.0))
      ∙ ap (λ (r : Pattern). Some (instance qs r)) (sym (meta_below n x has))
      ∙ ap (λ (r : Pattern). Some (instance qs (with_metas n r))) (some_same (var x) q is)
  filled_image sig names theta qs n (domain_value s v) are there has =
      becomes_constant n qs (number_in_names names (token_of_value sig s v))
  filled_image sig names theta qs n (application f ps) are there has =
      filled_applied sig names theta qs n ps (symbol_image sig names f) (symbol_image sig names f)
      are there has.1 (becomes_constant n qs (number_in_names names (token_of_symbol sig f)))
  filled_image sig names theta qs n (injection a b p) are there has =
      becomes_app n qs (injection_image sig names a b) (injection_image sig names a b)
      (image_of sig names p) (image_of sig names (filled theta p))
      (becomes_injection sig names n qs a b) (filled_image sig names theta qs n p are there has.2)
  filled_image sig names theta qs n (call f ss ps) are there has =
      filled_applied sig names theta qs n ps (at_sorts sig names (symbol_image sig names f) ss)
      (at_sorts sig names (symbol_image sig names f) ss) are there has.2
      (becomes_at_sorts sig names n qs ss (symbol_image sig names f) (symbol_image sig names f)
      (becomes_constant n qs (number_in_names names (token_of_symbol sig f))))

  filled_applied : (sig : Signature) (names : List (List ℕ)) (theta : List (Option Tree))
      (qs : List Pattern) (n : ℕ) (ps : RulePatterns) (head new : Option Pattern)
      → AreImages sig names theta qs → AllThere theta n → HaveImages sig n ps
      → Becomes n qs head new
      → Becomes n qs (applied sig names head ps) (applied sig names new (all_filled theta ps))
  filled_applied sig names theta qs n no_pattern head new are there has k = k
  filled_applied sig names theta qs n (more_patterns p ps) head new are there has k =
      filled_applied sig names theta qs n ps (both app head (image_of sig names p))
      (both app new (image_of sig names (filled theta p))) are there has.1
      (becomes_app n qs head new (image_of sig names p) (image_of sig names (filled theta p)) k
      (filled_image sig names theta qs n p are there has.0))

-- ---- no object variable

-- patterns without object variables bring none in
pub instance_closed : (qs : List Pattern) (p : Pattern) → HaveNoVariables qs → HasNoVariable p
    → HasNoVariable (instance qs p)
instance_closed qs (binary c p q) h k = (instance_closed qs p h k.0, instance_closed qs q h k.1)
instance_closed qs (unary c p) h k = instance_closed qs p h k
instance_closed qs (sorted c p s) h k = instance_closed qs p h k
instance_closed qs (quantified c x s p) h k = absurd k
instance_closed qs (var x) h k = absurd k
instance_closed qs (meta i) h k = one_closed qs i (meta i) h tt
  where
    one_closed : (qs : List Pattern) (i : ℕ) (d : Pattern) → HaveNoVariables qs → HasNoVariable d
        → HasNoVariable (slice_index_or qs i d)
    one_closed [] i d h k = k
    one_closed (q ∷ qs) zero d h k = h.0
    one_closed (q ∷ qs) (suc i) d h k = one_closed qs i d h.1 k
instance_closed qs p h k = tt
