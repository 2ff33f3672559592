-- The fact that two patterns differ, at patterns with variables.
use Rattle.std.proofs.Common.{◌≡◌, ◌+◌, ℕ, zero, suc, Bool, true, false, List, [], ◌∷◌, Option}
use Rattle.std.proofs.Common.{Some, option_map, refl, sym, ◌∙◌, ap, subst, arith}
use Rattle.ml_pat.specs.Patterns.{Pattern, app, var, constant}
use Rattle.term_core.specs.Patterns.{Pattern as RulePattern, variable}
use Rattle.term_core.specs.Patterns.{domain_value, application, injection, call, no_pattern}
use Rattle.term_core.specs.Patterns.{more_patterns}
use Rattle.rule_core.specs.declared.signature.Signature.{Signature}
use Rattle.ml_image.specs.HasImages.{count_of}
use Rattle.ml_image.specs.Images.{both, image_of, applied, symbol_image, shifted, all_shifted}
use Rattle.ml_image.specs.Sides.{numbered}
use Rattle.ml_image.specs.Tokens.{number_in_names, token_of_symbol, token_of_value}
use Rattle.prove_term.specs.Applications.{applied_to}
use Rattle.prove_term.specs.Numbered.{variables_from, HasEnds, inject}
use Rattle.prove_term.specs.OpenAxioms.{at_numbered}
use Rattle.prove_term.specs.Schemas.{AreImages}
use Rattle.prove_term.proofs.ImageShapes.{both_some, map_some, applied_images}
use Rattle.prove_term.proofs.InjectionShapes.{injection_shape, injection_made}
use Rattle.prove_open.specs.Differences.{IsValueOrConstructor}
use Rattle.prove_open.specs.FactSides.{head_form, injected_form, side_form, head_parts}
use Rattle.prove_open.specs.FactSides.{injected_parts, side_parts, HasSide}
use Rattle.prove_open.specs.Values.{at_values, given_from, BindsFrom}
use Rattle.prove_open.proofs.ConstructingLaws.{binds_numbered, numbered_values}

some_same : {A : Type 0} (a b : A) → Some a ≡ Some b → a ≡ b
some_same a b e = cc

-- the image of a side binds nothing, and becomes the image of the pattern p
pub record Becomes (sig : Signature) (names : List (List ℕ)) (e : ℕ → Pattern) (p : RulePattern)
    (form : Pattern) : Type 0 where
  pub binds : (m : ℕ) → BindsFrom m form
  pub made : image_of sig names p ≡ Some (at_values e form)

-- ---- heads

-- the image of an application to numbered variables
numbered_shape : (sig : Signature) (names : List (List ℕ)) (n k m : ℕ) (o : Option Pattern)
    (q : Pattern) → applied sig names o (all_shifted k (numbered m n)) ≡ Some q
    → (h : Pattern) × (o ≡ Some h) × (q ≡ applied_to h (variables_from (k + m) n))
numbered_shape sig names zero k m o q is =
    (q, is, refl)
numbered_shape sig names (suc n) k m o q is =
    let rest : (h : Pattern) × (both app o (Some (var (k + m))) ≡ Some h)
    × (q ≡ applied_to h (variables_from (k + (m + 1)) n)) =
    numbered_shape sig names n k (m + 1) (both app o (Some (var (k + m)))) q is in
    let w : (f : Pattern) × (a : Pattern) × (o ≡ Some f) × (Some (var (k + m)) ≡ Some a)
    × (rest.0 ≡ app f a) =
    both_some app o (Some (var (k + m))) rest.0 rest.1 in
    let next : k + (m + 1) ≡ k + m + 1 = omega arith in (
      w.0,
      w.2,
      rest.2
          ∙ ap (λ (i : ℕ). applied_to rest.0 (variables_from i n)) next
          ∙ ap (λ (h : Pattern). applied_to h (variables_from (k + m + 1) n))
          (w.4 ∙ ap (app w.0) (sym (some_same (var (k + m)) w.1 w.3))),
    )

constant_becomes : (sig : Signature) (names : List (List ℕ)) (e : ℕ → Pattern) (p : RulePattern)
    (o : Option ℕ) (form : Pattern) → image_of sig names p ≡ option_map constant o
    → option_map constant o ≡ Some form → Becomes sig names e p form
constant_becomes sig names e p o form image is =
    let w : (c : ℕ) × (o ≡ Some c) × (form ≡ constant c) = map_some constant o form is in
    record {
      binds = λ m. subst (BindsFrom m) (sym w.2) tt;
      made = image ∙ is
          ∙ ap (λ (r : Pattern). Some r)
          (w.2 ∙ ap (at_values e) (sym w.2));
    }

head_becomes : (sig : Signature) (names : List (List ℕ)) (e : ℕ → Pattern) (k m : ℕ)
    (p : RulePattern) (qs : List Pattern) (form : Pattern) → IsValueOrConstructor p
    → AreImages sig names (head_parts p) qs
    → given_from e (k + m) (count_of (head_parts p)) ≡ qs
    → image_of sig names (shifted k (head_form m p)) ≡ Some form → Becomes sig names e p form
head_becomes sig names e k m (variable x) qs form h are given is = absurd h
head_becomes sig names e k m (domain_value s v) qs form h are given is =
    constant_becomes sig names e (domain_value s v)
    (number_in_names names (token_of_value sig s v)) form refl is
head_becomes sig names e k m (application f ps) qs form h are given is =
    let shape : (r : Pattern) × (symbol_image sig names f ≡ Some r)
    × (form ≡ applied_to r (variables_from (k + m) (count_of ps))) =
    numbered_shape sig names (count_of ps) k m (symbol_image sig names f) form is in
    let c : (c : ℕ) × (number_in_names names (token_of_symbol sig f) ≡ Some c)
    × (shape.0 ≡ constant c) =
    map_some constant (number_in_names names (token_of_symbol sig f)) shape.0 shape.1 in
    let whole : form ≡ at_numbered c.0 (k + m) (count_of ps) =
    shape.2
    ∙ ap (λ (r : Pattern). applied_to r (variables_from (k + m) (count_of ps))) c.2 in
    record {
      binds =
          λ n. subst (BindsFrom n) (sym whole) (binds_numbered n c.0 (k + m) (count_of ps));
      made =
          ap (λ (o : Option Pattern). applied sig names o ps)
          (shape.1 ∙ ap (λ (r : Pattern). Some r) c.2)
          ∙ applied_images sig names ps qs (constant c.0) are
          ∙ ap (λ (r : Pattern). Some r)
          (sym (ap (at_values e) whole
          ∙ numbered_values e c.0 (k + m) (count_of ps) qs given));
    }
head_becomes sig names e k m (injection a b p) qs form h are given is = absurd h
head_becomes sig names e k m (call f ss ps) qs form h are given is = absurd h

-- ---- injections

first_of : (x y : Pattern) → ◌≡◌ {A = List Pattern} (x ∷ []) (y ∷ []) → x ≡ y
first_of x y h = cc

variable_becomes : (sig : Signature) (names : List (List ℕ)) (e : ℕ → Pattern) (k m : ℕ)
    (p : RulePattern) (qs : List Pattern) (form : Pattern)
    → AreImages sig names (more_patterns p no_pattern) qs → given_from e (k + m) 1 ≡ qs
    → ◌≡◌ {A = Option Pattern} (Some (var (k + m))) (Some form) → Becomes sig names e p form
variable_becomes sig names e k m p [] form are given is = absurd are
variable_becomes sig names e k m p (q ∷ []) form are given is =
    let whole : form ≡ var (k + m) = sym (some_same (var (k + m)) form is) in
    record {
      binds = λ n. subst (BindsFrom n) (sym whole) tt;
      made =
          are.0
          ∙ ap (λ (r : Pattern). Some r)
          (sym (ap (at_values e) whole ∙ first_of (e (k + m)) q given));
    }
variable_becomes sig names e k m p (q ∷ r ∷ qs) form are given is = absurd are.1

inner_becomes : (sig : Signature) (names : List (List ℕ)) (e : ℕ → Pattern) (k m : ℕ)
    (deep : Bool) (a b : ℕ) (p : RulePattern) (qs : List Pattern) (form : Pattern)
    → HasSide deep (injection a b p) → AreImages sig names (injected_parts deep p) qs
    → given_from e (k + m) (count_of (injected_parts deep p)) ≡ qs
    → image_of sig names (shifted k (injected_form deep m p)) ≡ Some form
    → Becomes sig names e p form
inner_becomes sig names e k m false a b p qs form h are given is =
    variable_becomes sig names e k m p qs form are given is
inner_becomes sig names e k m true a b p qs form h are given is =
    head_becomes sig names e k m p qs form h are given is

injection_becomes : (sig : Signature) (names : List (List ℕ)) (e : ℕ → Pattern) (k m : ℕ)
    (deep : Bool) (a b : ℕ) (p : RulePattern) (qs : List Pattern) (form : Pattern)
    → HasSide deep (injection a b p) → AreImages sig names (injected_parts deep p) qs
    → given_from e (k + m) (count_of (injected_parts deep p)) ≡ qs
    → image_of sig names (shifted k (injection a b (injected_form deep m p))) ≡ Some form
    → Becomes sig names e (injection a b p) form
injection_becomes sig names e k m deep a b p qs form h are given is =
    let w : (ends : HasEnds sig names a b) × (r : Pattern)
    × (image_of sig names (shifted k (injected_form deep m p)) ≡ Some r)
    × (form ≡ inject ends.symbol ends.lower ends.upper r) =
    injection_shape sig names a b (image_of sig names (shifted k (injected_form deep m p))) form
    is in
    let inner : Becomes sig names e p w.1 =
    inner_becomes sig names e k m deep a b p qs w.1 h are given w.2 in
    record {
      binds = λ n. subst (BindsFrom n) (sym w.3) (tt, inner.binds n);
      made =
          injection_made sig names a b w.0 (image_of sig names p) (at_values e w.1) inner.made
          ∙ ap (λ (r : Pattern). Some r) (sym (ap (at_values e) w.3));
    }

pub side_becomes : (sig : Signature) (names : List (List ℕ)) (e : ℕ → Pattern) (k m : ℕ)
    (deep : Bool) (p : RulePattern) (qs : List Pattern) (form : Pattern) → HasSide deep p
    → AreImages sig names (side_parts deep p) qs
    → given_from e (k + m) (count_of (side_parts deep p)) ≡ qs
    → image_of sig names (shifted k (side_form deep m p)) ≡ Some form → Becomes sig names e p form
side_becomes sig names e k m deep (variable x) qs form h are given is = absurd h
side_becomes sig names e k m deep (domain_value s v) qs form h are given is =
    head_becomes sig names e k m (domain_value s v) qs form h are given is
side_becomes sig names e k m deep (application f ps) qs form h are given is =
    head_becomes sig names e k m (application f ps) qs form h are given is
side_becomes sig names e k m deep (injection a b p) qs form h are given is =
    injection_becomes sig names e k m deep a b p qs form h are given is
side_becomes sig names e k m deep (call f ss ps) qs form h are given is = absurd h
