-- What occurs in schemas, and in images of patterns.
use Rattle.std.proofs.Common.{◌≡◌, ◌<◌, ◌≤◌, ℕ, Bool, true, false, List, [], ◌∷◌, Option, Some}
use Rattle.std.proofs.Common.{None, option_map, refl, sym, ap, subst, arith}
use Rattle.std.specs.Prelude.{IsTrue, if◌then◌else◌}
use Rattle.std.proofs.Math.Dec.{ltb}
use Rattle.std.proofs.lemmas.Bool.{lt-ltb, le-ltb, ltb-true, ltb-false}
use Rattle.ml_pat.specs.Patterns.{Pattern, nullary, unary, binary, sorted, quantified, app, at_sort}
use Rattle.ml_pat.specs.Patterns.{var, meta, constant, Ex, All}
use Rattle.ml_pat.specs.Leaves.{LeafFacts, EachLeaf}
use Rattle.ml_kernel.specs.Lemmas.{IsMetaBelow, HasNoVariable}
use Rattle.ml_derived.specs.Scopes.{Scope, IsOver}
use Rattle.term_core.specs.Patterns.{Pattern as RulePattern, Patterns as RulePatterns, variable}
use Rattle.term_core.specs.Patterns.{domain_value, application, injection, call, no_pattern}
use Rattle.term_core.specs.Patterns.{more_patterns}
use Rattle.rule_core.specs.declared.signature.Signature.{Signature}
use Rattle.ml_image.specs.Tokens.{token_of_symbol, token_of_value, number_in_names}
use Rattle.ml_image.specs.Images.{both, symbol_image, sort_image, at_sorts, image_of, applied}
use Rattle.ml_image.specs.Images.{some_symbol_image, injection_symbol, injection_image}
use Rattle.ml_image.specs.HasImages.{HasImage, HaveImages}
use Rattle.ml_image.proofs.ImageLaws.{none_some, some_same}
use Rattle.prove_schema.specs.Schemas.{with_metas, IsBodyFrom}

-- ---- patterns without quantifiers

-- The pattern has no quantifier. The numbers of its object variables are at least k and below n.
-- The numbers of its pattern variables are below n.
abbrev pub IsOpenFrom : ℕ → ℕ → Pattern → Type 0
IsOpenFrom k n (nullary c) = Unit {0}
IsOpenFrom k n (binary c p q) = IsOpenFrom k n p × IsOpenFrom k n q
IsOpenFrom k n (unary c p) = IsOpenFrom k n p
IsOpenFrom k n (sorted c p s) = IsOpenFrom k n p
IsOpenFrom k n (quantified c x s p) = ⊥
IsOpenFrom k n (var x) = (k ≤ x) × (x < n)
IsOpenFrom k n (meta i) = i < n
IsOpenFrom k n (constant c) = Unit {0}

pub open_is_body : (k n : ℕ) (p : Pattern) → IsOpenFrom k n p → IsBodyFrom k n p
open_is_body k n (binary c p q) h = (open_is_body k n p h.0, open_is_body k n q h.1)
open_is_body k n (unary c p) h = open_is_body k n p h
open_is_body k n (sorted c p s) h = open_is_body k n p h
open_is_body k n (quantified c x s p) h = absurd h
open_is_body k n (var x) h = h.0
open_is_body k n (nullary c) h = tt
open_is_body k n (meta i) h = h
open_is_body k n (constant c) h = tt

-- ---- what occurs in a schema

-- a variable below n, and one from n on
pub meta_below : (n x : ℕ) → x < n → with_metas n (var x) ≡ meta x
meta_below n x low = ap (λ (b : Bool). if b then meta x else var x) (lt-ltb x n low)

pub var_above : (n x : ℕ) → n ≤ x → with_metas n (var x) ≡ var x
var_above n x high = ap (λ (b : Bool). if b then meta x else var x) (le-ltb x n high)

pub open_no_variable : (k n : ℕ) (p : Pattern) → IsOpenFrom k n p → HasNoVariable (with_metas n p)
open_no_variable k n (binary c p q) h = (open_no_variable k n p h.0, open_no_variable k n q h.1)
open_no_variable k n (unary c p) h = open_no_variable k n p h
open_no_variable k n (sorted c p s) h = open_no_variable k n p h
open_no_variable k n (quantified c x s p) h = absurd h
open_no_variable k n (var x) h = subst HasNoVariable (sym (meta_below n x h.1)) tt
open_no_variable k n (nullary c) h = tt
open_no_variable k n (meta i) h = tt
open_no_variable k n (constant c) h = tt

pub body_metas : (k n : ℕ) (p : Pattern) → IsBodyFrom k n p → IsMetaBelow n (with_metas n p)
body_metas k n (binary c p q) h = (body_metas k n p h.0, body_metas k n q h.1)
body_metas k n (unary c p) h = body_metas k n p h
body_metas k n (sorted c p s) h = body_metas k n p h
body_metas k n (quantified Ex x s p) h = body_metas k n p h.1
body_metas k n (quantified All x s p) h = absurd h
body_metas k n (var x) h = go (ltb x n) refl
  where
    go : (b : Bool) → ltb x n ≡ b → IsMetaBelow n (with_metas n (var x))
    go true is = subst (IsMetaBelow n) (sym (meta_below n x (ltb-true x n is))) (ltb-true x n is)
    go false is = subst (IsMetaBelow n) (sym (var_above n x (ltb-false x n is))) tt
body_metas k n (nullary c) h = tt
body_metas k n (meta i) h = h
body_metas k n (constant c) h = tt

pub open_metas : (k n : ℕ) (p : Pattern) → IsOpenFrom k n p → IsMetaBelow n (with_metas n p)
open_metas k n p h = body_metas k n p (open_is_body k n p h)

-- a pattern whose object variables are numbered from n on is its own schema
pub body_closed : (n : ℕ) (p : Pattern) → IsBodyFrom n n p → with_metas n p ≡ p
body_closed n (binary c p q) h = rw (body_closed n p h.0, body_closed n q h.1) refl
body_closed n (unary c p) h = ap (unary c) (body_closed n p h)
body_closed n (sorted c p s) h = ap (λ (r : Pattern). sorted c r s) (body_closed n p h)
body_closed n (quantified Ex x s p) h = ap (quantified Ex x s) (body_closed n p h.1)
body_closed n (quantified All x s p) h = absurd h
body_closed n (var x) h = var_above n x h
body_closed n (nullary c) h = refl
body_closed n (meta i) h = refl
body_closed n (constant c) h = refl

pub open_closed : (n : ℕ) (p : Pattern) → IsOpenFrom n n p → with_metas n p ≡ p
open_closed n p h = body_closed n p (open_is_body n n p h)

-- the leaves of a schema are leaves of the pattern, or pattern variables
pub schema_leaves : (f : LeafFacts) (n : ℕ) (p : Pattern) → ((i : ℕ) → f.meta i) → EachLeaf f p
    → EachLeaf f (with_metas n p)
schema_leaves f n (nullary c) m h = tt
schema_leaves f n (binary c p q) m h = (schema_leaves f n p m h.0, schema_leaves f n q m h.1)
schema_leaves f n (unary c p) m h = schema_leaves f n p m h
schema_leaves f n (sorted c p s) m h = (schema_leaves f n p m h.0, h.1)
schema_leaves f n (quantified c x s p) m h = (schema_leaves f n p m h.0, h.1)
schema_leaves f n (var x) m h = either (ltb x n)
  where
    either : (b : Bool) → EachLeaf f (if b then meta x else var x)
    either true = m x
    either false = h
schema_leaves f n (meta i) m h = h
schema_leaves f n (constant c) m h = h

pub schema_over : (s : Scope) (n : ℕ) (p : Pattern) → ((i : ℕ) → IsTrue (s.meta i)) → IsOver s p
    → IsOver s (with_metas n p)
schema_over s n p metas over = schema_leaves _ n p metas over

-- ---- images are open

abbrev IsOpenHead : ℕ → Option Pattern → Type 0
IsOpenHead n head = (h : Pattern) → head ≡ Some h → IsOpenFrom 0 n h

open_constant : (n : ℕ) (o : Option ℕ) → IsOpenHead n (option_map constant o)
open_constant n None h e = absurd (none_some h e)
open_constant n (Some c) h e = subst (IsOpenFrom 0 n) (some_same (constant c) h e) tt

open_app : (n : ℕ) (a b : Option Pattern) → IsOpenHead n a → IsOpenHead n b
    → IsOpenHead n (both app a b)
open_app n None b ka kb h e = absurd (none_some h e)
open_app n (Some p) None ka kb h e = absurd (none_some h e)
open_app n (Some p) (Some q) ka kb h e =
    subst (IsOpenFrom 0 n) (some_same (app p q) h e) (ka p refl, kb q refl)

open_at : (n : ℕ) (a : Option Pattern) (s : Option ℕ) → IsOpenHead n a
    → IsOpenHead n (both at_sort a s)
open_at n None s ka h e = absurd (none_some h e)
open_at n (Some p) None ka h e = absurd (none_some h e)
open_at n (Some p) (Some s) ka h e =
    subst (IsOpenFrom 0 n) (some_same (at_sort p s) h e) (ka p refl)

open_at_sorts : (sig : Signature) (names : List (List ℕ)) (n : ℕ) (ss : List ℕ)
    (head : Option Pattern) → IsOpenHead n head → IsOpenHead n (at_sorts sig names head ss)
open_at_sorts sig names n [] head k = k
open_at_sorts sig names n (s ∷ ss) head k =
    open_at_sorts sig names n ss (both at_sort head (sort_image sig names s))
    (open_at n head (sort_image sig names s) k)

open_some : (sig : Signature) (names : List (List ℕ)) (n : ℕ) (o : Option ℕ)
    → IsOpenHead n (some_symbol_image sig names o)
open_some sig names n None h e = absurd (none_some h e)
open_some sig names n (Some f) h e = open_constant n (number_in_names names (token_of_symbol sig f))
    h e

pub injection_is_open : (sig : Signature) (names : List (List ℕ)) (n a b : ℕ) (q : Pattern)
    → injection_image sig names a b ≡ Some q → IsOpenFrom 0 n q
injection_is_open sig names n a b =
    open_at_sorts sig names n (a ∷ b ∷ []) (some_symbol_image sig names (injection_symbol sig))
    (open_some sig names n (injection_symbol sig))

mutual
  pub image_is_open : (sig : Signature) (names : List (List ℕ)) (n : ℕ) (p : RulePattern)
      → HasImage sig n p → (q : Pattern) → image_of sig names p ≡ Some q → IsOpenFrom 0 n q
  image_is_open sig names n (variable x) has q e =
      subst (IsOpenFrom 0 n) (some_same (var x) q e) (omega arith, has)
  image_is_open sig names n (domain_value s v) has q e =
      open_constant n (number_in_names names (token_of_value sig s v)) q e
  image_is_open sig names n (application f ps) has q e =
      applied_is_open sig names n ps (symbol_image sig names f) has.1
      (open_constant n (number_in_names names (token_of_symbol sig f))) q e
  image_is_open sig names n (injection a b p) has q e =
      open_app n (injection_image sig names a b) (image_of sig names p)
      (injection_is_open sig names n a b) (image_is_open sig names n p has.2) q e
  image_is_open sig names n (call f ss ps) has q e =
      applied_is_open sig names n ps (at_sorts sig names (symbol_image sig names f) ss) has.2
      (open_at_sorts sig names n ss (symbol_image sig names f)
      (open_constant n (number_in_names names (token_of_symbol sig f)))) q e

  applied_is_open : (sig : Signature) (names : List (List ℕ)) (n : ℕ) (ps : RulePatterns)
      (head : Option Pattern) → HaveImages sig n ps → IsOpenHead n head → (q : Pattern)
      → applied sig names head ps ≡ Some q → IsOpenFrom 0 n q
  applied_is_open sig names n no_pattern head has k q e = k q e
  applied_is_open sig names n (more_patterns p ps) head has k q e =
      applied_is_open sig names n ps (both app head (image_of sig names p)) has.1
      (open_app n head (image_of sig names p) k (image_is_open sig names n p has.0)) q e
