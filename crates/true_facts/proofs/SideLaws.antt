-- The sides of facts, as patterns of the logic.
use Rattle.std.proofs.Common.{◌≡◌, ◌≢◌, ℕ, List, ◌++◌, length, Option, Some, None}
use Rattle.std.proofs.Common.{slice_get, get_or, refl, sym, ◌∙◌, ap, subst, arith}
use Rattle.std.specs.Prelude.{codes}
use Rattle.ml_pat.specs.Patterns.{Pattern, app, var, constant, at_sort}
use Rattle.term_core.specs.Patterns.{Pattern as RulePattern, variable}
use Rattle.term_core.specs.Terms.{DomainValue}
use Rattle.rule_core.specs.Subsorts.{IsBelow}
use Rattle.rule_core.specs.declared.signature.Signature.{Signature}
use Rattle.ml_image.specs.Images.{both, image_of, injection_image}
use Rattle.ml_image.specs.Sides.{Head, Side, value, constructor, plain, injected_variable}
use Rattle.ml_image.specs.Sides.{injected_head, head_pattern}
use Rattle.ml_image.specs.Tokens.{name_at}
use Rattle.ml_image.proofs.ImageLaws.{none_some, some_same}
use Rattle.true_facts.specs.Constructors.{applied_head, IsMade}
use Rattle.true_facts.specs.Only.{IsOnly}
use Rattle.true_facts.specs.Sides.{IsHeadAt, IsSideAt, IsPlainAt, IsInjectedAt}
use Rattle.true_facts.specs.Sides.{AppliesInjection, AppliesNoInjection}
use Rattle.true_facts.specs.Values.{IsValueAt}
use Rattle.true_facts.proofs.BothLaws.{both_parts, both_made}
use Rattle.true_facts.proofs.ConstructorLaws.{image_made, applied_head-variables}
use Rattle.true_facts.proofs.InjectionLaws.{injection_parts}
use Rattle.true_facts.proofs.OnlyLaws.{only_none, only_some, pair_same}
use Rattle.true_facts.proofs.TokenLaws.{numbered_from, constant_same}
use Rattle.true_facts.proofs.ValueTokenLaws.{HasToken, token_at}

-- ---- heads

-- what is applied in the end in the image of a head is a constant
pub head_constant : (sig : Signature) (names : List (List ℕ)) (p : Pattern) (k : ℕ)
    (h : ℕ × Head) → IsHeadAt sig names p k h → (c : ℕ) × (applied_head p ≡ constant c)
head_constant sig names p k (sort, value v) h =
    let t : HasToken sig names p (sort, v) = token_at sig names p (sort, v) h in
    (t.number, ap applied_head t.is_constant)
head_constant sig names p k (sort, constructor f sorts) h =
    let m = image_made sig names f k (length sorts) p h.1 in
    (m.0, ap applied_head m.2 ∙ applied_head-variables (constant m.0) k (length sorts))

other_prefix : (xs ys : List ℕ) → codes "d:" ++ xs ≡ codes "f:" ++ ys → ⊥
other_prefix xs ys h =
    let first : 100 ≡ 102 = ap (λ (l : List ℕ). get_or l 0 0) h in omega (arith, first)

-- the image of a value is not that of a constructor
apart : (sig : Signature) (names : List (List ℕ)) (p : Pattern) (k : ℕ) (x : ℕ × DomainValue)
    (m : ℕ × (ℕ × List ℕ)) → IsValueAt sig names p x → IsMade sig names p k m → ⊥
apart sig names p k x m first second =
    let t : HasToken sig names p x = token_at sig names p x first in
    let i = image_made sig names m.0 k (length m.1.1) p second.1 in
    let same : constant t.number ≡ constant i.0 =
    ap applied_head (sym t.is_constant) ∙ ap applied_head i.2
    ∙ applied_head-variables (constant i.0) k (length m.1.1) in
    let numbers : t.number ≡ i.0 = cc in
    let named = numbered_from names (λ (name : List ℕ). codes "f:" ++ name)
    (name_at sig.symbols m.0) i.0 (constant_same _ i.0 i.1) in
    let tokens : slice_get names t.number ≡ Some (codes "f:" ++ named.0) =
    ap (slice_get names) numbers ∙ named.2 in
    other_prefix _ _ (some_same _ _ (sym t.there ∙ tokens))

pub value_head : (sig : Signature) (names : List (List ℕ)) (p : Pattern) (k : ℕ)
    (x : ℕ × DomainValue) → IsOnly (IsValueAt sig names p) (Some x)
    → IsOnly (IsHeadAt sig names p k) (Some (x.0, value x.1))
value_head sig names p k x one =
    only_some (IsHeadAt sig names p k) (x.0, value x.1) ((one x).1 refl) others
  where
    others : (h : ℕ × Head) → IsHeadAt sig names p k h → ◌≡◌ {A = ℕ × Head} (x.0, value x.1) h
    others (sort, value v) h =
        let same : x ≡ (sort, v) = some_same x (sort, v) ((one (sort, v)).0 h) in
        ap (λ (y : ℕ × DomainValue). let r : ℕ × Head = (y.0, value y.1) in r) same
    others (sort, constructor f sorts) h =
        absurd (apart sig names p k x (f, (sort, sorts)) ((one x).1 refl) h)

pub constructor_head : (sig : Signature) (names : List (List ℕ)) (p : Pattern) (k : ℕ)
    (m : ℕ × (ℕ × List ℕ)) → IsOnly (IsMade sig names p k) (Some m)
    → IsOnly (IsHeadAt sig names p k) (Some (m.1.0, constructor m.0 m.1.1))
constructor_head sig names p k m one =
    only_some (IsHeadAt sig names p k) (m.1.0, constructor m.0 m.1.1) ((one m).1 refl) others
  where
    others : (h : ℕ × Head) → IsHeadAt sig names p k h
        → ◌≡◌ {A = ℕ × Head} (m.1.0, constructor m.0 m.1.1) h
    others (sort, value v) h =
        absurd (apart sig names p k (sort, v) m h ((one m).1 refl))
    others (sort, constructor f sorts) h =
        let same : m ≡ (f, (sort, sorts)) =
        some_same m (f, (sort, sorts)) ((one (f, (sort, sorts))).0 h) in
        ap (λ (y : ℕ × (ℕ × List ℕ)). let r : ℕ × Head = (y.1.0, constructor y.0 y.1.1) in r) same

pub no_head : (sig : Signature) (names : List (List ℕ)) (p : Pattern) (k : ℕ)
    → IsOnly (IsValueAt sig names p) None → IsOnly (IsMade sig names p k) None
    → IsOnly (IsHeadAt sig names p k) None
no_head sig names p k none nor = only_none (IsHeadAt sig names p k) others
  where
    others : (h : ℕ × Head) → IsHeadAt sig names p k h → ⊥
    others (sort, value v) h = none_some (sort, v) ((none (sort, v)).0 h)
    others (sort, constructor f sorts) h =
        none_some (f, (sort, sorts)) ((nor (f, (sort, sorts))).0 h)

-- ---- plain sides

pub plain_none : (sig : Signature) (names : List (List ℕ)) (p : Pattern) (k : ℕ)
    → IsOnly (IsHeadAt sig names p k) None → IsOnly (IsPlainAt sig names p k) None
plain_none sig names p k none =
    only_none (IsPlainAt sig names p k)
    (λ s h. none_some (s.0, h.0) ((none (s.0, h.0)).0 h.2))

pub plain_some : (sig : Signature) (names : List (List ℕ)) (p : Pattern) (k : ℕ) (h : ℕ × Head)
    → IsOnly (IsHeadAt sig names p k) (Some h)
    → IsOnly (IsPlainAt sig names p k) (Some (h.0, plain h.1))
plain_some sig names p k h one =
    only_some (IsPlainAt sig names p k) (h.0, plain h.1) (h.1, refl, (one h).1 refl)
    (λ s t.
    let same : h ≡ (s.0, t.0) = some_same h (s.0, t.0) ((one (s.0, t.0)).0 t.2) in
    pair_same h.0 s.0 (plain h.1) s.1 (ap (λ (y : ℕ × Head). y.0) same)
    (ap (λ (y : ℕ × Head). plain y.1) same ∙ sym t.1))

-- a side of a pattern that applies no injection is plain
pub plain_only : (sig : Signature) (names : List (List ℕ)) (p : Pattern) (k : ℕ)
    (o : Option (ℕ × Side)) → AppliesNoInjection sig names p → IsOnly (IsPlainAt sig names p k) o
    → IsOnly (IsSideAt sig names p k) o
plain_only sig names p k o none one s = (λ h. (one s).0 (to s h), λ e. from s ((one s).1 e))
  where
    to : (s : ℕ × Side) → IsSideAt sig names p k s → IsPlainAt sig names p k s
    to (sort, plain h) i = (h, refl, i)
    to (sort, injected_variable a) i =
        let parts = both_parts app (injection_image sig names a sort) (Some (var k)) p i.1 in
        absurd (none a sort parts.0 parts.1 parts.2 parts.4)
    to (sort, injected_head a h) i =
        let parts = both_parts app (injection_image sig names a sort)
        (image_of sig names (head_pattern a k h)) p i.1 in
        absurd (none a sort parts.0 parts.1 parts.2 parts.4)

    from : (s : ℕ × Side) → IsPlainAt sig names p k s → IsSideAt sig names p k s
    from (sort, plain h) (g, is, i) =
        let same : h ≡ g = cc in
        subst (λ (x : Head). IsHeadAt sig names p k (sort, x)) (sym same) i
    from (sort, injected_variable a) (g, is, i) = absurd (cc)
    from (sort, injected_head a h) (g, is, i) = absurd (cc)

-- ---- sides that inject

-- the image of an injection is no head
no_injected_head : (sig : Signature) (names : List (List ℕ)) (p head q : Pattern) (k a b : ℕ)
    (h : ℕ × Head) → injection_image sig names a b ≡ Some head → p ≡ app head q
    → IsHeadAt sig names p k h → ⊥
no_injected_head sig names p head q k a b h is applied i =
    let c = head_constant sig names p k h i in
    let parts = injection_parts sig names head (a, b) is in
    let bad : at_sort (at_sort parts.head parts.lower) parts.upper ≡ constant c.0 =
    ap applied_head (ap (λ (g : Pattern). app g q) (sym parts.shape) ∙ sym applied) ∙ c.1 in cc

pub injected_only : (sig : Signature) (names : List (List ℕ)) (p q : Pattern) (k a b : ℕ)
    (o : Option (ℕ × Side)) → AppliesInjection sig names p a b q
    → IsOnly (IsInjectedAt sig names q k a b) o → IsOnly (IsSideAt sig names p k) o
injected_only sig names p q k a b o (head, applied, only) one s =
    (λ h. (one s).0 (to s h), λ e. from s ((one s).1 e))
  where
    this : injection_image sig names a b ≡ Some head
    this = (only (a, b)).1 refl

    to : (s : ℕ × Side) → IsSideAt sig names p k s → IsInjectedAt sig names q k a b s
    to (sort, plain h) i =
        absurd (no_injected_head sig names p head q k a b (sort, h) this applied i)
    to (sort, injected_variable c) i =
        let parts = both_parts app (injection_image sig names c sort) (Some (var k)) p i.1 in
        let whole : app head q ≡ app parts.0 parts.1 = sym applied ∙ parts.4 in
        let heads : parts.0 ≡ head = cc in
        let args : parts.1 ≡ q = cc in
        let same : ◌≡◌ {A = ℕ × ℕ} (a, b) (c, sort) =
        some_same (a, b) (c, sort)
        ((only (c, sort)).0 (parts.2 ∙ ap (λ (g : Pattern). Some g) heads)) in (
          ap (λ (x : ℕ × ℕ). x.1) same,
          i.0,
          (
            variable k,
            (ap (λ (x : ℕ × ℕ). x.0) same, refl),
            parts.3 ∙ ap (λ (g : Pattern). Some g) args,
          ),
        )
    to (sort, injected_head c h) i =
        let parts = both_parts app (injection_image sig names c sort)
        (image_of sig names (head_pattern c k h)) p i.1 in
        let whole : app head q ≡ app parts.0 parts.1 = sym applied ∙ parts.4 in
        let heads : parts.0 ≡ head = cc in
        let args : parts.1 ≡ q = cc in
        let same : ◌≡◌ {A = ℕ × ℕ} (a, b) (c, sort) =
        some_same (a, b) (c, sort)
        ((only (c, sort)).0 (parts.2 ∙ ap (λ (g : Pattern). Some g) heads)) in (
          ap (λ (x : ℕ × ℕ). x.1) same,
          i.0,
          (
            head_pattern c k h,
            (ap (λ (x : ℕ × ℕ). x.0) same, refl),
            parts.3 ∙ ap (λ (g : Pattern). Some g) args,
          ),
        )

    image : (c sort : ℕ) (r : RulePattern) → a ≡ c → b ≡ sort → image_of sig names r ≡ Some q
        → both app (injection_image sig names c sort) (image_of sig names r) ≡ Some p
    image c sort r first second is =
        both_made app (injection_image sig names c sort) (image_of sig names r) head q
        (ap (λ (x : ℕ). injection_image sig names x sort) (sym first)
        ∙ ap (λ (x : ℕ). injection_image sig names a x) (sym second) ∙ this) is
        ∙ ap (λ (g : Pattern). Some g) (sym applied)

    from : (s : ℕ × Side) → IsInjectedAt sig names q k a b s → IsSideAt sig names p k s
    from (sort, plain h) (upper, side, (r, inside, is)) = absurd inside
    from (sort, injected_variable c) (upper, side, (r, inside, is)) = (
      side,
      image c sort (variable k) inside.0 upper
          (ap (image_of sig names) inside.1 ∙ is),
    )
    from (sort, injected_head c h) (upper, side, (r, inside, is)) = (
      side,
      image c sort (head_pattern c k h) inside.0 upper
          (ap (image_of sig names) inside.1 ∙ is),
    )

-- ---- what is injected

-- an injected head, as a head
inside_head : (sig : Signature) (names : List (List ℕ)) (p : Pattern) (k a b sort c : ℕ) (h : Head)
    → IsInjectedAt sig names p k a b (sort, injected_head c h)
    → (a ≡ c) × IsHeadAt sig names p k (c, h)
inside_head sig names p k a b sort c h (upper, side, (r, inside, is)) =
    (inside.0, (side.1, ap (image_of sig names) inside.1 ∙ is))

-- an injected variable
inside_variable : (sig : Signature) (names : List (List ℕ)) (p : Pattern) (k a b sort c : ℕ)
    → IsInjectedAt sig names p k a b (sort, injected_variable c) → p ≡ var k
inside_variable sig names p k a b sort c (upper, side, (r, inside, is)) =
    some_same p (var k) (sym is ∙ ap (image_of sig names) (sym inside.1))

pub variable_side : (sig : Signature) (names : List (List ℕ)) (p : Pattern) (k a b : ℕ)
    → IsBelow sig.subsorts a b → p ≡ var k
    → IsOnly (IsInjectedAt sig names p k a b) (Some (b, injected_variable a))
variable_side sig names p k a b below is =
    only_some (IsInjectedAt sig names p k a b) (b, injected_variable a)
    (refl, below, (variable k, (refl, refl), ap (λ (g : Pattern). Some g) (sym is))) others
  where
    others : (s : ℕ × Side) → IsInjectedAt sig names p k a b s
        → ◌≡◌ {A = ℕ × Side} (b, injected_variable a) s
    others (sort, plain h) (upper, side, (r, inside, image)) = absurd inside
    others (sort, injected_variable c) (upper, side, (r, inside, image)) =
        pair_same b sort (injected_variable a) (injected_variable c) upper
        (ap injected_variable inside.0)
    others (sort, injected_head c h) i =
        let j = inside_head sig names p k a b sort c h i in
        let n = head_constant sig names p k (c, h) j.1 in
        let bad : var k ≡ constant n.0 = ap applied_head (sym is) ∙ n.1 in absurd (cc)

pub no_injected : (sig : Signature) (names : List (List ℕ)) (p : Pattern) (k a b : ℕ) → p ≢ var k
    → IsOnly (IsHeadAt sig names p k) None → IsOnly (IsInjectedAt sig names p k a b) None
no_injected sig names p k a b other none =
    only_none (IsInjectedAt sig names p k a b) others
  where
    others : (s : ℕ × Side) → IsInjectedAt sig names p k a b s → ⊥
    others (sort, plain h) (upper, side, (r, inside, image)) = absurd inside
    others (sort, injected_variable c) i =
        other (inside_variable sig names p k a b sort c i)
    others (sort, injected_head c h) i =
        let j = inside_head sig names p k a b sort c h i in
        none_some (c, h) ((none (c, h)).0 j.1)

pub other_sort : (sig : Signature) (names : List (List ℕ)) (p : Pattern) (k a b : ℕ)
    (h : ℕ × Head) → p ≢ var k → IsOnly (IsHeadAt sig names p k) (Some h) → h.0 ≢ a
    → IsOnly (IsInjectedAt sig names p k a b) None
other_sort sig names p k a b h other one differ =
    only_none (IsInjectedAt sig names p k a b) others
  where
    others : (s : ℕ × Side) → IsInjectedAt sig names p k a b s → ⊥
    others (sort, plain g) (upper, side, (r, inside, image)) = absurd inside
    others (sort, injected_variable c) i =
        other (inside_variable sig names p k a b sort c i)
    others (sort, injected_head c g) i =
        let j = inside_head sig names p k a b sort c g i in
        let same : h ≡ (c, g) = some_same h (c, g) ((one (c, g)).0 j.1) in
        differ (ap (λ (y : ℕ × Head). y.0) same ∙ sym j.0)

pub head_side : (sig : Signature) (names : List (List ℕ)) (p : Pattern) (k a b : ℕ)
    (h : ℕ × Head) → IsBelow sig.subsorts a b → p ≢ var k
    → IsOnly (IsHeadAt sig names p k) (Some h) → h.0 ≡ a
    → IsOnly (IsInjectedAt sig names p k a b) (Some (b, injected_head a h.1))
head_side sig names p k a b h below other one same =
    let has : IsHeadAt sig names p k (a, h.1) =
    subst (λ (s : ℕ). IsHeadAt sig names p k (s, h.1)) same ((one h).1 refl) in
    only_some (IsInjectedAt sig names p k a b) (b, injected_head a h.1)
    (refl, (below, has.0), (head_pattern a k h.1, (refl, refl), has.1)) others
  where
    others : (s : ℕ × Side) → IsInjectedAt sig names p k a b s
        → ◌≡◌ {A = ℕ × Side} (b, injected_head a h.1) s
    others (sort, plain g) (upper, side, (r, inside, image)) = absurd inside
    others (sort, injected_variable c) i =
        absurd (other (inside_variable sig names p k a b sort c i))
    others (sort, injected_head c g) i =
        let j = inside_head sig names p k a b sort c g i in
        let found : h ≡ (c, g) = some_same h (c, g) ((one (c, g)).0 j.1) in
        pair_same b sort (injected_head a h.1) (injected_head c g) i.0
        (ap (λ (x : ℕ). injected_head x h.1) j.0
        ∙ ap (λ (y : ℕ × Head). injected_head c y.1) found)
