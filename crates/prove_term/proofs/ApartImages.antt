-- The images of patterns without a common instance, with the numbers of their variables raised.
use Rattle.std.proofs.Common.{◌≡◌, ◌+◌, ◌≤◌, ◌^◌, ℕ, zero, suc, List, [], ◌∷◌, Option}
use Rattle.std.proofs.Common.{Some}
use Rattle.std.proofs.Common.{None, option_map, length, refl, sym, ◌∙◌, ap, subst, arith}
use Rattle.std.proofs.Common.{length-append}
use Rattle.ml_pat.specs.Patterns.{Pattern}
use Rattle.ml_pat.specs.Patterns as logic
use Rattle.ml_pat.specs.Leaves.{EachLeaf}
use Rattle.term_core.specs.Patterns.{Pattern as RulePattern, Patterns as RulePatterns, variable}
use Rattle.term_core.specs.Patterns.{domain_value, application, injection, call, no_pattern}
use Rattle.term_core.specs.Patterns.{more_patterns}
use Rattle.rule_core.specs.declared.signature.Signature.{Signature}
use Rattle.ml_image.specs.Tokens.{token_of_symbol, token_of_value, number_in_names}
use Rattle.ml_image.specs.Images.{both, image_of, applied, symbol_image, sort_image, at_sorts}
use Rattle.ml_image.specs.Images.{injection_image, some_symbol_image, injection_symbol, shifted}
use Rattle.ml_image.specs.Images.{all_shifted}
use Rattle.ml_image.specs.Sentences.{Sentence, sentence_image, not, equals, term, IsImageOf}
use Rattle.ml_image.specs.Sides.{Head, Side, value, constructor, plain, injected_variable}
use Rattle.ml_image.specs.Sides.{injected_head, numbered, head_sorts, side_sorts, head_pattern}
use Rattle.ml_image.specs.Sides.{side_pattern, AreApart}
use Rattle.ml_image.specs.TrueFacts.{SaysUnequal}
use Rattle.ml_image.specs.HasImages.{HasImage, HaveImages, HaveApartImages}
use Rattle.ml_image.proofs.ImageLaws.{none_some, some_same}
use Rattle.prove_term.specs.Contexts.{Context}
use Rattle.prove_term.specs.Numbered.{all_from}
use Rattle.prove_term.specs.OpenAxioms.{SaysUnequalFrom}
use Rattle.prove_term.specs.Raised.{variables_below, IsBoundInFront, raised}
use Rattle.prove_term.proofs.ImageShapes.{both_some, map_some, IsClosing, closing_shape}
use Rattle.prove_term.proofs.ImageShapes.{as_many_numbers}
use Rattle.prove_term.proofs.RaisedShapes.{raised_all, bound_all}

-- ---- images of patterns with raised variables

raised_constant : (k : ℕ) (o : Option ℕ)
    → option_map (raised k) (option_map logic.constant o) ≡ option_map logic.constant o
raised_constant k None = refl
raised_constant k (Some c) = refl

raised_at_sorts : (k : ℕ) (sig : Signature) (names : List (List ℕ)) (ss : List ℕ)
    (head : Option Pattern) → option_map (raised k) head ≡ head
    → option_map (raised k) (at_sorts sig names head ss) ≡ at_sorts sig names head ss
raised_at_sorts k sig names [] head h = h
raised_at_sorts k sig names (s ∷ ss) head h =
    raised_at_sorts k sig names ss (both logic.at_sort head (sort_image sig names s))
    (go head (sort_image sig names s) h)
  where
    go : (o : Option Pattern) (n : Option ℕ) → option_map (raised k) o ≡ o
        → option_map (raised k) (both logic.at_sort o n) ≡ both logic.at_sort o n
    go None n e = refl
    go (Some p) None e = refl
    go (Some p) (Some n) e =
        ap (λ (q : Pattern). Some (logic.at_sort q n)) (some_same (raised k p) p e)

raised_some_symbol : (k : ℕ) (sig : Signature) (names : List (List ℕ)) (o : Option ℕ)
    → option_map (raised k) (some_symbol_image sig names o) ≡ some_symbol_image sig names o
raised_some_symbol k sig names None = refl
raised_some_symbol k sig names (Some f) =
    raised_constant k (number_in_names names (token_of_symbol sig f))

raised_app : (k : ℕ) (o q : Option Pattern)
    → both logic.app (option_map (raised k) o) (option_map (raised k) q)
    ≡ option_map (raised k) (both logic.app o q)
raised_app k None q = refl
raised_app k (Some p) None = refl
raised_app k (Some p) (Some q) = refl

mutual
  raised_image : (k : ℕ) (sig : Signature) (names : List (List ℕ)) (p : RulePattern)
      → image_of sig names (shifted k p) ≡ option_map (raised k) (image_of sig names p)
  raised_image k sig names (variable x) = refl
  raised_image k sig names (domain_value s v) =
      sym (raised_constant k (number_in_names names (token_of_value sig s v)))
  raised_image k sig names (application f ps) =
      raised_applied k sig names ps (symbol_image sig names f) (symbol_image sig names f)
      (sym (raised_constant k (number_in_names names (token_of_symbol sig f))))
  raised_image k sig names (injection a b p) =
      ap (λ (o : Option Pattern). both logic.app o (image_of sig names (shifted k p)))
      (sym (raised_at_sorts k sig names (a ∷ b ∷ [])
      (some_symbol_image sig names (injection_symbol sig))
      (raised_some_symbol k sig names (injection_symbol sig))))
      ∙ ap (both logic.app (option_map (raised k) (injection_image sig names a b)))
      (raised_image k sig names p)
      ∙ raised_app k (injection_image sig names a b) (image_of sig names p)
  raised_image k sig names (call f ss ps) =
      raised_applied k sig names ps (at_sorts sig names (symbol_image sig names f) ss)
      (at_sorts sig names (symbol_image sig names f) ss)
      (sym (raised_at_sorts k sig names ss (symbol_image sig names f)
      (raised_constant k (number_in_names names (token_of_symbol sig f)))))

  raised_applied : (k : ℕ) (sig : Signature) (names : List (List ℕ)) (ps : RulePatterns)
      (new old : Option Pattern) → new ≡ option_map (raised k) old
      → applied sig names new (all_shifted k ps)
      ≡ option_map (raised k) (applied sig names old ps)
  raised_applied k sig names no_pattern new old h = h
  raised_applied k sig names (more_patterns p ps) new old h =
      raised_applied k sig names ps (both logic.app new (image_of sig names (shifted k p)))
      (both logic.app old (image_of sig names p))
      (ap (λ (o : Option Pattern). both logic.app o (image_of sig names (shifted k p))) h
      ∙ ap (both logic.app (option_map (raised k) old)) (raised_image k sig names p)
      ∙ raised_app k old (image_of sig names p))

image_raised : (k : ℕ) (sig : Signature) (names : List (List ℕ)) (p : RulePattern) (q : Pattern)
    → image_of sig names p ≡ Some q → image_of sig names (shifted k p) ≡ Some (raised k q)
image_raised k sig names p q is =
    raised_image k sig names p ∙ ap (option_map (raised k)) is

-- ---- the numbers of variables in images

-- if there is a pattern, its variables have numbers below n
abbrev AreBelow : ℕ → Option Pattern → Type 0
AreBelow n o = (q : Pattern) → o ≡ Some q → EachLeaf (variables_below n) q

below_constant : (n : ℕ) (o : Option ℕ) → AreBelow n (option_map logic.constant o)
below_constant n o q is =
    let w : (c : ℕ) × (o ≡ Some c) × (q ≡ logic.constant c) = map_some logic.constant o q is in
    subst (EachLeaf (variables_below n)) (sym w.2) tt

below_app : (n : ℕ) (a b : Option Pattern) → AreBelow n a → AreBelow n b
    → AreBelow n (both logic.app a b)
below_app n a b h k q is =
    let w : (x : Pattern) × (y : Pattern) × (a ≡ Some x) × (b ≡ Some y) × (q ≡ logic.app x y) =
    both_some logic.app a b q is in
    subst (EachLeaf (variables_below n)) (sym w.4) (h w.0 w.2, k w.1 w.3)

below_at_sorts : (n : ℕ) (sig : Signature) (names : List (List ℕ)) (ss : List ℕ)
    (head : Option Pattern) → AreBelow n head → AreBelow n (at_sorts sig names head ss)
below_at_sorts n sig names [] head h = h
below_at_sorts n sig names (s ∷ ss) head h =
    below_at_sorts n sig names ss (both logic.at_sort head (sort_image sig names s)) (λ q is.
    let w : (x : Pattern) × (t : ℕ) × (head ≡ Some x) × (sort_image sig names s ≡ Some t)
    × (q ≡ logic.at_sort x t) =
    both_some logic.at_sort head (sort_image sig names s) q is in
    subst (EachLeaf (variables_below n)) (sym w.4) (h w.0 w.2, tt))

below_some_symbol : (n : ℕ) (sig : Signature) (names : List (List ℕ)) (o : Option ℕ)
    → AreBelow n (some_symbol_image sig names o)
below_some_symbol n sig names None = λ q is. absurd (none_some q is)
below_some_symbol n sig names (Some f) =
    below_constant n (number_in_names names (token_of_symbol sig f))

mutual
  below_image : (n : ℕ) (sig : Signature) (names : List (List ℕ)) (p : RulePattern)
      → HasImage sig n p → AreBelow n (image_of sig names p)
  below_image n sig names (variable x) h = λ q is.
      subst (EachLeaf (variables_below n)) (some_same (logic.var x) q is) h
  below_image n sig names (domain_value s v) h =
      below_constant n (number_in_names names (token_of_value sig s v))
  below_image n sig names (application f ps) h =
      below_applied n sig names ps (symbol_image sig names f) h.1
      (below_constant n (number_in_names names (token_of_symbol sig f)))
  below_image n sig names (injection a b p) h =
      below_app n (injection_image sig names a b) (image_of sig names p)
      (below_at_sorts n sig names (a ∷ b ∷ [])
      (some_symbol_image sig names (injection_symbol sig))
      (below_some_symbol n sig names (injection_symbol sig)))
      (below_image n sig names p h.2)
  below_image n sig names (call f ss ps) h =
      below_applied n sig names ps (at_sorts sig names (symbol_image sig names f) ss) h.2
      (below_at_sorts n sig names ss (symbol_image sig names f)
      (below_constant n (number_in_names names (token_of_symbol sig f))))

  below_applied : (n : ℕ) (sig : Signature) (names : List (List ℕ)) (ps : RulePatterns)
      (head : Option Pattern) → HaveImages sig n ps → AreBelow n head
      → AreBelow n (applied sig names head ps)
  below_applied n sig names no_pattern head h k = k
  below_applied n sig names (more_patterns p ps) head h k =
      below_applied n sig names ps (both logic.app head (image_of sig names p)) h.1
      (below_app n head (image_of sig names p) k (below_image n sig names p h.0))

-- ---- sides

numbered_have : (sig : Signature) (m n k : ℕ) → k + n ≤ m → HaveImages sig m (numbered k n)
numbered_have sig m zero k few = tt
numbered_have sig m (suc n) k few =
    (omega (arith, few), numbered_have sig m n (k + 1) (omega (arith, few)))

head_has : (sig : Signature) (m most sort k : ℕ) (h : Head) → k + length (head_sorts h) ≤ m
    → HasImage sig most (head_pattern sort k h) → HasImage sig m (head_pattern sort k h)
head_has sig m most sort k (value v) few is = is
head_has sig m most sort k (constructor f sorts) few is =
    (is.0, numbered_have sig m (length sorts) k few)

-- the variables of a side have numbers below k and their count
side_has : (sig : Signature) (m most sort k : ℕ) (s : Side) → k + length (side_sorts s) ≤ m
    → HasImage sig most (side_pattern sort k s) → HasImage sig m (side_pattern sort k s)
side_has sig m most sort k (plain h) few is = head_has sig m most sort k h few is
side_has sig m most sort k (injected_variable a) few is = (is.0, is.1, omega (arith, few))
side_has sig m most sort k (injected_head a h) few is =
    (is.0, is.1, head_has sig m most a k h few is.2)

-- both patterns have images over as many variables as there are
both_have : (sig : Signature) (p q : RulePattern) (sorts : List ℕ) → AreApart sig p q sorts
    → HasImage sig (2 ^ 32) p → HasImage sig (2 ^ 32) q
    → HasImage sig (length sorts) p × HasImage sig (length sorts) q
both_have sig p q sorts apart h k =
    let all : length sorts ≡ length (side_sorts apart.one) + length (side_sorts apart.other) =
    ap (λ (ss : List ℕ). length ss) apart.sorts_are
    ∙ length-append (side_sorts apart.one) (side_sorts apart.other) in (
      subst (HasImage sig (length sorts)) (sym apart.first)
          (side_has sig (length sorts) (2 ^ 32) apart.sort 0 apart.one (omega (arith, all))
          (subst (HasImage sig (2 ^ 32)) apart.first h)),
      subst (HasImage sig (length sorts)) (sym apart.second)
          (side_has sig (length sorts) (2 ^ 32) apart.sort (length (side_sorts apart.one))
          apart.other (omega (arith, all)) (subst (HasImage sig (2 ^ 32)) apart.second k)),
    )

-- ---- the axiom

-- the parts of its image
pub record IsUnequal (sig : Signature) (names : List (List ℕ)) (left right : RulePattern)
    (p : Pattern) : Type 0 where
  pub says : (s : Sentence) × SaysUnequal sig left right s
  pub closing : IsClosing sig names 0 says.1.sorts (not (equals (term left) (term right))) p
  pub first : Pattern
  pub is_first : image_of sig names left ≡ Some first
  pub second : Pattern
  pub is_second : image_of sig names right ≡ Some second
  pub body : closing.body ≡ logic.not (logic.equal first second)

unequal_shape : (sig : Signature) (names : List (List ℕ)) (left right : RulePattern) (p : Pattern)
    → IsImageOf sig names (SaysUnequal sig left right) p → IsUnequal sig names left right p
unequal_shape sig names left right p (s, says, is) =
    let closing : IsClosing sig names 0 says.sorts (not (equals (term left) (term right))) p =
    closing_shape sig names says.sorts 0 (not (equals (term left) (term right))) p
    (ap (sentence_image sig names) (sym says.says) ∙ is) in
    let w : (x : Pattern) × (both logic.equal (image_of sig names left) (image_of sig names right)
    ≡ Some x) × (closing.body ≡ logic.not x) =
    map_some logic.not (both logic.equal (image_of sig names left) (image_of sig names right))
    closing.body closing.is_body in
    let v : (x : Pattern) × (y : Pattern) × (image_of sig names left ≡ Some x) ×
    (image_of sig names right ≡ Some y) × (w.0 ≡ logic.equal x y) =
    both_some logic.equal (image_of sig names left) (image_of sig names right) w.0 w.1 in
    record {
      says = (s, says);
      closing = closing;
      first = v.0;
      is_first = v.2;
      second = v.1;
      is_second = v.3;
      body = w.2 ∙ ap logic.not v.4;
    }

pub unequal_bound : (sig : Signature) (names : List (List ℕ)) (left right : RulePattern)
    (p : Pattern) → HaveApartImages sig left right
    → IsImageOf sig names (SaysUnequal sig left right) p → IsBoundInFront p
unequal_bound sig names left right p has image =
    let u : IsUnequal sig names left right p = unequal_shape sig names left right p image in
    let have : HasImage sig (length u.says.1.sorts) left
    × HasImage sig (length u.says.1.sorts) right =
    both_have sig left right u.says.1.sorts u.says.1.apart has.left has.right in
    let many : length u.closing.numbers ≡ length u.says.1.sorts =
    as_many_numbers sig names u.says.1.sorts u.closing.numbers u.closing.are_numbers in
    subst IsBoundInFront (sym (u.closing.says ∙ ap (all_from 0 u.closing.numbers) u.body))
    (bound_all u.closing.numbers (logic.not (logic.equal u.first u.second)) refl
    (subst (λ (n : ℕ). EachLeaf (variables_below n) (logic.not (logic.equal u.first u.second)))
    (sym many) (
      below_image (length u.says.1.sorts) sig names left have.0 u.first u.is_first,
      below_image (length u.says.1.sorts) sig names right have.1 u.second u.is_second,
    )))

pub says_unequal : (cx : Context) (left right : RulePattern) (k : ℕ) (p q : Pattern)
    → IsImageOf cx.program.sig cx.names (SaysUnequal cx.program.sig left right) p
    → q ≡ raised k p → SaysUnequalFrom cx left right k q
says_unequal cx left right k p q image is =
    let u : IsUnequal cx.program.sig cx.names left right p =
    unequal_shape cx.program.sig cx.names left right p image in
    let start : k + 0 ≡ k = omega arith in
    record {
      sorts = u.says.1.sorts;
      apart = u.says.1.apart;
      numbers = u.closing.numbers;
      are_numbers = u.closing.are_numbers;
      first = raised k u.first;
      is_first = image_raised k cx.program.sig cx.names left u.first u.is_first;
      second = raised k u.second;
      is_second = image_raised k cx.program.sig cx.names right u.second u.is_second;
      says = is ∙ ap (raised k) (u.closing.says ∙ ap (all_from 0 u.closing.numbers) u.body)
          ∙ raised_all k 0 u.closing.numbers (logic.not (logic.equal u.first u.second))
          ∙ ap (λ (i : ℕ). all_from i u.closing.numbers
          (logic.not (logic.equal (raised k u.first) (raised k u.second)))) start;
    }
