-- The image of a sentence over other names.
use Rattle.std.proofs.Common.{◌≡◌, ℕ, List, [], ◌∷◌, ◌++◌, Option, Some, None, option_map, refl, ap}
use Rattle.std.proofs.Common.{◌∙◌, subst}
use Rattle.std.specs.Prelude.{codes}
use Rattle.mm_text.specs.Bytes.{Token}
use Rattle.ml_pat.specs.Named.{AreDistinct}
use Rattle.ml_pat.specs.Patterns.{Pattern, Unary, Binary, Sorted, Quantifier, unary, binary, sorted}
use Rattle.ml_pat.specs.Patterns.{quantified, constant}
use Rattle.ml_pat.specs.Patterns as logic
use Rattle.ml_pat.specs.Leaves.{EachLeaf}
use Rattle.term_core.specs.Patterns.{Pattern as RulePattern, Patterns as RulePatterns, variable}
use Rattle.term_core.specs.Patterns.{domain_value, application, injection, call, no_pattern}
use Rattle.term_core.specs.Patterns.{more_patterns}
use Rattle.rule_core.specs.declared.signature.Signature.{Signature}
use Rattle.ml_image.specs.Tokens.{sort_token, symbol_token, value_token, name_at}
use Rattle.ml_image.specs.Tokens.{token_of_symbol, token_of_value, number_in_names, hexadecimal}
use Rattle.term_core.specs.ValueTexts.{value_text}
use Rattle.ml_image.specs.Images.{both, symbol_image, sort_image, at_sorts, injection_symbol}
use Rattle.ml_image.specs.Images.{some_symbol_image, injection_image, image_of, applied}
use Rattle.ml_image.specs.Sentences.{Sentence, term, symbol, inject, apply, top, bottom, not}
use Rattle.ml_image.specs.Sentences.{and, or, implies, equals}
use Rattle.ml_image.specs.Sentences.{is_in, functional, exists, forall, next, sentence_image}
use Rattle.ml_image.proofs.ImageLaws.{none_some, some_same}
use Rattle.mm_proof.specs.Tokens.{name_of}
use Rattle.pattern_reader.specs.ReadingLaws.{renumbered, same_tokens}
use Rattle.pattern_reader.proofs.TokenLaws.{number_found, number_of}

-- Names, other names, and for each number of a name among the others a number among the names.
pub record Renaming : Type 0 where
  pub names : List Token
  pub others : List Token
  pub number : ℕ → ℕ
  pub distinct : AreDistinct names

abbrev Same : Renaming → Pattern → Type 0
Same r p = EachLeaf (same_tokens r.names r.others r.number) p

-- The one is over the others, the other over the names.
abbrev Follows : Renaming → Option Pattern → Option Pattern → Type 0
Follows r a b = (p : Pattern) → a ≡ Some p → Same r p → b ≡ Some (renumbered r.number p)

abbrev FollowsNumber : Renaming → Option ℕ → Option ℕ → Type 0
FollowsNumber r a b =
    (n : ℕ) → a ≡ Some n → name_of r.names (r.number n) ≡ name_of r.others n
    → b ≡ Some (r.number n)

-- ---- tokens

number-follows : (r : Renaming) (b : ℕ) (rest : Token)
    → FollowsNumber r (number_in_names r.others (Some (b ∷ rest)))
    (number_in_names r.names (Some (b ∷ rest)))
number-follows r b rest n h same =
    number_of r.names (r.number n) b rest r.distinct
    (same ∙ number_found r.others (b ∷ rest) n h)

sort-follows : (r : Renaming) (sig : Signature) (s : ℕ)
    → FollowsNumber r (sort_image sig r.others s) (sort_image sig r.names s)
sort-follows r sig s = go (name_at sig.sorts s)
  where
    go : (o : Option Token) → FollowsNumber r (number_in_names r.others (option_map sort_token o))
        (number_in_names r.names (option_map sort_token o))
    go None n h same = absurd (none_some n h)
    go (Some name) n h same = number-follows r 115 (58 ∷ name) n h same

constant-follows : (r : Renaming) (a b : Option ℕ) → FollowsNumber r a b
    → Follows r (option_map constant a) (option_map constant b)
constant-follows r None b f p h same = absurd (none_some p h)
constant-follows r (Some n) b f p h same =
    let e : constant n ≡ p = some_same (constant n) p h in
    subst (λ (q : Pattern). Same r q → option_map constant b ≡ Some (renumbered r.number q)) e
    (λ l. ap (option_map constant) (f n refl l)) same

symbol-follows : (r : Renaming) (sig : Signature) (f : ℕ)
    → Follows r (symbol_image sig r.others f) (symbol_image sig r.names f)
symbol-follows r sig f =
    constant-follows r (number_in_names r.others (token_of_symbol sig f))
    (number_in_names r.names (token_of_symbol sig f)) (go (name_at sig.symbols f))
  where
    go : (o : Option Token) → FollowsNumber r (number_in_names r.others (option_map symbol_token o))
        (number_in_names r.names (option_map symbol_token o))
    go None n h same = absurd (none_some n h)
    go (Some name) n h same = number-follows r 102 (58 ∷ name) n h same

-- ---- connectives

two-follow : (r : Renaming) (k : Binary) (a a' b b' : Option Pattern) → Follows r a a'
    → Follows r b b' → Follows r (both (binary k) a b) (both (binary k) a' b')
two-follow r k None a' b b' fa fb p h same = absurd (none_some p h)
two-follow r k (Some x) a' None b' fa fb p h same = absurd (none_some p h)
two-follow r k (Some x) a' (Some y) b' fa fb p h same =
    let e : binary k x y ≡ p = some_same (binary k x y) p h in
    subst (λ (q : Pattern). Same r q → both (binary k) a' b' ≡ Some (renumbered r.number q)) e
    (λ l. rw (fa x refl l.0, fb y refl l.1) refl) same

one-follows : (r : Renaming) (k : Unary) (a a' : Option Pattern) → Follows r a a'
    → Follows r (option_map (unary k) a) (option_map (unary k) a')
one-follows r k None a' fa p h same = absurd (none_some p h)
one-follows r k (Some x) a' fa p h same =
    let e : unary k x ≡ p = some_same (unary k x) p h in
    subst (λ (q : Pattern). Same r q → option_map (unary k) a' ≡ Some (renumbered r.number q)) e
    (λ l. rw (fa x refl l) refl) same

sorted-follows : (r : Renaming) (k : Sorted) (a a' : Option Pattern) (s s' : Option ℕ)
    → Follows r a a' → FollowsNumber r s s' → Follows r (both (sorted k) a s) (both (sorted k) a' s')
sorted-follows r k None a' s s' fa fs p h same = absurd (none_some p h)
sorted-follows r k (Some x) a' None s' fa fs p h same = absurd (none_some p h)
sorted-follows r k (Some x) a' (Some n) s' fa fs p h same =
    let e : sorted k x n ≡ p = some_same (sorted k x n) p h in
    subst (λ (q : Pattern). Same r q → both (sorted k) a' s' ≡ Some (renumbered r.number q)) e
    (λ l. rw (fa x refl l.0, fs n refl l.1) refl) same

bound-follows : (r : Renaming) (k : Quantifier) (y : ℕ) (s s' : Option ℕ) (a a' : Option Pattern)
    → FollowsNumber r s s' → Follows r a a'
    → Follows r (both (quantified k y) s a) (both (quantified k y) s' a')
bound-follows r k y None s' a a' fs fa p h same = absurd (none_some p h)
bound-follows r k y (Some n) s' None a' fs fa p h same = absurd (none_some p h)
bound-follows r k y (Some n) s' (Some x) a' fs fa p h same =
    let e : quantified k y n x ≡ p = some_same (quantified k y n x) p h in
    subst (λ (q : Pattern). Same r q → both (quantified k y) s' a' ≡ Some (renumbered r.number q)) e
    (λ l. rw (fs n refl l.1.1, fa x refl l.0) refl) same

-- ---- patterns and sentences

sorts-follow : (r : Renaming) (sig : Signature) (ss : List ℕ) (head head' : Option Pattern)
    → Follows r head head' → Follows r (at_sorts sig r.others head ss) (at_sorts sig r.names head' ss)
sorts-follow r sig [] head head' f = f
sorts-follow r sig (s ∷ ss) head head' f =
    sorts-follow r sig ss (both logic.at_sort head (sort_image sig r.others s))
    (both logic.at_sort head' (sort_image sig r.names s))
    (sorted-follows r logic.AtSort head head' (sort_image sig r.others s) (sort_image sig r.names s) f
    (sort-follows r sig s))

some-follows : (r : Renaming) (sig : Signature) (o : Option ℕ)
    → Follows r (some_symbol_image sig r.others o) (some_symbol_image sig r.names o)
some-follows r sig None p h same = absurd (none_some p h)
some-follows r sig (Some f) p h same = symbol-follows r sig f p h same

injection-follows : (r : Renaming) (sig : Signature) (a b : ℕ)
    → Follows r (injection_image sig r.others a b) (injection_image sig r.names a b)
injection-follows r sig a b =
    sorts-follow r sig (a ∷ b ∷ []) (some_symbol_image sig r.others (injection_symbol sig))
    (some_symbol_image sig r.names (injection_symbol sig))
    (some-follows r sig (injection_symbol sig))

mutual
  image-follows : (r : Renaming) (sig : Signature) (a : RulePattern)
      → Follows r (image_of sig r.others a) (image_of sig r.names a)
  image-follows r sig (variable x) p h same =
      let e : logic.var x ≡ p = some_same (logic.var x) p h in
      ap (λ (q : Pattern). Some (renumbered r.number q)) e
  image-follows r sig (domain_value s v) p h same =
      constant-follows r (number_in_names r.others (token_of_value sig s v))
      (number_in_names r.names (token_of_value sig s v)) (go (name_at sig.sorts s)) p h same
    where
      go : (o : Option Token)
          → FollowsNumber r (number_in_names r.others (option_map (λ n. value_token n v) o))
          (number_in_names r.names (option_map (λ n. value_token n v) o))
      go None n k eq = absurd (none_some n k)
      go (Some name) n k eq = number-follows r 100
          (58 ∷ (name ++ (codes ":" ++ hexadecimal (value_text v)))) n k eq
  image-follows r sig (application f ps) p h same =
      applied-follows r sig ps (symbol_image sig r.others f) (symbol_image sig r.names f)
      (symbol-follows r sig f) p h same
  image-follows r sig (injection a b q) p h same =
      two-follow r logic.App (injection_image sig r.others a b) (injection_image sig r.names a b)
      (image_of sig r.others q) (image_of sig r.names q) (injection-follows r sig a b)
      (image-follows r sig q) p h same
  image-follows r sig (call f ss ps) p h same =
      applied-follows r sig ps (at_sorts sig r.others (symbol_image sig r.others f) ss)
      (at_sorts sig r.names (symbol_image sig r.names f) ss)
      (sorts-follow r sig ss (symbol_image sig r.others f) (symbol_image sig r.names f)
      (symbol-follows r sig f)) p h same

  applied-follows : (r : Renaming) (sig : Signature) (ps : RulePatterns)
      (head head' : Option Pattern) → Follows r head head'
      → Follows r (applied sig r.others head ps) (applied sig r.names head' ps)
  applied-follows r sig no_pattern head head' f p h same = f p h same
  applied-follows r sig (more_patterns q qs) head head' f p h same =
      applied-follows r sig qs (both logic.app head (image_of sig r.others q))
      (both logic.app head' (image_of sig r.names q))
      (two-follow r logic.App head head' (image_of sig r.others q) (image_of sig r.names q) f
      (image-follows r sig q)) p h same

pub sentence-follows : (r : Renaming) (sig : Signature) (s : Sentence)
    → Follows r (sentence_image sig r.others s) (sentence_image sig r.names s)
sentence-follows r sig (term a) = image-follows r sig a
sentence-follows r sig (symbol f) = symbol-follows r sig f
sentence-follows r sig (inject a b) = injection-follows r sig a b
sentence-follows r sig (apply a b) =
    two-follow r logic.App _ _ _ _ (sentence-follows r sig a) (sentence-follows r sig b)
sentence-follows r sig top =
    λ p h same. ap (λ (q : Pattern). Some (renumbered r.number q)) (some_same logic.top p h)
sentence-follows r sig bottom =
    λ p h same. ap (λ (q : Pattern). Some (renumbered r.number q)) (some_same logic.bot p h)
sentence-follows r sig (not a) = one-follows r logic.Not _ _ (sentence-follows r sig a)
sentence-follows r sig (and a b) =
    two-follow r logic.And _ _ _ _ (sentence-follows r sig a) (sentence-follows r sig b)
sentence-follows r sig (or a b) =
    two-follow r logic.Or _ _ _ _ (sentence-follows r sig a) (sentence-follows r sig b)
sentence-follows r sig (implies a b) =
    two-follow r logic.Imp _ _ _ _ (sentence-follows r sig a) (sentence-follows r sig b)
sentence-follows r sig (equals a b) =
    two-follow r logic.Equal _ _ _ _ (sentence-follows r sig a) (sentence-follows r sig b)
sentence-follows r sig (is_in a b) =
    two-follow r logic.Member _ _ _ _ (sentence-follows r sig a) (sentence-follows r sig b)
sentence-follows r sig (functional a s) =
    sorted-follows r logic.Fun _ _ _ _ (sentence-follows r sig a) (sort-follows r sig s)
sentence-follows r sig (exists x s a) =
    bound-follows r logic.Ex x _ _ _ _ (sort-follows r sig s) (sentence-follows r sig a)
sentence-follows r sig (forall x s a) =
    bound-follows r logic.All x _ _ _ _ (sort-follows r sig s) (sentence-follows r sig a)
sentence-follows r sig (next a) = one-follows r logic.Next _ _ (sentence-follows r sig a)
