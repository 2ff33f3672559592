-- Left sides whose parts have names: what occurs in them, and what they become with terms in place
-- of their variables.
use Rattle.std.proofs.Common.{◌<◌, ◌+◌, ℕ, Bool, true, false, List, [], ◌∷◌, Option, Some}
use Rattle.std.proofs.Common.{None, refl}
use Rattle.std.specs.Prelude.{if◌then◌else◌}
use Rattle.ml_pat.specs.Patterns.{Pattern}
use Rattle.ml_pat.specs.Patterns as logic
use Rattle.term_core.specs.Terms.{Tree}
use Rattle.term_core.specs.Patterns.{Pattern as RulePattern, Patterns as RulePatterns, variable}
use Rattle.term_core.specs.Patterns.{domain_value, application, injection, call, no_pattern}
use Rattle.term_core.specs.Patterns.{more_patterns}
use Rattle.rule_core.specs.NamedParts.{Name}
use Rattle.rule_core.specs.declared.signature.Signature.{Signature}
use Rattle.rule_core.proofs.EvaluationUnique.{all_first, all_rest}
use Rattle.ml_image.specs.Tokens.{token_of_symbol, number_in_names}
use Rattle.ml_image.specs.HasImages.{HasImage, HaveImages, AreNamesBelow}
use Rattle.ml_image.specs.Sentences.{Sentence, sentence_image, term, symbol, inject, apply, top}
use Rattle.ml_image.specs.Sentences.{bottom, not, and, or, implies, equals, is_in, functional}
use Rattle.ml_image.specs.Sentences.{exists, forall, next}
use Rattle.ml_image.specs.NamedSides.{whole, of_whole, way_in, at_way, of_child, named_part}
use Rattle.ml_image.specs.NamedSides.{named_parts, left_sentence, applied_sides}
use Rattle.prove_term.specs.FilledSides.{filled_sentence}
use Rattle.prove_schema.proofs.InstanceLaws.{AreImages, AllThere, Becomes, filled_image}
use Rattle.prove_schema.proofs.InstanceLaws.{becomes_constant, becomes_injection, becomes_both}
use Rattle.prove_schema.proofs.SentenceLaws.{IsOpenSentence}

-- ---- the parts of left sides

-- a sentence of patterns whose variables have numbers below n, symbols, applications and
-- conjunctions
abbrev pub IsSide : Signature → ℕ → Sentence → Type 0
IsSide sig n (term p) = HasImage sig n p
IsSide sig n (symbol f) = Unit {0}
IsSide sig n (inject a b) = Unit {0}
IsSide sig n (apply p q) = IsSide sig n p × IsSide sig n q
IsSide sig n (and p q) = IsSide sig n p × IsSide sig n q
IsSide sig n p = ⊥

pub side_is_open : (sig : Signature) (n : ℕ) (s : Sentence) → IsSide sig n s
    → IsOpenSentence sig n s
side_is_open sig n (term p) h = h
side_is_open sig n (symbol f) h = tt
side_is_open sig n (inject a b) h = tt
side_is_open sig n (apply p q) h = (side_is_open sig n p h.0, side_is_open sig n q h.1)
side_is_open sig n (and p q) h = (side_is_open sig n p h.0, side_is_open sig n q h.1)
side_is_open sig n top h = absurd h
side_is_open sig n bottom h = absurd h
side_is_open sig n (or p q) h = absurd h
side_is_open sig n (not p) h = absurd h
side_is_open sig n (implies p q) h = absurd h
side_is_open sig n (equals p q) h = absurd h
side_is_open sig n (is_in p q) h = absurd h
side_is_open sig n (functional p s) h = absurd h
side_is_open sig n (exists x s p) h = absurd h
side_is_open sig n (forall x s p) h = absurd h
side_is_open sig n (next p) h = absurd h

-- The image of a side with terms in place of its variables is the instance of the schema of its
-- image at the images of the terms.
pub filled_side : (sig : Signature) (names : List (List ℕ)) (theta : List (Option Tree))
    (qs : List Pattern) (n : ℕ) (s : Sentence) → AreImages sig names theta qs → AllThere theta n
    → IsSide sig n s
    → Becomes n qs (sentence_image sig names s) (sentence_image sig names (filled_sentence theta s))
filled_side sig names theta qs n (term p) are there has =
    filled_image sig names theta qs n p are there has
filled_side sig names theta qs n (symbol f) are there has =
    becomes_constant n qs (number_in_names names (token_of_symbol sig f))
filled_side sig names theta qs n (inject a b) are there has = becomes_injection sig names n qs a b
filled_side sig names theta qs n (apply p q) are there has =
    becomes_both n qs logic.app (sentence_image sig names p)
    (sentence_image sig names (filled_sentence theta p)) (sentence_image sig names q)
    (sentence_image sig names (filled_sentence theta q)) (λ x y. refl)
    (filled_side sig names theta qs n p are there has.0)
    (filled_side sig names theta qs n q are there has.1)
filled_side sig names theta qs n (and p q) are there has =
    becomes_both n qs logic.and (sentence_image sig names p)
    (sentence_image sig names (filled_sentence theta p)) (sentence_image sig names q)
    (sentence_image sig names (filled_sentence theta q)) (λ x y. refl)
    (filled_side sig names theta qs n p are there has.0)
    (filled_side sig names theta qs n q are there has.1)
filled_side sig names theta qs n top are there has = absurd has
filled_side sig names theta qs n bottom are there has = absurd has
filled_side sig names theta qs n (or p q) are there has = absurd has
filled_side sig names theta qs n (not p) are there has = absurd has
filled_side sig names theta qs n (implies p q) are there has = absurd has
filled_side sig names theta qs n (equals p q) are there has = absurd has
filled_side sig names theta qs n (is_in p q) are there has = absurd has
filled_side sig names theta qs n (functional p s) are there has = absurd has
filled_side sig names theta qs n (exists x s p) are there has = absurd has
filled_side sig names theta qs n (forall x s p) are there has = absurd has
filled_side sig names theta qs n (next p) are there has = absurd has

-- ---- names below a number

-- the variables of the names are below n
abbrev pub AreBelow : ℕ → List Name → Type 0
AreBelow n [] = Unit {0}
AreBelow n (m ∷ names) = (m.variable < n) × AreBelow n names

pub names_below : (n : ℕ) (names : List Name) → AreNamesBelow n names → AreBelow n names
names_below n [] h = tt
names_below n (m ∷ names) h = (
  all_first (λ (k : Name). k.variable < n) m names h,
  names_below n names (all_rest (λ (k : Name). k.variable < n) m names h),
)

whole_below : (n : ℕ) (place : List ℕ) (m : Name) (names : List Name) → m.variable < n
    → AreBelow n names → AreBelow n (whole place m names)
whole_below n [] m names low h = (low, h)
whole_below n (i ∷ way) m names low h = h

pub of_whole_below : (n : ℕ) (names : List Name) → AreBelow n names → AreBelow n (of_whole names)
of_whole_below n [] h = tt
of_whole_below n (m ∷ names) h =
    whole_below n m.place m (of_whole names) h.0 (of_whole_below n names h.1)

at_way_below : (n : ℕ) (o : Option (List ℕ)) (m : Name) (names : List Name) → m.variable < n
    → AreBelow n names → AreBelow n (at_way o m names)
at_way_below n None m names low h = h
at_way_below n (Some way) m names low h = (low, h)

pub of_child_below : (n k : ℕ) (names : List Name) → AreBelow n names
    → AreBelow n (of_child k names)
of_child_below n k [] h = tt
of_child_below n k (m ∷ names) h =
    at_way_below n (way_in k m.place) m (of_child k names) h.0 (of_child_below n k names h.1)

-- ---- left sides

in_order : (sig : Signature) (n x : ℕ) (s : Sentence) (first : Bool) → x < n → IsSide sig n s
    → IsSide sig n (if first then and (term (variable x)) s else and s (term (variable x)))
in_order sig n x s true low h = (low, h)
in_order sig n x s false low h = (h, low)

named_side : (sig : Signature) (n : ℕ) (s : Sentence) (names : List Name) → AreBelow n names
    → IsSide sig n s → IsSide sig n (named_parts s names)
named_side sig n s [] low h = h
named_side sig n s (m ∷ names) low h =
    named_side sig n (named_part s m) names low.1 (in_order sig n m.variable s m.first low.0 h)

mutual
  pub left_is_side : (sig : Signature) (n : ℕ) (names : List Name) (p : RulePattern)
      → AreBelow n names → HasImage sig n p → IsSide sig n (left_sentence names p)
  left_is_side sig n names (variable x) low has =
      named_side sig n (term (variable x)) (of_whole names) (of_whole_below n names low) has
  left_is_side sig n names (domain_value s v) low has =
      named_side sig n (term (domain_value s v)) (of_whole names) (of_whole_below n names low) has
  left_is_side sig n names (application f ps) low has =
      named_side sig n (applied_sides names 0 (symbol f) ps) (of_whole names)
      (of_whole_below n names low) (applied_is_side sig n names 0 (symbol f) ps low tt has.1)
  left_is_side sig n names (injection a b p) low has =
      named_side sig n (apply (inject a b) (left_sentence (of_child 0 names) p)) (of_whole names)
      (of_whole_below n names low)
      (tt, left_is_side sig n (of_child 0 names) p (of_child_below n 0 names low) has.2)
  left_is_side sig n names (call f ss ps) low has =
      named_side sig n (term (call f ss ps)) (of_whole names) (of_whole_below n names low) has

  pub applied_is_side : (sig : Signature) (n : ℕ) (names : List Name) (k : ℕ) (head : Sentence)
      (ps : RulePatterns) → AreBelow n names → IsSide sig n head → HaveImages sig n ps
      → IsSide sig n (applied_sides names k head ps)
  applied_is_side sig n names k head no_pattern low h has = h
  applied_is_side sig n names k head (more_patterns p ps) low h has =
      applied_is_side sig n names (k + 1) (apply head (left_sentence (of_child k names) p)) ps low
      (h, left_is_side sig n (of_child k names) p (of_child_below n k names low) has.0) has.1
