-- Left sides whose variables a schema does not replace: their images are the same in each instance.
use Rattle.std.proofs.Common.{◌≤◌, ◌+◌, ℕ, Bool, true, false, List, [], ◌∷◌, Option, Some}
use Rattle.std.proofs.Common.{None, refl, sym, ◌∙◌, ap, arith}
use Rattle.std.specs.Prelude.{if◌then◌else◌}
use Rattle.ml_pat.specs.Patterns.{Pattern, app, var}
use Rattle.ml_pat.specs.Patterns as logic
use Rattle.ml_kernel.specs.Lemmas.{instance}
use Rattle.term_core.specs.Patterns.{Pattern as RulePattern, Patterns as RulePatterns, variable}
use Rattle.term_core.specs.Patterns.{domain_value, application, injection, call, no_pattern}
use Rattle.term_core.specs.Patterns.{more_patterns}
use Rattle.rule_core.specs.NamedParts.{Name}
use Rattle.rule_core.specs.declared.signature.Signature.{Signature}
use Rattle.ml_image.specs.Tokens.{token_of_symbol, token_of_value, number_in_names}
use Rattle.ml_image.specs.Images.{both, symbol_image, at_sorts, image_of, applied}
use Rattle.ml_image.specs.Images.{injection_image}
use Rattle.ml_image.specs.Sentences.{Sentence, sentence_image, term, symbol, inject, apply, top}
use Rattle.ml_image.specs.Sentences.{bottom, not, and, or, implies, equals, is_in, functional}
use Rattle.ml_image.specs.Sentences.{exists, forall, next}
use Rattle.ml_image.specs.NamedSides.{whole, of_whole, way_in, at_way, of_child, named_part}
use Rattle.ml_image.specs.NamedSides.{named_parts, left_sentence, applied_sides}
use Rattle.ml_image.proofs.ImageLaws.{some_same}
use Rattle.prove_schema.specs.Schemas.{with_metas}
use Rattle.prove_schema.proofs.OpenLaws.{var_above}
use Rattle.prove_schema.proofs.BodyLaws.{QuantifiesFrom}
use Rattle.prove_schema.proofs.InstanceLaws.{Becomes, becomes_constant, becomes_both, becomes_app}
use Rattle.prove_schema.proofs.InstanceLaws.{becomes_at_sorts, becomes_injection}

-- ---- variables from a number on

-- the variables of the pattern are numbered from n on
abbrev mutual
  pub IsAbove : ℕ → RulePattern → Type 0
  IsAbove n (variable x) = n ≤ x
  IsAbove n (domain_value s v) = Unit {0}
  IsAbove n (application f ps) = AreAbove n ps
  IsAbove n (injection a b p) = IsAbove n p
  IsAbove n (call f ss ps) = AreAbove n ps

  pub AreAbove : ℕ → RulePatterns → Type 0
  AreAbove n no_pattern = Unit {0}
  AreAbove n (more_patterns p ps) = IsAbove n p × AreAbove n ps

mutual
  pub above_zero : (p : RulePattern) → IsAbove 0 p
  above_zero (variable x) = omega arith
  above_zero (domain_value s v) = tt
  above_zero (application f ps) = all_above_zero ps
  above_zero (injection a b p) = above_zero p
  above_zero (call f ss ps) = all_above_zero ps

  pub all_above_zero : (ps : RulePatterns) → AreAbove 0 ps
  all_above_zero no_pattern = tt
  all_above_zero (more_patterns p ps) = (above_zero p, all_above_zero ps)

-- so are those of the parts of the side
abbrev pub IsAboveSide : ℕ → Sentence → Type 0
IsAboveSide n (term p) = IsAbove n p
IsAboveSide n (symbol f) = Unit {0}
IsAboveSide n (inject a b) = Unit {0}
IsAboveSide n (apply p q) = IsAboveSide n p × IsAboveSide n q
IsAboveSide n (and p q) = IsAboveSide n p × IsAboveSide n q
IsAboveSide n p = ⊥

pub above_quantifies : (n m : ℕ) (s : Sentence) → IsAboveSide n s → QuantifiesFrom m s
above_quantifies n m (term p) h = tt
above_quantifies n m (symbol f) h = tt
above_quantifies n m (inject a b) h = tt
above_quantifies n m (apply p q) h = (above_quantifies n m p h.0, above_quantifies n m q h.1)
above_quantifies n m (and p q) h = (above_quantifies n m p h.0, above_quantifies n m q h.1)
above_quantifies n m top h = absurd h
above_quantifies n m bottom h = absurd h
above_quantifies n m (not p) h = absurd h
above_quantifies n m (or p q) h = absurd h
above_quantifies n m (implies p q) h = absurd h
above_quantifies n m (equals p q) h = absurd h
above_quantifies n m (is_in p q) h = absurd h
above_quantifies n m (functional p s) h = absurd h
above_quantifies n m (exists x s p) h = absurd h
above_quantifies n m (forall x s p) h = absurd h
above_quantifies n m (next p) h = absurd h

-- the variables of the names are numbered from n on
abbrev pub AreNamesAbove : ℕ → List Name → Type 0
AreNamesAbove n [] = Unit {0}
AreNamesAbove n (m ∷ names) = (n ≤ m.variable) × AreNamesAbove n names

pub names_above_zero : (names : List Name) → AreNamesAbove 0 names
names_above_zero [] = tt
names_above_zero (m ∷ names) = (omega arith, names_above_zero names)

whole_above : (n : ℕ) (place : List ℕ) (m : Name) (names : List Name) → n ≤ m.variable
    → AreNamesAbove n names → AreNamesAbove n (whole place m names)
whole_above n [] m names high h = (high, h)
whole_above n (i ∷ way) m names high h = h

of_whole_above : (n : ℕ) (names : List Name) → AreNamesAbove n names
    → AreNamesAbove n (of_whole names)
of_whole_above n [] h = tt
of_whole_above n (m ∷ names) h =
    whole_above n m.place m (of_whole names) h.0 (of_whole_above n names h.1)

at_way_above : (n : ℕ) (o : Option (List ℕ)) (m : Name) (names : List Name) → n ≤ m.variable
    → AreNamesAbove n names → AreNamesAbove n (at_way o m names)
at_way_above n None m names high h = h
at_way_above n (Some way) m names high h = (high, h)

pub of_child_above : (n k : ℕ) (names : List Name) → AreNamesAbove n names
    → AreNamesAbove n (of_child k names)
of_child_above n k [] h = tt
of_child_above n k (m ∷ names) h =
    at_way_above n (way_in k m.place) m (of_child k names) h.0 (of_child_above n k names h.1)

in_order : (n x : ℕ) (s : Sentence) (first : Bool) → n ≤ x → IsAboveSide n s
    → IsAboveSide n (if first then and (term (variable x)) s else and s (term (variable x)))
in_order n x s true high h = (high, h)
in_order n x s false high h = (h, high)

named_above : (n : ℕ) (s : Sentence) (names : List Name) → AreNamesAbove n names
    → IsAboveSide n s → IsAboveSide n (named_parts s names)
named_above n s [] high h = h
named_above n s (m ∷ names) high h =
    named_above n (named_part s m) names high.1 (in_order n m.variable s m.first high.0 h)

mutual
  pub left_is_above : (n : ℕ) (names : List Name) (p : RulePattern) → AreNamesAbove n names
      → IsAbove n p → IsAboveSide n (left_sentence names p)
  left_is_above n names (variable x) high h =
      named_above n (term (variable x)) (of_whole names) (of_whole_above n names high) h
  left_is_above n names (domain_value s v) high h =
      named_above n (term (domain_value s v)) (of_whole names) (of_whole_above n names high) h
  left_is_above n names (application f ps) high h =
      named_above n (applied_sides names 0 (symbol f) ps) (of_whole names)
      (of_whole_above n names high) (applied_is_above n names 0 (symbol f) ps high tt h)
  left_is_above n names (injection a b p) high h =
      named_above n (apply (inject a b) (left_sentence (of_child 0 names) p)) (of_whole names)
      (of_whole_above n names high)
      (tt, left_is_above n (of_child 0 names) p (of_child_above n 0 names high) h)
  left_is_above n names (call f ss ps) high h =
      named_above n (term (call f ss ps)) (of_whole names) (of_whole_above n names high) h

  applied_is_above : (n : ℕ) (names : List Name) (k : ℕ) (head : Sentence) (ps : RulePatterns)
      → AreNamesAbove n names → IsAboveSide n head → AreAbove n ps
      → IsAboveSide n (applied_sides names k head ps)
  applied_is_above n names k head no_pattern high h each = h
  applied_is_above n names k head (more_patterns p ps) high h each =
      applied_is_above n names (k + 1) (apply head (left_sentence (of_child k names) p)) ps high
      (h, left_is_above n (of_child k names) p (of_child_above n k names high) each.0) each.1

-- a left side has no quantifier
pub left_quantifies : (m : ℕ) (names : List Name) (p : RulePattern)
    → QuantifiesFrom m (left_sentence names p)
left_quantifies m names p =
    above_quantifies 0 m (left_sentence names p)
    (left_is_above 0 names p (names_above_zero names) (above_zero p))

-- ---- the images

mutual
  pub above_image : (sig : Signature) (names : List (List ℕ)) (n : ℕ) (qs : List Pattern)
      (p : RulePattern) → IsAbove n p → Becomes n qs (image_of sig names p) (image_of sig names p)
  above_image sig names n qs (variable x) h = λ q is.
      ap (λ (r : Pattern). Some (instance qs r)) (sym (var_above n x h))
      ∙ ap (λ (r : Pattern). Some (instance qs (with_metas n r))) (some_same (var x) q is)
  above_image sig names n qs (domain_value s v) h =
      becomes_constant n qs (number_in_names names (token_of_value sig s v))
  above_image sig names n qs (application f ps) h =
      above_applied sig names n qs ps (symbol_image sig names f) h
      (becomes_constant n qs (number_in_names names (token_of_symbol sig f)))
  above_image sig names n qs (injection a b p) h =
      becomes_app n qs (injection_image sig names a b) (injection_image sig names a b)
      (image_of sig names p) (image_of sig names p) (becomes_injection sig names n qs a b)
      (above_image sig names n qs p h)
  above_image sig names n qs (call f ss ps) h =
      above_applied sig names n qs ps (at_sorts sig names (symbol_image sig names f) ss) h
      (becomes_at_sorts sig names n qs ss (symbol_image sig names f) (symbol_image sig names f)
      (becomes_constant n qs (number_in_names names (token_of_symbol sig f))))

  above_applied : (sig : Signature) (names : List (List ℕ)) (n : ℕ) (qs : List Pattern)
      (ps : RulePatterns) (head : Option Pattern) → AreAbove n ps → Becomes n qs head head
      → Becomes n qs (applied sig names head ps) (applied sig names head ps)
  above_applied sig names n qs no_pattern head h k = k
  above_applied sig names n qs (more_patterns p ps) head h k =
      above_applied sig names n qs ps (both app head (image_of sig names p)) h.1
      (becomes_app n qs head head (image_of sig names p) (image_of sig names p) k
      (above_image sig names n qs p h.0))

pub above_side : (sig : Signature) (names : List (List ℕ)) (n : ℕ) (qs : List Pattern)
    (s : Sentence) → IsAboveSide n s
    → Becomes n qs (sentence_image sig names s) (sentence_image sig names s)
above_side sig names n qs (term p) h = above_image sig names n qs p h
above_side sig names n qs (symbol f) h =
    becomes_constant n qs (number_in_names names (token_of_symbol sig f))
above_side sig names n qs (inject a b) h = becomes_injection sig names n qs a b
above_side sig names n qs (apply p q) h =
    becomes_both n qs logic.app (sentence_image sig names p) (sentence_image sig names p)
    (sentence_image sig names q) (sentence_image sig names q) (λ x y. refl)
    (above_side sig names n qs p h.0) (above_side sig names n qs q h.1)
above_side sig names n qs (and p q) h =
    becomes_both n qs logic.and (sentence_image sig names p) (sentence_image sig names p)
    (sentence_image sig names q) (sentence_image sig names q) (λ x y. refl)
    (above_side sig names n qs p h.0) (above_side sig names n qs q h.1)
above_side sig names n qs top h = absurd h
above_side sig names n qs bottom h = absurd h
above_side sig names n qs (not p) h = absurd h
above_side sig names n qs (or p q) h = absurd h
above_side sig names n qs (implies p q) h = absurd h
above_side sig names n qs (equals p q) h = absurd h
above_side sig names n qs (is_in p q) h = absurd h
above_side sig names n qs (functional p s) h = absurd h
above_side sig names n qs (exists x s p) h = absurd h
above_side sig names n qs (forall x s p) h = absurd h
above_side sig names n qs (next p) h = absurd h
