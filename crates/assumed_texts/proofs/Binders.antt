-- The variables that sentences bind have small numbers.
use Rattle.std.proofs.Common.{◌≡◌, ℕ, ◌+◌, ◌<◌, ◌≤◌, ◌^◌, zero, suc, Bool, true, false, List, []}
use Rattle.std.proofs.Common.{◌∷◌, map, length, Option, Some, None, sym, subst, arith}
use Rattle.std.specs.Prelude.{if◌then◌else◌, slice_get}
use Rattle.term_core.specs.Patterns.{Pattern, Patterns, variable, domain_value, application}
use Rattle.term_core.specs.Patterns.{injection, call, no_pattern, more_patterns}
use Rattle.rule_core.specs.NamedParts.{Name}
use Rattle.rule_core.specs.Rules.{Equation, Guard}
use Rattle.rule_core.specs.declared.signature.Signature.{Signature}
use Rattle.ml_image.specs.HasImages.{after_guards}
use Rattle.ml_image.specs.Images.{renamed, all_renamed}
use Rattle.ml_image.specs.LastResorts.{number_from, sorts_at, condition_renamed, premise}
use Rattle.ml_image.specs.LastResorts.{guard_sentence, guards_sentence}
use Rattle.ml_image.specs.NamedSides.{of_whole, of_child, named_part, named_parts, left_sentence}
use Rattle.ml_image.specs.NamedSides.{applied_sides}
use Rattle.ml_image.specs.OwnAxioms.{of_variables}
use Rattle.ml_image.specs.Premises.{sort_of, is_true, condition_sentence, meets, renamed_name}
use Rattle.ml_image.specs.Sentences.{Sentence, term, symbol, inject, apply, top, bottom, not, and}
use Rattle.ml_image.specs.Sentences.{or, implies, equals, is_in, functional, exists, forall, next}
use Rattle.ml_image.specs.Sentences.{for_all, for_some, variables, apply_all, conjunctions}
use Rattle.ml_image.proofs.ImageLaws.{none_some, some_same}
use Rattle.ml_image.proofs.LastResortLaws.{after_more, listed_many}
use Rattle.assumed_texts.proofs.Inversions.{BothSome, both-some, map-some}

-- what a quantifier binds has a number of 32 bits
abbrev pub BindsSmall : Sentence → Type 0
BindsSmall (term a) = Unit {0}
BindsSmall (symbol f) = Unit {0}
BindsSmall (inject a b) = Unit {0}
BindsSmall (apply p q) = BindsSmall p × BindsSmall q
BindsSmall top = Unit {0}
BindsSmall bottom = Unit {0}
BindsSmall (not p) = BindsSmall p
BindsSmall (and p q) = BindsSmall p × BindsSmall q
BindsSmall (or p q) = BindsSmall p × BindsSmall q
BindsSmall (implies p q) = BindsSmall p × BindsSmall q
BindsSmall (equals p q) = BindsSmall p × BindsSmall q
BindsSmall (is_in p q) = BindsSmall p × BindsSmall q
BindsSmall (functional p s) = BindsSmall p
BindsSmall (exists x s p) = (x < 2 ^ 32) × BindsSmall p
BindsSmall (forall x s p) = (x < 2 ^ 32) × BindsSmall p
BindsSmall (next p) = BindsSmall p

pub binds-all : (k : ℕ) (ss : List ℕ) (p : Sentence) → k + length ss ≤ 2 ^ 32 → BindsSmall p
    → BindsSmall (for_all k ss p)
binds-all k [] p l h = h
binds-all k (s ∷ ss) p l h =
    (omega (arith, l), binds-all (k + 1) ss p (omega (arith, l)) h)

binds-some : (k : ℕ) (ss : List ℕ) (p : Sentence) → k + length ss ≤ 2 ^ 32 → BindsSmall p
    → BindsSmall (for_some k ss p)
binds-some k [] p l h = h
binds-some k (s ∷ ss) p l h =
    (omega (arith, l), binds-some (k + 1) ss p (omega (arith, l)) h)

-- ---- applications

abbrev pub AllBindSmall : List Sentence → Type 0
AllBindSmall [] = Unit {0}
AllBindSmall (p ∷ ps) = BindsSmall p × AllBindSmall ps

pub binds-applied : (head : Sentence) (ps : List Sentence) → BindsSmall head → AllBindSmall ps
    → BindsSmall (apply_all head ps)
binds-applied head [] h all = h
binds-applied head (p ∷ ps) h all = binds-applied (apply head p) ps (h, all.0) all.1

pub binds-variables : (k n : ℕ) → AllBindSmall (variables k n)
binds-variables k zero = tt
binds-variables k (suc n) = (tt, binds-variables (k + 1) n)

pub binds-of : (f k n : ℕ) → BindsSmall (of_variables f k n)
binds-of f k n = binds-applied (symbol f) (variables k n) tt (binds-variables k n)

pub binds-pairs : (ps qs : List Sentence) → AllBindSmall ps → AllBindSmall qs
    → AllBindSmall (conjunctions ps qs)
binds-pairs [] qs h j = tt
binds-pairs (p ∷ ps) [] h j = tt
binds-pairs (p ∷ ps) (q ∷ qs) h j = ((h.0, j.0), binds-pairs ps qs h.1 j.1)

-- ---- left sides whose parts have names

binds-part : (part : Sentence) (n : Name) → BindsSmall part → BindsSmall (named_part part n)
binds-part part n h = go n.first
  where
    go : (b : Bool) → BindsSmall
        (if b then and (term (variable n.variable)) part
        else and part (term (variable n.variable)))
    go true = (tt, h)
    go false = (h, tt)

binds-parts : (part : Sentence) (names : List Name) → BindsSmall part
    → BindsSmall (named_parts part names)
binds-parts part [] h = h
binds-parts part (n ∷ names) h = binds-parts (named_part part n) names (binds-part part n h)

mutual
  pub binds-left : (names : List Name) (p : Pattern) → BindsSmall (left_sentence names p)
  binds-left names (variable y) = binds-parts (term (variable y)) (of_whole names) tt
  binds-left names (domain_value s v) = binds-parts (term (domain_value s v)) (of_whole names) tt
  binds-left names (application f ps) =
      binds-parts (applied_sides names 0 (symbol f) ps) (of_whole names)
      (binds-sides names 0 (symbol f) ps tt)
  binds-left names (injection a b p) =
      binds-parts (apply (inject a b) (left_sentence (of_child 0 names) p)) (of_whole names)
      (tt, binds-left (of_child 0 names) p)
  binds-left names (call f ss ps) = binds-parts (term (call f ss ps)) (of_whole names) tt

  pub binds-sides : (names : List Name) (j : ℕ) (head : Sentence) (ps : Patterns)
      → BindsSmall head → BindsSmall (applied_sides names j head ps)
  binds-sides names j head no_pattern h = h
  binds-sides names j head (more_patterns p ps) h =
      binds-sides names (j + 1) (apply head (left_sentence (of_child j names) p)) ps
      (h, binds-left (of_child j names) p)

pub binds-meets : (names : List Name) (j : ℕ) (ps : Patterns) → BindsSmall (meets names j ps)
binds-meets names j no_pattern = tt
binds-meets names j (more_patterns p ps) =
    ((tt, binds-left (of_child j names) p), binds-meets names (j + 1) ps)

-- ---- conditions and guards

pub binds-condition : (sig : Signature) (vars : List ℕ) (o : Option Pattern) (c : Sentence)
    → condition_sentence sig vars o ≡ Some c → BindsSmall c
binds-condition sig vars None c e = subst BindsSmall (some_same top c e) tt
binds-condition sig vars (Some p) c e =
    let w = map-some (is_true p) (sort_of sig vars p) c e in
    subst (λ (s : Sentence). BindsSmall s) (sym w.1.1) (tt, tt)

binds-renamed : (sig : Signature) (g : ℕ → ℕ) (vars : List ℕ) (o : Option Pattern) (c : Sentence)
    → condition_renamed sig g vars o ≡ Some c → BindsSmall c
binds-renamed sig g vars None c e = subst BindsSmall (some_same top c e) tt
binds-renamed sig g vars (Some p) c e =
    let w = map-some (is_true (renamed g p)) (sort_of sig vars p) c e in
    subst (λ (s : Sentence). BindsSmall s) (sym w.1.1) (tt, tt)

binds-premise : (sig : Signature) (g : ℕ → ℕ) (e : Equation) (s : Sentence)
    → premise sig g e ≡ Some s → BindsSmall s
binds-premise sig g e s is =
    let met : Sentence = meets (map (renamed_name g) e.names) 0 (all_renamed g e.arguments) in
    let w = map-some (λ (c : Sentence). and c met)
    (condition_renamed sig g e.variables e.condition) s is in
    subst (λ (t : Sentence). BindsSmall t) (sym w.1.1) (
      binds-renamed sig g e.variables e.condition w.0 w.1.0,
      binds-meets (map (renamed_name g) e.names) 0 (all_renamed g e.arguments),
    )

binds-guard : (sig : Signature) (k : ℕ) (order : List ℕ) (o : Option Equation) (s : Sentence)
    → k + length order ≤ 2 ^ 32 → guard_sentence sig k order o ≡ Some s → BindsSmall s
binds-guard sig k order None s few is = absurd (none_some s is)
binds-guard sig k order (Some e) s few is =
    let w = map-some (for_some k (sorts_at e.variables order))
    (premise sig (number_from k order) e) s is in
    subst (λ (t : Sentence). BindsSmall t) (sym w.1.1)
    (binds-some k (sorts_at e.variables order) w.0
    (omega (arith, few, listed_many e.variables order))
    (binds-premise sig (number_from k order) e w.0 w.1.0))

pub binds-guards : (sig : Signature) (es : List Equation) (k : ℕ) (gs : List Guard) (s : Sentence)
    → after_guards k gs ≤ 2 ^ 32 → guards_sentence sig es k gs ≡ Some s → BindsSmall s
binds-guards sig es k [] s few is = subst BindsSmall (some_same bottom s is) tt
binds-guards sig es k (g ∷ gs) s few is =
    let w : BothSome or (guard_sentence sig k g.order (slice_get es g.equation))
    (guards_sentence sig es (k + length g.order) gs) s =
    both-some or (guard_sentence sig k g.order (slice_get es g.equation))
    (guards_sentence sig es (k + length g.order) gs) s is in
    subst (λ (t : Sentence). BindsSmall t) (sym w.is) (
      binds-guard sig k g.order (slice_get es g.equation) w.first
          (omega (arith, few, after_more (k + length g.order) gs)) w.is_first,
      binds-guards sig es (k + length g.order) gs w.second few w.is_second,
    )
