-- The sides of a fact and the facts on their parts, as the code makes them.
use Rattle.std.proofs.Common.{◌≡◌, ◌≢◌, ◌&&◌, ◌+◌, ℕ, zero, suc, Bool, true, false, List, [], ◌∷◌}
use Rattle.std.proofs.Common.{◌++◌, refl, sym, ◌∙◌, ap, subst, arith}
use Rattle.ml_pat.specs.Patterns.{Pattern as LogicPattern}
use Rattle.ml_kernel.specs.Theorems.{Theorem}
use Rattle.term_core.specs.Patterns.{Pattern, Patterns, variable, application}
use Rattle.term_core.specs.Patterns.{injection, no_pattern, more_patterns}
use Rattle.term_core.specs.PatternLists.{plain_patterns}
use Rattle.term_core.specs.RulePatterns.{plain_pattern}
use Rattle.term_core.specs.declared.rule_patterns.RulePat.{RulePat}
use Rattle.rule_core.specs.declared.signature.Signature.{Signature}
use Rattle.ml_image.specs.Sides.{numbered}
use Rattle.prove_term.specs.Contexts.{Context}
use Rattle.prove_open.specs.Differences.{DifferAtRoot}
use Rattle.prove_open.specs.Elements.{IsElementUnder, AreElementsUnder}
use Rattle.prove_open.specs.FactSides.{head_parts, side_parts}
use Rattle.prove_open.specs.FactSides.{AreCoveredAlike, AreKeptApart, HaveFacts}
use Rattle.prove_open.specs.declared.givens.Given.{Given}

two_more : (p q : Pattern) (ps qs : Patterns) → p ≡ q → ps ≡ qs
    → more_patterns p ps ≡ more_patterns q qs
two_more p q ps qs e i =
    ap (λ (r : Pattern). more_patterns r ps) e ∙ ap (more_patterns q) i

parts_of : (p q : Pattern) (ps qs : Patterns) → more_patterns p ps ≡ more_patterns q qs
    → (p ≡ q) × (ps ≡ qs)
parts_of p q ps qs e = (cc, cc)

-- one more variable at the end
pub one_variable : (ps : List RulePat) (p : RulePat) (k n : ℕ) → plain_patterns ps ≡ numbered k n
    → plain_pattern p ≡ variable (k + n) → plain_patterns (ps ++ p ∷ []) ≡ numbered k (n + 1)
one_variable [] p k zero e is =
    two_more (plain_pattern p) (variable k) no_pattern no_pattern
    (is ∙ ap variable (none k)) refl
  where
    none : (k : ℕ) → k + 0 ≡ k
    none k = omega arith
one_variable [] p k (suc n) e is = absurd (cc)
one_variable (a ∷ ps) p k zero e is = absurd (cc)
one_variable (a ∷ ps) p k (suc n) e is =
    let both : (plain_pattern a ≡ variable k) × (plain_patterns ps ≡ numbered (k + 1) n) =
    parts_of (plain_pattern a) (variable k) (plain_patterns ps) (numbered (k + 1) n) e in
    two_more (plain_pattern a) (variable k) (plain_patterns (ps ++ p ∷ []))
    (numbered (k + 1) (n + 1)) both.0
    (one_variable ps p (k + 1) n both.1 (is ∙ ap variable (next k n)))
    ∙ ap (numbered k) (more n)
  where
    more : (n : ℕ) → suc (n + 1) ≡ suc n + 1
    more n = omega arith

    next : (k n : ℕ) → k + suc n ≡ k + 1 + n
    next k n = omega arith

-- ---- facts

pub constructor_facts : (cx : Context) (sorts : List ℕ) (g : Given) (p : Pattern) (f : ℕ)
    (args given : List RulePat) (ts : List Theorem) → p ≡ application f (plain_patterns args)
    → given ≡ args → AreElementsUnder cx sorts g given ts
    → HaveFacts cx sorts g (head_parts p) ts
constructor_facts cx sorts g p f args given ts is same elements = record {
  args = given;
  are = ap plain_patterns same ∙ ap head_parts (sym is);
  elements = elements;
}

pub one_fact : (cx : Context) (sorts : List ℕ) (g : Given) (p : Pattern) (below : RulePat)
    (a b : ℕ) (deep : Bool) (ts : List Theorem) (t : Theorem)
    → p ≡ injection a b (plain_pattern below) → deep ≡ false → ts ≡ t ∷ []
    → IsElementUnder cx sorts g (plain_pattern below) t
    → HaveFacts cx sorts g (side_parts deep p) ts
one_fact cx sorts g p below a b deep ts t is shallow only element = record {
  args = below ∷ [];
  are =
      ap (λ (q : Pattern). side_parts false q) (sym is)
      ∙ ap (λ (d : Bool). side_parts d p) (sym shallow);
  elements = subst (AreElementsUnder cx sorts g (below ∷ [])) (sym only) (element, tt);
}

-- ---- constructors

pub both_first : (a b : Bool) → (a && b) ≡ true → a ≡ true
both_first true b e = refl
both_first false b e = absurd (cc)

pub both_second : (a b : Bool) → (a && b) ≡ true → b ≡ true
both_second true b e = e
both_second false b e = absurd (cc)

pub covered_as : (sig : Signature) (sorts : List ℕ) (g : Given) (p q r s : Pattern) → p ≡ r → q ≡ s
    → AreCoveredAlike sig sorts g p q → AreCoveredAlike sig sorts g r s
covered_as sig sorts g p q r s e i c =
    subst (AreCoveredAlike sig sorts g r) i
    (subst (λ (x : Pattern). AreCoveredAlike sig sorts g x q) e c)

pub differ_as : (pairs : List (ℕ × ℕ)) (p q : Pattern) (f h : ℕ) (ps qs : Patterns)
    → p ≡ application f ps → q ≡ application h qs → DifferAtRoot pairs p q → f ≢ h
differ_as pairs p q f h ps qs e i d =
    subst (DifferAtRoot pairs (application f ps)) i
    (subst (λ (x : Pattern). DifferAtRoot pairs x q) e d)

pub kept_as : (cx : Context) (h : LogicPattern) (p q r s : Pattern) (t : Theorem) → p ≡ r → q ≡ s
    → AreKeptApart cx h r s t → AreKeptApart cx h p q t
kept_as cx h p q r s t e i k =
    subst (λ (x : Pattern). AreKeptApart cx h x q t) (sym e)
    (subst (λ (x : Pattern). AreKeptApart cx h r x t) (sym i) k)
