-- What is known of several patterns.
use Rattle.std.proofs.Common.{◌≡◌, ◌<◌, ◌≤◌, ◌+◌, ℕ, zero, suc, List, [], ◌∷◌, ◌++◌, length, take}
use Rattle.std.proofs.Common.{get_or, refl, sym, ◌∙◌, ap, subst, arith}
use Rattle.std.specs.Prelude.{IfSome, Option, Some}
use Rattle.std.proofs.lemmas.List.{take_all, take_more}
use Rattle.term_core.specs.Patterns.{Pattern as RulePattern, Patterns, injection}
use Rattle.term_core.specs.Patterns.{no_pattern, more_patterns, ground_pattern, ground_patterns}
use Rattle.term_core.specs.Terms.{Tree, leaf, node, inj, height, injected}
use Rattle.term_core.specs.Forests.{forest}
use Rattle.term_core.specs.PatternLists.{plain_patterns}
use Rattle.term_core.specs.RulePatterns.{plain_pattern}
use Rattle.term_core.specs.declared.rule_patterns.RulePat.{RulePat}
use Rattle.prove_term.specs.Contexts.{Context, HasGrown}
use Rattle.ml_kernel.specs.Theorems.{Theorem}
use Rattle.prove_open.specs.Elements.{IsElementUnder}
use Rattle.prove_open.specs.Known.{IsTheTerm, IsKnown, AreTheTerms, AreKnown}
use Rattle.prove_open.specs.declared.givens.Given.{Given}
use Rattle.prove_open.specs.declared.known.Known.{Known}
use Rattle.prove_open.specs.declared.known.Known.TheVariants.{Term, Element}
use Rattle.prove_open.proofs.GatheringLaws.{under_grown, zip_weaker, zip_push}

pub known_term : (cx : Context) (sorts : List ℕ) (g : Given) (p : RulePattern) (k : Known)
    → IsKnown cx sorts g p k → IsTheTerm p k
known_term cx sorts g p (Term t) h = h
known_term cx sorts g p (Element thm) h = tt

pub known_terms : (cx : Context) (sorts : List ℕ) (g : Given) (ps : List RulePat)
    (ks : List Known) → AreKnown cx sorts g ps ks → AreTheTerms ps ks
known_terms cx sorts g ps ks h =
    zip_weaker (λ (p : RulePat) (k : Known). IsKnown cx sorts g (plain_pattern p) k)
    (λ (p : RulePat) (k : Known). IsTheTerm (plain_pattern p) k) ps ks
    (λ p k known. known_term cx sorts g (plain_pattern p) k known) h

pub known_grown : (old new : Context) (sorts : List ℕ) (g : Given) (p : RulePattern) (k : Known)
    → HasGrown old new → IsKnown old sorts g p k → IsKnown new sorts g p k
known_grown old new sorts g p (Term t) grown h = h
known_grown old new sorts g p (Element thm) grown h = under_grown old new sorts g p thm grown h

pub all_known_grown : (old new : Context) (sorts : List ℕ) (g : Given) (ps : List RulePat)
    (ks : List Known) → HasGrown old new → AreKnown old sorts g ps ks → AreKnown new sorts g ps ks
all_known_grown old new sorts g ps ks grown h =
    zip_weaker (λ (p : RulePat) (k : Known). IsKnown old sorts g (plain_pattern p) k)
    (λ (p : RulePat) (k : Known). IsKnown new sorts g (plain_pattern p) k) ps ks
    (λ p k known. known_grown old new sorts g (plain_pattern p) k grown known) h

pub one_more_known : (old new : Context) (sorts : List ℕ) (g : Given) (ps : List RulePat) (i : ℕ)
    (p : RulePat) (ks : List Known) (k : Known) → i < length ps → p ≡ get_or ps i p
    → HasGrown old new → AreKnown old sorts g (take i ps) ks
    → IsKnown new sorts g (plain_pattern p) k
    → AreKnown new sorts g (take (i + 1) ps) (ks ++ k ∷ [])
one_more_known old new sorts g ps i p ks k low is grown before here =
    let front : take (i + 1) ps ≡ take i ps ++ p ∷ [] =
    take_more ps i p low ∙ ap (λ (q : RulePat). take i ps ++ q ∷ []) (sym is) in
    subst (λ (qs : List RulePat). AreKnown new sorts g qs (ks ++ k ∷ [])) (sym front)
    (zip_push (λ (q : RulePat) (x : Known). IsKnown new sorts g (plain_pattern q) x) (take i ps) ks
    p k (all_known_grown old new sorts g (take i ps) ks grown before) here)

pub is_term : (cx : Context) (sorts : List ℕ) (g : Given) (p : RulePattern) (k : Known) (t : Tree)
    → k ≡ Term t → IsKnown cx sorts g p k → p ≡ ground_pattern t
is_term cx sorts g p k t is h = subst (λ (x : Known). IsKnown cx sorts g p x) is h

pub is_element : (cx : Context) (sorts : List ℕ) (g : Given) (p : RulePattern) (k : Known)
    (thm : Theorem) → k ≡ Element thm → IsKnown cx sorts g p k → IsElementUnder cx sorts g p thm
is_element cx sorts g p k thm is h = subst (λ (x : Known). IsKnown cx sorts g p x) is h

-- the pattern at the place of what is known of it
pub record IsNext (cx : Context) (sorts : List ℕ) (g : Given) (ps : List RulePat) (i : ℕ) (k : Known)
    : Type 0 where
  pub p : RulePat
  pub low : i < length ps
  pub at : p ≡ get_or ps i p
  pub known : IsKnown cx sorts g (plain_pattern p) k

pub next_known : (cx : Context) (sorts : List ℕ) (g : Given) (ps : List RulePat) (ks : List Known)
    (i : ℕ) (k : Known) → AreKnown cx sorts g ps ks → i < length ks → k ≡ get_or ks i k
    → IsNext cx sorts g ps i k
next_known cx sorts g [] [] i k are low at = absurd (omega (arith, low))
next_known cx sorts g [] (j ∷ ks) i k are low at = absurd are
next_known cx sorts g (p ∷ ps) [] i k are low at = absurd are
next_known cx sorts g (p ∷ ps) (j ∷ ks) zero k are low at = record {
  p = p;
  low = omega arith;
  at = refl;
  known = subst (λ (x : Known). IsKnown cx sorts g (plain_pattern p) x) (sym at) are.0;
}
next_known cx sorts g (p ∷ ps) (j ∷ ks) (suc i) k are low at =
    let w : IsNext cx sorts g ps i k = next_known cx sorts g ps ks i k are.1 (omega (arith, low)) at in
    record { p = w.p; low = omega (arith, w.low); at = w.at; known = w.known }

pub as_many : (cx : Context) (sorts : List ℕ) (g : Given) (ps : List RulePat) (ks : List Known)
    → AreKnown cx sorts g ps ks → length ps ≡ length ks
as_many cx sorts g [] [] are = refl
as_many cx sorts g [] (k ∷ ks) are = absurd are
as_many cx sorts g (p ∷ ps) [] are = absurd are
as_many cx sorts g (p ∷ ps) (k ∷ ks) are = ap suc (as_many cx sorts g ps ks are.1)

-- ---- terms

two_patterns : (p q : RulePattern) (ps qs : Patterns) → p ≡ q → ps ≡ qs
    → more_patterns p ps ≡ more_patterns q qs
two_patterns p q ps qs e k = ap (λ (r : RulePattern). more_patterns r ps) e ∙ ap (more_patterns q) k

first_same : (p q : RulePattern) (ps qs : Patterns) → more_patterns p ps ≡ more_patterns q qs → p ≡ q
first_same p q ps qs h = cc

rest_same : (p q : RulePattern) (ps qs : Patterns) → more_patterns p ps ≡ more_patterns q qs
    → ps ≡ qs
rest_same p q ps qs h = cc

none_more : (p : RulePattern) (ps : Patterns) → no_pattern ≡ more_patterns p ps → ⊥
none_more p ps h = let no : ⊥ = cc in no

more_none : (p : RulePattern) (ps : Patterns) → more_patterns p ps ≡ no_pattern → ⊥
more_none p ps h = let no : ⊥ = cc in no

pushed : (xs : List RulePat) (ts : List Tree) (p : RulePat) (t : Tree)
    → plain_patterns xs ≡ ground_patterns (forest ts) → plain_pattern p ≡ ground_pattern t
    → plain_patterns (xs ++ p ∷ []) ≡ ground_patterns (forest (ts ++ t ∷ []))
pushed [] [] p t before here =
    two_patterns (plain_pattern p) (ground_pattern t) no_pattern no_pattern here refl
pushed [] (u ∷ ts) p t before here =
    absurd (none_more (ground_pattern u) (ground_patterns (forest ts)) before)
pushed (x ∷ xs) [] p t before here =
    absurd (more_none (plain_pattern x) (plain_patterns xs) before)
pushed (x ∷ xs) (u ∷ ts) p t before here =
    two_patterns (plain_pattern x) (ground_pattern u) (plain_patterns (xs ++ p ∷ []))
    (ground_patterns (forest (ts ++ t ∷ [])))
    (first_same (plain_pattern x) (ground_pattern u) (plain_patterns xs)
    (ground_patterns (forest ts)) before)
    (pushed xs ts p t (rest_same (plain_pattern x) (ground_pattern u) (plain_patterns xs)
    (ground_patterns (forest ts)) before) here)

-- the pattern at the place of a term, and the patterns up to it
next_term : (ps : List RulePat) (ks : List Known) (i : ℕ) (k : Known) (t : Tree)
    → AreTheTerms ps ks → i < length ks → k ≡ get_or ks i k → k ≡ Term t
    → (p : RulePat) × (take (i + 1) ps ≡ take i ps ++ p ∷ []) × (plain_pattern p ≡ ground_pattern t)
next_term [] [] i k t are low at is = absurd (omega (arith, low))
next_term [] (j ∷ ks) i k t are low at is = absurd are
next_term (p ∷ ps) [] i k t are low at is = absurd are
next_term (p ∷ ps) (j ∷ ks) zero k t are low at is =
    (p, refl, subst (λ (x : Known). IsTheTerm (plain_pattern p) x) (sym at ∙ is) are.0)
next_term (p ∷ ps) (j ∷ ks) (suc i) k t are low at is =
    let w : (q : RulePat) × (take (i + 1) ps ≡ take i ps ++ q ∷ [])
    × (plain_pattern q ≡ ground_pattern t) =
    next_term ps ks i k t are.1 (omega (arith, low)) at is in
    let further : suc i + 1 ≡ suc (i + 1) = omega arith in (
      w.0,
      ap (λ (n : ℕ). take n (p ∷ ps)) further ∙ ap (λ (xs : List RulePat). p ∷ xs) w.1,
      w.2,
    )

pub one_more_term : (ps : List RulePat) (ks : List Known) (i : ℕ) (k : Known) (t u : Tree)
    (ts new : List Tree) → AreTheTerms ps ks → i < length ks → k ≡ get_or ks i k → k ≡ Term t
    → u ≡ t → new ≡ ts ++ u ∷ [] → plain_patterns (take i ps) ≡ ground_patterns (forest ts)
    → plain_patterns (take (i + 1) ps) ≡ ground_patterns (forest new)
one_more_term ps ks i k t u ts new are low at is same more before =
    let w : (p : RulePat) × (take (i + 1) ps ≡ take i ps ++ p ∷ [])
    × (plain_pattern p ≡ ground_pattern t) = next_term ps ks i k t are low at is in
    ap plain_patterns w.1
    ∙ pushed (take i ps) ts w.0 u before (w.2 ∙ ap ground_pattern (sym same))
    ∙ ap (λ (us : List Tree). ground_patterns (forest us)) (sym more)

long : (ps : List RulePat) (ks : List Known) → AreTheTerms ps ks → length ps ≡ length ks
long [] [] are = refl
long [] (k ∷ ks) are = absurd are
long (p ∷ ps) [] are = absurd are
long (p ∷ ps) (k ∷ ks) are = ap suc (long ps ks are.1)

pub all_the_terms : (ps : List RulePat) (ks : List Known) (i : ℕ) (ts : List Tree)
    → AreTheTerms ps ks → length ks ≤ i → plain_patterns (take i ps) ≡ ground_patterns (forest ts)
    → plain_patterns ps ≡ ground_patterns (forest ts)
all_the_terms ps ks i ts are end before =
    ap plain_patterns (sym (take_all i ps (omega (arith, end, long ps ks are)))) ∙ before

-- a term whose injection is higher is no injection
pub plain_injection : (a b : ℕ) (p : RulePattern) (t u : Tree) (high : ℕ) → p ≡ ground_pattern t
    → ((c d : ℕ) → height (injected c d t) ≡ high) → height t < high → u ≡ injected a b t
    → injection a b p ≡ ground_pattern u
plain_injection a b p (leaf s v) u high is value higher made =
    ap (injection a b) is ∙ ap ground_pattern (sym made)
plain_injection a b p (node f ts) u high is value higher made =
    ap (injection a b) is ∙ ap ground_pattern (sym made)
plain_injection a b p (inj c d t) u high is value higher made =
    absurd (omega (arith, value a b, higher))

pub told : (P : Tree → Type 0) (o : Option Tree) (t : Tree) → o ≡ Some t → IfSome o P → P t
told P o t is h = subst (λ (x : Option Tree). IfSome x P) is h
