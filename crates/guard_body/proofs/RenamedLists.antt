-- Renamed patterns and names, one after another.
use Rattle.std.proofs.Common.{◌≡◌, inl, inr, ◌<◌, ◌≤◌, ◌+◌, ℕ, zero, suc, List, [], ◌∷◌, ◌++◌}
use Rattle.std.proofs.Common.{length, map, take, get_or, Bool, true, false, refl, sym, ◌∙◌, ap, subst}
use Rattle.std.proofs.Common.{arith, append-nil}
use Rattle.std.specs.Prelude.{if◌then◌else◌}
use Rattle.std.proofs.lemmas.List.{take_more, map-append}
use Rattle.std.proofs.Math.Seq.{take_all}
use Rattle.term_core.specs.Instances.{patterns}
use Rattle.term_core.specs.Patterns.{Pattern}
use Rattle.term_core.specs.RulePatterns.{plain_pattern}
use Rattle.term_core.specs.PatternLists.{plain_patterns}
use Rattle.term_core.specs.declared.rule_patterns.RulePat.{RulePat}
use Rattle.rule_core.specs.Matching.{OccursIn, OccursInSome}
use Rattle.rule_core.specs.NamedParts.{Name}
use Rattle.rule_core.specs.ProgramView.{name_of, names_of}
use Rattle.rule_core.specs.declared.rules.Named.{Named}
use Rattle.ml_image.specs.HasImages.{AreNamesBelow}
use Rattle.ml_image.specs.Images.{renamed, all_renamed}
use Rattle.ml_image.specs.PartNames.{names_renamed}
use Rattle.ml_image.specs.Premises.{renamed_name}
use Rattle.ml_image.proofs.NamedLaws.{renamed_list}
use Rattle.guard_body.specs.Renaming.{at_zero, begins_with, names_at}

-- what occurs in a pattern of a list occurs in the patterns
pub item_occurs : (ps : List RulePat) (i x : ℕ) (p : RulePat) → i < length ps → p ≡ get_or ps i p
    → OccursIn x (plain_pattern p) → OccursInSome x (plain_patterns ps)
item_occurs [] i x p low is h = absurd (omega (arith, low))
item_occurs (q ∷ ps) zero x p low is h =
    inl (subst (λ (r : RulePat). OccursIn x (plain_pattern r)) is h)
item_occurs (q ∷ ps) (suc i) x p low is h = inr (item_occurs ps i x p (omega (arith, low)) is h)

-- one more pattern
pub renamed_next : (g : ℕ → ℕ) (ps made new : List RulePat) (i : ℕ) (p q : RulePat)
    → i < length ps → p ≡ get_or ps i p
    → map plain_pattern made ≡ map (renamed g) (map plain_pattern (take i ps))
    → new ≡ made ++ q ∷ [] → plain_pattern q ≡ renamed g (plain_pattern p)
    → map plain_pattern new ≡ map (renamed g) (map plain_pattern (take (i + 1) ps))
renamed_next g ps made new i p q low is before more one =
    ap (map plain_pattern) more ∙ map-append plain_pattern made (q ∷ [])
    ∙ ap (λ (rs : List Pattern). rs ++ plain_pattern q ∷ []) before
    ∙ ap (λ (r : Pattern). map (renamed g) (map plain_pattern (take i ps)) ++ r ∷ []) one
    ∙ sym (map-append (renamed g) (map plain_pattern (take i ps)) (plain_pattern p ∷ []))
    ∙ ap (map (renamed g)) (sym (map-append plain_pattern (take i ps) (p ∷ [])))
    ∙ ap (λ (rs : List RulePat). map (renamed g) (map plain_pattern rs))
    (ap (λ (r : RulePat). take i ps ++ r ∷ []) is ∙ sym (take_more ps i p low))

pub renamed_whole : (g : ℕ → ℕ) (ps made : List RulePat) (i : ℕ) → length ps ≤ i
    → map plain_pattern made ≡ map (renamed g) (map plain_pattern (take i ps))
    → plain_patterns made ≡ all_renamed g (plain_patterns ps)
renamed_whole g ps made i high before =
    ap patterns before
    ∙ ap (λ (rs : List RulePat). patterns (map (renamed g) (map plain_pattern rs)))
    (take_all i ps high)
    ∙ sym (renamed_list g (map plain_pattern ps))

-- ---- names

names_at-append : (i : ℕ) (ms ns : List Name) → names_at i (ms ++ ns) ≡ names_at i ms ++ names_at i ns
names_at-append i [] ns = refl
names_at-append i (n ∷ ms) ns = go (begins_with i n.place) (names_at-append i ms ns)
  where
    go : (b : Bool) → names_at i (ms ++ ns) ≡ names_at i ms ++ names_at i ns
        → (if b then at_zero n ∷ names_at i (ms ++ ns) else names_at i (ms ++ ns))
        ≡ (if b then at_zero n ∷ names_at i ms else names_at i ms) ++ names_at i ns
    go true h = ap (λ (ks : List Name). at_zero n ∷ ks) h
    go false h = h

-- the names so far, and one more
next_names : (g : ℕ → ℕ) (place : ℕ) (named : List Named) (i : ℕ) (n : Named) → i < length named
    → n ≡ get_or named i n
    → names_at place (names_renamed g (names_of (take (i + 1) named)))
    ≡ names_at place (names_renamed g (names_of (take i named)))
    ++ names_at place (renamed_name g (name_of n) ∷ [])
next_names g place named i n low is =
    ap (λ (ns : List Named). names_at place (names_renamed g (names_of ns)))
    (take_more named i n low ∙ ap (λ (m : Named). take i named ++ m ∷ []) (sym is))
    ∙ ap (λ (ns : List Name). names_at place (names_renamed g ns))
    (map-append name_of (take i named) (n ∷ []))
    ∙ ap (names_at place) (map-append (renamed_name g) (names_of (take i named)) (name_of n ∷ []))
    ∙ names_at-append place (names_renamed g (names_of (take i named)))
    (renamed_name g (name_of n) ∷ [])

pub name_more : (g : ℕ → ℕ) (place : ℕ) (named made new : List Named) (i : ℕ) (n m : Named)
    → i < length named → n ≡ get_or named i n
    → names_of made ≡ names_at place (names_renamed g (names_of (take i named)))
    → begins_with place n.at.items ≡ true → new ≡ made ++ m ∷ []
    → name_of m ≡ at_zero (renamed_name g (name_of n))
    → names_of new ≡ names_at place (names_renamed g (names_of (take (i + 1) named)))
name_more g place named made new i n m low is before begins more one =
    ap names_of more ∙ map-append name_of made (m ∷ [])
    ∙ ap (λ (ns : List Name). ns ++ name_of m ∷ []) before
    ∙ ap (λ (k : Name). names_at place (names_renamed g (names_of (take i named))) ++ k ∷ []) one
    ∙ ap (λ (b : Bool). names_at place (names_renamed g (names_of (take i named)))
    ++ (if b then at_zero (renamed_name g (name_of n)) ∷ [] else [])) (sym begins)
    ∙ sym (next_names g place named i n low is)

pub name_same : (g : ℕ → ℕ) (place : ℕ) (named made : List Named) (i : ℕ) (n : Named)
    → i < length named → n ≡ get_or named i n
    → names_of made ≡ names_at place (names_renamed g (names_of (take i named)))
    → begins_with place n.at.items ≡ false
    → names_of made ≡ names_at place (names_renamed g (names_of (take (i + 1) named)))
name_same g place named made i n low is before other =
    before
    ∙ sym (append-nil (names_at place (names_renamed g (names_of (take i named)))))
    ∙ ap (λ (b : Bool). names_at place (names_renamed g (names_of (take i named)))
    ++ (if b then at_zero (renamed_name g (name_of n)) ∷ [] else [])) (sym other)
    ∙ sym (next_names g place named i n low is)

-- the variables of the names are low
pub name_below : (n : ℕ) (named : List Named) (i : ℕ) (m : Named) → i < length named
    → m ≡ get_or named i m → AreNamesBelow n (names_of named) → m.var < n
name_below n [] i m low is all = absurd (omega (arith, low))
name_below n (k ∷ named) zero m low is all =
    subst (λ (r : Named). r.var < n) (sym is) (all 0 (name_of k) (omega arith))
name_below n (k ∷ named) (suc i) m low is all =
    name_below n named i m (omega (arith, low)) is
    (λ j d lt. all (suc j) d (omega (arith, lt)))
