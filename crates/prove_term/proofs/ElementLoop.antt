-- Arguments one by one, from the last to the first; values and terms as patterns.
use Rattle.std.proofs.Common.{◌≡◌, ◌<◌, ◌+◌, ℕ, zero, suc, List, [], ◌∷◌, Option, option_map}
use Rattle.std.proofs.Common.{length, drop, get_or, refl, sym, ◌∙◌, ap, subst, arith}
use Rattle.ml_pat.specs.Patterns.{Pattern, constant}
use Rattle.term_core.specs.Terms.{Tree, DomainValue}
use Rattle.term_core.specs.Patterns.{Pattern as RulePattern, domain_value, more_patterns}
use Rattle.term_core.specs.Patterns.{no_pattern, ground_pattern}
use Rattle.term_core.specs.GroundPatterns.{IsGround, AreGround}
use Rattle.term_core.specs.RulePatterns.{plain_pattern}
use Rattle.term_core.specs.PatternLists.{plain_patterns}
use Rattle.term_core.specs.declared.rule_patterns.RulePat.{RulePat}
use Rattle.rule_core.specs.Sorting.{HasSort, HaveSorts, IsTermOf}
use Rattle.rule_core.specs.declared.rules.Program.{Program}
use Rattle.rule_core.specs.declared.signature.Signature.{Signature}
use Rattle.rule_core.specs.declared.signature.SortRef.{SortRef}
use Rattle.ml_image.specs.Images.{sort_image, image_of}
use Rattle.prove_term.specs.Contexts.{Context, HasGrown}
use Rattle.prove_term.specs.Functional.{SaysFunctional}
use Rattle.prove_term.specs.ValueAxioms.{SaysValueOf}
use Rattle.prove_term.specs.Elements.{IsSorted, AreSorted, IsElementAt, IsElement}

-- ---- one argument

have_item : (sig : Signature) (args : List RulePat) (refs : List SortRef) (i : ℕ) (p : RulePat)
    → HaveSorts sig [] [] (plain_patterns args) refs → i < length args → p ≡ get_or args i p
    → IsSorted sig (plain_pattern p)
have_item sig [] refs i p h low is = absurd (omega (arith, low))
have_item sig (a ∷ args) [] i p h low is = absurd h
have_item sig (a ∷ args) (r ∷ refs) zero p h low is =
    subst (λ (q : RulePat). IsSorted sig (plain_pattern q)) (sym is) (h.0, h.2)
have_item sig (a ∷ args) (r ∷ refs) (suc i) p h low is =
    have_item sig args refs i p h.3 (omega (arith, low)) is

pub sorted_item : (sig : Signature) (args : List RulePat) (i : ℕ) (p : RulePat)
    → AreSorted sig (plain_patterns args) → i < length args → p ≡ get_or args i p
    → IsSorted sig (plain_pattern p)
sorted_item sig args i p h low is = have_item sig args h.0 i p h.1 low is

pub sorted_item_grown : (a b d : Context) (args : List RulePat) (i : ℕ) (p : RulePat) → HasGrown a b
    → HasGrown b d → AreSorted a.program.sig (plain_patterns args) → i < length args
    → p ≡ get_or args i p → IsSorted d.program.sig (plain_pattern p)
sorted_item_grown a b d args i p g h sorted low is =
    subst (λ (program : Program). IsSorted program.sig (plain_pattern p))
    (sym (h.program ∙ g.program)) (sorted_item a.program.sig args i p sorted low is)

pub ground_item : (args : List RulePat) (i : ℕ) (p : RulePat) → AreGround (plain_patterns args)
    → i < length args → p ≡ get_or args i p → IsGround (plain_pattern p)
ground_item [] i p h low is = absurd (omega (arith, low))
ground_item (a ∷ args) zero p h low is =
    subst (λ (q : RulePat). IsGround (plain_pattern q)) (sym is) h.0
ground_item (a ∷ args) (suc i) p h low is = ground_item args i p h.1 (omega (arith, low)) is

next_item : (args : List RulePat) (j : ℕ) (p : RulePat) → j < length args → p ≡ get_or args j p
    → plain_patterns (drop j args)
    ≡ more_patterns (plain_pattern p) (plain_patterns (drop (j + 1) args))
next_item [] j p low is = absurd (omega (arith, low))
next_item (a ∷ args) zero p low is =
    ap (λ (q : RulePat). more_patterns (plain_pattern q) (plain_patterns args)) (sym is)
next_item (a ∷ args) (suc j) p low is =
    next_item args j p (omega (arith, low)) is
    ∙ ap (λ (k : ℕ). more_patterns (plain_pattern p) (plain_patterns (drop k (a ∷ args))))
    (further j)
  where
    further : (j : ℕ) → suc (j + 1) ≡ suc j + 1
    further j = omega arith

-- the argument before number i, followed by those from i on
pub item_before : (args : List RulePat) (i j : ℕ) (p : RulePat) → i ≡ j + 1 → j < length args
    → p ≡ get_or args j p
    → plain_patterns (drop j args) ≡ more_patterns (plain_pattern p) (plain_patterns (drop i args))
item_before args i j p next low is = next_item args j p low is
    ∙ ap (λ (k : ℕ). more_patterns (plain_pattern p) (plain_patterns (drop k args))) (sym next)

pub none_from_end : (n : ℕ) (args : List RulePat) → n ≡ length args
    → plain_patterns (drop n args) ≡ no_pattern
none_from_end n args is = ap (λ (k : ℕ). plain_patterns (drop k args)) is ∙ at_end args
  where
    at_end : (args : List RulePat) → plain_patterns (drop (length args) args) ≡ no_pattern
    at_end [] = refl
    at_end (a ∷ args) = at_end args

-- ---- values

pub value_element : (cx : Context) (s : ℕ) (v : DomainValue) (q : Pattern) → SaysValueOf cx s v q
    → IsElement cx (domain_value s v) q
value_element cx s v q says = λ sort sorted. record {
  image = constant says.token;
  is_image = ap (λ (o : Option ℕ). option_map constant o) says.is_token;
  number = says.sort;
  is_number = ap (sort_image cx.program.sig cx.names) (sym sorted.0) ∙ says.is_sort;
  says = says.says;
  no_variable = tt;
  no_meta = tt;
}

-- ---- terms

pub says_functional : (a b : Context) (t : Tree) (p : RulePattern) (q : Pattern) (sort : ℕ)
    → HasGrown a b → p ≡ ground_pattern t → IsTermOf a.program.sig t sort → IsElement b p q
    → SaysFunctional b t q
says_functional a b t p q sort g is sorted element =
    let sorted' : HasSort b.program.sig [] (ground_pattern t) sort =
    subst (λ (program : Program). HasSort program.sig [] (ground_pattern t) sort)
    (sym g.program) sorted in
    let at : IsElementAt b p sort q =
    element sort
    (subst (λ (r : RulePattern). HasSort b.program.sig [] r sort) (sym is) sorted') in
    record {
      sort = sort;
      sorted = sorted';
      image = at.image;
      is_image = ap (image_of b.program.sig b.names) (sym is) ∙ at.is_image;
      number = at.number;
      is_number = at.is_number;
      says = at.says;
      no_variable = at.no_variable;
      no_meta = at.no_meta;
    }
