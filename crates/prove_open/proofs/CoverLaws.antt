-- Patterns that given facts cover: their parts, and the variables of their images.
use Rattle.std.proofs.Common.{◌≡◌, ◌<◌, ℕ, zero, suc, List, [], ◌∷◌, Option, Some, length}
use Rattle.std.proofs.Common.{option_map, get_or, sym, ◌∙◌, ap, subst, arith, inl, inr}
use Rattle.std.proofs.lemmas.Option.{slice_get_within}
use Rattle.ml_pat.specs.Patterns.{Pattern, app, fun, constant, imp, var}
use Rattle.ml_kernel.specs.Theorems.{Theorem}
use Rattle.term_core.specs.Patterns.{Pattern as RulePattern, Patterns as RulePatterns, variable}
use Rattle.term_core.specs.Patterns.{domain_value, application, injection, call, no_pattern}
use Rattle.term_core.specs.Patterns.{more_patterns}
use Rattle.term_core.specs.RulePatterns.{plain_pattern}
use Rattle.term_core.specs.PatternLists.{plain_patterns}
use Rattle.term_core.specs.declared.rule_patterns.RulePat.{RulePat}
use Rattle.rule_core.specs.Matching.{OccursInSome}
use Rattle.rule_core.specs.Sorting.{HasSort, HaveSorts}
use Rattle.rule_core.specs.WellSorted.{HasNoCall, HaveNoCall}
use Rattle.rule_core.specs.declared.signature.Signature.{Signature}
use Rattle.rule_core.specs.declared.signature.SortRef.{SortRef}
use Rattle.ml_image.specs.Images.{both, image_of, applied, sort_image, symbol_image}
use Rattle.ml_image.specs.Tokens.{number_in_names, token_of_symbol, token_of_value}
use Rattle.prove_term.specs.Contexts.{Context}
use Rattle.prove_term.specs.Numbered.{HasEnds, inject}
use Rattle.prove_term.proofs.ImageShapes.{both_some, map_some}
use Rattle.prove_term.proofs.InjectionShapes.{injection_shape}
use Rattle.prove_open.specs.Givens.{IsCovered, HasFact}
use Rattle.prove_open.specs.Under.{element}
use Rattle.prove_open.specs.Values.{IsOpenBelow}
use Rattle.prove_open.specs.Elements.{HasElement, HaveElements, IsUnder, IsElementAt}
use Rattle.prove_open.specs.declared.givens.Given.{Given}

-- ---- parts

-- the same for the arguments of a constructor
pub record AreCovered (sig : Signature) (sorts : List ℕ) (g : Given) (ps : RulePatterns)
    (refs : List SortRef) : Type 0 where
  pub sorted : HaveSorts sig sorts [] ps refs
  pub no_call : HaveNoCall ps
  pub given : (x : ℕ) → OccursInSome x ps → HasFact g x

pub covered_below : (sig : Signature) (sorts : List ℕ) (g : Given) (a b : ℕ) (p : RulePattern)
    (sort : ℕ) → IsCovered sig sorts g (injection a b p) sort → IsCovered sig sorts g p a
covered_below sig sorts g a b p sort c = record {
  sorted = c.sorted.3;
  no_call = c.no_call;
  given = c.given;
}

pub covered_arguments : (sig : Signature) (sorts : List ℕ) (g : Given) (f : ℕ) (ps : RulePatterns)
    (sort : ℕ) (c : IsCovered sig sorts g (application f ps) sort)
    → AreCovered sig sorts g ps c.sorted.0.args.items
covered_arguments sig sorts g f ps sort c = record {
  sorted = c.sorted.4;
  no_call = c.no_call;
  given = c.given;
}

first_covered : (sig : Signature) (sorts : List ℕ) (g : Given) (p : RulePattern)
    (ps : RulePatterns) (r : SortRef) (refs : List SortRef)
    → AreCovered sig sorts g (more_patterns p ps) (r ∷ refs) → HasElement sig sorts g p
first_covered sig sorts g p ps r refs c = (
  c.sorted.0,
  record {
    sorted = c.sorted.2;
    no_call = c.no_call.0;
    given = λ x occurs. c.given x (inl occurs);
  },
)

pub rest_covered : (sig : Signature) (sorts : List ℕ) (g : Given) (p : RulePattern)
    (ps : RulePatterns) (r : SortRef) (refs : List SortRef)
    → AreCovered sig sorts g (more_patterns p ps) (r ∷ refs) → AreCovered sig sorts g ps refs
rest_covered sig sorts g p ps r refs c = record {
  sorted = c.sorted.3;
  no_call = c.no_call.1;
  given = λ x occurs. c.given x (inr occurs);
}

covered_at : (sig : Signature) (sorts : List ℕ) (g : Given) (args : List RulePat)
    (refs : List SortRef) (i : ℕ) (d : RulePat) → AreCovered sig sorts g (plain_patterns args) refs
    → i < length args → HasElement sig sorts g (plain_pattern (get_or args i d))
covered_at sig sorts g [] refs i d c low = absurd (omega (arith, low))
covered_at sig sorts g (a ∷ args) [] i d c low = absurd c.sorted
covered_at sig sorts g (a ∷ args) (r ∷ refs) zero d c low =
    first_covered sig sorts g (plain_pattern a) (plain_patterns args) r refs c
covered_at sig sorts g (a ∷ args) (r ∷ refs) (suc i) d c low =
    covered_at sig sorts g args refs i d
    (rest_covered sig sorts g (plain_pattern a) (plain_patterns args) r refs c)
    (omega (arith, low))

pub have_elements : (sig : Signature) (sorts : List ℕ) (g : Given) (args : List RulePat)
    (refs : List SortRef) → AreCovered sig sorts g (plain_patterns args) refs
    → HaveElements sig sorts g args
have_elements sig sorts g args refs c = λ i d low. covered_at sig sorts g args refs i d c low

-- ---- variables of images

some_same : {A : Type 0} (a b : A) → Some a ≡ Some b → a ≡ b
some_same a b e = cc

constant_below : (n : ℕ) (o : Option ℕ) (r : Pattern) → option_map constant o ≡ Some r
    → IsOpenBelow n r
constant_below n o r is =
    let w : (c : ℕ) × (o ≡ Some c) × (r ≡ constant c) = map_some constant o r is in
    subst (IsOpenBelow n) (sym w.2) tt

app_below : (n : ℕ) (o i : Option Pattern) (r : Pattern)
    → ((f : Pattern) → o ≡ Some f → IsOpenBelow n f)
    → ((a : Pattern) → i ≡ Some a → IsOpenBelow n a) → both app o i ≡ Some r → IsOpenBelow n r
app_below n o i r function argument is =
    let w : (f : Pattern) × (a : Pattern) × (o ≡ Some f) × (i ≡ Some a) × (r ≡ app f a) =
    both_some app o i r is in
    subst (IsOpenBelow n) (sym w.4) (function w.0 w.2, argument w.1 w.3)

mutual
  pub image_below : (sig : Signature) (names : List (List ℕ)) (sorts : List ℕ) (p : RulePattern)
      (sort : ℕ) (q : Pattern) → HasSort sig sorts p sort → HasNoCall p
      → image_of sig names p ≡ Some q → IsOpenBelow (length sorts) q
  image_below sig names sorts (variable x) sort q h calls e =
      subst (IsOpenBelow (length sorts)) (some_same (var x) q e) (slice_get_within sorts x sort h)
  image_below sig names sorts (domain_value s v) sort q h calls e =
      let w : (c : ℕ) × (number_in_names names (token_of_value sig s v) ≡ Some c)
      × (q ≡ constant c) =
      map_some constant (number_in_names names (token_of_value sig s v)) q e in
      subst (IsOpenBelow (length sorts)) (sym w.2) tt
  image_below sig names sorts (application f ps) sort q h calls e =
      applied_below sig names sorts ps h.0.args.items (symbol_image sig names f) q h.4 calls
      (λ r is. constant_below (length sorts) (number_in_names names (token_of_symbol sig f)) r is) e
  image_below sig names sorts (injection a b p) sort q h calls e =
      let w : (ends : HasEnds sig names a b) × (r : Pattern) × (image_of sig names p ≡ Some r)
      × (q ≡ inject ends.symbol ends.lower ends.upper r) =
      injection_shape sig names a b (image_of sig names p) q e in
      subst (IsOpenBelow (length sorts)) (sym w.3)
      (tt, image_below sig names sorts p a w.1 h.3 calls w.2)
  image_below sig names sorts (call f ss ps) sort q h calls e = absurd calls

  applied_below : (sig : Signature) (names : List (List ℕ)) (sorts : List ℕ) (ps : RulePatterns)
      (refs : List SortRef) (o : Option Pattern) (q : Pattern) → HaveSorts sig sorts [] ps refs
      → HaveNoCall ps → ((r : Pattern) → o ≡ Some r → IsOpenBelow (length sorts) r)
      → applied sig names o ps ≡ Some q → IsOpenBelow (length sorts) q
  applied_below sig names sorts no_pattern refs o q h calls low e = low q e
  applied_below sig names sorts (more_patterns p ps) [] o q h calls low e = absurd h
  applied_below sig names sorts (more_patterns p ps) (s ∷ refs) o q h calls low e =
      applied_below sig names sorts ps refs (both app o (image_of sig names p)) q h.3 calls.1
      (λ r is. app_below (length sorts) o (image_of sig names p) r low
      (λ a at. image_below sig names sorts p h.0 a h.2 calls.0 at) is)
      e

-- ---- elements

-- the image of a covered pattern, of which a theorem says that it is one element
pub record HasImageAt (cx : Context) (h : Pattern) (k : ℕ) (p : RulePattern) (sort : ℕ)
    (t : Theorem) : Type 0 where
  pub image : Pattern
  pub is_image : image_of cx.program.sig cx.names p ≡ Some image
  pub element : IsElementAt cx h k sort image t

pub has_image : (cx : Context) (sorts : List ℕ) (g : Given) (p : RulePattern) (sort : ℕ)
    (t : Theorem) → IsCovered cx.program.sig sorts g p sort
    → IsUnder cx g.hypothesis (element p sort) t
    → HasImageAt cx g.hypothesis (length sorts) p sort t
has_image cx sorts g p sort t c u =
    let w : (q : Pattern) × (n : ℕ) × (image_of cx.program.sig cx.names p ≡ Some q)
    × (sort_image cx.program.sig cx.names sort ≡ Some n) × (u.says.image ≡ fun q n) =
    both_some fun (image_of cx.program.sig cx.names p) (sort_image cx.program.sig cx.names sort)
    u.says.image u.says.is_image in
    record {
      image = w.0;
      is_image = w.2;
      element = record {
        number = w.1;
        is_number = w.3;
        says = u.says.says ∙ ap (imp g.hypothesis) w.4;
        below =
            image_below cx.program.sig cx.names sorts p sort w.0 c.sorted c.no_call w.2;
        stays = u.stays;
      };
    }

pub is_under : (cx : Context) (h : Pattern) (k : ℕ) (p : RulePattern) (sort : ℕ) (q : Pattern)
    (t : Theorem) → image_of cx.program.sig cx.names p ≡ Some q → IsElementAt cx h k sort q t
    → IsUnder cx h (element p sort) t
is_under cx h k p sort q t is e = record {
  says = record {
    image = fun q e.number;
    is_image =
        ap (λ (o : Option Pattern). both fun o (sort_image cx.program.sig cx.names sort)) is
        ∙ ap (both fun (Some q)) e.is_number;
    says = e.says;
  };
  stays = e.stays;
}
