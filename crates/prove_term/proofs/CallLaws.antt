-- Calls of functions on patterns, and the same calls on the terms that the patterns become.
use Rattle.std.proofs.Common.{◌≡◌, ◌<◌, ℕ, List, [], ◌∷◌, Option, Some, None, length, sym, ◌∙◌}
use Rattle.std.proofs.Common.{ap, subst}
use Rattle.ml_pat.specs.Patterns.{Pattern, constant}
use Rattle.ml_kernel.specs.Lemmas.{HasNoVariable}
use Rattle.ml_kernel.specs.Theorems.{Theorem}
use Rattle.term_core.specs.Terms.{Tree, Forest, node, no_tree, more_trees}
use Rattle.term_core.specs.Patterns.{Pattern as RulePattern, Patterns as RulePatterns, call}
use Rattle.term_core.specs.Patterns.{ground_pattern}
use Rattle.term_core.specs.Patterns.{ground_patterns}
use Rattle.term_core.specs.PatternLists.{plain_patterns}
use Rattle.term_core.specs.declared.rule_patterns.RulePat.{RulePat}
use Rattle.rule_core.specs.MatchLaws.{AreTermsOf}
use Rattle.rule_core.specs.WellSorted.{IsSignature}
use Rattle.rule_core.specs.declared.rules.Program.{Program}
use Rattle.rule_core.specs.declared.signature.Signature.{Signature}
use Rattle.rule_core.specs.declared.signature.SortRef.{SortRef}
use Rattle.rule_core.proofs.SortedInstances.{instances_are_sorted}
use Rattle.ml_image.specs.Images.{image_of, applied, symbol_image}
use Rattle.ml_image.specs.HasImages.{HasImage, HaveImages}
use Rattle.ml_image.proofs.WellSortedLaws.{sorted_has_image}
use Rattle.prove_term.specs.Contexts.{Context, HasGrown}
use Rattle.prove_term.specs.Schemas.{AreImages}
use Rattle.prove_term.specs.Applications.{applied_to}
use Rattle.prove_term.specs.Comparing.{AreInstances, MakeTerms, AreCompared, AllCompare}
use Rattle.prove_term.specs.EqualCalls.{SaysEqualCalls}
use Rattle.prove_term.proofs.KeptLaws.{symbol_grown}
use Rattle.prove_term.proofs.ElementLaws.{images_grown}
use Rattle.prove_term.proofs.ImageShapes.{applied_images}
use Rattle.prove_term.proofs.ComparingLaws.{application_image, as_many_made, as_many_images}
use Rattle.prove_term.proofs.ComparingLaws.{image_closed, image_among}

-- ---- the image of a function of terms

terms_have_images : (sig : Signature) (n : ℕ) (ts : Forest) (refs : List SortRef) → IsSignature sig
    → AreTermsOf sig [] ts refs → HaveImages sig n (ground_patterns ts)
terms_have_images sig n no_tree refs ok h = tt
terms_have_images sig n (more_trees t ts) [] ok h = absurd h
terms_have_images sig n (more_trees t ts) (r ∷ refs) ok h = (
  image_among sig n (ground_pattern t) (sorted_has_image sig [] (ground_pattern t) h.0 ok h.2),
  terms_have_images sig n ts refs ok h.3,
)

-- what is known of the patterns and the terms
pub record AreCalled (sig : Signature) (f : ℕ) (theta : List (Option Tree)) (args : List RulePat)
    (us : Forest) : Type 0 where
  pub signature : IsSignature sig
  pub symbol : f < length sig.symbols
  pub variables : List ℕ
  pub refs : List SortRef
  pub are : AreInstances sig variables theta (plain_patterns args) refs us

pub called_has_image : (sig : Signature) (f n : ℕ) (theta : List (Option Tree))
    (args : List RulePat) (us : Forest) (w : RulePattern) → AreCalled sig f theta args us
    → w ≡ call f [] (ground_patterns us) → HasImage sig n w
called_has_image sig f n theta args us w h is =
    let sorted : AreTermsOf sig [] us h.refs =
    (instances_are_sorted sig h.variables [] (plain_patterns args) h.refs theta us h.are.sorted
    h.are.respects h.are.make).0 in
    subst (HasImage sig n) (sym is)
    (h.symbol, tt, terms_have_images sig n us h.refs h.signature sorted)

-- the image, taken apart
pub record IsSplit (cx : Context) (f : ℕ) (args ws : List RulePat) (us : Forest) (image : Pattern) :
    Type 0 where
  pub number : ℕ
  pub images : List Pattern
  pub is_head : symbol_image cx.program.sig cx.names f ≡ Some (constant number)
  pub are_images : AreImages cx.program.sig cx.names (plain_patterns ws) images
  pub is : image ≡ applied_to (constant number) images
  pub many : length args ≡ length images
  pub wholes : plain_patterns ws ≡ ground_patterns us

arguments_same : (f g : ℕ) (ss rs : List ℕ) (ps qs : RulePatterns) → call f ss ps ≡ call g rs qs
    → ps ≡ qs
arguments_same f g ss rs ps qs e = cc

pub split : (old cx : Context) (f : ℕ) (theta : List (Option Tree)) (args ws : List RulePat)
    (us : Forest) (image : Pattern) (g : ℕ) (ss : List ℕ)
    → AreCalled old.program.sig f theta args us → HasGrown old cx
    → call g ss (plain_patterns ws) ≡ call f [] (ground_patterns us)
    → image_of cx.program.sig cx.names (call g ss (plain_patterns ws)) ≡ Some image
    → IsSplit cx f args ws us image
split old cx f theta args ws us image g ss h grown is made =
    let wholes : plain_patterns ws ≡ ground_patterns us =
    arguments_same g f ss [] (plain_patterns ws) (ground_patterns us) is in
    let whole : call g ss (plain_patterns ws) ≡ call f [] (plain_patterns ws) =
    is ∙ ap (call f []) (sym wholes) in
    let image_is : image_of cx.program.sig cx.names (call f [] (plain_patterns ws)) ≡ Some image =
    ap (image_of cx.program.sig cx.names) (sym whole) ∙ made in
    let parts : (c : ℕ) × (qs : List Pattern) ×
    (symbol_image cx.program.sig cx.names f ≡ Some (constant c)) × AreImages cx.program.sig
    cx.names (plain_patterns ws) qs × (image ≡ applied_to (constant c) qs) =
    application_image cx.program.sig cx.names f (plain_patterns ws) image image_is in
    record {
      number = parts.0;
      images = parts.1;
      is_head = parts.2;
      are_images = parts.3;
      is = parts.4;
      many = as_many_made theta args ws us h.are.make wholes
          ∙ as_many_images cx.program.sig cx.names ws parts.1 parts.3;
      wholes = wholes;
    }

pub called_made : (old cx : Context) (f : ℕ) (theta : List (Option Tree)) (args ws : List RulePat)
    (us : Forest) → AreCalled old.program.sig f theta args us → HasGrown old cx
    → plain_patterns ws ≡ ground_patterns us
    → MakeTerms cx.program.sig (plain_patterns args) (plain_patterns ws)
called_made old cx f theta args ws us h grown is = (
  h.variables,
  theta,
  h.refs,
  us,
  subst
      (λ (p : Program). AreInstances p.sig h.variables theta (plain_patterns args) h.refs us)
      (sym grown.program) h.are,
  is,
)

-- ---- what is said of it

compared_says : (cx : Context) (f c : ℕ) (theta : List (Option Tree)) (ps : RulePatterns)
    (us : Forest) (qs : List Pattern) (o : Option Theorem)
    → symbol_image cx.program.sig cx.names f ≡ Some (constant c)
    → AreImages cx.program.sig cx.names (ground_patterns us) qs
    → HasNoVariable (applied_to (constant c) qs) → AreCompared cx theta ps us (constant c) qs o
    → SaysEqualCalls cx f theta ps us o
compared_says cx f c theta ps us qs None head images closed h = h
compared_says cx f c theta ps us qs (Some t) head images closed h = (
  h.written,
  h.are_written,
  record {
    left = applied_to (constant c) h.lefts;
    left_image =
        ap (λ (o : Option Pattern). applied cx.program.sig cx.names o (ground_patterns h.written))
        head
        ∙ applied_images cx.program.sig cx.names (ground_patterns h.written) h.lefts
        (constant c) h.are_lefts;
    right = applied_to (constant c) qs;
    right_image =
        ap (λ (o : Option Pattern). applied cx.program.sig cx.names o (ground_patterns us)) head
        ∙ applied_images cx.program.sig cx.names (ground_patterns us) qs (constant c) images;
    says = h.says;
    no_variable = (h.closed, closed);
  },
  h.stays,
)

-- the image of f of terms is closed, because it equals the image of a constructor's term with the
-- same number
pub call_closed : (sig : Signature) (names : List (List ℕ)) (f : ℕ) (us : Forest) (p : Pattern)
    → image_of sig names (call f [] (ground_patterns us)) ≡ Some p → HasNoVariable p
call_closed sig names f us p is = image_closed sig names (node f us) p is

pub split_says : (old cx : Context) (f : ℕ) (theta : List (Option Tree)) (args ws : List RulePat)
    (us : Forest) (image head : Pattern) (images : List Pattern) (o : Option Theorem)
    (s : IsSplit old f args ws us image) → AreCalled old.program.sig f theta args us
    → HasGrown old cx → head ≡ constant s.number → images ≡ s.images
    → AllCompare cx (plain_patterns args) (plain_patterns ws) head images o
    → SaysEqualCalls cx f theta (plain_patterns args) us o
split_says old cx f theta args ws us image head images o s h grown is_head are all =
    let later : AreInstances cx.program.sig h.variables theta (plain_patterns args) h.refs us =
    subst
    (λ (p : Program). AreInstances p.sig h.variables theta (plain_patterns args) h.refs us)
    (sym grown.program) h.are in
    let symbol : symbol_image cx.program.sig cx.names f ≡ Some (constant s.number) =
    symbol_grown old cx f (constant s.number) grown s.is_head in
    let there : AreImages cx.program.sig cx.names (ground_patterns us) s.images =
    subst (λ (ps : RulePatterns). AreImages cx.program.sig cx.names ps s.images) s.wholes
    (images_grown old cx (plain_patterns ws) s.images grown s.are_images) in
    let whole : image_of cx.program.sig cx.names (call f [] (ground_patterns us)) ≡ Some
    (applied_to (constant s.number) s.images) =
    ap (λ (o : Option Pattern). applied cx.program.sig cx.names o (ground_patterns us)) symbol
    ∙ applied_images cx.program.sig cx.names (ground_patterns us) s.images (constant s.number)
    there in
    let compared : AreCompared cx theta (plain_patterns args) us (constant s.number) s.images o =
    subst (λ (qs : List Pattern).
    AreCompared cx theta (plain_patterns args) us (constant s.number) qs o) are
    (subst (λ (q : Pattern). AreCompared cx theta (plain_patterns args) us q images o) is_head
    (all h.variables theta h.refs us later s.wholes)) in
    compared_says cx f s.number theta (plain_patterns args) us s.images o symbol there
    (call_closed cx.program.sig cx.names f us (applied_to (constant s.number) s.images) whole)
    compared
