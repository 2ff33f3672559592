-- Injections of results.
use Rattle.std.proofs.Common.{◌≡◌, ℕ, zero, suc, List, [], ◌∷◌, Option, Some, None, slice_get, refl}
use Rattle.std.proofs.Common.{sym, ◌∙◌, ap, subst}
use Rattle.std.specs.Prelude.{IfSome}
use Rattle.ml_pat.specs.Patterns.{Pattern, app, equal}
use Rattle.ml_kernel.specs.Lemmas.{HasNoVariable}
use Rattle.ml_kernel.specs.Theorems.{Theorem}
use Rattle.ml_derived.specs.Scopes.{IsOver}
use Rattle.term_core.specs.Terms.{Tree, inj, injected, IsNormal}
use Rattle.term_core.specs.Patterns.{Pattern as RulePattern, variable, injection, ground_pattern}
use Rattle.rule_core.specs.Subsorts.{IsBelow}
use Rattle.rule_core.specs.Sorting.{HasSort, HasInjection, IsTermOf}
use Rattle.rule_core.specs.Matching.{RespectsSorts}
use Rattle.rule_core.specs.Records.{Record}
use Rattle.rule_core.specs.declared.signature.Signature.{Signature}
use Rattle.ml_image.specs.Images.{image_of}
use Rattle.ml_image.specs.Sentences.{term}
use Rattle.prove_term.specs.Contexts.{Context, HasGrown, StaysIn}
use Rattle.prove_term.specs.Applications.{IsApplication}
use Rattle.prove_term.specs.Comparing.{IsOverContext}
use Rattle.prove_term.specs.EqualImages.{SaysEqualImages}
use Rattle.prove_term.specs.EqualImages as images
use Rattle.prove_term.specs.Filling.{filled}
use Rattle.prove_term.proofs.ContextLaws.{image_grown}
use Rattle.prove_term.proofs.ComparingLaws.{image_closed, closed-injection}
use Rattle.prove_term.proofs.ComparingInjections.{HasHalves, halves_of, applied_image}
use Rattle.prove_fun.specs.Evaluating.{IsImage, Equates, HasEqual, IsEvaluated, IsInjectedOnce}
use Rattle.prove_fun.specs.Evaluating.{AreLinked}
use Rattle.prove_fun.proofs.Equalities.{application}

same_image : (p q : Pattern) → Some p ≡ Some q → p ≡ q
same_image p q e = cc

same_tree : (t u : Tree) → Some t ≡ Some u → t ≡ u
same_tree t u e = cc

-- ---- a direct injection

pub injected_once_says : (cx : Context) (a b : ℕ) (t : Tree) (o : Option Theorem)
    → SaysEqualImages cx (Some t ∷ []) (injection a b (variable 0)) o → IfSome o (StaysIn cx)
    → IsInjectedOnce cx a b t o
injected_once_says cx a b t None h stays = λ image is.
    let own : IsImage cx (ground_pattern (inj a b t)) image =
    ap (λ (u : Tree). image_of cx.program.sig cx.names (ground_pattern u))
    (same_tree (inj a b t) (injected a b t) h) ∙ is in
    record {
      left = image;
      left_image = own;
      closed = image_closed cx.program.sig cx.names (inj a b t) image own;
      equates = refl;
    }
injected_once_says cx a b t (Some thm) h stays = λ image is.
    let e : images.SaysEqual cx (inj a b t) (injected a b t) thm.conclusion =
    h.1 (inj a b t) (injected a b t) refl refl in
    record {
      left = e.left;
      left_image = e.left_image;
      closed = e.no_variable.0;
      equates = record {
        says =
            e.says ∙ ap (equal e.left) (same_image e.right image (sym e.right_image ∙ is));
        stays = stays;
      };
    }

pub one_sorted : (sig : Signature) (a b : ℕ) → HasInjection sig → IsBelow sig.subsorts a b
    → HasSort sig (a ∷ []) (injection a b (variable 0)) b
one_sorted sig a b has below = (has, refl, below, refl)

pub one_respects : (sig : Signature) (a : ℕ) (t : Tree) → IsNormal t → IsTermOf sig t a
    → RespectsSorts sig (a ∷ []) (Some t ∷ [])
one_respects sig a t normal sorted zero u is =
    let same : t ≡ u = same_tree t u is in
    (subst IsNormal same normal, (a, refl, subst (λ (x : Tree). IsTermOf sig x a) same sorted))
one_respects sig a t normal sorted (suc x) u is = absurd (let no : ⊥ = cc in no)

-- ---- an injection of a pattern

pub only_child : (rs : List Record) (q r : Record) → rs ≡ q ∷ [] → slice_get rs 0 ≡ Some r → r ≡ q
only_child rs q r is there =
    let e : Some q ≡ Some r = sym (ap (λ (xs : List Record). slice_get xs 0) is) ∙ there in
    cc

pub beneath_evaluated : (old cx : Context) (theta : List (Option Tree)) (x y : ℕ) (p : RulePattern)
    (t : Tree) (whole head argument : Pattern) (one o : Option Theorem) → HasGrown old cx
    → IsImage old (injection x y (ground_pattern t)) whole → whole ≡ app head argument
    → IsEvaluated cx theta p argument one → IsApplication cx head argument None one o
    → IsEvaluated cx theta (injection x y p) whole o
beneath_evaluated old cx theta x y p t whole head argument one o g image split evaluated is =
    let later : IsImage cx (injection x y (ground_pattern t)) whole =
    image_grown old cx (term (injection x y (ground_pattern t))) whole g image in
    let halves : HasHalves cx x y (ground_pattern t) head argument =
    halves_of cx x y (ground_pattern t) whole head argument later split in
    let over : IsOverContext cx (app head argument) =
    λ s has. subst (λ (q : Pattern). IsOver s q) split
    (has.images (term (injection x y (ground_pattern t))) whole later) in
    record {
      left = app head evaluated.left;
      left_image =
          applied_image cx x y (filled theta p) head evaluated.left halves.is_head
          evaluated.left_image;
      closed = (closed-injection cx.program.sig cx.names x y head halves.is_head, evaluated.closed);
      equates = subst (λ (q : Pattern). Equates cx (app head evaluated.left) q o) (sym split)
          (application cx head head evaluated.left argument None one o (λ s has. (over s has).0)
          (λ s has. (over s has).1) refl evaluated.equates is);
    }

-- a pattern that equals the whole also equals what the whole equals
pub injected_linked : (cx : Context) (p : RulePattern) (whole image : Pattern)
    (first second : Option Theorem) (h : HasEqual cx p whole first) → HasNoVariable whole
    → HasNoVariable image → Equates cx whole image second
    → AreLinked cx h.left whole image first second
injected_linked cx p whole image first second h middle last equates =
    record { closed = (h.closed, (middle, last)); one = h.equates; two = equates }

pub joined_equal : (old cx : Context) (p : RulePattern) (whole image : Pattern)
    (first second o : Option Theorem) → HasGrown old cx → (h : HasEqual old p whole first)
    → AreLinked old h.left whole image first second
    → ((a b c : Pattern) → AreLinked old a b c first second → Equates cx a c o)
    → HasEqual cx p image o
joined_equal old cx p whole image first second o g h linked join =
    record {
      left = h.left;
      left_image = image_grown old cx (term p) h.left g h.left_image;
      closed = h.closed;
      equates = join h.left whole image linked;
    }
