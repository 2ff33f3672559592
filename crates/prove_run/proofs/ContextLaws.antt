-- What stays true of what was written when a context grows, and laws of terms without variables.
use Rattle.std.proofs.Common.{◌≡◌, ℕ, ◌<◌, ◌≤◌, List, [], ◌∷◌, ◌++◌, Some, None, length, zero, suc}
use Rattle.std.proofs.Common.{get_or, inl, inr, sym, ◌∙◌, ap, subst, arith, length-append}
use Rattle.std.proofs.Math.Seq.{get_or-append_seam}
use Rattle.std.specs.Prelude.{slice_get, Contains}
use Rattle.std.proofs.lemmas.List.Elements.{Contains-append_left, Contains-append_right}
use Rattle.ml_pat.specs.Patterns.{Pattern}
use Rattle.ml_kernel.specs.Lemmas.{HasNoVariable}
use Rattle.ml_kernel.specs.Theorems.{Theorem}
use Rattle.term_core.specs.Terms.{Tree, Forest, leaf, node, inj, no_tree, more_trees}
use Rattle.term_core.specs.Patterns.{Pattern as RulePattern, Patterns as RulePatterns, variable}
use Rattle.term_core.specs.Patterns.{domain_value, application, injection, call, no_pattern}
use Rattle.term_core.specs.Patterns.{more_patterns}
use Rattle.term_core.specs.Patterns.{ground_pattern, ground_patterns}
use Rattle.rule_core.specs.Matching.{OccursInSome}
use Rattle.rule_core.specs.Sorting.{HasSort, HaveSorts}
use Rattle.rule_core.specs.ProgramView.{theory_of}
use Rattle.rule_core.specs.declared.signature.Signature.{Signature}
use Rattle.rule_core.specs.declared.signature.SortRef.{SortRef}
use Rattle.rule_core.specs.declared.rules.Program.{Program}
use Rattle.ml_image.specs.Images.{image_of}
use Rattle.ml_image.specs.HasImages.{HasImage, HaveImages}
use Rattle.mm_claims.specs.Keeping.{Fits}
use Rattle.mm_claims.proofs.LaterLaws.{fits_later}
use Rattle.mm_justify.specs.Justifying.{HasOnlyAxiomsOf}
use Rattle.prove_term.specs.Contexts.{Context, HasGrown}
use Rattle.prove_schema.proofs.OpenLaws.{IsOpenFrom, open_no_variable, open_closed, image_is_open}
use Rattle.proof_writer.specs.declared.writer.Writer.{Writer}
use Rattle.proof_writer.specs.Writing.{HasNoVariables, HasWritten, IsTextOf}

-- ---- growing contexts

there_later : {A : Type 0} (xs more ys : List A) (i : ℕ) (x : A) → ys ≡ xs ++ more → i < length xs
    → slice_get ys i ≡ Some x → slice_get xs i ≡ Some x
there_later {A} xs more ys i x is few at =
    go xs i few (subst (λ (l : List A). slice_get l i ≡ Some x) is at)
  where
    go : (zs : List A) (j : ℕ) → j < length zs → slice_get (zs ++ more) j ≡ Some x
        → slice_get zs j ≡ Some x
    go [] j k h = absurd (omega (arith, k))
    go (z ∷ zs) zero k h = h
    go (z ∷ zs) (suc j) k h = go zs j (omega (arith, k)) h

length_later : {A : Type 0} (xs more ys : List A) → ys ≡ xs ++ more → length xs ≤ length ys
length_later {A} xs more ys is =
    subst (λ (l : List A). length xs ≤ length l) (sym is) (omega (arith, length-append xs more))

pub written_grown : (old new : Context) (w : Writer) → HasWritten w old → HasGrown old new
    → HasWritten w new
written_grown old new w h g =
    let names : length old.names ≤ length new.names =
    length_later old.names g.names.gained new.names g.names.all in
    let axioms : length old.axioms ≤ length new.axioms =
    length_later old.axioms g.axioms new.axioms g.more_axioms in
    let lemmas : length old.lemmas ≤ length new.lemmas =
    length_later old.lemmas g.lemmas new.lemmas g.more_lemmas in
    record {
      begun = h.begun;
      named = omega (arith, h.named, names);
      few_axioms = omega (arith, h.few_axioms, axioms);
      few_lemmas = omega (arith, h.few_lemmas, lemmas);
      axioms =
          λ i p few at. h.axioms i p few (there_later old.axioms g.axioms new.axioms i p
          g.more_axioms (omega (arith, few, h.few_axioms)) at);
      lemmas =
          λ i t few at. h.lemmas i t few (there_later old.lemmas g.lemmas new.lemmas i t
          g.more_lemmas (omega (arith, few, h.few_lemmas)) at);
    }

pub text_grown : (old new : Context) (w : Writer) (text : List ℕ)
    → w.renderer.named ≤ length old.names → HasGrown old new → IsTextOf old w text
    → IsTextOf new w text
text_grown old new w text few g h = record {
  fits =
      subst (λ (names : List (List ℕ)). Fits names w.renderer text) (sym g.names.all)
      (fits_later old.names g.names.gained w.renderer text few h.fits);
  only = subst (λ (p : Program). HasOnlyAxiomsOf (theory_of p) text) (sym g.program) h.only;
  counts = h.counts;
}

pub lemma_grown : (old new : Context) (t : Theorem) → HasGrown old new → Contains old.lemmas t
    → Contains new.lemmas t
lemma_grown old new t g there =
    subst (λ (ts : List Theorem). Contains ts t) (sym g.more_lemmas)
    (Contains-append_left old.lemmas g.lemmas t there)

-- the last kept lemma is the one that was added
pub last_lemma : (old new : Context) (t lemma shared : Theorem) (place : ℕ)
    → new ≡ record old { lemmas = old.lemmas ++ t ∷ [] } → place ≡ length old.lemmas
    → lemma ≡ get_or new.lemmas place lemma → shared ≡ lemma → shared ≡ t
last_lemma old new t lemma shared place is at found same =
    same ∙ found ∙ ap (λ (cx : Context). get_or cx.lemmas place lemma) is
    ∙ ap (λ (i : ℕ). get_or (old.lemmas ++ t ∷ []) i lemma) at
    ∙ get_or-append_seam old.lemmas t [] lemma

-- it is there
pub kept_lemma : (old new : Context) (t lemma : Theorem)
    → new ≡ record old { lemmas = old.lemmas ++ t ∷ [] } → lemma ≡ t → Contains new.lemmas lemma
kept_lemma old new t lemma is same =
    subst (λ (cx : Context). Contains cx.lemmas lemma) (sym is)
    (Contains-append_right old.lemmas (t ∷ []) lemma (zero, omega arith, sym same))

-- ---- terms without variables

mutual
  pub ground_has_none : (t : Tree) → HasNoVariables (ground_pattern t)
  ground_has_none (leaf s v) x h = h
  ground_has_none (node f ts) x h = ground_have_none ts x h
  ground_has_none (inj a b t) x h = ground_has_none t x h

  ground_have_none : (ts : Forest) (x : ℕ) → OccursInSome x (ground_patterns ts) → ⊥
  ground_have_none no_tree x h = h
  ground_have_none (more_trees t ts) x (inl h) = ground_has_none t x h
  ground_have_none (more_trees t ts) x (inr h) = ground_have_none ts x h

-- ---- initial terms

-- the image of a pattern without variables has no object variable
pub image_is_closed : (sig : Signature) (names : List (List ℕ)) (p : RulePattern) (q : Pattern)
    → HasImage sig 0 p → image_of sig names p ≡ Some q → HasNoVariable q
image_is_closed sig names p q has is =
    let is_open : IsOpenFrom 0 0 q = image_is_open sig names 0 p has q is in
    subst HasNoVariable (open_closed 0 q is_open) (open_no_variable 0 0 q is_open)

none_some : {A : Type 0} (x : A) → None ≡ Some x → ⊥
none_some x h = cc

-- a pattern that has a sort without variables has no variables
mutual
  pub sorted_has_none : (sig : Signature) (p : RulePattern) (sort : ℕ) → HasSort sig [] p sort
      → HasNoVariables p
  sorted_has_none sig (variable x) sort h y k = none_some sort h
  sorted_has_none sig (domain_value s v) sort h y k = k
  sorted_has_none sig (application f ps) sort h y k =
      sorted_have_none sig [] ps h.0.args.items h.4 y k
  sorted_has_none sig (injection a b p) sort h y k = sorted_has_none sig p a h.3 y k
  sorted_has_none sig (call f ss ps) sort h y k = sorted_have_none sig ss ps h.0.args.items h.6 y k

  sorted_have_none : (sig : Signature) (sorts : List ℕ) (ps : RulePatterns) (refs : List SortRef)
      → HaveSorts sig [] sorts ps refs → (x : ℕ) → OccursInSome x ps → ⊥
  sorted_have_none sig sorts no_pattern [] h x k = k
  sorted_have_none sig sorts no_pattern (r ∷ refs) h x k = k
  sorted_have_none sig sorts (more_patterns p ps) [] h x k = h
  sorted_have_none sig sorts (more_patterns p ps) (r ∷ refs) h x (inl k) =
      sorted_has_none sig p h.0 h.2 x k
  sorted_have_none sig sorts (more_patterns p ps) (r ∷ refs) h x (inr k) =
      sorted_have_none sig sorts ps refs h.3 x k

-- an image without variables is an image for any number of variables
mutual
  pub image_wherever : (sig : Signature) (n : ℕ) (p : RulePattern) → HasImage sig 0 p
      → HasImage sig n p
  image_wherever sig n (variable x) h = absurd (omega (arith, h))
  image_wherever sig n (domain_value s v) h = h
  image_wherever sig n (application f ps) h = (h.0, images_wherever sig n ps h.1)
  image_wherever sig n (injection a b p) h = (h.0, h.1, image_wherever sig n p h.2)
  image_wherever sig n (call f ss ps) h = (h.0, h.1, images_wherever sig n ps h.2)

  images_wherever : (sig : Signature) (n : ℕ) (ps : RulePatterns) → HaveImages sig 0 ps
      → HaveImages sig n ps
  images_wherever sig n no_pattern h = tt
  images_wherever sig n (more_patterns p ps) h =
      (image_wherever sig n p h.0, images_wherever sig n ps h.1)
