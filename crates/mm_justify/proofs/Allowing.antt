-- Texts that gain allowed assertions, and what stays true when names and statements are added.
use Rattle.std.proofs.Common.{◌≡◌, ℕ, Bool, true, false, List, [], ◌∷◌, ◌++◌, map, length}
use Rattle.std.proofs.Common.{take, drop, zero, suc, refl, ap, sym, ◌∙◌, subst}
use Rattle.ml_pat.specs.Named.{AreDistinct, IsNoneOf}
use Rattle.mm_claims.specs.Fitting.{AreNames}
use Rattle.std.proofs.lemmas.Bool.{false≢true}
use Rattle.std.proofs.Math.Seq.{drop-append_seam}
use Rattle.mm_text.specs.Bytes.{Token}
use Rattle.mm_database.specs.Assertions.{Assertion, assertions_of, typings_of}
use Rattle.mm_database.specs.Frames.{Hypothesis, floating, essential}
use Rattle.mm_database.specs.Validity.{IsValid}
use Rattle.mm_database.proofs.Faults.{faultless_valid}
use Rattle.ml_pat.specs.Patterns.{Pattern, imp, ev}
use Rattle.rule_core.specs.Theories.{RewriteTheory}
use Rattle.ml_pat.specs.Leaves.{EachLeaf}
use Rattle.mm_claims.specs.Rendered.{Rendered, all_stated}
use Rattle.mm_claims.specs.OverNames.{closed_over}
use Rattle.mm_claims.specs.Variables.{Variable, object_variable, pattern_variable}
use Rattle.mm_claims.specs.Blocks.{Claim, variable_float, open_frame, open_assertion}
use Rattle.mm_claims.specs.Claiming.{GainsExactly}
use Rattle.mm_claims.specs.ClaimVariables.{claim_of, claim_variables}
use Rattle.mm_claims.specs.Keeping.{FitsWhen, Fits, Gains}
use Rattle.mm_claims.specs.Places.{lemma_statements}
use Rattle.mm_justify.specs.Stating.{holds_text}
use Rattle.mm_justify.specs.Justifying.{assumption_of, AreAllowed, AreTypings, HasOnlyAxiomsOf}
use Rattle.mm_justify.specs.Justifying.{Justifies}
use Rattle.mm_justify.specs.JustifyingLaws.{AxiomHasOnly, TheoremHasOnly, TheoremFitsAnywhere}
use Rattle.mm_justify.specs.JustifyingLaws.{TheoremJustifies, RunIsJustified}
use Rattle.mm_justify.proofs.ImageLeaves.{sentence_has_no_meta}
use Rattle.mm_justify.proofs.StatedFrames.{claim_says_no_more, all_names}
use Rattle.mm_claims.proofs.OpenFits.{claims_are_valid}
use Rattle.mm_claims.proofs.ClosedPatterns.{closed_frame_has_none}
use Rattle.mm_database.specs.StatementTexts.{written_statements}

-- Texts that gain allowed assertions.

AreAllowed-append : (theory : RewriteTheory) (xs ys : List Assertion) → AreAllowed theory xs
    → AreAllowed theory ys → AreAllowed theory (xs ++ ys)
AreAllowed-append theory [] ys h k = k
AreAllowed-append theory (x ∷ xs) ys h k = (h.0, AreAllowed-append theory xs ys h.1 k)

AreTypings-append : (xs ys : List Hypothesis) → AreTypings xs → AreTypings ys
    → AreTypings (xs ++ ys)
AreTypings-append [] ys h k = k
AreTypings-append (floating label typecode variable ∷ xs) ys h k =
    (h.0, AreTypings-append xs ys h.1 k)
AreTypings-append (essential label statement ∷ xs) ys h k = absurd h

-- a text that gains allowed assertions and typings
pub has_only_more : (theory : RewriteTheory) (bytes appended : List ℕ) (assertions : List Assertion)
    (typings : List Hypothesis) → HasOnlyAxiomsOf theory bytes → AreAllowed theory assertions
    → AreTypings typings → assertions_of (bytes ++ appended) ≡ assertions_of bytes ++ assertions
    → typings_of (bytes ++ appended) ≡ typings_of bytes ++ typings
    → HasOnlyAxiomsOf theory (bytes ++ appended)
has_only_more theory bytes appended assertions typings only allowed typed gained gained_typings = record {
  axioms =
      subst (AreAllowed theory) (sym gained)
      (AreAllowed-append theory (assertions_of bytes) assertions only.axioms allowed);
  types =
      subst AreTypings (sym gained_typings)
      (AreTypings-append (typings_of bytes) typings only.types typed);
}

-- each variable of a block has one of these types
floats_typed : (k : ℕ) (vs : List Variable) → AreTypings (map (variable_float k) vs)
floats_typed k [] = tt
floats_typed k (object_variable i ∷ vs) = (refl, floats_typed k vs)
floats_typed k (pattern_variable i ∷ vs) = (refl, floats_typed k vs)

-- a text that gains exactly one allowed assertion
pub has_only_just : (theory : RewriteTheory) (bytes appended : List ℕ) (k : ℕ) (vs : List Variable)
    (a : Assertion) → HasOnlyAxiomsOf theory bytes → AreAllowed theory (a ∷ [])
    → GainsExactly bytes appended k vs a → HasOnlyAxiomsOf theory (bytes ++ appended)
has_only_just theory bytes appended k vs a only allowed just =
    has_only_more theory bytes appended (a ∷ []) (map (variable_float k) vs) only allowed
    (floats_typed k vs) just.assertions just.typings

pub axiom_has_only : AxiomHasOnly
axiom_has_only theory names old new s p bytes appended assumed image gains fits only =
    let declared : List Token = take old.named names in
    has_only_just theory bytes appended old.count (claim_variables [] p)
    (open_assertion false declared old.count (claim_of [] p)) only (
      λ is. assumption_of declared s p assumed image (claim_says_no_more declared old.count p
          (sentence_has_no_meta theory.sig declared s p image)),
      tt,
    )
    (gains.just bytes fits)

theorem_behind : (theory : RewriteTheory) (names : List Token) (old new : Rendered) (s : Claim)
    (vs : List Variable) (text appended : List ℕ)
    → Gains names old new appended vs (open_assertion true (take old.named names) old.count s)
    → Fits names old text → HasOnlyAxiomsOf theory text → HasOnlyAxiomsOf theory (text ++ appended)
theorem_behind theory names old new s vs text appended gains fits only =
    has_only_just theory text appended old.count vs
    (open_assertion true (take old.named names) old.count s) only
    (λ never. absurd (false≢true (sym never)), tt) (gains.just text fits)

-- what was appended to a buffer
pub same_appended : (buffer xs ys : List ℕ) → buffer ++ xs ≡ buffer ++ ys → xs ≡ ys
same_appended buffer xs ys same =
    sym (drop-append_seam buffer xs) ∙ ap (drop (length buffer)) same ∙ drop-append_seam buffer ys

pub theorem_has_only : TheoremHasOnly
theorem_has_only theory names old new t buffer buffer' text appended states is may fits only =
    let written : List ℕ =
    written_statements (lemma_statements names old.count t states.more states.proof) in
    let same : written_statements
    (lemma_statements names old.count t states.more states.proof) ≡ appended =
    same_appended buffer written appended (sym states.appended ∙ is) in
    subst (λ (bytes : List ℕ). HasOnlyAxiomsOf theory (text ++ bytes)) same
    (theorem_behind theory names old new (claim_of t.hypotheses t.conclusion)
    (claim_variables t.hypotheses t.conclusion ++ states.more) text written
    (states.gains may) fits only)

pub theorem_fits_anywhere : TheoremFitsAnywhere
theorem_fits_anywhere names old new t buffer buffer' text appended states is may fits =
    let written : List ℕ =
    written_statements (lemma_statements names old.count t states.more states.proof) in
    let same : written_statements
    (lemma_statements names old.count t states.more states.proof) ≡ appended =
    same_appended buffer written appended (sym states.appended ∙ is) in
    subst (λ (bytes : List ℕ). Fits names new (text ++ bytes)) same
    ((states.gains may).fits text fits)

-- a text that fits is valid
fits_valid : (names : List Token) (k : Rendered) (bytes : List ℕ) → Fits names k bytes
    → IsValid bytes
fits_valid names k bytes fits = go k.begun fits
  where
    go : (b : Bool) → FitsWhen b (take k.named names) k.count (all_stated k) bytes → IsValid bytes
    go false empty = subst IsValid (sym empty) (faultless_valid [] refl)
    go true fit = claims_are_valid (take k.named names) fit.claims bytes fit.fits

IsNoneOf-take : (n : ℕ) (t : Token) (ts : List Token) → IsNoneOf t ts → IsNoneOf t (take n ts)
IsNoneOf-take zero t ts h = tt
IsNoneOf-take (suc n) t [] h = tt
IsNoneOf-take (suc n) t (u ∷ ts) h = (h.0, IsNoneOf-take n t ts h.1)

AreDistinct-take : (n : ℕ) (ts : List Token) → AreDistinct ts → AreDistinct (take n ts)
AreDistinct-take zero ts h = tt
AreDistinct-take (suc n) [] h = tt
AreDistinct-take (suc n) (t ∷ ts) h = (IsNoneOf-take n t ts h.0, AreDistinct-take n ts h.1)

AreNames-take : (n : ℕ) (ts : List Token) → AreNames ts → AreNames (take n ts)
AreNames-take zero ts h = tt
AreNames-take (suc n) [] h = tt
AreNames-take (suc n) (t ∷ ts) h = (h.0, AreNames-take n ts h.1)

justifies_behind : (theory : RewriteTheory) (names : List Token) (old new : Rendered) (c : Pattern)
    (vs : List Variable) (text appended : List ℕ) (a b : Pattern)
    → Gains names old new appended vs
    (open_assertion true (take old.named names) old.count (claim_of [] c))
    → EachLeaf (closed_over (take old.named names)) (imp a (ev b)) → Fits names old text
    → HasOnlyAxiomsOf theory text → AreNames names → AreDistinct names → c ≡ imp a (ev b)
    → Justifies (text ++ appended) theory (take old.named names) a b
justifies_behind theory names old new c vs text appended a b gains closed fits only tokens distinct
    concludes = record {
      valid = fits_valid names new (text ++ appended) (gains.fits text fits);
      only = theorem_behind theory names old new (claim_of [] c) vs text appended gains fits only;
      before = assertions_of text;
      last = open_frame (take old.named names) old.count (claim_of [] c);
      assertions = (gains.just text fits).assertions;
      no_hypotheses =
          closed_frame_has_none (take old.named names) old.count c
          (subst (EachLeaf (closed_over (take old.named names))) (sym concludes) closed);
      are_names = all_names (take old.named names) (AreNames-take old.named names tokens);
      distinct = AreDistinct-take old.named names distinct;
      closed = closed;
      says = ap (holds_text (take old.named names)) concludes;
    }

pub theorem_justifies : TheoremJustifies
theorem_justifies theory names old new t buffer buffer' text appended a b states is may fits only
    tokens distinct none concludes closed =
    let written : List ℕ =
    written_statements (lemma_statements names old.count t states.more states.proof) in
    let same : written_statements
    (lemma_statements names old.count t states.more states.proof) ≡ appended =
    same_appended buffer written appended (sym states.appended ∙ is) in
    let vs : List Variable =
    claim_variables t.hypotheses t.conclusion ++ states.more in
    subst (λ (bytes : List ℕ). Justifies (text ++ bytes) theory (take old.named names) a b) same
    (justifies_behind theory names old new t.conclusion vs text written a b
    (subst (λ (hs : List Pattern). Gains names old new written vs
    (open_assertion true (take old.named names) old.count (claim_of hs t.conclusion)))
    none (states.gains may)) closed fits only tokens distinct concludes)

pub run_is_justified : RunIsJustified
run_is_justified theory names bytes start end a b from to justifies = record {
  names = names;
  from = a;
  to = b;
  from_image = from;
  to_image = to;
  justifies = justifies;
}
