-- A growing text keeps its assertions, and has the lemmas of a context as theorems.
use Rattle.std.proofs.Common.{◌≡◌, ℕ, ◌<◌, ◌≤◌, ◌+◌, true, List, [], ◌∷◌, ◌++◌, Some, length, take}
use Rattle.std.proofs.Common.{◌⊎◌, inl, inr, refl, ap, ◌∙◌, sym, subst, arith}
use Rattle.std.specs.Prelude.{slice_get, Contains, Result, Ok, Err, OnOk}
use Rattle.std.proofs.lemmas.Bool.{cases_lt}
use Rattle.std.proofs.lemmas.Option.{slice_get_within}
use Rattle.std.proofs.lemmas.List.{append_assoc, append_cancel_left}
use Rattle.std.proofs.lemmas.List.Elements.{Contains-append_left, Contains-append_right}
use Rattle.mm_text.specs.Bytes.{Token}
use Rattle.mm_database.specs.Assertions.{Assertion, assertions_of}
use Rattle.mm_database.specs.StatementTexts.{written_statements}
use Rattle.ml_kernel.specs.Theorems.{Theorem}
use Rattle.mm_claims.specs.Rendered.{Rendered}
use Rattle.mm_claims.specs.Blocks.{open_assertion}
use Rattle.mm_claims.specs.ClaimVariables.{claim_of}
use Rattle.mm_claims.specs.Keeping.{Fits}
use Rattle.mm_claims.specs.Places.{MayProve, StatesLemma, lemma_statements}
use Rattle.prove_term.specs.Contexts.{Context}
use Rattle.proof_writer.specs.declared.writer.Writer.{Writer}
use Rattle.proof_writer.specs.Writing.{Adds}
use Rattle.proof_writer.specs.StatedTheorems.{IsTheoremOf, KeepsAssertions, StatesNewLemmas}
use Rattle.proof_writer.specs.WritingOn.{StatesLemmaAt, StatesLemmasBefore, StatesTheorem}

pub on_both : {T E : Type 0} {P Q R : Type 0} (r : Result T E) → (P → Q → R) → OnOk r P → OnOk r Q
    → OnOk r R
on_both (Ok x) f p q = f p q
on_both (Err e) f p q = tt

-- ---- one theorem

-- the assertion that a theorem makes under a number
abbrev said : List Token → ℕ → Theorem → Assertion
said names k t = open_assertion true names k (claim_of t.hypotheses t.conclusion)

-- the text gains this assertion after all that it had
gained : (names : List Token) (old new : Rendered) (t : Theorem) (before after added text : List ℕ)
    → StatesLemma names old new t before after → MayProve names old t → after ≡ before ++ added
    → Fits names old text
    → assertions_of (text ++ added)
    ≡ assertions_of text ++ said (take old.named names) old.count t ∷ []
gained names old new t before after added text states may is fits =
    subst (λ (l : List ℕ). assertions_of (text ++ l)
    ≡ assertions_of text ++ said (take old.named names) old.count t ∷ [])
    (append_cancel_left before
    (written_statements (lemma_statements names old.count t states.more states.proof)) added
    (sym states.appended ∙ is))
    ((states.gains may).just text fits).assertions

pub states_theorem : (cx : Context) (w : Writer) (new : Rendered) (t : Theorem)
    (before after : List ℕ) → take w.renderer.named cx.names ≡ cx.names
    → StatesLemma cx.names w.renderer new t before after → MayProve cx.names w.renderer t
    → StatesTheorem cx w t before after
states_theorem cx w new t before after back states may added text is h =
    let s : Assertion = said (take w.renderer.named cx.names) w.renderer.count t in (
      w.renderer.count,
      subst (λ (names : List Token).
          Contains (assertions_of (text ++ added)) (said names w.renderer.count t)) back
          (subst (λ (l : List Assertion). Contains l s)
          (sym (gained cx.names w.renderer new t before after added text states may is h.fits))
          (Contains-append_right (assertions_of text) (s ∷ []) s (0, omega arith, refl))),
    )

pub keeps_assertions : (cx : Context) (w : Writer) (new : Rendered) (t : Theorem)
    (before after : List ℕ) → StatesLemma cx.names w.renderer new t before after
    → MayProve cx.names w.renderer t → KeepsAssertions cx w before after
keeps_assertions cx w new t before after states may added text is h a there =
    subst (λ (l : List Assertion). Contains l a)
    (sym (gained cx.names w.renderer new t before after added text states may is h.fits))
    (Contains-append_left (assertions_of text)
    (said (take w.renderer.named cx.names) w.renderer.count t ∷ []) a there)

some_same : {A : Type 0} (a b : A) → Some a ≡ Some b → a ≡ b
some_same a b k = cc

-- the theorem that was stated is the lemma at this place
pub states_lemma : (cx : Context) (w : Writer) (place : ℕ) (t : Theorem) (before after : List ℕ)
    → slice_get cx.lemmas place ≡ Some t → StatesTheorem cx w t before after
    → StatesLemmaAt place cx w before after
states_lemma cx w place t before after at states u there =
    subst (λ (v : Theorem). StatesTheorem cx w v before after)
    (some_same t u (sym at ∙ there)) states

-- ---- successive calls

-- what two calls appended
appended : (x y z m n added : List ℕ) → y ≡ x ++ m → z ≡ y ++ n → z ≡ x ++ added → m ++ n ≡ added
appended x y z m n added is is' whole =
    append_cancel_left x (m ++ n) added
    (sym (append_assoc x m n) ∙ ap (λ (l : List ℕ). l ++ n) (sym is) ∙ sym is' ∙ whole)

in_whole : (names : List Token) (t : Theorem) (text m n added : List ℕ) → m ++ n ≡ added
    → IsTheoremOf names ((text ++ m) ++ n) t → IsTheoremOf names (text ++ added) t
in_whole names t text m n added same is =
    subst (λ (l : List ℕ). IsTheoremOf names l t)
    (append_assoc text m n ∙ ap (λ (l : List ℕ). text ++ l) same) is

pub lemmas_none : (cx : Context) (w : Writer) (x : List ℕ) → StatesLemmasBefore w.lemmas cx w x x
lemmas_none cx w x place from to = absurd (omega (arith, from, to))

-- one more lemma
pub lemmas_then : (cx : Context) (a b c : Writer) (place : ℕ) (x y z : List ℕ) → Adds cx a b x y
    → Adds cx b c y z → StatesLemmasBefore place cx a x y → StatesLemmaAt place cx b y z
    → KeepsAssertions cx b y z → StatesLemmasBefore (place + 1) cx a x z
lemmas_then cx a b c place x y z (m, is, f) (n, is', g) before here keeps i from to t at added text
    whole h =
    in_whole cx.names t text m n added (appended x y z m n added is is' whole)
    (by_case (cases_lt i place))
  where
    kept : IsTheoremOf cx.names (text ++ m) t → IsTheoremOf cx.names ((text ++ m) ++ n) t
    kept (k, there) = (k, keeps n (text ++ m) is' (f text h) (said cx.names k t) there)

    by_case : (i < place) ⊎ (place ≤ i) → IsTheoremOf cx.names ((text ++ m) ++ n) t
    by_case (inl k) = kept (before i from k t at m text is h)
    by_case (inr k) =
        let same : i ≡ place = omega (arith, to, k) in
        here t (subst (λ (j : ℕ). slice_get cx.lemmas j ≡ Some t) same at) n (text ++ m) is'
        (f text h)

pub all_lemmas : (cx : Context) (a : Writer) (end : ℕ) (x z : List ℕ) → length cx.lemmas ≤ end
    → StatesLemmasBefore end cx a x z → StatesNewLemmas cx a x z
all_lemmas cx a end x z all states added text is h i t from at =
    states i from (omega (arith, all, slice_get_within cx.lemmas i t at)) t at added text is h

-- other statements come before the lemmas
pub lemmas_after : (cx : Context) (a b c : Writer) (x y z : List ℕ) → b.lemmas ≡ a.lemmas
    → Adds cx a b x y → Adds cx b c y z → StatesNewLemmas cx b y z → StatesNewLemmas cx a x z
lemmas_after cx a b c x y z same (m, is, f) (n, is', g) states added text whole h i t from at =
    in_whole cx.names t text m n added (appended x y z m n added is is' whole)
    (states n (text ++ m) is' (f text h) i t (omega (arith, same, from)) at)

-- another theorem comes after the lemmas
pub lemmas_kept : (cx : Context) (a b c : Writer) (x y z : List ℕ) → Adds cx a b x y
    → Adds cx b c y z → StatesNewLemmas cx a x y → KeepsAssertions cx b y z
    → StatesNewLemmas cx a x z
lemmas_kept cx a b c x y z (m, is, f) (n, is', g) states keeps added text whole h i t from at =
    in_whole cx.names t text m n added (appended x y z m n added is is' whole)
    (kept (states m text is h i t from at))
  where
    kept : IsTheoremOf cx.names (text ++ m) t → IsTheoremOf cx.names ((text ++ m) ++ n) t
    kept (k, there) = (k, keeps n (text ++ m) is' (f text h) (said cx.names k t) there)
