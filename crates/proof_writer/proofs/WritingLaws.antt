-- What stays true while a context is written.
use Rattle.std.proofs.Common.{◌≡◌, ℕ, ◌<◌, ◌≤◌, List, [], ◌∷◌, ◌++◌, Some, length, take, zero, suc}
use Rattle.std.proofs.Common.{◌+◌, ◌⊎◌, inl, inr, ap, ◌∙◌, sym, subst, arith}
use Rattle.std.specs.Prelude.{get_or, slice_get, Contains, Result, Ok, Err, OnOk}
use Rattle.std.proofs.lemmas.Bool.{cases_lt}
use Rattle.std.proofs.lemmas.Option.{slice_get_within, slice_get-get_or}
use Rattle.std.proofs.lemmas.List.{append-nil, append_assoc}
use Rattle.std.proofs.lemmas.List.Elements.{Contains-append_cases, Contains-append_left}
use Rattle.std.proofs.lemmas.List.Elements.{Contains-append_right}
use Rattle.ml_pat.specs.Patterns.{Pattern, bot}
use Rattle.ml_kernel.specs.Theorems.{Theorem}
use Rattle.ml_derived.specs.Scopes.{IsWithin}
use Rattle.mm_claims.specs.Rendered.{Rendered, all_stated, header_rendered}
use Rattle.mm_claims.specs.Places.{IsStated, MayProve}
use Rattle.mm_claims.specs.Blocks.{Claim, Stated}
use Rattle.mm_claims.specs.Keeping.{Fits, axiom_at, with_last, with_stated}
use Rattle.mm_claims.specs.LaterLaws.{LastIsStated, StatedStays}
use Rattle.mm_justify.specs.ImageLaws.{SentenceIsOver}
use Rattle.rule_core.specs.declared.rules.Program.{Program}
use Rattle.prove_term.specs.Contexts.{Context, IsContext, new_context}
use Rattle.proof_writer.specs.declared.writer.Writer.{Writer}
use Rattle.proof_writer.specs.Writing.{HasWritten, HasWrittenAll, IsTextOf, Adds, Keeps, MayFollow}
use Rattle.proof_writer.specs.WritingOn.{WritesOn}
use Rattle.proof_writer.proofs.ScopeLaws.{scope_of, may_be_cited, may_prove, assumes_nothing}
use Rattle.proof_writer.proofs.ScopeLaws.{has_context, has_stated}

pub on_one : {T E : Type 0} {P Q : Type 0} (r : Result T E) → (P → Q) → OnOk r P → OnOk r Q
on_one (Ok x) f p = f p
on_one (Err e) f p = tt

-- bytes that were appended one call after another
pub adds_then : (cx : Context) (a b c : Writer) (x y z : List ℕ) → Adds cx a b x y → Adds cx b c y z
    → Adds cx a c x z
adds_then cx a b c x y z (m, is, f) (n, is', g) = (
  m ++ n,
  is' ∙ ap (λ (l : List ℕ). l ++ n) is ∙ append_assoc x m n,
  λ text t. subst (IsTextOf cx c) (append_assoc text m n) (g (text ++ m) (f text t)),
)

pub adds_none : (cx : Context) (a : Writer) (x : List ℕ) → Adds cx a a x x
adds_none cx a x =
    ([], sym (append-nil x), λ text t. subst (IsTextOf cx a) (sym (append-nil text)) t)

-- a text of one writer is a text of another writer that has the same counts and keeps the same
pub adds_same : (cx : Context) (a b c : Writer) (x y : List ℕ) → c.renderer ≡ b.renderer
    → c.facts ≡ b.facts → c.statements ≡ b.statements → Adds cx a b x y → Adds cx a c x y
adds_same cx a b c x y kept facts statements (m, is, f) = (
  m,
  is,
  λ text t.
      let h = f text t in
      record {
        fits = subst (λ (k : Rendered). Fits cx.names k (text ++ m)) (sym kept) h.fits;
        only = h.only;
        counts = record {
          facts_are = facts ∙ h.counts.facts_are;
          statements_are = statements ∙ h.counts.statements_are;
        };
      },
)

-- ---- successive calls

pub writes_none : (cx : Context) (w : Writer) (x : List ℕ) → HasWritten w cx
    → w.renderer.named ≡ length cx.names → WritesOn cx w w x x
writes_none cx w x written named = record {
  written = written;
  named = named;
  keeps = λ hs q h. h;
  text = adds_none cx w x;
}

pub writes_then : (cx : Context) (a b c : Writer) (x y z : List ℕ) → WritesOn cx a b x y
    → WritesOn cx b c y z → WritesOn cx a c x z
writes_then cx a b c x y z first next = record {
  written = next.written;
  named = next.named;
  keeps = λ hs q h. next.keeps hs q (first.keeps hs q h);
  text = adds_then cx a b c x y z first.text next.text;
}

-- an item of a list is at some place
pub place_of : {A : Type 0} (xs : List A) (x : A) → Contains xs x
    → (i : ℕ) × (i < length xs) × (slice_get xs i ≡ Some x)
place_of {A} xs x (i, within, is) =
    (i, within, slice_get-get_or xs i x within ∙ ap (λ (y : A). Some y) is)

taken : {A : Type 0} (n : ℕ) (xs : List A) (i : ℕ) (x : A) → slice_get (take n xs) i ≡ Some x
    → (i < n) × (slice_get xs i ≡ Some x)
taken zero xs i x h = absurd (cc)
taken (suc n) [] i x h = absurd (cc)
taken (suc n) (y ∷ xs) zero x h = (omega arith, h)
taken (suc n) (y ∷ xs) (suc i) x h = let rest = taken n xs i x h in (omega (arith, rest.0), rest.1)

pub place_in_first : {A : Type 0} (n : ℕ) (xs : List A) (x : A) → Contains (take n xs) x
    → (i : ℕ) × (i < n) × (slice_get xs i ≡ Some x)
place_in_first {A} n xs x h =
    let at = place_of (take n xs) x h in
    let there = taken n xs at.0 x at.2 in
    (at.0, there.0, there.1)

-- what was written of a context stays written when the renderer keeps more
pub written_more : (cx : Context) (w new : Writer) → HasWritten w cx
    → new.renderer.begun ≡ w.renderer.begun → new.renderer.named ≤ length cx.names
    → new.axioms ≡ w.axioms → new.lemmas ≡ w.lemmas
    → ((hs : List Pattern) (q : Pattern) → IsStated w.renderer.stated hs q
    → IsStated new.renderer.stated hs q) → HasWritten new cx
written_more cx w new h begun named axioms lemmas stays = record {
  begun = begun ∙ h.begun;
  named = named;
  few_axioms = omega (arith, axioms, h.few_axioms);
  few_lemmas = omega (arith, lemmas, h.few_lemmas);
  axioms = λ i p few there. stays [] p (h.axioms i p (omega (arith, axioms, few)) there);
  lemmas =
      λ i t few there.
      stays t.hypotheses t.conclusion (h.lemmas i t (omega (arith, lemmas, few)) there);
}

-- The same with the next axiom or lemma: what is known of each of the first n is known of one more.

one_more : {A : Type 0} (P : A → Type 0) (xs : List A) (n : ℕ) (x : A) → slice_get xs n ≡ Some x
    → P x → ((i : ℕ) (y : A) → i < n → slice_get xs i ≡ Some y → P y) → (i : ℕ) (y : A) → i < n + 1
    → slice_get xs i ≡ Some y → P y
one_more {A} P xs n x there has before i y few at = by_case (cases_lt i n)
  where
    some_same : (a b : A) → Some a ≡ Some b → a ≡ b
    some_same a b k = cc

    by_case : (i < n) ⊎ (n ≤ i) → P y
    by_case (inl k) = before i y k at
    by_case (inr k) =
        let is : i ≡ n = omega (arith, few, k) in
        subst P (some_same x y (sym there ∙ subst (λ (j : ℕ). slice_get xs j ≡ Some y) is at)) has

pub written_axiom : (cx : Context) (w new : Writer) (p : Pattern) → HasWritten w cx
    → slice_get cx.axioms w.axioms ≡ Some p → new.renderer.begun ≡ w.renderer.begun
    → new.renderer.named ≤ length cx.names → new.axioms ≡ w.axioms + 1 → new.lemmas ≡ w.lemmas
    → ((hs : List Pattern) (q : Pattern) → IsStated w.renderer.stated hs q
    → IsStated new.renderer.stated hs q) → IsStated new.renderer.stated [] p → HasWritten new cx
written_axiom cx w new p h there begun named one lemmas stays last = record {
  begun = begun ∙ h.begun;
  named = named;
  few_axioms = omega (arith, one, slice_get_within cx.axioms w.axioms p there);
  few_lemmas = omega (arith, lemmas, h.few_lemmas);
  axioms = λ i q few at.
      one_more (λ (r : Pattern). IsStated new.renderer.stated [] r) cx.axioms w.axioms p there last
      (λ j r k is. stays [] r (h.axioms j r k is)) i q (subst (λ (n : ℕ). i < n) one few) at;
  lemmas =
      λ i t few at. stays t.hypotheses t.conclusion (h.lemmas i t (omega (arith, lemmas, few)) at);
}

pub written_lemma : (cx : Context) (w new : Writer) (t : Theorem) → HasWritten w cx
    → slice_get cx.lemmas w.lemmas ≡ Some t → new.renderer.begun ≡ w.renderer.begun
    → new.renderer.named ≤ length cx.names → new.axioms ≡ w.axioms → new.lemmas ≡ w.lemmas + 1
    → ((hs : List Pattern) (q : Pattern) → IsStated w.renderer.stated hs q
    → IsStated new.renderer.stated hs q)
    → IsStated new.renderer.stated t.hypotheses t.conclusion → HasWritten new cx
written_lemma cx w new t h there begun named axioms one stays last = record {
  begun = begun ∙ h.begun;
  named = named;
  few_axioms = omega (arith, axioms, h.few_axioms);
  few_lemmas = omega (arith, one, slice_get_within cx.lemmas w.lemmas t there);
  axioms = λ i p few at. stays [] p (h.axioms i p (omega (arith, axioms, few)) at);
  lemmas = λ i u few at.
      one_more (λ (v : Theorem). IsStated new.renderer.stated v.hypotheses v.conclusion) cx.lemmas
      w.lemmas t there last
      (λ j v k is. stays v.hypotheses v.conclusion (h.lemmas j v k is)) i u
      (subst (λ (n : ℕ). i < n) one few) at;
}

-- ---- names

pub declared : (cx : Context) (w new : Writer) → HasWritten w cx
    → new.renderer ≡ record w.renderer { named = length cx.names } → new.axioms ≡ w.axioms
    → new.lemmas ≡ w.lemmas → HasWritten new cx
declared cx w new h is axioms lemmas =
    written_more cx w new h (ap (λ (k : Rendered). k.begun) is)
    (subst (λ (k : Rendered). k.named ≤ length cx.names) (sym is) (omega arith)) axioms lemmas
    (λ hs q k. subst (λ (m : Rendered). IsStated m.stated hs q) (sym is) k)

pub keeps_names : (k new : Rendered) (n : ℕ) → new ≡ record k { named = n } → Keeps k new
keeps_names k new n is hs q h = subst (λ (m : Rendered). IsStated (all_stated m) hs q) (sym is) h

-- ---- statements

-- what may be cited always, and what may be cited at all, after one more claim is kept
pub stated_still : StatedStays → (k new : Rendered) (claim : Claim) → new ≡ with_stated k claim
    → (hs : List Pattern) (q : Pattern) → IsStated k.stated hs q → IsStated new.stated hs q
stated_still stays k new claim is hs q h =
    let more : List Stated = record { number = k.count; claim = claim } ∷ [] in
    subst (λ (m : Rendered). IsStated m.stated hs q) (sym is) (stays k.stated (k.stated ++ more) hs
    q (λ s there. Contains-append_left k.stated more s there) h)

pub keeps_stated : StatedStays → (k new : Rendered) (claim : Claim) → new ≡ with_stated k claim
    → Keeps k new
keeps_stated stays k new claim is hs q h =
    subst (λ (m : Rendered). IsStated (all_stated m) hs q) (sym is)
    (stays (all_stated k) (all_stated (with_stated k claim)) hs q among h)
  where
    more : List Stated
    more = record { number = k.count; claim = claim } ∷ []

    among : (s : Stated) → Contains (all_stated k) s → Contains (all_stated (with_stated k claim)) s
    among s there = either (Contains-append_cases k.stated k.last s there)
      where
        either : Contains k.stated s ⊎ Contains k.last s
            → Contains (all_stated (with_stated k claim)) s
        either (inl front) =
            Contains-append_left (k.stated ++ more) k.last s
            (Contains-append_left k.stated more s front)
        either (inr behind) = Contains-append_right (k.stated ++ more) k.last s behind

pub few_named : (k new : Rendered) (claim : Claim) (n : ℕ) → new ≡ with_stated k claim → k.named ≤ n
    → new.named ≤ n
few_named k new claim n is few = subst (λ (m : Rendered). m.named ≤ n) (sym is) few

-- the last kept claim was stated
pub last_stated : LastIsStated → (k new : Rendered) (claim : Claim) → new ≡ with_stated k claim
    → IsStated new.stated claim.hypotheses claim.conclusion
last_stated last k new claim is =
    subst (λ (m : Rendered). IsStated m.stated claim.hypotheses claim.conclusion) (sym is)
    (last k.stated (record { number = k.count; claim = claim }))

pub run_stated : LastIsStated → (k new : Rendered) (claim : Claim) → new ≡ with_last k claim
    → IsStated (all_stated new) claim.hypotheses claim.conclusion
run_stated last k new claim is =
    subst (λ (m : Rendered). IsStated (all_stated m) claim.hypotheses claim.conclusion) (sym is)
    (last k.stated (record { number = k.count; claim = claim }))

pub nothing_written : (program : Program) (w : Writer) → w.renderer ≡ header_rendered → w.axioms ≡ 0
    → w.lemmas ≡ 0 → HasWrittenAll w (new_context program)
nothing_written program w kept axioms lemmas = record {
  written = record {
    begun = ap (λ (k : Rendered). k.begun) kept;
    named = subst (λ (k : Rendered). k.named ≤ 0) (sym kept) (omega arith);
    few_axioms = omega (arith, axioms);
    few_lemmas = omega (arith, lemmas);
    axioms = λ i p few at. absurd (cc);
    lemmas = λ i t few at. absurd (cc);
  };
  names = ap (λ (k : Rendered). k.named) kept;
  axioms = axioms;
  lemmas = lemmas;
}

-- ---- the item at a place

pub axiom_there : (ps : List Pattern) (i : ℕ) → i < length ps
    → slice_get ps i ≡ Some (axiom_at ps i)
axiom_there ps i few = slice_get-get_or ps i bot few

pub found_there : {A : Type 0} (xs : List A) (i : ℕ) (x : A) → i < length xs → x ≡ get_or xs i x
    → slice_get xs i ≡ Some x
found_there {A} xs i x few is = slice_get-get_or xs i x few ∙ ap (λ (y : A). Some y) (sym is)

-- ---- what may be proved

pub lemma_may : (cx : Context) (w : Writer) (place : ℕ) (t : Theorem) → SentenceIsOver
    → IsContext cx → HasWritten w cx → w.renderer.named ≡ length cx.names
    → w.axioms ≡ length cx.axioms → w.lemmas ≡ place → slice_get cx.lemmas place ≡ Some t
    → MayProve cx.names w.renderer t
lemma_may cx w place t over context h names axioms next at =
    let before : Context = record cx { lemmas = take place cx.lemmas } in
    may_prove cx.names w.renderer t t.hypotheses h.begun names
    (context.lemmas place t at (scope_of cx.names (all_stated w.renderer) t.hypotheses)
    (has_context before w t.hypotheses
    (λ p k. let there = place_of cx.axioms p k in
    may_be_cited w.renderer [] p (h.axioms there.0 p (omega (arith, axioms, there.1)) there.2))
    (λ u k. let there = place_in_first place cx.lemmas u k in
    may_be_cited w.renderer u.hypotheses u.conclusion
    (h.lemmas there.0 u (omega (arith, next, there.1)) there.2)) over)
    (λ p k. k))

theorem_within : (cx : Context) (w : Writer) (t : Theorem) → SentenceIsOver → HasWrittenAll w cx
    → MayFollow cx w.renderer t → IsWithin (scope_of cx.names (all_stated w.renderer) []) t
theorem_within cx w t over h follows =
    follows (scope_of cx.names (all_stated w.renderer) [])
    (has_context cx w []
    (λ p k. let there = place_of cx.axioms p k in
    may_be_cited w.renderer [] p
    (h.written.axioms there.0 p (omega (arith, h.axioms, there.1)) there.2))
    (λ u k. let there = place_of cx.lemmas u k in
    may_be_cited w.renderer u.hypotheses u.conclusion
    (h.written.lemmas there.0 u (omega (arith, h.lemmas, there.1)) there.2)) over)
    (has_stated cx.names w.renderer [])

pub theorem_may : (cx : Context) (w : Writer) (t : Theorem) → SentenceIsOver → HasWrittenAll w cx
    → MayFollow cx w.renderer t → MayProve cx.names w.renderer t
theorem_may cx w t over h follows =
    may_prove cx.names w.renderer t [] h.written.begun h.names
    (theorem_within cx w t over h follows)

pub theorem_assumes_nothing : (cx : Context) (w : Writer) (t : Theorem) → SentenceIsOver
    → HasWrittenAll w cx → MayFollow cx w.renderer t → t.hypotheses ≡ []
theorem_assumes_nothing cx w t over h follows =
    assumes_nothing cx.names (all_stated w.renderer) t (theorem_within cx w t over h follows)
