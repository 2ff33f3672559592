-- The labels of the mandatory hypotheses of a theorem.
use Rattle.std.proofs.Common.{◌≡◌, ℕ, zero, suc, ◌+◌, Bool, true, false, List, [], ◌∷◌, refl, ap}
use Rattle.std.proofs.Common.{sym, ◌∙◌, arith, Option}
use Rattle.std.specs.Prelude.{◌||◌, filter, slice_get, Some, None, bytes_eq, if◌then◌else◌}
use Rattle.std.proofs.lemmas.Bool.{or_right}
use Rattle.std.proofs.lemmas.Slice.Eq.{bytes_eq-Decides}
use Rattle.mm_text.specs.Bytes.{Token, has_token}
use Rattle.mm_text.specs.Statements.{Statement}
use Rattle.mm_database.specs.Database.{Context}
use Rattle.mm_database.specs.Frames.{label_of}
use Rattle.mm_frame.specs.PlainFrames.{plain_frame}
use Rattle.mm_scope.specs.ScopeState.{ScopeState}
use Rattle.mm_scope.specs.StateReads.{hypothesis_by_name, hypothesis_at, hypothesis_named}
use Rattle.mm_scope.specs.StateReads.{is_some_mandatory, is_mandatory_named}
use Rattle.mm_frame.specs.NeededNumbers.{is_needed_number, is_mandatory_number}
use Rattle.mm_frame.specs.Numbered.{NumberedHypothesis}
use Rattle.mm_scope.specs.Proposing.{IsProposed}
use Rattle.mm_scope.specs.Standing.{Stands}
use Rattle.mm_frame.specs.declared.names.Name.{Name}
use Rattle.mm_frame.specs.declared.names.Name.TheVariants.{Constant, Variable, Hypothesis}
use Rattle.mm_frame.specs.declared.names.Name.TheVariants.{Assertion}
use Rattle.mm_scope.specs.declared.theorem.Theorem.{Theorem}
use Rattle.mm_verify.specs.ProofSteps.{labels_in, IsLabelled}

same-truths : (a b : Bool) → (a ≡ true → b ≡ true) → (b ≡ true → a ≡ true) → a ≡ b
same-truths true true to from = refl
same-truths true false to from = let wrong : false ≡ true = to refl in absurd (cc)
same-truths false true to from = let wrong : false ≡ true = from refl in absurd (cc)
same-truths false false to from = refl

module _ (h : ScopeState) (c : Context) (stands : Stands h c) (needed : ℕ → Bool)
    (label : Token) where
  abbrev test : NumberedHypothesis → Bool
  test = is_mandatory_number needed

  abbrev is_named : Bool
  is_named = is_some_mandatory needed (hypothesis_named h label)

  -- an active hypothesis is found by its label
  here : (i : ℕ) (x : NumberedHypothesis) → slice_get h.hypotheses i ≡ Some x
      → bytes_eq (label_of x) label ≡ true → hypothesis_named h label ≡ Some x
  here i x at same =
      let is : label_of x ≡ label = (bytes_eq-Decides (label_of x) label).0 same in
      let named : h.names label ≡ Some (Hypothesis i) =
      ap h.names (sym is) ∙ stands.labelled i x at in
      ap (hypothesis_by_name h label) named
      ∙ ap (hypothesis_at label) at
      ∙ ap (λ (b : Bool). if b then Some x else None) same

  -- each label of a mandatory one is found
  kept-from : (at : ℕ) (hs : List NumberedHypothesis)
      → ((k : ℕ) → slice_get h.hypotheses (at + k) ≡ slice_get hs k)
      → has_token (labels_in (filter test hs)) label ≡ true → is_named ≡ true
  kept-from at [] stand has = absurd (cc)
  kept-from at (x ∷ hs) stand has =
      go (test x) refl has (kept-from (at + 1) hs (λ k. let next : (at + 1) + k ≡ at + suc k =
      omega arith in
      ap (slice_get h.hypotheses) next ∙ stand (suc k)))
    where
      first : slice_get h.hypotheses at ≡ Some x
      first = let same : at ≡ at + 0 = omega arith in ap (slice_get h.hypotheses) same ∙ stand 0

      one : (b : Bool) → bytes_eq (label_of x) label ≡ b → test x ≡ true
          → (b || has_token (labels_in (filter test hs)) label) ≡ true
          → (has_token (labels_in (filter test hs)) label ≡ true → is_named ≡ true)
          → is_named ≡ true
      one true same passed any rest = ap (is_some_mandatory needed) (here at x first same) ∙ passed
      one false same passed any rest = rest any

      go : (b : Bool) → test x ≡ b
          → has_token (labels_in (if b then x ∷ filter test hs else filter test hs)) label ≡ true
          → (has_token (labels_in (filter test hs)) label ≡ true → is_named ≡ true)
          → is_named ≡ true
      go true passed any rest = one (bytes_eq (label_of x) label) refl passed any rest
      go false failed any rest = rest any

  -- a label that is found is that of a mandatory one
  kept-there : (hs : List NumberedHypothesis) (k : ℕ) (x : NumberedHypothesis)
      → slice_get hs k ≡ Some x → test x ≡ true → bytes_eq (label_of x) label ≡ true
      → has_token (labels_in (filter test hs)) label ≡ true
  kept-there [] k x at passed same = absurd (cc)
  kept-there (y ∷ hs) zero x at passed same =
      go (test y) (let is : y ≡ x = cc in ap test is ∙ passed)
      (let is : y ≡ x = cc in ap (λ (z : NumberedHypothesis). bytes_eq (label_of z) label) is
      ∙ same)
    where
      go : (b : Bool) → b ≡ true → bytes_eq (label_of y) label ≡ true
          → has_token (labels_in (if b then y ∷ filter test hs else filter test hs)) label ≡ true
      go true is it = rw it refl
      go false is it = absurd (cc)
  kept-there (y ∷ hs) (suc k) x at passed same = go (test y) (kept-there hs k x at passed same)
    where
      go : (b : Bool) → has_token (labels_in (filter test hs)) label ≡ true
          → has_token (labels_in (if b then y ∷ filter test hs else filter test hs)) label ≡ true
      go true rest =
          or_right (bytes_eq (label_of y) label) (has_token (labels_in (filter test hs)) label) rest
      go false rest = rest

  named-kept : is_named ≡ true → has_token (labels_in (filter test h.hypotheses)) label ≡ true
  named-kept = go (h.names label)
    where
      one : (i : ℕ) (x : NumberedHypothesis) (b : Bool) → slice_get h.hypotheses i ≡ Some x
          → bytes_eq (label_of x) label ≡ b
          → is_some_mandatory needed (if b then Some x else None) ≡ true
          → has_token (labels_in (filter test h.hypotheses)) label ≡ true
      one i x true at same passed = kept-there h.hypotheses i x at passed same
      one i x false at same passed = absurd (cc)

      found : (i : ℕ) (o : Option NumberedHypothesis) → slice_get h.hypotheses i ≡ o
          → is_some_mandatory needed (hypothesis_at label o) ≡ true
          → has_token (labels_in (filter test h.hypotheses)) label ≡ true
      found i None at passed = absurd (cc)
      found i (Some x) at passed = one i x (bytes_eq (label_of x) label) at refl passed

      go : (o : Option Name) → is_some_mandatory needed (hypothesis_by_name h label o) ≡ true
          → has_token (labels_in (filter test h.hypotheses)) label ≡ true
      go None passed = absurd (cc)
      go (Some (Constant n)) passed = absurd (cc)
      go (Some (Variable n)) passed = absurd (cc)
      go (Some (Hypothesis i)) passed = found i (slice_get h.hypotheses i) refl passed
      go (Some (Assertion i)) passed = absurd (cc)

  mandatory-named : has_token (labels_in (filter test h.hypotheses)) label ≡ is_named
  mandatory-named =
      same-truths (has_token (labels_in (filter test h.hypotheses)) label) is_named
      (kept-from 0 h.hypotheses
      (λ k. let same : 0 + k ≡ k = omega arith in ap (slice_get h.hypotheses) same))
      named-kept

pub proposed-labelled : (bytes : List ℕ) (h : ScopeState) (c : Context) (s : Statement)
    (t : Theorem) → Stands h c → IsProposed bytes h c s t → IsLabelled h (plain_frame t.frame)
proposed-labelled bytes h c s t stands p label =
    ap (λ (hs : List NumberedHypothesis). has_token (labels_in hs) label) p.scope_state.hypotheses
    ∙ mandatory-named h c stands (is_needed_number h.hypotheses p.stated.symbols) label
    ∙ ap (λ (symbols : List ℕ). is_mandatory_named h symbols label)
    (sym p.scope_state.statement)
