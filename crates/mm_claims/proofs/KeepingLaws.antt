-- What fits after what the calls append.
use Rattle.std.proofs.Common.{◌≡◌, ℕ, ◌+◌, ◌<◌, ◌^◌, Bool, true, false, List, [], ◌∷◌, ◌++◌, length}
use Rattle.std.proofs.Common.{take, drop, zero, suc, slice_get, Some, refl, ap, ◌∙◌, sym, subst}
use Rattle.std.proofs.Common.{arith, length-append, ◌⊎◌, inl, inr}
use Rattle.std.specs.Prelude.{IsTrue, if◌then◌else◌, slice_index_or, codes, Contains}
use Rattle.std.proofs.lemmas.Bool.{false≢true}
use Rattle.std.proofs.lemmas.List.Elements.{Contains-append_left, Contains-append_right}
use Rattle.std.proofs.lemmas.List.Elements.{Contains-append_cases, Contains-push_cases}
use Rattle.mm_text.specs.Bytes.{Token}
use Rattle.mm_database.specs.Forms.{asserts, assumes}
use Rattle.mm_database.specs.Assertions.{Assertion}
use Rattle.mm_database.specs.Proofs.{ProofTree}
use Rattle.mm_database.specs.ProofText.{mandatory_labels}
use Rattle.mm_database.specs.Compressing.{all_compressed}
use Rattle.mm_database.specs.ProofTexts.{Compresses}
use Rattle.mm_header.specs.HeaderText.{header_bytes}
use Rattle.ml_pat.specs.Patterns.{Pattern, meta}
use Rattle.ml_kernel.specs.Theorems.{Theorem, Derivation, Derivations, hypothesis, own_axiom}
use Rattle.ml_kernel.specs.Theorems.{by_rule, cited, no_derivation, more_derivations}
use Rattle.ml_kernel.specs.Concluding.{IsKept}
use Rattle.mm_proof.specs.Labels.{statement_label, premise_label, own_labels}
use Rattle.ml_pat.specs.Leaves.{EachLeaf}
use Rattle.mm_proof.specs.Tokens.{name_of, own_naming}
use Rattle.mm_proof.specs.Derivations.{holds_text, derivation_tree}
use Rattle.ml_kernel.specs.MayCite.{EachCited, AllCited}
use Rattle.ml_pat.proofs.LeafLaws.{EachLeaf-implied}
use Rattle.mm_proof.proofs.AgreeLaws.{agreeing, text-agrees}
use Rattle.mm_claims.specs.Rendered.{Rendered, all_stated}
use Rattle.mm_claims.specs.Statements.{all_name_statements, axiom_statement, theorem_statement}
use Rattle.mm_claims.specs.Variables.{Variable, object_variable, pattern_variable, AreNumbered}
use Rattle.mm_claims.specs.OverNames.{open_over, AreOpenOver, over_names, AreOverNames}
use Rattle.mm_claims.specs.Blocks.{Claim, Stated, IsClaim, variable_statements, separations}
use Rattle.mm_claims.specs.Blocks.{separation_statements, premise_statements, block, needs_block}
use Rattle.mm_claims.specs.Blocks.{axiom_statements, theorem_statements, open_frame}
use Rattle.mm_claims.specs.Blocks.{open_assertion}
use Rattle.mm_claims.specs.CitedAt.{at_places, claims_citing, HaveInstances, IsCitable, ArePremises}
use Rattle.mm_claims.specs.Citable.{citable}
use Rattle.mm_claims.specs.Claiming.{FitsClaims, GainsExactly, IsProofOfClaim}
use Rattle.mm_claims.specs.Provable.{HaveNeeded, IsProvable}
use Rattle.mm_claims.specs.ClaimVariables.{claim_of, claim_variables}
use Rattle.mm_claims.specs.Keeping.{AreAmong, FitsStated, FitsWhen, Gains, MayState, axiom_at}
use Rattle.mm_claims.specs.Keeping.{with_last, with_stated}
use Rattle.mm_claims.specs.KeepingLaws.{EmptyFits, FitsIsCompressed, BegunFits, DeclaredFits}
use Rattle.mm_claims.specs.OpenVariables.{variables_of}
use Rattle.mm_claims.specs.Places.{IsStated, IsFoundAs, Finds, stated_cites, lemma_statements}
use Rattle.mm_claims.specs.Places.{MayProve}
use Rattle.mm_claims.proofs.FittingLaws.{name_of-front, take-all, take-drop}
use Rattle.mm_claims.proofs.FoundCiting.{places_of, tree_found, variables_found}
use Rattle.mm_claims.proofs.LaterLaws.{at_end, there_still}
use Rattle.mm_claims.proofs.MandatoryLabels.{mandatory_same}
use Rattle.mm_claims.proofs.NamedClaims.{declared_fits_claims}
use Rattle.mm_claims.proofs.OpenFits.{header_fits_claims, axiom_fits, axiom_is_gained, theorem_fits}
use Rattle.mm_claims.proofs.OpenFits.{theorem_is_gained, claims_are_compressed}
use Rattle.mm_claims.proofs.OpenVariableLaws.{needed_are_enough}
use Rattle.mm_claims.proofs.ClaimLaws.{over_names_is_claim}
use Rattle.mm_database.specs.StatementTexts.{written_statements, plain_tokens, proof_tokens}

pub empty_fits : EmptyFits
empty_fits names = refl

nothing_there : (s : Stated) → Contains [] s → ⊥
nothing_there s (i, low, is) = absurd (omega (arith, low))

pub begun_fits : BegunFits
begun_fits names bytes empty = record {
  claims = [];
  fits =
      subst (λ (text : List ℕ). FitsClaims [] [] (text ++ header_bytes)) (sym empty)
      header_fits_claims;
  counted = refl;
  among = λ s there. absurd (nothing_there s there);
}

pub fits_is_compressed : FitsIsCompressed
fits_is_compressed names k bytes fits = go k.begun fits
  where
    go : (b : Bool) → FitsWhen b (take k.named names) k.count (all_stated k) bytes
        → all_compressed bytes ≡ true
    go false empty = ap all_compressed empty
    go true fit = claims_are_compressed (take k.named names) fit.claims bytes fit.fits

pub declared_fits : DeclaredFits
declared_fits names k bytes each distinct few begun within fits = go k.begun begun fits
  where
    go : (b : Bool) → b ≡ true → FitsWhen b (take k.named names) k.count (all_stated k) bytes
        → FitsWhen b (take (length names) names) k.count (all_stated k)
        (bytes ++ written_statements (all_name_statements k.named (drop k.named names)))
    go false never fit = absurd (false≢true never)
    go true is fit =
        subst (λ (ts : List Token). FitsStated ts k.count (all_stated k)
        (bytes ++ written_statements (all_name_statements k.named (drop k.named names))))
        (sym (take-all names)) (record {
          claims = fit.claims;
          fits =
              declared_fits_claims names k.named each distinct few within fit.claims bytes fit.fits;
          counted = fit.counted;
          among = fit.among;
        })

-- The text of what is over the first names is the same with all names.

same_name : (names : List Token) (n i : ℕ) → i < length (take n names)
    → name_of (take n names) i ≡ name_of names i
same_name names n i lt = sym (name_of-front (take n names) (drop n names) i lt)
    ∙ ap (λ (ts : List Token). name_of ts i) (take-drop n names)

kept_text : (names : List Token) (n : ℕ) (vs : List Variable) (p : Pattern)
    → EachLeaf (open_over (take n names) vs) p
    → holds_text (own_naming (take n names)) p ≡ holds_text (own_naming names) p
kept_text names n vs p h =
    ap (λ (ts : List Token). codes "|-" ∷ ts) (text-agrees (own_naming (take n names))
    (own_naming names) p (EachLeaf-implied (open_over (take n names) vs)
    (agreeing (own_naming (take n names)) (own_naming names)) p (record {
      sort = λ i k. same_name names n i k.0;
      constant = λ i k. same_name names n i k.0;
      object = λ x k. refl;
      meta = λ i k. refl;
    }) h))

kept_premises : (names : List Token) (n : ℕ) (vs : List Variable) (k j : ℕ) (ps : List Pattern)
    → AreOpenOver (take n names) vs ps
    → premise_statements (take n names) k j ps ≡ premise_statements names k j ps
kept_premises names n vs k j [] h = refl
kept_premises names n vs k j (p ∷ ps) h =
    ap (λ (e : List Token). plain_tokens (premise_label k j ∷ []) assumes e
    ∷ premise_statements (take n names) k (j + 1) ps) (kept_text names n vs p h.0)
    ∙ ap (λ (others : List (List Token)). plain_tokens (premise_label k j ∷ []) assumes
    (holds_text (own_naming names) p) ∷ others)
    (kept_premises names n vs k (j + 1) ps h.1)

-- only a statement, or a statement after its variables and hypotheses in its block
abbrev statement_of : Bool → ℕ → List Variable → List (List Token) → List Token → List (List Token)
statement_of b k vs premises statement =
    if b
    then block ((variable_statements k vs
    ++ (separation_statements (separations vs) ++ premises)) ++ statement ∷ [])
    else (statement ∷ [])

kept_axiom : (names : List Token) (n k : ℕ) (s : Claim) → IsClaim (take n names) s
    → axiom_statements (take n names) k s ≡ axiom_statements names k s
kept_axiom names n k s claim =
    ap (λ (premises : List (List Token)). statement_of (needs_block s.variables s.hypotheses) k
    s.variables premises (axiom_statement (take n names) k s.conclusion))
    (kept_premises names n s.variables k 0 s.hypotheses claim.over.1)
    ∙ ap (λ (e : List Token). statement_of (needs_block s.variables s.hypotheses) k s.variables
    (premise_statements names k 0 s.hypotheses)
    (plain_tokens (statement_label k ∷ []) asserts e))
    (kept_text names n s.variables s.conclusion claim.over.0)

kept_theorem : (names : List Token) (n k : ℕ) (s : Claim) (more : List Variable)
    (proof : List Token) → IsClaim (take n names) s
    → theorem_statements (take n names) k s more proof ≡ theorem_statements names k s more proof
kept_theorem names n k s more proof claim =
    ap (λ (premises : List (List Token)). statement_of
    (needs_block (s.variables ++ more) s.hypotheses) k (s.variables ++ more) premises
    (theorem_statement (take n names) k s.conclusion proof))
    (kept_premises names n s.variables k 0 s.hypotheses claim.over.1)
    ∙ ap (λ (e : List Token). statement_of (needs_block (s.variables ++ more) s.hypotheses) k
    (s.variables ++ more) (premise_statements names k 0 s.hypotheses)
    (proof_tokens (statement_label k ∷ []) e proof))
    (kept_text names n s.variables s.conclusion claim.over.0)

-- what is kept after one more claim: it has the next number, and no other claim is new
pub record KeepsOneMore (k k' : Rendered) (s : Claim) : Type 0 where
  pub begun : k'.begun ≡ k.begun
  pub named : k'.named ≡ k.named
  pub count : k'.count ≡ k.count + 1
  pub kept : (x : Stated) → Contains (all_stated k') x
      → Contains (all_stated k) x ⊎ (record { number = k.count; claim = s } ≡ x)

stated_more : (k : Rendered) (s : Claim) (x : Stated) → Contains (all_stated (with_stated k s)) x
    → Contains (all_stated k) x ⊎ (record { number = k.count; claim = s } ≡ x)
stated_more k s x there =
    either (Contains-append_cases (k.stated ++ record { number = k.count; claim = s } ∷ []) k.last x
    there)
  where
    front : Contains k.stated x ⊎ (record { number = k.count; claim = s } ≡ x)
        → Contains (all_stated k) x ⊎ (record { number = k.count; claim = s } ≡ x)
    front (inl h) = inl (Contains-append_left k.stated k.last x h)
    front (inr h) = inr h

    either : Contains (k.stated ++ record { number = k.count; claim = s } ∷ []) x
        ⊎ Contains k.last x
        → Contains (all_stated k) x ⊎ (record { number = k.count; claim = s } ≡ x)
    either (inl h) =
        front (Contains-push_cases k.stated (record { number = k.count; claim = s }) x h)
    either (inr h) = inl (Contains-append_right k.stated k.last x h)

pub one_stated_more : (k : Rendered) (s : Claim) → KeepsOneMore k (with_stated k s) s
one_stated_more k s = record { begun = refl; named = refl; count = refl; kept = stated_more k s }

last_more : (k : Rendered) (s : Claim) (x : Stated) → Contains (all_stated (with_last k s)) x
    → Contains (all_stated k) x ⊎ (record { number = k.count; claim = s } ≡ x)
last_more k s x there =
    either (Contains-push_cases k.stated (record { number = k.count; claim = s }) x there)
  where
    either : Contains k.stated x ⊎ (record { number = k.count; claim = s } ≡ x)
        → Contains (all_stated k) x ⊎ (record { number = k.count; claim = s } ≡ x)
    either (inl h) = inl (Contains-append_left k.stated k.last x h)
    either (inr h) = inr h

pub one_last_more : (k : Rendered) (s : Claim) → KeepsOneMore k (with_last k s) s
one_last_more k s = record { begun = refl; named = refl; count = refl; kept = last_more k s }

-- what is kept is among the claims of the text after one more claim
among_more : (claims : List Claim) (k k' : Rendered) (s : Claim) → length claims ≡ k.count
    → AreAmong claims (all_stated k) → KeepsOneMore k k' s
    → AreAmong (claims ++ s ∷ []) (all_stated k')
among_more claims k k' s counted among more x there = go (more.kept x there)
  where
    go : Contains (all_stated k) x ⊎ (record { number = k.count; claim = s } ≡ x)
        → slice_get (claims ++ s ∷ []) x.number ≡ Some x.claim
    go (inl h) = there_still claims (s ∷ []) x.number x.claim (among x h)
    go (inr is) =
        subst (λ (y : Stated). slice_get (claims ++ s ∷ []) y.number ≡ Some y.claim) is
        (subst (λ (n : ℕ). slice_get (claims ++ s ∷ []) n ≡ Some s) counted (at_end claims s))

-- The bytes that are appended after the claims of a text make a text with one more claim, and
-- exactly that is gained.
abbrev AppendsClaim : List Token → List Stated → ℕ → Claim → List ℕ → List Variable → Assertion
    → Type 0
AppendsClaim declared kept count s appended vs a =
    (claims : List Claim) (bytes : List ℕ) → length claims ≡ count → AreAmong claims kept
    → FitsClaims declared claims bytes →
    FitsClaims declared (claims ++ s ∷ []) (bytes ++ appended)
    × GainsExactly bytes appended count vs a

-- from claims that fit to what is kept
gains : (names : List Token) (k k' : Rendered) (s : Claim) (vs : List Variable) (a : Assertion)
    (appended : List ℕ) → IsTrue k.begun → KeepsOneMore k k' s
    → AppendsClaim (take k.named names) (all_stated k) k.count s appended vs a
    → Gains names k k' appended vs a
gains names k k' s vs a appended begun more appends = record {
  fits =
      λ bytes fits. fits_when k.begun begun bytes fits;
  just = λ bytes fits. gains_when k.begun begun bytes fits;
}
  where
    length_more : (claims : List Claim) → length claims ≡ k.count
        → length (claims ++ s ∷ []) ≡ k'.count
    length_more claims counted = omega (arith, length-append claims (s ∷ []), counted, more.count)

    fitting : (bytes : List ℕ) → FitsStated (take k.named names) k.count (all_stated k) bytes
        → FitsStated (take k'.named names) k'.count (all_stated k') (bytes ++ appended)
    fitting bytes fit =
        let done = appends fit.claims bytes fit.counted fit.among fit.fits in record {
          claims = fit.claims ++ s ∷ [];
          fits =
              subst
              (λ (n : ℕ). FitsClaims (take n names) (fit.claims ++ s ∷ []) (bytes ++ appended))
              (sym more.named) done.0;
          counted = length_more fit.claims fit.counted;
          among = among_more fit.claims k k' s fit.counted fit.among more;
        }

    fits_when : (b : Bool) → b ≡ true → (bytes : List ℕ)
        → FitsWhen b (take k.named names) k.count (all_stated k) bytes
        → FitsWhen k'.begun (take k'.named names) k'.count (all_stated k') (bytes ++ appended)
    fits_when false never bytes fits = absurd (false≢true never)
    fits_when true is bytes fits =
        subst (λ (b : Bool).
        FitsWhen b (take k'.named names) k'.count (all_stated k') (bytes ++ appended))
        (sym (more.begun ∙ begun)) (fitting bytes fits)

    gains_when : (b : Bool) → b ≡ true → (bytes : List ℕ)
        → FitsWhen b (take k.named names) k.count (all_stated k) bytes
        → GainsExactly bytes appended k.count vs a
    gains_when false never bytes fits = absurd (false≢true never)
    gains_when true is bytes fits = (appends fits.claims bytes fits.counted fits.among fits.fits).1

pub axiom_is : (ps : List Pattern) (i : ℕ) (p : Pattern) → slice_get ps i ≡ Some p
    → axiom_at ps i ≡ p
axiom_is [] i p h = absurd (let z : ⊥ = cc in z)
axiom_is (q ∷ ps) zero p h = let same : q ≡ p = cc in same
axiom_is (q ∷ ps) (suc i) p h = axiom_is ps i p h

axiom_appends : (declared : List Token) (kept : List Stated) (count : ℕ) (s : Claim)
    (appended : List ℕ) → count < 2 ^ 64 → IsClaim declared s
    → written_statements (axiom_statements declared count s) ≡ appended
    → AppendsClaim declared kept count s appended s.variables
    (open_assertion false declared count s)
axiom_appends declared kept count s appended few claim text claims bytes counted among fits =
    let low : length claims < 2 ^ 64 = subst (λ (n : ℕ). n < 2 ^ 64) (sym counted) few in
    let same : written_statements (axiom_statements declared (length claims) s) ≡ appended =
    ap (λ (n : ℕ). written_statements (axiom_statements declared n s)) counted ∙ text in (
      subst (λ (added : List ℕ). FitsClaims declared (claims ++ s ∷ []) (bytes ++ added)) same
          (axiom_fits declared claims bytes s fits low claim),
      subst
          (λ (n : ℕ). GainsExactly bytes appended n s.variables (open_assertion false declared n s))
          counted
          (subst (λ (added : List ℕ). GainsExactly bytes added (length claims) s.variables
          (open_assertion false declared (length claims) s)) same
          (axiom_is_gained declared claims bytes s fits low claim)),
    )

pub axiom_gains : (names : List Token) (k : Rendered) (p : Pattern) → k.count < 2 ^ 64
    → AreNumbered (claim_variables [] p) → MayState names k p
    → Gains names k (with_stated k (claim_of [] p))
    (written_statements (axiom_statements names k.count (claim_of [] p))) (claim_variables [] p)
    (open_assertion false (take k.named names) k.count (claim_of [] p))
axiom_gains names k p few numbered may =
    let declared : List Token = take k.named names in
    let s : Claim = claim_of [] p in
    let claim : IsClaim declared s =
    over_names_is_claim declared [] p may.over numbered (omega arith) in
    let text : written_statements (axiom_statements declared k.count s) ≡ written_statements
    (axiom_statements names k.count s) =
    ap written_statements (kept_axiom names k.named k.count s claim) in
    gains names k (with_stated k s) s (claim_variables [] p)
    (open_assertion false declared k.count s)
    (written_statements (axiom_statements names k.count s)) may.begun (one_stated_more k s)
    (axiom_appends declared (all_stated k) k.count s
    (written_statements (axiom_statements names k.count s)) few claim text)

-- What was stated can be cited at the place where it is found.

over_at : (declared : List Token) (ms : List Pattern) (i : ℕ) (p : Pattern)
    → AreOverNames declared ms → EachLeaf (over_names declared) p
    → EachLeaf (over_names declared) (slice_index_or ms i p)
over_at declared [] i p over h = h
over_at declared (m ∷ ms) zero p over h = over.0
over_at declared (m ∷ ms) (suc i) p over h = over_at declared ms i p over.1 h

over_instances : (declared : List Token) (new : List ℕ) (ms : List Pattern) (vs : List Variable)
    → AreOverNames declared ms → HaveInstances (over_names declared) new ms vs
over_instances declared new ms [] over = tt
over_instances declared new ms (object_variable i ∷ vs) over =
    (tt, over_instances declared new ms vs over)
over_instances declared new ms (pattern_variable i ∷ vs) over =
    (over_at declared ms i (meta i) over tt, over_instances declared new ms vs over)

found_citable : (declared : List Token) (claims : List Claim) (kept : List Stated)
    (find : List Pattern → Pattern → Stated) (own : List Pattern) (q : Pattern) (new : List ℕ)
    (ms : List Pattern) → AreAmong claims kept → Finds kept find → IsStated kept own q
    → AreOverNames declared ms
    → IsCitable (over_names declared) claims (places_of find) own q new ms
found_citable declared claims kept find own q new ms among finds there over =
    let w : IsFoundAs kept own q (find own q) = finds own q there in
    record {
      claim = (find own q).claim;
      there = among (find own q) w.there;
      hypotheses = w.hypotheses_are;
      conclusion = w.conclusion_is;
      instances = over_instances declared new ms (find own q).claim.variables over;
    }

mutual
  cited_citable : (declared : List Token) (claims : List Claim) (kept : List Stated)
      (find : List Pattern → Pattern → Stated) (d : Derivation) → AreAmong claims kept
      → Finds kept find → EachCited (stated_cites declared kept) d
      → EachCited (citable (over_names declared) claims (places_of find)) d
  cited_citable declared claims kept find (hypothesis p) among finds h = tt
  cited_citable declared claims kept find (own_axiom n p new) among finds h =
      found_citable declared claims kept find [] p new [] among finds h tt
  cited_citable declared claims kept find (by_rule r is ds) among finds h =
      all_citable declared claims kept find ds among finds h
  cited_citable declared claims kept find (cited own q d ms ds) among finds h = (
    found_citable declared claims kept find own q [] ms among finds h.0.0 h.0.1,
    all_citable declared claims kept find ds among finds h.1,
  )

  all_citable : (declared : List Token) (claims : List Claim) (kept : List Stated)
      (find : List Pattern → Pattern → Stated) (ds : Derivations) → AreAmong claims kept
      → Finds kept find → AllCited (stated_cites declared kept) ds
      → AllCited (citable (over_names declared) claims (places_of find)) ds
  all_citable declared claims kept find no_derivation among finds h = tt
  all_citable declared claims kept find (more_derivations d ds) among finds h = (
    cited_citable declared claims kept find d among finds h.0,
    all_citable declared claims kept find ds among finds h.1,
  )

-- A theorem by a derivation that cites what is kept. Its proof is also a proof by the places in the
-- claims of the text.
theorem_appends : (names : List Token) (k : Rendered) (find : List Pattern → Pattern → Stated)
    (premise_place : Pattern → ℕ) (t : Theorem) (more : List Variable) (proof : List Token)
    → k.count < 2 ^ 64 → length t.hypotheses < 2 ^ 64
    → AreNumbered (claim_variables t.hypotheses t.conclusion)
    → HaveNeeded (variables_of find t.derivation)
    (claim_variables t.hypotheses t.conclusion ++ more)
    → IsKept t → Finds (all_stated k) find → ArePremises t.hypotheses premise_place
    → IsProofOfClaim names k.count find premise_place (claim_of t.hypotheses t.conclusion)
    t.derivation proof → MayProve names k t
    → AppendsClaim (take k.named names) (all_stated k) k.count (claim_of t.hypotheses t.conclusion)
    (written_statements (lemma_statements names k.count t more proof))
    (claim_variables t.hypotheses t.conclusion ++ more)
    (open_assertion true (take k.named names) k.count (claim_of t.hypotheses t.conclusion))
theorem_appends names k find premise_place t more proof few few_hypotheses numbered needed kept
    finds premises proves may claims bytes counted among fits =
    let declared : List Token = take k.named names in
    let s : Claim = claim_of t.hypotheses t.conclusion in
    let d : Derivation = t.derivation in
    let place : List Pattern → Pattern → ℕ = places_of find in
    let low : length claims < 2 ^ 64 = subst (λ (n : ℕ). n < 2 ^ 64) (sym counted) few in
    let claim : IsClaim declared s =
    over_names_is_claim declared t.hypotheses t.conclusion may.over numbered few_hypotheses in
    let same : variables_of (at_places claims (places_of find)) d ≡ variables_of find d =
    variables_found claims (all_stated k) find declared d among finds may.cites in
    let provable : IsProvable declared claims s more d (places_of find) premise_place =
    needed_are_enough declared claims s more d (places_of find) premise_place
    (subst (λ (us : List Variable). HaveNeeded us (s.variables ++ more)) (sym same) needed) kept
    may.used
    (cited_citable declared claims (all_stated k) find d among finds may.cites) premises in
    let tree : derivation_tree (own_labels k.count)
    (claims_citing k.count (at_places claims (places_of find)) premise_place) d ≡
    derivation_tree (own_labels k.count) (claims_citing k.count find premise_place) d =
    tree_found claims (all_stated k) find declared k.count premise_place d among finds may.cites in
    let placed : IsProofOfClaim declared (length claims) (at_places claims (places_of find))
    premise_place s d proof =
    subst (λ (n : ℕ). IsProofOfClaim declared n (at_places claims (places_of find)) premise_place s
    d proof) (sym counted)
    (subst (λ (e : ProofTree). Compresses (mandatory_labels (open_frame declared k.count s)) e
    proof) (sym tree)
    (subst (λ (ls : List Token). Compresses ls
    (derivation_tree (own_labels k.count) (claims_citing k.count find premise_place) d) proof)
    (mandatory_same names declared k.count s) proves)) in
    let text : written_statements (theorem_statements declared (length claims) s more proof)
    ≡ written_statements (lemma_statements names k.count t more proof) =
    ap (λ (n : ℕ). written_statements (theorem_statements declared n s more proof)) counted
    ∙ ap written_statements (kept_theorem names k.named k.count s more proof claim) in (
      subst (λ (added : List ℕ). FitsClaims declared (claims ++ s ∷ []) (bytes ++ added)) text
          (theorem_fits declared claims bytes s more d (places_of find) premise_place proof fits low
          claim provable placed),
      subst (λ (n : ℕ). GainsExactly bytes
          (written_statements (lemma_statements names k.count t more proof)) n
          (s.variables ++ more) (open_assertion true declared n s)) counted
          (subst (λ (added : List ℕ). GainsExactly bytes added (length claims) (s.variables ++ more)
          (open_assertion true declared (length claims) s)) text
          (theorem_is_gained declared claims bytes s more d (places_of find) premise_place proof
          fits low claim provable placed)),
    )

pub lemma_gains : (names : List Token) (k k' : Rendered) (find : List Pattern → Pattern → Stated)
    (premise_place : Pattern → ℕ) (t : Theorem) (more : List Variable) (proof : List Token)
    → KeepsOneMore k k' (claim_of t.hypotheses t.conclusion) → k.count < 2 ^ 64
    → length t.hypotheses < 2 ^ 64 → AreNumbered (claim_variables t.hypotheses t.conclusion)
    → HaveNeeded (variables_of find t.derivation)
    (claim_variables t.hypotheses t.conclusion ++ more)
    → IsKept t → Finds (all_stated k) find → ArePremises t.hypotheses premise_place
    → IsProofOfClaim names k.count find premise_place (claim_of t.hypotheses t.conclusion)
    t.derivation proof → MayProve names k t
    → Gains names k k' (written_statements (lemma_statements names k.count t more proof))
    (claim_variables t.hypotheses t.conclusion ++ more)
    (open_assertion true (take k.named names) k.count (claim_of t.hypotheses t.conclusion))
lemma_gains names k k' find premise_place t more proof one few few_hypotheses numbered needed kept
    finds premises proves may =
    gains names k k' (claim_of t.hypotheses t.conclusion)
    (claim_variables t.hypotheses t.conclusion ++ more)
    (open_assertion true (take k.named names) k.count (claim_of t.hypotheses t.conclusion))
    (written_statements (lemma_statements names k.count t more proof)) may.begun one
    (theorem_appends names k find premise_place t more proof few few_hypotheses numbered needed kept
    finds premises proves may)
