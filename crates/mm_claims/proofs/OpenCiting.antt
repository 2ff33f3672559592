-- The label of a claim, over proofs of what is substituted for its variables and of its hypotheses,
-- proves its conclusion there.
use Rattle.std.proofs.Common.{◌≡◌, ℕ, ◌+◌, Bool, true, false, List, [], ◌∷◌, ◌++◌, map, zero, suc}
use Rattle.std.proofs.Common.{refl, ap, ◌∙◌, sym, subst, eqb-true}
use Rattle.std.specs.Prelude.{◌==◌, ◌||◌, ◌&&◌, not, bytes_eq, slice_get, Some}
use Rattle.std.specs.List.{list_any, list_all}
use Rattle.std.proofs.lemmas.Bool.{false≢true}
use Rattle.std.proofs.lemmas.List.{map-append}
use Rattle.std.proofs.lemmas.Slice.Eq.{bytes_eq-Decides}
use Rattle.mm_text.specs.Bytes.{Token, has_token}
use Rattle.mm_database.specs.Frames.{Hypothesis, essential}
use Rattle.mm_database.specs.Database.{Context}
use Rattle.mm_database.specs.Proofs.{Expression, instance_of, typed_variables, texts_apart}
use Rattle.mm_database.specs.Proofs.{pair_apart, keeps_apart, by_hypothesis, ProofTree, Proves}
use Rattle.mm_database.specs.Proofs.{AllProve, symbols_apart}
use Rattle.ml_pat.specs.Patterns.{Pattern, unary, binary, sorted, quantified, var, meta}
use Rattle.ml_kernel.specs.Lemmas.{instance, instances, HaveNoVariables}
use Rattle.ml_kernel.specs.Renamings.{renamed, Renames, by_place}
use Rattle.ml_kernel.proofs.RenamingLaws.{renamed-none}
use Rattle.ml_pat.specs.Judgements.{absent}
use Rattle.mm_proof.specs.Tokens.{Naming, own_naming, object_token, meta_token}
use Rattle.mm_proof.specs.Labels.{statement_label, premise_label, own_labels}
use Rattle.ml_pat.specs.Leaves.{LeafFacts}
use Rattle.mm_proof.specs.Trees.{cite}
use Rattle.proof_nodes.specs.Tables.{forest_of}
use Rattle.mm_proof.specs.Derivations.{holds_text}
use Rattle.mm_proof.specs.SoundCiting.{CitesSoundly}
use Rattle.mm_proof.specs.Serving.{IsAssertion, Serves}
use Rattle.mm_proof.proofs.Schemes.{leads-by}
use Rattle.mm_proof.proofs.RowProofs.{all_proofs}
use Rattle.mm_proof.proofs.SyntaxLaws.{object_proves, syntax_proves}
use Rattle.ml_pat.proofs.LeafLaws.{both_true, split_true}
use Rattle.mm_proof.proofs.ApartLaws.{text_apart, apart_text}
use Rattle.mm_claims.specs.Fitting.{AreNames}
use Rattle.mm_claims.specs.Variables.{Variable, object_variable, pattern_variable, has_variable}
use Rattle.mm_claims.specs.Variables.{occurs_in, variable_token, variable_tokens, object_tokens}
use Rattle.mm_claims.specs.Blocks.{Claim, IsClaim, variable_float, premise_hypotheses, are_apart}
use Rattle.mm_claims.specs.Blocks.{open_frame}
use Rattle.mm_claims.specs.CitedAt.{at_places, variable_tree, claim_at, claim_tree, claims_citing}
use Rattle.mm_claims.specs.CitedAt.{HasInstance, HaveInstances, IsCitable, ArePremises}
use Rattle.mm_claims.specs.Citable.{citable}
use Rattle.mm_claims.specs.OpenCiting.{ServesClaims}
use Rattle.mm_claims.proofs.OpenCitingTexts.{case_variable, first_there, later_there, value, entry}
use Rattle.mm_claims.proofs.OpenCitingTexts.{given_by, given_variable, given_other, GivesInstances}
use Rattle.mm_claims.proofs.OpenCitingTexts.{holds-instance, floats-instance, premises-instance}
use Rattle.mm_claims.proofs.OpenCitingTexts.{no_variables_at, other_than, instance-none}
use Rattle.mm_claims.proofs.BoolLaws.{second_true}
use Rattle.mm_claims.proofs.VariableLaws.{itself_same}

-- what is substituted for variables is proved to have their types
variable_proves : (c : Context) (l n : Naming) (known : LeafFacts) (new : List ℕ)
    (ms : List Pattern) (v : Variable) → Serves c l n known → HasInstance known new ms v
    → Proves c (variable_tree l new ms v) (entry n new ms v)
variable_proves c l n known new ms (object_variable i) w h =
    object_proves c l n (by_place new i) (w.object (by_place new i) h)
variable_proves c l n known new ms (pattern_variable i) w h =
    syntax_proves c l n (instance ms (meta i)) known w h

variables_prove : (c : Context) (l n : Naming) (known : LeafFacts) (new : List ℕ)
    (ms : List Pattern) (vs : List Variable) → Serves c l n known
    → HaveInstances known new ms vs
    → AllProve c (forest_of (map (variable_tree l new ms) vs)) (map (entry n new ms) vs)
variables_prove c l n known new ms [] w h = refl
variables_prove c l n known new ms (v ∷ vs) w h = (
  entry n new ms v,
  map (entry n new ms) vs,
  refl,
  variable_proves c l n known new ms v w h.0,
  variables_prove c l n known new ms vs w h.1,
)

instance_at : (known : LeafFacts) (new : List ℕ) (ms : List Pattern) (vs : List Variable)
    (v : Variable) → HaveInstances known new ms vs → has_variable vs v ≡ true
    → HasInstance known new ms v
instance_at known new ms [] v every has = absurd (false≢true has)
instance_at known new ms (u ∷ us) v every has =
    case_variable (HasInstance known new ms) u us v has every.0
    (λ h. instance_at known new ms us v every.1 h)

-- What is substituted for two variables is apart if the variables have to be apart.

not_needed : (a b : Bool) → a ≡ false → (not a || b) ≡ true
not_needed a b h = rw h refl

and_false : (a b : Bool) → b ≡ false → (a && b) ≡ false
and_false true b h = h
and_false false b h = refl

no_object : (vs : List Variable) (i : ℕ) → has_token (object_tokens vs) (meta_token i) ≡ false
no_object [] i = refl
no_object (object_variable x ∷ vs) i = no_object vs i
no_object (pattern_variable j ∷ vs) i = no_object vs i

-- pairs that do not have to be apart
one_apart : (vs : List Variable) (t : Token) → are_apart vs t t ≡ false
one_apart vs t =
    ap (λ b. not b
    && ((has_token (variable_tokens vs) t && has_token (variable_tokens vs) t)
    && (has_token (object_tokens vs) t || has_token (object_tokens vs) t)))
    ((bytes_eq-Decides t t).1 refl)

patterns_apart : (vs : List Variable) (i j : ℕ) → are_apart vs (meta_token i) (meta_token j) ≡ false
patterns_apart vs i j =
    and_false (not (bytes_eq (meta_token i) (meta_token j))) _
    (and_false (has_token (variable_tokens vs) (meta_token i)
    && has_token (variable_tokens vs) (meta_token j)) _
    (rw (no_object vs i, no_object vs j) refl))

-- if these variables differ, the new ones differ
abbrev StayApart : List ℕ → List Variable → Type 0
StayApart new vs =
    (x y : ℕ) → has_variable vs (object_variable x) ≡ true
    → has_variable vs (object_variable y) ≡ true →
    by_place new x ≡ by_place new y → x ≡ y

two_objects : (c : Context) (l : Naming) (declared : List Token) (known : LeafFacts) (x y : ℕ)
    → Serves c l (own_naming declared) known → known.object x → known.object y → (x == y) ≡ false
    → texts_apart (symbols_apart c) (object_token x ∷ []) (object_token y ∷ []) ≡ true
two_objects c l declared known x y w hx hy differ = rw (w.objects_apart x y hx hy differ) refl

-- what is substituted for two variables is apart, or does not have to be
values_apart : (c : Context) (l : Naming) (declared : List Token) (known : LeafFacts) (new : List ℕ)
    (ms : List Pattern) (vs : List Variable) (u v : Variable)
    → Serves c l (own_naming declared) known → HaveNoVariables ms → StayApart new vs
    → has_variable vs u ≡ true → has_variable vs v ≡ true → HasInstance known new ms u
    → HasInstance known new ms v
    → (not (are_apart vs (variable_token u) (variable_token v))
    || texts_apart (symbols_apart c) (value (own_naming declared) new ms u)
    (value (own_naming declared) new ms v)) ≡ true
values_apart c l declared known new ms vs (object_variable x) (object_variable y) w none stay hu hv
    hx hy =
    go (x == y) refl
  where
    differ : (b : Bool) → (by_place new x == by_place new y) ≡ b → (x == y) ≡ false
        → (by_place new x == by_place new y) ≡ false
    differ false is h = is
    differ true is h =
        let same : x ≡ y = stay x y hu hv (eqb-true (by_place new x) (by_place new y) is) in
        absurd (false≢true
        (sym h ∙ ap (λ (z : ℕ). x == z) (sym same) ∙ itself_same (object_variable x)))

    go : (b : Bool) → (x == y) ≡ b
        → (not (are_apart vs (object_token x) (object_token y))
        || texts_apart (symbols_apart c) (object_token (by_place new x) ∷ [])
        (object_token (by_place new y) ∷ [])) ≡ true
    go true is =
        not_needed (are_apart vs (object_token x) (object_token y)) (texts_apart (symbols_apart c)
        (object_token (by_place new x) ∷ []) (object_token (by_place new y) ∷ []))
        (subst (λ (z : ℕ). are_apart vs (object_token x) (object_token z) ≡ false) (eqb-true x y is)
        (one_apart vs (object_token x)))
    go false is =
        second_true (not (are_apart vs (object_token x) (object_token y)))
        (texts_apart (symbols_apart c) (object_token (by_place new x) ∷ [])
        (object_token (by_place new y) ∷ []))
        (two_objects c l declared known (by_place new x) (by_place new y) w hx hy
        (differ (by_place new x == by_place new y) refl is))
values_apart c l declared known new ms vs (object_variable x) (pattern_variable j) w none stay hu hv
    hx hj =
    second_true (not (are_apart vs (object_token x) (meta_token j))) _
    (text_apart c l (own_naming declared) known (by_place new x) (instance ms (meta j)) w hx
    (other_than known (by_place new x) (instance ms (meta j))
    (no_variables_at ms j (meta j) none tt) hj))
values_apart c l declared known new ms vs (pattern_variable i) (object_variable y) w none stay hu hv
    hi hy =
    second_true (not (are_apart vs (meta_token i) (object_token y))) _
    (apart_text c l (own_naming declared) known (by_place new y) (instance ms (meta i)) w hy
    (other_than known (by_place new y) (instance ms (meta i))
    (no_variables_at ms i (meta i) none tt) hi))
values_apart c l declared known new ms vs (pattern_variable i) (pattern_variable j) w none stay hu
    hv hi hj =
    not_needed (are_apart vs (meta_token i) (meta_token j)) _ (patterns_apart vs i j)

-- a test that passes for the token of each variable
each_passes : (test : Token → Bool) (vs : List Variable)
    → ((v : Variable) → has_variable vs v ≡ true → test (variable_token v) ≡ true)
    → list_all test (map variable_token vs) ≡ true
each_passes test [] h = refl
each_passes test (v ∷ vs) h =
    both_true (test (variable_token v)) (list_all test (map variable_token vs))
    (h v (first_there v vs))
    (each_passes test vs (λ u there. h u (later_there v vs u there)))

typed-premises : (declared : List Token) (k j : ℕ) (ps : List Pattern)
    → typed_variables (premise_hypotheses declared k j ps) ≡ []
typed-premises declared k j [] = refl
typed-premises declared k j (p ∷ ps) = typed-premises declared k (j + 1) ps

typed-claim : (declared : List Token) (k : ℕ) (vs : List Variable) (ps : List Pattern)
    → typed_variables (map (variable_float k) vs ++ premise_hypotheses declared k 0 ps)
    ≡ map variable_token vs
typed-claim declared k [] ps = typed-premises declared k 0 ps
typed-claim declared k (v ∷ vs) ps = ap (λ ts. variable_token v ∷ ts) (typed-claim declared k vs ps)

claim_apart : (c : Context) (l : Naming) (declared : List Token) (known : LeafFacts) (i : ℕ)
    (s : Claim) (new : List ℕ) (ms : List Pattern) (sigma : Token → Expression)
    → Serves c l (own_naming declared) known → HaveNoVariables ms → StayApart new s.variables
    → HaveInstances known new ms s.variables → GivesInstances sigma declared new ms s.variables
    → keeps_apart (symbols_apart c) (open_frame declared i s) sigma ≡ true
claim_apart c l declared known i s new ms sigma w none stay given gives =
    rw (typed-claim declared i s.variables s.hypotheses)
    (each_passes (λ a. list_all (pair_apart (symbols_apart c) (open_frame declared i s) sigma a)
    (map variable_token s.variables)) s.variables
    (λ u hu. each_passes
    (pair_apart (symbols_apart c) (open_frame declared i s) sigma (variable_token u))
    s.variables (λ v hv. pair u v hu hv)))
  where
    pair : (u v : Variable) → has_variable s.variables u ≡ true → has_variable s.variables v ≡ true
        → pair_apart (symbols_apart c) (open_frame declared i s) sigma (variable_token u)
        (variable_token v) ≡ true
    pair u v hu hv =
        ap (λ e. not (are_apart s.variables (variable_token u) (variable_token v))
        || texts_apart (symbols_apart c) e (sigma (variable_token v))) (gives.there u hu)
        ∙ ap (λ e. not (are_apart s.variables (variable_token u) (variable_token v))
        || texts_apart (symbols_apart c) (value (own_naming declared) new ms u) e)
        (gives.there v hv)
        ∙ values_apart c l declared known new ms s.variables u v w none stay hu hv
        (instance_at known new ms s.variables u given hu)
        (instance_at known new ms s.variables v given hv)

-- The citation of a claim under other object variables proves its conclusion at the instances.
renamed_claim_proves : (c : Context) (l : Naming) (declared : List Token) (known : LeafFacts)
    (i : ℕ) (s : Claim) (new : List ℕ) (ms : List Pattern) (trees : List ProofTree)
    → AreNames declared → Serves c l (own_naming declared) known → IsClaim declared s
    → IsAssertion c (statement_label i) (open_frame declared i s) → HaveNoVariables ms
    → StayApart new s.variables → HaveInstances known new ms s.variables
    → AllProve c (forest_of trees) (map (holds_text (own_naming declared))
    (instances ms (map (renamed (by_place new)) s.hypotheses)))
    → Proves c (cite (statement_label i) (map (variable_tree l new ms) s.variables ++ trees))
    (holds_text (own_naming declared) (instance ms (renamed (by_place new) s.conclusion)))
renamed_claim_proves c l declared known i s new ms trees names w is there none stay given proved =
    let n : Naming = own_naming declared in
    let premises : List Hypothesis = premise_hypotheses declared i 0 s.hypotheses in
    let asked : List Expression =
    map (holds_text n) (instances ms (map (renamed (by_place new)) s.hypotheses)) in
    let entries : List Expression = map (entry n new ms) s.variables ++ asked in
    let sigma : Token → Expression = given_by n new ms i s.variables premises asked in
    let gives : GivesInstances sigma declared new ms s.variables = record {
      names = names;
      there = λ v has. given_variable n new ms i s.variables premises asked v is.numbered has;
      others = λ t h. given_other n new ms i s.variables declared s.hypotheses asked t h;
    } in (
      entries,
      leads-by c (statement_label i) (open_frame declared i s) entries
          (holds_text n (instance ms (renamed (by_place new) s.conclusion))) there
          (sym (map-append (instance_of
          sigma) (map (variable_float i) s.variables) premises ∙ ap (λ es. es
          ++ map (instance_of sigma) premises) (floats-instance sigma n new ms i s.variables
          gives.there) ∙ ap (λ es. map (entry n new ms) s.variables
          ++ es) (premises-instance sigma declared new ms s.variables i 0 s.hypotheses gives
          is.over.1)))
          (claim_apart c l declared known i s new ms sigma w none stay given gives)
          (holds-instance sigma declared new ms s.variables s.conclusion gives is.over.0),
      all_proofs c (map (variable_tree l new ms) s.variables) trees
          (map (entry n new ms) s.variables) asked
          (variables_prove c l n known new ms s.variables w given) proved,
    )

all_renamed-none : (ps : List Pattern) → map (renamed (by_place [])) ps ≡ ps
all_renamed-none [] = refl
all_renamed-none (p ∷ ps) = rw (renamed-none p, all_renamed-none ps) refl

-- and under its own object variables
pub claim_proves : (c : Context) (l : Naming) (declared : List Token) (known : LeafFacts) (i : ℕ)
    (s : Claim) (ms : List Pattern) (trees : List ProofTree) → AreNames declared
    → Serves c l (own_naming declared) known → IsClaim declared s
    → IsAssertion c (statement_label i) (open_frame declared i s) → HaveNoVariables ms
    → HaveInstances known [] ms s.variables
    → AllProve c (forest_of trees)
    (map (holds_text (own_naming declared)) (instances ms s.hypotheses))
    → Proves c (cite (statement_label i) (map (variable_tree l [] ms) s.variables ++ trees))
    (holds_text (own_naming declared) (instance ms s.conclusion))
claim_proves c l declared known i s ms trees names w is there none given proved =
    subst (λ (p : Pattern). Proves c
    (cite (statement_label i) (map (variable_tree l [] ms) s.variables ++ trees))
    (holds_text (own_naming declared) (instance ms p))) (renamed-none s.conclusion)
    (renamed_claim_proves c l declared known i s [] ms trees names w is there none
    (λ x y hx hy same. same) given
    (subst (λ (ps : List Pattern).
    AllProve c (forest_of trees) (map (holds_text (own_naming declared)) (instances ms ps)))
    (sym (all_renamed-none s.hypotheses)) proved))

-- a claim at a place
pub claim_is : (claims : List Claim) (k : ℕ) (s : Claim) → slice_get claims k ≡ Some s
    → claim_at claims k ≡ s
claim_is [] k s h = absurd (let z : ⊥ = cc in z)
claim_is (r ∷ rs) zero s h = let same : r ≡ s = cc in same
claim_is (r ∷ rs) (suc k) s h = claim_is rs k s h

-- what may be cited is cited soundly
lemma_proves : (c : Context) (declared : List Token) (known : LeafFacts) (claims : List Claim)
    (k : ℕ) (hypotheses : List Pattern) (place : List Pattern → Pattern → ℕ)
    (own : List Pattern) (q : Pattern) (ms : List Pattern) (trees : List ProofTree)
    → AreNames declared → Serves c (own_labels k) (own_naming declared) known
    → ServesClaims c declared claims k hypotheses → IsCitable known claims place own q [] ms
    → HaveNoVariables ms
    → AllProve c (forest_of trees) (map (holds_text (own_naming declared)) (instances ms own))
    → Proves c (claim_tree (own_labels k) (at_places claims place own q) [] ms trees)
    (holds_text (own_naming declared) (instance ms q))
lemma_proves c declared known claims k hypotheses place own q ms trees names w serves cited none
    proved =
    subst (λ (s : Claim). Proves c (cite (statement_label (place own q))
    (map (variable_tree (own_labels k) [] ms) s.variables ++ trees))
    (holds_text (own_naming declared) (instance ms q)))
    (sym (claim_is claims (place own q) cited.claim cited.there))
    (subst (λ (p : Pattern). Proves c (cite (statement_label (place own q))
    (map (variable_tree (own_labels k) [] ms) cited.claim.variables ++ trees))
    (holds_text (own_naming declared) (instance ms p))) cited.conclusion
    (claim_proves c (own_labels k) declared known (place own q) cited.claim ms trees names w
    (serves.claimed (place own q) cited.claim cited.there)
    (serves.frames (place own q) cited.claim cited.there) none cited.instances
    (subst (λ (ps : List Pattern).
    AllProve c (forest_of trees) (map (holds_text (own_naming declared)) (instances ms ps)))
    (sym cited.hypotheses) proved)))

-- a variable of a claim without hypotheses occurs in its conclusion
or_absent : (a b a' b' : Bool) → (a || b) ≡ true → (a ≡ true → a' ≡ false) → (b ≡ true → b' ≡ false)
    → (a' && b') ≡ false
or_absent true b false b' h f g = refl
or_absent true b true b' h f g = absurd (false≢true (sym (f refl)))
or_absent false b a' b' h f g = and_false a' b' (g h)

same_number : (x y : ℕ) → (y == x) ≡ true → not (x == y) ≡ false
same_number x y h =
    ap (λ (z : ℕ). not (x == z)) (eqb-true y x h) ∙ ap not (itself_same (object_variable x))

stands-absent : (x : ℕ) (p : Pattern) → occurs_in (object_variable x) p ≡ true → absent x p ≡ false
stands-absent x (binary c p q) h = or_absent _ _ _ _ h (stands-absent x p) (stands-absent x q)
stands-absent x (unary c p) h = stands-absent x p h
stands-absent x (sorted c p s) h = stands-absent x p h
stands-absent x (quantified c y s p) h = or_absent _ _ _ _ h (same_number x y) (stands-absent x p)
stands-absent x (var y) h = same_number x y h
stands-absent x p h = absurd (false≢true h)

passes_at : (test : Variable → Bool) (vs : List Variable) (v : Variable) → list_all test vs ≡ true
    → has_variable vs v ≡ true → test v ≡ true
passes_at test [] v every has = absurd (false≢true has)
passes_at test (u ∷ us) v every has =
    case_variable (λ w. test w ≡ true) u us v has (split_true (test u) (list_all test us) every).0
    (λ h. passes_at test us v (split_true (test u) (list_all test us) every).1 h)

stands_there : (declared : List Token) (s : Claim) (x : ℕ) → IsClaim declared s → s.hypotheses ≡ []
    → has_variable s.variables (object_variable x) ≡ true → absent x s.conclusion ≡ false
stands_there declared s x is none has =
    stands-absent x s.conclusion
    (first_only (occurs_in (object_variable x) s.conclusion)
    (ap (λ (ps : List Pattern). occurs_in (object_variable x) s.conclusion
    || list_any (occurs_in (object_variable x)) ps) (sym none)
    ∙ passes_at (λ v. list_any (occurs_in v) (s.conclusion ∷ s.hypotheses)) s.variables
    (object_variable x) is.stand has))
  where
    first_only : (a : Bool) → (a || false) ≡ true → a ≡ true
    first_only true h = refl
    first_only false h = h

-- an axiom, with new numbers for its bound variables
fact_proves : (c : Context) (declared : List Token) (known : LeafFacts) (claims : List Claim)
    (k : ℕ) (hypotheses : List Pattern) (place : List Pattern → Pattern → ℕ) (p q : Pattern)
    (new : List ℕ) → AreNames declared → Serves c (own_labels k) (own_naming declared) known
    → ServesClaims c declared claims k hypotheses → IsCitable known claims place [] p new []
    → Renames (by_place new) p q
    → Proves c (claim_tree (own_labels k) (at_places claims place [] p) new [] [])
    (holds_text (own_naming declared) q)
fact_proves c declared known claims k hypotheses place p q new names w serves cited renames =
    let s : Claim = cited.claim in
    let is : IsClaim declared s = serves.claimed (place [] p) s cited.there in
    let there : (x : ℕ) → has_variable s.variables (object_variable x) ≡ true → absent x p ≡ false =
    λ x has.
    ap (absent x) (sym cited.conclusion) ∙ stands_there declared s x is cited.hypotheses has in
    let concludes : instance [] (renamed (by_place new) s.conclusion) ≡ q =
    instance-none (renamed (by_place new) s.conclusion)
    ∙ ap (renamed (by_place new)) cited.conclusion ∙ sym renames.result in
    subst (λ (r : Claim). Proves c (cite (statement_label (place [] p))
    (map (variable_tree (own_labels k) new []) r.variables ++ []))
    (holds_text (own_naming declared) q)) (sym (claim_is claims (place [] p) s cited.there))
    (subst (λ (r : Pattern). Proves c (cite (statement_label (place [] p))
    (map (variable_tree (own_labels k) new []) s.variables ++ []))
    (holds_text (own_naming declared) r)) concludes
    (renamed_claim_proves c (own_labels k) declared known (place [] p) s new [] [] names w is
    (serves.frames (place [] p) s cited.there) tt
    (λ x y hx hy same. renames.one_to_one x y (there x hx) (there y hy) same) cited.instances
    (subst (λ (ps : List Pattern). AllProve c (forest_of []) (map (holds_text (own_naming declared))
    (instances [] (map (renamed (by_place new)) ps)))) (sym cited.hypotheses) refl)))

pub citing_is_sound : (c : Context) (declared : List Token) (known : LeafFacts)
    (claims : List Claim) (k : ℕ) (hypotheses : List Pattern)
    (place : List Pattern → Pattern → ℕ) (premise_place : Pattern → ℕ) → AreNames declared
    → Serves c (own_labels k) (own_naming declared) known
    → ServesClaims c declared claims k hypotheses → ArePremises hypotheses premise_place
    → CitesSoundly c (own_naming declared) hypotheses (citable known claims place)
    (claims_citing k (at_places claims place) premise_place)
citing_is_sound c declared known claims k hypotheses place premise_place names w serves are = record {
  premise =
      λ p there. (
        [],
        by_hypothesis
            (essential (premise_label k (premise_place p)) (holds_text (own_naming declared) p))
            (serves.premises (premise_place p) p (are p there)),
        refl,
      );
  fact =
      λ p q new cited renames. fact_proves c declared known claims k hypotheses place p q new names
      w serves cited renames;
  lemma =
      λ own q ms trees cited none proved. lemma_proves c declared known claims k hypotheses place
      own q ms trees names w serves cited none proved;
}
