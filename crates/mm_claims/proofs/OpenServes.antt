-- Inside the block of a claim its variables are typed and kept apart, and what was declared before
-- is still there.
use Rattle.std.proofs.Common.{◌≡◌, ℕ, ◌+◌, ◌<◌, ◌^◌, Bool, true, false, List, [], ◌∷◌, ◌++◌, length}
use Rattle.std.proofs.Common.{zero, suc, map, refl, ap, ◌∙◌, sym, subst, arith, Some, None}
use Rattle.std.proofs.Common.{slice_get}
use Rattle.std.specs.Prelude.{◌&&◌, ◌||◌, not, if◌then◌else◌, filter, codes, bytes_eq}
use Rattle.std.specs.List.{list_any}
use Rattle.std.proofs.lemmas.Bool.{false≢true}
use Rattle.std.proofs.lemmas.Slice.Eq.{bytes_eq-Decides}
use Rattle.mm_text.specs.Bytes.{Token, has_token}
use Rattle.mm_database.specs.Frames.{Hypothesis, essential, label_of, Scope, Frame}
use Rattle.mm_database.specs.Database.{Context, are_different_tokens}
use Rattle.mm_database.specs.Proofs.{active_hypothesis, hypothesis_of, symbols_apart}
use Rattle.mm_header.specs.HeaderContext.{header_context}
use Rattle.ml_pat.specs.Patterns.{Pattern}
use Rattle.mm_proof.specs.Tokens.{name_of, own_naming, object_token, meta_token}
use Rattle.mm_proof.specs.Labels.{name_label, premise_label, own_labels}
use Rattle.mm_proof.specs.Serving.{IsAssertion, Declares, Serves, punctuation}
use Rattle.mm_proof.specs.ClosedFrames.{closed_frame}
use Rattle.mm_proof.specs.Derivations.{holds_text}
use Rattle.ml_pat.proofs.LeafLaws.{both_true, split_true}
use Rattle.mm_claims.specs.Statements.{typecode_of}
use Rattle.mm_claims.specs.Fitting.{Holds}
use Rattle.mm_claims.specs.Variables.{Variable, object_variable, pattern_variable, is_object}
use Rattle.mm_claims.specs.Variables.{number_of, same_variable, has_variable, AreNumbered}
use Rattle.mm_claims.specs.Variables.{variable_label, variable_tokens, object_tokens}
use Rattle.mm_claims.specs.Variables.{is_variable_token}
use Rattle.mm_claims.specs.Blocks.{Claim, variable_float, premise_hypotheses, separations}
use Rattle.mm_claims.specs.Blocks.{are_apart}
use Rattle.mm_claims.specs.OverNames.{open_over}
use Rattle.mm_claims.specs.Claiming.{IsFree, HoldsClaims}
use Rattle.mm_claims.proofs.NameLaws.{name_facts}
use Rattle.mm_claims.proofs.StatedLaws.{itself, name_at, fixed_variables, fixed_constants}
use Rattle.mm_claims.proofs.VariableLaws.{same_is, token_differs, label_differs, premise_differs}
use Rattle.mm_claims.proofs.VariableLaws.{no_other_among, numbered_at}
use Rattle.mm_claims.proofs.InsideLaws.{list_any-append, map-append}
use Rattle.mm_claims.proofs.Separations.{present_token, separations_apart}
use Rattle.mm_claims.proofs.OpenTexts.{own_hypotheses}
use Rattle.mm_claims.proofs.BlockLaws.{inside_block}
use Rattle.mm_claims.proofs.BoolLaws.{both_false, either_true, second_true, not_false}

-- hypotheses by their labels

pub found_behind : (xs ys : List Hypothesis) (l : Token) → hypothesis_of xs l ≡ None
    → hypothesis_of (xs ++ ys) l ≡ hypothesis_of ys l
found_behind [] ys l h = refl
found_behind (x ∷ xs) ys l h = go (bytes_eq (label_of x) l) h (found_behind xs ys l)
  where
    go : (b : Bool) → (if b then Some x else hypothesis_of xs l) ≡ None
        → (hypothesis_of xs l ≡ None → hypothesis_of (xs ++ ys) l ≡ hypothesis_of ys l)
        → (if b then Some x else hypothesis_of (xs ++ ys) l) ≡ hypothesis_of ys l
    go true found behind = absurd (cc)
    go false none behind = behind none

not_found : (hs : List Hypothesis) (l : Token) → has_token (map label_of hs) l ≡ false
    → hypothesis_of hs l ≡ None
not_found [] l h = refl
not_found (g ∷ hs) l h = go (bytes_eq (label_of g) l) h (not_found hs l)
  where
    go : (b : Bool) → (b || has_token (map label_of hs) l) ≡ false
        → (has_token (map label_of hs) l ≡ false → hypothesis_of hs l ≡ None)
        → (if b then Some g else hypothesis_of hs l) ≡ None
    go true there behind = absurd (false≢true (sym there))
    go false none behind = behind none

float_found : (k : ℕ) (vs : List Variable) (hs : List Hypothesis) (v : Variable) → k < 2 ^ 64
    → AreNumbered vs → number_of v < 2 ^ 64 → has_variable vs v ≡ true
    → hypothesis_of (map (variable_float k) vs ++ hs) (variable_label k v)
    ≡ Some (variable_float k v)
float_found k [] hs v small all h there = absurd (false≢true there)
float_found k (u ∷ vs) hs v small all h there =
    go (same_variable u v) refl there (float_found k vs hs v small all.1 h)
  where
    found : hypothesis_of (variable_float k u ∷ (map (variable_float k) vs ++ hs))
        (variable_label k u) ≡ Some (variable_float k u)
    found =
        ap (λ (b : Bool). if b then Some (variable_float k u)
        else hypothesis_of (map (variable_float k) vs ++ hs) (variable_label k u))
        (itself (variable_label k u))

    go : (b : Bool) → same_variable u v ≡ b → (b || has_variable vs v) ≡ true
        → (has_variable vs v ≡ true
        → hypothesis_of (map (variable_float k) vs ++ hs) (variable_label k v)
        ≡ Some (variable_float k v))
        → hypothesis_of (variable_float k u ∷ (map (variable_float k) vs ++ hs))
        (variable_label k v) ≡ Some (variable_float k v)
    go true is there behind =
        subst (λ (x : Variable). hypothesis_of
        (variable_float k u ∷ (map (variable_float k) vs ++ hs)) (variable_label k x)
        ≡ Some (variable_float k x)) (same_is u v is) found
    go false is there behind =
        ap (λ (b : Bool). if b then Some (variable_float k u)
        else hypothesis_of (map (variable_float k) vs ++ hs) (variable_label k v))
        (label_differs k u v small all.0 h is) ∙ behind there

header_no_float : (k : ℕ) (v : Variable)
    → hypothesis_of header_context.scope.hypotheses (variable_label k v) ≡ None
unfolding header_context
header_no_float k (object_variable i) = refl
header_no_float k (pattern_variable i) = refl

header_no_premise : (k j : ℕ)
    → hypothesis_of header_context.scope.hypotheses (premise_label k j) ≡ None
unfolding header_context
header_no_premise k j = refl

floats_no_premise : (k : ℕ) (vs : List Variable) (j : ℕ)
    → hypothesis_of (map (variable_float k) vs) (premise_label k j) ≡ None
floats_no_premise k [] j = refl
floats_no_premise k (object_variable i ∷ vs) j = floats_no_premise k vs j
floats_no_premise k (pattern_variable i ∷ vs) j = floats_no_premise k vs j

premise_found : (declared : List Token) (k j : ℕ) (ps : List Pattern) (i : ℕ) (p : Pattern)
    → k < 2 ^ 64 → j + length ps < 2 ^ 64 → slice_get ps i ≡ Some p
    → hypothesis_of (premise_hypotheses declared k j ps) (premise_label k (j + i))
    ≡ Some (essential (premise_label k (j + i)) (holds_text (own_naming declared) p))
premise_found declared k j [] i p small few h = absurd (no_item i h)
  where
    no_item : (i : ℕ) → slice_get [] i ≡ Some p → ⊥
    no_item i g = cc
premise_found declared k j (q ∷ ps) zero p small few h =
    let same : q ≡ p = cc in
    subst (λ (n : ℕ). hypothesis_of (premise_hypotheses declared k j (q ∷ ps)) (premise_label k n)
    ≡ Some (essential (premise_label k n) (holds_text (own_naming declared) p)))
    (omega arith)
    (ap (λ (b : Bool). if b
    then Some (essential (premise_label k j) (holds_text (own_naming declared) q))
    else hypothesis_of (premise_hypotheses declared k (j + 1) ps) (premise_label k j))
    (itself (premise_label k j))
    ∙ ap
    (λ (r : Pattern). Some (essential (premise_label k j) (holds_text (own_naming declared) r)))
    same)
premise_found declared k j (q ∷ ps) (suc i) p small few h =
    let within : i < length ps = inside_list ps i h in
    ap (λ (b : Bool). if b
    then Some (essential (premise_label k j) (holds_text (own_naming declared) q))
    else hypothesis_of (premise_hypotheses declared k (j + 1) ps) (premise_label k (j + suc i)))
    (premise_differs k j (j + suc i) small (omega (arith, few)) (omega (arith, few, within))
    (λ same. absurd (omega (arith, same))))
    ∙ subst (λ (n : ℕ). hypothesis_of (premise_hypotheses declared k (j + 1) ps) (premise_label k n)
    ≡ Some (essential (premise_label k n) (holds_text (own_naming declared) p)))
    (omega arith) (premise_found declared k (j + 1) ps i p small (omega (arith, few)) h)
  where
    inside_list : (ps : List Pattern) (i : ℕ) → slice_get ps i ≡ Some p → i < length ps
    inside_list [] i g = absurd (let z : ⊥ = cc in z)
    inside_list (r ∷ ps) zero g = omega arith
    inside_list (r ∷ ps) (suc i) g = omega (arith, inside_list ps i g)

-- an assertion that was there before the block is there inside it

free_floats : (k : ℕ) (c : Context) (vs : List Variable) → IsFree c k → AreNumbered vs
    → list_any c.labels (map label_of (map (variable_float k) vs)) ≡ false
free_floats k c [] w all = refl
free_floats k c (v ∷ vs) w all =
    both_false (c.labels (variable_label k v))
    (list_any c.labels (map label_of (map (variable_float k) vs))) (w.variable v all.0)
    (free_floats k c vs w all.1)

free_premises : (declared : List Token) (k j : ℕ) (c : Context) (ps : List Pattern) → IsFree c k
    → j + length ps < 2 ^ 64
    → list_any c.labels (map label_of (premise_hypotheses declared k j ps)) ≡ false
free_premises declared k j c [] w few = refl
free_premises declared k j c (p ∷ ps) w few =
    both_false (c.labels (premise_label k j))
    (list_any c.labels (map label_of (premise_hypotheses declared k (j + 1) ps)))
    (w.premise j (omega (arith, few)))
    (free_premises declared k (j + 1) c ps w (omega (arith, few)))

free_own : (declared : List Token) (k : ℕ) (c : Context) (vs : List Variable) (ps : List Pattern)
    → IsFree c k → AreNumbered vs → length ps < 2 ^ 64
    → list_any c.labels (map label_of (own_hypotheses declared k vs ps)) ≡ false
free_own declared k c vs ps w all few =
    ap (list_any c.labels)
    (map-append label_of (map (variable_float k) vs) (premise_hypotheses declared k 0 ps))
    ∙ list_any-append c.labels (map label_of (map (variable_float k) vs))
    (map label_of (premise_hypotheses declared k 0 ps))
    ∙ both_false (list_any c.labels (map label_of (map (variable_float k) vs)))
    (list_any c.labels (map label_of (premise_hypotheses declared k 0 ps)))
    (free_floats k c vs w all) (free_premises declared k 0 c ps w (omega (arith, few)))

taken_not : (labels : Token → Bool) (ls : List Token) (l : Token) → list_any labels ls ≡ false
    → labels l ≡ true → has_token ls l ≡ false
taken_not labels [] l h g = refl
taken_not labels (m ∷ ls) l h g = go (bytes_eq m l) refl (labels m) refl h (taken_not labels ls l)
  where
    go : (b : Bool) → bytes_eq m l ≡ b → (a : Bool) → labels m ≡ a
        → (a || list_any labels ls) ≡ false
        → (list_any labels ls ≡ false → labels l ≡ true → has_token ls l ≡ false)
        → (b || has_token ls l) ≡ false
    go b is true at none behind = absurd (false≢true (sym none))
    go true is false at none behind =
        absurd (false≢true (sym at ∙ ap labels ((bytes_eq-Decides m l).0 is) ∙ g))
    go false is false at none behind = behind none g

pub assertion_inside : (declared : List Token) (claims : List Claim) (c : Context) (at : ℕ)
    (vs : List Variable) (ps : List Pattern) (label : Token) (f : Frame)
    → HoldsClaims declared claims c → length claims < 2 ^ 64 → AreNumbered vs → length ps < 2 ^ 64
    → c.frames label ≡ Some f
    → IsAssertion (inside_block declared (length claims) c at vs ps) label f
assertion_inside declared claims c at vs ps label f w few numbered short h = record {
  kept = h;
  no_hypothesis =
      found_behind c.scope.hypotheses (own_hypotheses declared (length claims) vs ps) label
      (w.no_hypothesis label f h)
      ∙ not_found (own_hypotheses declared (length claims) vs ps) label (taken_not c.labels
      (map label_of (own_hypotheses declared (length claims) vs ps)) label
      (free_own declared (length claims) c vs ps (w.free (length claims) (omega arith) few)
      numbered short) (w.labelled label f h));
}

-- what is declared and typed inside

fixed_inside : (c : Context) (vs : List Variable) (ts : List Token)
    → map is_variable_token ts ≡ map (λ t. false) ts
    → map (λ t. c.variables t || has_token (variable_tokens vs) t) ts ≡ map c.variables ts
fixed_inside c vs [] h = refl
fixed_inside c vs (t ∷ ts) h =
    ap (λ (b : Bool). (c.variables t || b)
    ∷ map (λ u. c.variables u || has_token (variable_tokens vs) u) ts)
    (no_other_among vs t (ap first h))
    ∙ ap (λ (b : Bool). b ∷ map (λ u. c.variables u || has_token (variable_tokens vs) u) ts)
    (or_false (c.variables t))
    ∙ ap (λ (bs : List Bool). c.variables t ∷ bs) (fixed_inside c vs ts (ap others h))
  where
    first : List Bool → Bool
    first [] = false
    first (b ∷ bs) = b

    others : List Bool → List Bool
    others [] = []
    others (b ∷ bs) = bs

    or_false : (b : Bool) → (b || false) ≡ b
    or_false true = refl
    or_false false = refl

declared_inside : (declared : List Token) (claims : List Claim) (c : Context) (at : ℕ)
    (vs : List Variable) (ps : List Pattern) (typecode : Token) (i : ℕ)
    → HoldsClaims declared claims c → length claims < 2 ^ 64 → AreNumbered vs → length ps < 2 ^ 64
    → i < length declared → typecode_of (name_of declared i) ≡ typecode
    → Declares (inside_block declared (length claims) c at vs ps) typecode (name_label i)
    (name_of declared i)
declared_inside declared claims c at vs ps typecode i w few numbered short lt typed = record {
  stated =
      assertion_inside declared claims c at vs ps (name_label i)
      (closed_frame (name_label i) (typecode ∷ (name_of declared i ∷ []))) w few numbered short
      (w.base.frames i lt
      ∙ ap (λ (t : Token). Some (closed_frame (name_label i) (t ∷ (name_of declared i ∷ []))))
      typed);
  constant =
      both_false (c.variables (name_of declared i))
      (has_token (variable_tokens vs) (name_of declared i))
      (w.base.variables (name_of declared i)
      (name_facts (name_of declared i) (name_at declared i w.names lt)).no_variable_token
      ∙ (name_facts (name_of declared i) (name_at declared i w.names lt)).no_variable)
      (no_other_among vs (name_of declared i)
      (name_facts (name_of declared i) (name_at declared i w.names lt)).no_variable_token);
}

typed_inside : (declared : List Token) (k : ℕ) (c : Context) (at : ℕ) (vs : List Variable)
    (ps : List Pattern) (v : Variable) → Holds declared c → k < 2 ^ 64 → AreNumbered vs
    → has_variable vs v ≡ true
    → active_hypothesis (inside_block declared k c at vs ps) (variable_label k v)
    ≡ Some (variable_float k v)
typed_inside declared k c at vs ps v w small numbered there =
    found_behind c.scope.hypotheses (own_hypotheses declared k vs ps) (variable_label k v)
    (ap (λ (s : Scope). hypothesis_of s.hypotheses (variable_label k v)) w.scope
    ∙ header_no_float k v)
    ∙ float_found k vs (premise_hypotheses declared k 0 ps) v small numbered
    (numbered_at vs v numbered there) there

pub premise_inside : (declared : List Token) (k : ℕ) (c : Context) (at : ℕ) (vs : List Variable)
    (ps : List Pattern) (i : ℕ) (p : Pattern) → Holds declared c → k < 2 ^ 64
    → length ps < 2 ^ 64 → slice_get ps i ≡ Some p
    → active_hypothesis (inside_block declared k c at vs ps) (premise_label k i)
    ≡ Some (essential (premise_label k i) (holds_text (own_naming declared) p))
premise_inside declared k c at vs ps i p w small few h =
    found_behind c.scope.hypotheses (own_hypotheses declared k vs ps) (premise_label k i) (ap
    (λ (s : Scope). hypothesis_of s.hypotheses (premise_label k i)) w.scope
    ∙ header_no_premise k i)
    ∙ found_behind (map (variable_float k) vs) (premise_hypotheses declared k 0 ps)
    (premise_label k i) (floats_no_premise k vs i)
    ∙ subst (λ (n : ℕ). hypothesis_of (premise_hypotheses declared k 0 ps) (premise_label k n)
    ≡ Some (essential (premise_label k n) (holds_text (own_naming declared) p)))
    (omega arith) (premise_found declared k 0 ps i p small (omega (arith, few)) h)

-- which variables have to stay apart

filtered_has : (test : Variable → Bool) (vs : List Variable) (v : Variable) → test v ≡ true
    → has_variable vs v ≡ true → has_variable (filter test vs) v ≡ true
filtered_has test [] v h there = there
filtered_has test (u ∷ vs) v h there =
    go (test u) refl (same_variable u v) refl there (filtered_has test vs v h)
  where
    go : (a : Bool) → test u ≡ a → (b : Bool) → same_variable u v ≡ b
        → (b || has_variable vs v) ≡ true
        → (has_variable vs v ≡ true → has_variable (filter test vs) v ≡ true)
        → has_variable (if a then u ∷ filter test vs else filter test vs) v ≡ true
    go true at b is there behind =
        either (same_variable u v) (has_variable (filter test vs) v) b is there behind
      where
        either : (x y : Bool) → (b : Bool) → x ≡ b → (b || has_variable vs v) ≡ true
            → (has_variable vs v ≡ true → y ≡ true) → (x || y) ≡ true
        either x y true e g f = either_true x y e
        either x y false e g f = second_true x y (f g)
    go false at true is there behind = absurd (false≢true (sym at ∙ ap test (same_is u v is) ∙ h))
    go false at false is there behind = behind there

pub apart_inside : (declared : List Token) (k : ℕ) (c : Context) (at : ℕ) (vs : List Variable)
    (ps : List Pattern) (a b : Token) → Holds declared c → are_apart vs a b ≡ true
    → symbols_apart (inside_block declared k c at vs ps) a b ≡ true
apart_inside declared k c at vs ps a b w h =
    let differ : not (bytes_eq a b) ≡ true = (split_true (not (bytes_eq a b)) _ h).0 in
    second_true (not ((c.variables a || has_token (variable_tokens
    vs) a) && (c.variables b || has_token (variable_tokens vs) b))) _
    (both_true (not (bytes_eq a b))
    (c.scope.apart a b || list_any (λ d. are_different_tokens d a b) (separations vs)) differ
    (second_true (c.scope.apart a b)
    (list_any (λ d. are_different_tokens d a b) (separations vs))
    (separations_apart vs a b ∙ h)))

has_object : (vs : List Variable) (i : ℕ) → has_variable vs (object_variable i) ≡ true
    → has_token (object_tokens vs) (object_token i) ≡ true
has_object vs i h =
    present_token (filter is_object vs) (object_variable i)
    (filtered_has is_object vs (object_variable i) refl h)

pub serves_inside : (declared : List Token) (claims : List Claim) (c : Context) (at : ℕ)
    (vs : List Variable) (ps : List Pattern) → HoldsClaims declared claims c
    → length claims < 2 ^ 64 → AreNumbered vs → length ps < 2 ^ 64
    → Serves (inside_block declared (length claims) c at vs ps) (own_labels (length claims))
    (own_naming declared) (open_over declared vs)
serves_inside declared claims c at vs ps w few numbered short = record {
  header =
      λ label f h. assertion_inside declared claims c at vs ps label f w few numbered short
      (w.base.rows label f h);
  fixed = fixed_inside c vs punctuation refl ∙ fixed_variables declared c punctuation w.base refl
      ∙ fixed_constants;
  sort =
      λ i h.
      declared_inside declared claims c at vs ps (codes "#Sort") i w few numbered short h.0 h.1;
  constant =
      λ i h. declared_inside declared claims c at vs ps (codes "#Pattern") i w few numbered short
      h.0 h.1;
  object =
      λ x h. typed_inside declared (length claims) c at vs ps (object_variable x) w.base few
      numbered h;
  meta =
      λ i h. typed_inside declared (length claims) c at vs ps (pattern_variable i) w.base few
      numbered h;
  objects_apart =
      λ x y hx hy differ.
      apart_inside declared (length claims) c at vs ps (object_token x) (object_token y) w.base
      (pair (object_token x) (object_token y) (token_differs (object_variable x) (object_variable y)
      (numbered_at vs (object_variable x) numbered hx)
      (numbered_at vs (object_variable y) numbered hy) differ)
      (present_token vs (object_variable x) hx) (present_token vs (object_variable y) hy)
      (either_true (has_token (object_tokens vs) (object_token x)) _ (has_object vs x hx)));
  meta_apart =
      λ x i hx hi.
      apart_inside declared (length claims) c at vs ps (object_token x) (meta_token i) w.base
      (pair (object_token x) (meta_token i) refl (present_token vs (object_variable x) hx)
      (present_token vs (pattern_variable i) hi)
      (either_true (has_token (object_tokens vs) (object_token x)) _ (has_object vs x hx)));
  apart_meta =
      λ x i hx hi.
      apart_inside declared (length claims) c at vs ps (meta_token i) (object_token x) w.base
      (pair (meta_token i) (object_token x) refl (present_token vs (pattern_variable i) hi)
      (present_token vs (object_variable x) hx)
      (second_true (has_token (object_tokens vs) (meta_token i)) _ (has_object vs x hx)));
}
  where
    pair : (a b : Token) → bytes_eq a b ≡ false → has_token (variable_tokens vs) a ≡ true
        → has_token (variable_tokens vs) b ≡ true
        → (has_token (object_tokens vs) a || has_token (object_tokens vs) b) ≡ true
        → are_apart vs a b ≡ true
    pair a b differ ha hb some =
        both_true (not (bytes_eq a b)) _ (not_false (bytes_eq a b) differ)
        (both_true (has_token (variable_tokens vs) a && has_token (variable_tokens vs) b) _
        (both_true (has_token (variable_tokens vs) a) (has_token (variable_tokens vs) b) ha
        hb) some)
