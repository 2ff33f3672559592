-- A block after a text that fits, and what is true after the block.
use Rattle.std.proofs.Common.{◌≡◌, ℕ, ◌+◌, ◌<◌, ◌^◌, Bool, true, false, List, [], ◌∷◌, ◌++◌, length}
use Rattle.std.proofs.Common.{zero, suc, map, refl, ap, ◌∙◌, sym, subst, arith, append_assoc}
use Rattle.std.proofs.Common.{length-append, ◌⊎◌, inl, inr, Some, None, slice_get}
use Rattle.std.specs.Prelude.{◌||◌, if◌then◌else◌, codes, bytes_eq}
use Rattle.std.proofs.lemmas.Slice.Eq.{bytes_eq-Decides}
use Rattle.mm_text.specs.Bytes.{Token, has_token}
use Rattle.mm_text.specs.Labels.{is_label}
use Rattle.mm_database.specs.Frames.{label_of, Scope, Frame}
use Rattle.mm_database.specs.Database.{Context, with_tokens, with_token, with_frame, with_assertion}
use Rattle.mm_database.specs.Database.{with_block_closed}
use Rattle.mm_database.specs.Proofs.{hypothesis_of}
use Rattle.mm_database.specs.FrameLaws.{Adds}
use Rattle.mm_database.specs.Writing.{MayBeStated}
use Rattle.mm_header.specs.HeaderContext.{header_context}
use Rattle.ml_pat.specs.Patterns.{Pattern}
use Rattle.mm_proof.specs.Tokens.{letters_of, text_by, own_naming}
use Rattle.mm_proof.specs.Labels.{name_label, statement_label, premise_label}
use Rattle.ml_pat.specs.Leaves.{EachLeaf}
use Rattle.mm_proof.specs.Derivations.{holds_text}
use Rattle.ml_pat.proofs.LeafLaws.{EachLeaf-implied}
use Rattle.mm_claims.specs.Statements.{NameKind, sort_name, symbol_name, value_name, kind_front}
use Rattle.mm_claims.specs.Statements.{IsName}
use Rattle.mm_claims.specs.Fitting.{AreNames, Holds}
use Rattle.mm_claims.specs.Variables.{Variable, object_variable, pattern_variable, has_variable}
use Rattle.mm_claims.specs.Variables.{are_once, AreNumbered, variable_token, variable_label}
use Rattle.mm_claims.specs.Variables.{variable_tokens}
use Rattle.mm_claims.specs.Blocks.{Claim, IsClaim, premise_hypotheses, separations, head_statements}
use Rattle.mm_claims.specs.Blocks.{block, open_frame}
use Rattle.mm_claims.specs.OverNames.{open_over, AreOpenOver}
use Rattle.mm_claims.specs.Claiming.{IsFree, AreClaims, HoldsClaims}
use Rattle.mm_claims.proofs.SpeltLaws.{statement_label-is_label, statement_label-differs}
use Rattle.mm_claims.proofs.StatedLaws.{itself, statement_no_active, name_no_statement, row_differs}
use Rattle.mm_claims.proofs.VariableLaws.{label_elsewhere, premise_elsewhere, no_other_among}
use Rattle.mm_claims.proofs.VariableLaws.{has_append}
use Rattle.mm_claims.proofs.InsideLaws.{inside, Left, AddsAnywhere, asserted, AreSymbols}
use Rattle.mm_claims.proofs.InsideLaws.{block_opens}
use Rattle.mm_claims.proofs.HeadLaws.{IsGround, IsOwnLabel, statement_label_own, new_inside}
use Rattle.mm_claims.proofs.HeadLaws.{own_symbols}
use Rattle.mm_claims.proofs.OpenTexts.{own_hypotheses, own_ready, open_typed, open_symbols}
use Rattle.mm_claims.proofs.OpenTexts.{turnstile_constant, head_adds}
use Rattle.mm_claims.proofs.OpenFrames.{frame_is}
use Rattle.mm_claims.proofs.BoolLaws.{both_false, either_true, if_false, if_true}

-- the context after the block of a claim, in which these variables were declared
abbrev pub behind_block : List Token → ℕ → Context → Claim → List Variable → Context
behind_block declared k c s vs = record {
  constants = c.constants;
  variables = with_tokens c.variables (variable_tokens vs);
  labels =
      with_token (with_tokens c.labels (map label_of (own_hypotheses declared k vs s.hypotheses)))
      (statement_label k);
  frames = with_frame c.frames (statement_label k) (open_frame declared k s);
  scope = c.scope;
  blocks = c.blocks;
}

-- the context inside the block of a claim
abbrev pub inside_block : List Token → ℕ → Context → ℕ → List Variable → List Pattern → Context
inside_block declared k c at vs ps =
    inside c at (variable_tokens vs) (own_hypotheses declared k vs ps) (separations vs)

pub block_left : (declared : List Token) (k : ℕ) (c : Context) (at : ℕ) (s : Claim)
    (more : List Variable) → Holds declared c → AreNames declared → IsClaim declared s
    → are_once (s.variables ++ more) ≡ true → AreNumbered (s.variables ++ more)
    → with_block_closed (with_assertion
    (inside_block declared k c at (s.variables ++ more) s.hypotheses)
    (statement_label k) (holds_text (own_naming declared) s.conclusion))
    (record { at = at; outside = c.scope } ∷ c.blocks)
    ≡ behind_block declared k c s (s.variables ++ more)
block_left declared k c at s more w names claim once numbered =
    ap (λ (f : Frame). let d : Context = record {
      constants = c.constants;
      variables = with_tokens c.variables (variable_tokens (s.variables ++ more));
      labels =
          with_token (with_tokens c.labels
          (map label_of (own_hypotheses declared k (s.variables ++ more) s.hypotheses)))
          (statement_label k);
      frames = with_frame c.frames (statement_label k) f;
      scope = c.scope;
      blocks = c.blocks;
    } in d) (frame_is declared k c at s more w names claim once numbered)

-- its own labels differ from these

object_no_name : (k i : ℕ) (n : NameKind) (rest : Token)
    → bytes_eq (variable_label k (object_variable i)) (kind_front n ++ rest) ≡ false
object_no_name k i sort_name rest = refl
object_no_name k i symbol_name rest = refl
object_no_name k i value_name rest = refl

pattern_no_name : (k i : ℕ) (n : NameKind) (rest : Token)
    → bytes_eq (variable_label k (pattern_variable i)) (kind_front n ++ rest) ≡ false
pattern_no_name k i sort_name rest = refl
pattern_no_name k i symbol_name rest = refl
pattern_no_name k i value_name rest = refl

premise_no_name : (k j : ℕ) (n : NameKind) (rest : Token)
    → bytes_eq (premise_label k j) (kind_front n ++ rest) ≡ false
premise_no_name k j sort_name rest = refl
premise_no_name k j symbol_name rest = refl
premise_no_name k j value_name rest = refl

-- a token that is not a label of a variable or hypothesis of a block
record IsNoOwn (k : ℕ) (t : Token) : Type 0 where
  object : (i : ℕ) → bytes_eq (variable_label k (object_variable i)) t ≡ false
  pattern : (i : ℕ) → bytes_eq (variable_label k (pattern_variable i)) t ≡ false
  premise : (j : ℕ) → bytes_eq (premise_label k j) t ≡ false

no_premise : (declared : List Token) (k j : ℕ) (ps : List Pattern) (t : Token) → IsNoOwn k t
    → has_token (map label_of (premise_hypotheses declared k j ps)) t ≡ false
no_premise declared k j [] t w = refl
no_premise declared k j (p ∷ ps) t w =
    both_false (bytes_eq (premise_label k j) t)
    (has_token (map label_of (premise_hypotheses declared k (j + 1) ps)) t) (w.premise j)
    (no_premise declared k (j + 1) ps t w)

no_own : (declared : List Token) (k : ℕ) (vs : List Variable) (ps : List Pattern) (t : Token)
    → IsNoOwn k t → has_token (map label_of (own_hypotheses declared k vs ps)) t ≡ false
no_own declared k [] ps t w = no_premise declared k 0 ps t w
no_own declared k (object_variable i ∷ vs) ps t w =
    both_false (bytes_eq (variable_label k (object_variable i)) t)
    (has_token (map label_of (own_hypotheses declared k vs ps)) t) (w.object i)
    (no_own declared k vs ps t w)
no_own declared k (pattern_variable i ∷ vs) ps t w =
    both_false (bytes_eq (variable_label k (pattern_variable i)) t)
    (has_token (map label_of (own_hypotheses declared k vs ps)) t) (w.pattern i)
    (no_own declared k vs ps t w)

name_no_own : (k : ℕ) (t : Token) → IsName t → IsNoOwn k t
name_no_own k t w = record {
  object =
      λ i. ap (bytes_eq (variable_label k (object_variable i))) w.is
      ∙ object_no_name k i w.kind w.rest;
  pattern =
      λ i. ap (bytes_eq (variable_label k (pattern_variable i))) w.is
      ∙ pattern_no_name k i w.kind w.rest;
  premise = λ j. ap (bytes_eq (premise_label k j)) w.is ∙ premise_no_name k j w.kind w.rest;
}

token_no_own : (k : ℕ) (v : Variable) → IsNoOwn k (variable_token v)
token_no_own k (object_variable n) = record {
  object = λ i. refl;
  pattern = λ i. refl;
  premise = λ j. refl;
}
token_no_own k (pattern_variable n) = record {
  object = λ i. refl;
  pattern = λ i. refl;
  premise = λ j. refl;
}

other_block_variable : (k l : ℕ) (v : Variable) → k < 2 ^ 64 → l < 2 ^ 64 → (k ≡ l → ⊥)
    → IsNoOwn k (variable_label l v)
other_block_variable k l (object_variable n) h g other = record {
  object =
      λ i. label_elsewhere k l (object_variable i) (object_variable n) h g other;
  pattern = λ i. refl;
  premise = λ j. refl;
}
other_block_variable k l (pattern_variable n) h g other = record {
  object = λ i. refl;
  pattern = λ i. label_elsewhere k l (pattern_variable i) (pattern_variable n) h g other;
  premise = λ j. refl;
}

other_block_premise : (k l n : ℕ) → k < 2 ^ 64 → l < 2 ^ 64 → (k ≡ l → ⊥)
    → IsNoOwn k (premise_label l n)
other_block_premise k l n h g other = record {
  object = λ i. refl;
  pattern = λ i. refl;
  premise = λ j. premise_elsewhere k l j n h g other;
}

statement_no_own : (k l : ℕ) → IsNoOwn k (statement_label l)
statement_no_own k l = record { object = λ i. refl; pattern = λ i. refl; premise = λ j. refl }

name_label_no_own : (k i : ℕ) → IsNoOwn k (name_label i)
name_label_no_own k i = record { object = λ n. refl; pattern = λ n. refl; premise = λ j. refl }

-- no label of a block is that of its assertion, or a token of a variable
variable_no_statement : (k l : ℕ) (v : Variable)
    → bytes_eq (variable_label k v) (statement_label l) ≡ false
variable_no_statement k l (object_variable i) = refl
variable_no_statement k l (pattern_variable i) = refl

token_no_statement : (v : Variable) (l : ℕ)
    → bytes_eq (variable_token v) (statement_label l) ≡ false
token_no_statement (object_variable i) l = refl
token_no_statement (pattern_variable i) l = refl

-- what is true after a block

three_false : (a b d : Bool) → a ≡ false → b ≡ false → d ≡ false → ((a || b) || d) ≡ false
three_false a b d h g f = rw (h, g, f) refl

base_behind : (declared : List Token) (k : ℕ) (c : Context) (s : Claim) (vs : List Variable)
    → Holds declared c → Holds declared (behind_block declared k c s vs)
base_behind declared k c s vs w =
    record {
      rows = λ label f h. rows label f h;
      scope = w.scope;
      variables =
          λ t h. ap (λ (b : Bool). c.variables t || b) (no_other_among vs t h)
          ∙ or_false (c.variables t) ∙ w.variables t h;
      constants = w.constants;
      frames = λ i lt. w.frames i lt;
      free =
          λ i le lt. three_false (c.labels (name_label i))
          (has_token (map label_of (own_hypotheses declared k vs s.hypotheses)) (name_label i))
          false (w.free i le lt)
          (no_own declared k vs s.hypotheses (name_label i) (name_label_no_own k i)) refl;
      no_label =
          λ t h. three_false (c.labels t)
          (has_token (map label_of (own_hypotheses declared k vs s.hypotheses)) t)
          (bytes_eq t (statement_label k)) (w.no_label t h)
          (no_own declared k vs s.hypotheses t (name_no_own k t h)) (name_no_statement t k h);
    }
  where
    or_false : (b : Bool) → (b || false) ≡ b
    or_false true = refl
    or_false false = refl

    rows : (label : Token) (f : Frame) → header_context.frames label ≡ Some f
        → (behind_block declared k c s vs).frames label ≡ Some f
    rows label f h =
        if_false (bytes_eq label (statement_label k)) _ (c.frames label) (row_differs label f k h)
        ∙ w.rows label f h

last_claim : (xs : List Claim) (x : Claim) (k : ℕ) (q : Claim) → slice_get (xs ++ x ∷ []) k ≡ Some q
    → ((slice_get xs k ≡ Some q) × (k < length xs)) ⊎ ((k ≡ length xs) × (x ≡ q))
last_claim [] x zero q h = inr (refl, (let same : x ≡ q = cc in same))
last_claim [] x (suc k) q h = absurd (no_claim k h)
  where
    no_claim : (k : ℕ) → slice_get [] k ≡ Some q → ⊥
    no_claim k g = cc
last_claim (y ∷ xs) x zero q h = inl (h, omega arith)
last_claim (y ∷ xs) x (suc k) q h = go (last_claim xs x k q h)
  where
    go : ((slice_get xs k ≡ Some q) × (k < length xs)) ⊎ ((k ≡ length xs) × (x ≡ q))
        → ((slice_get xs k ≡ Some q) × (suc k < suc (length xs)))
        ⊎ ((suc k ≡ suc (length xs)) × (x ≡ q))
    go (inl w) = inl (w.0, omega (arith, w.1))
    go (inr w) = inr (ap suc w.0, w.1)

claims_last : (declared : List Token) (ss : List Claim) (s : Claim) → AreClaims declared ss
    → IsClaim declared s → AreClaims declared (ss ++ s ∷ [])
claims_last declared [] s all h = (h, tt)
claims_last declared (r ∷ ss) s all h = (all.0, claims_last declared ss s all.1 h)

pub claims_hold : (declared : List Token) (claims : List Claim) (c : Context) (s : Claim)
    (vs : List Variable) → HoldsClaims declared claims c → length claims < 2 ^ 64
    → IsClaim declared s
    → HoldsClaims declared (claims ++ s ∷ []) (behind_block declared (length claims) c s vs)
claims_hold declared claims c s vs w few claim = record {
  base = base_behind declared (length claims) c s vs w.base;
  names = w.names;
  claimed = claims_last declared claims s w.claimed claim;
  frames = λ k q h. frame_at k q (last_claim claims s k q h);
  free = λ k le lt. free_at k (omega (arith, le, length-append claims (s ∷ []))) lt;
  no_label =
      λ v. three_false (c.labels (variable_token v)) (has_token
      (map label_of (own_hypotheses declared (length claims) vs s.hypotheses))
      (variable_token v)) (bytes_eq (variable_token v) (statement_label (length claims)))
      (w.no_label v) (no_own declared (length claims) vs s.hypotheses (variable_token v)
      (token_no_own (length claims) v)) (token_no_statement v (length claims));
  spelt = λ label f h. spelt_at label f (bytes_eq label (statement_label (length claims))) refl h;
  labelled =
      λ label f h. labelled_at label f (bytes_eq label (statement_label (length claims))) refl h;
  no_hypothesis =
      λ label f h. other_at label f (bytes_eq label (statement_label (length claims))) refl h;
}
  where
    frame_at : (k : ℕ) (q : Claim)
        → ((slice_get claims k ≡ Some q) × (k < length claims)) ⊎ ((k ≡ length claims) × (s ≡ q))
        → (behind_block declared (length claims) c s vs).frames (statement_label k)
        ≡ Some (open_frame declared k q)
    frame_at k q (inl h) =
        if_false (bytes_eq (statement_label k) (statement_label (length claims))) _
        (c.frames (statement_label k)) (statement_label-differs k (length claims)
        (omega (arith, h.1, few)) few (λ same. absurd (omega (arith, h.1, same))))
        ∙ w.frames k q h.0
    frame_at k q (inr h) =
        subst (λ (j : ℕ). (behind_block declared (length claims) c s vs).frames (statement_label j)
        ≡ Some (open_frame declared j q)) (sym h.0)
        (if_true (bytes_eq (statement_label (length claims)) (statement_label (length claims))) _ _
        (itself (statement_label (length claims)))
        ∙ ap (λ (r : Claim). Some (open_frame declared (length claims) r)) h.1)

    free_at : (k : ℕ) → length claims < k → k < 2 ^ 64
        → IsFree (behind_block declared (length claims) c s vs) k
    free_at k le lt =
        let free : IsFree c k = w.free k (omega (arith, le)) lt in
        let other : length claims ≡ k → ⊥ = λ same. absurd (omega (arith, le, same)) in
        record {
          statement =
              three_false (c.labels (statement_label k)) (has_token
              (map label_of (own_hypotheses declared (length claims) vs s.hypotheses))
              (statement_label k))
              (bytes_eq (statement_label k) (statement_label (length claims)))
              free.statement (no_own declared (length claims) vs s.hypotheses (statement_label k)
              (statement_no_own (length claims) k)) (statement_label-differs k
              (length claims) lt few (λ same. absurd (omega (arith, le, same))));
          variable =
              λ v h. three_false (c.labels (variable_label k v)) (has_token
              (map label_of (own_hypotheses declared (length claims) vs s.hypotheses))
              (variable_label k v))
              (bytes_eq (variable_label k v) (statement_label (length claims)))
              (free.variable v h) (no_own declared (length claims) vs s.hypotheses
              (variable_label k v) (other_block_variable (length claims) k v few lt other))
              (variable_no_statement k (length claims) v);
          premise =
              λ j h. three_false (c.labels (premise_label k j)) (has_token
              (map label_of (own_hypotheses declared (length claims) vs s.hypotheses))
              (premise_label k j))
              (bytes_eq (premise_label k j) (statement_label (length claims)))
              (free.premise j h) (no_own declared (length claims) vs s.hypotheses
              (premise_label k j) (other_block_premise (length claims) k j few lt other))
              refl;
        }

    spelt_at : (label : Token) (f : Frame) (b : Bool)
        → bytes_eq label (statement_label (length claims)) ≡ b
        → (if b then Some (open_frame declared (length claims) s) else c.frames label) ≡ Some f
        → is_label label ≡ true
    spelt_at label f true is h =
        ap is_label ((bytes_eq-Decides label (statement_label (length claims))).0 is)
        ∙ statement_label-is_label (length claims) few
    spelt_at label f false is h = w.spelt label f h

    labelled_at : (label : Token) (f : Frame) (b : Bool)
        → bytes_eq label (statement_label (length claims)) ≡ b
        → (if b then Some (open_frame declared (length claims) s) else c.frames label) ≡ Some f
        → (behind_block declared (length claims) c s vs).labels label ≡ true
    labelled_at label f true is h =
        second (c.labels label
        || has_token
        (map label_of (own_hypotheses declared (length claims) vs s.hypotheses)) label)
        (bytes_eq label (statement_label (length claims))) is
      where
        second : (a b : Bool) → b ≡ true → (a || b) ≡ true
        second true b g = refl
        second false b g = g
    labelled_at label f false is h =
        either_true (c.labels label
        || has_token
        (map label_of (own_hypotheses declared (length claims) vs s.hypotheses)) label)
        _ (either_true (c.labels label) _ (w.labelled label f h))

    other_at : (label : Token) (f : Frame) (b : Bool)
        → bytes_eq label (statement_label (length claims)) ≡ b
        → (if b then Some (open_frame declared (length claims) s) else c.frames label) ≡ Some f
        → hypothesis_of c.scope.hypotheses label ≡ None
    other_at label f true is h = ap (λ (o : Scope). hypothesis_of o.hypotheses label) w.base.scope
        ∙ ap (hypothesis_of header_context.scope.hypotheses)
        ((bytes_eq-Decides label (statement_label (length claims))).0 is)
        ∙ statement_no_active (length claims)
    other_at label f false is h = w.no_hypothesis label f h

-- what a block's assertion needs

pub ground : (declared : List Token) (claims : List Claim) (c : Context)
    → HoldsClaims declared claims c → length claims < 2 ^ 64 → IsGround declared (length claims) c
ground declared claims c w few = record {
  base = w.base;
  names = w.names;
  free = w.free (length claims) (omega arith) few;
  no_label = w.no_label;
  small = few;
}

-- over more variables
pub more_variables : (declared : List Token) (vs more : List Variable) (p : Pattern)
    → EachLeaf (open_over declared vs) p → EachLeaf (open_over declared (vs ++ more)) p
more_variables declared vs more p leaves =
    EachLeaf-implied (open_over declared vs) (open_over declared (vs ++ more)) p (record {
      sort = λ i h. h;
      constant = λ i h. h;
      object =
          λ i h. has_append vs more (object_variable i)
          ∙ either_true (has_variable vs (object_variable i)) _ h;
      meta =
          λ i h. has_append vs more (pattern_variable i)
          ∙ either_true (has_variable vs (pattern_variable i)) _ h;
    }) leaves

pub all_more_variables : (declared : List Token) (vs more : List Variable) (ps : List Pattern)
    → AreOpenOver declared vs ps → AreOpenOver declared (vs ++ more) ps
all_more_variables declared vs more [] leaves = tt
all_more_variables declared vs more (p ∷ ps) leaves =
    (more_variables declared vs more p leaves.0, all_more_variables declared vs more ps leaves.1)

no_statement_label : (declared : List Token) (k : ℕ) (vs : List Variable) (ps : List Pattern)
    → has_token (map label_of (own_hypotheses declared k vs ps)) (statement_label k) ≡ false
no_statement_label declared k vs ps =
    no_own declared k vs ps (statement_label k) (statement_no_own k k)

pub claim_may_be_stated : (declared : List Token) (k : ℕ) (c : Context) (at : ℕ) (s : Claim)
    (more : List Variable) → IsGround declared k c → IsClaim declared s
    → AreNumbered (s.variables ++ more)
    → MayBeStated (inside_block declared k c at (s.variables ++ more) s.hypotheses)
    (statement_label k) (codes "|-") (text_by (letters_of (own_naming declared)) s.conclusion)
claim_may_be_stated declared k c at s more w claim numbered =
    let leaves : EachLeaf (open_over declared (s.variables ++ more)) s.conclusion =
    more_variables declared s.variables more s.conclusion claim.over.0 in
    let own : IsOwnLabel (statement_label k) = statement_label_own k w.small in
    let symbols : AreSymbols (holds_text (own_naming declared) s.conclusion) =
    open_symbols declared (s.variables ++ more) s.conclusion w.names numbered leaves in
    record {
      new =
          new_inside declared k c at (s.variables ++ more)
          (own_hypotheses declared k (s.variables ++ more) s.hypotheses)
          (separations (s.variables ++ more)) (statement_label k) w own w.free.statement
          (no_statement_label declared k (s.variables ++ more) s.hypotheses);
      constant = turnstile_constant declared c w.base;
      typed =
          open_typed declared k c at (s.variables ++ more)
          (own_hypotheses declared k (s.variables ++ more) s.hypotheses)
          (separations (s.variables ++ more)) (0 + length s.hypotheses) s.conclusion w
          (own_ready declared k (s.variables ++ more) s.hypotheses w.small claim.few) leaves;
      clean_label = (own_symbols (statement_label k) own).clean;
      clean = symbols.clean;
    }

-- a block adds something if its assertion adds it inside the block
pub block_adds : (declared : List Token) (k : ℕ) (c : Context) (at : ℕ) (vs : List Variable)
    (ps : List Pattern) (statement : List Token) (left : Left) → IsGround declared k c
    → AreNumbered vs → are_once vs ≡ true → AreOpenOver declared vs ps → length ps < 2 ^ 64
    → AddsAnywhere (inside_block declared k c at vs ps) (statement ∷ ((codes "$}" ∷ []) ∷ [])) left
    → Adds c at (block (head_statements declared k vs ps ++ statement ∷ [])) left.context
    × (asserted c at (block (head_statements declared k vs ps ++ statement ∷ []))
    ≡ left.assertions)
block_adds declared k c at vs ps statement left w numbered once leaves few behind =
    subst (λ (sts : List (List Token)). Adds c at ((codes "${" ∷ []) ∷ sts) left.context
    × (asserted c at ((codes "${" ∷ []) ∷ sts) ≡ left.assertions))
    (sym (append_assoc (head_statements declared k vs
    ps) (statement ∷ []) ((codes "$}" ∷ []) ∷ [])))
    (block_opens c (head_statements declared k vs ps ++ (statement ∷ ((codes "$}" ∷ []) ∷ []))) left
    at (head_adds declared k c at vs ps (statement ∷ ((codes "$}" ∷ []) ∷ [])) left w numbered
    once leaves few behind))
