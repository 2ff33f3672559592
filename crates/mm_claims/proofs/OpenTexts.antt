-- The text of a pattern with variables, and the hypotheses of a block.
use Rattle.std.proofs.Common.{◌≡◌, ℕ, ◌+◌, ◌<◌, ◌≤◌, ◌^◌, Bool, true, false, List, [], ◌∷◌, ◌++◌}
use Rattle.std.proofs.Common.{length, map, refl, ap, ◌∙◌, sym, subst, arith, append_assoc}
use Rattle.std.proofs.Common.{append-nil}
use Rattle.std.specs.Prelude.{◌&&◌, ◌||◌, not, codes, bytes_eq}
use Rattle.std.specs.List.{list_any, list_all}
use Rattle.mm_text.specs.Bytes.{Token, has_token}
use Rattle.mm_database.specs.Forms.{assumes, has_dollar}
use Rattle.mm_database.specs.Frames.{Hypothesis, essential, label_of, types}
use Rattle.mm_database.specs.Database.{Context}
use Rattle.mm_database.specs.Validity.{is_typed, has_type}
use Rattle.mm_header.specs.HeaderContext.{header_context}
use Rattle.ml_pat.specs.Patterns.{Pattern}
use Rattle.mm_proof.specs.Tokens.{letters_of, text_by, name_of, own_naming}
use Rattle.mm_proof.specs.Labels.{premise_label}
use Rattle.ml_pat.specs.Leaves.{EachLeaf}
use Rattle.mm_proof.specs.Serving.{punctuation}
use Rattle.mm_proof.specs.Derivations.{holds_text}
use Rattle.ml_pat.proofs.LeafLaws.{EachLeaf-implied, both_true}
use Rattle.mm_proof.proofs.LeafLaws.{tested_leaves, PassFixed, list_all-text}
use Rattle.mm_claims.specs.Fitting.{AreNames, Holds}
use Rattle.mm_claims.specs.Variables.{Variable, object_variable, pattern_variable, has_variable}
use Rattle.mm_claims.specs.Variables.{are_once, AreNumbered, variable_token, variable_tokens}
use Rattle.mm_claims.specs.OverNames.{open_over, AreOpenOver}
use Rattle.mm_claims.specs.Blocks.{variable_statements, variable_float, separations, separated}
use Rattle.mm_claims.specs.Blocks.{separation_statements, premise_statements, premise_hypotheses}
use Rattle.mm_claims.specs.Blocks.{head_statements}
use Rattle.mm_claims.proofs.NameLaws.{name_facts}
use Rattle.mm_claims.proofs.StatedLaws.{has_name, name_at, header_fixed, header_turnstile}
use Rattle.mm_claims.proofs.VariableLaws.{variable_facts, premise_differs, numbered_at}
use Rattle.mm_claims.proofs.InsideLaws.{Left, inside, AddsAnywhere, AreSymbols, list_any-append}
use Rattle.mm_claims.proofs.InsideLaws.{map-append, behind_hypothesis, labelled_adds}
use Rattle.mm_claims.proofs.Separations.{present_token, each_separated}
use Rattle.mm_claims.proofs.HeadLaws.{IsGround, IsOwnLabel, premise_label_own, new_inside}
use Rattle.mm_claims.proofs.HeadLaws.{own_symbols, typed_tokens, premise_well, variables_add}
use Rattle.mm_claims.proofs.HeadLaws.{separations_add}
use Rattle.mm_claims.proofs.BoolLaws.{both_false, either_true, second_true, not_false}
use Rattle.mm_text.specs.PlainTokens.{is_plain_token}

-- each token passes a test if the header's constants, the names and the variables pass it
pub open_passes : (test : Token → Bool) (declared : List Token) (vs : List Variable) (p : Pattern)
    → PassFixed test → test (codes "|-") ≡ true
    → ((i : ℕ) → i < length declared → test (name_of declared i) ≡ true)
    → ((v : Variable) → has_variable vs v ≡ true → test (variable_token v) ≡ true)
    → EachLeaf (open_over declared vs) p → list_all test (holds_text (own_naming declared) p) ≡ true
open_passes test declared vs p fixed turnstile named variable leaves =
    both_true (test (codes "|-")) (list_all test (text_by (letters_of (own_naming declared)) p))
    turnstile
    (list_all-text test (own_naming declared) p fixed (EachLeaf-implied (open_over declared vs)
    (tested_leaves test (own_naming declared)) p (record {
      sort = λ i h. named i h.0;
      constant = λ i h. named i h.0;
      object = λ i h. variable (object_variable i) h;
      meta = λ i h. variable (pattern_variable i) h;
    }) leaves))

pub open_symbols : (declared : List Token) (vs : List Variable) (p : Pattern) → AreNames declared
    → AreNumbered vs → EachLeaf (open_over declared vs) p
    → AreSymbols (holds_text (own_naming declared) p)
open_symbols declared vs p names numbered leaves = record {
  plain =
      open_passes is_plain_token declared vs p refl refl
      (λ i lt. (name_facts (name_of declared i) (name_at declared i names lt)).plain)
      (λ v h. (variable_facts v (numbered_at vs v numbered h)).plain) leaves;
  clean =
      open_passes (λ t. not (has_dollar t)) declared vs p refl refl (λ i lt. not_false
      (has_dollar (name_of declared i))
      (name_facts (name_of declared i) (name_at declared i names lt)).clean)
      (λ v h. not_false (has_dollar (variable_token v))
      (variable_facts v (numbered_at vs v numbered h)).clean) leaves;
}

constants_fixed : (declared : List Token) (c : Context) (ts : List Token) → Holds declared c
    → map header_context.constants ts ≡ map (λ t. true) ts → map c.constants ts ≡ map (λ t. true) ts
constants_fixed declared c [] w h = refl
constants_fixed declared c (t ∷ ts) w h =
    ap (λ (b : Bool). b ∷ map c.constants ts) (w.constants t
    ∙ either_true (header_context.constants t) (has_token declared t) (ap first h))
    ∙ ap (λ (bs : List Bool). true ∷ bs) (constants_fixed declared c ts w (ap others h))
  where
    first : List Bool → Bool
    first [] = false
    first (b ∷ bs) = b

    others : List Bool → List Bool
    others [] = []
    others (b ∷ bs) = bs

typed_constants : (d : Context) (ts : List Token) → map d.constants ts ≡ map (λ t. true) ts
    → map (is_typed d) ts ≡ map (λ t. true) ts
typed_constants d [] h = refl
typed_constants d (t ∷ ts) h =
    ap (λ (b : Bool). b ∷ map (is_typed d) ts)
    (either_true (d.constants t) (d.scope.variables t && has_type d t) (ap first h))
    ∙ ap (λ (bs : List Bool). true ∷ bs) (typed_constants d ts (ap others h))
  where
    first : List Bool → Bool
    first [] = false
    first (b ∷ bs) = b

    others : List Bool → List Bool
    others [] = []
    others (b ∷ bs) = bs

-- hypotheses that type these variables; the labels of hypotheses from a number on are still free
pub record AreReady (k : ℕ) (vs : List Variable) (hs : List Hypothesis) (j : ℕ) : Type 0 where
  pub typed : (v : Variable) → has_variable vs v ≡ true
      → list_any (types (variable_token v)) hs ≡ true
  pub new : (i : ℕ) → j ≤ i → i < 2 ^ 64 → has_token (map label_of hs) (premise_label k i) ≡ false

pub turnstile_constant : (declared : List Token) (c : Context) → Holds declared c
    → c.constants (codes "|-") ≡ true
turnstile_constant declared c w = w.constants (codes "|-")
    ∙ either_true (header_context.constants (codes "|-")) (has_token declared (codes "|-"))
    header_turnstile

-- inside a block that types its variables, the text of a pattern is typed
pub open_typed : (declared : List Token) (k : ℕ) (c : Context) (at : ℕ) (vs : List Variable)
    (hs : List Hypothesis) (ds : List (List Token)) (j : ℕ) (p : Pattern)
    → IsGround declared k c → AreReady k vs hs j → EachLeaf (open_over declared vs) p
    → list_all (is_typed (inside c at (variable_tokens vs) hs ds))
    (holds_text (own_naming declared) p) ≡ true
open_typed declared k c at vs hs ds j p w ready leaves =
    open_passes (is_typed (inside c at (variable_tokens vs) hs ds)) declared vs p
    (typed_constants (inside c at (variable_tokens vs) hs ds) punctuation
    (constants_fixed declared c punctuation w.base header_fixed))
    (either_true (c.constants (codes "|-")) _ (turnstile_constant declared c w.base))
    (λ i lt. either_true (c.constants (name_of declared i)) _ (w.base.constants (name_of declared i)
    ∙ second_true (header_context.constants (name_of declared i))
    (has_token declared (name_of declared i)) (has_name declared i lt)))
    (λ v h. second_true (c.constants (variable_token v)) _
    (both_true (c.scope.variables (variable_token v)
    || has_token (variable_tokens vs) (variable_token v))
    (list_any (types (variable_token v)) (c.scope.hypotheses ++ hs))
    (second_true (c.scope.variables (variable_token v))
    (has_token (variable_tokens vs) (variable_token v)) (present_token vs v h))
    (list_any-append (types (variable_token v)) c.scope.hypotheses hs
    ∙ second_true (list_any (types (variable_token v)) c.scope.hypotheses)
    (list_any (types (variable_token v)) hs) (ready.typed v h)))) leaves

-- one more hypothesis
pub more_ready : (k : ℕ) (vs : List Variable) (hs : List Hypothesis) (j : ℕ)
    (statement : List Token) → k < 2 ^ 64 → j < 2 ^ 64 → AreReady k vs hs j
    → AreReady k vs (hs ++ essential (premise_label k j) statement ∷ []) (j + 1)
more_ready k vs hs j statement small few w = record {
  typed =
      λ v h. list_any-append (types (variable_token v)) hs
      (essential (premise_label k j) statement ∷ [])
      ∙ either_true (list_any (types (variable_token v)) hs) _ (w.typed v h);
  new =
      λ i le lt. ap (λ (ts : List Token). has_token ts (premise_label k i))
      (map-append label_of hs (essential (premise_label k j) statement ∷ []))
      ∙ list_any-append (λ t. bytes_eq t (premise_label k i)) (map label_of hs)
      (premise_label k j ∷ [])
      ∙ both_false (has_token (map label_of hs) (premise_label k i))
      (bytes_eq (premise_label k j) (premise_label k i) || false)
      (w.new i (omega (arith, le)) lt) (both_false
      (bytes_eq (premise_label k j) (premise_label k i)) false
      (premise_differs k j i small few lt (λ same. absurd (omega (arith, le, same)))) refl);
}

pub premises_add : (declared : List Token) (k : ℕ) (c : Context) (at : ℕ) (vs : List Variable)
    (hs : List Hypothesis) (ds : List (List Token)) (j : ℕ) (ps : List Pattern)
    (sts : List (List Token)) (left : Left) → IsGround declared k c → AreNumbered vs
    → AreReady k vs hs j → AreOpenOver declared vs ps → j + length ps < 2 ^ 64
    → AddsAnywhere (inside c at (variable_tokens vs) (hs ++ premise_hypotheses declared k j ps) ds)
    sts left
    → AddsAnywhere (inside c at (variable_tokens vs) hs ds)
    (premise_statements declared k j ps ++ sts) left
premises_add declared k c at vs hs ds j [] sts left w numbered ready leaves few behind =
    subst (λ (gs : List Hypothesis). AddsAnywhere (inside c at (variable_tokens vs) gs ds) sts left)
    (append-nil hs) behind
premises_add declared k c at vs hs ds j (p ∷ ps) sts left w numbered ready leaves few behind =
    let small : j < 2 ^ 64 = omega (arith, few) in
    let own : IsOwnLabel (premise_label k j) = premise_label_own k j w.small small in
    let h : Hypothesis = essential (premise_label k j) (holds_text (own_naming declared) p) in
    labelled_adds (inside c at (variable_tokens vs) hs ds) (premise_label k j) assumes (codes "|-")
    (text_by (letters_of (own_naming declared)) p)
    (premise_statements declared k (j + 1) ps ++ sts) left refl refl
    (own_symbols (premise_label k j) own) (open_symbols declared vs p w.names numbered leaves.0)
    (premise_well (inside c at (variable_tokens vs) hs ds) (premise_label k j) (codes "|-")
    (text_by (letters_of (own_naming declared)) p)
    (new_inside declared k c at vs hs ds (premise_label k j) w own (w.free.premise j small)
    (ready.new j (omega arith) small)) (turnstile_constant declared c w.base)
    (open_typed declared k c at vs hs ds j p w ready leaves.0))
    (subst (λ (e : Context). AddsAnywhere e (premise_statements declared k (j + 1) ps ++ sts) left)
    (sym (behind_hypothesis c at (variable_tokens
    vs) hs ds (essential (premise_label k j) (holds_text (own_naming declared) p))))
    (premises_add declared k c at vs
    (hs ++ essential (premise_label k j) (holds_text (own_naming declared) p) ∷ []) ds (j + 1)
    ps sts left w numbered
    (more_ready k vs hs j (holds_text (own_naming declared) p) w.small small ready) leaves.1
    (omega (arith, few))
    (subst
    (λ (gs : List Hypothesis). AddsAnywhere (inside c at (variable_tokens vs) gs ds) sts left)
    (sym (append_assoc hs (essential (premise_label k j) (holds_text (own_naming declared) p)
    ∷ []) (premise_hypotheses declared k (j + 1) ps))) behind)))

-- the block's own hypotheses, which are active after its head
abbrev pub own_hypotheses : List Token → ℕ → List Variable → List Pattern → List Hypothesis
own_hypotheses declared k vs ps = map (variable_float k) vs ++ premise_hypotheses declared k 0 ps

no_premise_among : (k : ℕ) (vs : List Variable) (i : ℕ)
    → has_token (map label_of (map (variable_float k) vs)) (premise_label k i) ≡ false
no_premise_among k [] i = refl
no_premise_among k (object_variable n ∷ vs) i = no_premise_among k vs i
no_premise_among k (pattern_variable n ∷ vs) i = no_premise_among k vs i

floats_ready : (k : ℕ) (vs : List Variable) → AreReady k vs (map (variable_float k) vs) 0
floats_ready k vs = record {
  typed = λ v h. typed_tokens k vs (variable_token v) ∙ present_token vs v h;
  new = λ i le lt. no_premise_among k vs i;
}

-- the same is true after all hypotheses
all_ready : (declared : List Token) (k : ℕ) (vs : List Variable) (hs : List Hypothesis) (j : ℕ)
    (ps : List Pattern) → k < 2 ^ 64 → j + length ps < 2 ^ 64 → AreReady k vs hs j
    → AreReady k vs (hs ++ premise_hypotheses declared k j ps) (j + length ps)
all_ready declared k vs hs j [] small few w =
    subst (λ (gs : List Hypothesis). AreReady k vs gs (j + 0)) (sym (append-nil hs))
    (subst (λ (n : ℕ). AreReady k vs hs n) (omega arith) w)
all_ready declared k vs hs j (p ∷ ps) small few w =
    subst (λ (gs : List Hypothesis). AreReady k vs gs (j + length (p ∷ ps)))
    (append_assoc hs (essential (premise_label k j) (holds_text (own_naming declared) p) ∷ [])
    (premise_hypotheses declared k (j + 1) ps))
    (subst (λ (n : ℕ). AreReady k vs ((hs
    ++ essential (premise_label k j) (holds_text (own_naming declared) p) ∷ [])
    ++ premise_hypotheses declared k (j + 1) ps) n) (omega arith)
    (all_ready declared k vs
    (hs ++ essential (premise_label k j) (holds_text (own_naming declared) p) ∷ []) (j + 1) ps
    small (omega (arith, few))
    (more_ready k vs hs j (holds_text (own_naming declared) p) small (omega (arith, few)) w)))

pub own_ready : (declared : List Token) (k : ℕ) (vs : List Variable) (ps : List Pattern)
    → k < 2 ^ 64 → length ps < 2 ^ 64
    → AreReady k vs (own_hypotheses declared k vs ps) (0 + length ps)
own_ready declared k vs ps small few =
    all_ready declared k vs (map (variable_float k) vs) 0 ps small (omega (arith, few))
    (floats_ready k vs)

-- the head of a block, from its `${` on
pub head_adds : (declared : List Token) (k : ℕ) (c : Context) (at : ℕ) (vs : List Variable)
    (ps : List Pattern) (sts : List (List Token)) (left : Left) → IsGround declared k c
    → AreNumbered vs → are_once vs ≡ true → AreOpenOver declared vs ps → length ps < 2 ^ 64
    → AddsAnywhere
    (inside c at (variable_tokens vs) (own_hypotheses declared k vs ps) (separations vs)) sts
    left → AddsAnywhere (inside c at [] [] []) (head_statements declared k vs ps ++ sts) left
head_adds declared k c at vs ps sts left w numbered once leaves few behind =
    subst (λ (ss : List (List Token)). AddsAnywhere (inside c at [] [] []) ss left)
    (sym (append_assoc (variable_statements k
    vs) (separation_statements (separations vs) ++ premise_statements declared k 0 ps) sts
    ∙ ap (λ (ss : List (List Token)). variable_statements k vs ++ ss)
    (append_assoc (separation_statements (separations vs)) (premise_statements declared k 0 ps)
    sts)))
    (variables_add declared k c at [] vs
    (separation_statements (separations vs) ++ (premise_statements declared k 0 ps ++ sts)) left
    w numbered once
    (separations_add c at vs (map (variable_float k) vs) [] (separated vs)
    (premise_statements declared k 0 ps ++ sts) left (each_separated vs once numbered)
    (premises_add declared k c at vs (map (variable_float k) vs) (separations vs) 0 ps sts left w
    numbered (floats_ready k vs) leaves (omega (arith, few)) behind)))
