-- A block types its variables, and nothing else.
use Rattle.std.proofs.Common.{◌≡◌, ℕ, ◌+◌, ◌<◌, ◌^◌, true, false, List, [], ◌∷◌, ◌++◌, length, map}
use Rattle.std.proofs.Common.{refl, ap, ◌∙◌, arith, append-nil, Option, Some, None}
use Rattle.std.specs.Prelude.{not, codes}
use Rattle.std.proofs.lemmas.Bool.{false≢true}
use Rattle.mm_text.specs.Bytes.{Token}
use Rattle.mm_database.specs.Forms.{Keyword, declares_variables, types_variable, separates, assumes}
use Rattle.mm_database.specs.Forms.{form_of, has_dollar}
use Rattle.mm_database.specs.Frames.{Hypothesis}
use Rattle.mm_database.specs.Assertions.{form_typing, with_typing_first, keyword_typing}
use Rattle.mm_database.proofs.WrittenForms.{plain_tokens_say}
use Rattle.ml_pat.specs.Patterns.{Pattern}
use Rattle.mm_proof.specs.Tokens.{letters_of, text_by, own_naming}
use Rattle.mm_proof.specs.Labels.{premise_label}
use Rattle.ml_pat.proofs.LeafLaws.{both_true}
use Rattle.mm_claims.specs.Fitting.{AreNames}
use Rattle.mm_claims.specs.Variables.{Variable, are_once, AreNumbered, variable_token}
use Rattle.mm_claims.specs.Variables.{variable_label, variable_type, variable_tokens}
use Rattle.mm_claims.specs.Blocks.{variable_statements, variable_float, separated}
use Rattle.mm_claims.specs.Blocks.{separation_statements, separations, premise_statements}
use Rattle.mm_claims.specs.Blocks.{head_statements, block}
use Rattle.mm_claims.specs.OverNames.{AreOpenOver}
use Rattle.mm_claims.proofs.VariableLaws.{VariableFacts, variable_facts}
use Rattle.mm_claims.proofs.InsideLaws.{typed}
use Rattle.mm_claims.proofs.Separations.{EachSeparated, each_separated, variables_are_symbols}
use Rattle.mm_claims.proofs.HeadLaws.{variable_label_own, premise_label_own, own_symbols}
use Rattle.mm_claims.proofs.OpenTexts.{open_symbols}
use Rattle.mm_claims.proofs.BoolLaws.{not_false}
use Rattle.mm_database.specs.StatementTexts.{plain_tokens}
use Rattle.mm_database.specs.CleanTokens.{are_clean, has_proof}

typing-append : (h : Option Hypothesis) (xs ys : List Hypothesis)
    → with_typing_first h (xs ++ ys) ≡ with_typing_first h xs ++ ys
typing-append None xs ys = refl
typing-append (Some h) xs ys = refl

typed-append : (sts more : List (List Token)) → typed (sts ++ more) ≡ typed sts ++ typed more
typed-append [] more = refl
typed-append (tokens ∷ sts) more =
    ap (with_typing_first (form_typing (form_of tokens))) (typed-append sts more)
    ∙ typing-append (form_typing (form_of tokens)) (typed sts) (typed more)

-- what a statement without a proof types, before other statements
plain_typed : (labels : List Token) (k : Keyword) (symbol : Token) (symbols : List Token)
    (sts : List (List Token)) → has_proof k ≡ false → are_clean labels ≡ true
    → are_clean (symbol ∷ symbols) ≡ true
    → typed (plain_tokens labels k (symbol ∷ symbols) ∷ sts)
    ≡ with_typing_first (keyword_typing labels (symbol ∷ symbols) k) (typed sts)
plain_typed labels k symbol symbols sts no_proof clean_labels clean =
    ap (λ f. with_typing_first (form_typing f) (typed sts))
    (plain_tokens_say labels k symbol symbols clean_labels clean no_proof)

variables_typed : (k : ℕ) (vs : List Variable) → k < 2 ^ 64 → AreNumbered vs
    → typed (variable_statements k vs) ≡ map (variable_float k) vs
variables_typed k [] small numbered = refl
variables_typed k (v ∷ vs) small numbered =
    let facts : VariableFacts v = variable_facts v numbered.0 in
    let token : are_clean (variable_token v ∷ []) ≡ true =
    both_true (not (has_dollar (variable_token v))) true
    (not_false (has_dollar (variable_token v)) facts.clean) refl in
    plain_typed [] declares_variables (variable_token v) [] (plain_tokens (variable_label k v ∷ [])
    types_variable (variable_type v ∷ (variable_token v ∷ []))
    ∷ variable_statements k vs) refl refl token
    ∙ plain_typed (variable_label k v ∷ []) types_variable (variable_type v) (variable_token v ∷ [])
    (variable_statements k vs) refl
    (own_symbols (variable_label k v) (variable_label_own k v small numbered.0)).clean
    (both_true (not (has_dollar (variable_type v))) (are_clean (variable_token v ∷ []))
    (not_false (has_dollar (variable_type v)) facts.clean_typecode) token)
    ∙ ap (λ (hs : List Hypothesis). variable_float k v ∷ hs) (variables_typed k vs small numbered.1)

separations_typed : (vs : List Variable) (wss : List (List Variable)) → EachSeparated vs wss
    → typed (separation_statements (map variable_tokens wss)) ≡ []
separations_typed vs [] all = refl
separations_typed vs ([] ∷ wss) all = absurd (false≢true all.0.1)
separations_typed vs ((w ∷ []) ∷ wss) all = absurd (false≢true all.0.1)
separations_typed vs ((w ∷ (x ∷ ws)) ∷ wss) all =
    plain_typed [] separates (variable_token w) (variable_tokens (x ∷ ws))
    (separation_statements (map variable_tokens wss)) refl refl
    (variables_are_symbols (w ∷ (x ∷ ws)) all.0.0.numbered).clean
    ∙ separations_typed vs wss all.1

premises_typed : (declared : List Token) (k j : ℕ) (vs : List Variable) (ps : List Pattern)
    → AreNames declared → AreNumbered vs → AreOpenOver declared vs ps → k < 2 ^ 64
    → j + length ps < 2 ^ 64 → typed (premise_statements declared k j ps) ≡ []
premises_typed declared k j vs [] names numbered leaves small few = refl
premises_typed declared k j vs (p ∷ ps) names numbered leaves small few =
    plain_typed (premise_label k j ∷ []) assumes (codes "|-")
    (text_by (letters_of (own_naming declared)) p) (premise_statements declared k (j + 1) ps)
    refl
    (own_symbols (premise_label k j) (premise_label_own k j small (omega (arith, few)))).clean
    (open_symbols declared vs p names numbered leaves.0).clean
    ∙ premises_typed declared k (j + 1) vs ps names numbered leaves.1 small (omega (arith, few))

head_typed : (declared : List Token) (k : ℕ) (vs : List Variable) (ps : List Pattern)
    → AreNames declared → k < 2 ^ 64 → AreNumbered vs → are_once vs ≡ true
    → AreOpenOver declared vs ps → length ps < 2 ^ 64
    → typed (head_statements declared k vs ps) ≡ map (variable_float k) vs
head_typed declared k vs ps names small numbered once leaves few =
    typed-append (variable_statements k vs)
    (separation_statements (separations vs) ++ premise_statements declared k 0 ps)
    ∙ ap (λ (hs : List Hypothesis). hs
    ++ typed (separation_statements (separations vs) ++ premise_statements declared k 0 ps))
    (variables_typed k vs small numbered)
    ∙ ap (λ (hs : List Hypothesis). map (variable_float k) vs ++ hs)
    (typed-append (separation_statements (separations vs)) (premise_statements declared k 0 ps)
    ∙ ap (λ (hs : List Hypothesis). hs ++ typed (premise_statements declared k 0 ps))
    (separations_typed vs (separated vs) (each_separated vs once numbered))
    ∙ premises_typed declared k 0 vs ps names numbered leaves small (omega (arith, few)))
    ∙ append-nil (map (variable_float k) vs)

-- the same is true of the block with a statement that types nothing
pub block_typed : (declared : List Token) (k : ℕ) (vs : List Variable) (ps : List Pattern)
    (tokens : List Token) → AreNames declared → k < 2 ^ 64 → AreNumbered vs → are_once vs ≡ true
    → AreOpenOver declared vs ps → length ps < 2 ^ 64 → form_typing (form_of tokens) ≡ None
    → typed (block (head_statements declared k vs ps ++ tokens ∷ [])) ≡ map (variable_float k) vs
block_typed declared k vs ps tokens names small numbered once leaves few none =
    typed-append (head_statements declared k vs ps ++ tokens ∷ []) ((codes "$}" ∷ []) ∷ [])
    ∙ append-nil (typed (head_statements declared k vs ps ++ tokens ∷ []))
    ∙ typed-append (head_statements declared k vs ps) (tokens ∷ [])
    ∙ ap (λ (o : Option Hypothesis).
    typed (head_statements declared k vs ps) ++ with_typing_first o []) none
    ∙ append-nil (typed (head_statements declared k vs ps))
    ∙ head_typed declared k vs ps names small numbered once leaves few
