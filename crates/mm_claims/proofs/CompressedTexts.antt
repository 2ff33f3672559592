-- The statements of a block without its assertion have no proof, so they are compressed; the
-- declarations of names, too.
use Rattle.std.proofs.Common.{◌≡◌, ℕ, ◌+◌, ◌<◌, ◌^◌, Bool, true, false, List, [], ◌∷◌, ◌++◌, length}
use Rattle.std.proofs.Common.{map, refl, ap, ◌∙◌, sym, arith}
use Rattle.std.specs.Prelude.{not, codes, Some}
use Rattle.std.specs.List.{list_all}
use Rattle.std.proofs.lemmas.Bool.{false≢true}
use Rattle.mm_text.specs.Bytes.{Token}
use Rattle.mm_database.specs.Forms.{Keyword, declares_constants, declares_variables, types_variable}
use Rattle.mm_database.specs.Forms.{assumes, separates, asserts, proves, plain, form_of, has_dollar}
use Rattle.mm_database.specs.Compressing.{is_compressed, all_compressed}
use Rattle.mm_database.specs.CleanTokens.{are_clean, has_proof}
use Rattle.mm_database.specs.StatementTexts.{plain_tokens}
use Rattle.mm_database.proofs.WrittenForms.{plain_tokens_say}
use Rattle.mm_header.specs.Header.{header_rows}
use Rattle.mm_header.specs.HeaderText.{header_bytes}
use Rattle.ml_pat.specs.Patterns.{Pattern}
use Rattle.mm_proof.specs.Tokens.{letters_of, text_by, own_naming}
use Rattle.mm_proof.specs.Labels.{name_label, premise_label}
use Rattle.ml_pat.proofs.LeafLaws.{both_true, split_true}
use Rattle.mm_claims.specs.Statements.{typecode_of, all_name_statements}
use Rattle.mm_claims.specs.Fitting.{AreNames}
use Rattle.mm_claims.specs.Variables.{Variable, are_once, AreNumbered, variable_token}
use Rattle.mm_claims.specs.Variables.{variable_label, variable_type, variable_tokens}
use Rattle.mm_claims.specs.Blocks.{variable_statements, separated, separation_statements}
use Rattle.mm_claims.specs.Blocks.{separations, premise_statements, head_statements, block}
use Rattle.mm_claims.specs.OverNames.{AreOpenOver}
use Rattle.mm_claims.proofs.NameLaws.{NameFacts, name_facts, name_label-clean}
use Rattle.mm_claims.proofs.VariableLaws.{VariableFacts, variable_facts}
use Rattle.mm_claims.proofs.Separations.{EachSeparated, each_separated, variables_are_symbols}
use Rattle.mm_claims.proofs.HeadLaws.{variable_label_own, premise_label_own, own_symbols}
use Rattle.mm_claims.proofs.OpenTexts.{open_symbols}
use Rattle.mm_claims.proofs.BoolLaws.{not_false}

pub header_compressed : all_compressed header_bytes ≡ true
unfolding header_bytes header_rows
header_compressed = refl

-- each `$p` among some statements has a compressed proof
abbrev pub each_compressed : List (List Token) → Bool
each_compressed sts = list_all (λ ts. is_compressed (form_of ts)) sts

both_parts : (sts more : List (List Token)) → each_compressed sts ≡ true
    → each_compressed more ≡ true → each_compressed (sts ++ more) ≡ true
both_parts [] more h k = k
both_parts (ts ∷ sts) more h k =
    let both : (is_compressed (form_of ts) ≡ true) × (each_compressed sts ≡ true) =
    split_true (is_compressed (form_of ts)) (each_compressed sts) h in
    both_true (is_compressed (form_of ts)) (each_compressed (sts ++ more)) both.0
    (both_parts sts more both.1 k)

no_proof_compressed : (labels : List Token) (k : Keyword) (symbols : List Token)
    → has_proof k ≡ false → is_compressed (Some (plain labels k symbols [])) ≡ true
no_proof_compressed labels declares_constants symbols h = refl
no_proof_compressed labels declares_variables symbols h = refl
no_proof_compressed labels types_variable symbols h = refl
no_proof_compressed labels assumes symbols h = refl
no_proof_compressed labels separates symbols h = refl
no_proof_compressed labels asserts symbols h = refl
no_proof_compressed labels proves symbols h = absurd (false≢true (sym h))

pub plain_compressed : (labels : List Token) (k : Keyword) (symbol : Token) (symbols : List Token)
    → has_proof k ≡ false → are_clean labels ≡ true → are_clean (symbol ∷ symbols) ≡ true
    → is_compressed (form_of (plain_tokens labels k (symbol ∷ symbols))) ≡ true
plain_compressed labels k symbol symbols no_proof clean_labels clean =
    ap is_compressed (plain_tokens_say labels k symbol symbols clean_labels clean no_proof)
    ∙ no_proof_compressed labels k (symbol ∷ symbols) no_proof

one_clean : (t : Token) → has_dollar t ≡ false → are_clean (t ∷ []) ≡ true
one_clean t h = both_true (not (has_dollar t)) true (not_false (has_dollar t) h) refl

two_clean : (t u : Token) → has_dollar t ≡ false → has_dollar u ≡ false
    → are_clean (t ∷ (u ∷ [])) ≡ true
two_clean t u h k =
    both_true (not (has_dollar t)) (are_clean (u ∷ [])) (not_false (has_dollar t) h)
    (one_clean u k)

-- a block

variables_compressed : (k : ℕ) (vs : List Variable) → k < 2 ^ 64 → AreNumbered vs
    → each_compressed (variable_statements k vs) ≡ true
variables_compressed k [] small numbered = refl
variables_compressed k (v ∷ vs) small numbered =
    let facts : VariableFacts v = variable_facts v numbered.0 in
    both_true _ _
    (plain_compressed [] declares_variables (variable_token v) [] refl refl
    (one_clean (variable_token v) facts.clean))
    (both_true _ _
    (plain_compressed (variable_label k v ∷ []) types_variable (variable_type v)
    (variable_token v ∷ []) refl
    (own_symbols (variable_label k v) (variable_label_own k v small numbered.0)).clean
    (two_clean (variable_type v) (variable_token v) facts.clean_typecode facts.clean))
    (variables_compressed k vs small numbered.1))

separations_compressed : (vs : List Variable) (wss : List (List Variable)) → EachSeparated vs wss
    → each_compressed (separation_statements (map variable_tokens wss)) ≡ true
separations_compressed vs [] all = refl
separations_compressed vs ([] ∷ wss) all = absurd (false≢true all.0.1)
separations_compressed vs ((w ∷ []) ∷ wss) all = absurd (false≢true all.0.1)
separations_compressed vs ((w ∷ (x ∷ ws)) ∷ wss) all =
    both_true _ _
    (plain_compressed [] separates (variable_token w) (variable_tokens (x ∷ ws)) refl refl
    (variables_are_symbols (w ∷ (x ∷ ws)) all.0.0.numbered).clean)
    (separations_compressed vs wss all.1)

premises_compressed : (declared : List Token) (k j : ℕ) (vs : List Variable) (ps : List Pattern)
    → AreNames declared → AreNumbered vs → AreOpenOver declared vs ps → k < 2 ^ 64
    → j + length ps < 2 ^ 64 → each_compressed (premise_statements declared k j ps) ≡ true
premises_compressed declared k j vs [] names numbered leaves small few = refl
premises_compressed declared k j vs (p ∷ ps) names numbered leaves small few =
    both_true _ _
    (plain_compressed (premise_label k j ∷ []) assumes (codes "|-")
    (text_by (letters_of (own_naming declared)) p) refl
    (own_symbols (premise_label k j) (premise_label_own k j small (omega (arith, few)))).clean
    (open_symbols declared vs p names numbered leaves.0).clean)
    (premises_compressed declared k (j + 1) vs ps names numbered leaves.1 small
    (omega (arith, few)))

head_compressed : (declared : List Token) (k : ℕ) (vs : List Variable) (ps : List Pattern)
    → AreNames declared → k < 2 ^ 64 → AreNumbered vs → are_once vs ≡ true
    → AreOpenOver declared vs ps → length ps < 2 ^ 64
    → each_compressed (head_statements declared k vs ps) ≡ true
head_compressed declared k vs ps names small numbered once leaves few =
    both_parts (variable_statements k vs)
    (separation_statements (separations vs) ++ premise_statements declared k 0 ps)
    (variables_compressed k vs small numbered)
    (both_parts (separation_statements (separations vs)) (premise_statements declared k 0 ps)
    (separations_compressed vs (separated vs) (each_separated vs once numbered))
    (premises_compressed declared k 0 vs ps names numbered leaves small (omega (arith, few))))

pub block_compressed : (declared : List Token) (k : ℕ) (vs : List Variable) (ps : List Pattern)
    (tokens : List Token) → AreNames declared → k < 2 ^ 64 → AreNumbered vs → are_once vs ≡ true
    → AreOpenOver declared vs ps → length ps < 2 ^ 64 → is_compressed (form_of tokens) ≡ true
    → each_compressed (block (head_statements declared k vs ps ++ tokens ∷ [])) ≡ true
block_compressed declared k vs ps tokens names small numbered once leaves few h =
    both_parts (head_statements declared k vs ps ++ tokens ∷ []) ((codes "$}" ∷ []) ∷ [])
    (both_parts (head_statements declared k vs ps) (tokens ∷ [])
    (head_compressed declared k vs ps names small numbered once leaves few)
    (both_true (is_compressed (form_of tokens)) true h refl)) refl

-- names

pub names_compressed : (i : ℕ) (more : List Token) → AreNames more → i + length more < 2 ^ 64
    → each_compressed (all_name_statements i more) ≡ true
names_compressed i [] names few = refl
names_compressed i (t ∷ more) names few =
    let facts : NameFacts t = name_facts t names.0 in
    both_true _ _
    (plain_compressed [] declares_constants t [] refl refl (one_clean t facts.clean))
    (both_true _ _
    (plain_compressed (name_label i ∷ []) asserts (typecode_of t) (t ∷ []) refl
    (one_clean (name_label i) (name_label-clean i (omega (arith, few))))
    (two_clean (typecode_of t) t facts.clean_typecode facts.clean))
    (names_compressed (i + 1) more names.1 (omega (arith, few))))
