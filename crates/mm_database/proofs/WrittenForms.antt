-- The tokens of a statement have the form that was written.
use Rattle.std.proofs.Common.{◌≡◌, true, false, List, [], ◌∷◌, ◌++◌, refl, ap, ◌∙◌}
use Rattle.std.specs.Prelude.{not, Some, option_and_then, codes}
use Rattle.mm_text.specs.Bytes.{Token}
use Rattle.mm_text.proofs.Truths.{both_true, not_true}
use Rattle.mm_database.specs.Forms.{Keyword, declares_constants, declares_variables, types_variable}
use Rattle.mm_database.specs.Forms.{assumes, separates, asserts, proves, plain, has_dollar}
use Rattle.mm_database.specs.Forms.{before_dollar, from_dollar, keyword_of, proof_form}
use Rattle.mm_database.specs.Forms.{keyword_form, labelled_form, form_of}
use Rattle.mm_database.specs.FrameLaws.{PlainTokensSay, ProofTokensSay}
use Rattle.mm_database.specs.StatementTexts.{keyword_token}
use Rattle.mm_database.specs.CleanTokens.{are_clean, has_proof}

before_dollar-clean : (tokens rest : List Token) (token : Token) → are_clean tokens ≡ true
    → has_dollar token ≡ true → before_dollar (tokens ++ token ∷ rest) ≡ tokens
before_dollar-clean [] rest token clean marked = rw marked refl
before_dollar-clean (t ∷ tokens) rest token clean marked =
    let both : (not (has_dollar t) ≡ true) × (are_clean tokens ≡ true) =
    both_true (not (has_dollar t)) (are_clean tokens) clean in
    let here : has_dollar t ≡ false = not_true (has_dollar t) both.0 in
    rw here (ap (λ (ts : List Token). t ∷ ts) (before_dollar-clean tokens rest token both.1 marked))

from_dollar-clean : (tokens rest : List Token) (token : Token) → are_clean tokens ≡ true
    → has_dollar token ≡ true → from_dollar (tokens ++ token ∷ rest) ≡ token ∷ rest
from_dollar-clean [] rest token clean marked = rw marked refl
from_dollar-clean (t ∷ tokens) rest token clean marked =
    let both : (not (has_dollar t) ≡ true) × (are_clean tokens ≡ true) =
    both_true (not (has_dollar t)) (are_clean tokens) clean in
    let here : has_dollar t ≡ false = not_true (has_dollar t) both.0 in
    rw here (from_dollar-clean tokens rest token both.1 marked)

-- a list with a token in it and a token after that has at least two tokens
form_of-labelled : (labels : List Token) (token next : Token) (rest : List Token)
    → form_of (labels ++ token ∷ (next ∷ rest))
    ≡ labelled_form (before_dollar (labels ++ token ∷ (next ∷ rest)))
    (from_dollar (labels ++ token ∷ (next ∷ rest)))
form_of-labelled [] token next rest = refl
form_of-labelled (l ∷ []) token next rest = refl
form_of-labelled (l ∷ (m ∷ labels)) token next rest = refl

form_of-keyword : (labels : List Token) (token next : Token) (rest : List Token)
    → are_clean labels ≡ true → has_dollar token ≡ true
    → form_of (labels ++ token ∷ (next ∷ rest))
    ≡ option_and_then
    (keyword_form labels (before_dollar (next ∷ rest)) (from_dollar (next ∷ rest)))
    (keyword_of token)
form_of-keyword labels token next rest clean marked =
    form_of-labelled labels token next rest
    ∙ ap (λ (ls : List Token). labelled_form ls (from_dollar (labels ++ token ∷ (next ∷ rest))))
    (before_dollar-clean labels (next ∷ rest) token clean marked)
    ∙ ap (labelled_form labels) (from_dollar-clean labels (next ∷ rest) token clean marked)

-- the form of clean symbols with `$.` after them
keyword_form-clean : (labels : List Token) (keyword : Keyword) (symbol : Token)
    (symbols : List Token) → has_proof keyword ≡ false → are_clean (symbol ∷ symbols) ≡ true
    → keyword_form labels (before_dollar ((symbol ∷ symbols) ++ codes "$." ∷ []))
    (from_dollar ((symbol ∷ symbols) ++ codes "$." ∷ [])) keyword
    ≡ Some (plain labels keyword (symbol ∷ symbols) [])
keyword_form-clean labels keyword symbol symbols no_proof clean =
    ap (λ (ts : List Token).
    keyword_form labels ts (from_dollar ((symbol ∷ symbols) ++ codes "$." ∷ [])) keyword)
    (before_dollar-clean (symbol ∷ symbols) [] (codes "$.") clean refl)
    ∙ ap (λ (ts : List Token). keyword_form labels (symbol ∷ symbols) ts keyword)
    (from_dollar-clean (symbol ∷ symbols) [] (codes "$.") clean refl)
    ∙ each keyword no_proof
  where
    each : (k : Keyword) → has_proof k ≡ false
        → keyword_form labels (symbol ∷ symbols) (codes "$." ∷ []) k
        ≡ Some (plain labels k (symbol ∷ symbols) [])
    each declares_constants h = refl
    each declares_variables h = refl
    each types_variable h = refl
    each assumes h = refl
    each separates h = refl
    each asserts h = refl
    each proves h = absurd (cc)

keyword_token-marked : (keyword : Keyword) → has_dollar (keyword_token keyword) ≡ true
keyword_token-marked declares_constants = refl
keyword_token-marked declares_variables = refl
keyword_token-marked types_variable = refl
keyword_token-marked assumes = refl
keyword_token-marked separates = refl
keyword_token-marked asserts = refl
keyword_token-marked proves = refl

keyword_of-token : (keyword : Keyword) → keyword_of (keyword_token keyword) ≡ Some keyword
keyword_of-token declares_constants = refl
keyword_of-token declares_variables = refl
keyword_of-token types_variable = refl
keyword_of-token assumes = refl
keyword_of-token separates = refl
keyword_of-token asserts = refl
keyword_of-token proves = refl

pub plain_tokens_say : PlainTokensSay
plain_tokens_say labels keyword symbol symbols clean_labels clean no_proof =
    form_of-keyword labels (keyword_token keyword) symbol (symbols ++ codes "$." ∷ []) clean_labels
    (keyword_token-marked keyword)
    ∙ ap (option_and_then (keyword_form labels
    (before_dollar ((symbol ∷ symbols) ++ codes "$." ∷ []))
    (from_dollar ((symbol ∷ symbols) ++ codes "$." ∷ [])))) (keyword_of-token keyword)
    ∙ keyword_form-clean labels keyword symbol symbols no_proof clean

-- the form of clean symbols with a proof after them
proof_form-clean : (labels symbols proof : List Token) → are_clean symbols ≡ true
    → are_clean proof ≡ true
    → keyword_form labels (before_dollar (symbols ++ codes "$=" ∷ (proof ++ codes "$." ∷ [])))
    (from_dollar (symbols ++ codes "$=" ∷ (proof ++ codes "$." ∷ []))) proves
    ≡ Some (plain labels proves symbols proof)
proof_form-clean labels symbols proof clean clean_proof =
    let last : from_dollar (proof ++ codes "$." ∷ []) ≡ codes "$." ∷ [] =
    from_dollar-clean proof [] (codes "$.") clean_proof refl in
    let front : before_dollar (proof ++ codes "$." ∷ []) ≡ proof =
    before_dollar-clean proof [] (codes "$.") clean_proof refl in
    ap (λ (ts : List Token).
    proof_form labels ts (from_dollar (symbols ++ codes "$=" ∷ (proof ++ codes "$." ∷ []))))
    (before_dollar-clean symbols (proof ++ codes "$." ∷ []) (codes "$=") clean refl)
    ∙ ap (proof_form labels symbols)
    (from_dollar-clean symbols (proof ++ codes "$." ∷ []) (codes "$=") clean refl)
    ∙ rw (last, front) refl

pub proof_tokens_say : ProofTokensSay
proof_tokens_say labels [] proof clean_labels clean clean_proof =
    form_of-keyword labels (codes "$p") (codes "$=") (proof ++ codes "$." ∷ []) clean_labels refl
    ∙ proof_form-clean labels [] proof clean clean_proof
proof_tokens_say labels (symbol ∷ symbols) proof clean_labels clean clean_proof =
    form_of-keyword labels (codes "$p") symbol
    (symbols ++ (codes "$=" ∷ (proof ++ codes "$." ∷ []))) clean_labels refl
    ∙ proof_form-clean labels (symbol ∷ symbols) proof clean clean_proof
