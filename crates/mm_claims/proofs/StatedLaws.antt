-- The tokens of statements, and how they relate to the header and the names.
use Rattle.std.proofs.Common.{◌≡◌, ℕ, ◌<◌, Bool, true, false, List, [], ◌∷◌, ◌++◌, length, zero}
use Rattle.std.proofs.Common.{suc, map, refl, ap, ◌∙◌, sym, subst, arith, append_assoc, Option}
use Rattle.std.proofs.Common.{Some, None}
use Rattle.std.specs.Prelude.{◌==◌, ◌&&◌, ◌||◌, not, if◌then◌else◌, codes, bytes_eq}
use Rattle.std.specs.List.{list_any, list_all}
use Rattle.std.proofs.lemmas.Bool.{false≢true}
use Rattle.std.proofs.lemmas.Slice.Eq.{bytes_eq-Decides}
use Rattle.mm_text.specs.Bytes.{Token, has_token}
use Rattle.mm_text.specs.Statements.{ends_statement}
use Rattle.mm_database.specs.Forms.{asserts}
use Rattle.mm_database.specs.Frames.{Hypothesis, label_of, Frame}
use Rattle.mm_database.specs.Database.{Context}
use Rattle.mm_database.specs.Proofs.{hypothesis_of}
use Rattle.mm_header.specs.Header.{header_rows}
use Rattle.mm_header.specs.HeaderContext.{header_context}
use Rattle.mm_proof.specs.Labels.{name_label, statement_label}
use Rattle.mm_proof.specs.Serving.{punctuation}
use Rattle.mm_proof.specs.Tokens.{name_of}
use Rattle.ml_pat.proofs.LeafLaws.{both_true}
use Rattle.mm_proof.proofs.LeafLaws.{list_all-append}
use Rattle.mm_claims.specs.Statements.{NameKind, sort_name, symbol_name, value_name, kind_front}
use Rattle.mm_claims.specs.Statements.{IsName}
use Rattle.mm_claims.specs.Fitting.{AreNames, Holds}
use Rattle.mm_claims.specs.Variables.{is_variable_token}
use Rattle.mm_claims.proofs.BoolLaws.{either_true, second_true, and_false}
use Rattle.mm_text.specs.PlainTokens.{is_plain_token, is_one_statement, ends_once}
use Rattle.mm_database.specs.StatementTexts.{plain_tokens, proof_tokens}

-- what proofs find in the header

rows_are_no_types : map (λ (h : Hypothesis). header_context.frames (label_of h))
    header_context.scope.hypotheses
    ≡ map (λ (h : Hypothesis). None) header_context.scope.hypotheses
unfolding header_context header_rows
rows_are_no_types = refl

first_of : List (Option Frame) → Option Frame
first_of [] = None
first_of (o ∷ os) = o

others_of : List (Option Frame) → List (Option Frame)
others_of [] = []
others_of (o ∷ os) = os

none_active : (frames : Token → Option Frame) (hs : List Hypothesis) (label : Token) (f : Frame)
    → map (λ (h : Hypothesis). frames (label_of h)) hs ≡ map (λ (h : Hypothesis). None) hs
    → frames label ≡ Some f → hypothesis_of hs label ≡ None
unfolding first_of others_of
none_active frames [] label f none there = refl
none_active frames (h ∷ hs) label f none there =
    go (bytes_eq (label_of h) label) refl (none_active frames hs label f (ap others_of none) there)
  where
    go : (b : Bool) → bytes_eq (label_of h) label ≡ b → hypothesis_of hs label ≡ None
        → (if b then Some h else hypothesis_of hs label) ≡ None
    go true is behind =
        absurd (let never : Some f ≡ None =
        sym there ∙ ap frames (sym ((bytes_eq-Decides (label_of h) label).0 is))
        ∙ ap first_of none in
        let z : ⊥ = cc in z)
    go false is behind = behind

pub header_no_active : (label : Token) (f : Frame) → header_context.frames label ≡ Some f
    → hypothesis_of header_context.scope.hypotheses label ≡ None
header_no_active label f h =
    none_active header_context.frames header_context.scope.hypotheses label f rows_are_no_types h

pub name_no_active : (i : ℕ) → hypothesis_of header_context.scope.hypotheses (name_label i) ≡ None
unfolding header_context
name_no_active i = refl

pub statement_no_active : (k : ℕ)
    → hypothesis_of header_context.scope.hypotheses (statement_label k) ≡ None
unfolding header_context
statement_no_active k = refl

pub name_at : (ts : List Token) (i : ℕ) → AreNames ts → i < length ts → IsName (name_of ts i)
name_at [] i names lt = absurd (omega (arith, lt))
name_at (t ∷ ts) zero names lt = names.0
name_at (t ∷ ts) (suc i) names lt = name_at ts i names.1 (omega (arith, lt))

-- no token of a variable is a constant of the header
pub fixed_variables : (declared : List Token) (c : Context) (ts : List Token) → Holds declared c
    → map is_variable_token ts ≡ map (λ t. false) ts
    → map c.variables ts ≡ map header_context.variables ts
fixed_variables declared c [] w h = refl
fixed_variables declared c (t ∷ ts) w h =
    ap (λ (b : Bool). b ∷ map c.variables ts) (w.variables t (ap first_of_bools h))
    ∙ ap (λ (bs : List Bool). header_context.variables t ∷ bs)
    (fixed_variables declared c ts w (ap others_of_bools h))
  where
    first_of_bools : List Bool → Bool
    first_of_bools [] = false
    first_of_bools (b ∷ bs) = b

    others_of_bools : List Bool → List Bool
    others_of_bools [] = []
    others_of_bools (b ∷ bs) = bs

pub fixed_constants : map header_context.variables punctuation ≡ map (λ t. false) punctuation
unfolding header_context
fixed_constants = refl

-- what is true of tokens

pub itself : (t : Token) → bytes_eq t t ≡ true
itself t = (bytes_eq-Decides t t).1 refl

pub has_name : (ts : List Token) (i : ℕ) → i < length ts → has_token ts (name_of ts i) ≡ true
has_name [] i lt = absurd (omega (arith, lt))
has_name (t ∷ ts) zero lt = either_true (bytes_eq t t) (has_token ts t) (itself t)
has_name (t ∷ ts) (suc i) lt =
    second_true (bytes_eq t (name_of ts i)) (has_token ts (name_of ts i))
    (has_name ts i (omega (arith, lt)))

pub header_fixed : map header_context.constants punctuation ≡ map (λ t. true) punctuation
unfolding header_context
header_fixed = refl

pub header_turnstile : header_context.constants (codes "|-") ≡ true
unfolding header_context
header_turnstile = refl

-- no name is a variable of the header

pub name_no_letter : (t : Token) (a : ℕ) → IsName t → bytes_eq t (a ∷ []) ≡ false
name_no_letter t a w = go w.kind w.is
  where
    go : (k : NameKind) → t ≡ kind_front k ++ w.rest → bytes_eq t (a ∷ []) ≡ false
    go sort_name is =
        subst (λ (u : Token). bytes_eq u (a ∷ []) ≡ false) (sym is) (and_false (115 == a))
    go symbol_name is =
        subst (λ (u : Token). bytes_eq u (a ∷ []) ≡ false) (sym is) (and_false (102 == a))
    go value_name is =
        subst (λ (u : Token). bytes_eq u (a ∷ []) ≡ false) (sym is) (and_false (100 == a))

pub none_passes : (test : Token → Bool) (ts : List Token) → list_all (λ t. not (test t)) ts ≡ true
    → list_any test ts ≡ false
none_passes test [] h = refl
none_passes test (t ∷ ts) h = go (test t) h (none_passes test ts)
  where
    go : (b : Bool) → (not b && list_all (λ u. not (test u)) ts) ≡ true
        → (list_all (λ u. not (test u)) ts ≡ true → list_any test ts ≡ false)
        → (b || list_any test ts) ≡ false
    go true all behind = absurd (false≢true all)
    go false all behind = behind all

-- no name is the label of a statement

pub name_no_statement : (t : Token) (k : ℕ) → IsName t → bytes_eq t (statement_label k) ≡ false
name_no_statement t k w = go w.kind w.is
  where
    go : (n : NameKind) → t ≡ kind_front n ++ w.rest → bytes_eq t (statement_label k) ≡ false
    go sort_name is = subst (λ (u : Token). bytes_eq u (statement_label k) ≡ false) (sym is) refl
    go symbol_name is = subst (λ (u : Token). bytes_eq u (statement_label k) ≡ false) (sym is) refl
    go value_name is = subst (λ (u : Token). bytes_eq u (statement_label k) ≡ false) (sym is) refl

-- the tokens of a statement

pub ends_last : (ts : List Token) → list_all (λ t. not (ends_statement t)) ts ≡ true
    → ends_once (ts ++ codes "$." ∷ []) ≡ true
ends_last [] h = refl
ends_last (t ∷ []) h = go (ends_statement t) h
  where
    go : (b : Bool) → (not b && true) ≡ true → (not b && true) ≡ true
    go b k = k
ends_last (t ∷ (u ∷ ts)) h = go (ends_statement t) h (ends_last (u ∷ ts))
  where
    go : (b : Bool) → (not b && list_all (λ v. not (ends_statement v)) (u ∷ ts)) ≡ true
        → (list_all (λ v. not (ends_statement v)) (u ∷ ts) ≡ true
        → ends_once ((u ∷ ts) ++ codes "$." ∷ []) ≡ true)
        → (not b && ends_once ((u ∷ ts) ++ codes "$." ∷ [])) ≡ true
    go true all behind = absurd (false≢true all)
    go false all behind = behind all

pub axiom_one : (k : ℕ) (symbols : List Token)
    → list_all (λ t. not (ends_statement t)) symbols ≡ true
    → is_one_statement (plain_tokens (statement_label k ∷ []) asserts symbols) ≡ true
axiom_one k symbols h = ends_last (codes "$a" ∷ symbols) h

pub theorem_one : (k : ℕ) (symbols proof : List Token)
    → list_all (λ t. not (ends_statement t)) symbols ≡ true
    → list_all (λ t. not (ends_statement t)) proof ≡ true
    → is_one_statement (proof_tokens (statement_label k ∷ []) symbols proof) ≡ true
theorem_one k symbols proof h g =
    ap (λ (ts : List Token). ends_once (codes "$p" ∷ ts))
    (sym (append_assoc symbols (codes "$=" ∷ proof) (codes "$." ∷ [])))
    ∙ ends_last (codes "$p" ∷ (symbols ++ codes "$=" ∷ proof))
    (list_all-append (λ t. not (ends_statement t)) symbols (codes "$=" ∷ proof) h g)

pub axiom_plain : (l : Token) (symbols : List Token) → is_plain_token l ≡ true
    → list_all is_plain_token symbols ≡ true
    → list_all is_plain_token (plain_tokens (l ∷ []) asserts symbols) ≡ true
axiom_plain l symbols h g =
    both_true (is_plain_token l) _ h
    (list_all-append is_plain_token symbols (codes "$." ∷ []) g refl)

pub theorem_plain : (l : Token) (symbols proof : List Token) → is_plain_token l ≡ true
    → list_all is_plain_token symbols ≡ true → list_all is_plain_token proof ≡ true
    → list_all is_plain_token (proof_tokens (l ∷ []) symbols proof) ≡ true
theorem_plain l symbols proof h g f =
    both_true (is_plain_token l) _ h (list_all-append is_plain_token symbols
    (codes "$=" ∷ (proof ++ codes "$." ∷ [])) g
    (list_all-append is_plain_token proof (codes "$." ∷ []) f refl))

-- no row of the header has such a label

header_no_statement : (k : ℕ) → header_context.frames (statement_label k) ≡ None
unfolding header_context header_rows
header_no_statement k = refl

pub row_differs : (label : Token) (f : Frame) (k : ℕ) → header_context.frames label ≡ Some f
    → bytes_eq label (statement_label k) ≡ false
row_differs label f k h = go (bytes_eq label (statement_label k)) refl
  where
    go : (b : Bool) → bytes_eq label (statement_label k) ≡ b
        → bytes_eq label (statement_label k) ≡ false
    go true is =
        absurd (let never : Some f ≡ None =
        sym h ∙ ap header_context.frames ((bytes_eq-Decides label (statement_label k)).0 is)
        ∙ header_no_statement k in
        let z : ⊥ = cc in z)
    go false is = is
