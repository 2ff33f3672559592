-- The tokens and labels of names.
use Rattle.std.proofs.Common.{◌≡◌, ℕ, ◌+◌, ◌<◌, ◌^◌, Bool, true, false, List, [], ◌∷◌, ◌++◌, refl}
use Rattle.std.proofs.Common.{ap, sym, subst, arith}
use Rattle.std.specs.Prelude.{◌==◌, if◌then◌else◌, codes, decimal, bytes_eq}
use Rattle.std.specs.List.{list_all}
use Rattle.std.proofs.lemmas.Bool.{false≢true}
use Rattle.std.proofs.lemmas.Slice.Eq.{bytes_eq-Decides}
use Rattle.mm_text.specs.Bytes.{Token, is_printable, class_of, is_printable_class, has_token}
use Rattle.mm_text.specs.Labels.{is_label_byte, is_label}
use Rattle.mm_text.specs.Statements.{ends_statement}
use Rattle.mm_database.specs.Forms.{has_dollar}
use Rattle.mm_database.specs.Frames.{frame_of}
use Rattle.mm_header.specs.Header.{header_rows}
use Rattle.mm_header.specs.HeaderContext.{header_context, header_labels}
use Rattle.mm_proof.specs.Labels.{name_label}
use Rattle.ml_pat.proofs.LeafLaws.{both_true, split_true}
use Rattle.mm_proof.proofs.Decimals.{list_all-decimal, decimal-same}
use Rattle.mm_claims.specs.Statements.{NameKind, sort_name, symbol_name, value_name, kind_front}
use Rattle.mm_claims.specs.Statements.{is_name_byte, IsName, typecode_of}
use Rattle.mm_claims.specs.Fitting.{name_frame, AreNames}
use Rattle.mm_claims.specs.Variables.{is_variable_token}
use Rattle.mm_text.specs.PlainTokens.{is_plain_token}

-- what is known about the token of a name
pub record NameFacts (t : Token) : Type 0 where
  pub plain : is_plain_token t ≡ true
  pub clean : has_dollar t ≡ false
  pub no_end : ends_statement t ≡ false
  pub no_constant : header_context.constants t ≡ false
  pub no_variable : header_context.variables t ≡ false
  pub no_variable_token : is_variable_token t ≡ false
  pub no_label : (i : ℕ) → bytes_eq t (name_label i) ≡ false
  pub label_no : (i : ℕ) → bytes_eq (name_label i) t ≡ false
  pub typecode : header_context.constants (typecode_of t) ≡ true
  pub clean_typecode : has_dollar (typecode_of t) ≡ false
  pub plain_typecode : is_plain_token (typecode_of t) ≡ true
  pub no_end_typecode : ends_statement (typecode_of t) ≡ false
  pub frame : (i : ℕ)
      → frame_of header_context.scope (name_label i) (typecode_of t ∷ (t ∷ [])) ≡ name_frame i t

-- a byte of a name is printable and is not `$`
printing : (b : ℕ) → is_name_byte b ≡ true → is_printable_class (class_of b) ≡ true
printing b h =
    let both : (is_printable b ≡ true) × ((if b == 36 then false else true) ≡ true) =
    split_true (is_printable b) (if b == 36 then false else true) h in
    class b both.0
  where
    class : (b : ℕ) → is_printable b ≡ true → is_printable_class (class_of b) ≡ true
    class b k = grind (arith, k)

no_dollar : (b : ℕ) → is_name_byte b ≡ true → (b == 36) ≡ false
no_dollar b h =
    let both : (is_printable b ≡ true) × ((if b == 36 then false else true) ≡ true) =
    split_true (is_printable b) (if b == 36 then false else true) h in
    go (b == 36) both.1
  where
    go : (c : Bool) → (if c then false else true) ≡ true → c ≡ false
    go true k = absurd (false≢true k)
    go false k = refl

pub all_printing : (bs : Token) → list_all is_name_byte bs ≡ true
    → list_all (λ c. is_printable_class (class_of c)) bs ≡ true
all_printing [] h = refl
all_printing (b ∷ bs) h =
    let both : (is_name_byte b ≡ true) × (list_all is_name_byte bs ≡ true) =
    split_true (is_name_byte b) (list_all is_name_byte bs) h in
    both_true (is_printable_class (class_of b)) (list_all (λ c. is_printable_class (class_of c)) bs)
    (printing b both.0) (all_printing bs both.1)

pub no_dollars : (bs : Token) → list_all is_name_byte bs ≡ true → has_dollar bs ≡ false
no_dollars [] h = refl
no_dollars (b ∷ bs) h =
    let both : (is_name_byte b ≡ true) × (list_all is_name_byte bs ≡ true) =
    split_true (is_name_byte b) (list_all is_name_byte bs) h in
    let here : (b == 36) ≡ false = no_dollar b both.0 in
    rw here (no_dollars bs both.1)

sort_facts : (w : Token) → list_all is_name_byte w ≡ true → NameFacts (codes "s:" ++ w)
unfolding header_context header_rows header_labels
sort_facts w h = record {
  plain =
      both_true (list_all (λ c. is_printable_class (class_of c)) w) true (all_printing w h) refl;
  clean = no_dollars w h;
  no_end = refl;
  no_constant = refl;
  no_variable = refl;
  no_variable_token = refl;
  no_label = λ i. refl;
  label_no = λ i. refl;
  typecode = refl;
  clean_typecode = refl;
  plain_typecode = refl;
  no_end_typecode = refl;
  frame = λ i. refl;
}

symbol_facts : (w : Token) → list_all is_name_byte w ≡ true → NameFacts (codes "f:" ++ w)
unfolding header_context header_rows header_labels
symbol_facts w h = record {
  plain =
      both_true (list_all (λ c. is_printable_class (class_of c)) w) true (all_printing w h) refl;
  clean = no_dollars w h;
  no_end = refl;
  no_constant = refl;
  no_variable = refl;
  no_variable_token = refl;
  no_label = λ i. refl;
  label_no = λ i. refl;
  typecode = refl;
  clean_typecode = refl;
  plain_typecode = refl;
  no_end_typecode = refl;
  frame = λ i. refl;
}

value_facts : (w : Token) → list_all is_name_byte w ≡ true → NameFacts (codes "d:" ++ w)
unfolding header_context header_rows header_labels
value_facts w h = record {
  plain =
      both_true (list_all (λ c. is_printable_class (class_of c)) w) true (all_printing w h) refl;
  clean = no_dollars w h;
  no_end = refl;
  no_constant = refl;
  no_variable = refl;
  no_variable_token = refl;
  no_label = λ i. refl;
  label_no = λ i. refl;
  typecode = refl;
  clean_typecode = refl;
  plain_typecode = refl;
  no_end_typecode = refl;
  frame = λ i. refl;
}

pub name_facts : (t : Token) → IsName t → NameFacts t
name_facts t w = go w.kind w.is
  where
    go : (k : NameKind) → t ≡ kind_front k ++ w.rest → NameFacts t
    go sort_name is = subst (λ (u : Token). NameFacts u) (sym is) (sort_facts w.rest w.bytes)
    go symbol_name is = subst (λ (u : Token). NameFacts u) (sym is) (symbol_facts w.rest w.bytes)
    go value_name is = subst (λ (u : Token). NameFacts u) (sym is) (value_facts w.rest w.bytes)

-- what is known about the label of a name

pub digit_of_label : (d : ℕ) → d < 10 → is_label_byte (48 + d) ≡ true
digit_of_label d h = grind (arith, h)

pub digit_prints : (d : ℕ) → d < 10 → is_name_byte (48 + d) ≡ true
digit_prints d h = grind (arith, h)

pub name_label-is_label : (i : ℕ) → i < 2 ^ 64 → is_label (name_label i) ≡ true
name_label-is_label i h = list_all-decimal is_label_byte digit_of_label i h

pub name_label-plain : (i : ℕ) → i < 2 ^ 64 → is_plain_token (name_label i) ≡ true
name_label-plain i h =
    let bytes : list_all is_name_byte (decimal i) ≡ true =
    list_all-decimal is_name_byte digit_prints i h in
    both_true (list_all (λ c. is_printable_class (class_of c)) (decimal i)) true
    (all_printing (decimal i) bytes) refl

pub name_label-clean : (i : ℕ) → i < 2 ^ 64 → has_dollar (name_label i) ≡ false
name_label-clean i h = no_dollars (decimal i) (list_all-decimal is_name_byte digit_prints i h)

pub name_label-differs : (i j : ℕ) → i < 2 ^ 64 → j < 2 ^ 64 → (i ≡ j → ⊥)
    → bytes_eq (name_label i) (name_label j) ≡ false
name_label-differs i j h k differ = go (bytes_eq (name_label i) (name_label j)) refl
  where
    behind : Token → Token
    behind [] = []
    behind (a ∷ []) = []
    behind (a ∷ (b ∷ bs)) = bs

    go : (b : Bool) → bytes_eq (name_label i) (name_label j) ≡ b
        → bytes_eq (name_label i) (name_label j) ≡ false
    go true is =
        absurd (differ (decimal-same i j h k
        (ap behind ((bytes_eq-Decides (name_label i) (name_label j)).0 is))))
    go false is = is

-- no name is a label
pub no_label_among : (ts : List Token) (i : ℕ) → AreNames ts → has_token ts (name_label i) ≡ false
no_label_among [] i h = refl
no_label_among (t ∷ ts) i h =
    let here : bytes_eq t (name_label i) ≡ false = (name_facts t h.0).no_label i in
    rw here (no_label_among ts i h.1)
