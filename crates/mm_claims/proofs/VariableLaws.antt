-- The tokens and labels of variables.
use Rattle.std.proofs.Common.{◌≡◌, ℕ, ◌+◌, ◌<◌, ◌^◌, Bool, true, false, List, [], ◌∷◌, ◌++◌, map}
use Rattle.std.proofs.Common.{refl, ap, ◌∙◌, sym, subst, arith, eq-eqb, eqb-true}
use Rattle.std.specs.Prelude.{◌==◌, ◌||◌, not, if◌then◌else◌, decimal, bytes_eq}
use Rattle.std.specs.List.{list_any, list_all}
use Rattle.std.proofs.lemmas.Bool.{false≢true}
use Rattle.std.proofs.lemmas.Slice.Eq.{bytes_eq-Decides}
use Rattle.mm_text.specs.Bytes.{Token, class_of, is_printable_class, has_token}
use Rattle.mm_text.specs.Labels.{is_label_byte, is_label}
use Rattle.mm_database.specs.Forms.{has_dollar}
use Rattle.mm_database.specs.Frames.{types}
use Rattle.mm_header.specs.Header.{header_rows}
use Rattle.mm_header.specs.HeaderContext.{header_context, header_labels}
use Rattle.mm_proof.specs.Labels.{two_numbers, premise_label}
use Rattle.ml_pat.proofs.LeafLaws.{both_true, split_true, not_true}
use Rattle.mm_proof.proofs.Decimals.{list_all-decimal, decimal-same}
use Rattle.mm_claims.specs.Statements.{NameKind, sort_name, symbol_name, value_name, kind_front}
use Rattle.mm_claims.specs.Statements.{is_name_byte, IsName}
use Rattle.mm_claims.specs.Fitting.{AreNames}
use Rattle.mm_claims.specs.Variables.{Variable, object_variable, pattern_variable, number_of}
use Rattle.mm_claims.specs.Variables.{same_variable, variable_token, variable_label, variable_type}
use Rattle.mm_claims.specs.Variables.{is_variable_token, has_variable, are_once, AreNumbered}
use Rattle.mm_claims.proofs.BoolLaws.{not_false, split_false}
use Rattle.mm_claims.proofs.NameLaws.{all_printing, no_dollars, digit_of_label, digit_prints}
use Rattle.mm_text.specs.PlainTokens.{is_plain_token}

-- what is known about the token of a variable
pub record VariableFacts (v : Variable) : Type 0 where
  pub plain : is_plain_token (variable_token v) ≡ true
  pub clean : has_dollar (variable_token v) ≡ false
  pub no_constant : header_context.constants (variable_token v) ≡ false
  pub not_active : header_context.scope.variables (variable_token v) ≡ false
  pub no_type : list_any (types (variable_token v)) header_context.scope.hypotheses ≡ false
  pub no_label : header_context.labels (variable_token v) ≡ false
  pub typecode : header_context.constants (variable_type v) ≡ true
  pub plain_typecode : is_plain_token (variable_type v) ≡ true
  pub clean_typecode : has_dollar (variable_type v) ≡ false

pub variable_facts : (v : Variable) → number_of v < 2 ^ 64 → VariableFacts v
unfolding header_context header_rows header_labels
variable_facts (object_variable i) h =
    let bytes : list_all is_name_byte (decimal i) ≡ true =
    list_all-decimal is_name_byte digit_prints i h in
    record {
      plain =
          both_true (list_all (λ c. is_printable_class (class_of c)) (decimal i)) true
          (all_printing (decimal i) bytes) refl;
      clean = no_dollars (decimal i) bytes;
      no_constant = refl;
      not_active = refl;
      no_type = refl;
      no_label = refl;
      typecode = refl;
      plain_typecode = refl;
      clean_typecode = refl;
    }
variable_facts (pattern_variable i) h =
    let bytes : list_all is_name_byte (decimal i) ≡ true =
    list_all-decimal is_name_byte digit_prints i h in
    record {
      plain =
          both_true (list_all (λ c. is_printable_class (class_of c)) (decimal i)) true
          (all_printing (decimal i) bytes) refl;
      clean = no_dollars (decimal i) bytes;
      no_constant = refl;
      not_active = refl;
      no_type = refl;
      no_label = refl;
      typecode = refl;
      plain_typecode = refl;
      clean_typecode = refl;
    }

-- no token of a variable is a name
pub name_no_variable : (t : Token) (v : Variable) → IsName t → bytes_eq t (variable_token v) ≡ false
name_no_variable t v w = go w.kind w.is v
  where
    front : (k : NameKind) (v : Variable)
        → bytes_eq (kind_front k ++ w.rest) (variable_token v) ≡ false
    front sort_name (object_variable i) = refl
    front sort_name (pattern_variable i) = refl
    front symbol_name (object_variable i) = refl
    front symbol_name (pattern_variable i) = refl
    front value_name (object_variable i) = refl
    front value_name (pattern_variable i) = refl

    go : (k : NameKind) → t ≡ kind_front k ++ w.rest → (v : Variable)
        → bytes_eq t (variable_token v) ≡ false
    go k is v = ap (λ (u : Token). bytes_eq u (variable_token v)) is ∙ front k v

pub no_variable_among : (ts : List Token) (v : Variable) → AreNames ts
    → has_token ts (variable_token v) ≡ false
no_variable_among [] v h = refl
no_variable_among (t ∷ ts) v h =
    let here : bytes_eq t (variable_token v) ≡ false = name_no_variable t v h.0 in
    rw here (no_variable_among ts v h.1)

pub token_is_variable : (v : Variable) → is_variable_token (variable_token v) ≡ true
token_is_variable (object_variable i) = refl
token_is_variable (pattern_variable i) = refl

-- a token that does not look like one of a variable is not the token of a variable
pub other_token : (t : Token) (v : Variable) → is_variable_token t ≡ false
    → bytes_eq t (variable_token v) ≡ false
other_token t v h = go (bytes_eq t (variable_token v)) refl
  where
    go : (b : Bool) → bytes_eq t (variable_token v) ≡ b → bytes_eq t (variable_token v) ≡ false
    go false is = is
    go true is =
        absurd (false≢true (sym h
        ∙ ap is_variable_token ((bytes_eq-Decides t (variable_token v)).0 is)
        ∙ token_is_variable v))

pub no_other_among : (ts : List Variable) (t : Token) → is_variable_token t ≡ false
    → has_token (map variable_token ts) t ≡ false
no_other_among [] t h = refl
no_other_among (v ∷ vs) t h = go (bytes_eq (variable_token v) t) refl (no_other_among vs t h)
  where
    go : (b : Bool) → bytes_eq (variable_token v) t ≡ b
        → has_token (map variable_token vs) t ≡ false
        → (b || has_token (map variable_token vs) t) ≡ false
    go false is behind = behind
    go true is behind =
        absurd (false≢true (sym h
        ∙ ap is_variable_token (sym ((bytes_eq-Decides (variable_token v) t).0 is))
        ∙ token_is_variable v))

-- tokens that are not equal differ
differs : (s t : Token) → (s ≡ t → ⊥) → bytes_eq s t ≡ false
differs s t other = go (bytes_eq s t) refl
  where
    go : (b : Bool) → bytes_eq s t ≡ b → bytes_eq s t ≡ false
    go false is = is
    go true is = absurd (other ((bytes_eq-Decides s t).0 is))

abbrev behind_two : Token → Token
behind_two [] = []
behind_two (a ∷ []) = []
behind_two (a ∷ (b ∷ bs)) = bs

is_equal : (i j : ℕ) → i ≡ j → (i == j) ≡ true
is_equal i j h = eq-eqb i j h

pub same_is : (u v : Variable) → same_variable u v ≡ true → u ≡ v
same_is (object_variable i) (object_variable j) h = ap object_variable (eqb-true i j h)
same_is (object_variable i) (pattern_variable j) h = absurd (false≢true h)
same_is (pattern_variable i) (object_variable j) h = absurd (false≢true h)
same_is (pattern_variable i) (pattern_variable j) h = ap pattern_variable (eqb-true i j h)

pub itself_same : (v : Variable) → same_variable v v ≡ true
itself_same (object_variable i) = eq-eqb i i refl
itself_same (pattern_variable i) = eq-eqb i i refl

pub token_differs : (u v : Variable) → number_of u < 2 ^ 64 → number_of v < 2 ^ 64
    → same_variable u v ≡ false → bytes_eq (variable_token u) (variable_token v) ≡ false
token_differs (object_variable i) (object_variable j) h k other =
    differs (variable_token (object_variable i)) (variable_token (object_variable j))
    (λ same. false≢true (sym other ∙ is_equal i j (decimal-same i j h k (ap behind_two same))))
token_differs (object_variable i) (pattern_variable j) h k other = refl
token_differs (pattern_variable i) (object_variable j) h k other = refl
token_differs (pattern_variable i) (pattern_variable j) h k other =
    differs (variable_token (pattern_variable i)) (variable_token (pattern_variable j))
    (λ same. false≢true (sym other ∙ is_equal i j (decimal-same i j h k (ap behind_two same))))

-- two numbers with a dot between them are read back

no_dot : (d : ℕ) → d < 10 → not ((48 + d) == 46) ≡ true
no_dot d h = grind (arith, h)

-- the bytes before the first dot, and those after it
before_dot : List ℕ → List ℕ
before_dot [] = []
before_dot (b ∷ bs) = if b == 46 then [] else b ∷ before_dot bs

behind_dot : List ℕ → List ℕ
behind_dot [] = []
behind_dot (b ∷ bs) = if b == 46 then bs else behind_dot bs

is_false : (b : Bool) → not b ≡ true → b ≡ false
is_false true h = absurd (false≢true h)
is_false false h = refl

before_dot-is : (xs ys : List ℕ) → list_all (λ b. not (b == 46)) xs ≡ true
    → before_dot (xs ++ 46 ∷ ys) ≡ xs
unfolding before_dot
before_dot-is [] ys h = refl
before_dot-is (x ∷ xs) ys h =
    let both : (not (x == 46) ≡ true) × (list_all (λ b. not (b == 46)) xs ≡ true) =
    split_true (not (x == 46)) (list_all (λ b. not (b == 46)) xs) h in
    let here : (x == 46) ≡ false = is_false (x == 46) both.0 in
    rw here (ap (λ (bs : List ℕ). x ∷ bs) (before_dot-is xs ys both.1))

behind_dot-is : (xs ys : List ℕ) → list_all (λ b. not (b == 46)) xs ≡ true
    → behind_dot (xs ++ 46 ∷ ys) ≡ ys
unfolding behind_dot
behind_dot-is [] ys h = refl
behind_dot-is (x ∷ xs) ys h =
    let both : (not (x == 46) ≡ true) × (list_all (λ b. not (b == 46)) xs ≡ true) =
    split_true (not (x == 46)) (list_all (λ b. not (b == 46)) xs) h in
    let here : (x == 46) ≡ false = is_false (x == 46) both.0 in
    rw here (behind_dot-is xs ys both.1)

decimal_no_dot : (n : ℕ) → n < 2 ^ 64 → list_all (λ b. not (b == 46)) (decimal n) ≡ true
decimal_no_dot n h = list_all-decimal (λ b. not (b == 46)) no_dot n h

pub first_number_same : (k i l j : ℕ) → k < 2 ^ 64 → l < 2 ^ 64 → two_numbers k i ≡ two_numbers l j
    → k ≡ l
first_number_same k i l j h g same =
    decimal-same k l h g (sym (before_dot-is (decimal k) (decimal i) (decimal_no_dot k h))
    ∙ ap before_dot same ∙ before_dot-is (decimal l) (decimal j) (decimal_no_dot l g))

pub second_number_same : (k i j : ℕ) → k < 2 ^ 64 → i < 2 ^ 64 → j < 2 ^ 64
    → two_numbers k i ≡ two_numbers k j → i ≡ j
second_number_same k i j h hi hj same =
    decimal-same i j hi hj (sym (behind_dot-is (decimal k) (decimal i) (decimal_no_dot k h))
    ∙ ap behind_dot same ∙ behind_dot-is (decimal k) (decimal j) (decimal_no_dot k h))

-- labels of variables

pub label_differs : (k : ℕ) (u v : Variable) → k < 2 ^ 64 → number_of u < 2 ^ 64
    → number_of v < 2 ^ 64 → same_variable u v ≡ false
    → bytes_eq (variable_label k u) (variable_label k v) ≡ false
label_differs k (object_variable i) (object_variable j) small h g other =
    differs (variable_label k (object_variable i)) (variable_label k (object_variable j))
    (λ same. false≢true
    (sym other ∙ is_equal i j (second_number_same k i j small h g (ap behind_two same))))
label_differs k (object_variable i) (pattern_variable j) small h g other = refl
label_differs k (pattern_variable i) (object_variable j) small h g other = refl
label_differs k (pattern_variable i) (pattern_variable j) small h g other =
    differs (variable_label k (pattern_variable i)) (variable_label k (pattern_variable j))
    (λ same. false≢true
    (sym other ∙ is_equal i j (second_number_same k i j small h g (ap behind_two same))))

-- the labels of variables in different blocks
pub label_elsewhere : (k l : ℕ) (u v : Variable) → k < 2 ^ 64 → l < 2 ^ 64 → (k ≡ l → ⊥)
    → bytes_eq (variable_label k u) (variable_label l v) ≡ false
label_elsewhere k l (object_variable i) (object_variable j) hk hl other =
    differs (variable_label k (object_variable i)) (variable_label l (object_variable j))
    (λ same. other (first_number_same k i l j hk hl (ap behind_two same)))
label_elsewhere k l (object_variable i) (pattern_variable j) hk hl other = refl
label_elsewhere k l (pattern_variable i) (object_variable j) hk hl other = refl
label_elsewhere k l (pattern_variable i) (pattern_variable j) hk hl other =
    differs (variable_label k (pattern_variable i)) (variable_label l (pattern_variable j))
    (λ same. other (first_number_same k i l j hk hl (ap behind_two same)))

pub premise_differs : (k i j : ℕ) → k < 2 ^ 64 → i < 2 ^ 64 → j < 2 ^ 64 → (i ≡ j → ⊥)
    → bytes_eq (premise_label k i) (premise_label k j) ≡ false
premise_differs k i j small h g other =
    differs (premise_label k i) (premise_label k j)
    (λ same. other (second_number_same k i j small h g (ap behind_two same)))

pub premise_elsewhere : (k l i j : ℕ) → k < 2 ^ 64 → l < 2 ^ 64 → (k ≡ l → ⊥)
    → bytes_eq (premise_label k i) (premise_label l j) ≡ false
premise_elsewhere k l i j hk hl other =
    differs (premise_label k i) (premise_label l j)
    (λ same. other (first_number_same k i l j hk hl (ap behind_two same)))

-- their spelling

all_bytes : (test : ℕ → Bool) (xs ys : List ℕ) → list_all test xs ≡ true → list_all test ys ≡ true
    → list_all test (xs ++ ys) ≡ true
all_bytes test [] ys h k = k
all_bytes test (x ∷ xs) ys h k =
    let both : (test x ≡ true) × (list_all test xs ≡ true) =
    split_true (test x) (list_all test xs) h in
    both_true (test x) (list_all test (xs ++ ys)) both.0 (all_bytes test xs ys both.1 k)

two_numbers-spelt : (k i : ℕ) → k < 2 ^ 64 → i < 2 ^ 64
    → list_all is_label_byte (two_numbers k i) ≡ true
two_numbers-spelt k i h g =
    all_bytes is_label_byte (decimal k) (46 ∷ decimal i)
    (list_all-decimal is_label_byte digit_of_label k h)
    (list_all-decimal is_label_byte digit_of_label i g)

pub label_spelt : (k : ℕ) (v : Variable) → k < 2 ^ 64 → number_of v < 2 ^ 64
    → is_label (variable_label k v) ≡ true
label_spelt k (object_variable i) h g = two_numbers-spelt k i h g
label_spelt k (pattern_variable i) h g = two_numbers-spelt k i h g

pub premise_spelt : (k j : ℕ) → k < 2 ^ 64 → j < 2 ^ 64 → is_label (premise_label k j) ≡ true
premise_spelt k j h g = two_numbers-spelt k j h g

pub turned_variable : (u v : Variable) → same_variable u v ≡ false → same_variable v u ≡ false
turned_variable u v h = go (same_variable v u) refl
  where
    go : (b : Bool) → same_variable v u ≡ b → same_variable v u ≡ false
    go false is = is
    go true is =
        absurd (false≢true
        (sym h ∙ ap (λ (x : Variable). same_variable u x) (same_is v u is) ∙ itself_same u))

pub has_append : (us ws : List Variable) (v : Variable)
    → has_variable (us ++ ws) v ≡ (has_variable us v || has_variable ws v)
has_append [] ws v = refl
has_append (u ∷ us) ws v = ap (λ b. same_variable u v || b) (has_append us ws v)
    ∙ or_assoc (same_variable u v) (has_variable us v) (has_variable ws v)
  where
    or_assoc : (a b c : Bool) → (a || (b || c)) ≡ ((a || b) || c)
    or_assoc true b c = refl
    or_assoc false b c = refl

pub numbered_both : (us vs : List Variable) → AreNumbered us → AreNumbered vs
    → AreNumbered (us ++ vs)
numbered_both [] vs h g = g
numbered_both (u ∷ us) vs h g = (h.0, numbered_both us vs h.1 g)

pub once_more : (vs : List Variable) (u : Variable) → are_once vs ≡ true → has_variable vs u ≡ false
    → are_once (vs ++ u ∷ []) ≡ true
once_more [] u h k = refl
once_more (v ∷ vs) u h k =
    let new : (same_variable v u ≡ false) × (has_variable vs u ≡ false) =
    split_false (same_variable v u) (has_variable vs u) k in
    let old : (not (has_variable vs v) ≡ true) × (are_once vs ≡ true) =
    split_true (not (has_variable vs v)) (are_once vs) h in
    both_true (not (has_variable (vs ++ u ∷ []) v)) (are_once (vs ++ u ∷ []))
    (not_false (has_variable (vs ++ u ∷ []) v) (has_append vs (u ∷ []) v
    ∙ rw (not_true (has_variable vs v) old.0, turned_variable v u new.0) refl))
    (once_more vs u old.1 new.1)

pub numbered_at : (vs : List Variable) (v : Variable) → AreNumbered vs → has_variable vs v ≡ true
    → number_of v < 2 ^ 64
numbered_at [] v all h = absurd (false≢true h)
numbered_at (u ∷ vs) v all h = go (same_variable u v) refl h (numbered_at vs v all.1)
  where
    go : (b : Bool) → same_variable u v ≡ b → (b || has_variable vs v) ≡ true
        → (has_variable vs v ≡ true → number_of v < 2 ^ 64) → number_of v < 2 ^ 64
    go true is there behind = subst (λ (x : Variable). number_of x < 2 ^ 64) (same_is u v is) all.0
    go false is there behind = behind there
