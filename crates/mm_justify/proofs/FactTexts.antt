-- The text of a pattern, read as it is when facts are counted.
use Rattle.std.proofs.Common.{◌≡◌, ℕ, zero, suc, Bool, true, false, List, [], ◌∷◌, ◌++◌, Some, refl}
use Rattle.std.proofs.Common.{sym, ap, ◌∙◌, subst, append_assoc, append-nil}
use Rattle.std.specs.Prelude.{◌&&◌, ◌||◌, ◌==◌, if◌then◌else◌, take, drop, codes, bytes_eq}
use Rattle.std.proofs.lemmas.Bool.{false≢true}
use Rattle.std.proofs.lemmas.Slice.Eq.{bytes_eq-Decides}
use Rattle.mm_text.specs.Bytes.{Token}
use Rattle.ml_pat.specs.Patterns.{Pattern}
use Rattle.ml_pat.specs.Patterns as logic
use Rattle.ml_pat.specs.Leaves.{LeafFacts, EachLeaf}
use Rattle.rule_core.specs.declared.signature.Signature.{Signature}
use Rattle.ml_image.specs.Sentences.{Sentence, sentence_image}
use Rattle.mm_proof.specs.Tokens.{pattern_tokens, name_of, bracket, nullary_name, object_token}
use Rattle.mm_proof.specs.Tokens.{meta_token}
use Rattle.mm_justify.specs.Stating.{typecode_of, holds_text}
use Rattle.mm_justify.specs.Counting.{below_all, below_one, after_brackets, after_pattern, begins_with}
use Rattle.mm_justify.specs.Counting.{says_unequal, is_object, begins_with_object}
use Rattle.mm_justify.specs.Counting.{begins_with_objects, equates_objects, says_injective}
use Rattle.mm_justify.specs.Counting.{says_apart}
use Rattle.mm_justify.specs.FactForms.{is_variable, is_equality, equates_variables, is_apart_form}
use Rattle.mm_justify.proofs.ImageLeaves.{is_sort_token, is_constant_token, sentence_leaves}

-- ---- words: tokens that are no brackets and no object variables

abbrev IsWord : Token → Type 0
IsWord t =
    (bytes_eq t (codes "(") ≡ false)
    × ((bytes_eq t (codes ")") ≡ false) × (is_object t ≡ false))

abbrev words : List Token → LeafFacts
words names = record {
  sort = λ i. IsWord (name_of names i);
  constant = λ i. IsWord (name_of names i);
  object = λ i. Unit {0};
  meta = λ i. Unit {0};
}

first_byte : (t : Token) (a b : ℕ) → bytes_eq (take 2 t) (a ∷ (b ∷ [])) ≡ true
    → (rest : Token) × (t ≡ a ∷ rest)
first_byte [] a b h =
    let bad : [] ≡ a ∷ (b ∷ []) = (bytes_eq-Decides [] (a ∷ (b ∷ []))).0 h in absurd (cc)
first_byte (c ∷ cs) a b h =
    let same : c ∷ take 1 cs ≡ a ∷ (b ∷ []) =
    (bytes_eq-Decides (c ∷ take 1 cs) (a ∷ (b ∷ []))).0 h in
    let first : c ≡ a = cc in
    (cs, ap (λ (d : ℕ). d ∷ cs) first)

sort_word : (t : Token) → is_sort_token t ≡ true → IsWord t
sort_word t h =
    let w = first_byte t 115 58 h in subst IsWord (sym w.1) (refl, (refl, refl))

constant_word : (t : Token) → is_constant_token t ≡ true → IsWord t
constant_word t h = go (bytes_eq (take 2 t) (codes "f:")) refl h
  where
    go : (b : Bool) → bytes_eq (take 2 t) (codes "f:") ≡ b
        → (b || bytes_eq (take 2 t) (codes "d:")) ≡ true → IsWord t
    go true is h =
        let w = first_byte t 102 58 is in subst IsWord (sym w.1) (refl, (refl, refl))
    go false is h =
        let w = first_byte t 100 58 h in subst IsWord (sym w.1) (refl, (refl, refl))

-- the sorts and constants of an image are words
pub image_words : (sig : Signature) (names : List Token) (s : Sentence) (p : Pattern)
    → sentence_image sig names s ≡ Some p → EachLeaf (words names) p
image_words sig names s p h =
    sentence_leaves sig names (words names) (record {
      sorts = λ n k t. sort_word (name_of names n) t;
      constants = λ n k t. constant_word (name_of names n) t;
    }) (λ x. tt) s p h

-- ---- what comes after a pattern

word_skipped : (t : Token) (n : ℕ) (rest : List Token) → IsWord t
    → after_brackets (suc n) (t ∷ rest) ≡ after_brackets (suc n) rest
word_skipped t n rest h = go (bytes_eq t (codes "(")) (bytes_eq t (codes ")")) h.0 h.1.0
  where
    go : (a b : Bool) → a ≡ false → b ≡ false
        → (if a then after_brackets (suc (suc n)) rest
        else (if b then after_brackets n rest else after_brackets (suc n) rest))
        ≡ after_brackets (suc n) rest
    go true b h k = absurd (false≢true (sym h))
    go false true h k = absurd (false≢true (sym k))
    go false false h k = refl

abbrev IsSkipped : List Token → Type 0
IsSkipped text =
    (n : ℕ) (rest : List Token) → after_brackets (suc n) (text ++ rest) ≡ after_brackets (suc n) rest

one_inside : (text : List Token) → IsSkipped text → (n : ℕ) (rest : List Token)
    → after_brackets (suc n) ((text ++ bracket) ++ rest) ≡ after_brackets n rest
one_inside text skipped n rest =
    ap (after_brackets (suc n)) (append_assoc text bracket rest) ∙ skipped n (codes ")" ∷ rest)

two_inside : (one other : List Token) → IsSkipped one → IsSkipped other → (n : ℕ)
    (rest : List Token)
    → after_brackets (suc n) ((one ++ (other ++ bracket)) ++ rest) ≡ after_brackets n rest
two_inside one other first second n rest =
    ap (after_brackets (suc n)) (append_assoc one (other ++ bracket) rest)
    ∙ first n ((other ++ bracket) ++ rest) ∙ one_inside other second n rest

sort_inside : (text : List Token) (t : Token) → IsSkipped text → IsWord t → (n : ℕ)
    (rest : List Token)
    → after_brackets (suc n) ((text ++ (t ∷ bracket)) ++ rest) ≡ after_brackets n rest
sort_inside text t skipped word n rest =
    ap (after_brackets (suc n)) (append_assoc text (t ∷ bracket) rest)
    ∙ skipped n (t ∷ (codes ")" ∷ rest)) ∙ word_skipped t n (codes ")" ∷ rest) word

bound_inside : (text : List Token) (t : Token) → IsSkipped text → IsWord t → (n : ℕ)
    (rest : List Token)
    → after_brackets (suc n) (t ∷ ((text ++ bracket) ++ rest)) ≡ after_brackets n rest
bound_inside text t skipped word n rest =
    word_skipped t n ((text ++ bracket) ++ rest) word ∙ one_inside text skipped n rest

skipped : (names : List Token) (p : Pattern) → EachLeaf (words names) p
    → IsSkipped (pattern_tokens names p)
skipped names (logic.nullary c) h n rest = refl
skipped names (logic.unary c p) h n rest =
    one_inside (pattern_tokens names p) (skipped names p h) (suc n) rest
skipped names (logic.binary c p q) h n rest =
    two_inside (pattern_tokens names p) (pattern_tokens names q) (skipped names p h.0)
    (skipped names q h.1) (suc n) rest
skipped names (logic.sorted c p s) h n rest =
    sort_inside (pattern_tokens names p) (name_of names s) (skipped names p h.0) h.1 (suc n) rest
skipped names (logic.quantified c x s p) h n rest =
    bound_inside (pattern_tokens names p) (name_of names s) (skipped names p h.0) h.1.1 (suc n) rest
skipped names (logic.var x) h n rest = refl
skipped names (logic.meta i) h n rest = refl
skipped names (logic.constant c) h n rest = word_skipped (name_of names c) n rest h

pattern_skipped : (names : List Token) (p : Pattern) (rest : List Token)
    → EachLeaf (words names) p → after_pattern (pattern_tokens names p ++ rest) ≡ rest
pattern_skipped names (logic.nullary c) rest h = refl
pattern_skipped names (logic.unary c p) rest h =
    one_inside (pattern_tokens names p) (skipped names p h) 0 rest
pattern_skipped names (logic.binary c p q) rest h =
    two_inside (pattern_tokens names p) (pattern_tokens names q) (skipped names p h.0)
    (skipped names q h.1) 0 rest
pattern_skipped names (logic.sorted c p s) rest h =
    sort_inside (pattern_tokens names p) (name_of names s) (skipped names p h.0) h.1 0 rest
pattern_skipped names (logic.quantified c x s p) rest h =
    bound_inside (pattern_tokens names p) (name_of names s) (skipped names p h.0) h.1.1 0 rest
pattern_skipped names (logic.var x) rest h = refl
pattern_skipped names (logic.meta i) rest h = refl
pattern_skipped names (logic.constant c) rest h = go (bytes_eq (name_of names c) (codes "(")) h.0
  where
    go : (b : Bool) → b ≡ false → (if b then after_brackets 1 rest else rest) ≡ rest
    go true is = absurd (false≢true (sym is))
    go false is = refl

-- ---- equalities

abbrev equality : List Token
equality = codes "(" ∷ (codes "\\eq" ∷ [])

begins_equality : (names : List Token) (p : Pattern) (rest : List Token)
    → EachLeaf (words names) p
    → begins_with equality (pattern_tokens names p ++ rest) ≡ is_equality p
begins_equality names (logic.equal p q) rest h = refl
begins_equality names (logic.constant c) rest h =
    ap (λ b. b && begins_with (codes "\\eq" ∷ []) rest) h.0
begins_equality names (logic.not p) rest h = refl
begins_equality names (logic.fun p s) rest h = refl
begins_equality names (logic.ex x s p) rest h = refl
begins_equality names p rest h = refl

begins_variable : (names : List Token) (p : Pattern) (rest : List Token)
    → EachLeaf (words names) p
    → begins_with_object (pattern_tokens names p ++ rest) ≡ is_variable p
begins_variable names (logic.constant c) rest h = h.1.1
begins_variable names p rest h = refl

variables_text : (names : List Token) (p q : Pattern) (rest : List Token)
    → EachLeaf (words names) p → EachLeaf (words names) q
    → begins_with_objects (pattern_tokens names p ++ (pattern_tokens names q ++ rest))
    ≡ (is_variable p && is_variable q)
variables_text names (logic.var x) q rest h k = begins_variable names q rest k
variables_text names (logic.constant c) q rest h k =
    ap (λ b. b && begins_with_object (pattern_tokens names q ++ rest)) h.1.1
variables_text names p q rest h k = refl

-- the second part of an implication
equates_text : (names : List Token) (p : Pattern) (rest : List Token) → EachLeaf (words names) p
    → equates_objects (codes ")" ∷ (pattern_tokens names p ++ rest)) ≡ equates_variables p
equates_text names (logic.equal p q) rest h =
    ap begins_with_objects
    (append_assoc (pattern_tokens names p) (pattern_tokens names q ++ bracket) rest
    ∙ ap (λ (ts : List Token). pattern_tokens names p ++ ts)
    (append_assoc (pattern_tokens names q) bracket rest))
    ∙ variables_text names p q (bracket ++ rest) h.0 h.1
equates_text names (logic.constant c) rest h =
    ap (λ b. (b && begins_with (codes "\\eq" ∷ []) rest) && begins_with_objects (drop 1 rest)) h.0
equates_text names (logic.not p) rest h = refl
equates_text names (logic.fun p s) rest h = refl
equates_text names (logic.ex x s p) rest h = refl
equates_text names p rest h = refl

-- ---- whole statements

abbrev brackets : ℕ → List Token
brackets zero = []
brackets (suc k) = codes ")" ∷ brackets k

-- what is said below the quantifiers
abbrev states_apart : List Token → Bool
states_apart tokens = says_unequal tokens || says_injective tokens

word_states : (t : Token) (rest : List Token) → bytes_eq t (codes "(") ≡ false
    → states_apart (t ∷ rest) ≡ false
word_states t rest = go (bytes_eq t (codes "("))
  where
    go : (b : Bool) → b ≡ false
        → ((b && begins_with (codes "\\not" ∷ (codes "(" ∷ (codes "\\eq" ∷ []))) rest)
        || ((b && begins_with (codes "\\imp" ∷ (codes "(" ∷ (codes "\\eq" ∷ []))) rest)
        && equates_objects (after_pattern (after_pattern (drop 3 rest))))) ≡ false
    go true h = absurd (false≢true (sym h))
    go false h = refl

leaf_states : (t : Token) (k : ℕ) → bytes_eq t (codes "(") ≡ false
    → states_apart (below_all (t ∷ brackets k)) ≡ false
leaf_states t zero h = word_states t [] h
leaf_states t (suc k) h = go (bytes_eq t (codes "(")) h
  where
    go : (b : Bool) → b ≡ false
        → states_apart (if (b && false) then below_one (brackets k) else (t ∷ brackets (suc k)))
        ≡ false
    go true is = absurd (false≢true (sym is))
    go false is = word_states t (brackets (suc k)) h

or_false : (b : Bool) → (b || false) ≡ b
or_false true = refl
or_false false = refl

not_states : (names : List Token) (p : Pattern) (k : ℕ) → EachLeaf (words names) p
    → states_apart (below_all (pattern_tokens names (logic.not p) ++ brackets k))
    ≡ is_apart_form (logic.not p)
not_states names p k h =
    or_false (begins_with equality ((pattern_tokens names p ++ bracket) ++ brackets k))
    ∙ ap (begins_with equality) (append_assoc (pattern_tokens names p) bracket (brackets k))
    ∙ begins_equality names p (bracket ++ brackets k) h

implies_states : (names : List Token) (p q : Pattern) (k : ℕ) → EachLeaf (words names) p
    → EachLeaf (words names) q
    → states_apart (below_all (pattern_tokens names (logic.imp p q) ++ brackets k))
    ≡ is_apart_form (logic.imp p q)
implies_states names (logic.equal a b) q k h g =
    let A : List Token = pattern_tokens names a in
    let B : List Token = pattern_tokens names b in
    let Q : List Token = pattern_tokens names q in
    let rest : List Token = bracket ++ brackets k in
    let whole : ((A ++ (B ++ bracket)) ++ (Q ++ bracket)) ++ brackets k
    ≡ A ++ (B ++ (codes ")" ∷ (Q ++ rest))) =
    append_assoc (A ++ (B ++ bracket)) (Q ++ bracket) (brackets k)
    ∙ ap (λ (ts : List Token). (A ++ (B ++ bracket)) ++ ts) (append_assoc Q bracket (brackets k))
    ∙ append_assoc A (B ++ bracket) (Q ++ rest)
    ∙ ap (λ (ts : List Token). A ++ ts) (append_assoc B bracket (Q ++ rest)) in
    ap (λ (ts : List Token). equates_objects (after_pattern (after_pattern ts))) whole
    ∙ ap (λ (ts : List Token). equates_objects (after_pattern ts))
    (pattern_skipped names a (B ++ (codes ")" ∷ (Q ++ rest))) h.0)
    ∙ ap equates_objects (pattern_skipped names b (codes ")" ∷ (Q ++ rest)) h.1)
    ∙ equates_text names q rest g
implies_states names p q k h g =
    ap (λ (b : Bool). b && equates_objects (after_pattern (after_pattern
    (drop 2 ((pattern_tokens names p ++ (pattern_tokens names q ++ bracket)) ++ brackets k)))))
    (ap (begins_with equality) (append_assoc (pattern_tokens names p)
    (pattern_tokens names q ++ bracket) (brackets k))
    ∙ begins_equality names p ((pattern_tokens names q ++ bracket) ++ brackets k) h)

states_by_form : (names : List Token) (p : Pattern) (k : ℕ) → EachLeaf (words names) p
    → states_apart (below_all (pattern_tokens names p ++ brackets k)) ≡ is_apart_form p
states_by_form names (logic.all x s p) k h =
    ap (λ (ts : List Token). states_apart (below_all ts))
    (append_assoc (pattern_tokens names p) bracket (brackets k))
    ∙ states_by_form names p (suc k) h.0
states_by_form names (logic.not p) k h = not_states names p k h
states_by_form names (logic.imp p q) k h = implies_states names p q k h.0 h.1
states_by_form names (logic.nullary c) k h =
    leaf_states (codes "\\" ++ nullary_name c) k refl
states_by_form names (logic.var x) k h = leaf_states (object_token x) k refl
states_by_form names (logic.meta i) k h = leaf_states (meta_token i) k refl
states_by_form names (logic.constant c) k h = leaf_states (name_of names c) k h.0
states_by_form names (logic.next p) k h = refl
states_by_form names (logic.equal p q) k h = refl
states_by_form names (logic.fun p s) k h = refl
states_by_form names (logic.ex x s p) k h = refl
states_by_form names p k h = refl

-- the test of the statement is the test of its pattern
pub says_by_form : (names : List Token) (p : Pattern) → EachLeaf (words names) p
    → says_apart (holds_text names p) ≡ is_apart_form p
says_by_form names p h =
    ap (λ (ts : List Token). states_apart (below_all ts))
    (sym (append-nil (pattern_tokens names p)))
    ∙ states_by_form names p 0 h

-- the statement that gives a name its typecode says no such thing
pub names_unlike : (token : Token) → says_apart (typecode_of token ∷ (token ∷ [])) ≡ false
names_unlike [] = refl
names_unlike (b ∷ bytes) = go (b == 115)
  where
    go : (sort : Bool) → says_apart
        ((if sort then codes "#Sort" else codes "#Pattern") ∷ ((b ∷ bytes) ∷ [])) ≡ false
    go true = refl
    go false = refl
