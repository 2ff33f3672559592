-- The frames of declarations and of what a program may assume are sound.
use Rattle.std.proofs.Common.{◌≡◌, ℕ, Bool, true, false, List, [], ◌∷◌, ◌++◌, map, refl}
use Rattle.std.proofs.Common.{Option, Some, None, option_map, sym, ap, ◌∙◌, subst, append-nil, ◌⊎◌, inl, inr}
use Rattle.std.proofs.Common.{arith}
use Rattle.std.specs.Prelude.{◌==◌, not, ◌||◌, ◌&&◌, if◌then◌else◌, take, bytes_eq, codes}
use Rattle.std.specs.List.{list_any}
use Rattle.std.proofs.lemmas.Bool.Decides.{nat_tests}
use Rattle.std.proofs.lemmas.Slice.Eq.{bytes_eq-Decides}
use Rattle.mm_text.specs.Bytes.{Token, has_token}
use Rattle.mm_database.specs.Frames.{Hypothesis, types}
use Rattle.ml_pat.specs.Patterns.{Bot, Top, Not, Next, Ev, Imp, And, Or}
use Rattle.ml_pat.specs.Patterns.{Equal, Member, App, Fun, AtSort, Ex, All}
use Rattle.ml_pat.specs.Patterns.{Pattern, nullary, unary, binary, sorted, quantified, var, meta}
use Rattle.ml_pat.specs.Patterns.{constant}
use Rattle.ml_pat.specs.Judgements.{absent, fresh}
use Rattle.ml_pat.specs.Leaves.{LeafFacts, EachLeaf}
use Rattle.ml_kernel.specs.Derivability.{by_renaming}
use Rattle.ml_kernel.specs.Renamings.{renamed}
use Rattle.term_core.specs.Terms.{DomainValue}
use Rattle.rule_core.specs.declared.signature.Signature.{Signature}
use Rattle.ml_image.specs.Tokens.{sort_token, symbol_token, value_token, name_at}
use Rattle.ml_image.specs.OwnTokens as own
use Rattle.ml_image.specs.OwnTokens.{IsOwnToken}
use Rattle.mm_proof.specs.Tokens.{object_token, pattern_tokens}
use Rattle.mm_proof.proofs.Decimals.{decimal-same}
use Rattle.mm_readings.specs.Letters.{Letter, opening, closing, nullary_letter, unary_letter}
use Rattle.mm_readings.specs.Letters.{binary_letter, sorted_letter, quantifier_letter}
use Rattle.mm_readings.specs.Letters.{object_letter, constant_letter, sort_letter, word_letter}
use Rattle.mm_readings.specs.Letters.{meta_letter, says_pattern, says_sort, says_variable}
use Rattle.mm_readings.specs.Letters.{says_substituted, says_fresh, says_predicate, says_holds}
use Rattle.mm_readings.specs.Letters.{other_word, letter_of}
use Rattle.mm_readings.specs.Pieces.{word_piece, pattern_piece, sort_piece}
use Rattle.mm_readings.specs.Holding.{Holds}
use Rattle.mm_readings.specs.Readings.{Reading, put, has_object, IsFit, IsSound}
use Rattle.mm_readings.proofs.Dummies.{or_left, or_right, not_both, same}
use Rattle.mm_readings.proofs.Meanings.{object_text}
use Rattle.mm_readings.proofs.RowTokens.{token_of, is_fixed, fixed_letter}
use Rattle.mm_justify.specs.Stating.{variables_in, typed, are_apart, holds_frame, holds_text}
use Rattle.mm_justify.specs.Stating.{name_frame}
use Rattle.mm_justify.specs.Justifying.{typecode_in}
use Rattle.mm_justify.proofs.ImageLeaves.{is_sort_token, is_constant_token}
use Rattle.mm_adequate.specs.Assuming.{numbered, few_variables}
use Rattle.mm_adequate.proofs.Allowed.{GiveTypes, typing_holds}
use Rattle.mm_adequate.proofs.Spelling.{named_leaves, ReadsNames, ReadsObjects, spells}

-- ---- the first two bytes of a token

begins : (a b : ℕ) (t : Token) → bytes_eq (take 2 t) (a ∷ (b ∷ [])) ≡ true
    → (rest : Token) × (t ≡ a ∷ (b ∷ rest))
begins a b [] h = absurd (cc)
begins a b (x ∷ []) h = absurd (none ((bytes_eq-Decides (x ∷ []) (a ∷ (b ∷ []))).0 h))
  where
    none : (x ∷ []) ≡ a ∷ (b ∷ []) → ⊥
    none e = cc
begins a b (x ∷ (y ∷ rest)) h =
    let e : (x ∷ (y ∷ [])) ≡ a ∷ (b ∷ []) =
    (bytes_eq-Decides (x ∷ (y ∷ [])) (a ∷ (b ∷ []))).0 h in
    let first : x ≡ a = cc in
    let second : y ≡ b = cc in
    (rest, ap (λ (z : ℕ). z ∷ (y ∷ rest)) first ∙ ap (λ (z : ℕ). a ∷ (z ∷ rest)) second)

pub sort_letter_of : (number : Token → ℕ) (t : Token) → is_sort_token t ≡ true
    → letter_of number t ≡ sort_letter (number t)
sort_letter_of number t h =
    let w : (rest : Token) × (t ≡ 115 ∷ (58 ∷ rest)) = begins 115 58 t h in
    subst (λ (u : Token). letter_of number u ≡ sort_letter (number u)) (sym w.1) refl

pub constant_letter_of : (number : Token → ℕ) (t : Token) → is_constant_token t ≡ true
    → letter_of number t ≡ constant_letter (number t)
constant_letter_of number t h =
    go (bytes_eq (take 2 t) (codes "f:")) refl h
  where
    symbol : (rest : Token)
        → letter_of number (102 ∷ (58 ∷ rest)) ≡ constant_letter (number (102 ∷ (58 ∷ rest)))
    symbol rest = refl

    value : (rest : Token)
        → letter_of number (100 ∷ (58 ∷ rest)) ≡ constant_letter (number (100 ∷ (58 ∷ rest)))
    value rest = refl

    go : (b : Bool) → bytes_eq (take 2 t) (codes "f:") ≡ b
        → (b || bytes_eq (take 2 t) (codes "d:")) ≡ true
        → letter_of number t ≡ constant_letter (number t)
    go true is k =
        let w : (rest : Token) × (t ≡ 102 ∷ (58 ∷ rest)) = begins 102 58 t is in
        subst (λ (u : Token). letter_of number u ≡ constant_letter (number u)) (sym w.1)
        (symbol w.0)
    go false is k =
        let w : (rest : Token) × (t ≡ 100 ∷ (58 ∷ rest)) = begins 100 58 t k in
        subst (λ (u : Token). letter_of number u ≡ constant_letter (number u)) (sym w.1)
        (value w.0)

-- ---- declarations

two_letters : (number : Token → ℕ) (m : Reading) (w t : Token) → m w ≡ letter_of number w ∷ []
    → m t ≡ letter_of number t ∷ []
    → put m (w ∷ (t ∷ [])) ≡ letter_of number w ∷ (letter_of number t ∷ [])
two_letters number m w t first second =
    ap (λ (ls : List Letter). ls ++ (m t ++ [])) first
    ∙ ap (λ (ls : List Letter). letter_of number w ∷ (ls ++ [])) second

sort_name_sound : (A : Pattern → Type 0) (number : Token → ℕ) (name : Token)
    → IsSound A number (name_frame (sort_token name))
sort_name_sound A number name m fit = (
  word_piece says_sort ∷ (sort_piece (number (sort_token name)) ∷ []),
  two_letters number m (codes "#Sort") (sort_token name) (fit.constants (codes "#Sort") refl)
      (fit.constants (sort_token name) refl),
  tt,
)

symbol_name_sound : (A : Pattern → Type 0) (number : Token → ℕ) (name : Token)
    → IsSound A number (name_frame (symbol_token name))
symbol_name_sound A number name m fit = (
  word_piece says_pattern ∷ (pattern_piece (constant (number (symbol_token name))) ∷ []),
  two_letters number m (codes "#Pattern") (symbol_token name)
      (fit.constants (codes "#Pattern") refl) (fit.constants (symbol_token name) refl),
  tt,
)

value_name_sound : (A : Pattern → Type 0) (number : Token → ℕ) (name : Token) (v : DomainValue)
    → IsSound A number (name_frame (value_token name v))
value_name_sound A number name v m fit = (
  word_piece says_pattern ∷ (pattern_piece (constant (number (value_token name v))) ∷ []),
  two_letters number m (codes "#Pattern") (value_token name v)
      (fit.constants (codes "#Pattern") refl) (fit.constants (value_token name v) refl),
  tt,
)

mapped : (f : Token → Token) (o : Option Token) (t : Token) → option_map f o ≡ Some t
    → (name : Token) × (f name ≡ t)
mapped f None t h = absurd (cc)
mapped f (Some name) t h = let e : f name ≡ t = cc in (name, e)

pub own_token_sound : (A : Pattern → Type 0) (number : Token → ℕ) (sig : Signature) (token : Token)
    → IsOwnToken sig token → IsSound A number (name_frame token)
own_token_sound A number sig token (own.is_sort_token s h) =
    let w : (name : Token) × (sort_token name ≡ token) =
    mapped sort_token (name_at sig.sorts s) token h in
    subst (λ (t : Token). IsSound A number (name_frame t)) w.1 (sort_name_sound A number w.0)
own_token_sound A number sig token (own.is_symbol_token f h) =
    let w : (name : Token) × (symbol_token name ≡ token) =
    mapped symbol_token (name_at sig.symbols f) token h in
    subst (λ (t : Token). IsSound A number (name_frame t)) w.1 (symbol_name_sound A number w.0)
own_token_sound A number sig token (own.is_value_token s v has h) =
    let w : (name : Token) × (value_token name v ≡ token) =
    mapped (λ (name : Token). value_token name v) (name_at sig.sorts s) token h in
    subst (λ (t : Token). IsSound A number (name_frame t)) w.1 (value_name_sound A number w.0 v)

-- ---- variables of a pattern

abbrev In : ℕ → List ℕ → Type 0
In x [] = ⊥
In x (y ∷ ys) = (y ≡ x) ⊎ In x ys

in_left : (x : ℕ) (xs ys : List ℕ) → In x xs → In x (xs ++ ys)
in_left x [] ys h = absurd h
in_left x (z ∷ xs) ys (inl e) = inl e
in_left x (z ∷ xs) ys (inr i) = inr (in_left x xs ys i)

in_right : (x : ℕ) (xs ys : List ℕ) → In x ys → In x (xs ++ ys)
in_right x [] ys h = h
in_right x (z ∷ xs) ys h = inr (in_right x xs ys h)

either_false : (a b : Bool) {C : Type 0} → (a && b) ≡ false → (a ≡ false → C) → (b ≡ false → C) → C
either_false false b h first second = first refl
either_false true b h first second = second h

equal_numbers : (x y : ℕ) → not (x == y) ≡ false → y ≡ x
equal_numbers x y h = go (x == y) refl h
  where
    go : (b : Bool) → (x == y) ≡ b → not b ≡ false → y ≡ x
    go true e k = grind (arith, nat_tests)
    go false e k = absurd (cc)

occurs : (x : ℕ) (p : Pattern) → absent x p ≡ false → In x (variables_in p)
occurs x (nullary c) h = absurd (cc)
occurs x (unary c p) h = occurs x p h
occurs x (binary c p q) h =
    either_false (absent x p) (absent x q) h
    (λ e. in_left x (variables_in p) (variables_in q) (occurs x p e))
    (λ e. in_right x (variables_in p) (variables_in q) (occurs x q e))
occurs x (sorted c p s) h = occurs x p h
occurs x (quantified c y s p) h =
    either_false (not (x == y)) (absent x p) h (λ e. inl (equal_numbers x y e))
    (λ e. inr (occurs x p e))
occurs x (var y) h = inl (equal_numbers x y h)
occurs x (meta i) h = absurd (cc)
occurs x (constant c) h = absurd (cc)

object_fact : (f : LeafFacts) (x : ℕ) (p : Pattern) → EachLeaf f p → absent x p ≡ false
    → f.object x
object_fact f x (nullary c) leaves h = absurd (cc)
object_fact f x (unary c p) leaves h = object_fact f x p leaves h
object_fact f x (binary c p q) leaves h =
    either_false (absent x p) (absent x q) h (object_fact f x p leaves.0)
    (object_fact f x q leaves.1)
object_fact f x (sorted c p s) leaves h = object_fact f x p leaves.0 h
object_fact f x (quantified c y s p) leaves h =
    either_false (not (x == y)) (absent x p) h
    (λ e. subst f.object (equal_numbers x y e) leaves.1.0) (object_fact f x p leaves.0)
object_fact f x (var y) leaves h = subst f.object (equal_numbers x y h) leaves
object_fact f x (meta i) leaves h = absurd (cc)
object_fact f x (constant c) leaves h = absurd (cc)

absent_numbered : (number : Token → ℕ) (names : List Token) (x : ℕ) (p : Pattern)
    → absent x (numbered number names p) ≡ absent x p
absent_numbered number names x (nullary c) = refl
absent_numbered number names x (unary c p) = absent_numbered number names x p
absent_numbered number names x (binary c p q) =
    rw (absent_numbered number names x p, absent_numbered number names x q) refl
absent_numbered number names x (sorted c p s) = absent_numbered number names x p
absent_numbered number names x (quantified c y s p) =
    ap (λ (b : Bool). not (x == y) && b) (absent_numbered number names x p)
absent_numbered number names x (var y) = refl
absent_numbered number names x (meta i) = refl
absent_numbered number names x (constant c) = refl

fresh_numbered : (number : Token → ℕ) (names : List Token) (x : ℕ) (p : Pattern)
    → fresh x (numbered number names p) ≡ fresh x p
fresh_numbered number names x (nullary c) = refl
fresh_numbered number names x (unary c p) = fresh_numbered number names x p
fresh_numbered number names x (binary c p q) =
    rw (fresh_numbered number names x p, fresh_numbered number names x q) refl
fresh_numbered number names x (sorted c p s) = fresh_numbered number names x p
fresh_numbered number names x (quantified c y s p) =
    ap (λ (b : Bool). (x == y) || b) (fresh_numbered number names x p)
fresh_numbered number names x (var y) = refl
fresh_numbered number names x (meta i) = refl
fresh_numbered number names x (constant c) = refl

-- ---- the hypotheses of the frame of a pattern

abbrev typed_objects : List ℕ → List Hypothesis
typed_objects xs = map typed xs

typed_in : (x : ℕ) (xs : List ℕ) → In x xs
    → list_any (types (object_token x)) (typed_objects xs) ≡ true
typed_in x [] h = absurd h
typed_in x (y ∷ xs) (inl e) =
    or_left (bytes_eq (object_token y) (object_token x)) _
    ((bytes_eq-Decides (object_token y) (object_token x)).1 (ap object_token e))
typed_in x (y ∷ xs) (inr i) =
    or_right (bytes_eq (object_token y) (object_token x)) _ (typed_in x xs i)

has_in : (x : ℕ) (xs : List ℕ) → In x xs → has_token (map object_token xs) (object_token x) ≡ true
has_in x [] h = absurd h
has_in x (y ∷ xs) (inl e) =
    or_left (bytes_eq (object_token y) (object_token x)) _
    ((bytes_eq-Decides (object_token y) (object_token x)).1 (ap object_token e))
has_in x (y ∷ xs) (inr i) =
    or_right (bytes_eq (object_token y) (object_token x)) _ (has_in x xs i)

objects_typed : (xs : List ℕ) (t : Token) → list_any (types t) (typed_objects xs) ≡ true
    → typecode_in (typed_objects xs) t ≡ Some (codes "#Var")
objects_typed [] t h = absurd (cc)
objects_typed (x ∷ xs) t h = go (bytes_eq (object_token x) t) h (objects_typed xs t)
  where
    go : (b : Bool) → (b || list_any (types t) (typed_objects xs)) ≡ true
        → (list_any (types t) (typed_objects xs) ≡ true
        → typecode_in (typed_objects xs) t ≡ Some (codes "#Var"))
        → (if b then Some (codes "#Var") else typecode_in (typed_objects xs) t)
        ≡ Some (codes "#Var")
    go true k rest = refl
    go false k rest = rest k

all_give : (all xs : List ℕ) → ((x : ℕ) → In x xs → In x all)
    → GiveTypes (typecode_in (typed_objects all)) (typed_objects xs)
all_give all [] inside = tt
all_give all (x ∷ xs) inside = (
  objects_typed all (object_token x) (typed_in x all (inside x (inl refl))),
  all_give all xs (λ y i. inside y (inr i)),
)

pub objects_give : (names : List Token) (p : Pattern)
    → GiveTypes (typecode_in (holds_frame names p).hypotheses) (holds_frame names p).hypotheses
objects_give names p = all_give (variables_in p) (variables_in p) (λ x i. i)

-- ---- tokens that are no variables

abbrev is_object_token : Token → Bool
is_object_token t = bytes_eq (take 2 t) (codes "x:")

no_object_token : (xs : List ℕ) (t : Token) → is_object_token t ≡ false
    → list_any (types t) (typed_objects xs) ≡ false
no_object_token [] t h = refl
no_object_token (x ∷ xs) t h = go (bytes_eq (object_token x) t) refl (no_object_token xs t h)
  where
    begin : (y : ℕ) → is_object_token (object_token y) ≡ true
    begin y = refl

    go : (b : Bool) → bytes_eq (object_token x) t ≡ b
        → list_any (types t) (typed_objects xs) ≡ false
        → (b || list_any (types t) (typed_objects xs)) ≡ false
    go true is rest =
        absurd (not_both (is_object_token t)
        (subst (λ (u : Token). is_object_token u ≡ true) (same (object_token x) t is) (begin x)) h)
    go false is rest = rest

sort_is_none : (t : Token) → is_sort_token t ≡ true → is_object_token t ≡ false
sort_is_none t h =
    let w : (rest : Token) × (t ≡ 115 ∷ (58 ∷ rest)) = begins 115 58 t h in
    subst (λ (u : Token). is_object_token u ≡ false) (sym w.1) refl

constant_is_none : (t : Token) → is_constant_token t ≡ true → is_object_token t ≡ false
constant_is_none t h = go (bytes_eq (take 2 t) (codes "f:")) refl h
  where
    go : (b : Bool) → bytes_eq (take 2 t) (codes "f:") ≡ b
        → (b || bytes_eq (take 2 t) (codes "d:")) ≡ true → is_object_token t ≡ false
    go true is k =
        let w : (rest : Token) × (t ≡ 102 ∷ (58 ∷ rest)) = begins 102 58 t is in
        subst (λ (u : Token). is_object_token u ≡ false) (sym w.1) refl
    go false is k =
        let w : (rest : Token) × (t ≡ 100 ∷ (58 ∷ rest)) = begins 100 58 t k in
        subst (λ (u : Token). is_object_token u ≡ false) (sym w.1) refl

fixed_is_none : (l : Letter) → is_fixed l ≡ true → is_object_token (token_of l) ≡ false
fixed_is_none opening h = refl
fixed_is_none closing h = refl
fixed_is_none (nullary_letter Bot) h = refl
fixed_is_none (nullary_letter Top) h = refl
fixed_is_none (unary_letter Not) h = refl
fixed_is_none (unary_letter Next) h = refl
fixed_is_none (unary_letter Ev) h = refl
fixed_is_none (binary_letter Imp) h = refl
fixed_is_none (binary_letter And) h = refl
fixed_is_none (binary_letter Or) h = refl
fixed_is_none (binary_letter Equal) h = refl
fixed_is_none (binary_letter Member) h = refl
fixed_is_none (binary_letter App) h = refl
fixed_is_none (sorted_letter Fun) h = refl
fixed_is_none (sorted_letter AtSort) h = refl
fixed_is_none (quantifier_letter Ex) h = refl
fixed_is_none (quantifier_letter All) h = refl
fixed_is_none (meta_letter i) h = absurd (cc)
fixed_is_none (object_letter i) h = absurd (cc)
fixed_is_none (sort_letter i) h = absurd (cc)
fixed_is_none (constant_letter i) h = absurd (cc)
fixed_is_none (word_letter says_pattern) h = refl
fixed_is_none (word_letter says_sort) h = refl
fixed_is_none (word_letter says_variable) h = refl
fixed_is_none (word_letter says_substituted) h = refl
fixed_is_none (word_letter says_fresh) h = refl
fixed_is_none (word_letter says_predicate) h = refl
fixed_is_none (word_letter says_holds) h = refl
fixed_is_none (word_letter (other_word t)) h = absurd (cc)

-- ---- a fit reading of the frame

reads_names : (A : Pattern → Type 0) (number : Token → ℕ) (names : List Token) (p : Pattern)
    (m : Reading) → IsFit A number (holds_frame names p) m → ReadsNames number m
reads_names A number names p m fit = record {
  fixed = λ l h.
      fit.constants (token_of l) (no_object_token (variables_in p) (token_of l) (fixed_is_none l h))
      ∙ ap (λ (k : Letter). k ∷ []) (fixed_letter number l h);
  sorts = λ t h.
      fit.constants t (no_object_token (variables_in p) t (sort_is_none t h))
      ∙ ap (λ (k : Letter). k ∷ []) (sort_letter_of number t h);
  constants = λ t h.
      fit.constants t (no_object_token (variables_in p) t (constant_is_none t h))
      ∙ ap (λ (k : Letter). k ∷ []) (constant_letter_of number t h);
}

abbrev object_of : List Letter → ℕ
object_of (object_letter x ∷ letters) = x
object_of letters = 0

-- the object variable as which a variable is read
abbrev read_as : Reading → ℕ → ℕ
read_as m x = object_of (m (object_token x))

reads_objects : (A : Pattern → Type 0) (number : Token → ℕ) (names : List Token) (p : Pattern)
    (m : Reading) → IsFit A number (holds_frame names p) m → ReadsObjects m (read_as m) p
reads_objects A number names p m fit x here =
    let hs : List Hypothesis = typed_objects (variables_in p) in
    let holds : Holds A (put m (codes "#Var" ∷ (object_token x ∷ []))) =
    typing_holds A m hs (object_token x) (codes "#Var")
    (objects_typed (variables_in p) (object_token x)
    (typed_in x (variables_in p) (occurs x p here))) fit.hypotheses in
    let text : put m (codes "#Var" ∷ (object_token x ∷ []))
    ≡ word_letter says_variable ∷ m (object_token x) =
    ap (λ (ls : List Letter). ls ++ (m (object_token x) ++ []))
    (fit.constants (codes "#Var") (no_object_token (variables_in p) (codes "#Var") refl))
    ∙ ap (λ (ls : List Letter). word_letter says_variable ∷ ls) (append-nil (m (object_token x)))
    in
    let w : (y : ℕ) × (m (object_token x) ≡ object_letter y ∷ []) =
    object_text A (m (object_token x)) (subst (Holds A) text holds) in
    w.1 ∙ ap (λ (y : ℕ). object_letter y ∷ []) (sym (ap object_of w.1))

abbrev behind_two : Token → Token
behind_two [] = []
behind_two (a ∷ []) = []
behind_two (a ∷ (b ∷ bs)) = bs

-- variables that are read as one object variable are one
reads_apart : (A : Pattern → Type 0) (number : Token → ℕ) (names : List Token) (p : Pattern)
    (m : Reading) → IsFit A number (holds_frame names p) m → EachLeaf few_variables p → (x y : ℕ)
    → absent x p ≡ false → absent y p ≡ false → read_as m x ≡ read_as m y → x ≡ y
reads_apart A number names p m fit few x y hx hy e =
    go (bytes_eq (object_token x) (object_token y)) refl
  where
    ix : has_token (map object_token (variables_in p)) (object_token x) ≡ true
    ix = has_in x (variables_in p) (occurs x p hx)

    iy : has_token (map object_token (variables_in p)) (object_token y) ≡ true
    iy = has_in y (variables_in p) (occurs y p hy)

    stands : (z : ℕ) (ls : List Letter) → ls ≡ object_letter z ∷ [] → has_object z ls ≡ true
    stands z ls same_text =
        let own : (z == z) ≡ true = grind (arith, nat_tests) in
        ap (has_object z) same_text ∙ rw own refl

    there : m (object_token y) ≡ object_letter (read_as m x) ∷ []
    there =
        reads_objects A number names p m fit y hy
        ∙ ap (λ (z : ℕ). object_letter z ∷ []) (sym e)

    go : (b : Bool) → bytes_eq (object_token x) (object_token y) ≡ b → x ≡ y
    go true is =
        decimal-same x y (object_fact few_variables x p few hx)
        (object_fact few_variables y p few hy)
        (ap behind_two (same (object_token x) (object_token y) is))
    go false is =
        let pair : are_apart (variables_in p) (object_token x) (object_token y) ≡ true =
        rw (is, ix, iy) refl in
        absurd (fit.apart (object_token x) (object_token y) pair (read_as m x)
        (stands (read_as m x) (m (object_token x)) (reads_objects A number names p m fit x hx))
        (stands (read_as m x) (m (object_token y)) there))

-- the image of what is assumed is read with its bound variables renamed
pub image_sound : (A : Pattern → Type 0) (number : Token → ℕ) (names : List Token) (p : Pattern)
    → A (numbered number names p) → ((x : ℕ) → fresh x p ≡ true) → EachLeaf few_variables p
    → EachLeaf (named_leaves names) p → IsSound A number (holds_frame names p)
image_sound A number names p axiomatic closed few leaves m fit = (
  word_piece says_holds ∷ (pattern_piece image ∷ []),
  sym (append-nil (put m (holds_text names p)))
      ∙ ap (λ (ls : List Letter). (ls ++ put m (pattern_tokens names p)) ++ [])
      (reads.fixed (word_letter says_holds) refl)
      ∙ ap (λ (ls : List Letter). word_letter says_holds ∷ ls)
      (spells number names m (read_as m) reads p (reads_objects A number names p m fit) leaves []),
  by_renaming (numbered number names p) image axiomatic (
    read_as m,
    record {
      result = refl;
      one_to_one = λ x y hx hy e.
          reads_apart A number names p m fit few x y
          (sym (absent_numbered number names x p) ∙ hx)
          (sym (absent_numbered number names y p) ∙ hy) e;
      keeps_free = λ x free.
          absurd (not_both (fresh x p) (closed x) (sym (fresh_numbered number names x p) ∙ free));
    },
  ),
)
  where
    image : Pattern
    image = renamed (read_as m) (numbered number names p)

    reads : ReadsNames number m
    reads = reads_names A number names p m fit
