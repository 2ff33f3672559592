-- The object variables of an image are the tokens of its text that begin as object variables do.
use Rattle.std.proofs.Common.{◌≡◌, ℕ, Bool, true, false, map, List, [], ◌∷◌, ◌++◌, take, refl, ap}
use Rattle.std.proofs.Common.{sym, ◌∙◌}
use Rattle.std.specs.Prelude.{Some, ◌&&◌, ◌||◌, bytes_eq, codes}
use Rattle.std.proofs.lemmas.Bool.{both_ways, false≢true}
use Rattle.std.proofs.lemmas.Slice.Eq.{bytes_eq-Decides}
use Rattle.mm_text.specs.Bytes.{Token, has_token}
use Rattle.ml_pat.specs.Patterns.{Nullary, Bot, Top, Unary, Not, Next, Ev, Binary, Imp, And, Or}
use Rattle.ml_pat.specs.Patterns.{Equal, Member, App, Sorted, Fun, AtSort, Quantifier, Ex, All}
use Rattle.ml_pat.specs.Patterns.{Pattern, nullary, unary, binary, sorted, quantified, var, meta}
use Rattle.ml_pat.specs.Patterns.{constant}
use Rattle.ml_pat.specs.Leaves.{LeafFacts, EachLeaf}
use Rattle.mm_proof.specs.Tokens.{pattern_tokens, object_token, name_of, nullary_name, unary_name}
use Rattle.mm_proof.specs.Tokens.{binary_name, sorted_name, quantifier_name}
use Rattle.rule_core.specs.declared.signature.Signature.{Signature}
use Rattle.ml_image.specs.Sentences.{Sentence, sentence_image}
use Rattle.mm_justify.specs.Counting.{is_object}
use Rattle.mm_justify.specs.Stating.{variables_in, holds_text}
use Rattle.mm_justify.proofs.ImageLeaves.{sentence_leaves, is_constant_token}

-- the tokens of sorts and constants are not those of object variables
abbrev pub no_objects : List Token → LeafFacts
no_objects names = record {
  sort = λ i. is_object (name_of names i) ≡ false;
  constant = λ i. is_object (name_of names i) ≡ false;
  object = λ x. Unit {0};
  meta = λ i. ⊥;
}

front_differs : (front : Token) (t : Token) → bytes_eq (take 2 t) front ≡ true
    → bytes_eq front (codes "x:") ≡ false → is_object t ≡ false
front_differs front t is differs =
    ap (λ (x : Token). bytes_eq x (codes "x:")) ((bytes_eq-Decides (take 2 t) front).0 is) ∙ differs

constant_differs : (t : Token) → is_constant_token t ≡ true → is_object t ≡ false
constant_differs t is = go (bytes_eq (take 2 t) (codes "f:")) refl is
  where
    go : (b : Bool) → bytes_eq (take 2 t) (codes "f:") ≡ b
        → (b || bytes_eq (take 2 t) (codes "d:")) ≡ true → is_object t ≡ false
    go true e h = front_differs (codes "f:") t e refl
    go false e h = front_differs (codes "d:") t h refl

pub image_leaves : (sig : Signature) (names : List Token) (s : Sentence) (p : Pattern)
    → sentence_image sig names s ≡ Some p → EachLeaf (no_objects names) p
image_leaves sig names s p is =
    sentence_leaves sig names (no_objects names) (record {
      sorts = λ n number front. front_differs (codes "s:") (name_of names n) front refl;
      constants = λ n number front. constant_differs (name_of names n) front;
    }) (λ x. tt) s p is

-- ---- tokens

has_token-append : (xs ys : List Token) (v : Token)
    → has_token (xs ++ ys) v ≡ (has_token xs v || has_token ys v)
has_token-append [] ys v = refl
has_token-append (x ∷ xs) ys v =
    ap (λ (b : Bool). bytes_eq x v || b) (has_token-append xs ys v)
    ∙ or_turned (bytes_eq x v) (has_token xs v) (has_token ys v)
  where
    or_turned : (a b c : Bool) → (a || (b || c)) ≡ ((a || b) || c)
    or_turned true b c = refl
    or_turned false b c = refl

other_token : (t v : Token) → is_object t ≡ false → is_object v ≡ true → bytes_eq t v ≡ false
other_token t v none is = go (bytes_eq t v) refl
  where
    go : (b : Bool) → bytes_eq t v ≡ b → b ≡ false
    go false e = refl
    go true e =
        absurd (both_ways (is_object v)
        (ap is_object (sym ((bytes_eq-Decides t v).0 e)) ∙ none) is)

-- the token of another kind in front
skip : (t : Token) (ts : List Token) (v : Token) → is_object t ≡ false → is_object v ≡ true
    → has_token (t ∷ ts) v ≡ has_token ts v
skip t ts v none is =
    ap (λ (b : Bool). b || has_token ts v) (other_token t v none is)

end_bracket : (v : Token) → is_object v ≡ true → has_token (codes ")" ∷ []) v ≡ false
end_bracket v is = skip (codes ")") [] v refl is

or_false : (b : Bool) → (b || false) ≡ b
or_false true = refl
or_false false = refl

map-append : (xs ys : List ℕ) → map object_token (xs ++ ys)
    ≡ map object_token xs ++ map object_token ys
map-append [] ys = refl
map-append (x ∷ xs) ys = ap (λ (zs : List Token). object_token x ∷ zs) (map-append xs ys)

unary_differs : (c : Unary) → is_object (codes "\\" ++ unary_name c) ≡ false
unary_differs Not = refl
unary_differs Next = refl
unary_differs Ev = refl

binary_differs : (c : Binary) → is_object (codes "\\" ++ binary_name c) ≡ false
binary_differs Imp = refl
binary_differs And = refl
binary_differs Or = refl
binary_differs Equal = refl
binary_differs Member = refl
binary_differs App = refl

sorted_differs : (c : Sorted) → is_object (codes "\\" ++ sorted_name c) ≡ false
sorted_differs Fun = refl
sorted_differs AtSort = refl

quantifier_differs : (c : Quantifier) → is_object (codes "\\" ++ quantifier_name c) ≡ false
quantifier_differs Ex = refl
quantifier_differs All = refl

nullary_differs : (c : Nullary) → is_object (codes "\\" ++ nullary_name c) ≡ false
nullary_differs Bot = refl
nullary_differs Top = refl

pub objects_of : Pattern → List Token
objects_of p = map object_token (variables_in p)

-- a bracket with a connective in front
skip_head : (k : Token) (ts : List Token) (v : Token) → is_object k ≡ false → is_object v ≡ true
    → has_token (codes "(" ∷ (k ∷ ts)) v ≡ has_token ts v
skip_head k ts v none is =
    skip (codes "(") (k ∷ ts) v refl is ∙ skip k ts v none is

abbrev closed : List Token → List Token
closed ts = ts ++ codes ")" ∷ []

closed_has : (ts : List Token) (v : Token) → is_object v ≡ true
    → has_token (closed ts) v ≡ has_token ts v
closed_has ts v is =
    has_token-append ts (codes ")" ∷ []) v
    ∙ ap (λ (b : Bool). has_token ts v || b) (end_bracket v is) ∙ or_false (has_token ts v)

pub object_occurs : (names : List Token) (p : Pattern) (v : Token) → EachLeaf (no_objects names) p
    → is_object v ≡ true → has_token (pattern_tokens names p) v ≡ has_token (objects_of p) v
unfolding objects_of
object_occurs names (nullary c) v leaves is =
    skip (codes "\\" ++ nullary_name c) [] v (nullary_differs c) is
object_occurs names (unary c p) v leaves is =
    let t = pattern_tokens names p in
    skip_head (codes "\\" ++ unary_name c) (closed t) v (unary_differs c) is ∙ closed_has t v is
    ∙ object_occurs names p v leaves is
object_occurs names (binary c p q) v leaves is =
    let t = pattern_tokens names p in
    let u = pattern_tokens names q in
    let xs = map object_token (variables_in p) in
    let ys = map object_token (variables_in q) in
    skip_head (codes "\\" ++ binary_name c) (t ++ closed u) v (binary_differs c) is
    ∙ has_token-append t (closed u) v
    ∙ ap (λ (b : Bool). has_token t v || b)
    (closed_has u v is ∙ object_occurs names q v leaves.1 is)
    ∙ ap (λ (b : Bool). b || has_token ys v) (object_occurs names p v leaves.0 is)
    ∙ sym (has_token-append xs ys v)
    ∙ ap (λ (ts : List Token). has_token ts v) (sym (map-append (variables_in p) (variables_in q)))
object_occurs names (sorted c p s) v leaves is =
    let t = pattern_tokens names p in
    skip_head (codes "\\" ++ sorted_name c) (t ++ closed (name_of names s ∷ [])) v
    (sorted_differs c) is
    ∙ has_token-append t (closed (name_of names s ∷ [])) v
    ∙ ap (λ (b : Bool). has_token t v || b)
    (skip (name_of names s) (codes ")" ∷ []) v leaves.1 is ∙ end_bracket v is)
    ∙ or_false (has_token t v) ∙ object_occurs names p v leaves.0 is
object_occurs names (quantified c x s p) v leaves is =
    let t = pattern_tokens names p in
    skip_head (codes "\\" ++ quantifier_name c) (object_token x ∷ (name_of names s ∷ closed t)) v
    (quantifier_differs c) is
    ∙ ap (λ (b : Bool). bytes_eq (object_token x) v || b)
    (skip (name_of names s) (closed t) v leaves.1.1 is ∙ closed_has t v is
    ∙ object_occurs names p v leaves.0 is)
object_occurs names (var x) v leaves is = refl
object_occurs names (meta i) v leaves is = absurd leaves
object_occurs names (constant c) v leaves is = skip (name_of names c) [] v leaves is

-- only the tokens of object variables are among them
pub object_only : (xs : List ℕ) (v : Token) → has_token (map object_token xs) v ≡ true
    → is_object v ≡ true
object_only [] v has = absurd (false≢true has)
object_only (x ∷ xs) v has = go (bytes_eq (object_token x) v) refl has (object_only xs v)
  where
    go : (b : Bool) → bytes_eq (object_token x) v ≡ b
        → (b || has_token (map object_token xs) v) ≡ true
        → (has_token (map object_token xs) v ≡ true → is_object v ≡ true) → is_object v ≡ true
    go true e h rest = ap is_object (sym ((bytes_eq-Decides (object_token x) v).0 e))
    go false e h rest = rest h

pub object_in_text : (names : List Token) (p : Pattern) (v : Token)
    → EachLeaf (no_objects names) p
    → has_token (map object_token (variables_in p)) v
    ≡ (has_token (holds_text names p) v && is_object v)
unfolding objects_of
object_in_text names p v leaves = go (is_object v) refl
  where
    and_true : (b : Bool) → b ≡ (b && true)
    and_true true = refl
    and_true false = refl

    and_false : (b : Bool) → (b && false) ≡ false
    and_false true = refl
    and_false false = refl

    none : (b : Bool) → has_token (map object_token (variables_in p)) v ≡ b → is_object v ≡ false
        → b ≡ false
    none false e h = refl
    none true e h = absurd (both_ways (is_object v) h (object_only (variables_in p) v e))

    go : (b : Bool) → is_object v ≡ b
        → has_token (map object_token (variables_in p)) v
        ≡ (has_token (holds_text names p) v && is_object v)
    go true e =
        sym (object_occurs names p v leaves e)
        ∙ sym (skip (codes "|-") (pattern_tokens names p) v refl e)
        ∙ and_true (has_token (holds_text names p) v)
        ∙ ap (λ (b : Bool). has_token (holds_text names p) v && b) (sym e)
    go false e =
        none (has_token (map object_token (variables_in p)) v) refl e
        ∙ sym (and_false (has_token (holds_text names p) v))
        ∙ ap (λ (b : Bool). has_token (holds_text names p) v && b) (sym e)
