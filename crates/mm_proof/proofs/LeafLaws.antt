-- Tests that each token of a pattern's text passes.
use Rattle.std.proofs.Common.{◌≡◌, ℕ, Bool, true, false, List, [], ◌∷◌, ◌++◌, refl, ap}
use Rattle.std.specs.Prelude.{◌&&◌, map, slice_index_or, codes}
use Rattle.std.specs.List.{list_all}
use Rattle.std.proofs.lemmas.Bool.{false≢true}
use Rattle.mm_text.specs.Bytes.{Token}
use Rattle.ml_pat.specs.Patterns.{Nullary, Bot, Top, Unary, Not, Next, Ev, Binary, Imp, And, Or}
use Rattle.ml_pat.specs.Patterns.{Equal, Member, App, Sorted, Fun, AtSort, Quantifier, Ex, All}
use Rattle.ml_pat.specs.Patterns.{Pattern, nullary, unary, binary, sorted, quantified, var, meta}
use Rattle.ml_pat.specs.Patterns.{constant}
use Rattle.ml_pat.specs.Leaves.{LeafFacts, EachLeaf}
use Rattle.ml_pat.proofs.LeafLaws.{both_true}
use Rattle.mm_proof.specs.Tokens.{Naming, letters_of, bracket, text_by, nullary_name, unary_name}
use Rattle.mm_proof.specs.Tokens.{binary_name, sorted_name, quantifier_name}
use Rattle.mm_proof.specs.Serving.{punctuation}

pub list_all-append : (test : Token → Bool) (xs ys : List Token) → list_all test xs ≡ true
    → list_all test ys ≡ true → list_all test (xs ++ ys) ≡ true
list_all-append test [] ys h k = k
list_all-append test (x ∷ xs) ys h k = go (test x) h (list_all-append test xs ys)
  where
    go : (b : Bool) → (b && list_all test xs) ≡ true
        → (list_all test xs ≡ true → list_all test ys ≡ true → list_all test (xs ++ ys) ≡ true)
        → (b && list_all test (xs ++ ys)) ≡ true
    go true h behind = behind h k
    go false h behind = absurd (false≢true h)

abbrev pub tested_leaves : (Token → Bool) → Naming → LeafFacts
tested_leaves test n = record {
  sort = λ i. test (n.sort i) ≡ true;
  constant = λ i. test (n.constant i) ≡ true;
  object = λ i. test (n.object i) ≡ true;
  meta = λ i. test (n.meta i) ≡ true;
}

-- each constant of the header passes the test
abbrev pub PassFixed : (Token → Bool) → Type 0
PassFixed test = map test punctuation ≡ map (λ t. true) punctuation

-- two functions that agree on the constants of the header agree on each of them, by its place
pub agree_at : {A : Type 0} (f g : Token → A) (other : A) → map f punctuation ≡ map g punctuation
    → (i : ℕ) → slice_index_or (map f punctuation) i other
    ≡ slice_index_or (map g punctuation) i other
agree_at f g other h i = ap (λ xs. slice_index_or xs i other) h

-- so they agree on each connective
pub agree_nullary : {A : Type 0} (f g : Token → A) (other : A)
    → map f punctuation ≡ map g punctuation → (o : Nullary)
    → f (codes "\\" ++ nullary_name o) ≡ g (codes "\\" ++ nullary_name o)
agree_nullary f g other h Bot = agree_at f g other h 2
agree_nullary f g other h Top = agree_at f g other h 3

pub agree_unary : {A : Type 0} (f g : Token → A) (other : A)
    → map f punctuation ≡ map g punctuation → (o : Unary)
    → f (codes "\\" ++ unary_name o) ≡ g (codes "\\" ++ unary_name o)
agree_unary f g other h Not = agree_at f g other h 5
agree_unary f g other h Next = agree_at f g other h 15
agree_unary f g other h Ev = agree_at f g other h 16

pub agree_binary : {A : Type 0} (f g : Token → A) (other : A)
    → map f punctuation ≡ map g punctuation → (o : Binary)
    → f (codes "\\" ++ binary_name o) ≡ g (codes "\\" ++ binary_name o)
agree_binary f g other h Imp = agree_at f g other h 4
agree_binary f g other h And = agree_at f g other h 6
agree_binary f g other h Or = agree_at f g other h 7
agree_binary f g other h Equal = agree_at f g other h 8
agree_binary f g other h Member = agree_at f g other h 9
agree_binary f g other h App = agree_at f g other h 13

pub agree_sorted : {A : Type 0} (f g : Token → A) (other : A)
    → map f punctuation ≡ map g punctuation → (o : Sorted)
    → f (codes "\\" ++ sorted_name o) ≡ g (codes "\\" ++ sorted_name o)
agree_sorted f g other h Fun = agree_at f g other h 10
agree_sorted f g other h AtSort = agree_at f g other h 14

pub agree_quantifier : {A : Type 0} (f g : Token → A) (other : A)
    → map f punctuation ≡ map g punctuation → (o : Quantifier)
    → f (codes "\\" ++ quantifier_name o) ≡ g (codes "\\" ++ quantifier_name o)
agree_quantifier f g other h Ex = agree_at f g other h 11
agree_quantifier f g other h All = agree_at f g other h 12

abbrev passes : Token → Bool
passes t = true

closing : (test : Token → Bool) → PassFixed test → list_all test bracket ≡ true
closing test h = both_true (test (codes ")")) true (agree_at test passes false h 1) refl

opening : (test : Token → Bool) (k : Token) (ts : List Token) → PassFixed test → test k ≡ true
    → list_all test ts ≡ true → list_all test (codes "(" ∷ (k ∷ ts)) ≡ true
opening test k ts h this rest =
    both_true (test (codes "(")) (test k && list_all test ts) (agree_at test passes false h 0)
    (both_true (test k) (list_all test ts) this rest)

one : (test : Token → Bool) (t : Token) (ts : List Token) → test t ≡ true → list_all test ts ≡ true
    → list_all test ((t ∷ []) ++ ts) ≡ true
one test t ts h rest = both_true (test t) (list_all test ts) h rest

alone : (test : Token → Bool) (t : Token) → test t ≡ true → list_all test (t ∷ []) ≡ true
alone test t h = both_true (test t) true h refl

pub list_all-text : (test : Token → Bool) (n : Naming) (p : Pattern) → PassFixed test
    → EachLeaf (tested_leaves test n) p → list_all test (text_by (letters_of n) p) ≡ true
list_all-text test n (nullary c) w h = alone test _ (agree_nullary test passes false w c)
list_all-text test n (binary c p q) w h =
    opening test (codes "\\" ++ binary_name c)
    (text_by (letters_of n) p ++ (text_by (letters_of n) q ++ bracket)) w
    (agree_binary test passes false w c) (list_all-append test (text_by (letters_of n) p)
    (text_by (letters_of n) q ++ bracket) (list_all-text test n p w h.0)
    (list_all-append test (text_by (letters_of n) q) bracket (list_all-text test n q w h.1)
    (closing test w)))
list_all-text test n (unary c p) w h =
    opening test (codes "\\" ++ unary_name c) (text_by (letters_of n) p ++ bracket) w
    (agree_unary test passes false w c) (list_all-append test (text_by (letters_of n) p) bracket
    (list_all-text test n p w h) (closing test w))
list_all-text test n (sorted c p s) w h =
    opening test (codes "\\" ++ sorted_name c) (text_by (letters_of n) p ++ (n.sort s ∷ bracket)) w
    (agree_sorted test passes false w c) (list_all-append test (text_by (letters_of n) p)
    (n.sort s ∷ bracket) (list_all-text test n p w h.0)
    (one test (n.sort s) bracket h.1 (closing test w)))
list_all-text test n (quantified c x s p) w h =
    opening test (codes "\\" ++ quantifier_name c)
    (n.object x ∷ (n.sort s ∷ (text_by (letters_of n) p ++ bracket))) w
    (agree_quantifier test passes false w c)
    (one test (n.object x) (n.sort s ∷ (text_by (letters_of n) p ++ bracket)) h.1.0
    (one test (n.sort s) (text_by (letters_of n) p ++ bracket) h.1.1
    (list_all-append test (text_by (letters_of n) p) bracket (list_all-text test n p w h.0)
    (closing test w))))
list_all-text test n (var x) w h = alone test (n.object x) h
list_all-text test n (meta i) w h = alone test (n.meta i) h
list_all-text test n (constant c) w h = alone test (n.constant c) h
