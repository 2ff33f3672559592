-- The leaves of images: tokens that are among the names.
use Rattle.std.proofs.Common.{◌≡◌, ℕ, ◌+◌, ◌<◌, Bool, true, false, cond, List, [], ◌∷◌, length, suc}
use Rattle.std.proofs.Common.{Option, Some, None, option_map, inl, inr, refl, sym, ap, ◌∙◌, subst}
use Rattle.std.proofs.Common.{arith}
use Rattle.std.specs.Prelude.{codes, bytes_eq, take, ◌||◌}
use Rattle.std.specs.List.{position_from}
use Rattle.std.proofs.lemmas.Slice.Eq.{bytes_eq-Decides}
use Rattle.mm_text.specs.Bytes.{Token}
use Rattle.ml_pat.specs.Patterns.{Pattern, app, at_sort, constant}
use Rattle.ml_pat.specs.Patterns as logic
use Rattle.ml_pat.specs.Leaves.{LeafFacts, EachLeaf}
use Rattle.ml_pat.specs.Named.{token_number}
use Rattle.ml_kernel.specs.Lemmas.{HasNoMeta}
use Rattle.term_core.specs.Terms.{DomainValue}
use Rattle.term_core.specs.Patterns.{Pattern as RulePattern, Patterns as RulePatterns, variable}
use Rattle.term_core.specs.Patterns.{domain_value, application, injection, call, no_pattern}
use Rattle.term_core.specs.Patterns.{more_patterns}
use Rattle.rule_core.specs.Matching.{OccursIn, OccursInSome}
use Rattle.rule_core.specs.declared.signature.Signature.{Signature}
use Rattle.ml_image.specs.Tokens.{sort_token, symbol_token, value_token, name_at, token_of_sort}
use Rattle.ml_image.specs.Tokens.{token_of_symbol, token_of_value, number_in_names}
use Rattle.ml_image.specs.Images.{both, symbol_image, sort_image, at_sorts, injection_symbol}
use Rattle.ml_image.specs.Images.{some_symbol_image, injection_image, image_of, applied}
use Rattle.ml_image.specs.Sentences.{Sentence, term, symbol, inject, apply, top, bottom, not}
use Rattle.ml_image.specs.Sentences.{and, or, implies, equals}
use Rattle.ml_image.specs.Sentences.{is_in, functional, exists, forall, next, sentence_image}
use Rattle.ml_image.proofs.ImageLaws.{none_some, some_same}
use Rattle.mm_proof.specs.Tokens.{name_of}
use Rattle.mm_claims.specs.Statements.{typecode_of}
use Rattle.mm_claims.specs.OverNames.{closed_over, over_names}
use Rattle.mm_justify.specs.ImageLaws.{SentenceIsOver, SentenceHasNoMeta, ImageIsClosed}

-- a number that was found is the number of the token
found : (token : Token) (i : ℕ) (names : List Token) (n : ℕ)
    → position_from (λ (other : Token). bytes_eq token other) i names ≡ Some n
    → (k : ℕ) × ((n ≡ i + k) × ((k < length names) × (name_of names k ≡ token)))
found token i [] n h = absurd (none_some n h)
found token i (t ∷ names) n h = go (bytes_eq token t) refl h (found token (i + 1) names)
  where
    go : (b : Bool) → bytes_eq token t ≡ b
        → cond b (Some i) (position_from (λ (other : Token). bytes_eq token other) (i + 1) names)
        ≡ Some n
        → ((m : ℕ) → position_from (λ (other : Token). bytes_eq token other) (i + 1) names ≡ Some m
        → (k : ℕ) × ((m ≡ i + 1 + k) × ((k < length names) × (name_of names k ≡ token))))
        → (k : ℕ) × ((n ≡ i + k) × ((k < suc (length names)) × (name_of (t ∷ names) k ≡ token)))
    go true is here behind = (
      0,
      (
        omega (arith, some_same i n here),
        (omega arith, sym ((bytes_eq-Decides token t).0 is)),
      ),
    )
    go false is there behind =
        let w : (k : ℕ) × ((n ≡ i + 1 + k) × ((k < length names) × (name_of names k ≡ token))) =
        behind n there in
        (suc w.0, (omega (arith, w.1.0), (omega (arith, w.1.1.0), w.1.1.1)))

pub number_found : (names : List Token) (token : Token) (n : ℕ) → token_number names token ≡ Some n
    → (n < length names) × (name_of names n ≡ token)
number_found names token n h =
    let w : (k : ℕ) × ((n ≡ 0 + k) × ((k < length names) × (name_of names k ≡ token))) =
    found token 0 names n h in
    let same : n ≡ w.0 = omega (arith, w.1.0) in
    (omega (arith, same, w.1.1.0), ap (name_of names) same ∙ w.1.1.1)

-- a token that is among the names and has this typecode
abbrev IsNumber : List Token → Token → ℕ → Type 0
IsNumber names typecode n = (n < length names) × (typecode_of (name_of names n) ≡ typecode)

typed : (names : List Token) (token typecode : Token) (n : ℕ) → typecode_of token ≡ typecode
    → token_number names token ≡ Some n → IsNumber names typecode n
typed names token typecode n is h =
    let w : (n < length names) × (name_of names n ≡ token) = number_found names token n h in
    (w.0, ap typecode_of w.1 ∙ is)

named : (names : List Token) (f : Token → Token) (typecode : Token) (o : Option Token) (n : ℕ)
    → ((name : Token) → typecode_of (f name) ≡ typecode) → number_in_names names (option_map f o)
    ≡ Some n
    → IsNumber names typecode n
named names f typecode None n each h = absurd (none_some n h)
named names f typecode (Some name) n each h = typed names (f name) typecode n (each name) h

sort_leaf : (sig : Signature) (names : List Token) (s n : ℕ)
    → number_in_names names (token_of_sort sig s) ≡ Some n → IsNumber names (codes "#Sort") n
sort_leaf sig names s n h =
    named names sort_token (codes "#Sort") (name_at sig.sorts s) n (λ name. refl) h

symbol_leaf : (sig : Signature) (names : List Token) (f n : ℕ)
    → number_in_names names (token_of_symbol sig f) ≡ Some n → IsNumber names (codes "#Pattern") n
symbol_leaf sig names f n h =
    named names symbol_token (codes "#Pattern") (name_at sig.symbols f) n (λ name. refl) h

value_leaf : (sig : Signature) (names : List Token) (s : ℕ) (v : DomainValue) (n : ℕ)
    → number_in_names names (token_of_value sig s v) ≡ Some n → IsNumber names (codes "#Pattern") n
value_leaf sig names s v n h =
    named names (λ (name : Token). value_token name v) (codes "#Pattern") (name_at sig.sorts s) n
    (λ name. refl) h

-- ---- the first bytes of the token

abbrev pub is_sort_token : Token → Bool
is_sort_token t = bytes_eq (take 2 t) (codes "s:")

abbrev pub is_constant_token : Token → Bool
is_constant_token t = bytes_eq (take 2 t) (codes "f:") || bytes_eq (take 2 t) (codes "d:")

passed : (names : List Token) (test : Token → Bool) (f : Token → Token) (o : Option Token) (n : ℕ)
    → ((name : Token) → test (f name) ≡ true) → number_in_names names (option_map f o) ≡ Some n
    → test (name_of names n) ≡ true
passed names test f None n each h = absurd (none_some n h)
passed names test f (Some name) n each h =
    ap test (number_found names (f name) n h).1 ∙ each name

sort_front : (sig : Signature) (names : List Token) (s n : ℕ)
    → number_in_names names (token_of_sort sig s) ≡ Some n
    → is_sort_token (name_of names n) ≡ true
sort_front sig names s n h =
    passed names is_sort_token sort_token (name_at sig.sorts s) n (λ name. refl) h

symbol_front : (sig : Signature) (names : List Token) (f n : ℕ)
    → number_in_names names (token_of_symbol sig f) ≡ Some n
    → is_constant_token (name_of names n) ≡ true
symbol_front sig names f n h =
    passed names is_constant_token symbol_token (name_at sig.symbols f) n (λ name. refl) h

value_front : (sig : Signature) (names : List Token) (s : ℕ) (v : DomainValue) (n : ℕ)
    → number_in_names names (token_of_value sig s v) ≡ Some n
    → is_constant_token (name_of names n) ≡ true
value_front sig names s v n h =
    passed names is_constant_token (λ (name : Token). value_token name v) (name_at sig.sorts s) n
    (λ name. refl) h

-- ---- facts about leaves that numbers of tokens have

-- facts that are true of the numbers of the tokens of sorts, of the tokens of symbols and values,
-- and of each object variable
pub record Known (names : List Token) (f : LeafFacts) : Type 0 where
  pub sorts : (n : ℕ) → IsNumber names (codes "#Sort") n → is_sort_token (name_of names n) ≡ true
      → f.sort n
  pub constants : (n : ℕ) → IsNumber names (codes "#Pattern") n
      → is_constant_token (name_of names n) ≡ true → f.constant n

abbrev Each : LeafFacts → Option Pattern → Type 0
Each f o = (p : Pattern) → o ≡ Some p → EachLeaf f p

abbrev EachSort : LeafFacts → Option ℕ → Type 0
EachSort f o = (n : ℕ) → o ≡ Some n → f.sort n

constant_leaves : (f : LeafFacts) (o : Option ℕ) → ((n : ℕ) → o ≡ Some n → f.constant n)
    → Each f (option_map constant o)
constant_leaves f None each p h = absurd (none_some p h)
constant_leaves f (Some n) each p h = subst (EachLeaf f) (some_same (constant n) p h) (each n refl)

-- an image made of two patterns, if the connective keeps the facts
pub two_leaves : (f : LeafFacts) (k : Pattern → Pattern → Pattern)
    → ((x y : Pattern) → EachLeaf f x → EachLeaf f y → EachLeaf f (k x y)) → (a b : Option Pattern)
    → Each f a → Each f b → Each f (both k a b)
two_leaves f k keeps None b ka kb p h = absurd (none_some p h)
two_leaves f k keeps (Some x) None ka kb p h = absurd (none_some p h)
two_leaves f k keeps (Some x) (Some y) ka kb p h =
    subst (EachLeaf f) (some_same (k x y) p h) (keeps x y (ka x refl) (kb y refl))

one_leaves : (f : LeafFacts) (k : Pattern → Pattern)
    → ((x : Pattern) → EachLeaf f x → EachLeaf f (k x)) → (a : Option Pattern) → Each f a
    → Each f (option_map k a)
one_leaves f k keeps None ka p h = absurd (none_some p h)
one_leaves f k keeps (Some x) ka p h =
    subst (EachLeaf f) (some_same (k x) p h) (keeps x (ka x refl))

pub sorted_leaves : (f : LeafFacts) (k : Pattern → ℕ → Pattern)
    → ((x : Pattern) (n : ℕ) → EachLeaf f x → f.sort n → EachLeaf f (k x n))
    → (a : Option Pattern) (s : Option ℕ) → Each f a → EachSort f s → Each f (both k a s)
sorted_leaves f k keeps None s ka ks p h = absurd (none_some p h)
sorted_leaves f k keeps (Some x) None ka ks p h = absurd (none_some p h)
sorted_leaves f k keeps (Some x) (Some n) ka ks p h =
    subst (EachLeaf f) (some_same (k x n) p h) (keeps x n (ka x refl) (ks n refl))

bound_leaves : (f : LeafFacts) (k : ℕ → Pattern → Pattern)
    → ((n : ℕ) (x : Pattern) → f.sort n → EachLeaf f x → EachLeaf f (k n x))
    → (s : Option ℕ) (a : Option Pattern) → EachSort f s → Each f a → Each f (both k s a)
bound_leaves f k keeps None a ks ka p h = absurd (none_some p h)
bound_leaves f k keeps (Some n) None ks ka p h = absurd (none_some p h)
bound_leaves f k keeps (Some n) (Some x) ks ka p h =
    subst (EachLeaf f) (some_same (k n x) p h) (keeps n x (ks n refl) (ka x refl))

pub sort_fact : (sig : Signature) (names : List Token) (f : LeafFacts) → Known names f → (s : ℕ)
    → EachSort f (sort_image sig names s)
sort_fact sig names f known s n h = known.sorts n (sort_leaf sig names s n h) (sort_front sig names s n h)

symbol_leaves : (sig : Signature) (names : List Token) (f : LeafFacts) → Known names f → (g : ℕ)
    → Each f (symbol_image sig names g)
symbol_leaves sig names f known g =
    constant_leaves f (number_in_names names (token_of_symbol sig g))
    (λ n h. known.constants n (symbol_leaf sig names g n h) (symbol_front sig names g n h))

sorts_leaves : (sig : Signature) (names : List Token) (f : LeafFacts) → Known names f
    → (ss : List ℕ) (head : Option Pattern) → Each f head → Each f (at_sorts sig names head ss)
sorts_leaves sig names f known [] head k = k
sorts_leaves sig names f known (s ∷ ss) head k =
    sorts_leaves sig names f known ss (both at_sort head (sort_image sig names s))
    (sorted_leaves f at_sort (λ x n hx hn. (hx, hn)) head (sort_image sig names s) k
    (sort_fact sig names f known s))

some_leaves : (sig : Signature) (names : List Token) (f : LeafFacts) → Known names f
    → (o : Option ℕ) → Each f (some_symbol_image sig names o)
some_leaves sig names f known None p h = absurd (none_some p h)
some_leaves sig names f known (Some g) p h = symbol_leaves sig names f known g p h

pub inject_leaves : (sig : Signature) (names : List Token) (f : LeafFacts) → Known names f
    → (a b : ℕ) → Each f (injection_image sig names a b)
inject_leaves sig names f known a b =
    sorts_leaves sig names f known (a ∷ b ∷ []) (some_symbol_image sig names (injection_symbol sig))
    (some_leaves sig names f known (injection_symbol sig))

-- the image of a pattern, if the fact is true of its variables
mutual
  pub term_leaves : (sig : Signature) (names : List Token) (f : LeafFacts) → Known names f
      → (a : RulePattern) → ((x : ℕ) → OccursIn x a → f.object x) → Each f (image_of sig names a)
  term_leaves sig names f known (variable x) objects p h =
      subst (EachLeaf f) (some_same (logic.var x) p h) (objects x refl)
  term_leaves sig names f known (domain_value s v) objects p h =
      constant_leaves f (number_in_names names (token_of_value sig s v))
      (λ n k. known.constants n (value_leaf sig names s v n k) (value_front sig names s v n k)) p h
  term_leaves sig names f known (application g ps) objects p h =
      applied_leaves sig names f known ps (symbol_image sig names g) objects
      (symbol_leaves sig names f known g) p h
  term_leaves sig names f known (injection a b q) objects p h =
      two_leaves f app (λ x y hx hy. (hx, hy)) (injection_image sig names a b)
      (image_of sig names q) (inject_leaves sig names f known a b)
      (term_leaves sig names f known q objects) p h
  term_leaves sig names f known (call g ss ps) objects p h =
      applied_leaves sig names f known ps (at_sorts sig names (symbol_image sig names g) ss) objects
      (sorts_leaves sig names f known ss (symbol_image sig names g)
      (symbol_leaves sig names f known g)) p h

  applied_leaves : (sig : Signature) (names : List Token) (f : LeafFacts) → Known names f
      → (ps : RulePatterns) (head : Option Pattern) → ((x : ℕ) → OccursInSome x ps → f.object x)
      → Each f head → Each f (applied sig names head ps)
  applied_leaves sig names f known no_pattern head objects k p h = k p h
  applied_leaves sig names f known (more_patterns q qs) head objects k p h =
      applied_leaves sig names f known qs (both app head (image_of sig names q))
      (λ x s. objects x (inr s)) (two_leaves f app (λ x y hx hy. (hx, hy)) head
      (image_of sig names q) k (term_leaves sig names f known q (λ x s. objects x (inl s))))
      p h

-- the image of a sentence, if the fact is true of each object variable
pub sentence_leaves : (sig : Signature) (names : List Token) (f : LeafFacts) → Known names f
    → ((x : ℕ) → f.object x) → (s : Sentence) → Each f (sentence_image sig names s)
sentence_leaves sig names f known objects (term a) =
    term_leaves sig names f known a (λ x h. objects x)
sentence_leaves sig names f known objects (symbol g) = symbol_leaves sig names f known g
sentence_leaves sig names f known objects (inject a b) = inject_leaves sig names f known a b
sentence_leaves sig names f known objects (apply a b) =
    two_leaves f logic.app (λ x y hx hy. (hx, hy)) _ _ (sentence_leaves sig names f known objects a)
    (sentence_leaves sig names f known objects b)
sentence_leaves sig names f known objects top =
    λ p h. subst (EachLeaf f) (some_same logic.top p h) tt
sentence_leaves sig names f known objects bottom =
    λ p h. subst (EachLeaf f) (some_same logic.bot p h) tt
sentence_leaves sig names f known objects (not a) =
    one_leaves f logic.not (λ x hx. hx) _ (sentence_leaves sig names f known objects a)
sentence_leaves sig names f known objects (and a b) =
    two_leaves f logic.and (λ x y hx hy. (hx, hy)) _ _ (sentence_leaves sig names f known objects a)
    (sentence_leaves sig names f known objects b)
sentence_leaves sig names f known objects (or a b) =
    two_leaves f logic.or (λ x y hx hy. (hx, hy)) _ _ (sentence_leaves sig names f known objects a)
    (sentence_leaves sig names f known objects b)
sentence_leaves sig names f known objects (implies a b) =
    two_leaves f logic.imp (λ x y hx hy. (hx, hy)) _ _ (sentence_leaves sig names f known objects a)
    (sentence_leaves sig names f known objects b)
sentence_leaves sig names f known objects (equals a b) =
    two_leaves f logic.equal (λ x y hx hy. (hx, hy)) _ _
    (sentence_leaves sig names f known objects a) (sentence_leaves sig names f known objects b)
sentence_leaves sig names f known objects (is_in a b) =
    two_leaves f logic.member (λ x y hx hy. (hx, hy)) _ _
    (sentence_leaves sig names f known objects a) (sentence_leaves sig names f known objects b)
sentence_leaves sig names f known objects (functional a s) =
    sorted_leaves f logic.fun (λ x n hx hn. (hx, hn)) _ _
    (sentence_leaves sig names f known objects a) (sort_fact sig names f known s)
sentence_leaves sig names f known objects (exists x s a) =
    bound_leaves f (logic.ex x) (λ n y hn hy. (hy, (objects x, hn))) _ _
    (sort_fact sig names f known s) (sentence_leaves sig names f known objects a)
sentence_leaves sig names f known objects (forall x s a) =
    bound_leaves f (logic.all x) (λ n y hn hy. (hy, (objects x, hn))) _ _
    (sort_fact sig names f known s) (sentence_leaves sig names f known objects a)
sentence_leaves sig names f known objects (next a) =
    one_leaves f logic.next (λ x hx. hx) _ (sentence_leaves sig names f known objects a)

pub sentence_is_over : SentenceIsOver
sentence_is_over sig names s p h =
    sentence_leaves sig names (over_names names) (record { sorts = λ n k t. k; constants = λ n k t. k })
    (λ x. tt) s p h

pub image_is_closed : ImageIsClosed
image_is_closed sig names a p none h =
    term_leaves sig names (closed_over names) (record { sorts = λ n k t. k; constants = λ n k t. k }) a
    none p h

-- ---- no pattern variables

abbrev no_metas : LeafFacts
no_metas = record {
  sort = λ n. Unit {0};
  constant = λ n. Unit {0};
  object = λ n. Unit {0};
  meta = λ n. ⊥;
}

without_metas : (p : Pattern) → EachLeaf no_metas p → HasNoMeta p
without_metas (logic.binary c p q) h = (without_metas p h.0, without_metas q h.1)
without_metas (logic.unary c p) h = without_metas p h
without_metas (logic.sorted c p s) h = without_metas p h.0
without_metas (logic.quantified c x s p) h = without_metas p h.0
without_metas (logic.meta i) h = absurd h
without_metas p h = tt

pub sentence_has_no_meta : SentenceHasNoMeta
sentence_has_no_meta sig names s p h =
    without_metas p (sentence_leaves sig names no_metas
    (record { sorts = λ n k t. tt; constants = λ n k t. tt }) (λ x. tt) s p h)
