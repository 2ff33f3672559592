-- The constructors that an axiom is about, read off its image.
use Rattle.std.proofs.Common.{◌≡◌, ℕ, ◌+◌, List, [], ◌∷◌, ◌++◌, length, Option, Some, option_map}
use Rattle.std.proofs.Common.{sym, ap, ◌∙◌, subst}
use Rattle.mm_text.specs.Bytes.{Token}
use Rattle.ml_pat.specs.Patterns.{Pattern, Unary, Binary, Quantifier, nullary, unary, binary, sorted}
use Rattle.ml_pat.specs.Patterns.{quantified, var, meta, constant}
use Rattle.ml_pat.specs.Patterns as logic
use Rattle.term_core.specs.Patterns.{variable}
use Rattle.rule_core.specs.declared.signature.Signature.{Signature}
use Rattle.ml_image.specs.Tokens.{number_in_names, token_of_symbol}
use Rattle.ml_image.specs.Images.{both, sort_image, symbol_image}
use Rattle.ml_image.specs.Sentences.{Sentence, sentence_image, IsImageOf, term, symbol, not, and}
use Rattle.ml_image.specs.Sentences.{implies, equals, exists, apply, for_all, variables, apply_all}
use Rattle.ml_image.specs.Sentences.{conjunctions}
use Rattle.ml_image.specs.OwnAxioms.{SaysTotal, SaysApart, SaysFree, of_variables}
use Rattle.ml_image.proofs.ImageLaws.{none_some, some_same}
use Rattle.assumed_texts.specs.Shapes.{first_constant, beside, right_side}
use Rattle.assumed_texts.specs.Constructors.{Leads}
use Rattle.assumed_texts.proofs.Inversions.{BothSome, both-some, map-some}

-- the symbol is applied first in the image
abbrev Led : Signature → List Token → ℕ → Option Pattern → Type 0
Led sig names f o = (p : Pattern) → o ≡ Some p → Leads sig names f p

symbol-led : (sig : Signature) (names : List Token) (f : ℕ) → Led sig names f (symbol_image sig names f)
symbol-led sig names f p h =
    let m : (c : ℕ) × ((number_in_names names (token_of_symbol sig f) ≡ Some c) × (p ≡ constant c)) =
    map-some constant (number_in_names names (token_of_symbol sig f)) p h in
    (m.0, ap first_constant m.1.1, h ∙ ap Some m.1.1)

beside-led : (p : Pattern) (c : ℕ) (d : Option ℕ) → first_constant p ≡ Some c
    → beside p (first_constant p) d ≡ Some c
beside-led (var x) c d h = absurd (none_some c h)
beside-led (nullary k) c d h = h
beside-led (unary k p) c d h = h
beside-led (binary k p q) c d h = h
beside-led (sorted k p s) c d h = h
beside-led (quantified k x s p) c d h = h
beside-led (meta i) c d h = h
beside-led (constant k) c d h = h

two-led : (sig : Signature) (names : List Token) (f : ℕ) (k : Binary) (a b : Option Pattern)
    → Led sig names f a → Led sig names f (both (binary k) a b)
two-led sig names f k a b led p h =
    let m : BothSome (binary k) a b p = both-some (binary k) a b p h in
    let l : Leads sig names f m.first = led m.first m.is_first in
    (l.0, ap first_constant m.is ∙ beside-led m.first l.0 (first_constant m.second) l.1, l.2)

-- on the right of a variable
right-led : (sig : Signature) (names : List Token) (f : ℕ) (k : Binary) (x : ℕ) (b : Option Pattern)
    → Led sig names f b → Led sig names f (both (binary k) (Some (var x)) b)
right-led sig names f k x b led p h =
    let m : BothSome (binary k) (Some (var x)) b p = both-some (binary k) (Some (var x)) b p h in
    let l : Leads sig names f m.second = led m.second m.is_second in
    let is : var x ≡ m.first = some_same (var x) m.first m.is_first in (
      l.0,
      ap first_constant m.is
          ∙ ap (λ (q : Pattern). beside q (first_constant q) (first_constant m.second)) (sym is) ∙ l.1,
      l.2,
    )

one-led : (sig : Signature) (names : List Token) (f : ℕ) (k : Unary) (a : Option Pattern)
    → Led sig names f a → Led sig names f (option_map (unary k) a)
one-led sig names f k a led p h =
    let m : (x : Pattern) × ((a ≡ Some x) × (p ≡ unary k x)) = map-some (unary k) a p h in
    let l : Leads sig names f m.0 = led m.0 m.1.0 in
    (l.0, ap first_constant m.1.1 ∙ l.1, l.2)

bound-led : (sig : Signature) (names : List Token) (f : ℕ) (k : Quantifier) (x : ℕ) (s : Option ℕ)
    (a : Option Pattern) → Led sig names f a → Led sig names f (both (quantified k x) s a)
bound-led sig names f k x s a led p h =
    let m : BothSome (quantified k x) s a p = both-some (quantified k x) s a p h in
    let l : Leads sig names f m.second = led m.second m.is_second in
    (l.0, ap first_constant m.is ∙ l.1, l.2)

apply-led : (sig : Signature) (names : List Token) (f : ℕ) (s : Sentence) (ps : List Sentence)
    → Led sig names f (sentence_image sig names s)
    → Led sig names f (sentence_image sig names (apply_all s ps))
apply-led sig names f s [] led = led
apply-led sig names f s (p ∷ ps) led =
    apply-led sig names f (apply s p) ps
    (two-led sig names f logic.App (sentence_image sig names s) (sentence_image sig names p) led)

for_all-led : (sig : Signature) (names : List Token) (f k : ℕ) (ss : List ℕ) (s : Sentence)
    → Led sig names f (sentence_image sig names s)
    → Led sig names f (sentence_image sig names (for_all k ss s))
for_all-led sig names f k [] s led = led
for_all-led sig names f k (x ∷ ss) s led =
    bound-led sig names f logic.All k (sort_image sig names x)
    (sentence_image sig names (for_all (k + 1) ss s)) (for_all-led sig names f (k + 1) ss s led)

of_variables-led : (sig : Signature) (names : List Token) (f k n : ℕ)
    → Led sig names f (sentence_image sig names (of_variables f k n))
of_variables-led sig names f k n =
    apply-led sig names f (symbol f) (variables k n) (symbol-led sig names f)

-- ---- the axioms

pub total-leads : (sig : Signature) (names : List Token) (f : ℕ) (p : Pattern)
    → IsImageOf sig names (SaysTotal sig f) p → Leads sig names f p
total-leads sig names f p (s, says, is) =
    let n : ℕ = length says.sorts in
    let body : Sentence = exists n says.sort (equals (term (variable n)) (of_variables f 0 n)) in
    for_all-led sig names f 0 says.sorts body
    (bound-led sig names f logic.Ex n (sort_image sig names says.sort)
    (sentence_image sig names (equals (term (variable n)) (of_variables f 0 n)))
    (right-led sig names f logic.Equal n (sentence_image sig names (of_variables f 0 n))
    (of_variables-led sig names f 0 n))) p
    (ap (sentence_image sig names) (sym says.says) ∙ is)

pub free-leads : (sig : Signature) (names : List Token) (f : ℕ) (p : Pattern)
    → IsImageOf sig names (SaysFree sig f) p → Leads sig names f p
free-leads sig names f p (s, says, is) =
    let n : ℕ = length says.sorts in
    let both_sides : Sentence = and (of_variables f 0 n) (of_variables f n n) in
    let joined : Sentence = apply_all (symbol f) (conjunctions (variables 0 n) (variables n n)) in
    for_all-led sig names f 0 (says.sorts ++ says.sorts) (implies both_sides joined)
    (two-led sig names f logic.Imp (sentence_image sig names both_sides)
    (sentence_image sig names joined)
    (two-led sig names f logic.And (sentence_image sig names (of_variables f 0 n))
    (sentence_image sig names (of_variables f n n)) (of_variables-led sig names f 0 n))) p
    (ap (sentence_image sig names) (sym says.says) ∙ is)

pub apart-leads : (sig : Signature) (names : List Token) (f g : ℕ) (p : Pattern)
    → IsImageOf sig names (SaysApart sig f g) p → Leads sig names f p
apart-leads sig names f g p (s, says, is) =
    let n : ℕ = length says.sorts in
    let m : ℕ = length says.others in
    let one : Sentence = of_variables f 0 n in
    let other : Sentence = of_variables g n m in
    for_all-led sig names f 0 (says.sorts ++ says.others) (not (and one other))
    (one-led sig names f logic.Not (sentence_image sig names (and one other))
    (two-led sig names f logic.And (sentence_image sig names one) (sentence_image sig names other)
    (of_variables-led sig names f 0 n))) p
    (ap (sentence_image sig names) (sym says.says) ∙ is)

-- ---- the right side

abbrev RightLed : Signature → List Token → ℕ → Option Pattern → Type 0
RightLed sig names f o = (p : Pattern) → o ≡ Some p → Leads sig names f (right_side p)

two-right : (sig : Signature) (names : List Token) (f : ℕ) (k : Binary) (a b : Option Pattern)
    → Led sig names f b → RightLed sig names f (both (binary k) a b)
two-right sig names f k a b led p h =
    let m : BothSome (binary k) a b p = both-some (binary k) a b p h in
    subst (λ (q : Pattern). Leads sig names f (right_side q)) (sym m.is) (led m.second m.is_second)

one-right : (sig : Signature) (names : List Token) (f : ℕ) (k : Unary) (a : Option Pattern)
    → RightLed sig names f a → RightLed sig names f (option_map (unary k) a)
one-right sig names f k a led p h =
    let m : (x : Pattern) × ((a ≡ Some x) × (p ≡ unary k x)) = map-some (unary k) a p h in
    subst (λ (q : Pattern). Leads sig names f (right_side q)) (sym m.1.1) (led m.0 m.1.0)

for_all-right : (sig : Signature) (names : List Token) (f k : ℕ) (ss : List ℕ) (s : Sentence)
    → RightLed sig names f (sentence_image sig names s)
    → RightLed sig names f (sentence_image sig names (for_all k ss s))
for_all-right sig names f k [] s led p h = led p h
for_all-right sig names f k (x ∷ ss) s led p h =
    let m : BothSome (logic.all k) (sort_image sig names x)
    (sentence_image sig names (for_all (k + 1) ss s)) p =
    both-some (logic.all k) (sort_image sig names x)
    (sentence_image sig names (for_all (k + 1) ss s)) p h in
    subst (λ (q : Pattern). Leads sig names f (right_side q)) (sym m.is)
    (for_all-right sig names f (k + 1) ss s led m.second m.is_second)

pub apart-right : (sig : Signature) (names : List Token) (f g : ℕ) (p : Pattern)
    → IsImageOf sig names (SaysApart sig f g) p → Leads sig names g (right_side p)
apart-right sig names f g p (s, says, is) =
    let n : ℕ = length says.sorts in
    let m : ℕ = length says.others in
    let one : Sentence = of_variables f 0 n in
    let other : Sentence = of_variables g n m in
    for_all-right sig names g 0 (says.sorts ++ says.others) (not (and one other))
    (one-right sig names g logic.Not (sentence_image sig names (and one other))
    (two-right sig names g logic.And (sentence_image sig names one)
    (sentence_image sig names other) (of_variables-led sig names g n m))) p
    (ap (sentence_image sig names) (sym says.says) ∙ is)
