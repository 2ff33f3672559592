-- A head that is applied to patterns, taken apart from the last pattern on.
use Rattle.std.proofs.Common.{◌≡◌, ◌<◌, ◌+◌, ℕ, suc, List, [], ◌∷◌, ◌++◌, length, reverse, refl}
use Rattle.std.proofs.Common.{sym, ◌∙◌, ap, arith}
use Rattle.ml_pat.specs.Patterns.{Pattern, app}
use Rattle.prove_term.specs.Schemas.{reversed}
use Rattle.prove_term.specs.Applications.{applied_to}
use Rattle.prove_term.proofs.Instances.{reversed-push, reverse-reversed}

-- the last of the patterns, and those before it
pub record HasLast (head : Pattern) (qs : List Pattern) : Type 0 where
  pub first : List Pattern
  pub last : Pattern
  pub is : applied_to head qs ≡ app (applied_to head first) last
  pub shorter : length qs ≡ length first + 1

pub last_applied : (head q : Pattern) (qs : List Pattern) → HasLast head (q ∷ qs)
last_applied head q [] = record { first = []; last = q; is = refl; shorter = omega arith }
last_applied head q (r ∷ qs) =
    let rest : HasLast (app head q) (r ∷ qs) = last_applied (app head q) r qs in
    record {
      first = q ∷ rest.first;
      last = rest.last;
      is = rest.is;
      shorter = omega (arith, rest.shorter);
    }

same_app : (f g a b : Pattern) → app f a ≡ app g b → (f ≡ g) × (a ≡ b)
same_app f g a b h = (cc, cc)

pub applied_same : (head other : Pattern) (qs rs : List Pattern) → length qs ≡ length rs
    → applied_to head qs ≡ applied_to other rs → (head ≡ other) × (qs ≡ rs)
applied_same head other [] [] many h = (h, refl)
applied_same head other [] (r ∷ rs) many h = absurd (omega (arith, many))
applied_same head other (q ∷ qs) [] many h = absurd (omega (arith, many))
applied_same head other (q ∷ qs) (r ∷ rs) many h =
    let rest : (app head q ≡ app other r) × (qs ≡ rs) =
    applied_same (app head q) (app other r) qs rs (omega (arith, many)) h in
    let first : (head ≡ other) × (q ≡ r) = same_app head other q r rest.0 in
    (first.0, ap (λ (x : Pattern). x ∷ qs) first.1 ∙ ap (λ (xs : List Pattern). r ∷ xs) rest.1)

pub reversed-reverse : (xs : List Pattern) → reverse xs ≡ reversed xs
reversed-reverse xs =
    ap (λ (ys : List Pattern). reverse ys) (sym (twice xs)) ∙ reverse-reversed (reversed xs)
  where
    twice : (xs : List Pattern) → reversed (reversed xs) ≡ xs
    twice [] = refl
    twice (x ∷ xs) = reversed-push (reversed xs) x ∙ ap (λ (ys : List Pattern). x ∷ ys) (twice xs)

pub length-reversed : (xs : List Pattern) → length (reversed xs) ≡ length xs
length-reversed [] = refl
length-reversed (x ∷ xs) = length-push (reversed xs) x ∙ ap suc (length-reversed xs)
  where
    length-push : (ys : List Pattern) (y : Pattern) → length (ys ++ y ∷ []) ≡ suc (length ys)
    length-push [] y = refl
    length-push (z ∷ ys) y = ap suc (length-push ys y)

-- ---- what is left, and what was taken

pub record IsTaken (image rest : Pattern) (taken : List Pattern) (i count : ℕ) : Type 0 where
  pub whole : image ≡ applied_to rest (reversed taken)
  pub many : length taken ≡ i
  pub head : Pattern
  pub others : List Pattern
  pub is_rest : rest ≡ applied_to head others
  pub left : length others + i ≡ count

pub taken_none : (image head : Pattern) (qs : List Pattern) (count : ℕ) → image ≡ applied_to head qs
    → count ≡ length qs → IsTaken image image [] 0 count
taken_none image head qs count is many = record {
  whole = refl;
  many = refl;
  head = head;
  others = qs;
  is_rest = is;
  left = omega (arith, many);
}

rest_shape : (head : Pattern) (qs : List Pattern) → 0 < length qs → HasLast head qs
rest_shape head [] some = absurd (omega (arith, some))
rest_shape head (q ∷ qs) some = last_applied head q qs

last_of : (image rest : Pattern) (taken : List Pattern) (i count : ℕ)
    (t : IsTaken image rest taken i count) → i < count → HasLast t.head t.others
last_of image rest taken i count t low = rest_shape t.head t.others (omega (arith, t.left, low))

pub taken_halves : (image rest : Pattern) (taken : List Pattern) (i count : ℕ)
    → IsTaken image rest taken i count → i < count
    → (f : Pattern) × (a : Pattern) × (rest ≡ app f a)
taken_halves image rest taken i count t low =
    let l : HasLast t.head t.others = last_of image rest taken i count t low in
    (applied_to t.head l.first, l.last, t.is_rest ∙ l.is)

pub taken_next : (image rest function argument : Pattern) (taken : List Pattern) (i count : ℕ)
    → IsTaken image rest taken i count → i < count → rest ≡ app function argument
    → IsTaken image function (taken ++ argument ∷ []) (i + 1) count
taken_next image rest function argument taken i count t low split =
    let l : HasLast t.head t.others = last_of image rest taken i count t low in
    let same : (applied_to t.head l.first ≡ function) × (l.last ≡ argument) =
    same_app (applied_to t.head l.first) function l.last argument
    (sym l.is ∙ sym t.is_rest ∙ split) in
    record {
      whole = t.whole ∙ ap (λ (p : Pattern). applied_to p (reversed taken)) split
          ∙ ap (applied_to function) (sym (reversed-push taken argument));
      many = longer taken argument ∙ ap (λ (n : ℕ). n + 1) t.many;
      head = t.head;
      others = l.first;
      is_rest = sym same.0;
      left = omega (arith, t.left, l.shorter);
    }
  where
    longer : (xs : List Pattern) (x : Pattern) → length (xs ++ x ∷ []) ≡ length xs + 1
    longer [] x = refl
    longer (y ∷ xs) x = omega (arith, longer xs x)

pub taken_all : (image rest : Pattern) (taken : List Pattern) (i count : ℕ) (head : Pattern)
    (qs : List Pattern) → IsTaken image rest taken i count → i ≡ count
    → image ≡ applied_to head qs → count ≡ length qs → (rest ≡ head) × (reverse taken ≡ qs)
taken_all image rest taken i count head qs t all is many =
    let same : (rest ≡ head) × (reversed taken ≡ qs) =
    applied_same rest head (reversed taken) qs (length-reversed taken ∙ t.many ∙ all ∙ many)
    (sym t.whole ∙ is) in
    (same.0, reversed-reverse taken ∙ same.1)
