-- The bytes by which statements are looked up. No two patterns have the same bytes, and no two
-- statements.
use Rattle.std.proofs.Common.{◌≡◌, ℕ, ◌+◌, ◌*◌, ◌<◌, ◌≤◌, ◌/◌, ◌%◌, Bool, true, false, List, []}
use Rattle.std.proofs.Common.{◌∷◌, ◌++◌, zero, suc, refl, ap, ◌∙◌, sym, arith, append_assoc, nat_lt}
use Rattle.std.specs.Prelude.{◌==◌, if◌then◌else◌, ◌-◌, flat_map}
use Rattle.std.proofs.lemmas.Bool.{false≢true}
use Rattle.std.proofs.lemmas.Grind.{flat_map-append}
use Rattle.std.specs.Borrow.{Bor}
use Rattle.ml_pat.specs.Patterns.{Pattern, bot, top, imp, not, and, or, equal, member, fun, ex, all}
use Rattle.ml_pat.specs.Patterns.{app, at_sort, next, ev, var, meta, constant}
use Rattle.ml_pat.specs.FormsIn.{forms_in}
use Rattle.mm_proof.specs.Searching.{all_forms, patterns_of}
use Rattle.mm_proof.proofs.Looking.{all_forms-push}
use Rattle.mm_render.specs.Keys.{numbers, bytes_within, number_bytes, all_bytes, pattern_key}
use Rattle.mm_render.specs.Keys.{statement_key}
use Rattle.mm_render.specs.PlaceTable.{all_numbers, FormIsAdded}

-- reading numbers from the end

leaf_of : ℕ → ℕ → Pattern
leaf_of k n =
    if k == 0 then bot
    else (if k == 1 then top else (if k == 2 then var n else (if k == 3 then meta n else constant
    n)))

over_one : ℕ → ℕ → ℕ → List Pattern → List Pattern
over_one k x s [] = []
over_one k x s (p ∷ ps) =
    (if k == 5 then not p
    else (if k == 6 then next p
    else (if k == 7 then ev p
    else (if k == 8 then fun p s
    else (if k == 9 then at_sort p s
    else (if k == 10 then ex x s p
    else all x s p)))))) ∷ ps

over_two : ℕ → List Pattern → List Pattern
over_two k [] = []
over_two k (p ∷ []) = []
over_two k (p ∷ (q ∷ ps)) =
    (if k == 12 then imp p q
    else (if k == 13 then and p q
    else (if k == 14 then or p q
    else (if k == 15 then equal p q
    else (if k == 16 then member p q
    else app p q))))) ∷ ps

push : ℕ → ℕ → ℕ → List Pattern → List Pattern
push k a b ps =
    if nat_lt k 5 then leaf_of k a ∷ ps
    else (if nat_lt k 12 then over_one k a b ps else over_two k ps)

read : List ℕ → List Pattern
read [] = []
read (k ∷ []) = []
read (k ∷ (a ∷ [])) = []
read (k ∷ (a ∷ (b ∷ rest))) = push k a b (read rest)

read-numbers : (p : Pattern) (rest : List ℕ) → read (numbers p rest) ≡ p ∷ read rest
unfolding read push leaf_of over_one over_two
read-numbers bot rest = refl
read-numbers top rest = refl
read-numbers (var x) rest = refl
read-numbers (meta i) rest = refl
read-numbers (constant c) rest = refl
read-numbers (not p) rest = ap (push 5 0 0) (read-numbers p rest)
read-numbers (next p) rest = ap (push 6 0 0) (read-numbers p rest)
read-numbers (ev p) rest = ap (push 7 0 0) (read-numbers p rest)
read-numbers (fun p s) rest = ap (push 8 0 s) (read-numbers p rest)
read-numbers (at_sort p s) rest = ap (push 9 0 s) (read-numbers p rest)
read-numbers (ex x s p) rest = ap (push 10 x s) (read-numbers p rest)
read-numbers (all x s p) rest = ap (push 11 x s) (read-numbers p rest)
read-numbers (imp p q) rest =
    ap (push 12 0 0)
    (read-numbers p (numbers q rest) ∙ ap (λ (ps : List Pattern). p ∷ ps) (read-numbers q rest))
read-numbers (and p q) rest =
    ap (push 13 0 0)
    (read-numbers p (numbers q rest) ∙ ap (λ (ps : List Pattern). p ∷ ps) (read-numbers q rest))
read-numbers (or p q) rest =
    ap (push 14 0 0)
    (read-numbers p (numbers q rest) ∙ ap (λ (ps : List Pattern). p ∷ ps) (read-numbers q rest))
read-numbers (equal p q) rest =
    ap (push 15 0 0)
    (read-numbers p (numbers q rest) ∙ ap (λ (ps : List Pattern). p ∷ ps) (read-numbers q rest))
read-numbers (member p q) rest =
    ap (push 16 0 0)
    (read-numbers p (numbers q rest) ∙ ap (λ (ps : List Pattern). p ∷ ps) (read-numbers q rest))
read-numbers (app p q) rest =
    ap (push 17 0 0)
    (read-numbers p (numbers q rest) ∙ ap (λ (ps : List Pattern). p ∷ ps) (read-numbers q rest))

-- what comes after the numbers of a pattern
numbers_in_front : (p : Pattern) (more rest : List ℕ)
    → numbers p more ++ rest ≡ numbers p (more ++ rest)
numbers_in_front bot more rest = refl
numbers_in_front top more rest = refl
numbers_in_front (var x) more rest = refl
numbers_in_front (meta i) more rest = refl
numbers_in_front (constant c) more rest = refl
numbers_in_front (not p) more rest =
    ap (λ (ns : List ℕ). 5 ∷ 0 ∷ 0 ∷ ns) (numbers_in_front p more rest)
numbers_in_front (next p) more rest =
    ap (λ (ns : List ℕ). 6 ∷ 0 ∷ 0 ∷ ns) (numbers_in_front p more rest)
numbers_in_front (ev p) more rest =
    ap (λ (ns : List ℕ). 7 ∷ 0 ∷ 0 ∷ ns) (numbers_in_front p more rest)
numbers_in_front (fun p s) more rest =
    ap (λ (ns : List ℕ). 8 ∷ 0 ∷ s ∷ ns) (numbers_in_front p more rest)
numbers_in_front (at_sort p s) more rest =
    ap (λ (ns : List ℕ). 9 ∷ 0 ∷ s ∷ ns) (numbers_in_front p more rest)
numbers_in_front (ex x s p) more rest =
    ap (λ (ns : List ℕ). 10 ∷ x ∷ s ∷ ns) (numbers_in_front p more rest)
numbers_in_front (all x s p) more rest =
    ap (λ (ns : List ℕ). 11 ∷ x ∷ s ∷ ns) (numbers_in_front p more rest)
numbers_in_front (imp p q) more rest =
    ap (λ (ns : List ℕ). 12 ∷ 0 ∷ 0 ∷ ns)
    (numbers_in_front p (numbers q more) rest ∙ ap (numbers p) (numbers_in_front q more rest))
numbers_in_front (and p q) more rest =
    ap (λ (ns : List ℕ). 13 ∷ 0 ∷ 0 ∷ ns)
    (numbers_in_front p (numbers q more) rest ∙ ap (numbers p) (numbers_in_front q more rest))
numbers_in_front (or p q) more rest =
    ap (λ (ns : List ℕ). 14 ∷ 0 ∷ 0 ∷ ns)
    (numbers_in_front p (numbers q more) rest ∙ ap (numbers p) (numbers_in_front q more rest))
numbers_in_front (equal p q) more rest =
    ap (λ (ns : List ℕ). 15 ∷ 0 ∷ 0 ∷ ns)
    (numbers_in_front p (numbers q more) rest ∙ ap (numbers p) (numbers_in_front q more rest))
numbers_in_front (member p q) more rest =
    ap (λ (ns : List ℕ). 16 ∷ 0 ∷ 0 ∷ ns)
    (numbers_in_front p (numbers q more) rest ∙ ap (numbers p) (numbers_in_front q more rest))
numbers_in_front (app p q) more rest =
    ap (λ (ns : List ℕ). 17 ∷ 0 ∷ 0 ∷ ns)
    (numbers_in_front p (numbers q more) rest ∙ ap (numbers p) (numbers_in_front q more rest))

-- reading bytes from the end

join : ℕ → List ℕ → List ℕ
join b [] = []
join b (n ∷ ns) = (n * 128 + (b - 128)) ∷ ns

values : List ℕ → List ℕ
values [] = []
values (b ∷ bs) = if nat_lt b 128 then b ∷ values bs else join b (values bs)

small_byte : (n : ℕ) (bs : List ℕ) → n < 128 → values (n ∷ bs) ≡ n ∷ values bs
unfolding values
small_byte n bs small = go (nat_lt n 128) (grind (arith, small))
  where
    go : (b : Bool) → b ≡ true → (if b then n ∷ values bs else join n (values bs)) ≡ n ∷ values bs
    go true h = refl
    go false h = absurd (false≢true h)

large_byte : (n : ℕ) (m : ℕ) (bs ns : List ℕ) → 128 ≤ n → values bs ≡ m ∷ ns
    → values (n ∷ bs) ≡ (m * 128 + (n - 128)) ∷ ns
unfolding values join
large_byte n m bs ns large behind = go (nat_lt n 128) (grind (arith, large))
  where
    go : (b : Bool) → b ≡ false
        → (if b then n ∷ values bs else join n (values bs)) ≡ (m * 128 + (n - 128)) ∷ ns
    go true h = absurd (false≢true (sym h))
    go false h = ap (join n) behind

within-last : (room n : ℕ) → n < 128 → bytes_within room n ≡ n ∷ []
within-last zero n small = refl
within-last (suc room) n small = go (nat_lt n 128) (grind (arith, small))
  where
    go : (b : Bool) → b ≡ true
        → (if b then n ∷ [] else (n % 128 + 128) ∷ bytes_within room (n / 128)) ≡ n ∷ []
    go true h = refl
    go false h = absurd (false≢true h)

within-more : (room n : ℕ) → 128 ≤ n
    → bytes_within (suc room) n ≡ (n % 128 + 128) ∷ bytes_within room (n / 128)
within-more room n large = go (nat_lt n 128) (grind (arith, large))
  where
    go : (b : Bool) → b ≡ false
        → (if b then n ∷ [] else (n % 128 + 128) ∷ bytes_within room (n / 128))
        ≡ (n % 128 + 128) ∷ bytes_within room (n / 128)
    go true h = absurd (false≢true (sym h))
    go false h = refl

-- a number never needs more room than its own value
within_same : (room more n : ℕ) → n ≤ room → n ≤ more → bytes_within room n ≡ bytes_within more n
within_same zero more n h k =
    within-last zero n (omega (arith, h)) ∙ sym (within-last more n (omega (arith, h)))
within_same (suc room) zero n h k =
    within-last (suc room) n (omega (arith, k)) ∙ sym (within-last zero n (omega (arith, k)))
within_same (suc room) (suc more) n h k =
    go (nat_lt n 128) refl (λ (large : 128 ≤ n).
    within_same room more (n / 128) (omega (arith, large, h)) (omega (arith, large, k)))
  where
    go : (b : Bool) → nat_lt n 128 ≡ b
        → (128 ≤ n → bytes_within room (n / 128) ≡ bytes_within more (n / 128))
        → bytes_within (suc room) n ≡ bytes_within (suc more) n
    go true small behind = within-last (suc room) n (grind (arith, small))
        ∙ sym (within-last (suc more) n (grind (arith, small)))
    go false other behind =
        let large : 128 ≤ n = grind (arith, other) in
        within-more room n large ∙ ap (λ (bs : List ℕ). (n % 128 + 128) ∷ bs) (behind large)
        ∙ sym (within-more more n large)

number_bytes-more : (n : ℕ) → 128 ≤ n → number_bytes n ≡ (n % 128 + 128) ∷ number_bytes (n / 128)
number_bytes-more zero large = absurd (omega (arith, large))
number_bytes-more (suc m) large = within-more m (suc m) large
    ∙ ap (λ (bs : List ℕ). (suc m % 128 + 128) ∷ bs)
    (within_same m (suc m / 128) (suc m / 128) (omega (arith, large)) (omega arith))

-- one more byte of a number
pub number_goes_on : (key key' whole : List ℕ) (n : ℕ) → 128 ≤ n
    → key' ≡ key ++ (n % 128 + 128) ∷ [] → key ++ number_bytes n ≡ whole
    → key' ++ number_bytes (n / 128) ≡ whole
number_goes_on key key' whole n large pushed is =
    ap (λ (bs : List ℕ). bs ++ number_bytes (n / 128)) pushed
    ∙ append_assoc key ((n % 128 + 128) ∷ []) (number_bytes (n / 128))
    ∙ ap (λ (bs : List ℕ). key ++ bs) (sym (number_bytes-more n large)) ∙ is

values-small : (room n : ℕ) (bs : List ℕ) → n < 128
    → values (bytes_within room n ++ bs) ≡ n ∷ values bs
values-small room n bs small =
    ap (λ (cs : List ℕ). values (cs ++ bs)) (within-last room n small) ∙ small_byte n bs small

values-within : (room n : ℕ) (bs : List ℕ) → n ≤ room
    → values (bytes_within room n ++ bs) ≡ n ∷ values bs
values-within zero n bs h = values-small zero n bs (omega (arith, h))
values-within (suc room) n bs h =
    go (nat_lt n 128) refl
    (λ (large : 128 ≤ n). values-within room (n / 128) bs (omega (arith, large, h)))
  where
    go : (b : Bool) → nat_lt n 128 ≡ b
        → (128 ≤ n → values (bytes_within room (n / 128) ++ bs) ≡ (n / 128) ∷ values bs)
        → values (bytes_within (suc room) n ++ bs) ≡ n ∷ values bs
    go true small behind = values-small (suc room) n bs (grind (arith, small))
    go false other behind =
        let large : 128 ≤ n = grind (arith, other) in
        let whole : (n / 128) * 128 + ((n % 128 + 128) - 128) ≡ n = omega arith in
        ap (λ (cs : List ℕ). values (cs ++ bs)) (within-more room n large)
        ∙ large_byte (n % 128 + 128) (n / 128) (bytes_within room (n / 128) ++ bs) (values bs)
        (omega arith) (behind large)
        ∙ ap (λ (m : ℕ). m ∷ values bs) whole

values-all : (ns bs : List ℕ) → values (all_bytes ns ++ bs) ≡ ns ++ values bs
values-all [] bs = refl
values-all (n ∷ ns) bs =
    ap values (append_assoc (number_bytes n) (all_bytes ns) bs)
    ∙ values-within n n (all_bytes ns ++ bs) (omega arith)
    ∙ ap (λ (ms : List ℕ). n ∷ ms) (values-all ns bs)

-- the patterns are read back from their bytes
keys_back : (ps : List Pattern) → read (values (flat_map pattern_key ps)) ≡ ps
unfolding read values
keys_back [] = refl
keys_back (p ∷ ps) =
    let rest : List ℕ = values (flat_map pattern_key ps) in
    ap read (values-all (numbers p []) (flat_map pattern_key ps) ∙ numbers_in_front p [] rest)
    ∙ read-numbers p rest ∙ ap (λ (qs : List Pattern). p ∷ qs) (keys_back ps)

keys_same : (ps qs : List Pattern) → flat_map pattern_key ps ≡ flat_map pattern_key qs → ps ≡ qs
keys_same ps qs h = sym (keys_back ps) ∙ ap (λ (bs : List ℕ). read (values bs)) h ∙ keys_back qs

-- no two patterns have the same bytes
pub key_same : (p q : Pattern) → pattern_key p ≡ pattern_key q → p ≡ q
key_same p q h =
    let both : p ∷ [] ≡ q ∷ [] = keys_same (p ∷ []) (q ∷ []) (ap (λ (bs : List ℕ). bs ++ []) h) in
    cc

-- no two statements have the same bytes
pub hypotheses_same : (own own' : List Pattern) (q q' : Pattern)
    → statement_key own q ≡ statement_key own' q' → own ≡ own'
hypotheses_same own own' q q' h =
    let both : q ∷ own ≡ q' ∷ own' = keys_same (q ∷ own) (q' ∷ own') h in
    cc

pub conclusion_same : (own own' : List Pattern) (q q' : Pattern)
    → statement_key own q ≡ statement_key own' q' → q ≡ q'
conclusion_same own own' q q' h =
    let both : q ∷ own ≡ q' ∷ own' = keys_same (q ∷ own) (q' ∷ own') h in
    cc

-- a stack of patterns

all_numbers-push : (ps : List (Bor Pattern)) (p : Bor Pattern) (rest : List ℕ)
    → all_numbers (patterns_of (ps ++ p ∷ [])) rest
    ≡ numbers p.now (all_numbers (patterns_of ps) rest)
all_numbers-push [] p rest = refl
all_numbers-push (q ∷ ps) p rest = all_numbers-push ps p (numbers q.now rest)

all_bytes-three : (a b c : ℕ) (rest : List ℕ)
    → all_bytes (a ∷ b ∷ c ∷ []) ++ all_bytes rest ≡ all_bytes (a ∷ b ∷ c ∷ rest)
all_bytes-three a b c rest = sym (flat_map-append number_bytes (a ∷ b ∷ c ∷ []) rest)

-- a form over one pattern
pub over_added : (p : Bor Pattern) (a b c : ℕ) (old new : List (Bor Pattern)) (key key' : List ℕ)
    → key' ≡ key ++ all_bytes (a ∷ b ∷ c ∷ []) → new ≡ old ++ p ∷ []
    → FormIsAdded (λ rest. a ∷ b ∷ c ∷ numbers p.now rest) (forms_in p.now + 1) old new key key'
over_added p a b c old new key key' added pushed =
    let rest : List ℕ = all_numbers (patterns_of old) [] in
    let numbered : all_numbers (patterns_of new) [] ≡ numbers p.now rest =
    ap (λ (ps : List (Bor Pattern)). all_numbers (patterns_of ps) []) pushed
    ∙ all_numbers-push old p [] in
    let heavier : all_forms (patterns_of new) ≡ all_forms (patterns_of old) + forms_in p.now =
    ap (λ (ps : List (Bor Pattern)). all_forms (patterns_of ps)) pushed
    ∙ all_forms-push old p in
    record {
      bytes =
          ap (λ (ns : List ℕ). key' ++ all_bytes ns) numbered
          ∙ ap (λ (bs : List ℕ). bs ++ all_bytes (numbers p.now rest)) added
          ∙ append_assoc key (all_bytes (a ∷ b ∷ c ∷ [])) (all_bytes (numbers p.now rest))
          ∙ ap (λ (bs : List ℕ). key ++ bs) (all_bytes-three a b c (numbers p.now rest));
      weight = omega (arith, heavier);
    }

-- a form between two patterns
pub between_added : (p q : Bor Pattern) (a b c : ℕ) (old mid new : List (Bor Pattern))
    (key key' : List ℕ) → key' ≡ key ++ all_bytes (a ∷ b ∷ c ∷ []) → mid ≡ old ++ q ∷ []
    → new ≡ mid ++ p ∷ []
    → FormIsAdded (λ rest. a ∷ b ∷ c ∷ numbers p.now (numbers q.now rest))
    (forms_in p.now + forms_in q.now + 1) old new key key'
between_added p q a b c old mid new key key' added first second =
    let rest : List ℕ = all_numbers (patterns_of old) [] in
    let below : all_numbers (patterns_of mid) [] ≡ numbers q.now rest =
    ap (λ (ps : List (Bor Pattern)). all_numbers (patterns_of ps) []) first
    ∙ all_numbers-push old q [] in
    let heavy : all_forms (patterns_of mid) ≡ all_forms (patterns_of old) + forms_in q.now =
    ap (λ (ps : List (Bor Pattern)). all_forms (patterns_of ps)) first ∙ all_forms-push old q in
    let numbered : all_numbers (patterns_of new) [] ≡ numbers p.now (numbers q.now rest) =
    ap (λ (ps : List (Bor Pattern)). all_numbers (patterns_of ps) []) second
    ∙ all_numbers-push mid p [] ∙ ap (numbers p.now) below in
    let heavier : all_forms (patterns_of new) ≡ all_forms (patterns_of mid) + forms_in p.now =
    ap (λ (ps : List (Bor Pattern)). all_forms (patterns_of ps)) second
    ∙ all_forms-push mid p in
    record {
      bytes =
          ap (λ (ns : List ℕ). key' ++ all_bytes ns) numbered
          ∙ ap (λ (bs : List ℕ). bs ++ all_bytes (numbers p.now (numbers q.now rest))) added
          ∙ append_assoc key (all_bytes (a ∷ b ∷ c ∷ []))
          (all_bytes (numbers p.now (numbers q.now rest)))
          ∙ ap (λ (bs : List ℕ). key ++ bs)
          (all_bytes-three a b c (numbers p.now (numbers q.now rest)));
      weight = omega (arith, heavy, heavier);
    }

-- one more form
pub form_added : (p : Bor Pattern) (before popped new : List (Bor Pattern))
    (key key' whole : List ℕ) → before ≡ popped ++ p ∷ []
    → FormIsAdded (numbers p.now) (forms_in p.now) popped new key key'
    → key ++ all_bytes (all_numbers (patterns_of before) []) ≡ whole
    → key' ++ all_bytes (all_numbers (patterns_of new) []) ≡ whole
form_added p before popped new key key' whole is added invariant =
    added.bytes ∙ ap (λ (ns : List ℕ). key ++ all_bytes ns) (sym (all_numbers-push popped p []))
    ∙ ap (λ (ps : List (Bor Pattern)). key ++ all_bytes (all_numbers (patterns_of ps) []))
    (sym is) ∙ invariant

pub form_smaller : (p : Bor Pattern) (before popped new : List (Bor Pattern)) (key key' : List ℕ)
    → before ≡ popped ++ p ∷ [] → FormIsAdded (numbers p.now) (forms_in p.now) popped new key key'
    → all_forms (patterns_of new) < all_forms (patterns_of before)
form_smaller p before popped new key key' is added =
    let e : all_forms (patterns_of before) ≡ all_forms (patterns_of popped) + forms_in p.now =
    ap (λ (ps : List (Bor Pattern)). all_forms (patterns_of ps)) is ∙ all_forms-push popped p in
    omega (arith, e, added.weight)
