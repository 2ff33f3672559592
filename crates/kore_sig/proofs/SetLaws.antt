-- Laws of sets of names.
use Rattle.std.proofs.Common.{◌≡◌, ℕ, ◌+◌, Bool, true, false, not, cond, List, [], ◌∷◌, ◌++◌, refl}
use Rattle.std.proofs.Common.{ap, sym, ◌∙◌}
use Rattle.std.specs.Prelude.{Option, Some, is_some, is_none, ◌||◌, if◌then◌else◌}
use Rattle.std.specs.List.{list_any, position_from}
use Rattle.std.specs.Str.{bytes_eq}
use Rattle.std.proofs.lemmas.Slice.Eq.{bytes_eq-Decides}
use Rattle.std.proofs.lemmas.List.Folds.{list_any-append}
use Rattle.std.proofs.lemmas.List.{map-append}
use Rattle.std.proofs.Math.Bool.{or_comm}
use Rattle.rule_core.specs.Named.{number_of_name, is_among}
use Rattle.rule_core.specs.DistinctNames.{names_of}
use Rattle.kore_sig.specs.Sets.{Knows}

some_or : (b : Bool) (i : ℕ) (o : Option ℕ) (r : Bool) → is_some o ≡ r
    → is_some (cond b (Some i) o) ≡ (b || r)
some_or true i o r e = refl
some_or false i o r e = e

some_position : {K : Type 0} (test : K → Bool) (i : ℕ) (xs : List K)
    → is_some (position_from test i xs) ≡ list_any test xs
some_position test i [] = refl
some_position test i (x ∷ xs) =
    some_or (test x) i (position_from test (i + 1) xs) (list_any test xs)
    (some_position test (i + 1) xs)

pub any_name : {V : Type 0} (entries : List (List ℕ × V)) (n : List ℕ)
    → list_any (λ (e : List ℕ × V). bytes_eq n e.0) entries ≡ is_among (names_of entries) n
any_name [] n = refl
any_name (e ∷ entries) n = ap (λ (b : Bool). bytes_eq n e.0 || b) (any_name entries n)

-- a name has a number if and only if it is among the names
pub number_among : {V : Type 0} (entries : List (List ℕ × V)) (n : List ℕ)
    → is_some (number_of_name entries n) ≡ is_among (names_of entries) n
number_among {V} entries n =
    some_position (λ (e : List ℕ × V). bytes_eq n e.0) 0 entries ∙ any_name entries n

pub among_append : (xs ys : List (List ℕ)) (n : List ℕ)
    → is_among (xs ++ ys) n ≡ (is_among xs n || is_among ys n)
among_append xs ys n = list_any-append (bytes_eq n) xs ys

-- the order of two lists of names does not matter
pub among_swap : (xs ys : List (List ℕ)) (n : List ℕ)
    → is_among (xs ++ ys) n ≡ is_among (ys ++ xs) n
among_swap xs ys n =
    among_append xs ys n ∙ or_comm (is_among xs n) (is_among ys n) ∙ sym (among_append ys xs n)

or_false : (b : Bool) → (b || false) ≡ b
or_false true = refl
or_false false = refl

or_true : (b : Bool) → (b || true) ≡ true
or_true true = refl
or_true false = refl

-- adding a name that the set already has changes nothing
one_more : (b : Bool) (has : List ℕ → Bool) (n name : List ℕ) → bytes_eq n name ≡ b
    → has name ≡ true → has n ≡ (has n || (b || false))
one_more true has n name same there =
    ap has ((bytes_eq-Decides n name).0 same) ∙ there ∙ sym (or_true (has n))
one_more false has n name same there = sym (or_false (has n))

not_false : (b : Bool) → not b ≡ false → b ≡ true
not_false true e = refl
not_false false e = sym e

pub names_push : {V : Type 0} (old : List (List ℕ × V)) (name : List ℕ) (v : V)
    → names_of (old ++ (name, v) ∷ []) ≡ names_of old ++ name ∷ []
names_push {V} old name v = map-append (λ (e : List ℕ × V). e.0) old ((name, v) ∷ [])

-- a set with one more name
pub knows_more : {V : Type 0} (b : Bool) (old new : List (List ℕ × V)) (name : List ℕ) (v : V)
    (known : List (List ℕ)) → b ≡ is_none (number_of_name old name)
    → new ≡ (if b then old ++ (name, v) ∷ [] else old) → Knows old known
    → Knows new (known ++ name ∷ [])
knows_more true old new name v known fresh is knows n =
    ap (λ es. is_some (number_of_name es n)) is
    ∙ number_among (old ++ (name, v) ∷ []) n
    ∙ ap (λ ns. is_among ns n) (names_push old name v)
    ∙ among_append (names_of old) (name ∷ []) n
    ∙ ap (λ (b : Bool). b || is_among (name ∷ []) n) (sym (number_among old n) ∙ knows n)
    ∙ sym (among_append known (name ∷ []) n)
knows_more false old new name v known fresh is knows n =
    ap (λ es. is_some (number_of_name es n)) is
    ∙ one_more (bytes_eq n name) (λ (m : List ℕ). is_some (number_of_name old m)) n name refl
    (not_false (is_some (number_of_name old name)) (sym fresh))
    ∙ ap (λ (b : Bool). b || is_among (name ∷ []) n) (knows n)
    ∙ sym (among_append known (name ∷ []) n)

pub knows_same : {V : Type 0} (old new : List (List ℕ × V)) (xs ys : List (List ℕ)) → new ≡ old
    → xs ≡ ys → Knows old xs → Knows new ys
knows_same old new xs ys e f h n =
    ap (λ es. is_some (number_of_name es n)) e ∙ h n ∙ ap (λ ns. is_among ns n) f

-- the order of two lists of names does not matter for a set
pub knows_swap : {V : Type 0} (es : List (List ℕ × V)) (xs ys : List (List ℕ)) → Knows es (xs ++ ys)
    → Knows es (ys ++ xs)
knows_swap es xs ys h n = h n ∙ among_swap xs ys n
