-- Laws of the faults of one declaration.
use Rattle.std.proofs.Common.{◌≡◌, ℕ, zero, suc, ◌+◌, ◌<◌, ◌≤◌, Bool, true, false, cond, List, []}
use Rattle.std.proofs.Common.{◌∷◌, ◌++◌, take, Option, Some, None, refl, ap, sym, ◌∙◌, arith}
use Rattle.std.specs.Prelude.{nat_lt, nat_le, ◌==◌, ◌||◌, ◌&&◌, flat_map, is_some}
use Rattle.std.specs.List.{list_any, position_from}
use Rattle.std.specs.Str.{bytes_eq}
use Rattle.std.proofs.lemmas.Bool.Decides.{Decides-ltb}
use Rattle.std.proofs.lemmas.List.{take-map}
use Rattle.rule_core.specs.Named.{number_of_name, is_among}
use Rattle.rule_core.specs.DistinctNames.{names_of}
use Rattle.rule_core.specs.declared.signature.SortInfo.{SortInfo}
use Rattle.kore_text.specs.Trees.{SortTree}
use Rattle.kore_sig.specs.FirstFault.{Fault, when, unless}
use Rattle.kore_sig.specs.Noted.{leads_by_number, noted, first_by_number}
use Rattle.kore_sig.specs.Refusals.{fault_at}
use Rattle.kore_sig.specs.SignatureFaults.{reference_faults}
use Rattle.kore_sig.specs.SortReferences.{sort_reference, sort_place}
use Rattle.kore_sig.proofs.NotedLaws.{noted_append}
use Rattle.kore_sig.proofs.SetLaws.{any_name}

-- ---- tests of numbers

pub lt_true : (a b : ℕ) → a < b → nat_lt a b ≡ true
lt_true a b h = (Decides-ltb a b).1 h

not_lt : (b : Bool) (P : Type 0) → (b ≡ true → P) → (P → ⊥) → b ≡ false
not_lt true P h never = absurd (never (h refl))
not_lt false P h never = refl

pub lt_false : (a b : ℕ) → b ≤ a → nat_lt a b ≡ false
lt_false a b h = not_lt (nat_lt a b) (a < b) (Decides-ltb a b).0 (λ lt. omega arith)

-- ---- the modules before one

at_or_behind : (b : Bool) (i j : ℕ) (o : Option ℕ) → (o ≡ Some j → i + 1 ≤ j)
    → cond b (Some i) o ≡ Some j → i ≤ j
at_or_behind true i j o rest e = let same : i ≡ j = cc in omega arith
at_or_behind false i j o rest e = let le = rest e in omega arith

position_from_start : {K : Type 0} (test : K → Bool) (i : ℕ) (xs : List K) (j : ℕ)
    → position_from test i xs ≡ Some j → i ≤ j
position_from_start test i [] j e = absurd (let never : ⊥ = cc in never)
position_from_start test i (x ∷ xs) j e =
    at_or_behind (test x) i j (position_from test (i + 1) xs)
    (position_from_start test (i + 1) xs j) e

any_at : (b : Bool) (i j k : ℕ) (o : Option ℕ) (r : Bool) → (o ≡ Some j → r ≡ nat_lt j (i + 1 + k))
    → cond b (Some i) o ≡ Some j → (b || r) ≡ nat_lt j (i + suc k)
any_at true i j k o r rest e =
    let same : i ≡ j = cc in let lt : j < i + suc k = omega arith in sym (lt_true j (i + suc k) lt)
any_at false i j k o r rest e =
    let next : i + 1 + k ≡ i + suc k = omega arith in rest e ∙ ap (nat_lt j) next

pub any_in_front : {K : Type 0} (test : K → Bool) (i k : ℕ) (xs : List K) (j : ℕ)
    → position_from test i xs ≡ Some j → list_any test (take k xs) ≡ nat_lt j (i + k)
any_in_front test i k [] j e = absurd (let never : ⊥ = cc in never)
any_in_front test i zero (x ∷ xs) j e =
    sym (lt_false j (i + 0) (let le = position_from_start test i (x ∷ xs) j e in omega arith))
any_in_front test i (suc k) (x ∷ xs) j e =
    any_at (test x) i j k (position_from test (i + 1) xs) (list_any test (take k xs))
    (any_in_front test (i + 1) k xs j) e

none_at : (b : Bool) (i : ℕ) (o : Option ℕ) (r : Bool) → (o ≡ None → r ≡ false)
    → cond b (Some i) o ≡ None → (b || r) ≡ false
none_at true i o r rest e = absurd (let never : ⊥ = cc in never)
none_at false i o r rest e = rest e

pub none_in_front : {K : Type 0} (test : K → Bool) (i k : ℕ) (xs : List K)
    → position_from test i xs ≡ None → list_any test (take k xs) ≡ false
none_in_front test i zero xs e = refl
none_in_front test i (suc k) [] e = refl
none_in_front test i (suc k) (x ∷ xs) e =
    none_at (test x) i (position_from test (i + 1) xs) (list_any test (take k xs))
    (none_in_front test (i + 1) k xs) e

among_taken : {V : Type 0} (es : List (List ℕ × V)) (n : List ℕ) (k : ℕ)
    → is_among (take k (names_of es)) n ≡ list_any (λ (e : List ℕ × V). bytes_eq n e.0) (take k es)
among_taken {V} es n k = ap (λ ns. is_among ns n) (take-map (λ (e : List ℕ × V). e.0) k es)
    ∙ sym (any_name (take k es) n)

pub earlier_some : {V : Type 0} (es : List (List ℕ × V)) (n : List ℕ) (k j : ℕ)
    → number_of_name es n ≡ Some j → nat_lt j k ≡ is_among (take k (names_of es)) n
earlier_some {V} es n k j e =
    sym (among_taken es n k ∙ any_in_front (λ (x : List ℕ × V).
    bytes_eq n x.0) 0 k es j e ∙ ap (nat_lt j) (let plain : 0 + k ≡ k = omega arith in plain))

pub earlier_none : {V : Type 0} (es : List (List ℕ × V)) (n : List ℕ) (k : ℕ)
    → number_of_name es n ≡ None → false ≡ is_among (take k (names_of es)) n
earlier_none {V} es n k e =
    sym (among_taken es n k ∙ none_in_front (λ (x : List ℕ × V). bytes_eq n x.0) 0 k es e)

-- ---- faults with larger numbers

abbrev pub Above : ℕ → List Fault → Type 0
Above n [] = Unit {0}
Above n (f ∷ fs) = (n < f.number) × Above n fs

pub above_append : (n : ℕ) (fs gs : List Fault) → Above n fs → Above n gs → Above n (fs ++ gs)
above_append n [] gs h k = k
above_append n (f ∷ fs) gs h k = (h.0, above_append n fs gs h.1 k)

pub noted_above : (f : Fault) (fs : List Fault) → Above f.number fs
    → noted leads_by_number (Some f) fs ≡ Some f
noted_above f [] h = refl
noted_above f (g ∷ gs) h =
    ap (λ b. noted leads_by_number
    (cond (b || ((f.number == g.number) && nat_le f.byte g.byte)) (Some f) (Some g)) gs)
    (lt_true f.number g.number h.0) ∙ noted_above f gs h.1

above_reference : (b : Bool) (at : ℕ) → Above 5 (unless b 6 at)
above_reference true at = tt
above_reference false at = (omega arith, tt)

pub above_references : (sorts : List (List ℕ × SortInfo)) (params : List (List ℕ))
    (ss : List SortTree) → Above 5 (flat_map (reference_faults sorts params) ss)
above_references sorts params [] = tt
above_references sorts params (s ∷ ss) =
    above_append 5 (reference_faults sorts params s) (flat_map (reference_faults sorts params) ss)
    (above_reference (is_some (sort_reference sorts params s)) (sort_place s))
    (above_references sorts params ss)

above_arity : (b : Bool) (at : ℕ) → Above 5 (when b 8 at)
above_arity true at = (omega arith, tt)
above_arity false at = tt

-- ---- the three kinds of faults of a symbol

-- the name is taken
pub symbol_taken : (dup big : Bool) (at : ℕ) (unknown : List Fault) → dup ≡ true → Above 5 unknown
    → first_by_number (when dup 5 at ++ unknown ++ when big 8 at) ≡ fault_at 5 at
symbol_taken true big at unknown e above =
    noted_above (record { number = 5; byte = at }) (unknown ++ when big 8 at)
    (above_append 5 unknown (when big 8 at) above (above_arity big at))
symbol_taken false big at unknown e above = absurd (let never : ⊥ = cc in never)

after_unknown : (big : Bool) (at b : ℕ)
    → noted leads_by_number (fault_at 6 b) (when big 8 at) ≡ fault_at 6 b
after_unknown true at b = refl
after_unknown false at b = refl

pub symbol_unknown : (dup big : Bool) (at b : ℕ) (unknown : List Fault) → dup ≡ false
    → fault_at 6 b ≡ first_by_number unknown
    → first_by_number (when dup 5 at ++ unknown ++ when big 8 at) ≡ fault_at 6 b
symbol_unknown true big at b unknown e is = absurd (let never : ⊥ = cc in never)
symbol_unknown false big at b unknown e is =
    noted_append leads_by_number None unknown (when big 8 at)
    ∙ ap (λ o. noted leads_by_number o (when big 8 at)) (sym is) ∙ after_unknown big at b

pub symbol_arity : (dup big : Bool) (at : ℕ) (unknown : List Fault) → dup ≡ false → big ≡ true
    → None ≡ first_by_number unknown
    → first_by_number (when dup 5 at ++ unknown ++ when big 8 at) ≡ fault_at 8 at
symbol_arity true big at unknown e f is = absurd (let never : ⊥ = cc in never)
symbol_arity false true at unknown e f is =
    noted_append leads_by_number None unknown (when true 8 at)
    ∙ ap (λ o. noted leads_by_number o (when true 8 at)) (sym is)
symbol_arity false false at unknown e f is = absurd (let never : ⊥ = cc in never)
