-- The declared sorts that the sorts in a text name.
use Rattle.std.proofs.Common.{◌≡◌, ◌<◌, ℕ, zero, suc, ◌+◌, Bool, true, false, List, [], ◌∷◌, length}
use Rattle.std.proofs.Common.{map, Option, Some, None, slice_get, refl, sym, ◌∙◌, ap, arith, get_or}
use Rattle.std.specs.Prelude.{is_some, ◌==◌}
use Rattle.std.specs.Option.{option_and_then}
use Rattle.std.proofs.lemmas.Bool.{false≢true}
use Rattle.rule_core.specs.Sorting.{sort_at}
use Rattle.std.proofs.lemmas.List.{length-map}
use Rattle.kore_check.specs.PatternFaults.{is_bad_injection}
use Rattle.rule_core.specs.declared.signature.SymInfo.{SymInfo}
use Rattle.rule_core.specs.declared.signature.SortRef.{SortRef}
use Rattle.rule_core.specs.declared.signature.SortRef.TheVariants.{Param, Sort as declared_at}
use Rattle.std.specs.List.{position_from}
use Rattle.std.specs.Str.{bytes_eq}
use Rattle.kore_text.specs.Trees.{SortTree, sort_parameter, sort_applied, no_sorts, sort_then}
use Rattle.kore_ast.specs.declared.tree.Sort.{Sort}
use Rattle.kore_ast.specs.Plain.{plain_sort}
use Rattle.rule_core.specs.Named.{number_of_name}
use Rattle.rule_core.specs.declared.signature.Signature.{Signature}
use Rattle.rule_core.specs.declared.signature.SortInfo.{SortInfo}
use Rattle.kore_sig.specs.SortReferences.{sort_number}
use Rattle.kore_check.specs.PatternSorts.{sort_numbers, number_then, wanted_sort, result_sort}

-- the place that is found, counted from any number
position-within : {X : Type 0} (test : X → Bool) (n k : ℕ) (xs : List X)
    → position_from test n xs ≡ Some k → k < n + length xs
position-within test n k [] is = absurd (let no_place : ⊥ = cc in no_place)
position-within {X} test n k (x ∷ xs) is =
    by_case (λ later. position-within test (n + 1) k xs later) (test x) refl
  where
    by_case : (position_from test (n + 1) xs ≡ Some k → k < n + 1 + length xs) → (t : Bool)
        → test x ≡ t → k < n + length (x ∷ xs)
    by_case rest true e =
        let same : n ≡ k = (let found : Some n ≡ Some k = rw e at is in cc) in omega (arith, same)
    by_case rest false e =
        let later : position_from test (n + 1) xs ≡ Some k = rw e at is in omega (arith, rest later)

-- the number of a name is that of an entry
pub number-within : {V : Type 0} (entries : List (List ℕ × V)) (name : List ℕ) (k : ℕ)
    → number_of_name entries name ≡ Some k → k < length entries
number-within {V} entries name k is =
    omega (arith, position-within (λ (e : List ℕ × V). bytes_eq name e.0) 0 k entries is)

pub sort_number-within : (sorts : List (List ℕ × SortInfo)) (tree : SortTree) (k : ℕ)
    → sort_number sorts tree ≡ Some k → k < length sorts
sort_number-within sorts (sort_parameter at name) k is =
    absurd (let no_number : ⊥ = cc in no_number)
sort_number-within sorts (sort_applied at name no_sorts) k is = number-within sorts name k is
sort_number-within sorts (sort_applied at name (sort_then s ss)) k is =
    absurd (let no_number : ⊥ = cc in no_number)

-- the number of the sort at a place of a list
pub sort_numbers-at : (sig : Signature) (ss : List SortTree) (ns : List ℕ) (i : ℕ)
    → sort_numbers sig ss ≡ Some ns
    → slice_get ns i ≡ option_and_then (sort_number sig.sorts) (slice_get ss i)
sort_numbers-at sig [] [] i is = refl
sort_numbers-at sig [] (n ∷ ns) i is = absurd (let no_numbers : ⊥ = cc in no_numbers)
sort_numbers-at sig (s ∷ ss) ns i is =
    by_case (λ ms j e. sort_numbers-at sig ss ms j e) (sort_number sig.sorts s) refl
    (sort_numbers sig ss) refl i
  where
    by_case : ((ms : List ℕ) (j : ℕ) → sort_numbers sig ss ≡ Some ms
        → slice_get ms j ≡ option_and_then (sort_number sig.sorts) (slice_get ss j))
        → (o : Option ℕ) → sort_number sig.sorts s ≡ o → (more : Option (List ℕ))
        → sort_numbers sig ss ≡ more → (j : ℕ)
        → slice_get ns j ≡ option_and_then (sort_number sig.sorts) (slice_get (s ∷ ss) j)
    by_case rest None e more f j =
        let both : number_then None more ≡ Some ns =
        ap (λ o. number_then o more) (sym e)
        ∙ ap (λ m. number_then (sort_number sig.sorts s) m) (sym f) ∙ is in
        absurd (let no_numbers : ⊥ = cc in no_numbers)
    by_case rest (Some n) e None f j =
        let both : number_then (Some n) None ≡ Some ns =
        ap (λ o. number_then o None) (sym e)
        ∙ ap (λ m. number_then (sort_number sig.sorts s) m) (sym f) ∙ is in
        absurd (let no_numbers : ⊥ = cc in no_numbers)
    by_case rest (Some n) e (Some ms) f zero =
        let both : number_then (Some n) (Some ms) ≡ Some ns =
        ap (λ o. number_then o (Some ms)) (sym e)
        ∙ ap (λ m. number_then (sort_number sig.sorts s) m) (sym f) ∙ is in
        let same : ns ≡ n ∷ ms = cc in
        ap (λ xs. slice_get xs 0) same ∙ sym e
    by_case rest (Some n) e (Some ms) f (suc j) =
        let both : number_then (Some n) (Some ms) ≡ Some ns =
        ap (λ o. number_then o (Some ms)) (sym e)
        ∙ ap (λ m. number_then (sort_number sig.sorts s) m) (sym f) ∙ is in
        let same : ns ≡ n ∷ ms = cc in
        ap (λ xs. slice_get xs (suc j)) same ∙ rest ms j f

-- the sort that a place wants if all sort arguments are declared
pub wanted-at : (sig : Signature) (ss : List SortTree) (ns : List ℕ) (of : SortRef)
    → sort_numbers sig ss ≡ Some ns → sort_at ns of ≡ wanted_sort sig ss of
wanted-at sig ss ns (Param i) is = sort_numbers-at sig ss ns i is
wanted-at sig ss ns (declared_at s) is = refl

pub result-declared : (sig : Signature) (info : SymInfo) (ss : List SortTree)
    (numbers : Option (List ℕ)) → sort_numbers sig ss ≡ numbers → true ≡ is_some numbers
    → (length ss == info.params) ≡ true
    → wanted_sort sig ss info.result ≡ result_sort (Some info) ss numbers
result-declared sig info ss None e all same = absurd (false≢true (sym all))
result-declared sig info ss (Some ns) e all same = rw same (sym (wanted-at sig ss ns info.result e))

pub result-undeclared : (info : SymInfo) (ss : List SortTree) (numbers : Option (List ℕ))
    → false ≡ is_some numbers → result_sort (Some info) ss numbers ≡ None
result-undeclared info ss None all = refl
result-undeclared info ss (Some ns) all = absurd (false≢true all)

-- the two sorts of an injection
pub astray-two : (sig : Signature) (ss : List Sort) (s t : Sort) (a b : ℕ) → length ss ≡ 2
    → s ≡ get_or ss 0 s → t ≡ get_or ss 1 t → Some a ≡ sort_number sig.sorts (plain_sort s)
    → Some b ≡ sort_number sig.sorts (plain_sort t)
    → sort_numbers sig (map plain_sort ss) ≡ Some (a ∷ b ∷ [])
astray-two sig [] s t a b two first second e f = absurd (omega (arith, two))
astray-two sig (x ∷ []) s t a b two first second e f = absurd (omega (arith, two))
astray-two sig (x ∷ y ∷ []) s t a b two first second e f =
    ap (λ z. number_then (sort_number sig.sorts (plain_sort z))
    (number_then (sort_number sig.sorts (plain_sort y)) (Some []))) (sym first)
    ∙ ap (λ z. number_then (sort_number sig.sorts (plain_sort s))
    (number_then (sort_number sig.sorts (plain_sort z)) (Some []))) (sym second)
    ∙ ap (λ o. number_then o (number_then (sort_number sig.sorts (plain_sort t)) (Some []))) (sym e)
    ∙ ap (λ o. number_then (Some a) (number_then o (Some []))) (sym f)
astray-two sig (x ∷ y ∷ z ∷ ss) s t a b two first second e f = absurd (omega (arith, two))

not_two : (sig : Signature) (numbers : Option (List ℕ))
    → ((ns : List ℕ) → numbers ≡ Some ns → length ns ≡ 2 → ⊥) → is_bad_injection sig numbers ≡ false
not_two sig None other = refl
not_two sig (Some []) other = refl
not_two sig (Some (a ∷ [])) other = refl
not_two sig (Some (a ∷ b ∷ [])) other = absurd (other (a ∷ b ∷ []) refl refl)
not_two sig (Some (a ∷ b ∷ d ∷ ns)) other = refl

pub sort_numbers-length : (sig : Signature) (ss : List SortTree) (ns : List ℕ)
    → sort_numbers sig ss ≡ Some ns → length ns ≡ length ss
sort_numbers-length sig [] [] is = refl
sort_numbers-length sig [] (n ∷ ns) is = absurd (let no_numbers : ⊥ = cc in no_numbers)
sort_numbers-length sig (s ∷ ss) ns is =
    by_case (λ ms e. sort_numbers-length sig ss ms e) (sort_number sig.sorts s) refl
    (sort_numbers sig ss) refl
  where
    by_case : ((ms : List ℕ) → sort_numbers sig ss ≡ Some ms → length ms ≡ length ss)
        → (o : Option ℕ) → sort_number sig.sorts s ≡ o → (more : Option (List ℕ))
        → sort_numbers sig ss ≡ more → length ns ≡ length (s ∷ ss)
    by_case rest None e more f =
        let both : number_then None more ≡ Some ns =
        ap (λ o. number_then o more) (sym e)
        ∙ ap (λ m. number_then (sort_number sig.sorts s) m) (sym f) ∙ is in
        absurd (let no_numbers : ⊥ = cc in no_numbers)
    by_case rest (Some n) e None f =
        let both : number_then (Some n) None ≡ Some ns =
        ap (λ o. number_then o None) (sym e)
        ∙ ap (λ m. number_then (sort_number sig.sorts s) m) (sym f) ∙ is in
        absurd (let no_numbers : ⊥ = cc in no_numbers)
    by_case rest (Some n) e (Some ms) f =
        let both : number_then (Some n) (Some ms) ≡ Some ns =
        ap (λ o. number_then o (Some ms)) (sym e)
        ∙ ap (λ m. number_then (sort_number sig.sorts s) m) (sym f) ∙ is in
        let same : ns ≡ n ∷ ms = cc in
        ap (λ (xs : List ℕ). length xs) same ∙ omega (arith, rest ms f)

pub astray-other : (sig : Signature) (ss : List Sort) → (length ss ≡ 2 → ⊥)
    → is_bad_injection sig (sort_numbers sig (map plain_sort ss)) ≡ false
astray-other sig ss other =
    not_two sig (sort_numbers sig (map plain_sort ss)) (λ ns is two. other (sym (length-map ss
    plain_sort) ∙ sym (sort_numbers-length sig (map plain_sort ss) ns is) ∙ two))
