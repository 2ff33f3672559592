-- Marks that are set one after another.
use Rattle.std.proofs.Common.{◌≡◌, ◌<◌, ℕ, ◌+◌, Bool, true, false, List, [], ◌∷◌, ◌++◌, map, take}
use Rattle.std.proofs.Common.{get_or, length, refl, sym, ap, ◌∙◌, subst}
use Rattle.std.specs.Prelude.{◌||◌, ◌&&◌, slice_get, Some}
use Rattle.std.proofs.lemmas.Bool.{eqb-true}
use Rattle.std.proofs.lemmas.Option.{slice_get_within, get_or_from_slice_get}
use Rattle.rule_core.specs.WellSorted.{IsReference, IsDeclaration}
use Rattle.rule_core.specs.declared.signature.Signature.{Signature}
use Rattle.rule_core.specs.declared.signature.SymInfo.{SymInfo}
use Rattle.rule_core.specs.declared.signature.SortRef.{SortRef}
use Rattle.rule_core.specs.declared.signature.SortRef.TheVariants.{Param, Sort}
use Rattle.kore_rules.specs.ScalarSorts.{makes, is_sort, is_constructor_kind}
use Rattle.std.specs.List.{list_any}
use Rattle.std.proofs.lemmas.List.{map-append}
use Rattle.std.proofs.lemmas.List.Folds.{list_any-append}
use Rattle.kore_sig.proofs.ListLaws.{take_step}

or_assoc : (a b c : Bool) → ((a || b) || c) ≡ (a || (b || c))
or_assoc true b c = refl
or_assoc false b c = refl

or_false : (b : Bool) → (b || false) ≡ b
or_false true = refl
or_false false = refl

-- a mark after one more item
pub marked_more : {X Y : Type 0} (f : X → Y) (test : Y → Bool) (xs : List X) (i : ℕ) (x : X)
    (old now new : Bool) → i < length xs → x ≡ get_or xs i x
    → now ≡ (old || list_any test (map f (take i xs))) → new ≡ (now || test (f x))
    → new ≡ (old || list_any test (map f (take (i + 1) xs)))
marked_more f test xs i x old now new lt is before after =
    after ∙ ap (λ (b : Bool). b || test (f x)) before
    ∙ or_assoc old (list_any test (map f (take i xs))) (test (f x))
    ∙ ap (λ (b : Bool). old || (list_any test (map f (take i xs)) || b))
    (sym (or_false (test (f x))))
    ∙ ap (λ (b : Bool). old || b) (sym (list_any-append test (map f (take i xs)) (f x ∷ [])))
    ∙ ap (λ ys. old || list_any test ys) (sym (map-append f (take i xs) (x ∷ [])))
    ∙ ap (λ ys. old || list_any test (map f ys)) (sym (take_step xs i x lt is))

pub marked_entry : {X : Type 0} (test : X → Bool) (xs : List X) (i : ℕ) (x : X) (old now new : Bool)
    → slice_get xs i ≡ Some x → now ≡ (old || list_any test (take i xs)) → new ≡ (now || test x)
    → new ≡ (old || list_any test (take (i + 1) xs))
marked_entry test xs i x old now new is before after =
    after ∙ ap (λ (b : Bool). b || test x) before
    ∙ or_assoc old (list_any test (take i xs)) (test x)
    ∙ ap (λ (b : Bool). old || (list_any test (take i xs) || b)) (sym (or_false (test x)))
    ∙ ap (λ (b : Bool). old || b) (sym (list_any-append test (take i xs) (x ∷ [])))
    ∙ ap (λ ys. old || list_any test ys) (sym (take_step xs i x (slice_get_within xs i x
    is) (sym (get_or_from_slice_get xs i x x is))))

-- ---- the sorts that are marked

both_true : (a b : Bool) → (a && b) ≡ true → (a ≡ true) × (b ≡ true)
both_true true b e = (refl, e)
both_true false b e = absurd (let never : ⊥ = cc in never)

within_reference : (sig : Signature) (params n : ℕ) (of : SortRef) → is_sort n of ≡ true
    → IsReference sig params of → n < length sig.sorts
within_reference sig params n (Param i) e r = absurd (let never : ⊥ = cc in never)
within_reference sig params n (Sort s) e r =
    subst (λ (m : ℕ). m < length sig.sorts) (sym (eqb-true n s.0 e)) r

-- a constructor makes terms of a declared sort
pub makes_declared : (sig : Signature) (info : SymInfo) (n : ℕ) → IsDeclaration sig info
    → makes n info ≡ true → n < length sig.sorts
makes_declared sig info n is e =
    within_reference sig info.params n info.result
    (both_true (is_constructor_kind info.kind) (is_sort n info.result) e).1 is.result

pub none_marked : (test : Bool) (old new : Bool) → old ≡ false → new ≡ (old || test) → new ≡ test
none_marked test old new none e = e ∙ ap (λ (b : Bool). b || test) none
