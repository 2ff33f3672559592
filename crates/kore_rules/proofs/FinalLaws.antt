-- The symbols with their final kinds, one after another.
use Rattle.std.proofs.Common.{◌≡◌, ◌≢◌, ◌<◌, ℕ, zero, suc, ◌+◌, Bool, true, false, cond, List, []}
use Rattle.std.proofs.Common.{◌∷◌, ◌++◌, map, take, drop, get_or, length, Option, Some, None, refl}
use Rattle.std.proofs.Common.{sym, ap, ◌∙◌, subst, arith}
use Rattle.std.specs.Prelude.{◌||◌, ◌&&◌, slice_get, option_map, is_some, is_none, not}
use Rattle.std.specs.List.{AllZip, position_from}
use Rattle.std.specs.Str.{bytes_eq}
use Rattle.std.proofs.lemmas.Bool.{false≢true}
use Rattle.std.proofs.lemmas.Slice.Eq.{bytes_eq-Decides}
use Rattle.std.proofs.lemmas.Option.{slice_get_within, get_or_from_slice_get}
use Rattle.hook_table.specs.declared.table.ScalarKind.{ScalarKind}
use Rattle.hook_table.specs.Rows.{plain_kind}
use Rattle.rule_core.specs.Named.{number_of_name, is_among}
use Rattle.rule_core.specs.DistinctNames.{names_of, IsNoneOf, AreDistinct}
use Rattle.rule_core.specs.declared.signature.Signature.{Signature}
use Rattle.rule_core.specs.declared.signature.SortRef.{SortRef}
use Rattle.rule_core.specs.declared.signature.SymInfo.{SymInfo}
use Rattle.kore_sig.proofs.DeclaringLaws.{allzip_push}
use Rattle.kore_sig.proofs.ListLaws.{take_step}
use Rattle.std.proofs.lemmas.List.{drop_more}
use Rattle.kore_sig.proofs.SetLaws.{number_among}
use Rattle.kore_rules.specs.ScalarSorts.{IsFinal, refers_to, refer_to, final_kind, is_marked_at}
use Rattle.kore_rules.specs.AxiomsRead.{is_marked}

-- ---- a different number of references

right_false : (a b : Bool) → b ≡ false → (a && b) ≡ false
right_false true b e = e
right_false false b e = refl

pub mismatch : (sig : Signature) (marks : List Bool) (ks : List ScalarKind) (refs : List SortRef)
    → (length ks ≡ length refs → ⊥) → false ≡ refer_to sig marks (map plain_kind ks) refs
mismatch sig marks [] [] other = absurd (other refl)
mismatch sig marks [] (of ∷ refs) other = refl
mismatch sig marks (k ∷ ks) [] other = refl
mismatch sig marks (k ∷ ks) (of ∷ refs) other =
    sym (right_false (refers_to sig marks (plain_kind k)
    of) (refer_to sig marks (map plain_kind ks) refs) (sym
    (mismatch sig marks ks refs (λ same. other (ap suc same)))))

pub refer_step : (sig : Signature) (marks : List Bool) (ks : List ScalarKind) (refs : List SortRef)
    (i : ℕ) (d : ScalarKind) (e : SortRef) → i < length ks → i < length refs
    → refer_to sig marks (map plain_kind (drop i ks)) (drop i refs)
    ≡ (refers_to sig marks (plain_kind (get_or ks i d)) (get_or refs i e)
    && refer_to sig marks (map plain_kind (drop (i + 1) ks)) (drop (i + 1) refs))
refer_step sig marks ks refs i d e lt within =
    ap (λ (xs : List ScalarKind). refer_to sig marks (map plain_kind xs) (drop i refs))
    (drop_more ks i d lt)
    ∙ ap (refer_to sig marks (map plain_kind (get_or ks i d ∷ drop (i + 1) ks)))
    (drop_more refs i e within)

-- ---- names

none_of_at : {V : Type 0} (name : List ℕ) (es : List (List ℕ × V)) (n : ℕ) (e : List ℕ × V)
    → IsNoneOf name (names_of es) → slice_get es n ≡ Some e → name ≢ e.0
none_of_at name [] n e h is = absurd (let never : ⊥ = cc in never)
none_of_at name (first ∷ es) zero e h is =
    let same : first ≡ e = cc in λ k. h.0 (k ∙ ap (λ x. x.0) (sym same))
none_of_at name (first ∷ es) (suc n) e h is = none_of_at name es n e h.1 is

bytes_differ : (k q : List ℕ) → (q ≢ k) → bytes_eq k q ≡ false
bytes_differ k q other = by_case (bytes_eq k q) refl where
  by_case : (t : Bool) → bytes_eq k q ≡ t → bytes_eq k q ≡ false
  by_case true e = absurd (other (sym ((bytes_eq-Decides k q).0 e)))
  by_case false e = e

-- the name of an entry is not among the names before it
none_before : {V : Type 0} (es : List (List ℕ × V)) (n : ℕ) (e : List ℕ × V)
    → AreDistinct (names_of es) → slice_get es n ≡ Some e
    → is_among (names_of (take n es)) e.0 ≡ false
none_before [] n e distinct is = absurd (let never : ⊥ = cc in never)
none_before (first ∷ es) zero e distinct is = refl
none_before (first ∷ es) (suc n) e distinct is =
    rw (bytes_differ e.0 first.0 (none_of_at first.0 es n e distinct.0 is))
    (none_before es n e distinct.1 is)

-- the number of an entry's name is the entry's place
number_from : {V : Type 0} (es : List (List ℕ × V)) (i n : ℕ) (e : List ℕ × V)
    → AreDistinct (names_of es) → slice_get es n ≡ Some e
    → position_from (λ (x : List ℕ × V). bytes_eq e.0 x.0) i es ≡ Some (i + n)
number_from [] i n e distinct is = absurd (let never : ⊥ = cc in never)
number_from {V} (first ∷ es) i zero e distinct is =
    let same : first ≡ e = cc in
    rw ((bytes_eq-Decides e.0 first.0).1 (ap (λ (x : List ℕ × V). x.0) (sym same)))
    (ap Some (omega arith))
number_from {V} (first ∷ es) i (suc n) e distinct is =
    rw (bytes_differ e.0 first.0 (none_of_at first.0 es n e distinct.0 is))
    (number_from es (i + 1) n e distinct.1 is ∙ ap Some (omega arith))

pub own_number : {V : Type 0} (es : List (List ℕ × V)) (n : ℕ) (e : List ℕ × V)
    → AreDistinct (names_of es) → slice_get es n ≡ Some e → number_of_name es e.0 ≡ Some n
own_number es n e distinct is = number_from es 0 n e distinct is ∙ ap Some (omega arith)

-- ---- the symbols

pub entry_from : {V : Type 0} (o : Option (List ℕ × V)) (name : List ℕ) (v : V)
    → Some name ≡ option_map (λ (e : List ℕ × V). e.0) o
    → Some v ≡ option_map (λ (e : List ℕ × V). e.1) o
    → (e : List ℕ × V) × (o ≡ Some e) × (e.0 ≡ name) × (e.1 ≡ v)
entry_from None name v a b = absurd (let never : ⊥ = cc in never)
entry_from {V} (Some e) name v a b = (e, refl, some_name (sym a), some_value (sym b)) where
  some_name : Some e.0 ≡ Some name → e.0 ≡ name
  some_name h = cc

  some_value : Some e.1 ≡ Some v → e.1 ≡ v
  some_value h = cc

final_names : (sig : Signature) (marks unreadable : List Bool) (ds ms : List (List ℕ × SymInfo))
    → AllZip (IsFinal sig marks unreadable) ds ms → names_of ms ≡ names_of ds
final_names sig marks unreadable [] [] z = refl
final_names sig marks unreadable [] (m ∷ ms) z = absurd z
final_names sig marks unreadable (d ∷ ds) [] z = absurd z
final_names sig marks unreadable (d ∷ ds) (m ∷ ms) z =
    ap (λ (n : List ℕ). n ∷ names_of ms) z.0.name
    ∙ ap (λ (ns : List (List ℕ)). d.0 ∷ ns) (final_names sig marks unreadable ds ms z.1)

none_true : (o : Option ℕ) → is_some o ≡ false → is_none o ≡ true
none_true None e = refl
none_true (Some n) e = absurd (false≢true (sym e))

pub final_more : (sig : Signature) (marks unreadable : List Bool) (n : ℕ)
    (d made : List ℕ × SymInfo) (old new : List (List ℕ × SymInfo)) (added : Bool)
    → AreDistinct (names_of sig.symbols) → slice_get sig.symbols n ≡ Some d
    → IsFinal sig marks unreadable d made → added ≡ is_none (number_of_name old made.0)
    → new ≡ cond added (old ++ made ∷ []) old
    → AllZip (IsFinal sig marks unreadable) (take n sig.symbols) old
    → AllZip (IsFinal sig marks unreadable) (take (n + 1) sig.symbols) new
final_more sig marks unreadable n d made old new added distinct is final fresh grown before =
    let absent : is_some (number_of_name old d.0) ≡ false =
    number_among old d.0
    ∙ ap (λ (ns : List (List ℕ)). is_among ns d.0)
    (final_names sig marks unreadable (take n sig.symbols) old before)
    ∙ none_before sig.symbols n d distinct is in
    let yes : added ≡ true =
    fresh ∙ ap (λ (name : List ℕ). is_none (number_of_name old name)) final.name
    ∙ none_true (number_of_name old d.0) absent in
    let all : new ≡ old ++ made ∷ [] =
    grown ∙ ap (λ (b : Bool). cond b (old ++ made ∷ []) old) yes in
    subst (λ (ds : List (List ℕ × SymInfo)). AllZip (IsFinal sig marks unreadable) ds new)
    (sym (take_step sig.symbols n d (slice_get_within sig.symbols n d
    is) (sym (get_or_from_slice_get sig.symbols n d d is))))
    (subst (λ (ms : List (List ℕ × SymInfo)).
    AllZip (IsFinal sig marks unreadable) (take n sig.symbols ++ d ∷ []) ms) (sym all)
    (allzip_push (IsFinal sig marks unreadable) (take n sig.symbols) old d made before final))
