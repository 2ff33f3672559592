-- The names and the entries of a table after a new name is added, the number of a name, and the
-- entry with a number.
use Rattle.std.proofs.Common.{◌≡◌, ℕ, ◌+◌, List, [], ◌∷◌, ◌++◌, length, Bool, true, false, cond}
use Rattle.std.proofs.Common.{is_some, Option, Some, None, refl, sym, slice_get, suc, ◌∙◌, ap, ◌≢◌}
use Rattle.std.proofs.Common.{arith, String, map, string_bytes}
use Rattle.std.specs.List.{position, position_from}
use Rattle.std.specs.Map.{keys_of, lookup}
use Rattle.std.specs.Global.{Global}
use Rattle.std.specs.String.{string_eq}
use Rattle.indexmap.specs.IndexMap.{IndexMap, insert_entry}
use Rattle.indexmap.proofs.CallerLemmas.{insert_entry-new}
use Rattle.std.proofs.lemmas.Iterator.Adapters.{position_from-zero}
use Rattle.std.specs.Str.{bytes_eq}
use Rattle.std.proofs.lemmas.Bool.{false≢true}
use Rattle.std.proofs.lemmas.List.{map-append}
use Rattle.std.proofs.lemmas.Slice.Eq.{bytes_eq-Decides}
use Rattle.rule_core.specs.Named.{number_of_name}
use Rattle.rule_core.specs.DistinctNames.{names_of, IsNoneOf, AreDistinct}

only_none : (b : Bool) (i : ℕ) (rest : Option ℕ) → cond b (Some i) rest ≡ None
    → (b ≡ false) × (rest ≡ None)
only_none true i rest h = absurd (let z : ⊥ = cc in z)
only_none false i rest h = (refl, h)

-- a name that is not found differs from the first one, and is not found among the others
not_found : {V : Type 0} (e : List ℕ × V) (es : List (List ℕ × V)) (i : ℕ) (k : List ℕ)
    → position_from (λ (e' : List ℕ × V). bytes_eq k e'.0) i (e ∷ es) ≡ None
    → (bytes_eq k e.0 ≡ false)
    × (position_from (λ (e' : List ℕ × V). bytes_eq k e'.0) (i + 1) es ≡ None)
not_found e es i k h = only_none (bytes_eq k e.0) i _ h

none_is : (o : Option ℕ) → is_some o ≡ false → o ≡ None
none_is None h = refl
none_is (Some n) h = absurd (false≢true (sym h))

-- different names stay different when a name is added that is none of them
IsNoneOf-push : (name : List ℕ) (others : List (List ℕ)) (new : List ℕ) → IsNoneOf name others
    → name ≢ new → IsNoneOf name (others ++ new ∷ [])
IsNoneOf-push name [] new all last = (last, tt)
IsNoneOf-push name (other ∷ others) new all last = (all.0, IsNoneOf-push name others new all.1 last)

differ : {V : Type 0} (es : List (List ℕ × V)) (i : ℕ) (k : List ℕ) (v : V)
    → AreDistinct (names_of es) → position_from (λ (e : List ℕ × V). bytes_eq k e.0) i es ≡ None
    → AreDistinct (names_of es ++ k ∷ [])
differ [] i k v had absent = (tt, tt)
differ (e ∷ es) i k v had absent =
    let o = not_found e es i k absent in (
      IsNoneOf-push e.0 (names_of es) k had.0
          (λ same. false≢true (sym o.0 ∙ (bytes_eq-Decides k e.0).1 (sym same))),
      differ es (i + 1) k v had.1 o.1,
    )

pub AreDistinct-push : {V : Type 0} (es : List (List ℕ × V)) (k : List ℕ) (v : V)
    → AreDistinct (names_of es) → is_some (number_of_name es k) ≡ false
    → AreDistinct (names_of (es ++ (k, v) ∷ []))
AreDistinct-push es k v had absent = rw map-append (differ es 0 k v had (none_is _ absent))

found_at : {V : Type 0} (e : List ℕ × V) (es : List (List ℕ × V)) (i : ℕ) (k : List ℕ) (j : ℕ)
    (b : Bool) → bytes_eq k e.0 ≡ b
    → cond b (Some i) (position_from (λ (e' : List ℕ × V). bytes_eq k e'.0) (i + 1) es) ≡ Some j
    → (position_from (λ (e' : List ℕ × V). bytes_eq k e'.0) (i + 1) es ≡ Some j
    → (n : ℕ) × ((j ≡ i + 1 + n) × ((v : V) × (slice_get es n ≡ Some (k, v)))))
    → (n : ℕ) × ((j ≡ i + n) × ((v : V) × (slice_get (e ∷ es) n ≡ Some (k, v))))
found_at e es i k j true eb h further =
    let same : i ≡ j = cc in
    let name : k ≡ e.0 = (bytes_eq-Decides k e.0).0 eb in
    (0, (omega arith, (e.1, ap (λ n. Some (n, e.1)) (sym name))))
found_at e es i k j false eb h further =
    let p = further h in (suc p.0, (omega (arith, p.1.0), p.1.1))

found : {V : Type 0} (es : List (List ℕ × V)) (i : ℕ) (k : List ℕ) (j : ℕ)
    → position_from (λ (e : List ℕ × V). bytes_eq k e.0) i es ≡ Some j
    → (n : ℕ) × ((j ≡ i + n) × ((v : V) × (slice_get es n ≡ Some (k, v))))
found [] i k j h = absurd (let z : ⊥ = cc in z)
found (e ∷ es) i k j h = found_at e es i k j (bytes_eq k e.0) refl h (found es (i + 1) k j)

-- the entry with the number of a name has that name
pub number_of-entry : {V : Type 0} (es : List (List ℕ × V)) (k : List ℕ) (i : ℕ)
    → number_of_name es k ≡ Some i → (v : V) × (slice_get es i ≡ Some (k, v))
number_of-entry es k i h = let p = found es 0 k i h in
    let same : i ≡ p.0 = omega (arith, p.1.0) in
    (p.1.1.0, ap (λ n. slice_get es n) same ∙ p.1.1.1)

-- ---- names in a map

-- the names, each with its value
abbrev pub plain_entries : {V : Type 0} → List (String Global × V) → List (List ℕ × V)
plain_entries es = map (λ e. (string_bytes e.0, e.1)) es

-- a map finds a name at its number
pub position-named : {V : Type 0} (name : List ℕ) (i : ℕ) (es : List (String Global × V))
    → position_from (λ (k : String Global). bytes_eq name (string_bytes k)) i (keys_of es)
    ≡ position_from (λ (e : List ℕ × V). bytes_eq name e.0) i (plain_entries es)
position-named name i [] = refl
position-named name i (e ∷ es) =
    ap (cond (bytes_eq name (string_bytes e.0)) (Some i)) (position-named name (i + 1) es)

pub index-named : {V : Type 0} (name : List ℕ) (es : List (String Global × V))
    → position (λ (k : String Global). bytes_eq name (string_bytes k)) (keys_of es)
    ≡ number_of_name (plain_entries es) name
index-named name es =
    position_from-zero (λ (k : String Global). bytes_eq name (string_bytes k)) (keys_of es)
    ∙ position-named name 0 es

-- a name without a number has no value
absent_value : {V : Type 0} (name : List ℕ) (i : ℕ) (es : List (String Global × V))
    → position_from (λ (e : List ℕ × V). bytes_eq name e.0) i (plain_entries es) ≡ None
    → lookup (λ (k : String Global). bytes_eq name (string_bytes k)) es ≡ None
absent_value name i [] h = refl
absent_value name i (e ∷ es) h =
    let o = only_none (bytes_eq name (string_bytes e.0)) i _ h in
    ap (λ b. cond b (Some e.1) (lookup (λ (k : String Global). bytes_eq name (string_bytes k)) es))
    o.0
    ∙ absent_value name (i + 1) es o.1

-- the entries after a new name is added
pub entries-added : {V S : Type 0} (old : IndexMap (String Global) V S) (k : String Global) (v : V)
    (new : List (String Global × V))
    → is_some (number_of_name (plain_entries old.entries) (string_bytes k)) ≡ false
    → new ≡ insert_entry string_eq old.entries k v
    → plain_entries new ≡ plain_entries old.entries ++ (string_bytes k, v) ∷ []
entries-added old k v new absent is =
    ap plain_entries (is ∙ insert_entry-new string_eq old k v
    (absent_value (string_bytes k) 0 old.entries (none_is _ absent)))
    ∙ map-append _ _ _
