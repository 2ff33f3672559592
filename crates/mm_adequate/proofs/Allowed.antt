-- A frame is sound if it says no more than a sound one.
use Rattle.std.proofs.Common.{◌≡◌, ℕ, Bool, true, false, List, [], ◌∷◌, ◌++◌, map, filter, refl}
use Rattle.std.proofs.Common.{Option, Some, None, sym, ◌∙◌, subst}
use Rattle.std.specs.Prelude.{◌||◌, if◌then◌else◌, bytes_eq}
use Rattle.std.specs.List.{list_any}
use Rattle.std.proofs.lemmas.Slice.Eq.{bytes_eq-Decides}
use Rattle.mm_text.specs.Bytes.{Token}
use Rattle.mm_database.specs.Frames.{Hypothesis, floating, essential, types, Frame}
use Rattle.mm_database.specs.Orderly.{TypeOnce}
use Rattle.mm_header.specs.Header.{Row}
use Rattle.mm_header.specs.HeaderRows.{header_types, premises, premise_of, is_in_row, IsFrameOfRow}
use Rattle.ml_pat.specs.Patterns.{Pattern}
use Rattle.mm_readings.specs.Holding.{Holds}
use Rattle.mm_readings.specs.Readings.{Reading, put, AllHold, IsSound}
use Rattle.mm_readings.specs.Proving.{EachHolds}
use Rattle.mm_readings.proofs.Dummies.{not_both, same, itself}
use Rattle.mm_readings.proofs.TheoremFrames.{filter_types}
use Rattle.mm_justify.specs.Justifying.{typecode_in, premises_in, SaysNoMore}

-- ---- what types a variable

none_typed : (hs : List Hypothesis) (t : Token) → list_any (types t) hs ≡ false
    → typecode_in hs t ≡ None
none_typed [] t h = refl
none_typed (essential l s ∷ hs) t h = none_typed hs t h
none_typed (floating l k v ∷ hs) t h = go (bytes_eq v t) h (none_typed hs t)
  where
    go : (b : Bool) → (b || list_any (types t) hs) ≡ false
        → (list_any (types t) hs ≡ false → typecode_in hs t ≡ None)
        → (if b then Some k else typecode_in hs t) ≡ None
    go true k rest = absurd (cc)
    go false k rest = rest k

untyped : (hs : List Hypothesis) (t : Token) → typecode_in hs t ≡ None
    → list_any (types t) hs ≡ false
untyped [] t h = refl
untyped (essential l s ∷ hs) t h = untyped hs t h
untyped (floating l k v ∷ hs) t h = go (bytes_eq v t) h (untyped hs t)
  where
    go : (b : Bool) → (if b then Some k else typecode_in hs t) ≡ None
        → (typecode_in hs t ≡ None → list_any (types t) hs ≡ false)
        → (b || list_any (types t) hs) ≡ false
    go true e rest = absurd (cc)
    go false e rest = rest e

pub typing_holds : (A : Pattern → Type 0) (m : Reading) (hs : List Hypothesis) (v k : Token)
    → typecode_in hs v ≡ Some k → AllHold A m hs → Holds A (put m (k ∷ (v ∷ [])))
typing_holds A m [] v k h hold = absurd (cc)
typing_holds A m (essential l s ∷ hs) v k h hold = typing_holds A m hs v k h hold.1
typing_holds A m (floating l other w ∷ hs) v k h hold =
    go (bytes_eq w v) refl h (λ e. typing_holds A m hs v k e hold.1)
  where
    go : (b : Bool) → bytes_eq w v ≡ b → (if b then Some other else typecode_in hs v) ≡ Some k
        → (typecode_in hs v ≡ Some k → Holds A (put m (k ∷ (v ∷ []))))
        → Holds A (put m (k ∷ (v ∷ [])))
    go true is e rest =
        let one : other ≡ k = cc in
        subst (λ (t : Token). Holds A (put m (t ∷ (v ∷ [])))) one
        (subst (λ (t : Token). Holds A (put m (other ∷ (t ∷ [])))) (same w v is) hold.0)
    go false is e rest = rest e

premises_hold : (A : Pattern → Type 0) (m : Reading) (hs : List Hypothesis) → AllHold A m hs
    → EachHolds A m (premises_in hs)
premises_hold A m [] hold = tt
premises_hold A m (floating l k v ∷ hs) hold = premises_hold A m hs hold.1
premises_hold A m (essential l s ∷ hs) hold = (hold.0, premises_hold A m hs hold.1)

-- ---- each `$f` gives its variable this type

abbrev pub GiveTypes : (Token → Option Token) → List Hypothesis → Type 0
GiveTypes type_of [] = Unit {0}
GiveTypes type_of (floating l k v ∷ hs) = (type_of v ≡ Some k) × GiveTypes type_of hs
GiveTypes type_of (essential l s ∷ hs) = GiveTypes type_of hs

all_hold : (A : Pattern → Type 0) (m : Reading) (type_of : Token → Option Token)
    → ((v k : Token) → type_of v ≡ Some k → Holds A (put m (k ∷ (v ∷ []))))
    → (hs : List Hypothesis) → GiveTypes type_of hs → EachHolds A m (premises_in hs)
    → AllHold A m hs
all_hold A m type_of typed [] give hold = tt
all_hold A m type_of typed (floating l k v ∷ hs) give hold =
    (typed v k give.0, all_hold A m type_of typed hs give.1 hold)
all_hold A m type_of typed (essential l s ∷ hs) give hold =
    (hold.0, all_hold A m type_of typed hs give hold.1)

pub allowed_sound : (A : Pattern → Type 0) (number : Token → ℕ) (f other : Frame)
    → GiveTypes (typecode_in other.hypotheses) other.hypotheses → SaysNoMore f other
    → IsSound A number other → IsSound A number f
allowed_sound A number f other give says sound m fit =
    subst (λ (ts : List Token). Holds A (put m ts)) (sym says.statement) (sound m (record {
      constants = λ t none.
          fit.constants t
          (untyped f.hypotheses t (says.types t ∙ none_typed other.hypotheses t none));
      hypotheses =
          all_hold A m (typecode_in other.hypotheses)
          (λ v k e. typing_holds A m f.hypotheses v k (says.types v ∙ e) fit.hypotheses)
          other.hypotheses give
          (subst (EachHolds A m) says.premises (premises_hold A m f.hypotheses fit.hypotheses));
      apart = λ a b pair. fit.apart a b (says.apart a b pair);
    }))

-- ---- the rows of the header

turned : (a b : Token) → bytes_eq a b ≡ false → bytes_eq b a ≡ false
turned a b h = go (bytes_eq b a) refl
  where
    go : (c : Bool) → bytes_eq b a ≡ c → c ≡ false
    go true is =
        absurd (not_both (bytes_eq a b) ((bytes_eq-Decides a b).1 (sym (same b a is))) h)
    go false is = refl

neither : (a b : Bool) → (a || b) ≡ false → (a ≡ false) × (b ≡ false)
neither true b h = absurd (cc)
neither false b h = (refl, h)

behind_typing : (type_of : Token → Option Token) (k v : Token) (hs : List Hypothesis)
    → list_any (types v) hs ≡ false → GiveTypes type_of hs
    → GiveTypes (λ t. if bytes_eq v t then Some k else type_of t) hs
behind_typing type_of k v [] none give = tt
behind_typing type_of k v (essential l s ∷ hs) none give =
    behind_typing type_of k v hs none give
behind_typing type_of k v (floating l j w ∷ hs) none give =
    let parts : (bytes_eq w v ≡ false) × (list_any (types v) hs ≡ false) =
    neither (bytes_eq w v) (list_any (types v) hs) none in (
      rw (turned w v parts.0) give.0,
      behind_typing type_of k v hs parts.1 give.1,
    )

once_gives : (hs : List Hypothesis) → TypeOnce hs → GiveTypes (typecode_in hs) hs
once_gives [] once = tt
once_gives (essential l s ∷ hs) once = once_gives hs once
once_gives (floating l k v ∷ hs) once = (
  rw (itself v) refl,
  behind_typing (typecode_in hs) k v hs once.0 (once_gives hs once.1),
)

not_typed : (test : Hypothesis → Bool) (t : Token) (hs : List Hypothesis)
    → list_any (types t) hs ≡ false → list_any (types t) (filter test hs) ≡ false
not_typed test t hs none = go (list_any (types t) (filter test hs)) refl
  where
    go : (b : Bool) → list_any (types t) (filter test hs) ≡ b → b ≡ false
    go true e = absurd (not_both (list_any (types t) hs) (filter_types test t hs e) none)
    go false e = refl

once_filtered : (test : Hypothesis → Bool) (hs : List Hypothesis) → TypeOnce hs
    → TypeOnce (filter test hs)
once_filtered test [] once = tt
once_filtered test (essential l s ∷ hs) once =
    go (test (essential l s)) (once_filtered test hs once)
  where
    go : (b : Bool) → TypeOnce (filter test hs)
        → TypeOnce (if b then essential l s ∷ filter test hs else filter test hs)
    go true rest = rest
    go false rest = rest
once_filtered test (floating l k v ∷ hs) once =
    go (test (floating l k v)) (not_typed test v hs once.0) (once_filtered test hs once.1)
  where
    go : (b : Bool) → list_any (types v) (filter test hs) ≡ false → TypeOnce (filter test hs)
        → TypeOnce (if b then floating l k v ∷ filter test hs else filter test hs)
    go true none rest = (none, rest)
    go false none rest = rest

untyped_premises : (r : Row) (t : Token) (ps : List (List ℕ × List ℕ)) (hs : List Hypothesis)
    → list_any (types t) hs ≡ false → list_any (types t) (hs ++ map (premise_of r) ps) ≡ false
untyped_premises r t [] [] none = refl
untyped_premises r t ((ending, text) ∷ ps) [] none = untyped_premises r t ps [] none
untyped_premises r t ps (h ∷ hs) none =
    let parts : (types t h ≡ false) × (list_any (types t) hs ≡ false) =
    neither (types t h) (list_any (types t) hs) none in
    rw parts.0 (untyped_premises r t ps hs parts.1)

once_premises : (r : Row) (ps : List (List ℕ × List ℕ)) (hs : List Hypothesis) → TypeOnce hs
    → TypeOnce (hs ++ map (premise_of r) ps)
once_premises r [] [] once = tt
once_premises r ((ending, text) ∷ ps) [] once = once_premises r ps [] tt
once_premises r ps (essential l s ∷ hs) once = once_premises r ps hs once
once_premises r ps (floating l k v ∷ hs) once =
    (untyped_premises r v ps hs once.0, once_premises r ps hs once.1)

header_once : TypeOnce header_types
header_once = (refl, (refl, (refl, (refl, (refl, (refl, (refl, (refl, (refl, tt)))))))))

pub row_gives : (r : Row) (f : Frame) → IsFrameOfRow r f
    → GiveTypes (typecode_in f.hypotheses) f.hypotheses
row_gives r f row =
    subst (λ (hs : List Hypothesis). GiveTypes (typecode_in hs) hs) (sym row.hypotheses)
    (once_gives (filter (is_in_row r) header_types ++ premises r)
    (once_premises r _ (filter (is_in_row r) header_types)
    (once_filtered (is_in_row r) header_types header_once)))
