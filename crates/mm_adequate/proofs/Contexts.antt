-- What is declared and active in a text without a fault: typecodes are constants, what is typed is
-- a variable, and each symbol of an assertion is a constant or a variable that its frame types.
use Rattle.std.proofs.Common.{◌≡◌, ℕ, Bool, true, false, List, [], ◌∷◌, ◌++◌, filter, refl}
use Rattle.std.proofs.Common.{Option, Some, None, sym, subst}
use Rattle.std.specs.Prelude.{not, ◌||◌, ◌&&◌, if◌then◌else◌, bytes_eq}
use Rattle.std.specs.List.{list_any, list_all}
use Rattle.mm_text.specs.Bytes.{Token, has_token}
use Rattle.mm_text.specs.FaultKinds.{inner_constant, redeclared, not_active, bad_typecode}
use Rattle.mm_text.specs.FaultKinds.{second_float, bad_disjoint, bad_label, bad_proof_text}
use Rattle.mm_database.specs.Forms.{Keyword}
use Rattle.mm_database.specs.Forms.{plain}
use Rattle.mm_database.specs.Frames.{Hypothesis, floating, essential, types, occurs_in, Scope}
use Rattle.mm_database.specs.Frames.{is_needed, is_mandatory, Frame, frame_of}
use Rattle.mm_database.specs.Database.{Block, Context, empty_context}
use Rattle.mm_database.specs.Validity.{is_inner_constant, declares_again, names_inactive}
use Rattle.mm_database.specs.Validity.{is_mistyped, types_again, is_bad_disjoint, is_mislabelled}
use Rattle.mm_database.specs.Validity.{is_typed, Tested, tested, first_found}
use Rattle.mm_database.specs.Validity.{has_bad_proof_text, form_fault}
use Rattle.mm_database.specs.Orderly.{IsOrderly}
use Rattle.mm_readings.specs.Proving.{is_in_any, HaveTypecodes, TypesItsVariables, typecodes}
use Rattle.mm_readings.specs.Proving.{HaveKnownTypes, TypesWell}
use Rattle.mm_readings.proofs.Dummies.{or_left, or_right, not_both, same}
use Rattle.mm_readings.proofs.TheoremFrames.{needed_typed}

-- ---- tests of tokens

pub neither : (a b : Bool) → (a || b) ≡ false → (a ≡ false) × (b ≡ false)
neither true b h = absurd (cc)
neither false b h = (refl, h)

pub either : (a b : Bool) {C : Type 0} → (a || b) ≡ true → (a ≡ true → C) → (b ≡ true → C) → C
either true b h first second = first refl
either false b h first second = second h

pub both : (a b : Bool) → (a && b) ≡ true → (a ≡ true) × (b ≡ true)
both true b h = (refl, h)
both false b h = absurd (cc)

pub not_not : (a : Bool) → not a ≡ false → a ≡ true
not_not true h = refl
not_not false h = absurd (cc)

pub none_among : (test : Token → Bool) (ts : List Token) (t : Token) → list_any test ts ≡ false
    → has_token ts t ≡ true → test t ≡ false
none_among test [] t none there = absurd (cc)
none_among test (w ∷ ts) t none there =
    let parts : (test w ≡ false) × (list_any test ts ≡ false) =
    neither (test w) (list_any test ts) none in
    either (bytes_eq w t) (has_token ts t) there
    (λ is. subst (λ (u : Token). test u ≡ false) (same w t is) parts.0)
    (none_among test ts t parts.1)

pub each_of : (test : Token → Bool) (ts : List Token) (t : Token) → list_all test ts ≡ true
    → has_token ts t ≡ true → test t ≡ true
each_of test [] t all there = absurd (cc)
each_of test (w ∷ ts) t all there =
    let parts : (test w ≡ true) × (list_all test ts ≡ true) =
    both (test w) (list_all test ts) all in
    either (bytes_eq w t) (has_token ts t) there
    (λ is. subst (λ (u : Token). test u ≡ true) (same w t is) parts.0)
    (each_of test ts t parts.1)

-- ---- hypotheses

abbrev pub typed_by : List Hypothesis → Token → Bool
typed_by hs t = list_any (types t) hs

-- Each typecode is a constant and one of the three, and what is typed is a variable. Each symbol of
-- a `$e` is a constant or one of these typed variables.
abbrev pub AreFine : (Token → Bool) → (Token → Bool) → (Token → Bool) → List Hypothesis → Type 0
AreFine constants variables typed [] = Unit {0}
AreFine constants variables typed (floating label typecode variable ∷ hs) =
    ((constants typecode ≡ true) × ((has_token typecodes typecode ≡ true)
    × (variables variable ≡ true)))
    × AreFine constants variables typed hs
AreFine constants variables typed (essential label statement ∷ hs) =
    ((t : Token) → has_token statement t ≡ true → (constants t || typed t) ≡ true)
    × AreFine constants variables typed hs

abbrev pub Grows : (Token → Bool) → (Token → Bool) → Type 0
Grows set more = (t : Token) → set t ≡ true → more t ≡ true

known_grows : (k k' y y' : Token → Bool) → Grows k k' → Grows y y' → (t : Token)
    → (k t || y t) ≡ true → (k' t || y' t) ≡ true
known_grows k k' y y' gk gy t h =
    either (k t) (y t) h (λ e. or_left (k' t) (y' t) (gk t e))
    (λ e. or_right (k' t) (y' t) (gy t e))

pub fine_grows : (k k' v v' y y' : Token → Bool) → Grows k k' → Grows v v' → Grows y y'
    → (hs : List Hypothesis) → AreFine k v y hs → AreFine k' v' y' hs
fine_grows k k' v v' y y' gk gv gy [] h = tt
fine_grows k k' v v' y y' gk gv gy (floating l c x ∷ hs) h = (
  (gk c h.0.0, (h.0.1.0, gv x h.0.1.1)),
  fine_grows k k' v v' y y' gk gv gy hs h.1,
)
fine_grows k k' v v' y y' gk gv gy (essential l s ∷ hs) h = (
  λ t there. known_grows k k' y y' gk gy t (h.0 t there),
  fine_grows k k' v v' y y' gk gv gy hs h.1,
)

pub stays : (set : Token → Bool) → Grows set set
stays set t h = h

pub fine_append : (k v y : Token → Bool) (hs : List Hypothesis) (h : Hypothesis) → AreFine k v y hs
    → AreFine k v y (h ∷ []) → AreFine k v y (hs ++ h ∷ [])
fine_append k v y [] h all last = last
fine_append k v y (floating l c x ∷ hs) h all last = (all.0, fine_append k v y hs h all.1 last)
fine_append k v y (essential l s ∷ hs) h all last = (all.0, fine_append k v y hs h all.1 last)

pub typed_append : (hs : List Hypothesis) (h : Hypothesis) → Grows (typed_by hs) (typed_by (hs ++ h ∷ []))
typed_append [] h t e = absurd (cc)
typed_append (one ∷ hs) h t e =
    either (types t one) (typed_by hs t) e
    (λ i. or_left (types t one) (typed_by (hs ++ h ∷ []) t) i)
    (λ i. or_right (types t one) (typed_by (hs ++ h ∷ []) t) (typed_append hs h t i))

-- what is typed is a variable
typed_variable : (k v y : Token → Bool) (hs : List Hypothesis) → AreFine k v y hs
    → Grows (typed_by hs) v
typed_variable k v y [] h t e = absurd (cc)
typed_variable k v y (essential l s ∷ hs) h t e = typed_variable k v y hs h.1 t e
typed_variable k v y (floating l c x ∷ hs) h t e =
    either (bytes_eq x t) (typed_by hs t) e
    (λ is. subst (λ (u : Token). v u ≡ true) (same x t is) h.0.1.1)
    (typed_variable k v y hs h.1 t)

-- each token of a hypothesis is a constant or typed
in_any_known : (k v y : Token → Bool) (hs : List Hypothesis) → AreFine k v y hs
    → Grows (typed_by hs) y → (t : Token) → is_in_any hs t ≡ true → (k t || y t) ≡ true
in_any_known k v y [] h typed t e = absurd (cc)
in_any_known k v y (essential l s ∷ hs) h typed t e =
    either (has_token s t) (is_in_any hs t) e (h.0 t) (in_any_known k v y hs h.1 typed t)
in_any_known k v y (floating l c x ∷ hs) h typed t e =
    either (has_token (c ∷ (x ∷ [])) t) (is_in_any hs t) e
    (λ i. either (bytes_eq c t) (bytes_eq x t || false) i
    (λ is. or_left (k t) (y t) (subst (λ (u : Token). k u ≡ true) (same c t is) h.0.0))
    (λ j. either (bytes_eq x t) false j
    (λ is. or_right (k t) (y t) (typed t (or_left (bytes_eq x t) (typed_by hs t) is)))
    (λ none. absurd (cc))))
    (in_any_known k v y hs h.1 (λ u i. typed u (or_right (bytes_eq x u) (typed_by hs u) i)) t)

-- ---- frames, scopes and contexts

pub record IsFramed (k v : Token → Bool) (f : Frame) : Type 0 where
  pub hypotheses : AreFine k v (typed_by f.hypotheses) f.hypotheses
  pub statement : (t : Token) → has_token f.statement t ≡ true
      → (k t || typed_by f.hypotheses t) ≡ true

pub record IsFineScope (k v : Token → Bool) (s : Scope) : Type 0 where
  pub declared : Grows s.variables v
  pub hypotheses : AreFine k v (typed_by s.hypotheses) s.hypotheses

abbrev pub AreFineBlocks : (Token → Bool) → (Token → Bool) → List Block → Type 0
AreFineBlocks k v [] = Unit {0}
AreFineBlocks k v (block ∷ blocks) = IsFineScope k v block.outside × AreFineBlocks k v blocks

pub record IsFine (c : Context) : Type 0 where
  pub disjoint : (t : Token) → c.constants t ≡ true → c.variables t ≡ false
  pub active : IsFineScope c.constants c.variables c.scope
  pub blocks : AreFineBlocks c.constants c.variables c.blocks
  pub frames : (label : Token) (f : Frame) → c.frames label ≡ Some f
      → IsFramed c.constants c.variables f

pub empty_is_fine : IsFine empty_context
empty_is_fine = record {
  disjoint = λ t h. absurd (cc);
  active = record { declared = λ t h. absurd (cc); hypotheses = tt };
  blocks = tt;
  frames = λ label f h. absurd (cc);
}

pub framed_grows : (k k' v v' : Token → Bool) (f : Frame) → Grows k k' → Grows v v' → IsFramed k v f
    → IsFramed k' v' f
framed_grows k k' v v' f gk gv h = record {
  hypotheses =
      fine_grows k k' v v' (typed_by f.hypotheses) (typed_by f.hypotheses) gk gv
      (stays (typed_by f.hypotheses)) f.hypotheses h.hypotheses;
  statement =
      λ t there. known_grows k k' (typed_by f.hypotheses) (typed_by f.hypotheses) gk
      (stays (typed_by f.hypotheses)) t (h.statement t there);
}

pub scope_grows : (k k' v v' : Token → Bool) (s : Scope) → Grows k k' → Grows v v'
    → IsFineScope k v s → IsFineScope k' v' s
scope_grows k k' v v' s gk gv h = record {
  declared = λ t i. gv t (h.declared t i);
  hypotheses =
      fine_grows k k' v v' (typed_by s.hypotheses) (typed_by s.hypotheses) gk gv
      (stays (typed_by s.hypotheses)) s.hypotheses h.hypotheses;
}

pub blocks_grow : (k k' v v' : Token → Bool) (blocks : List Block) → Grows k k' → Grows v v'
    → AreFineBlocks k v blocks → AreFineBlocks k' v' blocks
blocks_grow k k' v v' [] gk gv h = tt
blocks_grow k k' v v' (block ∷ blocks) gk gv h = (
  scope_grows k k' v v' block.outside gk gv h.0,
  blocks_grow k k' v v' blocks gk gv h.1,
)

-- ---- what the laws on proofs need

kind_of : (c : Context) (y : Token → Bool) → IsFine c → Grows y c.variables → (t : Token)
    → (c.constants t || y t) ≡ true → y t ≡ c.variables t
kind_of c y fine typed t h = go (y t) refl
  where
    go : (b : Bool) → y t ≡ b → b ≡ c.variables t
    go true e = sym (typed t e)
    go false e =
        sym (fine.disjoint t (either (c.constants t) (y t) h (λ i. i)
        (λ i. absurd (not_both (y t) i e))))

fine_typecodes : (c : Context) (y : Token → Bool) → IsFine c → (hs : List Hypothesis)
    → AreFine c.constants c.variables y hs → HaveTypecodes c hs
fine_typecodes c y fine [] h = tt
fine_typecodes c y fine (floating l k v ∷ hs) h =
    (fine.disjoint k h.0.0, fine_typecodes c y fine hs h.1)
fine_typecodes c y fine (essential l s ∷ hs) h = fine_typecodes c y fine hs h.1

fine_known : (k v y : Token → Bool) (hs : List Hypothesis) → AreFine k v y hs → HaveKnownTypes hs
fine_known k v y [] h = tt
fine_known k v y (floating l c x ∷ hs) h = (h.0.1.0, fine_known k v y hs h.1)
fine_known k v y (essential l s ∷ hs) h = fine_known k v y hs h.1

pub frame_typed : (c : Context) (f : Frame) → IsFine c → IsFramed c.constants c.variables f
    → TypesItsVariables c f
frame_typed c f fine h = record {
  tokens = λ t there.
      kind_of c (typed_by f.hypotheses) fine
      (typed_variable c.constants c.variables (typed_by f.hypotheses) f.hypotheses h.hypotheses) t
      (either (has_token f.statement t) (is_in_any f.hypotheses t) there (h.statement t)
      (in_any_known c.constants c.variables (typed_by f.hypotheses) f.hypotheses h.hypotheses
      (stays (typed_by f.hypotheses)) t));
  typecodes = fine_typecodes c (typed_by f.hypotheses) fine f.hypotheses h.hypotheses;
}

pub types_well : (c : Context) → IsOrderly c → IsFine c → TypesWell c
types_well c orderly fine = record {
  once = orderly.active;
  variables =
      typed_variable c.constants c.variables (typed_by c.scope.hypotheses) c.scope.hypotheses
      fine.active.hypotheses;
  typecodes =
      fine_typecodes c (typed_by c.scope.hypotheses) fine c.scope.hypotheses
      fine.active.hypotheses;
  known =
      fine_known c.constants c.variables (typed_by c.scope.hypotheses) c.scope.hypotheses
      fine.active.hypotheses;
}

-- ---- the frame of an assertion

filtered_fine : (k v : Token → Bool) (s : Scope) (symbols : List Token) (hs : List Hypothesis)
    → ((t : Token) → list_any (occurs_in t) hs ≡ true
    → list_any (occurs_in t) s.hypotheses ≡ true)
    → AreFine k v (typed_by s.hypotheses) hs
    → AreFine k v (typed_by (filter (is_mandatory s symbols) s.hypotheses))
    (filter (is_mandatory s symbols) hs)
filtered_fine k v s symbols [] occur h = tt
filtered_fine k v s symbols (essential l e ∷ hs) occur h = (
  λ t there.
      either (k t) (typed_by s.hypotheses t) (h.0 t there) (λ i. or_left (k t) _ i)
      (λ i. or_right (k t) _ (needed_typed s symbols t s.hypotheses
      (or_right (has_token symbols t) (list_any (occurs_in t) s.hypotheses)
      (occur t (or_left (has_token e t) (list_any (occurs_in t) hs) there))) i)),
  filtered_fine k v s symbols hs
      (λ t i. occur t (or_right (has_token e t) (list_any (occurs_in t) hs) i)) h.1,
)
filtered_fine k v s symbols (floating l c x ∷ hs) occur h =
    go (is_needed s symbols x) h.0 (filtered_fine k v s symbols hs occur h.1)
  where
    go : (b : Bool)
        → ((k c ≡ true) × ((has_token typecodes c ≡ true) × (v x ≡ true)))
        → AreFine k v (typed_by (filter (is_mandatory s symbols) s.hypotheses))
        (filter (is_mandatory s symbols) hs)
        → AreFine k v (typed_by (filter (is_mandatory s symbols) s.hypotheses))
        (if b then floating l c x ∷ filter (is_mandatory s symbols) hs
        else filter (is_mandatory s symbols) hs)
    go true one rest = (one, rest)
    go false one rest = rest

pub typed_known : (c : Context) (symbols : List Token) → not (list_all (is_typed c) symbols) ≡ false
    → (t : Token) → has_token symbols t ≡ true
    → (c.constants t || typed_by c.scope.hypotheses t) ≡ true
typed_known c symbols h t there =
    either (c.constants t) (c.scope.variables t && typed_by c.scope.hypotheses t)
    (each_of (is_typed c) symbols t (not_not (list_all (is_typed c) symbols) h) there)
    (λ i. or_left (c.constants t) _ i)
    (λ i. or_right (c.constants t) _
    (both (c.scope.variables t) (typed_by c.scope.hypotheses t) i).1)

pub frame_fine : (c : Context) (label : Token) (symbols : List Token) → IsFine c
    → not (list_all (is_typed c) symbols) ≡ false
    → IsFramed c.constants c.variables (frame_of c.scope label symbols)
frame_fine c label symbols fine h = record {
  hypotheses =
      filtered_fine c.constants c.variables c.scope symbols c.scope.hypotheses (λ t i. i)
      fine.active.hypotheses;
  statement = λ t there.
      either (c.constants t) (typed_by c.scope.hypotheses t) (typed_known c symbols h t there)
      (λ i. or_left (c.constants t) _ i)
      (λ i. or_right (c.constants t) _ (needed_typed c.scope symbols t c.scope.hypotheses
      (or_left (has_token symbols t) (list_any (occurs_in t) c.scope.hypotheses) there) i));
}

-- ---- faults that a statement does not have

abbrev pub NoneFound : List Tested → Type 0
NoneFound [] = Unit {0}
NoneFound (t ∷ tests) = (t.found ≡ false) × NoneFound tests

none_found : (tests : List Tested) → first_found tests ≡ None → NoneFound tests
none_found [] h = tt
none_found (t ∷ tests) h = go t.found refl h (none_found tests)
  where
    go : (b : Bool) → t.found ≡ b → (if b then Some t.kind else first_found tests) ≡ None
        → (first_found tests ≡ None → NoneFound tests) → (t.found ≡ false) × NoneFound tests
    go true is e rest = absurd (cc)
    go false is e rest = (is, rest e)

abbrev pub tests_of : Context → List Token → Keyword → List Token → List Tested
tests_of c labels keyword symbols =
    tested inner_constant (is_inner_constant c keyword) ∷
    tested redeclared (declares_again c keyword symbols) ∷
    tested not_active (names_inactive c keyword symbols) ∷
    tested bad_typecode (is_mistyped c keyword symbols) ∷
    tested second_float (types_again c keyword symbols) ∷
    tested bad_disjoint (is_bad_disjoint keyword symbols) ∷
    tested bad_label (is_mislabelled c keyword labels) ∷ []

pub no_faults : (c : Context) (labels : List Token) (keyword : Keyword) (symbols proof : List Token)
    → form_fault c (Some (plain labels keyword symbols proof)) ≡ None
    → NoneFound (tests_of c labels keyword symbols)
    × (has_bad_proof_text c labels keyword symbols proof ≡ false)
no_faults c labels keyword symbols proof h =
    go (first_found (tests_of c labels keyword symbols)) refl h
  where
    text : (b : Bool) → (if b then Some bad_proof_text else None) ≡ None → b ≡ false
    text true e = absurd (cc)
    text false e = refl

    go : (o : Option ℕ) → first_found (tests_of c labels keyword symbols) ≡ o
        → form_fault c (Some (plain labels keyword symbols proof)) ≡ None
        → NoneFound (tests_of c labels keyword symbols)
        × (has_bad_proof_text c labels keyword symbols proof ≡ false)
    go None is e = (
      none_found (tests_of c labels keyword symbols) is,
      text (has_bad_proof_text c labels keyword symbols proof) (rw is at e),
    )
    go (Some kind) is e = absurd (let bad = (rw is at e) in cc)
