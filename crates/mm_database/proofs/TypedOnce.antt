-- No two active hypotheses type the same variable.
use Rattle.std.proofs.Common.{◌≡◌, ℕ, Bool, true, false, List, [], ◌∷◌, ◌++◌, refl, sym, subst}
use Rattle.std.specs.Prelude.{◌||◌, if◌then◌else◌, filter, Option, Some, None, bytes_eq}
use Rattle.std.specs.List.{list_any}
use Rattle.std.proofs.lemmas.Slice.Eq.{bytes_eq-Decides}
use Rattle.mm_text.specs.Bytes.{Token}
use Rattle.mm_text.specs.FaultKinds.{inner_constant, redeclared, not_active, bad_typecode}
use Rattle.mm_text.specs.FaultKinds.{second_float, bad_disjoint, bad_label}
use Rattle.mm_database.specs.Forms.{Keyword, declares_constants, declares_variables, types_variable}
use Rattle.mm_database.specs.Forms.{assumes, separates, asserts, proves, Form, block_start}
use Rattle.mm_database.specs.Forms.{block_end, plain, form_of}
use Rattle.mm_database.specs.Frames.{Hypothesis, floating, essential, Frame, frame_of, is_mandatory}
use Rattle.mm_database.specs.Frames.{types}
use Rattle.mm_database.specs.Database.{Block, Context, first_label, floating_of, with_hypothesis}
use Rattle.mm_database.specs.Database.{with_assertion, with_declared, with_block_closed, after_form}
use Rattle.mm_database.specs.Validity.{is_inner_constant, declares_again, names_inactive}
use Rattle.mm_database.specs.Validity.{is_mistyped, types_again, is_bad_disjoint, is_mislabelled}
use Rattle.mm_database.specs.Validity.{Tested, tested, first_found, declaration_fault}
use Rattle.mm_database.specs.Validity.{proof_text_fault, or_else, form_fault}
use Rattle.mm_database.specs.Orderly.{TypeOnce, BlocksTypeOnce, IsOrderly, EmptyIsOrderly}
use Rattle.mm_database.specs.Orderly.{OrderlyAfter}

bytes_eq-turned : (xs ys : Token) → bytes_eq xs ys ≡ false → bytes_eq ys xs ≡ false
bytes_eq-turned xs ys h = go (bytes_eq ys xs) refl
  where
    go : (b : Bool) → bytes_eq ys xs ≡ b → b ≡ false
    go true is =
        let same : bytes_eq xs ys ≡ true =
        (bytes_eq-Decides xs ys).1 (sym ((bytes_eq-Decides ys xs).0 is)) in
        cc
    go false is = refl

neither : (a b : Bool) → (a || b) ≡ false → (a ≡ false) × (b ≡ false)
neither true b h = absurd (cc)
neither false b h = (refl, h)

nor : (a b : Bool) → a ≡ false → b ≡ false → (a || b) ≡ false
nor a b h k = rw (h, k) refl

list_any-append : (test : Hypothesis → Bool) (xs : List Hypothesis) (h : Hypothesis)
    → list_any test xs ≡ false → test h ≡ false → list_any test (xs ++ h ∷ []) ≡ false
list_any-append test [] h none last = nor (test h) false last refl
list_any-append test (x ∷ xs) h none last =
    let parts : (test x ≡ false) × (list_any test xs ≡ false) =
    neither (test x) (list_any test xs) none in
    nor (test x) (list_any test (xs ++ h ∷ [])) parts.0 (list_any-append test xs h parts.1 last)

TypeOnce-essential : (hypotheses : List Hypothesis) (label : Token) (statement : List Token)
    → TypeOnce hypotheses → TypeOnce (hypotheses ++ essential label statement ∷ [])
TypeOnce-essential [] label statement once = tt
TypeOnce-essential (floating l k v ∷ hypotheses) label statement once = (
  list_any-append (types v) hypotheses (essential label statement) once.0 refl,
  TypeOnce-essential hypotheses label statement once.1,
)
TypeOnce-essential (essential l t ∷ hypotheses) label statement once =
    TypeOnce-essential hypotheses label statement once

TypeOnce-floating : (hypotheses : List Hypothesis) (label typecode variable : Token)
    → TypeOnce hypotheses → list_any (types variable) hypotheses ≡ false
    → TypeOnce (hypotheses ++ floating label typecode variable ∷ [])
TypeOnce-floating [] label typecode variable once new = (refl, tt)
TypeOnce-floating (floating l k v ∷ hypotheses) label typecode variable once new =
    let parts : (bytes_eq v variable ≡ false) × (list_any (types variable) hypotheses ≡ false) =
    neither (bytes_eq v variable) (list_any (types variable) hypotheses) new in (
      list_any-append (types v) hypotheses (floating label typecode variable) once.0
          (bytes_eq-turned v variable parts.0),
      TypeOnce-floating hypotheses label typecode variable once.1 parts.1,
    )
TypeOnce-floating (essential l t ∷ hypotheses) label typecode variable once new =
    TypeOnce-floating hypotheses label typecode variable once new

list_any-filter : (test keep : Hypothesis → Bool) (xs : List Hypothesis) → list_any test xs ≡ false
    → list_any test (filter keep xs) ≡ false
list_any-filter test keep [] none = refl
list_any-filter test keep (x ∷ xs) none =
    let parts : (test x ≡ false) × (list_any test xs ≡ false) =
    neither (test x) (list_any test xs) none in
    go (keep x) parts.0 (list_any-filter test keep xs parts.1)
  where
    go : (b : Bool) → test x ≡ false → list_any test (filter keep xs) ≡ false
        → list_any test (if b then x ∷ filter keep xs else filter keep xs) ≡ false
    go true here behind = nor (test x) (list_any test (filter keep xs)) here behind
    go false here behind = behind

TypeOnce-filter : (keep : Hypothesis → Bool) (hypotheses : List Hypothesis) → TypeOnce hypotheses
    → TypeOnce (filter keep hypotheses)
TypeOnce-filter keep [] once = tt
TypeOnce-filter keep (floating l k v ∷ hypotheses) once =
    go (keep (floating l k v)) (list_any-filter (types v) keep hypotheses once.0)
    (TypeOnce-filter keep hypotheses once.1)
  where
    go : (b : Bool) → list_any (types v) (filter keep hypotheses) ≡ false
        → TypeOnce (filter keep hypotheses)
        → TypeOnce (if b then floating l k v ∷ filter keep hypotheses else filter keep hypotheses)
    go true none behind = (none, behind)
    go false none behind = behind
TypeOnce-filter keep (essential l t ∷ hypotheses) once =
    go (keep (essential l t)) (TypeOnce-filter keep hypotheses once)
  where
    go : (b : Bool) → TypeOnce (filter keep hypotheses)
        → TypeOnce (if b then essential l t ∷ filter keep hypotheses else filter keep hypotheses)
    go true behind = behind
    go false behind = behind

-- tests that find nothing, one by one

none_found : (t : Tested) (tests : List Tested) → first_found (t ∷ tests) ≡ None
    → (t.found ≡ false) × (first_found tests ≡ None)
none_found t tests h = go t.found refl h
  where
    go : (b : Bool) → t.found ≡ b → (if b then Some t.kind else first_found tests) ≡ None
        → (t.found ≡ false) × (first_found tests ≡ None)
    go true is k = absurd (cc)
    go false is k = (is, k)

first_none : (kind other : Option ℕ) → or_else kind other ≡ None → kind ≡ None
first_none None other h = refl
first_none (Some kind) other h = absurd (cc)

fifth_found : (a b c d e : Tested) (tests : List Tested)
    → first_found (a ∷ (b ∷ (c ∷ (d ∷ (e ∷ tests))))) ≡ None → e.found ≡ false
fifth_found a b c d e tests h =
    let one : first_found (b ∷ (c ∷ (d ∷ (e ∷ tests)))) ≡ None =
    (none_found a (b ∷ (c ∷ (d ∷ (e ∷ tests)))) h).1 in
    let two : first_found (c ∷ (d ∷ (e ∷ tests))) ≡ None =
    (none_found b (c ∷ (d ∷ (e ∷ tests))) one).1 in
    let three : first_found (d ∷ (e ∷ tests)) ≡ None = (none_found c (d ∷ (e ∷ tests)) two).1 in
    (none_found e tests (none_found d (e ∷ tests) three).1).0

types_again-none : (c : Context) (labels : List Token) (keyword : Keyword)
    (symbols proof : List Token)
    → form_fault c (Some (plain labels keyword symbols proof)) ≡ None
    → types_again c keyword symbols ≡ false
types_again-none c labels keyword symbols proof h =
    fifth_found (tested inner_constant (is_inner_constant c keyword))
    (tested redeclared (declares_again c keyword symbols))
    (tested not_active (names_inactive c keyword symbols))
    (tested bad_typecode (is_mistyped c keyword symbols))
    (tested second_float (types_again c keyword symbols)) (tested bad_disjoint
    (is_bad_disjoint keyword symbols)
    ∷ tested bad_label (is_mislabelled c keyword labels) ∷ [])
    (first_none (declaration_fault c (Some (plain labels keyword symbols proof)))
    (proof_text_fault c (Some (plain labels keyword symbols proof))) h)

-- one declaration

orderly-hypothesis : (c : Context) (label : Token) (h : Hypothesis) → IsOrderly c
    → TypeOnce (c.scope.hypotheses ++ h ∷ []) → IsOrderly (with_hypothesis c label h)
orderly-hypothesis c label h w once = record { active = once; blocks = w.blocks; frames = w.frames }

orderly-floating : (c : Context) (label : Token) (symbols : List Token) → IsOrderly c
    → types_again c types_variable symbols ≡ false
    → IsOrderly (with_hypothesis c label (floating_of label symbols))
orderly-floating c label [] w new =
    orderly-hypothesis c label (essential label []) w
    (TypeOnce-essential c.scope.hypotheses label [] w.active)
orderly-floating c label (k ∷ []) w new =
    orderly-hypothesis c label (essential label (k ∷ [])) w
    (TypeOnce-essential c.scope.hypotheses label (k ∷ []) w.active)
orderly-floating c label (k ∷ (v ∷ [])) w new =
    orderly-hypothesis c label (floating label k v) w
    (TypeOnce-floating c.scope.hypotheses label k v w.active new)
orderly-floating c label (k ∷ (v ∷ (t ∷ symbols))) w new =
    orderly-hypothesis c label (essential label (k ∷ (v ∷ (t ∷ symbols)))) w
    (TypeOnce-essential c.scope.hypotheses label (k ∷ (v ∷ (t ∷ symbols))) w.active)

orderly-assertion : (c : Context) (label : Token) (symbols : List Token) → IsOrderly c
    → IsOrderly (with_assertion c label symbols)
orderly-assertion c label symbols w = record {
  active = w.active;
  blocks = w.blocks;
  frames = λ t f is. go t f (bytes_eq t label) is;
}
  where
    go : (t : Token) (f : Frame) (b : Bool)
        → (if b then Some (frame_of c.scope label symbols) else c.frames t) ≡ Some f
        → TypeOnce f.hypotheses
    go t f true is =
        let same : frame_of c.scope label symbols ≡ f = cc in
        subst (λ (g : Frame). TypeOnce g.hypotheses) same
        (TypeOnce-filter (is_mandatory c.scope symbols) c.scope.hypotheses w.active)
    go t f false is = w.frames t f is

orderly-declared : (c : Context) (labels : List Token) (keyword : Keyword) (symbols : List Token)
    → IsOrderly c → types_again c keyword symbols ≡ false
    → IsOrderly (with_declared c labels keyword symbols)
orderly-declared c labels declares_constants symbols w new = record {
  active = w.active;
  blocks = w.blocks;
  frames = w.frames;
}
orderly-declared c labels declares_variables symbols w new = record {
  active = w.active;
  blocks = w.blocks;
  frames = w.frames;
}
orderly-declared c labels types_variable symbols w new =
    orderly-floating c (first_label labels) symbols w new
orderly-declared c labels assumes symbols w new =
    orderly-hypothesis c (first_label labels) (essential (first_label labels) symbols) w
    (TypeOnce-essential c.scope.hypotheses (first_label labels) symbols w.active)
orderly-declared c labels separates symbols w new = record {
  active = w.active;
  blocks = w.blocks;
  frames = w.frames;
}
orderly-declared c labels asserts symbols w new = orderly-assertion c (first_label labels) symbols w
orderly-declared c labels proves symbols w new = orderly-assertion c (first_label labels) symbols w

orderly-closed : (c : Context) (blocks : List Block) → IsOrderly c → BlocksTypeOnce blocks
    → IsOrderly (with_block_closed c blocks)
orderly-closed c [] w once = w
orderly-closed c (block ∷ blocks) w once = record {
  active = once.0;
  blocks = once.1;
  frames = w.frames;
}

pub empty_is_orderly : EmptyIsOrderly
empty_is_orderly = record { active = tt; blocks = tt; frames = λ label f is. absurd (none f is) }
  where
    none : (f : Frame) → None ≡ Some f → ⊥
    none f is = cc

orderly-form : (c : Context) (at : ℕ) (form : Option Form) → IsOrderly c → form_fault c form ≡ None
    → IsOrderly (after_form c at form)
orderly-form c at None w h = w
orderly-form c at (Some block_start) w h = record {
  active = w.active;
  blocks = (w.active, w.blocks);
  frames = w.frames;
}
orderly-form c at (Some block_end) w h = orderly-closed c c.blocks w w.blocks
orderly-form c at (Some (plain labels keyword symbols proof)) w h =
    orderly-declared c labels keyword symbols w (types_again-none c labels keyword symbols proof h)

pub orderly_after : OrderlyAfter
orderly_after c s w fine = orderly-form c s.at (form_of s.tokens) w fine.form
