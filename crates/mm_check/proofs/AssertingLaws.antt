-- Assertions at scopes, by their labels.
use Rattle.std.proofs.Common.{◌≡◌, ℕ, Bool, true, map, List, [], ◌∷◌, length, Bor, refl, ap, sym}
use Rattle.std.proofs.Common.{◌∙◌}
use Rattle.std.proofs.Common.{subst, arith}
use Rattle.std.specs.Prelude.{Option, Some, None, option_map, ◌↔◌, IsTrue, slice_index_or}
use Rattle.std.specs.Prelude.{Result, Ok, Err, IfOk}
use Rattle.std.specs.declared.alloc.AllocError.{AllocError}
use Rattle.std.proofs.lemmas.Option.{slice_get-get_or, slice_get-map}
use Rattle.mm_text.specs.Bytes.{Token}
use Rattle.mm_database.specs.Frames.{Frame, Hypothesis, HypothesisOver, frame_of}
use Rattle.mm_database.specs.Database.{Context}
use Rattle.mm_database.specs.Orderly.{TypeOnce}
use Rattle.mm_frame.specs.Numbered.{NumberedFrame, IsNamedFrame, named_hypothesis}
use Rattle.mm_frame.specs.PlainFrames.{in_groups}
use Rattle.mm_scope.specs.ScopeState.{ScopeState}
use Rattle.mm_scope.specs.Standing.{Stands, Tells, FrameFound}
use Rattle.mm_scope.proofs.StandSteps.{naming_exists}
use Rattle.rule_core.specs.Theories.{RewriteTheory}
use Rattle.mm_justify.specs.Justifying.{IsAxiomOf}
use Rattle.pattern_reader.specs.Readings.{AreUtf8}
use Rattle.mm_check.specs.Stated.{PlainStated, words, stated_by}
use Rattle.mm_check.specs.StatedFrames.{IsStated}
use Rattle.mm_check.specs.AxiomTests.{SaysAxiom}
use Rattle.mm_check.specs.PlainStatements.{are_ascii, is_ascii_token}
use Rattle.mm_check.specs.Passing.{IsLabelled}
use Rattle.mm_check.proofs.FrameTokens.{frame_stated, Always}
use Rattle.mm_check.proofs.AxiomLaws.{axiom_said, says_is_axiom}
use Rattle.mm_check.proofs.HeaderTexts.{plain_is_text, all_at}

-- what is found under a label is the frame there
abbrev pub Finds : ScopeState → Token → Option NumberedFrame → Type 0
Finds h label o = Tells h (λ c name. FrameFound name o (c.frames label))

some_same : {X : Type 0} {x y : X} → Some x ≡ Some y → x ≡ y
some_same h = cc

pub nothing_found : (h : ScopeState) (label : Token) (c : Context) (f : Frame)
    → Finds h label None → Stands h c → c.frames label ≡ Some f → ⊥
nothing_found h label c f finds stands is =
    let known = naming_exists h c stands in
    let none : c.frames label ≡ None = finds c known.name stands known.naming known.names in
    let never : ⊥ = cc in never

named_as : (h : ScopeState) (label : Token) (n : NumberedFrame) (c : Context) (f : Frame)
    → Finds h label (Some n) → Stands h c → c.frames label ≡ Some f
    → Always h.symbols (λ name. IsNamedFrame name n f)
named_as h label n c f finds stands is name naming names =
    let found = finds c name stands naming names in
    subst (IsNamedFrame name n) (some_same (sym found.1 ∙ is)) found.2

pub found_stated : (h : ScopeState) (label : Token) (n : NumberedFrame) (c : Context)
    (tokens : List Token) → Finds h label (Some n) → Stands h c
    → c.frames label ≡ Some (frame_of c.scope label tokens)
    → TypeOnce (frame_of c.scope label tokens).hypotheses
    → IsStated (in_groups h.disjoint) (stated_by h.symbols n) (frame_of c.scope label tokens)
found_stated h label n c tokens finds stands is once =
    frame_stated h c n label tokens stands (named_as h label n c _ finds stands is) once

pub found_axiom : (theory : RewriteTheory) (h : ScopeState) (label : Token) (n : NumberedFrame)
    (s : PlainStated) (b : Bool) → Finds h label (Some n) → s ≡ stated_by h.symbols n
    → (IsTrue b ↔ SaysAxiom theory h s) → (c : Context) (tokens : List Token) → Stands h c
    → c.frames label ≡ Some (frame_of c.scope label tokens)
    → TypeOnce (frame_of c.scope label tokens).hypotheses
    → (IsTrue b ↔ IsAxiomOf theory (frame_of c.scope label tokens))
found_axiom theory h label n s b finds same says c tokens stands is once =
    let stated = found_stated h label n c tokens finds stands is once in
    let f = frame_of c.scope label tokens in (
      λ yes_it_is. says_is_axiom theory h (stated_by h.symbols n) f stated refl
          (subst (SaysAxiom theory h) same (says.0 yes_it_is)),
      λ axiomatic. says.1 (subst (SaysAxiom theory h) (sym same)
          (axiom_said theory h (stated_by h.symbols n) f stated refl axiomatic)),
    )

-- ASCII words are UTF-8
pub ascii_words : (ws : List (Bor Token)) → are_ascii (words ws) ≡ true → AreUtf8 ws
ascii_words ws ascii = λ k d within.
    plain_is_text (slice_index_or ws k d).now
    (all_at is_ascii_token (words ws) k (slice_index_or ws k d).now ascii
    (slice_get-map (λ (t : Bor Token). t.now) ws k
    ∙ ap (option_map (λ (t : Bor Token). t.now)) (slice_get-get_or ws k d within)))

pub labelled_words : (h : ScopeState) (label : Token) (n : NumberedFrame) (ws : List (Bor Token))
    → Finds h label (Some n) → words ws ≡ (stated_by h.symbols n).words → IsLabelled h label
    → AreUtf8 ws
labelled_words h label n ws finds same l =
    let stated = found_stated h label n l.context l.tokens finds l.stands l.frame l.once in
    ascii_words ws (ap are_ascii (same ∙ sym stated.statement) ∙ l.ascii)

-- ---- hypotheses

map_none : (name : ℕ → Token) (hs : List (HypothesisOver ℕ)) (fs : List Hypothesis)
    → fs ≡ map (named_hypothesis name) hs → length hs ≡ 0 → fs ≡ []
map_none name [] fs is none = is
map_none name (h ∷ hs) fs is none = absurd (omega (arith, none))

none_map : (name : ℕ → Token) (hs : List (HypothesisOver ℕ)) (fs : List Hypothesis)
    → fs ≡ map (named_hypothesis name) hs → fs ≡ [] → length hs ≡ 0
none_map name [] fs is none = refl
none_map name (h ∷ hs) fs is none = let never : ⊥ = cc in absurd never

pub found_none : (h : ScopeState) (label : Token) (n : NumberedFrame) (c : Context) (f : Frame)
    → Finds h label (Some n) → Stands h c → c.frames label ≡ Some f → length n.hypotheses ≡ 0
    → f.hypotheses ≡ []
found_none h label n c f finds stands is none =
    let known = naming_exists h c stands in
    map_none known.name n.hypotheses f.hypotheses
    (named_as h label n c f finds stands is known.name known.naming known.names).hypotheses none

pub found_some : (h : ScopeState) (label : Token) (n : NumberedFrame) (c : Context) (f : Frame)
    → Finds h label (Some n) → Stands h c → c.frames label ≡ Some f → f.hypotheses ≡ []
    → length n.hypotheses ≡ 0
found_some h label n c f finds stands is none =
    let known = naming_exists h c stands in
    none_map known.name n.hypotheses f.hypotheses
    (named_as h label n c f finds stands is known.name known.naming known.names).hypotheses none

pub found_axioms : (theory : RewriteTheory) (h : ScopeState) (label : Token) (n : NumberedFrame)
    (s : PlainStated) (r : Result Bool AllocError) → Finds h label (Some n)
    → s ≡ stated_by h.symbols n → IfOk r (λ b. IsTrue b ↔ SaysAxiom theory h s)
    → IfOk r (λ b. (c : Context) (tokens : List Token) → Stands h c
    → c.frames label ≡ Some (frame_of c.scope label tokens)
    → TypeOnce (frame_of c.scope label tokens).hypotheses
    → (IsTrue b ↔ IsAxiomOf theory (frame_of c.scope label tokens)))
found_axioms theory h label n s (Err e) finds same says = tt
found_axioms theory h label n s (Ok b) finds same says =
    found_axiom theory h label n s b finds same says
