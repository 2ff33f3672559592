-- Each assertion of a valid database is sound, if what is assumed is.
use Rattle.std.proofs.Common.{◌≡◌, ℕ, Bool, true, false, List, [], ◌∷◌, refl}
use Rattle.std.proofs.Common.{Option, Some, None, option_map, subst}
use Rattle.std.specs.Prelude.{if◌then◌else◌, IfSome, is_none, bytes_eq}
use Rattle.mm_text.specs.Bytes.{Token}
use Rattle.mm_text.specs.Statements.{Statements, no_statement, unended, bad_statement}
use Rattle.mm_text.specs.Statements.{next_statement, statements_of}
use Rattle.mm_database.specs.Forms.{Keyword, declares_constants, declares_variables, types_variable}
use Rattle.mm_database.specs.Forms.{assumes, separates, asserts, proves, Form, block_start}
use Rattle.mm_database.specs.Forms.{block_end, plain, form_of}
use Rattle.mm_database.specs.Frames.{Hypothesis, floating, essential, Frame, frame_of}
use Rattle.mm_database.specs.Database.{Block, Context, empty_context, context_after, first_label}
use Rattle.mm_database.specs.Database.{with_declared, with_block_closed, after_form}
use Rattle.mm_database.specs.Assertions.{Assertion, form_assertion, assertions_in}
use Rattle.mm_database.specs.Assertions.{with_assertion_first, assertions_of, form_typing}
use Rattle.mm_database.specs.Assertions.{with_typing_first, typings_in}
use Rattle.mm_database.specs.Proofs.{ProofTree, ProofForest, no_proof, more_proofs}
use Rattle.mm_database.specs.Proofs.{Proves, AllProve}
use Rattle.mm_database.specs.Steps.{Step}
use Rattle.mm_database.specs.ProofText.{proof_steps}
use Rattle.mm_database.specs.Validity.{form_fault, Task, task, IsProved, HaveNoFault}
use Rattle.mm_database.specs.Validity.{IsValid}
use Rattle.mm_database.specs.Orderly.{IsOrderly}
use Rattle.mm_database.proofs.TypedOnce.{empty_is_orderly, orderly_after}
use Rattle.ml_pat.specs.Patterns.{Pattern}
use Rattle.rule_core.specs.Theories.{RewriteTheory}
use Rattle.mm_readings.specs.Readings.{IsSound}
use Rattle.mm_readings.specs.Proving.{HasSoundFrames}
use Rattle.mm_readings.proofs.TheoremFrames.{theorem_sound}
use Rattle.mm_justify.specs.Justifying.{IsAxiomOf, IsAllowed, AreAllowed, AreTypings}
use Rattle.mm_justify.specs.Justifying.{HasOnlyAxiomsOf}
use Rattle.mm_adequate.proofs.Contexts.{IsFine, empty_is_fine, frame_typed, types_well, no_faults}
use Rattle.mm_adequate.proofs.Declaring.{IsTyping, fine_after}

-- what the program assumes is sound
abbrev pub AxiomsSound : RewriteTheory → (Pattern → Type 0) → (Token → ℕ) → Type 0
AxiomsSound theory A number = (f : Frame) → IsAxiomOf theory f → IsSound A number f

abbrev HaveSoundFrames : (Pattern → Type 0) → (Token → ℕ) → (Token → Option Frame) → Type 0
HaveSoundFrames A number frames =
    (label : Token) (f : Frame) → frames label ≡ Some f → IsSound A number f

abbrev IsAllowedIf : RewriteTheory → Option Assertion → Type 0
IsAllowedIf theory None = Unit {0}
IsAllowedIf theory (Some a) = IsAllowed theory a

abbrev IsSoundIf : (Pattern → Type 0) → (Token → ℕ) → Option Assertion → Type 0
IsSoundIf A number None = Unit {0}
IsSoundIf A number (Some a) = IsSound A number a.frame

abbrev pub AreSound : (Pattern → Type 0) → (Token → ℕ) → List Assertion → Type 0
AreSound A number [] = Unit {0}
AreSound A number (a ∷ assertions) = IsSound A number a.frame × AreSound A number assertions

allowed_parts : (theory : RewriteTheory) (o : Option Assertion) (others : List Assertion)
    → AreAllowed theory (with_assertion_first o others)
    → IsAllowedIf theory o × AreAllowed theory others
allowed_parts theory None others h = (tt, h)
allowed_parts theory (Some a) others h = h

typing_parts : (o : Option Hypothesis) (others : List Hypothesis)
    → AreTypings (with_typing_first o others) → IsTyping o × AreTypings others
typing_parts None others h = (tt, h)
typing_parts (Some h) others typings = parts h typings
  where
    parts : (one : Hypothesis) → AreTypings (one ∷ others)
        → AreTypings (one ∷ []) × AreTypings others
    parts (floating label typecode variable) w = ((w.0, tt), w.1)
    parts (essential label statement) w = absurd w

sound_parts : (A : Pattern → Type 0) (number : Token → ℕ) (o : Option Assertion)
    (others : List Assertion) → IsSoundIf A number o → AreSound A number others
    → AreSound A number (with_assertion_first o others)
sound_parts A number None others h all = all
sound_parts A number (Some a) others h all = (h, all)

-- ---- a theorem

abbrev task_for : Frame → List (Step Token) → Task
task_for f steps = record { conclusion = f.statement; steps = steps }

-- the tree of a proof without a fault
proof_tree : (c : Context) (f : Frame) (o : Option (List (Step Token)))
    → is_none (option_map (task_for f) o) ≡ false
    → IfSome (option_map (task_for f) o) (IsProved c)
    → (tree : ProofTree) × Proves c tree f.statement
proof_tree c f None some proved = absurd (cc)
proof_tree c f (Some steps) some proved = go proved.forest proved.proves
  where
    go : (forest : ProofForest) → AllProve c forest (f.statement ∷ [])
        → (tree : ProofTree) × Proves c tree f.statement
    go no_proof h = absurd (cc)
    go (more_proofs tree trees) (first, rest, is, proof, others) =
        let one : first ≡ f.statement = cc in
        (tree, subst (Proves c tree) one proof)

made_sound : (theory : RewriteTheory) (A : Pattern → Type 0) (number : Token → ℕ) (c : Context)
    → AxiomsSound theory A number → HasSoundFrames A number c → IsOrderly c → IsFine c
    → (form : Option Form) → form_fault c form ≡ None → IfSome (task c form) (IsProved c)
    → IsAllowedIf theory (form_assertion c form) → IsSoundIf A number (form_assertion c form)
made_sound theory A number c axioms sound orderly fine None h proved allowed = tt
made_sound theory A number c axioms sound orderly fine (Some block_start) h proved allowed = tt
made_sound theory A number c axioms sound orderly fine (Some block_end) h proved allowed = tt
made_sound theory A number c axioms sound orderly fine (Some (plain labels keyword symbols proof)) h
    proved allowed = go keyword h proved allowed
  where
    go : (k : Keyword) → form_fault c (Some (plain labels k symbols proof)) ≡ None
        → IfSome (task c (Some (plain labels k symbols proof))) (IsProved c)
        → IsAllowedIf theory (form_assertion c (Some (plain labels k symbols proof)))
        → IsSoundIf A number (form_assertion c (Some (plain labels k symbols proof)))
    go declares_constants e p a = tt
    go declares_variables e p a = tt
    go types_variable e p a = tt
    go assumes e p a = tt
    go separates e p a = tt
    go asserts e p a = axioms (frame_of c.scope (first_label labels) symbols) (a refl)
    go proves e p a =
        let w : (tree : ProofTree) × Proves c tree symbols =
        proof_tree c (frame_of c.scope (first_label labels) symbols)
        (proof_steps c (frame_of c.scope (first_label labels) symbols) proof)
        (no_faults c labels proves symbols proof e).1 p in
        theorem_sound A number c (first_label labels) symbols w.0 sound
        (types_well c orderly fine) w.1

-- ---- the frames after a statement

frames_after : (A : Pattern → Type 0) (number : Token → ℕ) (c : Context) (at : ℕ)
    (form : Option Form) → HaveSoundFrames A number c.frames
    → IsSoundIf A number (form_assertion c form)
    → HaveSoundFrames A number (after_form c at form).frames
frames_after A number c at None sound h = sound
frames_after A number c at (Some block_start) sound h = sound
frames_after A number c at (Some block_end) sound h = closed c.blocks
  where
    closed : (blocks : List Block) → HaveSoundFrames A number (with_block_closed c blocks).frames
    closed [] = sound
    closed (block ∷ blocks) = sound
frames_after A number c at (Some (plain labels keyword symbols proof)) sound h = go keyword h
  where
    with_one : IsSound A number (frame_of c.scope (first_label labels) symbols)
        → (t : Token) (f : Frame) (b : Bool)
        → (if b then Some (frame_of c.scope (first_label labels) symbols) else c.frames t)
        ≡ Some f → IsSound A number f
    with_one one t f true is =
        let equal : frame_of c.scope (first_label labels) symbols ≡ f = cc in
        subst (IsSound A number) equal one
    with_one one t f false is = sound t f is

    go : (k : Keyword) → IsSoundIf A number (form_assertion c (Some (plain labels k symbols proof)))
        → HaveSoundFrames A number (with_declared c labels k symbols).frames
    go declares_constants one = sound
    go declares_variables one = sound
    go types_variable one = sound
    go assumes one = sound
    go separates one = sound
    go asserts one = λ t f is. with_one one t f (bytes_eq t (first_label labels)) is
    go proves one = λ t f is. with_one one t f (bytes_eq t (first_label labels)) is

-- ---- all statements

statements_sound : (theory : RewriteTheory) (A : Pattern → Type 0) (number : Token → ℕ)
    → AxiomsSound theory A number → (c left : Context) (ss : Statements) → IsOrderly c → IsFine c
    → HaveSoundFrames A number c.frames → HaveNoFault c ss left
    → AreAllowed theory (assertions_in c ss) → AreTypings (typings_in ss)
    → AreSound A number (assertions_in c ss)
statements_sound theory A number axioms c left no_statement orderly fine sound none allowed types =
    tt
statements_sound theory A number axioms c left (unended at) orderly fine sound none allowed types =
    tt
statements_sound theory A number axioms c left (bad_statement f) orderly fine sound none allowed
    types = tt
statements_sound theory A number axioms c left (next_statement s ss) orderly fine sound none allowed
    types =
    let a : IsAllowedIf theory (form_assertion c (form_of s.tokens))
    × AreAllowed theory (assertions_in (context_after c s) ss) =
    allowed_parts theory (form_assertion c (form_of s.tokens))
    (assertions_in (context_after c s) ss) allowed in
    let t : IsTyping (form_typing (form_of s.tokens)) × AreTypings (typings_in ss) =
    typing_parts (form_typing (form_of s.tokens)) (typings_in ss) types in
    let made : IsSoundIf A number (form_assertion c (form_of s.tokens)) =
    made_sound theory A number c axioms (record {
      sound = sound;
      typed = λ label f is. frame_typed c f fine (fine.frames label f is);
    }) orderly fine (form_of s.tokens) none.0.form none.0.proof a.0 in
    sound_parts A number (form_assertion c (form_of s.tokens))
    (assertions_in (context_after c s) ss) made
    (statements_sound theory A number axioms (context_after c s) left ss
    (orderly_after c s orderly none.0)
    (fine_after c s.at (form_of s.tokens) fine none.0.form t.0)
    (frames_after A number c s.at (form_of s.tokens) sound made) none.1 a.1 t.1)

pub database_sound : (theory : RewriteTheory) (A : Pattern → Type 0) (number : Token → ℕ)
    (bytes : List ℕ) → AxiomsSound theory A number → IsValid bytes → HasOnlyAxiomsOf theory bytes
    → AreSound A number (assertions_of bytes)
database_sound theory A number bytes axioms valid only =
    statements_sound theory A number axioms empty_context valid.left (statements_of bytes)
    empty_is_orderly empty_is_fine (λ label f is. absurd (cc)) valid.fine only.axioms only.types
