-- After a statement without a fault, what is declared and active is still fine.
use Rattle.std.proofs.Common.{◌≡◌, ℕ, Bool, true, false, List, [], ◌∷◌, ◌++◌, refl}
use Rattle.std.proofs.Common.{Option, Some, None, subst}
use Rattle.std.specs.Prelude.{not, ◌||◌, ◌&&◌, if◌then◌else◌, bytes_eq}
use Rattle.std.specs.List.{list_any, list_all}
use Rattle.mm_text.specs.Bytes.{Token, has_token, has_repeated}
use Rattle.mm_database.specs.Forms.{Keyword, declares_constants, declares_variables, types_variable}
use Rattle.mm_database.specs.Forms.{assumes, separates, asserts, proves, Form, block_start}
use Rattle.mm_database.specs.Forms.{block_end, plain}
use Rattle.mm_database.specs.Frames.{Hypothesis, floating, essential, Frame, frame_of}
use Rattle.mm_database.specs.Database.{Block, Context, first_label, floating_of, with_tokens}
use Rattle.mm_database.specs.Database.{with_hypothesis, with_assertion, with_declared}
use Rattle.mm_database.specs.Database.{with_block_closed, after_form}
use Rattle.mm_database.specs.Assertions.{form_typing}
use Rattle.mm_database.specs.Validity.{is_typed, is_typing, form_fault}
use Rattle.mm_readings.proofs.Dummies.{or_left, or_right, not_both}
use Rattle.mm_justify.specs.Justifying.{AreTypings}
use Rattle.mm_adequate.proofs.Contexts.{AreFine, Grows, typed_by, IsFramed}
use Rattle.mm_adequate.proofs.Contexts.{AreFineBlocks, IsFine, neither, either, both, not_not}
use Rattle.mm_adequate.proofs.Contexts.{none_among, stays, fine_grows, fine_append, typed_append}
use Rattle.mm_adequate.proofs.Contexts.{framed_grows, scope_grows, blocks_grow, frame_fine}
use Rattle.mm_adequate.proofs.Contexts.{typed_known, NoneFound, tests_of, no_faults}

-- the `$f` of a statement, if it is one, gives one of the three types
abbrev pub IsTyping : Option Hypothesis → Type 0
IsTyping None = Unit {0}
IsTyping (Some h) = AreTypings (h ∷ [])

more : (set : Token → Bool) (ts : List Token) → Grows set (with_tokens set ts)
more set ts t h = or_left (set t) (has_token ts t) h

fine_constants : (c : Context) (labels symbols : List Token) → IsFine c
    → NoneFound (tests_of c labels declares_constants symbols)
    → IsFine (with_declared c labels declares_constants symbols)
fine_constants c labels symbols fine none = record {
  disjoint = λ t h.
      either (c.constants t) (has_token symbols t) h (fine.disjoint t)
      (λ there. (neither (c.variables t) (c.labels t) (neither (c.constants t) _
      (none_among (λ u. c.constants u || (c.variables u || c.labels u)) symbols t
      (neither (list_any (λ u. c.constants u || (c.variables u || c.labels u)) symbols)
      (has_repeated symbols) none.1.0).0 there)).1).0);
  active =
      scope_grows c.constants (with_tokens c.constants symbols) c.variables c.variables c.scope
      (more c.constants symbols) (stays c.variables) fine.active;
  blocks =
      blocks_grow c.constants (with_tokens c.constants symbols) c.variables c.variables c.blocks
      (more c.constants symbols) (stays c.variables) fine.blocks;
  frames = λ label f is.
      framed_grows c.constants (with_tokens c.constants symbols) c.variables c.variables f
      (more c.constants symbols) (stays c.variables) (fine.frames label f is);
}

fine_variables : (c : Context) (labels symbols : List Token) → IsFine c
    → NoneFound (tests_of c labels declares_variables symbols)
    → IsFine (with_declared c labels declares_variables symbols)
fine_variables c labels symbols fine none = record {
  disjoint = λ t h. neither_true (c.variables t) (has_token symbols t) (fine.disjoint t h)
      (λ there. not_both (c.constants t) h (neither (c.constants t) _
      (none_among (λ u. c.constants u || (c.scope.variables u || c.labels u)) symbols t
      (neither (list_any (λ u. c.constants u || (c.scope.variables u || c.labels u)) symbols)
      (has_repeated symbols) none.1.0).0 there)).0);
  active = record {
    declared = λ t h.
        either (c.scope.variables t) (has_token symbols t) h
        (λ i. or_left (c.variables t) (has_token symbols t) (fine.active.declared t i))
        (λ i. or_right (c.variables t) (has_token symbols t) i);
    hypotheses =
        fine_grows c.constants c.constants c.variables (with_tokens c.variables symbols)
        (typed_by c.scope.hypotheses) (typed_by c.scope.hypotheses) (stays c.constants)
        (more c.variables symbols) (stays (typed_by c.scope.hypotheses)) c.scope.hypotheses
        fine.active.hypotheses;
  };
  blocks =
      blocks_grow c.constants c.constants c.variables (with_tokens c.variables symbols) c.blocks
      (stays c.constants) (more c.variables symbols) fine.blocks;
  frames = λ label f is.
      framed_grows c.constants c.constants c.variables (with_tokens c.variables symbols) f
      (stays c.constants) (more c.variables symbols) (fine.frames label f is);
}
  where
    neither_true : (a b : Bool) → a ≡ false → (b ≡ true → ⊥) → (a || b) ≡ false
    neither_true true b h k = absurd (cc)
    neither_true false true h k = absurd (k refl)
    neither_true false false h k = refl

fine_hypothesis : (c : Context) (label : Token) (h : Hypothesis) → IsFine c
    → AreFine c.constants c.variables (typed_by (c.scope.hypotheses ++ h ∷ [])) (h ∷ [])
    → IsFine (with_hypothesis c label h)
fine_hypothesis c label h fine last = record {
  disjoint = fine.disjoint;
  active = record {
    declared = fine.active.declared;
    hypotheses =
        fine_append c.constants c.variables (typed_by (c.scope.hypotheses ++ h ∷ []))
        c.scope.hypotheses h
        (fine_grows c.constants c.constants c.variables c.variables (typed_by c.scope.hypotheses)
        (typed_by (c.scope.hypotheses ++ h ∷ [])) (stays c.constants) (stays c.variables)
        (typed_append c.scope.hypotheses h) c.scope.hypotheses fine.active.hypotheses) last;
  };
  blocks = fine.blocks;
  frames = fine.frames;
}

fine_typing : (c : Context) (label : Token) (symbols : List Token) → IsFine c
    → not (is_typing c symbols) ≡ false → AreTypings (floating_of label symbols ∷ [])
    → IsFine (with_hypothesis c label (floating_of label symbols))
fine_typing c label [] fine typing known = absurd known
fine_typing c label (k ∷ []) fine typing known = absurd known
fine_typing c label (k ∷ (v ∷ [])) fine typing known =
    let parts : (c.constants k ≡ true) × (c.scope.variables v ≡ true) =
    both (c.constants k) (c.scope.variables v)
    (not_not (c.constants k && c.scope.variables v) typing) in
    fine_hypothesis c label (floating label k v) fine
    ((parts.0, (known.0, fine.active.declared v parts.1)), tt)
fine_typing c label (k ∷ (v ∷ (t ∷ symbols))) fine typing known = absurd known

fine_premise : (c : Context) (label : Token) (symbols : List Token) → IsFine c
    → not (list_all (is_typed c) symbols) ≡ false
    → IsFine (with_hypothesis c label (essential label symbols))
fine_premise c label symbols fine typed =
    fine_hypothesis c label (essential label symbols) fine (
      (λ t there. either (c.constants t) (typed_by c.scope.hypotheses t)
          (typed_known c symbols typed t there) (λ i. or_left (c.constants t) _ i)
          (λ i. or_right (c.constants t) _
          (typed_append c.scope.hypotheses (essential label symbols) t i))),
      tt,
    )

fine_assertion : (c : Context) (label : Token) (symbols : List Token) → IsFine c
    → not (list_all (is_typed c) symbols) ≡ false → IsFine (with_assertion c label symbols)
fine_assertion c label symbols fine typed = record {
  disjoint = fine.disjoint;
  active = fine.active;
  blocks = fine.blocks;
  frames = λ t f is. go t f (bytes_eq t label) is;
}
  where
    go : (t : Token) (f : Frame) (b : Bool)
        → (if b then Some (frame_of c.scope label symbols) else c.frames t) ≡ Some f
        → IsFramed c.constants c.variables f
    go t f true is =
        let one : frame_of c.scope label symbols ≡ f = cc in
        subst (IsFramed c.constants c.variables) one (frame_fine c label symbols fine typed)
    go t f false is = fine.frames t f is

fine_declared : (c : Context) (labels : List Token) (keyword : Keyword) (symbols : List Token)
    → IsFine c → NoneFound (tests_of c labels keyword symbols)
    → IsTyping (form_typing (Some (plain labels keyword symbols [])))
    → IsFine (with_declared c labels keyword symbols)
fine_declared c labels declares_constants symbols fine none known =
    fine_constants c labels symbols fine none
fine_declared c labels declares_variables symbols fine none known =
    fine_variables c labels symbols fine none
fine_declared c labels types_variable symbols fine none known =
    fine_typing c (first_label labels) symbols fine none.1.1.1.0 known
fine_declared c labels assumes symbols fine none known =
    fine_premise c (first_label labels) symbols fine none.1.1.0
fine_declared c labels separates symbols fine none known = record {
  disjoint = fine.disjoint;
  active = record {
    declared = fine.active.declared;
    hypotheses = fine.active.hypotheses;
  };
  blocks = fine.blocks;
  frames = fine.frames;
}
fine_declared c labels asserts symbols fine none known =
    fine_assertion c (first_label labels) symbols fine none.1.1.0
fine_declared c labels proves symbols fine none known =
    fine_assertion c (first_label labels) symbols fine none.1.1.0

fine_closed : (c : Context) (blocks : List Block) → IsFine c
    → AreFineBlocks c.constants c.variables blocks → IsFine (with_block_closed c blocks)
fine_closed c [] fine outside = fine
fine_closed c (block ∷ blocks) fine outside = record {
  disjoint = fine.disjoint;
  active = outside.0;
  blocks = outside.1;
  frames = fine.frames;
}

pub fine_after : (c : Context) (at : ℕ) (form : Option Form) → IsFine c
    → form_fault c form ≡ None → IsTyping (form_typing form) → IsFine (after_form c at form)
fine_after c at None fine h known = fine
fine_after c at (Some block_start) fine h known = record {
  disjoint = fine.disjoint;
  active = fine.active;
  blocks = (fine.active, fine.blocks);
  frames = fine.frames;
}
fine_after c at (Some block_end) fine h known = fine_closed c c.blocks fine fine.blocks
fine_after c at (Some (plain labels keyword symbols proof)) fine h known =
    fine_declared c labels keyword symbols fine
    (no_faults c labels keyword symbols proof h).0 known
