-- A step that is computed from the entries of a stack leads from these entries.
use Rattle.std.proofs.Common.{◌≡◌, Bool, true, false, List, [], ◌∷◌, refl, ap, ◌∙◌, sym, subst}
use Rattle.std.proofs.Math.Path.{fun_ext}
use Rattle.std.specs.Prelude.{◌&&◌, ◌||◌, Option, Some, None, map, if◌then◌else◌, bytes_eq}
use Rattle.std.specs.List.{list_any}
use Rattle.std.proofs.lemmas.Slice.Eq.{bytes_eq-Decides}
use Rattle.mm_text.specs.Bytes.{Token}
use Rattle.mm_text.proofs.Truths.{both_true}
use Rattle.mm_database.specs.Frames.{Hypothesis, floating, essential, statement_of, Frame, types}
use Rattle.mm_database.specs.Database.{Context}
use Rattle.mm_database.specs.Proofs.{Expression, substituted, instance_of, symbols_apart}
use Rattle.mm_database.specs.Proofs.{keeps_apart, Applies, active_hypothesis, Leads, by_hypothesis}
use Rattle.mm_database.specs.Proofs.{by_assertion}
use Rattle.mm_database.specs.Stack.{same_expressions, behind_first, bindings_of, text_of}
use Rattle.mm_database.specs.Stack.{applied_under, applied, assertion_result, hypothesis_result}
use Rattle.mm_database.specs.Stack.{label_result, step_result}
use Rattle.mm_database.proofs.Tests.{same_expressions-Decides, if_some}

-- the bindings that instances give are the substitution
text_of-instances : (sigma : Token → Expression) (hypotheses : List Hypothesis) (t : Token)
    → (list_any (types t) hypotheses ≡ false → sigma t ≡ t ∷ [])
    → text_of (bindings_of hypotheses (map (instance_of sigma) hypotheses)) t ≡ sigma t
text_of-instances sigma [] t others = sym (others refl)
text_of-instances sigma (floating label typecode variable ∷ hypotheses) t others =
    go (bytes_eq variable t) refl others (text_of-instances sigma hypotheses t)
  where
    go : (test : Bool) → bytes_eq variable t ≡ test
        → ((test || list_any (types t) hypotheses) ≡ false → sigma t ≡ t ∷ [])
        → ((list_any (types t) hypotheses ≡ false → sigma t ≡ t ∷ [])
        → text_of (bindings_of hypotheses (map (instance_of sigma) hypotheses)) t ≡ sigma t)
        → (if test then sigma variable
        else text_of (bindings_of hypotheses (map (instance_of sigma) hypotheses)) t)
        ≡ sigma t
    go true is h behind = ap sigma ((bytes_eq-Decides variable t).0 is)
    go false is h behind = behind h
text_of-instances sigma (essential label statement ∷ hypotheses) t others =
    text_of-instances sigma hypotheses t others

applied-instances : (c : Context) (f : Frame) (sigma : Token → Expression)
    → ((t : Token) → list_any (types t) f.hypotheses ≡ false → sigma t ≡ t ∷ [])
    → keeps_apart (symbols_apart c) f sigma ≡ true
    → applied c f (map (instance_of sigma) f.hypotheses) ≡ Some (substituted sigma f.statement)
applied-instances c f sigma others apart =
    let same : same_expressions (map (instance_of sigma) f.hypotheses)
    (map (instance_of sigma) f.hypotheses) ≡ true =
    (same_expressions-Decides (map (instance_of sigma) f.hypotheses)
    (map (instance_of sigma) f.hypotheses)).1 refl in
    ap (λ (s : Token → Expression). applied_under c f s (map (instance_of sigma) f.hypotheses))
    (fun_ext (λ t. text_of-instances sigma f.hypotheses t (others t)))
    ∙ rw (same, apart) refl

pub applied-complete : (c : Context) (f : Frame) (sigma : Token → Expression)
    (given : List Expression) (result : Expression) → Applies c f sigma given result
    → applied c f given ≡ Some result
applied-complete c f sigma given result w =
    ap (applied c f) w.hypotheses ∙ applied-instances c f sigma w.others w.apart
    ∙ ap Some (sym w.conclusion)

-- a symbol that is not bound stays the same
text_of-other : (hypotheses : List Hypothesis) (entries : List Expression) (t : Token)
    → list_any (types t) hypotheses ≡ false → text_of (bindings_of hypotheses entries) t ≡ t ∷ []
text_of-other [] entries t h = refl
text_of-other (h ∷ hypotheses) [] t other = refl
text_of-other (floating label typecode variable ∷ hypotheses) (entry ∷ entries) t other =
    go (bytes_eq variable t) other (text_of-other hypotheses entries t)
  where
    go : (test : Bool) → (test || list_any (types t) hypotheses) ≡ false
        → (list_any (types t) hypotheses ≡ false
        → text_of (bindings_of hypotheses entries) t ≡ t ∷ [])
        → (if test then behind_first entry else text_of (bindings_of hypotheses entries) t) ≡ t ∷ []
    go true h behind = absurd (cc)
    go false h behind = behind h
text_of-other (essential label statement ∷ hypotheses) (entry ∷ entries) t other =
    text_of-other hypotheses entries t other

pub applied-sound : (c : Context) (f : Frame) (given : List Expression) (result : Expression)
    → applied c f given ≡ Some result
    → Applies c f (text_of (bindings_of f.hypotheses given)) given result
applied-sound c f given result h =
    let sigma : Token → Expression = text_of (bindings_of f.hypotheses given) in
    let test : ((same_expressions given (map (instance_of sigma) f.hypotheses)
    && keeps_apart (symbols_apart c) f sigma) ≡ true) ×
    (substituted sigma f.statement ≡ result) =
    if_some (same_expressions given (map (instance_of sigma) f.hypotheses)
    && keeps_apart (symbols_apart c) f sigma) (substituted sigma f.statement) result
    h in
    let both : (same_expressions given (map (instance_of sigma) f.hypotheses) ≡ true) ×
    (keeps_apart (symbols_apart c) f sigma ≡ true) =
    both_true (same_expressions given (map (instance_of sigma) f.hypotheses))
    (keeps_apart (symbols_apart c) f sigma) test.0 in
    record {
      others = λ t other. text_of-other f.hypotheses given t other;
      hypotheses = (same_expressions-Decides given (map (instance_of sigma) f.hypotheses)).0 both.0;
      apart = both.1;
      conclusion = sym test.1;
    }

pub step_result-complete : {c : Context} {label : Token} {given : List Expression}
    {result : Expression} → Leads c label given result → step_result c label given ≡ Some result
step_result-complete {c = c} {label = label} (by_hypothesis h is) =
    ap (λ o. label_result c o (c.frames label) []) is
step_result-complete {c = c} {label = label} (by_assertion f sigma given result none is applies) =
    ap (λ o. label_result c o (c.frames label) given) none ∙ ap (λ o. assertion_result c o given) is
    ∙ applied-complete c f sigma given result applies

hypothesis_result-sound : (c : Context) (label : Token) (h : Hypothesis) (given : List Expression)
    (result : Expression) → active_hypothesis c label ≡ Some h
    → hypothesis_result h given ≡ Some result → Leads c label given result
hypothesis_result-sound c label h [] result is gives =
    let same : statement_of h ≡ result = cc in
    subst (λ (e : Expression). Leads c label [] e) same (by_hypothesis h is)
hypothesis_result-sound c label h (entry ∷ entries) result is gives = absurd (cc)

assertion_result-sound : (c : Context) (label : Token) (frame : Option Frame)
    (given : List Expression) (result : Expression) → active_hypothesis c label ≡ None
    → c.frames label ≡ frame → assertion_result c frame given ≡ Some result
    → Leads c label given result
assertion_result-sound c label None given result none is gives = absurd (cc)
assertion_result-sound c label (Some f) given result none is gives =
    by_assertion f (text_of (bindings_of f.hypotheses given)) given result none is
    (applied-sound c f given result gives)

pub step_result-sound : (c : Context) (label : Token) (given : List Expression)
    (result : Expression) → step_result c label given ≡ Some result → Leads c label given result
step_result-sound c label given result gives = go (active_hypothesis c label) refl gives
  where
    go : (h : Option Hypothesis) → active_hypothesis c label ≡ h
        → label_result c h (c.frames label) given ≡ Some result → Leads c label given result
    go (Some h) is gives = hypothesis_result-sound c label h given result is gives
    go None is gives = assertion_result-sound c label (c.frames label) given result is refl gives
