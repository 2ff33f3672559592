-- What hypotheses give, one after another.
use Rattle.std.proofs.Common.{◌≡◌, ℕ, ◌+◌, List, [], ◌∷◌, ◌++◌, take, refl, ap, sym, ◌∙◌}
use Rattle.std.proofs.Common.{append_assoc}
use Rattle.std.specs.Prelude.{slice_get, Some}
use Rattle.mm_text.specs.Bytes.{Token}
use Rattle.mm_frame.specs.Numbered.{NumberedHypothesis}
use Rattle.mm_scope.specs.ScopeState.{ScopeSymbol}
use Rattle.mm_check.specs.Stated.{PlainTyped, typed_by, premise_by, all_typed_by, premises_by}
use Rattle.mm_check.proofs.Lists.{take_next}

pub all_typed_by-append : (symbols : List ScopeSymbol) (xs ys : List NumberedHypothesis)
    → all_typed_by symbols (xs ++ ys) ≡ all_typed_by symbols xs ++ all_typed_by symbols ys
all_typed_by-append symbols [] ys = refl
all_typed_by-append symbols (x ∷ xs) ys =
    ap (λ (zs : List PlainTyped). typed_by symbols x ++ zs) (all_typed_by-append symbols xs ys)
    ∙ sym (append_assoc (typed_by symbols x) (all_typed_by symbols xs) (all_typed_by symbols ys))

pub premises_by-append : (symbols : List ScopeSymbol) (xs ys : List NumberedHypothesis)
    → premises_by symbols (xs ++ ys) ≡ premises_by symbols xs ++ premises_by symbols ys
premises_by-append symbols [] ys = refl
premises_by-append symbols (x ∷ xs) ys =
    ap (λ (zs : List (List Token)). premise_by symbols x ++ zs) (premises_by-append symbols xs ys)
    ∙ sym (append_assoc (premise_by symbols x) (premises_by symbols xs) (premises_by symbols ys))

-- what the first hypotheses give, with the next one
pub typed_next : (symbols : List ScopeSymbol) (hs : List NumberedHypothesis) (i : ℕ)
    (h : NumberedHypothesis) (before after : List PlainTyped) → slice_get hs i ≡ Some h
    → before ≡ all_typed_by symbols (take i hs)
    → after ≡ before ++ all_typed_by symbols (h ∷ [])
    → after ≡ all_typed_by symbols (take (i + 1) hs)
typed_next symbols hs i h before after there was is =
    is ∙ ap (λ (zs : List PlainTyped). zs ++ all_typed_by symbols (h ∷ [])) was
    ∙ sym (all_typed_by-append symbols (take i hs) (h ∷ []))
    ∙ ap (all_typed_by symbols) (sym (take_next hs i h there))

pub premises_next : (symbols : List ScopeSymbol) (hs : List NumberedHypothesis) (i : ℕ)
    (h : NumberedHypothesis) (before after : List (List Token)) → slice_get hs i ≡ Some h
    → before ≡ premises_by symbols (take i hs)
    → after ≡ before ++ premises_by symbols (h ∷ [])
    → after ≡ premises_by symbols (take (i + 1) hs)
premises_next symbols hs i h before after there was is =
    is ∙ ap (λ (zs : List (List Token)). zs ++ premises_by symbols (h ∷ [])) was
    ∙ sym (premises_by-append symbols (take i hs) (h ∷ []))
    ∙ ap (premises_by symbols) (sym (take_next hs i h there))
