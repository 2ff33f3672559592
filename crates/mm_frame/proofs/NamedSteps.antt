-- What a label cites does to numbers what the label does to their tokens.
use Rattle.std.proofs.Common.{◌≡◌, ℕ, zero, suc, ◌-◌, Bool, true, false, List, [], ◌∷◌, ◌++◌}
use Rattle.std.proofs.Common.{length, take, drop, refl, ap, ◌∙◌, sym, arith}
use Rattle.std.proofs.lemmas.List.{length-map, map-append}
use Rattle.std.specs.Prelude.{nat_le, if◌then◌else◌, map, Option, Some, None, option_map}
use Rattle.mm_text.specs.Bytes.{Token}
use Rattle.mm_database.specs.Database.{Context}
use Rattle.mm_database.specs.Proofs.{Expression}
use Rattle.mm_database.specs.Stack.{assertion_result, label_result, step_result, label_arity}
use Rattle.mm_database.specs.Stack.{frame_arity, arity, stack_with, stack_after_label}
use Rattle.mm_frame.specs.Numbered.{NumberedFrame, IsNaming, named, named_hypothesis}
use Rattle.mm_frame.specs.NumberedSteps.{NumberedPlace, IsNamedPlace, numbered_applied, gives}
use Rattle.mm_frame.specs.NumberedSteps.{applies, NamesHypothesis, NamesFrame, CitationIsNamed}
use Rattle.mm_database.proofs.Stacks.{le_true}
use Rattle.mm_frame.proofs.Named.{applied_is_named}

take-map : (name : List ℕ → Expression) (n : ℕ) (xs : List (List ℕ))
    → take n (map name xs) ≡ map name (take n xs)
take-map name zero xs = refl
take-map name (suc n) [] = refl
take-map name (suc n) (x ∷ xs) = ap (λ (es : List Expression). name x ∷ es) (take-map name n xs)

drop-map : (name : List ℕ → Expression) (n : ℕ) (xs : List (List ℕ))
    → drop n (map name xs) ≡ map name (drop n xs)
drop-map name zero xs = refl
drop-map name (suc n) [] = refl
drop-map name (suc n) (x ∷ xs) = drop-map name n xs

-- one more entry
pub pushed-named : (name : ℕ → Token) (stack : List (List ℕ)) (e : List ℕ)
    → map (named name) (stack ++ e ∷ []) ≡ map (named name) stack ++ named name e ∷ []
pushed-named name stack e = map-append (named name) stack (e ∷ [])

-- a hypothesis
take-whole : (xs : List Expression) → take (length xs - 0) xs ≡ xs
take-whole xs = ap (λ (n : ℕ). take n xs) minus ∙ all xs
  where
    minus : length xs - 0 ≡ length xs
    minus = omega arith

    all : (ys : List Expression) → take (length ys) ys ≡ ys
    all [] = refl
    all (y ∷ ys) = ap (λ (zs : List Expression). y ∷ zs) (all ys)

drop-whole : (xs : List Expression) → drop (length xs - 0) xs ≡ []
drop-whole xs = ap (λ (n : ℕ). drop n xs) minus ∙ all xs
  where
    minus : length xs - 0 ≡ length xs
    minus = omega arith

    all : (ys : List Expression) → drop (length ys) ys ≡ []
    all [] = refl
    all (y ∷ ys) = all ys

nat_le-zero : (n : ℕ) → nat_le 0 n ≡ true
nat_le-zero n = le_true 0 n (omega arith)

hypothesis-named : (name : ℕ → Token) (c : Context) (label : Token) (statement : List ℕ)
    (stack : List Expression) → NamesHypothesis name c label statement
    → stack_after_label c label stack ≡ Some (stack ++ named name statement ∷ [])
hypothesis-named name c label statement stack w =
    let none : arity c label ≡ 0 = ap (λ o. label_arity o (c.frames label)) w.is in
    let result : step_result c label [] ≡ Some (named name statement) =
    ap (λ o. label_result c o (c.frames label) []) w.is
    ∙ ap (λ (e : Expression). Some e) w.says in
    let enough : nat_le 0 (length stack) ≡ true = nat_le-zero (length stack) in
    ap (λ (n : ℕ). stack_with (step_result c label) n stack) none
    ∙ ap (λ (b : Bool). if b
    then option_map (λ e. take (length stack - 0) stack ++ e ∷ [])
    (step_result c label (drop (length stack - 0) stack)) else None) enough
    ∙ ap (λ (es : List Expression).
    option_map (λ e. take (length stack - 0) stack ++ e ∷ []) (step_result c label es))
    (drop-whole stack)
    ∙ ap (option_map (λ e. take (length stack - 0) stack ++ e ∷ [])) result
    ∙ ap (λ (es : List Expression). Some (es ++ named name statement ∷ [])) (take-whole stack)

-- a frame
chosen-named : (name : ℕ → Token) (test : Bool) (front : List (List ℕ)) (o : Option (List ℕ))
    → (if test then option_map (λ e. map (named name) front ++ e ∷ []) (option_map (named name) o)
    else None)
    ≡ option_map (map (named name)) (if test then option_map (λ e. front ++ e ∷ []) o else None)
chosen-named name true front None = refl
chosen-named name true front (Some e) =
    ap (λ (es : List Expression). Some es) (sym (pushed-named name front e))
chosen-named name false front o = refl

frame-named : (name : ℕ → Token) (p : NumberedPlace) (c : Context) (label : Token)
    (n : NumberedFrame) (stack : List (List ℕ)) → IsNaming name → IsNamedPlace name p c
    → NamesFrame name c label n
    → stack_after_label c label (map (named name) stack)
    ≡ option_map (map (named name))
    (stack_with (numbered_applied p n) (length n.hypotheses) stack)
frame-named name p c label n stack naming place w =
    let count : arity c label ≡ length n.hypotheses =
    ap (λ o. label_arity o (c.frames label)) w.no_hypothesis ∙ ap frame_arity w.is
    ∙ ap length w.named.hypotheses ∙ length-map n.hypotheses (named_hypothesis name) in
    let size : length (map (named name) stack) ≡ length stack = length-map stack (named name) in
    let k : ℕ = length stack - length n.hypotheses in
    let result : step_result c label (map (named name) (drop k stack)) ≡ option_map (named name)
    (numbered_applied p n (drop k stack)) =
    ap (λ o. label_result c o (c.frames label) (map (named name) (drop k stack))) w.no_hypothesis
    ∙ ap (λ o. assertion_result c o (map (named name) (drop k stack))) w.is
    ∙ applied_is_named name p n c w.frame (drop k stack) naming place w.named w.once in
    ap (λ (m : ℕ). stack_with (step_result c label) m (map (named name) stack)) count
    ∙ ap (λ (m : ℕ). if nat_le (length n.hypotheses) m
    then option_map (λ e. take (m - length n.hypotheses) (map (named name) stack) ++ e ∷ [])
    (step_result c label (drop (m - length n.hypotheses) (map (named name) stack)))
    else None) size
    ∙ ap (λ (es : List Expression). if nat_le (length n.hypotheses) (length stack)
    then option_map (λ e. es ++ e ∷ [])
    (step_result c label (drop k (map (named name) stack))) else None)
    (take-map (named name) k stack)
    ∙ ap (λ (es : List Expression). if nat_le (length n.hypotheses) (length stack)
    then option_map (λ e. map (named name) (take k stack) ++ e ∷ [])
    (step_result c label es) else None) (drop-map (named name) k stack)
    ∙ ap (λ (o : Option Expression). if nat_le (length n.hypotheses) (length stack)
    then option_map (λ e. map (named name) (take k stack) ++ e ∷ []) o else None) result
    ∙ chosen-named name (nat_le (length n.hypotheses) (length stack)) (take k stack)
    (numbered_applied p n (drop k stack))

pub citation_is_named : CitationIsNamed
citation_is_named name p c label (gives statement) stack naming place is =
    hypothesis-named name c label statement (map (named name) stack) is
    ∙ ap (λ (es : List Expression). Some es) (sym (pushed-named name stack statement))
citation_is_named name p c label (applies n) stack naming place is =
    frame-named name p c label n stack naming place is
