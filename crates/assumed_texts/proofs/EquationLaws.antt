-- Listing the images of equations.
use Rattle.std.proofs.Common.{◌≡◌, ◌≢◌, ◌⊎◌, ◌<◌, ◌≤◌, ◌+◌, ◌^◌, ℕ, zero, suc, List, [], ◌∷◌, ◌++◌}
use Rattle.std.proofs.Common.{length, map, Option, Some, None, inl, inr, refl, sym, ap, ◌∙◌, subst}
use Rattle.std.proofs.Common.{arith, get_or, take, eq-or-lt_of_le, Vec}
use Rattle.std.specs.Global.{Global}
use Rattle.std.specs.Prelude.{slice_get, slice_index_or, All, IfSome}
use Rattle.std.proofs.lemmas.Option.{slice_get-get_or}
use Rattle.std.proofs.lemmas.List.{length-map}
use Rattle.mm_text.specs.Bytes.{Token}
use Rattle.ml_pat.specs.Patterns.{Pattern}
use Rattle.term_core.specs.PatternLists.{plain_patterns}
use Rattle.term_core.specs.declared.rule_patterns.RulePat.{RulePat}
use Rattle.rule_core.specs.BoundVariables.{HasBoundVariables, IsEquationAt, IsBoundEquation}
use Rattle.rule_core.specs.Guards.{IsGuardAmong, AreGuards, after_guards}
use Rattle.rule_core.specs.ProgramView.{theory_of, function_equation}
use Rattle.rule_core.specs.Rules.{Equation as PlainEquation, Guard}
use Rattle.rule_core.specs.Theories.{RewriteTheory, equations_of}
use Rattle.rule_core.specs.WellSorted.{IsWellSorted}
use Rattle.rule_core.specs.declared.rules.Program.{Program}
use Rattle.rule_core.specs.declared.rules.Equation.{Equation}
use Rattle.rule_core.specs.declared.signature.Signature.{Signature}
use Rattle.ml_image.specs.Gained.{HasGained}
use Rattle.ml_image.specs.HasImages.{HasEquationImage, HasFittingGuards, IsGuard, count_of}
use Rattle.ml_image.specs.LastResorts.{guards_sentence, last_resort_sentence}
use Rattle.ml_image.specs.OwnAxioms.{SaysEquation, IsEquationFor, direct, kompile, last_resort}
use Rattle.ml_image.specs.OwnAxioms.{direct_sentence, kompile_sentence, behind_parameters}
use Rattle.ml_image.specs.Premises.{condition_sentence}
use Rattle.ml_image.specs.Sentences.{Sentence, IsImageOf}
use Rattle.ml_image.proofs.ConditionLaws.{length-sorts_of}
use Rattle.ml_image.proofs.ImageLaws.{none_some, some_same}
use Rattle.ml_image.proofs.WellSortedLaws.{equation_has_image}
use Rattle.assumed_texts.specs.Kinds.{IsWritten, IsRuleAxiom}
use Rattle.assumed_texts.specs.Listing.{Lists, IsBefore}
use Rattle.assumed_texts.specs.Listing.{IsDefined, IsBeforeEquation}
use Rattle.assumed_texts.proofs.ConstructorLaws.{same-sorts}
use Rattle.assumed_texts.proofs.ListingLaws.{listed-more, listed-for, there}

-- ---- an equation belongs to one sentence

kompile-same : (sig : Signature) (f : ℕ) (e : PlainEquation) (ss ts : List ℕ) (c d : Sentence)
    → ss ≡ ts
    → condition_sentence sig (behind_parameters ss e).variables (behind_parameters ss e).condition
    ≡ Some c
    → condition_sentence sig (behind_parameters ts e).variables (behind_parameters ts e).condition
    ≡ Some d
    → kompile_sentence f (length ss) (behind_parameters ss e) c
    ≡ kompile_sentence f (length ts) (behind_parameters ts e) d
kompile-same sig f e ss ts c d same h k =
    subst (λ (us : List ℕ).
    condition_sentence sig (behind_parameters us e).variables (behind_parameters us e).condition
    ≡ Some d
    → kompile_sentence f (length ss) (behind_parameters ss e) c
    ≡ kompile_sentence f (length us) (behind_parameters us e) d) same
    (λ i. ap (kompile_sentence f (length ss) (behind_parameters ss e))
    (some_same c d (sym h ∙ i))) k

last-same : (sig : Signature) (es : List PlainEquation) (f : ℕ) (e : PlainEquation)
    (ss ts : List ℕ) (gs hs : List Guard) (g g' c d : Sentence) → ss ≡ ts → gs ≡ hs
    → guards_sentence sig es (length ss + length e.variables) gs ≡ Some g
    → guards_sentence sig es (length ts + length e.variables) hs ≡ Some g'
    → condition_sentence sig (behind_parameters ss e).variables (behind_parameters ss e).condition
    ≡ Some c
    → condition_sentence sig (behind_parameters ts e).variables (behind_parameters ts e).condition
    ≡ Some d
    → last_resort_sentence f (length ss) (behind_parameters ss e) g c
    ≡ last_resort_sentence f (length ts) (behind_parameters ts e) g' d
last-same sig es f e ss ts gs hs g g' c d same guards hg kg h k =
    subst (λ (us : List ℕ).
    guards_sentence sig es (length us + length e.variables) hs ≡ Some g'
    → condition_sentence sig (behind_parameters us e).variables (behind_parameters us e).condition
    ≡ Some d
    → last_resort_sentence f (length ss) (behind_parameters ss e) g c
    ≡ last_resort_sentence f (length us) (behind_parameters us e) g' d) same
    (λ j i. ap (λ (x : Sentence). last_resort_sentence f (length ss) (behind_parameters ss e) x c)
    (some_same g g' (sym hg
    ∙ ap (guards_sentence sig es (length ss + length e.variables)) guards ∙ j))
    ∙ ap (last_resort_sentence f (length ss) (behind_parameters ss e) g')
    (some_same c d (sym h ∙ i))) kg k

pub equation-unique : (sig : Signature) (es : List PlainEquation) (f : ℕ) (e : PlainEquation)
    (s t : Sentence) → SaysEquation sig es f e s → SaysEquation sig es f e t → s ≡ t
equation-unique sig es f e s t (direct c none zeroed h says) (direct d none' zeroed' k says') =
    says ∙ ap (direct_sentence f e) (some_same c d (sym h ∙ k)) ∙ sym says'
equation-unique sig es f e s t (direct c none zeroed h says)
    (kompile d info sorts sort none' many each declared k says') = absurd (many zeroed)
equation-unique sig es f e s t (direct c none zeroed h says)
    (last_resort gs g d info sorts sort last many each declared kg k says') = absurd (many zeroed)
equation-unique sig es f e s t (kompile c info sorts sort none many each declared h says)
    (direct d none' zeroed k says') = absurd (many zeroed)
equation-unique sig es f e s t (kompile c info sorts sort none many each declared h says)
    (kompile d info' sorts' sort' none' many' each' declared' k says') =
    says
    ∙ kompile-same sig f e sorts sorts' c d
    (same-sorts sig f info info' sorts sorts' sort sort' declared declared').0 h k
    ∙ sym says'
equation-unique sig es f e s t (kompile c info sorts sort none many each declared h says)
    (last_resort gs g d info' sorts' sort' last many' each' declared' kg k says') =
    absurd (none_some gs (sym none ∙ last))
equation-unique sig es f e s t
    (last_resort gs g c info sorts sort last many each declared hg h says)
    (direct d none' zeroed k says') = absurd (many zeroed)
equation-unique sig es f e s t
    (last_resort gs g c info sorts sort last many each declared hg h says)
    (kompile d info' sorts' sort' none' many' each' declared' k says') =
    absurd (none_some gs (sym none' ∙ last))
equation-unique sig es f e s t
    (last_resort gs g c info sorts sort last many each declared hg h says)
    (last_resort hs g' d info' sorts' sort' last' many' each' declared' kg k says') =
    says
    ∙ last-same sig es f e sorts sorts' gs hs g g' c d
    (same-sorts sig f info info' sorts sorts' sort sort' declared declared').0
    (some_same gs hs (sym last ∙ last')) hg kg h k
    ∙ sym says'

-- ---- it has an image

item_taken : {A : Type 0} (n : ℕ) (xs : List A) (i : ℕ) (x : A)
    → slice_get (take n xs) i ≡ Some x → (slice_get xs i ≡ Some x) × (i < n)
item_taken zero [] i x at = absurd (let no : ⊥ = cc in no)
item_taken zero (y ∷ xs) i x at = absurd (let no : ⊥ = cc in no)
item_taken (suc n) [] i x at = absurd (let no : ⊥ = cc in no)
item_taken (suc n) (y ∷ xs) zero x at = (at, omega arith)
item_taken (suc n) (y ∷ xs) (suc i) x at =
    let rest = item_taken n xs i x at in (rest.0, omega (arith, rest.1))

is_guard : (n : ℕ) (es : List PlainEquation) (g : Guard) → IsGuardAmong (take n es) g
    → IsGuard es g
is_guard n es g among = record {
  equation = among.equation;
  there = (item_taken n es g.equation among.equation among.there).0;
  order = λ i d lt. (among.each (get_or g.order i d)).0
      (there g.order i (get_or g.order i d) (slice_get-get_or g.order i d lt));
}

fitting : (sig : Signature) (n : ℕ) (es : List PlainEquation) (e : PlainEquation)
    → IfSome e.last_resort (AreGuards sig (take n es) e) → HasFittingGuards es e
fitting sig n es e = go e.last_resort
  where
    go : (o : Option (List Guard)) → IfSome o (AreGuards sig (take n es) e)
        → IfSome o (λ (gs : List Guard). (e.parameters ≢ 0) × All (IsGuard es) gs
        × (after_guards (e.parameters + length e.variables) gs < 2 ^ 32))
    go None are = tt
    go (Some gs) are = (
      are.parameters,
      (λ i d lt. is_guard n es (get_or gs i d) (are.each i d lt)),
      are.few,
    )

count_patterns : (ps : List RulePat) → count_of (plain_patterns ps) ≡ length ps
count_patterns [] = refl
count_patterns (p ∷ ps) = ap suc (count_patterns ps)

pub equation-ready : (program : Program) (f i : ℕ) (q : Equation) → IsWellSorted (theory_of program)
    → HasBoundVariables program → IsEquationAt program f i q
    → IsEquationFor (theory_of program) f (function_equation q)
    → HasEquationImage program.sig (equations_of (theory_of program) f) f (function_equation q)
equation-ready program f i q sorted bounds at own =
    let bound : IsBoundEquation f q = bounds.equations f i q at in
    equation_has_image (theory_of program) f own.info (function_equation q) sorted
    own.function own.by_equations own.listed
    (omega (arith, bound.few, length-sorts_of q.vars.items)) (go bound.parameters)
    (fitting program.sig i (equations_of (theory_of program) f) (function_equation q)
    (bounds.guards f i q at))
  where
    go : (q.params ≡ 0) ⊎ (q.params ≡ length q.args.items)
        → (q.params ≡ 0) ⊎ (q.params ≡ count_of (plain_patterns q.args.items))
    go (inl none) = inl none
    go (inr many) = inr (many ∙ sym (count_patterns q.args.items))

-- ---- the equations of a function

lists_item : (lists : List (Vec Equation Global)) (f : ℕ) (es : Vec Equation Global)
    → slice_get lists f ≡ Some es
    → slice_index_or (map (λ (v : Vec Equation Global). map function_equation v.items) lists) f []
    ≡ map function_equation es.items
lists_item [] f es at = absurd (none_some es at)
lists_item (v ∷ lists) zero es at =
    ap (λ (x : Vec Equation Global). map function_equation x.items) (some_same v es at)
lists_item (v ∷ lists) (suc f) es at = lists_item lists f es at

pub of-function : (program : Program) (f : ℕ) (es : Vec Equation Global)
    → slice_get program.equations.items f ≡ Some es
    → equations_of (theory_of program) f ≡ map function_equation es.items
of-function program f es at = lists_item program.equations.items f es at

equation_item : (es : List Equation) (i : ℕ) (q : Equation) → slice_get es i ≡ Some q
    → slice_get (map function_equation es) i ≡ Some (function_equation q)
equation_item [] i q at = absurd (none_some q at)
equation_item (e ∷ es) zero q at = ap (λ (x : Equation). Some (function_equation x)) (some_same e q at)
equation_item (e ∷ es) (suc i) q at = equation_item es i q at

pub plain-at : (program : Program) (f i : ℕ) (q : Equation) → IsEquationAt program f i q
    → slice_get (equations_of (theory_of program) f) i ≡ Some (function_equation q)
plain-at program f i q (es, list, at) =
    ap (λ (xs : List PlainEquation). slice_get xs i) (of-function program f es list)
    ∙ equation_item es.items i q at

pub equation-for : (program : Program) (f i : ℕ) (q : Equation) → IsDefined program.sig f
    → IsEquationAt program f i q → IsEquationFor (theory_of program) f (function_equation q)
equation-for program f i q (info, symbol, kind) at = record {
  info = info;
  function = symbol;
  by_equations = kind;
  listed = there (equations_of (theory_of program) f) i (function_equation q)
      (plain-at program f i q at);
}

-- over the equations as the code has them
of-items : (program : Program) (f : ℕ) (es : Vec Equation Global) (items : List Equation)
    → slice_get program.equations.items f ≡ Some es → items ≡ es.items
    → map function_equation items ≡ equations_of (theory_of program) f
of-items program f es items at same =
    ap (map function_equation) same ∙ sym (of-function program f es at)

pub equation-ready-items : (program : Program) (f i : ℕ) (q : Equation) (es : Vec Equation Global)
    (items : List Equation) → IsWellSorted (theory_of program) → HasBoundVariables program
    → IsDefined program.sig f → slice_get program.equations.items f ≡ Some es → items ≡ es.items
    → slice_get es.items i ≡ Some q
    → HasEquationImage program.sig (map function_equation items) q.fun.0 (function_equation q)
equation-ready-items program f i q es items sorted bounds defined list same at =
    let place : IsEquationAt program f i q = (es, list, at) in
    let bound : IsBoundEquation f q = bounds.equations f i q place in
    subst (λ (xs : List PlainEquation).
    HasEquationImage program.sig xs q.fun.0 (function_equation q))
    (sym (of-items program f es items list same))
    (subst (λ (g : ℕ). HasEquationImage program.sig (equations_of (theory_of program) f) g
    (function_equation q)) (sym bound.own)
    (equation-ready program f i q sorted bounds place (equation-for program f i q defined place)))

pub image-of-items : (program : Program) (names : List Token) (f i : ℕ) (q : Equation)
    (es : Vec Equation Global) (items : List Equation) (p : Pattern) → HasBoundVariables program
    → slice_get program.equations.items f ≡ Some es → items ≡ es.items
    → slice_get es.items i ≡ Some q
    → IsImageOf program.sig names (SaysEquation program.sig (map function_equation items) q.fun.0
    (function_equation q)) p
    → IsImageOf program.sig names (SaysEquation program.sig (equations_of (theory_of program) f) f
    (function_equation q)) p
image-of-items program names f i q es items p bounds list same at made =
    let bound : IsBoundEquation f q = bounds.equations f i q (es, list, at) in
    subst (λ (g : ℕ). IsImageOf program.sig names
    (SaysEquation program.sig (equations_of (theory_of program) f) g (function_equation q)) p)
    bound.own
    (subst (λ (xs : List PlainEquation). IsImageOf program.sig names
    (SaysEquation program.sig xs q.fun.0 (function_equation q)) p)
    (of-items program f es items list same) made)

equation-next : (theory : RewriteTheory) (f n : ℕ) (e : PlainEquation)
    → slice_get (equations_of theory f) n ≡ Some e → (s : Sentence)
    → IsBeforeEquation theory f (n + 1) s
    → IsBeforeEquation theory f n s ⊎ SaysEquation theory.sig (equations_of theory f) f e s
equation-next theory f n e at s (inl before) = inl (inl before)
equation-next theory f n e at s (inr (k, q, lt, is, own, says)) =
    elim (eq-or-lt_of_le (next_le k n lt)) as (λ (o : (k ≡ n) ⊎ (k < n)).
    IsBeforeEquation theory f n s ⊎ SaysEquation theory.sig (equations_of theory f) f e s) [
      | inl same ↦ inr (subst (λ (x : PlainEquation).
          SaysEquation theory.sig (equations_of theory f) f x s)
          (some_same q e (sym is ∙ ap (slice_get (equations_of theory f)) same ∙ at)) says)
      | inr less ↦ inl (inr (k, q, less, is, own, says))
    ]
  where
    next_le : (k n : ℕ) → k < n + 1 → k ≤ n
    next_le k n lt = omega (arith, lt)

pub equation-listed : (program : Program) (old new : List Token) (images : List Pattern) (f i : ℕ)
    (q : Equation) (p : Pattern) → IsDefined program.sig f → IsEquationAt program f i q
    → Lists (theory_of program) old (IsBeforeEquation (theory_of program) f i) images
    → HasGained program.sig old new
    → IsImageOf program.sig new
    (SaysEquation program.sig (equations_of (theory_of program) f) f (function_equation q)) p
    → Lists (theory_of program) new (IsBeforeEquation (theory_of program) f (i + 1))
    (images ++ p ∷ [])
equation-listed program old new images f i q p defined at lists gained made =
    let theory : RewriteTheory = theory_of program in
    let e : PlainEquation = function_equation q in
    listed-more theory old new (IsBeforeEquation theory f i) (IsBeforeEquation theory f (i + 1))
    (SaysEquation program.sig (equations_of theory f) f e) images p lists gained
    (λ s h. inr (f, e, equation-for program f i q defined at, h))
    (equation-unique program.sig (equations_of theory f) f e)
    (equation-next theory f i e (plain-at program f i q at)) made

pub no-equation : (theory : RewriteTheory) (names : List Token) (f : ℕ) (images : List Pattern)
    → Lists theory names (IsBefore theory f) images
    → Lists theory names (IsBeforeEquation theory f 0) images
no-equation theory names f images =
    listed-for theory names (IsBefore theory f) (IsBeforeEquation theory f 0) images go
  where
    go : (s : Sentence) → IsBeforeEquation theory f 0 s → IsBefore theory f s
    go s (inl h) = h
    go s (inr (k, e, lt, is, own, says)) = absurd (omega (arith, lt))

-- all equations of the function
pub function-listed : (program : Program) (names : List Token) (f n : ℕ) (es : Vec Equation Global)
    (images : List Pattern) → slice_get program.equations.items f ≡ Some es → length es.items ≤ n
    → Lists (theory_of program) names (IsBeforeEquation (theory_of program) f n) images
    → Lists (theory_of program) names (IsBefore (theory_of program) (f + 1)) images
function-listed program names f n es images at all =
    listed-for theory names (IsBeforeEquation theory f n) (IsBefore theory (f + 1)) images go
  where
    theory : RewriteTheory
    theory = theory_of program

    many : length (equations_of (theory_of program) f) ≤ n
    many = subst (λ (k : ℕ). k ≤ n)
        (sym (ap (λ (xs : List PlainEquation). length xs) (of-function program f es at)
        ∙ length-map es.items function_equation)) all

    here : (s : Sentence) (e : PlainEquation) → IsEquationFor (theory_of program) f e
        → SaysEquation program.sig (equations_of (theory_of program) f) f e s
        → IsBeforeEquation (theory_of program) f n s
    here s e own says =
        let i : ℕ = own.listed.0 in
        inr (
          i,
          e,
          omega (arith, own.listed.1, many),
          slice_get-get_or (equations_of (theory_of program) f) i e own.listed.1
              ∙ ap Some own.listed.2,
          own,
          says,
        )

    next_le : (g : ℕ) → g < f + 1 → g ≤ f
    next_le g lt = omega (arith, lt)

    go : (s : Sentence) → IsBefore (theory_of program) (f + 1) s
        → IsBeforeEquation (theory_of program) f n s
    go s (inl rule) = inl (inl rule)
    go s (inr (g, e, lt, own, says)) =
        elim (eq-or-lt_of_le (next_le g lt)) as (λ (o : (g ≡ f) ⊎ (g < f)).
        IsBeforeEquation (theory_of program) f n s) [
          | inl same ↦ here s e
              (subst (λ (x : ℕ). IsEquationFor (theory_of program) x e) same own)
              (subst (λ (x : ℕ). SaysEquation program.sig (equations_of (theory_of program) x) x e s)
              same says)
          | inr less ↦ inl (inr (g, e, less, own, says))
        ]

-- a function that is not defined by equations has none
pub undefined-listed : (theory : RewriteTheory) (names : List Token) (f : ℕ)
    (images : List Pattern) → (IsDefined theory.sig f → ⊥)
    → Lists theory names (IsBefore theory f) images
    → Lists theory names (IsBefore theory (f + 1)) images
undefined-listed theory names f images undefined =
    listed-for theory names (IsBefore theory f) (IsBefore theory (f + 1)) images go
  where
    next_le : (g : ℕ) → g < f + 1 → g ≤ f
    next_le g lt = omega (arith, lt)

    defined : (e : PlainEquation) → IsEquationFor theory f e → IsDefined theory.sig f
    defined e own = (own.info, own.function, own.by_equations)

    go : (s : Sentence) → IsBefore theory (f + 1) s → IsBefore theory f s
    go s (inl rule) = inl rule
    go s (inr (g, e, lt, own, says)) =
        elim (eq-or-lt_of_le (next_le g lt)) as (λ (o : (g ≡ f) ⊎ (g < f)). IsBefore theory f s) [
          | inl same ↦ absurd (undefined (defined e
              (subst (λ (x : ℕ). IsEquationFor theory x e) same own)))
          | inr less ↦ inr (g, e, less, own, says)
        ]

-- ---- all of them

pub only-rules : (theory : RewriteTheory) (names : List Token) (images : List Pattern)
    → Lists theory names (IsRuleAxiom theory) images → Lists theory names (IsBefore theory 0) images
only-rules theory names images =
    listed-for theory names (IsRuleAxiom theory) (IsBefore theory 0) images go
  where
    go : (s : Sentence) → IsBefore theory 0 s → IsRuleAxiom theory s
    go s (inl rule) = rule
    go s (inr (f, e, lt, own, says)) = absurd (omega (arith, lt))

within_lists : (lists : List (List PlainEquation)) (f i : ℕ) (e : PlainEquation)
    → i < length (slice_index_or lists f []) → f < length lists
within_lists [] f i e lt = absurd (omega (arith, lt))
within_lists (es ∷ lists) zero i e lt = omega arith
within_lists (es ∷ lists) (suc f) i e lt = omega (arith, within_lists lists f i e lt)

pub all-listed : (program : Program) (names : List Token) (n : ℕ) (images : List Pattern)
    → length program.equations.items ≤ n
    → Lists (theory_of program) names (IsBefore (theory_of program) n) images
    → Lists (theory_of program) names (IsWritten (theory_of program)) images
all-listed program names n images all =
    listed-for (theory_of program) names (IsBefore (theory_of program) n)
    (IsWritten (theory_of program)) images go
  where
    go : (s : Sentence) → IsWritten (theory_of program) s → IsBefore (theory_of program) n s
    go s (inl rule) = inl rule
    go s (inr (f, e, own, says)) =
        let within : f < length (theory_of program).equations =
        within_lists (theory_of program).equations f own.listed.0 e own.listed.1 in
        inr (
          f,
          e,
          omega (
            arith,
            within,
            all,
            length-map program.equations.items
                (λ (v : Vec Equation Global). map function_equation v.items),
          ),
          own,
          says,
        )
