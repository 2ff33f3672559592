-- Equations of the last resort: renamed variables, what an equation requires, and guards one by
-- one.
use Rattle.std.proofs.Common.{◌≡◌, ◌≢◌, ℕ, ◌+◌, ◌<◌, ◌≤◌, zero, suc, List, []}
use Rattle.std.proofs.Common.{◌∷◌, Option, Some, None, option_map, Result, IfOk, All, length}
use Rattle.std.proofs.Common.{map}
use Rattle.std.proofs.Common.{take, drop, get_or, slice_get, refl, sym, ◌∙◌, ap, subst, arith}
use Rattle.std.specs.Prelude.{◌^◌, IfSome, slice_index_or}
use Rattle.std.proofs.lemmas.List.{drop_more, get_or-map, length-map}
use Rattle.std.proofs.lemmas.Option.{slice_get-map, slice_get_within, get_or_from_slice_get}
use Rattle.ml_pat.specs.Patterns.{Pattern}
use Rattle.ml_pat.specs.Patterns as logic
use Rattle.term_core.specs.Patterns.{Pattern as RulePattern, Patterns as RulePatterns, variable}
use Rattle.term_core.specs.Patterns.{domain_value, application, injection, call, no_pattern}
use Rattle.term_core.specs.Patterns.{more_patterns}
use Rattle.rule_core.specs.NamedParts.{Name}
use Rattle.rule_core.specs.ProgramView.{guard_of, function_equation}
use Rattle.rule_core.specs.Rules.{Equation, Guard}
use Rattle.rule_core.specs.declared.rules.Equation.{Equation as CodeEquation}
use Rattle.rule_core.specs.declared.rules.Guard.{Guard as CodeGuard}
use Rattle.rule_core.specs.Sorting.{AreSorts}
use Rattle.rule_core.specs.declared.signature.Signature.{Signature}
use Rattle.ml_image.specs.Images.{both, renamed, all_renamed}
use Rattle.ml_image.specs.Sentences.{Sentence, bottom, not, and, or, sentence_image, for_some}
use Rattle.ml_image.specs.Sentences.{IsImageOf}
use Rattle.ml_image.specs.Premises.{sort_of, is_true, meets, renamed_name}
use Rattle.ml_image.specs.PartNames.{names_renamed}
use Rattle.ml_image.specs.LastResorts.{number_from, sorts_at, condition_renamed, premise}
use Rattle.ml_image.specs.LastResorts.{guard_sentence, guards_sentence}
use Rattle.ml_image.specs.HasImages.{HasPremise, IsGuard, HasFittingGuards, after_guards}
use Rattle.ml_image.specs.Closing.{ClosesSome}
use Rattle.ml_image.specs.Counted.{IsConditionImage}
use Rattle.ml_image.specs.Held.{without_guards, held}
use Rattle.ml_image.specs.Numbering.{ListsNumbers}
use Rattle.ml_image.specs.Gained.{HasGained}
use Rattle.ml_image.proofs.ImageLaws.{none_some, some_same, if_ok}
use Rattle.ml_image.proofs.NamingLaws.{gained-sentence}
use Rattle.ml_image.proofs.ConditionLaws.{length-sorts_of}

-- ---- renamings that agree

abbrev Agree : (ℕ → ℕ) → (ℕ → ℕ) → Type 0
Agree g h = (x : ℕ) → g x ≡ h x

mutual
  renamed-same : (g h : ℕ → ℕ) → Agree g h → (p : RulePattern) → renamed g p ≡ renamed h p
  renamed-same g h same (variable x) = ap variable (same x)
  renamed-same g h same (domain_value s v) = refl
  renamed-same g h same (application f ps) = ap (application f) (all_renamed-same g h same ps)
  renamed-same g h same (injection a b p) = ap (injection a b) (renamed-same g h same p)
  renamed-same g h same (call f ss ps) = ap (call f ss) (all_renamed-same g h same ps)

  all_renamed-same : (g h : ℕ → ℕ) → Agree g h → (ps : RulePatterns)
      → all_renamed g ps ≡ all_renamed h ps
  all_renamed-same g h same no_pattern = refl
  all_renamed-same g h same (more_patterns p ps) =
      ap (λ (q : RulePattern). more_patterns q (all_renamed g ps)) (renamed-same g h same p)
      ∙ ap (more_patterns (renamed h p)) (all_renamed-same g h same ps)

names-same : (g h : ℕ → ℕ) → Agree g h → (names : List Name)
    → map (renamed_name g) names ≡ map (renamed_name h) names
names-same g h same [] = refl
names-same g h same (n ∷ names) =
    ap (λ (x : ℕ). record n { variable = x } ∷ map (renamed_name g) names) (same n.variable)
    ∙ ap (λ (ns : List Name). renamed_name h n ∷ ns) (names-same g h same names)

condition-same : (sig : Signature) (g h : ℕ → ℕ) → Agree g h → (sorts : List ℕ)
    (o : Option RulePattern) → condition_renamed sig g sorts o ≡ condition_renamed sig h sorts o
condition-same sig g h same sorts None = refl
condition-same sig g h same sorts (Some p) =
    ap (λ (q : RulePattern). option_map (is_true q) (sort_of sig sorts p)) (renamed-same g h same p)

premise-same : (sig : Signature) (g h : ℕ → ℕ) → Agree g h → (e : Equation)
    → premise sig g e ≡ premise sig h e
premise-same sig g h same e =
    ap (λ (ns : List Name). option_map (λ (c : Sentence).
    and c (meets ns 0 (all_renamed g e.arguments))) (condition_renamed sig g e.variables
    e.condition))
    (names-same g h same e.names)
    ∙ ap (λ (ps : RulePatterns). option_map (λ (c : Sentence).
    and c (meets (map (renamed_name h) e.names) 0 ps))
    (condition_renamed sig g e.variables e.condition)) (all_renamed-same g h same e.arguments)
    ∙ ap (option_map (λ (c : Sentence).
    and c (meets (map (renamed_name h) e.names) 0 (all_renamed h e.arguments))))
    (condition-same sig g h same e.variables e.condition)

-- ---- what an equation requires

both_and : (k : Pattern → Pattern → Pattern) (a b : Option Pattern) (p q : Pattern) → a ≡ Some p
    → b ≡ Some q → both k a b ≡ Some (k p q)
both_and k a b p q is_a is_b =
    ap (λ (o : Option Pattern). both k o b) is_a ∙ ap (λ (o : Option Pattern). both k (Some p) o)
    is_b

pub premise_said : {E : Type 0} (sig : Signature) (n1 n2 : List (List ℕ)) (g : ℕ → ℕ)
    (e : Equation) (c m : Pattern) (result : Result Pattern E) → HasGained sig n1 n2
    → IsConditionImage sig n1 e.variables g e.condition c
    → sentence_image sig n2 (meets (names_renamed g e.names) 0 (all_renamed g e.arguments)) ≡ Some m
    → IfOk result (λ p. p ≡ logic.and c m)
    → IfOk result (IsImageOf sig n2 (λ s. premise sig g e ≡ Some s))
premise_said sig n1 n2 g e c m result gained (cs, says, condition) met made =
    if_ok (λ (p : Pattern). p ≡ logic.and c m) (IsImageOf sig n2 (λ s. premise sig g e ≡ Some s))
    result
    (λ p is. (
      and cs (meets (names_renamed g e.names) 0 (all_renamed g e.arguments)),
      ap (option_map (λ (d : Sentence).
          and d (meets (names_renamed g e.names) 0 (all_renamed g e.arguments)))) says,
      both_and logic.and _ _ c m (gained-sentence sig n1 n2 cs gained c condition) met
          ∙ ap (λ (q : Pattern). Some q) (sym is),
    )) made

pub held_plain : (sig : Signature) (names : List (List ℕ)) (equations : List Equation)
    (e : Equation) (p : Pattern) → e.last_resort ≡ None
    → IsImageOf sig names (λ s. premise sig (λ x. e.parameters + x) e ≡ Some s) p
    → IsImageOf sig names (λ s. held sig equations e ≡ Some s) p
held_plain sig names equations e p none (s, says, image) = (
  s,
  subst (λ (o : Option (List Guard)).
      without_guards sig equations (e.parameters + length e.variables) o
      (premise sig (λ x. e.parameters + x) e) ≡ Some s) (sym none) says,
  image,
)

pub held_last : {E : Type 0} (sig : Signature) (n1 n2 : List (List ℕ)) (equations : List Equation)
    (e : Equation) (guards : List Guard) (k : ℕ) (p g n : Pattern) (result : Result Pattern E)
    → HasGained sig n1 n2 → e.last_resort ≡ Some guards → k ≡ e.parameters + length e.variables
    → IsImageOf sig n1 (λ s. premise sig (λ x. e.parameters + x) e ≡ Some s) p
    → IsImageOf sig n2 (λ s. guards_sentence sig equations k guards ≡ Some s) g
    → n ≡ logic.not g → IfOk result (λ q. q ≡ logic.and n p)
    → IfOk result (IsImageOf sig n2 (λ s. held sig equations e ≡ Some s))
held_last sig n1 n2 equations e guards k p g n result gained last first (s, says, image)
    (t, tells, guard) is made =
    let tells' : guards_sentence sig equations (e.parameters + length e.variables) guards ≡ Some t =
    ap (λ (j : ℕ). guards_sentence sig equations j guards) (sym first) ∙ tells in
    let both_say : both and
    (option_map not (guards_sentence sig equations (e.parameters + length e.variables) guards))
    (premise sig (λ x. e.parameters + x) e) ≡ Some (and (not t) s) =
    ap (λ (o : Option Sentence).
    both and (option_map not o) (premise sig (λ x. e.parameters + x) e)) tells'
    ∙ ap (λ (o : Option Sentence). both and (Some (not t)) o) says in
    if_ok (λ (q : Pattern). q ≡ logic.and n p)
    (IsImageOf sig n2 (λ s. held sig equations e ≡ Some s)) result
    (λ q made_is. (
      and (not t) s,
      subst (λ (o : Option (List Guard)).
          without_guards sig equations (e.parameters + length e.variables) o
          (premise sig (λ x. e.parameters + x) e) ≡ Some (and (not t) s)) (sym last) both_say,
      both_and logic.and _ _ (logic.not g) p (ap (option_map logic.not) guard)
          (gained-sentence sig n1 n2 s gained p image)
          ∙ ap (λ (m : Pattern). Some (logic.and m p)) (sym is)
          ∙ ap (λ (r : Pattern). Some r) (sym made_is),
    )) made

-- ---- one guard

pub repeated_said : {E : Type 0} (sig : Signature) (n1 n2 : List (List ℕ)) (first count : ℕ)
    (order numbers sorts : List ℕ) (e : Equation) (p : Pattern) (result : Result Pattern E)
    → ListsNumbers first order count numbers
    → IsImageOf sig n1 (λ s. premise sig (λ x. slice_index_or numbers x 0) e ≡ Some s) p
    → sorts ≡ sorts_at e.variables order → IfOk result (ClosesSome sig n1 n2 first sorts p)
    → IfOk result (IsImageOf sig n2 (λ s. guard_sentence sig first order (Some e) ≡ Some s))
repeated_said sig n1 n2 first count order numbers sorts e p result lists (s, says, image) same
    closes =
    if_ok (ClosesSome sig n1 n2 first sorts p)
    (IsImageOf sig n2 (λ s. guard_sentence sig first order (Some e) ≡ Some s)) result
    (λ q close. (
      for_some first (sorts_at e.variables order) s,
      ap (option_map (for_some first (sorts_at e.variables order)))
          (sym (premise-same sig (λ x. slice_index_or numbers x 0) (number_from first order)
          lists.each e) ∙ says),
      ap (λ (ss : List ℕ). sentence_image sig n2 (for_some first ss s)) (sym same) ∙ close s image,
    )) closes

sort_within : (sig : Signature) (sorts : List ℕ) (x : ℕ) → AreSorts sig sorts → x < length sorts
    → slice_index_or sorts x 0 < length sig.sorts
sort_within sig [] x h low = absurd (omega (arith, low))
sort_within sig (s ∷ sorts) zero h low = h.0
sort_within sig (s ∷ sorts) (suc x) h low = sort_within sig sorts x h.1 (omega (arith, low))

pub listed_are_sorts : (sig : Signature) (sorts order : List ℕ) → AreSorts sig sorts
    → All (λ x. x < length sorts) order → AreSorts sig (sorts_at sorts order)
listed_are_sorts sig sorts [] h within = tt
listed_are_sorts sig sorts (x ∷ xs) h within = (
  sort_within sig sorts x h (within 0 0 (omega arith)),
  listed_are_sorts sig sorts xs h (λ i d low. within (suc i) d (omega (arith, low))),
)

pub listed_many : (sorts order : List ℕ) → length (sorts_at sorts order) ≡ length order
listed_many sorts [] = refl
listed_many sorts (x ∷ xs) = ap suc (listed_many sorts xs)

-- ---- the equation that a guard repeats

one_there : {A : Type 0} (P : A → Type 0) (xs : List A) (i : ℕ) (x : A) → All P xs
    → slice_get xs i ≡ Some x → P x
one_there P xs i x all there =
    subst P (get_or_from_slice_get xs i x x there) (all i x (slice_get_within xs i x there))

plain_there : (es : List CodeEquation) (i : ℕ) (e : CodeEquation) → slice_get es i ≡ Some e
    → slice_get (map function_equation es) i ≡ Some (function_equation e)
plain_there es i e there =
    slice_get-map function_equation es i ∙ ap (option_map function_equation) there

pub guard_order : (es : List CodeEquation) (g : Guard) (e : CodeEquation)
    → IsGuard (map function_equation es) g → slice_get es g.equation ≡ Some e
    → All (λ x. x < length e.vars.items) g.order
guard_order es g e is there =
    let same : is.equation ≡ function_equation e =
    some_same _ _ (sym is.there ∙ plain_there es g.equation e there) in
    let long : length is.equation.variables ≡ length e.vars.items =
    ap (λ (q : Equation). length q.variables) same ∙ length-sorts_of e.vars.items in
    subst (λ (n : ℕ). All (λ x. x < n) g.order) long is.order

pub guard_found : (es : List CodeEquation) (g : Guard) → IsGuard (map function_equation es) g
    → slice_get es g.equation ≡ None → ⊥
guard_found es g is none =
    none_some is.equation
    (sym (slice_get-map function_equation es g.equation ∙ ap (option_map function_equation) none)
    ∙ is.there)

pub each_is : (equations : List Equation) (gs : List CodeGuard) (i : ℕ) (g : CodeGuard)
    → i < length gs → g ≡ get_or gs i g → All (IsGuard equations) (map guard_of gs)
    → IsGuard equations (guard_of g)
each_is equations gs i g low at each =
    subst (λ (h : Guard). IsGuard equations h)
    (get_or-map guard_of gs i g (guard_of g) low ∙ ap guard_of (sym at))
    (each i (guard_of g) (omega (arith, low, length-map gs guard_of)))

pub premise_there : (sig : Signature) (es : List CodeEquation) (i : ℕ) (e : CodeEquation)
    → All (HasPremise sig) (map function_equation es) → slice_get es i ≡ Some e
    → HasPremise sig (function_equation e)
premise_there sig es i e all there =
    one_there (HasPremise sig) (map function_equation es) i (function_equation e) all
    (plain_there es i e there)

-- the guards of an equation fit
pub fitting : (equations : List Equation) (e : Equation) (guards : List Guard)
    → HasFittingGuards equations e → e.last_resort ≡ Some guards
    → (e.parameters ≢ 0) × All (IsGuard equations) guards
    × (after_guards (e.parameters + length e.variables) guards < 2 ^ 32)
fitting equations e guards fits is =
    subst (λ (o : Option (List Guard)). IfSome o (λ (gs : List Guard). (e.parameters ≢ 0)
    × All (IsGuard equations) gs
    × (after_guards (e.parameters + length e.variables) gs < 2 ^ 32))) is fits

-- ---- numbers after guards

pub after_more : (k : ℕ) (gs : List Guard) → k ≤ after_guards k gs
after_more k [] = omega arith
after_more k (g ∷ gs) = omega (arith, after_more (k + length g.order) gs)

pub after_next : (k : ℕ) (gs : List CodeGuard) (j : ℕ) (d : CodeGuard)
    → j < length gs
    → after_guards k (map guard_of (take (j + 1) gs))
    ≡ after_guards k (map guard_of (take j gs)) + length (get_or gs j d).order.items
after_next k [] j d low = absurd (omega (arith, low))
after_next k (g ∷ gs) zero d low = refl
after_next k (g ∷ gs) (suc j) d low =
    let further : suc j + 1 ≡ suc (j + 1) = omega arith in
    ap (λ (n : ℕ). after_guards k (map guard_of (take n (g ∷ gs)))) further
    ∙ after_next (k + length g.order.items) gs j d (omega (arith, low))

pub after_first : (k : ℕ) (gs : List CodeGuard) (j : ℕ)
    → after_guards k (map guard_of (take j gs)) ≤ after_guards k (map guard_of gs)
after_first k [] zero = omega arith
after_first k [] (suc j) = omega arith
after_first k (g ∷ gs) zero = after_more k (map guard_of (g ∷ gs))
after_first k (g ∷ gs) (suc j) = after_first (k + length g.order.items) gs j

pub after_front : (k : ℕ) (gs : List CodeGuard) (j : ℕ) (g : CodeGuard) → j < length gs
    → g ≡ get_or gs j g
    → after_guards k (map guard_of (drop j gs))
    ≡ after_guards (k + length g.order.items) (map guard_of (drop (j + 1) gs))
after_front k gs j g low at =
    ap (λ (hs : List CodeGuard). after_guards k (map guard_of hs))
    (drop_more gs j g low ∙ ap (λ (h : CodeGuard). h ∷ drop (j + 1) gs) (sym at))

-- there is room for the variables of the guards that come next
pub after_low : (k : ℕ) (gs : List CodeGuard) (j : ℕ) (g : CodeGuard) (n : ℕ) → j < length gs
    → g ≡ get_or gs j g → after_guards k (map guard_of (drop j gs)) ≡ n → n < 2 ^ 32
    → k + length g.order.items < 2 ^ 32
after_low k gs j g n low at all few =
    omega (
      arith,
      after_more (k + length g.order.items) (map guard_of (drop (j + 1) gs)),
      after_front k gs j g low at,
      all,
      few,
    )

-- ---- guards one by one

pub guards_none : (sig : Signature) (names : List (List ℕ)) (equations : List Equation) (k : ℕ)
    (gs : List CodeGuard) (made : Pattern) → made ≡ logic.bot
    → IsImageOf sig names (λ s.
    guards_sentence sig equations k (map guard_of (drop (length gs) gs)) ≡ Some s) made
guards_none sig names equations k [] made is = (bottom, refl, ap (λ (p : Pattern). Some p) (sym is))
guards_none sig names equations k (g ∷ gs) made is = guards_none sig names equations k gs made is

pub guards_next : (sig : Signature) (n1 n2 : List (List ℕ)) (equations : List Equation)
    (next old i j : ℕ) (gs : List CodeGuard) (g : CodeGuard) (one made new : Pattern)
    → i ≡ j + 1 → j < length gs → g ≡ get_or gs j g → HasGained sig n1 n2
    → old ≡ next + length g.order.items
    → IsImageOf sig n1 (λ s. guards_sentence sig equations old (map guard_of (drop i gs)) ≡ Some s)
    made
    → IsImageOf sig n2 (λ s. guard_sentence sig next g.order.items
    (slice_get equations g.equation) ≡ Some s) one
    → new ≡ logic.or one made
    → IsImageOf sig n2 (λ s. guards_sentence sig equations next (map guard_of (drop j gs)) ≡ Some s)
    new
guards_next sig n1 n2 equations next old i j gs g one made new is low at gained further
    (s, says, image) (t, tells, guard) made_is =
    let front : drop j gs ≡ g ∷ drop (j + 1) gs =
    drop_more gs j g low ∙ ap (λ (h : CodeGuard). h ∷ drop (j + 1) gs) (sym at) in
    let says' : guards_sentence sig equations (next + length g.order.items)
    (map guard_of (drop (j + 1) gs)) ≡ Some s =
    ap (λ (n : ℕ). guards_sentence sig equations n (map guard_of (drop (j + 1) gs))) (sym further)
    ∙ ap (λ (n : ℕ). guards_sentence sig equations old (map guard_of (drop n gs))) (sym is)
    ∙ says in (
      or t s,
      ap (λ (hs : List CodeGuard). guards_sentence sig equations next (map guard_of hs)) front
          ∙ ap (λ (o : Option Sentence). both or o (guards_sentence sig equations
          (next + length g.order.items) (map guard_of (drop (j + 1) gs)))) tells
          ∙ ap (λ (o : Option Sentence). both or (Some t) o) says',
      both_and logic.or _ _ one made guard (gained-sentence sig n1 n2 s gained made image)
          ∙ ap (λ (p : Pattern). Some p) (sym made_is),
    )
