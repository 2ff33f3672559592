-- The image of an equation, taken apart.
use Rattle.std.proofs.Common.{◌≡◌, ◌≢◌, ◌≤◌, ◌+◌, ◌^◌, ◌⊎◌, ℕ, zero, suc, List, [], ◌∷◌, ◌++◌}
use Rattle.std.proofs.Common.{Option, Some, None, option_map, length, length-append, map, slice_get}
use Rattle.std.proofs.Common.{inl}
use Rattle.std.proofs.Common.{inr, refl, sym, ◌∙◌, ap, subst, arith}
use Rattle.ml_pat.specs.Patterns.{Pattern, not, imp, and, equal, all}
use Rattle.term_core.specs.Patterns.{Pattern as RulePattern, Patterns as RulePatterns, variable}
use Rattle.term_core.specs.Patterns.{domain_value, application, injection, call, no_pattern}
use Rattle.term_core.specs.Patterns.{more_patterns}
use Rattle.term_core.specs.PatternLists.{plain_patterns}
use Rattle.term_core.specs.declared.rule_patterns.RulePat.{RulePat}
use Rattle.rule_core.specs.NamedParts.{Name}
use Rattle.rule_core.specs.Rules.{Equation, Guard}
use Rattle.rule_core.specs.ProgramView.{function_equation}
use Rattle.rule_core.specs.declared.rules.Equation.{Equation as CodeEquation}
use Rattle.rule_core.specs.declared.signature.Signature.{Signature}
use Rattle.rule_core.specs.declared.signature.SymInfo.{SymInfo}
use Rattle.ml_image.specs.Images.{both, image_of, shifted, all_shifted}
use Rattle.ml_image.specs.HasImages as own
use Rattle.ml_image.specs.HasImages.{HasImage, HaveImages, HasEquationImage, HasParameters}
use Rattle.ml_image.specs.HasImages.{count_of}
use Rattle.ml_image.specs.LastResorts.{guards_sentence}
use Rattle.ml_image.specs.OwnAxioms.{SaysEquation, direct, kompile, last_resort, Declares}
use Rattle.ml_image.specs.OwnAxioms.{condition_sentence, sort_of, is_true, meets, name_behind}
use Rattle.ml_image.specs.NamedSides.{left_sentence, applied_sides, of_child}
use Rattle.ml_image.specs.Sentences.{Sentence, sentence_image, IsImageOf, term, symbol, apply, top}
use Rattle.ml_image.specs.Sentences.{implies, equals, is_in, for_all, variables, apply_all}
use Rattle.ml_image.specs.Sentences as says
use Rattle.ml_image.proofs.ImageLaws.{some_same}
use Rattle.prove_term.specs.Contexts.{Context}
use Rattle.prove_term.proofs.ImageShapes.{both_some, map_some}
use Rattle.prove_schema.specs.Schemas.{IsBodyFrom, closed, IsSentence}
use Rattle.prove_schema.proofs.OpenLaws.{IsOpenFrom, open_is_body, image_is_open}
use Rattle.prove_schema.proofs.BodyLaws.{sentence_is_body}
use Rattle.prove_schema.proofs.ClosingLaws.{AreNumbers, IsClosed, closed_image, numbers_length}
use Rattle.prove_schema.proofs.SentenceLaws.{IsOpenSentence, sentence_is_open}
use Rattle.prove_schema.proofs.LeftSides.{AreBelow, names_below, of_child_below, side_is_open}
use Rattle.prove_schema.proofs.LeftSides.{left_is_side, applied_is_side}
use Rattle.prove_equation.proofs.GuardLaws.{guards_quantify}

-- ---- one sentence has one condition

imp_same : (p q a b : Pattern) → imp p q ≡ imp a b → (p ≡ a) × (q ≡ b)
imp_same p q a b e = (cc, cc)

all_same : (k n m : ℕ) (p q : Pattern) → all k n p ≡ all k m q → (n ≡ m) × (p ≡ q)
all_same k n m p q e = (cc, cc)

pub closed_same : (k : ℕ) (ns ms : List ℕ) (p q a b : Pattern)
    → closed k ns (imp p q) ≡ closed k ms (imp a b) → (ns ≡ ms) × (p ≡ a) × (q ≡ b)
closed_same k [] [] p q a b e = let s : (p ≡ a) × (q ≡ b) = imp_same p q a b e in (refl, s.0, s.1)
closed_same k [] (m ∷ ms) p q a b e = absurd (differ (closed (k + 1) ms (imp a b)) e)
  where
    differ : (r : Pattern) → imp p q ≡ all k m r → ⊥
    differ r h = cc
closed_same k (n ∷ ns) [] p q a b e = absurd (differ (closed (k + 1) ns (imp p q)) e)
  where
    differ : (r : Pattern) → all k n r ≡ imp a b → ⊥
    differ r h = cc
closed_same k (n ∷ ns) (m ∷ ms) p q a b e =
    let s : (n ≡ m) × (closed (k + 1) ns (imp p q) ≡ closed (k + 1) ms (imp a b)) =
    all_same k n m (closed (k + 1) ns (imp p q)) (closed (k + 1) ms (imp a b)) e in
    let below : (ns ≡ ms) × (p ≡ a) × (q ≡ b) = closed_same (k + 1) ns ms p q a b s.1 in
    (ap (λ (x : ℕ). x ∷ ns) s.0 ∙ ap (λ (xs : List ℕ). m ∷ xs) below.0, below.1, below.2)

-- ---- conditions

-- what a condition says
pub condition_is : (sig : Signature) (vars : List ℕ) (p : RulePattern) (sort : ℕ) (c : Sentence)
    → sort_of sig vars p ≡ Some sort → condition_sentence sig vars (Some p) ≡ Some c → c
    ≡ is_true p sort
condition_is sig vars p sort c sorted is =
    some_same c (is_true p sort) (sym is ∙ ap (option_map (is_true p)) sorted)

pub condition_open : (sig : Signature) (vars : List ℕ) (o : Option RulePattern) (c : Sentence)
    → own.IsCondition sig vars o → condition_sentence sig vars o ≡ Some c
    → IsOpenSentence sig (length vars) c
condition_open sig vars None c h is =
    subst (IsOpenSentence sig (length vars)) (some_same top c is) tt
condition_open sig vars (Some p) c h is =
    subst (IsOpenSentence sig (length vars)) (sym (condition_is sig vars p h.sort c h.sorted is))
    (h.image, h.truths)

-- ---- an equation without parameters

pub record IsDirect (sig : Signature) (names : List (List ℕ)) (f : ℕ) (e : Equation) (p : Pattern) :
    Type 0 where
  pub numbers : List ℕ
  pub are : AreNumbers sig names e.variables numbers
  pub holds : Sentence
  pub is_holds : condition_sentence sig e.variables e.condition ≡ Some holds
  pub condition : Pattern
  pub is_condition : sentence_image sig names holds ≡ Some condition
  pub left : Pattern
  pub left_image : sentence_image sig names (applied_sides e.names 0 (symbol f) e.arguments)
      ≡ Some left
  pub right : Pattern
  pub right_image : image_of sig names e.right ≡ Some right
  pub says : p ≡ closed 0 numbers (imp condition (equal left right))

-- the sides of an implication of an equality
pub record Sides (c l r : Option Pattern) (p : Pattern) : Type 0 where
  pub condition : Pattern
  pub is_condition : c ≡ Some condition
  pub left : Pattern
  pub is_left : l ≡ Some left
  pub right : Pattern
  pub is_right : r ≡ Some right
  pub says : p ≡ imp condition (equal left right)

sides : (c l r : Option Pattern) (p : Pattern) → both imp c (both equal l r) ≡ Some p
    → Sides c l r p
sides c l r p h =
    let w : (x : Pattern) × (y : Pattern) × (c ≡ Some x) × (both equal l r ≡ Some y) ×
    (p ≡ imp x y) =
    both_some imp c (both equal l r) p h in
    let v : (x : Pattern) × (y : Pattern) × (l ≡ Some x) × (r ≡ Some y) × (w.1 ≡ equal x y) =
    both_some equal l r w.1 w.3 in
    record {
      condition = w.0;
      is_condition = w.2;
      left = v.0;
      is_left = v.2;
      right = v.1;
      is_right = v.3;
      says = w.4 ∙ ap (imp w.0) v.4;
    }

pub direct_shape : (sig : Signature) (names : List (List ℕ)) (equations : List Equation) (f : ℕ)
    (e : Equation) (p : Pattern) → e.parameters ≡ 0
    → IsImageOf sig names (SaysEquation sig equations f e) p → IsDirect sig names f e p
direct_shape sig names equations f e p none
    (s, kompile c info sorts sort plain some many declared holds is, image) =
    absurd (some none)
direct_shape sig names equations f e p none
    (s, last_resort guards g c info sorts sort last some many declared tells holds is, image) =
    absurd (some none)
direct_shape sig names equations f e p none (s, direct c plain zero_parameters holds is, image) =
    let side : Sentence = applied_sides e.names 0 (symbol f) e.arguments in
    let body : Sentence = implies c (equals side (term e.right)) in
    let inside : IsClosed sig names 0 e.variables body p =
    closed_image sig names 0 e.variables body p
    (ap (sentence_image sig names) (sym is) ∙ image) in
    let parts : Sides (sentence_image sig names c) (sentence_image sig names side)
    (image_of sig names e.right) inside.body =
    sides (sentence_image sig names c) (sentence_image sig names side)
    (image_of sig names e.right) inside.body inside.is_body in
    record {
      numbers = inside.numbers;
      are = inside.are;
      holds = c;
      is_holds = holds;
      condition = parts.condition;
      is_condition = parts.is_condition;
      left = parts.left;
      left_image = parts.is_left;
      right = parts.right;
      right_image = parts.is_right;
      says = inside.says ∙ ap (closed 0 inside.numbers) parts.says;
    }

pub direct_is_sentence : (sig : Signature) (names : List (List ℕ)) (equations : List Equation)
    (f : ℕ) (e : Equation) (p : Pattern) → HasEquationImage sig equations f e
    → (d : IsDirect sig names f e p)
    → IsSentence d.numbers (imp d.condition (equal d.left d.right)) p
direct_is_sentence sig names equations f e p has d =
    let many : length e.variables ≡ length d.numbers =
    sym (numbers_length sig names e.variables d.numbers d.are) in
    let condition : IsOpenFrom 0 (length e.variables) d.condition =
    sentence_is_open sig names (length e.variables) d.holds
    (condition_open sig e.variables e.condition d.holds has.condition d.is_holds)
    d.condition d.is_condition in
    let side : Sentence = applied_sides e.names 0 (symbol f) e.arguments in
    let left : IsOpenFrom 0 (length e.variables) d.left =
    sentence_is_open sig names (length e.variables) side
    (side_is_open sig (length e.variables) side
    (applied_is_side sig (length e.variables) e.names 0 (symbol f) e.arguments
    (names_below (length e.variables) e.names has.names) tt has.arguments)) d.left d.left_image in
    let right : IsOpenFrom 0 (length e.variables) d.right =
    image_is_open sig names (length e.variables) e.right has.right d.right d.right_image in
    record {
      says = d.says;
      is_open =
          subst (λ (n : ℕ). IsBodyFrom 0 n (imp d.condition (equal d.left d.right))) many
          (open_is_body 0 (length e.variables) (imp d.condition (equal d.left d.right))
          (condition, (left, right)));
    }

-- ---- an equation in the form of kompile

-- The pattern is `inner`, and also says that no guard holds, if there are guards. Their variables
-- are numbered from k.
abbrev pub IsGuarded : Signature → List (List ℕ) → List Equation → ℕ → Option (List Guard) → Pattern
    → Pattern → Type 0
IsGuarded sig names equations k None inner premise = premise ≡ inner
IsGuarded sig names equations k (Some gs) inner premise =
    (s : Sentence) × (g : Pattern) × (guards_sentence sig equations k gs ≡ Some s)
    × (sentence_image sig names s ≡ Some g) × (premise ≡ and (not g) inner)

pub record IsKompile (sig : Signature) (names : List (List ℕ)) (equations : List Equation) (f : ℕ)
    (e : Equation) (p : Pattern) : Type 0 where
  pub info : SymInfo
  pub sorts : List ℕ
  pub sort : ℕ
  pub as_many : e.parameters ≡ length sorts
  pub declared : Declares sig f info sorts sort
  pub numbers : List ℕ
  pub are : AreNumbers sig names (sorts ++ e.variables) numbers
  pub holds : Sentence
  pub is_holds : condition_sentence sig (sorts ++ e.variables)
      (option_map (shifted (length sorts)) e.condition) ≡ Some holds
  pub condition : Pattern
  pub is_condition : sentence_image sig names holds ≡ Some condition
  pub met : Pattern
  pub is_met : sentence_image sig names (meets (map (name_behind (length sorts)) e.names) 0
      (all_shifted (length sorts) e.arguments)) ≡ Some met
  pub premise : Pattern
  pub guarded : IsGuarded sig names equations (length sorts + length e.variables) e.last_resort
      (and condition met) premise
  pub left : Pattern
  pub left_image : sentence_image sig names (apply_all (symbol f) (variables 0 (length sorts)))
      ≡ Some left
  pub right : Pattern
  pub right_image : image_of sig names (shifted (length sorts) e.right) ≡ Some right
  pub says : p ≡ closed 0 numbers (imp premise (equal left right))

-- the sides of a conjunction that may come after a negation
IsPremise : Signature → List (List ℕ) → List Equation → Equation → List ℕ → Sentence → Sentence
    → Type 0
IsPremise sig names equations e sorts c premise =
    (q : Pattern) → sentence_image sig names premise ≡ Some q → (x : Pattern) × (y : Pattern)
    × (sentence_image sig names c ≡ Some x)
    × (sentence_image sig names (meets (map (name_behind (length sorts)) e.names) 0
    (all_shifted (length sorts) e.arguments)) ≡ Some y)
    × IsGuarded sig names equations (length sorts + length e.variables) e.last_resort (and x y) q

kompile_made : (sig : Signature) (names : List (List ℕ)) (equations : List Equation) (f : ℕ)
    (e : Equation) (p : Pattern) (info : SymInfo) (sorts : List ℕ) (sort : ℕ) (c premise : Sentence)
    → e.parameters ≡ length sorts → Declares sig f info sorts sort
    → condition_sentence sig (sorts ++ e.variables)
    (option_map (shifted (length sorts)) e.condition) ≡ Some c
    → IsPremise sig names equations e sorts c premise
    → sentence_image sig names (for_all 0 (sorts ++ e.variables) (implies premise
    (equals (apply_all (symbol f) (variables 0 (length sorts)))
    (term (shifted (length sorts) e.right))))) ≡ Some p
    → IsKompile sig names equations f e p
unfolding IsPremise
kompile_made sig names equations f e p info sorts sort c premise many declared holds parts_of_it
    image =
    let fs : Sentence = apply_all (symbol f) (variables 0 (length sorts)) in
    let body : Sentence = implies premise (equals fs (term (shifted (length sorts) e.right))) in
    let inside : IsClosed sig names 0 (sorts ++ e.variables) body p =
    closed_image sig names 0 (sorts ++ e.variables) body p image in
    let parts : Sides (sentence_image sig names premise)
    (sentence_image sig names fs) (image_of sig names (shifted (length sorts) e.right))
    inside.body =
    sides (sentence_image sig names premise)
    (sentence_image sig names fs) (image_of sig names (shifted (length sorts) e.right))
    inside.body inside.is_body in
    let w : (x : Pattern) × (y : Pattern) × (sentence_image sig names c ≡ Some x) ×
    (sentence_image sig names (meets (map (name_behind (length sorts)) e.names) 0
    (all_shifted (length sorts) e.arguments)) ≡ Some y) ×
    IsGuarded sig names equations (length sorts + length e.variables) e.last_resort (and x y)
    parts.condition =
    parts_of_it parts.condition parts.is_condition in
    record {
      info = info;
      sorts = sorts;
      sort = sort;
      as_many = many;
      declared = declared;
      numbers = inside.numbers;
      are = inside.are;
      holds = c;
      is_holds = holds;
      condition = w.0;
      is_condition = w.2;
      met = w.1;
      is_met = w.3;
      premise = parts.condition;
      guarded = w.4;
      left = parts.left;
      left_image = parts.is_left;
      right = parts.right;
      right_image = parts.is_right;
      says = inside.says ∙ ap (closed 0 inside.numbers) parts.says;
    }

pub kompile_shape : (sig : Signature) (names : List (List ℕ)) (equations : List Equation) (f : ℕ)
    (e : Equation) (p : Pattern) → e.parameters ≢ 0
    → IsImageOf sig names (SaysEquation sig equations f e) p → IsKompile sig names equations f e p
unfolding IsPremise
kompile_shape sig names equations f e p some
    (s, direct c plain zero_parameters holds is, image) =
    absurd (some zero_parameters)
kompile_shape sig names equations f e p some
    (s, kompile c info sorts sort plain other many declared holds is, image) =
    let ms : Sentence =
    meets (map (name_behind (length sorts)) e.names) 0 (all_shifted (length sorts) e.arguments) in
    kompile_made sig names equations f e p info sorts sort c (says.and c ms) many declared holds
    (λ q made.
    let w : (x : Pattern) × (y : Pattern) × (sentence_image sig names c ≡ Some x) ×
    (sentence_image sig names ms ≡ Some y) × (q ≡ and x y) =
    both_some and (sentence_image sig names c) (sentence_image sig names ms) q made in (
      w.0,
      w.1,
      w.2,
      w.3,
      subst (λ (l : Option (List Guard)). IsGuarded sig names equations
          (length sorts + length e.variables) l (and w.0 w.1) q) (sym plain) w.4,
    )) (ap (sentence_image sig names) (sym is) ∙ image)
kompile_shape sig names equations f e p some
    (s, last_resort guards g c info sorts sort last other many declared tells holds is, image) =
    let ms : Sentence =
    meets (map (name_behind (length sorts)) e.names) 0 (all_shifted (length sorts) e.arguments) in
    kompile_made sig names equations f e p info sorts sort c
    (says.and (says.not g) (says.and c ms)) many declared holds
    (λ q made.
    let v : (x : Pattern) × (y : Pattern) ×
    (option_map not (sentence_image sig names g) ≡ Some x) ×
    (both and (sentence_image sig names c) (sentence_image sig names ms) ≡ Some y) ×
    (q ≡ and x y) =
    both_some and (option_map not (sentence_image sig names g))
    (both and (sentence_image sig names c) (sentence_image sig names ms)) q made in
    let u : (x : Pattern) × (sentence_image sig names g ≡ Some x) × (v.0 ≡ not x) =
    map_some not (sentence_image sig names g) v.0 v.2 in
    let w : (x : Pattern) × (y : Pattern) × (sentence_image sig names c ≡ Some x) ×
    (sentence_image sig names ms ≡ Some y) × (v.1 ≡ and x y) =
    both_some and (sentence_image sig names c) (sentence_image sig names ms) v.1 v.3 in (
      w.0,
      w.1,
      w.2,
      w.3,
      subst (λ (l : Option (List Guard)). IsGuarded sig names equations
          (length sorts + length e.variables) l (and w.0 w.1) q) (sym last) (
            g,
            u.0,
            tells,
            u.1,
            v.4 ∙ ap (λ (a : Pattern). and a v.1) u.2 ∙ ap (and (not u.0)) w.4,
          ),
    )) (ap (sentence_image sig names) (sym is) ∙ image)

-- patterns after parameters
mutual
  pub shifted_has : (sig : Signature) (k n : ℕ) (p : RulePattern) → HasImage sig n p
      → HasImage sig (k + n) (shifted k p)
  shifted_has sig k n (variable x) h = omega (arith, h)
  shifted_has sig k n (domain_value s v) h = h
  shifted_has sig k n (application f ps) h = (h.0, all_shifted_have sig k n ps h.1)
  shifted_has sig k n (injection a b p) h = (h.0, h.1, shifted_has sig k n p h.2)
  shifted_has sig k n (call f ss ps) h = (h.0, h.1, all_shifted_have sig k n ps h.2)

  pub all_shifted_have : (sig : Signature) (k n : ℕ) (ps : RulePatterns) → HaveImages sig n ps
      → HaveImages sig (k + n) (all_shifted k ps)
  all_shifted_have sig k n no_pattern h = tt
  all_shifted_have sig k n (more_patterns p ps) h =
      (shifted_has sig k n p h.0, all_shifted_have sig k n ps h.1)

pub behind : (sorts vars : List ℕ) (x : ℕ)
    → slice_get (sorts ++ vars) (length sorts + x) ≡ slice_get vars x
behind [] vars x = ap (slice_get vars) (omega arith)
behind (s ∷ sorts) vars x =
    let further : length (s ∷ sorts) + x ≡ suc (length sorts + x) = omega arith in
    ap (slice_get (s ∷ (sorts ++ vars))) further ∙ behind sorts vars x

pub sort_of-behind : (sig : Signature) (sorts vars : List ℕ) (p : RulePattern)
    → sort_of sig (sorts ++ vars) (shifted (length sorts) p) ≡ sort_of sig vars p
sort_of-behind sig sorts vars (variable x) = behind sorts vars x
sort_of-behind sig sorts vars (domain_value s v) = refl
sort_of-behind sig sorts vars (application f ps) = refl
sort_of-behind sig sorts vars (injection a b p) = refl
sort_of-behind sig sorts vars (call f ss ps) = refl

pub condition_behind : (sig : Signature) (sorts vars : List ℕ) (o : Option RulePattern)
    → own.IsCondition sig vars o
    → own.IsCondition sig (sorts ++ vars) (option_map (shifted (length sorts)) o)
condition_behind sig sorts vars None h = tt
condition_behind sig sorts vars (Some p) h = record {
  image =
      subst (λ (n : ℕ). HasImage sig n (shifted (length sorts) p)) (sym (length-append sorts vars))
      (shifted_has sig (length sorts) (length vars) p h.image);
  sort = h.sort;
  sorted = sort_of-behind sig sorts vars p ∙ h.sorted;
  truths = h.truths;
}

pub names_behind : (k n : ℕ) (names : List Name) → AreBelow n names
    → AreBelow (k + n) (map (name_behind k) names)
names_behind k n [] h = tt
names_behind k n (m ∷ names) h = (omega (arith, h.0), names_behind k n names h.1)

meets_open : (sig : Signature) (n : ℕ) (names : List Name) (j : ℕ) (ps : RulePatterns)
    → AreBelow n names → HaveImages sig n ps → j + count_of ps ≤ n
    → IsOpenSentence sig n (meets names j ps)
meets_open sig n names j no_pattern low h few = tt
meets_open sig n names j (more_patterns p ps) low h few = (
  (
    omega (arith, few),
    side_is_open sig n (left_sentence (of_child j names) p)
        (left_is_side sig n (of_child j names) p (of_child_below n j names low) h.0),
  ),
  meets_open sig n names (j + 1) ps low h.1 (omega (arith, few)),
)

applied_open : (sig : Signature) (n m j : ℕ) (s : Sentence) → IsOpenSentence sig n s → j + m ≤ n
    → IsOpenSentence sig n (apply_all s (variables j m))
applied_open sig n zero j s h few = h
applied_open sig n (suc m) j s h few =
    applied_open sig n m (j + 1) (apply s (term (variable j))) (h, omega (arith, few))
    (omega (arith, few))

count_shifted : (k : ℕ) (ps : RulePatterns) → count_of (all_shifted k ps) ≡ count_of ps
count_shifted k no_pattern = refl
count_shifted k (more_patterns p ps) = ap suc (count_shifted k ps)

has_parameters : (sig : Signature) (equations : List Equation) (f : ℕ) (e : Equation)
    → e.parameters ≢ 0 → HasEquationImage sig equations f e → HasParameters sig f e
has_parameters sig equations f e some has = go has.parameters
  where
    go : (e.parameters ≡ 0) ⊎ HasParameters sig f e → HasParameters sig f e
    go (inl none) = absurd (some none)
    go (inr h) = h

count_plain : (ps : List RulePat) → count_of (plain_patterns ps) ≡ length ps
count_plain [] = refl
count_plain (p ∷ ps) = ap suc (count_plain ps)

-- an equation in the form of kompile has one parameter for each argument, so it has few arguments
pub few_arguments : (cx : Context) (equations : List Equation) (e : CodeEquation)
    (ps : List RulePat)
    → HasEquationImage cx.program.sig equations e.fun.0 (function_equation e) → e.params ≢ 0
    → ps ≡ e.args.items → length ps ≤ 2 ^ 32
few_arguments cx equations e ps has some same =
    let params : HasParameters cx.program.sig e.fun.0 (function_equation e) =
    has_parameters cx.program.sig equations e.fun.0 (function_equation e) some has in
    omega (arith, has.few, params.each, count_plain e.args.items, ap length same)

-- what an equation requires is the body of a schema
guarded_body : (sig : Signature) (names : List (List ℕ)) (equations : List Equation) (n k : ℕ)
    (l : Option (List Guard)) (inner premise : Pattern) → n ≤ k
    → IsGuarded sig names equations k l inner premise → IsBodyFrom 0 n inner
    → IsBodyFrom 0 n premise
guarded_body sig names equations n k None inner premise low is body =
    subst (IsBodyFrom 0 n) (sym is) body
guarded_body sig names equations n k (Some gs) inner premise low (s, g, tells, image, is) body =
    subst (IsBodyFrom 0 n) (sym is) (
      sentence_is_body sig names n s (guards_quantify sig equations n k gs s low tells) g image,
      body,
    )

pub kompile_is_sentence : (sig : Signature) (names : List (List ℕ)) (equations : List Equation)
    (f : ℕ) (e : Equation) (p : Pattern) → e.parameters ≢ 0 → HasEquationImage sig equations f e
    → (d : IsKompile sig names equations f e p)
    → IsSentence d.numbers (imp d.premise (equal d.left d.right)) p
kompile_is_sentence sig names equations f e p some has d =
    let k : ℕ = length d.sorts in
    let both_sorts : List ℕ = d.sorts ++ e.variables in
    let total : length (d.sorts ++ e.variables) ≡ length d.sorts + length e.variables =
    length-append d.sorts e.variables in
    let params : HasParameters sig f e = has_parameters sig equations f e some has in
    let enough : count_of e.arguments ≡ length d.sorts = sym params.each ∙ d.as_many in
    let many : length (d.sorts ++ e.variables) ≡ length d.numbers =
    sym (numbers_length sig names (d.sorts ++ e.variables) d.numbers d.are) in
    let condition : IsOpenFrom 0 (length (d.sorts ++ e.variables)) d.condition =
    sentence_is_open sig names (length (d.sorts ++ e.variables)) d.holds
    (condition_open sig (d.sorts ++ e.variables) (option_map (shifted (length d.sorts)) e.condition)
    d.holds (condition_behind sig d.sorts e.variables e.condition has.condition) d.is_holds)
    d.condition d.is_condition in
    let args : HaveImages sig (length (d.sorts ++ e.variables))
    (all_shifted (length d.sorts) e.arguments) =
    subst (λ (n : ℕ). HaveImages sig n (all_shifted (length d.sorts) e.arguments)) (sym total)
    (all_shifted_have sig (length d.sorts) (length e.variables) e.arguments has.arguments) in
    let inside : List Name = map (name_behind (length d.sorts)) e.names in
    let low : AreBelow (length (d.sorts ++ e.variables)) inside =
    subst (λ (n : ℕ). AreBelow n inside) (sym total)
    (names_behind (length d.sorts) (length e.variables) e.names
    (names_below (length e.variables) e.names has.names)) in
    let met : IsOpenFrom 0 (length (d.sorts ++ e.variables)) d.met =
    sentence_is_open sig names (length (d.sorts ++ e.variables))
    (meets inside 0 (all_shifted (length d.sorts) e.arguments))
    (meets_open sig (length (d.sorts ++ e.variables)) inside 0
    (all_shifted (length d.sorts) e.arguments) low args
    (omega (arith, total, enough, count_shifted (length d.sorts) e.arguments))) d.met d.is_met in
    let left : IsOpenFrom 0 (length (d.sorts ++ e.variables)) d.left =
    sentence_is_open sig names (length (d.sorts ++ e.variables))
    (apply_all (symbol f) (variables 0 (length d.sorts)))
    (applied_open sig (length (d.sorts ++ e.variables)) (length d.sorts) 0 (symbol f) tt
    (omega (arith, total))) d.left d.left_image in
    let right : IsOpenFrom 0 (length (d.sorts ++ e.variables)) d.right =
    image_is_open sig names (length (d.sorts ++ e.variables)) (shifted (length d.sorts) e.right)
    (subst (λ (n : ℕ). HasImage sig n (shifted (length d.sorts) e.right)) (sym total)
    (shifted_has sig (length d.sorts) (length e.variables) e.right has.right)) d.right
    d.right_image in
    record {
      says = d.says;
      is_open =
          subst (λ (n : ℕ). IsBodyFrom 0 n (imp d.premise (equal d.left d.right))) many (
            guarded_body sig names equations (length (d.sorts ++ e.variables))
                (length d.sorts + length e.variables) e.last_resort (and d.condition d.met)
                d.premise (omega (arith, total)) d.guarded
                (open_is_body 0 (length (d.sorts ++ e.variables)) (and d.condition d.met)
                (condition, met)),
            open_is_body 0 (length (d.sorts ++ e.variables)) (equal d.left d.right) (left, right),
          );
    }

-- ---- both

-- the sentence says something under a condition
pub record IsImplied (p : Pattern) : Type 0 where
  pub numbers : List ℕ
  pub condition : Pattern
  pub equality : Pattern
  pub closes : IsSentence numbers (imp condition equality) p

zero_or : (n : ℕ) → (n ≡ 0) ⊎ (n ≢ 0)
zero_or zero = inl refl
zero_or (suc n) = inr (λ e. omega (arith, e))

pub equation_implied : (sig : Signature) (names : List (List ℕ)) (equations : List Equation)
    (f : ℕ) (e : Equation) (p : Pattern) → HasEquationImage sig equations f e
    → IsImageOf sig names (SaysEquation sig equations f e) p → IsImplied p
equation_implied sig names equations f e p has image = go (zero_or e.parameters)
  where
    go : (e.parameters ≡ 0) ⊎ (e.parameters ≢ 0) → IsImplied p
    go (inl none) =
        let d : IsDirect sig names f e p = direct_shape sig names equations f e p none image in
        record {
          numbers = d.numbers;
          condition = d.condition;
          equality = equal d.left d.right;
          closes = direct_is_sentence sig names equations f e p has d;
        }
    go (inr some) =
        let d : IsKompile sig names equations f e p =
        kompile_shape sig names equations f e p some image in
        record {
          numbers = d.numbers;
          condition = d.premise;
          equality = equal d.left d.right;
          closes = kompile_is_sentence sig names equations f e p some has d;
        }
