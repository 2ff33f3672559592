-- Used equations: their places, and what they say.
use Rattle.std.proofs.Common.{◌≡◌, ◌<◌, ℕ, zero, suc, List, [], ◌∷◌, ◌++◌, Option, Some, None}
use Rattle.std.proofs.Common.{length, map, option_map, get_or, slice_get, take, inl, inr, refl, sym}
use Rattle.std.proofs.Common.{◌∙◌, ap, subst, arith}
use Rattle.std.specs.Prelude.{true, Vec, slice_index_or, ◌⊎◌, ◌≢◌, ◌+◌, ◌^◌, IfSome, All}
use Rattle.std.specs.Global.{Global}
use Rattle.std.proofs.lemmas.Option.{slice_get-get_or}
use Rattle.ml_pat.specs.Patterns.{Pattern}
use Rattle.ml_kernel.specs.Lemmas.{HasNoVariable}
use Rattle.ml_kernel.specs.Theorems.{Theorem}
use Rattle.term_core.specs.Terms.{Tree, Forest, more_trees, leaf, truth}
use Rattle.term_core.specs.Forests.{forest}
use Rattle.term_core.specs.Patterns.{Pattern as RulePattern}
use Rattle.term_core.specs.PatternLists.{plain_patterns}
use Rattle.term_core.specs.RulePatterns.{plain_pattern}
use Rattle.term_core.specs.declared.rule_patterns.RulePat.{RulePat}
use Rattle.rule_core.specs.Rules.{Equation as PlainEquation, Guard}
use Rattle.rule_core.specs.Theories.{equations_of}
use Rattle.rule_core.specs.Sorting.{HasSort, IsTermOf}
use Rattle.rule_core.specs.Matching.{MatchNamed}
use Rattle.rule_core.specs.BoundVariables.{IsBoundEquation, IsEquationAt}
use Rattle.rule_core.specs.Evaluation.{IsTrueValue, MatchesBy}
use Rattle.rule_core.specs.ProgramView.{theory_of, function_equation, names_of, sorts_of}
use Rattle.rule_core.specs.Records.{Record, RecordList, OptionalRecord, Miss, unconditional}
use Rattle.rule_core.specs.Records.{RecordsCondition, no_record, more_records, result_of}
use Rattle.rule_core.specs.Records.{results_of}
use Rattle.rule_core.specs.Guards.{IsGuardAmong, AreGuards, after_guards}
use Rattle.rule_core.specs.declared.signature.Signature.{Signature}
use Rattle.rule_core.specs.declared.rules.Equation.{Equation}
use Rattle.rule_core.specs.declared.rules.Program.{Program}
use Rattle.ml_image.specs.HasImages.{HasEquationImage, HasFittingGuards, IsGuard, count_of}
use Rattle.ml_image.specs.OwnAxioms.{IsEquationFor}
use Rattle.ml_image.proofs.ConditionLaws.{length-sorts_of}
use Rattle.ml_image.proofs.WellSortedLaws.{equation_has_image}
use Rattle.prove_term.specs.Contexts.{Context, HasGrown, StaysIn}
use Rattle.prove_term.specs.Filling.{filled}
use Rattle.prove_term.specs.Values.{SaysEquationAt, SaysValue}
use Rattle.prove_term.proofs.ContextLaws.{contains_there, grown_twice, image_grown}
use Rattle.ml_image.specs.Sentences.{term}
use Rattle.prove_equation.specs.Conditions.{BindsEach, ListEachVariable, SaysCondition}
use Rattle.prove_equation.proofs.GuardLaws.{guards_list_each}
use Rattle.prove_fun.specs.RecordParts.{listed}
use Rattle.prove_fun.specs.Evaluating.{IsSortedAndBound, IsImage, IsRecorded, HasEqual, Equates}
use Rattle.prove_fun.specs.Evaluating.{SaysCall}
use Rattle.prove_fun.specs.Using.{IsUse, SaysConditionAt}
use Rattle.prove_fun.proofs.Equalities.{has_equal_grown}
use Rattle.prove_fun.proofs.Items.{item_taken}
use Rattle.prove_fun.proofs.Recording.{result_good}

-- ---- the place of an equation

equation_item : (es : List Equation) (i : ℕ) (q : Equation) → slice_get es i ≡ Some q
    → slice_get (map function_equation es) i ≡ Some (function_equation q)
equation_item [] i q there = absurd (let no : ⊥ = cc in no)
equation_item (e ∷ es) zero q there =
    let same : e ≡ q = cc in ap (λ (x : Equation). Some (function_equation x)) same
equation_item (e ∷ es) (suc i) q there = equation_item es i q there

lists_item : (lists : List (Vec Equation Global)) (f : ℕ) (es : Vec Equation Global)
    → slice_get lists f ≡ Some es
    → slice_index_or (map (λ (v : Vec Equation Global). map function_equation v.items) lists) f []
    ≡ map function_equation es.items
lists_item [] f es there = absurd (let no : ⊥ = cc in no)
lists_item (v ∷ lists) zero es there =
    let same : v ≡ es = cc in ap (λ (x : Vec Equation Global). map function_equation x.items) same
lists_item (v ∷ lists) (suc f) es there = lists_item lists f es there

-- the plain equation of an equation of the code
pub plain_there : (program : Program) (f i : ℕ) (q : Equation) → IsEquationAt program f i q
    → slice_get (equations_of (theory_of program) f) i ≡ Some (function_equation q)
plain_there program f i q (es, list, there) =
    ap (λ (xs : List PlainEquation). slice_get xs i) (lists_item program.equations.items f es list)
    ∙ equation_item es.items i q there

-- each plain equation is that of an equation of the code at the same place
lists_found : (lists : List (Vec Equation Global)) (f i : ℕ) (e : PlainEquation)
    → slice_get (slice_index_or
    (map (λ (v : Vec Equation Global). map function_equation v.items) lists) f []) i
    ≡ Some e
    → (es : Vec Equation Global) × (slice_get lists f ≡ Some es) × (i < length es.items)
lists_found [] f i e there = absurd (let no : ⊥ = cc in no)
lists_found (v ∷ lists) zero i e there = (v, refl, item_found v.items i there)
  where
    item_found : (es : List Equation) (i : ℕ) → slice_get (map function_equation es) i ≡ Some e
        → i < length es
    item_found [] i there = absurd (let no : ⊥ = cc in no)
    item_found (x ∷ es) zero there = omega arith
    item_found (x ∷ es) (suc i) there = omega (arith, item_found es i there)
lists_found (v ∷ lists) (suc f) i e there = lists_found lists f i e there

pub code_found : (program : Program) (f i : ℕ) (e : PlainEquation)
    → slice_get (equations_of (theory_of program) f) i ≡ Some e
    → (es : Vec Equation Global) × (slice_get program.equations.items f ≡ Some es)
    × (i < length es.items)
code_found program f i e there = lists_found program.equations.items f i e there

pub same_equation : (program : Program) (f i : ℕ) (q : Equation) (e : PlainEquation)
    → IsEquationAt program f i q → slice_get (equations_of (theory_of program) f) i ≡ Some e
    → function_equation q ≡ e
same_equation program f i q e at there =
    let both : Some (function_equation q) ≡ Some e = sym (plain_there program f i q at) ∙ there in
    first (function_equation q) e both
  where
    first : (x y : PlainEquation) → Some x ≡ Some y → x ≡ y
    first x y e = cc

-- ---- the requirements of a use

pub used_own : (program : Program) (f : ℕ) (ts : Forest) (i : ℕ) (sigma : List (Option Tree))
    (o : OptionalRecord) (body : Record) (ms : List Miss) (u : IsUse program f ts i sigma o body ms)
    → IsEquationFor (theory_of program) f u.equation
used_own program f ts i sigma o body ms u = record {
  info = u.info;
  function = u.function;
  by_equations = u.by_equations;
  listed = contains_there (equations_of (theory_of program) f) i u.equation u.there;
}

pub binds_each : (program : Program) (f : ℕ) (q : Equation) (ts : Forest)
    (sigma : List (Option Tree)) → IsBoundEquation f q
    → MatchNamed program.sig (sorts_of q.vars.items) (plain_patterns q.args.items)
    (names_of q.named.items) ts sigma
    → BindsEach (sorts_of q.vars.items) sigma
binds_each program f q ts sigma bound matches =
    λ x low.
    (matches.binds.just x).1 (bound.each x (omega (arith, low, length-sorts_of q.vars.items)))

count_patterns : (ps : List RulePat) → count_of (plain_patterns ps) ≡ length ps
count_patterns [] = refl
count_patterns (p ∷ ps) = ap suc (count_patterns ps)

-- ---- guards

-- a guard that repeats one of the equations before another one has an image
is_guard : (n : ℕ) (es : List PlainEquation) (g : Guard) → IsGuardAmong (take n es) g
    → IsGuard es g
is_guard n es g among = record {
  equation = among.equation;
  there = (item_taken n es g.equation among.equation among.there).0;
  order = λ i d lt. (among.each (get_or g.order i d)).0
      (contains_there g.order i (get_or g.order i d)
      (slice_get-get_or g.order i d lt));
}

fitting : (sig : Signature) (n : ℕ) (es : List PlainEquation) (e : PlainEquation)
    → IfSome e.last_resort (AreGuards sig (take n es) e) → HasFittingGuards es e
fitting sig n es e = go e.last_resort
  where
    go : (o : Option (List Guard)) → IfSome o (AreGuards sig (take n es) e)
        → IfSome o (λ (gs : List Guard). (e.parameters ≢ 0) × All (IsGuard es) gs
        × (after_guards (e.parameters + length e.variables) gs < 2 ^ 32))
    go None are = tt
    go (Some gs) are = (
      are.parameters,
      (λ i d lt. is_guard n es (get_or gs i d) (are.each i d lt)),
      are.few,
    )

-- the equation has an image
has_image : (program : Program) (f i : ℕ) (q : Equation) → IsSortedAndBound program
    → IsEquationAt program f i q
    → IsEquationFor (theory_of program) f (function_equation q)
    → HasEquationImage program.sig (equations_of (theory_of program) f) f (function_equation q)
has_image program f i q ready at own =
    let bound : IsBoundEquation f q = ready.bound.equations f i q at in
    equation_has_image (theory_of program) f own.info (function_equation q) ready.well_sorted
    own.function own.by_equations own.listed
    (omega (arith, bound.few, length-sorts_of q.vars.items)) (go bound.parameters)
    (fitting program.sig i (equations_of (theory_of program) f) (function_equation q)
    (ready.bound.guards f i q at))
  where
    go : (q.params ≡ 0) ⊎ (q.params ≡ length q.args.items)
        → (q.params ≡ 0) ⊎ (q.params ≡ count_of (plain_patterns q.args.items))
    go (inl none) = inl none
    go (inr many) = inr (many ∙ sym (count_patterns q.args.items))

-- ---- what the equation says meets the requirements

pub equation_call : (cx : Context) (f : ℕ) (e : PlainEquation) (sigma : List (Option Tree))
    (ts : Forest) (t : Theorem) → (s : SaysEquationAt cx f e sigma ts t.conclusion)
    → StaysIn cx t → SaysCall cx f ts s.right t
equation_call cx f e sigma ts t s stays = record {
  left = s.left;
  left_image = s.left_image;
  closed = s.no_variable.0;
  closed_right = s.no_variable.1;
  equal = record { says = s.says; stays = stays };
}

-- the condition
pub condition_says : (cx : Context) (program : Program) (variables : List ℕ)
    (sigma : List (Option Tree)) (p : RulePattern) (q : Record) (t : Theorem)
    → cx.program ≡ program → (h : IsRecorded program sigma p q) → h.variables ≡ variables
    → IsTrueValue (result_of q) → SaysValue cx sigma p (result_of q) t.conclusion → StaysIn cx t
    → SaysCondition cx variables sigma (Some p) (Some t)
condition_says cx program variables sigma p q t same h own is_true says stays =
    let sorted : IsTermOf program.sig (leaf is_true.0 (truth true)) h.sort =
    subst (λ (x : Tree). IsTermOf program.sig x h.sort) is_true.1
    (result_good program sigma p q h).0 in (
      h.sort,
      subst (λ (pr : Program). HasSort pr.sig variables p h.sort) (sym same)
          (subst (λ (vs : List ℕ). HasSort program.sig vs p h.sort) own h.sorted),
      subst (λ (x : Tree). SaysValue cx sigma p x t.conclusion)
          (is_true.1 ∙ ap (λ (n : ℕ). leaf n (truth true)) sorted.0) says,
      stays,
    )

-- ---- results as terms

pub results_listed : (rs : RecordList) → forest (map result_of (listed rs)) ≡ results_of rs
results_listed no_record = refl
results_listed (more_records r rs) =
    ap (λ (ts : Forest). more_trees (result_of r) ts) (results_listed rs)

pub take_next : (rs : List Record) (i : ℕ) (r : Record) → slice_get rs i ≡ Some r
    → map result_of (take (suc i) rs) ≡ map result_of (take i rs) ++ result_of r ∷ []
take_next [] i r there = absurd (let no : ⊥ = cc in no)
take_next (q ∷ rs) zero r there =
    let same : q ≡ r = cc in ap (λ (x : Record). result_of x ∷ []) same
take_next (q ∷ rs) (suc i) r there =
    ap (λ (ts : List Tree). result_of q ∷ ts) (take_next rs i r there)

pub take_whole : (rs : List Record) (i : ℕ) → i ≡ length rs
    → map result_of (take i rs) ≡ map result_of rs
take_whole rs i is = ap (λ (k : ℕ). map result_of (take k rs)) is ∙ whole rs
  where
    whole : (rs : List Record) → map result_of (take (length rs) rs) ≡ map result_of rs
    whole [] = refl
    whole (r ∷ rs) = ap (λ (ts : List Tree). result_of r ∷ ts) (whole rs)

-- ---- the right side

pub then_parts : (old mid cx : Context) (sigma : List (Option Tree))
    (p e_right q_right : RulePattern) (right image : Pattern) (first : Theorem)
    (second : Option Theorem) → HasGrown old mid → HasGrown mid cx
    → IsImage old (filled sigma e_right) right → e_right ≡ q_right
    → HasEqual mid p right (Some first) → HasEqual cx (filled sigma q_right) image second
    → HasEqual cx p right (Some first) × (Equates cx right image second × HasNoVariable right)
then_parts old mid cx sigma p e_right q_right right image first second g k own is before after =
    let later : IsImage cx (filled sigma q_right) right =
    subst (λ (q : RulePattern). IsImage cx (filled sigma q) right) is (image_grown old cx
    (term (filled sigma e_right)) right (grown_twice old mid cx g k) own) in
    let both : Some after.left ≡ Some right = sym after.left_image ∙ later in (
      has_equal_grown mid cx p right (Some first) k before,
      (
        subst (λ (q : Pattern). Equates cx q image second) (first_same after.left right both)
            after.equates,
        subst HasNoVariable (first_same after.left right both) after.closed,
      ),
    )
  where
    first_same : (p q : Pattern) → Some p ≡ Some q → p ≡ q
    first_same p q e = cc

-- the program stays the same
pub recorded_later : (a b : Context) (theta : List (Option Tree)) (p : RulePattern) (r : Record)
    → HasGrown a b → IsRecorded a.program theta p r → IsRecorded b.program theta p r
recorded_later a b theta p r g h = subst (λ (x : Program). IsRecorded x theta p r) (sym g.program) h

pub use_later : (a b : Context) (f : ℕ) (ts : Forest) (i : ℕ) (sigma : List (Option Tree))
    (o : OptionalRecord) (body : Record) (ms : List Miss) → HasGrown a b → IsUse a.program f ts i sigma o body ms
    → IsUse b.program f ts i sigma o body ms
use_later a b f ts i sigma o body ms g h =
    subst (λ (x : Program). IsUse x f ts i sigma o body ms) (sym g.program) h

pub ready_later : (a b : Context) → HasGrown a b → IsSortedAndBound a.program
    → IsSortedAndBound b.program
ready_later a b g h = subst IsSortedAndBound (sym g.program) h

-- the requirements on an equation of the code
pub used_matches : (program : Program) (f : ℕ) (ts : Forest) (i : ℕ)
    (sigma : List (Option Tree)) (o : OptionalRecord) (body : Record) (ms : List Miss) (q : Equation)
    (u : IsUse program f ts i sigma o body ms) → IsEquationAt program f i q
    → MatchNamed program.sig (sorts_of q.vars.items) (plain_patterns q.args.items)
    (names_of q.named.items) ts sigma
used_matches program f ts i sigma o body ms q u at =
    subst
    (λ (e : PlainEquation). MatchesBy (theory_of program) e ts sigma)
    (sym (same_equation program f i q u.equation at u.there)) u.matches

pub used_right : (program : Program) (f : ℕ) (ts : Forest) (i : ℕ) (sigma : List (Option Tree))
    (o : OptionalRecord) (body : Record) (ms : List Miss) (q : Equation) (u : IsUse program f ts i sigma o body ms)
    → IsEquationAt program f i q → u.equation.right ≡ plain_pattern q.right
used_right program f ts i sigma o body ms q u at =
    ap (λ (e : PlainEquation). e.right) (sym (same_equation program f i q u.equation at u.there))

pub used_condition : (program : Program) (f : ℕ) (ts : Forest) (i : ℕ)
    (sigma : List (Option Tree)) (o : OptionalRecord) (body : Record) (ms : List Miss) (q : Equation)
    (u : IsUse program f ts i sigma o body ms) → IsEquationAt program f i q
    → u.equation.condition ≡ option_map plain_pattern q.cond
used_condition program f ts i sigma o body ms q u at =
    ap (λ (e : PlainEquation). e.condition)
    (sym (same_equation program f i q u.equation at u.there))

-- ---- the requirements on the use of an equation of the code

pub record IsAsked (program : Program) (f : ℕ) (ts : Forest) (i : ℕ)
    (sigma : List (Option Tree)) (q : Equation) : Type 0 where
  pub function : q.fun.0 ≡ f
  pub image : HasEquationImage program.sig (equations_of (theory_of program) q.fun.0) q.fun.0
      (function_equation q)
  pub own : IsEquationFor (theory_of program) q.fun.0 (function_equation q)
  pub there : slice_get (equations_of (theory_of program) q.fun.0) i ≡ Some (function_equation q)
  pub matches : MatchNamed program.sig (sorts_of q.vars.items) (plain_patterns q.args.items)
      (names_of q.named.items) ts sigma
  pub bound : BindsEach (sorts_of q.vars.items) sigma
  pub each : IfSome (function_equation q).last_resort
      (ListEachVariable (equations_of (theory_of program) q.fun.0))

-- each guard lists each variable of the equation that it repeats
list_each : (program : Program) (f i : ℕ) (q : Equation) → IsSortedAndBound program
    → IsEquationAt program f i q
    → IfSome (function_equation q).last_resort
    (ListEachVariable (equations_of (theory_of program) f))
list_each program f i q ready at =
    go (function_equation q).last_resort (ready.bound.guards f i q at)
  where
    go : (o : Option (List Guard))
        → IfSome o (AreGuards program.sig (take i (equations_of (theory_of program) f))
        (function_equation q))
        → IfSome o (ListEachVariable (equations_of (theory_of program) f))
    go None are = tt
    go (Some gs) are =
        guards_list_each program.sig i (equations_of (theory_of program) f) (function_equation q) gs
        are

pub asked : (program : Program) (f : ℕ) (ts : Forest) (i : ℕ) (sigma : List (Option Tree))
    (o : OptionalRecord) (body : Record) (ms : List Miss) (q : Equation) → IsSortedAndBound program
    → IsUse program f ts i sigma o body ms → IsEquationAt program f i q
    → IsAsked program f ts i sigma q
asked program f ts i sigma o body ms q ready u at =
    let bound : IsBoundEquation f q = ready.bound.equations f i q at in
    let own : IsEquationFor (theory_of program) f (function_equation q) =
    subst (λ (e : PlainEquation). IsEquationFor (theory_of program) f e)
    (sym (same_equation program f i q u.equation at u.there))
    (used_own program f ts i sigma o body ms u) in
    let matches = used_matches program f ts i sigma o body ms q u at in
    record {
      function = bound.own;
      image =
          subst (λ (n : ℕ). HasEquationImage program.sig (equations_of (theory_of program) n) n
          (function_equation q)) (sym bound.own) (has_image program f i q ready at own);
      own =
          subst (λ (n : ℕ). IsEquationFor (theory_of program) n (function_equation q))
          (sym bound.own) own;
      there =
          subst (λ (n : ℕ).
          slice_get (equations_of (theory_of program) n) i ≡ Some (function_equation q))
          (sym bound.own) (plain_there program f i q at);
      matches = matches;
      bound = binds_each program f q ts sigma bound matches;
      each =
          subst (λ (n : ℕ). IfSome (function_equation q).last_resort
          (ListEachVariable (equations_of (theory_of program) n))) (sym bound.own)
          (list_each program f i q ready at);
    }

pub asked_later : (a b : Context) (f : ℕ) (ts : Forest) (i : ℕ) (sigma : List (Option Tree))
    (q : Equation) → HasGrown a b → IsAsked a.program f ts i sigma q
    → IsAsked b.program f ts i sigma q
asked_later a b f ts i sigma q g h =
    subst (λ (p : Program). IsAsked p f ts i sigma q) (sym g.program) h

-- ---- the condition of the used equation

pub condition_at : (cx : Context) (program : Program) (f : ℕ) (ts : Forest) (i : ℕ)
    (sigma : List (Option Tree)) (o : OptionalRecord) (body : Record) (ms : List Miss) (t : Option Theorem)
    (u : IsUse program f ts i sigma o body ms) → cx.program ≡ program
    → SaysCondition cx u.equation.variables sigma u.equation.condition t
    → SaysConditionAt cx f i sigma t
condition_at cx program f ts i sigma o body ms t u same h = λ e there.
    let own : slice_get (equations_of (theory_of program) f) i ≡ Some e =
    subst (λ (p : Program). slice_get (equations_of (theory_of p) f) i ≡ Some e) same there in
    subst (λ (x : PlainEquation). SaysCondition cx x.variables sigma x.condition t)
    (first u.equation e (sym u.there ∙ own)) h
  where
    first : (x y : PlainEquation) → Some x ≡ Some y → x ≡ y
    first x y e = cc

pub condition_none : (cx : Context) (variables : List ℕ) (sigma : List (Option Tree))
    (c : Option RulePattern) → c ≡ None → SaysCondition cx variables sigma c None
condition_none cx variables sigma c none =
    subst (λ (x : Option RulePattern). SaysCondition cx variables sigma x None) (sym none) tt

pub condition_missing : (program : Program) (sigma : List (Option Tree)) (c : Option RulePattern)
    (p : RulePattern) (o : OptionalRecord) → c ≡ Some p → o ≡ unconditional
    → RecordsCondition (theory_of program) sigma c o → ⊥
condition_missing program sigma c p o is none held =
    let h : RecordsCondition (theory_of program) sigma (Some p) unconditional =
    subst
    (λ (x : Option RulePattern). RecordsCondition (theory_of program) sigma x unconditional)
    is (subst (RecordsCondition (theory_of program) sigma c) none held) in
    let e : Some p ≡ None = h in
    let no : ⊥ = cc in no
