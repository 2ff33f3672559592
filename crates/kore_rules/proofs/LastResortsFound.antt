-- An axiom is decided to be an equation of a function among other axioms, or not.
use Rattle.std.proofs.Common.{◌≡◌, ◌<◌, ℕ, zero, suc, Bool, true, false, ◌&&◌, List, [], ◌∷◌, map}
use Rattle.std.proofs.Common.{length, Option, Some, None, refl, sym, ap, ◌∙◌, subst, ◌⊎◌, inl}
use Rattle.std.proofs.Common.{inr, arith, All}
use Rattle.std.specs.Prelude.{slice_get, count_by}
use Rattle.std.specs.List.{AllZip, list_any}
use Rattle.std.proofs.lemmas.Bool.{false≢true}
use Rattle.std.proofs.lemmas.List.Elements.{All-head, All-tail}
use Rattle.kore_text.specs.Trees.{SortTree, PatternTree, AxiomDeclaration}
use Rattle.term_core.specs.Patterns.{Pattern, Patterns}
use Rattle.rule_core.proofs.Belows.{both_true, true_both}
use Rattle.rule_core.specs.AcSymbols.{IsAcFree}
use Rattle.rule_core.specs.Rules.{Equation, Guard, ComesBefore}
use Rattle.rule_core.specs.WellSorted.{IsSignature, AreDifferent}
use Rattle.rule_core.specs.declared.signature.Signature.{Signature}
use Rattle.rule_core.specs.declared.signature.SymInfo.{SymInfo}
use Rattle.kore_check.proofs.BuildLaws.{extends-refl}
use Rattle.kore_check.specs.Folds.{Unfoldeds, unfolded}
use Rattle.kore_check.specs.PartNames.{names_in_all, number_of_variable}
use Rattle.kore_check.specs.PatternMeanings.{with_all_variables, AllMean}
use Rattle.kore_check.specs.PatternSorts.{symbol_named}
use Rattle.kore_shapes.specs.Shapes.{Condition}
use Rattle.kore_shapes.specs.LastResorts.{GuardParts, LastResortParts}
use Rattle.kore_shapes.specs.Statements.{StatedEquation}
use Rattle.kore_axioms.specs.AxiomClasses.{equates}
use Rattle.kore_axioms.specs.AxiomClasses.{axiom_class}
use Rattle.kore_axioms.specs.AxiomMeanings.{MeansTest}
use Rattle.kore_axioms.specs.Conditions.{tested_pattern}
use Rattle.kore_axioms.specs.Priorities.{priority_of}
use Rattle.kore_axioms.specs.RuleFaults.{is_bound}
use Rattle.kore_equations.proofs.ClassLaws.{function_declared}
use Rattle.kore_equations.proofs.ClearLaws.{readable_clear}
use Rattle.kore_equations.proofs.ClearParts.{clear_resort_is, resort_readable}
use Rattle.kore_equations.proofs.FineLaws.{fine_sides}
use Rattle.kore_equations.proofs.GuardLaws.{guards_repeat}
use Rattle.kore_equations.proofs.MeantLaws.{none_unreadable_last, resort_same, resort_known}
use Rattle.kore_equations.proofs.OneMeaning.{all_mean_one, test_means_one}
use Rattle.kore_equations.specs.BuiltEquations.{AreFineSides}
use Rattle.kore_equations.specs.ClearEquations.{are_clear, clear_last_resort, are_bound}
use Rattle.kore_equations.specs.EquationMeanings.{MeansEquation}
use Rattle.kore_equations.specs.Guards.{condition_of_guard, QuantifyEach, Repeats, MeansGuard}
use Rattle.kore_equations.specs.Guards.{RepeatsSome}
use Rattle.kore_equations.specs.LastResortEquations.{ComesLast, IsReadableLastResort}
use Rattle.kore_equations.specs.LastResortEquations.{MeansLastResort}
use Rattle.kore_equations.specs.ReadableSides.{all_read, have_good_form, are_sorted, have_good_uses}
use Rattle.kore_equations.specs.ReadableSides.{AreReadable}
use Rattle.kore_rules.specs.AxiomsRead.{AreFew}
use Rattle.kore_rules.specs.ScalarSorts.{is_constructor_kind}
use Rattle.kore_rules.specs.EquationsAmong.{AreOrdinary, is_equation_of, states_last_resort}
use Rattle.kore_rules.specs.EquationsAmong.{IsLastResortAmong, IsEquationAmong, IsUnreadableAmong}
use Rattle.kore_rules.proofs.AmongLaws.{equation_stated, ordinary_one, meaning_states}
use Rattle.kore_rules.proofs.Decisions.{Holds, is_true, as_much, both, each, same_number}
use Rattle.kore_rules.proofs.Decisions.{same_text, same_list, same_option, same_pattern}
use Rattle.kore_rules.proofs.Decisions.{same_patterns, same_name, is_before, are_different}
use Rattle.kore_rules.proofs.KindLaws.{any_found, any_there, constructor_from}
use Rattle.kore_rules.proofs.ListsFound.{AreOne, AreListed, listed}
use Rattle.kore_rules.proofs.MeaningsAreOne.{equates_one, equation_one, orders_one}
use Rattle.kore_rules.proofs.MeaningsFound.{Variables, HaveMeaning, all_meanings}
use Rattle.kore_rules.proofs.RulesFound.{Decided, AreMeant, are_meant, are_faultless, tested_fine}
use Rattle.kore_rules.proofs.RulesFound.{IsMadeOfParts, parts_found, equation_decided}

-- ---- what a guard's patterns and condition mean

record HaveSides (sig : Signature) (vars : Variables) (us : Unfoldeds) (test : Option PatternTree) :
    Type 0 where
  pub arguments : Patterns
  pub means_arguments : AllMean sig vars us arguments
  pub condition : Option Pattern
  pub means_condition : MeansTest sig vars test condition

readable_decided : (sig : Signature) (info : SymInfo) (ps : List PatternTree) (c : Condition)
    → Holds (AreReadable sig info ps c)
readable_decided sig info ps c =
    as_much (λ (h : (have_good_form ps c ≡ true) × ((are_sorted sig info ps c ≡ true)
    × (have_good_uses sig info ps c ≡ true))).
    record { good_form = h.0; sorted = h.1.0; good_uses = h.1.1 })
    (λ r. (r.good_form, (r.sorted, r.good_uses)))
    (both (is_true (have_good_form ps c))
    (both (is_true (are_sorted sig info ps c)) (is_true (have_good_uses sig info ps c))))

sides_found : (sig : Signature) → IsSignature sig → (info : SymInfo) (ps : List PatternTree)
    (c : Condition) → AreReadable sig info ps c
    → HaveSides sig (with_all_variables sig [] (all_read ps)) (all_read ps) (tested_pattern c)
sides_found sig sorted info ps c r = by_test (tested_pattern c) refl where
  us : Unfoldeds
  us = all_read ps

  vars : Variables
  vars = with_all_variables sig [] us

  clear : (are_clear sig info ps c ≡ true) × (is_bound us (tested_pattern c) ≡ true)
  clear = readable_clear sig info ps c r

  fine : AreFineSides sig ps c
  fine = fine_sides sig info ps c clear.0

  arguments : HaveMeaning sig vars us
  arguments = all_meanings sig sorted us [] (are_faultless sig us fine.patterns)

  by_test : (o : Option PatternTree) → tested_pattern c ≡ o → HaveSides sig vars us (tested_pattern c)
  by_test None is = record {
    arguments = arguments.0;
    means_arguments = arguments.1 vars (extends-refl vars);
    condition = None;
    means_condition = subst (λ (o : Option PatternTree). MeansTest sig vars o None) (sym is) tt;
  }
  by_test (Some p) is =
      let good = tested_fine sig (tested_pattern c) fine.test in
      let bound : is_bound us (Some p) ≡ true = ap (is_bound us) (sym is) ∙ clear.1 in
      let meant : AreMeant sig vars (Some p) p =
      are_meant sig sorted us (Some p) p (λ q e. good q (is ∙ e)) (good p is)
      (true_both _ _ bound bound) in
      record {
        arguments = arguments.0;
        means_arguments = arguments.1 vars (extends-refl vars);
        condition = meant.condition;
        means_condition =
            subst (λ (o : Option PatternTree). MeansTest sig vars o meant.condition) (sym is)
            meant.means_condition;
      }

-- ---- the order of quantified variables

none_first : (os : List (Option ℕ)) (order : List ℕ) → (None ∷ os) ≡ map Some order → ⊥
none_first os [] e = let never : ⊥ = cc in never
none_first os (n ∷ order) e = let never : ⊥ = cc in never

later_numbers : (o : Option ℕ) (os : List (Option ℕ)) (order : List ℕ) → (o ∷ os) ≡ map Some order
    → (rest : List ℕ) × (os ≡ map Some rest)
later_numbers o os [] e = absurd (let never : ⊥ = cc in never)
later_numbers o os (n ∷ order) e = (order, (let same : os ≡ map Some order = cc in same))

numbers_decided : (os : List (Option ℕ)) → Decided (λ (order : List ℕ). os ≡ map Some order)
numbers_decided [] = inl ([], refl)
numbers_decided (None ∷ os) = inr (λ order e. none_first os order e)
numbers_decided (Some n ∷ os) = by_rest (numbers_decided os) where
  by_rest : Decided (λ (order : List ℕ). os ≡ map Some order)
      → Decided (λ (order : List ℕ). (Some n ∷ os) ≡ map Some order)
  by_rest (inl (order, is)) = inl (n ∷ order, ap (λ (rest : List (Option ℕ)). Some n ∷ rest) is)
  by_rest (inr none) = inr (λ order e.
      let rest = later_numbers (Some n) os order e in none rest.0 rest.1)

quantify_decided : (sig : Signature) (vars : Variables) (xs : List PatternTree)
    → Decided (λ (order : List ℕ). QuantifyEach sig vars xs order)
quantify_decided sig vars xs = by_numbers (numbers_decided os) where
  os : List (Option ℕ)
  os = map (λ (x : PatternTree). number_of_variable sig vars (unfolded x)) xs

  by_tests : (order : List ℕ) → os ≡ map Some order
      → Holds (AreDifferent order × (length xs ≡ length vars))
      → Decided (λ (found : List ℕ). QuantifyEach sig vars xs found)
  by_tests order is (inl h) =
      inl (order, record { numbers = is; different = h.0; count = h.1 })
  by_tests order is (inr never) = inr (λ other q.
      never (subst AreDifferent (orders_one other order (sym q.numbers ∙ is)) q.different, q.count))

  by_numbers : Decided (λ (order : List ℕ). os ≡ map Some order)
      → Decided (λ (found : List ℕ). QuantifyEach sig vars xs found)
  by_numbers (inl (order, is)) =
      by_tests order is (both (are_different order) (same_number (length xs) (length vars)))
  by_numbers (inr none) = inr (λ order q. none order q.numbers)

-- ---- guards

-- the equation has what a guard's patterns and condition mean
abbrev HasSides : (sig : Signature) (us : Unfoldeds) (test : Option PatternTree)
    → HaveSides sig (with_all_variables sig [] us) us test → Equation → Type 0
HasSides sig us test h e =
    (e.variables ≡ map (λ (v : List ℕ × ℕ). v.1) (with_all_variables sig [] us))
    × ((e.arguments ≡ h.arguments)
    × ((e.names ≡ names_in_all sig (with_all_variables sig [] us) [] 0 us)
    × (e.condition ≡ h.condition)))

has_decided : (sig : Signature) (us : Unfoldeds) (test : Option PatternTree)
    (h : HaveSides sig (with_all_variables sig [] us) us test) (e : Equation)
    → Holds (HasSides sig us test h e)
has_decided sig us test h e =
    both (same_text e.variables (map (λ (v : List ℕ × ℕ). v.1) (with_all_variables sig [] us)))
    (both (same_patterns e.arguments h.arguments)
    (both (same_list same_name e.names (names_in_all sig (with_all_variables sig [] us) [] 0 us))
    (same_option same_pattern e.condition h.condition)))

module _ (sig : Signature) (sorted : IsSignature sig) (info : SymInfo) (over : SortTree)
    (g : GuardParts) where
  abbrev sides : Unfoldeds
  sides = all_read g.patterns

  abbrev all : Variables
  all = with_all_variables sig [] sides

  abbrev test : Option PatternTree
  test = tested_pattern (condition_of_guard sig over g)

  repeats_from : (h : HaveSides sig all sides test) (e : Equation) (order : List ℕ)
      → AreReadable sig info g.patterns (condition_of_guard sig over g)
      → HasSides sig sides test h e → QuantifyEach sig all g.variables order
      → Repeats sig info over g e order
  repeats_from h e order readable has q = record {
    readable = readable;
    variables = all;
    numbered = refl;
    sorts = has.0;
    means_arguments =
        subst (λ (ps : Patterns). AllMean sig all sides ps) (sym has.1.0) h.means_arguments;
    names = has.1.1.0;
    means_condition =
        subst (λ (o : Option Pattern). MeansTest sig all test o) (sym has.1.1.1) h.means_condition;
    quantified = q;
  }

  repeats_has : (h : HaveSides sig all sides test) (e : Equation) (order : List ℕ)
      → Repeats sig info over g e order
      → HasSides sig sides test h e × QuantifyEach sig all g.variables order
  repeats_has h e order r = (
    (
      r.sorts ∙ ap (map (λ (v : List ℕ × ℕ). v.1)) r.numbered,
      (
        all_mean_one sig all
            (subst (λ (vs : Variables). AllMean sig vs sides e.arguments) r.numbered
            r.means_arguments) h.means_arguments,
        (
          r.names ∙ ap (λ (vs : Variables). names_in_all sig vs [] 0 sides) r.numbered,
          test_means_one sig all test e.condition h.condition
              (subst (λ (vs : Variables). MeansTest sig vs test e.condition) r.numbered
              r.means_condition) h.means_condition,
        ),
      ),
    ),
    subst (λ (vs : Variables). QuantifyEach sig vs g.variables order) r.numbered r.quantified,
  )

  repeats_decided : (e : Equation) → Decided (λ (order : List ℕ). Repeats sig info over g e order)
  repeats_decided e =
      by_readable (readable_decided sig info g.patterns (condition_of_guard sig over g))
    where
      by_parts : AreReadable sig info g.patterns (condition_of_guard sig over g)
          → (h : HaveSides sig all sides test) → Holds (HasSides sig sides test h e)
          → Decided (λ (order : List ℕ). QuantifyEach sig all g.variables order)
          → Decided (λ (order : List ℕ). Repeats sig info over g e order)
      by_parts readable h (inl has) (inl (order, q)) =
          inl (order, repeats_from h e order readable has q)
      by_parts readable h (inl has) (inr none) =
          inr (λ order r. none order (repeats_has h e order r).1)
      by_parts readable h (inr never) q = inr (λ order r. never (repeats_has h e order r).0)

      by_readable : Holds (AreReadable sig info g.patterns (condition_of_guard sig over g))
          → Decided (λ (order : List ℕ). Repeats sig info over g e order)
      by_readable (inl readable) =
          let h =
          sides_found sig sorted info g.patterns (condition_of_guard sig over g) readable in
          by_parts readable h (has_decided sig sides test h e)
          (quantify_decided sig all g.variables)
      by_readable (inr never) = inr (λ order r. never r.readable)

  -- the first equation that it repeats, if there is one
  guard_found : (es : List Equation)
      → ((m : Guard) × MeansGuard sig info over es g m) ⊎ (RepeatsSome sig info over es g → ⊥)
  guard_found [] = inr (λ (i, e, order, there, r). let never : ⊥ = cc in never)
  guard_found (e ∷ es) = by_first (repeats_decided e) (guard_found es) where
    behind : ((order : List ℕ) → Repeats sig info over g e order → ⊥) → (m : Guard)
        → MeansGuard sig info over es g m
        → MeansGuard sig info over (e ∷ es) g (record { equation = suc m.equation; order = m.order })
    behind none m h = record {
      equation = h.equation;
      listed = h.listed;
      repeats = h.repeats;
      first = λ i x order low there r. earlier i x order low there r;
    }
      where
        earlier : (i : ℕ) (x : Equation) (order : List ℕ) → i < suc m.equation
            → slice_get (e ∷ es) i ≡ Some x → Repeats sig info over g x order → ⊥
        earlier zero x order low there r =
            none order (subst (λ (y : Equation). Repeats sig info over g y order)
            (let same : x ≡ e = cc in same) r)
        earlier (suc i) x order low there r = h.first i x order (omega (arith, low)) there r

    none_of : ((order : List ℕ) → Repeats sig info over g e order → ⊥)
        → (RepeatsSome sig info over es g → ⊥) → (i : ℕ) (x : Equation) (order : List ℕ)
        → slice_get (e ∷ es) i ≡ Some x → Repeats sig info over g x order → ⊥
    none_of none never zero x order there r =
        none order (subst (λ (y : Equation). Repeats sig info over g y order)
        (let same : x ≡ e = cc in same) r)
    none_of none never (suc i) x order there r = never (i, x, order, there, r)

    by_first : Decided (λ (order : List ℕ). Repeats sig info over g e order)
        → ((m : Guard) × MeansGuard sig info over es g m) ⊎ (RepeatsSome sig info over es g → ⊥)
        → ((m : Guard) × MeansGuard sig info over (e ∷ es) g m)
        ⊎ (RepeatsSome sig info over (e ∷ es) g → ⊥)
    by_first (inl (order, r)) rest = inl (
      record { equation = 0; order = order },
      record {
        equation = e;
        listed = refl;
        repeats = r;
        first = λ i x other low there q. omega (arith, low);
      },
    )
    by_first (inr none) (inl (m, h)) =
        inl (record { equation = suc m.equation; order = m.order }, behind none m h)
    by_first (inr none) (inr never) =
        inr (λ (i, x, order, there, r). none_of none never i x order there r)

guards_found : (sig : Signature) → IsSignature sig → (info : SymInfo) (over : SortTree)
    (es : List Equation) (gs : List GuardParts)
    → ((ms : List Guard) × AllZip (MeansGuard sig info over es) gs ms)
    ⊎ (All (RepeatsSome sig info over es) gs → ⊥)
guards_found sig sorted info over es [] = inl ([], tt)
guards_found sig sorted info over es (g ∷ gs) =
    by_first (guard_found sig sorted info over g es) (guards_found sig sorted info over es gs)
  where
    by_first : ((m : Guard) × MeansGuard sig info over es g m) ⊎ (RepeatsSome sig info over es g → ⊥)
        → ((ms : List Guard) × AllZip (MeansGuard sig info over es) gs ms)
        ⊎ (All (RepeatsSome sig info over es) gs → ⊥)
        → ((ms : List Guard) × AllZip (MeansGuard sig info over es) (g ∷ gs) ms)
        ⊎ (All (RepeatsSome sig info over es) (g ∷ gs) → ⊥)
    by_first (inl (m, h)) (inl (ms, all)) = inl (m ∷ ms, (h, all))
    by_first (inl found) (inr never) =
        inr (λ all. never (All-tail (RepeatsSome sig info over es) g gs all))
    by_first (inr never) rest =
        inr (λ all. never (All-head (RepeatsSome sig info over es) g gs all))

-- ---- constructors

abbrev is_ac_entry : List ℕ × SymInfo → Bool
is_ac_entry e = is_constructor_kind e.1.kind && e.1.ac

free_decided : (sig : Signature) → Holds (IsAcFree sig)
free_decided sig = by_case (list_any is_ac_entry sig.symbols) refl where
  by_case : (b : Bool) → list_any is_ac_entry sig.symbols ≡ b → Holds (IsAcFree sig)
  by_case true some = inr (λ free.
      let found = any_found is_ac_entry sig.symbols some in
      let info : SymInfo = found.1.1 in
      let parts = both_true (is_constructor_kind info.kind) info.ac found.3 in
      free found.0 (info, (found.1.0, found.2), constructor_from info.kind parts.0, parts.1))
  by_case false none = inl (λ f (info, (name, there), kind, ac).
      false≢true (sym none ∙ any_there is_ac_entry sig.symbols f (name, info) there
      (true_both _ _ (ap is_constructor_kind kind) ac)))

-- ---- equations of the last resort

-- the axiom is one beside these others, or states one that is not readable
abbrev IsReadLast : Signature → AxiomDeclaration → StatedEquation → SymInfo → List Equation → Type 0
IsReadLast sig a e info es =
    ((x : Equation) × MeansLastResort sig e.function es a x)
    ⊎ ((q : LastResortParts) → IsReadableLastResort sig a info e es q → ⊥)

module _ (sig : Signature) (sorted : IsSignature sig) (a : AxiomDeclaration) (e : StatedEquation)
    (info : SymInfo) (es : List Equation) (class : axiom_class sig a ≡ equates e)
    (declared : symbol_named sig e.function ≡ Some info) where
  of_guards : (q : LastResortParts) → clear_last_resort sig a info e ≡ Some q
      → are_bound sig e q.equation ≡ true → IsAcFree sig → ComesLast es a → (guards : List Guard)
      → AllZip (MeansGuard sig info e.over es) q.guards guards
      → (x : Equation) × MeansLastResort sig e.function es a x
  of_guards q clear bound free last guards all =
      let c = clear_resort_is sig a info e q clear in
      let made : IsMadeOfParts sig a e q.equation (Some guards) =
      parts_found sig a e info q.equation (Some guards) sorted c.clear bound in (
        made.equation,
        record {
          stated = e;
          info = info;
          states = record { class = class; function = refl; declared = declared };
          parts = q;
          readable = record {
            last_resort = c.last_resort;
            form = c.form;
            no_ac = free;
            parts = resort_readable sig a info e q c bound;
            guards = guards_repeat sig info e.over es q.guards guards all;
            last = last;
          };
          means = made.means;
          guards = guards;
          mean_guards = all;
          last_resort = made.last_resort;
        },
      )

  last_read : IsReadLast sig a e info es
  last_read = by_parts (clear_last_resort sig a info e) refl where
    -- what another reading has to have
    same_parts : (q p : LastResortParts) → clear_last_resort sig a info e ≡ Some q
        → IsReadableLastResort sig a info e es p → q ≡ p
    same_parts q p clear r = resort_same sig info a e es q p clear r

    by_guards : (q : LastResortParts) → clear_last_resort sig a info e ≡ Some q
        → are_bound sig e q.equation ≡ true → IsAcFree sig → ComesLast es a
        → ((ms : List Guard) × AllZip (MeansGuard sig info e.over es) q.guards ms)
        ⊎ (All (RepeatsSome sig info e.over es) q.guards → ⊥) → IsReadLast sig a e info es
    by_guards q clear bound free last (inl (ms, all)) =
        inl (of_guards q clear bound free last ms all)
    by_guards q clear bound free last (inr never) = inr (λ p r.
        never (subst (λ (x : LastResortParts). All (RepeatsSome sig info e.over es) x.guards)
        (sym (same_parts q p clear r)) r.guards))

    by_place : (q : LastResortParts) → clear_last_resort sig a info e ≡ Some q
        → are_bound sig e q.equation ≡ true → Holds (IsAcFree sig) → Holds (ComesLast es a)
        → IsReadLast sig a e info es
    by_place q clear bound (inl free) (inl last) =
        by_guards q clear bound free last (guards_found sig sorted info e.over es q.guards)
    by_place q clear bound (inl free) (inr never) = inr (λ p r. never r.last)
    by_place q clear bound (inr never) last = inr (λ p r. never r.no_ac)

    by_bound : (q : LastResortParts) → clear_last_resort sig a info e ≡ Some q → (b : Bool)
        → are_bound sig e q.equation ≡ b → IsReadLast sig a e info es
    by_bound q clear true bound =
        by_place q clear bound (free_decided sig)
        (each (λ (x : Equation). ComesBefore (x.priority, x.place) (priority_of a.attributes, a.at))
        (λ x. is_before (x.priority, x.place) (priority_of a.attributes, a.at)) es)
    by_bound q clear false unbound = inr (λ p r.
        false≢true (sym unbound
        ∙ ap (λ (x : LastResortParts). are_bound sig e x.equation) (same_parts q p clear r)
        ∙ (resort_known sig info a e es p r).1))

    by_parts : (o : Option LastResortParts) → clear_last_resort sig a info e ≡ o
        → IsReadLast sig a e info es
    by_parts None none = inr (none_unreadable_last sig info a e es none)
    by_parts (Some q) clear = by_bound q clear (are_bound sig e q.equation) refl

last_decided : (sig : Signature) (f : List ℕ) (es : List Equation) (a : AxiomDeclaration)
    → IsSignature sig → Decided (MeansLastResort sig f es a)
last_decided sig f es a sorted = by_states (is_equation_of f (axiom_class sig a)) refl where
  none_readable : (e : StatedEquation) (info : SymInfo) → axiom_class sig a ≡ equates e
      → symbol_named sig f ≡ Some info
      → ((q : LastResortParts) → IsReadableLastResort sig a info e es q → ⊥) → (x : Equation)
      → MeansLastResort sig f es a x → ⊥
  none_readable e info class declared never x r =
      let stated : r.stated ≡ e = equates_one r.stated e (sym r.states.class ∙ class) in
      let both : Some r.info ≡ Some info = sym r.states.declared ∙ declared in
      let infos : r.info ≡ info = cc in
      never r.parts (subst (λ (i : SymInfo). IsReadableLastResort sig a i e es r.parts) infos
      (subst (λ (d : StatedEquation). IsReadableLastResort sig a r.info d es r.parts) stated
      r.readable))

  by_reading : (e : StatedEquation) (info : SymInfo) → axiom_class sig a ≡ equates e
      → symbol_named sig e.function ≡ Some info → e.function ≡ f → IsReadLast sig a e info es
      → Decided (MeansLastResort sig f es a)
  by_reading e info class declared same (inl (x, is)) =
      inl (x, subst (λ (g : List ℕ). MeansLastResort sig g es a x) same is)
  by_reading e info class declared same (inr never) =
      inr (none_readable e info class (ap (symbol_named sig) (sym same) ∙ declared) never)

  by_states : (b : Bool) → is_equation_of f (axiom_class sig a) ≡ b
      → Decided (MeansLastResort sig f es a)
  by_states true is =
      let stated = equation_stated f (axiom_class sig a) is in
      let declared = function_declared sig a stated.0 stated.1 in
      by_reading stated.0 declared.0 stated.1 declared.1 stated.2
      (last_read sig sorted a stated.0 declared.0 es stated.1 declared.1)
  by_states false other = inr (λ x r.
      false≢true (sym other ∙ meaning_states sig f a r.stated r.info r.states))

-- ---- among axioms

equations_are_one : (sig : Signature) (f : List ℕ)
    → AreOne (MeansEquation sig f) (λ (e : Equation). e.place)
equations_are_one sig f = record {
  one = λ a x y is other. equation_one sig f a x y is other;
  there = λ a x is. is.means.place;
}

abbrev equation_key : Equation → ℕ × ℕ
equation_key e = (e.priority, e.place)

ordinary_found : (sig : Signature) (axioms : List AxiomDeclaration) (f : List ℕ)
    → IsSignature sig → AreFew axioms → (es : List Equation) × AreOrdinary sig axioms f es
ordinary_found sig axioms f sorted few =
    let all : AreListed (MeansEquation sig f) equation_key axioms =
    listed (MeansEquation sig f) equation_key (equations_are_one sig f) axioms few
    (λ a has. equation_decided sig f a sorted) in
    (all.items, record { just = all.just; in_order = all.in_order })

pub among_decided : (sig : Signature) (axioms : List AxiomDeclaration) (f : List ℕ)
    (a : AxiomDeclaration) → IsSignature sig → AreFew axioms
    → Decided (IsEquationAmong sig axioms f a)
among_decided sig axioms f a sorted few =
    by_ordinary (equation_decided sig f a sorted) (ordinary_found sig axioms f sorted few)
  where
    neither : ((x : Equation) → MeansEquation sig f a x → ⊥)
        → ((x : Equation) → IsLastResortAmong sig axioms f a x → ⊥) → (x : Equation)
        → IsEquationAmong sig axioms f a x → ⊥
    neither none never x (inl is) = none x is
    neither none never x (inr is) = never x is

    by_last : ((x : Equation) → MeansEquation sig f a x → ⊥) → (es : List Equation)
        → AreOrdinary sig axioms f es → Holds (count_by (states_last_resort sig f) axioms ≡ 1)
        → Decided (MeansLastResort sig f es a) → Decided (IsEquationAmong sig axioms f a)
    by_last none es ordinary (inl only) (inl (x, is)) =
        inl (x, inr (record { only = only; others = es; ordinary = ordinary; means = is }))
    by_last none es ordinary (inl only) (inr never) =
        inr (neither none (λ x h. never x (subst (λ (fs : List Equation). MeansLastResort sig f fs a x)
        (ordinary_one sig axioms f h.others es h.ordinary ordinary) h.means)))
    by_last none es ordinary (inr never) last = inr (neither none (λ x h. never h.only))

    by_ordinary : Decided (MeansEquation sig f a)
        → (es : List Equation) × AreOrdinary sig axioms f es
        → Decided (IsEquationAmong sig axioms f a)
    by_ordinary (inl (x, is)) others = inl (x, inl is)
    by_ordinary (inr none) (es, ordinary) =
        by_last none es ordinary (same_number (count_by (states_last_resort sig f) axioms) 1)
        (last_decided sig f es a sorted)

-- the axiom states an equation of the function that is not readable, or not
pub unreadable_decided : (sig : Signature) (axioms : List AxiomDeclaration) (f : List ℕ)
    (a : AxiomDeclaration) → IsSignature sig → AreFew axioms
    → Holds (IsUnreadableAmong sig axioms f a)
unreadable_decided sig axioms f a sorted few =
    by_states (is_true (is_equation_of f (axiom_class sig a)))
    (among_decided sig axioms f a sorted few)
  where
    by_states : Holds (is_equation_of f (axiom_class sig a) ≡ true)
        → Decided (IsEquationAmong sig axioms f a) → Holds (IsUnreadableAmong sig axioms f a)
    by_states (inr never) found = inr (λ bad. never bad.states)
    by_states (inl states) (inl (x, is)) = inr (λ bad. bad.unreadable x is)
    by_states (inl states) (inr none) = inl (record { states = states; unreadable = none })
