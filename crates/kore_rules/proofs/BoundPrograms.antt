-- The variables of a program's rules and equations are bound if its axioms have few variables.
use Rattle.std.proofs.Common.{◌≡◌, ◌<◌, ◌≤◌, ℕ, ◌+◌, ◌*◌, List, [], ◌∷◌, map, length}
use Rattle.std.proofs.Common.{slice_get, Contains, Option, Some, None, ◌⊎◌, ⊎_elim, inl, inr, refl}
use Rattle.std.proofs.Common.{sym, ap, ◌∙◌, subst, arith}
use Rattle.std.specs.Prelude.{Vec, IfSome, take, option_map}
use Rattle.std.specs.Global.{Global}
use Rattle.std.proofs.lemmas.Option.{slice_get_within, slice_get-map}
use Rattle.kore_text.specs.Trees.{AxiomDeclaration}
use Rattle.term_core.specs.Patterns.{Patterns, no_pattern, more_patterns}
use Rattle.term_core.specs.PatternLists.{plain_patterns}
use Rattle.term_core.specs.RulePatterns.{plain_pattern}
use Rattle.term_core.specs.declared.rule_patterns.RulePat.{RulePat}
use Rattle.rule_core.specs.BoundVariables.{IsBoundRule, IsBoundEquation, HasBoundVariables}
use Rattle.rule_core.specs.BoundVariables.{IsEquationAt}
use Rattle.rule_core.specs.Guards.{AreGuards}
use Rattle.rule_core.specs.Matching.{OccursIn, OccursInSome}
use Rattle.rule_core.specs.NamedParts.{Name, IsNamed}
use Rattle.rule_core.specs.ProgramView.{rewrite_rule, function_equation, theory_of}
use Rattle.rule_core.specs.Rules as plain
use Rattle.rule_core.specs.Theories.{equations_of}
use Rattle.rule_core.specs.declared.rules.Equation.{Equation}
use Rattle.rule_core.specs.declared.rules.Program.{Program}
use Rattle.rule_core.specs.declared.rules.Rule.{Rule}
use Rattle.rule_core.specs.declared.rules.VarInfo.{VarInfo}
use Rattle.rule_core.specs.declared.signature.Signature.{Signature}
use Rattle.rule_core.specs.declared.signature.SymInfo.{SymInfo}
use Rattle.rule_core.specs.declared.signature.SymKind.{SymKind}
use Rattle.rule_core.specs.declared.signature.SymKind.TheVariants.{Equations}
use Rattle.kore_check.specs.Folds.{Unfoldeds, unfolded, count}
use Rattle.kore_check.specs.PatternMeanings.{with_variables, with_all_variables, AllMean, none_mean}
use Rattle.kore_check.specs.PatternMeanings.{more_mean}
use Rattle.kore_check.proofs.BuildLaws.{some_there}
use Rattle.kore_shapes.specs.Shapes.{side, heads_condition}
use Rattle.kore_axioms.specs.AxiomMeanings.{MeansRule}
use Rattle.kore_axioms.proofs.RuleLaws.{class_rewrites}
use Rattle.kore_shapes.specs.Statements.{StatedEquation}
use Rattle.kore_shapes.specs.EquationForms.{EquationParts}
use Rattle.kore_equations.specs.EquationMeanings.{MeansParts}
use Rattle.kore_equations.specs.ReadableSides.{all_read}
use Rattle.kore_equations.proofs.ClassLaws.{class_equates}
use Rattle.kore_rules.specs.MadePrograms.{ListsOwnEquations}
use Rattle.kore_rules.specs.EquationsAmong.{IsEquationAmong}
use Rattle.kore_rules.specs.Programs.{AreEquationsOf, IsProgramUnder}
use Rattle.kore_rules.proofs.EquationSorts.{count_read}
use Rattle.kore_rules.proofs.GuardCounts.{resort_count}
use Rattle.kore_rules.proofs.GuardPrograms.{bound_guards}
use Rattle.kore_rules.proofs.KeptSorts.{kept}
use Rattle.kore_rules.proofs.MeaningSorts.{each_occurs, each_occurs_in_some}
use Rattle.kore_rules.proofs.ProgramLaws.{length_mapped, contains_map, contains_at, listed_view}
use Rattle.kore_rules.proofs.ProgramLaws.{listed_there}
use Rattle.kore_rules.proofs.VariableCounts.{variable_count, few_variables, all_few_variables}
use Rattle.kore_rules.proofs.VariableCounts.{before_count, side_count, main_count, statement_count}
use Rattle.kore_rules.proofs.VariableCounts.{parts_count, ArePartsWithin}

-- an axiom has fewer variables than half of 2^32
abbrev HasFewVariables : AxiomDeclaration → Type 0
HasFewVariables a = variable_count a.pattern * 2 < 4294967296

-- ---- rules

left_count : (sig : Signature) (a : AxiomDeclaration) (rule : plain.RewriteRule)
    → (is : MeansRule sig a rule) → variable_count is.left ≤ variable_count a.pattern
left_count sig a rule is =
    let before = before_count a.pattern is.shape (class_rewrites sig a is.shape is.class) in
    let left =
    main_count (variable_count is.shape.before)
    (side heads_condition is.shape.sort is.shape.before) is.left
    (side_count heads_condition is.shape.sort is.shape.before) is.is_left in
    omega (arith, before, left)

bound_rule : (sig : Signature) (a : AxiomDeclaration) (r : Rule) → MeansRule sig a (rewrite_rule r)
    → HasFewVariables a → IsBoundRule r
bound_rule sig a r is most =
    let long : length r.vars.items ≡ length is.variables =
    sym (length_mapped (λ (v : VarInfo). v.sort.0) r.vars.items) ∙ ap length is.sorts
    ∙ length_mapped (λ (v : List ℕ × ℕ). v.1) is.variables in
    let left = left_count sig a (rewrite_rule r) is in
    let counted = few_variables sig is.left in
    let numbered : length is.variables ≡ length (with_variables sig [] (unfolded is.left)) =
    ap length is.numbered in
    record {
      few = omega (arith, long, left, counted, numbered, most);
      each =
          λ x lt. subst (λ (ns : List Name). OccursIn x (plain_pattern r.left) ⊎ IsNamed ns x)
          (sym is.names) (each_occurs sig is.variables (0 ∷ []) (unfolded is.left)
          (plain_pattern r.left) is.numbered is.means_left x (omega (arith, lt, long)));
    }

-- ---- equations

abbrev pattern_number : Patterns → ℕ
pattern_number no_pattern = 0
pattern_number (more_patterns p ps) = pattern_number ps + 1

as_many : (sig : Signature) (vars : List (List ℕ × ℕ)) {us : Unfoldeds} {ps : Patterns}
    → AllMean sig vars us ps → count us ≡ pattern_number ps
as_many sig vars none_mean = refl
as_many sig vars (more_mean first rest) = ap (λ (n : ℕ). n + 1) (as_many sig vars rest)

plain_number : (ps : List RulePat) → pattern_number (plain_patterns ps) ≡ length ps
plain_number [] = refl
plain_number (p ∷ ps) = ap (λ (n : ℕ). n + 1) (plain_number ps) ∙ omega arith

bound_equation : (sig : Signature) (a : AxiomDeclaration) (stated : StatedEquation)
    (q : EquationParts) (n : ℕ) (e : Equation) → e.fun.0 ≡ n
    → MeansParts sig a stated q (function_equation e) → ArePartsWithin (variable_count a.pattern) q
    → HasFewVariables a → IsBoundEquation n e
bound_equation sig a stated q n e own m parts most =
    let patterns = q.patterns in
    let long : length e.vars.items ≡ length m.variables =
    sym (length_mapped (λ (v : VarInfo). v.sort.0) e.vars.items) ∙ ap length m.sorts
    ∙ length_mapped (λ (v : List ℕ × ℕ). v.1) m.variables in
    let many : length patterns ≡ length e.args.items =
    sym (count_read patterns) ∙ as_many sig m.variables m.means_arguments
    ∙ plain_number e.args.items in
    let counted = all_few_variables sig patterns in
    let numbered : length m.variables ≡ length (with_all_variables sig [] (all_read patterns)) =
    ap length m.numbered in
    let least = parts.patterns in
    let given = parts.parameters in
    let parameters = m.parameters in
    record {
      own = own;
      parameters =
          ⊎_elim (λ none. inl (m.parameters ∙ none)) (λ one. inr (m.parameters ∙ one ∙ many))
          parts.form;
      few = omega (arith, long, counted, numbered, least, given, parameters, most);
      each =
          λ x lt. subst
          (λ (ns : List Name). OccursInSome x (plain_patterns e.args.items) ⊎ IsNamed ns x)
          (sym m.names) (each_occurs_in_some sig m.variables (all_read patterns)
          (plain_patterns e.args.items) m.numbered m.means_arguments x (omega (arith, lt, long)));
    }

-- an equation among the axioms has few parts
bound_among : (sig : Signature) (axioms : List AxiomDeclaration) (f : List ℕ)
    (a : AxiomDeclaration) (n : ℕ) (e : Equation) → e.fun.0 ≡ n
    → IsEquationAmong sig axioms f a (function_equation e) → HasFewVariables a
    → IsBoundEquation n e
bound_among sig axioms f a n e own (inl is) most =
    bound_equation sig a is.stated is.parts n e own is.means
    (parts_count (variable_count a.pattern) is.stated is.parts is.readable.form
    (statement_count a.pattern is.stated (class_equates sig a is.stated is.states.class).stated))
    most
bound_among sig axioms f a n e own (inr last) most =
    let is = last.means in
    let within =
    resort_count (variable_count a.pattern) is.stated is.parts is.readable.form
    (statement_count a.pattern is.stated (class_equates sig a is.stated is.states.class).stated) in
    let whole = within.whole in
    bound_equation sig a is.stated is.parts.equation n e own is.means
    (record {
      patterns = omega (arith, whole);
      parameters = within.parameters;
      form = inr within.each;
    }) most

-- ---- the program

symbol_there : (symbols : List (List ℕ × SymInfo)) (f : ℕ) (o : Option (List ℕ × SymInfo))
    → slice_get symbols f ≡ o → f < length symbols
    → (s : List ℕ × SymInfo) × (slice_get symbols f ≡ Some s)
symbol_there symbols f None is lt = absurd (some_there symbols f lt is)
symbol_there symbols f (Some s) is lt = (s, is)

-- an equation of a program, and which axiom it is
record IsOfAxiom (declared : Signature) (axioms : List AxiomDeclaration) (p : Program) (f i : ℕ)
    (e : Equation) : Type 0 where
  pub name : List ℕ
  pub kind : SymKind
  pub all : AreEquationsOf declared axioms name kind (equations_of (theory_of p) f)
  pub is : kind ≡ Equations
  pub place : slice_get (equations_of (theory_of p) f) i ≡ Some (function_equation e)
  pub axiom_of : AxiomDeclaration
  pub there : Contains axioms axiom_of
  pub among : IsEquationAmong declared axioms name axiom_of (function_equation e)

of_axiom : (declared : Signature) (axioms : List AxiomDeclaration) (p : Program)
    → IsProgramUnder declared axioms (theory_of p) → (f i : ℕ) (e : Equation)
    → IsEquationAt p f i e → IsOfAxiom declared axioms p f i e
of_axiom declared axioms p program f i e at =
    let es = at.0 in
    let within = slice_get_within p.equations.items f es at.1 in
    let lists =
    length_mapped (λ (v : Vec Equation Global). map function_equation v.items)
    p.equations.items in
    let listed = program.listed in
    let symbol =
    symbol_there p.sig.symbols f (slice_get p.sig.symbols f) refl
    (omega (arith, within, lists, listed)) in
    let view : equations_of (theory_of p) f ≡ map function_equation es.items =
    listed_view p.equations.items f
    ∙ ap (map function_equation) (listed_there p.equations.items f es at.1) in
    let place : slice_get (equations_of (theory_of p) f) i ≡ Some (function_equation e) =
    ap (λ (xs : List plain.Equation). slice_get xs i) view
    ∙ slice_get-map function_equation es.items i
    ∙ ap (option_map function_equation) at.2 in
    let all = program.equations f symbol.0.0 symbol.0.1 symbol.1 in
    let is =
    (all.just (function_equation e)).0
    (contains_at (equations_of (theory_of p) f) i (function_equation e) place) in
    record {
      name = symbol.0.0;
      kind = symbol.0.1.kind;
      all = all;
      is = is.0;
      place = place;
      axiom_of = is.1.0;
      there = is.1.1;
      among = is.1.2;
    }

-- its guards, if it has some
guards_of : (declared : Signature) (axioms : List AxiomDeclaration) (p : Program)
    → IsProgramUnder declared axioms (theory_of p) → (f i : ℕ) (e : Equation)
    → (of : IsOfAxiom declared axioms p f i e) → HasFewVariables of.axiom_of
    → IsEquationAmong declared axioms of.name of.axiom_of (function_equation e)
    → IfSome (function_equation e).last_resort
    (AreGuards p.sig (take i (equations_of (theory_of p) f)) (function_equation e))
guards_of declared axioms p program f i e of few (inl is) =
    subst (λ (o : Option (List plain.Guard)). IfSome o
    (AreGuards p.sig (take i (equations_of (theory_of p) f)) (function_equation e)))
    (sym is.last_resort) tt
guards_of declared axioms p program f i e of few (inr last) =
    bound_guards declared p.sig axioms of.name of.kind (equations_of (theory_of p) f) of.axiom_of
    (function_equation e) i (kept declared axioms (theory_of p) program) of.all of.is of.there last
    of.place few

pub bound_program : (declared : Signature) (axioms : List AxiomDeclaration) (p : Program)
    → IsProgramUnder declared axioms (theory_of p) → ListsOwnEquations p
    → ((a : AxiomDeclaration) → Contains axioms a → HasFewVariables a) → HasBoundVariables p
bound_program declared axioms p program own few = record {
  rules = λ i r at.
      let of =
      (program.rules.just (rewrite_rule r)).0
      (contains_map rewrite_rule p.rules.items r (contains_at p.rules.items i r at)) in
      bound_rule declared of.0 r of.2 (few of.0 of.1);
  equations = λ f i e at.
      let of = of_axiom declared axioms p program f i e at in
      bound_among declared axioms of.name of.axiom_of f e (own f i e at) of.among
      (few of.axiom_of of.there);
  guards = λ f i e at.
      let of = of_axiom declared axioms p program f i e at in
      guards_of declared axioms p program f i e of (few of.axiom_of of.there) of.among;
}
