-- How many variables the parts of an equation of the last resort have: together with its guards, at
-- most as many as its axiom.
use Rattle.std.proofs.Common.{◌≡◌, ◌≤◌, ℕ, ◌+◌, Bool, true, false, List, [], ◌∷◌, ◌++◌, map, length}
use Rattle.std.proofs.Common.{Option, Some, None, cond, refl, sym, ap, ◌∙◌, subst, arith}
use Rattle.std.specs.Prelude.{option_map}
use Rattle.std.specs.Option.{option_and_then}
use Rattle.kore_text.specs.Trees.{SortTree, SortTrees, listed_sorts, PatternTree, element_variable}
use Rattle.kore_text.specs.Trees.{set_variable, string, symbol_applied, connected, binder_applied}
use Rattle.kore_text.specs.Trees.{value_written, folded, PatternTrees, no_patterns, pattern_then}
use Rattle.kore_text.specs.Trees.{listed_patterns}
use Rattle.kore_text.specs.declared.names.Op.{Op}
use Rattle.kore_text.specs.declared.names.Op.TheVariants.{Top, Bottom, Not, Next, And, Or, Implies}
use Rattle.kore_text.specs.declared.names.Op.TheVariants.{Iff, Rewrites, Ceil, Floor, Equals}
use Rattle.kore_text.specs.declared.names.Op.TheVariants.{Member}
use Rattle.rule_core.specs.declared.signature.Signature.{Signature}
use Rattle.kore_check.specs.Folds.{Unfolded, named_variable, written_value, applied_symbol}
use Rattle.kore_check.specs.Folds.{both_of, other_form, unfolded}
use Rattle.kore_check.specs.PartNames.{number_of_variable}
use Rattle.kore_shapes.specs.SameSorts.{same_sort}
use Rattle.kore_shapes.specs.Statements.{StatedEquation}
use Rattle.kore_shapes.specs.EquationForms.{EquationParts, conjuncts, right_side, members}
use Rattle.kore_shapes.specs.EquationForms.{occur_nowhere_else, kompiled}
use Rattle.kore_shapes.specs.LastResorts.{negated_with, negated, is_disjunction, is_bottom}
use Rattle.kore_shapes.specs.LastResorts.{operands, all_operands, is_exists, quantified}
use Rattle.kore_shapes.specs.LastResorts.{unquantified, GuardParts, guard_parts, all_guards}
use Rattle.kore_shapes.specs.LastResorts.{LastResortParts, kompiled_under, resort_beside}
use Rattle.kore_shapes.specs.LastResorts.{resort_under, resort_with, last_resort_parts}
use Rattle.kore_rules.proofs.VariableCounts.{variable_count, variables_count, listed_count}
use Rattle.kore_rules.proofs.VariableCounts.{as_listed, read_count, unfolded_count, mapped_there}
use Rattle.kore_rules.proofs.VariableCounts.{then_there, conjuncts_count, members_count}
use Rattle.kore_rules.proofs.VariableCounts.{apart_count, IsStatementWithin}

negated_with_count : (s : SortTree) (op : Op) (ts : List SortTree) (ps : List PatternTree)
    (p : PatternTree) → negated_with s op ts ps ≡ Some p → variable_count p ≤ listed_count ps
negated_with_count s Not (t ∷ []) (q ∷ []) p is = by_case (same_sort s t) is where
  by_case : (b : Bool) → cond b (Some q) None ≡ Some p → variable_count p ≤ listed_count (q ∷ [])
  by_case false is = absurd (let never : ⊥ = cc in never)
  by_case true is =
      subst (λ (z : PatternTree). variable_count z ≤ listed_count (q ∷ []))
      (let same : q ≡ p = cc in same) (omega arith)
negated_with_count s Not [] ps p is = absurd (let never : ⊥ = cc in never)
negated_with_count s Not (t ∷ (u ∷ ts)) ps p is = absurd (let never : ⊥ = cc in never)
negated_with_count s Not (t ∷ []) [] p is = absurd (let never : ⊥ = cc in never)
negated_with_count s Not (t ∷ []) (q ∷ (r ∷ ps)) p is = absurd (let never : ⊥ = cc in never)
negated_with_count s Top ts ps p is = absurd (let never : ⊥ = cc in never)
negated_with_count s Bottom ts ps p is = absurd (let never : ⊥ = cc in never)
negated_with_count s Next ts ps p is = absurd (let never : ⊥ = cc in never)
negated_with_count s And ts ps p is = absurd (let never : ⊥ = cc in never)
negated_with_count s Or ts ps p is = absurd (let never : ⊥ = cc in never)
negated_with_count s Implies ts ps p is = absurd (let never : ⊥ = cc in never)
negated_with_count s Iff ts ps p is = absurd (let never : ⊥ = cc in never)
negated_with_count s Rewrites ts ps p is = absurd (let never : ⊥ = cc in never)
negated_with_count s Ceil ts ps p is = absurd (let never : ⊥ = cc in never)
negated_with_count s Floor ts ps p is = absurd (let never : ⊥ = cc in never)
negated_with_count s Equals ts ps p is = absurd (let never : ⊥ = cc in never)
negated_with_count s Member ts ps p is = absurd (let never : ⊥ = cc in never)

negated_count : (s : SortTree) (q p : PatternTree) → negated s q ≡ Some p
    → variable_count p ≤ variable_count q
negated_count s (element_variable at n t) p is = absurd (let never : ⊥ = cc in never)
negated_count s (set_variable at n t) p is = absurd (let never : ⊥ = cc in never)
negated_count s (string at text) p is = absurd (let never : ⊥ = cc in never)
negated_count s (symbol_applied at n ss ps) p is = absurd (let never : ⊥ = cc in never)
negated_count s (connected at op ss ps) p is =
    let most = negated_with_count s op (listed_sorts ss) (listed_patterns ps) p is in
    let same = as_listed ps in omega (arith, most, same)
negated_count s (binder_applied at b ss x q) p is = absurd (let never : ⊥ = cc in never)
negated_count s (value_written at t text place) p is = absurd (let never : ⊥ = cc in never)
negated_count s (folded at left q) p is = absurd (let never : ⊥ = cc in never)

listed_append : (ps qs : List PatternTree)
    → listed_count (ps ++ qs) ≡ listed_count ps + listed_count qs
listed_append [] qs = omega arith
listed_append (p ∷ ps) qs = let rest = listed_append ps qs in omega (arith, rest)

operands_by : (s : SortTree) (at : ℕ) (op : Op) (ts : SortTrees) (ps : PatternTrees) (b c : Bool)
    → listed_count (all_operands s ps) ≤ variables_count ps
    → listed_count (cond b (all_operands s ps) (cond c [] (connected at op ts ps ∷ [])))
    ≤ variables_count ps
operands_by s at op ts ps true c all = all
operands_by s at op ts ps false true all = omega arith
operands_by s at op ts ps false false all = omega arith

-- the operands of a disjunction have at most as many variables as it has
mutual
  operands_count : (s : SortTree) (p : PatternTree) → listed_count (operands s p) ≤ variable_count p
  operands_count s (element_variable at n t) = omega arith
  operands_count s (set_variable at n t) = omega arith
  operands_count s (string at text) = omega arith
  operands_count s (symbol_applied at n ss ps) = omega arith
  operands_count s (connected at op ts ps) =
      operands_by s at op ts ps (is_disjunction s op (listed_sorts ts))
      (is_bottom s op (listed_sorts ts) (listed_patterns ps)) (all_operands_count s ps)
  operands_count s (binder_applied at b ss x p) = omega arith
  operands_count s (value_written at t text place) = omega arith
  operands_count s (folded at left p) = omega arith

  all_operands_count : (s : SortTree) (ps : PatternTrees)
      → listed_count (all_operands s ps) ≤ variables_count ps
  all_operands_count s no_patterns = omega arith
  all_operands_count s (pattern_then p ps) =
      let first = operands_count s p in
      let rest = all_operands_count s ps in
      let both = listed_append (operands s p) (all_operands s ps) in
      omega (arith, first, rest, both)

quantified_count : (s : SortTree) (p : PatternTree)
    → listed_count (quantified s p) ≤ variable_count p
quantified_count s (element_variable at n t) = omega arith
quantified_count s (set_variable at n t) = omega arith
quantified_count s (string at text) = omega arith
quantified_count s (symbol_applied at n ss ps) = omega arith
quantified_count s (connected at op ts ps) = omega arith
quantified_count s (binder_applied at b ts x p) =
    by_case (is_exists s b (listed_sorts ts)) (quantified_count s p)
  where
    by_case : (t : Bool) → listed_count (quantified s p) ≤ variable_count p
        → listed_count (cond t (x ∷ quantified s p) []) ≤ variable_count x + variable_count p
    by_case true rest = omega (arith, rest)
    by_case false rest = omega arith
quantified_count s (value_written at t text place) = omega arith
quantified_count s (folded at left p) = omega arith

-- the variables that guards quantify
abbrev pub guards_count : List GuardParts → ℕ
guards_count [] = 0
guards_count (g ∷ gs) = listed_count g.variables + guards_count gs

guard_count : (r : SortTree) (xs : List PatternTree) (p : PatternTree) (g : GuardParts)
    → guard_parts r xs p ≡ Some g → listed_count g.variables ≤ variable_count p
guard_count r xs p g is =
    let both =
    then_there (λ (b : PatternTree × PatternTree).
    option_map (λ (ps : List PatternTree).
    record { variables = quantified r p; condition = b.0; patterns = ps }) (members r xs b.1))
    (conjuncts r (unquantified r p)) g is in
    let made =
    mapped_there (λ (ps : List PatternTree).
    record { variables = quantified r p; condition = both.0.0; patterns = ps })
    (members r xs both.0.1) g both.2 in
    subst (λ (h : GuardParts). listed_count h.variables ≤ variable_count p) made.2
    (quantified_count r p)

all_guards_count : (r : SortTree) (xs ps : List PatternTree) (gs : List GuardParts)
    → all_guards r xs ps ≡ Some gs → guards_count gs ≤ listed_count ps
all_guards_count r xs [] gs is =
    subst (λ (hs : List GuardParts). guards_count hs ≤ 0) (let same : [] ≡ gs = cc in same)
    (omega arith)
all_guards_count r xs (p ∷ ps) gs is =
    let first =
    then_there (λ (g : GuardParts).
    option_map (λ (hs : List GuardParts). g ∷ hs) (all_guards r xs ps)) (guard_parts r xs p) gs
    is in
    let rest =
    mapped_there (λ (hs : List GuardParts). first.0 ∷ hs) (all_guards r xs ps) gs first.2 in
    let a = guard_count r xs p first.0 first.1 in
    let b = all_guards_count r xs ps rest.0 rest.1 in
    subst (λ (hs : List GuardParts). guards_count hs ≤ listed_count (p ∷ ps)) rest.2
    (omega (arith, a, b))

-- the parts of an equation of the last resort: its patterns and its guards have at most n variables
-- together, and it has a parameter for each argument of its function
pub record IsResortWithin (n : ℕ) (e : StatedEquation) (q : LastResortParts) : Type 0 where
  pub whole : listed_count q.equation.patterns + guards_count q.guards ≤ n
  pub parameters : length q.equation.parameters ≤ n
  pub each : length q.equation.parameters ≡ length q.equation.patterns
  pub some : length q.equation.parameters ≡ 0 → ⊥

kompiled_parts : (e : StatedEquation) (c : PatternTree) (ps : List PatternTree) (q : EquationParts)
    → kompiled e c ps ≡ Some q
    → (q.patterns ≡ ps) × (q.parameters ≡ e.arguments) × (length e.arguments ≤ listed_count e.arguments)
kompiled_parts e c ps q is =
    by_case (occur_nowhere_else e.arguments (c ∷ (e.value ∷ ps))) refl is
  where
    by_case : (t : Bool) → occur_nowhere_else e.arguments (c ∷ (e.value ∷ ps)) ≡ t
        → cond t (Some (record {
          parameters = e.arguments;
          patterns = ps;
          condition = Some c;
          right = right_side e.sort e.value;
        })) None ≡ Some q
        → (q.patterns ≡ ps) × (q.parameters ≡ e.arguments)
        × (length e.arguments ≤ listed_count e.arguments)
    by_case false apart is = absurd (let never : ⊥ = cc in never)
    by_case true apart is =
        let each = apart_count e.arguments (c ∷ (e.value ∷ ps)) apart in
        let same : record {
          parameters = e.arguments;
          patterns = ps;
          condition = Some c;
          right = right_side e.sort e.value;
        } ≡ q =
        cc in (
          sym (ap (λ (x : EquationParts). x.patterns) same),
          sym (ap (λ (x : EquationParts). x.parameters) same),
          each,
        )

resort_under_count : (n : ℕ) (e : StatedEquation) (g : PatternTree) (q : LastResortParts)
    → resort_under e g ≡ Some q → variable_count g ≤ n → listed_count e.arguments ≤ n
    → (length e.arguments ≡ 0 → ⊥) → IsResortWithin n e q
resort_under_count n e g q is most few some =
    let both =
    then_there (λ (b : PatternTree × PatternTree).
    option_and_then (λ (x : PatternTree). resort_beside e x b.1) (negated e.over b.0))
    (conjuncts e.over g) q is in
    let negation =
    then_there (λ (x : PatternTree). resort_beside e x both.0.1) (negated e.over both.0.0) q
    both.2 in
    let guards =
    then_there (λ (gs : List GuardParts). option_map (λ (p : EquationParts).
    record { equation = p; guards = gs }) (kompiled_under e both.0.1))
    (all_guards e.over e.arguments (operands e.over negation.0)) q negation.2 in
    let made =
    mapped_there (λ (p : EquationParts). record { equation = p; guards = guards.0 })
    (kompiled_under e both.0.1) q guards.2 in
    let under =
    then_there (λ (b : PatternTree × PatternTree).
    option_and_then (kompiled e b.0) (members e.over e.arguments b.1)) (conjuncts e.over both.0.1)
    made.0 made.1 in
    let listed =
    then_there (kompiled e under.0.0) (members e.over e.arguments under.0.1) made.0 under.2 in
    let parts = kompiled_parts e under.0.0 listed.0 made.0 listed.2 in
    let a = conjuncts_count e.over g both.0 both.1 in
    let b = negated_count e.over both.0.0 negation.0 negation.1 in
    let c = operands_count e.over negation.0 in
    let d =
    all_guards_count e.over e.arguments (operands e.over negation.0) guards.0 guards.1 in
    let f = conjuncts_count e.over both.0.1 under.0 under.1 in
    let counted = members_count e.over e.arguments under.0.1 listed.0 listed.1 in
    let h = counted.0 in
    let long : length made.0.patterns ≡ length e.arguments =
    ap (λ (ps : List PatternTree). length ps) parts.0 ∙ counted.1 in
    let patterns : listed_count made.0.patterns ≡ listed_count listed.0 = ap listed_count parts.0 in
    let given : length made.0.parameters ≡ length e.arguments =
    ap (λ (ps : List PatternTree). length ps) parts.1 in
    let least = parts.2 in
    subst (IsResortWithin n e) made.2 (record {
      whole = omega (arith, a, b, c, d, f, h, patterns, most);
      parameters = omega (arith, given, least, few);
      each = omega (arith, given, long);
      some = λ none. some (omega (arith, given, none));
    })

resort_with_count : (n : ℕ) (e : StatedEquation) (o : Option PatternTree) (xs : List PatternTree)
    (q : LastResortParts) → e.guard ≡ o → e.arguments ≡ xs → resort_with e o xs ≡ Some q
    → IsStatementWithin n e → IsResortWithin n e q
resort_with_count n e None xs q guard arguments is h = absurd (let never : ⊥ = cc in never)
resort_with_count n e (Some g) [] q guard arguments is h = absurd (let never : ⊥ = cc in never)
resort_with_count n e (Some g) (x ∷ xs) q guard arguments is h =
    let long : length e.arguments ≡ length (x ∷ xs) =
    ap (λ (ps : List PatternTree). length ps) arguments in
    resort_under_count n e g q is (h.guard g guard) h.arguments
    (λ none. omega (arith, long, none))

pub resort_count : (n : ℕ) (e : StatedEquation) (q : LastResortParts)
    → last_resort_parts e ≡ Some q → IsStatementWithin n e → IsResortWithin n e q
resort_count n e q is h = resort_with_count n e e.guard e.arguments q refl refl is h

-- a numbered variable counts as one variable or more
numbered_counts : (sig : Signature) (vars : List (List ℕ × ℕ)) (u : Unfolded) (n : ℕ)
    → number_of_variable sig vars u ≡ Some n → 1 ≤ read_count u
numbered_counts sig vars (named_variable at name s) n is = omega arith
numbered_counts sig vars (written_value at s text byte) n is = absurd (let never : ⊥ = cc in never)
numbered_counts sig vars (applied_symbol at byte f ss us) n is =
    absurd (let never : ⊥ = cc in never)
numbered_counts sig vars (both_of at s p q) n is = absurd (let never : ⊥ = cc in never)
numbered_counts sig vars (other_form at) n is = absurd (let never : ⊥ = cc in never)

pub numbered_count : (sig : Signature) (vars : List (List ℕ × ℕ)) (xs : List PatternTree)
    (order : List ℕ)
    → map (λ (x : PatternTree). number_of_variable sig vars (unfolded x)) xs ≡ map Some order
    → (length order ≡ length xs) × (length xs ≤ listed_count xs)
numbered_count sig vars [] [] is = (refl, omega arith)
numbered_count sig vars [] (n ∷ order) is = absurd (let never : ⊥ = cc in never)
numbered_count sig vars (x ∷ xs) [] is = absurd (let never : ⊥ = cc in never)
numbered_count sig vars (x ∷ xs) (n ∷ order) is =
    let first : number_of_variable sig vars (unfolded x) ≡ Some n = cc in
    let rest : map (λ (y : PatternTree). number_of_variable sig vars (unfolded y)) xs
    ≡ map Some order =
    cc in
    let later = numbered_count sig vars xs order rest in
    let a = later.0 in
    let b = later.1 in
    let one = numbered_counts sig vars (unfolded x) n first in
    let most = unfolded_count x in (omega (arith, a), omega (arith, b, one, most))
