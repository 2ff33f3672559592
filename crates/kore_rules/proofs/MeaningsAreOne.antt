-- An axiom means one rule, and one equation of a function.
use Rattle.std.proofs.Common.{◌≡◌, ℕ, List, [], ◌∷◌, map, length, Option, Some, refl, sym, ap}
use Rattle.std.proofs.Common.{◌∙◌, subst, ◌<◌, arith}
use Rattle.std.specs.List.{AllZip}
use Rattle.kore_text.specs.Trees.{SortTree, PatternTree, AxiomDeclaration}
use Rattle.term_core.specs.Patterns.{Pattern, Patterns}
use Rattle.rule_core.specs.Rules.{RewriteRule, Equation, Guard}
use Rattle.rule_core.specs.declared.signature.Signature.{Signature}
use Rattle.rule_core.specs.declared.signature.SymInfo.{SymInfo}
use Rattle.kore_check.specs.Folds.{unfolded}
use Rattle.kore_check.specs.PatternMeanings.{Means}
use Rattle.kore_check.specs.PatternMeanings.{AllMean, with_variables}
use Rattle.kore_check.specs.PartNames.{names_in, names_in_all, number_of_variable}
use Rattle.rule_core.specs.NamedParts.{Name}
use Rattle.kore_check.specs.PatternMeanings.{with_all_variables}
use Rattle.kore_shapes.specs.Shapes.{Rewriting}
use Rattle.kore_shapes.specs.Statements.{StatedEquation}
use Rattle.kore_shapes.specs.EquationForms.{EquationParts, equation_parts}
use Rattle.kore_shapes.specs.LastResorts.{GuardParts, LastResortParts, last_resort_parts}
use Rattle.kore_axioms.specs.AxiomClasses.{rewrites, equates}
use Rattle.kore_axioms.specs.AxiomMeanings.{MeansTest, MeansRule}
use Rattle.kore_axioms.specs.Conditions.{tested_pattern}
use Rattle.kore_axioms.specs.RuleParts.{rule_parts, left_of, right_of}
use Rattle.kore_equations.specs.EquationMeanings.{MeansParts, MeansEquation, IsUnreadable}
use Rattle.kore_equations.specs.Guards.{MeansGuard}
use Rattle.kore_equations.specs.LastResortEquations.{IsReadableLastResort, MeansLastResort}
use Rattle.kore_equations.specs.LastResortEquations.{IsUnreadableLastResort}
use Rattle.kore_equations.specs.ReadableSides.{all_read}
use Rattle.kore_equations.specs.ReadableEquations.{IsReadable, condition_of_equation}
use Rattle.kore_equations.proofs.OneMeaning.{means_one, all_mean_one, test_means_one}

some_same : {A : Type 0} (x y : A) → Some x ≡ Some y → x ≡ y
some_same x y e = cc

rewrites_one : (v w : Rewriting) → rewrites v ≡ rewrites w → v ≡ w
rewrites_one v w e = cc

pub equates_one : (v w : StatedEquation) → equates v ≡ equates w → v ≡ w
equates_one v w e = cc

-- ---- rules

abbrev rule_with : Pattern → List Name → Option Pattern → Pattern → List ℕ → ℕ → ℕ → RewriteRule
rule_with l ns o r vs n p = record {
  left = l;
  names = ns;
  condition = o;
  right = r;
  variables = vs;
  priority = n;
  place = p;
}

same_rule : (x y : RewriteRule) → x.left ≡ y.left → x.names ≡ y.names
    → x.condition ≡ y.condition → x.right ≡ y.right → x.variables ≡ y.variables
    → x.priority ≡ y.priority → x.place ≡ y.place → x ≡ y
same_rule x y a names b c d e f = λ i.
    rule_with (a i) (names i) (b i) (c i) (d i) (e i) (f i)

pub rule_one : (sig : Signature) (a : AxiomDeclaration) (x y : RewriteRule) → MeansRule sig a x
    → MeansRule sig a y → x ≡ y
rule_one sig a x y r s =
    let shapes : r.shape ≡ s.shape = rewrites_one r.shape s.shape (sym r.class ∙ s.class) in
    let lefts : r.left ≡ s.left =
    some_same r.left s.left (sym r.is_left
    ∙ ap (λ (w : Rewriting). left_of (rule_parts sig w)) shapes ∙ s.is_left) in
    let rights : r.right ≡ s.right =
    some_same r.right s.right (sym r.is_right
    ∙ ap (λ (w : Rewriting). right_of (rule_parts sig w)) shapes ∙ s.is_right) in
    let vars : r.variables ≡ s.variables =
    r.numbered ∙ ap (λ (t : PatternTree). with_variables sig [] (unfolded t)) lefts
    ∙ sym s.numbered in
    let left : Means sig r.variables (unfolded r.left) y.left =
    subst (λ (t : PatternTree). Means sig r.variables (unfolded t) y.left) (sym lefts)
    (subst (λ (vs : List (List ℕ × ℕ)). Means sig vs (unfolded s.left) y.left) (sym vars)
    s.means_left) in
    let right : Means sig r.variables (unfolded r.right) y.right =
    subst (λ (t : PatternTree). Means sig r.variables (unfolded t) y.right) (sym rights)
    (subst (λ (vs : List (List ℕ × ℕ)). Means sig vs (unfolded s.right) y.right) (sym vars)
    s.means_right) in
    let condition : MeansTest sig r.variables (tested_pattern (rule_parts sig r.shape).condition)
    y.condition =
    subst (λ (w : Rewriting).
    MeansTest sig r.variables (tested_pattern (rule_parts sig w).condition) y.condition)
    (sym shapes) (subst (λ (vs : List (List ℕ × ℕ)).
    MeansTest sig vs (tested_pattern (rule_parts sig s.shape).condition) y.condition) (sym vars)
    s.means_condition) in
    let names : x.names ≡ y.names =
    r.names ∙ ap (λ (vs : List (List ℕ × ℕ)). names_in sig vs (0 ∷ []) (unfolded r.left)) vars
    ∙ ap (λ (t : PatternTree). names_in sig s.variables (0 ∷ []) (unfolded t)) lefts ∙ sym s.names in
    same_rule x y (means_one sig r.variables r.means_left left) names
    (test_means_one sig r.variables (tested_pattern (rule_parts sig r.shape).condition) x.condition
    y.condition r.means_condition condition)
    (means_one sig r.variables r.means_right right)
    (r.sorts ∙ ap (map (λ (v : List ℕ × ℕ). v.1)) vars ∙ sym s.sorts)
    (r.priority ∙ sym s.priority) (r.place ∙ sym s.place)

-- ---- equations

abbrev equation_with : ℕ → Patterns → List Name → Option (List Guard) → Option Pattern → Pattern
    → List ℕ → ℕ → ℕ → Equation
equation_with m ps ns gs o r vs n p = record {
  parameters = m;
  arguments = ps;
  names = ns;
  last_resort = gs;
  condition = o;
  right = r;
  variables = vs;
  priority = n;
  place = p;
}

same_equation : (x y : Equation) → x.parameters ≡ y.parameters → x.arguments ≡ y.arguments
    → x.names ≡ y.names → x.last_resort ≡ y.last_resort → x.condition ≡ y.condition
    → x.right ≡ y.right → x.variables ≡ y.variables → x.priority ≡ y.priority → x.place ≡ y.place
    → x ≡ y
same_equation x y a b names last c d e f g = λ i.
    equation_with (a i) (b i) (names i) (last i) (c i) (d i) (e i) (f i) (g i)

parts_one : (sig : Signature) (a : AxiomDeclaration) (d e : StatedEquation) (p q : EquationParts)
    (x y : Equation) → d ≡ e → p ≡ q → x.last_resort ≡ y.last_resort → MeansParts sig a d p x
    → MeansParts sig a e q y → x ≡ y
parts_one sig a d e p q x y stated parts last r s =
    let vars : r.variables ≡ s.variables =
    r.numbered
    ∙ ap (λ (w : EquationParts). with_all_variables sig [] (all_read w.patterns)) parts
    ∙ sym s.numbered in
    let arguments : AllMean sig r.variables (all_read p.patterns) y.arguments =
    subst (λ (w : EquationParts). AllMean sig r.variables (all_read w.patterns) y.arguments)
    (sym parts) (subst
    (λ (vs : List (List ℕ × ℕ)). AllMean sig vs (all_read q.patterns) y.arguments)
    (sym vars) s.means_arguments) in
    let right : Means sig r.variables (unfolded p.right) y.right =
    subst (λ (w : EquationParts). Means sig r.variables (unfolded w.right) y.right) (sym parts)
    (subst (λ (vs : List (List ℕ × ℕ)). Means sig vs (unfolded q.right) y.right)
    (sym vars) s.means_right) in
    let condition : MeansTest sig r.variables (tested_pattern (condition_of_equation sig d p))
    y.condition =
    subst (λ (f : StatedEquation).
    MeansTest sig r.variables (tested_pattern (condition_of_equation sig f p)) y.condition)
    (sym stated)
    (subst (λ (w : EquationParts).
    MeansTest sig r.variables (tested_pattern (condition_of_equation sig e w)) y.condition)
    (sym parts)
    (subst (λ (vs : List (List ℕ × ℕ)).
    MeansTest sig vs (tested_pattern (condition_of_equation sig e q)) y.condition)
    (sym vars) s.means_condition)) in
    same_equation x y
    (r.parameters ∙ ap (λ (w : EquationParts). length w.parameters) parts ∙ sym s.parameters)
    (all_mean_one sig r.variables r.means_arguments arguments)
    (r.names
    ∙ ap (λ (vs : List (List ℕ × ℕ)). names_in_all sig vs [] 0 (all_read p.patterns)) vars
    ∙ ap (λ (w : EquationParts). names_in_all sig s.variables [] 0 (all_read w.patterns)) parts
    ∙ sym s.names) last
    (test_means_one sig r.variables (tested_pattern (condition_of_equation sig d p))
    x.condition y.condition r.means_condition condition)
    (means_one sig r.variables r.means_right right)
    (r.sorts ∙ ap (map (λ (v : List ℕ × ℕ). v.1)) vars ∙ sym s.sorts)
    (r.priority ∙ sym s.priority) (r.place ∙ sym s.place)

pub equation_one : (sig : Signature) (f : List ℕ) (a : AxiomDeclaration) (x y : Equation)
    → MeansEquation sig f a x → MeansEquation sig f a y → x ≡ y
equation_one sig f a x y r s =
    let stated : r.stated ≡ s.stated =
    equates_one r.stated s.stated (sym r.states.class ∙ s.states.class) in
    let parts : r.parts ≡ s.parts =
    some_same r.parts s.parts
    (sym r.readable.form ∙ ap equation_parts stated ∙ s.readable.form) in
    parts_one sig a r.stated s.stated r.parts s.parts x y stated parts
    (r.last_resort ∙ sym s.last_resort) r.means s.means

-- ---- equations of the last resort

pub orders_one : (m n : List ℕ) → map {B = Option ℕ} Some m ≡ map Some n → m ≡ n
orders_one [] [] e = refl
orders_one [] (y ∷ n) e = absurd (let never : ⊥ = cc in never)
orders_one (x ∷ m) [] e = absurd (let never : ⊥ = cc in never)
orders_one (x ∷ m) (y ∷ n) e =
    let first : x ≡ y = cc in
    let rest : map {B = Option ℕ} Some m ≡ map Some n = cc in
    let same : m ≡ n = orders_one m n rest in cc

abbrev guard_with : ℕ → List ℕ → Guard
guard_with n order = record { equation = n; order = order }

guard_one : (sig : Signature) (info : SymInfo) (over : SortTree) (es : List Equation)
    (g : GuardParts) (m n : Guard) → MeansGuard sig info over es g m
    → MeansGuard sig info over es g n → m ≡ n
guard_one sig info over es g m n r s =
    let numbers : m.equation ≡ n.equation =
    omega (
      arith,
      (λ (lt : m.equation < n.equation).
          s.first m.equation r.equation m.order lt r.listed r.repeats),
      (λ (lt : n.equation < m.equation).
          r.first n.equation s.equation n.order lt s.listed s.repeats),
    ) in
    let vars : r.repeats.variables ≡ s.repeats.variables =
    r.repeats.numbered ∙ sym s.repeats.numbered in
    let orders : m.order ≡ n.order =
    orders_one m.order n.order (sym r.repeats.quantified.numbers
    ∙ ap (λ (vs : List (List ℕ × ℕ)).
    map (λ (x : PatternTree). number_of_variable sig vs (unfolded x)) g.variables) vars
    ∙ s.repeats.quantified.numbers) in
    λ i. guard_with (numbers i) (orders i)

guards_one : (sig : Signature) (info : SymInfo) (over : SortTree) (es : List Equation)
    (gs : List GuardParts) (ms ns : List Guard) → AllZip (MeansGuard sig info over es) gs ms
    → AllZip (MeansGuard sig info over es) gs ns → ms ≡ ns
guards_one sig info over es [] [] [] r s = refl
guards_one sig info over es [] [] (n ∷ ns) r s = absurd s
guards_one sig info over es [] (m ∷ ms) ns r s = absurd r
guards_one sig info over es (g ∷ gs) [] ns r s = absurd r
guards_one sig info over es (g ∷ gs) (m ∷ ms) [] r s = absurd s
guards_one sig info over es (g ∷ gs) (m ∷ ms) (n ∷ ns) r s =
    let first : m ≡ n = guard_one sig info over es g m n r.0 s.0 in
    let rest : ms ≡ ns = guards_one sig info over es gs ms ns r.1 s.1 in cc

pub last_resort_one : (sig : Signature) (f : List ℕ) (es : List Equation) (a : AxiomDeclaration)
    (x y : Equation) → MeansLastResort sig f es a x → MeansLastResort sig f es a y → x ≡ y
last_resort_one sig f es a x y r s =
    let stated : r.stated ≡ s.stated =
    equates_one r.stated s.stated (sym r.states.class ∙ s.states.class) in
    let info : r.info ≡ s.info =
    some_same r.info s.info (sym r.states.declared ∙ s.states.declared) in
    let parts : r.parts ≡ s.parts =
    some_same r.parts s.parts
    (sym r.readable.form ∙ ap last_resort_parts stated ∙ s.readable.form) in
    let others : AllZip (MeansGuard sig r.info r.stated.over es) r.parts.guards s.guards =
    subst (λ (q : LastResortParts).
    AllZip (MeansGuard sig r.info r.stated.over es) q.guards s.guards) (sym parts)
    (subst (λ (i : SymInfo). AllZip (MeansGuard sig i r.stated.over es) s.parts.guards s.guards)
    (sym info)
    (subst (λ (e : StatedEquation).
    AllZip (MeansGuard sig s.info e.over es) s.parts.guards s.guards) (sym stated)
    s.mean_guards)) in
    let guards : r.guards ≡ s.guards =
    guards_one sig r.info r.stated.over es r.parts.guards r.guards s.guards r.mean_guards others in
    parts_one sig a r.stated s.stated r.parts.equation s.parts.equation x y stated
    (ap (λ (q : LastResortParts). q.equation) parts)
    (r.last_resort ∙ ap (λ (gs : List Guard). Some gs) guards ∙ sym s.last_resort) r.means s.means

-- a readable one is not unreadable
pub last_or_not : (sig : Signature) (f : List ℕ) (es : List Equation) (a : AxiomDeclaration)
    (x : Equation) → MeansLastResort sig f es a x → IsUnreadableLastResort sig f es a → ⊥
last_or_not sig f es a x r s =
    let stated : r.stated ≡ s.stated =
    equates_one r.stated s.stated (sym r.states.class ∙ s.states.class) in
    let info : r.info ≡ s.info =
    some_same r.info s.info (sym r.states.declared ∙ s.states.declared) in
    s.unreadable r.parts (subst (λ (i : SymInfo). IsReadableLastResort sig a i s.stated es r.parts)
    info (subst (λ (e : StatedEquation). IsReadableLastResort sig a r.info e es r.parts) stated
    r.readable))

-- ---- readable or not

-- a readable equation is not unreadable
pub readable_or_not : (sig : Signature) (f : List ℕ) (a : AxiomDeclaration) (x : Equation)
    → MeansEquation sig f a x → IsUnreadable sig f a → ⊥
readable_or_not sig f a x r s =
    let stated : r.stated ≡ s.stated =
    equates_one r.stated s.stated (sym r.states.class ∙ s.states.class) in
    let info : r.info ≡ s.info =
    some_same r.info s.info (sym r.states.declared ∙ s.states.declared) in
    s.unreadable r.parts (subst (λ (i : SymInfo). IsReadable sig a i s.stated r.parts) info
    (subst (λ (e : StatedEquation). IsReadable sig a r.info e r.parts) stated r.readable))

-- ---- classes

pub rule_not_equation : (sig : Signature) (f : List ℕ) (a : AxiomDeclaration) (x : RewriteRule)
    (y : Equation) → MeansRule sig a x → MeansEquation sig f a y → ⊥
rule_not_equation sig f a x y r s =
    let both : rewrites r.shape ≡ equates s.stated = sym r.class ∙ s.states.class in
    let never : ⊥ = cc in never

pub rule_not_unreadable : (sig : Signature) (f : List ℕ) (a : AxiomDeclaration) (x : RewriteRule)
    → MeansRule sig a x → IsUnreadable sig f a → ⊥
rule_not_unreadable sig f a x r s =
    let both : rewrites r.shape ≡ equates s.stated = sym r.class ∙ s.states.class in
    let never : ⊥ = cc in never
