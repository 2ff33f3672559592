-- Small theories, with the evaluations and steps that the definitions give there. A theory is
-- described by the declarations of its signature. Each case holds for every signature with these
-- declarations.
use Rattle.std.specs.Prelude.{◌≡◌, ◌-◌, ◌^◌, ℕ, ℤ, pos, negsuc, List, [], ◌∷◌, slice_get, Some}
use Rattle.std.specs.Prelude.{None, map}
use Rattle.term_core.specs.Terms.{integer, text, Tree, leaf, node, inj, Forest, no_tree, more_trees}
use Rattle.term_core.specs.Terms.{height}
use Rattle.term_core.specs.Patterns.{Pattern, Patterns, variable, domain_value, application}
use Rattle.term_core.specs.Patterns.{injection, call, no_pattern, more_patterns}
use Rattle.term_core.specs.declared.values.NoValue.TheVariants.{ZeroDivisor, Range}
use Rattle.rule_core.specs.Rules.{RewriteRule, Equation}
use Rattle.rule_core.specs.Theories.{RewriteTheory}
use Rattle.rule_core.specs.Subsorts.{IsBelow}
use Rattle.rule_core.specs.Sorting.{IsSymbol}
use Rattle.rule_core.specs.Evaluation.{Evaluated, value, blocked, no_value, closed, no_equation}
use Rattle.rule_core.specs.Evaluation.{no_call_left, too_high, too_nested, IsInjectionSymbol}
use Rattle.rule_core.specs.Evaluation.{Evaluates}
use Rattle.rule_core.specs.FirstRule.{most_nesting}
use Rattle.rule_core.specs.Runs.{steps_on, stops, stays, Steps}
use Rattle.rule_core.specs.declared.signature.Signature.{Signature}
use Rattle.rule_core.specs.declared.signature.SortInfo.{SortInfo}
use Rattle.rule_core.specs.declared.signature.SortKind.TheVariants as kind
use Rattle.rule_core.specs.declared.signature.SortRef.{SortRef}
use Rattle.rule_core.specs.declared.signature.SortRef.TheVariants.{Sort}
use Rattle.rule_core.specs.declared.signature.SymInfo.{SymInfo}
use Rattle.rule_core.specs.declared.signature.SymKind.{SymKind}
use Rattle.rule_core.specs.declared.signature.SymKind.TheVariants.{Ctor, Equations, Hooked, Closed}

-- ---- declarations, and patterns over them

abbrev pub named : ℕ → SortRef
named s = Sort (record { 0 = s })

-- the symbol with this number has this kind, these argument sorts and this result sort
pub record Declares (sig : Signature) (f : ℕ) (is : SymKind) (arguments : List ℕ) (result : ℕ) :
    Type 0 where
  pub info : SymInfo
  pub there : IsSymbol sig f info
  pub of_kind : info.kind ≡ is
  pub takes : info.args.items ≡ map named arguments
  pub makes : info.result ≡ named result

-- the sort with this number has the whole numbers as values
abbrev pub IsOfIntegers : Signature → ℕ → Type 0
IsOfIntegers sig s =
    (name : List ℕ) × (info : SortInfo) × (slice_get sig.sorts s ≡ Some (name, info))
    × (info.kind ≡ kind.Int)

abbrev pub hook : ℕ → SymKind
hook row = Hooked (record { 0 = row })

abbrev pub number : ℤ → Pattern
number z = domain_value 0 (integer z)

abbrev pub one : Pattern → Patterns
one p = more_patterns p no_pattern

abbrev pub two : Pattern → Pattern → Patterns
two p q = more_patterns p (more_patterns q no_pattern)

abbrev pub tree_number : ℤ → Tree
tree_number z = leaf 0 (integer z)

abbrev pub one_tree : Tree → Forest
one_tree t = more_trees t no_tree

-- ---- whole numbers: the sort 0, functions with hooks, an undefined one, and the constructor n

pub record DeclaresIntegers (sig : Signature) : Type 0 where
  pub sort : IsOfIntegers sig 0
  pub add : Declares sig 0 (hook 0) (0 ∷ (0 ∷ [])) 0
  pub tdiv : Declares sig 1 (hook 3) (0 ∷ (0 ∷ [])) 0
  pub tmod : Declares sig 2 (hook 4) (0 ∷ (0 ∷ [])) 0
  pub ediv : Declares sig 3 (hook 5) (0 ∷ (0 ∷ [])) 0
  pub emod : Declares sig 4 (hook 6) (0 ∷ (0 ∷ [])) 0
  pub gt : Declares sig 5 (hook 11) (0 ∷ (0 ∷ [])) 1
  pub len : Declares sig 6 Closed (2 ∷ []) 0

abbrev pub binary : ℕ → ℤ → ℤ → Pattern
binary f x y = call f [] (two (number x) (number y))

-- the constructor with the number 7, applied to a number
abbrev pub n : Pattern → Pattern
n p = application 7 (one p)

abbrev pub tree_n : ℤ → Tree
tree_n z = node 7 (one_tree (tree_number z))

abbrev pub without_rules : Signature → RewriteTheory
without_rules sig = record { sig = sig; rules = []; equations = [] }

-- the pattern, which has no variables, has this outcome with this many calls left
abbrev pub Gives : RewriteTheory → Pattern → ℕ → Evaluated → Type 0
Gives theory p calls r = Evaluates theory most_nesting [] p calls r

abbrev pub greatest : ℤ
greatest = pos (2 ^ 127 - 1)

abbrev pub least : ℤ
least = negsuc (2 ^ 127 - 1)

pub record TriedIntegers (sig : Signature) : Type 0 where
  pub itself : Gives (without_rules sig) (n (number (pos 1))) 0 (value (tree_n (pos 1)) 0)
  pub greatest_sum : Gives (without_rules sig) (n (binary 0 greatest (pos 0))) 1
      (value (tree_n greatest) 0)
  pub past_range : Gives (without_rules sig) (n (binary 0 greatest (pos 1))) 1
      (blocked (no_value 0 Range))
  pub no_call : Gives (without_rules sig) (n (binary 0 (pos 2) (pos 3))) 0
      (blocked (no_call_left 0))
  pub truncated_rest : Gives (without_rules sig) (n (binary 2 (negsuc 6) (pos 2))) 1
      (value (tree_n (negsuc 0)) 0)
  pub euclidean_rest : Gives (without_rules sig) (n (binary 4 (negsuc 6) (pos 2))) 1
      (value (tree_n (pos 1)) 0)
  pub truncated_quotient : Gives (without_rules sig) (n (binary 1 (negsuc 6) (pos 2))) 1
      (value (tree_n (negsuc 2)) 0)
  pub euclidean_quotient : Gives (without_rules sig) (n (binary 3 (negsuc 6) (pos 2))) 1
      (value (tree_n (negsuc 3)) 0)
  pub rest_of_least : Gives (without_rules sig) (n (binary 2 least (negsuc 0))) 1
      (value (tree_n (pos 0)) 0)
  pub least_by_minus_one : Gives (without_rules sig) (n (binary 1 least (negsuc 0))) 1
      (blocked (no_value 3 Range))
  pub by_zero : Gives (without_rules sig) (n (binary 1 (pos 1) (pos 0))) 1
      (blocked (no_value 3 ZeroDivisor))
  pub nothing_gives : Gives (without_rules sig) (n (call 6 [] (one (domain_value 2 (text []))))) 0
      (blocked (closed 6))
  pub first_cause : Gives (without_rules sig)
      (call 0 [] (two (binary 1 (pos 1) (pos 0)) (call 6 [] (one (domain_value 2 (text [])))))) 9
      (blocked (no_value 3 ZeroDivisor))

-- ---- a function without arguments, of three forms: no equation, a value, and a constructor

abbrev pub always : Pattern → Equation
always right = record {
  parameters = 0;
  arguments = no_pattern;
  names = [];
  last_resort = None;
  condition = None;
  right = right;
  variables
      = [];
  priority = 50;
  place = 0;
}

abbrev pub defined_by : Signature → List Equation → RewriteTheory
defined_by sig es = record { sig = sig; rules = []; equations = es ∷ [] }

-- the call of the function has this outcome, with this nesting and this many calls left
abbrev pub Calls : Signature → List Equation → ℕ → ℕ → Evaluated → Type 0
Calls sig es nesting calls r =
    Evaluates (defined_by sig es) nesting [] (call 0 [] no_pattern) calls r

pub record TriedBounds (sig : Signature) : Type 0 where
  pub no_equation_used : Calls sig [] most_nesting 1 (blocked (no_equation 0))
  pub no_call_for_it : Calls sig [] most_nesting 0 (blocked (no_call_left 0))
  pub call_nested : Calls sig (always (number (pos 5)) ∷ []) 0 1 (blocked (too_nested 0))
  pub right_side_nested : Calls sig (always (number (pos 5)) ∷ []) 1 1 (blocked (too_nested 0))
  pub value_reached : Calls sig (always (number (pos 5)) ∷ []) 2 1 (value (tree_number (pos 5)) 0)
  pub root_nested : Calls sig (always (application 7 no_pattern) ∷ []) 2 1 (blocked (too_nested 7))
  pub root_reached : Calls sig (always (application 7 no_pattern) ∷ []) 3 1
      (value (node 7 no_tree) 0)
  pub endless : Calls sig (always (call 0 [] no_pattern) ∷ []) most_nesting 2
      (blocked (no_call_left 0))
  pub at_height : (t : Tree) → height t ≡ 499 →
      Evaluates (defined_by sig []) 1 (Some t ∷ []) (application 7 (one (variable 0))) 0
      (value (node 7 (one_tree t)) 0)
  pub past_height : (t : Tree) → height t ≡ 500 →
      Evaluates (defined_by sig []) 1 (Some t ∷ []) (application 7 (one (variable 0))) 0
      (blocked (too_high 7))

-- ---- rules with conditions on whole numbers: the constructors 8 (before the step), 9 and 10

abbrev pub when : Pattern → ℕ → RewriteRule
when condition f = record {
  left = application 8 (one (variable 0));
  names = [];
  condition = Some condition;
  right = application f (one (variable 0));
  variables = 0 ∷ [];
  priority = 50;
  place = f;
}

abbrev pub greater : Pattern → Pattern → Pattern
greater p q = call 5 [] (two p q)

abbrev pub with_rules : Signature → List RewriteRule → RewriteTheory
with_rules sig rules = record { sig = sig; rules = rules; equations = [] }

-- above 10 the step leads to the constructor 9, below 10 to the constructor 10
abbrev pub by_size : Signature → RewriteTheory
by_size sig =
    with_rules sig (when (greater (variable 0) (number (pos 10))) 9
    ∷ (when (greater (number (pos 10)) (variable 0)) 10 ∷ []))

-- the same with another first condition, which divides by the number
abbrev pub by_quotient : Signature → RewriteTheory
by_quotient sig =
    with_rules sig (when (greater (call 1 [] (two (number (pos 1)) (variable 0))) (number (pos 0)))
    9 ∷ (when (greater (number (pos 10)) (variable 0)) 10 ∷ []))

abbrev pub on : ℕ → ℤ → Tree
on f z = node f (one_tree (tree_number z))

pub record TriedConditions (sig : Signature) : Type 0 where
  pub first_holds : Steps (by_size sig) (on 8 (pos 11)) 1 (steps_on (on 9 (pos 11)) 0)
  pub second_holds : Steps (by_size sig) (on 8 (pos 3)) 2 (steps_on (on 10 (pos 3)) 0)
  pub none_holds : Steps (by_size sig) (on 8 (pos 10)) 2 stays
  pub too_few_calls : Steps (by_size sig) (on 8 (pos 3)) 1 (stops (no_call_left 5))
  pub first_divides : Steps (by_quotient sig) (on 8 (pos 3)) 3 (steps_on (on 10 (pos 3)) 0)
  pub first_blocked : Steps (by_quotient sig) (on 8 (pos 0)) 3 (stops (no_value 3 ZeroDivisor))

-- ---- injections: the sorts 0 (whole numbers), 1 above it, and 2 and 3 above 1

pub record DeclaresInjections (sig : Signature) : Type 0 where
  pub integers : IsOfIntegers sig 0
  pub symbol : IsInjectionSymbol sig 0
  pub below : IsBelow sig.subsorts 0 1

-- the argument of the constructor 1, of the sort 1 in the sort 3, is moved to the constructor 2, in
-- the sort 2
abbrev pub moves : RewriteRule
moves = record {
  left = application 1 (one (injection 1 3 (variable 0)));
  names = [];
  condition = None;
  right = application 2 (one (injection 1 2 (variable 0)));
  variables = 1 ∷ [];
  priority = 50;
  place = 0;
}

pub record TriedInjections (sig : Signature) : Type 0 where
  pub joined : Gives (without_rules sig) (injection 1 2 (injection 0 1 (number (pos 5)))) 0
      (value (inj 0 2 (tree_number (pos 5))) 0)
  pub moved : Steps (with_rules sig (moves ∷ []))
      (node 1 (one_tree (inj 0 3 (tree_number (pos 5))))) 0
      (steps_on (node 2 (one_tree (inj 0 2 (tree_number (pos 5))))) 0)

-- ---- lists: the constructors 1 (empty) and 2 (an item followed by a list), and the function 0,
-- which appends, in the sort 1; the item 3

pub record DeclaresLists (sig : Signature) : Type 0 where
  pub append : Declares sig 0 Equations (1 ∷ (1 ∷ [])) 1
  pub empty : Declares sig 1 Ctor [] 1
  pub more : Declares sig 2 Ctor (0 ∷ (1 ∷ [])) 1
  pub item : Declares sig 3 Ctor [] 0

-- the empty list followed by a list is that list
abbrev pub append_empty : Equation
append_empty = record {
  parameters = 2;
  arguments = two (application 1 no_pattern) (variable 0);
  names = [];
  last_resort = None;
  condition = None;
  right = variable 0;
  variables = 1 ∷ [];
  priority = 50;
  place = 0;
}

-- an item and a list, followed by another list, are the item followed by both lists
abbrev pub append_more : Equation
append_more = record {
  parameters = 2;
  arguments = two (application 2 (two (variable 0) (variable 1))) (variable 2);
  names = [];
  last_resort = None;
  condition = None;
  right = application 2 (two (variable 0) (call 0 [] (two (variable 1) (variable 2))));
  variables = 0 ∷ (1 ∷ (1 ∷ []));
  priority = 50;
  place = 1;
}

abbrev pub appending : Signature → RewriteTheory
appending sig = defined_by sig (append_empty ∷ (append_more ∷ []))

abbrev pub empty_list : Pattern
empty_list = application 1 no_pattern

-- the list that has only the item
abbrev pub one_item : Pattern
one_item = application 2 (two (application 3 no_pattern) empty_list)

abbrev pub one_item_tree : Tree
one_item_tree = node 2 (more_trees (node 3 no_tree) (one_tree (node 1 no_tree)))

pub record TriedLists (sig : Signature) : Type 0 where
  pub appended : Gives (appending sig) (call 0 [] (two one_item one_item)) 2
      (value (node 2 (more_trees (node 3 no_tree) (one_tree one_item_tree))) 0)
  pub too_few : Gives (appending sig) (call 0 [] (two one_item one_item)) 1
      (blocked (no_call_left 0))

-- ---- all of them

pub record TriedEvaluations : Type 0 where
  pub integers : (sig : Signature) → DeclaresIntegers sig → TriedIntegers sig
  pub bounds : (sig : Signature) → Declares sig 0 Equations [] 0 → TriedBounds sig
  pub conditions : (sig : Signature) → DeclaresIntegers sig → TriedConditions sig
  pub injections : (sig : Signature) → DeclaresInjections sig → TriedInjections sig
  pub lists : (sig : Signature) → DeclaresLists sig → TriedLists sig
