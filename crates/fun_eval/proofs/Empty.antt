-- A program without symbols and rules is well-sorted.
use Rattle.std.proofs.Common.{◌≡◌, ℕ, zero, suc, ◌<◌, ◌≤◌, ◌^◌, inl, List, [], ◌∷◌, length, map}
use Rattle.std.proofs.Common.{Option, Some, refl, sym, ◌∙◌, ap, subst, arith}
use Rattle.std.specs.Prelude.{ℤ, pos, All, Contains, slice_get, slice_index_or, Vec}
use Rattle.std.specs.Global.{Global}
use Rattle.term_core.specs.Terms.{Tree, integer}
use Rattle.term_core.specs.Patterns.{domain_value, binding}
use Rattle.rule_core.specs.Rules.{RewriteRule, AreInOrder}
use Rattle.rule_core.specs.Rules as plain
use Rattle.rule_core.specs.Theories.{RewriteTheory}
use Rattle.rule_core.specs.ProgramView.{theory_of, rewrite_rules, function_equations}
use Rattle.rule_core.specs.Subsorts.{IsBelow, by_pair, by_chain}
use Rattle.rule_core.specs.Sorting.{HasValue, IsValueOf}
use Rattle.rule_core.specs.WellSorted.{IsWellSorted, IsPair}
use Rattle.rule_core.specs.declared.rules.Equation.{Equation}
use Rattle.rule_core.specs.declared.rules.Program.{Program}
use Rattle.rule_core.specs.declared.rules.Rule.{Rule}
use Rattle.rule_core.specs.declared.signature.Signature.{Signature}
use Rattle.rule_core.specs.declared.signature.SymInfo.{SymInfo}
use Rattle.rule_core.proofs.HookRanges.{short_range}
use Rattle.fun_eval.specs.Evaluable.{HasNumbers, IsEvaluable}
use Rattle.fun_eval.specs.TestPrograms.{HasIntegers}

no_symbol : (xs : List (List ℕ × SymInfo)) (f : ℕ) (name : List ℕ) (info : SymInfo) → xs ≡ []
    → slice_get xs f ≡ Some (name, info) → ⊥
no_symbol [] f name info e there = cc
no_symbol (x ∷ xs) f name info e there = cc

none_below : {pairs : List (ℕ × ℕ)} {a b : ℕ} → pairs ≡ [] → IsBelow pairs a b → ⊥
none_below e (by_pair h) = none_in _ _ e h where
  none_in : (ps : List (ℕ × ℕ)) (p : ℕ × ℕ) → ps ≡ [] → Contains ps p → ⊥
  none_in ps p e h =
      let none : length ps ≡ 0 = ap length e in
      let lt : h.0 < length ps = h.1 in absurd (omega arith)
none_below e (by_chain h rest) = none_below e rest

none_listed : (f : ℕ)
    → AreInOrder (map (λ (e : plain.Equation). (e.priority, e.place)) (slice_index_or [] f []))
none_listed zero = tt
none_listed (suc f) = tt

none_long : (f : ℕ) → length (slice_index_or {A = List plain.Equation} [] f []) ≤ 2 ^ 32
none_long zero = omega arith
none_long (suc f) = omega arith

pub well_sorted : (p : Program) → p.sig.symbols ≡ [] → p.sig.subsorts ≡ [] → p.rules.items ≡ []
    → p.equations.items ≡ [] → IsWellSorted (theory_of p)
well_sorted p symbols subsorts rules equations = record {
  signature = record {
    declared = λ f info i. absurd (no_symbol p.sig.symbols f i.0 info symbols i.1);
    injections = λ f info i k. absurd (no_symbol p.sig.symbols f i.0 info symbols i.1);
    constructors = λ f info i k. absurd (no_symbol p.sig.symbols f i.0 info symbols i.1);
    pairs = subst (All (IsPair p.sig)) (sym subsorts) (λ k d lt. absurd (omega arith));
    no_cycle = λ a below. none_below subsorts below;
  };
  hooked = λ f row info i k. absurd (no_symbol p.sig.symbols f i.0 info symbols i.1);
  functions = λ f info i k. absurd (no_symbol p.sig.symbols f i.0 info symbols i.1);
  one_sort = inl (ap rewrite_rules rules);
  rules_in_order =
      subst (λ (rs : List Rule).
      AreInOrder (map (λ (r : RewriteRule). (r.priority, r.place)) (rewrite_rules rs)))
      (sym rules) tt;
  listed = ap (λ (es : List (Vec Equation Global)). length (function_equations es)) equations
      ∙ sym (ap (λ (xs : List (List ℕ × SymInfo)). length xs) symbols);
  equations = λ f info i. absurd (no_symbol p.sig.symbols f i.0 info symbols i.1);
  equations_in_order =
      λ f. subst (λ (es : List (Vec Equation Global)). AreInOrder (map
      (λ (e : plain.Equation). (e.priority, e.place))
      (slice_index_or (function_equations es) f []))) (sym equations) (none_listed f);
}

pub has_numbers : (p : Program) → length p.sig.sorts < 2 ^ 32 → p.sig.symbols ≡ []
    → p.rules.items ≡ [] → p.equations.items ≡ [] → HasNumbers (theory_of p)
has_numbers p sorts symbols rules equations = record {
  sorts = sorts;
  symbols =
      subst (λ (xs : List (List ℕ × SymInfo)). length xs ≤ 2 ^ 32) (sym symbols) (omega arith);
  rules = subst (λ (rs : List Rule). length (rewrite_rules rs) ≤ 2 ^ 32) (sym rules) (omega arith);
  equations =
      λ f. subst (λ (es : List (Vec Equation Global)).
      length (slice_index_or (function_equations es) f []) ≤ 2 ^ 32) (sym equations)
      (none_long f);
}

-- a whole number that is a value of the sort may be evaluated
pub number_evaluable : (theory : RewriteTheory) (s : ℕ) (z : ℤ) (theta : List (Option Tree))
    → HasValue theory.sig s (integer z) → theta ≡ []
    → IsEvaluable theory theta (domain_value s (integer z))
number_evaluable theory s z theta has none = (
  [],
  s,
  (refl, has),
  record {
    bound = λ x stands. absurd stands;
    sorted =
        λ x t b.
        absurd (unbound x t (sym (ap (λ (th : List (Option Tree)). binding th x) none) ∙ b));
    low =
        λ x t b.
        absurd (unbound x t (sym (ap (λ (th : List (Option Tree)). binding th x) none) ∙ b));
  },
) where
  unbound : (x : ℕ) (t : Tree) → binding [] x ≡ Some t → ⊥
  unbound x t e = cc

-- a whole number below 2^127 is a value of the sort of whole numbers
pub integer_value : (sig : Signature) (n : ℕ) → n < 2 ^ 127 → HasIntegers sig
    → HasValue sig 0 (integer (pos n))
integer_value sig n lt has = (
  has.0,
  has.1,
  has.2,
  subst (λ k. IsValueOf k (integer (pos n))) (sym has.3) (short_range (pos n) lt),
)
