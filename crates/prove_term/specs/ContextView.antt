-- The `Context` that a `Cx` of the code has as its model, and what is true of it.
use Rattle.std.specs.Prelude.{◌≡◌, ◌<◌, ℕ, IfSome, length}
use Rattle.std.specs.BTreeMap as tree
use Rattle.std.specs.Ordering.{nat_cmp}
use Rattle.prove_term.specs.Contexts.{Context, IsContext}
use Rattle.prove_term.specs.declared.context.Cx.TheInside.{Inside}
use Rattle.prove_term.specs.Stated.{IsRuleAxiom}
use Rattle.prove_term.specs.ValueAxioms.{IsValueAxiom}
use Rattle.prove_term.specs.Constructing.{IsConstructorAt}
use Rattle.prove_term.specs.Injections.{IsInjectionAt, IsCollapseAt}
use Rattle.prove_term.specs.EqualityLemmas.{IsEqualityAt, number_of}
use Rattle.prove_term.specs.declared.equality_lemmas.EqualityLemma.{EqualityLemma}
use Rattle.prove_term.specs.SortKeys.{pair_cmp, triple_cmp}

abbrev pub context_of : Inside → Context
context_of a = record {
  program = a.program.now;
  names = a.names;
  axioms = a.theory;
  lemmas = a.lemmas.items;
}

-- The context is right, and the theorems are its lemmas. Each entry of the maps is right: the axiom
-- or the lemma that it numbers is about the key of the entry. What is kept by fingerprints numbers
-- axioms, of which nothing else is known.
pub record IsKept (a : Inside) : Type 0 where
  pub context : IsContext (context_of a)
  pub rules : (i : ℕ)
      → IfSome (tree.get nat_cmp a.rules i) (λ no. IsRuleAxiom (context_of a) i no.0)
  pub values : (c : ℕ)
      → IfSome (tree.get nat_cmp a.values c) (λ v. IsValueAxiom (context_of a) c v.sort.0 v.no.0)
  pub stated : (i : ℕ)
      → IfSome (tree.get nat_cmp a.stated i) (λ no. no.0 < length (context_of a).axioms)
  pub theorems : a.theorems.items ≡ a.lemmas.items
  pub constructors : (f : ℕ)
      → IfSome (tree.get nat_cmp a.constructors f) (IsConstructorAt (context_of a) f)
  pub injections : (q : ℕ × ℕ) →
      IfSome (tree.get pair_cmp a.injections q) (IsInjectionAt (context_of a) q.0 q.1)
  pub collapses : (q : ℕ × ℕ × ℕ) →
      IfSome (tree.get triple_cmp a.collapses q) (IsCollapseAt (context_of a) q.0 q.1 q.2)
  pub equalities : (which : EqualityLemma) →
      IfSome (tree.get nat_cmp a.equalities (number_of which)) (IsEqualityAt (context_of a) which)
