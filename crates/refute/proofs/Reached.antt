-- What is asked before a pattern and a term are compared.
use Rattle.std.proofs.Common.{◌≡◌, inl, inr, ◌<◌, ℕ, List, [], ◌∷◌, Option, Some, None, length}
use Rattle.std.proofs.Common.{get_or, refl, sym, ◌∙◌, subst, arith}
use Rattle.std.specs.Prelude.{All, Contains, IsSome}
use Rattle.std.proofs.lemmas.Bool.{false≢true}
use Rattle.std.proofs.lemmas.List.{length-map}
use Rattle.std.proofs.lemmas.Option.{slice_get_within}
use Rattle.term_core.specs.Terms.{Tree, IsNormal, no_tree, more_trees}
use Rattle.term_core.specs.Patterns.{Pattern, Patterns, variable, domain_value, application}
use Rattle.term_core.specs.Patterns.{injection, call, no_pattern, more_patterns, binding}
use Rattle.term_core.specs.RulePatterns.{sort_numbers}
use Rattle.term_core.specs.declared.ids.SortId.{SortId}
use Rattle.rule_core.specs.Matching.{OccursIn, OccursInSome, MatchAll}
use Rattle.rule_core.specs.Sorting.{HasSort, HaveSorts, IsTermOf}
use Rattle.rule_core.specs.Subsorts.{HasNoCycle}
use Rattle.rule_core.specs.WellSorted.{HasNoCall, HaveNoCall}
use Rattle.rule_core.specs.declared.signature.Signature.{Signature}
use Rattle.rule_core.specs.declared.signature.SortRef.{SortRef}
use Rattle.prove_open.specs.Givens.{HasFact}
use Rattle.prove_open.specs.declared.givens.Given.{Given}
use Rattle.refute.specs.Bindings.{AllCome, HasTwo}
use Rattle.refute.specs.ClashLaws.{MatchReaches}
use Rattle.refute.specs.Clashes.{ComesTo, Clash, Fails, clash, two_bindings}
use Rattle.refute.specs.Refutations.{variables_in_order}
use Rattle.refute.specs.Refuting.{IsPair}
use Rattle.refute.proofs.Listed.{occurs_listed, listed_occurs, all_contained}
use Rattle.refute.proofs.PlaceSorts.{comes_occurs}

some_same : {A : Type 0} (a b : A) → Some a ≡ Some b → a ≡ b
some_same a b h = cc

none_some : {A : Type 0} (a : A) → None ≡ Some a → ⊥
none_some a h = cc

-- ---- variables of well-sorted patterns

mutual
  pub occurs_low : (sig : Signature) (sorts : List ℕ) (p : Pattern) (sort x : ℕ)
      → HasSort sig sorts p sort → HasNoCall p → OccursIn x p → x < length sorts
  occurs_low sig sorts (variable y) sort x h k occurs =
      let low : y < length sorts = slice_get_within sorts y sort h in omega (arith, low, occurs)
  occurs_low sig sorts (domain_value s v) sort x h k occurs = absurd occurs
  occurs_low sig sorts (application f ps) sort x h k occurs =
      occur_low sig sorts ps h.0.args.items x h.4 k occurs
  occurs_low sig sorts (injection a b p) sort x h k occurs =
      occurs_low sig sorts p a x h.3 k occurs
  occurs_low sig sorts (call f ss ps) sort x h k occurs = absurd k

  occur_low : (sig : Signature) (sorts : List ℕ) (ps : Patterns) (refs : List SortRef) (x : ℕ)
      → HaveSorts sig sorts [] ps refs → HaveNoCall ps → OccursInSome x ps → x < length sorts
  occur_low sig sorts no_pattern refs x h k occurs = absurd occurs
  occur_low sig sorts (more_patterns p ps) [] x h k occurs = absurd h
  occur_low sig sorts (more_patterns p ps) (of ∷ refs) x h k (inl occurs) =
      occurs_low sig sorts p h.0 x h.2 k.0 occurs
  occur_low sig sorts (more_patterns p ps) (of ∷ refs) x h k (inr occurs) =
      occur_low sig sorts ps refs x h.3 k.1 occurs

pub variables_low : (sig : Signature) (sorts : List SortId) (p : Pattern) (sort : ℕ)
    (xs : List ℕ) → HasSort sig (sort_numbers sorts) p sort → HasNoCall p → xs ≡ variables_in_order p
    → All (λ (x : ℕ). x < length sorts) xs
variables_low sig sorts p sort xs h k is =
    all_contained (λ (x : ℕ). x < length sorts) xs
    (λ x there.
    let low : x < length (sort_numbers sorts) =
    occurs_low sig (sort_numbers sorts) p sort x h k
    (listed_occurs p x (subst (λ (ys : List ℕ). Contains ys x) is there)) in
    omega (arith, low, length-map sorts (λ (r : SortId). r.0)))

-- ---- pairs

pub given_pair : (sig : Signature) (sorts : List ℕ) (g : Given) (p : Pattern) (sort : ℕ) (t : Tree)
    (xs : List ℕ) → HasSort sig sorts p sort → HasNoCall p → IsTermOf sig t sort → IsNormal t
    → xs ≡ variables_in_order p → ((x : ℕ) → Contains xs x → HasFact g x) → IsPair sig sorts g p t
given_pair sig sorts g p sort t xs h k is normal listed facts = record {
  sort = sort;
  left = record {
    sorted = h;
    no_call = k;
    given = λ x occurs.
        facts x (subst (λ (ys : List ℕ). Contains ys x) (sym listed) (occurs_listed p x occurs));
  };
  right = is;
  normal = normal;
}

-- ---- bindings

some_there : (o : Option Tree) → IsSome o → (u : Tree) × (o ≡ Some u)
some_there None h = absurd (false≢true h)
some_there (Some u) h = (u, refl)

pub all_come : MatchReaches → (sig : Signature) (sorts : List ℕ) (p : Pattern) (sort : ℕ)
    (t : Tree) (theta : List (Option Tree)) (xs : List ℕ) → HasNoCycle sig.subsorts
    → HasSort sig sorts p sort → HasNoCall p → IsTermOf sig t sort → IsNormal t
    → MatchAll sig sorts (more_patterns p no_pattern) (more_trees t no_tree) theta
    → xs ≡ variables_in_order p → AllCome sig.subsorts theta p t xs
all_come reaches sig sorts p sort t theta xs acyclic h k is normal matches listed =
    all_contained
    (λ (x : ℕ). (u : Tree) × (binding theta x ≡ Some u) × ComesTo sig.subsorts (variable x) u p t)
    xs
    (λ x there.
    let occurs : OccursIn x p =
    listed_occurs p x (subst (λ (ys : List ℕ). Contains ys x) listed there) in
    let bound : (u : Tree) × (binding theta x ≡ Some u) =
    some_there (binding theta x) ((matches.binds.just x).1 (inl occurs)) in (
      bound.0,
      bound.1,
      reaches sig sorts p sort t theta acyclic h k is normal matches x bound.0 bound.1,
    ))

-- ---- without a clash there are two bindings

pub two_at_one : (pairs : List (ℕ × ℕ)) (p : Pattern) (t : Tree) (xs : List ℕ)
    → Fails pairs p t
    → ((q : Pattern) (u : Tree) → ComesTo pairs q u p t → Clash pairs q u → ⊥)
    → ((x : ℕ) → OccursIn x p → Contains xs x) → (x : ℕ) × Contains xs x × HasTwo pairs x p t
two_at_one pairs p t xs (clash q u comes clashes) free listed = absurd (free q u comes clashes)
two_at_one pairs p t xs (two_bindings x u w one other differ) free listed = (
  x,
  listed x (comes_occurs pairs x (variable x) u one refl),
  record {
    first = u;
    second = w;
    comes_first = one;
    comes_second = other;
    differ = differ;
  },
)

-- the place of a variable's binding
pub come_to : (pairs : List (ℕ × ℕ)) (theta : List (Option Tree)) (p : Pattern) (t : Tree)
    (xs : List ℕ) (k x : ℕ) (u : Tree) → AllCome pairs theta p t xs → k < length xs
    → x ≡ get_or xs k x → binding theta x ≡ Some u → ComesTo pairs (variable x) u p t
come_to pairs theta p t xs k x u all low is bound =
    let there : (w : Tree) × (binding theta x ≡ Some w) × ComesTo pairs (variable x) w p t =
    subst
    (λ (y : ℕ). (w : Tree) × (binding theta y ≡ Some w) × ComesTo pairs (variable y) w p t)
    (sym is) (all k x low) in
    subst (λ (w : Tree). ComesTo pairs (variable x) w p t)
    (some_same there.0 u (sym there.1 ∙ bound)) there.2

pub has_binding : (pairs : List (ℕ × ℕ)) (theta : List (Option Tree)) (p : Pattern) (t : Tree)
    (xs : List ℕ) (k x : ℕ) → AllCome pairs theta p t xs → k < length xs → x ≡ get_or xs k x
    → binding theta x ≡ None → ⊥
has_binding pairs theta p t xs k x all low is none =
    let there : (w : Tree) × (binding theta x ≡ Some w) × ComesTo pairs (variable x) w p t =
    subst
    (λ (y : ℕ). (w : Tree) × (binding theta y ≡ Some w) × ComesTo pairs (variable y) w p t)
    (sym is) (all k x low) in
    none_some there.0 (sym none ∙ there.1)
