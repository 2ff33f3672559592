-- A pattern and a term of one sort: their parts have one sort again.
use Rattle.std.proofs.Common.{◌≡◌, inl, inr, ℕ, suc, List, [], ◌∷◌, Some}
use Rattle.std.proofs.Common.{length, slice_get, refl, sym, ◌∙◌, ap, subst}
use Rattle.term_core.specs.Terms.{DomainValue, Tree, leaf, node, inj, Forest, no_tree, more_trees, IsNormal}
use Rattle.term_core.specs.Terms.{AreNormal}
use Rattle.term_core.specs.Patterns.{Pattern, Patterns, domain_value, application}
use Rattle.term_core.specs.Patterns.{injection, no_pattern, more_patterns}
use Rattle.term_core.specs.Patterns.{ground_pattern, ground_patterns}
use Rattle.term_core.specs.PatternLists.{plain_patterns}
use Rattle.term_core.specs.declared.rule_patterns.RulePat.{RulePat}
use Rattle.rule_core.specs.Matching.{OccursIn, OccursInSome}
use Rattle.rule_core.specs.Sorting.{HasSort, HaveSorts, IsTermOf}
use Rattle.rule_core.specs.Subsorts.{IsBelow}
use Rattle.rule_core.specs.WellSorted.{HasNoCall, HaveNoCall}
use Rattle.rule_core.specs.declared.signature.Signature.{Signature}
use Rattle.rule_core.specs.declared.signature.SymInfo.{SymInfo}
use Rattle.rule_core.specs.declared.signature.SortRef.{SortRef}
use Rattle.prove_open.specs.Givens.{IsCovered}
use Rattle.prove_open.specs.declared.givens.Given.{Given}
use Rattle.refute.specs.Clashes.{StandTogether}
use Rattle.refute.specs.Refuting.{AreCovered, IsPair}

some_same : {A : Type 0} (a b : A) → Some a ≡ Some b → a ≡ b
some_same a b h = cc

-- ---- terms as patterns

mutual
  pub ground_sorted : (sig : Signature) (variables : List ℕ) (t : Tree) (sort : ℕ)
      → IsTermOf sig t sort → HasSort sig variables (ground_pattern t) sort
  ground_sorted sig variables (leaf s v) sort h = h
  ground_sorted sig variables (node f ts) sort (info, is, ctor, result, args) =
      (info, is, ctor, result, ground_all_sorted sig variables ts info.args.items args)
  ground_sorted sig variables (inj a b t) sort (has, to, under, inside) =
      (has, to, under, ground_sorted sig variables t a inside)

  ground_all_sorted : (sig : Signature) (variables : List ℕ) (ts : Forest) (refs : List SortRef)
      → HaveSorts sig [] [] (ground_patterns ts) refs
      → HaveSorts sig variables [] (ground_patterns ts) refs
  ground_all_sorted sig variables no_tree [] h = tt
  ground_all_sorted sig variables no_tree (of ∷ refs) h = absurd h
  ground_all_sorted sig variables (more_trees t ts) [] h = absurd h
  ground_all_sorted sig variables (more_trees t ts) (of ∷ refs) (sort, at, first, others) = (
    sort,
    at,
    ground_sorted sig variables t sort first,
    ground_all_sorted sig variables ts refs others,
  )

mutual
  pub ground_no_call : (t : Tree) → HasNoCall (ground_pattern t)
  ground_no_call (leaf s v) = tt
  ground_no_call (node f ts) = ground_have_no_call ts
  ground_no_call (inj a b t) = ground_no_call t

  ground_have_no_call : (ts : Forest) → HaveNoCall (ground_patterns ts)
  ground_have_no_call no_tree = tt
  ground_have_no_call (more_trees t ts) = (ground_no_call t, ground_have_no_call ts)

mutual
  pub ground_occurs : (x : ℕ) (t : Tree) → OccursIn x (ground_pattern t) → ⊥
  ground_occurs x (leaf s v) h = h
  ground_occurs x (node f ts) h = ground_occur x ts h
  ground_occurs x (inj a b t) h = ground_occurs x t h

  ground_occur : (x : ℕ) (ts : Forest) → OccursInSome x (ground_patterns ts) → ⊥
  ground_occur x no_tree h = h
  ground_occur x (more_trees t ts) (inl h) = ground_occurs x t h
  ground_occur x (more_trees t ts) (inr h) = ground_occur x ts h

-- the pattern of a term needs nothing to be given
pub ground_covered : (sig : Signature) (sorts : List ℕ) (g : Given) (t : Tree) (sort : ℕ)
    → IsTermOf sig t sort → IsCovered sig sorts g (ground_pattern t) sort
ground_covered sig sorts g t sort h = record {
  sorted = ground_sorted sig sorts t sort h;
  no_call = ground_no_call t;
  given = λ x occurs. absurd (ground_occurs x t occurs);
}

pub pair_covered : (sig : Signature) (sorts : List ℕ) (g : Given) (p w : Pattern) (t : Tree)
    → w ≡ ground_pattern t → IsPair sig sorts g p t → AreCovered sig sorts g p w
pair_covered sig sorts g p w t is pair = record {
  sort = pair.sort;
  left = pair.left;
  right =
      subst (λ (q : Pattern). IsCovered sig sorts g q pair.sort) (sym is)
      (ground_covered sig sorts g t pair.sort pair.right);
}

-- ---- arguments

pub record ItemPair (sig : Signature) (variables : List ℕ) (p : Pattern) (t : Tree) : Type 0 where
  pub sort : ℕ
  pub left : HasSort sig variables p sort
  pub no_call : HasNoCall p
  pub right : IsTermOf sig t sort
  pub normal : IsNormal t

-- an argument and the term in its place
pub together_sorted : (sig : Signature) (variables : List ℕ) (p : Pattern) (t : Tree)
    (ps : Patterns) (ts : Forest) (refs : List SortRef) → StandTogether p t ps ts
    → HaveSorts sig variables [] ps refs → HaveNoCall ps
    → HaveSorts sig [] [] (ground_patterns ts) refs
    → AreNormal ts → ItemPair sig variables p t
together_sorted sig variables p t no_pattern ts refs together h k l n = absurd together
together_sorted sig variables p t (more_patterns q qs) no_tree refs together h k l n =
    absurd together
together_sorted sig variables p t (more_patterns q qs) (more_trees u us) [] together h k l n =
    absurd h
together_sorted sig variables p t (more_patterns q qs) (more_trees u us) (of ∷ refs)
    (inl (one, other)) (sort, at, first, rest) k (again, at_again, second, others) n =
    let same : again ≡ sort = some_same again sort (sym at_again ∙ at) in
    record {
      sort = sort;
      left = subst (λ (r : Pattern). HasSort sig variables r sort) (sym one) first;
      no_call = subst HasNoCall (sym one) k.0;
      right =
          subst (λ (w : Tree). IsTermOf sig w sort) (sym other)
          (subst (IsTermOf sig u) same second);
      normal = subst IsNormal (sym other) n.0;
    }
together_sorted sig variables p t (more_patterns q qs) (more_trees u us) (of ∷ refs) (inr later)
    (sort, at, first, rest) k (again, at_again, second, others) n =
    together_sorted sig variables p t qs us refs later rest k.1 others n.1

pub together_occurs : (x : ℕ) (p : Pattern) (t : Tree) (ps : Patterns) (ts : Forest)
    → StandTogether p t ps ts → OccursIn x p → OccursInSome x ps
together_occurs x p t no_pattern ts together h = absurd together
together_occurs x p t (more_patterns q qs) no_tree together h = absurd together
together_occurs x p t (more_patterns q qs) (more_trees u us) (inl (one, other)) h =
    inl (subst (OccursIn x) one h)
together_occurs x p t (more_patterns q qs) (more_trees u us) (inr later) h =
    inr (together_occurs x p t qs us later h)

same_info : (sig : Signature) (f : ℕ) (n m : List ℕ) (i j : SymInfo)
    → slice_get sig.symbols f ≡ Some (n, i) → slice_get sig.symbols f ≡ Some (m, j) → i ≡ j
same_info sig f n m i j one other =
    ap (λ (e : List ℕ × SymInfo). e.1) (some_same (n, i) (m, j) (sym one ∙ other))

pub argument_pair : (sig : Signature) (sorts : List ℕ) (g : Given) (f : ℕ) (ps : Patterns)
    (ts : Forest) (p : Pattern) (t : Tree) → IsPair sig sorts g (application f ps) (node f ts)
    → StandTogether p t ps ts → IsPair sig sorts g p t
argument_pair sig sorts g f ps ts p t pair together =
    let left = pair.left.sorted in
    let right = pair.right in
    let same : right.0 ≡ left.0 =
    same_info sig f right.1.0 left.1.0 right.0 left.0 right.1.1 left.1.1 in
    let item : ItemPair sig sorts p t =
    together_sorted sig sorts p t ps ts left.0.args.items together left.4 pair.left.no_call
    (subst (λ (i : SymInfo). HaveSorts sig [] [] (ground_patterns ts) i.args.items) same right.4)
    pair.normal in
    record {
      sort = item.sort;
      left = record {
        sorted = item.left;
        no_call = item.no_call;
        given = λ x occurs. pair.left.given x (together_occurs x p t ps ts together occurs);
      };
      right = item.right;
      normal = item.normal;
    }

-- ---- injections

-- two injections from one sort
pub injected_pair : (sig : Signature) (sorts : List ℕ) (g : Given) (b c : ℕ) (p : Pattern)
    (t : Tree) → IsPair sig sorts g (injection b c p) (inj b c t) → IsPair sig sorts g p t
injected_pair sig sorts g b c p t pair = record {
  sort = b;
  left = record {
    sorted = pair.left.sorted.3;
    no_call = pair.left.no_call;
    given = pair.left.given;
  };
  right = pair.right.3;
  normal = pair.normal.1;
}

-- the injection of a term from a sort below that of the pattern
pub lowered_pair : (sig : Signature) (sorts : List ℕ) (g : Given) (a b c : ℕ) (p : Pattern)
    (t : Tree) → IsPair sig sorts g (injection b c p) (inj a c t) → IsBelow sig.subsorts a b
    → IsPair sig sorts g p (inj a b t)
lowered_pair sig sorts g a b c p t pair low = record {
  sort = b;
  left = record {
    sorted = pair.left.sorted.3;
    no_call = pair.left.no_call;
    given = pair.left.given;
  };
  right = (pair.right.0, refl, low, pair.right.3);
  normal = pair.normal;
}

-- ---- terms with a given pattern

pub value_term : (s : ℕ) (v : DomainValue) (t : Tree) → domain_value s v ≡ ground_pattern t
    → t ≡ leaf s v
value_term s v (leaf r w) h =
    let one : r ≡ s = cc in
    let two : w ≡ v = cc in ap (λ (n : ℕ). leaf n w) one ∙ ap (leaf s) two
value_term s v (node f ts) h = cc
value_term s v (inj a b t) h = cc

-- injections of one sort have one target
pub same_target : (sig : Signature) (variables : List ℕ) (a b c d sort : ℕ) (p q : Pattern)
    (t u : Tree) → p ≡ injection b c q → t ≡ inj a d u → HasSort sig variables p sort
    → IsTermOf sig t sort → d ≡ c
same_target sig variables a b c d sort p q t u is other h k =
    let left : HasSort sig variables (injection b c q) sort =
    subst (λ (r : Pattern). HasSort sig variables r sort) is h in
    let right : IsTermOf sig (inj a d u) sort =
    subst (λ (w : Tree). IsTermOf sig w sort) other k in
    right.1 ∙ sym left.1

-- ---- the numbers of arguments

pub as_many_sorted : (sig : Signature) (variables : List ℕ) (ps : List RulePat)
    (refs : List SortRef) → HaveSorts sig variables [] (plain_patterns ps) refs
    → length ps ≡ length refs
as_many_sorted sig variables [] [] h = refl
as_many_sorted sig variables [] (of ∷ refs) h = absurd h
as_many_sorted sig variables (p ∷ ps) [] h = absurd h
as_many_sorted sig variables (p ∷ ps) (of ∷ refs) h =
    ap suc (as_many_sorted sig variables ps refs h.3)

pub as_many_arguments : (sig : Signature) (sorts : List ℕ) (g : Given) (f : ℕ)
    (ps qs : List RulePat)
    → AreCovered sig sorts g (application f (plain_patterns ps))
    (application f (plain_patterns qs))
    → length ps ≡ length qs
as_many_arguments sig sorts g f ps qs covered =
    let left = covered.left.sorted in
    let right = covered.right.sorted in
    let same : right.0 ≡ left.0 =
    same_info sig f right.1.0 left.1.0 right.0 left.0 right.1.1 left.1.1 in
    as_many_sorted sig sorts ps left.0.args.items left.4
    ∙ sym (as_many_sorted sig sorts qs left.0.args.items
    (subst (λ (i : SymInfo). HaveSorts sig sorts [] (plain_patterns qs) i.args.items) same
    right.4))
