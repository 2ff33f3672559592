-- Comparing a pattern with a term, step by step: the arguments of constructors and what is injected.
use Rattle.std.proofs.Common.{◌≡◌, ◌≢◌, ◌⊎◌, ◌<◌, ◌≤◌, inl, inr, ℕ, zero, suc, ◌+◌, Bool, true, false}
use Rattle.std.proofs.Common.{List, [], ◌∷◌, Option, Some, None, length, get_or, slice_get, refl, sym}
use Rattle.std.proofs.Common.{◌∙◌, ap, subst, arith, eq-eqb}
use Rattle.std.specs.Prelude.{◌==◌, if◌then◌else◌}
use Rattle.std.proofs.lemmas.Bool.{eqb-true}
use Rattle.std.proofs.lemmas.Option.{slice_get_within}
use Rattle.term_core.specs.Terms.{DomainValue, Tree, leaf, node, inj, Forest}
use Rattle.term_core.specs.Forests.{forest, children}
use Rattle.term_core.specs.Patterns.{Pattern, Patterns, variable, domain_value, application}
use Rattle.term_core.specs.Patterns.{injection, no_pattern, more_patterns}
use Rattle.term_core.specs.Patterns.{ground_pattern, ground_patterns}
use Rattle.term_core.specs.RulePatterns.{plain_pattern}
use Rattle.term_core.specs.PatternLists.{plain_patterns}
use Rattle.term_core.specs.declared.rule_patterns.RulePat.{RulePat}
use Rattle.term_core.proofs.Forests.{forest-trees}
use Rattle.rule_core.specs.MatchSteps.{lowered}
use Rattle.rule_core.specs.Subsorts.{IsBelow}
use Rattle.rule_core.specs.declared.rules.Program.{Program}
use Rattle.rule_core.specs.declared.signature.Signature.{Signature}
use Rattle.prove_term.specs.Contexts.{Context, HasGrown}
use Rattle.prove_open.specs.declared.givens.Given.{Given}
use Rattle.prove_open.specs.declared.differences.Difference.{Difference}
use Rattle.refute.specs.Clashes.{Clash, IsUpTo, StandTogether}
use Rattle.refute.specs.Refuting.{AreCovered, AreFree, Attains, Denies, IsPair, IsRefuted}
use Rattle.refute.specs.declared.settings.Setting.{Setting}
use Rattle.refute.specs.declared.settings.Goal.{Goal}
use Rattle.refute.specs.declared.settings.Goal.TheVariants as goal
use Rattle.refute.proofs.Applications.{read_there}
use Rattle.refute.proofs.Growing.{program_grown}
use Rattle.refute.proofs.Pairs.{argument_pair, as_many_arguments, ground_no_call}
use Rattle.refute.proofs.Pairs.{ground_occurs, ground_sorted, injected_pair, lowered_pair}
use Rattle.refute.proofs.Pairs.{pair_covered}
use Rattle.refute.proofs.Places.{IsArgumentAt, argument_places, at_together, injection_places}
use Rattle.refute.proofs.Places.{together_at, value_place}

some_same : {A : Type 0} (a b : A) → Some a ≡ Some b → a ≡ b
some_same a b h = cc

-- ---- results

pub some_denied : (cx : Context) (s : Setting) (p w : Pattern) (t : Tree)
    (found : Option Difference) (d : Difference) → found ≡ Some d → w ≡ ground_pattern t
    → IsRefuted cx s p t found → Denies cx s.given.hypothesis p w d
some_denied cx s p w t found d is whole refuted =
    subst (λ (q : Pattern). Denies cx s.given.hypothesis p q d) (sym whole)
    (subst (λ (o : Option Difference). IsRefuted cx s p t o) is refuted)

pub none_free : (a b : Context) (s : Setting) (p : Pattern) (t : Tree) (found : Option Difference)
    → HasGrown a b → found ≡ None → IsRefuted b s p t found
    → AreFree a.program.sig.subsorts s.goal p t
none_free a b s p t found grown is refuted =
    subst (λ (program : Program). AreFree program.sig.subsorts s.goal p t) grown.program
    (subst (λ (o : Option Difference). IsRefuted b s p t o) is refuted)

pub free_none : (a b : Context) (s : Setting) (p : Pattern) (t : Tree) → HasGrown a b
    → AreFree a.program.sig.subsorts s.goal p t → IsRefuted b s p t None
free_none a b s p t grown free =
    program_grown a b (λ (program : Program). AreFree program.sig.subsorts s.goal p t) grown free

-- ---- roots that are no place looked for

-- the root is no clash, and not the goal
abbrev pub IsPassed : List (ℕ × ℕ) → Goal → Pattern → Tree → Type 0
IsPassed pairs what q u = (Clash pairs q u → ⊥) × (Attains what q u → ⊥)

pub no_variable_attains : (what : Goal) (p : Pattern) (t : Tree) → ((x : ℕ) → p ≡ variable x → ⊥)
    → Attains what p t → ⊥
no_variable_attains goal.Clash p t other h = h
no_variable_attains (goal.Binding x u fact) p t other h = other x h.0

value_passes : (pairs : List (ℕ × ℕ)) (what : Goal) (s r : ℕ) (v : DomainValue)
    → IsPassed pairs what (domain_value s v) (leaf r v)
value_passes pairs what s r v =
    (λ clash. clash refl, no_variable_attains what (domain_value s v) (leaf r v) other)
  where
    other : (x : ℕ) → domain_value s v ≡ variable x → ⊥
    other x h = cc

pub values_free : (pairs : List (ℕ × ℕ)) (what : Goal) (p : Pattern) (t : Tree) (s r : ℕ)
    (v : DomainValue) → p ≡ domain_value s v → t ≡ leaf r v → AreFree pairs what p t
values_free pairs what p t s r v is other =
    value_place pairs (IsPassed pairs what) p t r v other
    (subst (λ (q : Pattern). IsPassed pairs what q t) (sym is)
    (subst (λ (u : Tree). IsPassed pairs what (domain_value s v) u) (sym other)
    (value_passes pairs what s r v)))

node_passes : (pairs : List (ℕ × ℕ)) (what : Goal) (f : ℕ) (ps : Patterns) (ts : Forest)
    → IsPassed pairs what (application f ps) (node f ts)
node_passes pairs what f ps ts =
    (λ clash. clash refl, no_variable_attains what (application f ps) (node f ts) other)
  where
    other : (x : ℕ) → application f ps ≡ variable x → ⊥
    other x h = cc

injection_passes : (pairs : List (ℕ × ℕ)) (what : Goal) (a b c : ℕ) (p : Pattern) (t : Tree)
    → IsUpTo pairs a b → IsPassed pairs what (injection b c p) (inj a c t)
injection_passes pairs what a b c p t up =
    (λ clash. clash up, no_variable_attains what (injection b c p) (inj a c t) other)
  where
    other : (x : ℕ) → injection b c p ≡ variable x → ⊥
    other x h = cc

-- ---- arguments

pub met_children : (f : ℕ) (t : Tree) (ts : Forest) → t ≡ node f ts → ts ≡ forest (children t)
met_children f t ts is =
    sym (forest-trees ts) ∙ ap (λ (u : Tree). forest (children u)) (sym is)

-- an argument, the pattern in its place, and the term of that
pub record IsArgument (sig : Signature) (sorts : List ℕ) (g : Given) (ps ws : List RulePat)
    (ts : List Tree) (i : ℕ) (p w : RulePat) (t : Tree) : Type 0 where
  pub pair : IsPair sig sorts g (plain_pattern p) t
  pub whole : plain_pattern w ≡ ground_pattern t
  pub is_pattern : slice_get ps i ≡ Some p
  pub is_whole : slice_get ws i ≡ Some w

whole_at : (ws : List RulePat) (ts : List Tree) (i : ℕ) (w : RulePat) (t : Tree)
    → plain_patterns ws ≡ ground_patterns (forest ts) → slice_get ws i ≡ Some w
    → slice_get ts i ≡ Some t → plain_pattern w ≡ ground_pattern t
whole_at [] ts i w t same one other = absurd (go one)
  where
    go : None ≡ Some w → ⊥
    go h = cc
whole_at (v ∷ ws) [] i w t same one other = absurd (go other)
  where
    go : None ≡ Some t → ⊥
    go h = cc
whole_at (v ∷ ws) (u ∷ ts) zero w t same one other =
    ap plain_pattern (sym (some_same v w one)) ∙ go same
    ∙ ap ground_pattern (some_same u t other)
  where
    go : more_patterns (plain_pattern v) (plain_patterns ws)
        ≡ more_patterns (ground_pattern u) (ground_patterns (forest ts))
        → plain_pattern v ≡ ground_pattern u
    go h = cc
whole_at (v ∷ ws) (u ∷ ts) (suc i) w t same one other = whole_at ws ts i w t (go same) one other
  where
    go : more_patterns (plain_pattern v) (plain_patterns ws)
        ≡ more_patterns (ground_pattern u) (ground_patterns (forest ts))
        → plain_patterns ws ≡ ground_patterns (forest ts)
    go h = cc

pub as_many_wholes : (ws : List RulePat) (ts : List Tree)
    → plain_patterns ws ≡ ground_patterns (forest ts) → length ws ≡ length ts
as_many_wholes [] [] same = refl
as_many_wholes [] (u ∷ ts) same = absurd (go same)
  where
    go : no_pattern ≡ more_patterns (ground_pattern u) (ground_patterns (forest ts)) → ⊥
    go h = cc
as_many_wholes (v ∷ ws) [] same = absurd (go same)
  where
    go : more_patterns (plain_pattern v) (plain_patterns ws) ≡ no_pattern → ⊥
    go h = cc
as_many_wholes (v ∷ ws) (u ∷ ts) same = ap suc (as_many_wholes ws ts (go same))
  where
    go : more_patterns (plain_pattern v) (plain_patterns ws)
        ≡ more_patterns (ground_pattern u) (ground_patterns (forest ts))
        → plain_patterns ws ≡ ground_patterns (forest ts)
    go h = cc

pub whole_node : (f : ℕ) (ws : List RulePat) (term : Tree) → term ≡ node f (forest (children term))
    → plain_patterns ws ≡ ground_patterns (forest (children term))
    → application f (plain_patterns ws) ≡ ground_pattern term
whole_node f ws term is wholes = ap (application f) wholes ∙ ap ground_pattern (sym is)

pub nodes_covered : (sig : Signature) (sorts : List ℕ) (g : Given) (f : ℕ) (ps ws : List RulePat)
    (term : Tree) → IsPair sig sorts g (application f (plain_patterns ps)) term
    → term ≡ node f (forest (children term))
    → plain_patterns ws ≡ ground_patterns (forest (children term))
    → AreCovered sig sorts g (application f (plain_patterns ps))
    (application f (plain_patterns ws))
nodes_covered sig sorts g f ps ws term pair is wholes =
    pair_covered sig sorts g (application f (plain_patterns ps))
    (application f (plain_patterns ws)) term (whole_node f ws term is wholes) pair

pub as_many_children : (sig : Signature) (sorts : List ℕ) (g : Given) (f : ℕ)
    (ps ws : List RulePat)
    (term : Tree) → IsPair sig sorts g (application f (plain_patterns ps)) term
    → term ≡ node f (forest (children term))
    → plain_patterns ws ≡ ground_patterns (forest (children term))
    → (length ps ≡ length ws) × (length ws ≡ length (children term))
as_many_children sig sorts g f ps ws term pair is wholes = (
  as_many_arguments sig sorts g f ps ws
      (nodes_covered sig sorts g f ps ws term pair is wholes),
  as_many_wholes ws (children term) wholes,
)

pub argument_at : (sig : Signature) (sorts : List ℕ) (g : Given) (f : ℕ) (ps ws : List RulePat)
    (term : Tree) (i : ℕ) (p w : RulePat) (t : Tree)
    → IsPair sig sorts g (application f (plain_patterns ps)) term
    → term ≡ node f (forest (children term))
    → plain_patterns ws ≡ ground_patterns (forest (children term)) → i < length ps
    → p ≡ get_or ps i p → w ≡ get_or ws i w → slice_get (children term) i ≡ Some t
    → IsArgument sig sorts g ps ws (children term) i p w t
argument_at sig sorts g f ps ws term i p w t pair is wholes low one other at =
    let many : (length ps ≡ length ws) × (length ws ≡ length (children term)) =
    as_many_children sig sorts g f ps ws term pair is wholes in
    let here : slice_get ps i ≡ Some p = read_there ps i p low one in
    let there : slice_get ws i ≡ Some w =
    read_there ws i w (omega (arith, low, many.0)) other in
    record {
      pair =
          argument_pair sig sorts g f (plain_patterns ps) (forest (children term))
          (plain_pattern p) t
          (subst (λ (u : Tree). IsPair sig sorts g (application f (plain_patterns ps)) u) is pair)
          (at_together ps (children term) i p t here at);
      whole = whole_at ws (children term) i w t wholes there at;
      is_pattern = here;
      is_whole = there;
    }

-- ---- places in arguments

-- the first arguments and the terms in their places
abbrev pub FirstAreFree : List (ℕ × ℕ) → Goal → List RulePat → List Tree → ℕ → Type 0
FirstAreFree pairs what ps ts i =
    (j : ℕ) (p : RulePat) (t : Tree) → j < i → slice_get ps j ≡ Some p → slice_get ts j ≡ Some t
    → AreFree pairs what (plain_pattern p) t

last_or_before : (j i : ℕ) → j < suc i → (j < i) ⊎ (j ≡ i)
last_or_before zero zero h = inr refl
last_or_before zero (suc i) h = inl (omega arith)
last_or_before (suc j) zero h = absurd (omega (arith, h))
last_or_before (suc j) (suc i) h = go (last_or_before j i (omega (arith, h)))
  where
    go : (j < i) ⊎ (j ≡ i) → (suc j < suc i) ⊎ (suc j ≡ suc i)
    go (inl low) = inl (omega (arith, low))
    go (inr same) = inr (ap suc same)

pub one_more_free : (pairs : List (ℕ × ℕ)) (what : Goal) (ps : List RulePat) (ts : List Tree)
    (i : ℕ) (p : RulePat) (t : Tree) → slice_get ps i ≡ Some p → slice_get ts i ≡ Some t
    → AreFree pairs what (plain_pattern p) t → FirstAreFree pairs what ps ts i
    → FirstAreFree pairs what ps ts (i + 1)
one_more_free pairs what ps ts i p t one other last before j q u low is at =
    go (last_or_before j i (omega (arith, low)))
  where
    go : (j < i) ⊎ (j ≡ i) → AreFree pairs what (plain_pattern q) u
    go (inl less) = before j q u less is at
    go (inr same) =
        let here : slice_get ps i ≡ Some q =
        subst (λ (k : ℕ). slice_get ps k ≡ Some q) same is in
        let there : slice_get ts i ≡ Some u =
        subst (λ (k : ℕ). slice_get ts k ≡ Some u) same at in
        subst (λ (r : RulePat). AreFree pairs what (plain_pattern r) u)
        (some_same p q (sym one ∙ here))
        (subst (λ (w : Tree). AreFree pairs what (plain_pattern p) w)
        (some_same t u (sym other ∙ there)) last)

pub arguments_free : (pairs : List (ℕ × ℕ)) (what : Goal) (f : ℕ) (ps : List RulePat)
    (term : Tree) (i : ℕ) → term ≡ node f (forest (children term)) → length ps ≤ i
    → FirstAreFree pairs what ps (children term) i
    → AreFree pairs what (application f (plain_patterns ps)) term
arguments_free pairs what f ps term i is all free =
    subst (λ (t : Tree). AreFree pairs what (application f (plain_patterns ps)) t) (sym is)
    (argument_places pairs (IsPassed pairs what) f (plain_patterns ps) (forest (children term))
    (node_passes pairs what f (plain_patterns ps) (forest (children term))) inside)
  where
    inside : (a : Pattern) (b : Tree)
        → StandTogether a b (plain_patterns ps) (forest (children term))
        → AreFree pairs what a b
    inside a b together =
        let at : IsArgumentAt a b ps (children term) =
        together_at a b ps (children term) together in
        subst (λ (q : Pattern). AreFree pairs what q b) at.plain
        (free at.number at.pattern b
        (omega (arith, all, slice_get_within ps at.number at.pattern at.is_pattern))
        at.is_pattern at.is_tree)

-- ---- injections

pub has_child : (t u : Tree) (a c : ℕ) → t ≡ inj a c u → 0 < length (children t)
has_child t u a c is =
    subst (λ (w : Tree). 0 < length (children w)) (sym is) (omega arith)

pub only_child : (t u r : Tree) (a c : ℕ) → t ≡ inj a c u → slice_get (children t) 0 ≡ Some r
    → r ≡ u
only_child t u r a c is at =
    some_same r u (sym at ∙ ap (λ (w : Tree). slice_get (children w) 0) is)

pub inner_child : (t u r : Tree) (a c : ℕ) (w : Pattern) → t ≡ inj a c u
    → slice_get (children t) 0 ≡ Some r → w ≡ ground_pattern u → w ≡ ground_pattern r
inner_child t u r a c w is at whole = whole ∙ ap ground_pattern (sym (only_child t u r a c is at))

pub strictly_below : (pairs : List (ℕ × ℕ)) (a b : ℕ) → a ≢ b → IsUpTo pairs a b
    → IsBelow pairs a b
strictly_below pairs a b other (inl same) = absurd (other same)
strictly_below pairs a b other (inr under) = under

lowered_same : (a b : ℕ) (t : Tree) → a ≡ b → lowered a b t ≡ t
lowered_same a b t same = ap (λ (k : Bool). if k then t else inj a b t) (eq-eqb a b same)

lowered_other : (a b : ℕ) (t : Tree) → a ≢ b → lowered a b t ≡ inj a b t
lowered_other a b t other = go (a == b) refl
  where
    go : (k : Bool) → (a == b) ≡ k → (if k then t else inj a b t) ≡ inj a b t
    go true is = absurd (other (eqb-true a b is))
    go false is = refl

injection_free : (pairs : List (ℕ × ℕ)) (what : Goal) (a b c : ℕ) (p : Pattern) (term u : Tree)
    → term ≡ inj a c u → IsUpTo pairs a b → AreFree pairs what p (lowered a b u)
    → AreFree pairs what (injection b c p) term
injection_free pairs what a b c p term u is up inside =
    subst (λ (t : Tree). AreFree pairs what (injection b c p) t) (sym is)
    (injection_places pairs (IsPassed pairs what) a b c p u
    (injection_passes pairs what a b c p u up) inside)

pub injected_free : (pairs : List (ℕ × ℕ)) (what : Goal) (b c : ℕ) (p : Pattern)
    (term u r : Tree) → term ≡ inj b c u → slice_get (children term) 0 ≡ Some r
    → AreFree pairs what p r → AreFree pairs what (injection b c p) term
injected_free pairs what b c p term u r is at inside =
    injection_free pairs what b b c p term u is (inl refl)
    (subst (λ (t : Tree). AreFree pairs what p t)
    (only_child term u r b c is at ∙ sym (lowered_same b b u refl)) inside)

pub lowered_free : (pairs : List (ℕ × ℕ)) (what : Goal) (a b c : ℕ) (p : Pattern)
    (term u r : Tree) → term ≡ inj a c u → r ≡ inj a b u → a ≢ b → IsBelow pairs a b
    → AreFree pairs what p r → AreFree pairs what (injection b c p) term
lowered_free pairs what a b c p term u r is low other under inside =
    injection_free pairs what a b c p term u is (inr under)
    (subst (λ (t : Tree). AreFree pairs what p t) (low ∙ sym (lowered_other a b u other)) inside)

pub injected_child : (sig : Signature) (sorts : List ℕ) (g : Given) (b c : ℕ) (p : Pattern)
    (term u r : Tree) → term ≡ inj b c u → slice_get (children term) 0 ≡ Some r
    → IsPair sig sorts g (injection b c p) term → IsPair sig sorts g p r
injected_child sig sorts g b c p term u r is at pair =
    subst (λ (t : Tree). IsPair sig sorts g p t) (sym (only_child term u r b c is at))
    (injected_pair sig sorts g b c p u
    (subst (λ (t : Tree). IsPair sig sorts g (injection b c p) t) is pair))

pub lowered_child : (sig : Signature) (sorts : List ℕ) (g : Given) (a b c : ℕ) (p : Pattern)
    (term u r : Tree) → term ≡ inj a c u → r ≡ inj a b u → IsBelow sig.subsorts a b
    → IsPair sig sorts g (injection b c p) term → IsPair sig sorts g p r
lowered_child sig sorts g a b c p term u r is low under pair =
    subst (λ (t : Tree). IsPair sig sorts g p t) (sym low)
    (lowered_pair sig sorts g a b c p u
    (subst (λ (t : Tree). IsPair sig sorts g (injection b c p) t) is pair) under)

-- the pattern and that of the term, injected into its sort
pub lowered_covered : (sig : Signature) (sorts : List ℕ) (g : Given) (a b c : ℕ) (p w : Pattern)
    (term u : Tree) → term ≡ inj a c u → w ≡ injection a b (ground_pattern u)
    → IsBelow sig.subsorts a b → IsPair sig sorts g (injection b c p) term
    → AreCovered sig sorts g p w
lowered_covered sig sorts g a b c p w term u is low under pair =
    pair_covered sig sorts g p w (inj a b u) low
    (lowered_child sig sorts g a b c p term u (inj a b u) is refl under pair)

-- both of these, injected
pub twice_covered : (sig : Signature) (sorts : List ℕ) (g : Given) (a b c : ℕ) (p w : Pattern)
    (term u : Tree) → term ≡ inj a c u → w ≡ injection a b (ground_pattern u)
    → IsBelow sig.subsorts a b → IsPair sig sorts g (injection b c p) term
    → AreCovered sig sorts g (injection b c p) (injection b c w)
twice_covered sig sorts g a b c p w term u is low under pair =
    subst (λ (q : Pattern). AreCovered sig sorts g (injection b c p) (injection b c q)) (sym low)
    (go (subst (λ (t : Tree). IsPair sig sorts g (injection b c p) t) is pair))
  where
    go : IsPair sig sorts g (injection b c p) (inj a c u)
        → AreCovered sig sorts g (injection b c p)
        (injection b c (injection a b (ground_pattern u)))
    go both = record {
      sort = both.sort;
      left = both.left;
      right = record {
        sorted = (
          both.left.sorted.0,
          both.left.sorted.1,
          both.left.sorted.2,
          (both.right.0, refl, under, ground_sorted sig sorts u a both.right.3),
        );
        no_call = ground_no_call u;
        given = λ x occurs. absurd (ground_occurs x u occurs);
      };
    }
