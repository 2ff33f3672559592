-- What is found of a variable's terms.
use Rattle.std.proofs.Common.{◌≡◌, ◌≢◌, ◌⊎◌, inl, inr, ◌<◌, ◌≤◌, ◌+◌, ℕ, true, false, List, Option}
use Rattle.std.proofs.Common.{Some, None, is_some, slice_get, length, refl, sym, ◌∙◌, ap, subst}
use Rattle.std.proofs.Common.{arith, Bor}
use Rattle.std.specs.Prelude.{option_copied}
use Rattle.std.proofs.lemmas.Bool.{false≢true}
use Rattle.std.proofs.lemmas.Option.{slice_get_within}
use Rattle.term_core.specs.Terms.{DomainValue, Tree, leaf, node, inj, Forest}
use Rattle.term_core.specs.Forests.{forest, children}
use Rattle.term_core.specs.Patterns.{Pattern, Patterns, variable, domain_value, application}
use Rattle.term_core.specs.Patterns.{injection}
use Rattle.term_core.specs.RulePatterns.{plain_pattern}
use Rattle.term_core.specs.PatternLists.{plain_patterns}
use Rattle.term_core.specs.declared.rule_patterns.RulePat.{RulePat}
use Rattle.rule_core.proofs.Bindings.{same_or_other}
use Rattle.rule_core.specs.MatchSteps.{lowered}
use Rattle.refute.specs.Bindings.{IsOther, FindsBinding}
use Rattle.refute.specs.Clashes.{IsUpTo, StandTogether, ComesTo, here, argument, below, Clash}
use Rattle.refute.proofs.Places.{injection_places, argument_places, value_place, IsArgumentAt}
use Rattle.refute.proofs.Places.{together_at, at_together}

some_same : {A : Type 0} (a b : A) → Some a ≡ Some b → a ≡ b
some_same a b h = cc

pub found_here : (pairs : List (ℕ × ℕ)) (x y : ℕ) (t u : Tree) → x ≡ y → u ≡ t
    → ComesTo pairs (variable x) u (variable y) t
found_here pairs x y t u same term =
    subst (λ (n : ℕ). ComesTo pairs (variable x) u (variable n) t) same
    (subst (λ (w : Tree). ComesTo pairs (variable x) u (variable x) w) term here)

pub is_other : (but : Option (Bor Tree)) (other : Bor Tree) (t u : Tree) → but ≡ Some other
    → u ≡ t → (other.now ≡ t → ⊥) → IsOther (option_copied but) u
is_other but other t u is same differ =
    subst (λ (o : Option (Bor Tree)). IsOther (option_copied o) u) (sym is)
    (λ e. differ (sym e ∙ same))

pub is_any : (but : Option (Bor Tree)) (u : Tree) → but ≡ None → IsOther (option_copied but) u
is_any but u is =
    subst (λ (o : Option (Bor Tree)). IsOther (option_copied o) u) (sym is) tt

-- comparing does not come to the variable and another term
abbrev pub FindsNone : List (ℕ × ℕ) → ℕ → Option Tree → Pattern → Tree → Type 0
FindsNone pairs x but p t =
    (u : Tree) → ComesTo pairs (variable x) u p t → IsOther but u → ⊥

pub found_below : (pairs : List (ℕ × ℕ)) (x : ℕ) (but : Option Tree) (a b c : ℕ) (p : Pattern)
    (t : Tree) (o : Option Tree) → IsUpTo pairs a b
    → FindsBinding pairs x but p (lowered a b t) o
    → FindsBinding pairs x but (injection b c p) (inj a c t) o
found_below pairs x but a b c p t (Some u) up (comes, other) = (below up comes, other)
found_below pairs x but a b c p t None up none =
    λ u comes other.
    injection_places pairs
    (λ (q : Pattern) (w : Tree). q ≡ variable x → IsOther but w → ⊥) a b c p t
    (λ is. absurd (stop is))
    (λ q w inside is differ. none w
    (subst (λ (r : Pattern). ComesTo pairs r w p (lowered a b t)) is inside) differ)
    (variable x) u comes refl other
  where
    stop : injection b c p ≡ variable x → ⊥
    stop is = cc

pub found_among : (pairs : List (ℕ × ℕ)) (x : ℕ) (but : Option Tree) (f : ℕ) (ps : Patterns)
    (ts : Forest)
    → ((p : Pattern) (t : Tree) → StandTogether p t ps ts → FindsNone pairs x but p t)
    → FindsNone pairs x but (application f ps) (node f ts)
found_among pairs x but f ps ts none u comes other =
    argument_places pairs
    (λ (q : Pattern) (w : Tree). q ≡ variable x → IsOther but w → ⊥) f ps ts
    (λ is. absurd (stop is))
    (λ p t together q w inside is differ. none p t together w
    (subst (λ (r : Pattern). ComesTo pairs r w p t) is inside) differ)
    (variable x) u comes refl other
  where
    stop : application f ps ≡ variable x → ⊥
    stop is = cc

-- ---- for the functions

pub found_injected : (pairs : List (ℕ × ℕ)) (x : ℕ) (but : Option Tree) (a b c : ℕ)
    (p q : Pattern) (t u w : Tree) (o : Option Tree) → p ≡ injection b c q → t ≡ inj a c u
    → IsUpTo pairs a b → w ≡ lowered a b u → FindsBinding pairs x but q w o
    → FindsBinding pairs x but p t o
found_injected pairs x but a b c p q t u w o one other up is found =
    subst (λ (r : Pattern). FindsBinding pairs x but r t o) (sym one)
    (subst (λ (s : Tree). FindsBinding pairs x but (injection b c q) s o) (sym other)
    (found_below pairs x but a b c q u o up
    (subst (λ (s : Tree). FindsBinding pairs x but q s o) is found)))

-- comparing the first arguments with terms does not come there
abbrev pub FindsNoneBefore : List (ℕ × ℕ) → ℕ → Option Tree → List RulePat → List Tree → ℕ
    → Type 0
FindsNoneBefore pairs x but ps ts i =
    (j : ℕ) (p : RulePat) (t : Tree) → j < i → slice_get ps j ≡ Some p
    → slice_get ts j ≡ Some t → FindsNone pairs x but (plain_pattern p) t

pub found_at : (pairs : List (ℕ × ℕ)) (x : ℕ) (but : Option Tree) (f : ℕ) (ps : List RulePat)
    (i : ℕ) (p : RulePat) (t whole : Tree) (o : Option Tree) → slice_get ps i ≡ Some p
    → slice_get (children whole) i ≡ Some t → whole ≡ node f (forest (children whole))
    → is_some o ≡ true → FindsBinding pairs x but (plain_pattern p) t o
    → FindsBinding pairs x but (application f (plain_patterns ps)) whole o
found_at pairs x but f ps i p t whole (Some u) one other is some (comes, differs) = (
  subst (λ (w : Tree). ComesTo pairs (variable x) u (application f (plain_patterns ps)) w)
      (sym is)
      (argument (plain_pattern p) t (at_together ps (children whole) i p t one other) comes),
  differs,
)
found_at pairs x but f ps i p t whole None one other is some found =
    absurd (false≢true some)

pub none_next : (pairs : List (ℕ × ℕ)) (x : ℕ) (but : Option Tree) (ps : List RulePat)
    (ts : List Tree) (i : ℕ) (p : RulePat) (t : Tree) (o : Option Tree)
    → slice_get ps i ≡ Some p → slice_get ts i ≡ Some t → is_some o ≡ false
    → FindsBinding pairs x but (plain_pattern p) t o → FindsNoneBefore pairs x but ps ts i
    → FindsNoneBefore pairs x but ps ts (i + 1)
none_next pairs x but ps ts i p t (Some u) one other none found before =
    absurd (false≢true (sym none))
none_next pairs x but ps ts i p t None one other none found before =
    λ j q w low first second. go j q w low first second (same_or_other j i)
  where
    go : (j : ℕ) (q : RulePat) (w : Tree) → j < i + 1 → slice_get ps j ≡ Some q
        → slice_get ts j ≡ Some w → (j ≡ i) ⊎ (j ≢ i)
        → FindsNone pairs x but (plain_pattern q) w
    go j q w low first second (inl same) =
        let here : p ≡ q = some_same p q (sym one ∙ ap (slice_get ps) (sym same) ∙ first) in
        let there : t ≡ w = some_same t w (sym other ∙ ap (slice_get ts) (sym same) ∙ second) in
        subst (λ (r : RulePat). FindsNone pairs x but (plain_pattern r) w) here
        (subst (FindsNone pairs x but (plain_pattern p)) there found)
    go j q w low first second (inr differ) =
        before j q w (omega (arith, low, differ)) first second

pub none_at_all : (pairs : List (ℕ × ℕ)) (x : ℕ) (but : Option Tree) (f i : ℕ)
    (ps : List RulePat) (whole : Tree) → FindsNoneBefore pairs x but ps (children whole) i
    → length ps ≤ i → whole ≡ node f (forest (children whole))
    → FindsNone pairs x but (application f (plain_patterns ps)) whole
none_at_all pairs x but f i ps whole before all is =
    subst (FindsNone pairs x but (application f (plain_patterns ps))) (sym is)
    (found_among pairs x but f (plain_patterns ps) (forest (children whole))
    (λ p t together.
    let at : IsArgumentAt p t ps (children whole) = together_at p t ps (children whole) together in
    let low : at.number < length ps = slice_get_within ps at.number at.pattern at.is_pattern in
    subst (λ (r : Pattern). FindsNone pairs x but r t) at.plain
    (before at.number at.pattern t (omega (arith, low, all)) at.is_pattern at.is_tree)))

pub value_has_none : (pairs : List (ℕ × ℕ)) (x : ℕ) (but : Option Tree) (s r : ℕ)
    (v : DomainValue) (p : Pattern) (t : Tree) → p ≡ domain_value s v → t ≡ leaf r v
    → FindsNone pairs x but p t
value_has_none pairs x but s r v p t one other u comes differs =
    value_place pairs (λ (q : Pattern) (w : Tree). q ≡ variable x → ⊥) p t r v other
    (λ is. stop (sym one ∙ is)) (variable x) u comes refl
  where
    stop : domain_value s v ≡ variable x → ⊥
    stop is = cc

-- a pattern that clashes is no variable, and has no places but the root
pub clash_has_none : (pairs : List (ℕ × ℕ)) (x : ℕ) (but : Option Tree) (p : Pattern) (t : Tree)
    → Clash pairs p t → FindsNone pairs x but p t
clash_has_none pairs x but p t clashes u here differs = clashes
clash_has_none pairs x but p t clashes u (argument q w together inside) differs = clashes refl
clash_has_none pairs x but p t clashes u (below up inside) differs = clashes up
