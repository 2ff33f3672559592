-- The places to which comparing a pattern with a term comes.
use Rattle.std.proofs.Common.{◌≡◌, inl, inr, ℕ, zero, suc, List, [], ◌∷◌, Some}
use Rattle.std.proofs.Common.{None, slice_get, refl, sym, ◌∙◌, ap, subst}
use Rattle.term_core.specs.Terms.{DomainValue, Tree, leaf, node, inj, Forest}
use Rattle.term_core.specs.Forests.{forest}
use Rattle.term_core.specs.Patterns.{Pattern, Patterns, variable, application}
use Rattle.term_core.specs.Patterns.{injection}
use Rattle.term_core.specs.RulePatterns.{plain_pattern}
use Rattle.term_core.specs.PatternLists.{plain_patterns}
use Rattle.term_core.specs.declared.rule_patterns.RulePat.{RulePat}
use Rattle.rule_core.specs.MatchSteps.{lowered}
use Rattle.refute.specs.Clashes.{IsUpTo, StandTogether, ComesTo, here, argument, below}

some_same : {A : Type 0} (a b : A) → Some a ≡ Some b → a ≡ b
some_same a b h = cc

none_some : {A : Type 0} (a : A) → None ≡ Some a → ⊥
none_some a h = cc

-- What holds of the root, of the places in each argument, and of the places below injections, holds
-- of each place.
pub every_place : (pairs : List (ℕ × ℕ)) (N : Pattern → Tree → Type 0) (q : Pattern) (u : Tree)
    {p : Pattern} {t : Tree} → ComesTo pairs q u p t → N p t
    → ((f : ℕ) (ps : Patterns) (ts : Forest) (a : Pattern) (b : Tree) → p ≡ application f ps
    → t ≡ node f ts → StandTogether a b ps ts → ComesTo pairs q u a b → N q u)
    → ((a b c : ℕ) (r : Pattern) (w : Tree) → p ≡ injection b c r → t ≡ inj a c w
    → IsUpTo pairs a b → ComesTo pairs q u r (lowered a b w) → N q u)
    → N q u
every_place pairs N q u here root args under = root
every_place pairs N q u (argument {f = f} {ps = ps} {ts = ts} p t together inside) root args under
    =
    args f ps ts p t refl refl together inside
every_place pairs N q u (below {a = a} {b = b} {c = c} {p = p} {t = t} up inside) root args under =
    under a b c p t refl refl up inside

-- a variable is the only place of itself
pub variable_place : (pairs : List (ℕ × ℕ)) (N : Pattern → Tree → Type 0) (x : ℕ) (t : Tree)
    → N (variable x) t → (q : Pattern) (u : Tree) → ComesTo pairs q u (variable x) t → N q u
variable_place pairs N x t root q u comes =
    every_place pairs N q u comes root (λ f ps ts a b is other together inside. absurd (go f ps is))
    (λ a b c r w is other up inside. absurd (stop b c r is))
  where
    go : (f : ℕ) (ps : Patterns) → variable x ≡ application f ps → ⊥
    go f ps is = cc

    stop : (b c : ℕ) (r : Pattern) → variable x ≡ injection b c r → ⊥
    stop b c r is = cc

-- so is a value
pub value_place : (pairs : List (ℕ × ℕ)) (N : Pattern → Tree → Type 0) (p : Pattern) (t : Tree)
    (r : ℕ) (v : DomainValue) → t ≡ leaf r v
    → N p t → (q : Pattern) (u : Tree) → ComesTo pairs q u p t → N q u
value_place pairs N p t r v leaf_is root q u comes =
    every_place pairs N q u comes root
    (λ f ps ts a b is other together inside. absurd (go f ts (sym leaf_is ∙ other)))
    (λ a b c s w is other up inside. absurd (stop a c w (sym leaf_is ∙ other)))
  where
    go : (f : ℕ) (ts : Forest) → leaf r v ≡ node f ts → ⊥
    go f ts is = cc

    stop : (a c : ℕ) (w : Tree) → leaf r v ≡ inj a c w → ⊥
    stop a c w is = cc

-- the places of an application of arguments
pub argument_places : (pairs : List (ℕ × ℕ)) (N : Pattern → Tree → Type 0) (f : ℕ) (ps : Patterns)
    (ts : Forest) → N (application f ps) (node f ts)
    → ((a : Pattern) (b : Tree) → StandTogether a b ps ts → (q : Pattern) (u : Tree)
    → ComesTo pairs q u a b → N q u)
    → (q : Pattern) (u : Tree) → ComesTo pairs q u (application f ps) (node f ts) → N q u
argument_places pairs N f ps ts root args q u comes =
    every_place pairs N q u comes root
    (λ g qs us a b is other together inside. args a b (moved g qs us a b is other together) q u
    inside)
    (λ a b c s w is other up inside. absurd (stop b c s is))
  where
    moved : (g : ℕ) (qs : Patterns) (us : Forest) (a : Pattern) (b : Tree)
        → application f ps ≡ application g qs → node f ts ≡ node g us → StandTogether a b qs us
        → StandTogether a b ps ts
    moved g qs us a b is other together =
        let one : qs ≡ ps = cc in
        let two : us ≡ ts = cc in
        subst (λ (rs : Patterns). StandTogether a b rs ts) one
        (subst (λ (ws : Forest). StandTogether a b qs ws) two together)

    stop : (b c : ℕ) (r : Pattern) → application f ps ≡ injection b c r → ⊥
    stop b c r is = cc

-- the places of an injection
pub injection_places : (pairs : List (ℕ × ℕ)) (N : Pattern → Tree → Type 0) (a b c : ℕ)
    (p : Pattern) (t : Tree) → N (injection b c p) (inj a c t)
    → ((q : Pattern) (u : Tree) → ComesTo pairs q u p (lowered a b t) → N q u)
    → (q : Pattern) (u : Tree) → ComesTo pairs q u (injection b c p) (inj a c t) → N q u
injection_places pairs N a b c p t root inside q u comes =
    every_place pairs N q u comes root
    (λ f ps ts a b is other together inside. absurd (stop f ps is))
    (λ k m n r w is other up more. inside q u (moved k m n r w is other more))
  where
    stop : (f : ℕ) (ps : Patterns) → injection b c p ≡ application f ps → ⊥
    stop f ps is = cc

    moved : (k m n : ℕ) (r : Pattern) (w : Tree) → injection b c p ≡ injection m n r
        → inj a c t ≡ inj k n w → ComesTo pairs q u r (lowered k m w)
        → ComesTo pairs q u p (lowered a b t)
    moved k m n r w is other more =
        let one : r ≡ p = cc in
        let low : m ≡ b = cc in
        let from : k ≡ a = cc in
        let two : w ≡ t = cc in
        subst (λ (s : Pattern). ComesTo pairs q u s (lowered a b t)) one
        (subst (λ (s : Tree). ComesTo pairs q u r (lowered a b s)) two
        (subst (λ (s : ℕ). ComesTo pairs q u r (lowered s b w)) from
        (subst (λ (s : ℕ). ComesTo pairs q u r (lowered k s w)) low more)))

-- ---- arguments by their numbers

-- an argument and the term in its place, by number
pub record IsArgumentAt (p : Pattern) (t : Tree) (ps : List RulePat) (ts : List Tree) : Type 0 where
  pub number : ℕ
  pub pattern : RulePat
  pub is_pattern : slice_get ps number ≡ Some pattern
  pub is_tree : slice_get ts number ≡ Some t
  pub plain : plain_pattern pattern ≡ p

pub together_at : (p : Pattern) (t : Tree) (ps : List RulePat) (ts : List Tree)
    → StandTogether p t (plain_patterns ps) (forest ts) → IsArgumentAt p t ps ts
together_at p t [] ts together = absurd together
together_at p t (r ∷ ps) [] together = absurd together
together_at p t (r ∷ ps) (u ∷ ts) (inl (one, other)) = record {
  number = 0;
  pattern = r;
  is_pattern = refl;
  is_tree = ap (λ (w : Tree). Some w) (sym other);
  plain = sym one;
}
together_at p t (r ∷ ps) (u ∷ ts) (inr later) =
    let rest : IsArgumentAt p t ps ts = together_at p t ps ts later in
    record {
      number = suc rest.number;
      pattern = rest.pattern;
      is_pattern = rest.is_pattern;
      is_tree = rest.is_tree;
      plain = rest.plain;
    }

pub at_together : (ps : List RulePat) (ts : List Tree) (i : ℕ) (r : RulePat) (t : Tree)
    → slice_get ps i ≡ Some r → slice_get ts i ≡ Some t
    → StandTogether (plain_pattern r) t (plain_patterns ps) (forest ts)
at_together [] ts i r t one other = absurd (none_some r one)
at_together (p ∷ ps) [] i r t one other = absurd (none_some t other)
at_together (p ∷ ps) (u ∷ ts) zero r t one other =
    inl (ap plain_pattern (sym (some_same p r one)), sym (some_same u t other))
at_together (p ∷ ps) (u ∷ ts) (suc i) r t one other = inr (at_together ps ts i r t one other)
