-- Why a pattern does not match a term. A pattern and a term are compared from the root downwards.
-- At some place they clash, or a variable would have to be bound to two different terms.
use Rattle.std.specs.Prelude.{◌≡◌, ◌≢◌, ◌⊎◌, ℕ, List}
use Rattle.term_core.specs.Terms.{Tree, leaf, node, inj, Forest, more_trees}
use Rattle.term_core.specs.Patterns.{Pattern, Patterns, variable, domain_value, application}
use Rattle.term_core.specs.Patterns.{injection, more_patterns}
use Rattle.rule_core.specs.MatchSteps.{lowered}
use Rattle.rule_core.specs.Subsorts.{IsBelow}

-- the sort a is b or below b
abbrev pub IsUpTo : List (ℕ × ℕ) → ℕ → ℕ → Type 0
IsUpTo pairs a b = (a ≡ b) ⊎ IsBelow pairs a b

-- the pattern and the term stand at the same place of the lists
abbrev pub StandTogether : Pattern → Tree → Patterns → Forest → Type 0
StandTogether p t (more_patterns q qs) (more_trees u us) =
    ((p ≡ q) × (t ≡ u)) ⊎ StandTogether p t qs us
StandTogether p t _ _ = ⊥

-- Comparing a pattern with a term comes to comparing q with u: at the root, in the arguments of the
-- same constructor, or below an injection, if the term is injected from the same sort or from one
-- below it. Then it is injected only up to that sort.
pub data ComesTo (pairs : List (ℕ × ℕ)) (q : Pattern) (u : Tree) : Pattern → Tree → Type 0 where
  here : ComesTo pairs q u q u
  argument : {f : ℕ} {ps : Patterns} {ts : Forest} (p : Pattern) (t : Tree)
      → StandTogether p t ps ts → ComesTo pairs q u p t
      → ComesTo pairs q u (application f ps) (node f ts)
  below : {a b c : ℕ} {p : Pattern} {t : Tree} → IsUpTo pairs a b
      → ComesTo pairs q u p (lowered a b t) → ComesTo pairs q u (injection b c p) (inj a c t)

-- The two never are the same term, whatever the variables are bound to, since they differ at the
-- root. They have one sort.
abbrev pub Clash : List (ℕ × ℕ) → Pattern → Tree → Type 0
Clash pairs (domain_value s v) (leaf r w) = v ≢ w
Clash pairs (domain_value s v) (node g ts) = Unit {0}
Clash pairs (domain_value s v) (inj a d t) = Unit {0}
Clash pairs (application f ps) (leaf r w) = Unit {0}
Clash pairs (application f ps) (node g ts) = f ≢ g
Clash pairs (application f ps) (inj a d t) = Unit {0}
Clash pairs (injection b c p) (leaf r w) = Unit {0}
Clash pairs (injection b c p) (node g ts) = Unit {0}
Clash pairs (injection b c p) (inj a d t) = IsUpTo pairs a b → ⊥
Clash pairs _ _ = ⊥

-- comparing them comes to a clash, or to one variable and two different terms
pub data Fails (pairs : List (ℕ × ℕ)) (p : Pattern) (t : Tree) : Type 0 where
  clash : (q : Pattern) (u : Tree) → ComesTo pairs q u p t → Clash pairs q u → Fails pairs p t
  two_bindings : (x : ℕ) (u w : Tree) → ComesTo pairs (variable x) u p t
      → ComesTo pairs (variable x) w p t → u ≢ w → Fails pairs p t
