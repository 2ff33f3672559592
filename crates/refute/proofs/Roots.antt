-- A pattern and a term that clash differ at the root.
use Rattle.std.proofs.Common.{inl, inr, ℕ, List}
use Rattle.term_core.specs.Terms.{Tree, leaf, node, inj, IsNormal, IsNoInjection}
use Rattle.term_core.specs.Patterns.{Pattern, variable, domain_value, application, injection, call}
use Rattle.term_core.specs.Patterns.{ground_pattern}
use Rattle.prove_open.specs.Differences.{DifferAtRoot, IsValueOrConstructor}
use Rattle.refute.specs.Clashes.{Clash}

has_head : (t : Tree) → IsNoInjection t → IsValueOrConstructor (ground_pattern t)
has_head (leaf s v) h = tt
has_head (node f ts) h = tt
has_head (inj a b t) h = absurd h

pub clash_differs : (pairs : List (ℕ × ℕ)) (p : Pattern) (t : Tree) → IsNormal t
    → Clash pairs p t → DifferAtRoot pairs p (ground_pattern t)
clash_differs pairs (variable x) t n h = absurd h
clash_differs pairs (domain_value s v) (leaf r w) n h = h
clash_differs pairs (domain_value s v) (node g ts) n h = tt
clash_differs pairs (domain_value s v) (inj a d t) n h = tt
clash_differs pairs (application f ps) (leaf r w) n h = tt
clash_differs pairs (application f ps) (node g ts) n h = h
clash_differs pairs (application f ps) (inj a d t) n h = tt
clash_differs pairs (injection b c p) (leaf r w) n h = tt
clash_differs pairs (injection b c p) (node g ts) n h = tt
clash_differs pairs (injection b c p) (inj a d t) n h =
    (λ same. h (inl same), λ low. h (inr low), has_head t n.0)
clash_differs pairs (call f ss ps) t n h = absurd h
