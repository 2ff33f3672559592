-- A left side some of whose parts have names, and a term of its sort.
use Rattle.std.specs.Prelude.{◌≡◌, ℕ, List, All, Option, Some, slice_get}
use Rattle.term_core.specs.Terms.{Tree}
use Rattle.term_core.specs.Patterns.{Pattern, variable, binding}
use Rattle.term_core.specs.RulePatterns.{plain_pattern}
use Rattle.rule_core.specs.NamedParts.{Name, part_at}
use Rattle.rule_core.specs.Sorting.{HasSort}
use Rattle.rule_core.specs.WellSorted.{HasNoCall}
use Rattle.rule_core.specs.declared.signature.Signature.{Signature}
use Rattle.ml_image.specs.Images.{image_of}
use Rattle.ml_image.specs.Sentences.{Sentence, implies}
use Rattle.prove_term.specs.Contexts.{Context}
use Rattle.prove_open.specs.declared.givens.Given.{Given}
use Rattle.refute.specs.Bindings.{equals_bound}
use Rattle.refute.specs.Choosing.{chosen}
use Rattle.refute.specs.Clashes.{ComesTo}
use Rattle.refute.specs.NamedRefutations.{named_in_common}
use Rattle.refute.specs.Refuting.{IsPair}
use Rattle.refute.specs.declared.sides.Side.{Side}

-- each name, whose place begins at the pattern, is that of a part of its sort
abbrev pub AreParts : Signature → List ℕ → Pattern → List Name → Type 0
AreParts sig variables p names =
    All (λ (n : Name). (q : Pattern) × (sort : ℕ) × (part_at n.place p ≡ Some q)
    × HasSort sig variables q sort × (slice_get variables n.variable ≡ Some sort)) names

-- the side has a pattern without calls, and its image
pub record IsSide (cx : Context) (s : Side) : Type 0 where
  pub no_call : HasNoCall (plain_pattern s.pat.now)
  pub image : image_of cx.program.sig cx.names (plain_pattern s.pat.now) ≡ Some s.image

-- The variable is bound. Comparing comes to it and its binding, if it stands in the place of the part
-- that it names.
pub record IsReached (sig : Signature) (sorts : List ℕ) (g : Given) (theta : List (Option Tree))
    (names : List Name) (p : Pattern) (t : Tree) (x : ℕ) : Type 0 where
  pub bound : Tree
  pub is_bound : binding theta x ≡ Some bound
  pub pair : IsPair sig sorts g (chosen x names p) t
  pub comes : ComesTo sig.subsorts (variable x) bound (chosen x names p) t

-- the sentence that the variable equals the term u, if the pattern with its names and the term t have
-- something in common
abbrev pub bound_if_named : ℕ → Tree → List Name → Pattern → Tree → Sentence
bound_if_named x u names p t = implies (named_in_common names p t) (equals_bound x u)
