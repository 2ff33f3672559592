-- Left sides some of whose parts have names, as sentences. A part with a name stands in a conjunction
-- with the variable that names it (Kore language document, "Patterns").
use Rattle.std.specs.Prelude.{ℕ, ◌+◌, if◌then◌else◌, nat_eq, List, [], ◌∷◌, Option, Some, None}
use Rattle.term_core.specs.Patterns.{Pattern, Patterns, variable, domain_value, application}
use Rattle.term_core.specs.Patterns.{injection, call, no_pattern, more_patterns}
use Rattle.rule_core.specs.NamedParts.{Name}
use Rattle.ml_image.specs.Sentences.{Sentence, term, symbol, inject, apply, and}

-- ---- the names of a pattern, whose places begin at it

-- with the name, if its place is the whole pattern
abbrev pub whole : List ℕ → Name → List Name → List Name
whole [] n names = n ∷ names
whole (i ∷ way) n names = names

-- the names of the whole pattern, in order
abbrev pub of_whole : List Name → List Name
of_whole [] = []
of_whole (n ∷ names) = whole n.place n (of_whole names)

-- the rest of a way that begins with the child k
abbrev pub way_in : ℕ → List ℕ → Option (List ℕ)
way_in k [] = None
way_in k (i ∷ way) = if nat_eq i k then Some way else None

-- with the name at this place, if there is one
abbrev pub at_way : Option (List ℕ) → Name → List Name → List Name
at_way None n names = names
at_way (Some way) n names = record n { place = way } ∷ names

-- the names of parts of the child k, in order, each with its place in the child
abbrev pub of_child : ℕ → List Name → List Name
of_child k [] = []
of_child k (n ∷ names) = at_way (way_in k n.place) n (of_child k names)

-- ---- the sentences

-- the part and the variable that names it, in the order in which they are written
abbrev pub named_part : Sentence → Name → Sentence
named_part part n =
    if n.first then and (term (variable n.variable)) part else and part (term (variable n.variable))

-- the part with each of these names, the first innermost
abbrev pub named_parts : Sentence → List Name → Sentence
named_parts part [] = part
named_parts part (n ∷ names) = named_parts (named_part part n) names

-- a pattern whose parts have these names
abbrev mutual
  pub left_sentence : List Name → Pattern → Sentence
  left_sentence names (variable x) = named_parts (term (variable x)) (of_whole names)
  left_sentence names (domain_value s v) = named_parts (term (domain_value s v)) (of_whole names)
  left_sentence names (application f ps) =
      named_parts (applied_sides names 0 (symbol f) ps) (of_whole names)
  left_sentence names (injection a b p) =
      named_parts (apply (inject a b) (left_sentence (of_child 0 names) p)) (of_whole names)
  left_sentence names (call f ss ps) = named_parts (term (call f ss ps)) (of_whole names)

  -- the head applied to patterns whose parts have these names; the first pattern is the child k
  pub applied_sides : List Name → ℕ → Sentence → Patterns → Sentence
  applied_sides names k head no_pattern = head
  applied_sides names k head (more_patterns p ps) =
      applied_sides names (k + 1) (apply head (left_sentence (of_child k names) p)) ps
