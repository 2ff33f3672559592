-- The arguments of an equation with the variables of a guard that repeats it, and the substitutions by
-- which they match their terms.
use Rattle.std.specs.Prelude.{◌≡◌, ◌⊎◌, ◌≤◌, ℕ, List, [], ◌∷◌, length, Option, Some, None, slice_get}
use Rattle.term_core.specs.Terms.{Tree, no_tree, more_trees}
use Rattle.term_core.specs.Patterns.{Pattern, no_pattern, more_patterns, binding}
use Rattle.term_core.specs.Patterns.{ground_pattern}
use Rattle.term_core.specs.RulePatterns.{plain_pattern}
use Rattle.rule_core.specs.NamedParts.{Name, IsNamed}
use Rattle.rule_core.specs.Matching.{OccursIn, MatchNamed, NoneMatches}
use Rattle.rule_core.specs.ProgramView.{names_of}
use Rattle.rule_core.specs.Sorting.{HasSort, IsTermOf}
use Rattle.rule_core.specs.WellSorted.{HasNoCall, HaveNames}
use Rattle.rule_core.specs.declared.signature.Signature.{Signature}
use Rattle.ml_image.specs.NamedSides.{left_sentence, of_child}
use Rattle.ml_image.specs.Sentences.{Sentence, term, top, and, is_in}
use Rattle.guard_body.specs.declared.arguments.Argument.{Argument}

-- ---- arguments

-- the pattern of an argument, the names of its parts, and its term
abbrev pub pattern_of : Argument → Pattern
pattern_of a = plain_pattern a.pat

abbrev pub part_names_of : Argument → List Name
part_names_of a = names_of a.named.items

-- the variable is one of the argument's
abbrev pub IsVariableOf : Argument → ℕ → Type 0
IsVariableOf a x = OccursIn x (pattern_of a) ⊎ IsNamed (part_names_of a) x

-- the argument is well sorted, and its term has its sort
pub record IsArgument (sig : Signature) (sorts : List ℕ) (a : Argument) : Type 0 where
  pub sort : ℕ
  pub sorted : HasSort sig sorts (pattern_of a) sort
  pub no_call : HasNoCall (pattern_of a)
  pub names : HaveNames sig sorts (more_patterns (pattern_of a) no_pattern) (part_names_of a)
  pub is_term : IsTermOf sig a.term.now sort

-- the sentence that the term is in the argument
abbrev pub in_argument : Argument → Sentence
in_argument a =
    is_in (term (ground_pattern a.term.now))
    (left_sentence (of_child 0 (part_names_of a)) (pattern_of a))

-- each term is in its argument
abbrev pub all_in : List Argument → Sentence
all_in [] = top
all_in (a ∷ arguments) = and (in_argument a) (all_in arguments)

-- ---- what matches

-- the substitution matches the argument with its term
abbrev pub MatchesArgument : Signature → List ℕ → Argument → List (Option Tree) → Type 0
MatchesArgument sig sorts a theta =
    MatchNamed sig sorts (more_patterns (pattern_of a) no_pattern) (part_names_of a)
    (more_trees a.term.now no_tree) theta

-- none does
abbrev pub NoneMatchesArgument : Signature → List ℕ → Argument → Type 0
NoneMatchesArgument sig sorts a =
    NoneMatches sig sorts (more_patterns (pattern_of a) no_pattern) (more_trees a.term.now no_tree)

abbrev pub FindsArgument : Signature → List ℕ → Argument → Option (List (Option Tree)) → Type 0
FindsArgument sig sorts a None = NoneMatchesArgument sig sorts a
FindsArgument sig sorts a (Some theta) = MatchesArgument sig sorts a theta

-- each substitution matches the argument at its place
abbrev pub AreMatched : Signature → List ℕ → List Argument → List (List (Option Tree)) → Type 0
AreMatched sig sorts arguments found =
    (i : ℕ) (a : Argument) (theta : List (Option Tree)) → slice_get arguments i ≡ Some a
    → slice_get found i ≡ Some theta → MatchesArgument sig sorts a theta

-- these are the substitutions of the first arguments; if there are others, the next one matches by
-- none
pub record AreFound (sig : Signature) (sorts : List ℕ) (arguments : List Argument)
    (found : List (List (Option Tree))) : Type 0 where
  pub within : length found ≤ length arguments
  pub matched : AreMatched sig sorts arguments found
  pub next : (a : Argument) → slice_get arguments (length found) ≡ Some a
      → NoneMatchesArgument sig sorts a

-- two substitutions bind the variable to different terms
pub record AreTwoFor (x : ℕ) (theta sigma : List (Option Tree)) : Type 0 where
  pub first : Tree
  pub second : Tree
  pub is_first : binding theta x ≡ Some first
  pub is_second : binding sigma x ≡ Some second
  pub differ : first ≡ second → ⊥

-- no two of the substitutions bind a variable to different terms
abbrev pub AreOne : List (List (Option Tree)) → Type 0
AreOne found =
    (i j x : ℕ) (theta sigma : List (Option Tree)) → slice_get found i ≡ Some theta
    → slice_get found j ≡ Some sigma → AreTwoFor x theta sigma → ⊥

-- they match all the arguments, and are one
pub record MatchTogether (sig : Signature) (sorts : List ℕ) (arguments : List Argument)
    (found : List (List (Option Tree))) : Type 0 where
  pub many : length found ≡ length arguments
  pub matched : AreMatched sig sorts arguments found
  pub one : AreOne found
