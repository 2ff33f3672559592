-- The names of parts of a pattern, as the code holds them, and sentences with renamed variables.
use Rattle.std.specs.Prelude.{◌≡◌, ℕ, if◌then◌else◌, List, map, Some}
use Rattle.ml_pat.specs.Patterns.{Pattern}
use Rattle.ml_pat.specs.Patterns as logic
use Rattle.term_core.specs.Patterns.{Pattern as RulePattern, Patterns, variable, domain_value}
use Rattle.term_core.specs.Patterns.{application, injection, call}
use Rattle.rule_core.specs.NamedParts.{Name}
use Rattle.rule_core.specs.declared.signature.Signature.{Signature}
use Rattle.ml_image.specs.Images.{renamed, all_renamed}
use Rattle.ml_image.specs.Sentences.{Sentence, term, symbol, inject, apply, sentence_image}
use Rattle.ml_image.specs.NamedSides.{left_sentence, applied_sides, of_child, of_whole, named_parts}
use Rattle.ml_image.specs.Premises.{renamed_name}
use Rattle.ml_image.specs.declared.naming.PartName.{PartName}

abbrev pub part_name : PartName → Name
part_name n = record { variable = n.var; place = n.way.now; first = n.first }

abbrev pub part_names : List PartName → List Name
part_names names = map part_name names

-- a pattern whose parts have these names, without the names of the whole
abbrev pub part_sentence : List Name → RulePattern → Sentence
part_sentence names (variable x) = term (variable x)
part_sentence names (domain_value s v) = term (domain_value s v)
part_sentence names (application f ps) = applied_sides names 0 (symbol f) ps
part_sentence names (injection a b p) = apply (inject a b) (left_sentence (of_child 0 names) p)
part_sentence names (call f ss ps) = term (call f ss ps)

-- ---- with each variable x as the variable g x

abbrev pub names_renamed : (ℕ → ℕ) → List Name → List Name
names_renamed g names = map (renamed_name g) names

abbrev pub left_renamed : (ℕ → ℕ) → List Name → RulePattern → Sentence
left_renamed g names p = left_sentence (names_renamed g names) (renamed g p)

abbrev pub part_renamed : (ℕ → ℕ) → List Name → RulePattern → Sentence
part_renamed g names p = part_sentence (names_renamed g names) (renamed g p)

abbrev pub sides_renamed : (ℕ → ℕ) → List Name → ℕ → Patterns → Sentence
sides_renamed g names f ps = applied_sides (names_renamed g names) 0 (symbol f) (all_renamed g ps)

-- the conjunction of p and the variable that names it
abbrev pub with_name : (ℕ → ℕ) → PartName → Pattern → Pattern
with_name g n p =
    if n.first then logic.and (logic.var (g n.var)) p else logic.and p (logic.var (g n.var))

-- q is p with the names of the whole pattern among these
abbrev pub IsConjoined : (ℕ → ℕ) → List Name → Pattern → Pattern → Type 0
IsConjoined g names p q =
    (sig : Signature) (tokens : List (List ℕ)) (s : Sentence) →
    sentence_image sig tokens s ≡ Some p →
    sentence_image sig tokens (named_parts s (of_whole (names_renamed g names))) ≡ Some q
