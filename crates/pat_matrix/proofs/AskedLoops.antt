-- Loops over the positions and the places of a row.
use Rattle.std.proofs.Common.{◌≡◌, ◌<◌, ◌+◌, ℕ, zero, suc, List, [], ◌∷◌, ◌++◌, length, map, take}
use Rattle.std.proofs.Common.{get_or, sym, ◌∙◌, ap, arith}
use Rattle.std.proofs.lemmas.List.{append_assoc, append-nil}
use Rattle.term_core.specs.Patterns.{Pattern}
use Rattle.term_core.specs.Instances.{patterns}
use Rattle.term_core.specs.RulePatterns.{plain_pattern}
use Rattle.term_core.specs.PatternLists.{plain_patterns}
use Rattle.term_core.specs.declared.rule_patterns.RulePat.{RulePat}
use Rattle.pat_matrix.specs.Positions.{asked_below, all_asked}
use Rattle.pat_matrix.specs.Occurrences.{Occurrence, occurrences, all_occurrences}
use Rattle.pat_matrix.proofs.Loops.{take_next}

-- the positions that one more child asks
asked-push : (place : List ℕ) (k : ℕ) (ps : List Pattern) (p : Pattern)
    → all_asked place k (patterns (ps ++ p ∷ []))
    ≡ all_asked place k (patterns ps) ++ asked_below (place ++ (k + length ps) ∷ []) p
asked-push place k [] p =
    append-nil (asked_below (place ++ k ∷ []) p)
    ∙ ap (λ (m : ℕ). asked_below (place ++ m ∷ []) p) (omega arith)
asked-push place k (q ∷ ps) p =
    ap (λ (xs : List (List ℕ)). asked_below (place ++ k ∷ []) q ++ xs)
    (asked-push place (k + 1) ps p
    ∙ ap (λ (m : ℕ). all_asked place (k + 1) (patterns ps) ++ asked_below (place ++ m ∷ []) p)
    (omega arith))
    ∙ sym (append_assoc (asked_below (place ++ k ∷ []) q) (all_asked place (k + 1) (patterns ps)) _)

-- the first i patterns are i
taken : (pats : List RulePat) (i : ℕ) → i < length pats
    → 0 + length (map plain_pattern (take i pats)) ≡ i
taken [] i lt = absurd (omega arith)
taken (q ∷ pats) zero lt = omega arith
taken (q ∷ pats) (suc i) lt =
    let rest : 0 + length (map plain_pattern (take i pats)) ≡ i = taken pats i (omega arith) in
    omega arith

pub asked-next : (place : List ℕ) (pats : List RulePat) (i : ℕ) (p : RulePat) → i < length pats
    → p ≡ get_or pats i p
    → all_asked place 0 (plain_patterns (take (i + 1) pats))
    ≡ all_asked place 0 (plain_patterns (take i pats))
    ++ asked_below (place ++ i ∷ []) (plain_pattern p)
asked-next place pats i p lt is =
    ap (λ (qs : List Pattern). all_asked place 0 (patterns qs))
    (take_next plain_pattern pats i p lt is)
    ∙ asked-push place 0 (map plain_pattern (take i pats)) (plain_pattern p)
    ∙ ap (λ (m : ℕ). all_asked place 0 (plain_patterns (take i pats))
    ++ asked_below (place ++ m ∷ []) (plain_pattern p)) (taken pats i lt)

-- a loop over children goes on
pub asked-on : (place child : List ℕ) (pats : List RulePat) (i : ℕ) (p : RulePat)
    (first old new : List (List ℕ)) → i < length pats → p ≡ get_or pats i p
    → child ≡ place ++ i ∷ [] → new ≡ old ++ asked_below child (plain_pattern p)
    → old ≡ first ++ all_asked place 0 (plain_patterns (take i pats))
    → new ≡ first ++ all_asked place 0 (plain_patterns (take (i + 1) pats))
asked-on place child pats i p first old new lt is there more was =
    more ∙ ap (λ (xs : List (List ℕ)). xs ++ asked_below child (plain_pattern p)) was
    ∙ ap (λ (c : List ℕ). (first ++ all_asked place 0 (plain_patterns (take i pats)))
    ++ asked_below c (plain_pattern p)) there
    ∙ append_assoc first (all_asked place 0 (plain_patterns (take i pats))) _
    ∙ ap (λ (xs : List (List ℕ)). first ++ xs) (sym (asked-next place pats i p lt is))

-- ---- the same for places of variables

occurrences-push : (place : List ℕ) (k : ℕ) (ps : List Pattern) (p : Pattern)
    → all_occurrences place k (patterns (ps ++ p ∷ []))
    ≡ all_occurrences place k (patterns ps) ++ occurrences (place ++ (k + length ps) ∷ []) p
occurrences-push place k [] p =
    append-nil (occurrences (place ++ k ∷ []) p)
    ∙ ap (λ (m : ℕ). occurrences (place ++ m ∷ []) p) (omega arith)
occurrences-push place k (q ∷ ps) p =
    ap (λ (xs : List Occurrence). occurrences (place ++ k ∷ []) q ++ xs)
    (occurrences-push place (k + 1) ps p
    ∙ ap (λ (m : ℕ). all_occurrences place (k + 1) (patterns ps)
    ++ occurrences (place ++ m ∷ []) p) (omega arith))
    ∙ sym (append_assoc (occurrences (place ++ k ∷ []) q)
    (all_occurrences place (k + 1) (patterns ps)) _)

pub occurrences-on : (place child : List ℕ) (pats : List RulePat) (i : ℕ) (p : RulePat)
    (first old new : List Occurrence) → i < length pats → p ≡ get_or pats i p
    → child ≡ place ++ i ∷ [] → new ≡ old ++ occurrences child (plain_pattern p)
    → old ≡ first ++ all_occurrences place 0 (plain_patterns (take i pats))
    → new ≡ first ++ all_occurrences place 0 (plain_patterns (take (i + 1) pats))
occurrences-on place child pats i p first old new lt is there more was =
    more ∙ ap (λ (xs : List Occurrence). xs ++ occurrences child (plain_pattern p)) was
    ∙ ap (λ (c : List ℕ). (first ++ all_occurrences place 0 (plain_patterns (take i pats)))
    ++ occurrences c (plain_pattern p)) there
    ∙ append_assoc first (all_occurrences place 0 (plain_patterns (take i pats))) _
    ∙ ap (λ (xs : List Occurrence). first ++ xs)
    (ap (λ (m : ℕ). all_occurrences place 0 (plain_patterns (take i pats))
    ++ occurrences (place ++ m ∷ []) (plain_pattern p)) (sym (taken pats i lt))
    ∙ sym (occurrences-push place 0 (map plain_pattern (take i pats)) (plain_pattern p))
    ∙ ap (λ (qs : List Pattern). all_occurrences place 0 (patterns qs))
    (sym (take_next plain_pattern pats i p lt is)))
