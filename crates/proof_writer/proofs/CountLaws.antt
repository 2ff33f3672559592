-- The counts of a growing text.
use Rattle.std.proofs.Common.{◌≡◌, ℕ, ◌+◌, ◌-◌, Bool, if◌then◌else◌, List, length, drop, Some, true}
use Rattle.std.proofs.Common.{false, slice_get, length-drop, refl, ap, ◌∙◌, sym, arith}
use Rattle.std.specs.Int.{from_bool}
use Rattle.ml_pat.specs.Patterns.{Pattern}
use Rattle.mm_justify.specs.Counting.{capped, HasCounts}
use Rattle.mm_justify.specs.CountingLaws.{AddsCounts}
use Rattle.mm_justify.specs.FactForms.{is_fact_form}

-- saturating addition to a capped count is the capped sum
counts_on : (count count' n k k' : ℕ) → count ≡ capped n → k' ≡ n + k → count' ≡ capped (count + k)
    → count' ≡ capped k'
counts_on count count' n k k' is more added = omega (arith, is, more, added)

same_count : (count n k' : ℕ) → count ≡ capped n → k' ≡ n + 0 → count ≡ capped k'
same_count count n k' is more = omega (arith, is, more)

-- the text has more facts and statements
pub more_counts : (facts facts' statements statements' f s : ℕ) (old new : List ℕ)
    → HasCounts facts statements old → AddsCounts f s old new → facts' ≡ capped (facts + f)
    → statements' ≡ capped (statements + s) → HasCounts facts' statements' new
more_counts facts facts' statements statements' f s old new h more facts_added statements_added = record {
  facts_are = counts_on facts facts' _ f _ h.facts_are more.more_facts facts_added;
  statements_are =
      counts_on statements statements' _ s _ h.statements_are more.more_statements statements_added;
}

-- the text has more statements, and no new facts
pub more_statements : (facts statements statements' s : ℕ) (old new : List ℕ)
    → HasCounts facts statements old → AddsCounts 0 s old new
    → statements' ≡ capped (statements + s) → HasCounts facts statements' new
more_statements facts statements statements' s old new h more added = record {
  facts_are = same_count facts _ _ h.facts_are more.more_facts;
  statements_are =
      counts_on statements statements' _ s _ h.statements_are more.more_statements added;
}

-- how many names are not declared yet
pub undeclared : {A : Type 0} (names : List A) (named count : ℕ) → count ≡ length names
    → length (drop named names) ≡ count - named
undeclared {A} names named count all = omega (arith, length-drop named names, all)

as_number : (b : Bool) → from_bool b ≡ (if b then 1 else 0)
as_number true = refl
as_number false = refl

-- an axiom is a fact if its pattern has that form
pub fact_counted : (ps : List Pattern) (i : ℕ) (p q : Pattern) (b : Bool) (n facts facts' : ℕ)
    → slice_get ps i ≡ Some p → slice_get ps i ≡ Some q → b ≡ is_fact_form q → n ≡ from_bool b
    → facts' ≡ capped (facts + n) → facts' ≡ capped (facts + (if is_fact_form p then 1 else 0))
fact_counted ps i p q b n facts facts' at at' is one added =
    let same : q ≡ p = some_same q p (sym at' ∙ at) in
    added
    ∙ ap (λ (k : ℕ). capped (facts + k))
    (one ∙ ap from_bool (is ∙ ap is_fact_form same) ∙ as_number (is_fact_form p))
  where
    some_same : (a b : Pattern) → Some a ≡ Some b → a ≡ b
    some_same a b k = cc
