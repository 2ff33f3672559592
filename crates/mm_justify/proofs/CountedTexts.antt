-- How the counts of a text grow.
use Rattle.std.proofs.Common.{◌≡◌, ℕ, ◌+◌, Bool, true, List, [], ◌∷◌, ◌++◌, length}
use Rattle.std.proofs.Common.{take, refl, sym, ap, ◌∙◌, subst, length-append}
use Rattle.std.specs.Prelude.{count_by, if◌then◌else◌}
use Rattle.std.proofs.Math.Nat.{add-zero}
use Rattle.std.proofs.lemmas.List.Sums.{sum_by-append, sum_by-cons}
use Rattle.mm_database.specs.Assertions.{Assertion, assertions_of}
use Rattle.mm_database.specs.StatementTexts.{written_statements}
use Rattle.mm_claims.specs.Variables.{Variable}
use Rattle.mm_claims.specs.Claiming.{GainsExactly}
use Rattle.mm_claims.specs.Blocks.{open_assertion}
use Rattle.mm_claims.specs.ClaimVariables.{claim_of}
use Rattle.mm_claims.specs.Places.{lemma_statements}
use Rattle.mm_justify.specs.Counting.{is_fact}
use Rattle.mm_justify.specs.CountingLaws.{AddsCounts, TheoremCounts}
use Rattle.mm_justify.proofs.Allowing.{same_appended}

abbrev pub one_if : Bool → ℕ
one_if b = if b then 1 else 0

pub count_first : {X : Type 0} (test : X → Bool) (x : X) (xs : List X)
    → count_by test (x ∷ xs) ≡ one_if (test x) + count_by test xs
count_first test x xs = sum_by-cons (λ y. one_if (test y)) x xs

-- a text that gains assertions
pub counts_more : (old new : List ℕ) (more : List Assertion) (facts statements : ℕ)
    → assertions_of new ≡ assertions_of old ++ more → count_by is_fact more ≡ facts
    → length more ≡ statements → AddsCounts facts statements old new
counts_more old new more facts statements gained few many = record {
  more_facts = ap (count_by is_fact) gained
      ∙ sum_by-append (λ a. one_if (is_fact a)) (assertions_of old) more
      ∙ ap (λ n. count_by is_fact (assertions_of old) + n) few;
  more_statements = ap length gained ∙ length-append (assertions_of old) more
      ∙ ap (λ n. length (assertions_of old) + n) many;
}

-- a text that gains exactly one assertion
pub counts_one : (bytes appended : List ℕ) (k : ℕ) (vs : List Variable) (a : Assertion)
    → GainsExactly bytes appended k vs a
    → AddsCounts (one_if (is_fact a)) 1 bytes (bytes ++ appended)
counts_one bytes appended k vs a just =
    counts_more bytes (bytes ++ appended) (a ∷ []) (one_if (is_fact a)) 1 just.assertions
    (count_first is_fact a [] ∙ add-zero (one_if (is_fact a))) refl

pub theorem_counts : TheoremCounts
theorem_counts names old new t buffer buffer' text appended states is may fits =
    let written : List ℕ =
    written_statements (lemma_statements names old.count t states.more states.proof) in
    let same : written_statements
    (lemma_statements names old.count t states.more states.proof) ≡ appended =
    same_appended buffer written appended (sym states.appended ∙ is) in
    subst (λ (bytes : List ℕ). AddsCounts 0 1 text (text ++ bytes)) same
    (counts_one text written old.count _
    (open_assertion true (take old.named names) old.count (claim_of t.hypotheses t.conclusion))
    ((states.gains may).just text fits))
