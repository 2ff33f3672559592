-- What follows from the substitutions by which the arguments of a guard match their terms.
use Rattle.std.proofs.Common.{◌≡◌, ◌<◌, ◌≤◌, ◌^◌, ℕ, List, All, length, get_or, Option, Some}
use Rattle.std.proofs.Common.{slice_get, sym, ◌∙◌, subst, arith}
use Rattle.std.proofs.lemmas.List.{length-map}
use Rattle.std.proofs.lemmas.Option.{slice_get_within, slice_get-get_or}
use Rattle.term_core.specs.Terms.{Tree}
use Rattle.term_core.specs.RulePatterns.{sort_numbers}
use Rattle.term_core.specs.declared.ids.SortId.{SortId}
use Rattle.rule_core.specs.declared.signature.Signature.{Signature}
use Rattle.ml_image.specs.Sentences.{Sentence}
use Rattle.prove_term.specs.Contexts.{Context}
use Rattle.guard_body.specs.Arguments.{AreFound, AreOne, AreTwoFor, MatchTogether}
use Rattle.guard_body.specs.Arguments.{MatchesArgument, NoneMatchesArgument}
use Rattle.guard_body.specs.Guarded.{IsGuarded}
use Rattle.guard_body.specs.declared.arguments.Argument.{Argument}
use Rattle.guard_body.specs.declared.guarded.Guarded.{Guarded}
use Rattle.refute_guard.proofs.GuardConditions.{there_at}

-- the next argument matches by none
pub next_mismatched : (sig : Signature) (sorts : List ℕ) (arguments : List Argument)
    (found : List (List (Option Tree))) (i : ℕ) → AreFound sig sorts arguments found
    → i ≡ length found → i < length arguments
    → (a : Argument) × (slice_get arguments i ≡ Some a) × NoneMatchesArgument sig sorts a
next_mismatched sig sorts arguments found i are here low =
    let one : (a : Argument) × (slice_get arguments i ≡ Some a) = there_at arguments i low in (
      one.0,
      one.1,
      are.next one.0
          (subst (λ (n : ℕ). slice_get arguments n ≡ Some one.0) here one.1),
    )

-- each substitution matches an argument
pub matched_at : (sig : Signature) (sorts : List ℕ) (arguments : List Argument)
    (found : List (List (Option Tree))) (i : ℕ) (theta : List (Option Tree))
    → AreFound sig sorts arguments found → slice_get found i ≡ Some theta
    → (a : Argument) × (slice_get arguments i ≡ Some a) × MatchesArgument sig sorts a theta
matched_at sig sorts arguments found i theta are there =
    let one : (a : Argument) × (slice_get arguments i ≡ Some a) =
    there_at arguments i (omega (arith, are.within, slice_get_within found i theta there)) in
    (one.0, one.1, are.matched i one.0 theta one.1 there)

-- none is too long
pub each_short : (cx : Context) (c : Sentence) (x : Guarded) (found : List (List (Option Tree)))
    → IsGuarded cx c x
    → AreFound cx.program.sig (sort_numbers x.sorts.items) x.arguments.items found
    → All (λ theta. length theta ≤ 2 ^ 32) found
each_short cx c x found is are k d low =
    let one = matched_at cx.program.sig (sort_numbers x.sorts.items) x.arguments.items found k
    (get_or found k d) are (slice_get-get_or found k d low) in
    omega (
      arith,
      is.few,
      length-map x.sorts.items (λ (r : SortId). r.0),
      one.2.binds.room,
    )

-- two of them, as they were read
pub two_read : (found : List (List (Option Tree))) (i j x : ℕ) (theta sigma : List (Option Tree))
    → (s : List (Option Tree)) × (t : List (Option Tree)) × (slice_get found i ≡ Some s)
    × (slice_get found j ≡ Some t) × AreTwoFor x s t
    → slice_get found i ≡ Some theta → slice_get found j ≡ Some sigma → AreTwoFor x theta sigma
two_read found i j x theta sigma (s, t, first, second, two) at there =
    subst (λ (r : List (Option Tree)). AreTwoFor x r sigma)
    (some_same s theta (sym first ∙ at))
    (subst (λ (r : List (Option Tree)). AreTwoFor x s r) (some_same t sigma (sym second ∙ there))
    two)
  where
    some_same : (r q : List (Option Tree)) → Some r ≡ Some q → r ≡ q
    some_same r q e = cc

-- they match all the arguments
pub all_together : (sig : Signature) (sorts : List ℕ) (arguments : List Argument)
    (found : List (List (Option Tree))) → AreFound sig sorts arguments found
    → length arguments ≤ length found → AreOne found → MatchTogether sig sorts arguments found
all_together sig sorts arguments found are all one = record {
  many = omega (arith, are.within, all);
  matched = are.matched;
  one = one;
}
