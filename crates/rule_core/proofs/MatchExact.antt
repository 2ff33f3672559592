-- Matching from a substitution without bindings finds exactly the substitution under which the
-- patterns become the terms.
use Rattle.std.proofs.Common.{◌≡◌, ◌↔◌, ◌⊎◌, inl, inr, ℕ, Bool, true, false, List, length}
use Rattle.std.proofs.Common.{replicate, Option, Some, None, refl, sym, ◌∙◌, ap, ⊎_elim}
use Rattle.std.specs.Prelude.{IsSome}
use Rattle.std.proofs.lemmas.List.{length-replicate}
use Rattle.std.proofs.lemmas.Bool.{false≢true}
use Rattle.term_core.specs.Terms.{Tree, Forest, AreNormal}
use Rattle.term_core.specs.Patterns.{Patterns, binding}
use Rattle.rule_core.specs.Subsorts.{HasNoCycle}
use Rattle.rule_core.specs.Sorting.{HaveSorts}
use Rattle.rule_core.specs.Matching.{OccursInSome, RespectsSorts, MatchAll, NoneMatches}
use Rattle.rule_core.specs.MatchLaws.{AreTermsOf, MatchIsUnique, MatchIsDecidable}
use Rattle.rule_core.specs.MatchSteps.{all_matched}
use Rattle.rule_core.specs.declared.signature.Signature.{Signature}
use Rattle.rule_core.specs.declared.signature.SortRef.{SortRef}
use Rattle.rule_core.proofs.Bindings.{Extends, binding-replicate, same_bindings, given, IsSome-of}
use Rattle.rule_core.proofs.SortedInstances.{instances_are_sorted}
use Rattle.rule_core.proofs.MatchFound.{all_found}
use Rattle.rule_core.proofs.MatchComplete.{all_complete}

-- no variable is bound
abbrev empty : ℕ → List (Option Tree)
empty n = replicate n None

unbound : (n x : ℕ) → IsSome (binding (empty n) x) → ⊥
unbound n x some = false≢true (sym (ap is_some_of (binding-replicate n x)) ∙ some) where
  is_some_of : Option Tree → Bool
  is_some_of None = false
  is_some_of (Some t) = true

empty_respects : (sig : Signature) (variables : List ℕ) (n : ℕ)
    → RespectsSorts sig variables (empty n)
empty_respects sig variables n x t e = absurd (unbound n x (IsSome-of _ t e))

empty_extends : (sigma : List (Option Tree)) (n : ℕ) → Extends sigma (empty n)
empty_extends sigma n x t e = absurd (unbound n x (IsSome-of _ t e))

-- a substitution that matching finds matches
pub found_matches : (sig : Signature) (variables sorts : List ℕ) (ps : Patterns)
    (refs : List SortRef) (ts : Forest) (theta : List (Option Tree))
    → HaveSorts sig variables sorts ps refs → AreTermsOf sig sorts ts refs → AreNormal ts
    → all_matched sig.subsorts ps ts (replicate (length variables) None) ≡ Some theta
    → MatchAll sig variables ps ts theta
found_matches sig variables sorts ps refs ts theta h is normal e =
    let found =
    all_found sig variables sorts ps refs ts (empty (length variables)) theta h is normal
    (length-replicate (length variables) None)
    (empty_respects sig variables (length variables)) e in
    record {
      binds = record {
        room = found.0.room;
        just = λ x. (
          λ some. ⊎_elim (λ old. absurd (unbound (length variables) x old)) (λ stands. stands)
              ((found.0.just x).0 some),
          λ stands. (found.0.just x).1 (inr stands),
        );
        sorted = found.0.sorted;
      };
      makes = found.1;
    }

-- a substitution whose bindings are all bindings of another one, and that binds the same variables,
-- is the other one
same_where_bound : (variables : List ℕ) (ps : Patterns) (theta sigma : List (Option Tree))
    → length theta ≡ length variables → length sigma ≡ length variables → Extends sigma theta
    → ((x : ℕ) → IsSome (binding theta x) ↔ OccursInSome x ps)
    → ((x : ℕ) → IsSome (binding sigma x) ↔ OccursInSome x ps) → theta ≡ sigma
same_where_bound variables ps theta sigma room room2 extends just just2 =
    same_bindings theta sigma (room ∙ sym room2)
    (λ x. at x (binding theta x) (binding sigma x) refl refl) where
      at : (x : ℕ) (o r : Option Tree) → binding theta x ≡ o → binding sigma x ≡ r
          → binding theta x ≡ binding sigma x
      at x (Some t) r e d = e ∙ sym (extends x t e)
      at x None None e d = e ∙ sym d
      at x None (Some u) e d =
          let there = given (binding theta x) ((just x).1 ((just2 x).0 (IsSome-of _ u d))) in
          absurd (let no : None ≡ Some there.0 = sym e ∙ there.1 in let never : ⊥ = cc in never)

-- a substitution that matches is found
pub match_is_found : (sig : Signature) (variables sorts : List ℕ) (ps : Patterns)
    (refs : List SortRef) (ts : Forest) (theta : List (Option Tree)) → HasNoCycle sig.subsorts
    → HaveSorts sig variables sorts ps refs → MatchAll sig variables ps ts theta
    → all_matched sig.subsorts ps ts (replicate (length variables) None) ≡ Some theta
match_is_found sig variables sorts ps refs ts theta none h m =
    let found =
    all_complete sig variables sorts ps refs ts theta (empty (length variables)) none h
    m.binds.sorted (length-replicate (length variables) None)
    (empty_extends theta (length variables)) m.makes in
    let sorted =
    instances_are_sorted sig variables sorts ps refs theta ts h m.binds.sorted m.makes in
    let own = found_matches sig variables sorts ps refs ts found.0 h sorted.0 sorted.1 found.1 in
    found.1
    ∙ ap (λ (th : List (Option Tree)). Some th) (same_where_bound variables ps found.0 theta
    found.3 m.binds.room found.2 own.binds.just m.binds.just)

pub match_is_unique : MatchIsUnique
match_is_unique sig variables sorts ps refs ts theta sigma none h m k =
    let both : Some theta ≡ Some sigma =
    sym (match_is_found sig variables sorts ps refs ts theta none h m)
    ∙ match_is_found sig variables sorts ps refs ts sigma none h k in
    cc

-- if nothing is found, nothing matches
pub none_found : (sig : Signature) (variables sorts : List ℕ) (ps : Patterns) (refs : List SortRef)
    (ts : Forest) → HasNoCycle sig.subsorts → HaveSorts sig variables sorts ps refs
    → all_matched sig.subsorts ps ts (replicate (length variables) None) ≡ None
    → NoneMatches sig variables ps ts
none_found sig variables sorts ps refs ts none h e theta m =
    let both : None ≡ Some theta =
    sym e ∙ match_is_found sig variables sorts ps refs ts theta none h m in
    cc

pub match_is_decidable : MatchIsDecidable
match_is_decidable sig variables sorts ps refs ts none h is normal =
    told (all_matched sig.subsorts ps ts (empty (length variables))) refl where
      told : (found : Option (List (Option Tree)))
          → all_matched sig.subsorts ps ts (empty (length variables)) ≡ found
          → ((theta : List (Option Tree)) × MatchAll sig variables ps ts theta)
          ⊎ NoneMatches sig variables ps ts
      told None e = inr (none_found sig variables sorts ps refs ts none h e)
      told (Some theta) e =
          inl (theta, found_matches sig variables sorts ps refs ts theta h is normal e)
