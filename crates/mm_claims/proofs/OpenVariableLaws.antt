-- A block that declares the variables that a derivation needs has everything that the derivation
-- uses and cites there.
use Rattle.std.proofs.Common.{◌≡◌, ℕ, Bool, true, false, List, [], ◌∷◌, ◌++◌, refl, ◌∙◌, sym, subst}
use Rattle.std.proofs.Common.{append_assoc, append-nil}
use Rattle.std.specs.Prelude.{if◌then◌else◌, flat_map}
use Rattle.std.proofs.lemmas.Bool.{false≢true}
use Rattle.mm_text.specs.Bytes.{Token}
use Rattle.ml_pat.specs.Patterns.{Pattern, nullary, unary, binary, sorted, quantified, var, meta}
use Rattle.ml_pat.specs.Patterns.{constant}
use Rattle.ml_kernel.specs.Lemmas.{instance}
use Rattle.ml_kernel.specs.Renamings.{by_place}
use Rattle.ml_kernel.specs.Rules.{Instance, pattern, variable, sort}
use Rattle.ml_kernel.specs.Theorems.{Derivation, Derivations, hypothesis, own_axiom, by_rule, cited}
use Rattle.ml_kernel.specs.Theorems.{no_derivation, more_derivations}
use Rattle.ml_pat.specs.Leaves.{EachLeaf}
use Rattle.ml_kernel.specs.UsedLeaves.{EachInstance, EachUsed, AllUsed}
use Rattle.ml_kernel.specs.MayCite.{EachCited, AllCited}
use Rattle.mm_claims.specs.Variables.{Variable, object_variable, pattern_variable, has_variable}
use Rattle.mm_claims.specs.Blocks.{Claim}
use Rattle.mm_claims.specs.OverNames.{open_over, over_names}
use Rattle.mm_claims.specs.CitedAt.{at_places, claim_at, HaveInstances, IsCitable}
use Rattle.mm_claims.specs.Citable.{citable}
use Rattle.mm_claims.specs.ClaimVariables.{variables_in, other_variables}
use Rattle.mm_claims.specs.OpenVariables.{variables_for, variables_at, variables_of}
use Rattle.mm_claims.specs.OpenVariables.{all_variables_of}
use Rattle.mm_claims.specs.Provable.{HaveNeeded}
use Rattle.mm_claims.specs.ClaimLaws.{NeededAreEnough, OthersAreEnough}
use Rattle.mm_claims.proofs.OpenCitingTexts.{case_variable, first_there, later_there}
use Rattle.mm_claims.proofs.OpenCiting.{claim_is}
use Rattle.mm_claims.proofs.BoolLaws.{second_true}
use Rattle.mm_claims.proofs.VariableLaws.{has_append, numbered_both, once_more}

-- each of some variables is one of others
abbrev pub Among : List Variable → List Variable → Type 0
Among us vs = (v : Variable) → has_variable us v ≡ true → has_variable vs v ≡ true

in_front : (us ws : List Variable) → Among us (us ++ ws)
in_front us ws v h = has_append us ws v ∙ rw h refl

behind : (us ws : List Variable) → Among ws (us ++ ws)
behind us ws v h = has_append us ws v ∙ second_true (has_variable us v) (has_variable ws v) h

among_front : (us ws vs : List Variable) → Among (us ++ ws) vs → Among us vs
among_front us ws vs h v there = h v (in_front us ws v there)

among_behind : (us ws vs : List Variable) → Among (us ++ ws) vs → Among ws vs
among_behind us ws vs h v there = h v (behind us ws v there)

-- a pattern over declared names whose variables are among some
pub leaves_among : (declared : List Token) (vs : List Variable) (p : Pattern)
    → Among (variables_in p) vs → EachLeaf (over_names declared) p
    → EachLeaf (open_over declared vs) p
leaves_among declared vs (nullary c) w h = tt
leaves_among declared vs (binary c p q) w h = (
  leaves_among declared vs p (among_front (variables_in p) (variables_in q) vs w) h.0,
  leaves_among declared vs q (among_behind (variables_in p) (variables_in q) vs w) h.1,
)
leaves_among declared vs (unary c p) w h = leaves_among declared vs p w h
leaves_among declared vs (sorted c p s) w h = (leaves_among declared vs p w h.0, h.1)
leaves_among declared vs (quantified c x s p) w h = (
  leaves_among declared vs p
      (λ v there. w v (later_there (object_variable x) (variables_in p) v there)) h.0,
  (w (object_variable x) (first_there (object_variable x) (variables_in p)), h.1.1),
)
leaves_among declared vs (var x) w h = w (object_variable x) (first_there (object_variable x) [])
leaves_among declared vs (meta i) w h = w (pattern_variable i) (first_there (pattern_variable i) [])
leaves_among declared vs (constant c) w h = h

-- the same is true of what is substituted for the variables of a rule, and of a claim
instances_among : (declared : List Token) (vs : List Variable) (is : List Instance)
    → Among (flat_map variables_for is) vs → EachInstance (over_names declared) is
    → EachInstance (open_over declared vs) is
instances_among declared vs [] w h = tt
instances_among declared vs (pattern p ∷ is) w h = (
  leaves_among declared vs p (among_front (variables_in p) (flat_map variables_for is) vs w) h.0,
  instances_among declared vs is
      (among_behind (variables_in p) (flat_map variables_for is) vs w) h.1,
)
instances_among declared vs (variable x ∷ is) w h = (
  w (object_variable x) (first_there (object_variable x) (flat_map variables_for is)),
  instances_among declared vs is
      (λ v there. w v (later_there (object_variable x) (flat_map variables_for is) v there))
      h.1,
)
instances_among declared vs (sort s ∷ is) w h = (h.0, instances_among declared vs is w h.1)

values_among : (declared : List Token) (vs : List Variable) (new : List ℕ) (ms : List Pattern)
    (us : List Variable) → Among (flat_map (variables_at new ms) us) vs
    → HaveInstances (over_names declared) new ms us
    → HaveInstances (open_over declared vs) new ms us
values_among declared vs new ms [] w h = tt
values_among declared vs new ms (object_variable x ∷ us) w h = (
  w (object_variable (by_place new x))
      (first_there (object_variable (by_place new x)) (flat_map (variables_at new ms) us)),
  values_among declared vs new ms us (λ v there. w v (later_there
      (object_variable (by_place new x)) (flat_map (variables_at new ms) us) v there))
      h.1,
)
values_among declared vs new ms (pattern_variable i ∷ us) w h = (
  leaves_among declared vs (instance ms (meta i)) (among_front
      (variables_in (instance ms (meta i))) (flat_map (variables_at new ms) us) vs w) h.0,
  values_among declared vs new ms us (among_behind (variables_in (instance ms (meta i)))
      (flat_map (variables_at new ms) us) vs w) h.1,
)

citable_among : (declared : List Token) (vs : List Variable) (claims : List Claim)
    (place : List Pattern → Pattern → ℕ) (own : List Pattern) (q : Pattern) (new : List ℕ)
    (ms : List Pattern)
    → Among (flat_map (variables_at new ms) (claim_at claims (place own q)).variables) vs
    → IsCitable (over_names declared) claims place own q new ms
    → IsCitable (open_over declared vs) claims place own q new ms
citable_among declared vs claims place own q new ms w h = record {
  claim = h.claim;
  there = h.there;
  hypotheses = h.hypotheses;
  conclusion = h.conclusion;
  instances =
      values_among declared vs new ms h.claim.variables (subst
      (λ (s : Claim). Among (flat_map (variables_at new ms) s.variables) vs)
      (claim_is claims (place own q) h.claim h.there) w) h.instances;
}

mutual
  used_among : (declared : List Token) (vs : List Variable) (claims : List Claim)
      (place : List Pattern → Pattern → ℕ) (d : Derivation)
      → Among (variables_of (at_places claims place) d) vs → EachUsed (over_names declared) d
      → EachUsed (open_over declared vs) d
  used_among declared vs claims place (hypothesis p) w h = tt
  used_among declared vs claims place (own_axiom n p new) w h = tt
  used_among declared vs claims place (by_rule r is ds) w h = (
    instances_among declared vs is (among_front (flat_map variables_for is)
        (all_variables_of (at_places claims place) ds) vs w) h.0,
    all_used_among declared vs claims place ds (among_behind (flat_map variables_for is)
        (all_variables_of (at_places claims place) ds) vs w) h.1,
  )
  used_among declared vs claims place (cited own q d ms ds) w h =
      all_used_among declared vs claims place ds (among_behind
      (flat_map (variables_at [] ms) (claim_at claims (place own q)).variables)
      (all_variables_of (at_places claims place) ds) vs w) h

  all_used_among : (declared : List Token) (vs : List Variable) (claims : List Claim)
      (place : List Pattern → Pattern → ℕ) (ds : Derivations)
      → Among (all_variables_of (at_places claims place) ds) vs → AllUsed (over_names declared) ds
      → AllUsed (open_over declared vs) ds
  all_used_among declared vs claims place no_derivation w h = tt
  all_used_among declared vs claims place (more_derivations d ds) w h = (
    used_among declared vs claims place d (among_front (variables_of (at_places claims place) d)
        (all_variables_of (at_places claims place) ds) vs w) h.0,
    all_used_among declared vs claims place ds (among_behind
        (variables_of (at_places claims place) d)
        (all_variables_of (at_places claims place) ds) vs w) h.1,
  )

mutual
  cited_among : (declared : List Token) (vs : List Variable) (claims : List Claim)
      (place : List Pattern → Pattern → ℕ) (d : Derivation)
      → Among (variables_of (at_places claims place) d) vs
      → EachCited (citable (over_names declared) claims place) d
      → EachCited (citable (open_over declared vs) claims place) d
  cited_among declared vs claims place (hypothesis p) w h = tt
  cited_among declared vs claims place (own_axiom n p new) w h =
      citable_among declared vs claims place [] p new [] w h
  cited_among declared vs claims place (by_rule r is ds) w h =
      all_cited_among declared vs claims place ds (among_behind (flat_map variables_for is)
      (all_variables_of (at_places claims place) ds) vs w) h
  cited_among declared vs claims place (cited own q d ms ds) w h = (
    citable_among declared vs claims place own q [] ms (among_front
        (flat_map (variables_at [] ms) (claim_at claims (place own q)).variables)
        (all_variables_of (at_places claims place) ds) vs w) h.0,
    all_cited_among declared vs claims place ds (among_behind
        (flat_map (variables_at [] ms) (claim_at claims (place own q)).variables)
        (all_variables_of (at_places claims place) ds) vs w) h.1,
  )

  all_cited_among : (declared : List Token) (vs : List Variable) (claims : List Claim)
      (place : List Pattern → Pattern → ℕ) (ds : Derivations)
      → Among (all_variables_of (at_places claims place) ds) vs
      → AllCited (citable (over_names declared) claims place) ds
      → AllCited (citable (open_over declared vs) claims place) ds
  all_cited_among declared vs claims place no_derivation w h = tt
  all_cited_among declared vs claims place (more_derivations d ds) w h = (
    cited_among declared vs claims place d (among_front (variables_of (at_places claims place) d)
        (all_variables_of (at_places claims place) ds) vs w) h.0,
    all_cited_among declared vs claims place ds (among_behind
        (variables_of (at_places claims place) d)
        (all_variables_of (at_places claims place) ds) vs w) h.1,
  )

-- Other variables after some variables, each once.

pub others_are_enough : OthersAreEnough
others_are_enough vs [] once numbered others =
    subst (λ (ws : List Variable). HaveNeeded [] ws) (sym (append-nil vs))
    (record { once = once; numbered = numbered; there = λ v none. absurd (false≢true none) })
others_are_enough vs (u ∷ us) once numbered others =
    go (has_variable vs u) refl (λ is. others_are_enough vs us once numbered others.1)
    (λ new. others_are_enough (vs ++ u ∷ []) us (once_more vs u once new)
    (numbered_both vs (u ∷ []) numbered (others.0, tt)) others.1)
  where
    go : (b : Bool) → has_variable vs u ≡ b
        → (has_variable vs u ≡ true → HaveNeeded us (vs ++ other_variables vs us))
        → (has_variable vs u ≡ false
        → HaveNeeded us ((vs ++ u ∷ []) ++ other_variables (vs ++ u ∷ []) us))
        → HaveNeeded (u ∷ us)
        (vs ++ (if b then other_variables vs us else (u ∷ other_variables (vs ++ u ∷ []) us)))
    go true is old new = record {
      once = (old is).once;
      numbered = (old is).numbered;
      there =
          λ v has. case_variable (λ w. has_variable (vs ++ other_variables vs us) w ≡ true) u us v
          has (in_front vs (other_variables vs us) u is) ((old is).there v);
    }
    go false is old new =
        subst (λ (ws : List Variable). HaveNeeded (u ∷ us) ws)
        (append_assoc vs (u ∷ []) (other_variables (vs ++ u ∷ []) us)) (record {
          once = (new is).once;
          numbered = (new is).numbered;
          there = λ v has.
              case_variable
              (λ w. has_variable ((vs ++ u ∷ []) ++ other_variables (vs ++ u ∷ []) us) w ≡ true)
              u us v has
              (in_front (vs ++ u ∷ []) (other_variables (vs ++ u ∷ []) us) u
              (behind vs (u ∷ []) u (first_there u []))) ((new is).there v);
        })

pub needed_are_enough : NeededAreEnough
needed_are_enough declared claims s more d place premise_place w concludes used cites premises =
    record {
      once = w.once;
      numbered = w.numbered;
      concludes = concludes;
      used = used_among declared (s.variables ++ more) claims place d w.there used;
      cites = cited_among declared (s.variables ++ more) claims place d w.there cites;
      premises = premises;
    }
