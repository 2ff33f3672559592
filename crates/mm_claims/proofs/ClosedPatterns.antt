-- No variable occurs in a closed pattern.
use Rattle.std.proofs.Common.{◌≡◌, ℕ, List, [], ◌++◌, map, refl, ap}
use Rattle.mm_text.specs.Bytes.{Token}
use Rattle.ml_pat.specs.Patterns.{Pattern, unary, binary, sorted, quantified, var, meta}
use Rattle.ml_pat.specs.Leaves.{EachLeaf}
use Rattle.ml_pat.proofs.LeafLaws.{EachLeaf-implied}
use Rattle.mm_claims.specs.OverNames.{closed_over, over_names}
use Rattle.mm_claims.specs.Variables.{Variable}
use Rattle.mm_claims.specs.Blocks.{variable_float, open_frame}
use Rattle.mm_claims.specs.ClaimVariables.{claim_of, variables_in, other_variables}
use Rattle.mm_claims.specs.ClosedLaws.{ClosedHasNoMeta, ClosedIsOver, ClosedClaims}

-- No variable occurs in a closed pattern.

none_in_both : (us vs : List Variable) → us ≡ [] → vs ≡ [] → us ++ vs ≡ []
none_in_both us vs h k = rw (h, k) refl

closed_variables : (names : List Token) (p : Pattern) → EachLeaf (closed_over names) p
    → variables_in p ≡ []
closed_variables names (var x) h = absurd h
closed_variables names (meta i) h = absurd h
closed_variables names (unary c p) h = closed_variables names p h
closed_variables names (sorted c p s) h = closed_variables names p h.0
closed_variables names (quantified c x s p) h = absurd h.1.0
closed_variables names (binary c p q) h =
    none_in_both (variables_in p) (variables_in q) (closed_variables names p h.0)
    (closed_variables names q h.1)
closed_variables names p h = refl

pub closed_claims : ClosedClaims
closed_claims names p h =
    ap (λ (vs : List Variable). other_variables [] (vs ++ [])) (closed_variables names p h)

pub closed_is_over : ClosedIsOver
closed_is_over names p h = EachLeaf-implied (closed_over names) (over_names names) p (record {
  sort = λ i k. k;
  constant = λ i k. k;
  object = λ x k. absurd k;
  meta = λ i k. absurd k;
}) h

pub closed_has_no_meta : ClosedHasNoMeta
closed_has_no_meta names (meta i) h = absurd h
closed_has_no_meta names (unary c p) h = closed_has_no_meta names p h
closed_has_no_meta names (sorted c p s) h = closed_has_no_meta names p h.0
closed_has_no_meta names (quantified c x s p) h = closed_has_no_meta names p h.0
closed_has_no_meta names (binary c p q) h =
    (closed_has_no_meta names p h.0, closed_has_no_meta names q h.1)
closed_has_no_meta names p h = tt

-- so the frame of its claim has no hypotheses
pub closed_frame_has_none : (names : List Token) (k : ℕ) (p : Pattern)
    → EachLeaf (closed_over names) p → (open_frame names k (claim_of [] p)).hypotheses ≡ []
closed_frame_has_none names k p h =
    ap (λ (vs : List Variable). map (variable_float k) vs ++ []) (closed_claims names p h)
