-- What stays true when names and statements are added.
use Rattle.std.proofs.Common.{◌≡◌, ℕ, ◌≤◌, List, [], ◌∷◌, ◌++◌, Some, slice_get, length, take, zero}
use Rattle.std.proofs.Common.{suc, refl, ap, ◌∙◌, sym, subst, arith, length-append}
use Rattle.std.proofs.lemmas.List.Elements.{Contains-append_right}
use Rattle.mm_text.specs.Bytes.{Token}
use Rattle.ml_pat.proofs.LeafLaws.{EachLeaf-implied}
use Rattle.mm_claims.specs.Statements.{typecode_of}
use Rattle.mm_claims.specs.OverNames.{closed_over}
use Rattle.mm_claims.specs.Blocks.{Claim}
use Rattle.mm_claims.specs.Rendered.{all_stated}
use Rattle.mm_claims.specs.Keeping.{FitsWhen}
use Rattle.mm_claims.specs.LaterLaws.{AllDeclared, FitsLater, ClosedStays, LastIsStated}
use Rattle.mm_claims.specs.LaterLaws.{StatedStays}
use Rattle.mm_claims.proofs.FittingLaws.{name_of-front, take-all}

-- when names gain tokens

take-front : (n : ℕ) (xs ys : List Token) → n ≤ length xs → take n (xs ++ ys) ≡ take n xs
take-front zero xs ys h = refl
take-front (suc n) [] ys h = absurd (omega (arith, h))
take-front (suc n) (x ∷ xs) ys h =
    ap (λ (ts : List Token). x ∷ ts) (take-front n xs ys (omega (arith, h)))

pub fits_later : FitsLater
fits_later names more k bytes within fits =
    subst (λ (ts : List Token). FitsWhen k.begun ts k.count (all_stated k) bytes)
    (sym (take-front k.named names more within)) fits

pub all_declared : AllDeclared
all_declared names k named = ap (λ (n : ℕ). take n names) named ∙ take-all names

pub closed_stays : ClosedStays
closed_stays names more p h =
    EachLeaf-implied (closed_over names) (closed_over (names ++ more)) p (record {
      sort =
          λ i k. (
            omega (arith, k.0, length-append names more),
            ap typecode_of (name_of-front names more i k.0) ∙ k.1,
          );
      constant =
          λ i k. (
            omega (arith, k.0, length-append names more),
            ap typecode_of (name_of-front names more i k.0) ∙ k.1,
          );
      object = λ x k. absurd k;
      meta = λ i k. absurd k;
    }) h

-- when more is stated

pub at_end : (claims : List Claim) (s : Claim)
    → slice_get (claims ++ s ∷ []) (length claims) ≡ Some s
at_end [] s = refl
at_end (r ∷ claims) s = at_end claims s

pub there_still : (claims more : List Claim) (k : ℕ) (s : Claim) → slice_get claims k ≡ Some s
    → slice_get (claims ++ more) k ≡ Some s
there_still [] more k s h = absurd (let z : ⊥ = cc in z)
there_still (r ∷ claims) more zero s h = h
there_still (r ∷ claims) more (suc k) s h = there_still claims more k s h

pub last_is_stated : LastIsStated
last_is_stated stated s = (
  s,
  record {
    there = Contains-append_right stated (s ∷ []) s (zero, omega arith, refl);
    hypotheses_are = refl;
    conclusion_is = refl;
  },
)

pub stated_stays : StatedStays
stated_stays stated others hypotheses conclusion among (s, found) = (
  s,
  record {
    there = among s found.there;
    hypotheses_are = found.hypotheses_are;
    conclusion_is = found.conclusion_is;
  },
)
