-- What was stated is found at its place.
use Rattle.std.proofs.Common.{◌≡◌, ℕ, Bool, true, false, List, [], ◌∷◌, ◌++◌, length, zero, suc}
use Rattle.std.proofs.Common.{refl, ap, ◌∙◌, sym, Option, Some, None, slice_get, cond, ◌⊎◌, inl}
use Rattle.std.proofs.Common.{inr, subst, arith, append-nil}
use Rattle.std.specs.Prelude.{unwrap_or, bytes_eq, Contains}
use Rattle.std.specs.BTreeMap.{BTreeMap, Updates}
use Rattle.std.specs.Cmp.{eq_by_cmp_equiv}
use Rattle.std.specs.Cmp.Lexicographic.{slice_cmp, nat_list_cmp_total}
use Rattle.std.specs.Global.{Vec}
use Rattle.std.specs.Map.{KeepsOthers, IsKeyTest, AreApart, lookup}
use Rattle.std.specs.Ordering.{nat_cmp, is_eq}
use Rattle.std.proofs.lemmas.Bool.{false≢true}
use Rattle.std.proofs.lemmas.List.Elements.{Contains-append_left, Contains-append_right}
use Rattle.std.proofs.lemmas.List.Elements.{Contains-push_cases}
use Rattle.std.proofs.lemmas.Map.Text.{is_eq-slice_cmp}
use Rattle.std.proofs.lemmas.Slice.Eq.{bytes_eq-Decides}
use Rattle.ml_pat.specs.Patterns.{Pattern}
use Rattle.mm_claims.specs.Blocks.{Stated}
use Rattle.mm_claims.specs.CitedAt.{ArePremises}
use Rattle.mm_claims.specs.Places.{Finds, IsFoundAs, IsStated}
use Rattle.mm_render.specs.declared.claims.Stated as code
use Rattle.mm_render.specs.ClaimView.{last_of, plain_stated}
use Rattle.mm_render.specs.KeyPlaces.{ArePlaced, IsPlaced, find_by, placed_or_last}
use Rattle.mm_render.specs.KeyPlaces.{premise_place_by, stated_at, stated_or_none}
use Rattle.mm_render.specs.Keys.{pattern_key, statement_key}
use Rattle.mm_render.specs.PlaceTable.{found_in}
use Rattle.mm_render.proofs.KeyLaws.{key_same, hypotheses_same, conclusion_same}

-- what a table finds after an insertion

apart : (bs cs ks : List ℕ) → bytes_eq bs cs ≡ false → is_eq (slice_cmp nat_cmp bs ks) ≡ true
    → is_eq (slice_cmp nat_cmp cs ks) ≡ false
apart bs cs ks other same = go (bytes_eq cs ks) refl
  where
    go : (b : Bool) → bytes_eq cs ks ≡ b → is_eq (slice_cmp nat_cmp cs ks) ≡ false
    go true is =
        absurd (false≢true (sym other
        ∙ (bytes_eq-Decides bs cs).1 ((bytes_eq-Decides bs ks).0
        (sym (is_eq-slice_cmp bs ks) ∙ same) ∙ sym ((bytes_eq-Decides cs ks).0 is))))
    go false is = is_eq-slice_cmp cs ks ∙ is

others_kept : (test : Vec ℕ → Bool) (old new : List (Vec ℕ × ℕ))
    → KeepsOthers (λ (a b : Vec ℕ). is_eq (slice_cmp nat_cmp a.items b.items)) test old new
    → (other : Vec ℕ → Bool)
    → IsKeyTest (λ (a b : Vec ℕ). is_eq (slice_cmp nat_cmp a.items b.items)) other
    → AreApart test other → lookup other new ≡ lookup other old
unfolding KeepsOthers
others_kept test old new h = h

pub found-insert : (m n : BTreeMap (Vec ℕ) ℕ) (k : Vec ℕ) (w : Option ℕ)
    → Updates (λ (a b : Vec ℕ). slice_cmp nat_cmp a.items b.items) m n k w → (key : List ℕ)
    → found_in n key ≡ cond (bytes_eq k.items key) w (found_in m key)
found-insert m n k w updates key = go (bytes_eq k.items key) refl
  where
    go : (b : Bool) → bytes_eq k.items key ≡ b → found_in n key ≡ cond b w (found_in m key)
    go true same = ap (found_in n) (sym ((bytes_eq-Decides k.items key).0 same)) ∙ updates.1
    go false other =
        others_kept _ m.entries n.entries updates.3
        (λ (b : Vec ℕ). is_eq (slice_cmp nat_cmp key b.items))
        (λ (x y : Vec ℕ). (eq_by_cmp_equiv nat_list_cmp_total).congr key x.items y.items)
        (λ (b : Vec ℕ). apart k.items key b.items other)

-- the last of a list, and those before it

stands_last : {A : Type 0} (xs : List A) (x : A) → slice_get (xs ++ x ∷ []) (length xs) ≡ Some x
stands_last [] x = refl
stands_last (y ∷ xs) x = stands_last xs x

stands_before : {A : Type 0} (xs : List A) (x y : A) (k : ℕ) → slice_get xs k ≡ Some y
    → slice_get (xs ++ x ∷ []) k ≡ Some y
stands_before [] x y k h = absurd (cc)
stands_before (z ∷ xs) x y zero h = h
stands_before (z ∷ xs) x y (suc k) h = stands_before xs x y k h

-- the place under some bytes, after one more place was put into a table under its bytes
place_if : (key other : List ℕ) (n : ℕ) (old new : List ℕ → Option ℕ)
    → ((bytes : List ℕ) → new bytes ≡ cond (bytes_eq key bytes) (Some n) (old bytes)) → (b : Bool)
    → bytes_eq key other ≡ b → unwrap_or (new other) 0 ≡ unwrap_or (cond b (Some n) (old other)) 0
place_if key other n old new inserted b is =
    ap (λ (o : Option ℕ). unwrap_or o 0)
    (inserted other ∙ ap (λ (c : Bool). cond c (Some n) (old other)) is)

-- one more claim, under its bytes
pub claim_more : (stated : List Stated) (s : Stated) (key : List ℕ) (old new : List ℕ → Option ℕ)
    → ArePlaced stated old → key ≡ statement_key s.claim.hypotheses s.claim.conclusion
    → ((bytes : List ℕ) → new bytes ≡ cond (bytes_eq key bytes) (Some (length stated)) (old bytes))
    → ArePlaced (stated ++ s ∷ []) new
claim_more stated s key old new placed is inserted own q =
    subst (IsPlaced (stated ++ s ∷ []) own q) (sym (inserted (statement_key own q)))
    (go (bytes_eq key (statement_key own q)) refl (old (statement_key own q)) (placed own q))
  where
    same_statement : (x : Stated) → x.claim.hypotheses ≡ own → x.claim.conclusion ≡ q
        → statement_key x.claim.hypotheses x.claim.conclusion ≡ statement_key own q
    same_statement x hypotheses conclusion =
        ap (λ (ps : List Pattern). statement_key ps x.claim.conclusion) hypotheses
        ∙ ap (statement_key own) conclusion

    none : bytes_eq key (statement_key own q) ≡ false → (IsStated stated own q → ⊥) → (x : Stated)
        → IsFoundAs (stated ++ s ∷ []) own q x → Contains stated x ⊎ (s ≡ x) → ⊥
    none other not x found (inl h) =
        not (
          x,
          record {
            there = h;
            hypotheses_are = found.hypotheses_are;
            conclusion_is = found.conclusion_is;
          },
        )
    none other not x found (inr e) =
        false≢true (sym other ∙ (bytes_eq-Decides key (statement_key own q)).1
        (is ∙ ap (λ (y : Stated). statement_key y.claim.hypotheses y.claim.conclusion) e
        ∙ same_statement x found.hypotheses_are found.conclusion_is))

    go : (b : Bool) → bytes_eq key (statement_key own q) ≡ b → (o : Option ℕ)
        → IsPlaced stated own q o
        → IsPlaced (stated ++ s ∷ []) own q (cond b (Some (length stated)) o)
    go true same o before =
        let bytes : statement_key s.claim.hypotheses s.claim.conclusion ≡ statement_key own q =
        sym is ∙ (bytes_eq-Decides key (statement_key own q)).0 same in (
          s,
          stands_last stated s,
          record {
            there = Contains-append_right stated (s ∷ []) s (zero, omega arith, refl);
            hypotheses_are = hypotheses_same s.claim.hypotheses own s.claim.conclusion q bytes;
            conclusion_is = conclusion_same s.claim.hypotheses own s.claim.conclusion q bytes;
          },
        )
    go false other (Some k) (x, at, found) = (
      x,
      stands_before stated s x k at,
      record {
        there = Contains-append_left stated (s ∷ []) x found.there;
        hypotheses_are = found.hypotheses_are;
        conclusion_is = found.conclusion_is;
      },
    )
    go false other None not =
        λ (there : IsStated (stated ++ s ∷ []) own q).
        none other not there.0 there.1 (Contains-push_cases stated s there.0 there.1.there)

pub none_placed : (found : List ℕ → Option ℕ) → ((key : List ℕ) → found key ≡ None)
    → ArePlaced [] found
none_placed found empty own q =
    subst (IsPlaced [] own q) (sym (empty (statement_key own q))) nothing
  where
    nothing : IsStated [] own q → ⊥
    nothing (s, h) = not_there h.there
      where
        not_there : Contains [] s → ⊥
        not_there (i, low, is) = omega (arith, low)

-- what may be cited is found

item_at : (stated : List Stated) (k : ℕ) (s : Stated) → slice_get stated k ≡ Some s
    → stated_at stated k ≡ s
item_at [] k s h = absurd (let z : ⊥ = cc in z)
item_at (r ∷ stated) zero s h = let same : r ≡ s = cc in same
item_at (r ∷ stated) (suc k) s h = item_at stated k s h

found_among : (stated last : List Stated) (own : List Pattern) (q : Pattern) (k : ℕ)
    → IsPlaced stated own q (Some k) → IsFoundAs (stated ++ last) own q (stated_at stated k)
found_among stated last own q k (s, at, found) =
    subst (IsFoundAs (stated ++ last) own q) (sym (item_at stated k s at)) (record {
      there =
          Contains-append_left stated last s found.there;
      hypotheses_are = found.hypotheses_are;
      conclusion_is = found.conclusion_is;
    })

pub all_found : (stated : List Stated) (o : Option code.Stated) (found : List ℕ → Option ℕ)
    → ArePlaced stated found → Finds (stated ++ last_of o) (find_by stated (last_of o) found)
all_found stated o found placed own q (s, is) = go (found (statement_key own q)) (placed own q)
  where
    in_last : (o : Option code.Stated) (s : Stated) → (IsStated stated own q → ⊥)
        → IsFoundAs (stated ++ last_of o) own q s
        → IsFoundAs (stated ++ last_of o) own q (stated_or_none (last_of o))
    in_last None s not is =
        absurd (not (s, subst (λ (ss : List Stated). IsFoundAs ss own q s) (append-nil stated) is))
    in_last (Some y) s not is = either (Contains-push_cases stated (plain_stated y) s is.there)
      where
        either : Contains stated s ⊎ (plain_stated y ≡ s)
            → IsFoundAs (stated ++ plain_stated y ∷ []) own q (plain_stated y)
        either (inl h) =
            absurd (not (
              s,
              record {
                there = h;
                hypotheses_are = is.hypotheses_are;
                conclusion_is = is.conclusion_is;
              },
            ))
        either (inr e) = subst (IsFoundAs (stated ++ plain_stated y ∷ []) own q) (sym e) is

    go : (k : Option ℕ) → IsPlaced stated own q k
        → IsFoundAs (stated ++ last_of o) own q (placed_or_last stated (last_of o) k)
    go (Some k) at = found_among stated (last_of o) own q k at
    go None not = in_last o s not is

-- one more hypothesis
pub premise_more : (ps : List Pattern) (p : Pattern) (key : List ℕ) (old new : List ℕ → Option ℕ)
    → ArePremises ps (premise_place_by old) → key ≡ pattern_key p
    → ((bytes : List ℕ) → new bytes ≡ cond (bytes_eq key bytes) (Some (length ps)) (old bytes))
    → ArePremises (ps ++ p ∷ []) (premise_place_by new)
premise_more ps p key old new finds is inserted q there = go (bytes_eq key (pattern_key q)) refl
  where
    before : bytes_eq key (pattern_key q) ≡ false → Contains ps q ⊎ (p ≡ q) → Contains ps q
    before other (inl h) = h
    before other (inr e) =
        absurd (false≢true
        (sym other ∙ (bytes_eq-Decides key (pattern_key q)).1 (is ∙ ap pattern_key e)))

    go : (b : Bool) → bytes_eq key (pattern_key q) ≡ b
        → slice_get (ps ++ p ∷ []) (premise_place_by new q) ≡ Some q
    go true same =
        ap (slice_get (ps ++ p ∷ []))
        (place_if key (pattern_key q) (length ps) old new inserted true same)
        ∙ stands_last ps p
        ∙ ap Some (key_same p q (sym is ∙ (bytes_eq-Decides key (pattern_key q)).0 same))
    go false other =
        ap (slice_get (ps ++ p ∷ []))
        (place_if key (pattern_key q) (length ps) old new inserted false other)
        ∙ stands_before ps p q (premise_place_by old q)
        (finds q (before other (Contains-push_cases ps p q there)))
