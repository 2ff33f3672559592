-- The set of each sort, after one of the sets has changed.
use Rattle.std.proofs.Common.{◌≡◌, ◌≢◌, ℕ, zero, suc, ◌+◌, ◌<◌, ◌≤◌, ◌⊎◌, inl, inr, subst, ◌↔◌}
use Rattle.std.proofs.Common.{eq-eqb, Contains, Bool, true, false, List, [], ◌∷◌, ◌++◌, length}
use Rattle.std.proofs.Common.{refl, sym, ◌∙◌, ap, arith}
use Rattle.std.proofs.Math.ListN.{set, get_or}
use Rattle.std.specs.Prelude.{Vec, IsTrue, ◌==◌, ◌||◌, ◌&&◌}
use Rattle.std.proofs.lemmas.Bool.{false≢true, eqb-true}
use Rattle.rule_core.specs.Subsorts.{HasNoCycle, is_below}
use Rattle.rule_core.proofs.Belows.{IsBelow-trans, is_below-true, true-is_below, either_true}
use Rattle.rule_core.proofs.Belows.{true_left, true_right, contains_later, contains_cases}
use Rattle.rule_core.proofs.Belows.{first_last, last_first, below_last}
use Rattle.std.specs.Global.{Global}
use Rattle.rule_core.specs.SubsortFields.{sort_pairs, pairs_of, has, set_at, is_in, reaches}
use Rattle.rule_core.specs.SubsortFields.{IsClosed, IsTable}
use Rattle.rule_core.specs.declared.subsorts.Subsorts.TheInside.{Inside}

-- the set in an entry
pub set_at_entry : (sets : List (Vec ℕ Global)) (x : ℕ) (d : Vec ℕ Global) → x < length sets
    → set_at sets x ≡ (get_or sets x d).items
set_at_entry [] x d lt = absurd (omega (arith, lt))
set_at_entry (first ∷ sets) zero d lt = refl
set_at_entry (first ∷ sets) (suc x) d lt = set_at_entry sets x d (omega (arith, lt))

pub set_at_past : (sets : List (Vec ℕ Global)) (x : ℕ) → length sets ≤ x → set_at sets x ≡ []
set_at_past [] x le = refl
set_at_past (first ∷ sets) zero le = absurd (omega (arith, le))
set_at_past (first ∷ sets) (suc x) le = set_at_past sets x (omega (arith, le))

pub set_at_set_same : (sets : List (Vec ℕ Global)) (x : ℕ) (new : Vec ℕ Global) → x < length sets
    → set_at (set sets x new) x ≡ new.items
set_at_set_same [] x new lt = absurd (omega (arith, lt))
set_at_set_same (first ∷ sets) zero new lt = refl
set_at_set_same (first ∷ sets) (suc x) new lt = set_at_set_same sets x new (omega (arith, lt))

pub set_at_set_other : (sets : List (Vec ℕ Global)) (x z : ℕ) (new : Vec ℕ Global) → z ≢ x
    → set_at (set sets x new) z ≡ set_at sets z
set_at_set_other [] x z new other = refl
set_at_set_other (first ∷ sets) zero zero new other = absurd (other refl)
set_at_set_other (first ∷ sets) zero (suc z) new other = refl
set_at_set_other (first ∷ sets) (suc x) zero new other = refl
set_at_set_other (first ∷ sets) (suc x) (suc z) new other =
    set_at_set_other sets x z new (λ e. other (ap suc e))

pub set_at_push : (sets : List (Vec ℕ Global)) (new : Vec ℕ Global) (z : ℕ) → new.items ≡ []
    → set_at (sets ++ new ∷ []) z ≡ set_at sets z
set_at_push [] new zero none = none
set_at_push [] new (suc z) none = refl
set_at_push (first ∷ sets) new zero none = refl
set_at_push (first ∷ sets) new (suc z) none = set_at_push sets new z none

-- a number equals another one, or does not
abbrev either : (z x : ℕ) → Type 0
either z x = (z ≡ x) ⊎ (z ≢ x)

same_or_not : (z x : ℕ) → either z x
same_or_not zero zero = inl refl
same_or_not zero (suc x) = inr (λ e. omega (arith, e))
same_or_not (suc z) zero = inr (λ e. omega (arith, e))
same_or_not (suc z) (suc x) = more (same_or_not z x) where
  more : either z x → either (suc z) (suc x)
  more (inl e) = inl (ap suc e)
  more (inr n) = inr (λ e. n (omega (arith, e)))

-- the members of the sets, after the set with the number x has been replaced
pub is_in_set : (sets : List (Vec ℕ Global)) (x : ℕ) (new : Vec ℕ Global)
    (P : ℕ → ℕ → Bool → Type 0) → x < length sets → ((y : ℕ) → P x y (has new.items y))
    → ((z y : ℕ) → z ≢ x → P z y (is_in sets z y)) → (z y : ℕ) → P z y (is_in (set sets x new) z y)
is_in_set sets x new P lt at_x others z y = by_case (same_or_not z x) where
  by_case : either z x → P z y (is_in (set sets x new) z y)
  by_case (inl e) =
      let Q : ℕ → Type 0 = λ n. P n y (is_in (set sets x new) n y) in
      let R : List ℕ → Type 0 = λ s. P x y (has s y) in
      subst Q (sym e) (subst R (sym (set_at_set_same sets x new lt)) (at_x y))
  by_case (inr n) =
      let R : List ℕ → Type 0 = λ s. P z y (has s y) in
      subst R (sym (set_at_set_other sets x z new n)) (others z y n)

-- the sets do not change, if the replaced one has the same members
pub is_in_same : (sets : List (Vec ℕ Global)) (x : ℕ) (new : Vec ℕ Global) → x < length sets
    → ((y : ℕ) → has new.items y ≡ is_in sets x y) → (z y : ℕ)
    → is_in (set sets x new) z y ≡ is_in sets z y
is_in_same sets x new lt same =
    is_in_set sets x new (λ z y known. known ≡ is_in sets z y) lt same (λ z y n. refl)

-- adding a case that holds already changes nothing
nothing_if : (u v w : Bool) → (IsTrue v → IsTrue w → IsTrue u) → u ≡ (u || (v && w))
nothing_if true v w h = refl
nothing_if false false w h = refl
nothing_if false true false h = refl
nothing_if false true true h = h refl refl

same_reaches : (sets init : List (Vec ℕ Global)) (x a : ℕ) → is_in sets x a ≡ is_in init x a
    → reaches init x a ≡ reaches sets x a
same_reaches sets init x a same = ap (λ b. (x == a) || b) (sym same)

-- the sets are long enough up to the next number, if this one has been made long enough
pub long_next : (sets new init : List (Vec ℕ Global)) (x a len : ℕ) → len ≤ length (set_at new x)
    → ((z : ℕ) → z ≢ x → set_at new z ≡ set_at sets z)
    → ((z : ℕ) → z < x → IsTrue (reaches init z a) → len ≤ length (set_at sets z)) → (z : ℕ)
    → z < x + 1 → IsTrue (reaches init z a) → len ≤ length (set_at new z)
long_next sets new init x a len long others before z lt leads = by_case (same_or_not z x) where
  below : z ≢ x → z < x
  below n = omega (arith, lt, n)

  by_case : either z x → len ≤ length (set_at new z)
  by_case (inl e) = let Q : ℕ → Type 0 = λ n. len ≤ length (set_at new n) in subst Q (sym e) long
  by_case (inr n) =
      let Q : List ℕ → Type 0 = λ s. len ≤ length s in
      subst Q (sym (others z n)) (before z (below n) leads)

-- or if this one does not have to be long enough
pub long_still : (sets init : List (Vec ℕ Global)) (x a len : ℕ) → is_in sets x a ≡ is_in init x a
    → reaches sets x a ≡ false
    → ((z : ℕ) → z < x → IsTrue (reaches init z a) → len ≤ length (set_at sets z)) → (z : ℕ)
    → z < x + 1 → IsTrue (reaches init z a) → len ≤ length (set_at sets z)
long_still sets init x a len same not before z lt leads = by_case (same_or_not z x) where
  below : z ≢ x → z < x
  below n = omega (arith, lt, n)

  by_case : either z x → len ≤ length (set_at sets z)
  by_case (inl e) =
      let Q : ℕ → Type 0 = λ n. IsTrue (reaches init n a) in
      absurd (false≢true (sym not ∙ sym (same_reaches sets init x a same) ∙ subst Q e leads))
  by_case (inr n) = before z (below n) leads

-- the sets have got the new sorts up to the next number, if this one has got them
pub merged_next : (sets new init : List (Vec ℕ Global)) (x a : ℕ) (more : List ℕ)
    → set_at sets x ≡ set_at init x → reaches sets x a ≡ true
    → ((y : ℕ) → is_in new x y ≡ (is_in sets x y || has more y))
    → ((z : ℕ) → z ≢ x → set_at new z ≡ set_at sets z)
    → ((z y : ℕ) → z < x → is_in sets z y ≡ (is_in init z y || (reaches init z a && has more y)))
    → (z y : ℕ) → z < x + 1 → is_in new z y ≡ (is_in init z y || (reaches init z a && has more y))
merged_next sets new init x a more same leads gets others before z y lt =
    by_case (same_or_not z x)
  where
    Wanted : ℕ → Type 0
    Wanted n = is_in new n y ≡ (is_in init n y || (reaches init n a && has more y))

    here : Wanted x
    here =
        rw (
          same_reaches sets init x a (ap (λ s. has s a) same),
          leads,
          gets y,
          ap (λ s. has s y) same,
        ) refl

    below : z ≢ x → z < x
    below n = omega (arith, lt, n)

    by_case : either z x → Wanted z
    by_case (inl e) = subst Wanted (sym e) here
    by_case (inr n) = ap (λ s. has s y) (others z n) ∙ before z y (below n)

pub known_before : (sets init : List (Vec ℕ Global)) (x a b : ℕ) → set_at sets x ≡ set_at init x
    → (IsTrue (reaches sets x a) → IsTrue (is_in sets x b)) → IsTrue (reaches init x a)
    → IsTrue (is_in init x b)
known_before sets init x a b same known leads =
    ap (λ s. has s b) (sym same)
    ∙ known (sym (same_reaches sets init x a (ap (λ s. has s a) same)) ∙ leads)

-- or if this one gets nothing new
pub merged_still : (sets init : List (Vec ℕ Global)) (x a : ℕ) (more : List ℕ)
    → set_at sets x ≡ set_at init x
    → ((y : ℕ) → IsTrue (reaches init x a) → IsTrue (has more y) → IsTrue (is_in init x y))
    → ((z y : ℕ) → z < x → is_in sets z y ≡ (is_in init z y || (reaches init z a && has more y)))
    → (z y : ℕ) → z < x + 1 → is_in sets z y ≡ (is_in init z y || (reaches init z a && has more y))
merged_still sets init x a more same known before z y lt = by_case (same_or_not z x) where
  Wanted : ℕ → Type 0
  Wanted n = is_in sets n y ≡ (is_in init n y || (reaches init n a && has more y))

  below : z ≢ x → z < x
  below n = omega (arith, lt, n)

  by_case : either z x → Wanted z
  by_case (inl e) = subst Wanted (sym e) (ap (λ s. has s y) same ∙ nothing_if _ _ _ (known y))
  by_case (inr n) = before z y (below n)

-- a set that contains b gets nothing new from b and the set of b
pub nothing_new : (sets : List (Vec ℕ Global)) (x b y : ℕ) → IsClosed sets → IsTrue (is_in sets x b)
    → IsTrue (b == y || is_in sets b y) → IsTrue (is_in sets x y)
nothing_new sets x b y closed leads more = by_case (either_true _ _ more) where
  by_case : ((b == y) ≡ true) ⊎ (is_in sets b y ≡ true) → is_in sets x y ≡ true
  by_case (inl t) =
      let P : ℕ → Type 0 = λ n. is_in sets x n ≡ true in subst P (eqb-true b y t) leads
  by_case (inr t) = closed x b y leads t

-- if the set of a contains b, then so does each set that leads to a
pub joined_already : (sets : List (Vec ℕ Global)) (a b : ℕ) → IsClosed sets
    → IsTrue (is_in sets a b) → (x y : ℕ)
    → is_in sets x y ≡ (is_in sets x y || (reaches sets x a && (b == y || is_in sets b y)))
joined_already sets a b closed known x y =
    nothing_if _ _ _ (λ leads. nothing_new sets x b y closed (below (either_true _ _ leads)))
  where
    below : ((x == a) ≡ true) ⊎ (is_in sets x a ≡ true) → is_in sets x b ≡ true
    below (inl t) =
        let P : ℕ → Type 0 = λ n. is_in sets n b ≡ true in subst P (sym (eqb-true x a t)) known
    below (inr t) = closed x a b t known

-- the sets that lead to a have got b and the sorts of its set
pub joined_from : (init sets merged : List (Vec ℕ Global)) (a b : ℕ) (more : List ℕ)
    → ((x y : ℕ) → is_in sets x y ≡ is_in init x y)
    → ((y : ℕ) → has more y ≡ (b == y || is_in init b y))
    → ((x y : ℕ) → is_in merged x y ≡ (is_in sets x y || (reaches sets x a && has more y)))
    → (x y : ℕ)
    → is_in merged x y ≡ (is_in init x y || (reaches init x a && (b == y || is_in init b y)))
joined_from init sets merged a b more same upper got x y =
    got x y ∙ ap (λ u. u || (reaches sets x a && has more y)) (same x y)
    ∙ ap (λ u. is_in init x y || ((x == a || u) && has more y)) (same x a)
    ∙ ap (λ u. is_in init x y || (reaches init x a && u)) (upper y)

-- the sets of the sorts above each sort, after those that lead to a have got b and the sorts above
-- b
pub chains_more : (pairs : List (ℕ × ℕ)) (a b : ℕ) (sets merged : List (Vec ℕ Global))
    → ((x y : ℕ) → is_in sets x y ≡ is_below pairs x y)
    → ((x y : ℕ)
    → is_in merged x y ≡ (is_in sets x y || (reaches sets x a && (b == y || is_in sets b y))))
    → (x y : ℕ) → is_in merged x y ≡ is_below (pairs ++ (a, b) ∷ []) x y
chains_more pairs a b sets merged known got x y =
    got x y ∙ ap (λ u. u || (reaches sets x a && (b == y || is_in sets b y))) (known x y)
    ∙ ap (λ u. is_below pairs x y || ((x == a || u) && (b == y || is_in sets b y))) (known x a)
    ∙ ap (λ u. is_below pairs x y || ((x == a || is_below pairs x a) && (b == y || u))) (known b y)
    ∙ sym (below_last pairs (a, b) x y)

-- tables that agree with the pairs still agree, if their sets have the same members
pub table_same : (t u : Inside) → u.pairs.items ≡ t.pairs.items
    → ((x y : ℕ) → is_in u.above.items x y ≡ is_in t.above.items x y)
    → ((x y : ℕ) → is_in u.direct.items x y ≡ is_in t.direct.items x y) → IsTable t → IsTable u
table_same t u pairs above direct table =
    let kept : pairs_of u ≡ pairs_of t = ap sort_pairs pairs in
    record {
      chains =
          λ x y.
          above x y ∙ table.chains x y ∙ ap (λ (ps : List (ℕ × ℕ)). is_below ps x y) (sym kept);
      single = λ x y.
          let P : List (ℕ × ℕ) → Type 0 = λ ps. Contains ps (x, y) in (
            λ yes. subst P (sym kept) ((table.single x y).0 (sym (direct x y) ∙ yes)),
            λ there. direct x y ∙ (table.single x y).1 (subst P kept there),
          );
      no_cycle = subst HasNoCycle (sym kept) table.no_cycle;
    }

-- the sets of the sorts above each sort are closed
pub chains_closed : (pairs : List (ℕ × ℕ)) (sets : List (Vec ℕ Global))
    → ((x y : ℕ) → is_in sets x y ≡ is_below pairs x y) → IsClosed sets
chains_closed pairs sets known x y z one other =
    known x z
    ∙ true-is_below pairs x z (IsBelow-trans pairs x y z
    (is_below-true pairs x y (sym (known x y) ∙ one))
    (is_below-true pairs y z (sym (known y z) ∙ other)))

-- the sets of the sorts directly above each sort, after the set of a has got b
pub single_more : (pairs : List (ℕ × ℕ)) (a b : ℕ) (sets : List (Vec ℕ Global)) (new : Vec ℕ Global)
    → a < length sets → ((x y : ℕ) → IsTrue (is_in sets x y) ↔ Contains pairs (x, y))
    → ((y : ℕ) → has new.items y ≡ (b == y || is_in sets a y)) → (x y : ℕ)
    → IsTrue (is_in (set sets a new) x y) ↔ Contains (pairs ++ (a, b) ∷ []) (x, y)
single_more pairs a b sets new lt known gets =
    is_in_set sets a new (λ x y t. IsTrue t ↔ Contains (pairs ++ (a, b) ∷ []) (x, y)) lt here
    others where
      later : (x y : ℕ) → Contains pairs (x, y) → Contains (pairs ++ (a, b) ∷ []) (x, y)
      later x y there = first_last pairs (a, b) (x, y) (contains_later pairs (a, b) (x, y) there)

      here : (y : ℕ) → IsTrue (has new.items y) ↔ Contains (pairs ++ (a, b) ∷ []) (a, y)
      here y = (
        λ t. told (either_true _ _ (sym (gets y) ∙ t)),
        λ there. gets y
            ∙ held (contains_cases pairs (a, b) (a, y) (last_first pairs (a, b) (a, y) there)),
      )
        where
          told : ((b == y) ≡ true) ⊎ (is_in sets a y ≡ true)
              → Contains (pairs ++ (a, b) ∷ []) (a, y)
          told (inl t) =
              first_last pairs (a, b) (a, y)
              (0, omega arith, ap (λ (n : ℕ). (a, n)) (eqb-true b y t))
          told (inr t) = later a y ((known a y).0 t)

          held : (◌≡◌ {A = ℕ × ℕ} (a, b) (a, y)) ⊎ Contains pairs (a, y)
              → (b == y || is_in sets a y) ≡ true
          held (inl is) = true_left _ _ (eq-eqb b y (ap (λ (p : ℕ × ℕ). p.1) is))
          held (inr there) = true_right _ _ ((known a y).1 there)

      others : (x y : ℕ) → x ≢ a → IsTrue (is_in sets x y) ↔ Contains (pairs ++ (a, b) ∷ []) (x, y)
      others x y n = (
        λ t. later x y ((known x y).0 t),
        λ there.
            held (contains_cases pairs (a, b) (x, y) (last_first pairs (a, b) (x, y) there)),
      )
        where
          held : (◌≡◌ {A = ℕ × ℕ} (a, b) (x, y)) ⊎ Contains pairs (x, y) → is_in sets x y ≡ true
          held (inl is) = absurd (n (sym (ap (λ (p : ℕ × ℕ). p.0) is)))
          held (inr there) = (known x y).1 there
