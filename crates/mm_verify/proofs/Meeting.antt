-- Texts whose variables were met are kept apart if each two of the variables are.
use Rattle.std.proofs.Common.{◌≡◌, ℕ, zero, suc, ◌+◌, ◌-◌, ◌<◌, ◌≤◌, Bool, true, false, not, List}
use Rattle.std.proofs.Common.{[], ◌∷◌, ◌++◌, length, take, drop, drop-cons, get_or, cond, nat_eq}
use Rattle.std.proofs.Common.{Option, Some, None, refl, ap, ◌∙◌, sym, subst, arith}
use Rattle.std.specs.Prelude.{◌&&◌, ◌||◌, filter, is_some}
use Rattle.std.specs.List.{list_all}
use Rattle.std.specs.Ordering.{nat_cmp}
use Rattle.std.specs.BTreeMap.{get}
use Rattle.std.proofs.lemmas.Bool.{or_left, or_right}
use Rattle.std.proofs.lemmas.List.{take_more}
use Rattle.mm_frame.proofs.Groups.{list_any-append, has_number-filter}
use Rattle.mm_frame.specs.PlainFrames.{has_number}
use Rattle.mm_frame.specs.NumberedSteps.{NumberedPlace}
use Rattle.mm_verify.specs.declared.parts.Part.{Part}
use Rattle.mm_verify.specs.declared.together.Met.{Met}
use Rattle.mm_verify.specs.Places.{symbol_of, place_in}
use Rattle.mm_verify.specs.Filling.{text_for, places_apart, are_parts_apart}
use Rattle.mm_verify.specs.Pairs.{each_pair, HasVariables, is_variable_apart}
use Rattle.mm_verify.specs.Meeting.{AreSeen, MeetsOne, MeetsAll, StandsIn, MeetsText, HaveMet}
use Rattle.mm_verify.specs.Meeting.{Together, AreMet}
use Rattle.mm_verify.proofs.Resolving.{both-true, and-true}
use Rattle.mm_verify.proofs.Spreading.{all-from, eq-from, apart-variables}
use Rattle.mm_verify.proofs.Spreading.{places-texts}

-- lists that are appended

has-append : (xs ys : List ℕ) (n : ℕ)
    → has_number (xs ++ ys) n ≡ (has_number xs n || has_number ys n)
has-append [] ys n = refl
has-append (x ∷ xs) ys n = ap (λ (b : Bool). nat_eq x n || b) (has-append xs ys n)
    ∙ or-first (nat_eq x n) (has_number xs n) (has_number ys n)
  where
    or-first : (a b c : Bool) → (a || (b || c)) ≡ ((a || b) || c)
    or-first true b c = refl
    or-first false b c = refl

append-nil : (xs : List ℕ) → xs ≡ xs ++ []
append-nil [] = refl
append-nil (x ∷ xs) = ap (λ (ys : List ℕ). x ∷ ys) (append-nil xs)

append-more : (xs ys : List ℕ) (y : ℕ) → (xs ++ ys) ++ y ∷ [] ≡ xs ++ (ys ++ y ∷ [])
append-more [] ys y = refl
append-more (x ∷ xs) ys y = ap (λ (zs : List ℕ). x ∷ zs) (append-more xs ys y)

or-cases : (a b : Bool) (P : Type 0) → (a || b) ≡ true → (a ≡ true → P) → (b ≡ true → P) → P
or-cases true b P h f g = f refl
or-cases false b P h f g = g h

not-both : (b : Bool) → b ≡ true → b ≡ false → ⊥
not-both b holds fails = let wrong : true ≡ false = sym holds ∙ fails in cc

left-false : (a b : Bool) → (a || b) ≡ false → a ≡ false
left-false true b h = h
left-false false b h = refl

-- variables one after another

pub still : {V : Type 0} (b : Bool) (v : V) (o : Option V) → is_some o ≡ true
    → is_some (cond b (Some v) o) ≡ true
still true v o h = refl
still false v o h = h

pub met-one : (old new : Met) (n : ℕ) → AreSeen old → is_some (get nat_cmp old.seen n) ≡ false
    → ((q : ℕ) → is_some (get nat_cmp old.seen q) ≡ true → is_some (get nat_cmp new.seen q) ≡ true)
    → is_some (get nat_cmp new.seen n) ≡ true → new.variables.items ≡ old.variables.items ++ n ∷ []
    → MeetsOne old n new
met-one old new n seen missing kept there all = record {
  seen =
      λ q has. or-cases (has_number old.variables.items q) (nat_eq n q)
      (is_some (get nat_cmp new.seen q) ≡ true)
      (sym (list_any-append (λ m. nat_eq m q) old.variables.items n)
      ∙ ap (λ (xs : List ℕ). has_number xs q) (sym all) ∙ has)
      (λ early. kept q (seen q early))
      (λ same. ap (λ (k : ℕ). is_some (get nat_cmp new.seen k)) (sym (eq-from n q same)) ∙ there);
  all = all;
  fresh = go (has_number old.variables.items n) refl;
}
  where
    go : (b : Bool) → has_number old.variables.items n ≡ b → b ≡ false
    go true has = absurd (not-both (is_some (get nat_cmp old.seen n)) (seen n has) missing)
    go false has = refl

pub take-whole : {X : Type 0} (n : ℕ) (xs : List X) → length xs ≤ n → take n xs ≡ xs
take-whole zero [] most = refl
take-whole zero (x ∷ xs) most = absurd (omega (arith, most))
take-whole (suc n) [] most = refl
take-whole (suc n) (x ∷ xs) most =
    ap (λ (ys : List _). x ∷ ys) (take-whole n xs (omega (arith, most)))

pub drop-whole : {X : Type 0} (n : ℕ) (xs : List X) → length xs ≤ n → drop n xs ≡ []
drop-whole zero [] most = refl
drop-whole zero (x ∷ xs) most = absurd (omega (arith, most))
drop-whole (suc n) [] most = refl
drop-whole (suc n) (x ∷ xs) most = drop-whole n xs (omega (arith, most))

pub meets-none : (m : Met) → AreSeen m → MeetsAll m [] m
meets-none m seen = record {
  seen = seen;
  all = append-nil m.variables.items;
  fresh = λ n has. absurd (cc);
}

pub meets-more : (old mid new : Met) (list : List ℕ) (i n : ℕ) → i < length list
    → n ≡ get_or list i 0 → MeetsAll old (take i list) mid → MeetsOne mid n new
    → MeetsAll old (take (i + 1) list) new
meets-more old mid new list i n lt is before one = record {
  seen = one.seen;
  all = one.all
      ∙ ap (λ (xs : List ℕ). xs ++ n ∷ []) before.all
      ∙ append-more old.variables.items (take i list) n
      ∙ ap (λ (xs : List ℕ). old.variables.items ++ xs) (sym longer);
  fresh =
      λ m has. or-cases (has_number (take i list) m) (nat_eq n m)
      (has_number old.variables.items m ≡ false)
      (sym (list_any-append (λ x. nat_eq x m) (take i list) n)
      ∙ ap (λ (xs : List ℕ). has_number xs m) (sym longer) ∙ has)
      (λ early. before.fresh m early)
      (λ same. left-false (has_number old.variables.items m) (has_number (take i list) m)
      (sym (has-append old.variables.items (take i list) m)
      ∙ ap (λ (xs : List ℕ). has_number xs m) (sym before.all)
      ∙ ap (has_number mid.variables.items) (sym (eq-from n m same))
      ∙ one.fresh));
}
  where
    longer : take (i + 1) list ≡ take i list ++ n ∷ []
    longer = take_more list i 0 lt ∙ ap (λ (x : ℕ). take i list ++ x ∷ []) (sym is)

-- the text of a part

module _ (p : NumberedPlace) (entries : List (List ℕ)) where
  pub meets-nothing : (m : Met) (o : Option ℕ) → AreSeen m → o ≡ None
      → MeetsText p (text_for entries o) m m
  meets-nothing m o seen none = record {
    seen = seen;
    keeps = λ n has. has;
    all = λ n stands. absurd (empty n stands);
    fresh = λ n stands. absurd (empty n stands);
  }
    where
      empty : (n : ℕ) → StandsIn p (text_for entries o) n → ⊥
      empty n stands =
          not-both (has_number [] n)
          (ap (λ (q : Option ℕ). has_number (text_for entries q) n) (sym none) ∙ stands.0) refl

  pub meets-text : (old new : Met) (text list : List ℕ) → HasVariables p text list
      → MeetsAll old list new → MeetsText p text old new
  meets-text old new text list has all = record {
    seen = all.seen;
    keeps =
        λ n had. ap (λ (xs : List ℕ). has_number xs n) all.all
        ∙ has-append old.variables.items list n
        ∙ or_left (has_number old.variables.items n) (has_number list n) had;
    all =
        λ n stands. ap (λ (xs : List ℕ). has_number xs n) all.all
        ∙ has-append old.variables.items list n
        ∙ or_right (has_number old.variables.items n) (has_number list n) (listed n stands);
    fresh = λ n stands. all.fresh n (listed n stands);
  }
    where
      listed : (n : ℕ) → StandsIn p text n → has_number list n ≡ true
      listed n stands = has n ∙ and-true (has_number text n) (p.is_variable n) stands.0 stands.1

  kept-met : (old new : Met)
      → ((n : ℕ) → has_number old.variables.items n ≡ true
      → has_number new.variables.items n ≡ true) → (parts : List Part)
      → HaveMet p entries old parts → HaveMet p entries new parts
  kept-met old new keeps [] met = met
  kept-met old new keeps (q ∷ parts) met =
      (λ n stands. keeps n (met.0 n stands), kept-met old new keeps parts met.1)

  fewer-together : (old new : Met)
      → ((n : ℕ) → has_number old.variables.items n ≡ true
      → has_number new.variables.items n ≡ true) → Together p new → Together p old
  fewer-together old new keeps together a b pair =
      let one =
      both-true (not (nat_eq a b))
      (has_number old.variables.items a && has_number old.variables.items b) pair in
      let two =
      both-true (has_number old.variables.items a) (has_number old.variables.items b) one.1 in
      together a b (and-true (not (nat_eq a b))
      (has_number new.variables.items a && has_number new.variables.items b) one.0
      (and-true (has_number new.variables.items a) (has_number new.variables.items b)
      (keeps a two.0) (keeps b two.1)))

  abbrev variables_of : List ℕ → List ℕ
  variables_of text = filter p.is_variable text

  has-variables : (text : List ℕ) → HasVariables p text (variables_of text)
  has-variables text n = has_number-filter p.is_variable text n

  -- two texts; the variables of only one of them were met before
  two-apart : (old new : Met) (q r : Part) → MeetsText p (text_for entries (place_in q)) old new
      → ((n : ℕ) → StandsIn p (text_for entries (place_in r)) n
      → has_number old.variables.items n ≡ true) → Together p new
      → are_parts_apart p entries q r ≡ true
  two-apart old new q r meets met together =
      or_right (nat_eq (symbol_of q) (symbol_of r))
      (places_apart p entries (place_in q) (place_in r))
      (places-texts p entries (place_in q) (place_in r)
      ∙ apart-variables p xs ys (variables_of xs) (variables_of ys) (has-variables xs)
      (has-variables ys)
      ∙ all-from (λ x. list_all (is_variable_apart p x) (variables_of ys)) (variables_of xs)
      (λ x hx.
      all-from (is_variable_apart p x) (variables_of ys) (λ y hy.
      one x y (both-true (has_number xs x) (p.is_variable x) (sym (has-variables xs x) ∙ hx))
      (both-true (has_number ys y) (p.is_variable y) (sym (has-variables ys y) ∙ hy)))))
    where
      xs : List ℕ
      xs = text_for entries (place_in q)

      ys : List ℕ
      ys = text_for entries (place_in r)

      one : (x y : ℕ) → StandsIn p xs x → StandsIn p ys y → is_variable_apart p x y ≡ true
      one x y sx sy = go (nat_eq x y) refl
        where
          differ : nat_eq x y ≡ true → ⊥
          differ same =
              not-both (has_number old.variables.items y) (met y sy)
              (ap (has_number old.variables.items) (sym (eq-from x y same)) ∙ meets.fresh x sx)

          go : (b : Bool) → nat_eq x y ≡ b → (not b && p.apart x y) ≡ true
          go true same = absurd (differ same)
          go false other =
              together x y (and-true (not (nat_eq x y))
              (has_number new.variables.items x && has_number new.variables.items y)
              (ap not other)
              (and-true (has_number new.variables.items x) (has_number new.variables.items y)
              (meets.all x sx) (meets.keeps y (met y sy))))

  row-apart : (old new : Met) (q : Part) (parts : List Part)
      → MeetsText p (text_for entries (place_in q)) old new → HaveMet p entries old parts
      → Together p new → list_all (are_parts_apart p entries q) parts ≡ true
  row-apart old new q [] meets met together = refl
  row-apart old new q (r ∷ parts) meets met together =
      and-true (are_parts_apart p entries q r) (list_all (are_parts_apart p entries q) parts)
      (two-apart old new q r meets met.0 together) (row-apart old new q parts meets met.1 together)

  pub none-met : (m : Met) (group : List Part) (at : ℕ) → m.variables.items ≡ [] → length group ≤ at
      → AreMet p entries m (drop at group)
  none-met m group at nothing all =
      subst (λ (ps : List Part). AreMet p entries m ps) (sym (drop-whole at group all)) (record {
        seen =
            λ n has. absurd (not-both (has_number [] n)
            (ap (λ (xs : List ℕ). has_number xs n) (sym nothing) ∙ has) refl);
        met = tt;
        apart = λ together. refl;
      })

  pub more-met : (old new : Met) (group : List Part) (at : ℕ) (q d : Part) → 0 < at
      → at ≤ length group → q ≡ get_or group (at - 1) d → AreMet p entries old (drop at group)
      → MeetsText p (text_for entries (place_in q)) old new
      → AreMet p entries new (drop (at - 1) group)
  more-met old new group at q d some within is are meets =
      subst (λ (ps : List Part). AreMet p entries new ps) (sym behind) (record {
        seen = meets.seen;
        met = (meets.all, kept-met old new meets.keeps (drop at group) are.met);
        apart =
            λ together. and-true (list_all (are_parts_apart p entries q) (drop at group))
            (each_pair (are_parts_apart p entries) (drop at group))
            (row-apart old new q (drop at group) meets are.met together)
            (are.apart (fewer-together old new meets.keeps together));
      })
    where
      behind : drop (at - 1) group ≡ q ∷ drop at group
      behind =
          let low : at - 1 < length group = omega (arith, some, within) in
          let next : suc (at - 1) ≡ at = omega (arith, some) in
          drop-cons group (at - 1) d low ∙ ap (λ n. get_or group (at - 1) d ∷ drop n group) next
          ∙ ap (λ (r : Part). r ∷ drop at group) (sym is)
