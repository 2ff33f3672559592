-- Images that are filed by their texts.
use Rattle.std.proofs.Common.{◌≡◌, ◌⊎◌, inl, inr, ℕ, ◌+◌, suc, List, [], ◌∷◌, ◌++◌, length, Bool, true}
use Rattle.std.proofs.Common.{false, cond, Option, Some, None, option_map, refl, sym, ap, ◌∙◌, subst}
use Rattle.std.proofs.Common.{arith, append-nil}
use Rattle.std.specs.Prelude.{Contains, slice_get, IsTrue, ◌↔◌, bytes_eq, if◌then◌else◌, is_none}
use Rattle.std.specs.List.{position_from}
use Rattle.std.specs.Str.{IsUtf8}
use Rattle.std.proofs.lemmas.Bool.{false≢true}
use Rattle.std.proofs.lemmas.List.Elements.{Contains-append_left, Contains-append_right}
use Rattle.std.proofs.lemmas.List.Elements.{Contains-append_cases}
use Rattle.std.proofs.lemmas.Slice.Eq.{bytes_eq-Decides}
use Rattle.mm_text.specs.Bytes.{Token}
use Rattle.mm_text.specs.Written.{written}
use Rattle.ml_pat.specs.Patterns.{Pattern}
use Rattle.mm_proof.specs.Tokens.{pattern_tokens}
use Rattle.ml_image.proofs.ImageLaws.{none_some, some_same}
use Rattle.ml_image.specs.Sentences.{IsImageOf}
use Rattle.pattern_reader.specs.Readings.{AreKept, IsReading}
use Rattle.proof_nodes.proofs.Growing.{slice_get-left, slice_get-seam, slice_get-push}
use Rattle.rule_core.specs.Named.{number_of_name}
use Rattle.rule_core.specs.ProgramView.{theory_of}
use Rattle.rule_core.specs.declared.rules.Program.{Program}
use Rattle.assumed_texts.specs.AssumedTexts.{CanBeAssumed}
use Rattle.assumed_texts.specs.Filing.{image_text, Entries, pattern_at, Finds, AreFiled, Files}
use Rattle.assumed_texts.specs.Filing.{HasWritten}
use Rattle.assumed_texts.specs.Kinds.{IsWritten}
use Rattle.assumed_texts.proofs.AssumedLaws.{lists-kept, reading-kept, written-own}
use Rattle.assumed_texts.proofs.Inversions.{map-some}
use Rattle.assumed_texts.proofs.ListingLaws.{only-one}
use Rattle.assumed_texts.proofs.Reading.{image-read}
use Rattle.assumed_texts.proofs.SmallVariables.{assumes-small}

-- ---- names in a table with one more entry

position-left : {A : Type 0} (f : A → Bool) (i : ℕ) (xs ys : List A) (n : ℕ)
    → position_from f i xs ≡ Some n → position_from f i (xs ++ ys) ≡ Some n
position-left f i [] ys n h = absurd (none_some n h)
position-left {A} f i (x ∷ xs) ys n h = go (f x) h (position-left f (i + 1) xs ys n)
  where
    go : (b : Bool) → cond b (Some i) (position_from f (i + 1) xs) ≡ Some n
        → (position_from f (i + 1) xs ≡ Some n → position_from f (i + 1) (xs ++ ys) ≡ Some n)
        → cond b (Some i) (position_from f (i + 1) (xs ++ ys)) ≡ Some n
    go true here rest = here
    go false there rest = rest there

position-last : {A : Type 0} (f : A → Bool) (i : ℕ) (xs : List A) (y : A) → f y ≡ true
    → position_from f i xs ≡ None → position_from f i (xs ++ y ∷ []) ≡ Some (i + length xs)
position-last f i [] y is none =
    ap (λ (b : Bool). cond b (Some i) None) is
    ∙ ap (λ (n : ℕ). Some n) (let e : i ≡ i + 0 = omega arith in e)
position-last {A} f i (x ∷ xs) y is none =
    go (f x) none (position-last f (i + 1) xs y is)
    ∙ ap (λ (n : ℕ). Some n) (let e : i + 1 + length xs ≡ i + suc (length xs) = omega arith in e)
  where
    go : (b : Bool) → cond b (Some i) (position_from f (i + 1) xs) ≡ None
        → (position_from f (i + 1) xs ≡ None
        → position_from f (i + 1) (xs ++ y ∷ []) ≡ Some (i + 1 + length xs))
        → cond b (Some i) (position_from f (i + 1) (xs ++ y ∷ [])) ≡ Some (i + 1 + length xs)
    go true here rest = absurd (none_some i (sym here))
    go false there rest = rest there

number-left : (table : Entries) (e : List ℕ × Pattern) (name : List ℕ) (n : ℕ)
    → number_of_name table name ≡ Some n → number_of_name (table ++ e ∷ []) name ≡ Some n
number-left table e name n h =
    position-left (λ (x : List ℕ × Pattern). bytes_eq name x.0) 0 table (e ∷ []) n h

number-last : (table : Entries) (name : List ℕ) (p : Pattern)
    → number_of_name table name ≡ None
    → number_of_name (table ++ (name, p) ∷ []) name ≡ Some (length table)
number-last table name p h =
    position-last (λ (x : List ℕ × Pattern). bytes_eq name x.0) 0 table (name, p)
    ((bytes_eq-Decides name name).1 refl) h
    ∙ ap (λ (n : ℕ). Some n) (let e : 0 + length table ≡ length table = omega arith in e)

pattern-left : (table : Entries) (e : List ℕ × Pattern) (n : ℕ) (p : Pattern)
    → pattern_at table n ≡ Some p → pattern_at (table ++ e ∷ []) n ≡ Some p
pattern-left table e n p h =
    let w : (x : List ℕ × Pattern) × ((slice_get table n ≡ Some x) × (p ≡ x.1)) =
    map-some (λ (x : List ℕ × Pattern). x.1) (slice_get table n) p h in
    ap (option_map (λ (x : List ℕ × Pattern). x.1)) (slice_get-left table (e ∷ []) n w.0 w.1.0)
    ∙ ap (λ (q : Pattern). Some q) (sym w.1.1)

-- ---- one more image

filed-left : (names : List Token) (images : List Pattern) (p : Pattern) (table : Entries)
    (others : List Pattern) → AreFiled names images table others → (q : Pattern)
    → Contains images q ⊎ (p ≡ q) → (p ≡ q
    → (IsUtf8 (image_text names q) × Finds table (image_text names q) q) ⊎ Contains others q)
    → (IsUtf8 (image_text names q) × Finds table (image_text names q) q) ⊎ Contains others q
filed-left names images p table others f q (inl has) here = f.listed q has
filed-left names images p table others f q (inr same) here = here same

split-last : (images : List Pattern) (p q : Pattern) → Contains (images ++ p ∷ []) q
    → Contains images q ⊎ (p ≡ q)
split-last images p q has = go (Contains-append_cases images (p ∷ []) q has)
  where
    go : Contains images q ⊎ Contains (p ∷ []) q → Contains images q ⊎ (p ≡ q)
    go (inl h) = inl h
    go (inr h) = inr (only-one p q h)

at-last : (images : List Pattern) (p q : Pattern) → p ≡ q → Contains (images ++ p ∷ []) q
at-last images p q same =
    subst (Contains (images ++ p ∷ [])) same
    (Contains-append_right images (p ∷ []) p (0, omega arith, refl))

-- it is in the table already
pub filed-there : (names : List Token) (p : Pattern) (table : Entries) (others : List Pattern)
    → IsUtf8 (image_text names p) → Finds table (image_text names p) p
    → Files names p table others table others
filed-there names p table others utf8 finds images f = record {
  listed = λ q has.
      filed-left names images p table others f q (split-last images p q has) (λ same.
      inl (subst (λ (r : Pattern).
      IsUtf8 (image_text names r) × Finds table (image_text names r) r) same (utf8, finds)));
  entries = λ n q at. Contains-append_left images (p ∷ []) q (f.entries n q at);
  rest = λ q has. Contains-append_left images (p ∷ []) q (f.rest q has);
}

-- it is one of the others
pub filed-other : (names : List Token) (p : Pattern) (table : Entries) (others : List Pattern)
    → Files names p table others table (others ++ p ∷ [])
filed-other names p table others images f = record {
  listed = λ q has. go q (split-last images p q has);
  entries = λ n q at. Contains-append_left images (p ∷ []) q (f.entries n q at);
  rest = λ q has. back q (split-last others p q has);
}
  where
    old : (q : Pattern)
        → (IsUtf8 (image_text names q) × Finds table (image_text names q) q) ⊎ Contains others q
        → (IsUtf8 (image_text names q) × Finds table (image_text names q) q)
        ⊎ Contains (others ++ p ∷ []) q
    old q (inl h) = inl h
    old q (inr h) = inr (Contains-append_left others (p ∷ []) q h)

    go : (q : Pattern) → Contains images q ⊎ (p ≡ q)
        → (IsUtf8 (image_text names q) × Finds table (image_text names q) q)
        ⊎ Contains (others ++ p ∷ []) q
    go q (inl has) = old q (f.listed q has)
    go q (inr same) = inr (at-last others p q same)

    back : (q : Pattern) → Contains others q ⊎ (p ≡ q) → Contains (images ++ p ∷ []) q
    back q (inl has) = Contains-append_left images (p ∷ []) q (f.rest q has)
    back q (inr same) = at-last images p q same

-- it is a new entry
pub filed-new : (names : List Token) (p : Pattern) (table : Entries) (others : List Pattern)
    (name : List ℕ) → name ≡ image_text names p → IsUtf8 name → number_of_name table name ≡ None
    → Files names p table others (table ++ (name, p) ∷ []) others
filed-new names p table others name is utf8 none images f = record {
  listed = λ q has. go q (split-last images p q has);
  entries = λ n q at. entry n q at;
  rest = λ q has. Contains-append_left images (p ∷ []) q (f.rest q has);
}
  where
    more : Entries
    more = table ++ (name, p) ∷ []

    old : (q : Pattern)
        → (IsUtf8 (image_text names q) × Finds table (image_text names q) q) ⊎ Contains others q
        → (IsUtf8 (image_text names q) × Finds (table ++ (name, p) ∷ []) (image_text names q) q)
        ⊎ Contains others q
    old q (inl (u, (n, found, at))) =
        inl (
          u,
          (
            n,
            number-left table (name, p) (image_text names q) n found,
            pattern-left table (name, p) n q at,
          ),
        )
    old q (inr h) = inr h

    here : Finds (table ++ (name, p) ∷ []) name p
    here = (
      length table,
      number-last table name p none,
      ap (option_map (λ (x : List ℕ × Pattern). x.1)) (slice_get-seam table (name, p) []),
    )

    go : (q : Pattern) → Contains images q ⊎ (p ≡ q)
        → (IsUtf8 (image_text names q) × Finds (table ++ (name, p) ∷ []) (image_text names q) q)
        ⊎ Contains others q
    go q (inl has) = old q (f.listed q has)
    go q (inr same) =
        inl (subst (λ (r : Pattern).
        IsUtf8 (image_text names r) × Finds (table ++ (name, p) ∷ []) (image_text names r) r) same
        (subst (λ (t : List ℕ). IsUtf8 t × Finds (table ++ (name, p) ∷ []) t p) is (utf8, here)))

    placed : (n : ℕ) (q : Pattern) (x : List ℕ × Pattern) → q ≡ x.1
        → (slice_get table n ≡ Some x) ⊎ ((n ≡ length table) × ((name, p) ≡ x))
        → Contains (images ++ p ∷ []) q
    placed n q x same (inl at) =
        Contains-append_left images (p ∷ []) q
        (f.entries n q (ap (option_map (λ (y : List ℕ × Pattern). y.1)) at
        ∙ ap (λ (r : Pattern). Some r) (sym same)))
    placed n q x same (inr at) =
        at-last images p q (ap (λ (y : List ℕ × Pattern). y.1) at.1 ∙ sym same)

    entry : (n : ℕ) (q : Pattern) → pattern_at (table ++ (name, p) ∷ []) n ≡ Some q
        → Contains (images ++ p ∷ []) q
    entry n q at =
        let w : (x : List ℕ × Pattern)
        × ((slice_get (table ++ (name, p) ∷ []) n ≡ Some x) × (q ≡ x.1)) =
        map-some (λ (x : List ℕ × Pattern). x.1) (slice_get (table ++ (name, p) ∷ []) n) q at in
        placed n q w.0 w.1.1 (slice_get-push table (name, p) n w.0 w.1.0)

-- what an insertion has done, of a pattern that was shared
pub filed-inserted : (names : List Token) (p q : Pattern) (table table' : Entries)
    (others : List Pattern) (name held : List ℕ) (added : Bool) → q ≡ p
    → name ≡ image_text names p → IsUtf8 name → held ≡ name
    → added ≡ is_none (number_of_name table held)
    → table' ≡ (if added then table ++ (held, q) ∷ [] else table) → added ≡ true
    → Files names p table others table' others
filed-inserted names p q table table' others name held true shared is utf8 same fresh new was =
    subst (λ (t : Entries). Files names p table others t others)
    (ap (λ (r : Pattern). table ++ (held, r) ∷ []) (sym shared) ∙ sym new)
    (filed-new names p table others held (same ∙ is) (subst IsUtf8 (sym same) utf8)
    (none-there (number_of_name table held) fresh))
  where
    none-there : (o : Option ℕ) → true ≡ is_none o → o ≡ None
    none-there None h = refl
    none-there (Some n) h = absurd (false≢true (sym h))
filed-inserted names p q table table' others name held false shared is utf8 same fresh new was =
    absurd (false≢true was)

pub filed-pushed : (names : List Token) (p q : Pattern) (table : Entries)
    (others others' : List Pattern) → q ≡ p → others' ≡ others ++ q ∷ []
    → Files names p table others table others'
filed-pushed names p q table others others' shared new =
    subst (λ (os : List Pattern). Files names p table others table os)
    (ap (λ (r : Pattern). others ++ r ∷ []) (sym shared) ∙ sym new)
    (filed-other names p table others)

pub filed-kept-out : (names : List Token) (p q r : Pattern) (table table' : Entries)
    (others others' : List Pattern) (held : List ℕ) (added : Bool)
    → table' ≡ (if added then table ++ (held, r) ∷ [] else table) → added ≡ false → q ≡ p
    → others' ≡ others ++ q ∷ [] → Files names p table others table' others'
filed-kept-out names p q r table table' others others' held true new was shared pushed =
    absurd (false≢true (sym was))
filed-kept-out names p q r table table' others others' held false new was shared pushed =
    subst (λ (t : Entries). Files names p table others t others') (sym new)
    (filed-pushed names p q table others others' shared pushed)

pub filed-nothing : (names : List Token) → AreFiled names [] [] []
filed-nothing names = record {
  listed = λ q (i, lt, is). absurd (omega (arith, lt));
  entries = λ n q at. absurd (none_some q at);
  rest = λ q (i, lt, is). absurd (omega (arith, lt));
}

-- ---- looking up

not-found : (table : Entries) (name : List ℕ) (p : Pattern) → None ≡ number_of_name table name
    → Finds table name p → ⊥
not-found table name p none (n, found, at) = none_some n (none ∙ found)

pub finds-none : (table : Entries) (name : List ℕ) (p : Pattern)
    → None ≡ number_of_name table name → IsTrue false ↔ Finds table name p
finds-none table name p none =
    (λ t. absurd (false≢true t), λ finds. absurd (not-found table name p none finds))

no-pattern : (table : Entries) (name : List ℕ) (p : Pattern) (m : ℕ)
    → Some m ≡ number_of_name table name → None ≡ pattern_at table m → Finds table name p → ⊥
no-pattern table name p m is none (n, found, at) =
    none_some p (none ∙ ap (pattern_at table) (some_same m n (is ∙ found)) ∙ at)

pub finds-nothing : (table : Entries) (name : List ℕ) (p : Pattern) (m : ℕ)
    → Some m ≡ number_of_name table name → None ≡ pattern_at table m
    → IsTrue false ↔ Finds table name p
finds-nothing table name p m is none =
    (λ t. absurd (false≢true t), λ finds. absurd (no-pattern table name p m is none finds))

pub finds-same : (table : Entries) (name : List ℕ) (p q : Pattern) (m : ℕ) (b : Bool)
    → Some m ≡ number_of_name table name → Some q ≡ pattern_at table m → IsTrue b ↔ (q ≡ p)
    → IsTrue b ↔ Finds table name p
finds-same table name p q m b is at same = (λ t. forth (same.0 t), λ finds. back finds)
  where
    forth : q ≡ p → Finds table name p
    forth e = (m, sym is, sym at ∙ ap (λ (r : Pattern). Some r) e)

    back : Finds table name p → IsTrue b
    back (n, found, there) =
        same.1 (some_same q p (at ∙ ap (pattern_at table) (some_same m n (is ∙ found)) ∙ there))

-- it is not found in the table, and the others are gone through
pub has-other : (names : List Token) (p : Pattern) (table : Entries) (others : List Pattern)
    (text : List ℕ) (b : Bool) → text ≡ image_text names p
    → (IsUtf8 text × Finds table text p → ⊥) → IsTrue b ↔ Contains others p
    → (images : List Pattern) → AreFiled names images table others → IsTrue b ↔ Contains images p
has-other names p table others text b is none among images f =
    (λ t. f.rest p (among.0 t), λ has. go (f.listed p has))
  where
    go : (IsUtf8 (image_text names p) × Finds table (image_text names p) p) ⊎ Contains others p
        → IsTrue b
    go (inl found) =
        absurd (none (subst (λ (t : List ℕ). IsUtf8 t × Finds table t p) (sym is) found))
    go (inr has) = among.1 has

-- the text of one pattern
pub one-text : (names : List Token) (p : Pattern) (text : List ℕ)
    → text ≡ written (pattern_tokens names p ++ []) → text ≡ image_text names p
one-text names p text is = is ∙ ap written (append-nil (pattern_tokens names p))

-- ---- names may be added

pub written-kept : (program : Program) (old new : List Token) (table : Entries)
    (others : List Pattern) → CanBeAssumed program → AreKept old new
    → HasWritten (theory_of program) old table others
    → HasWritten (theory_of program) new table others
written-kept program old new table others can kept has = record {
  images = has.images;
  lists =
      lists-kept (theory_of program) old new (IsWritten (theory_of program)) has.images kept
      has.lists;
  filed = record {
    listed = λ p there. moved p there (has.filed.listed p there);
    entries = has.filed.entries;
    rest = has.filed.rest;
  };
}
  where
    read : (p : Pattern) → IsImageOf program.sig old (IsWritten (theory_of program)) p
        → IsReading old (pattern_tokens old p) p
    read p (s, h, is) =
        image-read program.sig old (pattern_tokens old p) s p is
        (assumes-small program can s old p (inl (written-own (theory_of program) s h)) is) refl

    same : (p : Pattern) → Contains has.images p → image_text old p ≡ image_text new p
    same p there =
        ap written (reading-kept old new (pattern_tokens old p) p kept.added kept.all
        (read p (has.lists.sound p there))).text

    moved : (p : Pattern) → Contains has.images p
        → (IsUtf8 (image_text old p) × Finds table (image_text old p) p) ⊎ Contains others p
        → (IsUtf8 (image_text new p) × Finds table (image_text new p) p) ⊎ Contains others p
    moved p there (inl found) =
        inl (subst (λ (t : List ℕ). IsUtf8 t × Finds table t p) (same p there) found)
    moved p there (inr other) = inr other
