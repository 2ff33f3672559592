-- The tokens of a frame of numbers: those of the symbols with these numbers.
use Rattle.std.proofs.Common.{◌≡◌, ℕ, ◌≤◌, zero, suc, Bool, true, false, cond, map, List, [], ◌∷◌}
use Rattle.std.proofs.Common.{length, nat_eq}
use Rattle.std.proofs.Common.{refl, ap, sym, ◌∙◌, subst, filter}
use Rattle.std.proofs.Common.{arith}
use Rattle.std.specs.Prelude.{Option, Some, None, slice_get, ◌||◌, bytes_eq}
use Rattle.std.specs.List.{list_any}
use Rattle.std.specs.Cmp.{both_ways}
use Rattle.std.proofs.lemmas.Bool.{eqb-true, eq-eqb, ltb-true, ltb-false, lt-ltb, le-ltb}
use Rattle.std.proofs.lemmas.Option.{slice_get_within}
use Rattle.std.specs.Prelude.{nat_lt}
use Rattle.std.proofs.lemmas.Slice.Eq.{bytes_eq-Decides}
use Rattle.mm_text.specs.Bytes.{Token, has_token}
use Rattle.mm_database.specs.Frames.{Hypothesis, floating, essential, Frame, Scope, frame_of}
use Rattle.mm_database.specs.Frames.{is_mandatory, is_needed, occurs_in, types}
use Rattle.mm_database.specs.Orderly.{TypeOnce}
use Rattle.std.proofs.lemmas.Bool.{false≢true}
use Rattle.mm_database.specs.Database.{Context}
use Rattle.mm_frame.specs.Numbered.{NumberedHypothesis, NumberedFrame, IsNaming, named_hypothesis}
use Rattle.mm_frame.specs.Numbered.{IsNamedFrame}
use Rattle.mm_frame.specs.PlainFrames.{in_groups}
use Rattle.mm_scope.specs.ScopeState.{ScopeSymbol, ScopeState}
use Rattle.mm_scope.specs.Standing.{NamesSymbols, Stands}
use Rattle.mm_scope.specs.StandingLaws.{SymbolsNamed}
use Rattle.std.proofs.Math.Bool.{and-true}
use Rattle.mm_check.proofs.RowLaws.{typed_some}
use Rattle.mm_scope.proofs.StandSteps.{naming_exists}
use Rattle.mm_justify.specs.Justifying.{premises_in, typecode_in}
use Rattle.mm_check.specs.Stated.{PlainTyped, PlainStated, symbol_token, token_or_none}
use Rattle.mm_check.specs.Stated.{all_typed_by, premises_by, stated_by}
use Rattle.mm_check.specs.RowTexts.{type_among, occurs}
use Rattle.mm_check.specs.StatedFrames.{IsStated}

-- ---- a number with the same token under each naming is that of a symbol

-- numbers from this one on are moved by one
shifted : ℕ → ℕ → ℕ
shifted from m = cond (nat_lt m from) m (suc m)

shifted-same : (from a b : ℕ) → shifted from a ≡ shifted from b → a ≡ b
unfolding shifted
shifted-same from a b same = go (nat_lt a from) (nat_lt b from) refl refl same
  where
    go : (s t : Bool) → nat_lt a from ≡ s → nat_lt b from ≡ t
        → cond s a (suc a) ≡ cond t b (suc b) → a ≡ b
    go true true e f h = h
    go true false e f h =
        absurd (omega (arith, ltb-true a from e, ltb-false b from f, h))
    go false true e f h =
        absurd (omega (arith, ltb-false a from e, ltb-true b from f, h))
    go false false e f h = omega (arith, h)

shifted-IsNaming : (name : ℕ → Token) (from : ℕ) → IsNaming name
    → IsNaming (λ m. name (shifted from m))
shifted-IsNaming name from naming a b =
    naming (shifted from a) (shifted from b)
    ∙ both_ways (nat_eq (shifted from a) (shifted from b)) (nat_eq a b)
    (λ h. eq-eqb a b (shifted-same from a b (eqb-true (shifted from a) (shifted from b) h)))
    (λ h. eq-eqb (shifted from a) (shifted from b) (ap (shifted from) (eqb-true a b h)))

past_all : (symbols : List ScopeSymbol) (n : ℕ) → slice_get symbols n ≡ None → length symbols ≤ n
past_all [] n none = omega arith
past_all (s ∷ symbols) zero none = let never : ⊥ = cc in absurd never
past_all (s ∷ symbols) (suc n) none = omega (arith, past_all symbols n none)

shifted-NamesSymbols : (name : ℕ → Token) (symbols : List ScopeSymbol) → NamesSymbols name symbols
    → NamesSymbols (λ m. name (shifted (length symbols) m)) symbols
unfolding shifted
shifted-NamesSymbols name symbols names m s there =
    let within : nat_lt m (length symbols) ≡ true =
    lt-ltb m (length symbols) (slice_get_within symbols m s there) in
    ap (λ (b : Bool). name (cond b m (suc m))) within ∙ names m s there

abbrev pub Always : List ScopeSymbol → ((ℕ → Token) → Type 0) → Type 0
Always symbols Fact = (name : ℕ → Token) → IsNaming name → NamesSymbols name symbols → Fact name

pub number_named : (symbols : List ScopeSymbol) (n : ℕ) (t : Token)
    → Always symbols (λ name. t ≡ name n) → Always symbols (λ name. t ≡ symbol_token symbols n)
unfolding shifted
number_named symbols n t always name naming names = go (slice_get symbols n) refl
  where
    go : (o : Option ScopeSymbol) → slice_get symbols n ≡ o → t
        ≡ token_or_none (slice_get symbols n)
    go (Some s) at = always name naming names ∙ names n s at ∙ sym (ap token_or_none at)
    go None at =
        let past : nat_lt n (length symbols) ≡ false =
        le-ltb n (length symbols) (past_all symbols n at) in
        let moved : t ≡ name (suc n) =
        always (λ m. name (shifted (length symbols) m))
        (shifted-IsNaming name (length symbols) naming) (shifted-NamesSymbols name symbols names)
        ∙ ap (λ (b : Bool). name (cond b n (suc n))) past in
        let same : nat_eq n (suc n) ≡ true =
        sym (naming n (suc n)) ∙ (bytes_eq-Decides (name n) (name (suc n))).1
        (sym (always name naming names) ∙ moved) in
        absurd (omega (arith, eqb-true n (suc n) same))

-- ---- lists of numbers

first_of : List Token → Token
first_of [] = []
first_of (t ∷ ts) = t

rest_of : List Token → List Token
rest_of [] = []
rest_of (t ∷ ts) = ts

pub numbers_named : (symbols : List ScopeSymbol) (ns : List ℕ) (ts : List Token)
    → Always symbols (λ name. ts ≡ map name ns)
    → Always symbols (λ name. ts ≡ map (symbol_token symbols) ns)
unfolding first_of rest_of
numbers_named symbols [] ts always name naming names = always name naming names
numbers_named symbols (n ∷ ns) [] always name naming names =
    let never : ⊥ = let h = always name naming names in cc in absurd never
numbers_named symbols (n ∷ ns) (t ∷ ts) always name naming names =
    let head : t ≡ symbol_token symbols n =
    number_named symbols n t
    (λ name naming names. ap first_of (always name naming names)) name naming names in
    let tail : ts ≡ map (symbol_token symbols) ns =
    numbers_named symbols ns ts
    (λ name naming names. ap rest_of (always name naming names)) name naming names in
    rw (head, tail) refl

-- ---- hypotheses

variable_of : Hypothesis → Token
variable_of (floating label typecode variable) = variable
variable_of (essential label statement) = []

typecode_of : Hypothesis → Token
typecode_of (floating label typecode variable) = typecode
typecode_of (essential label statement) = []

premise_of : Hypothesis → List Token
premise_of (floating label typecode variable) = []
premise_of (essential label statement) = statement

head_of : Hypothesis → List Hypothesis → Hypothesis
head_of h [] = h
head_of h (x ∷ xs) = x

tail_of : List Hypothesis → List Hypothesis
tail_of [] = []
tail_of (x ∷ xs) = xs

-- what hypotheses of tokens give, if they are those of the numbers under each naming
pub record AreRead (name : ℕ → Token) (symbols : List ScopeSymbol) (hs : List NumberedHypothesis)
    (fs : List Hypothesis) : Type 0 where
  pub premises : premises_in fs ≡ premises_by symbols hs
  pub types : (v : Token) → typecode_in fs v ≡ type_among (all_typed_by symbols hs) v
  pub named : (k : ℕ) (t : PlainTyped) → slice_get (all_typed_by symbols hs) k ≡ Some t
      → t.variable ≡ name t.number
  pub first : TypeOnce fs → (k : ℕ) (t : PlainTyped)
      → slice_get (all_typed_by symbols hs) k ≡ Some t
      → type_among (all_typed_by symbols hs) t.variable ≡ Some t.typecode

none_first : (k : ℕ) (t : PlainTyped) → slice_get [] k ≡ Some t
    → type_among [] t.variable ≡ Some t.typecode
none_first k t there = let never : ⊥ = cc in absurd never

typed_any : (fs : List Hypothesis) (v x : Token) → typecode_in fs v ≡ Some x
    → list_any (types v) fs ≡ true
typed_any [] v x is = let never : ⊥ = cc in absurd never
typed_any (essential l st ∷ fs) v x is = typed_any fs v x is
typed_any (floating l k w ∷ fs) v x is = go (bytes_eq w v) refl (typed_any fs v x)
  where
    go : (b : Bool) → bytes_eq w v ≡ b
        → (typecode_in fs v ≡ Some x → list_any (types v) fs ≡ true)
        → list_any (types v) (floating l k w ∷ fs) ≡ true
    go true same rest = rw same refl
    go false other rest =
        let later : typecode_in fs v ≡ Some x = rw other at is in rw other (rest later)

not_typed : (fs : List Hypothesis) (v : Token) → list_any (types v) fs ≡ false
    → typecode_in fs v ≡ None
not_typed fs v none = go (typecode_in fs v) refl
  where
    go : (o : Option Token) → typecode_in fs v ≡ o → typecode_in fs v ≡ None
    go None is = is
    go (Some x) is = absurd (false≢true (sym none ∙ typed_any fs v x is))

-- the first entry of a list, and those after it, if none of these has its variable
more_first : (first : PlainTyped) (ts : List PlainTyped)
    → (type_among ts first.variable ≡ None)
    → ((k : ℕ) (t : PlainTyped) → slice_get ts k ≡ Some t
    → type_among ts t.variable ≡ Some t.typecode) → (k : ℕ) (t : PlainTyped)
    → slice_get (first ∷ ts) k ≡ Some t → type_among (first ∷ ts) t.variable ≡ Some t.typecode
more_first first ts none rest zero t there =
    let same : first ≡ t = cc in
    let here : bytes_eq t.variable t.variable ≡ true =
    (bytes_eq-Decides t.variable t.variable).1 refl in
    rw same (rw here refl)
more_first first ts none rest (suc k) t there =
    go (bytes_eq first.variable t.variable) refl
  where
    go : (b : Bool) → bytes_eq first.variable t.variable ≡ b
        → type_among (first ∷ ts) t.variable ≡ Some t.typecode
    go true same =
        let variable : first.variable ≡ t.variable =
        (bytes_eq-Decides first.variable t.variable).0 same in
        let missing : type_among ts t.variable ≡ None =
        ap (type_among ts) (sym variable) ∙ none in
        let typed : type_among ts t.variable ≡ Some t.typecode = rest k t there in
        let never : ⊥ = cc in absurd never
    go false other = rw other (rest k t there)

none_named : (name : ℕ → Token) (k : ℕ) (t : PlainTyped) → slice_get [] k ≡ Some t
    → t.variable ≡ name t.number
none_named name k t there = let never : ⊥ = cc in absurd never

some_same : {X : Type 0} {x y : X} → Some x ≡ Some y → x ≡ y
some_same h = cc

more_named : (name : ℕ → Token) (first : PlainTyped) (ts : List PlainTyped)
    → first.variable ≡ name first.number
    → ((k : ℕ) (t : PlainTyped) → slice_get ts k ≡ Some t → t.variable ≡ name t.number)
    → (k : ℕ) (t : PlainTyped) → slice_get (first ∷ ts) k ≡ Some t → t.variable ≡ name t.number
more_named name first ts here rest zero t there =
    let same : first ≡ t = some_same there in
    subst (λ (t : PlainTyped). t.variable ≡ name t.number) same here
more_named name first ts here rest (suc k) t there = rest k t there

pub hypotheses_read : (symbols : List ScopeSymbol) (hs : List NumberedHypothesis)
    (fs : List Hypothesis) → Always symbols (λ name. fs ≡ map (named_hypothesis name) hs)
    → (name : ℕ → Token) → IsNaming name → NamesSymbols name symbols → AreRead name symbols hs fs
unfolding variable_of typecode_of premise_of head_of tail_of
hypotheses_read symbols [] fs always name naming names =
    let same : fs ≡ [] = always name naming names in
    record {
      premises = ap premises_in same;
      types = λ v. ap (λ (xs : List Hypothesis). typecode_in xs v) same;
      named = none_named name;
      first = λ once k t there. none_first k t there;
    }
hypotheses_read symbols (h ∷ hs) [] always name naming names =
    let never : ⊥ = let h = always name naming names in cc in absurd never
hypotheses_read symbols (floating l k v ∷ hs) (floating l' k' v' ∷ fs) always name naming names =
    let rest : AreRead name symbols hs fs =
    hypotheses_read symbols hs fs
    (λ name naming names. ap tail_of (always name naming names)) name naming names in
    let head : Always symbols (λ name. floating l' k' v' ≡ floating l (name k) (name v)) =
    λ name naming names. ap (head_of (essential [] [])) (always name naming names) in
    let tv : v' ≡ symbol_token symbols v =
    number_named symbols v v' (λ name naming names. ap variable_of (head name naming names)) name
    naming names in
    let tk : k' ≡ symbol_token symbols k =
    number_named symbols k k' (λ name naming names. ap typecode_of (head name naming names)) name
    naming names in
    let first : PlainTyped =
    record {
      number = v;
      variable = symbol_token symbols v;
      typecode = symbol_token symbols k;
    } in
    record {
      premises = rest.premises;
      types = λ x. rw (tv, tk, rest.types x) refl;
      named =
          more_named name first (all_typed_by symbols hs)
          (sym tv ∙ ap variable_of (head name naming names)) rest.named;
      first = λ once. more_first first (all_typed_by symbols hs)
          (sym (rest.types (symbol_token symbols v))
          ∙ ap (typecode_in fs) (sym tv) ∙ not_typed fs v' once.0) (rest.first once.1);
    }
hypotheses_read symbols (floating l k v ∷ hs) (essential l' st' ∷ fs) always name naming names =
    let never : ⊥ = let h = always name naming names in cc in absurd never
hypotheses_read symbols (essential l st ∷ hs) (floating l' k' v' ∷ fs) always name naming names =
    let never : ⊥ = let h = always name naming names in cc in absurd never
hypotheses_read symbols (essential l st ∷ hs) (essential l' st' ∷ fs) always name naming names =
    let rest : AreRead name symbols hs fs =
    hypotheses_read symbols hs fs
    (λ name naming names. ap tail_of (always name naming names)) name naming names in
    let said : st' ≡ map (symbol_token symbols) st =
    numbers_named symbols st st' (λ name naming names.
    ap (λ (xs : List Hypothesis). premise_of (head_of (essential [] []) xs))
    (always name naming names)) name naming names in
    record {
      premises = rw (said, rest.premises) refl;
      types = rest.types;
      named = rest.named;
      first = rest.first;
    }

-- ---- frames of a scope

-- the `$e`s of a frame are all that are active
premises_kept : (scope : Scope) (words : List Token) (hs : List Hypothesis)
    → premises_in (filter (is_mandatory scope words) hs) ≡ premises_in hs
premises_kept scope words [] = refl
premises_kept scope words (essential l st ∷ hs) =
    ap (λ (xs : List (List Token)). st ∷ xs) (premises_kept scope words hs)
premises_kept scope words (floating l k v ∷ hs) =
    go (is_needed scope words v) refl ∙ premises_kept scope words hs
  where
    go : (b : Bool) → is_needed scope words v ≡ b
        → premises_in (filter (is_mandatory scope words) (floating l k v ∷ hs))
        ≡ premises_in (filter (is_mandatory scope words) hs)
    go true is = rw is refl
    go false is = rw is refl

-- a variable that a frame types is needed
typed_needed : (scope : Scope) (words : List Token) (hs : List Hypothesis) (v x : Token)
    → typecode_in (filter (is_mandatory scope words) hs) v ≡ Some x
    → is_needed scope words v ≡ true
typed_needed scope words [] v x is = let never : ⊥ = cc in absurd never
typed_needed scope words (essential l st ∷ hs) v x is = typed_needed scope words hs v x is
typed_needed scope words (floating l k w ∷ hs) v x is =
    go (is_needed scope words w) refl (typed_needed scope words hs v x)
  where
    here : (b : Bool) → bytes_eq w v ≡ b → is_needed scope words w ≡ true
        → (typecode_in (filter (is_mandatory scope words) hs) v ≡ Some x
        → is_needed scope words v ≡ true) → is_needed scope words v ≡ true
    here true same needed rest =
        subst (λ (t : Token). is_needed scope words t ≡ true) ((bytes_eq-Decides w v).0 same) needed
    here false other needed rest =
        let later : typecode_in (filter (is_mandatory scope words) hs) v ≡ Some x =
        rw (needed, other) at is in rest later

    go : (b : Bool) → is_needed scope words w ≡ b
        → (typecode_in (filter (is_mandatory scope words) hs) v ≡ Some x
        → is_needed scope words v ≡ true) → is_needed scope words v ≡ true
    go true needed rest = here (bytes_eq w v) refl needed rest
    go false other rest =
        let later : typecode_in (filter (is_mandatory scope words) hs) v
        ≡ Some x = rw other at is in
        rest later

-- where a token occurs
occurs_among : (v : Token) (hs : List Hypothesis)
    → list_any (λ (ws : List Token). has_token ws v) (premises_in hs) ≡ list_any (occurs_in v) hs
occurs_among v [] = refl
occurs_among v (floating l k w ∷ hs) = occurs_among v hs
occurs_among v (essential l st ∷ hs) =
    ap (λ (b : Bool). has_token st v || b) (occurs_among v hs)

pub frame_stated : (h : ScopeState) (c : Context) (n : NumberedFrame) (label : Token)
    (words : List Token) → Stands h c
    → Always h.symbols (λ name. IsNamedFrame name n (frame_of c.scope label words))
    → TypeOnce (frame_of c.scope label words).hypotheses
    → IsStated (in_groups h.disjoint) (stated_by h.symbols n) (frame_of c.scope label words)
frame_stated h c n label words stands always once = record {
  name = name;
  naming = known.naming;
  statement = stated;
  numbers = sym stated ∙ (always name known.naming known.names).statement;
  premises = read.premises;
  types = read.types;
  named = read.named;
  first = read.first once;
  occurring = λ k t there. occurs_as t.variable ∙ needed k t there;
  apart = λ k j t u one other. pair k j t u one other;
}
  where
    known : SymbolsNamed h
    known = naming_exists h c stands

    name : ℕ → Token
    name = known.name

    f : Frame
    f = frame_of c.scope label words

    stated : words ≡ map (symbol_token h.symbols) n.statement
    stated =
        numbers_named h.symbols n.statement words
        (λ name naming names. (always name naming names).statement) name known.naming known.names

    read : AreRead name h.symbols n.hypotheses f.hypotheses
    read =
        hypotheses_read h.symbols n.hypotheses f.hypotheses
        (λ name naming names. (always name naming names).hypotheses) name known.naming known.names

    s : PlainStated
    s = stated_by h.symbols n

    needed : (k : ℕ) (t : PlainTyped) → slice_get s.types k ≡ Some t
        → is_needed c.scope words t.variable ≡ true
    needed k t there =
        let typed = typed_some s.types k t there in
        typed_needed c.scope words c.scope.hypotheses t.variable typed.0
        (read.types t.variable ∙ typed.1)

    all_premises : s.premises ≡ premises_in c.scope.hypotheses
    all_premises = sym read.premises ∙ premises_kept c.scope words c.scope.hypotheses

    occurs_as : (v : Token) → occurs s v ≡ is_needed c.scope words v
    occurs_as v =
        ap (λ (ws : List Token). has_token ws v
        || list_any (λ (ws : List Token). has_token ws v) s.premises) (sym stated)
        ∙ ap (λ (b : Bool). has_token words v || b)
        (ap (list_any (λ (ws : List Token). has_token ws v)) all_premises
        ∙ occurs_among v c.scope.hypotheses)

    pair : (k j : ℕ) (t u : PlainTyped) → slice_get s.types k ≡ Some t
        → slice_get s.types j ≡ Some u
        → f.apart t.variable u.variable ≡ in_groups h.disjoint t.number u.number
    pair k j t u one other =
        rw (needed k t one, needed j u other) (and-true (c.scope.apart t.variable u.variable)
        ∙ ap (λ (x : Token). c.scope.apart x u.variable) (read.named k t one)
        ∙ ap (c.scope.apart (name t.number)) (read.named j u other)
        ∙ (stands.under name known.naming known.names).scope.separate t.number u.number)
