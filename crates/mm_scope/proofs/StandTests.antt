-- Tests of what scopes hold agree with those of the context that it stands for.
use Rattle.std.proofs.Common.{◌≡◌, ℕ, Bool, true, false, List, [], ◌∷◌, map, refl, ap, sym, ◌∙◌}
use Rattle.std.proofs.Common.{is_some, is_none}
use Rattle.std.specs.Prelude.{not, ◌&&◌, ◌||◌, nat_eq, slice_get, slice_index, Option, Some, None}
use Rattle.std.specs.Prelude.{if◌then◌else◌}
use Rattle.std.specs.List.{list_any, list_all}
use Rattle.std.proofs.lemmas.Bool.{eqb-true}
use Rattle.mm_text.specs.Bytes.{Token}
use Rattle.mm_text.specs.Labels.{is_label}
use Rattle.mm_database.specs.Frames.{types, floating, essential}
use Rattle.mm_database.specs.Database.{Context}
use Rattle.mm_frame.specs.Numbered.{NumberedHypothesis, IsNaming, named_hypothesis}
use Rattle.mm_database.specs.Validity.{has_type, is_active, is_typed, is_new_label, has_one_label}
use Rattle.mm_frame.specs.PlainFrames.{has_number, types_number}
use Rattle.mm_scope.specs.ScopeState.{ScopeState, symbol_name}
use Rattle.mm_scope.specs.StateTests.{is_number, types_in, is_active_number, is_typed_in}
use Rattle.mm_scope.specs.StateTests.{name_number, number_in, is_in, is_active_in, with_number}
use Rattle.mm_scope.specs.StateTests.{numbers_in, constant_in, constant_named, label_in}
use Rattle.mm_scope.specs.StateTests.{names_active, redeclares_variable, redeclares_constant}
use Rattle.mm_scope.specs.Standing.{names_constant, names_variable, names_label, SymbolStands}
use Rattle.mm_scope.specs.Standing.{NamesSymbols, StandsUnder, Stands}
use Rattle.mm_frame.specs.declared.names.Name.{Name}
use Rattle.mm_frame.specs.declared.names.Name.TheVariants.{Constant, Variable, Hypothesis}
use Rattle.mm_frame.specs.declared.names.Name.TheVariants.{Assertion}
use Rattle.mm_scope.specs.declared.scopes.Need.{Need}
use Rattle.mm_scope.specs.declared.scopes.Need.TheVariants as need
use Rattle.mm_scope.proofs.Namings.{AreDistinct, naming_of, naming_of-IsNaming}
use Rattle.mm_scope.proofs.Namings.{naming_of-NamesSymbols, tested, found-at}

number_of_name : Name → ℕ
number_of_name (Constant n) = n
number_of_name (Variable n) = n
number_of_name (Hypothesis i) = i
number_of_name (Assertion i) = i

same-number : (a b : Bool) (n m : ℕ) → symbol_name a n ≡ symbol_name b m → n ≡ m
same-number true true n m e = cc
same-number true false n m e = absurd (cc)
same-number false true n m e = absurd (cc)
same-number false false n m e = cc

pub distinct : (h : ScopeState) (c : Context) → Stands h c → AreDistinct h.symbols
distinct h c w n m s r e f same =
    let both : Some (symbol_name s.is_variable n) ≡ Some (symbol_name r.is_variable m) =
    sym (w.named n s e) ∙ ap h.names same ∙ w.named m r f in
    same-number s.is_variable r.is_variable n m cc

-- under the naming of its symbols
pub by-naming : (h : ScopeState) (c : Context) → Stands h c → StandsUnder (naming_of h.symbols) h c
by-naming h c w =
    w.under (naming_of h.symbols) (naming_of-IsNaming h.symbols (distinct h c w))
    (naming_of-NamesSymbols h.symbols)

pub scope_state-active : (h : ScopeState) (c : Context) → Stands h c → (n : ℕ)
    → has_number h.variables n ≡ is_active_number h n
scope_state-active h c w n =
    found-at (λ m. nat_eq m n) h.variables (slice_index h.places n)
    (λ i v e t. ap (slice_index h.places) (sym (eqb-true v n t)) ∙ w.placed i v e)
    ∙ look (slice_get h.variables (slice_index h.places n))
  where
    look : (o : Option ℕ) → tested (λ m. nat_eq m n) o ≡ is_number n o
    look None = refl
    look (Some m) = refl

types-placed : (h : ScopeState) (c : Context) → Stands h c → (n i : ℕ) (x : NumberedHypothesis)
    → slice_get h.hypotheses i ≡ Some x → types_number n x ≡ true → slice_index h.types n ≡ i
types-placed h c w n i (floating l k v) e t =
    ap (slice_index h.types) (sym (eqb-true v n t)) ∙ w.typed i l k v e
types-placed h c w n i (essential l s) e t = absurd (cc)

pub scope_state-typed : (h : ScopeState) (c : Context) → Stands h c → (n : ℕ)
    → list_any (types_number n) h.hypotheses ≡ is_typed_in h n
scope_state-typed h c w n =
    found-at (types_number n) h.hypotheses (slice_index h.types n) (types-placed h c w n)
    ∙ look (slice_get h.hypotheses (slice_index h.types n))
  where
    look : (o : Option NumberedHypothesis) → tested (types_number n) o ≡ types_in n o
    look None = refl
    look (Some x) = refl

types-named : (name : ℕ → Token) → IsNaming name → (v : ℕ) (hs : List NumberedHypothesis)
    → list_any (types (name v)) (map (named_hypothesis name) hs) ≡ list_any (types_number v) hs
types-named name naming v [] = refl
types-named name naming v (floating l k u ∷ hs) =
    ap (λ b. b || list_any (types (name v)) (map (named_hypothesis name) hs)) (naming u v)
    ∙ ap (λ b. nat_eq u v || b) (types-named name naming v hs)
types-named name naming v (essential l s ∷ hs) = types-named name naming v hs

-- a variable by its token and its number

pub token-named : (h : ScopeState) (t : Token) (n : ℕ) (b : Bool) (name : ℕ → Token)
    → NamesSymbols name h.symbols
    → slice_get h.symbols n ≡ Some (record { token = t; is_variable = b }) → name n ≡ t
token-named h t n b name names is = names n (record { token = t; is_variable = b }) is

pub variable-active : (h : ScopeState) (c : Context) → Stands h c → (t : Token) (n : ℕ)
    → slice_get h.symbols n ≡ Some (record { token = t; is_variable = true })
    → c.scope.variables t ≡ is_active_number h n
variable-active h c w t n is =
    let ν = naming_of h.symbols in
    let named : ν n ≡ t = token-named h t n true ν (naming_of-NamesSymbols h.symbols) is in
    ap c.scope.variables (sym named) ∙ (by-naming h c w).scope.active n ∙ scope_state-active h c w n

pub variable-typed : (h : ScopeState) (c : Context) → Stands h c → (t : Token) (n : ℕ)
    → slice_get h.symbols n ≡ Some (record { token = t; is_variable = true })
    → has_type c t ≡ is_typed_in h n
variable-typed h c w t n is =
    let ν = naming_of h.symbols in
    let named : ν n ≡ t = token-named h t n true ν (naming_of-NamesSymbols h.symbols) is in
    ap (has_type c) (sym named)
    ∙ ap (list_any (types (ν n))) ((by-naming h c w).scope.typed)
    ∙ types-named ν (naming_of-IsNaming h.symbols (distinct h c w)) n h.hypotheses
    ∙ scope_state-typed h c w n

pub not-active : (h : ScopeState) (c : Context) → Stands h c → (t : Token)
    → names_variable (h.names t) ≡ false → c.scope.variables t ≡ false
not-active h c w t none = (by-naming h c w).scope.only t (w.variables t ∙ none)

is_some-number : (b : Bool) (n : ℕ) → is_some (if b then Some n else None) ≡ b
is_some-number true n = refl
is_some-number false n = refl

-- the three tests

pub test-variable : (h : ScopeState) (c : Context) → Stands h c → (t : Token)
    → c.scope.variables t ≡ is_some (number_in h need.Variable t)
test-variable h c w t = go (h.names t) refl (w.numbered t)
  where
    go : (o : Option Name) → h.names t ≡ o → SymbolStands h.symbols t o
        → c.scope.variables t ≡ is_some (name_number h need.Variable o)
    go None is stands = not-active h c w t (ap names_variable is)
    go (Some (Constant n)) is stands = not-active h c w t (ap names_variable is)
    go (Some (Variable n)) is stands =
        variable-active h c w t n stands ∙ sym (is_some-number (is_active_number h n) n)
    go (Some (Hypothesis i)) is stands = not-active h c w t (ap names_variable is)
    go (Some (Assertion i)) is stands = not-active h c w t (ap names_variable is)

or-both : (a b x y : Bool) → a ≡ x → b ≡ y → (a || b) ≡ (x || y)
or-both a b x y e f = rw (e, f) refl

pub test-active : (h : ScopeState) (c : Context) → Stands h c → (t : Token)
    → is_active c t ≡ is_active_in h t
test-active h c w t = go (h.names t) refl (w.numbered t)
  where
    go : (o : Option Name) → h.names t ≡ o → SymbolStands h.symbols t o
        → is_active c t ≡ is_some (name_number h need.Active o)
    go None is stands =
        or-both _ _ false false (w.constants t ∙ ap names_constant is)
        (not-active h c w t (ap names_variable is))
    go (Some (Constant n)) is stands =
        or-both _ _ true false (w.constants t ∙ ap names_constant is)
        (not-active h c w t (ap names_variable is))
    go (Some (Variable n)) is stands =
        or-both _ _ false (is_active_number h n) (w.constants t ∙ ap names_constant is)
        (variable-active h c w t n stands) ∙ sym (is_some-number (is_active_number h n) n)
    go (Some (Hypothesis i)) is stands =
        or-both _ _ false false (w.constants t ∙ ap names_constant is)
        (not-active h c w t (ap names_variable is))
    go (Some (Assertion i)) is stands =
        or-both _ _ false false (w.constants t ∙ ap names_constant is)
        (not-active h c w t (ap names_variable is))

typed-by : (a b d x y z : Bool) → a ≡ x → b ≡ y → d ≡ z → (a || (b && d)) ≡ (x || (y && z))
typed-by a b d x y z e f g = rw (e, f, g) refl

pub test-typed : (h : ScopeState) (c : Context) → Stands h c → (t : Token)
    → is_typed c t ≡ is_some (number_in h need.Typed t)
test-typed h c w t = go (h.names t) refl (w.numbered t)
  where
    go : (o : Option Name) → h.names t ≡ o → SymbolStands h.symbols t o
        → is_typed c t ≡ is_some (name_number h need.Typed o)
    go None is stands =
        typed-by _ _ (has_type c t) false false (has_type c t)
        (w.constants t ∙ ap names_constant is) (not-active h c w t (ap names_variable is)) refl
    go (Some (Constant n)) is stands =
        typed-by _ _ (has_type c t) true false (has_type c t) (w.constants t ∙ ap names_constant is)
        (not-active h c w t (ap names_variable is)) refl
    go (Some (Variable n)) is stands =
        typed-by _ _ _ false (is_active_number h n) (is_typed_in h n)
        (w.constants t ∙ ap names_constant is) (variable-active h c w t n stands)
        (variable-typed h c w t n stands)
        ∙ sym (is_some-number (is_active_number h n && is_typed_in h n) n)
    go (Some (Hypothesis i)) is stands =
        typed-by _ _ (has_type c t) false false (has_type c t)
        (w.constants t ∙ ap names_constant is) (not-active h c w t (ap names_variable is)) refl
    go (Some (Assertion i)) is stands =
        typed-by _ _ (has_type c t) false false (has_type c t)
        (w.constants t ∙ ap names_constant is) (not-active h c w t (ap names_variable is)) refl

-- constants, labels, names that are taken

pub test-constant : (h : ScopeState) (c : Context) → Stands h c → (t : Token)
    → c.constants t ≡ is_some (constant_in h t)
test-constant h c w t = w.constants t ∙ go (h.names t)
  where
    go : (o : Option Name) → names_constant o ≡ is_some (constant_named o)
    go None = refl
    go (Some (Constant n)) = refl
    go (Some (Variable n)) = refl
    go (Some (Hypothesis i)) = refl
    go (Some (Assertion i)) = refl

taken : (a b d x y z : Bool) → a ≡ x → b ≡ y → d ≡ z → (a || (b || d)) ≡ (x || (y || z))
taken a b d x y z e f g = rw (e, f, g) refl

pub test-named : (h : ScopeState) (c : Context) → Stands h c → (t : Token)
    → (c.constants t || (c.variables t || c.labels t)) ≡ redeclares_constant h t
test-named h c w t = taken _ _ _ _ _ _ (w.constants t) (w.variables t) (w.labels t) ∙ go (h.names t)
  where
    go : (o : Option Name) → (names_constant o || (names_variable o || names_label o)) ≡ is_some o
    go None = refl
    go (Some (Constant n)) = refl
    go (Some (Variable n)) = refl
    go (Some (Hypothesis i)) = refl
    go (Some (Assertion i)) = refl

pub test-taken : (h : ScopeState) (c : Context) → Stands h c → (t : Token)
    → (c.constants t || (c.scope.variables t || c.labels t)) ≡ redeclares_variable h t
test-taken h c w t = go (h.names t) refl (w.numbered t)
  where
    go : (o : Option Name) → h.names t ≡ o → SymbolStands h.symbols t o
        → (c.constants t || (c.scope.variables t || c.labels t)) ≡ names_active h o
    go None is stands =
        taken _ _ _ false false false (w.constants t ∙ ap names_constant is)
        (not-active h c w t (ap names_variable is)) (w.labels t ∙ ap names_label is)
    go (Some (Constant n)) is stands =
        taken _ _ _ true false false (w.constants t ∙ ap names_constant is)
        (not-active h c w t (ap names_variable is)) (w.labels t ∙ ap names_label is)
    go (Some (Variable n)) is stands =
        taken _ _ _ false (is_active_number h n) false (w.constants t ∙ ap names_constant is)
        (variable-active h c w t n stands) (w.labels t ∙ ap names_label is)
        ∙ or-false (is_active_number h n)
      where
        or-false : (b : Bool) → (b || false) ≡ b
        or-false true = refl
        or-false false = refl
    go (Some (Hypothesis i)) is stands =
        taken _ _ _ false false true (w.constants t ∙ ap names_constant is)
        (not-active h c w t (ap names_variable is)) (w.labels t ∙ ap names_label is)
    go (Some (Assertion i)) is stands =
        taken _ _ _ false false true (w.constants t ∙ ap names_constant is)
        (not-active h c w t (ap names_variable is)) (w.labels t ∙ ap names_label is)

new-label : (spelt a b d x y z : Bool) → a ≡ x → b ≡ y → d ≡ z
    → (spelt && (not a && (not b && not d))) ≡ (spelt && (not x && (not y && not z)))
new-label spelt a b d x y z e f g = rw (e, f, g) refl

test-label : (h : ScopeState) (c : Context) → Stands h c → (t : Token)
    → is_new_label c t ≡ (is_label t && is_none (h.names t))
test-label h c w t = new-label (is_label t) _ _ _ _ _ _ (w.labels t) (w.constants t) (w.variables t)
    ∙ ap (λ b. is_label t && b) (go (h.names t))
  where
    go : (o : Option Name)
        → (not (names_label o) && (not (names_constant o) && not (names_variable o))) ≡ is_none o
    go None = refl
    go (Some (Constant n)) = refl
    go (Some (Variable n)) = refl
    go (Some (Hypothesis i)) = refl
    go (Some (Assertion i)) = refl

is_some-label : (b : Bool) (t : Token) → is_some (if b then Some t else None) ≡ b
is_some-label true t = refl
is_some-label false t = refl

pub test-labels : (h : ScopeState) (c : Context) → Stands h c → (ls : List Token)
    → has_one_label c ls ≡ is_some (label_in h ls)
test-labels h c w [] = refl
test-labels h c w (l ∷ []) =
    test-label h c w l ∙ sym (is_some-label (is_label l && is_none (h.names l)) l)
test-labels h c w (l ∷ (m ∷ ls)) = refl

-- lists of symbols

pub list_all-same : {X : Type 0} (f g : X → Bool) → ((x : X) → f x ≡ g x) → (xs : List X)
    → list_all f xs ≡ list_all g xs
list_all-same f g same [] = refl
list_all-same f g same (x ∷ xs) =
    ap (λ b. b && list_all f xs) (same x) ∙ ap (λ b. g x && b) (list_all-same f g same xs)

pub list_any-same : {X : Type 0} (f g : X → Bool) → ((x : X) → f x ≡ g x) → (xs : List X)
    → list_any f xs ≡ list_any g xs
list_any-same f g same [] = refl
list_any-same f g same (x ∷ xs) =
    ap (λ b. b || list_any f xs) (same x) ∙ ap (λ b. g x || b) (list_any-same f g same xs)

pub all-numbers : (h : ScopeState) (need : Need) (ts : List Token)
    → list_all (is_in h need) ts ≡ is_some (numbers_in h need ts)
all-numbers h need [] = refl
all-numbers h need (t ∷ ts) = go (number_in h need t) (numbers_in h need ts) (all-numbers h need ts)
  where
    go : (o : Option ℕ) (os : Option (List ℕ)) → list_all (is_in h need) ts ≡ is_some os
        → (is_some o && list_all (is_in h need) ts) ≡ is_some (with_number o os)
    go None os rest = refl
    go (Some n) None rest = rest
    go (Some n) (Some ns) rest = rest
