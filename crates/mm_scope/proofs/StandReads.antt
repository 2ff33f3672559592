-- What questions to scopes return, by what the scopes stand for.
use Rattle.std.proofs.Common.{◌≡◌, ℕ, zero, suc, Bool, true, false, List, [], ◌∷◌, ◌++◌, map}
use Rattle.std.proofs.Common.{reverse, refl, ap, sym, ◌∙◌, subst, arith}
use Rattle.std.specs.Prelude.{slice_get, Option, Some, None, option_map, bytes_eq, if◌then◌else◌}
use Rattle.std.proofs.lemmas.Bool.{eqb-true}
use Rattle.std.proofs.lemmas.List.{reverse-append}
use Rattle.std.proofs.lemmas.Slice.Eq.{bytes_eq-Decides}
use Rattle.mm_text.specs.Bytes.{Token}
use Rattle.mm_database.specs.Frames.{Hypothesis, label_of, floating, essential}
use Rattle.mm_database.specs.Database.{Block, Context}
use Rattle.mm_frame.specs.Numbered.{NumberedHypothesis, NumberedFrame, IsNaming, named_hypothesis}
use Rattle.mm_database.specs.Proofs.{hypothesis_of}
use Rattle.mm_database.specs.Validity.{first_open}
use Rattle.mm_scope.specs.ScopeState.{ScopeSymbol, ScopeState, symbol_name}
use Rattle.mm_scope.specs.StateReads.{symbol_is_variable, hypothesis_named, hypothesis_at}
use Rattle.mm_scope.specs.StateReads.{hypothesis_by_name, frame_by_name, frame_named}
use Rattle.mm_scope.specs.Standing.{names_variable, SymbolStands, NamesSymbols, BlocksStand}
use Rattle.mm_scope.specs.Standing.{FrameStands, FrameFound, Stands}
use Rattle.mm_frame.specs.declared.names.Name.{Name}
use Rattle.mm_frame.specs.declared.names.Name.TheVariants.{Constant, Variable}
use Rattle.mm_frame.specs.declared.names.Name.TheVariants.{Hypothesis as HypothesisName, Assertion}
use Rattle.mm_scope.specs.declared.scopes.OpenBlock.{OpenBlock}
use Rattle.mm_scope.proofs.Namings.{naming_of}
use Rattle.mm_scope.proofs.StandTests.{by-naming}
use Rattle.mm_scope.specs.StateTests.{first_block}

-- the number of a symbol

variable-name : (b : Bool) (n : ℕ) → names_variable (Some (symbol_name b n)) ≡ b
variable-name true n = refl
variable-name false n = refl

pub number-variable : (h : ScopeState) (c : Context) (name : ℕ → Token) → Stands h c → IsNaming name
    → NamesSymbols name h.symbols → (n : ℕ)
    → c.variables (name n) ≡ symbol_is_variable (slice_get h.symbols n)
number-variable h c name w naming names n = w.variables (name n) ∙ go (slice_get h.symbols n) refl
  where
    none : (o : Option Name) → h.names (name n) ≡ o → SymbolStands h.symbols (name n) o
        → slice_get h.symbols n ≡ None → names_variable o ≡ false
    none None is stands past = refl
    none (Some (Constant m)) is stands past = refl
    none (Some (Variable m)) is stands past =
        let named : name m ≡ name n =
        names m (record { token = name n; is_variable = true }) stands in
        let same : m ≡ n =
        eqb-true m n (sym (naming m n) ∙ (bytes_eq-Decides (name m) (name n)).1 named) in
        absurd (let bad : None ≡ Some (record { token = name n; is_variable = true }) =
        sym past ∙ ap (slice_get h.symbols) (sym same) ∙ stands in
        let z : ⊥ = cc in z)
    none (Some (HypothesisName i)) is stands past = refl
    none (Some (Assertion i)) is stands past = refl

    go : (o : Option ScopeSymbol) → slice_get h.symbols n ≡ o
        → names_variable (h.names (name n)) ≡ symbol_is_variable o
    go None past = none (h.names (name n)) refl (w.numbered (name n)) past
    go (Some s) is = ap (λ (t : Token). names_variable (h.names t)) (names n s is)
        ∙ ap names_variable (w.named n s is) ∙ variable-name s.is_variable n

-- the first block

last_at : List OpenBlock → Option ℕ
last_at [] = None
last_at (o ∷ []) = Some o.at
last_at (o ∷ (p ∷ os)) = last_at (p ∷ os)

first-open : (name : ℕ → Token) (d : Token → Bool) (vs : List ℕ) (hs : List NumberedHypothesis)
    (ds : List (List ℕ)) (os : List OpenBlock) (bs : List Block)
    → BlocksStand name d vs hs ds os bs → first_open bs ≡ last_at os
unfolding last_at
first-open name d vs hs ds [] [] s = refl
first-open name d vs hs ds [] (b ∷ bs) s = absurd s
first-open name d vs hs ds (o ∷ os) [] s = absurd s
first-open name d vs hs ds (o ∷ []) (b ∷ []) (at, v, h, a, scope, rest) = ap (λ n. Some n) at
first-open name d vs hs ds (o ∷ []) (b ∷ (e ∷ bs)) (at, v, h, a, scope, rest) = absurd rest
first-open name d vs hs ds (o ∷ (p ∷ os)) (b ∷ []) (at, v, h, a, scope, rest) = absurd rest
first-open name d vs hs ds (o ∷ (p ∷ os)) (b ∷ (e ∷ bs)) (at, v, h, a, scope, rest) =
    first-open name d _ _ _ (p ∷ os) (e ∷ bs) rest

last-append : (os : List OpenBlock) (o : OpenBlock) → last_at (os ++ o ∷ []) ≡ Some o.at
unfolding last_at
last-append [] o = refl
last-append (p ∷ []) o = refl
last-append (p ∷ (q ∷ os)) o = last-append (q ∷ os) o

last-reverse : (os : List OpenBlock) → last_at (reverse os) ≡ first_block os
unfolding last_at
last-reverse [] = refl
last-reverse (o ∷ os) = ap last_at (reverse-append (o ∷ []) os) ∙ last-append (reverse os) o

pub first-block : (h : ScopeState) (c : Context) → Stands h c
    → first_open c.blocks ≡ first_block h.blocks
first-block h c w =
    first-open (naming_of h.symbols) c.variables h.variables h.hypotheses h.disjoint
    (reverse h.blocks) c.blocks ((by-naming h c w).blocks) ∙ last-reverse h.blocks

-- the hypothesis with a label

found-none : (name : ℕ → Token) (t : Token) (hs : List NumberedHypothesis)
    → ((i : ℕ) (x : NumberedHypothesis) → slice_get hs i ≡ Some x → label_of x ≡ t → ⊥)
    → hypothesis_of (map (named_hypothesis name) hs) t ≡ None
found-none name t [] none = refl
found-none name t (x ∷ hs) none =
    go (bytes_eq (label_of (named_hypothesis name x)) t) refl
    (found-none name t hs (λ i y e l. none (suc i) y e l))
  where
    label-same : (y : NumberedHypothesis) → label_of (named_hypothesis name y) ≡ label_of y
    label-same (floating l k v) = refl
    label-same (essential l s) = refl

    go : (b : Bool) → bytes_eq (label_of (named_hypothesis name x)) t ≡ b
        → hypothesis_of (map (named_hypothesis name) hs) t ≡ None
        → hypothesis_of (map (named_hypothesis name) (x ∷ hs)) t ≡ None
    go true e rest =
        absurd (none 0 x refl
        (sym (label-same x) ∙ (bytes_eq-Decides (label_of (named_hypothesis name x)) t).0 e))
    go false e rest = rw e rest

pub label-named : (name : ℕ → Token) (y : NumberedHypothesis)
    → label_of (named_hypothesis name y) ≡ label_of y
label-named name (floating l k v) = refl
label-named name (essential l s) = refl

-- finding a label that can only be at one place
found-label : (name : ℕ → Token) (t : Token) (hs : List NumberedHypothesis) (k : ℕ)
    → ((i : ℕ) (x : NumberedHypothesis) → slice_get hs i ≡ Some x → label_of x ≡ t → k ≡ i)
    → hypothesis_of (map (named_hypothesis name) hs) t
    ≡ option_map (named_hypothesis name) (hypothesis_at t (slice_get hs k))
found-label name t [] k only = refl
found-label name t (x ∷ hs) zero only =
    go (bytes_eq (label_of x) t) refl (found-none name t hs
    (λ i y e l. let no : 0 ≡ suc i = only (suc i) y e l in omega (arith, no)))
  where
    go : (b : Bool) → bytes_eq (label_of x) t ≡ b
        → hypothesis_of (map (named_hypothesis name) hs) t ≡ None
        → hypothesis_of (map (named_hypothesis name) (x ∷ hs)) t
        ≡ option_map (named_hypothesis name) (if bytes_eq (label_of x) t then Some x else None)
    go true e rest = rw (label-named name x, e) refl
    go false e rest = rw (label-named name x, e) rest
found-label name t (x ∷ hs) (suc k) only =
    go (bytes_eq (label_of x) t) refl (found-label name t hs k
    (λ i y e l. let one : suc k ≡ suc i = only (suc i) y e l in omega (arith, one)))
  where
    go : (b : Bool) → bytes_eq (label_of x) t ≡ b
        → hypothesis_of (map (named_hypothesis name) hs) t
        ≡ option_map (named_hypothesis name) (hypothesis_at t (slice_get hs k))
        → hypothesis_of (map (named_hypothesis name) (x ∷ hs)) t
        ≡ option_map (named_hypothesis name) (hypothesis_at t (slice_get hs k))
    go true e rest =
        absurd (let no : suc k ≡ 0 = only 0 x refl ((bytes_eq-Decides (label_of x) t).0 e) in
        let z : ⊥ = omega (arith, no) in z)
    go false e rest = rw (label-named name x, e) rest

pub hypothesis-found : (h : ScopeState) (c : Context) (name : ℕ → Token) → Stands h c
    → IsNaming name → NamesSymbols name h.symbols → (t : Token)
    → hypothesis_of c.scope.hypotheses t ≡ option_map (named_hypothesis name) (hypothesis_named h t)
hypothesis-found h c name w naming names t =
    ap (λ (xs : List Hypothesis). hypothesis_of xs t) ((w.under name naming names).scope.typed)
    ∙ go (h.names t) refl
  where
    other : (o : Option Name) → h.names t ≡ o → ((i : ℕ) → o ≡ Some (HypothesisName i) → ⊥)
        → hypothesis_of (map (named_hypothesis name) h.hypotheses) t ≡ None
    other o is differs =
        found-none name t h.hypotheses
        (λ i x e l. differs i (sym is ∙ ap h.names (sym l) ∙ w.labelled i x e))

    go : (o : Option Name) → h.names t ≡ o
        → hypothesis_of (map (named_hypothesis name) h.hypotheses) t
        ≡ option_map (named_hypothesis name) (hypothesis_by_name h t o)
    go None is = other None is (λ i e. cc)
    go (Some (Constant n)) is = other (Some (Constant n)) is (λ i e. cc)
    go (Some (Variable n)) is = other (Some (Variable n)) is (λ i e. cc)
    go (Some (HypothesisName k)) is =
        found-label name t h.hypotheses k (λ i x e l. let same : Some (HypothesisName k) ≡ Some
        (HypothesisName i) =
        sym is ∙ ap h.names (sym l) ∙ w.labelled i x e in
        cc)
    go (Some (Assertion n)) is = other (Some (Assertion n)) is (λ i e. cc)

pub map-twice : {X Y Z : Type 0} (f : X → Y) (g : Y → Z) (o : Option X)
    → option_map g (option_map f o) ≡ option_map (λ x. g (f x)) o
map-twice f g None = refl
map-twice f g (Some x) = refl

-- the frame with a label

pub frame-found : (h : ScopeState) (c : Context) (name : ℕ → Token) → Stands h c → IsNaming name
    → NamesSymbols name h.symbols → (t : Token) (o : Option NumberedFrame) → o ≡ frame_named h t
    → FrameFound name o (c.frames t)
frame-found h c name w naming names t o is =
    subst (λ (p : Option NumberedFrame). FrameFound name p (c.frames t)) (sym is)
    (go (h.names t) ((w.under name naming names).frames t))
  where
    go : (p : Option Name) → FrameStands name h.frames p (c.frames t)
        → FrameFound name (frame_by_name h p) (c.frames t)
    go None stands = stands
    go (Some (Constant n)) stands = stands
    go (Some (Variable n)) stands = stands
    go (Some (HypothesisName i)) stands = stands
    go (Some (Assertion i)) (n, f, at, found, named) =
        subst (λ (q : Option NumberedFrame). FrameFound name q (c.frames t)) (sym at)
        (f, found, named)
