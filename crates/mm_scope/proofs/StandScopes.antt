-- What becomes active in scopes stands for what becomes active in the context, and blocks for
-- blocks.
use Rattle.std.proofs.Common.{◌≡◌, ℕ, zero, suc, ◌<◌, Bool, true, false, List, [], ◌∷◌, ◌++◌, map}
use Rattle.std.proofs.Common.{length, take, reverse, get_or, set, refl, ap, sym, ◌∙◌, arith, subst}
use Rattle.std.specs.Prelude.{not, ◌&&◌, ◌||◌, nat_eq, slice_get, slice_index, Option, Some, None}
use Rattle.std.specs.Prelude.{bytes_eq, if◌then◌else◌}
use Rattle.std.specs.List.{list_any}
use Rattle.std.proofs.lemmas.Bool.{eq-eqb}
use Rattle.std.proofs.lemmas.List.{get_or-set_same, get_or-set_other, length-set, map-append}
use Rattle.std.proofs.lemmas.List.{reverse-append}
use Rattle.std.proofs.lemmas.Option.{slice_get_within}
use Rattle.std.proofs.lemmas.Bool.Decides.{same_from_decides}
use Rattle.std.proofs.lemmas.Slice.Eq.{bytes_eq-Decides}
use Rattle.mm_text.specs.Bytes.{Token, has_token}
use Rattle.mm_database.specs.Frames.{Hypothesis, floating, essential, label_of}
use Rattle.mm_database.specs.Database.{Block, Context, with_hypothesis, with_apart}
use Rattle.mm_database.specs.Database.{are_different_tokens, with_block_opened}
use Rattle.mm_frame.specs.Numbered.{NumberedHypothesis, IsNaming, named_hypothesis}
use Rattle.mm_frame.specs.PlainFrames.{has_number, in_group, in_groups, types_number}
use Rattle.mm_scope.specs.ScopeState.{ScopeState, symbol, symbol_name}
use Rattle.mm_scope.specs.StateSteps.{Activates, types_with, AddsHypothesis, AddsDisjoint, block_at}
use Rattle.mm_scope.specs.StateSteps.{OpensBlock, ClosesBlock}
use Rattle.mm_scope.specs.Standing.{names_constant, names_variable, names_label, SymbolStands}
use Rattle.mm_scope.specs.Standing.{NamesSymbols, ScopeStands, BlocksStand, StandsUnder, Stands}
use Rattle.mm_frame.specs.declared.names.Name.{Name}
use Rattle.mm_frame.specs.declared.names.Name.TheVariants.{Hypothesis as HypothesisName}
use Rattle.mm_scope.specs.declared.scopes.OpenBlock.{OpenBlock}
use Rattle.mm_frame.proofs.Groups.{list_any-append}
use Rattle.mm_scope.proofs.Namings.{slice_get-take, slice_get-cases}
use Rattle.mm_scope.proofs.StandAdds.{same-list, one-more, longer-front, blocks-longer}
use Rattle.mm_frame.proofs.KnownEntries.{other-name}
use Rattle.mm_scope.proofs.StandAdds.{frame-renamed, set-renamed, set-kept}

-- A variable becomes active.

abbrev pub with_active : Context → Token → Context
with_active c token =
    record c { scope = record c.scope { variables = λ t. c.scope.variables t || bytes_eq token t } }

not-there : (vs : List ℕ) (n : ℕ) (i v : ℕ) → has_number vs n ≡ false → slice_get vs i ≡ Some v
    → v ≡ n → ⊥
not-there [] n i v none is same = cc
not-there (u ∷ vs) n zero v none is same =
    let here : u ≡ n = cc in
    let yes : nat_eq u n ≡ true = eq-eqb u n here in
    let wrong : true ≡ false = ap (λ b. b || has_number vs n) (sym yes) ∙ none in
    cc
not-there (u ∷ vs) n (suc i) v none is same = not-there vs n i v (behind (nat_eq u n) none) is same
  where
    behind : (b : Bool) → (b || has_number vs n) ≡ false → has_number vs n ≡ false
    behind true e = absurd (cc)
    behind false e = e

pub activated : (old : ScopeState) (c : Context) (token : Token) (n : ℕ) (new : ScopeState)
    → Stands old c → slice_get old.symbols n ≡ Some (symbol token true)
    → has_number old.variables n ≡ false → c.variables token ≡ true → Activates old n new
    → Stands new (with_active c token)
activated old c token n new w is none declared adds =
    subst (λ (h : ScopeState). Stands h (with_active c token)) (sym adds) (record {
      constants = w.constants;
      variables = w.variables;
      labels = w.labels;
      numbered = w.numbered;
      named = w.named;
      many_places = length-set old.places n (length old.variables) ∙ w.many_places;
      many_types = w.many_types;
      placed = λ i v e. slice_get-cases old.variables n i v e
          (λ was. get_or-set_other old.places n v (length old.variables) 0
          (not-there old.variables n i v none was) ∙ w.placed i v was)
          (λ last same. ap (λ k. get_or (set old.places n (length old.variables)) k 0) (sym same)
          ∙ get_or-set_same old.places n (length old.variables) 0
          (omega (arith, slice_get_within old.symbols n (symbol token true) is, w.many_places))
          ∙ sym last);
      typed = w.typed;
      labelled = w.labelled;
      under =
          λ name naming names.
          under name naming (names n (symbol token true) is) (w.under name naming names);
    })
  where
    only : (t : Token) → c.variables t ≡ false → c.scope.variables t ≡ false
        → (c.scope.variables t || bytes_eq token t) ≡ false
    only t outside off = go (bytes_eq token t) refl
      where
        go : (b : Bool) → bytes_eq token t ≡ b → (c.scope.variables t || b) ≡ false
        go true e =
            let same : token ≡ t = (bytes_eq-Decides token t).0 e in
            let wrong : true ≡ false = sym declared ∙ ap c.variables same ∙ outside in
            absurd (cc)
        go false e = rw off refl

    under : (name : ℕ → Token) → IsNaming name → name n ≡ token → StandsUnder name old c
        → StandsUnder name (record old {
          variables = old.variables ++ n ∷ [];
          places = set old.places n (length old.variables);
        }) (with_active c token)
    under name naming named u = record {
      scope = record {
        only = λ t outside. only t outside (u.scope.only t outside);
        active =
            λ m. ap (λ b. b || bytes_eq token (name m)) (u.scope.active m)
            ∙ ap (λ (t : Token). has_number old.variables m || bytes_eq t (name m)) (sym named)
            ∙ ap (λ b. has_number old.variables m || b) (naming n m)
            ∙ sym (list_any-append (λ k. nat_eq k m) old.variables n);
        typed = u.scope.typed;
        separate = u.scope.separate;
      };
      blocks =
          blocks-longer name c.variables old.variables _ old.hypotheses old.hypotheses old.disjoint
          old.disjoint (reverse old.blocks) c.blocks (one-more old.variables n)
          (same-list old.hypotheses) (same-list old.disjoint) u.blocks;
      frames = u.frames;
    }

-- A hypothesis becomes active.

pub and-true : (b : Bool) → (b && true) ≡ b
and-true true = refl
and-true false = refl

pub bytes_eq-turned : (a b : Token) → bytes_eq a b ≡ bytes_eq b a
bytes_eq-turned a b =
    let d = bytes_eq-Decides b a in
    same_from_decides _ _ (bytes_eq-Decides a b) (λ e. sym (d.0 e), λ p. d.1 (sym p))

-- the variable that the hypothesis types has no active `$f` yet
abbrev pub MayBeActive : ScopeState → NumberedHypothesis → Type 0
MayBeActive h (floating l k v) =
    (v < length h.types) × (list_any (types_number v) h.hypotheses ≡ false)
MayBeActive h (essential l s) = Unit {0}

length-types : (types : List ℕ) (place : ℕ) (x : NumberedHypothesis)
    → length (types_with types place x) ≡ length types
length-types types place (floating l k v) = length-set types v place
length-types types place (essential l s) = refl

not-typed : (hs : List NumberedHypothesis) (n i : ℕ) (l : Token) (k v : ℕ)
    → list_any (types_number n) hs ≡ false → slice_get hs i ≡ Some (floating l k v) → v ≡ n → ⊥
not-typed [] n i l k v none is same = cc
not-typed (x ∷ hs) n zero l k v none is same =
    let here : x ≡ floating l k v = cc in
    let yes : types_number n x ≡ true = ap (types_number n) here ∙ eq-eqb v n same in
    let wrong : true ≡ false = ap (λ b. b || list_any (types_number n) hs) (sym yes) ∙ none in
    cc
not-typed (x ∷ hs) n (suc i) l k v none is same =
    not-typed hs n i l k v (behind (types_number n x) none) is same
  where
    behind : (b : Bool) → (b || list_any (types_number n) hs) ≡ false
        → list_any (types_number n) hs ≡ false
    behind true e = absurd (cc)
    behind false e = e

types-kept : (h : ScopeState) (c : Context) → Stands h c → (x : NumberedHypothesis)
    → MayBeActive h x → (i : ℕ) (l : Token) (k v : ℕ)
    → slice_get h.hypotheses i ≡ Some (floating l k v)
    → slice_index (types_with h.types (length h.hypotheses) x) v ≡ i
types-kept h c w (floating m j u) (room, none) i l k v is =
    get_or-set_other h.types u v (length h.hypotheses) 0 (not-typed h.hypotheses u i l k v none is)
    ∙ w.typed i l k v is
types-kept h c w (essential m s) may i l k v is = w.typed i l k v is

type-placed : (h : ScopeState) (x : NumberedHypothesis) → MayBeActive h x → (l : Token) (k v : ℕ)
    → x ≡ floating l k v
    → slice_index (types_with h.types (length h.hypotheses) x) v ≡ length h.hypotheses
type-placed h (floating m j u) (room, none) l k v is =
    let same : v ≡ u = cc in
    ap (λ y. get_or (set h.types u (length h.hypotheses)) y 0) same
    ∙ get_or-set_same h.types u (length h.hypotheses) 0 room
type-placed h (essential m s) may l k v is = absurd (cc)

pub hypothesis-added : (old : ScopeState) (c : Context) (x : NumberedHypothesis) (hyp : Hypothesis)
    (new : ScopeState) → Stands old c → old.names (label_of x) ≡ None → MayBeActive old x
    → ((name : ℕ → Token) → NamesSymbols name old.symbols → hyp ≡ named_hypothesis name x)
    → AddsHypothesis old x new → Stands new (with_hypothesis c (label_of x) hyp)
hypothesis-added old c x hyp new w fresh may says adds =
    subst (λ (h : ScopeState). Stands h (with_hypothesis c (label_of x) hyp)) (sym adds.rest)
    (record {
      constants =
          set-kept old.names new.names (label_of x) place names_constant c.constants fresh
          adds.names
          refl refl w.constants;
      variables =
          set-kept old.names new.names (label_of x) place names_variable c.variables fresh
          adds.names
          refl refl w.variables;
      labels =
          λ t. turned (c.labels t) t
          ∙ set-renamed old.names new.names (label_of x) place names_label true c.labels fresh
          adds.names refl refl w.labels t;
      numbered =
          λ t. subst (λ (o : Option Name). SymbolStands old.symbols t o) (sym (adds.names t))
          (numbered t (bytes_eq (label_of x) t));
      named =
          λ m s is. other-name old.names new.names (label_of x) s.token place
          (symbol_name s.is_variable m) fresh adds.names (w.named m s is);
      many_places = w.many_places;
      many_types = length-types old.types (length old.hypotheses) x ∙ w.many_types;
      placed = w.placed;
      typed =
          λ i l k v is. slice_get-cases old.hypotheses x i (floating l k v) is
          (λ was. types-kept old c w x may i l k v was)
          (λ last same. type-placed old x may l k v same ∙ sym last);
      labelled = λ i y is. slice_get-cases old.hypotheses x i y is
          (λ was. other-name old.names new.names (label_of x) (label_of y) place (HypothesisName i)
          fresh adds.names (w.labelled i y was))
          (λ last same. ap (λ (z : NumberedHypothesis). new.names (label_of z)) (sym same) ∙ here
          ∙ ap (λ k. Some (HypothesisName k)) (sym last));
      under = λ name naming names. under name names (w.under name naming names);
    })
  where
    place : Name
    place = HypothesisName (length old.hypotheses)

    turned : (b : Bool) (t : Token)
        → (b || bytes_eq t (label_of x)) ≡ (b || (bytes_eq (label_of x) t && true))
    turned b t =
        ap (λ e. b || e) (bytes_eq-turned t (label_of x) ∙ sym (and-true (bytes_eq (label_of x) t)))

    numbered : (t : Token) (e : Bool)
        → SymbolStands old.symbols t (if e then Some place else old.names t)
    numbered t true = tt
    numbered t false = w.numbered t

    here : new.names (label_of x) ≡ Some place
    here =
        let same : bytes_eq (label_of x) (label_of x) ≡ true =
        (bytes_eq-Decides (label_of x) (label_of x)).1 refl in
        adds.names (label_of x) ∙ rw same refl

    under : (name : ℕ → Token) → NamesSymbols name old.symbols → StandsUnder name old c
        → StandsUnder name (record old {
          names = new.names;
          hypotheses = old.hypotheses ++ x ∷ [];
          types = types_with old.types (length old.hypotheses) x;
        })
        (with_hypothesis c (label_of x) hyp)
    under name names u = record {
      scope = record {
        only = u.scope.only;
        active = u.scope.active;
        typed = ap (λ (hs : List Hypothesis). hs ++ hyp ∷ []) u.scope.typed
            ∙ ap (λ (h : Hypothesis). map (named_hypothesis name) old.hypotheses ++ h ∷ [])
            (says name names)
            ∙ sym (map-append (named_hypothesis name) old.hypotheses (x ∷ []));
        separate = u.scope.separate;
      };
      blocks =
          blocks-longer name c.variables old.variables old.variables old.hypotheses _ old.disjoint
          old.disjoint (reverse old.blocks) c.blocks (same-list old.variables)
          (one-more old.hypotheses x) (same-list old.disjoint) u.blocks;
      frames =
          frame-renamed name old.frames c.frames old.names new.names (label_of x) place fresh
          adds.names (λ o none. none) u.frames;
    }

-- Variables become apart.

pub has_token-named : (name : ℕ → Token) → IsNaming name → (ns : List ℕ) (a : ℕ)
    → has_token (map name ns) (name a) ≡ has_number ns a
has_token-named name naming [] a = refl
has_token-named name naming (n ∷ ns) a =
    ap (λ b. b || has_token (map name ns) (name a)) (naming n a)
    ∙ ap (λ b. nat_eq n a || b) (has_token-named name naming ns a)

different-named : (name : ℕ → Token) → IsNaming name → (ns : List ℕ) (a b : ℕ)
    → are_different_tokens (map name ns) (name a) (name b) ≡ in_group a b ns
different-named name naming ns a b =
    ap (λ x. not x && (has_token (map name ns) (name a) && has_token (map name ns) (name b)))
    (naming a b)
    ∙ ap (λ x. not (nat_eq a b) && (x && has_token (map name ns) (name b)))
    (has_token-named name naming ns a)
    ∙ ap (λ x. not (nat_eq a b) && (has_number ns a && x)) (has_token-named name naming ns b)

pub disjoint-added : (old : ScopeState) (c : Context) (ns : List ℕ) (tokens : List Token)
    (new : ScopeState) → Stands old c
    → ((name : ℕ → Token) → NamesSymbols name old.symbols → map name ns ≡ tokens)
    → AddsDisjoint old ns new
    → Stands new (record c { scope = record c.scope { apart = with_apart c.scope.apart tokens } })
disjoint-added old c ns tokens new w says adds =
    subst (λ (h : ScopeState). Stands h
    (record c { scope = record c.scope { apart = with_apart c.scope.apart tokens } }))
    (sym adds.rest) (record {
      constants = w.constants;
      variables = w.variables;
      labels = w.labels;
      numbered = w.numbered;
      named = w.named;
      many_places = w.many_places;
      many_types = w.many_types;
      placed = w.placed;
      typed = w.typed;
      labelled = w.labelled;
      under = λ name naming names. under name naming (says name names) (w.under name naming names);
    })
  where
    under : (name : ℕ → Token) → IsNaming name → map name ns ≡ tokens → StandsUnder name old c
        → StandsUnder name (record old { disjoint = new.disjoint })
        (record c { scope = record c.scope { apart = with_apart c.scope.apart tokens } })
    under name naming are u = record {
      scope = record {
        only = u.scope.only;
        active = u.scope.active;
        typed = u.scope.typed;
        separate =
            λ a b. ap (λ x. x || are_different_tokens tokens (name a) (name b))
            (u.scope.separate a b)
            ∙ ap (λ (ts : List Token).
            in_groups old.disjoint a b || are_different_tokens ts (name a) (name b))
            (sym are)
            ∙ ap (λ x. in_groups old.disjoint a b || x) (different-named name naming ns a b)
            ∙ sym (adds.groups.pairs a b);
      };
      blocks =
          blocks-longer name c.variables old.variables old.variables old.hypotheses old.hypotheses
          old.disjoint new.disjoint (reverse old.blocks) c.blocks (same-list old.variables)
          (same-list old.hypotheses) (longer-front old.disjoint new.disjoint adds.groups.front)
          u.blocks;
      frames = u.frames;
    }

-- Blocks.

take-all : {X : Type 0} (xs : List X) → take (length xs) xs ≡ xs
take-all [] = refl
take-all (x ∷ xs) = ap (λ ys. x ∷ ys) (take-all xs)

pub block-opened : (old : ScopeState) (c : Context) (at : ℕ) (new : ScopeState) → Stands old c
    → OpensBlock old at new → Stands new (with_block_opened c at)
block-opened old c at new w adds =
    subst (λ (h : ScopeState). Stands h (with_block_opened c at)) (sym adds) (record {
      constants = w.constants;
      variables = w.variables;
      labels = w.labels;
      numbered = w.numbered;
      named = w.named;
      many_places = w.many_places;
      many_types = w.many_types;
      placed = w.placed;
      typed = w.typed;
      labelled = w.labelled;
      under = λ name naming names. under name (w.under name naming names);
    })
  where
    under : (name : ℕ → Token) → StandsUnder name old c
        → StandsUnder name (record old { blocks = old.blocks ++ block_at old at ∷ [] })
        (with_block_opened c at)
    under name u = record {
      scope = u.scope;
      blocks =
          subst (λ (os : List OpenBlock). BlocksStand name c.variables old.variables old.hypotheses
          old.disjoint os (record { at = at; outside = c.scope } ∷ c.blocks))
          (sym (reverse-append old.blocks (block_at old at ∷ []))) (
            refl,
            omega arith,
            omega arith,
            omega arith,
            rw (take-all old.variables, take-all old.hypotheses, take-all old.disjoint) u.scope,
            rw (take-all old.variables, take-all old.hypotheses, take-all old.disjoint) u.blocks,
          );
      frames = u.frames;
    }

-- the lists outside a block, if it is the innermost block
closes-inner : (name : ℕ → Token) (d : Token → Bool) (vs : List ℕ) (hs : List NumberedHypothesis)
    (ds : List (List ℕ)) (outer : List OpenBlock) (o : OpenBlock) (b : Block) (bs : List Block)
    → BlocksStand name d vs hs ds (reverse (outer ++ o ∷ [])) (b ∷ bs)
    → ScopeStands name d (take o.variables vs) (take o.hyps hs) (take o.disjoint ds) b.outside
    × BlocksStand name d (take o.variables vs) (take o.hyps hs) (take o.disjoint ds)
    (reverse outer) bs
closes-inner name d vs hs ds outer o b bs s =
    go (subst (λ (os : List OpenBlock). BlocksStand name d vs hs ds os (b ∷ bs))
    (reverse-append outer (o ∷ [])) s)
  where
    go : BlocksStand name d vs hs ds (o ∷ reverse outer) (b ∷ bs)
        → ScopeStands name d (take o.variables vs) (take o.hyps hs) (take o.disjoint ds) b.outside
        × BlocksStand name d (take o.variables vs) (take o.hyps hs) (take o.disjoint ds)
        (reverse outer) bs
    go (at, v, h, a, scope, rest) = (scope, rest)

pub block-closed : (old : ScopeState) (c : Context) (b : Block) (bs : List Block) (o : OpenBlock)
    (new : ScopeState) → Stands old c → c.blocks ≡ b ∷ bs → ClosesBlock old new (Some o)
    → Stands new (record c { scope = b.outside; blocks = bs })
block-closed old c b bs o new w is closes =
    subst (λ (h : ScopeState). Stands h (record c { scope = b.outside; blocks = bs }))
    (sym closes.1) (record {
      constants = w.constants;
      variables = w.variables;
      labels = w.labels;
      numbered = w.numbered;
      named = w.named;
      many_places = w.many_places;
      many_types = w.many_types;
      placed = λ i v e. w.placed i v (slice_get-take old.variables o.variables i v e);
      typed =
          λ i l k v e. w.typed i l k v (slice_get-take old.hypotheses o.hyps i (floating l k v) e);
      labelled = λ i x e. w.labelled i x (slice_get-take old.hypotheses o.hyps i x e);
      under = λ name naming names. under name (w.under name naming names);
    })
  where
    under : (name : ℕ → Token) → StandsUnder name old c
        → StandsUnder name (record old {
          variables = take o.variables old.variables;
          hypotheses = take o.hyps old.hypotheses;
          disjoint = take o.disjoint old.disjoint;
          blocks = new.blocks;
        }) (record c { scope = b.outside; blocks = bs })
    under name u =
        let inner =
        closes-inner name c.variables old.variables old.hypotheses old.disjoint new.blocks o b
        bs (subst (λ (xs : List Block). BlocksStand name c.variables old.variables
        old.hypotheses old.disjoint (reverse (new.blocks ++ o ∷ [])) xs) is
        (subst (λ (os : List OpenBlock). BlocksStand name c.variables old.variables
        old.hypotheses old.disjoint (reverse os) c.blocks) closes.0 u.blocks)) in
        record { scope = inner.0; blocks = inner.1; frames = u.frames }
