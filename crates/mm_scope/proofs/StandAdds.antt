-- What is added to scopes stands for what is added to the context.
use Rattle.std.proofs.Common.{◌≡◌, ℕ, zero, suc, ◌+◌, ◌≤◌, Bool, true, false, List, [], ◌∷◌, ◌++◌}
use Rattle.std.proofs.Common.{length, take, reverse, get_or, refl, ap, sym, ◌∙◌, arith, subst}
use Rattle.std.specs.Prelude.{not, ◌&&◌, ◌||◌, Option, Some, None, bytes_eq, if◌then◌else◌}
use Rattle.std.proofs.lemmas.List.{take-append-le, take-take, length-take}
use Rattle.std.proofs.lemmas.Slice.Eq.{bytes_eq-Decides}
use Rattle.mm_text.specs.Bytes.{Token}
use Rattle.mm_database.specs.Frames.{Scope, Frame, label_of}
use Rattle.mm_database.specs.Database.{Block, Context}
use Rattle.mm_frame.specs.Numbered.{NumberedHypothesis, NumberedFrame}
use Rattle.mm_scope.specs.ScopeState.{ScopeSymbol, ScopeState, symbol, symbol_name}
use Rattle.mm_frame.specs.KnownNames.{Renames}
use Rattle.mm_frame.proofs.KnownEntries.{other-name}
use Rattle.mm_scope.specs.StateSteps.{AddsSymbol}
use Rattle.mm_scope.specs.Standing.{names_constant, names_variable, names_label, SymbolStands}
use Rattle.mm_scope.specs.Standing.{ScopeStands, BlocksStand, FrameStands, StandsUnder, Stands}
use Rattle.mm_frame.specs.declared.names.Name.{Name}
use Rattle.mm_frame.specs.declared.names.Name.TheVariants.{Constant, Variable}
use Rattle.mm_frame.specs.declared.names.Name.TheVariants.{Hypothesis as HypothesisName, Assertion}
use Rattle.mm_scope.specs.declared.scopes.OpenBlock.{OpenBlock}
use Rattle.mm_scope.proofs.Namings.{slice_get-last, slice_get-front, slice_get-cases}

-- Scopes and blocks with more after them.

pub more-declared : (name : ℕ → Token) (d e : Token → Bool) (vs : List ℕ)
    (hs : List NumberedHypothesis) (ds : List (List ℕ)) (scope : Scope)
    → ((t : Token) → e t ≡ false → d t ≡ false) → ScopeStands name d vs hs ds scope
    → ScopeStands name e vs hs ds scope
more-declared name d e vs hs ds scope less s = record {
  only = λ t none. s.only t (less t none);
  active = s.active;
  typed = s.typed;
  separate = s.separate;
}

pub blocks-declared : (name : ℕ → Token) (d e : Token → Bool) (vs : List ℕ)
    (hs : List NumberedHypothesis) (ds : List (List ℕ)) (os : List OpenBlock) (bs : List Block)
    → ((t : Token) → e t ≡ false → d t ≡ false) → BlocksStand name d vs hs ds os bs
    → BlocksStand name e vs hs ds os bs
blocks-declared name d e vs hs ds [] [] less s = tt
blocks-declared name d e vs hs ds [] (b ∷ bs) less s = absurd s
blocks-declared name d e vs hs ds (o ∷ os) [] less s = absurd s
blocks-declared name d e vs hs ds (o ∷ os) (b ∷ bs) less (at, v, h, a, scope, rest) = (
  at,
  v,
  h,
  a,
  more-declared name d e _ _ _ _ less scope,
  blocks-declared name d e _ _ _ os bs less rest,
)

-- a list that begins with another
pub record Longer {X : Type 0} (xs ys : List X) : Type 0 where
  pub keeps : (k : ℕ) → k ≤ length xs → take k ys ≡ take k xs
  pub more : length xs ≤ length ys

pub same-list : {X : Type 0} (xs : List X) → Longer xs xs
same-list xs = record { keeps = λ k within. refl; more = omega arith }

length-push : {X : Type 0} (xs : List X) (x : X) → length (xs ++ x ∷ []) ≡ length xs + 1
length-push [] x = refl
length-push (y ∷ xs) x = omega (arith, length-push xs x)

pub one-more : {X : Type 0} (xs : List X) (x : X) → Longer xs (xs ++ x ∷ [])
one-more xs x = record {
  keeps = λ k within. take-append-le k xs (x ∷ []) within;
  more = omega (arith, length-push xs x);
}

-- a list that begins with all of another
pub longer-front : {X : Type 0} (xs ys : List X) → take (length xs) ys ≡ xs → Longer xs ys
longer-front xs ys front = record {
  keeps = λ k within. sym (take-take k (length xs) ys within) ∙ ap (take k) front;
  more = omega (arith, length-take (length xs) ys, ap (λ (zs : List _). length zs) front);
}

pub blocks-longer : (name : ℕ → Token) (d : Token → Bool) (vs us : List ℕ)
    (hs gs : List NumberedHypothesis) (ds es : List (List ℕ)) (os : List OpenBlock)
    (bs : List Block) → Longer vs us → Longer hs gs → Longer ds es
    → BlocksStand name d vs hs ds os bs → BlocksStand name d us gs es os bs
blocks-longer name d vs us hs gs ds es [] [] l m n s = tt
blocks-longer name d vs us hs gs ds es [] (b ∷ bs) l m n s = absurd s
blocks-longer name d vs us hs gs ds es (o ∷ os) [] l m n s = absurd s
blocks-longer name d vs us hs gs ds es (o ∷ os) (b ∷ bs) l m n (at, v, h, a, scope, rest) = (
  at,
  omega (arith, l.more),
  omega (arith, m.more),
  omega (arith, n.more),
  rw (l.keeps o.variables v, m.keeps o.hyps h, n.keeps o.disjoint a) scope,
  rw (l.keeps o.variables v, m.keeps o.hyps h, n.keeps o.disjoint a) rest,
)

-- Names.

pub renamed : (old new : Token → Option Name) (token t : Token) (x : Name) → Renames old token x new
    → (bytes_eq token t ≡ true → token ≡ t)
renamed old new token t x names e = (bytes_eq-Decides token t).0 e

-- frames stay if the new name is not that of an assertion
symbol-frame : (name : ℕ → Token) (frames : List NumberedFrame) (o : Option Frame) (b : Bool)
    (n : ℕ) → o ≡ None → FrameStands name frames (Some (symbol_name b n)) o
symbol-frame name frames o true n none = none
symbol-frame name frames o false n none = none

pub frame-renamed : (name : ℕ → Token) (frames : List NumberedFrame) (table : Token → Option Frame)
    (old new : Token → Option Name) (token : Token) (x : Name) → old token ≡ None
    → Renames old token x new → ((o : Option Frame) → o ≡ None → FrameStands name frames (Some x) o)
    → ((t : Token) → FrameStands name frames (old t) (table t)) → (t : Token)
    → FrameStands name frames (new t) (table t)
frame-renamed name frames table old new token x fresh names none stand t =
    subst (λ (p : Option Name). FrameStands name frames p (table t)) (sym (names t))
    (go (bytes_eq token t) refl)
  where
    go : (b : Bool) → bytes_eq token t ≡ b
        → FrameStands name frames (if b then Some x else old t) (table t)
    go true e =
        let same : token ≡ t = (bytes_eq-Decides token t).0 e in
        let was : old t ≡ None = ap old (sym same) ∙ fresh in
        none (table t)
        (subst (λ (p : Option Name). FrameStands name frames p (table t)) was (stand t))
    go false e = stand t

-- Symbols.

with-bit : (test old : Bool) (x : Bool) (o : Option Name) (f : Option Name → Bool) (y : Name)
    → f (Some y) ≡ x → old ≡ f o → f None ≡ false → (test ≡ true → o ≡ None)
    → (old || (test && x)) ≡ f (if test then Some y else o)
with-bit true old x o f y here was none fresh = rw (was, fresh refl, none) (sym here)
with-bit false old x o f y here was none fresh = or-false old ∙ was
  where
    or-false : (b : Bool) → (b || false) ≡ b
    or-false true = refl
    or-false false = refl

-- a token with a new name is added to a set if and only if the name says so
pub set-renamed : (old new : Token → Option Name) (token : Token) (y : Name)
    (f : Option Name → Bool) (x : Bool) (was : Token → Bool) → old token ≡ None
    → Renames old token y new → f (Some y) ≡ x → f None ≡ false → ((t : Token) → was t ≡ f (old t))
    → (t : Token) → (was t || (bytes_eq token t && x)) ≡ f (new t)
set-renamed old new token y f x was fresh names here none had t =
    with-bit (bytes_eq token t) (was t) x (old t) f y here (had t) none
    (λ e. ap old (sym ((bytes_eq-Decides token t).0 e)) ∙ fresh) ∙ ap f (sym (names t))

no-addition : (a b : Bool) → (a || (b && false)) ≡ a
no-addition true true = refl
no-addition true false = refl
no-addition false true = refl
no-addition false false = refl

pub set-kept : (old new : Token → Option Name) (token : Token) (y : Name) (f : Option Name → Bool)
    (was : Token → Bool) → old token ≡ None → Renames old token y new → f (Some y) ≡ false
    → f None ≡ false → ((t : Token) → was t ≡ f (old t)) → (t : Token) → was t ≡ f (new t)
set-kept old new token y f was fresh names here none had t =
    sym (no-addition (was t) (bytes_eq token t))
    ∙ set-renamed old new token y f false was fresh names here none had t

constant-bit : (b : Bool) (n : ℕ) → names_constant (Some (symbol_name b n)) ≡ not b
constant-bit true n = refl
constant-bit false n = refl

variable-bit : (b : Bool) (n : ℕ) → names_variable (Some (symbol_name b n)) ≡ b
variable-bit true n = refl
variable-bit false n = refl

label-bit : (b : Bool) (n : ℕ) → names_label (Some (symbol_name b n)) ≡ false
label-bit true n = refl
label-bit false n = refl

symbol-stands-more : (ss : List ScopeSymbol) (s : ScopeSymbol) (t : Token) (o : Option Name)
    → SymbolStands ss t o → SymbolStands (ss ++ s ∷ []) t o
symbol-stands-more ss s t None stands = tt
symbol-stands-more ss s t (Some (Constant n)) stands = slice_get-front ss s n _ stands
symbol-stands-more ss s t (Some (Variable n)) stands = slice_get-front ss s n _ stands
symbol-stands-more ss s t (Some (HypothesisName i)) stands = tt
symbol-stands-more ss s t (Some (Assertion i)) stands = tt

symbol-stands-new : (ss : List ScopeSymbol) (t : Token) (b : Bool)
    → SymbolStands (ss ++ symbol t b ∷ []) t (Some (symbol_name b (length ss)))
symbol-stands-new ss t true = slice_get-last ss (symbol t true)
symbol-stands-new ss t false = slice_get-last ss (symbol t false)

get_or-zero : (xs : List ℕ) (v : ℕ) → get_or (xs ++ 0 ∷ []) v 0 ≡ get_or xs v 0
get_or-zero [] zero = refl
get_or-zero [] (suc v) = refl
get_or-zero (x ∷ xs) zero = refl
get_or-zero (x ∷ xs) (suc v) = get_or-zero xs v

-- what a context declares of symbols
abbrev pub with_symbol : Context → Token → Bool → Context
with_symbol c token b =
    record c {
      constants = λ t. c.constants t || (bytes_eq token t && not b);
      variables = λ t. c.variables t || (bytes_eq token t && b);
    }

less-declared : (a b : Bool) → (a || b) ≡ false → a ≡ false
less-declared true b e = absurd (cc)
less-declared false b e = refl

pub symbol-added : (old : ScopeState) (c : Context) (token : Token) (b : Bool) (n : ℕ)
    (new : ScopeState) → Stands old c → old.names token ≡ None → AddsSymbol old token b n new
    → Stands new (with_symbol c token b)
symbol-added old c token b n new w fresh adds =
    subst (λ (h : ScopeState). Stands h (with_symbol c token b)) (sym adds.rest) (record {
      constants =
          set-renamed old.names new.names token (symbol_name b n) names_constant (not b) c.constants
          fresh adds.names (constant-bit b n) refl w.constants;
      variables =
          set-renamed old.names new.names token (symbol_name b n) names_variable b c.variables fresh
          adds.names (variable-bit b n) refl w.variables;
      labels =
          set-kept old.names new.names token (symbol_name b n) names_label c.labels fresh adds.names
          (label-bit b n) refl w.labels;
      numbered =
          λ t. subst (λ (o : Option Name). SymbolStands (old.symbols ++ symbol token b ∷ []) t o)
          (sym (adds.names t)) (numbered t (bytes_eq token t) refl);
      named = λ m s is. slice_get-cases old.symbols (symbol token b) m s is
          (λ was. other-name old.names new.names token s.token (symbol_name b n)
          (symbol_name s.is_variable m) fresh adds.names (w.named m s was))
          (λ last same. ap (λ (r : ScopeSymbol). new.names r.token) (sym same) ∙ here
          ∙ ap (λ (r : ScopeSymbol). Some (symbol_name r.is_variable n)) same
          ∙ ap (λ k. Some (symbol_name s.is_variable k)) (adds.number ∙ sym last));
      many_places = length-push old.places 0 ∙ ap (λ k. k + 1) w.many_places
          ∙ sym (length-push old.symbols (symbol token b));
      many_types = length-push old.types 0 ∙ ap (λ k. k + 1) w.many_types
          ∙ sym (length-push old.symbols (symbol token b));
      placed = λ i v is. get_or-zero old.places v ∙ w.placed i v is;
      typed = λ i l k v is. get_or-zero old.types v ∙ w.typed i l k v is;
      labelled =
          λ i x is. other-name old.names new.names token (label_of x) (symbol_name b n)
          (HypothesisName i) fresh adds.names (w.labelled i x is);
      under =
          λ name naming names. under name (w.under name naming
          (λ m s is. names m s (slice_get-front old.symbols (symbol token b) m s is)));
    })
  where
    numbered : (t : Token) (e : Bool) → bytes_eq token t ≡ e
        → SymbolStands (old.symbols ++ symbol token b ∷ []) t
        (if e then Some (symbol_name b n) else old.names t)
    numbered t true e =
        subst (λ (u : Token).
        SymbolStands (old.symbols ++ symbol token b ∷ []) u (Some (symbol_name b n)))
        ((bytes_eq-Decides token t).0 e) (subst
        (λ k. SymbolStands (old.symbols ++ symbol token b ∷ []) token (Some (symbol_name b k)))
        (sym adds.number) (symbol-stands-new old.symbols token b))
    numbered t false e =
        symbol-stands-more old.symbols (symbol token b) t (old.names t) (w.numbered t)

    same-token : bytes_eq token token ≡ true
    same-token = (bytes_eq-Decides token token).1 refl

    here : new.names token ≡ Some (symbol_name b n)
    here = adds.names token ∙ rw same-token refl

    less : (t : Token) → (c.variables t || (bytes_eq token t && b)) ≡ false → c.variables t ≡ false
    less t e = less-declared (c.variables t) (bytes_eq token t && b) e

    under : (name : ℕ → Token) → StandsUnder name old c
        → StandsUnder name (record old {
          names = new.names;
          symbols = old.symbols ++ symbol token b ∷ [];
          places = old.places ++ 0 ∷ [];
          types = old.types ++ 0 ∷ [];
        }) (record c {
          constants =
              λ t. c.constants t || (bytes_eq token t && not b);
          variables = λ t. c.variables t || (bytes_eq token t && b);
        })
    under name u = record {
      scope =
          more-declared name c.variables _ old.variables old.hypotheses old.disjoint c.scope less
          u.scope;
      blocks =
          blocks-declared name c.variables _ old.variables old.hypotheses old.disjoint
          (reverse old.blocks) c.blocks less u.blocks;
      frames =
          frame-renamed name old.frames c.frames old.names new.names token (symbol_name b n) fresh
          adds.names (λ o none. symbol-frame name old.frames o b n none) u.frames;
    }
