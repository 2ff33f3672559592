-- The frame of an assertion over numbers stands for the one over tokens; adding an assertion.
use Rattle.std.proofs.Common.{◌≡◌, ℕ, Bool, true, false, List, [], ◌∷◌, ◌++◌, map, length, refl, ap}
use Rattle.std.proofs.Common.{sym, ◌∙◌, subst}
use Rattle.std.specs.Prelude.{◌&&◌, ◌||◌, filter, Option, Some, None, bytes_eq, if◌then◌else◌}
use Rattle.std.specs.List.{list_any}
use Rattle.mm_text.specs.Bytes.{Token}
use Rattle.mm_database.specs.Frames.{Hypothesis, Scope, Frame, occurs_in, is_needed, is_mandatory}
use Rattle.mm_database.specs.Frames.{frame_of, floating, essential}
use Rattle.mm_database.specs.Database.{Context, with_frame, with_assertion}
use Rattle.mm_frame.specs.Numbered.{NumberedHypothesis, NumberedFrame, IsNaming, named_hypothesis}
use Rattle.mm_frame.specs.Numbered.{IsNamedFrame}
use Rattle.mm_frame.specs.PlainFrames.{has_number}
use Rattle.mm_scope.specs.ScopeState.{ScopeState, symbol_name}
use Rattle.mm_scope.specs.StateFrames.{IsFrameIn, Statement}
use Rattle.mm_frame.specs.NeededNumbers.{number_stands_in, is_needed_number, is_mandatory_number}
use Rattle.mm_frame.specs.KnownNames.{Renames}
use Rattle.mm_scope.specs.StateSteps.{AddsAssertion}
use Rattle.mm_scope.specs.Standing.{names_constant, names_variable, names_label, SymbolStands}
use Rattle.mm_scope.specs.Standing.{NamesSymbols, ScopeStands, FrameStands, StandsUnder, Stands}
use Rattle.mm_frame.specs.declared.names.Name.{Name}
use Rattle.mm_frame.specs.declared.names.Name.TheVariants.{Constant, Variable}
use Rattle.mm_frame.specs.declared.names.Name.TheVariants.{Hypothesis as HypothesisName, Assertion}
use Rattle.mm_scope.proofs.Namings.{slice_get-last, slice_get-front}
use Rattle.mm_scope.proofs.StandAdds.{set-renamed, set-kept}
use Rattle.mm_frame.proofs.KnownEntries.{other-name}
use Rattle.mm_scope.proofs.StandScopes.{has_token-named, bytes_eq-turned, and-true}

occurs_in-named : (name : ℕ → Token) → IsNaming name → (n : ℕ) (hs : List NumberedHypothesis)
    → list_any (occurs_in (name n)) (map (named_hypothesis name) hs)
    ≡ list_any (number_stands_in n) hs
occurs_in-named name naming n [] = refl
occurs_in-named name naming n (floating l k v ∷ hs) = occurs_in-named name naming n hs
occurs_in-named name naming n (essential l s ∷ hs) =
    ap (λ b. b || list_any (occurs_in (name n)) (map (named_hypothesis name) hs))
    (has_token-named name naming s n)
    ∙ ap (λ b. has_number s n || b) (occurs_in-named name naming n hs)

needed-named : (name : ℕ → Token) → IsNaming name
    → (d : Token → Bool) (vs : List ℕ) (hs : List NumberedHypothesis) (ds : List (List ℕ))
    (scope : Scope) (ns : List ℕ) (n : ℕ) → ScopeStands name d vs hs ds scope
    → is_needed scope (map name ns) (name n) ≡ is_needed_number hs ns n
needed-named name naming d vs hs ds scope ns n s =
    ap (λ b. b || list_any (occurs_in (name n)) scope.hypotheses) (has_token-named name naming ns n)
    ∙ ap (λ (xs : List Hypothesis). has_number ns n || list_any (occurs_in (name n)) xs) s.typed
    ∙ ap (λ b. has_number ns n || b) (occurs_in-named name naming n hs)

filter-map : {X Y : Type 0} (g : X → Y) (p : Y → Bool) (q : X → Bool) → ((x : X) → p (g x) ≡ q x)
    → (xs : List X) → filter p (map g xs) ≡ map g (filter q xs)
filter-map g p q same [] = refl
filter-map g p q same (x ∷ xs) = go (q x) (same x) (filter-map g p q same xs)
  where
    go : (b : Bool) → p (g x) ≡ b → filter p (map g xs) ≡ map g (filter q xs)
        → filter p (map g (x ∷ xs)) ≡ map g (if b then x ∷ filter q xs else filter q xs)
    go true is rest = rw is (ap (λ ys. g x ∷ ys) rest)
    go false is rest = rw is rest

mandatory-named : (name : ℕ → Token) → IsNaming name
    → (d : Token → Bool) (vs : List ℕ) (hs : List NumberedHypothesis) (ds : List (List ℕ))
    (scope : Scope) (ns : List ℕ) → ScopeStands name d vs hs ds scope → (x : NumberedHypothesis)
    → is_mandatory scope (map name ns) (named_hypothesis name x)
    ≡ is_mandatory_number (is_needed_number hs ns) x
mandatory-named name naming d vs hs ds scope ns s (floating l k v) =
    needed-named name naming d vs hs ds scope ns v s
mandatory-named name naming d vs hs ds scope ns s (essential l t) = refl

both-same : (a b e x y z : Bool) → a ≡ x → b ≡ y → e ≡ z → (a && (b && e)) ≡ (x && (y && z))
both-same a b e x y z p q r = rw (p, q, r) refl

pub frame-named : (name : ℕ → Token) → IsNaming name
    → (h : ScopeState) (c : Context) (s : Statement) (f : NumberedFrame) (tokens : List Token)
    → StandsUnder name h c → map name s.symbols ≡ tokens → IsFrameIn h s f
    → IsNamedFrame name f (frame_of c.scope s.label tokens)
frame-named name naming h c s f tokens u are is =
    subst (λ (ts : List Token). IsNamedFrame name f (frame_of c.scope s.label ts)) are (record {
      label = sym is.label;
      hypotheses =
          ap (λ (xs : List Hypothesis). filter (is_mandatory c.scope (map name s.symbols)) xs)
          u.scope.typed
          ∙ filter-map (named_hypothesis name) (is_mandatory c.scope (map name s.symbols))
          (is_mandatory_number (is_needed_number h.hypotheses s.symbols))
          (mandatory-named name naming c.variables h.variables h.hypotheses h.disjoint c.scope
          s.symbols u.scope) h.hypotheses
          ∙ ap (map (named_hypothesis name)) (sym is.hypotheses);
      apart =
          λ a b. both-same _ _ _ _ _ _ (u.scope.separate a b) (needed-named name naming c.variables
          h.variables h.hypotheses h.disjoint c.scope s.symbols a u.scope)
          (needed-named name naming c.variables h.variables h.hypotheses h.disjoint c.scope
          s.symbols b u.scope) ∙ sym (is.apart a b);
      statement = ap (map name) (sym is.statement);
    })

more-frames : (name : ℕ → Token) (frames : List NumberedFrame) (f : NumberedFrame) (o : Option Name)
    (frame : Option Frame) → FrameStands name frames o frame
    → FrameStands name (frames ++ f ∷ []) o frame
more-frames name frames f None frame s = s
more-frames name frames f (Some (Constant n)) frame s = s
more-frames name frames f (Some (Variable n)) frame s = s
more-frames name frames f (Some (HypothesisName i)) frame s = s
more-frames name frames f (Some (Assertion i)) frame (n, g, at, is, named) =
    (n, g, slice_get-front frames f i n at, is, named)

pub assertion-added : (old : ScopeState) (c : Context) (s : Statement) (f : NumberedFrame)
    (tokens : List Token) (new : ScopeState) → Stands old c → old.names s.label ≡ None
    → IsFrameIn old s f
    → ((name : ℕ → Token) → NamesSymbols name old.symbols → map name s.symbols ≡ tokens)
    → AddsAssertion old f new → Stands new (with_assertion c s.label tokens)
assertion-added old c s f tokens new w fresh is says adds =
    subst (λ (h : ScopeState). Stands h (with_assertion c s.label tokens)) (sym adds.rest) (record {
      constants =
          set-kept old.names new.names s.label place names_constant c.constants fresh names refl
          refl
          w.constants;
      variables =
          set-kept old.names new.names s.label place names_variable c.variables fresh names refl
          refl
          w.variables;
      labels =
          λ t. ap (λ e. c.labels t || e)
          (bytes_eq-turned t s.label ∙ sym (and-true (bytes_eq s.label t)))
          ∙ set-renamed old.names new.names s.label place names_label true c.labels fresh names refl
          refl w.labels t;
      numbered =
          λ t. subst (λ (o : Option Name). SymbolStands old.symbols t o) (sym (names t))
          (numbered t (bytes_eq s.label t));
      named =
          λ m r e.
          other-name old.names new.names s.label r.token place (symbol_name r.is_variable m)
          fresh names (w.named m r e);
      many_places = w.many_places;
      many_types = w.many_types;
      placed = w.placed;
      typed = w.typed;
      labelled =
          λ i y e. other-name old.names new.names s.label _ place (HypothesisName i) fresh names
          (w.labelled i y e);
      under = λ name naming known. under name naming known (w.under name naming known);
    })
  where
    place : Name
    place = Assertion (length old.frames)

    names : Renames old.names s.label place new.names
    names = subst (λ (l : Token). Renames old.names l place new.names) is.label adds.names

    numbered : (t : Token) (e : Bool)
        → SymbolStands old.symbols t (if e then Some place else old.names t)
    numbered t true = tt
    numbered t false = w.numbered t

    under : (name : ℕ → Token) → IsNaming name → NamesSymbols name old.symbols
        → StandsUnder name old c
        → StandsUnder name (record old { names = new.names; frames = old.frames ++ f ∷ [] })
        (with_assertion c s.label tokens)
    under name naming known u = record {
      scope = u.scope;
      blocks = u.blocks;
      frames =
          λ t. subst (λ (o : Option Name). FrameStands name (old.frames ++ f ∷ []) o
          (with_frame c.frames s.label (frame_of c.scope s.label tokens) t)) (sym (names t))
          (subst (λ b. FrameStands name (old.frames ++ f ∷ [])
          (if bytes_eq s.label t then Some place else old.names t)
          (if b then Some (frame_of c.scope s.label tokens) else c.frames t))
          (bytes_eq-turned s.label t) (go t (bytes_eq s.label t)));
    }
      where
        go : (t : Token) (b : Bool)
            → FrameStands name (old.frames ++ f ∷ []) (if b then Some place else old.names t)
            (if b then Some (frame_of c.scope s.label tokens) else c.frames t)
        go t true = (
          f,
          frame_of c.scope s.label tokens,
          slice_get-last old.frames f,
          refl,
          frame-named name naming old c s f tokens u (says name known) is,
        )
        go t false = more-frames name old.frames f (old.names t) (c.frames t) (u.frames t)
