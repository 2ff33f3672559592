-- Laws of contexts: how they grow, and what stays true when they do.
use Rattle.std.proofs.Common.{◌≡◌, ℕ, zero, suc, List, [], ◌∷◌, ◌++◌, Some, take, refl, sym, ◌∙◌}
use Rattle.std.proofs.Common.{ap, subst, arith, append-nil, append_assoc, slice_get, inl, inr}
use Rattle.std.specs.Prelude.{Contains, ◌⊎◌}
use Rattle.std.proofs.lemmas.List.Elements.{Contains-append_left, Contains-append_cases}
use Rattle.std.proofs.lemmas.Option.{slice_get_within, get_or_from_slice_get}
use Rattle.ml_pat.specs.Patterns.{Pattern}
use Rattle.ml_kernel.specs.Theorems.{Theorem, own_axiom}
use Rattle.ml_kernel.specs.UsedLeaves.{EachUsed}
use Rattle.ml_kernel.specs.MayCite.{EachCited}
use Rattle.ml_kernel.specs.RenamedAxioms.{IsAxiomAs}
use Rattle.ml_kernel.specs.Renamings.{by_place}
use Rattle.ml_derived.specs.Scopes.{Scope, IsOver, AreAssumed, leaves_of, cites_of}
use Rattle.rule_core.specs.declared.rules.Program.{Program}
use Rattle.rule_core.specs.declared.signature.Signature.{Signature}
use Rattle.rule_core.specs.ProgramView.{theory_of}
use Rattle.ml_image.specs.Sentences.{Sentence, sentence_image, IsImageOf}
use Rattle.ml_image.specs.Gained.{AreOwnTokens, HasGained}
use Rattle.ml_image.proofs.ImageLaws.{gained-nothing, gained_twice, none_some, some_same}
use Rattle.ml_image.proofs.NamingLaws.{gained-sentence}
use Rattle.prove_term.specs.Contexts.{Context, HasContext, StaysIn, IsLemmaIn, IsContext, HasGrown}
use Rattle.prove_term.specs.Contexts.{new_context}
use Rattle.ml_image.specs.Assumed.{IsAssumed}
use Rattle.prove_term.proofs.Renumbering.{renamed_leaves}

-- ---- growing

pub grown_none : (cx : Context) → HasGrown cx cx
grown_none cx = record {
  program = refl;
  names = gained-nothing cx.program.sig cx.names;
  axioms = [];
  more_axioms = sym (append-nil cx.axioms);
  lemmas = [];
  more_lemmas = sym (append-nil cx.lemmas);
}

pub grown_twice : (a b c : Context) → HasGrown a b → HasGrown b c → HasGrown a c
grown_twice a b c h k = record {
  program = k.program ∙ h.program;
  names =
      gained_twice a.program.sig a.names b.names c.names h.names
      (subst (λ (p : Program). HasGained p.sig b.names c.names) h.program k.names);
  axioms = h.axioms ++ k.axioms;
  more_axioms = k.more_axioms ∙ ap (λ (ps : List Pattern). ps ++ k.axioms) h.more_axioms
      ∙ append_assoc a.axioms h.axioms k.axioms;
  lemmas = h.lemmas ++ k.lemmas;
  more_lemmas = k.more_lemmas ∙ ap (λ (ts : List Theorem). ts ++ k.lemmas) h.more_lemmas
      ∙ append_assoc a.lemmas h.lemmas k.lemmas;
}

pub grown_names : (cx : Context) (names : List (List ℕ)) → HasGained cx.program.sig cx.names names
    → HasGrown cx (record cx { names = names })
grown_names cx names gained = record {
  program = refl;
  names = gained;
  axioms = [];
  more_axioms = sym (append-nil cx.axioms);
  lemmas = [];
  more_lemmas = sym (append-nil cx.lemmas);
}

pub grown_axiom : (cx : Context) (p : Pattern)
    → HasGrown cx (record cx { axioms = cx.axioms ++ p ∷ [] })
grown_axiom cx p = record {
  program = refl;
  names = gained-nothing cx.program.sig cx.names;
  axioms = p ∷ [];
  more_axioms = refl;
  lemmas = [];
  more_lemmas = sym (append-nil cx.lemmas);
}

pub grown_lemma : (cx : Context) (t : Theorem)
    → HasGrown cx (record cx { lemmas = cx.lemmas ++ t ∷ [] })
grown_lemma cx t = record {
  program = refl;
  names = gained-nothing cx.program.sig cx.names;
  axioms = [];
  more_axioms = sym (append-nil cx.axioms);
  lemmas = t ∷ [];
  more_lemmas = refl;
}

-- ---- what stays

-- a sentence keeps its image
pub image_grown : (a b : Context) (q : Sentence) (p : Pattern) → HasGrown a b
    → sentence_image a.program.sig a.names q ≡ Some p
    → sentence_image b.program.sig b.names q ≡ Some p
image_grown a b q p g is =
    subst (λ (program : Program). sentence_image program.sig b.names q ≡ Some p) (sym g.program)
    (gained-sentence a.program.sig a.names b.names q g.names p is)

-- a scope that has what the grown context has also has what the old context had
pub has_before : (a b : Context) (s : Scope) → HasGrown a b → HasContext s b → HasContext s a
has_before a b s g has = record {
  images = λ q p is. has.images q p (image_grown a b q p g is);
  objects = has.objects;
  metas = has.metas;
  axioms =
      λ p there. has.axioms p (subst (λ (ps : List Pattern). Contains ps p) (sym g.more_axioms)
      (Contains-append_left a.axioms g.axioms p there));
  lemmas =
      λ t there. has.lemmas t (subst (λ (ts : List Theorem). Contains ts t) (sym g.more_lemmas)
      (Contains-append_left a.lemmas g.lemmas t there));
}

pub stays_grown : (a b : Context) (t : Theorem) → HasGrown a b → StaysIn a t → StaysIn b t
stays_grown a b t g stays = λ s has. stays s (has_before a b s g has)

pub lemma_grown : (a b : Context) (t : Theorem) → HasGrown a b → IsLemmaIn a t → IsLemmaIn b t
lemma_grown a b t g stays = λ s has assumed. stays s (has_before a b s g has) assumed

-- an item keeps its number
pub there_grown : {A : Type 0} (xs ys : List A) (n : ℕ) (x : A) → slice_get xs n ≡ Some x
    → slice_get (xs ++ ys) n ≡ Some x
there_grown [] ys n x h = absurd (none_some x h)
there_grown (z ∷ xs) ys zero x h = h
there_grown (z ∷ xs) ys (suc n) x h = there_grown xs ys n x h

pub axiom_grown : (a b : Context) (n : ℕ) (p : Pattern) → HasGrown a b
    → slice_get a.axioms n ≡ Some p → slice_get b.axioms n ≡ Some p
axiom_grown a b n p g there =
    subst (λ (ps : List Pattern). slice_get ps n ≡ Some p) (sym g.more_axioms)
    (there_grown a.axioms g.axioms n p there)

pub lemma_there_grown : (a b : Context) (n : ℕ) (t : Theorem) → HasGrown a b
    → slice_get a.lemmas n ≡ Some t → slice_get b.lemmas n ≡ Some t
lemma_there_grown a b n t g there =
    subst (λ (ts : List Theorem). slice_get ts n ≡ Some t) (sym g.more_lemmas)
    (there_grown a.lemmas g.lemmas n t there)

-- ---- contexts

nothing_in : {A P : Type 0} (x : A) → Contains [] x → P
nothing_in x h = absurd (omega (arith, h.1))

pub context_new : (program : Program) → IsContext (new_context program)
context_new program = record {
  own = tt;
  axioms = λ p there. nothing_in p there;
  lemmas = λ k t there. absurd (none_some t there);
}

both_own : (sig : Signature) (ts us : List (List ℕ)) → AreOwnTokens sig ts → AreOwnTokens sig us
    → AreOwnTokens sig (ts ++ us)
both_own sig [] us h k = k
both_own sig (t ∷ ts) us h k = (h.0, both_own sig ts us h.1 k)

pub context_gains : (cx : Context) (names : List (List ℕ)) → IsContext cx
    → HasGained cx.program.sig cx.names names → IsContext (record cx { names = names })
context_gains cx names h gained = record {
  own =
      subst (AreOwnTokens cx.program.sig) (sym gained.all)
      (both_own cx.program.sig cx.names gained.gained h.own gained.own);
  axioms = λ p there.
      let known : IsImageOf cx.program.sig cx.names (IsAssumed (theory_of cx.program)) p =
      h.axioms p there in
      (known.0, known.1, gained-sentence cx.program.sig cx.names names known.0 gained p known.2);
  lemmas = λ k t there.
      let before : Context = record cx { lemmas = take k cx.lemmas } in
      lemma_grown before (record before { names = names }) t (grown_names before names gained)
      (h.lemmas k t there);
}

only_one : {A : Type 0} (x y : A) → Contains (x ∷ []) y → x ≡ y
only_one x y (zero, low, is) = is
only_one x y (suc k, low, is) = absurd (omega (arith, low))

pub context_states : (cx : Context) (p : Pattern) → IsContext cx
    → IsImageOf cx.program.sig cx.names (IsAssumed (theory_of cx.program)) p
    → IsContext (record cx { axioms = cx.axioms ++ p ∷ [] })
context_states cx p h image = record {
  own = h.own;
  axioms = λ q there. go q (Contains-append_cases cx.axioms (p ∷ []) q there);
  lemmas = λ k t there.
      let before : Context = record cx { lemmas = take k cx.lemmas } in
      lemma_grown before (record before { axioms = cx.axioms ++ p ∷ [] }) t (grown_axiom before p)
      (h.lemmas k t there);
}
  where
    go : (q : Pattern) → Contains cx.axioms q ⊎ Contains (p ∷ []) q
        → IsImageOf cx.program.sig cx.names (IsAssumed (theory_of cx.program)) q
    go q (inl old) = h.axioms q old
    go q (inr new) =
        subst (IsImageOf cx.program.sig cx.names (IsAssumed (theory_of cx.program)))
        (only_one p q new) image

-- a list with one more item at its end: the item at a place, and the items before it
last_or_before : {A : Type 0} (xs : List A) (x y : A) (k : ℕ) → slice_get (xs ++ x ∷ []) k ≡ Some y
    → ((slice_get xs k ≡ Some y) × (take k (xs ++ x ∷ []) ≡ take k xs))
    ⊎ ((x ≡ y) × (take k (xs ++ x ∷ []) ≡ xs))
last_or_before [] x y zero there = inr (some_same x y there, refl)
last_or_before [] x y (suc k) there = absurd (none_some y there)
last_or_before (z ∷ xs) x y zero there = inl (there, refl)
last_or_before {A} (z ∷ xs) x y (suc k) there = go (last_or_before xs x y k there)
  where
    go : ((slice_get xs k ≡ Some y) × (take k (xs ++ x ∷ []) ≡ take k xs))
        ⊎ ((x ≡ y) × (take k (xs ++ x ∷ []) ≡ xs))
        → ((slice_get xs k ≡ Some y) × (z ∷ take k (xs ++ x ∷ []) ≡ z ∷ take k xs))
        ⊎ ((x ≡ y) × (z ∷ take k (xs ++ x ∷ []) ≡ z ∷ xs))
    go (inl (h, e)) = inl (h, ap (λ (ys : List A). z ∷ ys) e)
    go (inr (h, e)) = inr (h, ap (λ (ys : List A). z ∷ ys) e)

pub context_learns : (cx : Context) (t : Theorem) → IsContext cx → IsLemmaIn cx t
    → IsContext (record cx { lemmas = cx.lemmas ++ t ∷ [] })
context_learns cx t h stays = record {
  own = h.own;
  axioms = h.axioms;
  lemmas = λ k u there. go k u (last_or_before cx.lemmas t u k there);
}
  where
    go : (k : ℕ) (u : Theorem) →
        ((slice_get cx.lemmas k ≡ Some u) × (take k (cx.lemmas ++ t ∷ []) ≡ take k cx.lemmas))
        ⊎ ((t ≡ u) × (take k (cx.lemmas ++ t ∷ []) ≡ cx.lemmas)) →
        IsLemmaIn (record cx { lemmas = take k (cx.lemmas ++ t ∷ []) }) u
    go k u (inl (old, e)) =
        subst (λ (ts : List Theorem). IsLemmaIn (record cx { lemmas = ts }) u) (sym e)
        (h.lemmas k u old)
    go k u (inr (new, e)) =
        subst (λ (ts : List Theorem). IsLemmaIn (record cx { lemmas = ts }) u) (sym e)
        (subst (IsLemmaIn cx) new stays)

-- ---- theorems in a context

none_assumed : (s : Scope) (ps : List Pattern) → ps ≡ [] → AreAssumed s ps
none_assumed s ps none = subst (AreAssumed s) (sym none) (λ p k. nothing_in p k)

pub contains_there : {A : Type 0} (xs : List A) (n : ℕ) (x : A) → slice_get xs n ≡ Some x
    → Contains xs x
contains_there xs n x there =
    (n, slice_get_within xs n x there, get_or_from_slice_get xs n x x there)

-- an axiom of the context as a theorem
pub axiom_stays : (cx : Context) (n : ℕ) (t : Theorem) → IsContext cx
    → slice_get cx.axioms n ≡ Some t.conclusion → t.hypotheses ≡ []
    → t.derivation ≡ own_axiom n t.conclusion [] → StaysIn cx t
axiom_stays cx n t ok there none by = λ s has.
    let known : IsImageOf cx.program.sig cx.names (IsAssumed (theory_of cx.program)) t.conclusion =
    ok.axioms t.conclusion (contains_there cx.axioms n t.conclusion there) in
    record {
      hypotheses = none_assumed s t.hypotheses none;
      conclusion = has.images known.0 t.conclusion known.2;
      used = subst (EachUsed (leaves_of s)) (sym by) tt;
      cited =
          subst (EachCited (cites_of s)) (sym by)
          (has.axioms t.conclusion (contains_there cx.axioms n t.conclusion there));
    }

-- the same with new numbers for its variables
pub axiom_as_stays : (cx : Context) (n : ℕ) (t : Theorem) (new : List ℕ) → IsContext cx
    → IsAxiomAs cx.axioms n new t → t.hypotheses ≡ [] → StaysIn cx t
axiom_as_stays cx n t new ok cited none = λ s has.
    let there : Contains cx.axioms cited.pattern =
    contains_there cx.axioms n cited.pattern cited.there in
    let known : IsImageOf cx.program.sig cx.names (IsAssumed (theory_of cx.program))
    cited.pattern =
    ok.axioms cited.pattern there in
    record {
      hypotheses = none_assumed s t.hypotheses none;
      conclusion =
          subst (IsOver s) (sym cited.conclusion)
          (renamed_leaves (leaves_of s) (by_place new) cited.pattern has.objects
          (has.images known.0 cited.pattern known.2));
      used = subst (EachUsed (leaves_of s)) (sym cited.derivation) tt;
      cited =
          subst (EachCited (cites_of s)) (sym cited.derivation) (has.axioms cited.pattern there);
    }
