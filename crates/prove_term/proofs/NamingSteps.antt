-- Sentences and the images that they become, one step at a time.
use Rattle.std.proofs.Common.{◌≡◌, ◌+◌, ◌<◌, ℕ, zero, suc, List, [], ◌∷◌, ◌++◌, Bool, true, false}
use Rattle.std.proofs.Common.{Option, Some, None, length, get_or, take, refl, sym, ◌∙◌, ap, subst}
use Rattle.std.proofs.Common.{arith, append-nil}
use Rattle.std.specs.Prelude.{All, if◌then◌else◌}
use Rattle.ml_pat.specs.Patterns.{Pattern, and, app, equal}
use Rattle.ml_kernel.specs.Lemmas.{HasNoVariable}
use Rattle.ml_kernel.specs.Theorems.{Theorem}
use Rattle.ml_derived.specs.Equalities.{IsJoin}
use Rattle.ml_derived.specs.Scopes.{StaysWithin}
use Rattle.term_core.specs.Terms.{Tree, inj}
use Rattle.term_core.specs.Patterns.{Pattern as RulePattern, Patterns as RulePatterns, variable}
use Rattle.term_core.specs.Patterns.{domain_value, application, injection, call, no_pattern}
use Rattle.term_core.specs.Patterns.{more_patterns, binding, ground_pattern}
use Rattle.rule_core.specs.NamedParts.{Name}
use Rattle.rule_core.specs.declared.signature.Signature.{Signature}
use Rattle.ml_image.specs.Images.{both, image_of, applied, injection_image}
use Rattle.ml_image.specs.NamedSides.{whole, of_whole, named_part, named_parts, left_sentence}
use Rattle.ml_image.specs.NamedSides.{applied_sides}
use Rattle.ml_image.specs.PartNames.{part_name, part_names}
use Rattle.ml_image.specs.Sentences.{Sentence, term, symbol, inject, apply, sentence_image}
use Rattle.ml_image.specs.Sentences as sentence
use Rattle.ml_image.specs.declared.naming.PartName.{PartName}
use Rattle.ml_image.proofs.ImageLaws.{none_some, some_same}
use Rattle.ml_image.proofs.NamedLaws.{of_whole-append, named_parts-append, parts_next}
use Rattle.prove_term.specs.Applications.{HasClosedSides, SaysEqualTo, IsApplication}
use Rattle.prove_term.specs.Comparing.{IsOnce}
use Rattle.prove_term.specs.Contexts.{Context, HasGrown, StaysIn, StaysInWith}
use Rattle.prove_term.specs.EqualityLemmas.{IsNamedFirst, IsNamedLast}
use Rattle.prove_term.specs.FilledSides.{filled_sentence}
use Rattle.prove_term.specs.Filling.{in_place, filled, all_filled}
use Rattle.prove_term.specs.Naming.{EqualsImage, BecomesImage, NamesTerm, IsConjoinedTo}
use Rattle.prove_term.specs.Naming.{with_term, IsNamedTerm, IsEqualityOf}
use Rattle.prove_term.proofs.ContextLaws.{image_grown, stays_grown}
use Rattle.prove_term.proofs.ImageShapes.{both_some}

-- ---- contexts that grow

pub equals_grown : (a b : Context) (s : Sentence) (image : Pattern) (t : Theorem) → HasGrown a b
    → EqualsImage a s image t → EqualsImage b s image t
equals_grown a b s image t g h = record {
  left = h.left;
  is_left = image_grown a b s h.left g h.is_left;
  closed = h.closed;
  says = h.says;
  stays = stays_grown a b t g h.stays;
}

pub becomes_grown : (a b : Context) (s : Sentence) (image : Pattern) (o : Option Theorem)
    → HasGrown a b → BecomesImage a s image o → BecomesImage b s image o
becomes_grown a b s image None g h = image_grown a b s image g h
becomes_grown a b s image (Some t) g h = equals_grown a b s image t g h

-- what is known of the equality
pub becomes_says : (cx : Context) (s : Sentence) (image : Pattern) (o : Option Theorem)
    → BecomesImage cx s image o → SaysEqualTo image o
becomes_says cx s image None h = tt
becomes_says cx s image (Some t) h = (h.left, h.says, h.closed)

-- ---- applications

applied_image : (cx : Context) (p q : Sentence) (f a : Pattern)
    → sentence_image cx.program.sig cx.names p ≡ Some f
    → sentence_image cx.program.sig cx.names q ≡ Some a
    → sentence_image cx.program.sig cx.names (apply p q) ≡ Some (app f a)
applied_image cx p q f a h k =
    ap (λ (o : Option Pattern). both app o (sentence_image cx.program.sig cx.names q)) h
    ∙ ap (both app (Some f)) k

pub becomes_apply : (cx : Context) (p q : Sentence) (f a : Pattern) (d e o : Option Theorem)
    → BecomesImage cx p f d → BecomesImage cx q a e → HasNoVariable f → HasNoVariable a
    → IsApplication cx f a d e o → BecomesImage cx (apply p q) (app f a) o
becomes_apply cx p q f a None None o hp hq cf ca made =
    subst (BecomesImage cx (apply p q) (app f a)) (sym made) (applied_image cx p q f a hp hq)
becomes_apply cx p q f a (Some d) None o hp hq cf ca made =
    subst (BecomesImage cx (apply p q) (app f a)) (sym made.is) (record {
      left = app hp.left a;
      is_left = applied_image cx p q hp.left a hp.is_left hq;
      closed = (hp.closed, ca);
      says = made.says hp.left f hp.says;
      stays = λ s has. made.stays s has (has.images q a hq, tt) (hp.stays s has, tt);
    })
becomes_apply cx p q f a None (Some e) o hp hq cf ca made =
    subst (BecomesImage cx (apply p q) (app f a)) (sym made.is) (record {
      left = app f hq.left;
      is_left = applied_image cx p q f hq.left hp hq.is_left;
      closed = (cf, hq.closed);
      says = made.says hq.left a hq.says;
      stays = λ s has. made.stays s has (has.images p f hp, tt) (hq.stays s has, tt);
    })
becomes_apply cx p q f a (Some d) (Some e) o hp hq cf ca made =
    subst (BecomesImage cx (apply p q) (app f a)) (sym made.is) (record {
      left = app hp.left hq.left;
      is_left = applied_image cx p q hp.left hq.left hp.is_left hq.is_left;
      closed = (hp.closed, hq.closed);
      says = made.says hp.left f hq.left a hp.says hq.says;
      stays = λ s has. made.stays s has tt (hp.stays s has, (hq.stays s has, tt));
    })

-- an equality that is joined to another
pub becomes_joined : (cx : Context) (s : Sentence) (m image : Pattern) (e once t : Theorem)
    → EqualsImage cx s m e → once.conclusion ≡ equal m image → StaysIn cx once
    → IsJoin e.conclusion once.conclusion t.conclusion
    → StaysInWith cx [] (e ∷ once ∷ []) t → EqualsImage cx s image t
becomes_joined cx s m image e once t h is stays join within = record {
  left = h.left;
  is_left = h.is_left;
  closed = h.closed;
  says = join h.left m image h.says is;
  stays = λ sc has. within sc has tt (h.stays sc has, (stays sc has, tt));
}

-- ---- one name

-- the equality of an image with itself
pub refl_equals : (image : Pattern) (t : Theorem) → HasNoVariable image
    → t.conclusion ≡ equal image image → StaysWithin (image ∷ []) [] t → IsEqualityOf image None t
refl_equals image t closed says stays cx s is = record {
  left = image;
  is_left = is;
  closed = closed;
  says = says;
  stays = λ sc has. stays sc (has.images s image is, tt) tt;
}

conjunction_image : (cx : Context) (p q : Sentence) (a b : Pattern)
    → sentence_image cx.program.sig cx.names p ≡ Some a
    → sentence_image cx.program.sig cx.names q ≡ Some b
    → sentence_image cx.program.sig cx.names (sentence.and p q) ≡ Some (and a b)
conjunction_image cx p q a b h k =
    ap (λ (o : Option Pattern). both and o (sentence_image cx.program.sig cx.names q)) h
    ∙ ap (both and (Some a)) k

pub named_first : (old cx : Context) (image : Pattern) (part : Option Theorem) (e t : Theorem)
    → HasGrown old cx → HasNoVariable image → IsEqualityOf image part e
    → IsNamedFirst e.conclusion t.conclusion → StaysInWith cx [] (e ∷ []) t
    → IsNamedTerm old cx true image part t
named_first old cx image part e t g closed equality says stays u s is becomes =
    let h : EqualsImage cx s image e = equals_grown old cx s image e g (equality old s becomes) in
    record {
      left = and image h.left;
      is_left =
          conjunction_image cx (term (ground_pattern u)) s image h.left
          (image_grown old cx (term (ground_pattern u)) image g is) h.is_left;
      closed = (closed, h.closed);
      says = says h.left image h.says;
      stays = λ sc has. stays sc has tt (h.stays sc has, tt);
    }

pub named_last : (old cx : Context) (image : Pattern) (part : Option Theorem) (e t : Theorem)
    → HasGrown old cx → HasNoVariable image → IsEqualityOf image part e
    → IsNamedLast e.conclusion t.conclusion → StaysInWith cx [] (e ∷ []) t
    → IsNamedTerm old cx false image part t
named_last old cx image part e t g closed equality says stays u s is becomes =
    let h : EqualsImage cx s image e = equals_grown old cx s image e g (equality old s becomes) in
    record {
      left = and h.left image;
      is_left =
          conjunction_image cx s (term (ground_pattern u)) h.left image h.is_left
          (image_grown old cx (term (ground_pattern u)) image g is);
      closed = (h.closed, closed);
      says = says h.left image h.says;
      stays = λ sc has. stays sc has tt (h.stays sc has, tt);
    }

-- ---- names of the whole

pub conjoined_none : (cx : Context) (image : Pattern) (part : Option Theorem)
    → IsConjoinedTo cx cx [] image part part
conjoined_none cx image part theta u s is names becomes = becomes

filled_named : (theta : List (Option Tree)) (s : Sentence) (n : Name) (u : Tree)
    → binding theta n.variable ≡ Some u
    → filled_sentence theta (named_part s n) ≡ with_term n.first u (filled_sentence theta s)
filled_named theta s n u bound = go n.first
  where
    go : (first : Bool) → filled_sentence theta
        (if first then sentence.and (term (variable n.variable)) s
        else sentence.and s (term (variable n.variable)))
        ≡ with_term first u (filled_sentence theta s)
    go true = ap (λ (o : Option Tree).
        sentence.and (term (in_place n.variable o)) (filled_sentence theta s)) bound
    go false = ap (λ (o : Option Tree).
        sentence.and (filled_sentence theta s) (term (in_place n.variable o))) bound

names_before : (theta : List (Option Tree)) (ms ns : List Name) (u : Tree)
    → NamesTerm theta (ms ++ ns) u → NamesTerm theta ms u
names_before theta [] ns u all = λ k d low. absurd (omega (arith, low))
names_before theta (m ∷ ms) ns u all =
    go (names_before theta ms ns u (λ i e l. all (suc i) e (omega (arith, l))))
  where
    go : NamesTerm theta ms u → NamesTerm theta (m ∷ ms) u
    go rest zero d low = all zero d (omega arith)
    go rest (suc k) d low = rest k d (omega (arith, low))

names_last : (theta : List (Option Tree)) (ms : List Name) (n : Name) (u : Tree)
    → NamesTerm theta (ms ++ n ∷ []) u → n.place ≡ [] → binding theta n.variable ≡ Some u
names_last theta [] n u all = all 0 n (omega arith)
names_last theta (m ∷ ms) n u all =
    names_last theta ms n u (λ i e l. all (suc i) e (omega (arith, l)))

-- one more name of the whole
pub conjoined_next : (old mid cx : Context) (names : List PartName) (i : ℕ) (d : PartName)
    (image : Pattern) (part made : Option Theorem) (t : Theorem) → HasGrown old mid
    → i < length names
    → IsConjoinedTo old mid (part_names (take i names)) image part made
    → (get_or names i d).way.now ≡ []
    → IsNamedTerm mid cx (get_or names i d).first image made t
    → IsConjoinedTo old cx (part_names (take (i + 1) names)) image part (Some t)
conjoined_next old mid cx names i d image part made t g low before here named theta u s is all
    becomes =
    let n : Name = part_name (get_or names i d) in
    let ms : List Name = part_names (take i names) in
    let next : part_names (take (i + 1) names) ≡ part_names (take i names)
    ++ part_name (get_or names i d) ∷ [] = parts_next names i d low in
    let all' : NamesTerm theta (part_names (take i names) ++ part_name (get_or names i d) ∷ []) u =
    subst (λ (ns : List Name). NamesTerm theta ns u) next all in
    let wholes : of_whole (part_names (take (i + 1) names)) ≡ of_whole (part_names (take i names))
    ++ part_name (get_or names i d) ∷ [] =
    ap of_whole next
    ∙ of_whole-append ms (n ∷ [])
    ∙ ap (λ (ns : List Name). of_whole (part_names (take i names)) ++ ns)
    (ap (λ (way : List ℕ). whole way (part_name (get_or names i d)) []) here) in
    let sentences : named_parts s (of_whole (part_names (take (i + 1) names)))
    ≡ named_part (named_parts s (of_whole (part_names (take i names))))
    (part_name (get_or names i d)) =
    ap (named_parts s) wholes ∙ named_parts-append s (of_whole ms) (n ∷ []) in
    let first : BecomesImage mid (filled_sentence theta
    (named_parts s (of_whole (part_names (take i names))))) image made =
    before theta u s is (names_before theta ms (n ∷ []) u all') becomes in
    subst (λ (q : Sentence). EqualsImage cx q image t)
    (sym (ap (filled_sentence theta) sentences
    ∙ filled_named theta (named_parts s (of_whole ms)) n u
    (names_last theta ms n u all' here)))
    (named u (filled_sentence theta (named_parts s (of_whole (part_names (take i names)))))
    (image_grown old mid (term (ground_pattern u)) image g is) first)

-- one more name is not of the whole
pub conjoined_same : (old cx : Context) (names : List PartName) (i : ℕ) (d : PartName)
    (image : Pattern) (part made : Option Theorem) → i < length names
    → IsConjoinedTo old cx (part_names (take i names)) image part made
    → ((get_or names i d).way.now ≡ [] → ⊥)
    → IsConjoinedTo old cx (part_names (take (i + 1) names)) image part made
conjoined_same old cx names i d image part made low before inside theta u s is all becomes =
    let n : Name = part_name (get_or names i d) in
    let ms : List Name = part_names (take i names) in
    let next : part_names (take (i + 1) names) ≡ part_names (take i names)
    ++ part_name (get_or names i d) ∷ [] = parts_next names i d low in
    let all' : NamesTerm theta (part_names (take i names) ++ part_name (get_or names i d) ∷ []) u =
    subst (λ (ns : List Name). NamesTerm theta ns u) next all in
    let wholes : of_whole (part_names (take (i + 1) names))
    ≡ of_whole (part_names (take i names)) =
    ap of_whole next
    ∙ of_whole-append ms (n ∷ [])
    ∙ ap (λ (ns : List Name). of_whole (part_names (take i names)) ++ ns)
    (none (get_or names i d).way.now n inside)
    ∙ append-nil (of_whole ms) in
    subst (λ (ns : List Name). BecomesImage cx (filled_sentence theta (named_parts s ns)) image made)
    (sym wholes)
    (before theta u s is (names_before theta ms (n ∷ []) u all') becomes)
  where
    none : (way : List ℕ) (n : Name) → (way ≡ [] → ⊥) → whole way n [] ≡ []
    none [] n some = absurd (some refl)
    none (i ∷ way) n some = refl

-- ---- sides without names

mutual
  pub filled_left : (sig : Signature) (tokens : List (List ℕ)) (theta : List (Option Tree))
      (p : RulePattern)
      → sentence_image sig tokens (filled_sentence theta (left_sentence [] p))
      ≡ image_of sig tokens (filled theta p)
  filled_left sig tokens theta (variable x) = refl
  filled_left sig tokens theta (domain_value s v) = refl
  filled_left sig tokens theta (application f ps) = filled_sides sig tokens theta 0 (symbol f) ps
  filled_left sig tokens theta (injection a b p) =
      ap (both app (injection_image sig tokens a b)) (filled_left sig tokens theta p)
  filled_left sig tokens theta (call f ss ps) = refl

  pub filled_sides : (sig : Signature) (tokens : List (List ℕ)) (theta : List (Option Tree)) (k : ℕ)
      (head : Sentence) (ps : RulePatterns)
      → sentence_image sig tokens (filled_sentence theta (applied_sides [] k head ps))
      ≡ applied sig tokens (sentence_image sig tokens (filled_sentence theta head))
      (all_filled theta ps)
  filled_sides sig tokens theta k head no_pattern = refl
  filled_sides sig tokens theta k head (more_patterns p ps) =
      filled_sides sig tokens theta (k + 1) (apply head (left_sentence [] p)) ps
      ∙ ap (λ (o : Option Pattern). applied sig tokens
      (both app (sentence_image sig tokens (filled_sentence theta head)) o) (all_filled theta ps))
      (filled_left sig tokens theta p)
