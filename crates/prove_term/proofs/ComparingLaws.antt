-- Patterns and the terms that they become: parts, images, and what equalities of parts say of the
-- whole.
use Rattle.std.proofs.Common.{◌≡◌, ◌<◌, ℕ, zero, suc, List, [], ◌∷◌, Option, Some, None, option_map}
use Rattle.std.proofs.Common.{length, get_or, refl, sym, ◌∙◌, ap, subst, arith}
use Rattle.std.specs.Prelude.{◌≢◌}
use Rattle.ml_pat.specs.Patterns.{Pattern, app, at_sort, constant}
use Rattle.ml_kernel.specs.Lemmas.{HasNoVariable}
use Rattle.term_core.specs.Terms.{Tree, Forest, leaf, node, inj, no_tree, more_trees, injected}
use Rattle.term_core.specs.Patterns.{Pattern as RulePattern, Patterns as RulePatterns, variable}
use Rattle.term_core.specs.Patterns.{domain_value, application, injection, call, no_pattern}
use Rattle.term_core.specs.Patterns.{more_patterns, instance_of, instances_of, ground_pattern}
use Rattle.term_core.specs.Patterns.{ground_patterns}
use Rattle.term_core.specs.RulePatterns.{plain_pattern}
use Rattle.term_core.specs.PatternLists.{plain_patterns}
use Rattle.term_core.specs.declared.rule_patterns.RulePat.{RulePat}
use Rattle.rule_core.specs.Subsorts.{IsBelow}
use Rattle.rule_core.specs.Sorting.{IsTermOf}
use Rattle.rule_core.specs.WellSorted.{IsSignature}
use Rattle.rule_core.specs.declared.signature.Signature.{Signature}
use Rattle.rule_core.specs.declared.signature.SortRef.{SortRef}
use Rattle.rule_core.proofs.SortedInstances.{mapped, both_there, instance_is_sorted}
use Rattle.ml_image.specs.Tokens.{token_of_symbol, token_of_value, number_in_names}
use Rattle.ml_image.specs.Images.{both, image_of, applied, symbol_image, sort_image, at_sorts}
use Rattle.ml_image.specs.Images.{injection_image, some_symbol_image, injection_symbol}
use Rattle.ml_image.specs.HasImages.{HasImage, HaveImages}
use Rattle.ml_image.proofs.ImageLaws.{none_some}
use Rattle.prove_term.specs.Schemas.{AreImages}
use Rattle.prove_term.specs.Applications.{applied_to}
use Rattle.prove_term.specs.Comparing.{IsInstance, AreInstances}
use Rattle.prove_term.proofs.ImageShapes.{both_some, map_some}

-- ---- closed images

abbrev IsClosed : Option Pattern → Type 0
IsClosed o = (p : Pattern) → o ≡ Some p → HasNoVariable p

closed-app : (a b : Option Pattern) → IsClosed a → IsClosed b → IsClosed (both app a b)
closed-app a b ha hb r h =
    let w : (x : Pattern) × (y : Pattern) × (a ≡ Some x) × (b ≡ Some y) × (r ≡ app x y) =
    both_some app a b r h in
    subst HasNoVariable (sym w.4) (ha w.0 w.2, hb w.1 w.3)

closed-constant : (o : Option ℕ) → IsClosed (option_map constant o)
closed-constant o r h =
    let w : (x : ℕ) × (o ≡ Some x) × (r ≡ constant x) = map_some constant o r h in
    subst HasNoVariable (sym w.2) tt

closed-sorts : (sig : Signature) (names : List (List ℕ)) (ss : List ℕ) (head : Option Pattern)
    → IsClosed head → IsClosed (at_sorts sig names head ss)
closed-sorts sig names [] head h = h
closed-sorts sig names (s ∷ ss) head h =
    closed-sorts sig names ss (both at_sort head (sort_image sig names s)) here
  where
    here : IsClosed (both at_sort head (sort_image sig names s))
    here r is =
        let w : (x : Pattern) × (n : ℕ) × (head ≡ Some x) × (sort_image sig names s ≡ Some n) ×
        (r ≡ at_sort x n) =
        both_some at_sort head (sort_image sig names s) r is in
        subst HasNoVariable (sym w.4) (h w.0 w.2)

closed-symbol : (sig : Signature) (names : List (List ℕ)) (o : Option ℕ)
    → IsClosed (some_symbol_image sig names o)
closed-symbol sig names None = λ r h. absurd (none_some r h)
closed-symbol sig names (Some f) = closed-constant (number_in_names names (token_of_symbol sig f))

pub closed-injection : (sig : Signature) (names : List (List ℕ)) (a b : ℕ) (p : Pattern)
    → injection_image sig names a b ≡ Some p → HasNoVariable p
closed-injection sig names a b =
    closed-sorts sig names (a ∷ b ∷ []) _ (closed-symbol sig names (injection_symbol sig))

mutual
  closed-term : (sig : Signature) (names : List (List ℕ)) (t : Tree)
      → IsClosed (image_of sig names (ground_pattern t))
  closed-term sig names (leaf s v) =
      closed-constant (number_in_names names (token_of_value sig s v))
  closed-term sig names (node f ts) =
      closed-forest sig names ts (symbol_image sig names f)
      (closed-constant (number_in_names names (token_of_symbol sig f)))
  closed-term sig names (inj a b t) =
      closed-app (injection_image sig names a b) (image_of sig names (ground_pattern t))
      (closed-injection sig names a b) (closed-term sig names t)

  closed-forest : (sig : Signature) (names : List (List ℕ)) (ts : Forest) (head : Option Pattern)
      → IsClosed head → IsClosed (applied sig names head (ground_patterns ts))
  closed-forest sig names no_tree head h = h
  closed-forest sig names (more_trees t ts) head h =
      closed-forest sig names ts (both app head (image_of sig names (ground_pattern t)))
      (closed-app head (image_of sig names (ground_pattern t)) h (closed-term sig names t))

-- the image of a term has no object variable
pub image_closed : (sig : Signature) (names : List (List ℕ)) (t : Tree) (p : Pattern)
    → image_of sig names (ground_pattern t) ≡ Some p → HasNoVariable p
image_closed sig names t p is = closed-term sig names t p is

-- a pattern that has an image without variables has one with any number of variables
mutual
  pub image_among : (sig : Signature) (n : ℕ) (p : RulePattern) → HasImage sig 0 p
      → HasImage sig n p
  image_among sig n (variable x) h = absurd (omega (arith, h))
  image_among sig n (domain_value s v) h = h
  image_among sig n (application f ps) h = (h.0, images_among sig n ps h.1)
  image_among sig n (injection a b p) h = (h.0, h.1, image_among sig n p h.2)
  image_among sig n (call f ss ps) h = (h.0, h.1, images_among sig n ps h.2)

  images_among : (sig : Signature) (n : ℕ) (ps : RulePatterns) → HaveImages sig 0 ps
      → HaveImages sig n ps
  images_among sig n no_pattern h = tt
  images_among sig n (more_patterns p ps) h = (image_among sig n p h.0, images_among sig n ps h.1)

-- ---- the images of arguments

applied_parts : (sig : Signature) (names : List (List ℕ)) (ps : RulePatterns)
    (head : Option Pattern) (r : Pattern) → applied sig names head ps ≡ Some r
    → (h : Pattern) × (qs : List Pattern) × (head ≡ Some h) × AreImages sig names ps qs
    × (r ≡ applied_to h qs)
applied_parts sig names no_pattern head r h = (r, [], h, tt, refl)
applied_parts sig names (more_patterns p ps) head r h =
    let rest : (g : Pattern) × (qs : List Pattern) × (both app head (image_of sig names p) ≡ Some g)
    × AreImages sig names ps qs × (r ≡ applied_to g qs) =
    applied_parts sig names ps (both app head (image_of sig names p)) r h in
    let w : (x : Pattern) × (y : Pattern) × (head ≡ Some x) × (image_of sig names p ≡ Some y) ×
    (rest.0 ≡ app x y) =
    both_some app head (image_of sig names p) rest.0 rest.2 in
    (w.0, w.1 ∷ rest.1, w.2, (w.3, rest.3), rest.4 ∙ ap (λ (g : Pattern). applied_to g rest.1) w.4)

pub application_image : (sig : Signature) (names : List (List ℕ)) (f : ℕ) (ps : RulePatterns)
    (r : Pattern) → image_of sig names (application f ps) ≡ Some r
    → (c : ℕ) × (qs : List Pattern) × (symbol_image sig names f ≡ Some (constant c))
    × AreImages sig names ps qs × (r ≡ applied_to (constant c) qs)
application_image sig names f ps r h =
    let w : (g : Pattern) × (qs : List Pattern) × (symbol_image sig names f ≡ Some g) × AreImages
    sig names ps qs × (r ≡ applied_to g qs) =
    applied_parts sig names ps (symbol_image sig names f) r h in
    let c : (x : ℕ) × (number_in_names names (token_of_symbol sig f) ≡ Some x)
    × (w.0 ≡ constant x) =
    map_some constant (number_in_names names (token_of_symbol sig f)) w.0 w.2 in (
      c.0,
      w.1,
      w.2 ∙ ap (λ (g : Pattern). Some g) c.2,
      w.3,
      w.4
          ∙ ap (λ (g : Pattern). applied_to g w.1) c.2,
    )

pub as_many_images : (sig : Signature) (names : List (List ℕ)) (ws : List RulePat)
    (qs : List Pattern) → AreImages sig names (plain_patterns ws) qs → length ws ≡ length qs
as_many_images sig names [] [] h = refl
as_many_images sig names [] (q ∷ qs) h = absurd h
as_many_images sig names (w ∷ ws) [] h = absurd h
as_many_images sig names (w ∷ ws) (q ∷ qs) h = ap suc (as_many_images sig names ws qs h.1)

pub image_item : (sig : Signature) (names : List (List ℕ)) (ws : List RulePat) (qs : List Pattern)
    (i : ℕ) (w : RulePat) (q : Pattern) → AreImages sig names (plain_patterns ws) qs
    → i < length ws → w ≡ get_or ws i w → q ≡ get_or qs i q
    → image_of sig names (plain_pattern w) ≡ Some q
image_item sig names [] qs i w q h low is at = absurd (omega (arith, low))
image_item sig names (v ∷ ws) [] i w q h low is at = absurd h
image_item sig names (v ∷ ws) (r ∷ qs) zero w q h low is at =
    ap (λ (x : RulePat). image_of sig names (plain_pattern x)) is ∙ h.0
    ∙ ap (λ (x : Pattern). Some x) (sym at)
image_item sig names (v ∷ ws) (r ∷ qs) (suc i) w q h low is at =
    image_item sig names ws qs i w q h.1 (omega (arith, low)) is at

-- ---- the terms of patterns

pub ground_application : (g : ℕ) (ws : RulePatterns) (u : Tree)
    → application g ws ≡ ground_pattern u
    → (us : Forest) × (u ≡ node g us) × (ws ≡ ground_patterns us)
ground_application g ws (leaf s v) h = absurd (let no : ⊥ = cc in no)
ground_application g ws (node f us) h =
    let same : g ≡ f = cc in
    (us, ap (λ (x : ℕ). node x us) (sym same), cc)
ground_application g ws (inj a b t) h = absurd (let no : ⊥ = cc in no)

pub ground_injection : (a b : ℕ) (w : RulePattern) (u : Tree) → injection a b w ≡ ground_pattern u
    → (v : Tree) × (u ≡ inj a b v) × (w ≡ ground_pattern v)
ground_injection a b w (leaf s v) h = absurd (let no : ⊥ = cc in no)
ground_injection a b w (node f us) h = absurd (let no : ⊥ = cc in no)
ground_injection a b w (inj c d t) h =
    let first : a ≡ c = cc in
    let second : b ≡ d = cc in
    (t, ap (λ (x : ℕ). inj x d t) (sym first) ∙ ap (λ (y : ℕ). inj a y t) (sym second), cc)

pub arguments_of : (sig : Signature) (variables : List ℕ) (theta : List (Option Tree)) (f : ℕ)
    (ps : RulePatterns) (sort : ℕ) (u : Tree)
    → IsInstance sig variables theta (application f ps) sort u
    → (refs : List SortRef) × (us : Forest) × (u ≡ node f us)
    × AreInstances sig variables theta ps refs us
arguments_of sig variables theta f ps sort u h =
    let from : (us : Forest) × ((instances_of theta ps ≡ Some us) × (node f us ≡ u)) =
    mapped (node f) (instances_of theta ps) u h.makes in (
      h.sorted.0.args.items,
      from.0,
      sym from.1.1,
      record { sorted = h.sorted.4; respects = h.respects; make = from.1.0 },
    )

-- the injected term
pub injected_of : (sig : Signature) (variables : List ℕ) (theta : List (Option Tree)) (b d : ℕ)
    (p : RulePattern) (sort : ℕ) (u : Tree)
    → IsInstance sig variables theta (injection b d p) sort u
    → (t : Tree) × (injected b d t ≡ u) × IsInstance sig variables theta p b t × IsTermOf sig t b
injected_of sig variables theta b d p sort u h =
    let from : (t : Tree) × ((instance_of theta p ≡ Some t) × (injected b d t ≡ u)) =
    mapped (injected b d) (instance_of theta p) u h.makes in (
      from.0,
      from.1.1,
      record { sorted = h.sorted.3; respects = h.respects; makes = from.1.0 },
      (instance_is_sorted sig variables p b theta from.0 h.sorted.3 h.respects from.1.0).0,
    )

pub injected_is : (b d : ℕ) (t : Tree) → (a : ℕ) × (v : Tree) × (injected b d t ≡ inj a d v)
injected_is b d (leaf s v) = (b, leaf s v, refl)
injected_is b d (node f ts) = (b, node f ts, refl)
injected_is b d (inj x y t) = (x, t, refl)

-- an injection from b that became one from another sort
moved : (sig : Signature) (a b d e : ℕ) (t v : Tree) → injected b d t ≡ inj a e v → a ≢ b
    → IsTermOf sig t b → (e ≡ d) × (t ≡ inj a b v) × IsBelow sig.subsorts a b
moved sig a b d e (leaf s x) v h apart sorted = let same : a ≡ b = cc in absurd (apart same)
moved sig a b d e (node f ts) v h apart sorted = let same : a ≡ b = cc in absurd (apart same)
moved sig a b d e (inj x y t) v h apart sorted =
    let from : a ≡ x = cc in
    let to : e ≡ d = cc in
    let tree : v ≡ t = cc in
    let P : ℕ → Type 0 = λ n. IsBelow sig.subsorts n b in
    let Q : ℕ → Type 0 = λ n. IsBelow sig.subsorts x n in (
      to,
      ap (λ (n : ℕ). inj n y t) (sym from) ∙ ap (λ (n : ℕ). inj a n t) sorted.1
          ∙ ap (λ (w : Tree). inj a b w) (sym tree),
      subst P (sym from) (subst Q sorted.1 sorted.2),
    )

-- an injection that is still one from b
stayed : (sig : Signature) (b d e : ℕ) (t v : Tree) → IsSignature sig → injected b d t ≡ inj b e v
    → IsTermOf sig t b → (e ≡ d) × (t ≡ v)
stayed sig b d e (leaf s x) v ok h sorted = (cc, cc)
stayed sig b d e (node f ts) v ok h sorted = (cc, cc)
stayed sig b d e (inj x y t) v ok h sorted =
    let from : b ≡ x = cc in
    let P : ℕ → Type 0 = λ n. IsBelow sig.subsorts x n in
    let Q : ℕ → Type 0 = λ n. IsBelow sig.subsorts n b in
    absurd (ok.no_cycle b (subst Q (sym from) (subst P sorted.1 sorted.2)))

pub injection_moved : (sig : Signature) (variables : List ℕ) (theta : List (Option Tree))
    (a b d e : ℕ) (p : RulePattern) (sort : ℕ) (v : Tree)
    → IsInstance sig variables theta (injection b d p) sort (inj a e v) → a ≢ b
    → (e ≡ d) × IsBelow sig.subsorts a b × IsInstance sig variables theta p b (inj a b v)
injection_moved sig variables theta a b d e p sort v h apart =
    let w : (t : Tree) × (injected b d t ≡ inj a e v) × IsInstance sig variables theta p b t ×
    IsTermOf sig t b =
    injected_of sig variables theta b d p sort (inj a e v) h in
    let m : (e ≡ d) × (w.0 ≡ inj a b v) × IsBelow sig.subsorts a b =
    moved sig a b d e w.0 v w.1 apart w.3 in (
      m.0,
      m.2,
      record {
        sorted = w.2.sorted;
        respects = w.2.respects;
        makes = w.2.makes ∙ ap (λ (t : Tree). Some t) m.1;
      },
    )

pub injection_stayed : (sig : Signature) (variables : List ℕ) (theta : List (Option Tree))
    (b d e : ℕ) (p : RulePattern) (sort : ℕ) (v : Tree) → IsSignature sig
    → IsInstance sig variables theta (injection b d p) sort (inj b e v)
    → (e ≡ d) × IsInstance sig variables theta p b v
injection_stayed sig variables theta b d e p sort v ok h =
    let w : (t : Tree) × (injected b d t ≡ inj b e v) × IsInstance sig variables theta p b t ×
    IsTermOf sig t b =
    injected_of sig variables theta b d p sort (inj b e v) h in
    let m : (e ≡ d) × (w.0 ≡ v) = stayed sig b d e w.0 v ok w.1 w.3 in (
      m.0,
      record {
        sorted = w.2.sorted;
        respects = w.2.respects;
        makes = w.2.makes ∙ ap (λ (t : Tree). Some t) m.1;
      },
    )

-- ---- one argument

as_many_step : (p : RulePat) (args ws : List RulePat) (t : Tree) (vs : Forest)
    → plain_patterns ws ≡ more_patterns (ground_pattern t) (ground_patterns vs)
    → ((ws : List RulePat) → plain_patterns ws ≡ ground_patterns vs → length args ≡ length ws)
    → length (p ∷ args) ≡ length ws
as_many_step p args [] t vs is below = absurd (let no : ⊥ = cc in no)
as_many_step p args (w ∷ ws) t vs is below =
    ap suc (below ws (others_are (plain_pattern w) (ground_pattern t) (plain_patterns ws)
    (ground_patterns vs) is))
  where
    others_are : (p q : RulePattern) (ps qs : RulePatterns)
        → more_patterns p ps ≡ more_patterns q qs → ps ≡ qs
    others_are p q ps qs h = cc

as_many_none : (ws : List RulePat) → plain_patterns ws ≡ no_pattern → 0 ≡ length ws
as_many_none [] h = refl
as_many_none (w ∷ ws) h = absurd (let no : ⊥ = cc in no)

pub as_many_made : (theta : List (Option Tree)) (args ws : List RulePat) (us : Forest)
    → instances_of theta (plain_patterns args) ≡ Some us → plain_patterns ws ≡ ground_patterns us
    → length args ≡ length ws
as_many_made theta [] ws us h k =
    as_many_none ws (k ∙ ap ground_patterns (sym (some_forest no_tree us h)))
  where
    some_forest : (ts us : Forest) → Some ts ≡ Some us → ts ≡ us
    some_forest ts us h = cc
as_many_made theta (p ∷ args) ws us h k =
    let parts : (t : Tree) × ((vs : Forest)
    × ((us ≡ more_trees t vs)
    × ((instance_of theta (plain_pattern p) ≡ Some t)
    × (instances_of theta (plain_patterns args) ≡ Some vs)))) =
    both_there (instance_of theta (plain_pattern p)) (instances_of theta (plain_patterns args)) us
    h in
    as_many_step p args ws parts.0 parts.1.0 (k ∙ ap ground_patterns parts.1.1.0)
    (λ ws' is. as_many_made theta args ws' parts.1.0 parts.1.1.1.1 is)
