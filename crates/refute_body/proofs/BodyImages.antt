-- A term in the place of a variable: what becomes of a pattern, and of its image.
use Rattle.std.proofs.Common.{◌≡◌, ◌⊎◌, inl, inr, ℕ, Bool, true, false, List, [], ◌∷◌}
use Rattle.std.proofs.Common.{Option, Some, None, option_map, refl, sym, ◌∙◌, ap, subst, eq-eqb}
use Rattle.std.specs.Prelude.{◌==◌, ◌||◌, if◌then◌else◌}
use Rattle.std.specs.Prelude as std
use Rattle.std.proofs.lemmas.Bool.{eqb-true, false≢true}
use Rattle.ml_pat.specs.Patterns.{Pattern as LogicPattern, app, at_sort, constant, var}
use Rattle.ml_pat.specs.Patterns as logic
use Rattle.ml_pat.specs.Judgements.{IsFresh, both_parts, fresh, substituted}
use Rattle.ml_pat.proofs.LeafLaws.{split_true}
use Rattle.ml_pat.proofs.ReplacingLaws.{substituted-fresh}
use Rattle.term_core.specs.Terms.{Tree, Forest, leaf, node, inj, no_tree, more_trees, truth}
use Rattle.term_core.specs.Patterns.{Pattern, Patterns, variable, domain_value, application}
use Rattle.term_core.specs.Patterns.{injection, call, no_pattern, more_patterns, binding}
use Rattle.term_core.specs.Patterns.{ground_pattern, ground_patterns}
use Rattle.rule_core.specs.Matching.{OccursIn, OccursInSome}
use Rattle.rule_core.specs.declared.signature.Signature.{Signature}
use Rattle.ml_image.specs.Images.{both, image_of, applied, sort_image, symbol_image, at_sorts}
use Rattle.ml_image.specs.Images.{injection_image, injection_symbol, some_symbol_image}
use Rattle.ml_image.specs.Premises.{is_true}
use Rattle.ml_image.specs.Sentences.{sentence_image}
use Rattle.ml_image.specs.Tokens.{number_in_names, token_of_symbol, token_of_value}
use Rattle.prove_term.specs.Filling.{in_place, filled, all_filled}
use Rattle.prove_term.proofs.ImageShapes.{both_some, map_some}
use Rattle.prove_open.proofs.ValueLaws.{not_equal}

-- ---- patterns

-- the pattern with the term in place of the variable
abbrev mutual
  pub with_term : ℕ → Tree → Pattern → Pattern
  with_term x t (variable y) = if x == y then ground_pattern t else variable y
  with_term x t (domain_value s v) = domain_value s v
  with_term x t (application f ps) = application f (all_with_term x t ps)
  with_term x t (injection a b p) = injection a b (with_term x t p)
  with_term x t (call f ss ps) = call f ss (all_with_term x t ps)

  all_with_term : ℕ → Tree → Patterns → Patterns
  all_with_term x t no_pattern = no_pattern
  all_with_term x t (more_patterns p ps) = more_patterns (with_term x t p) (all_with_term x t ps)

more_same : (p q : Pattern) (ps qs : Patterns) → p ≡ q → ps ≡ qs
    → more_patterns p ps ≡ more_patterns q qs
more_same p q ps qs e k = ap (λ (r : Pattern). more_patterns r ps) e ∙ ap (more_patterns q) k

mutual
  ground_filled : (theta : List (Option Tree)) (t : Tree)
      → filled theta (ground_pattern t) ≡ ground_pattern t
  ground_filled theta (leaf s v) = refl
  ground_filled theta (node f ts) = ap (application f) (grounds_filled theta ts)
  ground_filled theta (inj a b t) = ap (injection a b) (ground_filled theta t)

  grounds_filled : (theta : List (Option Tree)) (ts : Forest)
      → all_filled theta (ground_patterns ts) ≡ ground_patterns ts
  grounds_filled theta no_tree = refl
  grounds_filled theta (more_trees t ts) =
      more_same (filled theta (ground_pattern t)) (ground_pattern t)
      (all_filled theta (ground_patterns ts)) (ground_patterns ts) (ground_filled theta t)
      (grounds_filled theta ts)

-- a substitution that has this term for the variable makes the same of both patterns
mutual
  pub with_term_filled : (theta : List (Option Tree)) (x : ℕ) (t : Tree) → binding theta x ≡ Some t
      → (p : Pattern) → filled theta (with_term x t p) ≡ filled theta p
  with_term_filled theta x t bound (variable y) = go (x == y) refl
    where
      go : (b : Bool) → (x == y) ≡ b
          → filled theta (if b then ground_pattern t else variable y)
          ≡ in_place y (binding theta y)
      go true e =
          ground_filled theta t
          ∙ sym (ap (in_place y) (ap (binding theta) (sym (eqb-true x y e)) ∙ bound))
      go false e = refl
  with_term_filled theta x t bound (domain_value s v) = refl
  with_term_filled theta x t bound (application f ps) =
      ap (application f) (all_with_term_filled theta x t bound ps)
  with_term_filled theta x t bound (injection a b p) =
      ap (injection a b) (with_term_filled theta x t bound p)
  with_term_filled theta x t bound (call f ss ps) =
      ap (call f ss) (all_with_term_filled theta x t bound ps)

  all_with_term_filled : (theta : List (Option Tree)) (x : ℕ) (t : Tree) → binding theta x ≡ Some t
      → (ps : Patterns) → all_filled theta (all_with_term x t ps) ≡ all_filled theta ps
  all_with_term_filled theta x t bound no_pattern = refl
  all_with_term_filled theta x t bound (more_patterns p ps) =
      more_same (filled theta (with_term x t p)) (filled theta p)
      (all_filled theta (all_with_term x t ps)) (all_filled theta ps)
      (with_term_filled theta x t bound p) (all_with_term_filled theta x t bound ps)

mutual
  ground_none : (y : ℕ) (t : Tree) → OccursIn y (ground_pattern t) → ⊥
  ground_none y (leaf s v) h = h
  ground_none y (node f ts) h = grounds_none y ts h
  ground_none y (inj a b t) h = ground_none y t h

  grounds_none : (y : ℕ) (ts : Forest) → OccursInSome y (ground_patterns ts) → ⊥
  grounds_none y no_tree h = h
  grounds_none y (more_trees t ts) (inl h) = ground_none y t h
  grounds_none y (more_trees t ts) (inr h) = grounds_none y ts h

-- the variables are those of the pattern, without the one that was replaced
mutual
  pub with_term_occurs : (x : ℕ) (t : Tree) (y : ℕ) (p : Pattern) → OccursIn y (with_term x t p)
      → OccursIn y p × (y ≡ x → ⊥)
  with_term_occurs x t y (variable z) h = go (x == z) refl h
    where
      go : (b : Bool) → (x == z) ≡ b
          → OccursIn y (if b then ground_pattern t else variable z) → (y ≡ z) × (y ≡ x → ⊥)
      go true e h = absurd (ground_none y t h)
      go false e h = (h, λ same. false≢true (sym e ∙ eq-eqb x z (sym same ∙ h)))
  with_term_occurs x t y (domain_value s v) h = absurd h
  with_term_occurs x t y (application f ps) h = all_with_term_occur x t y ps h
  with_term_occurs x t y (injection a b p) h = with_term_occurs x t y p h
  with_term_occurs x t y (call f ss ps) h = all_with_term_occur x t y ps h

  all_with_term_occur : (x : ℕ) (t : Tree) (y : ℕ) (ps : Patterns)
      → OccursInSome y (all_with_term x t ps) → OccursInSome y ps × (y ≡ x → ⊥)
  all_with_term_occur x t y no_pattern h = absurd h
  all_with_term_occur x t y (more_patterns p ps) (inl h) =
      let w : OccursIn y p × (y ≡ x → ⊥) = with_term_occurs x t y p h in (inl w.0, w.1)
  all_with_term_occur x t y (more_patterns p ps) (inr h) =
      let w : OccursInSome y ps × (y ≡ x → ⊥) = all_with_term_occur x t y ps h in (inr w.0, w.1)

-- without variables a pattern stays as it is
mutual
  pub filled_closed : (theta : List (Option Tree)) (p : Pattern) → ((y : ℕ) → OccursIn y p → ⊥)
      → filled theta p ≡ p
  filled_closed theta (variable x) none = absurd (none x refl)
  filled_closed theta (domain_value s v) none = refl
  filled_closed theta (application f ps) none =
      ap (application f) (all_filled_closed theta ps none)
  filled_closed theta (injection a b p) none = ap (injection a b) (filled_closed theta p none)
  filled_closed theta (call f ss ps) none = ap (call f ss) (all_filled_closed theta ps none)

  all_filled_closed : (theta : List (Option Tree)) (ps : Patterns)
      → ((y : ℕ) → OccursInSome y ps → ⊥) → all_filled theta ps ≡ ps
  all_filled_closed theta no_pattern none = refl
  all_filled_closed theta (more_patterns p ps) none =
      more_same (filled theta p) p (all_filled theta ps) ps
      (filled_closed theta p (λ y h. none y (inl h)))
      (all_filled_closed theta ps (λ y h. none y (inr h)))

-- ---- parts of images without variables

some_same : {A : Type 0} (a b : A) → Some a ≡ Some b → a ≡ b
some_same a b e = cc

nothing : {A P : Type 0} (x : A) → None ≡ Some x → P
nothing x e = absurd (let no : ⊥ = cc in no)

constant_fresh : (x : ℕ) (o : Option ℕ) (r : LogicPattern) → option_map constant o ≡ Some r
    → IsFresh x r
constant_fresh x o r is =
    let w : (n : ℕ) × (o ≡ Some n) × (r ≡ constant n) = map_some constant o r is in
    subst (IsFresh x) (sym w.2) refl

symbol_fresh : (sig : Signature) (names : List (List ℕ)) (x f : ℕ) (r : LogicPattern)
    → symbol_image sig names f ≡ Some r → IsFresh x r
symbol_fresh sig names x f r is =
    constant_fresh x (number_in_names names (token_of_symbol sig f)) r is

sorts_fresh : (sig : Signature) (names : List (List ℕ)) (x : ℕ) (ss : List ℕ)
    (o : Option LogicPattern) (r : LogicPattern) → ((h : LogicPattern) → o ≡ Some h → IsFresh x h)
    → at_sorts sig names o ss ≡ Some r → IsFresh x r
sorts_fresh sig names x [] o r head is = head r is
sorts_fresh sig names x (s ∷ ss) o r head is =
    sorts_fresh sig names x ss (both at_sort o (sort_image sig names s)) r
    (λ h at.
    let w : (p : LogicPattern) × (n : ℕ) × (o ≡ Some p) × (sort_image sig names s ≡ Some n)
    × (h ≡ at_sort p n) =
    both_some at_sort o (sort_image sig names s) h at in
    subst (IsFresh x) (sym w.4) (head w.0 w.2))
    is

injection_fresh : (sig : Signature) (names : List (List ℕ)) (x a b : ℕ) (r : LogicPattern)
    → injection_image sig names a b ≡ Some r → IsFresh x r
injection_fresh sig names x a b r is =
    sorts_fresh sig names x (a ∷ b ∷ []) (some_symbol_image sig names (injection_symbol sig)) r
    (some_fresh (injection_symbol sig)) is
  where
    some_fresh : (o : Option ℕ) (h : LogicPattern) → some_symbol_image sig names o ≡ Some h
        → IsFresh x h
    some_fresh None h at = nothing h at
    some_fresh (Some f) h at = symbol_fresh sig names x f h at

-- ---- substitution

-- substitution of u for x in c makes the pattern that is given
abbrev pub Puts : ℕ → LogicPattern → LogicPattern → Option LogicPattern → Type 0
Puts x u c o = (d : LogicPattern) × (substituted c x u ≡ Some d) × (o ≡ Some d)

both_put : (f : LogicPattern → LogicPattern → LogicPattern) (a b : Option LogicPattern)
    (p q : LogicPattern) → a ≡ Some p → b ≡ Some q → both_parts f a b ≡ Some (f p q)
both_put f a b p q e k = rw (e, k) refl

both_made : (f : LogicPattern → LogicPattern → LogicPattern) (a b : Option LogicPattern)
    (p q : LogicPattern) → a ≡ Some p → b ≡ Some q → both f a b ≡ Some (f p q)
both_made f a b p q e k = rw (e, k) refl

fresh_put : (x : ℕ) (u c : LogicPattern) (o : Option LogicPattern) → IsFresh x c → o ≡ Some c
    → Puts x u c o
fresh_put x u c o free is = (c, substituted-fresh x u c free, is)

app_put : (x : ℕ) (u : LogicPattern) (o i p j : Option LogicPattern) (c : LogicPattern)
    → ((h : LogicPattern) → o ≡ Some h → Puts x u h p)
    → ((a : LogicPattern) → i ≡ Some a → Puts x u a j) → both app o i ≡ Some c
    → Puts x u c (both app p j)
app_put x u o i p j c head argument is =
    let w : (h : LogicPattern) × (a : LogicPattern) × (o ≡ Some h) × (i ≡ Some a) × (c ≡ app h a) =
    both_some app o i c is in
    let f : Puts x u w.0 p = head w.0 w.2 in
    let a : Puts x u w.1 j = argument w.1 w.3 in
    subst (λ (r : LogicPattern). Puts x u r (both app p j)) (sym w.4) (
      app f.0 a.0,
      both_put app (substituted w.0 x u) (substituted w.1 x u) f.0 a.0 f.1 a.1,
      both_made app p j f.0 a.0 f.2 a.2,
    )

-- the image of the pattern with the term in place of the variable
mutual
  pub put_image : (sig : Signature) (names : List (List ℕ)) (x : ℕ) (t : Tree) (u : LogicPattern)
      → image_of sig names (ground_pattern t) ≡ Some u → (p : Pattern) (c : LogicPattern)
      → image_of sig names p ≡ Some c → Puts x u c (image_of sig names (with_term x t p))
  put_image sig names x t u ground (variable y) c is =
      subst (λ (r : LogicPattern). Puts x u r (image_of sig names (with_term x t (variable y))))
      (some_same (var y) c is) (go (x == y) refl)
    where
      go : (b : Bool) → (x == y) ≡ b
          → Puts x u (var y) (image_of sig names (if b then ground_pattern t else variable y))
      go true e =
          (u, ap (λ (k : Bool). if k then Some u else Some (var y)) e, ground)
      go false e =
          (var y, ap (λ (k : Bool). if k then Some u else Some (var y)) e, refl)
  put_image sig names x t u ground (domain_value s v) c is =
      fresh_put x u c (image_of sig names (domain_value s v))
      (constant_fresh x (number_in_names names (token_of_value sig s v)) c is) is
  put_image sig names x t u ground (application f ps) c is =
      put_applied sig names x t u ground ps (symbol_image sig names f) (symbol_image sig names f) c
      (λ h at. fresh_put x u h (symbol_image sig names f) (symbol_fresh sig names x f h at) at) is
  put_image sig names x t u ground (injection a b p) c is =
      app_put x u (injection_image sig names a b) (image_of sig names p)
      (injection_image sig names a b) (image_of sig names (with_term x t p)) c
      (λ h at. fresh_put x u h (injection_image sig names a b)
      (injection_fresh sig names x a b h at) at)
      (λ r at. put_image sig names x t u ground p r at) is
  put_image sig names x t u ground (call f ss ps) c is =
      put_applied sig names x t u ground ps (at_sorts sig names (symbol_image sig names f) ss)
      (at_sorts sig names (symbol_image sig names f) ss) c
      (λ h at. fresh_put x u h (at_sorts sig names (symbol_image sig names f) ss)
      (sorts_fresh sig names x ss (symbol_image sig names f) h (symbol_fresh sig names x f) at) at)
      is

  put_applied : (sig : Signature) (names : List (List ℕ)) (x : ℕ) (t : Tree) (u : LogicPattern)
      → image_of sig names (ground_pattern t) ≡ Some u → (ps : Patterns)
      (o n : Option LogicPattern) (c : LogicPattern)
      → ((h : LogicPattern) → o ≡ Some h → Puts x u h n) → applied sig names o ps ≡ Some c
      → Puts x u c (applied sig names n (all_with_term x t ps))
  put_applied sig names x t u ground no_pattern o n c head is = head c is
  put_applied sig names x t u ground (more_patterns p ps) o n c head is =
      put_applied sig names x t u ground ps (both app o (image_of sig names p))
      (both app n (image_of sig names (with_term x t p))) c
      (λ h at. app_put x u o (image_of sig names p) n (image_of sig names (with_term x t p)) h head
      (λ r k. put_image sig names x t u ground p r k) at) is

-- ---- free variables

neither : {A B : Type 0} → (A → ⊥) → (B → ⊥) → A ⊎ B → ⊥
neither f g (inl a) = f a
neither f g (inr b) = g b

-- a variable that is not free in the image does not occur in the pattern
mutual
  image_free : (sig : Signature) (names : List (List ℕ)) (x : ℕ) (p : Pattern) (c : LogicPattern)
      → image_of sig names p ≡ Some c → IsFresh x c → OccursIn x p → ⊥
  image_free sig names x (variable y) c is free h =
      let kept : IsFresh x (var y) = subst (IsFresh x) (sym (some_same (var y) c is)) free in
      false≢true (sym (ap std.not (eq-eqb x y h)) ∙ kept)
  image_free sig names x (domain_value s v) c is free h = h
  image_free sig names x (application f ps) c is free h =
      (applied_free sig names x ps (symbol_image sig names f) c is free).3 h
  image_free sig names x (injection a b p) c is free h =
      let w : (f : LogicPattern) × (r : LogicPattern) × (injection_image sig names a b ≡ Some f)
      × (image_of sig names p ≡ Some r) × (c ≡ app f r) =
      both_some app (injection_image sig names a b) (image_of sig names p) c is in
      let parts : (fresh x w.0 ≡ true) × (fresh x w.1 ≡ true) =
      split_true (fresh x w.0) (fresh x w.1) (subst (IsFresh x) w.4 free) in
      image_free sig names x p w.1 w.3 parts.1 h
  image_free sig names x (call f ss ps) c is free h =
      (applied_free sig names x ps (at_sorts sig names (symbol_image sig names f) ss) c is free).3 h

  applied_free : (sig : Signature) (names : List (List ℕ)) (x : ℕ) (ps : Patterns)
      (o : Option LogicPattern) (c : LogicPattern) → applied sig names o ps ≡ Some c → IsFresh x c
      → (h : LogicPattern) × (o ≡ Some h) × IsFresh x h × (OccursInSome x ps → ⊥)
  applied_free sig names x no_pattern o c is free = (c, is, free, λ none. none)
  applied_free sig names x (more_patterns p ps) o c is free =
      let w : (h : LogicPattern) × (both app o (image_of sig names p) ≡ Some h) × IsFresh x h
      × (OccursInSome x ps → ⊥) =
      applied_free sig names x ps (both app o (image_of sig names p)) c is free in
      let v : (f : LogicPattern) × (r : LogicPattern) × (o ≡ Some f)
      × (image_of sig names p ≡ Some r) × (w.0 ≡ app f r) =
      both_some app o (image_of sig names p) w.0 w.1 in
      let parts : (fresh x v.0 ≡ true) × (fresh x v.1 ≡ true) =
      split_true (fresh x v.0) (fresh x v.1) (subst (IsFresh x) v.4 w.2) in (
        v.0,
        v.2,
        parts.0,
        neither {A = OccursIn x p} {B = OccursInSome x ps}
            (λ h. image_free sig names x p v.1 v.3 parts.1 h) w.3,
      )

-- ---- a variable for itself

bound_put : (f : LogicPattern → LogicPattern) (b d e : Bool) (p : LogicPattern)
    (o : Option LogicPattern) → (b ≡ false → e ≡ true) → o ≡ Some p
    → (if b || d then Some (f p) else (if e then option_map f o else None)) ≡ Some (f p)
bound_put f true d e p o h is = refl
bound_put f false true e p o h is = refl
bound_put f false false true p o h is = ap (option_map f) is
bound_put f false false false p o h is = absurd (false≢true (h refl))

other_way : (x y : ℕ) → (x == y) ≡ false → std.not (y == x) ≡ true
other_way x y e =
    ap std.not (not_equal y x (λ same. false≢true (sym e ∙ eq-eqb x y (sym same))))

-- a variable in place of itself changes nothing
pub itself_put : (x : ℕ) (p : LogicPattern) → substituted p x (var x) ≡ Some p
itself_put x (logic.nullary c) = refl
itself_put x (logic.binary c p q) =
    both_put (logic.binary c) (substituted p x (var x)) (substituted q x (var x)) p q
    (itself_put x p) (itself_put x q)
itself_put x (logic.unary c p) = ap (option_map (logic.unary c)) (itself_put x p)
itself_put x (logic.sorted c p s) =
    ap (option_map (λ (r : LogicPattern). logic.sorted c r s)) (itself_put x p)
itself_put x (logic.quantified c y s p) =
    bound_put (logic.quantified c y s) (x == y) (fresh x p) (fresh y (var x)) p
    (substituted p x (var x)) (other_way x y) (itself_put x p)
itself_put x (logic.var y) = go (x == y) refl
  where
    go : (b : Bool) → (x == y) ≡ b → (if b then Some (var x) else Some (var y)) ≡ Some (var y)
    go true e = ap (λ (z : ℕ). Some (var z)) (eqb-true x y e)
    go false e = refl
itself_put x (logic.meta i) = refl
itself_put x (logic.constant c) = refl

-- ---- conditions

-- the image of a condition with the term in place of the variable
pub put_condition : (sig : Signature) (names : List (List ℕ)) (x : ℕ) (t : Tree) (u : LogicPattern)
    (p : Pattern) (s : ℕ) (c : LogicPattern) → image_of sig names (ground_pattern t) ≡ Some u
    → sentence_image sig names (is_true p s) ≡ Some c
    → Puts x u c (sentence_image sig names (is_true (with_term x t p) s))
put_condition sig names x t u p s c ground is =
    let w : (l : LogicPattern) × (r : LogicPattern) × (image_of sig names p ≡ Some l)
    × (image_of sig names (domain_value s (truth true)) ≡ Some r) × (c ≡ logic.equal l r) =
    both_some logic.equal (image_of sig names p) (image_of sig names (domain_value s (truth true)))
    c is in
    let left : Puts x u w.0 (image_of sig names (with_term x t p)) =
    put_image sig names x t u ground p w.0 w.2 in
    let right : Puts x u w.1 (image_of sig names (domain_value s (truth true))) =
    fresh_put x u w.1 (image_of sig names (domain_value s (truth true)))
    (constant_fresh x (number_in_names names (token_of_value sig s (truth true))) w.1 w.3) w.3 in
    subst
    (λ (r : LogicPattern). Puts x u r (sentence_image sig names (is_true (with_term x t p) s)))
    (sym w.4) (
      logic.equal left.0 right.0,
      both_put logic.equal (substituted w.0 x u) (substituted w.1 x u) left.0 right.0 left.1
          right.1,
      both_made logic.equal (image_of sig names (with_term x t p))
          (image_of sig names (domain_value s (truth true))) left.0 right.0 left.2 right.2,
    )

-- a variable that is not free in the image of a condition does not occur in it
pub condition_free : (sig : Signature) (names : List (List ℕ)) (x : ℕ) (p : Pattern) (s : ℕ)
    (c : LogicPattern) → sentence_image sig names (is_true p s) ≡ Some c → IsFresh x c
    → OccursIn x p → ⊥
condition_free sig names x p s c is free h =
    let w : (l : LogicPattern) × (r : LogicPattern) × (image_of sig names p ≡ Some l)
    × (image_of sig names (domain_value s (truth true)) ≡ Some r) × (c ≡ logic.equal l r) =
    both_some logic.equal (image_of sig names p) (image_of sig names (domain_value s (truth true)))
    c is in
    let parts : (fresh x w.0 ≡ true) × (fresh x w.1 ≡ true) =
    split_true (fresh x w.0) (fresh x w.1) (subst (IsFresh x) w.4 free) in
    image_free sig names x p w.0 w.2 parts.0 h
