-- The patterns that state a value of a function with a hook.
use Rattle.std.proofs.Common.{◌≡◌, ◌≢◌, ℕ, List, [], ◌∷◌, Option, Some, Ok}
use Rattle.std.proofs.Common.{refl, sym, ◌∙◌, ap, subst}
use Rattle.ml_pat.specs.Patterns.{Pattern, equal, app, constant}
use Rattle.term_core.specs.Terms.{DomainValue}
use Rattle.term_core.specs.Patterns.{domain_value, call}
use Rattle.term_core.specs.Values.{scalar_value}
use Rattle.term_core.specs.HookValues.{hook_value}
use Rattle.term_core.specs.declared.values.Scalar.{Scalar}
use Rattle.rule_core.specs.declared.signature.Signature.{Signature}
use Rattle.rule_core.specs.declared.signature.SymInfo.{SymInfo}
use Rattle.rule_core.specs.declared.signature.SymKind.TheVariants.{Hooked}
use Rattle.ml_image.specs.OwnAxioms.{Declares}
use Rattle.ml_image.specs.Images.{both, symbol_image, image_of, applied}
use Rattle.ml_image.specs.Sentences.{Sentence, term, equals, sentence_image, IsImageOf}
use Rattle.ml_image.specs.TrueFacts.{SaysHook, HaveValues, value_patterns}
use Rattle.ml_image.proofs.ImageLaws.{some_same}
use Rattle.true_facts.specs.Only.{IsOnly}
use Rattle.true_facts.specs.Values.{IsValueAt}
use Rattle.true_facts.specs.Hooks.{IsComputed, IsNumberAt}
use Rattle.true_facts.specs.declared.hook_facts.Sorted.{Sorted}
use Rattle.true_facts.proofs.BothLaws.{both_parts, both_made, constant_of}
use Rattle.true_facts.proofs.HookCalls.{AreFew, one_argument, two_arguments, IsCalled, called}

abbrev pub IsHookFact : Signature → List (List ℕ) → Pattern → Type 0
IsHookFact sig names p =
    (f : ℕ) × (vs : List DomainValue) × IsImageOf sig names (SaysHook sig f vs) p

-- a call of one argument or of two, with this value
pub data HasCall (sig : Signature) (names : List (List ℕ)) (c : Pattern) (v : ℕ × Scalar)
    : Type 0 where
  call_one : (head q : Pattern) (a : ℕ × Scalar) → c ≡ app head q → IsNumberAt sig names q a
      → IsComputed sig names head (a.0 ∷ []) (scalar_value a.1 ∷ []) v.0 (scalar_value v.1)
      → HasCall sig names c v
  call_two : (head q r : Pattern) (a b : ℕ × Scalar) → c ≡ app (app head q) r
      → IsNumberAt sig names q a → IsNumberAt sig names r b
      → IsComputed sig names head (a.0 ∷ (b.0 ∷ [])) (scalar_value a.1 ∷ (scalar_value b.1 ∷ []))
      v.0 (scalar_value v.1) → HasCall sig names c v

pub record HasHookShape (sig : Signature) (names : List (List ℕ)) (p : Pattern) : Type 0 where
  pub calls : Pattern
  pub made : Pattern
  pub is_equal : p ≡ equal calls made
  pub value : ℕ × Scalar
  pub is_value : IsNumberAt sig names made value
  pub shape : HasCall sig names calls value

-- ---- from a fact to its pattern

sorts_one : (sig : Signature) (sorts : List ℕ) (v : DomainValue)
    → HaveValues sig sorts (v ∷ []) → (s : ℕ) × (sorts ≡ s ∷ [])
sorts_one sig [] v h = absurd h
sorts_one sig (s ∷ []) v h = (s, refl)
sorts_one sig (s ∷ (t ∷ ts)) v h = absurd h.1

sorts_two : (sig : Signature) (sorts : List ℕ) (v w : DomainValue)
    → HaveValues sig sorts (v ∷ (w ∷ [])) → (s : ℕ) × (t : ℕ) × (sorts ≡ s ∷ (t ∷ []))
sorts_two sig [] v w h = absurd h
sorts_two sig (s ∷ []) v w h = absurd h.1
sorts_two sig (s ∷ (t ∷ [])) v w h = (s, t, refl)
sorts_two sig (s ∷ (t ∷ (u ∷ us))) v w h = absurd h.1.1

shape_one : (sig : Signature) (names : List (List ℕ)) (c : Pattern) (f s sort row : ℕ)
    (info : SymInfo) (a m : Scalar) → Declares sig f info (s ∷ []) sort
    → info.kind ≡ Hooked (record { 0 = row }) → HaveValues sig (s ∷ []) (scalar_value a ∷ [])
    → hook_value row (scalar_value a ∷ []) ≡ Some (Ok (scalar_value m))
    → image_of sig names (call f [] (value_patterns (s ∷ []) (scalar_value a ∷ []))) ≡ Some c
    → HasCall sig names c (sort, m)
shape_one sig names c f s sort row info a m declared kind has answers image =
    let parts = both_parts app (symbol_image sig names f)
    (image_of sig names (domain_value s (scalar_value a))) c image in
    call_one parts.0 parts.1 (s, a) parts.4 (has.0, parts.3)
    (row, (f, info, parts.2, declared, kind), answers)

shape_two : (sig : Signature) (names : List (List ℕ)) (c : Pattern) (f s t sort row : ℕ)
    (info : SymInfo) (a b m : Scalar) → Declares sig f info (s ∷ (t ∷ [])) sort
    → info.kind ≡ Hooked (record { 0 = row })
    → HaveValues sig (s ∷ (t ∷ [])) (scalar_value a ∷ (scalar_value b ∷ []))
    → hook_value row (scalar_value a ∷ (scalar_value b ∷ [])) ≡ Some (Ok (scalar_value m))
    → image_of sig names (call f []
    (value_patterns (s ∷ (t ∷ [])) (scalar_value a ∷ (scalar_value b ∷ [])))) ≡ Some c
    → HasCall sig names c (sort, m)
shape_two sig names c f s t sort row info a b m declared kind has answers image =
    let outer = both_parts app (both app (symbol_image sig names f)
    (image_of sig names (domain_value s (scalar_value a))))
    (image_of sig names (domain_value t (scalar_value b))) c image in
    let inner = both_parts app (symbol_image sig names f)
    (image_of sig names (domain_value s (scalar_value a))) outer.0 outer.2 in
    call_two inner.0 inner.1 outer.1 (s, a) (t, b)
    (outer.4 ∙ ap (λ (h : Pattern). app h outer.1) inner.4) (has.0, inner.3) (has.1.0, outer.3)
    (row, (f, info, inner.2, declared, kind), answers)

shape_by : (sig : Signature) (names : List (List ℕ)) (c : Pattern) (f : ℕ) (vs : List DomainValue)
    (p : Sentence) (h : SaysHook sig f vs p) (m : Scalar) → h.value ≡ scalar_value m → AreFew vs
    → image_of sig names (call f [] (value_patterns h.sorts vs)) ≡ Some c
    → HasCall sig names c (h.sort, m)
shape_by sig names c f vs p h m made (one_argument a is) image =
    let has : HaveValues sig h.sorts (scalar_value a ∷ []) =
    subst (HaveValues sig h.sorts) is h.arguments in
    let sorts = sorts_one sig h.sorts (scalar_value a) has in
    shape_one sig names c f sorts.0 h.sort h.row h.info a m
    (subst (λ (ss : List ℕ). Declares sig f h.info ss h.sort) sorts.1 h.declared) h.hooked
    (subst (λ (ss : List ℕ). HaveValues sig ss (scalar_value a ∷ [])) sorts.1 has)
    (ap (hook_value h.row) (sym is) ∙ h.answers ∙ ap (λ (v : DomainValue). Some (Ok v)) made)
    (ap (λ (ss : List ℕ). image_of sig names (call f [] (value_patterns ss (scalar_value a ∷ []))))
    (sym sorts.1)
    ∙ ap (λ (us : List DomainValue). image_of sig names (call f [] (value_patterns h.sorts us)))
    (sym is) ∙ image)
shape_by sig names c f vs p h m made (two_arguments a b is) image =
    let has : HaveValues sig h.sorts (scalar_value a ∷ (scalar_value b ∷ [])) =
    subst (HaveValues sig h.sorts) is h.arguments in
    let sorts = sorts_two sig h.sorts (scalar_value a) (scalar_value b) has in
    shape_two sig names c f sorts.0 sorts.1 h.sort h.row h.info a b m
    (subst (λ (ss : List ℕ). Declares sig f h.info ss h.sort) sorts.2 h.declared) h.hooked
    (subst (λ (ss : List ℕ). HaveValues sig ss (scalar_value a ∷ (scalar_value b ∷ []))) sorts.2
    has)
    (ap (hook_value h.row) (sym is) ∙ h.answers ∙ ap (λ (v : DomainValue). Some (Ok v)) made)
    (ap (λ (ss : List ℕ). image_of sig names (call f []
    (value_patterns ss (scalar_value a ∷ (scalar_value b ∷ []))))) (sym sorts.2)
    ∙ ap (λ (us : List DomainValue). image_of sig names (call f [] (value_patterns h.sorts us)))
    (sym is) ∙ image)

pub hook_shape : (sig : Signature) (names : List (List ℕ)) (p : Pattern) → IsHookFact sig names p
    → HasHookShape sig names p
hook_shape sig names p (f, vs, (s, h, image)) =
    let whole : both equal (image_of sig names (call f [] (value_patterns h.sorts vs)))
    (image_of sig names (domain_value h.sort h.value)) ≡ Some p =
    ap (sentence_image sig names) (sym h.says) ∙ image in
    let parts = both_parts equal (image_of sig names (call f [] (value_patterns h.sorts vs)))
    (image_of sig names (domain_value h.sort h.value)) p whole in
    let calls : IsCalled vs h.value = called h.row vs h.value h.answers in
    record {
      calls = parts.0;
      made = parts.1;
      is_equal = parts.4;
      value = (h.sort, calls.made);
      is_value =
          subst (λ (v : DomainValue). IsValueAt sig names parts.1 (h.sort, v)) calls.is_made
          (h.has, parts.3);
      shape =
          shape_by sig names parts.0 f vs s h calls.made calls.is_made calls.arguments parts.2;
    }

-- ---- from a pattern to its fact

pub fact_one : (sig : Signature) (names : List (List ℕ)) (p c made head q : Pattern)
    (a v : ℕ × Scalar) → p ≡ equal c made → c ≡ app head q → IsNumberAt sig names made v
    → IsNumberAt sig names q a
    → IsComputed sig names head (a.0 ∷ []) (scalar_value a.1 ∷ []) v.0 (scalar_value v.1)
    → IsHookFact sig names p
fact_one sig names p c made head q a v is applied value arg
    (row, (f, info, image, declared, kind), answers) = (
      f,
      scalar_value a.1 ∷ [],
      (
        equals (term (call f [] (value_patterns (a.0 ∷ []) (scalar_value a.1 ∷ []))))
            (term (domain_value v.0 (scalar_value v.1))),
        record {
          info = info;
          sorts = a.0 ∷ [];
          sort = v.0;
          declared = declared;
          row = row;
          hooked = kind;
          arguments = (arg.0, tt);
          value = scalar_value v.1;
          answers = answers;
          has = value.0;
          says = refl;
        },
        both_made equal (both app (symbol_image sig names f)
            (image_of sig names (domain_value a.0 (scalar_value a.1))))
            (image_of sig names (domain_value v.0 (scalar_value v.1))) (app head q) made
            (both_made app (symbol_image sig names f)
            (image_of sig names (domain_value a.0 (scalar_value a.1))) head q image arg.1) value.1
            ∙ ap (λ (r : Pattern). Some (equal r made)) (sym applied)
            ∙ ap (λ (r : Pattern). Some r) (sym is),
      ),
    )

pub fact_two : (sig : Signature) (names : List (List ℕ)) (p c made rest head q r : Pattern)
    (a b v : ℕ × Scalar) → p ≡ equal c made → c ≡ app rest r → rest ≡ app head q
    → IsNumberAt sig names made v → IsNumberAt sig names q a → IsNumberAt sig names r b
    → IsComputed sig names head (a.0 ∷ (b.0 ∷ [])) (scalar_value a.1 ∷ (scalar_value b.1 ∷ []))
    v.0 (scalar_value v.1) → IsHookFact sig names p
fact_two sig names p c made rest head q r a b v is outer inner value first second
    (row, (f, info, image, declared, kind), answers) = (
      f,
      scalar_value a.1 ∷ (scalar_value b.1 ∷ []),
      (
        equals (term (call f [] (value_patterns (a.0 ∷ (b.0 ∷ []))
            (scalar_value a.1 ∷ (scalar_value b.1 ∷ [])))))
            (term (domain_value v.0 (scalar_value v.1))),
        record {
          info = info;
          sorts = a.0 ∷ (b.0 ∷ []);
          sort = v.0;
          declared = declared;
          row = row;
          hooked = kind;
          arguments = (first.0, (second.0, tt));
          value = scalar_value v.1;
          answers = answers;
          has = value.0;
          says = refl;
        },
        both_made equal (both app (both app (symbol_image sig names f)
            (image_of sig names (domain_value a.0 (scalar_value a.1))))
            (image_of sig names (domain_value b.0 (scalar_value b.1))))
            (image_of sig names (domain_value v.0 (scalar_value v.1))) (app (app head q) r) made
            (both_made app (both app (symbol_image sig names f)
            (image_of sig names (domain_value a.0 (scalar_value a.1))))
            (image_of sig names (domain_value b.0 (scalar_value b.1))) (app head q) r
            (both_made app (symbol_image sig names f)
            (image_of sig names (domain_value a.0 (scalar_value a.1))) head q image first.1)
            second.1)
            value.1
            ∙ ap (λ (h : Pattern). Some (equal (app h r) made)) (sym inner)
            ∙ ap (λ (h : Pattern). Some (equal h made)) (sym outer)
            ∙ ap (λ (h : Pattern). Some h) (sym is),
      ),
    )

-- ---- what the parts of such a pattern are

-- the value
pub value_there : (sig : Signature) (names : List (List ℕ)) (p c made : Pattern)
    (o : Option (ℕ × Scalar)) → p ≡ equal c made → IsOnly (IsNumberAt sig names made) o
    → IsHookFact sig names p
    → (v : ℕ × Scalar) × (o ≡ Some v) × HasCall sig names c v
value_there sig names p c made o is one fact =
    let h : HasHookShape sig names p = hook_shape sig names p fact in
    let same : equal c made ≡ equal h.calls h.made = sym is ∙ h.is_equal in
    let lefts : c ≡ h.calls = cc in
    let rights : made ≡ h.made = cc in (
      h.value,
      (one h.value).0
          (subst (λ (q : Pattern). IsNumberAt sig names q h.value) (sym rights) h.is_value),
      subst (λ (q : Pattern). HasCall sig names q h.value) (sym lefts) h.shape,
    )

pub no_call : (sig : Signature) (names : List (List ℕ)) (c : Pattern) (v : ℕ × Scalar)
    → ((q r : Pattern) → c ≢ app q r) → HasCall sig names c v → ⊥
no_call sig names c v none (call_one head q a is arg computed) = none head q is
no_call sig names c v none (call_two head q r a b is first second computed) = none (app head q) r is

-- the last argument
pub last_there : (sig : Signature) (names : List (List ℕ)) (c rest arg : Pattern) (v : ℕ × Scalar)
    (o : Option (ℕ × Scalar)) → c ≡ app rest arg → IsOnly (IsNumberAt sig names arg) o
    → HasCall sig names c v → (a : ℕ × Scalar) × (o ≡ Some a)
last_there sig names c rest arg v o is one (call_one head q a applied has computed) =
    let same : app rest arg ≡ app head q = sym is ∙ applied in
    let args : arg ≡ q = cc in
    (a, (one a).0 (subst (λ (x : Pattern). IsNumberAt sig names x a) (sym args) has))
last_there sig names c rest arg v o is one (call_two head q r a b applied first second computed) =
    let same : app rest arg ≡ app (app head q) r = sym is ∙ applied in
    let args : arg ≡ r = cc in
    (b, (one b).0 (subst (λ (x : Pattern). IsNumberAt sig names x b) (sym args) second))

no_head_app : (sig : Signature) (names : List (List ℕ)) (sorts : List ℕ) (vs : List DomainValue)
    (sort : ℕ) (v : DomainValue) (p q r : Pattern) → IsComputed sig names p sorts vs sort v
    → p ≡ app q r → ⊥
no_head_app sig names sorts vs sort v p q r (row, (f, info, image, declared, kind), answers) is =
    let c = constant_of sig names f p image in
    let bad : constant c.0 ≡ app q r = sym c.1 ∙ is in cc

-- a call of one argument
pub one_there : (sig : Signature) (names : List (List ℕ)) (c rest arg : Pattern)
    (v last : ℕ × Scalar) → c ≡ app rest arg → IsOnly (IsNumberAt sig names arg) (Some last)
    → ((q r : Pattern) → rest ≢ app q r) → HasCall sig names c v
    → IsComputed sig names rest (last.0 ∷ []) (scalar_value last.1 ∷ []) v.0 (scalar_value v.1)
one_there sig names c rest arg v last is one none (call_one head q a applied has computed) =
    let same : app rest arg ≡ app head q = sym is ∙ applied in
    let args : arg ≡ q = cc in
    let heads : rest ≡ head = cc in
    let found : last ≡ a =
    some_same last a
    ((one a).0 (subst (λ (x : Pattern). IsNumberAt sig names x a) (sym args) has)) in
    subst (λ (h : Pattern). IsComputed sig names h (last.0 ∷ []) (scalar_value last.1 ∷ []) v.0
    (scalar_value v.1)) (sym heads)
    (subst (λ (x : ℕ × Scalar). IsComputed sig names head (x.0 ∷ []) (scalar_value x.1 ∷ []) v.0
    (scalar_value v.1)) (sym found) computed)
one_there sig names c rest arg v last is one none
    (call_two head q r a b applied first second computed) =
    let same : app rest arg ≡ app (app head q) r = sym is ∙ applied in
    let heads : rest ≡ app head q = cc in
    absurd (none head q heads)

-- the first of two arguments
pub first_there : (sig : Signature) (names : List (List ℕ)) (c rest arg head other : Pattern)
    (v : ℕ × Scalar) (o : Option (ℕ × Scalar)) → c ≡ app rest arg → rest ≡ app head other
    → IsOnly (IsNumberAt sig names other) o → HasCall sig names c v
    → (a : ℕ × Scalar) × (o ≡ Some a)
first_there sig names c rest arg head other v o is inner one
    (call_one h q a applied has computed) =
    let same : app rest arg ≡ app h q = sym is ∙ applied in
    let heads : h ≡ rest = cc in
    absurd (no_head_app sig names (a.0 ∷ []) (scalar_value a.1 ∷ []) v.0 (scalar_value v.1) h head
    other computed (heads ∙ inner))
first_there sig names c rest arg head other v o is inner one
    (call_two h q r a b applied first second computed) =
    let same : app (app head other) arg ≡ app (app h q) r =
    ap (λ (x : Pattern). app x arg) (sym inner) ∙ sym is ∙ applied in
    let args : other ≡ q = cc in
    (a, (one a).0 (subst (λ (x : Pattern). IsNumberAt sig names x a) (sym args) first))

-- a call of two arguments
pub two_there : (sig : Signature) (names : List (List ℕ)) (c rest arg head other : Pattern)
    (v first last : ℕ × Scalar) → c ≡ app rest arg → rest ≡ app head other
    → IsOnly (IsNumberAt sig names arg) (Some last)
    → IsOnly (IsNumberAt sig names other) (Some first) → HasCall sig names c v
    → IsComputed sig names head (first.0 ∷ (last.0 ∷ []))
    (scalar_value first.1 ∷ (scalar_value last.1 ∷ [])) v.0 (scalar_value v.1)
two_there sig names c rest arg head other v first last is inner one two
    (call_one h q a applied has computed) =
    let same : app rest arg ≡ app h q = sym is ∙ applied in
    let heads : h ≡ rest = cc in
    absurd (no_head_app sig names (a.0 ∷ []) (scalar_value a.1 ∷ []) v.0 (scalar_value v.1) h head
    other computed (heads ∙ inner))
two_there sig names c rest arg head other v first last is inner one two
    (call_two h q r a b applied has also computed) =
    let same : app (app head other) arg ≡ app (app h q) r =
    ap (λ (x : Pattern). app x arg) (sym inner) ∙ sym is ∙ applied in
    let args : other ≡ q = cc in
    let lasts : arg ≡ r = cc in
    let heads : head ≡ h = cc in
    let firsts : first ≡ a =
    some_same first a
    ((two a).0 (subst (λ (x : Pattern). IsNumberAt sig names x a) (sym args) has)) in
    let seconds : last ≡ b =
    some_same last b
    ((one b).0 (subst (λ (x : Pattern). IsNumberAt sig names x b) (sym lasts) also)) in
    subst (λ (x : Pattern). IsComputed sig names x (first.0 ∷ (last.0 ∷ []))
    (scalar_value first.1 ∷ (scalar_value last.1 ∷ [])) v.0 (scalar_value v.1)) (sym heads)
    (subst (λ (x : ℕ × Scalar). IsComputed sig names h (x.0 ∷ (last.0 ∷ []))
    (scalar_value x.1 ∷ (scalar_value last.1 ∷ [])) v.0 (scalar_value v.1)) (sym firsts)
    (subst (λ (x : ℕ × Scalar). IsComputed sig names h (a.0 ∷ (x.0 ∷ []))
    (scalar_value a.1 ∷ (scalar_value x.1 ∷ [])) v.0 (scalar_value v.1)) (sym seconds) computed))

-- the code's number as its sort and its value
abbrev pub pair : Sorted → ℕ × Scalar
pair n = (n.sort.0, n.scalar)

-- the call, if this is the value
pub call_there : (sig : Signature) (names : List (List ℕ)) (p c made : Pattern) (v : ℕ × Scalar)
    → p ≡ equal c made → IsOnly (IsNumberAt sig names made) (Some v) → IsHookFact sig names p
    → HasCall sig names c v
call_there sig names p c made v is one fact =
    let h = value_there sig names p c made (Some v) is one fact in
    subst (λ (w : ℕ × Scalar). HasCall sig names c w) (sym (some_same v h.0 h.1)) h.2
