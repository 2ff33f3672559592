-- What the axioms of injections look like, and the kept lemmas of injections in grown contexts.
use Rattle.std.proofs.Common.{◌≡◌, ◌<◌, ℕ, List, [], ◌∷◌, Option, Some, None, length, sym, ◌∙◌, ap}
use Rattle.std.proofs.Common.{inl}
use Rattle.std.proofs.lemmas.List.Elements.{All-contains}
use Rattle.ml_pat.specs.Patterns.{Pattern}
use Rattle.ml_pat.specs.Patterns as logic
use Rattle.rule_core.specs.Subsorts.{IsBelow, by_pair, by_chain}
use Rattle.rule_core.specs.WellSorted.{IsPair, IsSignature}
use Rattle.rule_core.specs.ProgramView.{theory_of}
use Rattle.rule_core.specs.declared.signature.Signature.{Signature}
use Rattle.ml_image.specs.Tokens.{token_of_symbol, number_in_names}
use Rattle.ml_image.specs.Images.{both, sort_image, some_symbol_image, injection_symbol}
use Rattle.ml_image.specs.Images.{injection_image}
use Rattle.ml_image.specs.Sentences.{sentence_image, IsImageOf}
use Rattle.ml_image.specs.OwnAxioms.{SaysSubsort, SaysCollapse, subsort, collapse}
use Rattle.ml_image.specs.HasImages.{CanInject}
use Rattle.ml_image.proofs.ImageLaws.{none_some, some_same}
use Rattle.prove_term.specs.Contexts.{Context}
use Rattle.ml_image.specs.Assumed.{IsAssumed}
use Rattle.prove_term.specs.Injections.{SaysInjecting, SaysCollapsing}
use Rattle.prove_term.specs.Numbered.{inject, HasEnds}
use Rattle.prove_term.specs.InjectionTables.{AllowsPair, InjectsBelow}
use Rattle.prove_term.proofs.ImageShapes.{both_some, map_some}

-- ---- images

symbol_shape : (sig : Signature) (names : List (List ℕ)) (o : Option ℕ) (p : Pattern)
    → some_symbol_image sig names o ≡ Some p → (c : ℕ) × (p ≡ logic.constant c)
symbol_shape sig names None p h = absurd (none_some p h)
symbol_shape sig names (Some f) p h =
    let w : (c : ℕ) × (number_in_names names (token_of_symbol sig f) ≡ Some c)
    × (p ≡ logic.constant c) =
    map_some logic.constant (number_in_names names (token_of_symbol sig f)) p h in
    (w.0, w.2)

-- the injection symbol at two sorts
head_shape : (sig : Signature) (names : List (List ℕ)) (a b : ℕ) (h : Pattern)
    → injection_image sig names a b ≡ Some h
    → (e : HasEnds sig names a b)
    × (h ≡ logic.at_sort (logic.at_sort (logic.constant e.symbol) e.lower) e.upper)
head_shape sig names a b h is =
    let o : (x : Pattern) × (t : ℕ) × (both logic.at_sort
    (some_symbol_image sig names (injection_symbol sig)) (sort_image sig names a)
    ≡ Some x) × (sort_image sig names b ≡ Some t) × (h ≡ logic.at_sort x t) =
    both_some logic.at_sort (both logic.at_sort (some_symbol_image sig names (injection_symbol sig))
    (sort_image sig names a)) (sort_image sig names b) h is in
    let i : (x : Pattern) × (s : ℕ) × (some_symbol_image sig names (injection_symbol sig) ≡ Some x)
    × (sort_image sig names a ≡ Some s) × (o.0 ≡ logic.at_sort x s) =
    both_some logic.at_sort (some_symbol_image sig names (injection_symbol sig))
    (sort_image sig names a) o.0 o.2 in
    let c : (c : ℕ) × (i.0 ≡ logic.constant c) =
    symbol_shape sig names (injection_symbol sig) i.0 i.2 in (
      record {
        symbol = c.0;
        is_symbol = i.2 ∙ ap (λ (x : Pattern). Some x) c.1;
        lower = i.1;
        is_lower = i.3;
        upper = o.1;
        is_upper = o.3;
      },
      o.4
          ∙ ap (λ (x : Pattern). logic.at_sort x o.1)
          (i.4 ∙ ap (λ (x : Pattern). logic.at_sort x i.1) c.1),
    )

-- the image of an injection of a pattern
pub injection_shape : (sig : Signature) (names : List (List ℕ)) (a b : ℕ) (q : Option Pattern)
    (p : Pattern) → both logic.app (injection_image sig names a b) q ≡ Some p
    → (e : HasEnds sig names a b) × (r : Pattern) × (q ≡ Some r)
    × (p ≡ inject e.symbol e.lower e.upper r)
injection_shape sig names a b q p is =
    let w : (h : Pattern) × (r : Pattern) × (injection_image sig names a b ≡ Some h) × (q ≡ Some r)
    × (p ≡ logic.app h r) =
    both_some logic.app (injection_image sig names a b) q p is in
    let head : (e : HasEnds sig names a b) ×
    (w.0 ≡ logic.at_sort (logic.at_sort (logic.constant e.symbol) e.lower) e.upper) =
    head_shape sig names a b w.0 w.2 in
    (head.0, w.1, w.3, w.4 ∙ ap (λ (h : Pattern). logic.app h w.1) head.1)

-- the converse
pub head_made : (sig : Signature) (names : List (List ℕ)) (a b : ℕ) (e : HasEnds sig names a b)
    → injection_image sig names a b
    ≡ Some (logic.at_sort (logic.at_sort (logic.constant e.symbol) e.lower) e.upper)
head_made sig names a b e =
    ap (λ (o : Option Pattern). both logic.at_sort (both logic.at_sort o (sort_image sig names a))
    (sort_image sig names b)) e.is_symbol
    ∙ ap (λ (o : Option ℕ). both logic.at_sort
    (both logic.at_sort (Some (logic.constant e.symbol)) o) (sort_image sig names b))
    e.is_lower
    ∙ ap (λ (o : Option ℕ).
    both logic.at_sort (Some (logic.at_sort (logic.constant e.symbol) e.lower)) o)
    e.is_upper

pub injection_made : (sig : Signature) (names : List (List ℕ)) (a b : ℕ) (e : HasEnds sig names a b)
    (q : Option Pattern) (r : Pattern) → q ≡ Some r
    → both logic.app (injection_image sig names a b) q ≡ Some (inject e.symbol e.lower e.upper r)
injection_made sig names a b e q r is =
    ap (λ (o : Option Pattern). both logic.app o q) (head_made sig names a b e)
    ∙ ap (λ (o : Option Pattern). both logic.app
    (Some (logic.at_sort (logic.at_sort (logic.constant e.symbol) e.lower) e.upper)) o) is

same_constant : (c d : ℕ) → logic.constant c ≡ logic.constant d → c ≡ d
same_constant c d h = cc

-- there is only one injection symbol
pub same_symbol : (sig : Signature) (names : List (List ℕ)) (a b d f : ℕ)
    (e : HasEnds sig names a b)
    (g : HasEnds sig names d f) → e.symbol ≡ g.symbol
same_symbol sig names a b d f e g =
    same_constant e.symbol g.symbol (some_same (logic.constant e.symbol) (logic.constant g.symbol)
    (sym e.is_symbol ∙ g.is_symbol))

pub says_injecting : (cx : Context) (a b : ℕ) (p : Pattern)
    → IsImageOf cx.program.sig cx.names (SaysSubsort cx.program.sig a b) p → SaysInjecting cx a b p
says_injecting cx a b p (s, says, is) =
    let sig : Signature = cx.program.sig in
    let inner : Option Pattern =
    both logic.app (injection_image cx.program.sig cx.names a b) (Some (logic.var 0)) in
    let whole : both (logic.all 0) (sort_image cx.program.sig cx.names a) (both (logic.ex 1)
    (sort_image cx.program.sig cx.names b) (both logic.equal (Some (logic.var 1))
    (both logic.app (injection_image cx.program.sig cx.names a b) (Some (logic.var 0))))) ≡
    Some p =
    ap (sentence_image cx.program.sig cx.names) (sym says.says) ∙ is in
    let w : (m : ℕ) × (q : Pattern) × (sort_image cx.program.sig cx.names a ≡ Some m) ×
    (both (logic.ex 1) (sort_image cx.program.sig cx.names b) (both logic.equal
    (Some (logic.var 1))
    (both logic.app (injection_image cx.program.sig cx.names a b) (Some (logic.var 0))))
    ≡ Some q) × (p ≡ logic.all 0 m q) =
    both_some (logic.all 0) (sort_image cx.program.sig cx.names a) (both (logic.ex 1)
    (sort_image cx.program.sig cx.names b) (both logic.equal (Some (logic.var 1))
    (both logic.app (injection_image cx.program.sig cx.names a b) (Some (logic.var 0))))) p
    whole in
    let v : (n : ℕ) × (q : Pattern) × (sort_image cx.program.sig cx.names b ≡ Some n) ×
    (both logic.equal (Some (logic.var 1))
    (both logic.app (injection_image cx.program.sig cx.names a b) (Some (logic.var 0)))
    ≡ Some q) × (w.1 ≡ logic.ex 1 n q) =
    both_some (logic.ex 1) (sort_image cx.program.sig cx.names b) (both logic.equal
    (Some (logic.var 1))
    (both logic.app (injection_image cx.program.sig cx.names a b) (Some (logic.var 0)))) w.1
    w.3 in
    let u : (x : Pattern) × (y : Pattern) × (Some (logic.var 1) ≡ Some x) ×
    (both logic.app (injection_image cx.program.sig cx.names a b) (Some (logic.var 0)) ≡ Some y)
    × (v.1 ≡ logic.equal x y) =
    both_some logic.equal (Some (logic.var 1))
    (both logic.app (injection_image cx.program.sig cx.names a b) (Some (logic.var 0))) v.1
    v.3 in
    let j : (e : HasEnds cx.program.sig cx.names a b) × (r : Pattern) ×
    (Some (logic.var 0) ≡ Some r) × (u.1 ≡ inject e.symbol e.lower e.upper r) =
    injection_shape cx.program.sig cx.names a b (Some (logic.var 0)) u.1 u.3 in
    let lower : w.0 ≡ j.0.lower = some_same w.0 j.0.lower (sym w.2 ∙ j.0.is_lower) in
    let upper : v.0 ≡ j.0.upper = some_same v.0 j.0.upper (sym v.2 ∙ j.0.is_upper) in
    let made : u.1 ≡ inject j.0.symbol j.0.lower j.0.upper (logic.var 0) =
    j.3 ∙ ap (inject j.0.symbol j.0.lower j.0.upper) (sym (some_same (logic.var 0) j.1 j.2)) in
    let same : v.1 ≡ logic.equal (logic.var 1)
    (inject j.0.symbol j.0.lower j.0.upper (logic.var 0)) =
    u.4 ∙ ap (λ (x : Pattern). logic.equal x u.1) (sym (some_same (logic.var 1) u.0 u.2))
    ∙ ap (logic.equal (logic.var 1)) made in
    let some : w.1 ≡ logic.ex 1 j.0.upper
    (logic.equal (logic.var 1) (inject j.0.symbol j.0.lower j.0.upper (logic.var 0))) =
    v.4 ∙ ap (λ (n : ℕ). logic.ex 1 n v.1) upper ∙ ap (logic.ex 1 j.0.upper) same in
    record {
      ends = j.0;
      says = w.4 ∙ ap (λ (m : ℕ). logic.all 0 m w.1) lower ∙ ap (logic.all 0 j.0.lower) some;
    }

pub says_collapsing : (cx : Context) (a b d : ℕ) (p : Pattern)
    → IsImageOf cx.program.sig cx.names (SaysCollapse cx.program.sig a b d) p
    → SaysCollapsing cx a b d p
says_collapsing cx a b d p (s, says, is) =
    let whole : both (logic.all 0) (sort_image cx.program.sig cx.names a) (both logic.equal
    (both logic.app (injection_image cx.program.sig cx.names b d)
    (both logic.app (injection_image cx.program.sig cx.names a b) (Some (logic.var 0))))
    (both logic.app (injection_image cx.program.sig cx.names a d) (Some (logic.var 0)))) ≡
    Some p =
    ap (sentence_image cx.program.sig cx.names) (sym says.says) ∙ is in
    let w : (m : ℕ) × (q : Pattern) × (sort_image cx.program.sig cx.names a ≡ Some m) ×
    (both logic.equal (both logic.app (injection_image cx.program.sig cx.names b d)
    (both logic.app (injection_image cx.program.sig cx.names a b)
    (Some (logic.var 0))))
    (both logic.app (injection_image cx.program.sig cx.names a d) (Some (logic.var 0)))
    ≡ Some q) × (p ≡ logic.all 0 m q) =
    both_some (logic.all 0) (sort_image cx.program.sig cx.names a) (both logic.equal
    (both logic.app (injection_image cx.program.sig cx.names b d)
    (both logic.app (injection_image cx.program.sig cx.names a b) (Some (logic.var 0))))
    (both logic.app (injection_image cx.program.sig cx.names a d) (Some (logic.var 0)))) p
    whole in
    let u : (x : Pattern) × (y : Pattern) × (both logic.app
    (injection_image cx.program.sig cx.names b d)
    (both logic.app (injection_image cx.program.sig cx.names a b) (Some (logic.var 0)))
    ≡ Some x) ×
    (both logic.app (injection_image cx.program.sig cx.names a d) (Some (logic.var 0)) ≡ Some y)
    × (w.1 ≡ logic.equal x y) =
    both_some logic.equal (both logic.app (injection_image cx.program.sig cx.names b d)
    (both logic.app (injection_image cx.program.sig cx.names a b) (Some (logic.var 0))))
    (both logic.app (injection_image cx.program.sig cx.names a d) (Some (logic.var 0))) w.1
    w.3 in
    let second : (e : HasEnds cx.program.sig cx.names b d) × (r : Pattern) ×
    (both logic.app (injection_image cx.program.sig cx.names a b) (Some (logic.var 0)) ≡ Some r)
    × (u.0 ≡ inject e.symbol e.lower e.upper r) =
    injection_shape cx.program.sig cx.names b d
    (both logic.app (injection_image cx.program.sig cx.names a b) (Some (logic.var 0))) u.0
    u.2 in
    let first : (e : HasEnds cx.program.sig cx.names a b) × (r : Pattern) ×
    (Some (logic.var 0) ≡ Some r) × (second.1 ≡ inject e.symbol e.lower e.upper r) =
    injection_shape cx.program.sig cx.names a b (Some (logic.var 0)) second.1 second.2 in
    let once : (e : HasEnds cx.program.sig cx.names a d) × (r : Pattern) ×
    (Some (logic.var 0) ≡ Some r) × (u.1 ≡ inject e.symbol e.lower e.upper r) =
    injection_shape cx.program.sig cx.names a d (Some (logic.var 0)) u.1 u.3 in
    let inner : second.1 ≡ inject first.0.symbol first.0.lower first.0.upper (logic.var 0) =
    first.3
    ∙ ap (inject first.0.symbol first.0.lower first.0.upper)
    (sym (some_same (logic.var 0) first.1 first.2)) in
    let symbol : second.0.symbol ≡ first.0.symbol =
    same_symbol cx.program.sig cx.names b d a b second.0 first.0 in
    let through : second.0.lower ≡ first.0.upper =
    some_same second.0.lower first.0.upper (sym second.0.is_lower ∙ first.0.is_upper) in
    let left : u.0 ≡ inject first.0.symbol first.0.upper second.0.upper
    (inject first.0.symbol first.0.lower first.0.upper (logic.var 0)) =
    second.3 ∙ ap (λ (c : ℕ). inject c second.0.lower second.0.upper second.1) symbol
    ∙ ap (λ (m : ℕ). inject first.0.symbol m second.0.upper second.1) through
    ∙ ap (inject first.0.symbol first.0.upper second.0.upper) inner in
    let symbol' : once.0.symbol ≡ first.0.symbol =
    same_symbol cx.program.sig cx.names a d a b once.0 first.0 in
    let lower' : once.0.lower ≡ first.0.lower =
    some_same once.0.lower first.0.lower (sym once.0.is_lower ∙ first.0.is_lower) in
    let upper' : once.0.upper ≡ second.0.upper =
    some_same once.0.upper second.0.upper (sym once.0.is_upper ∙ second.0.is_upper) in
    let right : u.1 ≡ inject first.0.symbol first.0.lower second.0.upper (logic.var 0) =
    once.3 ∙ ap (λ (c : ℕ). inject c once.0.lower once.0.upper once.1) symbol'
    ∙ ap (λ (m : ℕ). inject first.0.symbol m once.0.upper once.1) lower'
    ∙ ap (λ (m : ℕ). inject first.0.symbol first.0.lower m once.1) upper'
    ∙ ap (inject first.0.symbol first.0.lower second.0.upper)
    (sym (some_same (logic.var 0) once.1 once.2)) in
    let lower : w.0 ≡ first.0.lower = some_same w.0 first.0.lower (sym w.2 ∙ first.0.is_lower) in
    record {
      ends = first.0;
      last = second.0.upper;
      is_last = second.0.is_upper;
      says = w.4 ∙ ap (λ (m : ℕ). logic.all 0 m w.1) lower
          ∙ ap (logic.all 0 first.0.lower) (u.4 ∙ ap (λ (x : Pattern). logic.equal x u.1) left
          ∙ ap (logic.equal (inject first.0.symbol first.0.upper second.0.upper
          (inject first.0.symbol first.0.lower first.0.upper (logic.var 0)))) right);
    }

pub subsort_assumed : (cx : Context) (a b : ℕ) (p : Pattern)
    → IsImageOf cx.program.sig cx.names (SaysSubsort cx.program.sig a b) p
    → IsImageOf cx.program.sig cx.names (IsAssumed (theory_of cx.program)) p
subsort_assumed cx a b p (s, says, is) = (s, inl (subsort a b says), is)

pub collapse_assumed : (cx : Context) (a b d : ℕ) (p : Pattern)
    → IsImageOf cx.program.sig cx.names (SaysCollapse cx.program.sig a b d) p
    → IsImageOf cx.program.sig cx.names (IsAssumed (theory_of cx.program)) p
collapse_assumed cx a b d p (s, says, is) = (s, inl (collapse a b d says), is)

-- ---- sorts along chains

both_sorts : (sig : Signature) (a b : ℕ) → IsSignature sig → IsBelow sig.subsorts a b
    → (a < length sig.sorts) × (b < length sig.sorts)
both_sorts sig a b ok (by_pair stated) =
    All-contains (IsPair sig) sig.subsorts (a, b) ok.pairs stated
both_sorts sig a b ok (by_chain {b = m} stated rest) = (
  (All-contains (IsPair sig) sig.subsorts (a, m) ok.pairs stated).0,
  (both_sorts sig m b ok rest).1,
)

pub can_inject : (sig : Signature) (a b : ℕ) → AllowsPair sig a b → CanInject sig (a ∷ b ∷ [])
can_inject sig a b h =
    let w : (a < length sig.sorts) × (b < length sig.sorts) =
    both_sorts sig a b h.signature (by_pair h.pair) in
    (h.symbol, (w.0, (w.1, tt)))

pub can_inject_below : (sig : Signature) (a b : ℕ) → InjectsBelow sig a b
    → CanInject sig (a ∷ b ∷ [])
can_inject_below sig a b h =
    let w : (a < length sig.sorts) × (b < length sig.sorts) =
    both_sorts sig a b h.signature h.below in
    (h.symbol, (w.0, (w.1, tt)))

pub can_collapse : (sig : Signature) (a b d : ℕ) → IsBelow sig.subsorts a b → InjectsBelow sig b d
    → CanInject sig (a ∷ b ∷ d ∷ [])
can_collapse sig a b d below h =
    let w : (a < length sig.sorts) × (b < length sig.sorts) =
    both_sorts sig a b h.signature below in
    let v : (b < length sig.sorts) × (d < length sig.sorts) =
    both_sorts sig b d h.signature h.below in
    (h.symbol, (w.0, (w.1, (v.1, tt))))
