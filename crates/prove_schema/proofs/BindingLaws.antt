-- The terms that a substitution binds to the variables of a schema, with their images.
use Rattle.std.proofs.Common.{◌≡◌, ◌+◌, ℕ, zero, suc, List, [], ◌∷◌, Option, Some, None, length}
use Rattle.std.proofs.Common.{slice_get, refl, sym, ◌∙◌, ap, arith}
use Rattle.std.specs.Prelude.{Contains}
use Rattle.ml_pat.specs.Patterns.{Pattern, fun, meta}
use Rattle.ml_kernel.specs.Theorems.{Theorem}
use Rattle.ml_derived.specs.Scopes.{Scope, AreWithin}
use Rattle.term_core.specs.Terms.{Tree, IsNormal}
use Rattle.term_core.specs.Patterns.{Pattern as RulePattern, variable, domain_value, application}
use Rattle.term_core.specs.Patterns.{injection, call, ground_pattern}
use Rattle.rule_core.specs.Sorting.{HasSort, IsTermOf, IsSymbol, sort_at}
use Rattle.rule_core.specs.Matching.{RespectsSorts}
use Rattle.rule_core.specs.declared.signature.Signature.{Signature}
use Rattle.rule_core.specs.declared.signature.SymInfo.{SymInfo}
use Rattle.ml_image.specs.Images.{image_of, sort_image}
use Rattle.ml_image.proofs.ImageLaws.{none_some, some_same}
use Rattle.prove_term.specs.Contexts.{Context, HasContext}
use Rattle.prove_term.specs.Functional.{SaysFunctional}
use Rattle.prove_schema.specs.Schemas.{meta_facts}
use Rattle.prove_schema.specs.Using.{AreFacts, IsProved, by_fact}
use Rattle.prove_schema.specs.Elements.{AreElementsFor}
use Rattle.prove_schema.proofs.ClosingLaws.{AreNumbers}
use Rattle.prove_schema.proofs.InstanceLaws.{AreImages}

-- ---- sorts

symbol_unique : (sig : Signature) (f : ℕ) (info other : SymInfo) → IsSymbol sig f info
    → IsSymbol sig f other → info ≡ other
symbol_unique sig f info other h k =
    ap (λ (e : List ℕ × SymInfo). e.1) (some_same (h.0, info) (k.0, other) (sym h.1 ∙ k.1))

-- a pattern has only one sort
pub sort_unique : (sig : Signature) (vars : List ℕ) (p : RulePattern) (s r : ℕ)
    → HasSort sig vars p s → HasSort sig vars p r → s ≡ r
sort_unique sig vars (variable x) s r h k = some_same s r (sym h ∙ k)
sort_unique sig vars (domain_value t v) s r h k = sym h.0 ∙ k.0
sort_unique sig vars (application f ps) s r h k =
    some_same s r (sym h.3
    ∙ ap (λ (i : SymInfo). sort_at [] i.result) (symbol_unique sig f h.0 k.0 h.1 k.1) ∙ k.3)
sort_unique sig vars (injection a b p) s r h k = sym h.1 ∙ k.1
sort_unique sig vars (call f ss ps) s r h k =
    some_same s r (sym h.5
    ∙ ap (λ (i : SymInfo). sort_at ss i.result) (symbol_unique sig f h.0 k.0 h.1 k.1) ∙ k.5)

-- ---- the terms and their images

-- the facts on the terms, with their images
pub record HasImages (cx : Context) (theta : List (Option Tree)) (numbers : List ℕ)
    (ts : List Theorem) : Type 0 where
  pub patterns : List Pattern
  pub facts : AreFacts patterns numbers ts
  pub images : AreImages cx.program.sig cx.names theta patterns

pub elements_have : (cx : Context) (theta : List (Option Tree)) (vars numbers : List ℕ)
    (ts : List Theorem) → AreElementsFor cx theta ts
    → AreNumbers cx.program.sig cx.names vars numbers → RespectsSorts cx.program.sig vars theta
    → length theta ≡ length vars → HasImages cx theta numbers ts
elements_have cx [] [] [] [] are nums respects room = record {
  patterns = [];
  facts = tt;
  images = λ x t bound. absurd (none_some t bound);
}
elements_have cx [] [] [] (t ∷ ts) are nums respects room = absurd are
elements_have cx [] [] (n ∷ ns) ts are nums respects room = absurd nums
elements_have cx [] (s ∷ ss) ns ts are nums respects room = absurd (omega (arith, room))
elements_have cx (o ∷ theta) [] ns ts are nums respects room = absurd (omega (arith, room))
elements_have cx (o ∷ theta) (s ∷ ss) [] ts are nums respects room = absurd nums
elements_have cx (o ∷ theta) (s ∷ ss) (n ∷ ns) [] are nums respects room = absurd are
elements_have cx (None ∷ theta) (s ∷ ss) (n ∷ ns) (t ∷ ts) are nums respects room = absurd are.0
elements_have cx (Some u ∷ theta) (s ∷ ss) (n ∷ ns) (t ∷ ts) are nums respects room =
    let below : HasImages cx theta ns ts =
    elements_have cx theta ss ns ts are.1 nums.1 (λ x v bound. respects (suc x) v bound)
    (omega (arith, room)) in
    let f : SaysFunctional cx u t.conclusion = are.0.0 in
    let known : IsNormal u × ((sort : ℕ) × (Some s ≡ Some sort) × IsTermOf cx.program.sig u sort) =
    respects zero u refl in
    let sort_is : f.sort ≡ s =
    sort_unique cx.program.sig [] (ground_pattern u) f.sort known.1.0 f.sorted known.1.2
    ∙ sym (some_same s known.1.0 known.1.1) in
    let number_is : f.number ≡ n =
    some_same f.number n
    (sym f.is_number ∙ ap (sort_image cx.program.sig cx.names) sort_is ∙ nums.0) in
    record {
      patterns = f.image ∷ below.patterns;
      facts = (f.says ∙ ap (fun f.image) number_is, f.no_variable, below.facts);
      images = here below.patterns f.image f.is_image below.images;
    }
  where
    here : (qs : List Pattern) (q : Pattern)
        → image_of cx.program.sig cx.names (ground_pattern u) ≡ Some q
        → AreImages cx.program.sig cx.names theta qs
        → AreImages cx.program.sig cx.names (Some u ∷ theta) (q ∷ qs)
    here qs q is below zero v bound = (
      q,
      (
        refl,
        ap (λ (w : Tree). image_of cx.program.sig cx.names (ground_pattern w))
            (sym (some_same u v bound)) ∙ is,
      ),
    )
    here qs q is below (suc x) v bound = below x v bound

-- a scope that has a context has the facts
pub elements_within : (s : Scope) (cx : Context) (theta : List (Option Tree)) (ts : List Theorem)
    → HasContext s cx → AreElementsFor cx theta ts → AreWithin s ts
elements_within s cx [] [] has are = tt
elements_within s cx [] (t ∷ ts) has are = absurd are
elements_within s cx (o ∷ theta) [] has are = absurd are
elements_within s cx (None ∷ theta) (t ∷ ts) has are = absurd are.0
elements_within s cx (Some u ∷ theta) (t ∷ ts) has are =
    (are.0.1 s has, elements_within s cx theta ts has are.1)

-- ---- facts on pattern variables

-- each fact is about one of the pattern variables
pub meta_fact : (k : ℕ) (ns : List ℕ) (p : Pattern) → Contains (meta_facts k ns) p
    → (x : ℕ) × (n : ℕ) × (slice_get ns x ≡ Some n) × (p ≡ fun (meta (k + x)) n)
meta_fact k [] p there = absurd (omega (arith, there.1))
meta_fact k (n ∷ ns) p (zero, low, is) =
    let same : k ≡ k + zero = omega arith in
    (zero, n, refl, sym is ∙ ap (λ (y : ℕ). fun (meta y) n) same)
meta_fact k (n ∷ ns) p (suc i, low, is) =
    let w : (x : ℕ) × (m : ℕ) × (slice_get ns x ≡ Some m) × (p ≡ fun (meta (k + 1 + x)) m) =
    meta_fact (k + 1) ns p (i, omega (arith, low), is) in
    let same : k + 1 + w.0 ≡ k + suc w.0 = omega arith in
    (suc w.0, w.1, w.2, w.3 ∙ ap (λ (y : ℕ). fun (meta y) w.1) same)

pub first_meta_fact : (ns : List ℕ) (p : Pattern) → Contains (meta_facts 0 ns) p
    → (x : ℕ) × (n : ℕ) × (slice_get ns x ≡ Some n) × (p ≡ fun (meta x) n)
first_meta_fact ns p there =
    let w : (x : ℕ) × (n : ℕ) × (slice_get ns x ≡ Some n) × (p ≡ fun (meta (0 + x)) n) =
    meta_fact 0 ns p there in
    let same : 0 + w.0 ≡ w.0 = omega arith in
    (w.0, w.1, w.2, w.3 ∙ ap (λ (y : ℕ). fun (meta y) w.1) same)

pub proved_fact : (qs : List Pattern) (ns : List ℕ) (others : List Theorem) (h : Pattern)
    → Contains (meta_facts 0 ns) h → IsProved qs ns others h
proved_fact qs ns others h there =
    let w : (x : ℕ) × (n : ℕ) × (slice_get ns x ≡ Some n) × (h ≡ fun (meta x) n) =
    first_meta_fact ns h there in
    by_fact w.0 w.1 w.2 w.3
