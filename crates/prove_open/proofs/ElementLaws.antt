-- Variables, values and injections: each is one element of its sort.
use Rattle.std.proofs.Common.{◌≡◌, ℕ, List, [], ◌∷◌, Option, Some, length, refl, sym, ◌∙◌, ap, subst}
use Rattle.ml_pat.specs.Patterns.{Pattern, app, fun, imp, var}
use Rattle.ml_kernel.specs.Theorems.{Theorem}
use Rattle.ml_derived.specs.Scopes.{StaysWithin}
use Rattle.term_core.specs.Terms.{Tree, DomainValue, leaf}
use Rattle.term_core.specs.Patterns.{Pattern as RulePattern, variable, domain_value, injection}
use Rattle.term_core.specs.Patterns.{ground_pattern}
use Rattle.rule_core.specs.Sorting.{HasSort, HasValue, IsTermOf}
use Rattle.rule_core.specs.WellSorted.{IsSignature}
use Rattle.rule_core.specs.declared.rules.Program.{Program}
use Rattle.rule_core.specs.declared.signature.Signature.{Signature}
use Rattle.ml_image.specs.Images.{both, image_of, sort_image}
use Rattle.ml_image.specs.Sentences.{term}
use Rattle.ml_image.proofs.WellSortedLaws.{sorted_has_image}
use Rattle.prove_term.specs.Contexts.{Context, HasGrown, StaysIn}
use Rattle.prove_term.specs.Functional.{SaysFunctional}
use Rattle.prove_term.specs.InjectionTables.{InjectsBelow}
use Rattle.prove_term.proofs.ContextLaws.{image_grown, has_before}
use Rattle.prove_open.specs.Givens.{IsFactOn, IsCovered, IsOverContext}
use Rattle.prove_open.specs.Under.{element}
use Rattle.prove_open.specs.Elements.{IsUnder, IsElementUnder, HasElement, IsElementAt}
use Rattle.prove_open.specs.Elements.{IsInjectedAt, RaisesTo}
use Rattle.prove_open.specs.declared.givens.Given.{Given}
use Rattle.prove_open.proofs.CoverLaws.{covered_below, HasImageAt, has_image, is_under}

some_same : {A : Type 0} (a b : A) → Some a ≡ Some b → a ≡ b
some_same a b e = cc

-- ---- values

pub value_sorted : (sig : Signature) (s : ℕ) (v w : DomainValue) (u : Tree) → u ≡ leaf s v → v ≡ w
    → HasValue sig s w → (sort : ℕ) × IsTermOf sig u sort
value_sorted sig s v w u is same has =
    let here : IsTermOf sig (leaf s v) s =
    (refl, subst (HasValue sig s) (sym same) has) in
    (s, subst (λ (t : Tree). IsTermOf sig t s) (sym is) here)

pub value_under : (old cx : Context) (h : Pattern) (s : ℕ) (v w : DomainValue) (u : Tree)
    (fact t : Theorem) → HasGrown old cx → u ≡ leaf s v → v ≡ w
    → SaysFunctional cx u fact.conclusion → StaysIn cx fact → IsOverContext old h
    → t.conclusion ≡ imp h fact.conclusion → StaysWithin (h ∷ []) (fact ∷ []) t
    → IsUnder cx h (element (domain_value s w) s) t
value_under old cx h s v w u fact t g is same f fact_stays over says stays =
    let whole : u ≡ leaf s w = is ∙ ap (leaf s) same in
    let sorted : IsTermOf cx.program.sig (leaf s w) f.sort =
    subst (λ (x : Tree). IsTermOf cx.program.sig x f.sort) whole f.sorted in
    record {
      says = record {
        image = fun f.image f.number;
        is_image =
            ap
            (λ (o : Option Pattern). both fun o (sort_image cx.program.sig cx.names s))
            (ap (λ (x : Tree). image_of cx.program.sig cx.names (ground_pattern x)) (sym whole)
            ∙ f.is_image)
            ∙ ap (both fun (Some f.image))
            (ap (sort_image cx.program.sig cx.names) sorted.0 ∙ f.is_number);
        says = says ∙ ap (imp h) f.says;
      };
      stays =
          λ scope has. stays scope (over scope (has_before old cx scope g has), tt)
          (fact_stays scope has, tt);
    }

-- ---- variables

pub variable_under : (cx : Context) (sorts : List ℕ) (g : Given) (x : ℕ) (t : Theorem)
    (p : RulePattern) → p ≡ variable x → IsFactOn cx sorts g.hypothesis x t
    → IsElementUnder cx sorts g p t
variable_under cx sorts g x t p is f = λ sort c.
    let sorted : HasSort cx.program.sig sorts (variable x) sort =
    subst (λ (q : RulePattern). HasSort cx.program.sig sorts q sort) is c.sorted in
    let same : sort ≡ f.sort = some_same sort f.sort (sym sorted ∙ f.is_sort) in
    record {
      says = record {
        image = fun (var x) f.number;
        is_image =
            ap
            (λ (q : RulePattern). both fun (image_of cx.program.sig cx.names q)
            (sort_image cx.program.sig cx.names sort)) is
            ∙ ap (both fun (Some (var x)))
            (ap (sort_image cx.program.sig cx.names) same ∙ f.is_number);
        says = f.says;
      };
      stays = f.stays;
    }

-- ---- injections

pub injects : (cx : Context) (sorts : List ℕ) (g : Given) (a b : ℕ) (p : RulePattern)
    → IsSignature cx.program.sig → HasElement cx.program.sig sorts g (injection a b p)
    → InjectsBelow cx.program.sig a b
injects cx sorts g a b p ok (sort, c) = record {
  signature = ok;
  symbol = (sorted_has_image cx.program.sig sorts (injection a b p) sort ok c.sorted).0;
  below = c.sorted.2;
}

pub inner_element : (cx : Context) (sorts : List ℕ) (g : Given) (a b : ℕ) (p : RulePattern)
    (t : Theorem) → HasElement cx.program.sig sorts g (injection a b p)
    → IsElementUnder cx sorts g p t
    → (q : Pattern) × IsElementAt cx g.hypothesis (length sorts) a q t
inner_element cx sorts g a b p t (sort, c) u =
    let below : IsCovered cx.program.sig sorts g p a =
    covered_below cx.program.sig sorts g a b p sort c in
    let at : HasImageAt cx g.hypothesis (length sorts) p a t =
    has_image cx sorts g p a t below (u a below) in
    (at.image, at.element)

pub injected_under : (mid cx : Context) (sorts : List ℕ) (g : Given) (a b : ℕ) (p : RulePattern)
    (fact t : Theorem) → HasGrown mid cx → IsElementUnder mid sorts g p fact
    → RaisesTo mid cx g.hypothesis (length sorts) a b fact t
    → IsElementUnder cx sorts g (injection a b p) t
injected_under mid cx sorts g a b p fact t grown u raises = λ sort c.
    let before : IsCovered mid.program.sig sorts g (injection a b p) sort =
    subst (λ (program : Program). IsCovered program.sig sorts g (injection a b p) sort)
    grown.program c in
    let below : IsCovered mid.program.sig sorts g p a =
    covered_below mid.program.sig sorts g a b p sort before in
    let at : HasImageAt mid g.hypothesis (length sorts) p a fact =
    has_image mid sorts g p a fact below (u a below) in
    let up : IsInjectedAt cx g.hypothesis (length sorts) a b at.image t =
    raises at.image at.element in
    let image : image_of cx.program.sig cx.names p ≡ Some at.image =
    image_grown mid cx (term p) at.image grown at.is_image in
    is_under cx g.hypothesis (length sorts) (injection a b p) sort (app up.head at.image) t
    (ap (λ (o : Option Pattern). both app o (image_of cx.program.sig cx.names p)) up.is_head
    ∙ ap (both app (Some up.head)) image)
    (subst (λ (n : ℕ). IsElementAt cx g.hypothesis (length sorts) n (app up.head at.image) t)
    c.sorted.1 up.injected)
