-- Elements one by one, and a constructor of them.
use Rattle.std.proofs.Common.{◌≡◌, ℕ, suc, List, [], ◌∷◌, ◌++◌, Option, Some, length, map, reverse}
use Rattle.std.proofs.Common.{refl, sym, ◌∙◌, ap, subst, arith, slice_get, get_or}
use Rattle.std.proofs.lemmas.Option.{get_or_from_slice_get}
use Rattle.ml_pat.specs.Patterns.{Pattern, app, fun, constant}
use Rattle.ml_kernel.specs.Lemmas.{instance, instances, HasNoVariable, HaveNoVariables, HasNoMeta}
use Rattle.ml_kernel.specs.Lemmas.{IsMetaBelow, AreMetasBelow}
use Rattle.ml_kernel.specs.Theorems.{Theorem, conclusions, all_hypotheses, AddsNew, IsByLemma}
use Rattle.ml_derived.specs.Scopes.{Scope, IsOver, AreOver, AreWithin}
use Rattle.ml_derived.proofs.RuleLaws.{lemma_within}
use Rattle.term_core.specs.Patterns.{Pattern as RulePattern, Patterns as RulePatterns, application}
use Rattle.term_core.specs.Patterns.{no_pattern, more_patterns}
use Rattle.rule_core.specs.Sorting.{HasSort, HaveSorts, IsSymbol, sort_at}
use Rattle.rule_core.specs.declared.rules.Program.{Program}
use Rattle.rule_core.specs.declared.signature.Signature.{Signature}
use Rattle.rule_core.specs.declared.signature.SymInfo.{SymInfo}
use Rattle.rule_core.specs.declared.signature.SortRef.{SortRef}
use Rattle.ml_image.specs.Images.{both, image_of, applied, sort_image}
use Rattle.ml_image.specs.Sentences.{term, functional}
use Rattle.ml_image.specs.OwnAxioms.{sort_numbered}
use Rattle.ml_image.proofs.ImageLaws.{some_same}
use Rattle.prove_term.specs.Contexts.{Context, HasContext, HasGrown, StaysIn}
use Rattle.prove_term.specs.Schemas.{AreImages, at_metas, meta_facts, facts}
use Rattle.prove_term.specs.Numbered.{AreSortImages}
use Rattle.prove_term.specs.Schemas.{reversed}
use Rattle.prove_term.specs.Applications.{applied_to}
use Rattle.prove_term.specs.Constructing.{IsConstructorAt}
use Rattle.prove_term.specs.Elements.{IsElementAt, IsElement, AreElements, AreGathered, IsSorted}
use Rattle.prove_term.proofs.ContextLaws.{image_grown, has_before, contains_there}
use Rattle.prove_term.proofs.KeptLaws.{sorts_grown, constructor_grown}
use Rattle.prove_term.proofs.ImageShapes.{applied_images, as_many_numbers}
use Rattle.prove_term.proofs.Instances.{reverse-reversed, conclusions-append, instances-reversed}
use Rattle.prove_term.proofs.Instances.{instance-metas, instances-facts, below-metas, below-facts}
use Rattle.prove_term.proofs.Instances.{below-reversed}

-- ---- grown contexts

pub images_grown : (a b : Context) (ps : RulePatterns) (qs : List Pattern) → HasGrown a b
    → AreImages a.program.sig a.names ps qs → AreImages b.program.sig b.names ps qs
images_grown a b no_pattern [] g h = tt
images_grown a b no_pattern (q ∷ qs) g h = absurd h
images_grown a b (more_patterns p ps) [] g h = absurd h
images_grown a b (more_patterns p ps) (q ∷ qs) g h =
    (image_grown a b (term p) q g h.0, images_grown a b ps qs g h.1)

pub elements_grown : (a b : Context) (ps : RulePatterns) (qs : List Pattern) (ts : List Theorem)
    → HasGrown a b → AreElements a ps qs ts → AreElements b ps qs ts
elements_grown a b ps qs ts g h = record {
  images = images_grown a b ps qs g h.images;
  say = λ refs sorts sorted are.
      let before : (numbers : List ℕ) × AreSortImages a.program.sig a.names sorts numbers ×
      (conclusions ts ≡ reversed (facts qs numbers)) =
      h.say refs sorts
      (subst (λ (program : Program). HaveSorts program.sig [] [] ps refs) g.program sorted)
      are in
      (before.0, sorts_grown a b sorts before.0 g before.1, before.2);
  no_hypotheses = h.no_hypotheses;
  stay = λ s has. h.stay s (has_before a b s g has);
  no_variables = h.no_variables;
  no_metas = h.no_metas;
}

-- ---- one by one

pub gathered_none : (cx : Context) → AreGathered cx no_pattern [] []
gathered_none cx = record {
  natural = [];
  are = refl;
  elements = record {
    images = tt;
    say = λ refs sorts sorted are. none refs sorts sorted are;
    no_hypotheses = refl;
    stay = λ s has. tt;
    no_variables = tt;
    no_metas = tt;
  };
}
  where
    none : (refs : List SortRef) (sorts : List ℕ) → HaveSorts cx.program.sig [] [] no_pattern refs
        → refs ≡ map sort_numbered sorts
        → (numbers : List ℕ) × AreSortImages cx.program.sig cx.names sorts numbers
        × (conclusions [] ≡ reversed (facts [] numbers))
    none [] [] sorted are = ([], tt, refl)
    none [] (s ∷ sorts) sorted are = absurd (omega (arith, ap length are))
    none (r ∷ refs) sorts sorted are = absurd sorted

all_hypotheses-append : (ts us : List Theorem) → all_hypotheses ts ≡ [] → all_hypotheses us ≡ []
    → all_hypotheses (ts ++ us) ≡ []
all_hypotheses-append [] us h k = k
all_hypotheses-append (t ∷ ts) us h k =
    let parts : (t.hypotheses ≡ []) × (all_hypotheses ts ≡ []) =
    nothing_joined t.hypotheses (all_hypotheses ts) h in
    ap (λ (ps : List Pattern). ps ++ all_hypotheses (ts ++ us)) parts.0
    ∙ all_hypotheses-append ts us parts.1 k
  where
    nothing_joined : (ps qs : List Pattern) → ps ++ qs ≡ [] → (ps ≡ []) × (qs ≡ [])
    nothing_joined [] qs e = (refl, e)
    nothing_joined (p ∷ ps) qs e = absurd (omega (arith, ap length e))

all_within-append : (s : Scope) (ts us : List Theorem) → AreWithin s ts → AreWithin s us
    → AreWithin s (ts ++ us)
all_within-append s [] us h k = k
all_within-append s (t ∷ ts) us h k = (h.0, all_within-append s ts us h.1 k)

first_of : {A : Type 0} (x y : A) (xs ys : List A) → ◌≡◌ {A = List A} (x ∷ xs) (y ∷ ys)
    → (x ≡ y) × (xs ≡ ys)
first_of x y xs ys h = (cc, cc)

same_element : (p q : Pattern) (m n : ℕ) → fun p m ≡ fun q n → (p ≡ q) × (m ≡ n)
same_element p q m n h = (cc, cc)

-- the pattern that a theorem says to be one element
pub says_element : (cx : Context) (p : RulePattern) (q : Pattern) → IsSorted cx.program.sig p
    → IsElement cx p q → (r : Pattern) × (s : ℕ) × (q ≡ fun r s)
says_element cx p q (sort, sorted) h =
    let at : IsElementAt cx p sort q = h sort sorted in (at.image, at.number, at.says)

pub gathered_next : (a b : Context) (p : RulePattern) (ps : RulePatterns) (images : List Pattern)
    (ts : List Theorem) (q : Pattern) (t : Theorem) → HasGrown a b → AreGathered a ps images ts
    → IsSorted b.program.sig p → IsElement b p t.conclusion → t.hypotheses ≡ [] → StaysIn b t
    → ((r : Pattern) (s : ℕ) → t.conclusion ≡ fun r s → q ≡ r)
    → AreGathered b (more_patterns p ps) (images ++ q ∷ []) (ts ++ t ∷ [])
gathered_next a b p ps images ts q t g h sorted element none stays is_subject =
    let before : AreElements b ps h.natural ts = elements_grown a b ps h.natural ts g h.elements in
    let at : IsElementAt b p sorted.0 t.conclusion = element sorted.0 sorted.1 in
    let image_is : q ≡ at.image = is_subject at.image at.number at.says in
    record {
      natural = q ∷ h.natural;
      are = ap (λ (rs : List Pattern). rs ++ q ∷ []) h.are;
      elements = record {
        images = (at.is_image ∙ ap (λ (r : Pattern). Some r) (sym image_is), before.images);
        say = λ refs sorts are_sorted are. more before refs sorts are_sorted are;
        no_hypotheses =
            all_hypotheses-append ts (t ∷ []) before.no_hypotheses
            (ap (λ (rs : List Pattern). rs ++ []) none);
        stay = λ s has. all_within-append s ts (t ∷ []) (before.stay s has) (stays s has, tt);
        no_variables = (subst HasNoVariable (sym image_is) at.no_variable, before.no_variables);
        no_metas = (subst HasNoMeta (sym image_is) at.no_meta, before.no_metas);
      };
    }
  where
    at_number : (r : Pattern) → ((r' : Pattern) (s : ℕ) → t.conclusion ≡ fun r' s → r ≡ r')
        → (sort : ℕ) → IsElementAt b p sort t.conclusion
        → (n : ℕ) × (sort_image b.program.sig b.names sort ≡ Some n) × (t.conclusion ≡ fun r n)
    at_number r only sort at = (
      at.number,
      at.is_number,
      at.says
          ∙ ap (λ (x : Pattern). fun x at.number) (sym (only at.image at.number at.says)),
    )

    more : AreElements b ps h.natural ts → (refs : List SortRef) (sorts : List ℕ)
        → HaveSorts b.program.sig [] [] (more_patterns p ps) refs → refs ≡ map sort_numbered sorts
        → (numbers : List ℕ) × AreSortImages b.program.sig b.names sorts numbers
        × (conclusions (ts ++ t ∷ []) ≡ reversed (facts (q ∷ h.natural) numbers))
    more before [] sorts are_sorted are = absurd are_sorted
    more before (r ∷ refs) [] are_sorted are = absurd (omega (arith, ap length are))
    more before (r ∷ refs) (s ∷ sorts) are_sorted are =
        let heads : (r ≡ sort_numbered s) × (refs ≡ map sort_numbered sorts) =
        first_of r (sort_numbered s) refs (map sort_numbered sorts) are in
        let sort_is : are_sorted.0 ≡ s =
        some_same are_sorted.0 s (sym are_sorted.1 ∙ ap (sort_at []) heads.0) in
        let has_sort : HasSort b.program.sig [] p s =
        subst (HasSort b.program.sig [] p) sort_is are_sorted.2 in
        let here : (n : ℕ) × (sort_image b.program.sig b.names s ≡ Some n) ×
        (t.conclusion ≡ fun q n) =
        at_number q is_subject s (element s has_sort) in
        let rest : (numbers : List ℕ) × AreSortImages b.program.sig b.names sorts numbers ×
        (conclusions ts ≡ reversed (facts h.natural numbers)) =
        before.say refs sorts are_sorted.3 heads.1 in (
          here.0 ∷ rest.0,
          (here.1, rest.1),
          conclusions-append ts (t ∷ [])
              ∙ ap (λ (rs : List Pattern). rs ++ t.conclusion ∷ []) rest.2
              ∙ ap (λ (r : Pattern). reversed (facts h.natural rest.0) ++ r ∷ []) here.2,
        )

-- all of them, in natural order
pub elements_of : (cx : Context) (ps : RulePatterns) (images natural : List Pattern)
    (ts : List Theorem) → AreGathered cx ps images ts → natural ≡ reverse images
    → AreElements cx ps natural ts
elements_of cx ps images natural ts h is =
    let same : natural ≡ h.natural =
    is ∙ ap (λ (qs : List Pattern). reverse qs) h.are ∙ reverse-reversed h.natural in
    subst (λ (qs : List Pattern). AreElements cx ps qs ts) (sym same) h.elements

-- ---- a constructor of elements

same_numbers : (sig : Signature) (names : List (List ℕ)) (ss ms ns : List ℕ)
    → AreSortImages sig names ss ms → AreSortImages sig names ss ns → ms ≡ ns
same_numbers sig names [] [] [] h k = refl
same_numbers sig names [] [] (n ∷ ns) h k = absurd k
same_numbers sig names [] (m ∷ ms) ns h k = absurd h
same_numbers sig names (s ∷ ss) [] ns h k = absurd h
same_numbers sig names (s ∷ ss) (m ∷ ms) [] h k = absurd k
same_numbers sig names (s ∷ ss) (m ∷ ms) (n ∷ ns) h k =
    ap (λ (x : ℕ). x ∷ ms) (some_same m n (sym h.0 ∙ k.0))
    ∙ ap (λ (xs : List ℕ). n ∷ xs) (same_numbers sig names ss ms ns h.1 k.1)

-- a symbol has one declaration
same_symbol : (sig : Signature) (f : ℕ) (i j : SymInfo) → IsSymbol sig f i → IsSymbol sig f j
    → i ≡ j
same_symbol sig f i j (name, there) (other, known) =
    ap (λ (e : List ℕ × SymInfo). e.1) (some_same (name, i) (other, j) (sym there ∙ known))

no_variable-applied : (qs : List Pattern) (h : Pattern) → HasNoVariable h → HaveNoVariables qs
    → HasNoVariable (applied_to h qs)
no_variable-applied [] h a k = a
no_variable-applied (q ∷ qs) h a k = no_variable-applied qs (app h q) (a, k.0) k.1

no_meta-applied : (qs : List Pattern) (h : Pattern) → HasNoMeta h → AreMetasBelow 0 qs
    → HasNoMeta (applied_to h qs)
no_meta-applied [] h a k = a
no_meta-applied (q ∷ qs) h a k = no_meta-applied qs (app h q) (a, k.0) k.1

-- if there are as many sorts as patterns, there are as many facts
as_many_said : (ps : RulePatterns) (sig : Signature) (names : List (List ℕ)) (qs : List Pattern)
    (refs : List SortRef) (sorts : List ℕ) → AreImages sig names ps qs
    → HaveSorts sig [] [] ps refs → refs ≡ map sort_numbered sorts → length qs ≡ length sorts
as_many_said no_pattern sig names [] [] [] h k are = refl
as_many_said no_pattern sig names [] [] (s ∷ sorts) h k are = absurd (omega (arith, ap length are))
as_many_said no_pattern sig names [] (r ∷ refs) sorts h k are = absurd k
as_many_said no_pattern sig names (q ∷ qs) refs sorts h k are = absurd h
as_many_said (more_patterns p ps) sig names [] refs sorts h k are = absurd h
as_many_said (more_patterns p ps) sig names (q ∷ qs) [] sorts h k are = absurd k
as_many_said (more_patterns p ps) sig names (q ∷ qs) (r ∷ refs) [] h k are =
    absurd (omega (arith, ap length are))
as_many_said (more_patterns p ps) sig names (q ∷ qs) (r ∷ refs) (s ∷ sorts) h k are =
    ap suc (as_many_said ps sig names qs refs sorts h.1 k.3
    (first_of r (sort_numbered s) refs (map sort_numbered sorts) are).1)

-- a constructor of elements, and its lemma
pub record IsBuilt (cx : Context) (f k : ℕ) (ps : RulePatterns) (qs : List Pattern)
    (ts : List Theorem) : Type 0 where
  pub at : IsConstructorAt cx f k
  pub elements : AreElements cx ps qs ts
  pub sorted : IsSorted cx.program.sig (application f ps)

pub is_made : (a b d : Context) (f k : ℕ) (ps : RulePatterns) (qs : List Pattern)
    (ts : List Theorem) → HasGrown a b → HasGrown b d → IsConstructorAt b f k
    → AreElements d ps qs ts → IsSorted a.program.sig (application f ps) → IsBuilt d f k ps qs ts
is_made a b d f k ps qs ts g h at elements sorted = record {
  at = constructor_grown b d f k h at;
  elements = elements;
  sorted =
      subst (λ (program : Program). IsSorted program.sig (application f ps))
      (sym (h.program ∙ g.program)) sorted;
}

pub lemma_found : (ts : List Theorem) (k : ℕ) (t found : Theorem) → slice_get ts k ≡ Some t
    → found ≡ get_or ts k found → t ≡ found
lemma_found ts k t found there is = sym (get_or_from_slice_get ts k t found there) ∙ sym is

-- what the lemma and the elements agree on
pub record Agrees (cx : Context) (f k : ℕ) (ps : RulePatterns) (qs : List Pattern)
    (ts : List Theorem) (m : IsBuilt cx f k ps qs ts) : Type 0 where
  pub as_many : length qs ≡ length m.at.numbered.numbers.numbers
  pub say : conclusions ts ≡ reversed (facts qs m.at.numbered.numbers.numbers)

pub agrees : (cx : Context) (f k : ℕ) (ps : RulePatterns) (qs : List Pattern) (ts : List Theorem)
    (m : IsBuilt cx f k ps qs ts) → Agrees cx f k ps qs ts m
agrees cx f k ps qs ts m =
    let sig : Signature = cx.program.sig in
    let at : IsConstructorAt cx f k = m.at in
    let sorts : List ℕ = m.at.numbered.sorts in
    let info_is : m.sorted.1.0 ≡ m.at.numbered.info =
    same_symbol cx.program.sig f m.sorted.1.0 m.at.numbered.info m.sorted.1.1
    m.at.numbered.constructs.0.there in
    let takes : m.sorted.1.0.args.items ≡ map sort_numbered m.at.numbered.sorts =
    ap (λ (i : SymInfo). i.args.items) info_is ∙ m.at.numbered.constructs.0.takes in
    let said : (numbers : List ℕ) × AreSortImages cx.program.sig cx.names m.at.numbered.sorts
    numbers × (conclusions ts ≡ reversed (facts qs numbers)) =
    m.elements.say m.sorted.1.0.args.items m.at.numbered.sorts m.sorted.1.4 takes in
    let same : said.0 ≡ m.at.numbered.numbers.numbers =
    same_numbers cx.program.sig cx.names m.at.numbered.sorts said.0
    m.at.numbered.numbers.numbers said.1 m.at.numbered.numbers.are_numbers in
    record {
      as_many =
          as_many_said ps cx.program.sig cx.names qs m.sorted.1.0.args.items m.at.numbered.sorts
          m.elements.images m.sorted.1.4 takes
          ∙
          sym (as_many_numbers cx.program.sig cx.names m.at.numbered.sorts
          m.at.numbered.numbers.numbers m.at.numbered.numbers.are_numbers);
      say = said.2 ∙ ap (λ (ns : List ℕ). reversed (facts qs ns)) same;
    }

pub hypotheses_below : (cx : Context) (f k : ℕ) (ps : RulePatterns) (qs : List Pattern)
    (ts : List Theorem) (m : IsBuilt cx f k ps qs ts)
    → AreMetasBelow (length qs) m.at.lemma.hypotheses
hypotheses_below cx f k ps qs ts m =
    let numbers : List ℕ = m.at.numbered.numbers.numbers in
    let many : length qs ≡ length m.at.numbered.numbers.numbers =
    (agrees cx f k ps qs ts m).as_many in
    subst (AreMetasBelow (length qs)) (sym m.at.says.hypotheses) (below-reversed (length qs)
    (meta_facts 0 m.at.numbered.numbers.numbers)
    (below-facts (length qs) 0 m.at.numbered.numbers.numbers (omega (arith, many))))

pub conclusion_below : (cx : Context) (f k : ℕ) (ps : RulePatterns) (qs : List Pattern)
    (ts : List Theorem) (m : IsBuilt cx f k ps qs ts)
    → IsMetaBelow (length qs) m.at.lemma.conclusion
conclusion_below cx f k ps qs ts m =
    let many : length qs ≡ length m.at.numbered.numbers.numbers =
    (agrees cx f k ps qs ts m).as_many in
    subst (IsMetaBelow (length qs)) (sym m.at.says.conclusion) (below-metas (length qs) 0
    (length m.at.numbered.numbers.numbers) (constant m.at.numbered.numbers.head)
    (omega (arith, many)) tt)

pub proofs_fit : (cx : Context) (f k : ℕ) (ps : RulePatterns) (qs : List Pattern)
    (ts : List Theorem) (m : IsBuilt cx f k ps qs ts)
    → conclusions ts ≡ instances qs m.at.lemma.hypotheses
proofs_fit cx f k ps qs ts m =
    let known : Agrees cx f k ps qs ts m = agrees cx f k ps qs ts m in
    known.say
    ∙
    sym (ap (instances
    qs) m.at.says.hypotheses ∙ instances-reversed qs (meta_facts 0 m.at.numbered.numbers.numbers)
    ∙ ap (λ (rs : List Pattern). reversed rs)
    (instances-facts qs [] m.at.numbered.numbers.numbers known.as_many))

-- what the lemma says of the elements
pub made_conclusion : (cx : Context) (f k : ℕ) (ps : RulePatterns) (qs : List Pattern)
    (ts : List Theorem) (m : IsBuilt cx f k ps qs ts)
    → instance qs m.at.lemma.conclusion
    ≡ fun (applied_to (constant m.at.numbered.numbers.head) qs) m.at.numbered.numbers.number
made_conclusion cx f k ps qs ts m =
    let many : length qs ≡ length m.at.numbered.numbers.numbers =
    (agrees cx f k ps qs ts m).as_many in
    ap (instance qs) m.at.says.conclusion
    ∙ ap (λ (n : ℕ). fun (instance qs (at_metas (constant m.at.numbered.numbers.head) 0 n))
    m.at.numbered.numbers.number) (sym many)
    ∙ ap (λ (r : Pattern). fun r m.at.numbered.numbers.number)
    (instance-metas qs [] (constant m.at.numbered.numbers.head))

pub made_element : (cx : Context) (f k : ℕ) (ps : RulePatterns) (qs : List Pattern)
    (ts : List Theorem) (m : IsBuilt cx f k ps qs ts) (q : Pattern)
    → q ≡ instance qs m.at.lemma.conclusion → IsElement cx (application f ps) q
made_element cx f k ps qs ts m q is = λ sort sorted.
    let head : Pattern = constant m.at.numbered.numbers.head in
    let info_is : sorted.0 ≡ m.at.numbered.info =
    same_symbol cx.program.sig f sorted.0 m.at.numbered.info sorted.1
    m.at.numbered.constructs.0.there in
    let sort_is : sort ≡ m.at.numbered.sort =
    some_same sort m.at.numbered.sort (sym sorted.3
    ∙ ap (λ (i : SymInfo). sort_at [] i.result) info_is
    ∙ ap (sort_at []) m.at.numbered.constructs.0.makes) in
    record {
      image = applied_to (constant m.at.numbered.numbers.head) qs;
      is_image =
          ap (λ (o : Option Pattern). applied cx.program.sig cx.names o ps)
          m.at.numbered.numbers.is_head
          ∙ applied_images cx.program.sig cx.names ps qs (constant m.at.numbered.numbers.head)
          m.elements.images;
      number = m.at.numbered.numbers.number;
      is_number = ap (sort_image cx.program.sig cx.names) sort_is ∙ m.at.numbered.numbers.is_number;
      says = is ∙ made_conclusion cx f k ps qs ts m;
      no_variable =
          no_variable-applied qs (constant m.at.numbered.numbers.head) tt m.elements.no_variables;
      no_meta = no_meta-applied qs (constant m.at.numbered.numbers.head) tt m.elements.no_metas;
    }

-- the images use only what each scope with the context has
images_over : (cx : Context) (s : Scope) (ps : RulePatterns) (qs : List Pattern) → HasContext s cx
    → AreImages cx.program.sig cx.names ps qs → AreOver s qs
images_over cx s no_pattern [] has h = tt
images_over cx s no_pattern (q ∷ qs) has h = absurd h
images_over cx s (more_patterns p ps) [] has h = absurd h
images_over cx s (more_patterns p ps) (q ∷ qs) has h =
    (has.images (term p) q h.0, images_over cx s ps qs has h.1)

pub element_over : (cx : Context) (s : Scope) (p : RulePattern) (sort : ℕ) (q : Pattern)
    → HasContext s cx → IsElementAt cx p sort q → IsOver s q
element_over cx s p sort q has at =
    let image : both fun (image_of cx.program.sig cx.names p)
    (sort_image cx.program.sig cx.names sort) ≡ Some (fun at.image at.number) =
    ap (λ (o : Option Pattern). both fun o (sort_image cx.program.sig cx.names sort)) at.is_image
    ∙ ap (λ (o : Option ℕ). both fun (Some at.image) o) at.is_number in
    subst (IsOver s) (sym at.says)
    (has.images (functional (term p) sort) (fun at.image at.number) image)

pub made_stays : (cx : Context) (f k : ℕ) (ps : RulePatterns) (qs : List Pattern)
    (ts : List Theorem) (m : IsBuilt cx f k ps qs ts) (t : Theorem)
    → t.conclusion ≡ instance qs m.at.lemma.conclusion → IsByLemma m.at.lemma qs ts t → StaysIn cx t
made_stays cx f k ps qs ts m t is by = λ s has.
    lemma_within s m.at.lemma qs ts t by
    (has.lemmas m.at.lemma (contains_there cx.lemmas k m.at.lemma m.at.there))
    (images_over cx s ps qs has m.elements.images)
    (element_over cx s (application f ps) m.sorted.0 t.conclusion has
    (made_element cx f k ps qs ts m t.conclusion is m.sorted.0 m.sorted.1))
    (m.elements.stay s has)

pub made_assumes_nothing : (cx : Context) (f k : ℕ) (ps : RulePatterns) (qs : List Pattern)
    (ts : List Theorem) (m : IsBuilt cx f k ps qs ts) (t : Theorem)
    → IsByLemma m.at.lemma qs ts t → t.hypotheses ≡ []
made_assumes_nothing cx f k ps qs ts m t by =
    subst (λ (hs : List Pattern). AddsNew [] hs t.hypotheses) m.elements.no_hypotheses
    by.kept_hypotheses
