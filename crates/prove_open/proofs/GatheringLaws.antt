-- Several patterns with variables: each is one element of its sort.
use Rattle.std.proofs.Common.{◌≡◌, ◌<◌, ◌+◌, ℕ, suc, List, [], ◌∷◌, ◌++◌, Some, length, map}
use Rattle.std.proofs.Common.{inl, take, get_or, refl, sym, ◌∙◌, ap, subst, arith}
use Rattle.std.specs.List.{AllZip}
use Rattle.std.proofs.lemmas.List.{take_more}
use Rattle.ml_pat.specs.Patterns.{Pattern, fun, imp}
use Rattle.ml_kernel.specs.Theorems.{Theorem, conclusions}
use Rattle.ml_derived.specs.Scopes.{Scope, AreWithin}
use Rattle.term_core.specs.Patterns.{Pattern as RulePattern, Patterns as RulePatterns}
use Rattle.term_core.specs.Patterns.{more_patterns}
use Rattle.term_core.specs.RulePatterns.{plain_pattern}
use Rattle.term_core.specs.PatternLists.{plain_patterns}
use Rattle.term_core.specs.declared.rule_patterns.RulePat.{RulePat}
use Rattle.rule_core.specs.Sorting.{HasSort, IsSymbol, sort_at}
use Rattle.rule_core.specs.ProgramView.{theory_of}
use Rattle.rule_core.specs.WellSorted.{IsWellSorted}
use Rattle.rule_core.specs.declared.rules.Program.{Program}
use Rattle.rule_core.specs.declared.signature.Signature.{Signature}
use Rattle.rule_core.specs.declared.signature.SymInfo.{SymInfo}
use Rattle.rule_core.specs.declared.signature.SortRef.{SortRef}
use Rattle.ml_image.specs.OwnAxioms.{sort_numbered}
use Rattle.prove_term.specs.Contexts.{Context, HasContext, HasGrown}
use Rattle.prove_term.specs.Schemas.{AreImages}
use Rattle.prove_term.specs.Numbered.{AreSortImages}
use Rattle.prove_term.proofs.ContextLaws.{image_grown, has_before, stays_grown}
use Rattle.prove_open.specs.Givens.{IsGiven, IsFactOn, IsCovered}
use Rattle.prove_open.specs.Under.{element}
use Rattle.prove_open.specs.Values.{AreOpenBelow, facts_under}
use Rattle.prove_open.specs.Elements.{IsReady, IsUnder, IsElementUnder, HasElement, HaveElements}
use Rattle.prove_open.specs.Elements.{AreElementsUnder, AreBothUnder}
use Rattle.prove_open.specs.declared.givens.Given.{Given}
use Rattle.prove_open.proofs.RaisingLaws.{sort_grown}
use Rattle.prove_open.proofs.CoverLaws.{AreCovered, rest_covered, HasImageAt, has_image}

-- ---- grown contexts

fact_grown : (old new : Context) (sorts : List ℕ) (h : Pattern) (x : ℕ) (t : Theorem)
    → HasGrown old new → IsFactOn old sorts h x t → IsFactOn new sorts h x t
fact_grown old new sorts h x t g f = record {
  sort = f.sort;
  is_sort = f.is_sort;
  number = f.number;
  is_number = sort_grown old new f.sort f.number g f.is_number;
  says = f.says;
  stays = stays_grown old new t g f.stays;
}

-- what is given stays given
pub given_grown : (old new : Context) (sorts : List ℕ) (given : Given) → HasGrown old new
    → IsGiven old sorts given → IsGiven new sorts given
given_grown old new sorts given g is = record {
  predicate = is.predicate;
  over = λ s has. is.over s (has_before old new s g has);
  facts = λ x t there. fact_grown old new sorts given.hypothesis x t g (is.facts x t there);
}

pub ready_grown : (old new : Context) (sorts : List ℕ) (given : Given) → HasGrown old new
    → IsReady old sorts given → IsReady new sorts given
ready_grown old new sorts given g ready = record {
  well_sorted =
      subst (λ (program : Program). IsWellSorted (theory_of program)) (sym g.program)
      ready.well_sorted;
  given = given_grown old new sorts given g ready.given;
}

pub has_element_grown : (old new : Context) (sorts : List ℕ) (given : Given) (p : RulePattern)
    → HasGrown old new → HasElement old.program.sig sorts given p
    → HasElement new.program.sig sorts given p
has_element_grown old new sorts given p g h =
    subst (λ (program : Program). HasElement program.sig sorts given p) (sym g.program) h

pub have_elements_grown : (old new : Context) (sorts : List ℕ) (given : Given) (ps : List RulePat)
    → HasGrown old new → HaveElements old.program.sig sorts given ps
    → HaveElements new.program.sig sorts given ps
have_elements_grown old new sorts given ps g h =
    subst (λ (program : Program). HaveElements program.sig sorts given ps) (sym g.program) h

pub under_grown : (old new : Context) (sorts : List ℕ) (given : Given) (p : RulePattern)
    (t : Theorem) → HasGrown old new → IsElementUnder old sorts given p t
    → IsElementUnder new sorts given p t
under_grown old new sorts given p t g u = λ sort c.
    let before : IsUnder old given.hypothesis (element p sort) t =
    u sort (subst (λ (program : Program). IsCovered program.sig sorts given p sort) g.program c) in
    record {
      says = record {
        image = before.says.image;
        is_image =
            image_grown old new (element p sort) before.says.image g before.says.is_image;
        says = before.says.says;
      };
      stays = stays_grown old new t g before.stays;
    }

pub zip_weaker : {X Y : Type 0} (R S : X → Y → Type 0) (xs : List X) (ys : List Y)
    → ((x : X) (y : Y) → R x y → S x y) → AllZip R xs ys → AllZip S xs ys
zip_weaker R S [] [] f h = tt
zip_weaker R S [] (b ∷ ys) f h = absurd h
zip_weaker R S (a ∷ xs) [] f h = absurd h
zip_weaker R S (a ∷ xs) (b ∷ ys) f h = (f a b h.0, zip_weaker R S xs ys f h.1)

pub zip_push : {X Y : Type 0} (R : X → Y → Type 0) (xs : List X) (ys : List Y) (x : X) (y : Y)
    → AllZip R xs ys → R x y → AllZip R (xs ++ x ∷ []) (ys ++ y ∷ [])
zip_push R [] [] x y h k = (k, tt)
zip_push R [] (b ∷ ys) x y h k = absurd h
zip_push R (a ∷ xs) [] x y h k = absurd h
zip_push R (a ∷ xs) (b ∷ ys) x y h k = (h.0, zip_push R xs ys x y h.1 k)

pub elements_grown : (old new : Context) (sorts : List ℕ) (given : Given) (ps : List RulePat)
    (ts : List Theorem) → HasGrown old new → AreElementsUnder old sorts given ps ts
    → AreElementsUnder new sorts given ps ts
elements_grown old new sorts given ps ts g h =
    zip_weaker (λ (p : RulePat) (t : Theorem). IsElementUnder old sorts given (plain_pattern p) t)
    (λ (p : RulePat) (t : Theorem). IsElementUnder new sorts given (plain_pattern p) t) ps ts
    (λ p t k. under_grown old new sorts given (plain_pattern p) t g k) h

pub both_grown : (old new : Context) (sorts : List ℕ) (given : Given) (ps qs : List RulePat)
    (ts : List Theorem) → HasGrown old new → AreBothUnder old sorts given ps qs ts
    → AreBothUnder new sorts given ps qs ts
both_grown old new sorts given ps qs ts g b = record {
  first = b.first;
  second = b.second;
  are = b.are;
  lefts = elements_grown old new sorts given ps b.first g b.lefts;
  rights = elements_grown old new sorts given qs b.second g b.rights;
}

-- ---- one by one

pub one_more : (old new : Context) (sorts : List ℕ) (given : Given) (ps : List RulePat) (i : ℕ)
    (p : RulePat) (ts : List Theorem) (t : Theorem) → i < length ps → p ≡ get_or ps i p
    → HasGrown old new → AreElementsUnder old sorts given (take i ps) ts
    → IsElementUnder new sorts given (plain_pattern p) t
    → AreElementsUnder new sorts given (take (i + 1) ps) (ts ++ t ∷ [])
one_more old new sorts given ps i p ts t low is g before here =
    let front : take (i + 1) ps ≡ take i ps ++ p ∷ [] =
    take_more ps i p low ∙ ap (λ (q : RulePat). take i ps ++ q ∷ []) (sym is) in
    subst (λ (qs : List RulePat). AreElementsUnder new sorts given qs (ts ++ t ∷ [])) (sym front)
    (zip_push (λ (q : RulePat) (u : Theorem). IsElementUnder new sorts given (plain_pattern q) u)
    (take i ps) ts p t (elements_grown old new sorts given (take i ps) ts g before) here)

pub item_has_element : (sig : Signature) (sorts : List ℕ) (given : Given) (ps : List RulePat)
    (i : ℕ) (p : RulePat) → HaveElements sig sorts given ps → i < length ps → p ≡ get_or ps i p
    → HasElement sig sorts given (plain_pattern p)
item_has_element sig sorts given ps i p each low is =
    subst (λ (q : RulePat). HasElement sig sorts given (plain_pattern q)) (sym is) (each i p low)

-- ---- all of them

-- the images of the patterns, the numbers of their sorts, and what the theorems say of them
pub record AreGathered (cx : Context) (h : Pattern) (k : ℕ) (ps : RulePatterns) (ss : List ℕ)
    (ts : List Theorem) : Type 0 where
  pub qs : List Pattern
  pub are_images : AreImages cx.program.sig cx.names ps qs
  pub numbers : List ℕ
  pub are_numbers : AreSortImages cx.program.sig cx.names ss numbers
  pub say : conclusions ts ≡ facts_under h qs numbers
  pub many : length qs ≡ length numbers
  pub below : AreOpenBelow k qs
  pub stay : (s : Scope) → HasContext s cx → AreWithin s ts

some_same : {A : Type 0} (a b : A) → Some a ≡ Some b → a ≡ b
some_same a b e = cc

first_of : {A : Type 0} (x y : A) (xs ys : List A) → ◌≡◌ {A = List A} (x ∷ xs) (y ∷ ys)
    → (x ≡ y) × (xs ≡ ys)
first_of x y xs ys h = (cc, cc)

two_facts : (p q : Pattern) (ps qs : List Pattern) → p ≡ q → ps ≡ qs
    → ◌≡◌ {A = List Pattern} (p ∷ ps) (q ∷ qs)
two_facts p q ps qs e k =
    ap (λ (r : Pattern). r ∷ ps) e ∙ ap (λ (rs : List Pattern). q ∷ rs) k

first_sorted : (sig : Signature) (sorts : List ℕ) (g : Given) (p : RulePattern)
    (ps : RulePatterns) (r : SortRef) (refs : List SortRef) (s : ℕ)
    → AreCovered sig sorts g (more_patterns p ps) (r ∷ refs) → r ≡ sort_numbered s
    → IsCovered sig sorts g p s
first_sorted sig sorts g p ps r refs s c is =
    let same : c.sorted.0 ≡ s = some_same c.sorted.0 s (sym c.sorted.1 ∙ ap (sort_at []) is) in
    record {
      sorted = subst (HasSort sig sorts p) same c.sorted.2;
      no_call = c.no_call.0;
      given = λ x occurs. c.given x (inl occurs);
    }

pub gathered : (cx : Context) (sorts : List ℕ) (g : Given) (args : List RulePat)
    (refs : List SortRef) (ss : List ℕ) (ts : List Theorem)
    → AreCovered cx.program.sig sorts g (plain_patterns args) refs → refs ≡ map sort_numbered ss
    → AreElementsUnder cx sorts g args ts
    → AreGathered cx g.hypothesis (length sorts) (plain_patterns args) ss ts
gathered cx sorts g [] [] [] [] c are h = record {
  qs = [];
  are_images = tt;
  numbers = [];
  are_numbers = tt;
  say = refl;
  many = refl;
  below = tt;
  stay = λ s has. tt;
}
gathered cx sorts g [] [] [] (t ∷ ts) c are h = absurd h
gathered cx sorts g [] [] (s ∷ ss) ts c are h = absurd (omega (arith, ap length are))
gathered cx sorts g [] (r ∷ refs) ss ts c are h = absurd c.sorted
gathered cx sorts g (a ∷ args) [] ss ts c are h = absurd c.sorted
gathered cx sorts g (a ∷ args) (r ∷ refs) [] ts c are h = absurd (omega (arith, ap length are))
gathered cx sorts g (a ∷ args) (r ∷ refs) (s ∷ ss) [] c are h = absurd h
gathered cx sorts g (a ∷ args) (r ∷ refs) (s ∷ ss) (t ∷ ts) c are h =
    let heads : (r ≡ sort_numbered s) × (refs ≡ map sort_numbered ss) =
    first_of r (sort_numbered s) refs (map sort_numbered ss) are in
    let covered : IsCovered cx.program.sig sorts g (plain_pattern a) s =
    first_sorted cx.program.sig sorts g (plain_pattern a) (plain_patterns args) r refs s c
    heads.0 in
    let first : HasImageAt cx g.hypothesis (length sorts) (plain_pattern a) s t =
    has_image cx sorts g (plain_pattern a) s t covered (h.0 s covered) in
    let rest : AreGathered cx g.hypothesis (length sorts) (plain_patterns args) ss ts =
    gathered cx sorts g args refs ss ts
    (rest_covered cx.program.sig sorts g (plain_pattern a) (plain_patterns args) r refs c)
    heads.1 h.1 in
    record {
      qs = first.image ∷ rest.qs;
      are_images = (first.is_image, rest.are_images);
      numbers = first.element.number ∷ rest.numbers;
      are_numbers = (first.element.is_number, rest.are_numbers);
      say =
          two_facts t.conclusion (imp g.hypothesis (fun first.image first.element.number))
          (conclusions ts) (facts_under g.hypothesis rest.qs rest.numbers) first.element.says
          rest.say;
      many = ap suc rest.many;
      below = (first.element.below, rest.below);
      stay = λ scope has. (first.element.stays scope has, rest.stay scope has);
    }

-- ---- declarations

pub same_numbers : (sig : Signature) (names : List (List ℕ)) (ss ms ns : List ℕ)
    → AreSortImages sig names ss ms → AreSortImages sig names ss ns → ms ≡ ns
same_numbers sig names [] [] [] h k = refl
same_numbers sig names [] [] (n ∷ ns) h k = absurd k
same_numbers sig names [] (m ∷ ms) ns h k = absurd h
same_numbers sig names (s ∷ ss) [] ns h k = absurd h
same_numbers sig names (s ∷ ss) (m ∷ ms) [] h k = absurd k
same_numbers sig names (s ∷ ss) (m ∷ ms) (n ∷ ns) h k =
    ap (λ (x : ℕ). x ∷ ms) (some_same m n (sym h.0 ∙ k.0))
    ∙ ap (λ (xs : List ℕ). n ∷ xs) (same_numbers sig names ss ms ns h.1 k.1)

-- a symbol has one declaration
pub same_symbol : (sig : Signature) (f : ℕ) (i j : SymInfo) → IsSymbol sig f i → IsSymbol sig f j
    → i ≡ j
same_symbol sig f i j (name, there) (other, known) =
    ap (λ (e : List ℕ × SymInfo). e.1) (some_same (name, i) (other, j) (sym there ∙ known))
